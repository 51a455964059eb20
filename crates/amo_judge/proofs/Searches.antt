-- The searches in a list of events find what the state has that the events leave.
use Rattle.std.proofs.Common.{◌≡◌, ◌≢◌, ⊎_elim, ℕ, ◌+◌, ◌≤◌, Bool, true, false, ◌||◌, ◌&&◌, not, List, [], ◌∷◌, ◌++◌, length, Option, Some, None, refl, sym, ap, ◌∙◌, arith, length-append}
use Rattle.std.specs.Prelude.{◌==◌, if◌then◌else◌}
use Rattle.std.specs.Option.{is_some}
use Rattle.std.proofs.lemmas.Bool.{cases_eq, eq-eqb, ne_eqb}
use Rattle.amo_sets.specs.Lists.{numbered, put}
use Rattle.amo_sets.specs.Sets.{has}
use Rattle.amo_sets.proofs.Numbers.{numbered-put_same, numbered-put_other, length-put, length-table}
use Rattle.amo_sets.proofs.Removed.{has-without}
use Rattle.amo_sets.proofs.Tables.{numbered-table, has-numbers}
use Rattle.amo_params.specs.Givens.{IsJob, IsWorker}
use Rattle.amo_kk.specs.Object.{first_object, object_after}
use Rattle.amo_kk.specs.Run.{object_after_all, done_jobs}
use Rattle.amo_kk.specs.declared.event.Event.{Event}
use Rattle.amo_kk.specs.declared.event.Event.TheVariants.{Claimed, Done, Ended, Halted, Left}
use Rattle.amo_params.specs.declared.givens.Givens.{Givens}
use Rattle.amo_kk.specs.declared.model.Object.{Object}
use Rattle.amo_judge.specs.Why.{is_end_of, is_claim_of, first_from, hand_from, hand_job, end_of, claim_of, hand_of}

-- an item of a list after one was put

put_item : {X : Type 0} (d x : X) (xs : List X) (q p : ℕ) → 1 ≤ p → p ≤ length xs → numbered d (put xs q x) p ≡ (if q == p then x else numbered d xs p)
put_item d x xs q p low high =
    ⊎_elim
    (λ (same : q ≡ p). ap (λ (k : ℕ). numbered d (put xs k x) p) same ∙ numbered-put_same d x xs p low high ∙ sym (ap (λ (b : Bool). if b then x else numbered d xs p) (eq-eqb q p same)))
    (λ (differs : q ≢ p). numbered-put_other d x xs q p (λ e. differs (sym e)) ∙ sym (ap (λ (b : Bool). if b then x else numbered d xs p) (ne_eqb q p differs)))
    (cases_eq q p)

-- who is gone

or_none : (a : Bool) → a ≡ (a || false)
or_none true = refl
or_none false = refl

one_more_end : (b a : Bool) (x : ℕ × Event) (f : Option (ℕ × Event)) → ((if b then true else a) || is_some f) ≡ (a || is_some (if b then Some x else f))
one_more_end true true x f = refl
one_more_end true false x f = refl
one_more_end false true x f = refl
one_more_end false false x f = refl

one_end : (gone : List Bool) (q p n : ℕ) (e : Event) (f : Option (ℕ × Event)) (after : Bool) → 1 ≤ p → p ≤ length gone → after ≡ (numbered true (put gone q true) p || is_some f) → after ≡ (numbered true gone p || is_some (if q == p then Some (n, e) else f))
one_end gone q p n e f after low high h = h ∙ ap (λ (b : Bool). b || is_some f) (put_item true true gone q p low high) ∙ one_more_end (q == p) (numbered true gone p) (n, e) f

still_within : {X : Type 0} (x : X) (xs : List X) (q p : ℕ) → p ≤ length xs → p ≤ length (put xs q x)
still_within x xs q p high = omega (arith, high, length-put x xs q)

gone_from : (s : Object) (es : List Event) (p n : ℕ) → 1 ≤ p → p ≤ length s.gone → numbered true (object_after_all s es).gone p ≡ (numbered true s.gone p || is_some (first_from (is_end_of p) n es))
gone_from s [] p n low high = or_none (numbered true s.gone p)
gone_from s (Claimed q j ∷ es) p n low high = gone_from (object_after s (Claimed q j)) es p (n + 1) low high
gone_from s (Done q j ∷ es) p n low high = gone_from (object_after s (Done q j)) es p (n + 1) low high
gone_from s (Ended q ∷ es) p n low high =
    one_end s.gone q p n (Ended q) (first_from (is_end_of p) (n + 1) es) (numbered true (object_after_all (object_after s (Ended q)) es).gone p) low high
    (gone_from (object_after s (Ended q)) es p (n + 1) low (still_within true s.gone q p high))
gone_from s (Halted q ∷ es) p n low high =
    one_end s.gone q p n (Halted q) (first_from (is_end_of p) (n + 1) es) (numbered true (object_after_all (object_after s (Halted q)) es).gone p) low high
    (gone_from (object_after s (Halted q)) es p (n + 1) low (still_within true s.gone q p high))
gone_from s (Left q ∷ es) p n low high =
    one_end s.gone q p n (Left q) (first_from (is_end_of p) (n + 1) es) (numbered true (object_after_all (object_after s (Left q)) es).gone p) low high
    (gone_from (object_after s (Left q)) es p (n + 1) low (still_within true s.gone q p high))

pub gone_is : (g : Givens) (before : List Event) (p : ℕ) → IsWorker g p → numbered true (object_after_all (first_object g) before).gone p ≡ is_some (end_of p before)
gone_is g before p w =
    gone_from (first_object g) before p 1 w.low (omega (arith, w.high, length-table {X = Bool} (λ _. false) g.workers))
    ∙ ap (λ (b : Bool). b || is_some (end_of p before)) (numbered-table true (λ _. false) g.workers p w.low w.high)

-- what is in a hand

given : (b : Bool) (j n x : ℕ) (hand : Option (ℕ × ℕ)) → x ≡ hand_job hand → (if b then j else x) ≡ hand_job (if b then Some (j, n) else hand)
given true j n x hand same = refl
given false j n x hand same = same

taken : (b : Bool) (x : ℕ) (hand : Option (ℕ × ℕ)) → x ≡ hand_job hand → (if b then 0 else x) ≡ hand_job (if b then None else hand)
taken true x hand same = refl
taken false x hand same = same

in_hand_from : (s : Object) (es : List Event) (p n : ℕ) (hand : Option (ℕ × ℕ)) → 1 ≤ p → p ≤ length s.in_hand → numbered 0 s.in_hand p ≡ hand_job hand → numbered 0 (object_after_all s es).in_hand p ≡ hand_job (hand_from p hand n es)
in_hand_from s [] p n hand low high same = same
in_hand_from s (Claimed q j ∷ es) p n hand low high same =
    in_hand_from (object_after s (Claimed q j)) es p (n + 1) (if q == p then Some (j, n) else hand) low (still_within j s.in_hand q p high)
    (put_item 0 j s.in_hand q p low high ∙ given (q == p) j n (numbered 0 s.in_hand p) hand same)
in_hand_from s (Done q j ∷ es) p n hand low high same =
    in_hand_from (object_after s (Done q j)) es p (n + 1) (if q == p then None else hand) low (still_within 0 s.in_hand q p high)
    (put_item 0 0 s.in_hand q p low high ∙ taken (q == p) (numbered 0 s.in_hand p) hand same)
in_hand_from s (Ended q ∷ es) p n hand low high same = in_hand_from (object_after s (Ended q)) es p (n + 1) hand low high same
in_hand_from s (Halted q ∷ es) p n hand low high same = in_hand_from (object_after s (Halted q)) es p (n + 1) hand low high same
in_hand_from s (Left q ∷ es) p n hand low high same = in_hand_from (object_after s (Left q)) es p (n + 1) hand low high same

pub hand_is : (g : Givens) (before : List Event) (p : ℕ) → IsWorker g p → numbered 0 (object_after_all (first_object g) before).in_hand p ≡ hand_job (hand_of p before)
hand_is g before p w =
    in_hand_from (first_object g) before p 1 None w.low (omega (arith, w.high, length-table {X = ℕ} (λ _. 0) g.workers)) (numbered-table 0 (λ _. 0) g.workers p w.low w.high)

-- which jobs are unclaimed

and_all : (a : Bool) → a ≡ (a && true)
and_all true = refl
and_all false = refl

one_more_claim : (b a : Bool) (x : ℕ × Event) (f : Option (ℕ × Event)) → ((not b && a) && not (is_some f)) ≡ (a && not (is_some (if b then Some x else f)))
one_more_claim true true x f = refl
one_more_claim true false x f = refl
one_more_claim false true x f = refl
one_more_claim false false x f = refl

unclaimed_from : (s : Object) (es : List Event) (j n : ℕ) → has (object_after_all s es).unclaimed j ≡ (has s.unclaimed j && not (is_some (first_from (is_claim_of j) n es)))
unclaimed_from s [] j n = and_all (has s.unclaimed j)
unclaimed_from s (Claimed q i ∷ es) j n =
    unclaimed_from (object_after s (Claimed q i)) es j (n + 1)
    ∙ ap (λ (b : Bool). b && not (is_some (first_from (is_claim_of j) (n + 1) es))) (has-without i s.unclaimed j)
    ∙ one_more_claim (i == j) (has s.unclaimed j) (n, Claimed q i) (first_from (is_claim_of j) (n + 1) es)
unclaimed_from s (Done q i ∷ es) j n = unclaimed_from (object_after s (Done q i)) es j (n + 1)
unclaimed_from s (Ended q ∷ es) j n = unclaimed_from (object_after s (Ended q)) es j (n + 1)
unclaimed_from s (Halted q ∷ es) j n = unclaimed_from (object_after s (Halted q)) es j (n + 1)
unclaimed_from s (Left q ∷ es) j n = unclaimed_from (object_after s (Left q)) es j (n + 1)

pub unclaimed_is : (g : Givens) (before : List Event) (j : ℕ) → IsJob g j → has (object_after_all (first_object g) before).unclaimed j ≡ not (is_some (claim_of j before))
unclaimed_is g before j job =
    unclaimed_from (first_object g) before j 1
    ∙ ap (λ (b : Bool). b && not (is_some (claim_of j before))) (has-numbers g.jobs j job.low job.high)

-- how many jobs are performed

performed_from : (s : Object) (es : List Event) → length (object_after_all s es).performed ≡ length s.performed + length (done_jobs es)
performed_from s [] = omega arith
performed_from s (Claimed q j ∷ es) = performed_from (object_after s (Claimed q j)) es
performed_from s (Done q j ∷ es) =
    let more : length (s.performed ++ (q, j) ∷ []) ≡ length s.performed + 1 = length-append s.performed ((q, j) ∷ []) in
    performed_from (object_after s (Done q j)) es ∙ omega (arith, more)
performed_from s (Ended q ∷ es) = performed_from (object_after s (Ended q)) es
performed_from s (Halted q ∷ es) = performed_from (object_after s (Halted q)) es
performed_from s (Left q ∷ es) = performed_from (object_after s (Left q)) es

pub performed_is : (g : Givens) (before : List Event) → length (object_after_all (first_object g) before).performed ≡ length (done_jobs before)
performed_is g before = performed_from (first_object g) before ∙ omega arith
