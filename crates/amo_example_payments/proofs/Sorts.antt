-- How the jobs of a run are sorted.
use Rattle.std.proofs.Common.{◌≡◌, ◌⊎◌, inl, inr, ℕ, suc, ◌+◌, ◌-◌, ◌<◌, ◌≤◌, Bool, true, false, cond, not, eqb, ◌&&◌, ◌||◌, List, [], ◌∷◌, ◌++◌, length, take, get_or, map, filter, All, Some, slice_get, refl, sym, ap, ◌∙◌, subst, arith}
use Rattle.std.proofs.lemmas.Bool.{or_right, true≢false, eqb-true, eqb-false}
use Rattle.std.proofs.lemmas.List.Elements.{All-cons, All-nil, All-filter}
use Rattle.std.proofs.lemmas.List.{length-map, length-take, take_more}
use Rattle.std.specs.List.{enumerate_from}
use Rattle.amo_sets.specs.Sets.{has, AreDistinct}
use Rattle.amo_params.specs.declared.givens.Givens.{Givens}
use Rattle.amo_kk.specs.declared.model.Process.{Process}
use Rattle.amo_words.specs.Settling.{free_of}
use Rattle.amo_kk.specs.World.{world_of}
use Rattle.amo_words.specs.Logs.{is_claimed}
use Rattle.amo_mailbox.specs.declared.output.Output.{Output}
use Rattle.amo_crew.specs.declared.outcome.Outcome.{Outcome}
use Rattle.amo_crew.specs.Running.{IsRelated}
use Rattle.amo_crew.specs.Outcomes.{jobs_of, IsOutcome, HasAPlace, IsOfNoThread}
use Rattle.amo_example_payments.specs.declared.day.payment.Payment.{Payment}
use Rattle.amo_example_payments.specs.declared.bank.BankReply.{BankReply}
use Rattle.amo_example_payments.specs.declared.sorting.Sorted.{Sorted}
use Rattle.amo_example_payments.specs.Sorting.{is_paid, has_receipt_of, has_job, is_unsure, ids_of, IsOneOf, IsOwn, IsNumberOf, IsSorted, IsSortingOf, MayBeUnsure}
use Rattle.amo_example_payments.specs.Payments.{Answers}
use Rattle.amo_crew.proofs.Once.{answered_once, answered_not_free}
use Rattle.amo_crew.proofs.Places.{count, has_a_place_or}
use Rattle.amo_example_payments.proofs.Filters.{free_filtered}

-- ---- jobs that come with something

has_job_is : {X : Type 0} (ts : List (ℕ × X)) (j : ℕ) → has_job ts j ≡ has (map (λ (t : ℕ × X). t.0) ts) j
has_job_is [] j = refl
has_job_is (t ∷ ts) j = ap (λ b. eqb t.0 j || b) (has_job_is ts j)

module _ {X : Type 0} (p : ℕ → Bool) where
  -- of these, those whose job passes
  abbrev passing : List (ℕ × X) → List (ℕ × X)
  passing ts = filter (λ (t : ℕ × X). p t.0) ts

  unlisted : (ts : List (ℕ × X)) (j : ℕ) → p j ≡ false → has_job (passing ts) j ≡ false
  unlisted [] j n = refl
  unlisted (t ∷ ts) j n = at (unlisted ts j n) (p t.0) refl
    where
      other : has_job (passing ts) j ≡ false → (b : Bool) → eqb t.0 j ≡ b → p t.0 ≡ true → b || has_job (passing ts) j ≡ false
      other rest true e h = absurd (true≢false (sym h ∙ ap p (eqb-true t.0 j e) ∙ n))
      other rest false e h = rest

      at : has_job (passing ts) j ≡ false → (b : Bool) → p t.0 ≡ b → has_job (cond b (t ∷ passing ts) (passing ts)) j ≡ false
      at rest true h = other rest (eqb t.0 j) refl h
      at rest false h = rest

  -- a list is filtered by what holds of its jobs
  listed : (ts : List (ℕ × X)) (j : ℕ) → has_job ts j ≡ true → has_job (passing ts) j ≡ p j
  listed [] j h = absurd (true≢false (sym h))
  listed (t ∷ ts) j h = go (listed ts j) (eqb t.0 j) (p t.0) refl refl h
    where
      go : (has_job ts j ≡ true → has_job (passing ts) j ≡ p j) → (e b : Bool) → eqb t.0 j ≡ e → p t.0 ≡ b → e || has_job ts j ≡ true → has_job (cond b (t ∷ passing ts) (passing ts)) j ≡ p j
      go rest true true e h n = ap (λ c. c || has_job (passing ts) j) e ∙ sym h ∙ ap p (eqb-true t.0 j e)
      go rest true false e h n = let no : p j ≡ false = ap p (sym (eqb-true t.0 j e)) ∙ h in unlisted ts j no ∙ sym no
      go rest false true e h n = ap (λ c. c || has_job (passing ts) j) e ∙ rest n
      go rest false false e h n = rest n

  -- what passes was there
  kept : (ts : List (ℕ × X)) (j : ℕ) → has_job (passing ts) j ≡ true → has_job ts j ≡ true
  kept [] j h = h
  kept (t ∷ ts) j h = go (kept ts j) (p t.0) h
    where
      first : (has_job (passing ts) j ≡ true → has_job ts j ≡ true) → (b : Bool) → b || has_job (passing ts) j ≡ true → b || has_job ts j ≡ true
      first rest true k = refl
      first rest false k = rest k

      go : (has_job (passing ts) j ≡ true → has_job ts j ≡ true) → (b : Bool) → has_job (cond b (t ∷ passing ts) (passing ts)) j ≡ true → eqb t.0 j || has_job ts j ≡ true
      go rest true k = first rest (eqb t.0 j) k
      go rest false k = or_right (eqb t.0 j) (has_job ts j) (rest k)

  passes : (ts : List (ℕ × X)) (j : ℕ) → has_job (passing ts) j ≡ true → p j ≡ true
  passes ts j h = go (p j) refl
    where
      go : (b : Bool) → p j ≡ b → p j ≡ true
      go true e = e
      go false e = absurd (true≢false (sym h ∙ unlisted ts j e))

≤-apart : (a b : ℕ) → a ≤ b → (a ≡ b → ⊥) → a + 1 ≤ b
≤-apart a b le ne = omega (arith, le, ne)

-- each job of a list has what belongs to it
has_all : {X : Type 0} (i : ℕ) (xs : List X) (j : ℕ) → i ≤ j → j < i + length xs → has_job (enumerate_from i xs) j ≡ true
has_all i [] j low high = absurd (omega (arith, low, high))
has_all i (x ∷ xs) j low high = go (λ less. has_all (i + 1) xs j less (omega (arith, high))) (eqb i j) refl
  where
    go : (i + 1 ≤ j → has_job (enumerate_from (i + 1) xs) j ≡ true) → (b : Bool) → eqb i j ≡ b → b || has_job (enumerate_from (i + 1) xs) j ≡ true
    go rest true e = refl
    go rest false e = rest (≤-apart i j low (eqb-false i j e))

-- and no others have
has_within : {X : Type 0} (i : ℕ) (xs : List X) (j : ℕ) → has_job (enumerate_from i xs) j ≡ true → (i ≤ j) × (j < i + length xs)
has_within i [] j h = absurd (true≢false (sym h))
has_within i (x ∷ xs) j h = go (has_within (i + 1) xs j) (eqb i j) refl h
  where
    go : (has_job (enumerate_from (i + 1) xs) j ≡ true → (i + 1 ≤ j) × (j < i + 1 + length xs)) → (b : Bool) → eqb i j ≡ b → b || has_job (enumerate_from (i + 1) xs) j ≡ true → (i ≤ j) × (j < i + suc (length xs))
    go rest true e k = let same = eqb-true i j e in (omega (arith, same), omega (arith, same))
    go rest false e k = let r = rest k in let low = r.0 in let high = r.1 in (omega (arith, low), omega (arith, high))

-- one thing more
enumerate_push : {X : Type 0} (n : ℕ) (xs : List X) (x : X) → enumerate_from n (xs ++ x ∷ []) ≡ enumerate_from n xs ++ (n + length xs, x) ∷ []
enumerate_push n [] x = let same : n ≡ n + 0 = omega arith in ap (λ k. (k, x) ∷ []) same
enumerate_push n (y ∷ ys) x =
    let same : n + 1 + length ys ≡ n + suc (length ys) = omega arith in
    ap (λ l. (n, y) ∷ l) (enumerate_push (n + 1) ys x ∙ ap (λ k. enumerate_from (n + 1) ys ++ (k, x) ∷ []) same)

pub enumerate_more : {X : Type 0} (n : ℕ) (xs : List X) (i : ℕ) (d : X) → i < length xs → enumerate_from n (take (i + 1) xs) ≡ enumerate_from n (take i xs) ++ (i + n, get_or xs i d) ∷ []
enumerate_more n xs i d within =
    let size = length-take i xs in
    let same : n + length (take i xs) ≡ i + n = omega (arith, within, size) in
    ap (enumerate_from n) (take_more xs i d within) ∙ enumerate_push n (take i xs) (get_or xs i d) ∙ ap (λ k. enumerate_from n (take i xs) ++ (k, get_or xs i d) ∷ []) same

-- what belongs to a job stands at its place
at_places : {X : Type 0} (all : List X) (i : ℕ) (xs : List X) → ((k : ℕ) (x : X) → slice_get xs k ≡ Some x → slice_get all (i + k - 1) ≡ Some x)
    → All (λ (t : ℕ × X). slice_get all (t.0 - 1) ≡ Some t.1) (enumerate_from i xs)
at_places {X} all i [] h = All-nil (λ (t : ℕ × X). slice_get all (t.0 - 1) ≡ Some t.1)
at_places {X} all i (x ∷ xs) h =
    All-cons (λ (t : ℕ × X). slice_get all (t.0 - 1) ≡ Some t.1) (i, x) (enumerate_from (i + 1) xs)
    (let same : i + 0 - 1 ≡ i - 1 = omega arith in subst (λ m. slice_get all m ≡ Some x) same (h 0 x refl))
    (at_places all (i + 1) xs (λ k y e. let same : i + suc k - 1 ≡ i + 1 + k - 1 = omega arith in subst (λ m. slice_get all m ≡ Some y) same (h (suc k) y e)))

-- who is left over is in the third
pub one_of : (a b c : Bool) → c ≡ not (a || b) → (a ≡ true → b ≡ false) → IsOneOf a b c
one_of true b c e n = (n refl, e)
one_of false true c e n = e
one_of false false c e n = e

either : (a c b d : Bool) → (a ≡ true → c ≡ true) → (b ≡ true → d ≡ true) → a || b ≡ true → c || d ≡ true
either true c b d f g h = ap (λ e. e || d) (f refl)
either false c b d f g h = or_right c d (g h)

and_left : (a b : Bool) → a && b ≡ true → a ≡ true
and_left true b h = refl
and_left false b h = h

-- of which there is a receipt, of that there is an answer
receipt_has : (xs : List (Output BankReply)) (j : ℕ) → has_receipt_of xs j ≡ true → has (jobs_of xs) j ≡ true
receipt_has [] j h = h
receipt_has (x ∷ xs) j h = either (eqb x.job j && is_paid x.out) (eqb x.job j) (has_receipt_of xs j) (has (jobs_of xs) j) (and_left (eqb x.job j) (is_paid x.out)) (receipt_has xs j) h

-- the lists that come of a run
pub sorted : (g : Givens) (payloads : List Payment) (ids : List ℕ) (budgets : List ℕ) (o : Outcome Payment BankReply) (s : Sorted) → IsOutcome Answers g payloads budgets o → ids ≡ ids_of payloads
    → s.answers.items ≡ o.outputs.items → s.free.items ≡ o.settlement.free.items → s.in_doubt.items ≡ filter (λ t. is_unsure s.answers.items s.free.items t.0) (enumerate_from 1 ids) → IsSorted payloads s
sorted g payloads ids budgets o s is named all free doubt = record {
  one = λ j low high. one_of (has_receipt_of s.answers.items j) (has_job s.free.items j) (has_job s.in_doubt.items j)
      (ap (λ xs. has_job xs j) doubt ∙ listed unsure (enumerate_from 1 ids) j (has_all 1 ids j low (size j high)))
      (apart j);
  distinct = subst (λ xs. AreDistinct (jobs_of xs)) (sym all) (answered_once Answers g payloads budgets o is);
  answers = subst (All (IsRelated Answers payloads)) (sym all) is.run.outputs_are.answers;
  own = subst (All (IsOwn payloads)) (sym all_free) (subst (All (IsOwn payloads)) (sym (free_filtered processes (is_claimed processes) (λ j. refl) 1 payloads))
      (All-filter (λ (t : ℕ × Payment). not (is_claimed processes t.0)) (IsOwn payloads) (enumerate_from 1 payloads) (at_places payloads 1 payloads (λ k x e. place k x e))));
  numbers = subst (All (IsNumberOf payloads)) (sym doubt) (All-filter (λ (t : ℕ × ℕ). unsure t.0) (IsNumberOf payloads) (enumerate_from 1 ids)
      (subst (λ l. All (IsNumberOf payloads) (enumerate_from 1 l)) (sym named) (at_places (ids_of payloads) 1 (ids_of payloads) (λ k x e. number k x e))));
}
  where
    processes : List Process
    processes = (world_of g is.whole.log).processes

    unsure : ℕ → Bool
    unsure j = is_unsure s.answers.items s.free.items j

    size : (j : ℕ) → j ≤ length payloads → j < 1 + length ids
    size j high = let same : length ids ≡ length payloads = ap length named ∙ length-map payloads (λ (p : Payment). p.id) in omega (arith, high, same)

    place : (k : ℕ) (x : Payment) → slice_get payloads k ≡ Some x → slice_get payloads (1 + k - 1) ≡ Some x
    place k x e = let same : k ≡ 1 + k - 1 = omega arith in subst (λ m. slice_get payloads m ≡ Some x) same e

    number : (k : ℕ) (x : ℕ) → slice_get (ids_of payloads) k ≡ Some x → slice_get (ids_of payloads) (1 + k - 1) ≡ Some x
    number k x e = let same : k ≡ 1 + k - 1 = omega arith in subst (λ m. slice_get (ids_of payloads) m ≡ Some x) same e

    all_free : s.free.items ≡ free_of processes 1 payloads
    all_free = free ∙ is.whole.free

    apart : (j : ℕ) → has_receipt_of s.answers.items j ≡ true → has_job s.free.items j ≡ false
    apart j h = ap (λ xs. has_job xs j) free ∙ has_job_is o.settlement.free.items j
        ∙ answered_not_free Answers g payloads budgets o is j (receipt_has o.outputs.items j (ap (λ xs. has_receipt_of xs j) (sym all) ∙ h))

-- what is in doubt was performed, is in a hand, or is with a worker that was not started
pub may_be_unsure : (g : Givens) (payloads : List Payment) (ids : List ℕ) (budgets : List ℕ) (o : Outcome Payment BankReply) (s : Sorted) → IsOutcome Answers g payloads budgets o → ids ≡ ids_of payloads → IsSortingOf ids o s
    → (j : ℕ) → has_job s.in_doubt.items j ≡ true → MayBeUnsure o j
may_be_unsure g payloads ids budgets o s is named lists j h = go (has_a_place_or Answers g payloads budgets o is j (record { low = within.0; high = high }))
  where
    unsure : ℕ → Bool
    unsure i = is_unsure s.answers.items s.free.items i

    there : has_job (filter (λ (t : ℕ × ℕ). unsure t.0) (enumerate_from 1 ids)) j ≡ true
    there = ap (λ xs. has_job xs j) (sym lists.in_doubt) ∙ h

    within : (1 ≤ j) × (j < 1 + length ids)
    within = has_within 1 ids j (kept unsure (enumerate_from 1 ids) j there)

    high : j ≤ g.jobs
    high = let w = within.1 in let size = ap length named ∙ length-map payloads (λ (p : Payment). p.id) in let jobs = count Answers g payloads budgets o is in omega (arith, w, size, jobs)

    not_free : (a b : Bool) → not (a || b) ≡ true → b ≡ true → ⊥
    not_free true b n e = true≢false (sym n)
    not_free false true n e = true≢false (sym n)
    not_free false false n e = true≢false (sym e)

    go : HasAPlace o j ⊎ IsOfNoThread o j → MayBeUnsure o j
    go (inl (inl a)) = inl a
    go (inl (inr (inl k))) = inr (inl k)
    go (inl (inr (inr f))) = absurd (not_free (has_receipt_of s.answers.items j) (has_job s.free.items j) (passes unsure (enumerate_from 1 ids) j there) (ap (λ xs. has_job xs j) lists.free ∙ has_job_is o.settlement.free.items j ∙ f))
    go (inr n) = inr (inr n)
