-- The collected outputs are those of the workers that came back.
use Rattle.std.proofs.Common.{◌≡◌, ⊎_elim, ℕ, zero, suc, Bool, true, false, cond, eqb, List, [], ◌∷◌, map, sum_by, All, ◌≤◌, refl, sym, ap, ◌∙◌, subst, arith}
use Rattle.std.proofs.lemmas.Bool.{true≢false, eqb-true, eq-eqb}
use Rattle.std.proofs.lemmas.List.Elements.{All-cons, All-nil, All-head, All-tail}
use mathlib.Core.Option.{some, some-injective, some-ne-none}
use lib.ListN.{get_elem?}
use Rattle.atomic_table.specs.Seated.{TableId}
use Rattle.amo_params.specs.declared.givens.Givens.{Givens}
use Rattle.amo_words.specs.declared.rule.Spot.{Spot}
use Rattle.amo_words.specs.Faces.{Seated, spots}
use Rattle.amo_mailbox.specs.declared.queue.Queue.{Queue}
use Rattle.amo_crew.specs.declared.settle.collecting.Collected.{Collected}
use Rattle.amo_crew.proofs.Few.{dones_within}
use Rattle.amo_mailbox.specs.declared.output.Output.{Output}
use Rattle.amo_mailbox.specs.declared.outlet.Outlet.{Outlet}
use Rattle.amo_mailbox.specs.Mailbox.{of}
use Rattle.amo_mailbox.specs.Endpoints.{given, has_worker}
use Rattle.amo_crew.specs.Running.{IsRelated}
use Rattle.amo_crew.specs.Outcomes.{spot_of, dones_in, AreOutputs}
use Rattle.amo_crew.specs.Collecting.{HasOutlet, OutletFits, dones_upto, AreCollected}

pub at_all : {A : Type 0} (Q : A → Type 0) (xs : List A) (k : ℕ) (x : A) → All Q xs → get_elem? xs k ≡ some x → Q x
at_all Q [] k x h e = absurd (some-ne-none x (sym e))
at_all Q (y ∷ ys) zero x h e = subst Q (some-injective y x e) (h 0 y (omega arith))
at_all Q (y ∷ ys) (suc k) x h e = at_all Q ys k x (λ i d l. h (suc i) d (omega arith)) e

module _ {Out : Type 0} where
  -- none is of a worker who is not among these
  none_of : (os : List (Outlet Out)) (p : ℕ) (xs : List (Output Out)) → All (λ x. has_worker os x.worker ≡ true) xs → has_worker os p ≡ false → of p xs ≡ []
  none_of os p [] h n = refl
  none_of os p (x ∷ xs) h n = go (none_of os p xs (All-tail (λ (y : Output Out). has_worker os y.worker ≡ true) x xs h) n) (eqb x.worker p) refl
    where
      go : of p xs ≡ [] → (b : Bool) → eqb x.worker p ≡ b → cond b (x ∷ of p xs) (of p xs) ≡ []
      go rest true e = absurd (true≢false (sym (All-head (λ (y : Output Out). has_worker os y.worker ≡ true) x xs h) ∙ ap (has_worker os) (eqb-true x.worker p e) ∙ n))
      go rest false e = rest

  -- what holds of each worker's holds of all
  all_from : (Q : Output Out → Type 0) (xs : List (Output Out)) → ((p : ℕ) → All Q (of p xs)) → All Q xs
  all_from Q [] h = All-nil Q
  all_from Q (x ∷ xs) h = All-cons Q x xs (here (eqb x.worker x.worker) (eq-eqb x.worker x.worker refl) (h x.worker)) (all_from Q xs (λ p. rest p (eqb x.worker p) (h p)))
    where
      here : (b : Bool) → b ≡ true → All Q (cond b (x ∷ of x.worker xs) (of x.worker xs)) → Q x
      here true e a = All-head Q x (of x.worker xs) a
      here false e a = absurd (true≢false (sym e))

      rest : (p : ℕ) (b : Bool) → All Q (cond b (x ∷ of p xs) (of p xs)) → All Q (of p xs)
      rest p true a = All-tail Q x (of p xs) a
      rest p false a = a

module _ {P Out : Type 0} (related : ℕ → ℕ → P → Out → Type 0) (payloads : List P) (spots : List Spot) (os : List (Outlet Out)) (xs : List (Output Out))
    (fits : (p : ℕ) → OutletFits related payloads os p (dones_in (spot_of spots p)))
    (each : All (λ o. of o.worker xs ≡ given o) os) (only : All (λ x. has_worker os x.worker ≡ true) xs) where
  of_outlet : (p : ℕ) (dones : List ℕ) (t : HasOutlet related payloads os p dones) → of p xs ≡ given t.outlet
  of_outlet p dones t = ap (λ n. of n xs) (sym t.worker) ∙ at_all (λ (o : Outlet Out). of o.worker xs ≡ given o) os t.at t.outlet each t.there

  pub gathered : AreOutputs related payloads spots xs
  gathered = record {
    jobs = λ p. ⊎_elim
        (λ t. ap (map (λ (x : Output Out). x.job)) (of_outlet p (dones_in (spot_of spots p)) t) ∙ t.jobs)
        (λ t. ap (map (λ (x : Output Out). x.job)) (none_of os p xs only t.0) ∙ sym t.1)
        (fits p);
    answers = all_from (IsRelated related payloads) xs (λ p. ⊎_elim
        (λ t. subst (All (IsRelated related payloads)) (sym (of_outlet p (dones_in (spot_of spots p)) t)) t.answers)
        (λ t. subst (All (IsRelated related payloads)) (sym (none_of os p xs only t.0)) (All-nil (IsRelated related payloads)))
        (fits p));
  }

-- the outlets of the collected were given at most as many outputs as there are jobs
pub few_given : {P Out : Type 0} (related : ℕ → ℕ → P → Out → Type 0) (queue : Queue Out) (table : TableId) (g : Givens) (payloads : List P) (budgets : List ℕ) (b : Seated P) (all : Collected P Out)
    → AreCollected related queue table g payloads budgets g.workers b all → sum_by (λ o. o.put_count) all.outlets.items ≤ g.jobs
few_given {P} {Out} related queue table g payloads budgets b all h =
    let n = h.count in
    let m = subst (λ i. dones_upto (spots b) i ≤ g.jobs) h.size (dones_within g b.view.seen (spots b) h.stand) in
    omega (arith, n, m)
