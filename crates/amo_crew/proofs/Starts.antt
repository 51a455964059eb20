-- From the open floor to the crew.
use Rattle.std.proofs.Common.{◌≡◌, ⊎_elim, ℕ, zero, suc, ◌+◌, ◌<◌, ◌≤◌, List, [], ◌∷◌, length, map, replicate, All, get_or, refl, sym, ap, ◌∙◌, subst, arith}
use Rattle.std.specs.List.{range_with_len}
use Rattle.std.proofs.lemmas.Bool.{cases_lt}
use Rattle.std.proofs.lemmas.List.{length-map, length-replicate}
use Rattle.std.proofs.lemmas.List.FromFn.{length-map-range_with_len}
use mathlib.Core.Option.{some, some-injective, some-ne-none}
use lib.ListN.{get_elem?}
use Rattle.atomic_table.specs.Seated.{TableId}
use Rattle.amo_params.specs.declared.givens.Givens.{Givens}
use Rattle.amo_words.specs.declared.rule.Spot.{Spot}
use Rattle.amo_words.specs.declared.rule.Spot.TheVariants.{Home}
use Rattle.amo_words.specs.Rule.{AllStand}
use Rattle.amo_words.specs.Faces.{Seated, ClosedView, spots}
use Rattle.amo_mailbox.specs.declared.queue.Queue.{Queue}
use Rattle.amo_mailbox.specs.declared.outlet.Outlet.{Outlet}
use Rattle.amo_crew.specs.declared.kit.Kit.{Kit}
use Rattle.amo_mailbox.specs.Endpoints.{IsNewOutletOf}
use Rattle.amo_crew.specs.Outcomes.{spot_of, IsBare, HaveRun, IsOutcome}
use Rattle.amo_crew.specs.Kits.{AreOutlets, IsKit}
use Rattle.amo_crew.specs.Hired.{AreHired}
use Rattle.std.specs.Prelude.{Result, Ok, Err, IfOk, IfErr}
use Rattle.amo_words.specs.Settling.{HasClosed}
use Rattle.amo_mailbox.specs.declared.output.Output.{Output}
use Rattle.amo_crew.specs.declared.outcome.End.{End}
use Rattle.amo_crew.specs.declared.outcome.Outcome.{Outcome}
use Rattle.amo_crew.specs.declared.fault.ExecFault.{ExecFault}
use Rattle.amo_crew.specs.declared.fault.ExecFault.TheVariants.{WrongCount, NoMemory, ThreadRefused, Unsettled}
use Rattle.amo_crew.specs.Unsettling.{UnsettledView, IsUnsettled, IsSettledOf}
use Rattle.amo_crew.specs.Refusing.{Concludes, Refuses}
use Rattle.amo_crew.proofs.Outputs.{at_all}

range_at : (a n k y : ℕ) → get_elem? (map (λ i. i + 1) (range_with_len a n)) k ≡ some y → y ≡ a + k + 1
range_at a zero k y e = absurd (some-ne-none y (sym e))
range_at a (suc n) zero y e = let z : a + 1 ≡ y = some-injective (a + 1) y e in omega arith
range_at a (suc n) (suc k) y e = let z = range_at (a + 1) n k y e in omega arith

at_map : {A B : Type 0} (f : A → B) (xs : List A) (k : ℕ) (x : A) → get_elem? xs k ≡ some x → get_elem? (map f xs) k ≡ some (f x)
at_map f [] k x e = absurd (some-ne-none x (sym e))
at_map f (y ∷ ys) zero x e = ap some (ap f (some-injective y x e))
at_map f (y ∷ ys) (suc k) x e = at_map f ys k x e

pub outlets_at : {Out : Type 0} (queue : Queue Out) (n m : ℕ) (os : List (Outlet Out)) → All (λ o. IsNewOutletOf queue n o) os → map (λ o. o.worker) os ≡ map (λ k. k + 1) (range_with_len 0 m) → AreOutlets queue n os
outlets_at {Out} queue n m os h e k o at = (
  at_all (λ (x : Outlet Out). IsNewOutletOf queue n x) os k o h at,
  range_at 0 m k o.worker (ap (λ l. get_elem? l k) (sym e) ∙ at_map (λ (x : Outlet Out). x.worker) os k o at) ∙ (let z : 0 + k + 1 ≡ k + 1 = omega arith in z),
)

home_at : (n k : ℕ) → get_or (replicate n Home) k Home ≡ Home
home_at zero k = refl
home_at (suc n) zero = refl
home_at (suc n) (suc k) = home_at n k

all_home : (n p : ℕ) → spot_of (replicate n Home) p ≡ Home
all_home n zero = refl
all_home n (suc k) = home_at n k

-- nobody is hired yet
pub hired_none : {P Out : Type 0} (table : TableId) (g : Givens) (payloads : List P) (budgets : List ℕ) (b : Seated P) (kit : Kit P Out) → b.table_id ≡ table → b.view.givens ≡ g → b.view.payloads ≡ payloads → AllStand g b.view.seen (spots b) → spots b ≡ replicate g.workers Home → IsKit g kit → kit.crew.items ≡ []
    → AreHired table g payloads budgets b kit
hired_none {P} {Out} table g payloads budgets b kit tied givens own stand home is none = record {
  tied = tied;
  givens = givens;
  payloads_are = own;
  size = ap length home ∙ length-replicate g.workers Home;
  stand = stand;
  kit_is = is;
  home = λ p l. ap (λ s. spot_of s p) home ∙ all_home g.workers p;
  out = λ p l high. let z = ap length none in absurd (omega arith);
  members = λ k m at. absurd (some-ne-none m (sym (subst (λ l. get_elem? l k ≡ some m) none at)));
}

past : (l : List Spot) (k : ℕ) → length l ≤ k → get_or l k Home ≡ Home
past [] k h = refl
past (x ∷ xs) zero h = absurd (omega arith)
past (x ∷ xs) (suc k) h = past xs k (omega arith)

-- nothing is known of those that are hired
pub hired_bare : {P Out : Type 0} (table : TableId) (g : Givens) (payloads : List P) (budgets : List ℕ) (b : Seated P) (kit : Kit P Out) → AreHired table g payloads budgets b kit → length kit.crew.items ≡ g.workers → (p : ℕ) → IsBare (spot_of (spots b) p)
hired_bare table g payloads budgets b kit h all zero = (refl, refl)
hired_bare table g payloads budgets b kit h all (suc k) = ⊎_elim
    (λ (low : k < g.workers). subst IsBare (sym (h.out (suc k) (omega arith) (omega arith))) (refl, refl))
    (λ high. subst IsBare (sym (past (spots b) k (let z = h.size in omega arith))) (refl, refl))
    (cases_lt k g.workers)

pub outlets_len : {Out : Type 0} (m : ℕ) (os : List (Outlet Out)) → map (λ o. o.worker) os ≡ map (λ k. k + 1) (range_with_len 0 m) → length os ≡ m
outlets_len {Out} m os e = sym (length-map os (λ (o : Outlet Out). o.worker)) ∙ ap length e ∙ length-map-range_with_len (λ k. k + 1) 0 m

-- what a run left, where its floor was closed with its book
pub unsettled : {P Out : Type 0} (related : ℕ → ℕ → P → Out → Type 0) (g : Givens) (payloads : List P) (budgets : List ℕ) (b : Seated P) (c : ClosedView P) (ends : List End) (outputs : List (Output Out)) (in_hand : List (ℕ × ℕ × P))
    → HasClosed b.view.givens b.view.payloads b.view.seen (spots b) c → b.view.givens ≡ g → b.view.payloads ≡ payloads → HaveRun related g payloads budgets (spots b) ends outputs in_hand
    → IsUnsettled related g payloads budgets record { floor = c; ends = ends; outputs = outputs; in_hand = in_hand }
unsettled {P} {Out} related g payloads budgets b c ends outputs in_hand closed givens own run = record {
  seen = b.view.seen;
  closed = subst (λ (x : List Spot). HasClosed g payloads b.view.seen x c) (sym closed.spots_are)
      (subst (λ (x : List P). HasClosed g x b.view.seen (spots b) c) own
      (subst (λ (x : Givens). HasClosed x b.view.payloads b.view.seen (spots b) c) givens closed));
  run = subst (λ (x : List Spot). HaveRun related g payloads budgets x ends outputs in_hand) (sym closed.spots_are) run;
}

-- an outcome from what was held
pub settled_outcome : {P Out : Type 0} (related : ℕ → ℕ → P → Out → Type 0) (g : Givens) (payloads : List P) (budgets : List ℕ) (u : UnsettledView P Out) (o : Outcome P Out) → IsUnsettled related g payloads budgets u → IsSettledOf u o → IsOutcome related g payloads budgets o
settled_outcome {P} {Out} related g payloads budgets u o h s = record {
  seen = h.seen;
  spots = u.floor.spots;
  whole = s.whole g payloads h.seen u.floor.spots h.closed;
  run = subst (λ x. HaveRun related g payloads budgets u.floor.spots x o.outputs.items o.in_hand.items) (sym s.ends)
      (subst (λ x. HaveRun related g payloads budgets u.floor.spots u.ends x o.in_hand.items) (sym s.outputs)
      (subst (λ x. HaveRun related g payloads budgets u.floor.spots u.ends u.outputs x) (sym s.in_hand) h.run));
}

pub if_ok : {A B : Type 0} (r : Result A B) (S T : A → Type 0) → ((x : A) → S x → T x) → IfOk r S → IfOk r T
if_ok (Ok x) S T f h = f x h
if_ok (Err e) S T f h = tt

pub if_err : {A B : Type 0} (r : Result A B) (S T : B → Type 0) → ((x : B) → S x → T x) → IfErr r S → IfErr r T
if_err (Ok x) S T f h = tt
if_err (Err e) S T f h = f e h

pub concluded : {P Out : Type 0} (related : ℕ → ℕ → P → Out → Type 0) (g : Givens) (payloads : List P) (budgets : List ℕ) (u : UnsettledView P Out) (f : ExecFault P Out) → IsUnsettled related g payloads budgets u → Concludes u f → Refuses related g payloads budgets f
concluded related g payloads budgets u (WrongCount v) h is = absurd is
concluded related g payloads budgets u (NoMemory v) h is = absurd is
concluded related g payloads budgets u (ThreadRefused o) h is = (settled_outcome related g payloads budgets u o h is.0, is.1)
concluded related g payloads budgets u (Unsettled rest) h is = subst (IsUnsettled related g payloads budgets) (sym is) h
