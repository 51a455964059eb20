-- The outcome of a run fits its givens: the lists and ends are those of all workers, and only jobs
-- are named.
use Rattle.std.proofs.Common.{◌≡◌, ℕ, zero, suc, ◌-◌, Bool, true, false, cond, eqb, ◌||◌, List, [], ◌∷◌, length, map, get_or, All, Vec, Global, Option, Some, refl, sym, ap, ◌∙◌, subst, arith}
use Rattle.std.specs.Prelude.{slice_get, ◌==◌}
use Rattle.std.proofs.lemmas.Bool.{true≢false, eq-eqb}
use Rattle.std.proofs.lemmas.List.{length-map}
use Rattle.std.proofs.lemmas.List.Elements.{All-cons, All-nil}
use mathlib.Core.Option.{some, some-injective, some-ne-none}
use lib.ListN.{get_elem?}
use Rattle.amo_sets.specs.Sets.{has}
use Rattle.amo_sets.proofs.Numbers.{has-append, is_itself}
use Rattle.amo_params.specs.Givens.{IsJob, IsWorker}
use Rattle.amo_kk.specs.World.{process, nobody, world_of}
use Rattle.amo_kk.specs.Record.{jobs_in_hand}
use Rattle.amo_kk.specs.Lawful.{IsSoundRecord}
use Rattle.amo_kk.specs.Machine.{LocalView}
use Rattle.amo_params.specs.declared.givens.Givens.{Givens}
use Rattle.amo_params.specs.declared.moves.Move.{Move}
use Rattle.amo_kk.specs.declared.model.Process.{Process}
use Rattle.amo_kk.specs.declared.model.Record.{Record}
use Rattle.amo_words.specs.declared.rule.Spot.{Spot}
use Rattle.amo_words.specs.declared.rule.Spot.TheVariants.{Home, Out as Away, Back}
use Rattle.amo_words.specs.Rule.{AllStand}
use Rattle.amo_words.specs.Looking.{IsBack}
use Rattle.amo_words.proofs.Worlds.{lawful}
use Rattle.amo_words.proofs.Turns.{inside_of}
use Rattle.amo_words.proofs.Settles.{get_or_at}
use Rattle.amo_words.proofs.Meetings.{stands_back, worker_back}
use Rattle.amo_mailbox.specs.declared.output.Output.{Output}
use Rattle.amo_crew.specs.declared.outcome.Outcome.{Outcome}
use Rattle.amo_mailbox.specs.Mailbox.{of}
use Rattle.amo_crew.specs.Outcomes.{spot_of, dones_in, IsOutcome}
use Rattle.amo_crew.specs.Fitting.{FitsGivens}
use Rattle.amo_crew.proofs.Crews.{all_at}

-- what holds of each number that the list has
all_had : (Q : ℕ → Type 0) (xs : List ℕ) → ((j : ℕ) → has xs j ≡ true → Q j) → All Q xs
all_had Q [] h = All-nil Q
all_had Q (x ∷ xs) h = All-cons Q x xs (h x (is_itself x (has xs x))) (all_had Q xs (λ j e. h j (later (x == j) (has xs j) e)))
  where
    later : (b c : Bool) → c ≡ true → (b || c) ≡ true
    later true c e = refl
    later false c e = e

-- what a sound record has done are jobs
done_job : (g : Givens) (p : ℕ) (r : Record) → IsSoundRecord g p r → (j : ℕ) → has r.dones j ≡ true → IsJob g j
done_job g p r sound j e = sound.jobs j (ap (λ xs. has xs j) sound.claims ∙ has-append r.dones (jobs_in_hand r.phase) j ∙ ap (λ b. b || has (jobs_in_hand r.phase) j) e)

-- lists that are those of the processes
lists_hold : (Q : ℕ → Type 0) (f : Process → List ℕ) (vs : List (Vec ℕ Global)) (all : List Process) → map (λ (v : Vec ℕ Global). v.items) vs ≡ map f all
    → ((k : ℕ) (a : Process) → get_elem? all k ≡ some a → All Q (f a)) → All (λ (v : Vec ℕ Global). All Q v.items) vs
lists_hold Q f [] all e h = All-nil (λ (v : Vec ℕ Global). All Q v.items)
lists_hold Q f (v ∷ vs) [] e h = absurd cc
lists_hold Q f (v ∷ vs) (a ∷ all) e h =
    let head : f a ≡ v.items = cc in
    let tail : map (λ (w : Vec ℕ Global). w.items) vs ≡ map f all = cc in
    All-cons (λ (w : Vec ℕ Global). All Q w.items) v vs (subst (All Q) head (h 0 a refl)) (lists_hold Q f vs all tail (λ k b at. h (suc k) b at))

module _ (g : Givens) (log : List Move) where
  -- each process of the world is sound
  sound_at : (k : ℕ) (a : Process) → get_elem? (world_of g log).processes k ≡ some a → IsSoundRecord g (suc k) a.local
  sound_at k a at =
      let inside = inside_of (world_of g log).processes k a at in
      let size = (lawful g log).size in
      subst (λ (b : Process). IsSoundRecord g (suc k) b.local) (sym (get_or_at (world_of g log).processes k a nobody at)) ((lawful g log).lawful.sound (suc k) (record { low = omega arith; high = omega (arith, inside, size) })).local

  claims_fit : (vs : List (Vec ℕ Global)) → map (λ (v : Vec ℕ Global). v.items) vs ≡ map (λ (a : Process). a.local.claimed) (world_of g log).processes → All (λ (v : Vec ℕ Global). All (IsJob g) v.items) vs
  claims_fit vs e = lists_hold (IsJob g) (λ a. a.local.claimed) vs (world_of g log).processes e (λ k a at. all_had (IsJob g) a.local.claimed (sound_at k a at).jobs)

  dones_fit : (vs : List (Vec ℕ Global)) → map (λ (v : Vec ℕ Global). v.items) vs ≡ map (λ (a : Process). a.local.dones) (world_of g log).processes → All (λ (v : Vec ℕ Global). All (IsJob g) v.items) vs
  dones_fit vs e = lists_hold (IsJob g) (λ a. a.local.dones) vs (world_of g log).processes e (λ k a at. all_had (IsJob g) a.local.dones (done_job g (suc k) a.local (sound_at k a at)))

  as_many : (f : Process → List ℕ) (vs : List (Vec ℕ Global)) → map (λ (v : Vec ℕ Global). v.items) vs ≡ map f (world_of g log).processes → length vs ≡ g.workers
  as_many f vs e =
      sym (length-map vs (λ (v : Vec ℕ Global). v.items)) ∙ ap (λ (l : List (List ℕ)). length l) e ∙ length-map (world_of g log).processes f ∙ (lawful g log).size

-- a spot that has done something is of a worker that came back
back_at : (spots : List Spot) (k : ℕ) (l : LocalView) → get_or spots k Home ≡ Back l → slice_get spots k ≡ Some (Back l)
back_at [] k l e = absurd cc
back_at (x ∷ xs) zero l e = ap (λ (s : Spot). let o : Option Spot = Some s in o) e
back_at (x ∷ xs) (suc k) l e = back_at xs k l e

pub is_back : (spots : List Spot) (p : ℕ) (l : LocalView) → spot_of spots p ≡ Back l → IsBack spots p l
is_back spots zero l e = absurd cc
is_back spots (suc k) l e = let place : k ≡ suc k - 1 = omega arith in (omega arith, subst (λ i. slice_get spots i ≡ Some (Back l)) place (back_at spots k l e))

module _ (g : Givens) (log : List Move) (spots : List Spot) (stand : AllStand g log spots) where
  done_by : (p j : ℕ) (s : Spot) → spot_of spots p ≡ s → has (dones_in s) j ≡ true → IsJob g j × IsWorker g p
  done_by p j Home is e = absurd (true≢false (sym e))
  done_by p j Away is e = absurd (true≢false (sym e))
  done_by p j (Back l) is e =
      let back = is_back spots p l is in
      let worker = worker_back g log spots stand p l back in
      let same = stands_back g log spots stand p l back in
      (done_job g p (process (world_of g log) p).local ((lawful g log).lawful.sound p worker).local j (ap (λ (m : LocalView). has m.state.dones j) (sym same) ∙ e), worker)

module _ {Out : Type 0} where
  -- an output is among those of its worker
  listed : (xs : List (Output Out)) (k : ℕ) (x : Output Out) → get_elem? xs k ≡ some x → has (map (λ (y : Output Out). y.job) (of x.worker xs)) x.job ≡ true
  listed [] k x e = absurd (some-ne-none x (sym e))
  listed (y ∷ ys) zero x e =
      let same = some-injective y x e in
      ap (λ b. has (map (λ (z : Output Out). z.job) (cond b (y ∷ of x.worker ys) (of x.worker ys))) x.job) (eq-eqb y.worker x.worker (ap (λ (z : Output Out). z.worker) same))
      ∙ ap (λ b. b || has (map (λ (z : Output Out). z.job) (of x.worker ys)) x.job) (eq-eqb y.job x.job (ap (λ (z : Output Out). z.job) same))
  listed (y ∷ ys) (suc k) x e = by (eqb y.worker x.worker) (listed ys k x e)
    where
      by : (b : Bool) → has (map (λ (z : Output Out). z.job) (of x.worker ys)) x.job ≡ true → has (map (λ (z : Output Out). z.job) (cond b (y ∷ of x.worker ys) (of x.worker ys))) x.job ≡ true
      by false h = h
      by true h = either (eqb y.job x.job) h
        where
          either : (c : Bool) → has (map (λ (z : Output Out). z.job) (of x.worker ys)) x.job ≡ true → (c || has (map (λ (z : Output Out). z.job) (of x.worker ys)) x.job) ≡ true
          either true h = refl
          either false h = h

module _ {P Out : Type 0} (related : ℕ → ℕ → P → Out → Type 0) (g : Givens) (payloads : List P) (budgets : List ℕ) (o : Outcome P Out) (is : IsOutcome related g payloads budgets o) where
  outputs_fit : (k : ℕ) (x : Output Out) → get_elem? o.outputs.items k ≡ some x → IsJob g x.job × IsWorker g x.worker
  outputs_fit k x at =
      done_by g is.whole.log is.spots is.whole.stand x.worker x.job (spot_of is.spots x.worker) refl
      (ap (λ xs. has xs x.job) (sym (is.run.outputs_are.jobs x.worker)) ∙ listed o.outputs.items k x at)

  pub fits_givens : FitsGivens g o
  fits_givens = record {
    claims = as_many g is.whole.log (λ a. a.local.claimed) o.settlement.claims.items is.whole.claims;
    dones = as_many g is.whole.log (λ a. a.local.dones) o.settlement.dones.items is.whole.dones;
    ends = is.run.ends_are.size;
    claimed = claims_fit g is.whole.log o.settlement.claims.items is.whole.claims;
    done = dones_fit g is.whole.log o.settlement.dones.items is.whole.dones;
    outputs = all_at (λ (x : Output Out). IsJob g x.job) o.outputs.items (λ k x at. (outputs_fit k x at).0);
  }

  pub workers_fit : All (λ (x : Output Out). IsWorker g x.worker) o.outputs.items
  workers_fit = all_at (λ (x : Output Out). IsWorker g x.worker) o.outputs.items (λ k x at. (outputs_fit k x at).1)
