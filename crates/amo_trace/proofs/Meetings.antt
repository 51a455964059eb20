-- Along a run: each attempt ends by what its worker has loaded in it.
use Rattle.std.proofs.Common.{◌≡◌, ◌≢◌, ℕ, zero, suc, ◌+◌, ◌<◌, ◌≤◌, Bool, true, false, List, [], ◌∷◌, ◌++◌, refl, sym, ap, ◌∙◌, subst, ⊎_elim, arith}
use Rattle.std.specs.Prelude.{◌&&◌, if◌then◌else◌}
use Rattle.std.proofs.lemmas.Bool.{cases_eq, cases_lt, ne_eqb, eq-eqb, true≢false}
use Rattle.std.proofs.lemmas.List.{get_or_past}
use Rattle.amo_sets.specs.Lists.{table}
use Rattle.amo_sets.proofs.Tables.{numbered-table}
use Rattle.amo_sets.proofs.Numbers.{length-table}
use Rattle.amo_params.specs.Givens.{AreGivens}
use Rattle.amo_kk.specs.Lawful.{IsLawful}
use Rattle.amo_kk.specs.Step.{want, record_after_leave}
use Rattle.amo_kk.specs.Choice.{first_record}
use Rattle.amo_params.specs.Moves.{worker_of}
use Rattle.amo_kk.specs.World.{nobody, process, process_after, loaded_value, first_process, opening_world, world_with, world_after_turn, world_after_halt, world_after_leave, world_after_move}
use Rattle.amo_kk.specs.declared.event.Event.TheVariants.{Halted, Left as LeftEvent}
use Rattle.amo_params.specs.declared.moves.Move.{Move}
use Rattle.amo_params.specs.declared.moves.Move.TheVariants.{Turn, Halt, Leave}
use Rattle.amo_params.specs.declared.givens.Givens.{Givens}
use Rattle.amo_kk.specs.declared.model.Process.{Process}
use Rattle.amo_kk.specs.declared.model.Record.{Record}
use Rattle.amo_kk.specs.declared.model.World.{World}
use Rattle.amo_kk.specs.declared.phase.Want.TheVariants.{StoreNext}
use Rattle.amo_kk.specs.Record.{can_leave, empty_record}
use Rattle.amo_kk.proofs.Choice.{choice_cases}
use Rattle.amo_kk.proofs.Moves.{turned_local, move_other}
use Rattle.amo_kk.proofs.Shows.{idle}
use Rattle.amo_kk.proofs.Worlds.{here_is_worker, put_here, move_lawful}
use Rattle.amo_trace.specs.declared.transition.Act.{Act}
use Rattle.amo_trace.specs.declared.transition.Act.TheVariants.{Turned, Leaves, Stops, Stays, Idles}
use Rattle.amo_trace.specs.declared.transition.Transition.{Transition}
use Rattle.amo_trace.specs.Attempts.{has_met_in, has_met_after, has_met_since, looks_on}
use Rattle.amo_trace.specs.Transitions.{act_of, transition_of, all_gone, transitions, job_of, loads, fails, has_chosen}
use Rattle.amo_trace.proofs.Attempts.{Stands, Decides, chosen_if_met, step_decides}

-- what holds of the record of a worker after an act of its own, j being its job before
abbrev Goes : Bool → ℕ → Record → Act → Type 0
Goes met j r a =
    let after = has_met_in met j a in
    Stands after r.known r.tried r.phase × (loads a ≡ true → Decides after r.phase)

no_load : {X : Type 0} → false ≡ true → X
no_load e = absurd (true≢false (sym e))

module _ (g : Givens) (w : World) (law : IsLawful g w) where
  module _ (p : ℕ) (met : Bool) (h : (let r = (process w p).local in Stands met r.known r.tried r.phase)) where
    abbrev r : Record
    r = (process w p).local

    abbrev j : ℕ
    j = job_of r.phase

    turns : Goes met j (process (world_after_turn g w p) p).local (act_of w (Turn p))
    turns = go (process w p).gone refl
      where
        go : (b : Bool) → (process w p).gone ≡ b → Goes met j (process (world_after_turn g w p) p).local (if b then Idles else Turned (want r) (loaded_value w (want r)))
        go true e = subst (λ (u : World). Goes met j (process u p).local Idles) (sym (idle g w p e)) (h, no_load)
        go false e =
            let o = here_is_worker g w p law.size e in
            subst (λ (y : Record). Goes met j y (Turned (want r) (loaded_value w (want r)))) (sym (turned_local g w p law e))
            (step_decides g p o r (loaded_value w (want r)) (law.lawful.sound p o).local met h)

    stops : Goes met j (process (world_after_halt w p) p).local (act_of w (Halt p))
    stops = go (process w p).gone refl
      where
        go : (b : Bool) → (process w p).gone ≡ b
            → Goes met j (process (if b then w else world_with w p (record (process w p) { gone = true }) (Halted p ∷ [])) p).local (if b then Idles else Stops)
        go true e = (h, no_load)
        go false e = subst (λ (a : Process). Goes met j a.local Stops) (sym (put_here g w p _ law.size (here_is_worker g w p law.size e))) (h, no_load)

    leaves : Goes met j (process (world_after_leave w p) p).local (act_of w (Leave p))
    leaves = go (process w p).gone (can_leave r.phase) refl
      where
        a : Process
        a = process_after (StoreNext 0) (process w p) (record_after_leave r)

        go : (b c : Bool) → (process w p).gone ≡ b
            → Goes met j (process (if b then w else (if c then world_with w p a (LeftEvent p ∷ []) else w)) p).local (if b then Idles else (if c then Leaves else Stays))
        go true c e = (h, no_load)
        go false false e = (h, no_load)
        go false true e = subst (λ (x : Process). Goes met j x.local Leaves) (sym (put_here g w p a law.size (here_is_worker g w p law.size e))) (tt, no_load)

  moves : (m : Move) (met : Bool) → (let x = (process w (worker_of m)).local in Stands met x.known x.tried x.phase)
      → Goes met (job_of (process w (worker_of m)).local.phase) (process (world_after_move g w m) (worker_of m)).local (act_of w m)
  moves (Turn p) met h = turns p met h
  moves (Halt p) met h = stops p met h
  moves (Leave p) met h = leaves p met h

-- what holds of all workers
abbrev pub AllStand : World → (ℕ → Bool) → Type 0
AllStand w met = (p : ℕ) → (let r = (process w p).local in Stands (met p) r.known r.tried r.phase)

-- the transition s after those before ends its attempt by what was met in it
abbrev pub IsDecided : List Transition → (ℕ → Bool) → Transition → Type 0
IsDecided before met s = loads s.act ≡ true → looks_on s.after ≡ false → fails s ≡ has_met_since s.worker (met s.worker) (before ++ s ∷ [])

no_transitions : {X : Type 0} (before after : List Transition) (s : Transition) → [] ≡ before ++ s ∷ after → X
no_transitions [] after s e = absurd cc
no_transitions (b ∷ bs) after s e = absurd cc

module _ (g : Givens) (w : World) (law : IsLawful g w) (met : ℕ → Bool) (all : AllStand w met) (i : ℕ) (m : Move) where
  abbrev this : Transition
  this = transition_of g w i m

  abbrev p : ℕ
  p = worker_of m

  own : Goes (met p) (job_of (process w p).local.phase) (process (world_after_move g w m) p).local (act_of w m)
  own = moves g w law m (met p) (all p)

  itself : has_met_after p (met p) this ≡ has_met_in (met p) (job_of this.before) this.act
  itself = ap (λ b. if b then has_met_in (met p) (job_of this.before) this.act else met p) (eq-eqb p p refl)

  stand_after : AllStand (world_after_move g w m) (λ q. has_met_after q (met q) this)
  stand_after q = ⊎_elim
      (λ (e : q ≡ p). subst (λ x. let y = (process (world_after_move g w m) x).local in Stands (has_met_after x (met x) this) y.known y.tried y.phase) (sym e)
      (subst (λ b. let y = (process (world_after_move g w m) p).local in Stands b y.known y.tried y.phase) (sym itself) own.0))
      (λ (n : q ≢ p). subst (λ (a : Process). Stands (has_met_after q (met q) this) a.local.known a.local.tried a.local.phase) (sym (move_other g w m q n))
      (subst (λ b. let y = (process w q).local in Stands (if b then has_met_in (met q) (job_of this.before) this.act else met q) y.known y.tried y.phase)
      (sym (ne_eqb p q (λ e. n (sym e)))) (all q)))
      (cases_eq q p)

  decided_here : loads this.act ≡ true → looks_on this.after ≡ false → fails this ≡ has_met_after p (met p) this
  decided_here l over =
      ap (λ b. b && has_chosen this.after) l ∙ chosen_if_met (has_met_in (met p) (job_of this.before) this.act) this.after (own.1 l) over ∙ sym itself

  -- this transition is the one, or one of the transitions after it is
  this_or_later : (ms : List Move) (before after : List Transition) (s : Transition)
      → ((bs : List Transition) → transitions g (world_after_move g w m) (i + 1) ms ≡ bs ++ s ∷ after → IsDecided bs (λ q. has_met_after q (met q) this) s)
      → transitions g w i (m ∷ ms) ≡ before ++ s ∷ after → IsDecided before met s
  this_or_later ms before after s later = go (all_gone g w)
    where
      rest : List Transition
      rest = transitions g (world_after_move g w m) (i + 1) ms

      split : (bs : List Transition) → this ∷ rest ≡ bs ++ s ∷ after → IsDecided bs met s
      split [] f = let same : this ≡ s = cc in subst (λ (x : Transition). IsDecided [] met x) same decided_here
      split (b ∷ bs) f =
          let same : this ≡ b = cc in
          let more : rest ≡ bs ++ s ∷ after = cc in
          subst (λ (x : Transition). IsDecided (x ∷ bs) met s) same (later bs more)

      go : (b : Bool) → (if b then [] else this ∷ rest) ≡ before ++ s ∷ after → IsDecided before met s
      go true f = no_transitions before after s f
      go false f = split before f

pub decided : (g : Givens) (w : World) (i : ℕ) (ms : List Move) → AreGivens g → IsLawful g w → (met : ℕ → Bool) → AllStand w met
    → (before after : List Transition) (s : Transition) → transitions g w i ms ≡ before ++ s ∷ after → IsDecided before met s
decided g w i [] ok law met all before after s e = no_transitions before after s e
decided g w i (m ∷ ms) ok law met all before after s e =
    this_or_later g w law met all i m ms before after s
    (λ bs f. decided g (world_after_move g w m) (i + 1) ms ok (move_lawful g w m ok law) (λ q. has_met_after q (met q) (transition_of g w i m)) (stand_after g w law met all i m) bs after s f) e

-- ---- the opening world

first_stands : (g : Givens) (p : ℕ) → (let r = first_record g p in Stands false r.known r.tried r.phase)
first_stands g p = choice_cases g p (empty_record g) (λ y. Stands false y.known y.tried y.phase) (λ _. tt) (λ _. refl)

pub opening_stands : (g : Givens) → AllStand (opening_world g) (λ _. false)
opening_stands g zero = tt
opening_stands g (suc k) = ⊎_elim
    (λ (l : k < g.workers). subst (λ (a : Process). Stands false a.local.known a.local.tried a.local.phase)
    (sym (numbered-table nobody (first_process g) g.workers (suc k) (omega arith) (omega arith))) (first_stands g (suc k)))
    (λ (l : g.workers ≤ k). subst (λ (a : Process). Stands false a.local.known a.local.tried a.local.phase)
    (sym (get_or_past (table g.workers (first_process g)) k nobody (let size = length-table (first_process g) g.workers in omega arith))) tt)
    (cases_lt k g.workers)
