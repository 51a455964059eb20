-- The history of a world is a run of the object, whose state agrees with the world.
use Rattle.std.proofs.Common.{◌≡◌, ◌≢◌, ⊎_elim, ℕ, zero, suc, ◌+◌, ◌-◌, ◌<◌, ◌≤◌, Bool, true, false, List, [], ◌∷◌, ◌++◌, length, refl, sym, ap, ◌∙◌, subst, arith, append-nil}
use Rattle.std.proofs.lemmas.List.{get_or_past}
use Rattle.std.specs.Prelude.{if◌then◌else◌, nat_le, nat_lt, ◌==◌, ◌^◌, min}
use Rattle.std.proofs.lemmas.Bool.{cases_eq, cases_lt, true≢false, false_from_ne_true, and_from, or_from, le-leb, lt-leb, ltb-true, ltb-false, eq-eqb, ne_eqb}
use Rattle.amo_sets.specs.Lists.{numbered, put, table}
use Rattle.amo_sets.specs.Sets.{has, AreDistinct, with_number}
use Rattle.amo_sets.specs.Rank.{count}
use Rattle.amo_params.specs.Givens.{AreGivens, IsJob, IsWorker, next_other}
use Rattle.amo_kk.specs.Object.{first_object, object_after}
use Rattle.amo_kk.specs.Run.{object_after_all, IsRun}
use Rattle.amo_kk.specs.Record.{empty_record, is_open, is_over, wants_nothing, can_leave, job_in_hand}
use Rattle.amo_kk.specs.Choice.{record_after_choice, record_after_check, first_record}
use Rattle.amo_kk.specs.Step.{want, with_announced, record_at_row, record_at_announcement, record_after_phase, record_after, record_after_leave, shown, events_of, ended_if_over}
use Rattle.amo_kk.specs.World.{nobody, process, loaded_value, process_after, world_with, world_after_step, world_after_turn, world_after_halt, world_after_leave, world_after_move, world_after_moves, first_process, opening_world, world_of}
use Rattle.amo_kk.specs.Lawful.{IsSoundProcess, AreLawful, IsLawful, jobs_of, Agrees, object_of, HasRun, GoesOn}
use Rattle.amo_params.specs.declared.givens.Givens.{Givens}
use Rattle.amo_kk.specs.declared.phase.Phase.{Phase}
use Rattle.amo_kk.specs.declared.phase.Phase.TheVariants.{Announcing, Trying, Reading, Claiming, Holding}
use Rattle.amo_kk.specs.declared.model.Record.{Record}
use Rattle.amo_kk.specs.declared.phase.Want.{Want}
use Rattle.amo_kk.specs.declared.phase.Want.TheVariants.{StoreNext}
use Rattle.amo_kk.specs.declared.model.Process.{Process}
use Rattle.amo_kk.specs.declared.model.World.{World}
use Rattle.amo_params.specs.declared.moves.Move.{Move}
use Rattle.amo_params.specs.declared.moves.Move.TheVariants.{Turn, Halt, Leave}
use Rattle.amo_kk.specs.declared.model.Object.{Object}
use Rattle.amo_kk.specs.declared.event.Event.{Event}
use Rattle.amo_kk.specs.declared.event.Event.TheVariants.{Claimed, Done, Ended, Halted, Left as LeftEvent}
use Rattle.amo_kk.specs.declared.event.Shown.TheVariants.{Quiet, Done as DoneShown, DoneEnded, Ended as EndedShown}
use Rattle.amo_kk.proofs.Choice.{after_rests, choice_cases, check_cases, to_row_cases, to_announcement_cases}
use Rattle.amo_kk.proofs.Kept.{IsKept}
use Rattle.amo_sets.proofs.Numbers.{has_push, has-get_or, get_or-has, count_true, count_le_all, numbered-put_other, length-table}
use Rattle.amo_sets.proofs.Tables.{get_or-table, numbered-table, numbered-table_same}
use Rattle.amo_kk.proofs.Worlds.{here_is_worker, put_here, turn_lawful, move_lawful, leaves_empty, opening_lawful, turned_kept}
use Rattle.amo_kk.proofs.Ends.{over_few}
use Rattle.amo_kk.proofs.Steps.{enough, is_here_now, agrees_claim, agrees_done, agrees_gone, agrees_same}

-- what a step did to the lists and the hand
pub record Did (r x : Record) (claims dones : List ℕ) (held : ℕ) : Type 0 where
  pub claimed : x.claimed ≡ r.claimed ++ claims
  pub done : x.dones ≡ r.dones ++ dones
  pub held_now : job_in_hand x.phase ≡ held

-- and so the step of each phase
abbrev pub HasDone : Record → Record → Phase → Type 0
HasDone r x (Claiming j) = Did r x (j ∷ []) [] j
HasDone r x (Holding j) = Did r x [] (j ∷ []) 0
HasDone r x phase = Did r x [] [] 0

pub has_done : (g : Givens) (p v : ℕ) (r : Record) (phase : Phase) → r.phase ≡ phase → HasDone r (record_after_phase g p v r phase) phase
has_done g p v r phase is = go phase is
  where
    P : Record → Type 0
    P x = Did r x [] [] 0

    same : (x : Record) → x.claimed ≡ r.claimed → x.dones ≡ r.dones → job_in_hand x.phase ≡ 0 → Did r x [] [] 0
    same x c d h = record { claimed = c ∙ sym (append-nil r.claimed); done = d ∙ sym (append-nil r.dones); held_now = h }

    choose : (x : Record) → x.claimed ≡ r.claimed → x.dones ≡ r.dones → Did r (record_after_choice g p x) [] [] 0
    choose x c d = choice_cases g p x (λ y. Did r y [] [] 0) (λ _. same _ c d refl) (λ _. same _ c d refl)

    look : (j : ℕ) (x : Record) → x.claimed ≡ r.claimed → x.dones ≡ r.dones → Did r (record_after_check g p j x) [] [] 0
    look j x c d = check_cases g p j x (λ y. Did r y [] [] 0) (λ _ _. same _ c d refl) (choose x c d)

    row : (j q : ℕ) (x : Record) → x.claimed ≡ r.claimed → x.dones ≡ r.dones → Did r (record_at_row g p j q x) [] [] 0
    row j q x c d = to_row_cases g p j q x (λ y. Did r y [] [] 0) (λ _. same _ c d refl) (λ _. look j x c d)

    ann : (j q : ℕ) (x : Record) → x.claimed ≡ r.claimed → x.dones ≡ r.dones → Did r (record_at_announcement g p j q x) [] [] 0
    ann j q x c d = to_announcement_cases g p j q x (λ y. Did r y [] [] 0) (λ _. same _ c d refl) (λ _. row j (next_other p 0) x c d)

    go : (phase : Phase) → r.phase ≡ phase → HasDone r (record_after_phase g p v r phase) phase
    go (Announcing j) is = ann j (next_other p 0) r refl refl
    go (Trying j q) is = ann j (next_other p q) (record r { tried = with_announced v r.tried }) refl refl
    go (Reading j q) is = read (v == 0)
      where
        read : (b : Bool) → Did r (if b then record_at_row g p j (next_other p q) r else record r { known = with_number v r.known; fronts = put r.fronts q (numbered 0 r.fronts q + 1) }) [] [] 0
        read true = row j (next_other p q) r refl refl
        read false = same _ refl refl (ap job_in_hand is)
    go (Claiming j) is = record { claimed = refl; done = sym (append-nil r.dones); held_now = refl }
    go (Holding j) is = choice_cases g p (record r { dones = r.dones ++ j ∷ []; known = with_number j r.known }) (λ y. Did r y [] (j ∷ []) 0)
        (λ _. record { claimed = sym (append-nil r.claimed); done = refl; held_now = refl })
        (λ _. record { claimed = sym (append-nil r.claimed); done = refl; held_now = refl })
    go phase is = same r refl refl (ap job_in_hand is)

pub stored_local : (x : Want) (a : Process) (r : Record) → (process_after x a r).local ≡ r
stored_local (StoreNext j) a r = refl
stored_local want a r = refl

pub stored_gone : (x : Want) (a : Process) (r : Record) → (process_after x a r).gone ≡ wants_nothing r.phase
stored_gone (StoreNext j) a r = refl
stored_gone want a r = refl

-- what a step shows, in two parts: its claim or performance, and the end of the worker

abbrev claimed_or_done : ℕ → Phase → List Event
claimed_or_done p (Claiming j) = Claimed p j ∷ []
claimed_or_done p (Holding j) = Done p j ∷ []
claimed_or_done p phase = []

shows : (g : Givens) (p v : ℕ) (r : Record) → wants_nothing r.phase ≡ false → events_of p (shown r.phase (record_after g p v r).phase) ≡ claimed_or_done p r.phase ++ ended_if_over p (record_after g p v r).phase
shows g p v r wants = go r.phase refl
  where
    quiet : (b : Bool) → events_of p (if b then EndedShown else Quiet) ≡ (if b then Ended p ∷ [] else [])
    quiet true = refl
    quiet false = refl

    done : (j : ℕ) (b : Bool) → events_of p (if b then DoneEnded j else DoneShown j) ≡ Done p j ∷ (if b then Ended p ∷ [] else [])
    done j true = refl
    done j false = refl

    go : (phase : Phase) → r.phase ≡ phase → events_of p (shown r.phase (record_after_phase g p v r r.phase).phase) ≡ claimed_or_done p r.phase ++ ended_if_over p (record_after_phase g p v r r.phase).phase
    go (Announcing j) is = subst (λ x. events_of p (shown x (record_after_phase g p v r x).phase) ≡ claimed_or_done p x ++ ended_if_over p (record_after_phase g p v r x).phase) (sym is) (quiet (is_over (record_after_phase g p v r (Announcing j)).phase))
    go (Trying j q) is = subst (λ x. events_of p (shown x (record_after_phase g p v r x).phase) ≡ claimed_or_done p x ++ ended_if_over p (record_after_phase g p v r x).phase) (sym is) (quiet (is_over (record_after_phase g p v r (Trying j q)).phase))
    go (Reading j q) is = subst (λ x. events_of p (shown x (record_after_phase g p v r x).phase) ≡ claimed_or_done p x ++ ended_if_over p (record_after_phase g p v r x).phase) (sym is) (quiet (is_over (record_after_phase g p v r (Reading j q)).phase))
    go (Claiming j) is = subst (λ x. events_of p (shown x (record_after_phase g p v r x).phase) ≡ claimed_or_done p x ++ ended_if_over p (record_after_phase g p v r x).phase) (sym is) refl
    go (Holding j) is = subst (λ x. events_of p (shown x (record_after_phase g p v r x).phase) ≡ claimed_or_done p x ++ ended_if_over p (record_after_phase g p v r x).phase) (sym is) (done j (is_over (record_after_phase g p v r (Holding j)).phase))
    go phase is = absurd (true≢false (sym (ap wants_nothing is) ∙ wants))

-- runs one after the other
object_after_all-append : (s : Object) (es fs : List Event) → object_after_all s (es ++ fs) ≡ object_after_all (object_after_all s es) fs
object_after_all-append s [] fs = refl
object_after_all-append s (e ∷ es) fs = object_after_all-append (object_after s e) es fs

IsRun-append : (g : Givens) (s : Object) (es fs : List Event) → IsRun g s es → IsRun g (object_after_all s es) fs → IsRun g s (es ++ fs)
IsRun-append g s [] fs h k = k
IsRun-append g s (e ∷ es) fs h k = (h.0, IsRun-append g (object_after s e) es fs h.1 k)

-- some events from s on, which lead to a state that agrees
pub record Goes (g : Givens) (at : ℕ → Process) (s : Object) (es : List Event) : Type 0 where
  pub run : IsRun g s es
  pub agrees : Agrees g at (object_after_all s es)

goes_on : (g : Givens) (at now : ℕ → Process) (s : Object) (es fs : List Event) → Goes g at s es → Goes g now (object_after_all s es) fs → Goes g now s (es ++ fs)
goes_on g at now s es fs h k = record { run = IsRun-append g s es fs h.run k.run; agrees = subst (λ x. Agrees g now x) (sym (object_after_all-append s es fs)) k.agrees }

-- the last of a distinct list is not before it
pub distinct_last : (xs : List ℕ) (j : ℕ) → AreDistinct (xs ++ j ∷ []) → has xs j ≡ false
distinct_last [] j d = refl
distinct_last (x ∷ xs) j d = or_from (x == j) (has xs j) (ne_eqb x j (λ e. true≢false (sym (subst (λ y. has (xs ++ j ∷ []) y ≡ true) (sym e) (has_push xs j)) ∙ d.0))) (distinct_last xs j d.1)

module _ (g : Givens) (ok : AreGivens g) (at : ℕ → Process) (law : AreLawful g at) (s : Object) (agrees : Agrees g at s) (p : ℕ) (o : IsWorker g p) (here : (at p).gone ≡ false) where
  -- what the step itself shows, where p isn't gone yet
  deed_goes : (x : Record) → HasDone (at p).local x (at p).local.phase → (b : Process) → IsKept g at p b → b.local ≡ x → (now : ℕ → Process) (a : Process) → a.local ≡ x → a.gone ≡ false → now p ≡ a → ((q : ℕ) → q ≢ p → now q ≡ at q)
      → Goes g now s (claimed_or_done p (at p).local.phase)
  deed_goes x did b kept same now a is stays is_now others = go (at p).local.phase refl did
    where
      quiet : Did (at p).local x [] [] 0 → job_in_hand (at p).local.phase ≡ 0 → Agrees g now s
      quiet d e = agrees_same g at s agrees p o here a now is_now others
          (ap (λ (y : Record). y.claimed) is ∙ d.claimed ∙ append-nil _) (ap (λ (y : Record). y.dones) is ∙ d.done ∙ append-nil _) (ap (λ (y : Record). job_in_hand y.phase) is ∙ d.held_now ∙ sym e) (stays ∙ sym here)

      go : (phase : Phase) → (at p).local.phase ≡ phase → HasDone (at p).local x phase → Goes g now s (claimed_or_done p phase)
      go (Claiming j) e d =
          let stands : IsJob g j × (has (at p).local.known j ≡ false) × (has (at p).local.tried j ≡ false) = rw e at (law.sound p o).local.stands in
          let claimed : b.local.claimed ≡ (at p).local.claimed ++ j ∷ [] = ap (λ (y : Record). y.claimed) same ∙ d.claimed in
          let free : (q : ℕ) → IsWorker g q → has (at q).local.claimed j ≡ false = λ q w. ⊎_elim
          (λ (i : q ≡ p). subst (λ y. has (at y).local.claimed j ≡ false) (sym i) (distinct_last (at p).local.claimed j (subst (λ l. AreDistinct l) claimed kept.sound.local.distinct)))
          (λ n. (kept.mine q (record { worker = w; differs = n })).claims j (ap (λ l. has l j) claimed ∙ has_push (at p).local.claimed j))
          (cases_eq q p) in
          let step = agrees_claim g at s agrees p o here a now is_now others j stands.0 free (ap job_in_hand e)
          (ap (λ (y : Record). y.claimed) is ∙ d.claimed) (ap (λ (y : Record). y.dones) is ∙ d.done ∙ append-nil _) (ap (λ (y : Record). job_in_hand y.phase) is ∙ d.held_now) stays in
          record { run = (step.0, tt); agrees = step.1 }
      go (Holding j) e d =
          let stands : IsJob g j × (has (at p).local.known j ≡ false) × (has (at p).local.tried j ≡ false) = rw e at (law.sound p o).local.stands in
          let step = agrees_done g at s agrees p o here a now is_now others j stands.0 (ap job_in_hand e)
          (ap (λ (y : Record). y.claimed) is ∙ d.claimed ∙ append-nil _) (ap (λ (y : Record). y.dones) is ∙ d.done) (ap (λ (y : Record). job_in_hand y.phase) is ∙ d.held_now) stays in
          record { run = (step.0, tt); agrees = step.1 }
      go phase e d = record { run = tt; agrees = quiet d (ap job_in_hand e) }

-- the end of a worker, if it is over
pub ending_goes : (g : Givens) (at : ℕ → Process) (s : Object) (p : ℕ) (a : Process) (now : ℕ → Process) → AreGivens g → AreLawful g now → IsWorker g p
    → Agrees g at s → (at p).gone ≡ false → at p ≡ record a { gone = false } → a.gone ≡ is_over a.local.phase → now p ≡ a → ((q : ℕ) → q ≢ p → now q ≡ at q)
    → Goes g now s (ended_if_over p a.local.phase)
ending_goes g at s p a now ok law o agrees here was gone is_now others = go (is_over a.local.phase) refl
  where
    same : (at p).local ≡ a.local
    same = ap (λ (x : Process). x.local) was

    go : (b : Bool) → is_over a.local.phase ≡ b → Goes g now s (if b then Ended p ∷ [] else [])
    go false e = record {
      run = tt;
      agrees = agrees_same g at s agrees p o here a now is_now others (ap (λ (y : Record). y.claimed) (sym same)) (ap (λ (y : Record). y.dones) (sym same)) (ap (λ (y : Record). job_in_hand y.phase) (sym same)) (gone ∙ e ∙ sym here);
    }
    go true e = record {
      run = (and_from _ _ (is_here_now g at s agrees p o here a now is_now others) (and_from _ _ (eq-eqb _ _ (agrees.in_hand p o ∙ ap (λ (y : Record). job_in_hand y.phase) same ∙ empty a.local.phase e)) (le-leb _ _ many)), tt);
      agrees = agrees_gone g at s agrees p o here a now is_now others (ap (λ (y : Record). y.claimed) (sym same)) (ap (λ (y : Record). y.dones) (sym same)) (ap (λ (y : Record). job_in_hand y.phase) (sym same)) (gone ∙ e);
    }
      where
        empty : (phase : Phase) → is_over phase ≡ true → job_in_hand phase ≡ 0
        empty (Holding j) h = absurd (true≢false (sym h))
        empty phase h = refl

        sound : IsSoundProcess g p a
        sound = subst (λ x. IsSoundProcess g p x) is_now (law.sound p o)

        performed_now : (q : ℕ) → jobs_of s.performed q ≡ (now q).local.dones
        performed_now q = ⊎_elim
            (λ (i : q ≡ p). subst (λ x. jobs_of s.performed x ≡ (now x).local.dones) (sym i) (agrees.performed p ∙ ap (λ (y : Record). y.dones) same ∙ ap (λ (x : Process). x.local.dones) (sym is_now)))
            (λ n. agrees.performed q ∙ ap (λ (x : Process). x.local.dones) (sym (others q n)))
            (cases_eq q p)

        many : g.jobs + 2 ≤ length s.performed + g.beta + g.workers
        many = enough g a.local s.performed ok.some (over_few g p a.local a.local.phase e sound.local.stands) sound.local.tried_few
            (λ j h. let d = law.known p j o (subst (λ x. has x.local.known j ≡ true) (sym is_now) h) in (d.0, ap (λ l. has l j) (performed_now d.0) ∙ d.2))

counted : (r x : Record) (n : ℕ) (phase : Phase) → HasDone r x phase → HasDone r (record x { steps = n }) phase
counted r x n (Announcing j) d = record { claimed = d.claimed; done = d.done; held_now = d.held_now }
counted r x n phase d = record { claimed = d.claimed; done = d.done; held_now = d.held_now }

-- each move goes on from any state that agrees with the world

stays_on : (g : Givens) (s : Object) (w : World) → Agrees g (process w) s → GoesOn g s w w
stays_on g s w agrees = record { events = []; history = sym (append-nil w.history); run = tt; agrees = agrees }

turn_goes : (g : Givens) (s : Object) (w : World) (p : ℕ) → AreGivens g → IsLawful g w → Agrees g (process w) s → GoesOn g s w (world_after_turn g w p)
turn_goes g s w p ok law agrees = go (process w p).gone refl
  where
    go : (b : Bool) → (process w p).gone ≡ b → GoesOn g s w (if b then w else world_after_step g w p (process w p))
    go true e = stays_on g s w agrees
    go false e = record { events = events_of p (shown r.phase x.phase); history = refl; run = both.run; agrees = both.agrees }
      where
        o : IsWorker g p
        o = here_is_worker g w p law.size e

        r : Record
        r = (process w p).local

        x : Record
        x = record_after g p (loaded_value w (want r)) r

        a : Process
        a = process_after (want r) (process w p) x

        v : World
        v = world_after_step g w p (process w p)

        now_p : process v p ≡ a
        now_p = put_here g w p a law.size o

        now_q : (q : ℕ) → q ≢ p → process v q ≡ process w q
        now_q q n = numbered-put_other nobody a w.processes p q n

        after_law : IsLawful g v
        after_law = subst (λ b. IsLawful g (if b then w else world_after_step g w p (process w p))) e (turn_lawful g w p ok law)

        -- before it is gone
        stay : Process
        stay = record a { gone = false }

        mid : ℕ → Process
        mid q = if q == p then stay else process w q

        mid_p : mid p ≡ stay
        mid_p = ap (λ b. if b then stay else process w p) (eq-eqb p p refl)

        mid_q : (q : ℕ) → q ≢ p → mid q ≡ process w q
        mid_q q n = ap (λ b. if b then stay else process w q) (ne_eqb q p n)

        did : HasDone r x r.phase
        did = counted r (record_after_phase g p (loaded_value w (want r)) r r.phase) (min (r.steps + 1) (2 ^ 64 - 1)) r.phase (has_done g p (loaded_value w (want r)) r r.phase refl)

        wants : wants_nothing r.phase ≡ false
        wants = false_from_ne_true _ (λ h. true≢false (sym ((law.lawful.sound p o).gone h) ∙ e))

        rests : wants_nothing x.phase ≡ is_over x.phase
        rests = after_rests g p (loaded_value w (want r)) r wants

        local_is : a.local ≡ x
        local_is = stored_local (want r) (process w p) x

        first : Goes g mid s (claimed_or_done p r.phase)
        first = deed_goes g ok (process w) law.lawful s agrees p o e x did a (turned_kept g w p ok law o e) local_is mid stay local_is refl mid_p mid_q

        last : Goes g (process v) (object_after_all s (claimed_or_done p r.phase)) (ended_if_over p a.local.phase)
        last = ending_goes g mid (object_after_all s (claimed_or_done p r.phase)) p a (process v) ok after_law.lawful o first.agrees (ap (λ (y : Process). y.gone) mid_p) mid_p
            (stored_gone (want r) (process w p) x ∙ rests ∙ ap (λ (y : Record). is_over y.phase) (sym local_is)) now_p (λ q n. now_q q n ∙ sym (mid_q q n))

        both : Goes g (process v) s (events_of p (shown r.phase x.phase))
        both = subst (λ l. Goes g (process v) s l) (sym (shows g p (loaded_value w (want r)) r wants))
            (subst (λ (y : Record). Goes g (process v) s (claimed_or_done p r.phase ++ ended_if_over p y.phase)) local_is
            (goes_on g mid (process v) s (claimed_or_done p r.phase) (ended_if_over p a.local.phase) first last))

halt_goes : (g : Givens) (s : Object) (w : World) (p : ℕ) → IsLawful g w → Agrees g (process w) s → GoesOn g s w (world_after_halt w p)
halt_goes g s w p law agrees = go (process w p).gone refl
  where
    go : (b : Bool) → (process w p).gone ≡ b → GoesOn g s w (if b then w else world_with w p (record (process w p) { gone = true }) (Halted p ∷ []))
    go true e = stays_on g s w agrees
    go false e = record { events = Halted p ∷ []; history = refl; run = (is_here_now g (process w) s agrees p o e a (process v) now_p now_q, tt); agrees = agrees_gone g (process w) s agrees p o e a (process v) now_p now_q refl refl refl refl }
      where
        o : IsWorker g p
        o = here_is_worker g w p law.size e

        a : Process
        a = record (process w p) { gone = true }

        v : World
        v = world_with w p (record (process w p) { gone = true }) (Halted p ∷ [])

        now_p : process v p ≡ a
        now_p = put_here g w p a law.size o

        now_q : (q : ℕ) → q ≢ p → process v q ≡ process w q
        now_q q n = numbered-put_other nobody a w.processes p q n

leave_goes : (g : Givens) (s : Object) (w : World) (p : ℕ) → IsLawful g w → Agrees g (process w) s → GoesOn g s w (world_after_leave w p)
leave_goes g s w p law agrees = go (process w p).gone (can_leave (process w p).local.phase) refl refl
  where
    go : (b c : Bool) → (process w p).gone ≡ b → can_leave (process w p).local.phase ≡ c → GoesOn g s w (if b then w else (if c then world_with w p (process_after (StoreNext 0) (process w p) (record_after_leave (process w p).local)) (LeftEvent p ∷ []) else w))
    go true c e f = stays_on g s w agrees
    go false false e f = stays_on g s w agrees
    go false true e f =
        record {
          events = LeftEvent p ∷ [];
          history = refl;
          run = (and_from _ _ (is_here_now g (process w) s agrees p o e a (process v) now_p now_q) (eq-eqb _ _ (agrees.in_hand p o ∙ empty)), tt);
          agrees = agrees_gone g (process w) s agrees p o e a (process v) now_p now_q refl refl (sym empty) refl;
        }
      where
        o : IsWorker g p
        o = here_is_worker g w p law.size e

        a : Process
        a = process_after (StoreNext 0) (process w p) (record_after_leave (process w p).local)

        v : World
        v = world_with w p (process_after (StoreNext 0) (process w p) (record_after_leave (process w p).local)) (LeftEvent p ∷ [])

        now_p : process v p ≡ a
        now_p = put_here g w p a law.size o

        now_q : (q : ℕ) → q ≢ p → process v q ≡ process w q
        now_q q n = numbered-put_other nobody a w.processes p q n

        empty : job_in_hand (process w p).local.phase ≡ 0
        empty = ap (λ l. numbered 0 l 1) (leaves_empty (process w p).local.phase f)

pub move_goes : (g : Givens) (s : Object) (w : World) (m : Move) → AreGivens g → IsLawful g w → Agrees g (process w) s → GoesOn g s w (world_after_move g w m)
move_goes g s w (Turn p) ok law agrees = turn_goes g s w p ok law agrees
move_goes g s w (Halt p) ok law agrees = halt_goes g s w p law agrees
move_goes g s w (Leave p) ok law agrees = leave_goes g s w p law agrees

-- so what goes on from a world with a run has a run
runs_on : (g : Givens) (w v : World) → HasRun g w → GoesOn g (object_of g w) w v → HasRun g v
runs_on g w v run more =
    let all = goes_on g (process w) (process v) (first_object g) w.history more.events (record { run = run.0; agrees = run.1 }) (record { run = more.run; agrees = more.agrees }) in
    (subst (λ l. IsRun g (first_object g) l) (sym more.history) all.run, subst (λ l. Agrees g (process v) (object_after_all (first_object g) l)) (sym more.history) all.agrees)

pub turn_runs : (g : Givens) (w : World) (p : ℕ) → AreGivens g → IsLawful g w → HasRun g w → HasRun g (world_after_turn g w p)
turn_runs g w p ok law run = runs_on g w (world_after_turn g w p) run (turn_goes g (object_of g w) w p ok law run.1)

pub halt_runs : (g : Givens) (w : World) (p : ℕ) → IsLawful g w → HasRun g w → HasRun g (world_after_halt w p)
halt_runs g w p law run = runs_on g w (world_after_halt w p) run (halt_goes g (object_of g w) w p law run.1)

pub leave_runs : (g : Givens) (w : World) (p : ℕ) → IsLawful g w → HasRun g w → HasRun g (world_after_leave w p)
leave_runs g w p law run = runs_on g w (world_after_leave w p) run (leave_goes g (object_of g w) w p law run.1)

-- the opening world

agrees_at : (g : Givens) (at now : ℕ → Process) (s : Object) → Agrees g at s → ((q : ℕ) → (now q).local ≡ (at q).local) → ((q : ℕ) → IsWorker g q → (now q).gone ≡ (at q).gone) → Agrees g now s
agrees_at g at now s agrees same gone =
    record {
      unclaimed = λ j job free. agrees.unclaimed j job (λ q o. ap (λ (x : Record). has x.claimed j) (sym (same q)) ∙ free q o);
      only_unclaimed = λ j h. let was = agrees.only_unclaimed j h in (was.0, λ q o. ap (λ (x : Record). has x.claimed j) (same q) ∙ was.1 q o);
      in_hand_size = agrees.in_hand_size;
      in_hand = λ q o. agrees.in_hand q o ∙ ap (λ (x : Record). job_in_hand x.phase) (sym (same q));
      performed = λ q. agrees.performed q ∙ ap (λ (x : Record). x.dones) (sym (same q));
      gone_size = agrees.gone_size;
      gone = λ q o. agrees.gone q o ∙ sym (gone q o);
    }

record IsBlank (r : Record) : Type 0 where
  claimed : r.claimed ≡ []
  done : r.dones ≡ []
  empty : job_in_hand r.phase ≡ 0

module _ (g : Givens) (ok : AreGivens g) where
  first_blank : (p : ℕ) → IsBlank (first_record g p)
  first_blank p = choice_cases g p (empty_record g) (λ r. IsBlank r) (λ _. record { claimed = refl; done = refl; empty = refl }) (λ _. record { claimed = refl; done = refl; empty = refl })

  first_over : (p : ℕ) → g.jobs < g.beta → wants_nothing (first_record g p).phase ≡ true
  first_over p h = choice_cases g p (empty_record g) (λ r. wants_nothing r.phase ≡ true) (λ _. refl) (λ many. absurd (let l = count_le_all (is_open (empty_record g)) g.jobs in omega arith))

  first_goes : (p : ℕ) → g.beta ≤ g.jobs → wants_nothing (first_record g p).phase ≡ false
  first_goes p h = choice_cases g p (empty_record g) (λ r. wants_nothing r.phase ≡ false) (λ few. absurd (let l : count g.jobs (is_open (empty_record g)) ≡ g.jobs = count_true g.jobs in omega arith)) (λ _. refl)

  is_first : (q : ℕ) → IsWorker g q → process (opening_world g) q ≡ first_process g q
  is_first q o = numbered-table nobody (first_process g) g.workers q o.low o.high

  is_blank : (q : ℕ) → IsBlank (process (opening_world g) q).local
  is_blank zero = record { claimed = refl; done = refl; empty = refl }
  is_blank (suc k) = ⊎_elim
      (λ (l : k < g.workers). subst (λ (x : Process). IsBlank x.local) (sym (is_first (suc k) (record { low = omega arith; high = omega arith }))) (first_blank (suc k)))
      (λ (l : g.workers ≤ k). subst (λ (x : Process). IsBlank x.local) (sym (get_or_past (table g.workers (first_process g)) k nobody (let e = length-table (first_process g) g.workers in omega arith))) (record { claimed = refl; done = refl; empty = refl }))
      (cases_lt k g.workers)

  -- the opening world, with the first k workers gone
  abbrev gone_to : ℕ → ℕ → Process
  gone_to k q = record (process (opening_world g) q) { gone = nat_le q k }

  whole_agrees : Agrees g (gone_to 0) (first_object g)
  whole_agrees =
      record {
        unclaimed = λ j job _. all j job.low job.high;
        only_unclaimed = λ j h. (only j h, λ q o. ap (λ l. has l j) (is_blank q).claimed);
        in_hand_size = length-table (λ _. 0) g.workers;
        in_hand = λ p o. numbered-table_same 0 g.workers p ∙ sym (is_blank p).empty;
        performed = λ p. sym (is_blank p).done;
        gone_size = length-table (λ _. false) g.workers;
        gone = λ p o. numbered-table true (λ _. false) g.workers p o.low o.high ∙ sym (lt-leb p 0 o.low);
      }
    where
      size : length (table g.jobs (λ j. j)) ≡ g.jobs
      size = length-table (λ j. j) g.jobs

      all : (j : ℕ) → 1 ≤ j → j ≤ g.jobs → has (table g.jobs (λ j. j)) j ≡ true
      all zero l h = absurd (omega arith)
      all (suc k) l h = subst (λ x. has (table g.jobs (λ j. j)) x ≡ true) (get_or-table 0 (λ j. j) g.jobs k (omega arith)) (has-get_or (table g.jobs (λ j. j)) k (let e = size in omega arith))

      only : (j : ℕ) → has (table g.jobs (λ j. j)) j ≡ true → IsJob g j
      only j h =
          let found = get_or-has (table g.jobs (λ j. j)) j h in
          let l = found.1 in
          let n = size in
          let e : suc found.0 ≡ j = sym (get_or-table 0 (λ j. j) g.jobs found.0 (omega arith)) ∙ found.2 in
          record { low = omega arith; high = omega arith }

  ends_next : (k : ℕ) → g.jobs < g.beta → suc k ≤ g.workers → (s : Object) → Agrees g (gone_to k) s → Goes g (gone_to (suc k)) s (Ended (suc k) ∷ [])
  ends_next k few h s agrees =
      record {
        run = (
          and_from _ _ (is_here_now g (gone_to k) s agrees (suc k) o here (gone_to (suc k) (suc k)) (gone_to (suc k)) refl others)
              (and_from _ _ (eq-eqb _ _ (agrees.in_hand (suc k) o ∙ (is_blank (suc k)).empty)) (le-leb _ _ (let l = ok.some in omega arith))),
          tt,
        );
        agrees = agrees_gone g (gone_to k) s agrees (suc k) o here (gone_to (suc k) (suc k)) (gone_to (suc k)) refl others refl refl refl (le-leb (suc k) (suc k) (omega arith));
      }
    where
      o : IsWorker g (suc k)
      o = record { low = omega arith; high = h }

      here : nat_le (suc k) k ≡ false
      here = lt-leb (suc k) k (omega arith)

      test : (q : ℕ) → q ≢ suc k → nat_le q (suc k) ≡ nat_le q k
      test q n = ⊎_elim (λ (l : k < q). lt-leb q (suc k) (omega arith) ∙ sym (lt-leb q k l)) (λ (l : q ≤ k). le-leb q (suc k) (omega arith) ∙ sym (le-leb q k l)) (cases_lt k q)

      others : (q : ℕ) → q ≢ suc k → gone_to (suc k) q ≡ gone_to k q
      others q n = ap (λ b. record (process (opening_world g) q) { gone = b }) (test q n)

  ends_go : (k : ℕ) → g.jobs < g.beta → k ≤ g.workers → Goes g (gone_to k) (first_object g) (table k (λ p. Ended p))
  ends_go zero few h = record { run = tt; agrees = whole_agrees }
  ends_go (suc k) few h = goes_on g (gone_to k) (gone_to (suc k)) (first_object g) (table k (λ p. Ended p)) (Ended (suc k) ∷ []) (ends_go k few (omega arith)) (ends_next k few h (object_after_all (first_object g) (table k (λ p. Ended p))) (ends_go k few (omega arith)).agrees)

  pub opening_runs : HasRun g (opening_world g)
  opening_runs = go (nat_lt g.jobs g.beta) refl
    where
      gone_is : (q : ℕ) → IsWorker g q → (process (opening_world g) q).gone ≡ wants_nothing (first_record g q).phase
      gone_is q o = ap (λ (x : Process). x.gone) (is_first q o)

      go : (b : Bool) → nat_lt g.jobs g.beta ≡ b → (let h = if b then table g.workers (λ p. Ended p) else [] in IsRun g (first_object g) h × Agrees g (process (opening_world g)) (object_after_all (first_object g) h))
      go true e =
          let few = ltb-true _ _ e in
          let all = ends_go g.workers few (omega arith) in
          (all.run, agrees_at g (gone_to g.workers) (process (opening_world g)) _ all.agrees (λ q. refl) (λ q o. gone_is q o ∙ first_over q few ∙ sym (le-leb q g.workers o.high)))
      go false e =
          (tt, agrees_at g (gone_to 0) (process (opening_world g)) _ whole_agrees (λ q. refl) (λ q o. gone_is q o ∙ first_goes q (ltb-false _ _ e) ∙ sym (lt-leb q 0 o.low)))

pub move_runs : (g : Givens) (w : World) (m : Move) → AreGivens g → IsLawful g w → HasRun g w → HasRun g (world_after_move g w m)
move_runs g w m ok law run = runs_on g w (world_after_move g w m) run (move_goes g (object_of g w) w m ok law run.1)

pub worlds_run : (g : Givens) (w : World) (ms : List Move) → AreGivens g → IsLawful g w → HasRun g w → HasRun g (world_after_moves g w ms)
worlds_run g w [] ok law run = run
worlds_run g w (m ∷ ms) ok law run = worlds_run g (world_after_move g w m) ms ok (move_lawful g w m ok law) (move_runs g w m ok law run)

pub always_runs : (g : Givens) (ms : List Move) → AreGivens g → HasRun g (world_of g ms)
always_runs g ms ok = worlds_run g (opening_world g) ms ok (opening_lawful g ok) (opening_runs g ok)
