-- Worlds without counts of steps and histories: what a move leaves depends on nothing else, and
-- lawful worlds stay so.
use Rattle.std.proofs.Common.{◌≡◌, ◌≢◌, false, inl, inr, ⊎_elim, ℕ, ◌+◌, Bool, true, List, [], ◌∷◌, ◌++◌, refl, sym, ap, ◌∙◌, subst}
use Rattle.std.specs.Prelude.{if◌then◌else◌, ◌==◌, nat_lt, nat_le}
use Rattle.std.proofs.lemmas.Bool.{cases_eq, eq-eqb, ne_eqb}
use Rattle.amo_sets.specs.Lists.{numbered, put}
use Rattle.amo_sets.specs.Sets.{with_number}
use Rattle.amo_sets.specs.Rank.{count}
use Rattle.amo_sets.proofs.Numbers.{numbered-put_other}
use Rattle.amo_params.specs.Givens.{IsWorker, next_other}
use Rattle.amo_kk.specs.Record.{is_open, is_over, wants_nothing, can_leave}
use Rattle.amo_kk.specs.Choice.{chosen_job, record_after_choice, record_after_check}
use Rattle.amo_kk.specs.Step.{want_in, want, with_announced, record_at_row, record_at_announcement, record_after_phase, record_after, record_after_leave, shown, events_of}
use Rattle.amo_kk.specs.World.{nobody, process, loaded_value, process_after, world_with, world_after_step, world_after_turn, world_after_move}
use Rattle.amo_kk.specs.Lawful.{IsDoneByOther, IsUnclaimedByOther, AreLawful, IsLawful}
use Rattle.amo_params.specs.declared.givens.Givens.{Givens}
use Rattle.amo_kk.specs.declared.phase.Phase.{Phase}
use Rattle.amo_kk.specs.declared.phase.Phase.TheVariants.{Announcing, Trying, Reading, Claiming, Holding, Over}
use Rattle.amo_kk.specs.declared.phase.Want.{Want}
use Rattle.amo_kk.specs.declared.phase.Want.TheVariants.{StoreNext, LoadNext, LoadDone, StoreClaim, StoreDone}
use Rattle.amo_kk.specs.declared.model.Record.{Record}
use Rattle.amo_kk.specs.declared.model.Process.{Process}
use Rattle.amo_kk.specs.declared.model.World.{World}
use Rattle.amo_kk.specs.declared.event.Event.{Event}
use Rattle.amo_kk.specs.declared.event.Event.TheVariants.{Halted, Left as LeftEvent}
use Rattle.amo_params.specs.declared.moves.Move.{Move}
use Rattle.amo_params.specs.declared.moves.Move.TheVariants.{Turn, Halt, Leave}
use Rattle.amo_kk.proofs.Worlds.{here_is_worker, put_here}
use Rattle.amo_bounds.specs.Rest.{without_steps}
use Rattle.amo_bounds.proofs.Turns.{next_after, after_turn}

-- the record without its count of steps
abbrev pub still : Record → Record
still r = record r { steps = 0 }

-- the value that is loaded if the workers are so
abbrev pub heard : (ℕ → Process) → Want → ℕ
heard at (LoadNext q) = (at q).next
heard at (LoadDone q k) = numbered 0 (at q).row k
heard at want = 0

-- b is a after a turn of p, counts of steps apart
pub record IsTurnOf (g : Givens) (a b : ℕ → Process) (p : ℕ) : Type 0 where
  pub worker : IsWorker g p
  pub here : (a p).gone ≡ false
  pub local : (b p).local ≡ still (record_after g p (heard a (want (a p).local)) (a p).local)
  pub next : (b p).next ≡ next_after (a p).local.phase (a p).next
  pub gone : (b p).gone ≡ is_over (b p).local.phase
  pub others : (q : ℕ) → q ≢ p → b q ≡ a q

-- the workers of a world, without their counts of steps
abbrev pub view : World → ℕ → Process
view w q = without_steps (process w q)

-- a turn of p, on such workers
abbrev pub turned : Givens → (ℕ → Process) → ℕ → ℕ → Process
turned g at p q =
    if (at p).gone
    then at q
    else (if q == p then without_steps (process_after (want (at p).local) (at p) (record_after g p (heard at (want (at p).local)) (at p).local)) else at q)

-- a halt of p
abbrev pub halted : (ℕ → Process) → ℕ → ℕ → Process
halted at p q = if (at p).gone then at q else (if q == p then record (at p) { gone = true } else at q)

-- p leaves, if it may
abbrev pub departed : (ℕ → Process) → ℕ → ℕ → Process
departed at p q =
    if (at p).gone
    then at q
    else (if can_leave (at p).local.phase
    then (if q == p then without_steps (process_after (StoreNext 0) (at p) (record_after_leave (at p).local)) else at q)
    else at q)

-- a move
abbrev pub moved : Givens → (ℕ → Process) → Move → ℕ → Process
moved g at (Turn p) q = turned g at p q
moved g at (Halt p) q = halted at p q
moved g at (Leave p) q = departed at p q

-- the count of steps changes nothing but itself

still_choice : (g : Givens) (p : ℕ) (r : Record) → still (record_after_choice g p (still r)) ≡ still (record_after_choice g p r)
still_choice g p r = go (nat_lt (count g.jobs (is_open r)) g.beta)
  where
    go : (b : Bool) → still (if b then record (still r) { phase = Over } else record (still r) { phase = Announcing (chosen_job g p r); tried = [] })
        ≡ still (if b then record r { phase = Over } else record r { phase = Announcing (chosen_job g p r); tried = [] })
    go true = refl
    go false = refl

still_check : (g : Givens) (p j : ℕ) (r : Record) → still (record_after_check g p j (still r)) ≡ still (record_after_check g p j r)
still_check g p j r = go (is_open r j)
  where
    go : (b : Bool) → still (if b then record (still r) { phase = Claiming j } else record_after_choice g p (still r)) ≡ still (if b then record r { phase = Claiming j } else record_after_choice g p r)
    go true = refl
    go false = still_choice g p r

still_row : (g : Givens) (p j q : ℕ) (r : Record) → still (record_at_row g p j q (still r)) ≡ still (record_at_row g p j q r)
still_row g p j q r = go (nat_le q g.workers)
  where
    go : (b : Bool) → still (if b then record (still r) { phase = Reading j q } else record_after_check g p j (still r)) ≡ still (if b then record r { phase = Reading j q } else record_after_check g p j r)
    go true = refl
    go false = still_check g p j r

still_announcement : (g : Givens) (p j q : ℕ) (r : Record) → still (record_at_announcement g p j q (still r)) ≡ still (record_at_announcement g p j q r)
still_announcement g p j q r = go (nat_le q g.workers)
  where
    go : (b : Bool) → still (if b then record (still r) { phase = Trying j q } else record_at_row g p j (next_other p 0) (still r)) ≡ still (if b then record r { phase = Trying j q } else record_at_row g p j (next_other p 0) r)
    go true = refl
    go false = still_row g p j (next_other p 0) r

still_phase : (g : Givens) (p v : ℕ) (r : Record) (phase : Phase) → still (record_after_phase g p v (still r) phase) ≡ still (record_after_phase g p v r phase)
still_phase g p v r (Announcing j) = still_announcement g p j (next_other p 0) r
still_phase g p v r (Trying j q) = still_announcement g p j (next_other p q) (record r { tried = with_announced v r.tried })
still_phase g p v r (Reading j q) = go (v == 0)
  where
    go : (b : Bool) → still (if b then record_at_row g p j (next_other p q) (still r) else record (still r) { known = with_number v r.known; fronts = put r.fronts q (numbered 0 r.fronts q + 1) })
        ≡ still (if b then record_at_row g p j (next_other p q) r else record r { known = with_number v r.known; fronts = put r.fronts q (numbered 0 r.fronts q + 1) })
    go true = still_row g p j (next_other p q) r
    go false = refl
still_phase g p v r (Holding j) = still_choice g p (record r { dones = r.dones ++ j ∷ []; known = with_number j r.known })
still_phase g p v r phase = refl

still_after : (g : Givens) (p v : ℕ) (r : Record) → still (record_after g p v (still r)) ≡ still (record_after g p v r)
still_after g p v r = still_phase g p v r r.phase

still_want_in : (r : Record) (phase : Phase) → want_in (still r) phase ≡ want_in r phase
still_want_in r (Announcing j) = refl
still_want_in r phase = refl

heard_is : (w : World) (x : Want) → heard (view w) x ≡ loaded_value w x
heard_is w (LoadNext q) = refl
heard_is w want = refl

-- what is loaded is the same
pub hears : (w : World) (p : ℕ) → heard (view w) (want (view w p).local) ≡ loaded_value w (want (process w p).local)
hears w p = ap (heard (view w)) (still_want_in (process w p).local (process w p).local.phase) ∙ heard_is w (want (process w p).local)

-- a process after an event, by the still record alone
still_stored : (x : Want) (a b : Process) (r s : Record) → without_steps a ≡ without_steps b → still r ≡ still s → without_steps (process_after x a r) ≡ without_steps (process_after x b s)
still_stored (StoreNext j) a b r s e f = λ i. record { local = f i; next = j; claim = (e i).claim; row = (e i).row; gone = wants_nothing (f i).phase }
still_stored (StoreClaim c j) a b r s e f = λ i. record { local = f i; next = (e i).next; claim = c; row = (e i).row; gone = wants_nothing (f i).phase }
still_stored (StoreDone k j) a b r s e f = λ i. record { local = f i; next = (e i).next; claim = (e i).claim; row = put (e i).row k j; gone = wants_nothing (f i).phase }
still_stored x a b r s e f = λ i. record { local = f i; next = (e i).next; claim = (e i).claim; row = (e i).row; gone = wants_nothing (f i).phase }

-- the workers of a world with another process at p
view_with : (g : Givens) (w : World) (p : ℕ) (a : Process) (events : List Event) → IsLawful g w → (process w p).gone ≡ false
    → (q : ℕ) → view (world_with w p a events) q ≡ (if q == p then without_steps a else view w q)
view_with g w p a events law here q = ⊎_elim
    (λ (e : q ≡ p). subst (λ x. view (world_with w p a events) x ≡ (if x == p then without_steps a else view w x)) (sym e)
    (ap without_steps (put_here g w p a law.size (here_is_worker g w p law.size here)) ∙ sym (ap (λ b. if b then without_steps a else view w p) (eq-eqb p p refl))))
    (λ n. ap without_steps (numbered-put_other nobody a w.processes p q n) ∙ sym (ap (λ b. if b then without_steps a else view w q) (ne_eqb q p n)))
    (cases_eq q p)

-- a move on a world is a move on its workers
pub view_moved : (g : Givens) (w : World) (m : Move) → IsLawful g w → (q : ℕ) → view (world_after_move g w m) q ≡ moved g (view w) m q
view_moved g w (Turn p) law q = go (process w p).gone refl
  where
    r : Record
    r = (process w p).local

    a : Process
    a = process_after (want r) (process w p) (record_after g p (loaded_value w (want r)) r)

    b : Process
    b = process_after (want (still r)) (view w p) (record_after g p (heard (view w) (want (still r))) (still r))

    same : without_steps a ≡ without_steps b
    same = still_stored (want r) (process w p) (view w p) (record_after g p (loaded_value w (want r)) r) (record_after g p (heard (view w) (want (still r))) (still r)) refl
        (sym (ap (λ v. still (record_after g p v (still r))) (hears w p) ∙ still_after g p (loaded_value w (want r)) r))
        ∙ ap (λ x. without_steps (process_after x (view w p) (record_after g p (heard (view w) (want (still r))) (still r)))) (sym (still_want_in r r.phase))

    go : (c : Bool) → (process w p).gone ≡ c → view (if c then w else world_after_step g w p (process w p)) q ≡ (if c then view w q else (if q == p then without_steps b else view w q))
    go true e = refl
    go false e = view_with g w p a (events_of p (shown r.phase (record_after g p (loaded_value w (want r)) r).phase)) law e q ∙ ap (λ x. if q == p then x else view w q) same
view_moved g w (Halt p) law q = go (process w p).gone refl
  where
    go : (c : Bool) → (process w p).gone ≡ c → view (if c then w else world_with w p (record (process w p) { gone = true }) (Halted p ∷ [])) q ≡ (if c then view w q else (if q == p then record (view w p) { gone = true } else view w q))
    go true e = refl
    go false e = view_with g w p (record (process w p) { gone = true }) (Halted p ∷ []) law e q
view_moved g w (Leave p) law q = go (process w p).gone (can_leave (process w p).local.phase) refl
  where
    a : Process
    a = process_after (StoreNext 0) (process w p) (record_after_leave (process w p).local)

    go : (c d : Bool) → (process w p).gone ≡ c → view (if c then w else (if d then world_with w p a (LeftEvent p ∷ []) else w)) q
        ≡ (if c then view w q else (if d then (if q == p then without_steps (process_after (StoreNext 0) (view w p) (record_after_leave (view w p).local)) else view w q) else view w q))
    go true d e = refl
    go false true e = view_with g w p a (LeftEvent p ∷ []) law e q
    go false false e = refl

-- what is lawful stays so without the counts of steps
pub still_lawful : (g : Givens) (w : World) → IsLawful g w → AreLawful g (view w)
still_lawful g w law =
    record {
      sound = λ p o. let s = law.lawful.sound p o in record {
        local = record { claims = s.local.claims; distinct = s.local.distinct; jobs = s.local.jobs; own = s.local.own; tried_few = s.local.tried_few; tried_jobs = s.local.tried_jobs; fronts = s.local.fronts; front = s.local.front; stands = s.local.stands };
        announces = s.announces;
        next = s.next;
        claim = s.claim;
        row_length = s.row_length;
        row = s.row;
        gone = s.gone;
      };
      apart = λ p q o other. let s = law.lawful.apart p q o other in record {
        claims = s.claims;
        front = s.front;
        read = s.read;
        clear = λ j c. ⊎_elim (λ (d : IsDoneByOther (process w p).local q j (process w q).local). inl (record { done = d.done; known = d.known })) (λ (u : IsUnclaimedByOther p j (process w q).local). inr (record { free = u.free; unclear = u.unclear })) (s.clear j c);
      };
      known = λ p j o h. law.lawful.known p j o h;
    }

-- a turn of a worker that isn't gone
pub turn_of : (g : Givens) (w : World) (p : ℕ) → IsLawful g w → (process w p).gone ≡ false → IsTurnOf g (view w) (view (world_after_turn g w p)) p
turn_of g w p law here =
    let t = after_turn g w p law here in
    let r = (process w p).local in
    record {
      worker = here_is_worker g w p law.size here;
      here = here;
      local = ap still t.local ∙ sym (ap (λ v. still (record_after g p v (still r))) (hears w p) ∙ still_after g p (loaded_value w (want r)) r);
      next = t.next;
      gone = t.gone ∙ sym (ap (λ (x : Record). is_over x.phase) t.local);
      others = λ q n. ap without_steps (t.others q n);
    }
