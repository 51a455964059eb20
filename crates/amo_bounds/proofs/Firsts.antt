-- As long as no job is done each worker is in its first attempt, or has left. So once a worker has
-- ended, some job is done.
use Rattle.std.proofs.Common.{◌≡◌, ◌≢◌, ◌⊎◌, inl, inr, ⊎_elim, ℕ, ◌<◌, ◌≤◌, Bool, true, false, List, [], ◌∷◌, ◌++◌, length, refl, sym, ap, ◌∙◌, subst, arith}
use Rattle.std.specs.Prelude.{if◌then◌else◌}
use Rattle.std.proofs.lemmas.List.{length_push}
use Rattle.std.proofs.lemmas.Bool.{cases_eq, cases_lt, true≢false, false_from_ne_true}
use Rattle.amo_sets.specs.Lists.{numbered, put}
use Rattle.amo_sets.specs.Sets.{has}
use Rattle.amo_sets.proofs.Numbers.{numbered-put_other}
use Rattle.amo_sets.proofs.Tables.{numbered-table}
use Rattle.amo_params.specs.Givens.{IsWorker, IsOther, next_other}
use Rattle.amo_kk.specs.Record.{is_over, can_leave, jobs_in_hand, empty_record}
use Rattle.amo_kk.specs.Choice.{record_after_check}
use Rattle.amo_kk.specs.Step.{with_announced, record_after_leave}
use Rattle.amo_kk.specs.Run.{done_jobs}
use Rattle.amo_kk.specs.World.{nobody, process, process_after, world_with, world_after_turn, world_after_halt, world_after_leave, world_after_moves, first_process, opening_world, world_after_move, world_of}
use Rattle.amo_kk.specs.Lawful.{IsLawful}
use Rattle.amo_params.specs.declared.givens.Givens.{Givens}
use Rattle.amo_kk.specs.declared.phase.Phase.{Phase}
use Rattle.amo_kk.specs.declared.phase.Phase.TheVariants.{Announcing, Trying, Reading, Claiming, Holding, Over, Left}
use Rattle.amo_kk.specs.declared.phase.Want.TheVariants.{StoreNext}
use Rattle.amo_kk.specs.declared.model.Record.{Record}
use Rattle.amo_kk.specs.declared.model.Process.{Process}
use Rattle.amo_kk.specs.declared.model.World.{World}
use Rattle.amo_kk.specs.declared.event.Event.TheVariants.{Halted, Left as LeftEvent}
use Rattle.amo_params.specs.declared.moves.Move.{Move}
use Rattle.amo_params.specs.declared.moves.Move.TheVariants.{Turn, Halt, Leave}
use Rattle.amo_kk.proofs.Choice.{choice_cases}
use Rattle.amo_kk.proofs.FirstChoice.{ranks_rise}
use Rattle.amo_kk.proofs.Kept.{noted_cases}
use Rattle.amo_kk.proofs.Worlds.{here_is_worker, put_here, move_lawful, opening_lawful}
use Rattle.amo_kk.proofs.Shows.{idle}
use Rattle.amo_bounds.specs.Fewest.{jobs_done}
use Rattle.amo_bounds.proofs.Turns.{next_after, IsAfterTurn, after_turn, check_passes}
use Rattle.amo_bounds.proofs.Histories.{dones_grow}
use Rattle.amo_bounds.proofs.Still.{still, view, still_lawful, turn_of}
use Rattle.amo_bounds.proofs.TurnCases.{turn_cases}
use Rattle.amo_bounds.proofs.Stuck.{first, first_empty, first_phase}

module _ (g : Givens) (many : g.beta ≤ g.jobs) where
  -- the first attempt goes on, or the worker has left
  abbrev OnFirst : ℕ → Phase → Type 0
  OnFirst q (Announcing j) = j ≡ first g q
  OnFirst q (Trying j i) = j ≡ first g q
  OnFirst q (Reading j i) = j ≡ first g q
  OnFirst q (Claiming j) = j ≡ first g q
  OnFirst q (Holding j) = j ≡ first g q
  OnFirst q Over = ⊥
  OnFirst q Left = Unit {0}

  -- some other one chose i first
  abbrev IsFirstOfOther : ℕ → ℕ → Type 0
  IsFirstOfOther q i = (o : ℕ) × IsOther g q o × (first g o ≡ i)

  record IsFirst (q : ℕ) (r : Record) : Type 0 where
    dones : r.dones ≡ []
    tried : (i : ℕ) → has r.tried i ≡ true → IsFirstOfOther q i
    phase : OnFirst q r.phase

  -- nothing is announced, or the first choice
  abbrev IsFirstWord : ℕ → ℕ → Type 0
  IsFirstWord q next = (next ≡ 0) ⊎ (next ≡ first g q)

  -- all are in their first attempts
  record AllFirst (w : World) : Type 0 where
    local : (q : ℕ) → IsWorker g q → IsFirst q (process w q).local
    word : (q : ℕ) → IsWorker g q → IsFirstWord q (process w q).next

  -- some job is done, or all are in their first attempts
  abbrev SomeOrFirst : World → Type 0
  SomeOrFirst w = (1 ≤ length (done_jobs w.history)) ⊎ AllFirst w

  -- no other one chose the first choice of q
  own_first : (q : ℕ) → IsWorker g q → IsFirstOfOther q (first g q) → ⊥
  own_first q o h =
      let other = h.1 in
      let e = h.2 in
      ⊎_elim
      (λ (l : h.0 < q). let rise = ranks_rise g h.0 q g.jobs other.worker o l in omega arith)
      (λ (l : q ≤ h.0). let n = other.differs in let rise = ranks_rise g q h.0 g.jobs o other.worker (less q h.0 l n) in omega arith)
      (cases_lt h.0 q)
    where
      less : (q i : ℕ) → q ≤ i → i ≢ q → q < i
      less q i l n = grind arith

  -- in a world with another process at p
  with_at : (w : World) (p : ℕ) (a : Process) (q : ℕ) → length w.processes ≡ g.workers → IsWorker g p → (P : ℕ → Process → Type 0) → (q ≡ p → P p a) → P q (process w q) → P q (numbered nobody (put w.processes p a) q)
  with_at w p a q size o P now was = ⊎_elim
      (λ (e : q ≡ p). subst (λ k. P k (numbered nobody (put w.processes p a) k)) (sym e) (subst (λ x. P p x) (sym (put_here g w p a size o)) (now e)))
      (λ n. subst (λ x. P q x) (sym (numbered-put_other nobody a w.processes p q n)) was)
      (cases_eq q p)

  -- a turn of p while all workers are in their first attempts
  module _ (w : World) (law : IsLawful g w) (all : AllFirst w) (p : ℕ) (o : IsWorker g p) (here : (process w p).gone ≡ false) where
    abbrev r : Record
    r = (view w p).local

    abbrev now : ℕ → Process
    now = view (world_after_turn g w p)

    mine : IsFirst p (process w p).local
    mine = all.local p o

    on_first : (phase : Phase) → r.phase ≡ phase → OnFirst p phase
    on_first phase is = subst (λ x. OnFirst p x) is mine.phase

    -- nothing is known
    unknown : (j : ℕ) → has r.known j ≡ false
    unknown j = false_from_ne_true (has r.known j) (λ h. let d = law.lawful.known p j o h in true≢false (sym d.2 ∙ ap (λ l. has l j) (all.local d.0 d.1).dones))

    -- p goes on in its first attempt, or it held a job
    abbrev GoesOn : Type 0
    GoesOn = IsFirst p (now p).local ⊎ ((j : ℕ) × ((process w p).local.phase ≡ Holding j))

    goes_on : (phase : Phase) (tried : List ℕ) → OnFirst p phase → ((i : ℕ) → has tried i ≡ true → IsFirstOfOther p i) → (now p).local ≡ record r { phase = phase; tried = tried; steps = 0 } → GoesOn
    goes_on phase tried on only e = inl (subst (λ x. IsFirst p x) (sym e) (record { dones = mine.dones; tried = only; phase = on }))

    -- its check passes, since no other chose its job first
    passes : (j : ℕ) → j ≡ first g p → (now p).local ≡ still (record_after_check g p j r) → GoesOn
    passes j first_is e = goes_on (Claiming j) r.tried first_is mine.tried
        (e ∙ ap still (check_passes g p j r (unknown j) (false_from_ne_true (has r.tried j) (λ t. own_first p o (subst (λ k. IsFirstOfOther p k) first_is (mine.tried j t))))))

    -- what it reads of q is the first choice of q, or nothing
    noted_first : (q : ℕ) → IsOther g p q → (i : ℕ) → has (with_announced (view w q).next r.tried) i ≡ true → IsFirstOfOther p i
    noted_first q other i h = ⊎_elim
        (λ (new : (1 ≤ (view w q).next) × ((view w q).next ≡ i)). let low = new.0 in ⊎_elim
        (λ (none : (process w q).next ≡ 0). absurd (omega arith))
        (λ (said : (process w q).next ≡ first g q). (q, other, sym said ∙ new.1))
        (all.word q other.worker))
        (λ old. mine.tried i old)
        (noted_cases (view w q).next i r.tried h)

    turn_goes_on : GoesOn
    turn_goes_on = turn_cases g (view w) now p (still_lawful g w law) (turn_of g w p law here) GoesOn
        (λ j is none other e. goes_on (Trying j (next_other p 0)) r.tried (on_first (Announcing j) is) mine.tried e)
        (λ j is none nobody e. passes j (on_first (Announcing j) is) e)
        (λ j q is other in_range e. goes_on (Trying j (next_other p q)) (with_announced (view w q).next r.tried) (on_first (Trying j q) is) (noted_first q other) e)
        (λ j q is other above next e. goes_on (Reading j (next_other p 0)) (with_announced (view w q).next r.tried) (on_first (Trying j q) is) (noted_first q other) e)
        (λ j q i is other more e. absurd (let none = ap length (all.local q other.worker).dones in omega arith))
        (λ j q is other read in_range e. goes_on (Reading j (next_other p q)) r.tried (on_first (Reading j q) is) mine.tried e)
        (λ j q is other read above e. passes j (on_first (Reading j q) is) e)
        (λ j is e. inl (subst (λ x. IsFirst p x) (sym e) (record { dones = mine.dones; tried = mine.tried; phase = on_first (Claiming j) is })))
        (λ j is e. inr (j, is))

    -- what it announces then
    announces_first : (phase : Phase) → r.phase ≡ phase → IsFirstWord p (next_after phase (process w p).next)
    announces_first (Announcing j) is = inr (on_first (Announcing j) is)
    announces_first phase is = all.word p o

    turn_goes : SomeOrFirst (world_after_turn g w p)
    turn_goes = ⊎_elim
        (λ (goes : IsFirst p (now p).local). inr (record {
          local = λ q wq. ⊎_elim
              (λ (e : q ≡ p). subst (λ k. IsFirst k (process (world_after_turn g w p) k).local) (sym e) (record { dones = goes.dones; tried = goes.tried; phase = goes.phase }))
              (λ m. subst (λ (y : Process). IsFirst q y.local) (sym (t.others q m)) (all.local q wq))
              (cases_eq q p);
          word = λ q wq. ⊎_elim
              (λ (e : q ≡ p). subst (λ k. IsFirstWord k (process (world_after_turn g w p) k).next) (sym e) (subst (λ y. IsFirstWord p y) (sym t.next) (announces_first (process w p).local.phase refl)))
              (λ m. subst (λ (y : Process). IsFirstWord q y.next) (sym (t.others q m)) (all.word q wq))
              (cases_eq q p);
        }))
        (λ (held : (j : ℕ) × ((process w p).local.phase ≡ Holding j)). inl (
        let more = ap length (t.done ∙ ap (λ y. done_jobs w.history ++ jobs_in_hand y) held.1) ∙ length_push (done_jobs w.history) held.0 in
        omega arith))
        turn_goes_on
      where
        t : IsAfterTurn g w p (world_after_turn g w p)
        t = after_turn g w p law here

  turn_some : (w : World) (p : ℕ) → IsLawful g w → AllFirst w → SomeOrFirst (world_after_turn g w p)
  turn_some w p law all = go (process w p).gone refl
    where
      go : (b : Bool) → (process w p).gone ≡ b → SomeOrFirst (world_after_turn g w p)
      go true gone = subst (λ v. SomeOrFirst v) (sym (idle g w p gone)) (inr all)
      go false here = turn_goes w law all p (here_is_worker g w p law.size here) here

  halt_some : (w : World) (p : ℕ) → IsLawful g w → AllFirst w → SomeOrFirst (world_after_halt w p)
  halt_some w p law all = go (process w p).gone refl
    where
      a : Process
      a = record (process w p) { gone = true }

      go : (b : Bool) → (process w p).gone ≡ b → SomeOrFirst (if b then w else world_with w p (record (process w p) { gone = true }) (Halted p ∷ []))
      go true gone = inr all
      go false here = inr (record {
        local = λ q wq. with_at w p a q law.size o (λ k x. IsFirst k x.local) (λ _. all.local p o) (all.local q wq);
        word = λ q wq. with_at w p a q law.size o (λ k x. IsFirstWord k x.next) (λ _. all.word p o) (all.word q wq);
      })
        where
          o : IsWorker g p
          o = here_is_worker g w p law.size here

  leave_some : (w : World) (p : ℕ) → IsLawful g w → AllFirst w → SomeOrFirst (world_after_leave w p)
  leave_some w p law all = go (process w p).gone refl (can_leave (process w p).local.phase)
    where
      a : Process
      a = process_after (StoreNext 0) (process w p) (record_after_leave (process w p).local)

      go : (b : Bool) → (process w p).gone ≡ b → (c : Bool) → SomeOrFirst (if b then w else (if c then world_with w p (process_after (StoreNext 0) (process w p) (record_after_leave (process w p).local)) (LeftEvent p ∷ []) else w))
      go true gone c = inr all
      go false here false = inr all
      go false here true = inr (record {
        local = λ q wq. with_at w p a q law.size o (λ k x. IsFirst k x.local) (λ _. let mine = all.local p o in record { dones = mine.dones; tried = mine.tried; phase = tt }) (all.local q wq);
        word = λ q wq. with_at w p a q law.size o (λ k x. IsFirstWord k x.next) (λ _. inl refl) (all.word q wq);
      })
        where
          o : IsWorker g p
          o = here_is_worker g w p law.size here

  move_some : (w : World) (m : Move) → IsLawful g w → AllFirst w → SomeOrFirst (world_after_move g w m)
  move_some w (Turn p) law all = turn_some w p law all
  move_some w (Halt p) law all = halt_some w p law all
  move_some w (Leave p) law all = leave_some w p law all

  moves_some : (w : World) (ms : List Move) → IsLawful g w → SomeOrFirst w → SomeOrFirst (world_after_moves g w ms)
  moves_some w [] law some = some
  moves_some w (m ∷ ms) law some = moves_some (world_after_move g w m) ms (move_lawful g w m g.limits law)
      (⊎_elim (λ (done : 1 ≤ length (done_jobs w.history)). inl (let more = dones_grow g w (m ∷ []) in omega arith)) (λ all. move_some w m law all) some)

  opening_some : SomeOrFirst (opening_world g)
  opening_some = inr (record {
    local = λ q wq. subst (λ (x : Process). IsFirst q x.local) (sym (at q wq)) (record {
      dones = first_empty g q;
      tried = λ i h. absurd (true≢false (sym h ∙ choice_cases g q (empty_record g) (λ x. has x.tried i ≡ false) (λ _. refl) (λ _. refl)));
      phase = subst (λ y. OnFirst q y) (sym (first_phase g many q wq)) refl;
    });
    word = λ q wq. subst (λ (x : Process). IsFirstWord q x.next) (sym (at q wq)) (inl refl);
  })
    where
      at : (q : ℕ) → IsWorker g q → process (opening_world g) q ≡ first_process g q
      at q wq = numbered-table nobody (first_process g) g.workers q wq.low wq.high

  -- some job is done once a worker has ended
  pub some_done : (ms : List Move) (p : ℕ) → IsWorker g p → is_over (process (world_of g ms) p).local.phase ≡ true → 1 ≤ jobs_done g ms
  some_done ms p o over = ⊎_elim (λ s. s) (λ (all : AllFirst (world_of g ms)). absurd (go (process (world_of g ms) p).local.phase over (all.local p o).phase)) (moves_some (opening_world g) ms (opening_lawful g g.limits) opening_some)
    where
      go : (phase : Phase) → is_over phase ≡ true → OnFirst p phase → ⊥
      go Over e h = h
      go phase e h = true≢false (sym e)
