-- The lists of jobs that workers know stand in rising order.
use Rattle.std.proofs.Common.{⊎_elim, ℕ, zero, suc, ◌+◌, ◌<◌, ◌≤◌, Bool, true, false, [], ◌∷◌, ◌++◌, sym, subst, arith}
use Rattle.std.specs.Prelude.{if◌then◌else◌, ◌==◌}
use Rattle.std.proofs.lemmas.Bool.{cases_lt}
use Rattle.std.proofs.lemmas.List.{get_or_past}
use Rattle.amo_sets.specs.Lists.{numbered, put, table}
use Rattle.amo_sets.specs.Sets.{with_number}
use Rattle.amo_sets.proofs.Numbers.{length-table}
use Rattle.amo_sets.proofs.Tables.{numbered-table}
use Rattle.amo_params.specs.Givens.{next_other}
use Rattle.amo_kk.specs.Record.{empty_record, can_leave}
use Rattle.amo_kk.specs.Choice.{record_after_choice, record_after_check}
use Rattle.amo_kk.specs.Step.{want, with_announced, record_at_row, record_at_announcement, record_after_phase, record_after, record_after_leave}
use Rattle.amo_kk.specs.World.{nobody, process_after, world_after_move, first_process, opening_world}
use Rattle.amo_kk.specs.Lawful.{IsLawful}
use Rattle.amo_params.specs.declared.givens.Givens.{Givens}
use Rattle.amo_kk.specs.declared.phase.Phase.{Phase}
use Rattle.amo_kk.specs.declared.phase.Phase.TheVariants.{Announcing, Trying, Reading, Holding}
use Rattle.amo_kk.specs.declared.phase.Want.TheVariants.{StoreNext}
use Rattle.amo_kk.specs.declared.model.Record.{Record}
use Rattle.amo_kk.specs.declared.model.Process.{Process}
use Rattle.amo_kk.specs.declared.model.World.{World}
use Rattle.amo_params.specs.declared.moves.Move.{Move}
use Rattle.amo_params.specs.declared.moves.Move.TheVariants.{Turn, Halt, Leave}
use Rattle.amo_kk.proofs.Choice.{choice_cases, check_cases, to_row_cases, to_announcement_cases}
use Rattle.amo_kk.proofs.Runs.{stored_local}
use Rattle.amo_bounds.proofs.Still.{still, heard, view, moved, view_moved}
use Rattle.amo_bounds.proofs.Digits.{IsRising, rising_with}
use Rattle.amo_bounds.proofs.Codes.{IsNeat}

-- an event keeps it
after_rising : (g : Givens) (p v : ℕ) (r : Record) (phase : Phase) → IsRising r.known → IsRising (record_after_phase g p v r phase).known
after_rising g p v r phase h = go phase
  where
    Rises : Record → Type 0
    Rises x = IsRising x.known

    choose : (x : Record) → Rises x → Rises (record_after_choice g p x)
    choose x k = choice_cases g p x Rises (λ _. k) (λ _. k)

    look : (j : ℕ) (x : Record) → Rises x → Rises (record_after_check g p j x)
    look j x k = check_cases g p j x Rises (λ _ _. k) (choose x k)

    row : (j q : ℕ) (x : Record) → Rises x → Rises (record_at_row g p j q x)
    row j q x k = to_row_cases g p j q x Rises (λ _. k) (λ _. look j x k)

    ann : (j q : ℕ) (x : Record) → Rises x → Rises (record_at_announcement g p j q x)
    ann j q x k = to_announcement_cases g p j q x Rises (λ _. k) (λ _. row j (next_other p 0) x k)

    go : (phase : Phase) → Rises (record_after_phase g p v r phase)
    go (Announcing j) = ann j (next_other p 0) r h
    go (Trying j q) = ann j (next_other p q) (record r { tried = with_announced v r.tried }) h
    go (Reading j q) = read (v == 0)
      where
        read : (b : Bool) → Rises (if b then record_at_row g p j (next_other p q) r else record r { known = with_number v r.known; fronts = put r.fronts q (numbered 0 r.fronts q + 1) })
        read true = row j (next_other p q) r h
        read false = rising_with v r.known h
    go (Holding j) = choose (record r { dones = r.dones ++ j ∷ []; known = with_number j r.known }) (rising_with j r.known h)
    go phase = h

-- and so does a move
moved_neat : (g : Givens) (at : ℕ → Process) (m : Move) → ((q : ℕ) → IsRising (at q).local.known) → (q : ℕ) → IsRising (moved g at m q).local.known
moved_neat g at (Turn p) h q = go (at p).gone (q == p)
  where
    a : Process
    a = process_after (want (at p).local) (at p) (record_after g p (heard at (want (at p).local)) (at p).local)

    now : IsRising a.local.known
    now = subst (λ (x : Record). IsRising x.known) (sym (stored_local (want (at p).local) (at p) (record_after g p (heard at (want (at p).local)) (at p).local))) (after_rising g p (heard at (want (at p).local)) (at p).local (at p).local.phase (h p))

    go : (b c : Bool) → IsRising (if b then at q else (if c then record a { local = still a.local } else at q)).local.known
    go true c = h q
    go false true = now
    go false false = h q
moved_neat g at (Halt p) h q = go (at p).gone (q == p)
  where
    go : (b c : Bool) → IsRising (if b then at q else (if c then record (at p) { gone = true } else at q)).local.known
    go true c = h q
    go false true = h p
    go false false = h q
moved_neat g at (Leave p) h q = go (at p).gone (can_leave (at p).local.phase) (q == p)
  where
    a : Process
    a = process_after (StoreNext 0) (at p) (record_after_leave (at p).local)

    go : (b d c : Bool) → IsRising (if b then at q else (if d then (if c then record a { local = still a.local } else at q) else at q)).local.known
    go true d c = h q
    go false true true = h p
    go false true false = h q
    go false false c = h q

pub move_neat : (g : Givens) (w : World) (m : Move) → IsLawful g w → IsNeat w → IsNeat (world_after_move g w m)
move_neat g w m law neat q = subst (λ (x : Process). IsRising x.local.known) (sym (view_moved g w m law q)) (moved_neat g (view w) m neat q)

pub opening_neat : (g : Givens) → IsNeat (opening_world g)
opening_neat g zero = tt
opening_neat g (suc k) = ⊎_elim
    (λ (l : k < g.workers). subst (λ (x : Process). IsRising x.local.known) (sym (numbered-table nobody (first_process g) g.workers (suc k) (omega arith) (omega arith))) (choice_cases g (suc k) (empty_record g) (λ x. IsRising x.known) (λ _. tt) (λ _. tt)))
    (λ (l : g.workers ≤ k). subst (λ (x : Process). IsRising x.local.known) (sym (get_or_past (table g.workers (first_process g)) k nobody (let e = length-table (first_process g) g.workers in omega arith))) tt)
    (cases_lt k g.workers)
