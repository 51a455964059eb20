-- The turns of one worker: what a turn in which it goes on leaves, and how many of them store an
-- announcement.
use Rattle.std.proofs.Common.{◌≡◌, ◌≢◌, ℕ, zero, suc, ◌+◌, ◌-◌, ◌≤◌, Bool, false, length, refl, sym, ap, ◌∙◌, arith}
use Rattle.std.specs.Prelude.{if◌then◌else◌}
use Rattle.std.proofs.lemmas.Bool.{true≢false, false_from_ne_true}
use Rattle.amo_params.specs.Givens.{IsJob, IsWorker, IsOther, next_other, others_before}
use Rattle.amo_kk.specs.Record.{is_over, wants_nothing}
use Rattle.amo_kk.specs.Step.{want_in, want, record_after}
use Rattle.amo_kk.specs.World.{process, loaded_value, process_after, world_after_turn}
use Rattle.amo_kk.specs.Lawful.{IsLawful}
use Rattle.amo_kk.specs.Alone.{want_at, stores_announcement, turns_that}
use Rattle.amo_params.specs.declared.givens.Givens.{Givens}
use Rattle.amo_kk.specs.declared.phase.Phase.{Phase}
use Rattle.amo_kk.specs.declared.phase.Phase.TheVariants.{Announcing, Trying, Reading, Holding}
use Rattle.amo_kk.specs.declared.model.Record.{Record}
use Rattle.amo_kk.specs.declared.model.Process.{Process}
use Rattle.amo_kk.specs.declared.model.World.{World}
use Rattle.amo_params.specs.declared.moves.Move.TheVariants.{Turn}
use Rattle.amo_kk.proofs.Choice.{after_rests}
use Rattle.amo_kk.proofs.Kept.{others_room, others_next}
use Rattle.amo_kk.proofs.Moves.{turned_process, turned_local, move_other}
use Rattle.amo_kk.proofs.Runs.{stored_gone}
use Rattle.amo_kk.proofs.Worlds.{turn_lawful, here_is_worker}

-- the record of p after its turn
abbrev pub next_record : Givens → World → ℕ → Record
next_record g w p = let r = (process w p).local in record_after g p (loaded_value w (want r)) r

-- whoever isn't gone wants a load or a store
pub wants_some : (g : Givens) (w : World) (p : ℕ) → IsLawful g w → IsWorker g p → (process w p).gone ≡ false → wants_nothing (process w p).local.phase ≡ false
wants_some g w p law o here = false_from_ne_true _ (λ h. true≢false (sym ((law.lawful.sound p o).gone h) ∙ here))

-- v is w after a turn of p, which wasn't gone
pub record HasTurned (g : Givens) (w : World) (p : ℕ) (v : World) : Type 0 where
  pub worker : IsWorker g p
  pub law : IsLawful g v
  pub now : process v p ≡ process_after (want (process w p).local) (process w p) (next_record g w p)
  pub local : (process v p).local ≡ next_record g w p
  pub gone : (process v p).gone ≡ is_over (next_record g w p).phase
  pub others : (q : ℕ) → q ≢ p → process v q ≡ process w q

pub has_turned : (g : Givens) (w : World) (p : ℕ) → IsLawful g w → (process w p).gone ≡ false → HasTurned g w p (world_after_turn g w p)
has_turned g w p law here =
    let o = here_is_worker g w p law.size here in
    let r = (process w p).local in
    let now_p = turned_process g w p law here in
    record {
      worker = o;
      law = turn_lawful g w p g.limits law;
      now = now_p;
      local = turned_local g w p law here;
      gone = ap (λ (y : Process). y.gone) now_p ∙ stored_gone (want r) (process w p) (next_record g w p) ∙ after_rests g p (loaded_value w (want r)) r (wants_some g w p law o here);
      others = λ q n. move_other g w (Turn p) q n;
    }

-- v is w after a turn of p: p goes on with its next record, and the others are as they were
pub record IsTurned (g : Givens) (w : World) (p : ℕ) (v : World) : Type 0 where
  pub law : IsLawful g v
  pub here : (process v p).gone ≡ false
  pub local : (process v p).local ≡ next_record g w p
  pub others : (q : ℕ) → q ≢ p → process v q ≡ process w q

pub own_turn : (g : Givens) (w : World) (p : ℕ) → IsLawful g w → (process w p).gone ≡ false → is_over (next_record g w p).phase ≡ false → IsTurned g w p (world_after_turn g w p)
own_turn g w p law here goes_on =
    let turned = has_turned g w p law here in record { law = turned.law; here = turned.gone ∙ goes_on; local = turned.local; others = turned.others }

-- the first turn apart
pub turns_that-suc : (test : ℕ → Bool) (i : ℕ) → turns_that test (suc i) ≡ (if test 0 then 1 else 0) + turns_that (λ k. test (suc k)) i
turns_that-suc test zero = refl
turns_that-suc test (suc i) = let rest = turns_that-suc test i in omega arith

-- how many announcements the next turn of p stores
abbrev pub stored : World → ℕ → ℕ
stored w p = if stores_announcement (want (process w p).local) then 1 else 0

-- how many announcements a turn in this phase stores
abbrev pub stored_in : Phase → ℕ
stored_in (Announcing j) = 1
stored_in phase = 0

pub stored_in_want : (r : Record) (phase : Phase) → (if stores_announcement (want_in r phase) then 1 else 0) ≡ stored_in phase
stored_in_want r (Announcing j) = refl
stored_in_want r phase = refl

-- how many announcements the turns 0..i of p store
abbrev pub stored_within : Givens → World → ℕ → ℕ → ℕ
stored_within g w p i = turns_that (λ k. stores_announcement (want_at g w p k)) i

-- how many attempts are still to begin from this phase, if the attempt passes
abbrev pub to_begin : Phase → ℕ
to_begin (Announcing j) = 1
to_begin (Holding j) = 1
to_begin phase = 0

-- how many of the others are not before q
abbrev pub left_from : Givens → ℕ → ℕ → ℕ
left_from g p q = g.workers - 1 - others_before p q

-- the next other has one fewer left
pub one_fewer : (g : Givens) (p q : ℕ) → IsWorker g p → IsOther g p q → 1 + left_from g p (next_other p q) ≤ left_from g p q
one_fewer g p q o other =
    let room = others_room p q g.workers o.low o.high other.worker.low other.worker.high other.differs in
    let more = others_next p q o.low other.worker.low other.differs in
    omega arith

-- the one whose announcement is read next is another worker
pub heard : (g : Givens) (w : World) (p j q : ℕ) → IsLawful g w → IsWorker g p → (process w p).local.phase ≡ Trying j q → IsOther g p q
heard g w p j q law o is =
    let stands : IsJob g j × IsOther g p q × (length (process w p).local.tried ≤ others_before p q) = rw is at (law.lawful.sound p o).local.stands in
    stands.1

-- the one whose row is read next is another worker
pub read_of : (g : Givens) (w : World) (p j q : ℕ) → IsLawful g w → IsWorker g p → (process w p).local.phase ≡ Reading j q → IsOther g p q
read_of g w p j q law o is = let stands : IsJob g j × IsOther g p q = rw is at (law.lawful.sound p o).local.stands in stands.1
