-- A worker whose turns follow one another, with no other move between them.
use Rattle.std.specs.Prelude.{◌≡◌, ℕ, zero, suc, ◌+◌, ◌-◌, ◌<◌, ◌≤◌, Bool, true, false, not, ◌&&◌, ◌||◌, replicate, ◌==◌, if◌then◌else◌}
use Rattle.amo_kk.specs.Record.{is_over}
use Rattle.amo_kk.specs.Step.{want, is_load, record_after}
use Rattle.amo_kk.specs.World.{process, loaded_value, world_after_moves}
use Rattle.amo_params.specs.declared.givens.Givens.{Givens}
use Rattle.amo_kk.specs.declared.phase.Phase.{Phase}
use Rattle.amo_kk.specs.declared.phase.Phase.TheVariants.{Trying, Reading, Claiming}
use Rattle.amo_kk.specs.declared.phase.Want.{Want}
use Rattle.amo_kk.specs.declared.phase.Want.TheVariants.{StoreNext, LoadNext, LoadDone}
use Rattle.amo_params.specs.declared.moves.Move.TheVariants.{Turn}
use Rattle.amo_kk.specs.declared.model.World.{World}

-- the next event of a worker in this phase is a claim
abbrev pub is_claiming : Phase → Bool
is_claiming (Claiming j) = true
is_claiming phase = false

-- the next turn of p claims a job or ends p
abbrev pub claims_or_ends : Givens → World → ℕ → Bool
claims_or_ends g w p =
    let r = (process w p).local in
    is_claiming r.phase || is_over (record_after g p (loaded_value w (want r)) r).phase

-- the world after i turns of p, with no other move between them
abbrev pub world_after_turns : Givens → World → ℕ → ℕ → World
world_after_turns g w p i = world_after_moves g w (replicate i (Turn p))

-- The turn of p after i others of its own is the first that claims a job or ends p.
pub record IsFirstToClaimOrEnd (g : Givens) (w : World) (p i : ℕ) : Type 0 where
  pub none_before : (k : ℕ) → k < i → claims_or_ends g (world_after_turns g w p k) p ≡ false
  pub this_one : claims_or_ends g (world_after_turns g w p i) p ≡ true

-- what the turn of p after k others of its own wants
abbrev pub want_at : Givens → World → ℕ → ℕ → Want
want_at g w p k = want (process (world_after_turns g w p k) p).local

-- the value that this turn loads, or 0 if it makes no load
abbrev pub value_at : Givens → World → ℕ → ℕ → ℕ
value_at g w p k = loaded_value (world_after_turns g w p k) (want_at g w p k)

-- an announcement is stored, which begins an attempt
abbrev pub stores_announcement : Want → Bool
stores_announcement (StoreNext j) = true
stores_announcement want = false

-- an announcement is read
abbrev pub reads_announcement : Want → Bool
reads_announcement (LoadNext q) = true
reads_announcement want = false

-- the value v is read in a row, and is the 0 after its entries
abbrev pub reads_zero : Want → ℕ → Bool
reads_zero (LoadDone q k) v = v == 0
reads_zero want v = false

-- the value v is read in the row of q as its entry at place e, so it isn't 0
abbrev pub reads_entry : ℕ → ℕ → Want → ℕ → Bool
reads_entry q e (LoadDone i k) v = (i == q) && ((k == e) && not (v == 0))
reads_entry q e want v = false

-- how many of the turns 0..i pass the test
abbrev pub turns_that : (ℕ → Bool) → ℕ → ℕ
turns_that test zero = if test 0 then 1 else 0
turns_that test (suc i) = turns_that test i + (if test (suc i) then 1 else 0)

-- the attempts that go on in this phase: one where its announcement is stored and its job isn't
-- claimed yet
abbrev pub attempts_going_on : Phase → ℕ
attempts_going_on (Trying j q) = 1
attempts_going_on (Reading j q) = 1
attempts_going_on (Claiming j) = 1
attempts_going_on phase = 0

-- The number of the attempt to which the turn of p after k others belongs. It is 1 for the attempt
-- that goes on from w, or else for the first that begins. It is one more with each announcement
-- that is stored. A turn with number 0 belongs to no attempt.
abbrev pub attempt_at : Givens → World → ℕ → ℕ → ℕ
attempt_at g w p k =
    attempts_going_on (process w p).local.phase + turns_that (λ l. stores_announcement (want_at g w p l)) k

-- how many of the turns 0..i of p are of attempt a and pass the test
abbrev pub turns_of_attempt : Givens → World → (p a : ℕ) → (ℕ → Bool) → ℕ → ℕ
turns_of_attempt g w p a test i = turns_that (λ k. (attempt_at g w p k == a) && test k) i

-- The turns 0..i of p are of at most three attempts. In each attempt at most one announcement is
-- stored, at most as many announcements are read as there are others, and at most as many zeros. A
-- turn that is of no attempt loads nothing. No entry of a row is read twice in all these turns.
pub record FitsThreeAttempts (g : Givens) (w : World) (p i : ℕ) : Type 0 where
  pub three : attempt_at g w p i ≤ 3
  pub stores : (a : ℕ) → turns_of_attempt g w p a (λ k. stores_announcement (want_at g w p k)) i ≤ 1
  pub announcements : (a : ℕ) → turns_of_attempt g w p a (λ k. reads_announcement (want_at g w p k)) i ≤ g.workers - 1
  pub zeros : (a : ℕ) → turns_of_attempt g w p a (λ k. reads_zero (want_at g w p k) (value_at g w p k)) i ≤ g.workers - 1
  pub between : (k : ℕ) → k ≤ i → attempt_at g w p k ≡ 0 → is_load (want_at g w p k) ≡ false
  pub entries : (q e : ℕ) → turns_that (λ k. reads_entry q e (want_at g w p k) (value_at g w p k)) i ≤ 1
