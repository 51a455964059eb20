-- The facts that each pass of a loop of `first_here` keeps.
use Rattle.std.proofs.Common.{◌≡◌, ℕ, ◌≤◌, true}
use Rattle.amo_kk.specs.World.{process}
use Rattle.amo_state_space.proofs.longest.first_here.Given as goal

-- all before are gone
abbrev pub invariant-loop-before : goal.invariant-loop-before
invariant-loop-before l = (p : ℕ) → 1 ≤ p → p ≤ l.before → (process l.world.world p).gone ≡ true
