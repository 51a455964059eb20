-- The facts that each pass of a loop of `first_id` keeps.
use Rattle.std.proofs.Common.{◌≡◌, map, drop}
use Rattle.amo_fs.specs.Handles.{first_id}
use Rattle.amo_fs.proofs.handle.first_id.Given as goal

abbrev pub invariant-loop-line : goal.invariant-loop-line
invariant-loop-line l = first_id (map (λ line. line.now) (drop l.line-index l.lines)) ≡ first_id (map (λ line. line.now) l.lines)
