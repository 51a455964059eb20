-- The facts that each pass of a loop of `first_mount` keeps.
use Rattle.std.proofs.Common.{◌≡◌, map, drop}
use Rattle.amo_fs.specs.Mounts.{first_mount}
use Rattle.amo_fs.proofs.mount.first_mount.Given as goal

abbrev pub invariant-loop-line : goal.invariant-loop-line
invariant-loop-line l = first_mount l.id (map (λ line. line.now) (drop l.line-index l.lines)) ≡ first_mount l.id (map (λ line. line.now) l.lines)
