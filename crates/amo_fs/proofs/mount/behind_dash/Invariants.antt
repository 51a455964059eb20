-- The facts that each pass of a loop of `behind_dash` keeps.
use Rattle.std.proofs.Common.{◌≡◌, map, drop}
use Rattle.amo_fs.specs.Mounts.{behind_dash}
use Rattle.amo_fs.proofs.mount.behind_dash.Given as goal

abbrev pub invariant-loop-i : goal.invariant-loop-i
invariant-loop-i l = behind_dash (map (λ field. field.now) (drop l.i l.fields)) ≡ behind_dash (map (λ field. field.now) l.fields)
