-- The facts that each pass of a loop of `said_on` keeps.
use Rattle.std.proofs.Common.{◌≡◌, map, take, Some}
use Rattle.amo_run_log.specs.Numbers.{read_all}
use Rattle.amo_status.specs.Said.{said_by, said_in}
use Rattle.amo_status.proofs.said.said_on.Given as goal

abbrev pub invariant-loop-line : goal.invariant-loop-line
invariant-loop-line l = read_all said_in (map (λ line. line.items) (take l.line-index l.lines)) ≡ Some (map said_by l.said.items)
