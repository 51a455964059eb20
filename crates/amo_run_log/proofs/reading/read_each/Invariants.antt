-- The facts that each pass of a loop of `read_each` keeps.
use Rattle.std.proofs.Common.{◌≡◌, map, take, Some}
use Rattle.amo_run_log.specs.Numbers.{read_all}
use Rattle.amo_run_log.proofs.reading.read_each.Given as goal

abbrev pub invariant-loop-text : goal.invariant-loop-text
invariant-loop-text g l = read_all g.T.FromText.said (map (λ text. text.items) (take l.text-index l.texts)) ≡ Some l.found.items
