-- The facts that each pass of a loop of `push_json_rows` keeps.
use Rattle.std.proofs.Common.{◌≡◌, ◌++◌, false, drop, map}
use Rattle.amo_status.specs.Json.{json_rows}
use Rattle.amo_status.proofs.objects.push_json_rows.Given as goal

abbrev pub invariant-loop-i : goal.invariant-loop-i
invariant-loop-i l = l.text.items ++ json_rows l.clock l.later l.i (drop l.i l.standings) (map (λ t. t.now) l.texts) ≡ l.fn.text.items ++ json_rows l.clock false 0 l.standings (map (λ t. t.now) l.texts)
