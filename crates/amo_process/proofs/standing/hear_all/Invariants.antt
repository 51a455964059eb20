-- The facts that each pass of a loop of `hear_all` keeps.
use Rattle.std.proofs.Common.{◌≡◌, drop}
use Rattle.amo_process.specs.Heard.{record_after_all}
use Rattle.amo_process.proofs.standing.hear_all.Given as goal

abbrev pub invariant-loop-v : goal.invariant-loop-v
invariant-loop-v l =
    record {
      same : l.local ≡ record l.initial.local { state = l.local.state };
      rest : record_after_all l.initial.local.givens l.initial.local.number l.local.state (drop l.v-index l.heard)
          ≡ record_after_all l.initial.local.givens l.initial.local.number l.initial.local.state l.heard;
    }
