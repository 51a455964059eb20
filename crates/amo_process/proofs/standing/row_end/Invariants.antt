-- The facts that each pass of a loop of `row_end` keeps.
use Rattle.std.proofs.Common.{◌≡◌, ◌++◌, take, drop}
use Rattle.amo_kk.specs.Again.{entries_of}
use Rattle.amo_process.specs.Heard.{rest_of}
use Rattle.amo_process.proofs.standing.row_end.Given as goal

abbrev pub invariant-loop-k : goal.invariant-loop-k
invariant-loop-k l =
    record {
      entries : entries_of l.row ≡ take l.k l.row ++ entries_of (drop l.k l.row);
      rest : rest_of l.row ≡ rest_of (drop l.k l.row);
    }
