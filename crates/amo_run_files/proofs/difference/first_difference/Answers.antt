-- `first_difference`: its promises, by the lemmas of Differences.
use Rattle.std.proofs.Common.{◌≢◌, ◌<◌, length, get_or, arith}
use Rattle.amo_run_files.proofs.Differences.{are_there, isnt_there}
use Rattle.amo_run_files.proofs.difference.first_difference.Goals as goal
use Rattle.amo_run_files.proofs.difference.first_difference.Goals.{then-i-file-via-then-i-file, then-i-file-via-else-i-file+then-file-i}

pub returns-then-i-file-clause-first : goal.returns-then-i-file-clause-first
returns-then-i-file-clause-first c =
    let known = c.args.known.now in
    let file = c.args.file.now in
    let i = c.loop-i.i in
    let differs : i < length file → get_or file i 0 ≢ get_or known i 0 =
    elim c.then-i-file.branch [ then-i-file-via-then-i-file w ↦ λ lt. absurd (omega (arith, w.if-i-file.true, lt)) | then-i-file-via-else-i-file+then-file-i w ↦ λ lt. w.if-file-i.true ] in (
      omega (arith, c.loop-i.invariant.1),
      are_there known file i c.loop-i.invariant.0 c.loop-i.line c.loop-i.invariant.1,
      isnt_there known file i c.loop-i-test.true differs c.loop-i.line c.loop-i.invariant.1,
    )
