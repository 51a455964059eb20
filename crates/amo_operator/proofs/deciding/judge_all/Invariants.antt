-- The facts that each pass of a loop of `judge_all` keeps.
use Rattle.std.proofs.Common.{◌≡◌, drop}
use Rattle.amo_operator.specs.Judging.{judged_all, none_judged}
use Rattle.amo_operator.specs.Views.{judged_of, known_of}
use Rattle.amo_operator.proofs.deciding.judge_all.Given as goal

-- what came of all is what comes of those from place k on, after those before
abbrev pub invariant-loop-k : goal.invariant-loop-k
invariant-loop-k l =
    judged_all (known_of l.seen) l.quiet l.time (none_judged (known_of l.seen)) l.all ≡ judged_all (known_of l.seen) l.quiet l.time (judged_of l.judged) (drop l.k l.all)
