-- The part of a line on a whole run, and the least number over many runs.
use Rattle.std.specs.Prelude.{ℕ, List, [], ◌++◌, Option, Some, None, length, codes}
use Rattle.std.specs.Fmt.{decimal}
use Rattle.amo_kk.specs.Run.{claimed_jobs, done_jobs}
use Rattle.amo_kk.specs.declared.event.Event.{Event}
use Rattle.amo_world.specs.declared.answer.Verdict.{Verdict}
use Rattle.amo_world.specs.declared.answer.Verdict.TheVariants.{Lawful, FirstBad}

-- ` claimed C done D`
unfoldable pub counts_part : List Event → List ℕ
counts_part history = codes " claimed " ++ decimal (length (claimed_jobs history)) ++ codes " done " ++ decimal (length (done_jobs history))

-- ` lawful` or ` bad I`
unfoldable pub verdict_part : Verdict → List ℕ
verdict_part Lawful = codes " lawful"
verdict_part (FirstBad i) = codes " bad " ++ decimal i

-- `least D`; of no runs nothing
unfoldable pub least_line : Option ℕ → List ℕ
least_line None = []
least_line (Some dones) = codes "least " ++ decimal dones ++ codes "\n"
