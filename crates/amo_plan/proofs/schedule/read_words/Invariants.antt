-- The facts that each pass of a loop of `read_words` keeps.
use Rattle.amo_plan.specs.Schedule.{word_at}
use Rattle.amo_plan.proofs.PassingLemmas.{Reads}
use Rattle.amo_plan.proofs.schedule.read_words.Given as goal

abbrev pub invariant-loop-i : goal.invariant-loop-i
invariant-loop-i l = Reads (λ w. w.now) (word_at l.version l.workers) l.words l.i l.read.items
