-- `AttemptsByLine::grow`: what its type keeps, by the lemmas of ByLine.
use Rattle.amo_run_log.proofs.ByLine.{attempts_in, index_of_pushed}
use Rattle.amo_run_log.proofs.attempts_by_line.AttemptsByLine.grow.Goals as goal

pub invariant_of-self : goal.invariant_of-self
invariant_of-self c = record {
  indexed = index_of_pushed _ c.loop-line.self.lines.items c.push.new.self.items c.new.result (attempts_in c.loop-line.self.journals.items) c.push.ensures.items c.new.ensures.items c.loop-line.self.indexed;
}
