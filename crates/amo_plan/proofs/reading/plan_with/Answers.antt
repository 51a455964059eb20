-- `plan_with`: what its type keeps, by the lemmas of FineLemmas and WithinLemmas.
use Rattle.std.proofs.Common.{sym, []}
use Rattle.std.proofs.lemmas.List.{length-map}
use Rattle.amo_plan.proofs.FineLemmas.{jobs_fit}
use Rattle.amo_plan.proofs.WithinLemmas.{schedule_in_range}
use Rattle.amo_plan.proofs.reading.plan_with.Goals as goal

pub invariant_of-result-clause-blocks : goal.invariant_of-result-clause-blocks
invariant_of-result-clause-blocks c = rw (c.new.ensures, c.in_ok-names.ensures.names) (simp length-map (sym c.requires.blocks))

pub invariant_of-result-clause-tasked : goal.invariant_of-result-clause-tasked
invariant_of-result-clause-tasked c = rw (c.new.ensures, c.in_ok-names.ensures.names, c.new-4.ensures, c.in_ok-names.ensures.tasks) (simp length-map)

pub invariant_of-result-clause-fitting : goal.invariant_of-result-clause-fitting
invariant_of-result-clause-fitting c = rw (c.new-4.ensures, c.in_ok-names.ensures.tasks) (jobs_fit [] 1 c.args.jobs.items _ (rw c.deref.ensures.value at c.in_ok-check_jobs.ensures))

pub invariant_of-result-clause-within : goal.invariant_of-result-clause-within
invariant_of-result-clause-within c = rw (c.new-2.ensures) (schedule_in_range c.args.top.now.form.version c.args.givens c.args.top.now.more.schedule.now _ c.in_ok-moves.ensures)
