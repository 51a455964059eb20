-- `judge_run`: the premises of its calls, what its loop keeps and its promises, by the lemmas of
-- Runs.
use Rattle.std.proofs.Common.{map, slice_index_or, subst, take, ◌∙◌}
use Rattle.amo_safety_by_journals.specs.Runs.{site_of}
use Rattle.amo_call_log_judge.specs.Events.{event_of}
use Rattle.amo_call_log_judge.specs.Seen.{IsReason}
use Rattle.amo_call_log_judge.specs.declared.event.Event.TheVariants.{Begins as BeginsRead}
use Rattle.amo_call_log_judge.proofs.Runs.{goes_on, no_run_at, run_of_all, stands_at}
use Rattle.amo_call_log_judge.proofs.judging.judge_run.Goals as goal

pub against-requires-clause-stands : goal.against-requires-clause-stands
against-requires-clause-stands c = stands_at c.args.events.now c.loop-index.index (BeginsRead 0) c.loop-index-test.true c.requires

pub apply-requires-clause-stands : goal.apply-requires-clause-stands
apply-requires-clause-stands c = stands_at c.args.events.now c.loop-index.index (BeginsRead 0) c.loop-index-test.true c.requires

pub loop-index-preserved : goal.loop-index-preserved
loop-index-preserved c =
    let both =
    goes_on c.args.events.now c.loop-index.index (BeginsRead 0) c.loop-index.site c.apply.new.self c.loop-index-test.true c.loop-index.invariant.run c.loop-index.invariant.shows
    (subst (IsReason (site_of (map event_of (take c.loop-index.index c.args.events.now))) (event_of (slice_index_or c.args.events.now c.loop-index.index (BeginsRead 0)))) c.in_default.is (c.against.ensures (site_of (map event_of (take c.loop-index.index c.args.events.now))) c.loop-index.invariant.shows))
    c.in_ok-apply.ensures
    in
    record { run = both.0; shows = both.1 }

pub returns-in-Some : goal.returns-in-Some
returns-in-Some c =
    no_run_at c.args.events.now c.loop-index.index (BeginsRead 0) c.in-Some.reason c.loop-index-test.true c.loop-index.invariant.run
    (subst (IsReason (site_of (map event_of (take c.loop-index.index c.args.events.now))) (event_of (slice_index_or c.args.events.now c.loop-index.index (BeginsRead 0)))) c.in-Some.is (c.against.ensures (site_of (map event_of (take c.loop-index.index c.args.events.now))) c.loop-index.invariant.shows))

pub returns : goal.returns
returns c =
    run_of_all c.args.events.now c.loop-index.index c.loop-index.site c.len-performed.result c.loop-index-test.false c.loop-index.invariant.run c.loop-index.invariant.shows (c.len-performed.ensures ∙ c.loop-index.site.performed.ok.0)
