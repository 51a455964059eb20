-- `run_from`: the premises of its calls and its promises, by the lemmas of Zips.
use Rattle.std.proofs.Common.{subst, Some}
use Rattle.std.proofs.lemmas.List.Elements.{All-pop}
use Rattle.amo_crew.specs.declared.run.member.Member.{Member}
use Rattle.amo_crew.specs.Crew.{MayRun, IsFinishOf}
use Rattle.amo_crew.proofs.Zips.{zip_more}
use Rattle.amo_crew.proofs.run.threads.+run_from.Goals as goal

pub run_from-requires-clause-crew : goal.run_from-requires-clause-crew
run_from-requires-clause-crew g t c κs within = (All-pop (MayRun c.args.queue.now c.args.floor.now.table_id) c.args.crew.items c.pop.new.self.items (Some c.in-Some.member) c.in-Some.ensures.items c.requires.crew).0

pub returns-clause-finishes : goal.returns-clause-finishes
returns-clause-finishes g t c = zip_more _ _ _ _ _ _ _ _ c.in-Some.ensures.items c.run_from.ensures.finishes c.push_reserved.ensures.items
    (subst (λ (m : Member g.row.P.Denot g.row.W-Out.Denot). IsFinishOf (g.W.Work.related c.args.work.now) c.args.queue.now c.args.floor.now.table_id m c.finish_of.result) c.of-before.ensures c.finish_of.ensures.run)
