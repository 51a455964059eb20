-- `call_back`: what its loop keeps and its promises, by the lemmas of Backs.
use Rattle.std.proofs.Common.{List, Some, rules, ◌∙◌, subst}
use Rattle.std.proofs.lemmas.List.Elements.{All-pop}
use Rattle.amo_crew.specs.declared.run.member.Member.{Member}
use Rattle.amo_crew.specs.Hired.{AreCalledOff, AtTable}
use Rattle.amo_crew.proofs.Backs.{goes_back}
use Rattle.amo_crew.proofs.settle.calling_off.call_back.Goals as goal

pub loop-member-preserved : goal.loop-member-preserved
loop-member-preserved g c = let inv = c.loop-member.invariant in let rest = c.pop.new.self.items in let member = c.in-Some.member in let did = c.send_back.ensures.collected in
    record {
      table = did.kept.table ∙ inv.table;
      workers = (All-pop (AtTable c.args.floor.now.table_id) c.loop-member.crew.items rest (Some member) c.in-Some.ensures.items inv.workers).0;
      back = λ queue gg payloads budgets before.
          let had = subst (λ (l : List (Member g.row.P.Denot g.row.Out.Denot)). AreCalledOff queue c.args.floor.now.table_id gg payloads budgets c.loop-member.book l) c.in-Some.ensures.items (inv.back queue gg payloads budgets before) in
          goes_back queue c.args.floor.now.table_id gg payloads budgets c.loop-member.book rest member c.send_back.new.book had did;
    }

pub returns-clause-back : goal.returns-clause-back
returns-clause-back g c = λ queue gg payloads budgets before. subst (λ (l : List (Member g.row.P.Denot g.row.Out.Denot)). AreCalledOff queue c.args.floor.now.table_id gg payloads budgets c.loop-member.book l) (search rules) (c.loop-member.invariant.back queue gg payloads budgets before)
