-- `hire_one`: its promises, by the lemmas of Hires.
use Rattle.std.proofs.Common.{◌≡◌, List, length, refl, sym, ap, ◌∙◌, subst}
use Rattle.amo_sets.specs.Lists.{numbered}
use Rattle.amo_words.specs.Hiring.{HasHired}
use Rattle.amo_crew.specs.Hired.{AreHired}
use Rattle.amo_crew.proofs.Hires.{hires_more}
use Rattle.amo_crew.proofs.run.hiring.hire_one.Goals as goal

pub returns-clause-hired : goal.returns-clause-hired
returns-clause-hired g c = let did = c.in_ok-worker.ensures.hired.1 in let book = c.hire.new.self in
    let p : c.len-p.result ≡ length c.args.kit.now.outlets.items = c.len-p.ensures ∙ c.args.kit.now.outlets.ok.0 in
    subst (λ (xs : List g.row.P.Denot). AreHired c.args.floor.now.table_id c.args.plan.now.givens xs c.args.plan.now.budgets book (record c.args.kit.now { outlets = c.pop.new.self; crew = c.push_reserved.new.self })) (sym did.kept.payloads)
    (hires_more _ _ _ _ c.args.book.now c.args.kit.now c.requires.hired c.pop.new.self c.push_reserved.new.self c.in-Some.outlet _ book c.in_ok-worker.worker c.in-Some.ensures.items c.pop.ensures.capacity c.push_reserved.ensures.items c.push_reserved.ensures.capacity
    (subst (λ n. HasHired c.args.book.now n book c.in_ok-worker.worker) p did) c.begin.ensures.state refl (c.budget-budget.ensures.budget ∙ ap (numbered 0 c.args.plan.now.budgets) p) c.budget-budget.ensures.limit)
