-- `sets_of`: what its loop keeps, by the lemmas of Zips (amo_crew).
use Rattle.std.proofs.Common.{ℕ, ◌+◌, List, [], ◌∷◌, ◌++◌, Bool, Vec, Global, take, refl, sym, ap, subst, ◌∙◌}
use Rattle.std.specs.List.{AllZip}
use Rattle.std.proofs.lemmas.List.{take_more}
use Rattle.amo_crew.proofs.Zips.{zip_more}
use Rattle.amo_run_plan.specs.Noted.{IsSetOf}
use Rattle.amo_run_plan.proofs.block_done.sets_of.Goals as goal

pub loop-list-preserved : goal.loop-list-preserved
loop-list-preserved c =
    let lists = c.args.lists.now in
    let i = c.loop-list.list-index in
    let is : (v : Vec ℕ Global) (bits : List Bool) → Type 0 = λ v bits. IsSetOf c.args.jobs v.items bits in
    let grown = take_more lists i c.list-item.result c.loop-list-test.true ∙ ap (λ (v : Vec ℕ Global). take i lists ++ v ∷ []) (sym c.list-item.is) in
    let set = subst (λ (l : List ℕ). IsSetOf c.args.jobs l c.in_ok-set_of.field-0) c.deref.ensures.value c.in_ok-set_of.ensures in
    let more = zip_more is (take i lists) (take (i + 1) lists) c.list-item.result [] c.loop-list.sets.items c.push.new.self.items c.in_ok-set_of.field-0 grown
    (c.loop-list.sets.items, refl, c.loop-list.invariant) c.in_ok-push.ensures.items set in
    subst (λ (ys : List (List Bool)). AllZip is (take (i + 1) lists) ys) (sym more.1) more.2
