-- `Local::again`: its promises, by the lemmas of Again.
use Rattle.std.proofs.Common.{◌≡◌, true, [], ap, arith}
use Rattle.std.proofs.lemmas.Bool.{false_from_ne_true, and_parts}
use Rattle.amo_kk.specs.Again.{are_new, are_own_words}
use Rattle.amo_kk.specs.Machine.{LocalView}
use Rattle.amo_kk.proofs.Again.{new_few}
use Rattle.amo_kk.proofs.local.Local.again.Goals as goal

pub returns-then-row-givens-clause-refused : goal.returns-then-row-givens-clause-refused
returns-then-row-givens-clause-refused c = false_from_ne_true _ (λ (h : are_own_words c.args.self.givens c.args.announced c.args.counted c.args.row.now ≡ true).
    let few = new_few c.args.self.givens c.args.row.now (and_parts (are_new c.args.self.givens [] c.args.row.now) _ h).0 in
    let same = ap (λ (v : LocalView). v.givens.jobs) c.self.view_is in
    let many = c.if-row-givens.true in
    omega arith)
