-- `look`: the premises of its calls, by the lemmas of Meetings (amo_words).
use Rattle.std.proofs.Common.{◌≡◌, ◌<◌, ◌≤◌, arith, ap, sym, ◌∙◌, subst, rules}
use Rattle.std.proofs.lemmas.Grind.{common_steps}
use Rattle.amo_params.specs.Givens.{IsWorker}
use Rattle.amo_words.specs.Faces.{spots}
use Rattle.amo_words.proofs.Meetings.{back_from}
use Rattle.amo_words_tests.proofs.floors.look.Goals as goal

pub place_of-requires : goal.place_of-requires
place_of-requires c =
    let low : 0 < c.args.p = first_of (search rules, grind (arith, common_steps)) in
    let high : c.args.p ≤ c.args.givens.workers = first_of (search rules, grind (arith, common_steps)) in
    subst (λ gg. IsWorker gg c.args.p) (sym c.requires) (record { low = low; high = high })

pub steps_of-requires : goal.steps_of-requires
steps_of-requires c = let e = c.place_of.ensures in back_from (spots c.args.book.now) c.args.p e.0 e.1 (sym e.2 ∙ c.in-Back.is)

pub ended_of-requires : goal.ended_of-requires
ended_of-requires c = let e = c.place_of.ensures in back_from (spots c.args.book.now) c.args.p e.0 e.1 (sym e.2 ∙ c.in-Back.is)

pub claims_of-requires : goal.claims_of-requires
claims_of-requires c = let e = c.place_of.ensures in back_from (spots c.args.book.now) c.args.p e.0 e.1 (sym e.2 ∙ c.in-Back.is)

pub dones_of-requires : goal.dones_of-requires
dones_of-requires c = let e = c.place_of.ensures in back_from (spots c.args.book.now) c.args.p e.0 e.1 (sym e.2 ∙ c.in-Back.is)
