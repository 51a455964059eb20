-- `tell_round`: its promises, by the lemmas of Fronts.
use Rattle.std.proofs.Common.{◌≡◌, rules, OnErr, subst, append_assoc}
use Rattle.amo_io.specs.Streams.{AppendsFront}
use Rattle.amo_example_payments.specs.Reports.{round_text}
use Rattle.amo_example_payments.proofs.Fronts.{wrote}
use Rattle.amo_example_payments.proofs.telling.tell_round.Goals as goal

pub returns-clause-front : goal.returns-clause-front
returns-clause-front g c =
    let same : c.as_str.result.now ≡ round_text c.args.sorted.now = search (rules, append_assoc) in
    subst (λ t. OnErr c.write_out.result (AppendsFront (g.O.Write.contents c.args.out.now) (g.O.Write.contents c.write_out.new.out) t)) same c.write_out.ensures.front

pub returns-clause-memory : goal.returns-clause-memory
returns-clause-memory g c = wrote _ _ c.write_out.result c.write_out.ensures.fault
