-- `read_day`: its promises, directly from definitions and clauses.
use Rattle.std.proofs.Common.{rules}
use Rattle.std.proofs.lemmas.Option.{IfSome_then}
use Rattle.amo_example_payments.specs.Days.{IsDayOf}
use Rattle.amo_example_payments.proofs.day.read_day.Goals as goal

pub returns-then-not-is_fit-clause-crew : goal.returns-then-not-is_fit-clause-crew
returns-then-not-is_fit-clause-crew g c _ =
    IfSome_then (g.B.Read.remaining c.args.input.now) {P = λ text. IsDayOf text c.in_ok-day.day} (search rules) (λ text is. (c.in_ok-day.day, is, search rules))
