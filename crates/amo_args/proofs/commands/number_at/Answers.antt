-- `number_at`: its promises, by the lemmas of Numbers.
use Rattle.std.proofs.Common.{◌≡◌, ◌∙◌, Some, sym, ap}
use Rattle.clap.specs.Words.{rows_of, found_of, first_of}
use Rattle.amo_args.proofs.Numbers.{at_is_decimal}
use Rattle.amo_args.proofs.commands.number_at.Goals as goal

pub returns-clause-decimal : goal.returns-clause-decimal
returns-clause-decimal c k =
    let found : first_of c.args.id.now (rows_of (found_of c.args.matches.now)) ≡ Some c.as_bytes.result.now = sym c.in_ok-text_at.ensures ∙ ap Some (sym c.as_bytes.ensures.value) in
    rw (c.number_within.ensures.value, found) (at_is_decimal c.args.low c.args.high (Some c.as_bytes.result.now) k c.requires)
