-- `check`: its promises, by the lemmas of Ends and Refusals.
use Rattle.std.proofs.Common.{ℕ, ◌+◌, List, length, sym, ap, ◌∙◌, arith}
use Rattle.amo_run_files.specs.Lines.{lines_in}
use Rattle.amo_run_files.specs.Refusals.{why_remainder}
use Rattle.amo_run_files.proofs.Ends.{length_ends}
use Rattle.amo_run_files.proofs.Refusals.{refused_remainder}
use Rattle.amo_run_files.proofs.known.check.Goals as goal

pub returns-clause-refused : goal.returns-clause-refused
returns-clause-refused c =
    let lines = lines_in c.args.bytes.now in
    refused_remainder c.args.bytes.now c.args.cut (length c.args.ends.now + 1) c.in-Some.why c.in_ok-known.ensures.stand
    (ap (λ (r : List ℕ). why_remainder lines r c.args.cut) (sym c.remainder_of.ensures) ∙ sym (c.in_ok-why_remainder.ensures lines c.in_ok-known.ensures.known) ∙ c.in-Some.is)
    (omega (arith, ap length c.requires, length_ends 0 lines))
