-- `request_of_line`: its promises, by the lemmas of Lines.
use Rattle.std.proofs.Common.{◌≡◌, ◌∙◌, ap, map, List, refl, sym, inl, inr}
use Rattle.std.proofs.lemmas.Bool.{false≢true}
use Rattle.clap.specs.declared.error.ErrorKind.TheVariants.{OutOfMemory}
use Rattle.clap.specs.Words.{Text, rows_of, found_of, kind_of, is_simple_and_free}
use Rattle.amo_args.proofs.Lines.{amo_is_free, asks_row, no_faults, found_is_ours, subcommand_found, asks_nothing}
use Rattle.amo_args.proofs.commands.request_of_line.Goals as goal

pub returns-in-Some-request_of_row-clause-request : goal.returns-in-Some-request_of_row-clause-request
returns-in-Some-request_of_row-clause-request c =
    let line : List Text = map (λ w. w.now) c.args.line.now in
    let m = c.in-Ok.matches in
    let taken = no_faults _ line c.in_ok-command.ensures c.in-Ok.ensures.kinds in
    let found = subcommand_found m c.in-Some.name.now (rows_of (found_of c.in-Some.inner.now)) c.in-Some.ensures.name c.in-Some.ensures.rows in
    asks_row line _ _ taken (sym (found_is_ours _ line m c.in_ok-command.ensures c.in-Ok.ensures.matches) ∙ found) ∙ sym c.in-Some-request_of_row.ensures.request

pub returns-in-Some-clause-request : goal.returns-in-Some-clause-request
returns-in-Some-clause-request c =
    let line : List Text = map (λ w. w.now) c.args.line.now in
    let m = c.in-Ok.matches in
    let taken = no_faults _ line c.in_ok-command.ensures c.in-Ok.ensures.kinds in
    let found = subcommand_found m c.in-Some.name.now (rows_of (found_of c.in-Some.inner.now)) c.in-Some.ensures.name c.in-Some.ensures.rows in
    inl (refl, asks_row line _ _ taken (sym (found_is_ours _ line m c.in_ok-command.ensures c.in-Ok.ensures.matches) ∙ found) ∙ sym c.in-None-request_of_row.ensures.request)

pub returns-clause-request : goal.returns-clause-request
returns-clause-request c =
    let line : List Text = map (λ w. w.now) c.args.line.now in
    let is_ours = c.in_ok-command.ensures in
    let other : kind_of c.in-Err.error ≡ OutOfMemory → ⊥ = λ e. let same : c.kind.result ≡ OutOfMemory = c.kind.ensures ∙ e in false≢true (rw same at c.if-eq.ensures) in
    inl (
      refl,
      elim (c.in-Err.ensures.kinds (ap is_simple_and_free is_ours ∙ amo_is_free)) [
        | inl memory ↦ absurd (other memory)
        | inr among ↦ asks_nothing _ line (kind_of c.in-Err.error) is_ours among
      ],
    )
