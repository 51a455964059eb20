-- `known_lines`: what its loop keeps and its promises, by the lemmas of Ends and Refusals.
use Rattle.std.proofs.Common.{◌≡◌, ◌+◌, ◌<◌, ◌++◌, ◌∷◌, [], ℕ, List, length, take, get_or, Option, Some, None, sym, ap, subst, ◌∙◌, arith, below_more, take_all}
use Rattle.std.specs.Prelude.{IfNone}
use Rattle.std.proofs.lemmas.List.{take_more}
use Rattle.amo_run_files.specs.Known.{HasJust}
use Rattle.amo_run_files.specs.Lines.{lines_in}
use Rattle.amo_run_files.specs.Refusals.{why_not}
use Rattle.amo_run_files.proofs.Ends.{length_ends}
use Rattle.amo_run_files.proofs.Refusals.{first_refused}
use Rattle.amo_run_files.proofs.known.known_lines.Goals as goal

if_none : {A P : Type 0} (o : Option A) → o ≡ None → IfNone o P → P
if_none None is p = p
if_none (Some x) is p = absurd (cc)

pub returns-in-Some-clause-refused : goal.returns-in-Some-clause-refused
returns-in-Some-clause-refused c =
    let lines = lines_in c.args.bytes.now in
    let i = c.loop-i.i in
    first_refused lines i c.in-Some.why (omega (arith, c.loop-i-test.true, ap length c.requires, length_ends 0 lines))
    (ap (why_not (take i lines)) (sym c.line_at-line.ensures) ∙ sym (c.in_ok-why.ensures.exact (take i lines) c.loop-i.invariant.0) ∙ c.in-Some.is) c.loop-i.invariant.1

pub loop-i-preserved : goal.loop-i-preserved
loop-i-preserved c =
    let lines = lines_in c.args.bytes.now in
    let i = c.loop-i.i in
    let within : i < length lines = omega (arith, c.loop-i-test.true, ap length c.requires, length_ends 0 lines) in
    let more : take i lines ++ c.line_at-line.result.now ∷ [] ≡ take (i + 1) lines = ap (λ (l : List ℕ). take i lines ++ l ∷ []) c.line_at-line.ensures ∙ sym (take_more lines i [] within) in
    let stands : why_not (take i lines) (get_or lines i []) ≡ None =
    ap (why_not (take i lines)) (sym c.line_at-line.ensures) ∙ sym (c.in_ok-why.ensures.exact (take i lines) c.loop-i.invariant.0) ∙ c.in_default.is in (
      subst (λ (ls : List (List ℕ)). HasJust c.why_not.new.known ls) more (if_none c.in_ok-why.field-0 c.in_default.is (c.in_ok-why.ensures.known (take i lines) c.loop-i.invariant.0)),
      below_more (λ k. why_not (take k lines) (get_or lines k []) ≡ None) i c.loop-i.invariant.1 stands,
    )

pub returns-clause-known : goal.returns-clause-known
returns-clause-known c =
    let lines = lines_in c.args.bytes.now in
    subst (λ (ls : List (List ℕ)). HasJust c.loop-i.known ls) (take_all c.loop-i.i lines (omega (arith, c.loop-i-test.false, ap length c.requires, length_ends 0 lines))) c.loop-i.invariant.0

pub returns-clause-stand : goal.returns-clause-stand
returns-clause-stand c k lt =
    c.loop-i.invariant.1 k (omega (arith, lt, c.loop-i-test.false, ap length c.requires, length_ends 0 (lines_in c.args.bytes.now)))
