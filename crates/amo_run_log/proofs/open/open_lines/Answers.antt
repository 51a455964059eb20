-- `open_lines`: its promises, by the lemmas of OpenLines.
use Rattle.std.proofs.Common.{◌≡◌, ℕ, ◌+◌, ◌<◌, ◌||◌, false, List, Vec, Global, length, get_or, map, replicate, rules, ap, ◌∙◌, arith}
use Rattle.std.specs.Prelude.{not}
use Rattle.std.specs.List.{filter}
use Rattle.std.proofs.lemmas.List.{take_at, get_or-replicate}
use Rattle.amo_run_log.specs.declared.journal.Attempt.{Attempt}
use Rattle.amo_run_log.specs.Open.{closed_by, is_open, numbers}
use Rattle.amo_run_log.proofs.OpenLines.{twice, in_ok}
use Rattle.amo_run_log.proofs.open.open_lines.Goals as goal

pub returns : goal.returns
returns c =
    let journals : List (List Attempt) = map (λ (journal : Vec Attempt Global). journal.items) c.args.journals.now in
    let size : length c.mark_all.new.closed ≡ c.in_ok-closed.closed.len = omega (arith, c.mark_all.auto.closed, c.deref_mut.ensures.len, c.in_ok-closed.ensures.len) in
    let same : c.deref.result.now ≡ c.mark_all.new.closed = c.deref.ensures.value ∙ take_at _ _ _ size in
    let long : length c.deref.result.now ≡ c.args.count = omega (arith, ap length same, c.mark_all.auto.closed, c.deref_mut.ensures.len, c.in_ok-closed.ensures.len) in
    let filled : c.in_ok-closed.closed.items ≡ replicate c.args.count false = search rules in
    let none : (k : ℕ) → k < c.args.count → get_or c.deref_mut.result.now k false ≡ false = λ k lt. ap (λ l. get_or l k false) (c.deref_mut.ensures.value ∙ filled) ∙ get_or-replicate c.args.count k false false lt in
    let marks : (k : ℕ) → k < length c.deref.result.now → get_or c.deref.result.now k false ≡ not (is_open c.args.findings.now journals (k + 1)) = λ k lt.
    ap (λ l. get_or l k false) same
    ∙ c.mark_all.ensures k (omega (arith, lt, long, c.deref_mut.ensures.len, c.in_ok-closed.ensures.len))
    ∙ ap (λ b. b || closed_by c.args.findings.now 1 journals (k + 1)) (none k (omega (arith, lt, long)))
    ∙ twice (closed_by c.args.findings.now 1 journals (k + 1)) in
    in_ok c.unmarked.result (c.unmarked.ensures (is_open c.args.findings.now journals) marks) (λ lines is. is ∙ ap (λ n. filter (is_open c.args.findings.now journals) (numbers n)) long)
