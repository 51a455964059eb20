-- `lines_behind`: its promises, directly from definitions and clauses.
use Rattle.std.proofs.Common.{◌≡◌, ℕ, List, map, take, Bor, IfOk, sym, ap, subst, ◌∙◌}
use Rattle.std.proofs.lemmas.List.{take-map}
use Rattle.amo_judge.specs.History.{first_history, with_lines}
use Rattle.amo_judge.proofs.reading.lines_behind.Goals as goal

pub returns : goal.returns
returns c =
    let now : List (Bor (List ℕ)) → List (List ℕ) = λ lines. map (λ line. line.now) lines in
    subst (λ (lines : List (List ℕ)). IfOk c.with_lines.result (λ read. read ≡ with_lines (first_history c.args.opening) lines))
    (ap now c.split_at.ensures.front ∙ sym (take-map (λ (line : Bor (List ℕ)). line.now) c.told.result c.args.behind.now) ∙ ap (λ (n : ℕ). take n (now c.args.behind.now)) c.told.ensures.is)
    c.with_lines.ensures
