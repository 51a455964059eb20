-- `push_openings`: what its loop keeps, directly from definitions and clauses.
use Rattle.std.proofs.Common.{◌≡◌, ◌++◌, ◌+◌, refl, ap, sym, ◌∙◌, append_assoc, add-one, string_bytes}
use Rattle.amo_kk.specs.World.{process}
use Rattle.amo_trace.specs.Trace.{opening_line, opening_lines}
use Rattle.amo_trace.proofs.lines.push_openings.Goals as goal

pub loop-before-preserved : goal.loop-before-preserved
loop-before-preserved c =
    let w = c.args.world.now.world in
    let n = c.loop-before.before in
    let line = opening_line (n + 1) (process w (n + 1)) in
    let more : opening_lines w (n + 1) ≡ opening_lines w n ++ line = rw add-one refl in
    c.in_ok-push_opening.ensures
    ∙ ap (λ xs. xs ++ line) c.loop-before.invariant
    ∙ append_assoc (string_bytes c.args.out.now) (opening_lines w n) line
    ∙ ap (λ xs. string_bytes c.args.out.now ++ xs) (sym more)
