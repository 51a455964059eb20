-- `block_givens`: its promises, directly from definitions and clauses.
use Rattle.std.proofs.Common.{◌≡◌, ℕ, ap, sym, ◌∙◌}
use Rattle.std.specs.Int.{div_ceil}
use Rattle.amo_params.specs.Givens.{givens_of}
use Rattle.amo_plan.specs.Plan.{or_bad_givens}
use Rattle.amo_plan.proofs.reading.block_givens.Goals as goal

pub returns-in-Ok : goal.returns-in-Ok
returns-in-Ok c =
    let blocks : c.div_ceil-blocks.result ≡ div_ceil c.args.jobs c.args.block = c.div_ceil-blocks.ensures in
    ap (λ (n : ℕ). or_bad_givens (givens_of n c.args.workers c.args.beta)) (sym blocks) ∙ ap or_bad_givens (sym c.in-Ok.ensures)
