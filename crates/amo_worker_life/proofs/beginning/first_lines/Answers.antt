-- `first_lines`: that its places exist and its promises, directly from definitions and clauses.
use Rattle.std.proofs.Common.{◌≡◌, sym, subst, arith, rules}
use Rattle.std.specs.Prelude.{IfOk}
use Rattle.std.proofs.lemmas.List.{length-take-le, take_all}
use Rattle.amo_params.specs.declared.limits.TheConstants.{MAX_JOBS}
use Rattle.amo_worker_life.proofs.beginning.first_lines.Goals as goal

pub returns-then-lines-most : goal.returns-then-lines-most
returns-then-lines-most c =
    subst (λ xs. IfOk c.to_vec.result (λ first. first.items ≡ xs)) (sym (take_all MAX_JOBS c.args.lines.now (omega arith))) (search rules)

pub slice_bounds-to_vec-end : goal.slice_bounds-to_vec-end
slice_bounds-to_vec-end c = sym (length-take-le MAX_JOBS c.args.lines.now (omega arith))
