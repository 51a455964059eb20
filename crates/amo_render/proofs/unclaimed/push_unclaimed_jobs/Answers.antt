-- `push_unclaimed_jobs`: its promises, by the lemmas of Marks.
use Rattle.std.proofs.Common.{◌≡◌, List, ℕ, Bool, false, OnOk, ap, subst, string_bytes, ◌++◌, ◌∙◌}
use Rattle.amo_sets.specs.Lists.{numbered}
use Rattle.amo_render.specs.Numbers.{spaced}
use Rattle.amo_render.proofs.Marks.{unmarked_unclaimed}
use Rattle.amo_render.proofs.unclaimed.push_unclaimed_jobs.Goals as goal

pub returns : goal.returns
returns c =
    let known = c.in_ok-marks.ensures in
    let marks = c.deref.result.now in
    let same = unmarked_unclaimed marks c.args.jobs c.args.history.now (c.deref.ensures.len ∙ known.count) (λ k low high. ap (λ (xs : List Bool). numbered false xs k) c.deref.ensures.value ∙ known.marks k low high) in
    subst (λ (jobs : List ℕ). OnOk c.push_unmarked.result (string_bytes c.push_unmarked.new.out ≡ string_bytes c.args.out.now ++ spaced jobs)) same c.push_unmarked.ensures
