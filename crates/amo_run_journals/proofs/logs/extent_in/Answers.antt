-- `extent_in`: what its loop keeps and its promises, by the lemmas of Extents.
use Rattle.std.proofs.Common.{◌≡◌, ◌+◌, Bool, true, false, cond, List, ℕ, Some, drop, sym, ap, ◌∙◌, arith}
use Rattle.std.specs.Str.{bytes_eq}
use Rattle.std.proofs.lemmas.List.{at_drop_all}
use Rattle.amo_run_journals.specs.Extents.{extent_named}
use Rattle.amo_run_journals.proofs.Extents.{named_at}
use Rattle.amo_run_journals.proofs.logs.extent_in.Goals as goal
use Rattle.amo_run_journals.proofs.logs.extent_in.Goals.{After-eq}

-- the name at this place was compared
by_name : (c : After-eq) (is : Bool) → c.eq.result ≡ is
    → extent_named c.args.name.now c.args.extents.now ≡ cond is (Some c.extent-item.result) (extent_named c.args.name.now (drop (c.loop-extent.extent-index + 1) c.args.extents.now))
by_name c is h =
    let name = c.args.name.now in
    let extents = c.args.extents.now in
    let i = c.loop-extent.extent-index in
    c.loop-extent.invariant
    ∙ named_at name extents i c.extent-item.result (omega (arith, c.loop-extent-test.true)) c.extent-item.is
    ∙ ap (λ (t : Bool). cond t (Some c.extent-item.result) (extent_named name (drop (i + 1) extents)))
    (ap (λ (bs : List ℕ). bytes_eq bs name) (sym c.as_slice.ensures.value) ∙ sym c.eq.ensures ∙ h)

pub returns-then-eq : goal.returns-then-eq
returns-then-eq c = sym (by_name (goal.at.returns-then-eq c).After-eq true c.if-eq.true)

pub loop-extent-preserved : goal.loop-extent-preserved
loop-extent-preserved c = by_name (goal.at.loop-extent-preserved c).After-eq false c.if-eq.false

pub returns : goal.returns
returns c = sym (c.loop-extent.invariant ∙ at_drop_all (extent_named c.args.name.now) c.args.extents.now c.loop-extent.extent-index c.loop-extent-test.false)
