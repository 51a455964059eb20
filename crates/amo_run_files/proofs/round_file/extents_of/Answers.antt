-- `extents_of`: what its loop keeps, by the lemmas of RoundFileTexts.
use Rattle.std.proofs.Common.{sym, ap, ◌∙◌}
use Rattle.std.specs.Prelude.{option_map}
use Rattle.amo_run_files.specs.Extents.{extent_said, extent_in}
use Rattle.amo_run_files.proofs.RoundFileTexts.{extents_on}
use Rattle.amo_run_files.proofs.round_file.extents_of.Goals as goal

pub loop-text-preserved : goal.loop-text-preserved
loop-text-preserved c =
    extents_on c.args.texts.now c.loop-text.text-index c.text-item.result c.loop-text.extents.items c.push.new.self.items c.in-Some.extent c.loop-text-test.true c.text-item.is
    (ap extent_in (sym c.deref.ensures.value) ∙ sym c.in_ok-extent.ensures ∙ ap (option_map extent_said) c.in-Some.is) c.in_ok-push.ensures.items
    ∙ c.loop-text.invariant
