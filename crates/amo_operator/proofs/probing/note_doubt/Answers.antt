-- `note_doubt`: its promises, by the lemmas of Setting.
use Rattle.std.proofs.Common.{length, refl, arith}
use Rattle.std.proofs.lemmas.Option.{slice_get_read}
use Rattle.amo_operator.proofs.Setting.{doubts}
use Rattle.amo_operator.proofs.probing.note_doubt.Goals as goal

pub returns-in-Some : goal.returns-in-Some
returns-in-Some c =
    let js = c.args.journals.now.items in
    let k = c.saturating_sub.result in
    let es = c.in-Some.attempts.now in
    let item = c.in-Some.ensures.item in
    doubts js c.args.attempt c.args.time k es c.note_doubt_in.new.attempts c.saturating_sub.ensures (slice_get_read js (length js) k es refl (omega (arith, item.0)) item.1) c.note_doubt_in.ensures
