-- `torn`: its promises, by the lemmas of Torn.
use Rattle.std.proofs.Common.{◌≡◌, ℕ, List, sym, ◌∙◌, ap, subst}
use Rattle.std.proofs.lemmas.Result.{IfOk-weaker}
use Rattle.amo_journal.specs.Device.{Torn}
use Rattle.amo_sim_disk.specs.Calls.{with_bytes}
use Rattle.amo_sim_disk.proofs.Torn.{torn_over}
use Rattle.amo_sim_disk.proofs.tearing.torn.Goals as goal

pub returns : goal.returns
returns c =
    let image = c.args.image.now in
    let told = c.in_ok-bytes.ensures in
    let is_torn : Torn c.args.at c.args.len c.args.read.now image (with_bytes c.args.at c.in_ok-bytes.bytes.items image) =
    torn_over c.args.at c.args.len c.min.result c.min-2.result c.args.came.now
    c.in_ok-bytes.bytes.items c.args.read.now image c.if-at-image.false c.min.ensures c.min-2.ensures told.count told.each in
    IfOk-weaker c.written_over.result
    (λ after. after.items ≡ with_bytes c.args.at c.deref.result.now image)
    (λ after. Torn c.args.at c.args.len c.args.read.now image after.items)
    (λ after is. subst (λ (l : List ℕ). Torn c.args.at c.args.len c.args.read.now image l) (sym (is ∙ ap (λ (l : List ℕ). with_bytes c.args.at l image) c.deref.ensures.value)) is_torn)
    c.written_over.ensures
