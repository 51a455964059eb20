-- `image_of`: its promises, by the lemmas of Possible.
use Rattle.std.proofs.Common.{◌≡◌, sym, ◌∙◌, ap, subst}
use Rattle.amo_sim_disk.specs.declared.call.Call.{Call}
use Rattle.amo_sim_disk.specs.Calls.{read_after}
use Rattle.amo_sim_disk.specs.Replay.{OutcomeIn, noted, read_in}
use Rattle.amo_sim_disk.proofs.Possible.{synced}
use Rattle.amo_sim_disk.proofs.tearing.image_of.Goals as goal

pub returns-in-Sync : goal.returns-in-Sync
returns-in-Sync c story reads left =
    let same : c.in_ok-next.next.items ≡ read_in story = c.in_ok-next.ensures ∙ ap (λ (it : Call). read_after it c.args.read.now) c.in-Sync.is ∙ sym reads in
    subst (λ (it : Call). OutcomeIn (noted it story) c.in_ok-next.next.items) (sym c.in-Sync.is) (synced story c.in_ok-next.next.items same)
