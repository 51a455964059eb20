-- `Disk::image_after`: what its loop keeps, by the lemmas of Noting.
use Rattle.std.proofs.Common.{◌≡◌, ◌<◌, ℕ, List, get_or, length, take, sym, ◌∙◌, ap, subst, rules}
use Rattle.amo_sim_disk.specs.Calls.{read_after}
use Rattle.amo_sim_disk.specs.Replay.{OutcomeIn, Story, read_in, story_of}
use Rattle.amo_sim_disk.proofs.Noting.{story_more}
use Rattle.amo_sim_disk.proofs.disk.Disk.image_after.Goals as goal

pub loop-i-preserved : goal.loop-i-preserved
loop-i-preserved c =
    let disk = c.args.self.now in
    let call = c.index-made-i.result in
    let made = take c.min.result c.deref.result.now in
    let old = story_of disk.first.items disk.failing (take c.loop-i.i made) in
    let lt : c.loop-i.i < length made = search rules in
    let is : call ≡ get_or made c.loop-i.i call = search rules in
    let reads : read_in old ≡ c.deref-in-loop-i.result.now = search rules in
    let next : c.in_ok-read-2.read.items ≡ read_after call (read_in old) = search rules in
    let left : OutcomeIn old c.deref-in-loop-i-2.result.now = subst (λ (image : List ℕ). OutcomeIn old image) (sym c.deref-in-loop-i-2.ensures.value) c.loop-i.invariant.1 in
    let more = story_more disk.first.items disk.failing made c.loop-i.i call lt is in (
      next ∙ sym (ap (λ (story : Story). read_in story) more),
      subst (λ (story : Story). OutcomeIn story c.in_ok-image-2.image.items) (sym more) (c.in_ok-image-2.ensures old reads left),
    )
