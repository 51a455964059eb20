-- The facts that each pass of a loop of `Disk::image_after` keeps.
use Rattle.std.proofs.Common.{◌≡◌, take}
use Rattle.amo_sim_disk.specs.Replay.{OutcomeIn, read_in, story_of}
use Rattle.amo_sim_disk.proofs.disk.Disk.image_after.Given as goal

abbrev pub invariant-loop-i : goal.invariant-loop-i
invariant-loop-i l =
    let story = story_of l.self.first.items l.self.failing (take l.i l.made) in
    (l.read.items ≡ read_in story) × OutcomeIn story l.image.items
