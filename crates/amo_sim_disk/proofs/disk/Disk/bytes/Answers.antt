-- `Disk::bytes`: its promises, by the lemmas of Possible.
use Rattle.std.proofs.Common.{◌≡◌, List, ℕ, reverse, sym, subst, rules}
use Rattle.amo_sim_disk.specs.Disk.{disk_story}
use Rattle.amo_sim_disk.specs.Replay.{OutcomeIn, read_in}
use Rattle.amo_sim_disk.proofs.Possible.{possible}
use Rattle.amo_sim_disk.proofs.disk.Disk.bytes.Goals as goal

pub returns-clause-possible : goal.returns-clause-possible
returns-clause-possible c =
    let disk = c.args.self.now in
    let same : c.deref.result.now ≡ read_in (disk_story disk) = search rules in
    subst (λ (image : List ℕ). OutcomeIn (disk_story disk) image) (sym same) (possible disk.first.items (reverse disk.calls.items))
