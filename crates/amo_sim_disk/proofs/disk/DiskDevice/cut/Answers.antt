-- `DiskDevice::cut`: its promises, by the lemmas of Ends.
use Rattle.std.proofs.Common.{◌≡◌, rules}
use Rattle.amo_sim_disk.specs.Calls.{cut_call}
use Rattle.amo_sim_disk.specs.Disk.{disk_story}
use Rattle.amo_sim_disk.proofs.Ends.{leaves, time_on}
use Rattle.amo_sim_disk.proofs.disk.DiskDevice.cut.Goals as goal

pub returns-clause-time : goal.returns-clause-time
returns-clause-time c = time_on (disk_story c.args.self.now) (disk_story c.make.new.self) c.cut_call-call.result c.make.result c.make.ensures

pub returns-clause-ends : goal.returns-clause-ends
returns-clause-ends c =
    leaves (λ fails call. call ≡ cut_call fails c.args.len) (disk_story c.args.self.now) (disk_story c.make.new.self) c.cut_call-call.result c.make.result
    (search rules) (search rules) c.make.ensures
