-- `DiskDevice::read`: its promises, by the lemmas of Ends.
use Rattle.amo_sim_disk.specs.Disk.{disk_story}
use Rattle.amo_sim_disk.proofs.Ends.{time_on}
use Rattle.amo_sim_disk.proofs.disk.DiskDevice.read.Goals as goal

pub returns-clause-time : goal.returns-clause-time
returns-clause-time c = time_on (disk_story c.args.self.now) (disk_story c.make.new.self) c.read_call-call.result c.make.result c.make.ensures

pub returns-in_err-make-clause-time : goal.returns-in_err-make-clause-time
returns-in_err-make-clause-time c = time_on (disk_story c.args.self.now) (disk_story c.make.new.self) c.read_call-call.result c.make.result c.make.ensures
