-- `DiskDevice::write_at`: its promises, by the lemmas of Ends.
use Rattle.std.proofs.Common.{◌≡◌, List, ℕ, subst, rules}
use Rattle.amo_journal.specs.Device.{WritesFront}
use Rattle.amo_sim_disk.specs.Calls.{IsWrite}
use Rattle.amo_sim_disk.specs.Disk.{disk_story}
use Rattle.amo_sim_disk.specs.Replay.{read_in}
use Rattle.amo_sim_disk.proofs.Ends.{leaves, time_on, writes_front}
use Rattle.amo_sim_disk.proofs.disk.DiskDevice.write_at.Goals as goal

pub returns-clause-time : goal.returns-clause-time
returns-clause-time c = time_on (disk_story c.args.self.now) (disk_story c.make.new.self) c.write_call-call.result c.make.result c.make.ensures

pub returns-clause-front : goal.returns-clause-front
returns-clause-front c =
    let old = disk_story c.args.self.now in
    let new = disk_story c.make.new.self in
    let same : c.in_ok-given.given.items ≡ c.args.bytes.now = search rules in
    subst (λ (bytes : List ℕ). WritesFront (read_in old) c.args.at bytes (read_in new)) same
    (writes_front c.fails_next.result c.args.at c.in_ok-given.given old new c.write_call-call.result c.make.result c.write_call-call.ensures.call c.make.ensures)

pub returns-clause-ends : goal.returns-clause-ends
returns-clause-ends c = leaves (IsWrite c.args.at c.args.bytes.now) (disk_story c.args.self.now) (disk_story c.make.new.self) c.write_call-call.result c.make.result (search rules)
    (c.in_ok-given.given, search rules, search rules) c.make.ensures
