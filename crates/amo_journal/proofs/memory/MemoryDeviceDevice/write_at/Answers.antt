-- `MemoryDeviceDevice::write_at`: its promises, by the lemmas of Kept.
use Rattle.std.proofs.Common.{rules}
use Rattle.amo_journal.specs.Device.{Holds}
use Rattle.amo_journal.proofs.Kept.{whole_front}
use Rattle.amo_journal.proofs.Kept.{elapses_to}
use Rattle.amo_journal.proofs.memory.MemoryDeviceDevice.write_at.Goals as goal

pub returns-clause-time : goal.returns-clause-time
returns-clause-time c =
    let past = c.in_ok-replace.ensures.past in
    elapses_to c.args.self.now.past.items c.replace.new.past.items past.0 c.args.self.now.bytes.items c.replace.new.bytes.items past.1 past.2

pub returns-clause-front : goal.returns-clause-front
returns-clause-front c =
    let holds : Holds c.args.self.now.bytes.items c.args.at c.args.bytes.now c.replace.new.bytes.items = search rules in
    whole_front c.args.self.now.bytes.items c.args.at c.args.bytes.now c.replace.new.bytes.items holds
