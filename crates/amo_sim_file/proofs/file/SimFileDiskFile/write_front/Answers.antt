-- `SimFileDiskFile::write_front`: what a crash may leave, by the lemma of Fronts.
use Rattle.std.proofs.Common.{take, rules, arith}
use Rattle.std.proofs.lemmas.List.{length-take}
use Rattle.amo_sim_disk.specs.Disk.{disk_story}
use Rattle.amo_sim_file.proofs.Fronts.{torn_front}
use Rattle.amo_sim_file.proofs.file.SimFileDiskFile.write_front.Goals as goal

pub returns-in-Ok-clause-crash : goal.returns-in-Ok-clause-crash
returns-in-Ok-clause-crash c after holds file leaves =
    let ends = c.in-Ok.ensures.ends in
    let old = disk_story c.args.self.now.disk in
    let new = disk_story c.write_at.new.self in
    let count = c.if-eq-2.count in
    torn_front c.args.at (take count c.args.bytes.now) c.args.bytes.now c.args.before.now after old new ends.1.0 ends.0
    (omega (arith, length-take count c.args.bytes.now)) ends.1.1 ends.1.2 ends.2 (search rules) holds file leaves
