-- The part of a simulated file that contracts see.
use Rattle.amo_sim_disk.specs.declared.disk.Disk.{Disk}
use Rattle.amo_sim_file.specs.declared.file.SimFile.{SimFile}

-- the disk on which its bytes lie
abbrev pub file_disk : SimFile → Disk
file_disk file = file.disk
