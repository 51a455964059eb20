-- The facts that each pass of a loop of `RoundFile::print` keeps.
use Rattle.std.proofs.Common.{◌≡◌, ◌++◌, drop, map}
use Rattle.amo_run_log.specs.Texts.{ended}
use Rattle.amo_run_files.specs.Extents.{extent_said, text_of_extent}
use Rattle.amo_run_files.specs.RoundFiles.{file_said, body_texts}
use Rattle.amo_run_files.proofs.round_file.RoundFile.print.Given as goal

abbrev pub invariant-loop-extent : goal.invariant-loop-extent
invariant-loop-extent l = l.text.items ++ ended (map text_of_extent (map extent_said (drop l.extent-index l.self.extents.items))) ≡ ended (body_texts (file_said l.self))
