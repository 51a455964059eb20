-- How files of a run are opened.
use Rattle.amo_run_faults.specs.declared.layout.Item.{Item}
use Rattle.amo_run_faults.specs.declared.layout.Item.TheVariants.{Runner}
use Rattle.amo_system_calls.specs.declared.model.Mode.{Mode}
use Rattle.amo_system_calls.specs.declared.model.Mode.TheVariants.{ReadWrite, MakeOrReadWrite}

-- To be locked and written: only the lock of a runner is made if it is missing.
abbrev pub mode_of : Item → Mode
mode_of (Runner worker) = MakeOrReadWrite
mode_of item = ReadWrite
