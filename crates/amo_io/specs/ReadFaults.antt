-- Which faults of reading all are those of the source.
use Rattle.std.specs.Prelude.{Bool, true, false}
use Rattle.amo_io.specs.declared.copying.ReadFault.{ReadFault}
use Rattle.amo_io.specs.declared.copying.ReadFault.TheVariants.{Failed, NoMemory}

-- the source failed
abbrev pub is_failure : ReadFault → Bool
is_failure Failed = true
is_failure NoMemory = false
