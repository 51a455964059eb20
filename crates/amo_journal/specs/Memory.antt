-- The file of a device in memory.
use Rattle.std.specs.Prelude.{ℕ, List}
use Rattle.amo_journal.specs.declared.memory.MemoryDevice.{MemoryDevice}

-- the bytes that it holds
abbrev pub memory_bytes : MemoryDevice → List ℕ
memory_bytes m = m.bytes.items
