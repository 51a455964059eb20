-- The registers of the definitions after C has carried out an access.
use Rattle.std.specs.Prelude.{ℕ, slice_index, set, ◌==◌, if◌then◌else◌}
use Rattle.amo_process.specs.Shared.{Shared, with_heard}
use Rattle.amo_c.specs.Codes.{access_code}
use Rattle.amo_c.specs.declared.codes.AccessCode.TheVariants.{Load, Store}
use Rattle.amo_c.specs.declared.told.AmoNext.{AmoNext}

-- a load lets the process of worker p hear what stands at the word; a store puts the value there
abbrev pub carried_out : Shared → ℕ → AmoNext → Shared
carried_out s p n =
    if n.access == access_code Load then with_heard s p (slice_index s.words n.word) s.words
    else if n.access == access_code Store then with_heard s p 0 (set s.words n.word n.value)
    else s
