-- The meaning of each exit status, for the words, the reader and the two writers.
use Rattle.std.specs.Prelude.{◌≡◌, ◌⊎◌, ℕ, List, Bool, false, Option, Some, None, Result, MatchResult, ⊤}
use Rattle.std.specs.Io.KnownBytes.{IsAtEnd}
use Rattle.amo_render.specs.declared.writing.ReplayFault.{ReplayFault}
use Rattle.amo_render.specs.declared.writing.ReplayFault.TheVariants as replay
use Rattle.amo_cli.specs.declared.fault.Fault.{Fault}
use Rattle.amo_cli.specs.declared.fault.Fault.TheVariants.{Plan, NoCommand, NoMemory, Thread, Read, Write}
use Rattle.amo_cli.specs.Endings.{Change, IsKept, Tells}
use Rattle.amo_cli.specs.Faults.{is_of_reader, is_of_writer}

-- A fact on the bytes that a reader had, and on those that a writer held and holds, if they are
-- known.
abbrev pub Left : Type 1
Left = (known old new : Option (List ℕ)) → Type 0

-- The request of the words was found: a command, or that they are not a command, or out of memory.
abbrev pub IsAsked : {C : Type 0} → Option C → Result C Fault → Type 0
IsAsked wanted found = MatchResult found (λ command. wanted ≡ Some command) (λ fault. ((fault ≡ NoCommand) × (wanted ≡ None)) ⊎ (fault ≡ NoMemory))

-- Nothing that was written to `out` waits for a flush, if it is a text that was written whole
-- before the fault came.
abbrev pub IsPassedOn : Fault → Bool → Type 0
IsPassedOn Thread waits = waits ≡ false
IsPassedOn fault waits = ⊤

module _ {C : Type 0} where
  -- The wanted text was written to `out`, and nothing else. The reader is at its end, and neither
  -- has failed.
  pub record IsDone (writes : C → Left) (wanted : Option C) (reader out : Change) : Type 0 where
    pub command : C
    pub asked : wanted ≡ Some command
    pub read : IsAtEnd reader.after
    pub written : writes command reader.before out.before out.after
    pub source : reader.failed ≡ false
    pub sink : out.failed ≡ false

  -- A text was wanted, and this fault came of it.
  pub record IsRefused (refuses : C → ReplayFault → Left) (fault : ReplayFault) (wanted : Option C) (reader out : Change) : Type 0 where
    pub command : C
    pub asked : wanted ≡ Some command
    pub left : refuses command fault reader.before out.before out.after

  -- Some thread could not be started: what came of the others was written, and nothing else. The reader is at its end.
  pub record IsOfOthers (others : C → Left) (wanted : Option C) (reader out : Change) : Type 0 where
    pub command : C
    pub asked : wanted ≡ Some command
    pub read : IsAtEnd reader.after
    pub written : others command reader.before out.before out.after

  -- when each fault comes, and what it leaves in the reader and in `out`
  abbrev pub Leaves : (refuses : C → ReplayFault → Left) (others : C → Left) → Fault → Option C → Change → Change → Type 0
  Leaves refuses others (Plan f) wanted reader out = IsRefused refuses (replay.Plan f) wanted reader out
  Leaves refuses others NoCommand wanted reader out = (wanted ≡ None) × (reader.after ≡ reader.before) × (out.after ≡ out.before)
  Leaves refuses others NoMemory wanted reader out = IsKept out
  Leaves refuses others Thread wanted reader out = IsOfOthers others wanted reader out
  Leaves refuses others Read wanted reader out = IsRefused refuses replay.Read wanted reader out
  Leaves refuses others Write wanted reader out = IsRefused refuses replay.Write wanted reader out

  -- This fault came, and left this. The reader has failed exactly if it is `Read`, and `out`
  -- exactly if it is `Write`.
  pub record IsFault (refuses : C → ReplayFault → Left) (others : C → Left) (fault : Fault) (wanted : Option C) (reader out : Change) : Type 0 where
    pub left : Leaves refuses others fault wanted reader out
    pub source : reader.failed ≡ is_of_reader fault
    pub sink : out.failed ≡ is_of_writer fault

  -- The meaning of an exit status. Either the command was done, nothing was written to `err`, and
  -- the status is 0. Or a fault came and was reported, and the status is that of the fault, 1 to 4.
  -- The flag is true if nothing that was written to `out` waits.
  abbrev pub Ends : (writes : C → Left) (refuses : C → ReplayFault → Left) (others : C → Left) → Option C → Change → Change → Bool → Change → ℕ → Type 0
  Ends writes refuses others wanted reader out waits err status =
      (IsDone writes wanted reader out × IsKept err × (status ≡ 0))
      ⊎ ((fault : Fault) × IsFault refuses others fault wanted reader out × IsPassedOn fault waits × Tells fault err status)
