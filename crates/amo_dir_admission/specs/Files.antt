-- The files that are made with a run's id, in the order in which they are made.
use Rattle.std.specs.Prelude.{ℕ, zero, suc, ◌+◌, ◌-◌, Bool, true, false, List, [], ◌∷◌}
use Rattle.amo_params.specs.declared.limits.TheConstants.{MAX_WORKERS}
use Rattle.amo_dir_admission.specs.declared.model.RunFile.{RunFile}
use Rattle.amo_dir_admission.specs.declared.model.RunFile.TheVariants.{Round, Answers, Journal, Id, Forgotten}

-- The journals of so many workers, from this one on.
abbrev pub journals_from : (worker count : ℕ) → List RunFile
journals_from worker zero = []
journals_from worker (suc n) = Journal worker ∷ journals_from (worker + 1) n

-- The journals of the workers from this one to the last that a run may have.
abbrev pub journals_since : (worker : ℕ) → List RunFile
journals_since worker = journals_from worker ((MAX_WORKERS + 1) - worker)

-- The files after this one.
abbrev pub files_after : RunFile → List RunFile
files_after Round = Answers ∷ journals_since 1
files_after Answers = journals_since 1
files_after (Journal worker) = journals_since (worker + 1)
files_after Id = []
files_after Forgotten = []

-- All of them: `lock.round`, the answers, and the journals of all workers. The id comes after them.
abbrev pub first_files : List RunFile
first_files = Round ∷ files_after Round

-- Whether a file is made with a byte. One that is without any has lost it.
abbrev pub has_byte : RunFile → Bool
has_byte Round = false
has_byte file = true

-- The bytes with which a file is made: a closed commit byte, which is `-`, and of `lock.round` none.
abbrev pub first_bytes : RunFile → List ℕ
first_bytes Round = []
first_bytes file = 45 ∷ []
