-- The names of files and streams: of a file of the run its name in the folder, and of all others what messages call it.
use Rattle.std.specs.Prelude.{ℕ, List, ◌++◌, ◌∷◌, codes}
use Rattle.std.specs.Fmt.{decimal}
use Rattle.amo_run_faults.specs.declared.layout.Item.{Item}
use Rattle.amo_run_faults.specs.declared.layout.Item.TheVariants.{Run, Id, Forgotten, Journal, Round, Record, Known, Words, Runner, Command, Answers, List as JobList, Sheet, Boot, Random, Mounts, Handle, Ext4, Output}

abbrev pub name_of : Item → List ℕ
name_of Run = codes "the run's folder"
name_of Id = codes "id"
name_of Forgotten = codes "forgotten"
name_of (Journal worker) = codes "journal." ++ decimal worker
name_of Round = codes "lock.round"
name_of Record = codes "record"
name_of Known = codes "jobs"
name_of Words = codes "words"
name_of (Runner worker) = codes "runner." ++ decimal worker
name_of (Command worker serial) = codes "command." ++ (decimal worker ++ (codes "." ++ decimal serial))
name_of Answers = codes "answers"
name_of JobList = codes "the jobs' file"
name_of Sheet = codes "the file of answers"
name_of Boot = codes "the boot id"
name_of Random = codes "/proc/sys/kernel/random/uuid"
name_of Mounts = codes "/proc/self/mountinfo"
name_of Handle = codes "/proc/self/fdinfo"
name_of Ext4 = codes "/proc/fs/ext4"
name_of Output = codes "standard output"

-- The path of a file of the run in this folder.
abbrev pub path_in : (folder : List ℕ) → Item → List ℕ
path_in folder item = folder ++ (codes "/" ++ name_of item)
