-- With which status the program ends.
use Rattle.std.specs.Prelude.{ℕ}
use Rattle.amo_run_faults.specs.declared.error.Fault.{Fault}
use Rattle.amo_run_faults.specs.declared.error.Fault.TheVariants.{Memory, List, Changed, Entry, Damaged, Lost, DamagedRun, Refused, Answer, Early, Untimed, NoAnswerOf, Missing, Empty, NoRun, NoId, OldRun, OtherId, HasId, NotNew, Forgotten, Left, Closed, NoSuchNumber, NoWay, Write, Journal, Read, Later, NoAnswer, Door}

-- 65: a file's text is refused, or a file that a run has isn't there, or another run's, 69: the
-- partner ended it, 70: no worker goes on, 71: no memory, 73: a file can't be written, 74: one
-- can't be read, 75: come back later, 76: no answer, 77: the folder is refused
abbrev pub status_of : Fault → ℕ
status_of (List line why) = 65
status_of (Changed line) = 65
status_of (Entry item number) = 65
status_of (Damaged item number kind) = 65
status_of (Lost item loss) = 65
status_of DamagedRun = 65
status_of (Refused item) = 65
status_of (Answer number refusal) = 65
status_of (Untimed answers) = 65
status_of (NoAnswerOf number) = 65
status_of (Missing item) = 65
status_of (Empty item) = 65
status_of NoRun = 65
status_of NoId = 65
status_of OldRun = 65
status_of OtherId = 65
status_of HasId = 65
status_of (NotNew name) = 65
status_of Forgotten = 65
status_of Left = 69
status_of Closed = 69
status_of (NoSuchNumber word value) = 70
status_of NoWay = 70
status_of Memory = 71
status_of (Write item error) = 73
status_of (Journal item) = 73
status_of (Read item error) = 74
status_of (Early answers) = 75
status_of (Later later) = 75
status_of (NoAnswer text) = 76
status_of (Door door) = 77
