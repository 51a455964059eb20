-- The line of a plan's fault: its number, its name and its fields.
use Rattle.std.specs.Prelude.{ℕ, List, ◌++◌, codes}
use Rattle.std.specs.Fmt.{decimal}
use Rattle.amo_params.specs.declared.givens.GivensFault.{GivensFault}
use Rattle.amo_params.specs.declared.givens.GivensFault.TheVariants.{TooManyJobs, NoWorkers, TooManyWorkers, BetaLow, BetaHigh}
use Rattle.amo_plan.specs.declared.fault.PlanFault.{PlanFault}
use Rattle.amo_plan.specs.declared.fault.PlanFault.TheVariants.{NotToml, UnknownKey, MissingKey, WrongKind, BadGivens, TwoNames, BadName, SumTooLarge, BadScheduleWord, NoSuchWorker, TooLong, NoMemory}

-- the number and the name of a fault of the givens
abbrev pub givens_fault_name : GivensFault → List ℕ
givens_fault_name TooManyJobs = codes "1 TooManyJobs"
givens_fault_name NoWorkers = codes "2 NoWorkers"
givens_fault_name TooManyWorkers = codes "3 TooManyWorkers"
givens_fault_name BetaLow = codes "4 BetaLow"
givens_fault_name BetaHigh = codes "5 BetaHigh"

-- `fault`, the number and the name, and the fields
abbrev pub fault_line : PlanFault → List ℕ
fault_line NotToml = codes "fault 1 NotToml\n"
fault_line (UnknownKey j) = codes "fault 2 UnknownKey " ++ decimal j ++ codes "\n"
fault_line (MissingKey j) = codes "fault 3 MissingKey " ++ decimal j ++ codes "\n"
fault_line (WrongKind j) = codes "fault 4 WrongKind " ++ decimal j ++ codes "\n"
fault_line (BadGivens f) = codes "fault 5 BadGivens " ++ givens_fault_name f ++ codes "\n"
fault_line (TwoNames j) = codes "fault 6 TwoNames " ++ decimal j ++ codes "\n"
fault_line (BadName j) = codes "fault 7 BadName " ++ decimal j ++ codes "\n"
fault_line (SumTooLarge j) = codes "fault 8 SumTooLarge " ++ decimal j ++ codes "\n"
fault_line (BadScheduleWord i) = codes "fault 9 BadScheduleWord " ++ decimal i ++ codes "\n"
fault_line (NoSuchWorker i) = codes "fault 10 NoSuchWorker " ++ decimal i ++ codes "\n"
fault_line TooLong = codes "fault 11 TooLong\n"
fault_line NoMemory = codes "fault 12 NoMemory\n"
