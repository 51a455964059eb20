-- The numbers that C is given, and for what each stands.
use Rattle.std.specs.Prelude.{ℕ}
use Rattle.amo_params.specs.declared.givens.GivensFault.{GivensFault}
use Rattle.amo_params.specs.declared.givens.GivensFault.TheVariants.{TooManyJobs, NoWorkers, TooManyWorkers, BetaLow, BetaHigh}
use Rattle.amo_kk.specs.declared.phase.Phase.{Phase}
use Rattle.amo_kk.specs.declared.phase.Phase.TheVariants.{Announcing, Trying, Reading, Claiming, Holding, Over, Left}
use Rattle.amo_process.specs.declared.access.Access.{Access}
use Rattle.amo_process.specs.declared.access.Access.TheVariants.{Load, Store, Nothing}
use Rattle.amo_c.specs.declared.codes.AccessCode.{AccessCode}
use Rattle.amo_c.specs.declared.codes.AccessCode.TheVariants.{Nothing as ToNothing, Load as ToLoad, Store as ToStore, LoadRow}
use Rattle.amo_c.specs.declared.codes.PhaseCode.{PhaseCode}
use Rattle.amo_c.specs.declared.codes.PhaseCode.TheVariants.{Beginning as IsBeginning, Announcing as IsAnnouncing, Trying as IsTrying, Reading as IsReading, Claiming as IsClaiming, Holding as IsHolding, Over as IsOver, Left as HasLeft}
use Rattle.amo_c.specs.declared.codes.FaultCode.{FaultCode}
use Rattle.amo_c.specs.declared.codes.FaultCode.TheVariants.{TooManyJobs as ManyJobs, NoWorkers as NoneWork, TooManyWorkers as ManyWorkers, BetaLow as LowBeta, BetaHigh as HighBeta, NoSuchWorker, NoSuchNumber, NoMemory, MayNotLeave}

-- the number of what is to be done with a word
abbrev pub access_code : AccessCode → ℕ
access_code ToNothing = 0
access_code ToLoad = 1
access_code ToStore = 2
access_code LoadRow = 3

-- the number of a phase
abbrev pub phase_code : PhaseCode → ℕ
phase_code IsBeginning = 0
phase_code IsAnnouncing = 1
phase_code IsTrying = 2
phase_code IsReading = 3
phase_code IsClaiming = 4
phase_code IsHolding = 5
phase_code IsOver = 6
phase_code HasLeft = 7

-- the number of a fault; 0 stands for none
abbrev pub fault_code : FaultCode → ℕ
fault_code ManyJobs = 1
fault_code NoneWork = 2
fault_code ManyWorkers = 3
fault_code LowBeta = 4
fault_code HighBeta = 5
fault_code NoSuchWorker = 6
fault_code NoSuchNumber = 7
fault_code NoMemory = 8
fault_code MayNotLeave = 9

-- what an access does
abbrev pub kind_of : Access → AccessCode
kind_of (Load word) = ToLoad
kind_of (Store word value) = ToStore
kind_of Nothing = ToNothing

-- the code of a worker in this phase
abbrev pub phase_of : Phase → PhaseCode
phase_of (Announcing j) = IsAnnouncing
phase_of (Trying j q) = IsTrying
phase_of (Reading j q) = IsReading
phase_of (Claiming j) = IsClaiming
phase_of (Holding j) = IsHolding
phase_of Over = IsOver
phase_of Left = HasLeft

-- the fault of givens that break this limit first
abbrev pub fault_of : GivensFault → FaultCode
fault_of TooManyJobs = ManyJobs
fault_of NoWorkers = NoneWork
fault_of TooManyWorkers = ManyWorkers
fault_of BetaLow = LowBeta
fault_of BetaHigh = HighBeta
