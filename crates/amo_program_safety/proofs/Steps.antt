-- Facts about a process after a call.
use Rattle.std.proofs.Common.{◌≡◌, ℕ, List, [], Option, Some, None, sym, ap, ◌∙◌, subst}
use Rattle.std.specs.Prelude.{⊤}
use Rattle.amo_safety_by_journals.specs.Model.{Free, Site}
use Rattle.amo_host.specs.declared.model.LogFile.{LogFile}
use Rattle.amo_host.specs.declared.model.LogFile.TheVariants.{Journal}
use Rattle.amo_host.specs.Calls.{Call, HasPut, HasOwed, HasPaid, request_of}
use Rattle.amo_host.specs.Logs.{Logs}
use Rattle.amo_host.specs.Phase.{Phase}
use Rattle.amo_host.specs.Protocol.{Allows, phase_after}
use Rattle.amo_run_log.specs.declared.entry.Entry.{Entry}
use Rattle.amo_program_safety.specs.World.{Log, Process, World, journal_by, owed_by, guard_by, process_by, called}
use Rattle.amo_program_safety.specs.Runs.{IsItsCall, KernelGives, RunnerGives}
use Rattle.amo_program_safety.proofs.Standing.{IsOpened, Settled, Knows, KnowsPrior, Owes, Stand, Goes, Quiet, At}
use Rattle.amo_program_safety.proofs.Points.{log_it}
use Rattle.amo_program_safety.proofs.Acting.{Turns}

-- A living process in this phase may end this call, in a world that goes with the site v.
pub record Made (w : World) (v : Site) (pid : ℕ) (p : Process) (ph : Phase) (c : Call) : Type 0 where
  pub goes : Goes w v
  pub lives : w.process pid ≡ Some p
  pub phase_is : p.phase ≡ ph
  pub allowed : Allows ph (request_of c)
  pub its : IsItsCall p.writes (request_of c)
  pub kernel : KernelGives w p c
  pub runner : RunnerGives w p.worker c

-- The world after this call of the process.
abbrev pub next_world : World → ℕ → Process → Call → World
next_world w pid p c = called w pid (Some p) c

-- The facts of its phase hold for the process that makes the call.
pub stood : (w : World) (v : Site) (pid : ℕ) (p : Process) (ph : Phase) (c : Call) → Made w v pid p ph c → At w v pid p ph
stood w v pid p ph c m = subst (λ x. At w v pid p x) m.phase_is (m.goes.stand pid p m.lives).here

-- ---- the entry that a process owes

pub owes_more : (v v' : Site) (q : ℕ) (owed : Option Entry) → ((r s : ℕ) → IsOpened v r s → IsOpened v' r s) → ((r s : ℕ) → Settled v r s → Settled v' r s) → Owes v q owed → Owes v' q owed
owes_more v v' q None opened settled owes = tt
owes_more v v' q (Some e) opened settled owes = (owes.0, (λ s is. opened q s (owes.1 s is)), λ s c is. settled q s (owes.2 s c is))

-- The process owes no new entry after this call.
abbrev pub OwesNoMore : Call → Type 0
OwesNoMore (HasOwed entry) = ⊥
OwesNoMore c = ⊤

owes_on : (v : Site) (q : ℕ) (owed : Option Entry) (c : Call) → OwesNoMore c → Owes v q owed → Owes v q (owed_by owed c)
owes_on v q owed (HasOwed entry) none owes = absurd none
owes_on v q owed (HasPut entry) none owes = tt
owes_on v q owed HasPaid none owes = tt
owes_on v q owed c none owes = owes

-- ---- a process after a call

pub stand_owing : (w : World) (v v' : Site) (pid : ℕ) (p : Process) (ph : Phase) (c : Call) → Made w v pid p ph c
    → Owes v' p.worker (owed_by p.owed c)
    → At (next_world w pid p c) v' pid (process_by p c) (phase_after ph c) → Stand (next_world w pid p c) v' pid (process_by p c)
stand_owing w v v' pid p ph c m owes here = record {
  low = (m.goes.stand pid p m.lives).low;
  high = (m.goes.stand pid p m.lives).high;
  owes = owes;
  fits = tt;
  here = subst (λ x. At (next_world w pid p c) v' pid (process_by p c) (phase_after x c)) (sym m.phase_is) here;
}

pub stand_by : (w : World) (v v' : Site) (pid : ℕ) (p : Process) (ph : Phase) (c : Call) → Made w v pid p ph c → OwesNoMore c
    → Turns v v' p.worker
    → At (next_world w pid p c) v' pid (process_by p c) (phase_after ph c) → Stand (next_world w pid p c) v' pid (process_by p c)
stand_by w v v' pid p ph c m none turned here = stand_owing w v v' pid p ph c m
    (owes_on v' p.worker p.owed c none (owes_more v v' p.worker p.owed turned.opened turned.settled (m.goes.stand pid p m.lives).owes)) here

-- A process is quiet after a call if it has its lock, all appends of its journal are kept, and it
-- attempts no line in the model.
pub quiet_on : (w : World) (v' : Site) (pid : ℕ) (p : Process) (c : Call) → w.guard p.worker ≡ Some pid → guard_by w.guard pid c ≡ w.guard
    → (journal_by (w.logs (Journal p.worker)) p.owed c).rest ≡ [] → v'.stage p.worker ≡ Free → Quiet (next_world w pid p c) v' pid (process_by p c)
quiet_on w v' pid p c own guard rest free = record {
  owns = record {
    guard = ap (λ g. g p.worker) guard ∙ own;
    rest = ap (λ (l : Log). l.rest) (log_it w.logs (Journal p.worker) _) ∙ rest;
  };
  free = free;
}

-- ---- the knowledge of a process when more attempts are opened

pub knows_more : (v v' : Site) (read : LogFile → List (List ℕ)) (logs : Logs) → ((r s : ℕ) → IsOpened v r s → IsOpened v' r s) → Knows v read logs → Knows v' read logs
knows_more v v' read logs more k = record {
  len = k.len;
  lines = k.lines;
  opened = λ i es is j e at re. more _ _ (k.opened i es is j e at re);
  undone = λ r s is. more r s (k.undone r s is);
}

pub prior_more : (v v' : Site) (read : LogFile → List (List ℕ)) (prior : Option Logs) → ((r s : ℕ) → IsOpened v r s → IsOpened v' r s) → KnowsPrior v read prior → KnowsPrior v' read prior
prior_more v v' read None more k = k
prior_more v v' read (Some logs) more k = knows_more v v' read logs more k
