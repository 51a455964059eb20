-- Facts about operators' commands on a machine whose world goes with a site.
use Rattle.std.proofs.Common.{◌≡◌, ◌≤◌, ◌<◌, ◌-◌, ℕ, suc, List, [], length, Some, None}
use Rattle.std.specs.Prelude.{⊤, slice_get}
use Rattle.amo_safety_by_journals.specs.Model.{IsOneOf, Site, Event as ModelEvent, line_of}
use Rattle.amo_safety_by_journals.specs.Runs.{Clearance, IsRunFrom, site_from}
use Rattle.amo_params.specs.declared.limits.TheConstants.{MAX_WORKERS}
use Rattle.amo_run_log.specs.declared.entry.Entry.TheVariants.{Answer as Answered}
use Rattle.amo_run_log.specs.declared.entry.Outcome.{Outcome}
use Rattle.amo_run_log.specs.declared.finding.Finding.{Finding}
use Rattle.amo_run_log.specs.declared.finding.Resolution.TheVariants.{NotDone}
use Rattle.amo_run_log.specs.declared.journal.Attempt.{Attempt}
use Rattle.amo_run_log.specs.Entries.{append_in}
use Rattle.amo_status.specs.declared.state.AttemptId.{AttemptId}
use Rattle.amo_operator.specs.Knowing.{workers_from}
use Rattle.amo_operator.specs.Phase.{Known, Texts, Phase, Reads, Checks, Settles, Looks, Behind, Pends, Idles, Rests, Probes, Finds, Dates, Records, Puts}
use Rattle.amo_program_safety.specs.Texts.{entries_of, lines_in}
use Rattle.amo_program_safety.specs.Machine.{Operator, Machine}
use Rattle.amo_program_safety.proofs.Standing.{Settled, Goes}

-- Each attempt that has an outcome in these texts of a worker's journal is settled.
abbrev pub AreSettled : Site → (worker : ℕ) → List (List ℕ) → Type 0
AreSettled v q texts = (text : List ℕ) (s : ℕ) (c : Outcome) → IsOneOf texts text → IsOneOf (entries_of (append_in text)) (Answered s c) → Settled v q s

-- Each attempt that has an outcome in a journal that the command has read is settled.
abbrev pub TextsHold : Site → Texts → Type 0
TextsHold v t = (k : ℕ) (texts : List (List ℕ)) → slice_get t.journals k ≡ Some texts → AreSettled v (suc k) texts

-- Each intent in these texts of a worker's journal is kept.
abbrev pub AreKept : Site → (worker : ℕ) → List (List ℕ) → Type 0
AreKept v q texts = (s line : ℕ) → line_of (lines_in texts) s ≡ Some line → line_of (v.kept q) s ≡ Some line

-- The command has the locks on the journals of the idle workers, and each intent that it has read
-- there is kept.
abbrev pub HasIdle : Machine → Site → (process : ℕ) → Texts → Type 0
HasIdle m v pid t = (q : ℕ) → IsOneOf t.idle q → (1 ≤ q) × (m.held q ≡ Some pid) × ((texts : List (List ℕ)) → slice_get t.journals (q - 1) ≡ Some texts → AreKept v q texts)

-- The list ws has consecutive workers, from the worker k on.
abbrev pub AreFrom : (worker : ℕ) → List ℕ → Type 0
AreFrom k ws = (n : ℕ) × (ws ≡ workers_from k n)

-- Each idle worker has a smaller number than the worker k.
abbrev pub AreBefore : Texts → (worker : ℕ) → Type 0
AreBefore t k = (q : ℕ) → IsOneOf t.idle q → q < k

-- Each attempt that the command knows to be final or to have an outcome is settled.
pub record KnownHold (v : Site) (k : Known) : Type 0 where
  pub answered : (j : ℕ) (es : List Attempt) → slice_get k.journals j ≡ Some es
      → (i : ℕ) (e : Attempt) (c : Outcome) → slice_get es i ≡ Some e → e.answer ≡ Some c → Settled v (suc j) (suc i)
  pub finals : (i : AttemptId) → IsOneOf k.finals i → Settled v i.worker i.serial

-- The command has the lock on the journal of this attempt, and the attempt is settled.
abbrev pub HasOne : Machine → Site → (process : ℕ) → AttemptId → Type 0
HasOne m v pid i = (1 ≤ i.worker) × (m.held i.worker ≡ Some pid) × Settled v i.worker i.serial

abbrev pub HasAll : Machine → Site → (process : ℕ) → List AttemptId → Type 0
HasAll m v pid is = (i : AttemptId) → IsOneOf is i → HasOne m v pid i

-- The command looks at journals under their locks. The journals of the workers from k on are left.
pub record LooksHold (m : Machine) (v : Site) (pid : ℕ) (t : Texts) (left : List ℕ) (k : ℕ) : Type 0 where
  pub texts : TextsHold v t
  pub idle : HasIdle m v pid t
  pub from : AreFrom k left
  pub low : 1 ≤ k
  pub before : AreBefore t k

-- The command looks at the journal of the worker w, which it has locked.
pub record LooksAt (m : Machine) (v : Site) (pid : ℕ) (t : Texts) (w : ℕ) (left : List ℕ) : Type 0 where
  pub looks : LooksHold m v pid t left (suc w)
  pub low : 1 ≤ w
  pub held : m.held w ≡ Some pid
  pub before : AreBefore t w

-- The facts that hold for a command in this phase.
abbrev pub StandsAt : Machine → Site → (process : ℕ) → Phase → Type 0
StandsAt m v pid (Reads command last t left) = TextsHold v t × AreFrom (suc (length t.journals)) left × (t.idle ≡ [])
StandsAt m v pid (Checks command last t) = TextsHold v t × (t.idle ≡ [])
StandsAt m v pid (Settles command last t) = TextsHold v t × (t.idle ≡ [])
StandsAt m v pid (Looks command last t left) = (k : ℕ) × LooksHold m v pid t left k
StandsAt m v pid (Behind command last t w left) = LooksAt m v pid t w left
StandsAt m v pid (Pends command last t w left) = LooksAt m v pid t w left
StandsAt m v pid (Idles command last t w left) = LooksAt m v pid t w left
StandsAt m v pid (Rests command last t w left) = LooksAt m v pid t w left
StandsAt m v pid (Probes command k left) = KnownHold v k × HasAll m v pid left
StandsAt m v pid (Finds command k i left) = KnownHold v k × HasOne m v pid i × HasAll m v pid left
StandsAt m v pid (Dates command k i time left) = KnownHold v k × HasOne m v pid i × HasAll m v pid left
StandsAt m v pid (Records command k i left) = KnownHold v k × HasAll m v pid left
StandsAt m v pid (Puts left) = (f : Finding) → IsOneOf left f → f.verdict ≡ NotDone → Settled v f.worker f.serial
StandsAt m v pid phase = ⊤

-- The machine m goes with the site v.
pub record Runs (m : Machine) (v : Site) : Type 0 where
  pub goes : Goes m.world v
  -- No worker's process has the lock on a journal that a command has locked.
  pub apart : (q pid : ℕ) → m.held q ≡ Some pid → m.world.guard q ≡ None
  pub stands : (pid : ℕ) (o : Operator) → m.operator pid ≡ Some o → StandsAt m v pid o.phase

-- By some events the model goes from the site v to a site that goes with the machine m.
pub record Leads (v : Site) (m : Machine) : Type 0 where
  pub events : List ModelEvent
  pub run : IsRunFrom Clearance MAX_WORKERS v events
  pub runs : Runs m (site_from v events)
