-- Facts about a command after a call that changes no log and no lock on a journal.
use Rattle.std.proofs.Common.{◌≡◌, ◌⊎◌, inl, inr, ⊎_elim, ◌≤◌, ◌<◌, ◌-◌, ◌+◌, ℕ, zero, suc, Bool, true, false, List, [], ◌∷◌, ◌++◌, length, Option, Some, None, refl, sym, ap, ◌∙◌, subst, arith}
use Rattle.std.specs.Prelude.{slice_get, slice_set}
use Rattle.std.proofs.lemmas.List.{length-append}
use Rattle.amo_safety_by_journals.specs.Model.{IsOneOf, Away, Clearing as ModelClearing, Site, line_of}
use Rattle.amo_host.specs.declared.model.LogFile.{LogFile}
use Rattle.amo_host.specs.declared.model.LogFile.TheVariants.{Journal as JournalFile}
use Rattle.amo_run_files.specs.declared.round_file.RoundFile.{RoundFile}
use Rattle.amo_run_log.specs.declared.entry.Outcome.{Outcome}
use Rattle.amo_run_log.specs.declared.finding.Finding.{Finding}
use Rattle.amo_run_log.specs.declared.journal.Attempt.{Attempt}
use Rattle.amo_status.specs.declared.state.AttemptId.{AttemptId}
use Rattle.amo_operator.specs.declared.model.Command.{Command}
use Rattle.amo_operator.specs.declared.model.Command.TheVariants.{Status, Doubts as AsksDoubts, Answer as Answering, Again}
use Rattle.amo_operator.specs.declared.model.OperatorLock.{OperatorLock}
use Rattle.amo_operator.specs.declared.model.OperatorLock.TheVariants.{Answers as AnswersLock, Journal as JournalLock, Runner, Command as CommandLock}
use Rattle.amo_operator.specs.Calls.{Request, TryLock, CheckFolder, ReadRound, ReadLog, ReadJobs, ReadClock, RemoveCommandFile, Print, Call, Tried, HasUnlocked, HasUnlockedAll, FolderIsKept, RoundIs, LogIs, Recovered, JobsAre, TimeIs, HasPutDoubt, HasRemoved, HasPutAnswer, HasPrinted, Fell, request_of}
use Rattle.amo_operator.specs.Judging.{Judged, judged_all, none_judged}
use Rattle.amo_operator.specs.Knowing.{all_workers, and_journal, known_in, pending_of, pends, with_final, with_journal, workers_from}
use Rattle.amo_operator.specs.Phase.{Known, Texts, Phase, Enters, HasHeader, Reads, Checks, Looks, Behind, Pends, Probes, Finds, Dates, Records, Prints, Puts}
use Rattle.amo_operator.specs.Protocol.{Allows, acts, behind_if, decides, finds_if, has_read, only_looks, phase_after, probed_if, probes_if, reads_to, records_doubts, sound_if}
use Rattle.amo_program_safety.specs.Texts.{lines_in}
use Rattle.amo_program_safety.specs.Runs.{AreRead}
use Rattle.amo_program_safety.specs.Machine.{Operator, Machine}
use Rattle.amo_program_safety.specs.Steps.{MachineGives}
use Rattle.amo_program_safety.proofs.Standing.{Settled}
use Rattle.amo_program_safety.proofs.Fresh.{HasOutcome, IsFinalOf, IsTold, again_of, attempts_answered, fresh_of, known_of, outcome_is, pending_member}
use Rattle.amo_program_safety.proofs.Ordering.{AreSettled, TextsHold, HasIdle, AreFrom, AreBefore, KnownHold, HasAll, LooksHold, LooksAt, StandsAt, Runs}
use Rattle.amo_program_safety.proofs.Reading.{read_of}
use Rattle.amo_program_safety.proofs.Texts.{attempts_lines, of_both}
use Rattle.amo_program_safety.proofs.Turning.{IsStill}

-- ---- lists

pub from_tail : (k w : ℕ) (left : List ℕ) → AreFrom k (w ∷ left) → (w ≡ k) × AreFrom (k + 1) left
from_tail k w left (zero, is) = absurd (cc is)
from_tail k w left (suc n, is) = (head, (n, tail))
  where
    head : w ≡ k
    head = cc is

    tail : left ≡ workers_from (k + 1) n
    tail = cc is

get_last : {A : Type 0} (xs : List A) (y : A) (i : ℕ) (x : A) → slice_get (xs ++ y ∷ []) i ≡ Some x → (slice_get xs i ≡ Some x) ⊎ ((i ≡ length xs) × (y ≡ x))
get_last [] y zero x is = inr (refl, cc)
get_last [] y (suc i) x is = absurd (cc is)
get_last (z ∷ xs) y zero x is = inl is
get_last (z ∷ xs) y (suc i) x is = ⊎_elim (λ old. inl old) (λ new. inr (ap suc new.0, new.1)) (get_last xs y i x is)

pub set_cases : {A : Type 0} (xs : List A) (k : ℕ) (y : A) (j : ℕ) (x : A) → slice_get (slice_set xs k y) j ≡ Some x → (slice_get xs j ≡ Some x) ⊎ ((j ≡ k) × (y ≡ x))
set_cases [] k y j x is = inl is
set_cases (z ∷ xs) zero y zero x is = inr (refl, cc)
set_cases (z ∷ xs) zero y (suc j) x is = inl is
set_cases (z ∷ xs) (suc k) y zero x is = inl is
set_cases (z ∷ xs) (suc k) y (suc j) x is = ⊎_elim (λ old. inl old) (λ new. inr (ap suc new.0, new.1)) (set_cases xs k y j x is)

pub get_set : {A : Type 0} (xs : List A) (k : ℕ) (y x : A) → slice_get (slice_set xs k y) k ≡ Some x → y ≡ x
get_set [] k y x is = absurd (cc is)
get_set (z ∷ xs) zero y x is = cc is
get_set (z ∷ xs) (suc k) y x is = get_set xs k y x is

-- ---- the texts that a command has read

module _ (m : Machine) (v : Site) (pid : ℕ) where
  pub read_settled : Runs m v → (q : ℕ) (texts : List (List ℕ)) → AreRead (m.world.logs (JournalFile q)) texts → AreSettled v q texts
  read_settled runs q texts are = λ text s c one says. runs.goes.answered q s c text (read_of (m.world.logs (JournalFile q)) [] texts are text one) says

  -- The facts about the texts of a command still hold after the command has read one journal again.
  pub texts_again : (t : Texts) (w : ℕ) (texts : List (List ℕ)) → 1 ≤ w → TextsHold v t → AreSettled v w texts → TextsHold v (with_journal t w texts)
  texts_again t w texts low hold settled k ts is = ⊎_elim
      (λ old. hold k ts old)
      (λ (new : (k ≡ w - 1) × (texts ≡ ts)).
      let here : w ≡ suc k = number new.0 in
      subst (λ (l : List (List ℕ)). AreSettled v (suc k) l) new.1 (subst (λ q. AreSettled v q texts) here settled))
      (set_cases t.journals (w - 1) texts k ts is)
    where
      number : k ≡ w - 1 → w ≡ suc k
      number e = omega (arith, e, low)

  pub idle_again : (t : Texts) (w : ℕ) (texts : List (List ℕ)) → 1 ≤ w → HasIdle m v pid t → AreBefore t w → HasIdle m v pid (with_journal t w texts)
  idle_again t w texts low idle before q one =
      let old = idle q one in (
        old.0,
        old.1,
        λ ts is. ⊎_elim
            (λ was. old.2 ts was)
            (λ (new : (q - 1 ≡ w - 1) × (texts ≡ ts)). absurd (never old.0 (before q one) new.0))
            (set_cases t.journals (w - 1) texts (q - 1) ts is),
      )
    where
      never : 1 ≤ q → q < w → q - 1 ≡ w - 1 → ⊥
      never one less same = omega (arith, one, less, same, low)

  pub looks_again : (t : Texts) (w : ℕ) (left : List ℕ) (texts : List (List ℕ)) → LooksAt m v pid t w left → AreSettled v w texts → LooksAt m v pid (with_journal t w texts) w left
  looks_again t w left texts h settled = record {
    looks = record {
      texts = texts_again t w texts h.low h.looks.texts settled;
      idle = idle_again t w texts h.low h.looks.idle h.before;
      from = h.looks.from;
      low = h.looks.low;
      before = h.looks.before;
    };
    low = h.low;
    held = h.held;
    before = h.before;
  }

  -- At first the command has looked at no journal under its lock.
  pub looks_first : (t : Texts) → TextsHold v t → t.idle ≡ [] → LooksHold m v pid t all_workers 1
  looks_first t hold none = record {
    texts = hold;
    idle = λ q one. absurd (subst (λ (l : List ℕ). IsOneOf l q) none one);
    from = (16, refl);
    low = omega arith;
    before = λ q one. absurd (subst (λ (l : List ℕ). IsOneOf l q) none one);
  }

  -- ---- the phases

  reads_next : (command : Command) (last : Option RoundFile) (t : Texts) (w : ℕ) (left : List ℕ) (texts : List (List ℕ)) → TextsHold v t × AreFrom (suc (length t.journals)) (w ∷ left) × (t.idle ≡ [])
      → AreSettled v w texts → StandsAt m v pid (reads_to command last (and_journal t texts) left)
  reads_next command last t w left texts (hold, from, none) settled = by left (from_tail (suc (length t.journals)) w left from)
    where
      held : w ≡ suc (length t.journals) → TextsHold v (and_journal t texts)
      held number k ts is = ⊎_elim
          (λ old. hold k ts old)
          (λ (new : (k ≡ length t.journals) × (texts ≡ ts)).
          let here : w ≡ suc k = number ∙ ap suc (sym new.0) in
          subst (λ (l : List (List ℕ)). AreSettled v (suc k) l) new.1 (subst (λ q. AreSettled v q texts) here settled))
          (get_last t.journals texts k ts is)

      longer : suc (length t.journals) + 1 ≡ suc (length (t.journals ++ texts ∷ []))
      longer = omega (arith, length-append t.journals (texts ∷ []))

      by : (left : List ℕ) → (w ≡ suc (length t.journals)) × AreFrom (suc (length t.journals) + 1) left → StandsAt m v pid (reads_to command last (and_journal t texts) left)
      by [] (number, from) = (held number, none)
      by (x ∷ left) (number, from) = (held number, subst (λ k. AreFrom k (x ∷ left)) longer from, none)

  sound_next : (command : Command) (last : Option RoundFile) (t : Texts) (k : Option Known) → TextsHold v t × (t.idle ≡ []) → StandsAt m v pid (sound_if command last t k)
  sound_next command last t None (hold, none) = tt
  sound_next command last t (Some k) (hold, none) = by (only_looks command)
    where
      by : (b : Bool) → StandsAt m v pid (has_read command last t b)
      by true = (1, looks_first t hold none)
      by false = (hold, none)

  known_holds : Runs m v → (count : ℕ) (lines : List (List ℕ)) (t : Texts) (records : Bool) (k : Known) → known_in count lines t records ≡ Some k
      → TextsHold v t → HasIdle m v pid t → KnownHold v k × HasAll m v pid (pending_of t.idle k.journals)
  known_holds runs count lines t records k is hold idle = (record { answered = answered; finals = finals }, all)
    where
      answered : (j : ℕ) (es : List Attempt) → slice_get k.journals j ≡ Some es → (i : ℕ) (e : Attempt) (c : Outcome) → slice_get es i ≡ Some e → e.answer ≡ Some c → Settled v (suc j) (suc i)
      answered j es there =
          let (texts, at, attempts) = (known_of count lines t records k is).at j es there in
          attempts_answered (λ s. Settled v (suc j) s) count texts es attempts (λ text s c one says. hold j texts at text s c one says)

      finals : (i : AttemptId) → IsOneOf k.finals i → Settled v i.worker i.serial
      finals i one = absurd (subst (λ (l : List AttemptId). IsOneOf l i) ((known_of count lines t records k is).finals_are) one)

      all : HasAll m v pid (pending_of t.idle k.journals)
      all i one =
          let p = pending_member t.idle k.journals i one in
          let mine = idle i.worker p.own in
          let (texts, at, attempts) = (known_of count lines t records k is).at (i.worker - 1) p.es p.journal in
          let said : line_of (lines_in texts) i.serial ≡ Some p.line = ap (λ (l : List ℕ). line_of l i.serial) (sym (attempts_lines count texts p.es attempts)) ∙ p.line_is in
          (mine.0, mine.1, ((p.line, mine.2 texts at i.serial p.line said), away i mine.1))
        where
          away : (i : AttemptId) → m.held i.worker ≡ Some pid → (line : ℕ) (seen : List ℕ) → v.stage i.worker ≡ ModelClearing i.serial line seen → ⊥
          away i mine line seen clears =
              let both : Away ≡ ModelClearing i.serial line seen = sym (runs.goes.away i.worker (runs.apart i.worker pid mine)) ∙ clears in
              absurd (cc both)

  probes_next : Runs m v → (command : Command) (count : ℕ) (lines : List (List ℕ)) (t : Texts) (records : Bool) (k : Option Known) → known_in count lines t records ≡ k
      → TextsHold v t → HasIdle m v pid t → StandsAt m v pid (probes_if command t.idle k)
  probes_next runs command count lines t records None is hold idle = tt
  probes_next runs command count lines t records (Some k) is hold idle = known_holds runs count lines t records k is hold idle

  -- An attempt to which the command answers is settled.
  told_settled : (k : Known) → KnownHold v k → (f : Finding) → IsTold k f → Settled v f.worker f.serial
  told_settled k hold f told = ⊎_elim
      (λ (has : HasOutcome k.journals f.worker f.serial). outcome_is (λ w s. Settled v w s) k.journals hold.answered f.worker f.serial has)
      (λ (final : IsFinalOf k.finals f.worker f.serial). hold.finals (record { worker = f.worker; serial = f.serial }) final)
      told

  decides_next : (command : Command) (fresh : List Finding) (findings : List Finding) (early waits : Bool) → ((f : Finding) → IsOneOf fresh f → Settled v f.worker f.serial)
      → StandsAt m v pid (decides command (Some (record { findings = findings; fresh = fresh; is_early = early; runs = waits })))
  decides_next command fresh findings true waits settled = tt
  decides_next command fresh findings false true settled = tt
  decides_next command fresh findings false false settled = λ f one not. settled f one

  acts_next : (command : Command) (k : Known) (time : ℕ) → KnownHold v k → StandsAt m v pid (acts command k time)
  acts_next (Status form) k time hold = tt
  acts_next (AsksDoubts form) k time hold = tt
  acts_next Again k time hold = λ f one not. told_settled k hold f (inl (again_of k time f one))
  acts_next (Answering said quiet) k time hold = by (judged_all k quiet time (none_judged k) said.items) refl
    where
      by : (j : Option Judged) → judged_all k quiet time (none_judged k) said.items ≡ j → StandsAt m v pid (decides (Answering said quiet) j)
      by None is = tt
      by (Some j) is = decides_next (Answering said quiet) j.fresh j.findings j.is_early j.runs (λ f one. told_settled k hold f (fresh_of k quiet time said.items j is f one))

  final_holds : (k : Known) (i : AttemptId) → KnownHold v k → Settled v i.worker i.serial → KnownHold v (with_final k i)
  final_holds k i hold settled = record {
    answered = hold.answered;
    finals = λ x one. ⊎_elim
        (λ old. hold.finals x old)
        (λ new. ⊎_elim
        (λ (same : i ≡ x). subst (λ (y : AttemptId). Settled v y.worker y.serial) same settled)
        (λ none. absurd none)
        new)
        (of_both k.finals (i ∷ []) x one);
  }

  probed_next : (command : Command) (k : Known) (i : AttemptId) (left : List AttemptId) (got : Bool) → KnownHold v k → HasAll m v pid (i ∷ left) → StandsAt m v pid (probed_if command k i left got)
  probed_next command k i left false hold all = (hold, λ x one. all x (inr one))
  probed_next command k i left true hold all = by k.records
    where
      by : (b : Bool) → StandsAt m v pid (finds_if command (with_final k i) i left b)
      by true = (final_holds k i hold (all i (inl refl)).2, all i (inl refl), λ x one. all x (inr one))
      by false = (final_holds k i hold (all i (inl refl)).2, λ x one. all x (inr one))

  behind_next : (command : Command) (last : Option RoundFile) (t : Texts) (w : ℕ) (left : List ℕ) (o : Option Bool) → LooksAt m v pid t w left → StandsAt m v pid (behind_if command last t w left o)
  behind_next command last t w left None h = tt
  behind_next command last t w left (Some true) h = h
  behind_next command last t w left (Some false) h = h

  -- The command passes by a journal whose lock it has not got.
  passed_by : (t : Texts) (alive : List ℕ) (w : ℕ) (left : List ℕ) → (k : ℕ) × LooksHold m v pid t (w ∷ left) k → (k : ℕ) × LooksHold m v pid (record t { alive = alive }) left k
  passed_by t alive w left (k, h) = (
    k + 1,
    record {
      texts = h.texts;
      idle = h.idle;
      from = (from_tail k w left h.from).1;
      low = omega (arith, h.low);
      before = λ q one. later q (h.before q one);
    },
  )
    where
      later : (q : ℕ) → q < k → q < k + 1
      later q less = omega (arith, less)

  -- The command has read the journal that it was to read, and each attempt with an outcome there is settled.
  log_read : (log : LogFile) (last from : Option RoundFile) (w : ℕ) (texts : List (List ℕ)) → Runs m v → ReadLog log from ≡ ReadLog (JournalFile w) last → AreRead (m.world.logs log) texts → AreSettled v w texts
  log_read log last from w texts runs is are =
      let same : log ≡ JournalFile w = cc is in
      read_settled runs w texts (subst (λ (l : LogFile). AreRead (m.world.logs l) texts) same are)

  pub looks_false : (command : Command) (last : Option RoundFile) (t : Texts) (w : ℕ) (left : List ℕ) → (k : ℕ) × LooksHold m v pid t (w ∷ left) k
      → StandsAt m v pid (Looks command last (record t { alive = t.alive ++ w ∷ [] }) left)
  looks_false command last t w left h = passed_by t (t.alive ++ w ∷ []) w left h

  -- ---- the cases of a call

  tried_still : (ph : Phase) (got : Bool) (lock : OperatorLock) → IsStill (Tried lock got) → Allows ph (TryLock lock) → StandsAt m v pid ph → StandsAt m v pid (phase_after ph (Tried lock got))
  tried_still (Enters command tried) true lock still allowed h = tt
  tried_still (Enters command tried) false lock still allowed h = tt
  tried_still (Looks command last t []) got lock still allowed h = tt
  tried_still (Looks command last t (w ∷ left)) false lock still allowed h = looks_false command last t w left h
  tried_still (Looks command last t (w ∷ left)) true lock still allowed h = absurd (not_still lock (cc allowed) still)
    where
      not_still : (lock : OperatorLock) → lock ≡ JournalLock w → IsStill (Tried lock true) → ⊥
      not_still (JournalLock x) same still = still
      not_still AnswersLock same still = absurd (cc same)
      not_still (Runner x) same still = absurd (cc same)
      not_still (CommandLock x s) same still = absurd (cc same)
  tried_still (Pends command last t w left) true lock still allowed h = h
  tried_still (Pends command last t w left) false lock still allowed h = h
  tried_still (Probes command k []) got lock still allowed h = tt
  tried_still (Probes command k (i ∷ left)) got lock still allowed h = probed_next command k i left got h.0 h.1
  tried_still (Dates command k i time left) got lock still allowed h = absurd (cc allowed)
  tried_still (Reads command last t []) got lock still allowed h = tt
  tried_still (Reads command last t (w ∷ left)) got lock still allowed h = tt
  tried_still (Puts []) got lock still allowed h = absurd allowed
  tried_still (Puts (f ∷ left)) got lock still allowed h = absurd (cc allowed)
  tried_still ph got lock still allowed h = tt

  log_still : Runs m v → (ph : Phase) (log : LogFile) (from : Option RoundFile) (texts : List (List ℕ)) → Allows ph (ReadLog log from) → AreRead (m.world.logs log) texts → StandsAt m v pid ph
      → StandsAt m v pid (phase_after ph (LogIs log from texts))
  log_still runs (HasHeader command last) log from texts allowed are h = (λ k ts is. absurd (cc is), (16, refl), refl)
  log_still runs (Reads command last t []) log from texts allowed are h = absurd allowed
  log_still runs (Reads command last t (w ∷ left)) log from texts allowed are h = reads_next command last t w left texts h (log_read log last from w texts runs allowed are)
  log_still runs (Behind command last t w left) log from texts allowed are h =
      behind_next command last (with_journal t w texts) w left (pends texts) (looks_again t w left texts h (log_read log last from w texts runs allowed are))
  log_still runs (Looks command last t []) log from texts allowed are h = tt
  log_still runs (Looks command last t (w ∷ left)) log from texts allowed are h = tt
  log_still runs (Probes command k []) log from texts allowed are h = tt
  log_still runs (Probes command k (i ∷ left)) log from texts allowed are h = tt
  log_still runs (Dates command k i time left) log from texts allowed are h = absurd (cc allowed)
  log_still runs (Puts []) log from texts allowed are h = absurd allowed
  log_still runs (Puts (f ∷ left)) log from texts allowed are h = absurd (cc allowed)
  log_still runs ph log from texts allowed are h = tt

  jobs_still : Runs m v → (ph : Phase) (from : Option RoundFile) (lines : List (List ℕ)) → Allows ph (ReadJobs from) → StandsAt m v pid ph → StandsAt m v pid (phase_after ph (JobsAre from lines))
  jobs_still runs (Checks command last t) from lines allowed h = sound_next command last t (known_in (length lines) lines t (records_doubts command)) h
  jobs_still runs (Looks command last t []) from lines allowed (n, h) =
      probes_next runs command (length lines) lines t (records_doubts command) (known_in (length lines) lines t (records_doubts command)) refl h.texts h.idle
  jobs_still runs (Looks command last t (w ∷ left)) from lines allowed h = tt
  jobs_still runs (Reads command last t []) from lines allowed h = tt
  jobs_still runs (Reads command last t (w ∷ left)) from lines allowed h = tt
  jobs_still runs (Probes command k []) from lines allowed h = tt
  jobs_still runs (Probes command k (i ∷ left)) from lines allowed h = tt
  jobs_still runs (Dates command k i time left) from lines allowed h = absurd (cc allowed)
  jobs_still runs (Puts []) from lines allowed h = absurd allowed
  jobs_still runs (Puts (f ∷ left)) from lines allowed h = absurd (cc allowed)
  jobs_still runs ph from lines allowed h = tt

  time_still : (ph : Phase) (time : ℕ) → Allows ph ReadClock → StandsAt m v pid ph → StandsAt m v pid (phase_after ph (TimeIs time))
  time_still (Probes command k []) time allowed h = acts_next command k time h.0
  time_still (Probes command k (i ∷ left)) time allowed h = tt
  time_still (Finds command k i left) time allowed h = h
  time_still (Looks command last t []) time allowed h = tt
  time_still (Looks command last t (w ∷ left)) time allowed h = tt
  time_still (Reads command last t []) time allowed h = tt
  time_still (Reads command last t (w ∷ left)) time allowed h = tt
  time_still (Dates command k i at left) time allowed h = absurd (cc allowed)
  time_still (Puts []) time allowed h = absurd allowed
  time_still (Puts (f ∷ left)) time allowed h = absurd (cc allowed)
  time_still ph time allowed h = tt

  removed_still : (ph : Phase) (x : AttemptId) → Allows ph (RemoveCommandFile x) → StandsAt m v pid ph → StandsAt m v pid (phase_after ph (HasRemoved x))
  removed_still (Records command k i left) x allowed h = h
  removed_still (Probes command k []) x allowed h = tt
  removed_still (Probes command k (i ∷ left)) x allowed h = tt
  removed_still (Looks command last t []) x allowed h = tt
  removed_still (Looks command last t (w ∷ left)) x allowed h = tt
  removed_still (Reads command last t []) x allowed h = tt
  removed_still (Reads command last t (w ∷ left)) x allowed h = tt
  removed_still (Dates command k i at left) x allowed h = absurd (cc allowed)
  removed_still (Puts []) x allowed h = absurd allowed
  removed_still (Puts (f ∷ left)) x allowed h = absurd (cc allowed)
  removed_still ph x allowed h = tt

  fell_still : (ph : Phase) (r : Request) → StandsAt m v pid ph → StandsAt m v pid (phase_after ph (Fell r))
  fell_still (Dates command k i at left) r h = (record { answered = h.0.answered; finals = h.0.finals }, h.2)
  fell_still (Probes command k []) r h = tt
  fell_still (Probes command k (i ∷ left)) r h = tt
  fell_still (Looks command last t []) r h = tt
  fell_still (Looks command last t (w ∷ left)) r h = tt
  fell_still (Reads command last t []) r h = tt
  fell_still (Reads command last t (w ∷ left)) r h = tt
  fell_still (Puts []) r h = tt
  fell_still (Puts (f ∷ left)) r h = tt
  fell_still ph r h = tt

  kept_still : (ph : Phase) (kept : Bool) → Allows ph (CheckFolder kept) → StandsAt m v pid ph → StandsAt m v pid (phase_after ph (FolderIsKept kept))
  kept_still (Dates command k i at left) kept allowed h = absurd (cc allowed)
  kept_still (Probes command k []) kept allowed h = tt
  kept_still (Probes command k (i ∷ left)) kept allowed h = tt
  kept_still (Looks command last t []) kept allowed h = tt
  kept_still (Looks command last t (w ∷ left)) kept allowed h = tt
  kept_still (Reads command last t []) kept allowed h = tt
  kept_still (Reads command last t (w ∷ left)) kept allowed h = tt
  kept_still (Puts []) kept allowed h = absurd allowed
  kept_still (Puts (f ∷ left)) kept allowed h = absurd (cc allowed)
  kept_still ph kept allowed h = tt

  round_still : (ph : Phase) (last : Option RoundFile) → Allows ph ReadRound → StandsAt m v pid ph → StandsAt m v pid (phase_after ph (RoundIs last))
  round_still (Dates command k i at left) file allowed h = absurd (cc allowed)
  round_still (Probes command k []) file allowed h = tt
  round_still (Probes command k (i ∷ left)) file allowed h = tt
  round_still (Looks command last t []) file allowed h = tt
  round_still (Looks command last t (w ∷ left)) file allowed h = tt
  round_still (Reads command last t []) file allowed h = tt
  round_still (Reads command last t (w ∷ left)) file allowed h = tt
  round_still (Puts []) file allowed h = absurd allowed
  round_still (Puts (f ∷ left)) file allowed h = absurd (cc allowed)
  round_still ph file allowed h = tt

  printed_still : (ph : Phase) (text : List ℕ) → Allows ph (Print text) → StandsAt m v pid ph → StandsAt m v pid (phase_after ph (HasPrinted text))
  printed_still (Dates command k i at left) text allowed h = absurd (cc allowed)
  printed_still (Prints said) text allowed h = λ f one not. absurd one
  printed_still (Probes command k []) text allowed h = tt
  printed_still (Probes command k (i ∷ left)) text allowed h = tt
  printed_still (Looks command last t []) text allowed h = tt
  printed_still (Looks command last t (w ∷ left)) text allowed h = tt
  printed_still (Reads command last t []) text allowed h = tt
  printed_still (Reads command last t (w ∷ left)) text allowed h = tt
  printed_still (Puts []) text allowed h = absurd allowed
  printed_still (Puts (f ∷ left)) text allowed h = absurd (cc allowed)
  printed_still ph text allowed h = tt

  pub still_next : Runs m v → (o : Operator) (c : Call) → IsStill c → Allows o.phase (request_of c) → MachineGives m o c → StandsAt m v pid o.phase → StandsAt m v pid (phase_after o.phase c)
  still_next runs o (Tried lock got) still allowed gives h = tried_still o.phase got lock still allowed h
  still_next runs o (FolderIsKept kept) still allowed gives h = kept_still o.phase kept allowed h
  still_next runs o (RoundIs last) still allowed gives h = round_still o.phase last allowed h
  still_next runs o (LogIs log last texts) still allowed gives h = log_still runs o.phase log last texts allowed gives h
  still_next runs o (JobsAre last lines) still allowed gives h = jobs_still runs o.phase last lines allowed h
  still_next runs o (TimeIs time) still allowed gives h = time_still o.phase time allowed h
  still_next runs o (HasRemoved x) still allowed gives h = removed_still o.phase x allowed h
  still_next runs o (HasPrinted text) still allowed gives h = printed_still o.phase text allowed h
  still_next runs o (Fell r) still allowed gives h = fell_still o.phase r h
  still_next runs o (HasUnlocked w) still allowed gives h = absurd still
  still_next runs o HasUnlockedAll still allowed gives h = absurd still
  still_next runs o (Recovered log last texts) still allowed gives h = absurd still
  still_next runs o (HasPutDoubt i time) still allowed gives h = absurd still
  still_next runs o (HasPutAnswer f) still allowed gives h = absurd still
