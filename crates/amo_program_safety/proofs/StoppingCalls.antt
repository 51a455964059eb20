-- A command keeps what it has stopped, and stops more, by each of its calls.
use Rattle.std.proofs.Common.{◌≡◌, inl, inr, ⊎_elim, ◌<◌, ◌-◌, ℕ, List, [], ◌∷◌, length, map, Option, Some, None, refl, sym, ap, ◌∙◌, arith, subst}
use Rattle.std.specs.Prelude.{⊤, Bool, true, false, slice_index_or, if◌then◌else◌}
use Rattle.amo_safety_by_journals.specs.Model.{IsOneOf, Site}
use Rattle.amo_run_files.specs.declared.round_file.RoundFile.{RoundFile}
use Rattle.amo_run_log.specs.declared.finding.Finding.{Finding}
use Rattle.amo_run_log.specs.declared.journal.Attempt.{Attempt}
use Rattle.amo_run_log.specs.Findings.{findings_in}
use Rattle.amo_run_log.specs.Journals.{pending_from}
use Rattle.amo_status.specs.declared.state.AttemptId.{AttemptId}
use Rattle.amo_operator.specs.declared.model.Command.{Command}
use Rattle.amo_operator.specs.declared.model.Command.TheVariants.{Status, Doubts, Answer, Again}
use Rattle.amo_operator.specs.declared.model.OperatorLock.TheVariants.{Answers as AnswersLock, Journal, Runner, Command as CommandLock}
use Rattle.amo_operator.specs.Calls.{Call, Tried, HasUnlocked, HasUnlockedAll, FolderIsKept, RoundIs, LogIs, Recovered, JobsAre, TimeIs, HasPutDoubt, HasRemoved, HasPutAnswer, HasPrinted, Fell, request_of}
use Rattle.amo_operator.specs.Phase.{Known, Texts, Phase, Enters, Guards, Checked, HasHeader, Reads, Checks, Settles, Looks, Behind, Pends, Idles, Rests, Probes, Finds, Dates, Records, Reports, Prints, Waits, Puts, Ended}
use Rattle.amo_operator.specs.Judging.{Judged, judged_all, none_judged}
use Rattle.amo_operator.specs.Knowing.{all_workers, and_journal, are_readable, are_in_place, journals_in, known_by, known_in, pending_in, pending_of, pends, with_final, with_journal}
use Rattle.amo_operator.specs.Protocol.{Allows, has_read, acts, decides, only_looks, records_doubts, reads_to, sound_if, probes_if, behind_if, finds_if, phase_after}
use Rattle.amo_program_safety.specs.World.{freed}
use Rattle.amo_program_safety.specs.Machine.{Operator, Machine, called}
use Rattle.amo_program_safety.specs.Steps.{MachineGives}
use Rattle.amo_program_safety.proofs.Texts.{of_both, of_same}
use Rattle.amo_program_safety.proofs.Points.{at_other}
use Rattle.amo_program_safety.proofs.Ordering.{StandsAt}
use Rattle.amo_program_safety.proofs.Stopping.{HasStopped, HasEnded, IdleStopped, AllStopped, AllEnded, StopsAt, UnlocksNone, own_calm, stopped_still, ended_still, idle_still, all_still, ends_still}

-- ---- which attempts are pending

named_of : (w : ℕ) (ps : List (ℕ × ℕ)) (i : AttemptId) → IsOneOf (map {B = AttemptId} (λ (p : ℕ × ℕ). record { worker = w; serial = p.0 }) ps) i → w ≡ i.worker
named_of w [] i one = absurd one
named_of w (p ∷ ps) i one = ⊎_elim (λ e. ap (λ (x : AttemptId). x.worker) e) (λ more. named_of w ps i more) one

pending_worker : (ws : List ℕ) (journals : List (List Attempt)) (i : AttemptId) → IsOneOf (pending_of ws journals) i → IsOneOf ws i.worker
pending_worker [] journals i one = absurd one
pending_worker (w ∷ ws) journals i one = ⊎_elim
    (λ here. inl (named_of w (pending_from 1 (slice_index_or journals (w - 1) [])) i here))
    (λ there. inr (pending_worker ws journals i there))
    (of_both (pending_in w (slice_index_or journals (w - 1) [])) (pending_of ws journals) i one)

-- ---- nothing is final before it was looked at

abbrev NoFinals : Option Known → Type 0
NoFinals None = ⊤
NoFinals (Some k) = k.finals ≡ []

either_finals : (b : Bool) (x y : Option Known) → NoFinals x → NoFinals y → NoFinals (if b then x else y)
either_finals true x y hx hy = hx
either_finals false x y hx hy = hy

by_finals : (lines : List (List ℕ)) (t : Texts) (records : Bool) (journals : List (List Attempt)) (fs : Option (List Finding))
    → NoFinals (known_by lines t records journals fs)
by_finals lines t records journals None = tt
by_finals lines t records journals (Some fs) = either_finals (are_in_place journals [] fs)
    (Some (record { lines = lines; findings = fs; journals = journals; alive = t.alive; finals = []; records = records })) None refl tt

no_finals : (count : ℕ) (lines : List (List ℕ)) (t : Texts) (records : Bool) → NoFinals (known_in count lines t records)
no_finals count lines t records = either_finals (are_readable count t.journals)
    (known_by lines t records (journals_in count t.journals) (findings_in t.answers)) None
    (by_finals lines t records (journals_in count t.journals) (findings_in t.answers)) tt

-- ---- phases without a claim

module _ (m : Machine) (pid : ℕ) where
  decided_stops : (command : Command) (findings fresh : List Finding) (early runs : Bool)
      → StopsAt m pid (decides command (Some (record { findings = findings; fresh = fresh; is_early = early; runs = runs })))
  decided_stops command findings fresh true runs = tt
  decided_stops command findings fresh false true = tt
  decided_stops command findings fresh false false = tt

  decides_stops : (command : Command) (j : Option Judged) → StopsAt m pid (decides command j)
  decides_stops command None = tt
  decides_stops command (Some j) = decided_stops command j.findings j.fresh j.is_early j.runs

  acts_stops : (command : Command) (k : Known) (time : ℕ) → StopsAt m pid (acts command k time)
  acts_stops (Status form) k time = tt
  acts_stops (Doubts form) k time = tt
  acts_stops (Answer said quiet) k time = decides_stops (Answer said quiet) (judged_all k quiet time (none_judged k) said.items)
  acts_stops Again k time = tt

  reads_stops : (command : Command) (last : Option RoundFile) (t : Texts) (left : List ℕ) → StopsAt m pid (reads_to command last t left)
  reads_stops command last t [] = tt
  reads_stops command last t (w ∷ left) = tt

  none_idle : (t : Texts) → t.idle ≡ [] → IdleStopped m pid t
  none_idle t none q one = absurd (of_same t.idle [] q none one)

  has_read_stops : (command : Command) (last : Option RoundFile) (t : Texts) (looks : Bool) → t.idle ≡ [] → StopsAt m pid (has_read command last t looks)
  has_read_stops command last t true none = none_idle t none
  has_read_stops command last t false none = tt

  sound_stops : (command : Command) (last : Option RoundFile) (t : Texts) (k : Option Known) → t.idle ≡ [] → StopsAt m pid (sound_if command last t k)
  sound_stops command last t None none = tt
  sound_stops command last t (Some k) none = has_read_stops command last t (only_looks command) none

  probes_stops : (command : Command) (t : Texts) (k : Option Known) → NoFinals k → IdleStopped m pid t → StopsAt m pid (probes_if command t.idle k)
  probes_stops command t None none h = tt
  probes_stops command t (Some k) none h =
      (λ i one. h i.worker (pending_worker t.idle k.journals i one), λ i one. absurd (of_same k.finals [] i none one))

  behind_stops : (command : Command) (last : Option RoundFile) (t : Texts) (w : ℕ) (left : List ℕ) (has : Option Bool) → IdleStopped m pid t
      → StopsAt m pid (behind_if command last t w left has)
  behind_stops command last t w left (Some true) h = h
  behind_stops command last t w left (Some false) h = h
  behind_stops command last t w left None h = tt

  finds_stops : (command : Command) (k : Known) (i : AttemptId) (left : List AttemptId) (records : Bool) → HasEnded m pid i → AllStopped m pid left
      → AllEnded m pid k.finals → StopsAt m pid (finds_if command k i left records)
  finds_stops command k i left true ended all ends = (ended, all, ends)
  finds_stops command k i left false ended all ends = (all, ends)

-- ---- a call of a command

module _ (m : Machine) (v : Site) (pid : ℕ) (o : Operator) where
  abbrev after : Call → Machine
  after c = called m pid (Some o) c

  idle_so : (c : Call) → UnlocksNone c → (t : Texts) → IdleStopped m pid t → IdleStopped (after c) pid t
  idle_so c none t h = idle_still m (after c) pid (own_calm m pid o c none) t h

  stopped_so : (c : Call) → UnlocksNone c → (q : ℕ) → HasStopped m pid q → HasStopped (after c) pid q
  stopped_so c none q h = stopped_still m (after c) pid (own_calm m pid o c none) q h

  ended_so : (c : Call) → UnlocksNone c → (i : AttemptId) → HasEnded m pid i → HasEnded (after c) pid i
  ended_so c none i h = ended_still m (after c) pid (own_calm m pid o c none) i h

  all_so : (c : Call) → UnlocksNone c → (is : List AttemptId) → AllStopped m pid is → AllStopped (after c) pid is
  all_so c none is h = all_still m (after c) pid (own_calm m pid o c none) is h

  ends_so : (c : Call) → UnlocksNone c → (is : List AttemptId) → AllEnded m pid is → AllEnded (after c) pid is
  ends_so c none is h = ends_still m (after c) pid (own_calm m pid o c none) is h

  abbrev Goal : Phase → Call → Type 0
  Goal ph c = Allows ph (request_of c) → MachineGives m o c → StandsAt m v pid ph → StopsAt m pid ph → StopsAt (after c) pid (phase_after ph c)

  enters_stops : (command : Command) (tried : Bool) (c : Call) → Goal (Enters command tried) c
  enters_stops command tried (Tried lock true) may gives stands h = tt
  enters_stops command tried (Tried lock false) may gives stands h = tt
  enters_stops command tried c may gives stands h = tt

  guards_stops : (command : Command) (c : Call) → Goal (Guards command) c
  guards_stops command (FolderIsKept kept) may gives stands h = tt
  guards_stops command c may gives stands h = tt

  checked_stops : (command : Command) (c : Call) → Goal (Checked command) c
  checked_stops command (RoundIs last) may gives stands h = tt
  checked_stops command c may gives stands h = tt

  header_stops : (command : Command) (last : Option RoundFile) (c : Call) → Goal (HasHeader command last) c
  header_stops command last (LogIs log from texts) may gives stands h =
      reads_stops (after (LogIs log from texts)) pid command last (record { answers = texts; journals = []; alive = []; idle = [] }) all_workers
  header_stops command last c may gives stands h = tt

  reading_stops : (command : Command) (last : Option RoundFile) (t : Texts) (left : List ℕ) (c : Call) → Goal (Reads command last t left) c
  reading_stops command last t (w ∷ left) (LogIs log from texts) may gives stands h =
      reads_stops (after (LogIs log from texts)) pid command last (and_journal t texts) left
  reading_stops command last t (w ∷ left) c may gives stands h = tt
  reading_stops command last t [] c may gives stands h = absurd may

  checks_stops : (command : Command) (last : Option RoundFile) (t : Texts) (c : Call) → Goal (Checks command last t) c
  checks_stops command last t (JobsAre from lines) may gives stands h =
      sound_stops (after (JobsAre from lines)) pid command last t (known_in (length lines) lines t (records_doubts command)) stands.1
  checks_stops command last t c may gives stands h = tt

  settles_stops : (command : Command) (last : Option RoundFile) (t : Texts) (c : Call) → Goal (Settles command last t) c
  settles_stops command last t (Recovered log from texts) may gives stands h =
      none_idle (after (Recovered log from texts)) pid (record t { answers = texts }) stands.1
  settles_stops command last t c may gives stands h = tt

  looks_stops : (command : Command) (last : Option RoundFile) (t : Texts) (left : List ℕ) (c : Call) → Goal (Looks command last t left) c
  looks_stops command last t [] (JobsAre from lines) may gives stands h =
      probes_stops (after (JobsAre from lines)) pid command t (known_in (length lines) lines t (records_doubts command))
      (no_finals (length lines) lines t (records_doubts command)) (idle_so (JobsAre from lines) tt t h)
  looks_stops command last t [] c may gives stands h = tt
  looks_stops command last t (w ∷ left) (Tried lock true) may gives stands h = idle_so (Tried lock true) tt t h
  looks_stops command last t (w ∷ left) (Tried lock false) may gives stands h = idle_so (Tried lock false) tt t h
  looks_stops command last t (w ∷ left) c may gives stands h = tt

  behinds_stops : (command : Command) (last : Option RoundFile) (t : Texts) (w : ℕ) (left : List ℕ) (c : Call) → Goal (Behind command last t w left) c
  behinds_stops command last t w left (LogIs log from texts) may gives stands h =
      behind_stops (after (LogIs log from texts)) pid command last (with_journal t w texts) w left (pends texts) (idle_so (LogIs log from texts) tt t h)
  behinds_stops command last t w left c may gives stands h = tt

  pends_stops : (command : Command) (last : Option RoundFile) (t : Texts) (w : ℕ) (left : List ℕ) (c : Call) → Goal (Pends command last t w left) c
  pends_stops command last t w left (Tried (Runner worker) true) may gives stands h =
      let same : worker ≡ w = cc may in (
        idle_so (Tried (Runner worker) true) tt t h,
        stopped_so (Tried (Runner worker) true) tt w (record { held = stands.held; idle = λ x one is. gives x one (is ∙ sym same) }),
      )
  pends_stops command last t w left (Tried (Journal worker) true) may gives stands h = absurd (cc may)
  pends_stops command last t w left (Tried AnswersLock true) may gives stands h = absurd (cc may)
  pends_stops command last t w left (Tried (CommandLock worker serial) true) may gives stands h = absurd (cc may)
  pends_stops command last t w left (Tried lock false) may gives stands h = idle_so (Tried lock false) tt t h
  pends_stops command last t w left c may gives stands h = tt

  idles_stops : (command : Command) (last : Option RoundFile) (t : Texts) (w : ℕ) (left : List ℕ) (c : Call) → Goal (Idles command last t w left) c
  idles_stops command last t w left (Recovered log from texts) may gives stands h = λ q one. ⊎_elim
      (λ old. idle_so (Recovered log from texts) tt t h.0 q old)
      (λ new. ⊎_elim (λ (e : w ≡ q). subst (HasStopped (after (Recovered log from texts)) pid) e (stopped_so (Recovered log from texts) tt w h.1)) (λ none. absurd none) new)
      (of_both t.idle (w ∷ []) q one)
  idles_stops command last t w left c may gives stands h = tt

  rests_stops : (command : Command) (last : Option RoundFile) (t : Texts) (w : ℕ) (left : List ℕ) (c : Call) → Goal (Rests command last t w left) c
  rests_stops command last t w left (HasUnlocked worker) may gives stands h = λ q one.
      let same : worker ≡ w = cc may in
      let below : q < w = stands.before q one in
      record {
        held = at_other m.held worker (freed (m.held worker) pid) q (λ (e : q ≡ worker). absurd (omega arith)) ∙ (h q one).held;
        idle = (h q one).idle;
      }
  rests_stops command last t w left c may gives stands h = tt

  probing_stops : (command : Command) (k : Known) (left : List AttemptId) (c : Call) → Goal (Probes command k left) c
  probing_stops command k [] (TimeIs time) may gives stands h = acts_stops (after (TimeIs time)) pid command k time
  probing_stops command k [] c may gives stands h = tt
  probing_stops command k (i ∷ left) (Tried (CommandLock worker serial) true) may gives stands h =
      let one : worker ≡ i.worker = cc may in
      let two : serial ≡ i.serial = cc may in
      let ended : HasEnded m pid i = record { stopped = h.0 i (inl refl); gone = λ x ran named. gives x ran (named.0 ∙ sym one, named.1 ∙ sym two) } in
      finds_stops (after (Tried (CommandLock worker serial) true)) pid command (with_final k i) i left k.records
      (ended_so (Tried (CommandLock worker serial) true) tt i ended)
      (all_so (Tried (CommandLock worker serial) true) tt left (λ j is. h.0 j (inr is)))
      (λ j is. ⊎_elim
      (λ old. ends_so (Tried (CommandLock worker serial) true) tt k.finals h.1 j old)
      (λ new. ⊎_elim
      (λ (e : i ≡ j). subst (HasEnded (after (Tried (CommandLock worker serial) true)) pid) e (ended_so (Tried (CommandLock worker serial) true) tt i ended))
      (λ none. absurd none) new)
      (of_both k.finals (i ∷ []) j is))
  probing_stops command k (i ∷ left) (Tried (Journal worker) true) may gives stands h = absurd (cc may)
  probing_stops command k (i ∷ left) (Tried (Runner worker) true) may gives stands h = absurd (cc may)
  probing_stops command k (i ∷ left) (Tried AnswersLock true) may gives stands h = absurd (cc may)
  probing_stops command k (i ∷ left) (Tried lock false) may gives stands h =
      (all_so (Tried lock false) tt left (λ j is. h.0 j (inr is)), ends_so (Tried lock false) tt k.finals h.1)
  probing_stops command k (i ∷ left) c may gives stands h = tt

  finding_stops : (command : Command) (k : Known) (i : AttemptId) (left : List AttemptId) (c : Call) → Goal (Finds command k i left) c
  finding_stops command k i left (TimeIs time) may gives stands h =
      (ended_so (TimeIs time) tt i h.0, all_so (TimeIs time) tt left h.1, ends_so (TimeIs time) tt k.finals h.2)
  finding_stops command k i left c may gives stands h = tt

  dating_stops : (command : Command) (k : Known) (i : AttemptId) (time : ℕ) (left : List AttemptId) (c : Call) → Goal (Dates command k i time left) c
  dating_stops command k i time left (HasPutDoubt attempt at) may gives stands h =
      (all_so (HasPutDoubt attempt at) tt left h.1, ends_so (HasPutDoubt attempt at) tt k.finals h.2)
  dating_stops command k i time left (Fell r) may gives stands h = (all_so (Fell r) tt left h.1, ends_so (Fell r) tt k.finals h.2)
  dating_stops command k i time left c may gives stands h = absurd (cc may)

  recording_stops : (command : Command) (k : Known) (i : AttemptId) (left : List AttemptId) (c : Call) → Goal (Records command k i left) c
  recording_stops command k i left (HasRemoved attempt) may gives stands h = (all_so (HasRemoved attempt) tt left h.0, ends_so (HasRemoved attempt) tt k.finals h.1)
  recording_stops command k i left c may gives stands h = tt

  ending_stops : (text : List ℕ) (c : Call) → Goal (Reports text) c
  ending_stops text HasUnlockedAll may gives stands h = tt
  ending_stops text c may gives stands h = tt

  prints_stops : (text : List ℕ) (c : Call) → Goal (Prints text) c
  prints_stops text (HasPrinted said) may gives stands h = tt
  prints_stops text c may gives stands h = tt

  waits_stops : (command : Command) (c : Call) → Goal (Waits command) c
  waits_stops command HasUnlockedAll may gives stands h = tt
  waits_stops command c may gives stands h = tt

  puts_stops : (left : List Finding) (c : Call) → Goal (Puts left) c
  puts_stops (f ∷ left) (HasPutAnswer answer) may gives stands h = tt
  puts_stops (f ∷ left) c may gives stands h = tt
  puts_stops [] c may gives stands h = absurd may

  pub own_stops : (ph : Phase) (c : Call) → Goal ph c
  own_stops (Enters command tried) c = enters_stops command tried c
  own_stops (Guards command) c = guards_stops command c
  own_stops (Checked command) c = checked_stops command c
  own_stops (HasHeader command last) c = header_stops command last c
  own_stops (Reads command last t left) c = reading_stops command last t left c
  own_stops (Checks command last t) c = checks_stops command last t c
  own_stops (Settles command last t) c = settles_stops command last t c
  own_stops (Looks command last t left) c = looks_stops command last t left c
  own_stops (Behind command last t w left) c = behinds_stops command last t w left c
  own_stops (Pends command last t w left) c = pends_stops command last t w left c
  own_stops (Idles command last t w left) c = idles_stops command last t w left c
  own_stops (Rests command last t w left) c = rests_stops command last t w left c
  own_stops (Probes command k left) c = probing_stops command k left c
  own_stops (Finds command k i left) c = finding_stops command k i left c
  own_stops (Dates command k i time left) c = dating_stops command k i time left c
  own_stops (Records command k i left) c = recording_stops command k i left c
  own_stops (Reports text) c = ending_stops text c
  own_stops (Prints text) c = prints_stops text c
  own_stops (Waits command) c = waits_stops command c
  own_stops (Puts left) c = puts_stops left c
  own_stops Ended c = λ may gives stands h. absurd may
