-- Calls by which a process reads all logs.
use Rattle.std.proofs.Common.{◌≡◌, ◌⊎◌, inl, inr, ⊎_elim, ◌≤◌, ℕ, zero, suc, ◌+◌, arith, List, [], ◌∷◌, ◌++◌, length, Option, Some, None, refl, sym, ap, ◌∙◌, subst}
use Rattle.std.specs.Prelude.{Bool, true, false, slice_get, nat_lt}
use Rattle.std.proofs.lemmas.Bool.{cases_eq}
use Rattle.std.proofs.lemmas.List.{length-map}
use Rattle.amo_safety_by_journals.specs.Model.{IsOneOf, Site}
use Rattle.amo_params.specs.declared.limits.TheConstants.{MAX_WORKERS}
use Rattle.amo_host.specs.declared.model.LogFile.{LogFile}
use Rattle.amo_host.specs.declared.model.LogFile.TheVariants.{Answers, Journal}
use Rattle.amo_host.specs.Calls.{Call, ReadLog, LogIs, Fell, request_of}
use Rattle.amo_host.specs.Logs.{Logs, logs_after, next_serial, attempts_of}
use Rattle.amo_host.specs.Phase.{Identity, Purpose, ToWork, ToBegin, Phase, Begins, Reads}
use Rattle.amo_host.specs.Reading.{last_for, has_all, reads_all, reads_more}
use Rattle.amo_run_files.specs.declared.extent.Extent.{Extent}
use Rattle.amo_run_files.specs.declared.round_file.RoundFile.{RoundFile}
use Rattle.amo_run_log.specs.declared.journal.Attempt.{Attempt}
use Rattle.amo_run_log.specs.Texts.{ended}
use Rattle.amo_program_safety.specs.Texts.{lines_in}
use Rattle.amo_program_safety.specs.World.{Log, Process, World, with_log, process_by}
use Rattle.amo_program_safety.proofs.Standing.{Knows, Quiet, ReadsOwn, At}
use Rattle.amo_program_safety.proofs.Moves.{Reaches}
use Rattle.amo_program_safety.proofs.Points.{log_it, log_other}
use Rattle.amo_program_safety.proofs.Acting.{turns_none, halts, stays, nothing_written}
use Rattle.amo_program_safety.proofs.Steps.{Made, next_world, stood, stand_by, quiet_on}
use Rattle.amo_program_safety.proofs.Reading.{knows_on, read_whole}

-- ---- the next serial number

get_within : {A : Type 0} (xs : List A) (k n : ℕ) → length xs ≡ n → suc k ≤ n → (x : A) × (slice_get xs k ≡ Some x)
get_within [] k n len le = absurd (none n len le)
  where
    none : (n : ℕ) → 0 ≡ n → suc k ≤ n → ⊥
    none n is le = omega arith
get_within (x ∷ xs) zero n len le = (x, refl)
get_within (x ∷ xs) (suc k) n len le = get_within xs k (length xs) refl (less n len le)
  where
    less : (n : ℕ) → suc (length xs) ≡ n → suc (suc k) ≤ n → suc k ≤ length xs
    less n is le = omega arith

-- If a process has read all that is kept of its journal, it knows the next serial number.
next_is : (v : Site) (read : LogFile → List (List ℕ)) (logs : Logs) (kept : List (List ℕ)) (lines : List ℕ) (q : ℕ) → Knows v read logs → 1 ≤ q → q ≤ MAX_WORKERS → read (Journal q) ≡ kept → lines ≡ lines_in kept
    → next_serial logs.journals q ≡ suc (length lines)
next_is v read logs kept lines zero knows low high whole same = absurd (omega (arith, low))
next_is v read logs kept lines (suc k) knows low high whole same =
    let (es, is) = get_within logs.journals k MAX_WORKERS knows.len high in
    let len : length es ≡ length lines = sym (length-map es (λ (a : Attempt). a.line)) ∙ (ap length (knows.lines k es is) ∙ (ap (λ t. length (lines_in t)) whole ∙ ap length (sym same))) in
    ap (λ o. attempts_of o + 1) is ∙ (ap (λ n. n + 1) len ∙ add_one (length lines))
  where
    add_one : (n : ℕ) → n + 1 ≡ suc n
    add_one n = omega arith

-- ---- the call

log_or_fell : (c : Call) (f : LogFile) (last : Option RoundFile) → request_of c ≡ ReadLog f last → ((texts : List (List ℕ)) × (counted : Extent) × (LogIs f last texts counted ≡ c)) ⊎ (Fell (ReadLog f last) ≡ c)
log_or_fell (LogIs log before texts counted) f last is = let at : log ≡ f = cc in let of : before ≡ last = cc in inl (texts, counted, cc)
log_or_fell (Fell r) f last is = inr (ap Fell (sym is))
log_or_fell c f last is = absurd (cc is)

module _ (w : World) (v : Site) (pid : ℕ) (p : Process) (me : Identity) (purpose : Purpose) (logs : Logs) (counts : List Extent) (f : LogFile) (left : List LogFile) where
  abbrev here : Phase
  here = Reads me purpose logs counts (f ∷ left)

  fallen : (last : Option RoundFile) → Made w v pid p here (Fell (ReadLog f last)) → Reaches v (next_world w pid p (Fell (ReadLog f last)))
  fallen last m =
      let (same, knows, quiet, own) = stood w v pid p here (Fell (ReadLog f last)) m in
      halts w v m.goes pid p m.lives (Fell (ReadLog f last)) quiet.owns.guard refl refl
      (λ v' away turned. stand_by w v v' pid p here (Fell (ReadLog f last)) m tt turned (λ holds. away))

  module _ (last : Option RoundFile) (texts : List (List ℕ)) (counted : Extent) (m : Made w v pid p here (LogIs f last texts counted)) where
    abbrev c : Call
    c = LogIs f last texts counted

    at : At w v pid p here
    at = stood w v pid p here c m

    rest : (w.logs (Journal p.worker)).rest ≡ []
    rest = at.2.owns.rest ∙ nothing_written p (ReadLog f last) m.its refl

    quiet : Quiet (next_world w pid p c) v pid (process_by p c)
    quiet = quiet_on w v pid p c at.2.owns.guard refl rest at.2.free

    -- If the process has read its own journal, it has read all that is kept there.
    whole : f ≡ Journal p.worker → (process_by p c).read (Journal p.worker) ≡ (w.logs (Journal p.worker)).kept
    whole is = subst (λ g. with_log p.read f (p.read f ++ texts) g ≡ (w.logs g).kept) is
        (log_it p.read f (p.read f ++ texts) ∙ read_whole (w.logs f) (p.read f ++ texts) (ap (λ g. (w.logs g).rest) is ∙ rest) m.kernel)

    journal_same : (w.logs (Journal p.worker)).kept ≡ ((next_world w pid p c).logs (Journal p.worker)).kept
    journal_same = ap (λ (l : Log). l.kept) (sym (log_it w.logs (Journal p.worker) (w.logs (Journal p.worker))))

    read_there : (g : LogFile) → (g ≡ Journal p.worker → ⊥) → with_log p.read g (p.read g ++ texts) (Journal p.worker) ≡ p.read (Journal p.worker)
    read_there Answers other = refl
    read_there (Journal r) other = log_other p.read r (p.read (Journal r) ++ texts) p.worker (λ same. other (ap Journal (sym same)))

    is_own : (g : LogFile) (q : ℕ) → (g ≡ Journal q) ⊎ (g ≡ Journal q → ⊥)
    is_own Answers q = inr (λ is. absurd (cc is))
    is_own (Journal r) q = ⊎_elim (λ (same : r ≡ q). inl (ap Journal same)) (λ other. inr (λ (is : Journal r ≡ Journal q). other (cc is))) (cases_eq r q)

    owns_read : (purpose : Purpose) → ReadsOwn w p purpose (f ∷ left) → ReadsOwn (next_world w pid p c) (process_by p c) purpose left
    owns_read (ToBegin boot last known list) own = tt
    owns_read (ToWork file givens seat) own = ⊎_elim
        (λ is. inr (whole is ∙ journal_same))
        (λ other. ⊎_elim
        (λ (among : (f ≡ Journal p.worker) ⊎ IsOneOf left (Journal p.worker)). ⊎_elim (λ is. absurd (other is)) (λ one. inl one) among)
        (λ read. inr (read_there f other ∙ (read ∙ journal_same)))
        own)
        (is_own f p.worker)

    module _ (logs' : Logs) (after : logs_after logs f texts ≡ Some logs') where
      knows : Knows v (process_by p c).read logs'
      knows = knows_on w v m.goes p.read logs logs' f texts at.1 m.kernel after

      begins : (boot : List ℕ) (before : Option RoundFile) (counts' : List Extent) (more : Bool) → At (next_world w pid p c) v pid (process_by p c) (Begins me (has_all more boot before logs' counts'))
      begins boot before counts' true = (at.0, knows, quiet)
      begins boot before counts' false = (at.0, knows, quiet)

      has_read : (purpose : Purpose) (counts' : List Extent) → ReadsOwn (next_world w pid p c) (process_by p c) purpose [] → At (next_world w pid p c) v pid (process_by p c) (reads_all me purpose logs' counts')
      has_read (ToBegin boot before known list) counts' own = begins boot before counts' (nat_lt (length known) (length (ended me.lines)))
      has_read (ToWork file givens seat) counts' own = (at.0, knows, (quiet, next own))
        where
          stand_low : 1 ≤ p.worker
          stand_low = (m.goes.stand pid p m.lives).low

          stand_high : p.worker ≤ MAX_WORKERS
          stand_high = (m.goes.stand pid p m.lives).high

          next : ⊥ ⊎ ((process_by p c).read (Journal p.worker) ≡ ((next_world w pid p c).logs (Journal p.worker)).kept) → next_serial logs'.journals me.worker ≡ suc (length (v.kept p.worker))
          next (inl none) = absurd none
          next (inr read) = ap (next_serial logs'.journals) at.0
              ∙ next_is v (process_by p c).read logs' (w.logs (Journal p.worker)).kept (v.kept p.worker) p.worker knows stand_low stand_high (read ∙ sym journal_same) (m.goes.kept p.worker)

      reads : (more : List LogFile) → ReadsOwn (next_world w pid p c) (process_by p c) purpose more → At (next_world w pid p c) v pid (process_by p c) (reads_more me purpose (Some logs') (counts ++ counted ∷ []) more)
      reads [] own = has_read purpose (counts ++ counted ∷ []) own
      reads (g ∷ more) own = (at.0, knows, quiet, own)

    logs_are : Reaches v (next_world w pid p c)
    logs_are = by (logs_after logs f texts) refl
      where
        phase_by : Option Logs → Phase
        phase_by o = reads_more me purpose o (counts ++ counted ∷ []) left

        by : (o : Option Logs) → logs_after logs f texts ≡ o → Reaches v (next_world w pid p c)
        by None none = halts w v m.goes pid p m.lives c at.2.owns.guard refl refl
            (λ v' away turned. stand_by w v v' pid p here c m tt turned
            (subst (λ o. At (next_world w pid p c) v' pid (process_by p c) (phase_by o)) (sym none) (λ holds. away)))
        by (Some logs') some = stays w v m.goes pid p m.lives c refl refl
            (stand_by w v v pid p here c m tt (turns_none v p.worker)
            (subst (λ o. At (next_world w pid p c) v pid (process_by p c) (phase_by o)) (sym some) (reads logs' some left (owns_read purpose at.3))))

pub reads_step : (w : World) (v : Site) (pid : ℕ) (p : Process) (me : Identity) (purpose : Purpose) (logs : Logs) (counts : List Extent) (left : List LogFile) (c : Call)
    → Made w v pid p (Reads me purpose logs counts left) c → Reaches v (next_world w pid p c)
reads_step w v pid p me purpose logs counts [] c m = absurd m.allowed
reads_step w v pid p me purpose logs counts (f ∷ left) c m = ⊎_elim
    (λ (is : (texts : List (List ℕ)) × (counted : Extent) × (LogIs f (last_for purpose) texts counted ≡ c)).
    subst (λ x. Made w v pid p (Reads me purpose logs counts (f ∷ left)) x → Reaches v (next_world w pid p x)) is.2
    (λ m'. logs_are w v pid p me purpose logs counts f left (last_for purpose) is.0 is.1 m') m)
    (λ (is : Fell (ReadLog f (last_for purpose)) ≡ c).
    subst (λ x. Made w v pid p (Reads me purpose logs counts (f ∷ left)) x → Reaches v (next_world w pid p x)) is
    (λ m'. fallen w v pid p me purpose logs counts f left (last_for purpose) m') m)
    (log_or_fell c f (last_for purpose) m.allowed.1)
