-- Calls by which a process asks whether the line of its attempt is clear.
use Rattle.std.proofs.Common.{◌≡◌, ◌⊎◌, inl, inr, ⊎_elim, ◌≤◌, ◌<◌, ℕ, zero, suc, ◌+◌, arith, List, [], ◌∷◌, ◌++◌, length, map, take, Option, Some, None, refl, sym, ap, ◌∙◌, subst, append-nil}
use Rattle.std.specs.Prelude.{Bool, true, false, not, slice_get}
use Rattle.std.proofs.lemmas.Bool.{cases_eq}
use Rattle.amo_safety_by_journals.specs.Model.{Attempt as Name, IsOneOf, Away, Free, Clearing as ModelClearing, Site, site_after, Event as ModelEvent, Dies, Looks, looked, line_of}
use Rattle.amo_safety_by_journals.specs.Runs.{Clearance, IsClear, HasSeenAll, IsRunFrom, site_from}
use Rattle.amo_driver.specs.Course.{due, stage_cleared}
use Rattle.amo_driver.specs.Stage.{Clearing}
use Rattle.amo_driver.specs.declared.answer.JobResult.TheVariants.{Unbegun}
use Rattle.amo_driver.specs.declared.model.Try.{Try}
use Rattle.amo_driver.specs.declared.model.Try.TheVariants.{Clear}
use Rattle.amo_params.specs.declared.limits.TheConstants.{MAX_WORKERS}
use Rattle.amo_host.specs.declared.model.LogFile.{LogFile}
use Rattle.amo_host.specs.declared.model.LogFile.TheVariants.{Answers, Journal}
use Rattle.amo_host.specs.Calls.{Call, Request, ReadOn, Put, Pay, Unlock, HasRead, HasPut, Fell, request_of}
use Rattle.amo_host.specs.declared.model.RunLock.TheVariants.{Round}
use Rattle.amo_host.specs.Logs.{Logs, logs_after, journals_from}
use Rattle.amo_host.specs.Phase.{Identity, Phase, Works, Clears, Unclear, Ended}
use Rattle.amo_host.specs.Protocol.{CarriesOut, line_at, job_is_clear, outcome_entry, reads_on, phase_after}
use Rattle.amo_process.specs.Stepped.{ProcessView}
use Rattle.amo_run_log.specs.declared.clearance.AttemptId.{AttemptId}
use Rattle.amo_run_log.specs.declared.entry.Entry.{Entry}
use Rattle.amo_run_log.specs.declared.entry.Entry.TheVariants.{Answer as Answered}
use Rattle.amo_run_log.specs.declared.entry.Outcome.{Outcome}
use Rattle.amo_run_log.specs.declared.entry.Outcome.TheVariants.{Unbegun as NotBegun}
use Rattle.amo_run_log.specs.declared.finding.Finding.{Finding}
use Rattle.amo_run_log.specs.declared.journal.Attempt.{Attempt}
use Rattle.amo_run_log.specs.Clearance.{any_stands, stands_in}
use Rattle.amo_run_log.specs.Entries.{FitsAppend, text_of_append}
use Rattle.amo_run_log.specs.Findings.{is_undone}
use Rattle.amo_run_log.specs.Open.{IsAnswer, reopens}
use Rattle.amo_program_safety.specs.Texts.{lines_in, append_of}
use Rattle.amo_program_safety.specs.World.{Log, Process, World, process_by, journal_by, guard_by, text_by}
use Rattle.amo_program_safety.specs.Runs.{AreRead, IsItsCall}
use Rattle.amo_program_safety.proofs.Standing.{IsOpened, Knows, Owes, FitsWrites, Goes, Owns, Quiet, Holds, Stands, Covers, AreJournals, ClearsAt, Drops, At, all_of, rest_by}
use Rattle.amo_program_safety.proofs.Moves.{Reaches}
use Rattle.amo_program_safety.proofs.Points.{at_it, log_it}
use Rattle.amo_program_safety.proofs.Acting.{Turns, turns_none, turns_dies, turns_looks, turns, acts, halts, nothing_written}
use Rattle.amo_program_safety.proofs.Steps.{Made, OwesNoMore, next_world, stood, stand_by, quiet_on, knows_more}
use Rattle.amo_program_safety.proofs.Texts.{ReadsOne, stands_at, clear_at, attempt_at, line_of_both, lines_in_both, put_no_lines, of_same}
use Rattle.amo_program_safety.proofs.Reading.{knows_on, journal_read_on}
use Rattle.amo_program_safety.proofs.GivingUp.{GivesUp, gives_up_held, given_up}

-- ---- the calls of a request

is_clearing : (me : Identity) (jobs : List ℕ) (s : ℕ) (a : ProcessView) (j : ℕ) (r : Request) → (t : Try) → due (Clearing s a j) ≡ Some t → CarriesOut me jobs t r → r ≡ ReadOn Answers
is_clearing me jobs s a j r t is does = subst (λ x. CarriesOut me jobs x r) (some_is (sym is)) does
  where
    some_is : Some t ≡ Some (Clear s j) → t ≡ Clear s j
    some_is e = cc

read_or_fell : (c : Call) (f : LogFile) → request_of c ≡ ReadOn f → ((texts : List (List ℕ)) × (HasRead f texts ≡ c)) ⊎ (Fell (ReadOn f) ≡ c)
read_or_fell (HasRead log texts) f is = let at : log ≡ f = cc in inl (texts, cc)
read_or_fell (Fell r) f is = inr (ap Fell (sym is))
read_or_fell c f is = absurd (cc is)

put_or_fell : (c : Call) (entry : Entry) → request_of c ≡ Put entry → (HasPut entry ≡ c) ⊎ (Fell (Put entry) ≡ c)
put_or_fell (HasPut other) entry is = let at : other ≡ entry = cc in inl cc
put_or_fell (Fell r) entry is = inr (ap Fell (sym is))
put_or_fell c entry is = absurd (cc is)

-- ---- the journals that are left

of_journals : (first count r : ℕ) → first ≤ r → r < first + count → IsOneOf (journals_from first count) (Journal r)
of_journals first zero r low high = absurd (omega arith)
of_journals first (suc n) r low high = ⊎_elim
    (λ (same : r ≡ first). inl (ap Journal (sym same)))
    (λ other. inr (of_journals (first + 1) n r (more other low) (less high)))
    (cases_eq r first)
  where
    more : (r ≡ first → ⊥) → first ≤ r → first + 1 ≤ r
    more other low = omega arith

    less : r < first + suc n → r < (first + 1) + n
    less high = omega arith

are_journals : (first count : ℕ) → AreJournals (journals_from first count)
are_journals first zero f one = absurd one
are_journals first (suc n) f (inl is) = (first, sym is)
are_journals first (suc n) f (inr one) = are_journals (first + 1) n f one

-- ---- the site looks

-- If no attempt that was read in this journal stands against the line, the journal is clear for the
-- line in the model.
is_clear_by : (w : World) (v : Site) (goes : Goes w v) (read : LogFile → List (List ℕ)) (logs : Logs) (r k : ℕ) (es : List Attempt) (own : AttemptId) (line : ℕ)
    → Knows v read logs → r ≡ suc k → slice_get logs.journals k ≡ Some es → AreRead (w.logs (Journal r)) (read (Journal r)) → any_stands logs.findings own line r 1 es ≡ false
    → IsClear v r (record { worker = own.worker; serial = own.serial }) line
is_clear_by w v goes read logs r k es own line knows at is (more, are) none serial there =
    let known : line_of (lines_in (read (Journal r))) serial ≡ Some line =
    ap (λ t. line_of (lines_in t) serial) are
    ∙ (ap (λ (l : List ℕ). line_of l serial) (lines_in_both (w.logs (Journal r)).kept (take more (w.logs (Journal r)).rest))
    ∙ line_of_both (lines_in (w.logs (Journal r)).kept) (lines_in (take more (w.logs (Journal r)).rest)) serial line (ap (λ (l : List ℕ). line_of l serial) (sym (goes.kept r)) ∙ there)) in
    let lines : map (λ (a : Attempt). a.line) es ≡ lines_in (read (Journal r)) = knows.lines k es is ∙ ap (λ n. lines_in (read (Journal n))) (sym at) in
    let (i, e, number, has, line_is) = attempt_at es serial line (ap (λ (l : List ℕ). line_of l serial) lines ∙ known) in
    ⊎_elim
    (λ (mine : (r ≡ own.worker) × (suc i ≡ own.serial)). inl (same_name r own.worker serial own.serial mine.0 (number ∙ mine.1)))
    (λ (opened : (reopens e.answer ≡ true) ⊎ (is_undone logs.findings r (suc i) ≡ true)). inr (⊎_elim
    (λ reopened. subst (λ n. IsOpened v n serial) (sym at) (subst (λ n. IsOpened v (suc k) n) (sym number) (knows.opened k es is i e has reopened)))
    (λ undone. subst (λ n. IsOpened v r n) (sym number) (knows.undone r (suc i) undone))
    opened))
    (clear_at logs.findings own line r es none i e has line_is)
  where
    name : ℕ → ℕ → Name
    name q n = record { worker = q; serial = n }

    same_name : (a b c d : ℕ) → a ≡ b → c ≡ d → name a c ≡ name b d
    same_name a b c d ab cd = ap (λ q. name q c) ab ∙ ap (name b) cd

-- By some events the model's process has looked at the journal of r, or an attempt in that journal
-- stands against the line.
record Looked (v : Site) (logs : Logs) (q s line r : ℕ) (seen : List ℕ) : Type 0 where
  pub events : List ModelEvent
  pub run : IsRunFrom Clearance MAX_WORKERS v events
  pub turned : Turns v (site_from v events) q
  pub kept : (site_from v events).kept ≡ v.kept
  pub now : List ℕ
  pub stage : (site_from v events).stage q ≡ ModelClearing s line now
  pub more : (x : ℕ) → IsOneOf seen x → IsOneOf now x
  pub at : IsOneOf now r ⊎ Stands logs q s line r

looks_at : (v : Site) (logs : Logs) (q s line r : ℕ) (seen : List ℕ) → v.stage q ≡ ModelClearing s line seen → IsClear v r (record { worker = q; serial = s }) line → Looked v logs q s line r seen
looks_at v logs q s line r seen is clear = record {
  events = Looks q r ∷ [];
  run = ((s, line, seen, is, clear), tt);
  turned = turns_looks v q r;
  kept = refl;
  now = r ∷ seen;
  stage = at_it v.stage q (looked r (v.stage q)) ∙ ap (looked r) is;
  more = λ x one. inr one;
  at = inl (inl refl);
}

looks_not : (v : Site) (logs : Logs) (q s line r : ℕ) (seen : List ℕ) → v.stage q ≡ ModelClearing s line seen → Stands logs q s line r → Looked v logs q s line r seen
looks_not v logs q s line r seen is stands = record {
  events = [];
  run = tt;
  turned = turns_none v q;
  kept = refl;
  now = seen;
  stage = is;
  more = λ x one. one;
  at = inr stands;
}

-- ---- the attempt that a process holds

holds_on : (w : World) (v v' : Site) (pid : ℕ) (p : Process) (c : Call) (jobs : List ℕ) (s j line : ℕ) (seen now : List ℕ) → Holds w v pid p jobs s j line seen
    → guard_by w.guard pid c ≡ w.guard → (journal_by (w.logs (Journal p.worker)) p.owed c).rest ≡ [] → v'.kept ≡ v.kept → v'.stage p.worker ≡ ModelClearing s line now
    → Holds (next_world w pid p c) v' pid (process_by p c) jobs s j line now
holds_on w v v' pid p c jobs s j line seen now holds guard rest kept stage = record {
  owns = record {
    guard = ap (λ g. g p.worker) guard ∙ holds.owns.guard;
    rest = ap (λ (l : Log). l.rest) (log_it w.logs (Journal p.worker) (journal_by (w.logs (Journal p.worker)) p.owed c)) ∙ rest;
  };
  stage = stage;
  serial = holds.serial ∙ ap (λ (f : ℕ → List ℕ). length (f p.worker)) (sym kept);
  kept = ap (λ (f : ℕ → List ℕ). line_of (f p.worker) s) kept ∙ holds.kept;
  job = holds.job;
  first = holds.first;
  idle = refl;
  fits = holds.fits;
}

-- ---- calls after which the attempt is given up, or the process may do nothing any more

-- The call changes neither a lock nor the journal, appends nothing, and adds no owed entry.
record IsIdle (w : World) (pid : ℕ) (p : Process) (c : Call) : Type 0 where
  pub guard : guard_by w.guard pid c ≡ w.guard
  pub log : journal_by (w.logs (Journal p.worker)) p.owed c ≡ w.logs (Journal p.worker)
  pub text : text_by p.owed (request_of c) ≡ None
  pub owes : OwesNoMore c

module _ (w : World) (v : Site) (pid : ℕ) (p : Process) (ph : Phase) (c : Call) (m : Made w v pid p ph c) (idle : IsIdle w pid p c) where
  rest_after : (owns : Owns w pid p) → (journal_by (w.logs (Journal p.worker)) p.owed c).rest ≡ []
  rest_after owns = ap (λ (l : Log). l.rest) idle.log ∙ (owns.rest ∙ nothing_written p (request_of c) m.its idle.text)

  quiet_after : (v' : Site) → Owns w pid p → v'.stage p.worker ≡ Free → Quiet (next_world w pid p c) v' pid (process_by p c)
  quiet_after v' owns free = quiet_on w v' pid p c owns.guard idle.guard (rest_after owns) free

  -- The process gives its attempt up in this call, if the facts of its next phase hold after the model's events.
  gives : (jobs : List ℕ) (s j line : ℕ) (seen : List ℕ) (holds : Holds w v pid p jobs s j line seen)
      → ((g : GivesUp v p.worker s) → At (next_world w pid p c) (site_from v g.events) pid (process_by p c) (phase_after ph c)) → Reaches v (next_world w pid p c)
  gives jobs s j line seen holds at = by (gives_up_held w v pid p jobs s j line seen m.goes m.lives holds)
    where
      by : GivesUp v p.worker s → Reaches v (next_world w pid p c)
      by g = given_up w v m.goes pid p m.lives s g c holds.owns.guard idle.guard idle.log
          (stand_by w v (site_from v g.events) pid p ph c m idle.owes g.turned (at g))

  unclear : (jobs : List ℕ) (s j line : ℕ) (seen : List ℕ) → Holds w v pid p jobs s j line seen → Unclear s ≡ phase_after ph c → Reaches v (next_world w pid p c)
  unclear jobs s j line seen holds is = gives jobs s j line seen holds
      (λ g. subst (λ x. At (next_world w pid p c) (site_from v g.events) pid (process_by p c) x) is (quiet_after (site_from v g.events) holds.owns g.free, g.opened, (line, ap (λ (f : ℕ → List ℕ). line_of (f p.worker) s) g.kept ∙ holds.kept)))

  -- The model's process looks at a journal in this call, if the facts of the next phase hold after the model's events.
  looks : (logs : Logs) (jobs : List ℕ) (s j line r : ℕ) (seen : List ℕ) → Holds w v pid p jobs s j line seen → (l : Looked v logs p.worker s line r seen)
      → (Holds (next_world w pid p c) (site_from v l.events) pid (process_by p c) jobs s j line l.now → At (next_world w pid p c) (site_from v l.events) pid (process_by p c) (phase_after ph c))
      → Reaches v (next_world w pid p c)
  looks logs jobs s j line r seen holds l at = record {
    events = l.events;
    run = l.run;
    goes = turns w v m.goes pid p m.lives c (site_from v l.events) holds.owns.guard idle.guard idle.log l.turned (ap (λ (f : ℕ → List ℕ). f p.worker) l.kept)
        (stand_by w v (site_from v l.events) pid p ph c m idle.owes l.turned
        (at (holds_on w v (site_from v l.events) pid p c jobs s j line seen l.now holds idle.guard (rest_after holds.owns) l.kept l.stage)));
  }

-- An append has failed, and the process may do nothing any more.
pub put_fails : (w : World) (v : Site) (pid : ℕ) (p : Process) (ph : Phase) (entry : Entry) → Made w v pid p ph (Fell (Put entry)) → Owns w pid p → Ended ≡ phase_after ph (Fell (Put entry))
    → Reaches v (next_world w pid p (Fell (Put entry)))
put_fails w v pid p ph entry m owns is = halts w v m.goes pid p m.lives (Fell (Put entry)) owns.guard refl refl
    (λ v' away turned. stand_by w v v' pid p ph (Fell (Put entry)) m tt turned (subst (λ x. At (next_world w pid p (Fell (Put entry))) v' pid (process_by p (Fell (Put entry))) x) is (λ holds. away)))

-- An answer is on the disk, and the process may do nothing any more.
pub put_ends : (w : World) (v : Site) (pid : ℕ) (p : Process) (ph : Phase) (s : ℕ) (outcome : Outcome) → Made w v pid p ph (HasPut (Answered s outcome)) → Owns w pid p
    → Ended ≡ phase_after ph (HasPut (Answered s outcome)) → Reaches v (next_world w pid p (HasPut (Answered s outcome)))
put_ends w v pid p ph s outcome m owns is = record {
  events = Dies p.worker ∷ [];
  run = (tt, tt);
  goes = acts w v m.goes pid p m.lives (HasPut (Answered s outcome)) dead owns.guard refl (turns_dies v p.worker) kept (λ n l at. at) texts
      (stand_by w v dead pid p ph (HasPut (Answered s outcome)) m tt (turns_dies v p.worker)
      (subst (λ x. At (next_world w pid p (HasPut (Answered s outcome))) dead pid (process_by p (HasPut (Answered s outcome))) x) is (λ holds. at_it v.stage p.worker Away)));
}
  where
    dead : Site
    dead = site_after v (Dies p.worker)

    fits : FitsAppend (append_of p.owed (Answered s outcome))
    fits = subst (λ x. FitsWrites p.owed x) m.kernel (m.goes.stand pid p m.lives).fits

    answers : (owed : Option Entry) → Owes v p.worker owed → (o : Entry) → owed ≡ Some o → IsAnswer o
    answers None owes o some = absurd (cc some)
    answers (Some e) owes o some = subst IsAnswer (some_is some) owes.0
      where
        some_is : {x y : Entry} → Some x ≡ Some y → x ≡ y
        some_is eq = cc

    rest : (w.logs (Journal p.worker)).rest ≡ text_of_append (append_of p.owed (Answered s outcome)) ∷ []
    rest = owns.rest ∙ ap (rest_by p.owed) m.kernel

    no_lines : lines_in (w.logs (Journal p.worker)).rest ≡ []
    no_lines = ap lines_in rest ∙ put_no_lines p.owed (Answered s outcome) (answers p.owed (m.goes.stand pid p m.lives).owes) tt fits

    kept : v.kept p.worker ≡ lines_in ((w.logs (Journal p.worker)).kept ++ (w.logs (Journal p.worker)).rest)
    kept = m.goes.kept p.worker ∙ sym (lines_in_both (w.logs (Journal p.worker)).kept (w.logs (Journal p.worker)).rest
        ∙ (ap (λ (l : List ℕ). lines_in (w.logs (Journal p.worker)).kept ++ l) no_lines ∙ append-nil (lines_in (w.logs (Journal p.worker)).kept)))

    texts : (text : List ℕ) → IsOneOf (((w.logs (Journal p.worker)).kept ++ (w.logs (Journal p.worker)).rest) ++ []) text → IsOneOf (all_of (w.logs (Journal p.worker))) text
    texts text one = of_same _ _ text (append-nil ((w.logs (Journal p.worker)).kept ++ (w.logs (Journal p.worker)).rest)) one

-- ---- the process reads the answers

append_none : (xs ys : List ℕ) → xs ++ ys ≡ [] → xs ≡ []
append_none [] ys is = refl
append_none (x ∷ xs) ys is = absurd (cc is)

no_line : (serial line : ℕ) → line_of [] serial ≡ Some line → ⊥
no_line zero line is = absurd (cc is)
no_line (suc i) line is = absurd (cc is)

nobody_stands : (w : World) (v : Site) (goes : Goes w v) (own : Name) (line : ℕ) → IsClear v 0 own line
nobody_stands w v goes own line serial is = absurd (no_line serial line (ap (λ (l : List ℕ). line_of l serial) (sym none) ∙ is))
  where
    none : v.kept 0 ≡ []
    none = goes.kept 0 ∙ append_none (lines_in (w.logs (Journal 0)).kept) (lines_in (w.logs (Journal 0)).rest)
        (sym (lines_in_both (w.logs (Journal 0)).kept (w.logs (Journal 0)).rest) ∙ goes.nobody)

module _ (w : World) (v : Site) (pid : ℕ) (p : Process) (me : Identity) (jobs : List ℕ) (s : ℕ) (a : ProcessView) (j : ℕ) (owes : Bool) (logs : Logs) where
  abbrev asks : Phase
  asks = Works me jobs (Clearing s a j) owes logs

  answers_read : (texts : List (List ℕ)) → Made w v pid p asks (HasRead Answers texts) → Reaches v (next_world w pid p (HasRead Answers texts))
  unfolding looks_at
  answers_read texts m = by (logs_after logs Answers texts) refl
    where
      c : Call
      c = HasRead Answers texts

      at : At w v pid p asks
      at = stood w v pid p asks c m

      idle : IsIdle w pid p c
      idle = record { guard = refl; log = refl; text = refl; owes = tt }

      by : (o : Option Logs) → logs_after logs Answers texts ≡ o → Reaches v (next_world w pid p c)
      by None none = unclear w v pid p asks c m idle jobs s j at.2.0 [] at.2.1 (ap (λ o. reads_on me jobs s a j o (journals_from 1 MAX_WORKERS)) (sym none))
      by (Some logs') some = looks w v pid p asks c m idle logs' jobs s j at.2.0 0 [] at.2.1 looked_at (λ holds.
          subst (λ o. At (next_world w pid p c) (site_from v looked_at.events) pid (process_by p c) (reads_on me jobs s a j o (journals_from 1 MAX_WORKERS))) (sym some) (
            at.0,
            knows_more v (site_from v looked_at.events) (process_by p c).read logs' looked_at.turned.opened (knows_on w v m.goes p.read logs logs' Answers texts at.1 m.kernel some),
            inl (at.2.0, 0 ∷ [], holds, inl refl, (λ q low high. inl (of_journals 1 MAX_WORKERS q low (below q high))), are_journals 1 MAX_WORKERS),
          ))
        where
          looked_at : Looked v logs' p.worker s at.2.0 0 []
          looked_at = looks_at v logs' p.worker s at.2.0 0 [] at.2.1.stage (nobody_stands w v m.goes (record { worker = p.worker; serial = s }) at.2.0)

          below : (q : ℕ) → q ≤ MAX_WORKERS → q < 1 + MAX_WORKERS
          below q high = omega arith

  answers_fell : Made w v pid p asks (Fell (ReadOn Answers)) → Reaches v (next_world w pid p (Fell (ReadOn Answers)))
  answers_fell m = unclear w v pid p asks (Fell (ReadOn Answers)) m (record { guard = refl; log = refl; text = refl; owes = tt }) jobs s j at.2.0 [] at.2.1 refl
    where
      at : At w v pid p asks
      at = stood w v pid p asks (Fell (ReadOn Answers)) m

pub clearing_step : (w : World) (v : Site) (pid : ℕ) (p : Process) (me : Identity) (jobs : List ℕ) (s : ℕ) (a : ProcessView) (j : ℕ) (owes : Bool) (logs : Logs) (c : Call)
    → Made w v pid p (Works me jobs (Clearing s a j) owes logs) c → Reaches v (next_world w pid p c)
clearing_step w v pid p me jobs s a j owes logs c m = ⊎_elim
    (λ (does : (t : Try) × (due (Clearing s a j) ≡ Some t) × CarriesOut me jobs t (request_of c)). ⊎_elim
    (λ (is : (texts : List (List ℕ)) × (HasRead Answers texts ≡ c)).
    subst (λ x. Made w v pid p (Works me jobs (Clearing s a j) owes logs) x → Reaches v (next_world w pid p x)) is.1 (answers_read w v pid p me jobs s a j owes logs is.0) m)
    (λ (is : Fell (ReadOn Answers) ≡ c).
    subst (λ x. Made w v pid p (Works me jobs (Clearing s a j) owes logs) x → Reaches v (next_world w pid p x)) is (answers_fell w v pid p me jobs s a j owes logs) m)
    (read_or_fell c Answers (is_clearing me jobs s a j (request_of c) does.0 does.1 does.2)))
    (λ (none : (due (Clearing s a j) ≡ None) × ((request_of c ≡ Pay) ⊎ ((owes ≡ false) × (request_of c ≡ Unlock Round)))). absurd (some_due none.0))
    m.allowed
  where
    some_due : Some (Clear s j) ≡ None → ⊥
    some_due is = absurd (cc is)

-- ---- the process reads the journals

-- After the journal of r was read, each journal is still covered: it is left to be read, was looked
-- at, or keeps the line from being clear.
covers_on : (logs logs' : Logs) (worker s line r : ℕ) (texts : List (List ℕ)) (seen now : List ℕ) (left : List LogFile) → Covers logs worker s line seen (Journal r ∷ left)
    → logs'.findings ≡ logs.findings → ReadsOne logs.count logs.journals r texts logs'.journals → ((x : ℕ) → IsOneOf seen x → IsOneOf now x) → IsOneOf now r ⊎ Stands logs' worker s line r
    → Covers logs' worker s line now left
covers_on logs logs' worker s line r texts seen now left covers same one more at q low high = ⊎_elim
    (λ (is : q ≡ r). inr (here q is))
    (λ other. ⊎_elim
    (λ (left_over : (Journal r ≡ Journal q) ⊎ IsOneOf left (Journal q)). ⊎_elim (λ (is : Journal r ≡ Journal q). absurd (other (number is))) (λ among. inl among) left_over)
    (λ (known : IsOneOf seen q ⊎ Stands logs worker s line q). ⊎_elim (λ was. inr (inl (more q was))) (λ stands. inr (inr (still other stands))) known)
    (covers q low high))
    (cases_eq q r)
  where
    number : Journal r ≡ Journal q → q ≡ r
    number is = cc

    here : (x : ℕ) → x ≡ r → IsOneOf now x ⊎ Stands logs' worker s line x
    here x is = subst (λ n. IsOneOf now n ⊎ Stands logs' worker s line n) (sym is) at

    still : (q ≡ r → ⊥) → Stands logs worker s line q → Stands logs' worker s line q
    still other (k, es, is, has, stands) = (
      k,
      es,
      is,
      one.others k (λ same_k. other (is ∙ (ap suc same_k ∙ sym one.worker_is))) ∙ has,
      ap (λ (fs : List Finding). any_stands fs (record { worker = worker; serial = s }) line q 1 es) same ∙ stands,
    )

-- If no attempt stands against the line and no journal is left to be read, the model's process has
-- looked at all journals.
all_seen : (logs : Logs) (worker s line : ℕ) (seen : List ℕ) → Covers logs worker s line seen [] → IsOneOf seen 0 → stands_in logs.findings (record { worker = worker; serial = s }) line 1 logs.journals ≡ false
    → HasSeenAll MAX_WORKERS seen
all_seen logs worker s line seen covers first none zero few = first
all_seen logs worker s line seen covers first none (suc n) few = ⊎_elim
    (λ nothing. absurd nothing)
    (λ (known : IsOneOf seen (suc n) ⊎ Stands logs worker s line (suc n)). ⊎_elim (λ is. is) (λ stands. absurd (no stands)) known)
    (covers (suc n) (low n) few)
  where
    low : (n : ℕ) → 1 ≤ suc n
    low n = omega arith

    no : Stands logs worker s line (suc n) → ⊥
    no (k, es, is, has, stands) =
        let number : suc n ≡ 1 + k = omega (arith, is) in
        let both : true ≡ false = sym stands ∙ (ap (λ q. any_stands logs.findings (record { worker = worker; serial = s }) line q 1 es) number
        ∙ stands_at logs.findings (record { worker = worker; serial = s }) line 1 logs.journals k es none has) in
        absurd (cc both)

not_true : (b : Bool) → not b ≡ true → b ≡ false
not_true true is = absurd (cc is)
not_true false is = refl

clear_none : (me : Identity) (s line worker : ℕ) (o : Option ℕ) (logs : Logs) → me.worker ≡ worker → o ≡ Some line → job_is_clear me s o logs ≡ true
    → stands_in logs.findings (record { worker = worker; serial = s }) line 1 logs.journals ≡ false
clear_none me s line worker o logs same is clear =
    ap (λ q. stands_in logs.findings (record { worker = q; serial = s }) line 1 logs.journals) (sym same)
    ∙ not_true (stands_in logs.findings (record { worker = me.worker; serial = s }) line 1 logs.journals) (ap (λ x. job_is_clear me s x logs) (sym is) ∙ clear)

module _ (w : World) (v : Site) (pid : ℕ) (p : Process) (me : Identity) (jobs : List ℕ) (s : ℕ) (a : ProcessView) (j : ℕ) (logs : Logs) where
  abbrev clearing : List LogFile → Phase
  clearing left = Clears me jobs s a j logs left

  module _ (r : ℕ) (left : List LogFile) (texts : List (List ℕ)) (m : Made w v pid p (clearing (Journal r ∷ left)) (HasRead (Journal r) texts))
      (clears : ClearsAt w v pid p jobs s j logs (Journal r ∷ left)) where
    abbrev c : Call
    c = HasRead (Journal r) texts

    at : At w v pid p (clearing (Journal r ∷ left))
    at = stood w v pid p (clearing (Journal r ∷ left)) c m

    abbrev line : ℕ
    line = clears.0

    abbrev seen : List ℕ
    seen = clears.1

    holds : Holds w v pid p jobs s j line seen
    holds = clears.2

    idle : IsIdle w pid p c
    idle = record { guard = refl; log = refl; text = refl; owes = tt }

    module _ (logs' : Logs) (after : logs_after logs (Journal r) texts ≡ Some logs') where
      knows : Knows v (process_by p c).read logs'
      knows = knows_on w v m.goes p.read logs logs' (Journal r) texts at.1 m.kernel after

      abbrev one : ReadsOne logs.count logs.journals r texts logs'.journals
      one = (journal_read_on logs logs' r texts after).1

      is_read : AreRead (w.logs (Journal r)) ((process_by p c).read (Journal r))
      is_read = subst (λ t. AreRead (w.logs (Journal r)) t) (sym (log_it p.read (Journal r) (p.read (Journal r) ++ texts))) m.kernel

      has_looked : Looked v logs' p.worker s line r seen
      has_looked = by (any_stands logs'.findings (record { worker = p.worker; serial = s }) line r 1 one.es') refl
        where
          by : (b : Bool) → any_stands logs'.findings (record { worker = p.worker; serial = s }) line r 1 one.es' ≡ b → Looked v logs' p.worker s line r seen
          by true stands = looks_not v logs' p.worker s line r seen holds.stage (one.k, one.es', one.worker_is, one.now, stands)
          by false none = looks_at v logs' p.worker s line r seen holds.stage
              (is_clear_by w v m.goes (process_by p c).read logs' r one.k one.es' (record { worker = p.worker; serial = s }) line knows one.worker_is one.now is_read none)

      abbrev v' : Site
      v' = site_from v has_looked.events

      knows' : Knows v' (process_by p c).read logs'
      knows' = knows_more v v' (process_by p c).read logs' has_looked.turned.opened knows

      covers : Covers logs' p.worker s line has_looked.now left
      covers = covers_on logs logs' p.worker s line r texts seen has_looked.now left clears.4 (journal_read_on logs logs' r texts after).0 one has_looked.more has_looked.at

      -- ---- other journals are left

      goes_on : (f : LogFile) (more : List LogFile) → left ≡ f ∷ more → Reaches v (next_world w pid p c)
      goes_on f more is = looks w v pid p (clearing (Journal r ∷ left)) c m idle logs' jobs s j line r seen holds has_looked (λ holding.
          subst (λ o. At (next_world w pid p c) v' pid (process_by p c) (reads_on me jobs s a j o left)) (sym after)
          (subst (λ l. At (next_world w pid p c) v' pid (process_by p c) (reads_on me jobs s a j (Some logs') l)) (sym is) (
            at.0,
            knows',
            inl (
              line,
              has_looked.now,
              holding,
              has_looked.more 0 clears.3,
              subst (λ l. Covers logs' p.worker s line has_looked.now l) is covers,
              (λ g among. clears.5 g (inr (subst (λ (l : List LogFile). IsOneOf l g) (sym is) among))),
            ),
          )))

      -- ---- no journal is left

      abbrev finds : Bool
      finds = job_is_clear me s (line_at jobs j) logs'

      ends_clear : left ≡ [] → finds ≡ true → Reaches v (next_world w pid p c)
      ends_clear is clear = looks w v pid p (clearing (Journal r ∷ left)) c m idle logs' jobs s j line r seen holds has_looked (λ holding.
          subst (λ o. At (next_world w pid p c) v' pid (process_by p c) (reads_on me jobs s a j o left)) (sym after)
          (subst (λ l. At (next_world w pid p c) v' pid (process_by p c) (reads_on me jobs s a j (Some logs') l)) (sym is)
          (subst (λ b. At (next_world w pid p c) v' pid (process_by p c) (Works me jobs (stage_cleared s a j b) false logs')) (sym clear) (
            at.0,
            knows',
            inl (
              line,
              has_looked.now,
              holding,
              all_seen logs' p.worker s line has_looked.now (subst (λ l. Covers logs' p.worker s line has_looked.now l) is covers) (has_looked.more 0 clears.3)
                  (clear_none me s line p.worker (line_at jobs j) logs' at.0 holds.job clear),
            ),
          ))))

      ends_taken : left ≡ [] → finds ≡ false → Reaches v (next_world w pid p c)
      ends_taken is taken = gives w v pid p (clearing (Journal r ∷ left)) c m idle jobs s j line seen holds (λ g.
          subst (λ o. At (next_world w pid p c) (site_from v g.events) pid (process_by p c) (reads_on me jobs s a j o left)) (sym after)
          (subst (λ l. At (next_world w pid p c) (site_from v g.events) pid (process_by p c) (reads_on me jobs s a j (Some logs') l)) (sym is)
          (subst (λ b. At (next_world w pid p c) (site_from v g.events) pid (process_by p c) (Works me jobs (stage_cleared s a j b) false logs')) (sym taken) (
            at.0,
            knows_more v (site_from v g.events) (process_by p c).read logs' g.turned.opened knows,
            (
              quiet_after w v pid p (clearing (Journal r ∷ left)) c m idle (site_from v g.events) holds.owns g.free,
              holds.serial ∙ ap (λ (f : ℕ → List ℕ). length (f p.worker)) (sym g.kept),
              (λ same. g.opened),
              (line, ap (λ (f : ℕ → List ℕ). line_of (f p.worker) s) g.kept ∙ holds.kept),
            ),
          ))))

      logs_known : Reaches v (next_world w pid p c)
      logs_known = by left refl finds refl
        where
          by : (l : List LogFile) → left ≡ l → (b : Bool) → finds ≡ b → Reaches v (next_world w pid p c)
          by (f ∷ more) is b found = goes_on f more is
          by [] is true clear = ends_clear is clear
          by [] is false taken = ends_taken is taken

    journal_read : Reaches v (next_world w pid p c)
    journal_read = by (logs_after logs (Journal r) texts) refl
      where
        by : (o : Option Logs) → logs_after logs (Journal r) texts ≡ o → Reaches v (next_world w pid p c)
        by None none = unclear w v pid p (clearing (Journal r ∷ left)) c m idle jobs s j line seen holds (ap (λ o. reads_on me jobs s a j o left) (sym none))
        by (Some logs') some = logs_known logs' some

  -- A process that has written that its attempt was not started reads no further log.
  no_read : (f : LogFile) → Drops w v pid p s → IsItsCall p.writes (ReadOn f) → ⊥
  no_read f drops its = not_both (subst (λ x. IsItsCall x (ReadOn f)) drops.writes its)
    where
      not_both : Put (Answered s NotBegun) ≡ ReadOn f → ⊥
      not_both is = absurd (cc is)

  log_read : (f : LogFile) (left : List LogFile) (texts : List (List ℕ)) → Made w v pid p (clearing (f ∷ left)) (HasRead f texts) → Reaches v (next_world w pid p (HasRead f texts))
  log_read f left texts m = ⊎_elim
      (λ (clears : ClearsAt w v pid p jobs s j logs (f ∷ left)).
      let (r, is) = clears.5 f (inl refl) in
      subst (λ g. Made w v pid p (clearing (g ∷ left)) (HasRead g texts) → ClearsAt w v pid p jobs s j logs (g ∷ left) → Reaches v (next_world w pid p (HasRead g texts))) (sym is) (journal_read r left texts) m clears)
      (λ (drops : Drops w v pid p s). absurd (no_read f drops m.its))
      (stood w v pid p (clearing (f ∷ left)) (HasRead f texts) m).2

  log_fell : (f : LogFile) (left : List LogFile) → Made w v pid p (clearing (f ∷ left)) (Fell (ReadOn f)) → Reaches v (next_world w pid p (Fell (ReadOn f)))
  log_fell f left m = ⊎_elim
      (λ (clears : ClearsAt w v pid p jobs s j logs (f ∷ left)).
      unclear w v pid p (clearing (f ∷ left)) (Fell (ReadOn f)) m (record { guard = refl; log = refl; text = refl; owes = tt }) jobs s j clears.0 clears.1 clears.2 refl)
      (λ (drops : Drops w v pid p s). absurd (no_read f drops m.its))
      (stood w v pid p (clearing (f ∷ left)) (Fell (ReadOn f)) m).2

  owned : (left : List LogFile) (c : Call) → Made w v pid p (clearing left) c → Owns w pid p
  owned left c m = ⊎_elim
      (λ (clears : ClearsAt w v pid p jobs s j logs left). clears.2.owns)
      (λ (drops : Drops w v pid p s). drops.owns)
      (stood w v pid p (clearing left) c m).2

  put_done : (left : List LogFile) → Made w v pid p (clearing left) (HasPut (outcome_entry s 0 Unbegun)) → Reaches v (next_world w pid p (HasPut (outcome_entry s 0 Unbegun)))
  put_done left m = put_ends w v pid p (clearing left) s NotBegun m (owned left (HasPut (outcome_entry s 0 Unbegun)) m) refl

  put_fell : (left : List LogFile) → Made w v pid p (clearing left) (Fell (Put (outcome_entry s 0 Unbegun))) → Reaches v (next_world w pid p (Fell (Put (outcome_entry s 0 Unbegun))))
  put_fell left m = put_fails w v pid p (clearing left) (outcome_entry s 0 Unbegun) m (owned left (Fell (Put (outcome_entry s 0 Unbegun))) m) refl

pub clears_step : (w : World) (v : Site) (pid : ℕ) (p : Process) (me : Identity) (jobs : List ℕ) (s : ℕ) (a : ProcessView) (j : ℕ) (logs : Logs) (left : List LogFile) (c : Call)
    → Made w v pid p (Clears me jobs s a j logs left) c → Reaches v (next_world w pid p c)
clears_step w v pid p me jobs s a j logs [] c m = absurd m.allowed
clears_step w v pid p me jobs s a j logs (f ∷ left) c m = ⊎_elim
    (λ (reads : request_of c ≡ ReadOn f). ⊎_elim
    (λ (is : (texts : List (List ℕ)) × (HasRead f texts ≡ c)).
    subst (λ x. Made w v pid p (Clears me jobs s a j logs (f ∷ left)) x → Reaches v (next_world w pid p x)) is.1 (log_read w v pid p me jobs s a j logs f left is.0) m)
    (λ (is : Fell (ReadOn f) ≡ c).
    subst (λ x. Made w v pid p (Clears me jobs s a j logs (f ∷ left)) x → Reaches v (next_world w pid p x)) is (log_fell w v pid p me jobs s a j logs f left) m)
    (read_or_fell c f reads))
    (λ (puts : request_of c ≡ Put (outcome_entry s 0 Unbegun)). ⊎_elim
    (λ (is : HasPut (outcome_entry s 0 Unbegun) ≡ c).
    subst (λ x. Made w v pid p (Clears me jobs s a j logs (f ∷ left)) x → Reaches v (next_world w pid p x)) is (put_done w v pid p me jobs s a j logs (f ∷ left)) m)
    (λ (is : Fell (Put (outcome_entry s 0 Unbegun)) ≡ c).
    subst (λ x. Made w v pid p (Clears me jobs s a j logs (f ∷ left)) x → Reaches v (next_world w pid p x)) is (put_fell w v pid p me jobs s a j logs (f ∷ left)) m)
    (put_or_fell c (outcome_entry s 0 Unbegun) puts))
    m.allowed
