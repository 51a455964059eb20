-- Facts about a process that stay true if nothing has changed for the process.
use Rattle.std.proofs.Common.{◌≡◌, inl, inr, ⊎_elim, ℕ, suc, List, length, Option, Some, None, refl, sym, ap, ◌∙◌, subst}
use Rattle.std.specs.Prelude.{if◌then◌else◌}
use Rattle.std.proofs.lemmas.Bool.{cases_eq, eq-eqb, ne_eqb}
use Rattle.amo_safety_by_journals.specs.Model.{Site, line_of}
use Rattle.amo_driver.specs.Stage.{Stage, Going, Finding, Intending, Clearing, Performing, Noting, Leaving, Asking, Settling, Dismissed, Gone, Unanswered, Refused, Broken}
use Rattle.amo_driver.specs.declared.answer.JobResult.{JobResult}
use Rattle.amo_driver.specs.declared.past.Intent.{Intent as Pending}
use Rattle.amo_host.specs.declared.model.LogFile.{LogFile}
use Rattle.amo_host.specs.declared.model.LogFile.TheVariants.{Answers, Journal}
use Rattle.amo_host.specs.Logs.{Logs}
use Rattle.amo_host.specs.Phase.{Start, Unborn, Guards, Checked, Knows as KnowsRound, HasRecovered, Settled, Purpose, ToWork, ToBegin, Phase, Starts, Asks, Idle, Begins, Joins, Reads, Works, Clears, Unclear, Over, Stays, Ended}
use Rattle.amo_run_log.specs.declared.entry.Entry.{Entry}
use Rattle.amo_program_safety.specs.World.{Log, Process, World, with_log}
use Rattle.amo_program_safety.proofs.Standing.{Knows, KnowsPrior, Owns, Quiet, Fresh, Holds, Gave, IsKept, StartsAt, ArePending, OpensIf, Halted, AsksAt, IsNext, WorksAt, ClearsAt, Drops, ReadsOwn, prior_of_begin, prior_of_join, At, Owes, Stand}
use Rattle.amo_program_safety.proofs.Moves.{Same}

-- ---- a function of logs that was changed at one log

journal_is : (q p : ℕ) → Journal q ≡ Journal p → q ≡ p
journal_is q p e = cc

pub at_log : {A : Type 0} (P : A → Type 0) (f : LogFile → A) (g : LogFile) (x : A) (h : LogFile) → (h ≡ g → P x) → ((h ≡ g → ⊥) → P (f h)) → P (with_log f g x h)
at_log P f Answers x Answers same other = same refl
at_log P f Answers x (Journal q) same other = other (λ (e : Journal q ≡ Answers). absurd (cc e))
at_log P f (Journal p) x Answers same other = other (λ (e : Answers ≡ Journal p). absurd (cc e))
at_log P f (Journal p) x (Journal q) same other = ⊎_elim
    (λ (e : q ≡ p). subst (λ b. P (if b then x else f (Journal q))) (sym (eq-eqb q p e)) (same (ap Journal e)))
    (λ (n : q ≡ p → ⊥). subst (λ b. P (if b then x else f (Journal q))) (sym (ne_eqb q p n)) (other (λ (e : Journal q ≡ Journal p). n (journal_is q p e))))
    (cases_eq q p)

-- ---- facts that stay

module _ (w : World) (v : Site) (w' : World) (v' : Site) (pid : ℕ) (p : Process) (same : Same w v w' v' pid p) where
  owns_still : Owns w pid p → Owns w' pid p
  owns_still o = record {
    guard = same.guard o.guard;
    rest = ap (λ (l : Log). l.rest) (same.log o.guard) ∙ o.rest;
  }

  quiet_still : Quiet w v pid p → Quiet w' v' pid p
  quiet_still q = record { owns = owns_still q.owns; free = same.stage q.owns.guard ∙ q.free }

  fresh_still : Fresh w v pid p → Fresh w' v' pid p
  fresh_still f = record { guard = same.guard f.guard; away = same.stage f.guard ∙ f.away; idle = f.idle }

  holds_still : (jobs : List ℕ) (s j line : ℕ) (seen : List ℕ) → Holds w v pid p jobs s j line seen → Holds w' v' pid p jobs s j line seen
  holds_still jobs s j line seen h = record {
    owns = owns_still h.owns;
    stage = same.stage h.owns.guard ∙ h.stage;
    serial = h.serial ∙ ap length (sym (same.kept h.owns.guard));
    kept = ap (λ (ls : List ℕ). line_of ls s) (same.kept h.owns.guard) ∙ h.kept;
    job = h.job;
    first = same.first h.owns.guard s h.first;
    idle = h.idle;
    fits = h.fits;
  }

  kept_still : w.guard p.worker ≡ Some pid → (s : ℕ) → IsKept v p.worker s → IsKept v' p.worker s
  kept_still holds s h = (h.0, ap (λ (ls : List ℕ). line_of ls s) (same.kept holds) ∙ h.1)

  gave_still : (s : ℕ) → Gave w v pid p s → Gave w' v' pid p s
  gave_still s g = record {
    quiet = quiet_still g.quiet;
    serial = g.serial ∙ ap length (sym (same.kept g.quiet.owns.guard));
    kept = kept_still g.quiet.owns.guard s g.kept;
    given = (g.given.0, same.handed g.given.0 g.given.1, g.given.2);
    fits = g.fits;
  }

  halted_still : Halted w v pid p → Halted w' v' pid p
  halted_still h holds = let was = same.lost p.worker holds in same.stage was ∙ h was

  knows_still : (read : LogFile → List (List ℕ)) (logs : Logs) → Knows v read logs → Knows v' read logs
  knows_still read logs k = record {
    len = k.len;
    lines = k.lines;
    opened = λ i es is n e at again. same.opened (suc i) (suc n) (k.opened i es is n e at again);
    undone = λ q s is. same.opened q s (k.undone q s is);
  }

  knows_prior_still : (read : LogFile → List (List ℕ)) (prior : Option Logs) → KnowsPrior v read prior → KnowsPrior v' read prior
  knows_prior_still read None k = k
  knows_prior_still read (Some logs) k = knows_still read logs k

  starts_still : (start : Start) → StartsAt w v pid p start → StartsAt w' v' pid p start
  starts_still Unborn h = (λ q holds. h.0 q (same.lost q holds), h.1)
  starts_still Guards h = fresh_still h
  starts_still Checked h = fresh_still h
  starts_still (KnowsRound last) h = fresh_still h
  starts_still (HasRecovered last texts) h = (quiet_still h.0, h.1 ∙ ap (λ (l : Log). l.kept) (sym (same.log h.0.owns.guard)))
  starts_still (Settled last texts) h = (quiet_still h.0, h.1 ∙ ap (λ (l : Log). l.kept) (sym (same.log h.0.owns.guard)))

  pending_still : w.guard p.worker ≡ Some pid → (is : List Pending) → ArePending v p.worker is → ArePending v' p.worker is
  pending_still holds is h i one = kept_still holds i.serial (h i one)

  opens_still : (s : ℕ) (c : JobResult) → OpensIf v p.worker s c → OpensIf v' p.worker s c
  opens_still s c h is = same.opened p.worker s (h is)

  asks_still : (st : Stage) → AsksAt w v pid p st → AsksAt w' v' pid p st
  asks_still (Asking is) h = (quiet_still h.0, pending_still h.0.owns.guard is h.1)
  asks_still (Settling s c way is) h = (quiet_still h.0, opens_still s c h.1, pending_still h.0.owns.guard is h.2, kept_still h.0.owns.guard s h.3)
  asks_still (Dismissed is) h = halted_still h
  asks_still (Unanswered s reply) h = halted_still h
  asks_still Broken h = halted_still h
  asks_still _ h = absurd h

  next_still : (s : ℕ) → IsNext w v pid p s → IsNext w' v' pid p s
  next_still s h = (quiet_still h.0, h.1 ∙ ap (λ (ls : List ℕ). suc (length ls)) (sym (same.kept h.0.owns.guard)))

  works_still : (jobs : List ℕ) (st : Stage) → WorksAt w v pid p jobs st → WorksAt w' v' pid p jobs st
  works_still jobs (Going s a way) h = next_still s h
  works_still jobs (Finding s a j) h = next_still s h
  works_still jobs (Intending s a j) h = next_still s h
  works_still jobs (Clearing s a j) h = (h.0, holds_still jobs s j h.0 _ h.1)
  works_still jobs (Performing s a j) h = ⊎_elim
      (λ has. inl (has.0, has.1, holds_still jobs s j has.0 has.1 has.2, has.3))
      (λ gave. inr (gave_still s gave))
      h
  works_still jobs (Noting s a c way) h = (quiet_still h.0, h.1 ∙ ap length (sym (same.kept h.0.owns.guard)), opens_still s c h.2, kept_still h.0.owns.guard s h.3)
  works_still jobs (Leaving a) h = quiet_still h
  works_still jobs Gone h = quiet_still h
  works_still jobs (Unanswered s reply) h = quiet_still h
  works_still jobs (Refused word value) h = quiet_still h
  works_still jobs Broken h = quiet_still h
  works_still jobs _ h = absurd h

  clears_still : (jobs : List ℕ) (s j : ℕ) (logs : Logs) (left : List LogFile) → ClearsAt w v pid p jobs s j logs left → ClearsAt w' v' pid p jobs s j logs left
  clears_still jobs s j logs left h = (h.0, h.1, holds_still jobs s j h.0 h.1 h.2, h.3, h.4, h.5)

  drops_still : (s : ℕ) → Drops w v pid p s → Drops w' v' pid p s
  drops_still s h = record { owns = owns_still h.owns; away = same.stage h.owns.guard ∙ h.away; writes = h.writes }

  reads_own_still : w.guard p.worker ≡ Some pid → (purpose : Purpose) (left : List LogFile) → ReadsOwn w p purpose left → ReadsOwn w' p purpose left
  reads_own_still holds (ToWork file givens seat) left h = ⊎_elim
      (λ one. inl one)
      (λ is. inr (is ∙ ap (λ (l : Log). l.kept) (sym (same.log holds))))
      h
  reads_own_still holds (ToBegin boot last known list) left h = h

  at_still : (ph : Phase) → At w v pid p ph → At w' v' pid p ph
  at_still (Starts k start) h = (h.0, h.1, starts_still start h.2)
  at_still (Asks me st) h = (h.0, h.1, asks_still st h.2)
  at_still (Idle me logs) h = (h.0, knows_still p.read logs h.1, quiet_still h.2)
  at_still (Begins me begin) h = (h.0, knows_prior_still p.read (prior_of_begin begin) h.1, quiet_still h.2)
  at_still (Joins me join) h = (h.0, knows_prior_still p.read (prior_of_join join) h.1, quiet_still h.2)
  at_still (Reads me purpose logs counts left) h = (h.0, knows_still p.read logs h.1, quiet_still h.2, reads_own_still h.2.owns.guard purpose left h.3)
  at_still (Works me jobs st owes logs) h = (h.0, knows_still p.read logs h.1, works_still jobs st h.2)
  at_still (Clears me jobs s a j logs left) h = (
    h.0,
    knows_still p.read logs h.1,
    ⊎_elim
        (λ clears. inl (clears_still jobs s j logs left clears))
        (λ drops. inr (drops_still s drops))
        h.2,
  )
  at_still (Unclear s) h = (quiet_still h.0, same.opened p.worker s h.1, kept_still h.0.owns.guard s h.2)
  at_still (Over me logs) h = (h.0, knows_still p.read logs h.1, quiet_still h.2)
  at_still (Stays me logs) h = (h.0, knows_still p.read logs h.1, quiet_still h.2)
  at_still Ended h = halted_still h

  owes_still : (owed : Option Entry) → Owes v p.worker owed → Owes v' p.worker owed
  owes_still None h = h
  owes_still (Some entry) h = (h.0, (λ s is. same.opened p.worker s (h.1 s is)), λ s c is. same.settled p.worker s (h.2 s c is))

  pub frame_stand : Stand w v pid p → Stand w' v' pid p
  frame_stand st = record {
    low = st.low;
    high = st.high;
    owes = owes_still p.owed st.owes;
    fits = st.fits;
    here = at_still p.phase st.here;
  }
