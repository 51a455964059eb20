-- The knowledge of a process after it has read more of a log.
use Rattle.std.proofs.Common.{◌≡◌, ⊎_elim, ℕ, zero, suc, List, [], ◌++◌, map, take, Some, refl, sym, ap, ◌∙◌, subst, append-nil}
use Rattle.std.specs.Prelude.{slice_get}
use Rattle.std.proofs.lemmas.Bool.{cases_eq}
use Rattle.amo_safety_by_journals.specs.Model.{IsOneOf, Site}
use Rattle.amo_host.specs.declared.model.LogFile.{LogFile}
use Rattle.amo_host.specs.declared.model.LogFile.TheVariants.{Answers, Journal}
use Rattle.amo_host.specs.Logs.{Logs, logs_after}
use Rattle.amo_run_log.specs.declared.entry.Entry.TheVariants.{Answer as Answered}
use Rattle.amo_run_log.specs.declared.entry.Outcome.TheVariants.{Unbegun as NotBegun}
use Rattle.amo_run_log.specs.declared.finding.Finding.{Finding}
use Rattle.amo_run_log.specs.declared.journal.Attempt.{Attempt}
use Rattle.amo_run_log.specs.declared.finding.Resolution.TheVariants.{NotDone}
use Rattle.amo_run_log.specs.Findings.{finding_in, is_undone}
use Rattle.amo_run_log.specs.ReadLogs.{findings_after, journals_after}
use Rattle.amo_run_log.proofs.AppendTexts.{map_some}
use Rattle.amo_program_safety.specs.Texts.{lines_in, lines_of}
use Rattle.amo_program_safety.specs.World.{Log, World, with_log}
use Rattle.amo_program_safety.specs.Runs.{AreRead}
use Rattle.amo_program_safety.proofs.Standing.{IsOpened, Knows, Goes, all_of}
use Rattle.amo_program_safety.proofs.Points.{log_it, log_other}
use Rattle.amo_program_safety.proofs.Texts.{AreOpened, ReadsOne, reads_one, journal_lines, journal_opened, lines_in_both, lines_of_entries, of_left, of_right, of_both, of_same, taken_of, text_says, undone_after}

-- Each text that a read gives is a text of the log.
pub read_of : (log : Log) (old texts : List (List ℕ)) → AreRead log (old ++ texts) → (t : List ℕ) → IsOneOf texts t → IsOneOf (all_of log) t
read_of log old texts (more, is) t one = ⊎_elim
    (λ kept. of_left log.kept log.rest t kept)
    (λ rest. of_right log.kept log.rest t (taken_of more log.rest t rest))
    (of_both log.kept (take more log.rest) t (of_same (old ++ texts) (log.kept ++ take more log.rest) t is (of_right old texts t one)))

-- If all appends of a log are kept, a read gives exactly these appends.
pub read_whole : (log : Log) (texts : List (List ℕ)) → log.rest ≡ [] → AreRead log texts → texts ≡ log.kept
read_whole log texts none (more, is) = is ∙ (ap (λ (r : List (List ℕ)). log.kept ++ take more r) none ∙ (ap (λ (r : List (List ℕ)). log.kept ++ r) (take_none more) ∙ append-nil log.kept))
  where
    take_none : (n : ℕ) → take {A = List ℕ} n [] ≡ []
    take_none zero = refl
    take_none (suc n) = refl

-- After the journal of r was read on, its attempts go on by the new texts. The findings and the
-- other journals stay.
pub journal_read_on : (logs logs' : Logs) (r : ℕ) (texts : List (List ℕ)) → logs_after logs (Journal r) texts ≡ Some logs' → (logs'.findings ≡ logs.findings) × ReadsOne logs.count logs.journals r texts logs'.journals
journal_read_on logs logs' r texts after =
    let (journals, are, all) = map_some (λ (js : List (List Attempt)). record logs { journals = js }) (journals_after logs.count logs.journals r texts) logs' after in
    let same : journals ≡ logs'.journals = ap (λ (l : Logs). l.journals) all in
    (ap (λ (l : Logs). l.findings) (sym all), subst (λ (js : List (List Attempt)). ReadsOne logs.count logs.journals r texts js) same (reads_one logs.count logs.journals r texts journals are))

pub knows_on : (w : World) (v : Site) (goes : Goes w v) (read : LogFile → List (List ℕ)) (logs logs' : Logs) (f : LogFile) (texts : List (List ℕ))
    → Knows v read logs → AreRead (w.logs f) (read f ++ texts) → logs_after logs f texts ≡ Some logs' → Knows v (with_log read f (read f ++ texts)) logs'
knows_on w v goes read logs logs' Answers texts knows are after =
    let (findings, found, all) = map_some (λ (fs : List Finding). record logs { findings = fs }) (findings_after logs.findings texts) logs' after in
    subst (λ (l : Logs). Knows v (with_log read Answers (read Answers ++ texts)) l) all (record {
      len = knows.len;
      lines = knows.lines;
      opened = knows.opened;
      undone = λ worker serial undone. ⊎_elim
          (λ old. knows.undone worker serial old)
          (λ (new : (t : List ℕ) × IsOneOf texts t × (f : Finding) × (finding_in t ≡ Some f) × (f.verdict ≡ NotDone) × (f.worker ≡ worker) × (f.serial ≡ serial)).
          let (t, one, f, says, verdict, p, s) = new in
          subst (λ q. IsOpened v q serial) p (subst (λ n. IsOpened v f.worker n) s (goes.undone t (read_of (w.logs Answers) (read Answers) texts are t one) f says verdict)))
          (undone_after logs.findings findings texts found worker serial undone);
    })
knows_on w v goes read logs logs' (Journal r) texts knows are after = by (journal_read_on logs logs' r texts after).0 (journal_read_on logs logs' r texts after).1
  where
    by : logs'.findings ≡ logs.findings → ReadsOne logs.count logs.journals r texts logs'.journals → Knows v (with_log read (Journal r) (read (Journal r) ++ texts)) logs'
    by same one = record {
      len = one.len ∙ knows.len;
      lines = λ i es is. ⊎_elim (λ here. lines_here i es here is) (λ other. lines_there i es other is) (cases_eq i one.k);
      opened = λ i es is. ⊎_elim (λ here. opened_here i es here is) (λ other. opened_there i es other is) (cases_eq i one.k);
      undone = λ worker serial undone. knows.undone worker serial (ap (λ (fs : List Finding). is_undone fs worker serial) (sym same) ∙ undone);
    }
      where
        es_is : (i : ℕ) (es : List Attempt) → i ≡ one.k → slice_get logs'.journals i ≡ Some es → one.es' ≡ es
        es_is i es here is = some_is (sym one.now ∙ (ap (slice_get logs'.journals) (sym here) ∙ is))
          where
            some_is : {a b : List Attempt} → Some a ≡ Some b → a ≡ b
            some_is e = cc

        read_it : with_log read (Journal r) (read (Journal r) ++ texts) (Journal (suc one.k)) ≡ read (Journal (suc one.k)) ++ texts
        read_it = subst (λ n. with_log read (Journal r) (read (Journal r) ++ texts) (Journal n) ≡ read (Journal n) ++ texts) one.worker_is (log_it read (Journal r) (read (Journal r) ++ texts))

        lines_here : (i : ℕ) (es : List Attempt) → i ≡ one.k → slice_get logs'.journals i ≡ Some es
            → map (λ (a : Attempt). a.line) es ≡ lines_in (with_log read (Journal r) (read (Journal r) ++ texts) (Journal (suc i)))
        lines_here i es here is =
            ap (map (λ (a : Attempt). a.line)) (sym (es_is i es here is))
            ∙ (journal_lines logs.count one.es one.es' one.entries one.becomes
            ∙ (ap (λ (l : List ℕ). l ++ lines_of one.entries) (knows.lines one.k one.es one.was)
            ∙ (ap (λ (l : List ℕ). lines_in (read (Journal (suc one.k))) ++ l) (lines_of_entries texts one.entries one.entries_are)
            ∙ (sym (lines_in_both (read (Journal (suc one.k))) texts)
            ∙ (ap lines_in (sym read_it)
            ∙ ap (λ n. lines_in (with_log read (Journal r) (read (Journal r) ++ texts) (Journal (suc n)))) (sym here))))))

        lines_there : (i : ℕ) (es : List Attempt) → (i ≡ one.k → ⊥) → slice_get logs'.journals i ≡ Some es
            → map (λ (a : Attempt). a.line) es ≡ lines_in (with_log read (Journal r) (read (Journal r) ++ texts) (Journal (suc i)))
        lines_there i es other is =
            knows.lines i es (sym (one.others i other) ∙ is)
            ∙ ap lines_in (sym (log_other read r (read (Journal r) ++ texts) (suc i) (λ same_one. other (pred (same_one ∙ one.worker_is)))))
          where
            pred : {a b : ℕ} → suc a ≡ suc b → a ≡ b
            pred e = cc

        opened_here : (i : ℕ) (es : List Attempt) → i ≡ one.k → slice_get logs'.journals i ≡ Some es → AreOpened (λ s. IsOpened v (suc i) s) es
        opened_here i es here is =
            subst (λ (l : List Attempt). AreOpened (λ s. IsOpened v (suc i) s) l) (es_is i es here is)
            (subst (λ n. AreOpened (λ s. IsOpened v (suc n) s) one.es') (sym here)
            (journal_opened (λ s. IsOpened v (suc one.k) s) logs.count one.es one.es' one.entries (knows.opened one.k one.es one.was) new one.becomes))
          where
            new : (s : ℕ) → IsOneOf one.entries (Answered s NotBegun) → IsOpened v (suc one.k) s
            new s says =
                let (t, among, entry) = text_says one.entries texts one.entries_are (Answered s NotBegun) says in
                subst (λ n. IsOpened v n s) one.worker_is (goes.unbegun r s t (read_of (w.logs (Journal r)) (read (Journal r)) texts are t among) entry)

        opened_there : (i : ℕ) (es : List Attempt) → (i ≡ one.k → ⊥) → slice_get logs'.journals i ≡ Some es → AreOpened (λ s. IsOpened v (suc i) s) es
        opened_there i es other is = knows.opened i es (sym (one.others i other) ∙ is)
