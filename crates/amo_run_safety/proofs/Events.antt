-- Each event keeps the site sane.
use Rattle.std.proofs.Common.{◌≡◌, ℕ, Bool, false, ◌+◌, List, [], ◌∷◌, ◌++◌, Some, take, refl, sym, ap, ◌∙◌, subst, append-nil, append_assoc}
use Rattle.std.specs.List.{AllByRecursion}
use Rattle.amo_params.specs.declared.givens.Givens.{Givens}
use Rattle.amo_driver.specs.declared.model.Deed.{Deed}
use Rattle.amo_driver.specs.declared.model.Try.{Try}
use Rattle.amo_driver.specs.Stage.{Asking}
use Rattle.amo_driver.specs.Course.{try_of}
use Rattle.amo_driver_safety.specs.declared.model.Moment.TheVariants.{Does, Loses, Begins}
use Rattle.amo_run_log.specs.declared.entry.Entry.{Entry}
use Rattle.amo_run_log.specs.declared.finding.Finding.{Finding}
use Rattle.amo_run_log.specs.declared.journal.Attempt.{Attempt}
use Rattle.amo_run_log.specs.Findings.{is_undone}
use Rattle.amo_run_log.specs.Grammar.{intents}
use Rattle.amo_run_log.specs.Open.{IsAnswer, OpensNot, NoneOpens}
use Rattle.amo_run_files.specs.Records.{RecordView}
use Rattle.amo_run_safety.specs.File.{File, read_of, settled, with_put, with_unheard, with_unread, after_put, after_stop}
use Rattle.amo_run_safety.specs.Site.{Whereabouts, Away, Before, Inside, Round, Site, Event, Dies, Starts, RoundBegins, Joins, Acts, Misses, Pays, PaysUnheard, PaysUnread, Says, SaysUnheard, SaysUnread, Stops, with_at, lines_at}
use Rattle.amo_run_safety.specs.Run.{entries_of_try, appended, owed_after, has_fallen, left_in, whereabouts_after, whereabouts_missing, with_moment, with_moment_at, site_after, MayBegin, MayJoin, MayAct, MayMiss, MayHappen, IsRunFrom, site_after_all, opened_by_entries, opened_by_finding, openings_by, openings_from, is_among}
use Rattle.amo_run_safety.proofs.Files.{all_of, after_all, unheard_all, read_settled, stopped_all}
use Rattle.amo_run_safety.proofs.Openings.{among_parts, all_left, all_right, all_both, all_taken, none_opens, not_undone, undone_left, undone_taken}
use Rattle.amo_run_safety.proofs.Counted.{size_is}
use Rattle.amo_run_safety.proofs.Sane.{at_number, at_both, IsGood, IsGoodIf, Fits, IsSane, fits_any, fits_still}
use Rattle.amo_run_safety.proofs.Owed.{appended_all, owed_all, owed_answers}
use Rattle.amo_run_safety.proofs.Acting.{paid_fits, good_with, acted_good, acted_fits, acted_others, missed_good, missed_fits, missed_others, may_begin, seat_joined, joined_fits}

module _ (w : Site) (said : List (ℕ × ℕ)) (sane : IsSane w said) where
  -- nothing more is said

  answers_still : (p n : ℕ) → is_among (said ++ []) p n ≡ false → NoneOpens n (all_of (w.journals p))
  answers_still p n h = sane.answers p n (among_parts said [] p n h).0

  owed_still : (p n : ℕ) → is_among (said ++ []) p n ≡ false → NoneOpens n (w.owed p)
  owed_still p n h = sane.owed p n (among_parts said [] p n h).0

  findings_still : (p n : ℕ) → is_among (said ++ []) p n ≡ false → is_undone (all_of w.findings) p n ≡ false
  findings_still p n h = sane.findings p n (among_parts said [] p n h).0

  -- The entries say of no other intent of worker p that it wasn't begun than was said before, or is said now.
  abbrev SayNoMore : (now : List (ℕ × ℕ)) (p : ℕ) → List Entry → Type 0
  SayNoMore now p es = (n : ℕ) → is_among said p n ≡ false → is_among now p n ≡ false → NoneOpens n es

  no_more : (now : List (ℕ × ℕ)) (p : ℕ) (es : List Entry) → SayNoMore now p es → (o : ℕ) → o ≡ p → (n : ℕ) → is_among (said ++ now) o n ≡ false → NoneOpens n es
  no_more now p es none o e n h =
      let parts = among_parts said now o n h in
      none n (subst (λ x. is_among said x n ≡ false) e parts.0) (subst (λ x. is_among now x n ≡ false) e parts.1)

  -- the journal of p is read as before, with these entries more
  answers_with : (now : List (ℕ × ℕ)) (p : ℕ) (f : File Entry) (es : List Entry) → all_of f ≡ read_of (w.journals p) ++ es → SayNoMore now p es
      → (o n : ℕ) → is_among (said ++ now) o n ≡ false → NoneOpens n (all_of (with_at w.journals p f o))
  answers_with now p f es is none o n h =
      let parts = among_parts said now o n h in
      at_number (λ x. NoneOpens n (all_of x)) w.journals p f o
      (λ e. subst (NoneOpens n) (sym is) (all_both (OpensNot n) (read_of (w.journals p)) es
      (all_left (OpensNot n) (read_of (w.journals p)) (w.journals p).hidden (sane.answers p n (subst (λ x. is_among said x n ≡ false) e parts.0)))
      (no_more now p es none o e n h)))
      (λ m. sane.answers o n parts.0)

  -- p owes this
  owed_with : (now : List (ℕ × ℕ)) (p : ℕ) (es : List Entry) → SayNoMore now p es → (o n : ℕ) → is_among (said ++ now) o n ≡ false → NoneOpens n (with_at w.owed p es o)
  owed_with now p es none o n h = at_number (NoneOpens n) w.owed p es o
      (λ e. no_more now p es none o e n h)
      (λ m. sane.owed o n (among_parts said now o n h).0)

  owing_with : (p : ℕ) (es : List Entry) → AllByRecursion IsAnswer es → (o : ℕ) → AllByRecursion IsAnswer (with_at w.owed p es o)
  owing_with p es all o = at_number (AllByRecursion IsAnswer) w.owed p es o (λ e. all) (λ m. sane.owing o)

  nothing : (now : List (ℕ × ℕ)) (p : ℕ) → SayNoMore now p []
  nothing now p n before then = tt

  what_was_owed : (now : List (ℕ × ℕ)) (p : ℕ) → SayNoMore now p (w.owed p)
  what_was_owed now p n before then = sane.owed p n before

  -- what is said now is the entry of this try
  module _ (p : ℕ) (lines : List ℕ) (time : ℕ) (t : Try) where
    abbrev own : List Entry
    own = entries_of_try lines time t

    what_is_appended : (whereabouts : Whereabouts) → SayNoMore (opened_by_entries p own) p (appended whereabouts (w.owed p) lines time t)
    what_is_appended whereabouts n before then = appended_all (OpensNot n) (w.owed p) lines time (sane.owed p n before) whereabouts t (none_opens p n own then)

    what_is_owed : (whereabouts : Whereabouts) (failed : Bool) → SayNoMore (opened_by_entries p own) p (owed_after whereabouts failed (w.owed p) time t)
    what_is_owed whereabouts failed n before then = owed_all (OpensNot n) (w.owed p) lines time (sane.owed p n before) whereabouts failed t (none_opens p n own then)

  findings_more : (es : List (ℕ × ℕ)) (p n : ℕ) → is_among (said ++ es) p n ≡ false → is_undone (all_of w.findings) p n ≡ false
  findings_more es p n h = sane.findings p n (among_parts said es p n h).0

  answers_more : (es : List (ℕ × ℕ)) (p n : ℕ) → is_among (said ++ es) p n ≡ false → NoneOpens n (all_of (w.journals p))
  answers_more es p n h = sane.answers p n (among_parts said es p n h).0

  owed_more : (es : List (ℕ × ℕ)) (p n : ℕ) → is_among (said ++ es) p n ≡ false → NoneOpens n (w.owed p)
  owed_more es p n h = sane.owed p n (among_parts said es p n h).0

  -- the findings are read as before, with one more
  findings_with : (x : File Finding) (f : Finding) → all_of x ≡ read_of w.findings ++ f ∷ []
      → (p n : ℕ) → is_among (said ++ opened_by_finding f) p n ≡ false → is_undone (all_of x) p n ≡ false
  findings_with x f is p n h =
      let parts = among_parts said (opened_by_finding f) p n h in
      subst (λ l. is_undone l p n ≡ false) (sym is)
      (not_undone p n (read_of w.findings) f (undone_left p n (read_of w.findings) w.findings.hidden (sane.findings p n parts.0)) parts.1)

  -- each event

  dies : (p : ℕ) → IsSane (site_after w (Dies p)) (said ++ [])
  dies p = record {
    answers = answers_still;
    owed = owed_with [] p [] (nothing [] p);
    owing = owing_with p [] tt;
    findings = findings_still;
    rounds = sane.rounds;
    whereabouts = λ o. at_number (λ whereabouts. Fits w.rounds w.last (w.journals o) o whereabouts) w.whereabouts p Away o (λ e. tt) (λ n. sane.whereabouts o);
  }

  starts : (p : ℕ) (es : List Attempt) → IsSane (site_after w (Starts p es)) (said ++ [])
  starts p es = record {
    answers = answers_with [] p (settled (w.journals p)) [] (append-nil ((w.journals p).kept ++ (w.journals p).loose ++ [])) (nothing [] p);
    owed = owed_with [] p [] (nothing [] p);
    owing = owing_with p [] tt;
    findings = findings_still;
    rounds = sane.rounds;
    whereabouts = λ o. at_both (λ f whereabouts. Fits w.rounds w.last f o whereabouts) w.journals w.whereabouts p (settled (w.journals p)) (Before (Asking (left_in es))) o
        (λ e. (refl, (λ b. refl))) (λ n. sane.whereabouts o);
  }

  begins : (g : Givens) (r : RecordView) (lines : ℕ) → MayBegin w g r lines → IsSane (site_after w (RoundBegins g r lines)) (said ++ [])
  begins g r lines may =
      let round : Round = record { givens = g; written = r; moments = [] } in
      record {
        answers = answers_still;
        owed = owed_still;
        owing = sane.owing;
        findings = findings_still;
        rounds = λ k. at_number IsGoodIf w.rounds (w.last + 1) (Some round) k
            (λ e. record { history = tt; sound = may.sound; jobs = may.jobs; workers = may.workers }) (λ n. sane.rounds k);
        whereabouts = λ o. fits_any w.rounds (with_at w.rounds (w.last + 1) (Some round)) w.last (w.last + 1) sane.rounds (w.journals o) o (w.whereabouts o) (may.nobody o) (sane.whereabouts o);
      }

  joins : (p q n : ℕ) → MayJoin w p q n → IsSane (site_after w (Joins p q n)) (said ++ [])
  joins p q n may =
      let good : IsGood may.round = subst IsGoodIf may.stands (sane.rounds w.last) in
      let own : Fits w.rounds w.last (w.journals p) p (Before (Asking [])) = subst (λ whereabouts. Fits w.rounds w.last (w.journals p) p whereabouts) may.asked (sane.whereabouts p) in
      let whole : read_of (w.journals p) ≡ (w.journals p).kept = ap (λ l. (w.journals p).kept ++ l) (own.1 refl) ∙ append-nil (w.journals p).kept in
      let next : n ≡ intents (w.journals p).kept + 1 = may.next ∙ ap (λ k. k + 1) (size_is w.lines (read_of (w.journals p)) may.attempts may.journal ∙ ap intents whole) in
      let rounds = with_at w.rounds w.last (with_moment (Begins q n) (w.rounds w.last)) in
      record {
        answers = answers_still;
        owed = owed_still;
        owing = sane.owing;
        findings = findings_still;
        rounds = good_with w.rounds sane.rounds w.last (Begins q n) (may_begin w p q n may good);
        whereabouts = λ o. at_number (λ whereabouts. Fits rounds w.last (w.journals o) o whereabouts) w.whereabouts p (Inside w.last q) o
            (λ e. subst (λ x. Fits rounds w.last (w.journals x) x (Inside w.last q)) (sym e) (joined_fits w p q n may good (w.journals p) (own.1 refl) next))
            (λ m. fits_still w.rounds w.last sane.rounds w.last (Begins q n) p (seat_joined w p q n may good) o m (w.journals o) (w.whereabouts o) (sane.whereabouts o));
      }

  acts : (p time : ℕ) (d : Deed) → MayAct w.rounds (w.whereabouts p) d → IsSane (site_after w (Acts p time d)) (said ++ openings_by w (Acts p time d))
  acts p time d may =
      let lines = lines_at w.rounds (w.whereabouts p) in
      let now = opened_by_entries p (entries_of_try lines time (try_of d)) in
      let es = appended (w.whereabouts p) (w.owed p) lines time (try_of d) in
      let f = after_put (has_fallen d) (w.journals p) es in
      let rounds = with_moment_at (w.whereabouts p) (λ q. Does q d) w.rounds in
      record {
        answers = answers_with now p f es (after_all (has_fallen d) (w.journals p) es) (what_is_appended p lines time (try_of d) (w.whereabouts p));
        owed = owed_with now p (owed_after (w.whereabouts p) (has_fallen d) (w.owed p) time (try_of d)) (what_is_owed p lines time (try_of d) (w.whereabouts p) (has_fallen d));
        owing = owing_with p (owed_after (w.whereabouts p) (has_fallen d) (w.owed p) time (try_of d)) (owed_answers (w.owed p) time (sane.owing p) (w.whereabouts p) (has_fallen d) (try_of d));
        findings = findings_more now;
        rounds = acted_good w.rounds w.last sane.rounds p (w.owed p) (sane.owing p) time d (w.whereabouts p) may;
        whereabouts = λ o. at_both (λ x whereabouts. Fits rounds w.last x o whereabouts) w.journals w.whereabouts p f (whereabouts_after (w.whereabouts p) d) o
            (λ e. subst (λ x. Fits rounds w.last f x (whereabouts_after (w.whereabouts p) d)) (sym e)
            (acted_fits w.rounds w.last sane.rounds p (w.owed p) (sane.owing p) time d (w.journals p) (w.whereabouts p) may (sane.whereabouts p)))
            (λ m. acted_others w.rounds w.last sane.rounds p (w.owed p) (sane.owing p) time d (w.journals p) (w.whereabouts p) may (sane.whereabouts p)
            o m (w.journals o) (w.whereabouts o) (sane.whereabouts o));
      }

  misses : (p time : ℕ) (t : Try) → MayMiss w.rounds (w.whereabouts p) t → IsSane (site_after w (Misses p time t)) (said ++ openings_by w (Misses p time t))
  misses p time t may =
      let lines = lines_at w.rounds (w.whereabouts p) in
      let now = opened_by_entries p (entries_of_try lines time t) in
      let es = appended (w.whereabouts p) (w.owed p) lines time t in
      let owed = owed_after (w.whereabouts p) false (w.owed p) time t in
      let rounds = with_moment_at (w.whereabouts p) (λ q. Loses q t) w.rounds in
      record {
        answers = answers_with now p (with_unheard (w.journals p) es) es (unheard_all (w.journals p) es) (what_is_appended p lines time t (w.whereabouts p));
        owed = owed_with now p owed (what_is_owed p lines time t (w.whereabouts p) false);
        owing = owing_with p owed (owed_answers (w.owed p) time (sane.owing p) (w.whereabouts p) false t);
        findings = findings_more now;
        rounds = missed_good w.rounds w.last sane.rounds p t (w.whereabouts p) may;
        whereabouts = λ o. at_both (λ f whereabouts. Fits rounds w.last f o whereabouts) w.journals w.whereabouts p (with_unheard (w.journals p) es) (whereabouts_missing (w.whereabouts p)) o
            (λ e. subst (λ x. Fits rounds w.last (with_unheard (w.journals p) es) x (whereabouts_missing (w.whereabouts p))) (sym e)
            (missed_fits w.rounds w.last sane.rounds p t (w.journals p) (with_unheard (w.journals p) es) (w.whereabouts p) may (sane.whereabouts p)))
            (λ m. missed_others w.rounds w.last sane.rounds p t (w.journals p) (w.whereabouts p) may (sane.whereabouts p) o m (w.journals o) (w.whereabouts o) (sane.whereabouts o));
      }

  pays : (p : ℕ) → IsSane (site_after w (Pays p)) (said ++ [])
  pays p =
      let f = with_put (w.journals p) (w.owed p) in
      record {
        answers = answers_with [] p f (w.owed p) (after_all false (w.journals p) (w.owed p)) (what_was_owed [] p);
        owed = owed_with [] p [] (nothing [] p);
        owing = owing_with p [] tt;
        findings = findings_still;
        rounds = sane.rounds;
        whereabouts = λ o. at_number (λ x. Fits w.rounds w.last x o (w.whereabouts o)) w.journals p f o
            (λ e. subst (λ x. Fits w.rounds w.last f x (w.whereabouts x)) (sym e)
            (paid_fits w.rounds w.last (w.journals p) p (w.whereabouts p) (w.owed p) (sane.owing p) (sane.whereabouts p)))
            (λ m. sane.whereabouts o);
      }

  -- what is owed is appended, and the process ends
  pays_last : (p : ℕ) (f : File Entry) → all_of f ≡ read_of (w.journals p) ++ w.owed p
      → IsSane (record w { journals = with_at w.journals p f; owed = with_at w.owed p []; whereabouts = with_at w.whereabouts p Away }) (said ++ [])
  pays_last p f is = record {
    answers = answers_with [] p f (w.owed p) is (what_was_owed [] p);
    owed = owed_with [] p [] (nothing [] p);
    owing = owing_with p [] tt;
    findings = findings_still;
    rounds = sane.rounds;
    whereabouts = λ o. at_both (λ x whereabouts. Fits w.rounds w.last x o whereabouts) w.journals w.whereabouts p f Away o (λ e. tt) (λ n. sane.whereabouts o);
  }

  says : (f : Finding) → IsSane (site_after w (Says f)) (said ++ opened_by_finding f)
  says f = record {
    answers = answers_more (opened_by_finding f);
    owed = owed_more (opened_by_finding f);
    owing = sane.owing;
    findings = findings_with (with_put (settled w.findings) (f ∷ [])) f (after_all false (settled w.findings) (f ∷ []) ∙ ap (λ l. l ++ f ∷ []) (read_settled w.findings));
    rounds = sane.rounds;
    whereabouts = sane.whereabouts;
  }

  says_unheard : (f : Finding) → IsSane (site_after w (SaysUnheard f)) (said ++ opened_by_finding f)
  says_unheard f = record {
    answers = answers_more (opened_by_finding f);
    owed = owed_more (opened_by_finding f);
    owing = sane.owing;
    findings = findings_with (with_unheard (settled w.findings) (f ∷ [])) f (unheard_all (settled w.findings) (f ∷ []) ∙ ap (λ l. l ++ f ∷ []) (read_settled w.findings));
    rounds = sane.rounds;
    whereabouts = sane.whereabouts;
  }

  says_unread : (f : Finding) → IsSane (site_after w (SaysUnread f)) (said ++ opened_by_finding f)
  says_unread f = record {
    answers = answers_more (opened_by_finding f);
    owed = owed_more (opened_by_finding f);
    owing = sane.owing;
    findings = findings_with (with_unread (settled w.findings) (f ∷ [])) f (ap (λ l. l ++ f ∷ []) (read_settled w.findings));
    rounds = sane.rounds;
    whereabouts = sane.whereabouts;
  }

  -- what may be left of a journal opens no more than all of it
  none_left : (f : File Entry) (k n : ℕ) → NoneOpens n (all_of f) → NoneOpens n (all_of (after_stop k f))
  none_left f k n h =
      let whole = subst (NoneOpens n) (append_assoc f.kept f.loose f.hidden) h in
      subst (NoneOpens n) (sym (stopped_all k f)) (all_both (OpensNot n) f.kept (take k (f.loose ++ f.hidden))
      (all_left (OpensNot n) f.kept (f.loose ++ f.hidden) whole)
      (all_taken (OpensNot n) k (f.loose ++ f.hidden) (all_right (OpensNot n) f.kept (f.loose ++ f.hidden) whole)))

  undone_stopped : (f : File Finding) (k p n : ℕ) → is_undone (all_of f) p n ≡ false → is_undone (all_of (after_stop k f)) p n ≡ false
  undone_stopped f k p n h = subst (λ l. is_undone l p n ≡ false) (sym (stopped_all k f))
      (undone_taken p n k f.kept (f.loose ++ f.hidden) (subst (λ l. is_undone l p n ≡ false) (append_assoc f.kept f.loose f.hidden) h))

  stops : (left : ℕ → ℕ) (k : ℕ) → IsSane (site_after w (Stops left k)) (said ++ [])
  stops left k = record {
    answers = λ p n h. none_left (w.journals p) (left p) n (answers_still p n h);
    owed = λ p n h. tt;
    owing = λ p. tt;
    findings = λ p n h. undone_stopped w.findings k p n (findings_still p n h);
    rounds = sane.rounds;
    whereabouts = λ p. tt;
  }

  pub sane_after : (e : Event) → MayHappen w e → IsSane (site_after w e) (said ++ openings_by w e)
  sane_after (Dies p) may = dies p
  sane_after (Starts p es) may = starts p es
  sane_after (RoundBegins g r lines) may = begins g r lines may
  sane_after (Joins p q n) may = joins p q n may
  sane_after (Acts p time d) may = acts p time d may.1
  sane_after (Misses p time t) may = misses p time t may.1
  sane_after (Pays p) may = pays p
  sane_after (PaysUnheard p) may = pays_last p (with_unheard (w.journals p) (w.owed p)) (unheard_all (w.journals p) (w.owed p))
  sane_after (PaysUnread p) may = pays_last p (with_unread (w.journals p) (w.owed p)) refl
  sane_after (Says f) may = says f
  sane_after (SaysUnheard f) may = says_unheard f
  sane_after (SaysUnread f) may = says_unread f
  sane_after (Stops left n) may = stops left n

pub sane_after_all : (w : Site) (said : List (ℕ × ℕ)) (es : List Event) → IsSane w said → IsRunFrom w es → IsSane (site_after_all w es) (said ++ openings_from w es)
sane_after_all w said [] sane run = subst (λ l. IsSane w l) (sym (append-nil said)) sane
sane_after_all w said (e ∷ es) sane run =
    subst (λ l. IsSane (site_after_all (site_after w e) es) l) (append_assoc said (openings_by w e) (openings_from (site_after w e) es))
    (sane_after_all (site_after w e) (said ++ openings_by w e) es (sane_after w said sane e run.0) run.1)
