-- A process has written what it appends.
use Rattle.std.proofs.Common.{◌≡◌, ◌⊎◌, inl, inr, ⊎_elim, ℕ, List, [], ◌∷◌, ◌++◌, Option, Some, None, refl, sym, ap, ◌∙◌, subst, append_assoc}
use Rattle.std.specs.Prelude.{Bool}
use Rattle.std.proofs.lemmas.Bool.{cases_eq}
use Rattle.amo_safety_by_journals.specs.Model.{Attempt as Name, Handing, IsOneOf, Away, Clearing as ModelClearing, Site, site_after, Dies, Opens, line_of}
use Rattle.amo_driver.specs.Course.{due}
use Rattle.amo_driver.specs.Stage.{Stage, Going, Finding, Intending, Clearing, Performing, Noting, Leaving, Asking, Settling, Dismissed, Gone, Unanswered, Refused, Broken}
use Rattle.amo_driver.specs.declared.answer.JobResult.{JobResult}
use Rattle.amo_driver.specs.declared.answer.JobResult.TheVariants.{Unbegun}
use Rattle.amo_driver.specs.declared.model.Try.{Try}
use Rattle.amo_process.specs.Stepped.{ProcessView}
use Rattle.amo_host.specs.declared.model.LogFile.{LogFile}
use Rattle.amo_host.specs.declared.model.LogFile.TheVariants.{Journal}
use Rattle.amo_host.specs.Calls.{Request, Put, Pay}
use Rattle.amo_host.specs.Logs.{Logs}
use Rattle.amo_host.specs.Phase.{Identity, Start, Unborn, Guards, Checked, Knows as KnowsRound, HasRecovered, Settled as HasSettled, Phase, Starts, Asks, Idle, Begins, Joins, Reads, Works, Clears, Unclear, Over, Stays, Ended}
use Rattle.amo_host.specs.Starting.{MayStart}
use Rattle.amo_host.specs.Protocol.{CarriesOut, CarriesOutBefore, Allows, outcome_entry}
use Rattle.amo_run_log.specs.declared.entry.Entry.{Entry}
use Rattle.amo_run_log.specs.declared.entry.Entry.TheVariants.{Intent, Answer as Answered}
use Rattle.amo_run_log.specs.declared.entry.Outcome.{Outcome}
use Rattle.amo_run_log.specs.declared.entry.Outcome.TheVariants.{Unbegun as NotBegun}
use Rattle.amo_run_log.specs.Entries.{append_in, entries_of_append, text_of_append, FitsAppend}
use Rattle.amo_program_safety.specs.Texts.{append_of, entries_of, lines_in}
use Rattle.amo_program_safety.specs.World.{Log, Process, World, Writes, with_append, with_append_if, text_by, owed_text, written, world_after}
use Rattle.amo_program_safety.specs.Runs.{FitsOwed, FitsRequest, MayFollow}
use Rattle.amo_program_safety.proofs.Standing.{IsOpened, Settled, Knows, Owns, Quiet, Holds, Owes, OpensIf, OpensOpened, AnswersSettled, Stand, Goes, At, rest_if, rest_by, all_of}
use Rattle.amo_program_safety.proofs.Texts.{of_both, put_says}
use Rattle.amo_program_safety.proofs.Moves.{Reaches}
use Rattle.amo_program_safety.proofs.Points.{at_it, log_it, log_other}
use Rattle.amo_program_safety.proofs.Effects.{effect_goes}
use Rattle.amo_program_safety.proofs.Acting.{Turns, turns_none, turns_then, turns_dies, turns_opens}
use Rattle.amo_program_safety.proofs.Steps.{owes_more, knows_more}
use Rattle.amo_program_safety.proofs.GivingUp.{held_untouched}
use Rattle.amo_program_safety.proofs.Plain.{IsPlainRequest, plain_text}
use Rattle.amo_program_safety.proofs.Quiet.{plain_beginning, plain_joining}
use Rattle.amo_program_safety.proofs.Works.{none_due}
use Rattle.amo_program_safety.proofs.Working.{settled_quiet, outcome_owes, out_of_access, out_of_find, out_of_store}

-- ---- the entries of an append

-- The entry is true in this site: an attempt that it opens is opened, and an attempt that it
-- answers is settled.
abbrev pub IsSo : Site → (q : ℕ) → Entry → Type 0
IsSo v q entry = OpensOpened v q entry × AnswersSettled v q entry

-- Each entry of this text is true in this site: an attempt that it opens is opened, and an attempt
-- that it answers is settled.
pub record Tells (v : Site) (q : ℕ) (text : List ℕ) : Type 0 where
  pub opened : (s : ℕ) → IsOneOf (entries_of (append_in text)) (Answered s NotBegun) → IsOpened v q s
  pub settled : (s : ℕ) (c : Outcome) → IsOneOf (entries_of (append_in text)) (Answered s c) → Settled v q s

-- An entry of an append is the owed entry or the other one.
of_append : (owed : Option Entry) (entry x : Entry) → IsOneOf (entries_of_append (append_of owed entry)) x → (owed ≡ Some x) ⊎ (entry ≡ x)
of_append None entry x (inl is) = inr is
of_append None entry x (inr none) = absurd none
of_append (Some o) entry x (inl is) = inl (ap Some is)
of_append (Some o) entry x (inr (inl is)) = inr is
of_append (Some o) entry x (inr (inr none)) = absurd none

append_says : (v : Site) (q : ℕ) (owed : Option Entry) (entry : Entry) → Owes v q owed → IsSo v q entry → FitsAppend (append_of owed entry) → Tells v q (text_of_append (append_of owed entry))
append_says v q owed entry owes so fits = record {
  opened = λ s one. ⊎_elim (λ is. (owed_is (Answered s NotBegun) is).1 s refl) (λ is. so.0 s is) (of_it (Answered s NotBegun) one);
  settled = λ s c one. ⊎_elim (λ is. (owed_is (Answered s c) is).2 s c refl) (λ is. so.1 s c is) (of_it (Answered s c) one);
}
  where
    owed_is : (x : Entry) → owed ≡ Some x → Owes v q (Some x)
    owed_is x is = subst (Owes v q) is owes

    of_it : (x : Entry) → IsOneOf (entries_of (append_in (text_of_append (append_of owed entry)))) x → (owed ≡ Some x) ⊎ (entry ≡ x)
    of_it x one = of_append owed entry x (subst (λ a. IsOneOf (entries_of a) x) (put_says owed entry fits) one)

intent_is : (v : Site) (q s line time : ℕ) → IsSo v q (Intent s line time)
intent_is v q s line time = ((λ n e. absurd (cc e)), λ n c e. absurd (cc e))

outcome_is : (v : Site) (q s time : ℕ) (c : JobResult) → OpensIf v q s c → Settled v q s → IsSo v q (outcome_entry s time c)
outcome_is v q s time c opens settled = let owes = outcome_owes v q s time c opens settled in (owes.1, owes.2)

-- ---- the world after the append is written

module _ (w : World) (v : Site) (goes : Goes w v) (pid : ℕ) (p : Process) (lives : w.process pid ≡ Some p) (r : Request) (text : List ℕ) (is_text : text_by p.owed r ≡ Some text)
    (idle : p.writes ≡ None) (fits : FitsRequest p.owed r) where
  abbrev after : World
  after = written w pid (Some p) r

  abbrev writer : Process
  writer = record p { writes = Some r }

  log_is : after.logs (Journal p.worker) ≡ with_append (w.logs (Journal p.worker)) text
  log_is = log_it w.logs (Journal p.worker) _ ∙ ap (with_append_if (w.logs (Journal p.worker))) is_text

  mine : (q : ℕ) → w.guard q ≡ Some pid → q ≡ p.worker
  mine q holds = let o = goes.owner q pid holds in sym o.2 ∙ ap (λ (x : Process). x.worker) (some_is (sym o.1 ∙ lives))
    where
      some_is : {a b : Process} → Some a ≡ Some b → a ≡ b
      some_is e = cc

  -- The process still has its lock. Only its own append in the journal is not known to be on the disk.
  owns_after : Owns w pid p → Owns after pid writer
  owns_after owns = record {
    guard = owns.guard;
    rest = ap (λ (l : Log). l.rest) log_is ∙ (ap (λ ts. ts ++ text ∷ []) (owns.rest ∙ ap (rest_by p.owed) idle) ∙ sym (ap rest_if is_text));
  }

  quiet_after : Quiet w v pid p → Quiet after v pid writer
  quiet_after quiet = record { owns = owns_after quiet.owns; free = quiet.free }

  wrote : (v' : Site) → w.guard p.worker ≡ Some pid → Turns v v' p.worker → v'.kept p.worker ≡ v.kept p.worker
      → Tells v' p.worker text → At after v' pid writer p.phase → Goes after v'
  wrote v' own turned kept says here = effect_goes w v after v' pid p writer goes lives (record {
    process_is = refl;
    worker_is = refl;
    handed = refl;
    w_alive = refl;
    w_performed = refl;
    v_alive = turned.alive;
    v_performed = turned.performed;
    opened = turned.opened;
    settled = turned.settled;
    guard_kept = λ q n other holds. holds;
    guard_lost = λ q n other holds. holds;
    guard_mine = mine;
    answers = refl;
    far = λ q far. record { stage = turned.stage q far; kept = turned.kept q far; log = log_other w.logs p.worker _ q far };
    near = inr own;
    kept = kept ∙ (goes.kept p.worker ∙ ap (λ (l : Log). lines_in l.kept) (sym log_is));
    more = λ s l is. subst (λ (ls : List ℕ). line_of ls s ≡ Some l) (sym kept) is;
    unbegun = λ s t one said. ⊎_elim
        (λ old. turned.opened p.worker s (goes.unbegun p.worker s t old said))
        (λ new. says.opened s (subst (λ x. IsOneOf (entries_of (append_in x)) (Answered s NotBegun)) (sym new) said))
        (written_now t one);
    answered = λ s c t one said. ⊎_elim
        (λ old. turned.settled p.worker s (goes.answered p.worker s c t old said))
        (λ new. says.settled s c (subst (λ x. IsOneOf (entries_of (append_in x)) (Answered s c)) (sym new) said))
        (written_now t one);
    away = λ q none. away_at q none;
    stand = record {
      low = (goes.stand pid p lives).low;
      high = (goes.stand pid p lives).high;
      owes = owes_more v v' p.worker p.owed turned.opened turned.settled (goes.stand pid p lives).owes;
      fits = fits;
      here = here;
    };
  })
    where
      -- Each text of the journal was there before, or is the written one.
      written_now : (t : List ℕ) → IsOneOf (all_of (after.logs (Journal p.worker))) t → IsOneOf (all_of (w.logs (Journal p.worker))) t ⊎ (text ≡ t)
      written_now t one = ⊎_elim
          (λ old. inl old)
          (λ new. inr (only new))
          (of_both (all_of (w.logs (Journal p.worker))) (text ∷ []) t (subst (λ (ts : List (List ℕ)). IsOneOf ts t) (sym (append_assoc (w.logs (Journal p.worker)).kept (w.logs (Journal p.worker)).rest (text ∷ [])))
          (subst (λ (l : Log). IsOneOf (all_of l) t) log_is one)))
        where
          only : IsOneOf (text ∷ []) t → text ≡ t
          only (inl is) = is
          only (inr none) = absurd none

      away_at : (q : ℕ) → w.guard q ≡ None → v'.stage q ≡ Away
      away_at q none = ⊎_elim
          (λ (e : q ≡ p.worker). absurd (not_both (sym none ∙ (ap w.guard e ∙ own))))
          (λ far. turned.stage q far ∙ goes.away q none)
          (cases_eq q p.worker)
        where
          not_both : {x : ℕ} → None ≡ Some x → ⊥
          not_both e = cc

  -- The model makes no event when a quiet process has written its append.
  still_quiet : Quiet w v pid p → Tells v p.worker text → At after v pid writer p.phase → Reaches v after
  still_quiet quiet says here = record { events = []; run = tt; goes = wrote v quiet.owns.guard (turns_none v p.worker) refl says here }

-- ---- the phases that append

some_text : {a b : List ℕ} → Some a ≡ Some b → a ≡ b
some_text e = cc

tried_is : {a b : Try} → Some a ≡ Some b → b ≡ a
tried_is e = cc

module _ (w : World) (v : Site) (goes : Goes w v) (pid : ℕ) (p : Process) (lives : w.process pid ≡ Some p) (r : Request) (text : List ℕ) (is_text : text_by p.owed r ≡ Some text)
    (idle : p.writes ≡ None) (fits : FitsRequest p.owed r) where
  stand : Stand w v pid p
  stand = goes.stand pid p lives

  -- If the entry of a `Put` is true in the site, all entries of the written text are true.
  put_tells : (v' : Site) → Turns v v' p.worker → (entry : Entry) → r ≡ Put entry → IsSo v' p.worker entry → Tells v' p.worker text
  put_tells v' turned entry is so = subst (Tells v' p.worker) (some_text (sym (sym is_text ∙ ap (text_by p.owed) is)))
      (append_says v' p.worker p.owed entry (owes_more v v' p.worker p.owed turned.opened turned.settled stand.owes) so (subst (FitsRequest p.owed) is fits))

  pay_tells : r ≡ Pay → Tells v p.worker text
  pay_tells is = by p.owed stand.owes (subst (FitsRequest p.owed) is fits) (sym is_text ∙ ap (text_by p.owed) is)
    where
      by : (o : Option Entry) → Owes v p.worker o → FitsOwed o → Some text ≡ owed_text o → Tells v p.worker text
      by None owes fits e = absurd (cc e)
      by (Some entry) owes fits e = subst (Tells v p.worker) (some_text (sym e)) (append_says v p.worker None entry tt (owes.1, owes.2) fits)

  none_is_written : text_by p.owed r ≡ None → Reaches v (written w pid (Some p) r)
  none_is_written none = absurd (not_both (sym none ∙ is_text))
    where
      not_both : {t : List ℕ} → None ≡ Some t → ⊥
      not_both e = cc

  plain_writes_none : IsPlainRequest r → Reaches v (written w pid (Some p) r)
  plain_writes_none is = none_is_written (plain_text r is p.owed)

  -- A request that appends nothing writes no text, even if it isn't plain.
  other_writes_none : (other : Request) → r ≡ other → text_by p.owed other ≡ None → Reaches v (written w pid (Some p) r)
  other_writes_none other is none = none_is_written (ap (text_by p.owed) is ∙ none)

  quiet_writes : (ph : Phase) → p.phase ≡ ph → Quiet w v pid p → Tells v p.worker text
      → (Quiet (written w pid (Some p) r) v pid (record p { writes = Some r }) → At (written w pid (Some p) r) v pid (record p { writes = Some r }) ph)
      → Reaches v (written w pid (Some p) r)
  quiet_writes ph is quiet says here = still_quiet w v goes pid p lives r text is_text idle fits quiet says
      (subst (At (written w pid (Some p) r) v pid (record p { writes = Some r })) (sym is) (here (quiet_after w v goes pid p lives r text is_text idle fits quiet)))

  starts_writes : (k : ℕ) (start : Start) → MayStart k start r → Reaches v (written w pid (Some p) r)
  starts_writes k Unborn al = other_writes_none _ al refl
  starts_writes k Guards al = other_writes_none _ al refl
  starts_writes k Checked al = other_writes_none _ al refl
  starts_writes k (KnowsRound last) al = other_writes_none _ al refl
  starts_writes k (HasRecovered last texts) al = other_writes_none _ al refl
  starts_writes k (HasSettled last texts) al = other_writes_none _ al refl

  asks_writes : (me : Identity) (st : Stage) → p.phase ≡ Asks me st → At w v pid p (Asks me st) → (t : Try) → due st ≡ Some t → CarriesOutBefore me t r → Reaches v (written w pid (Some p) r)
  asks_writes me (Asking []) is here t e out = absurd (cc e)
  asks_writes me (Asking (i ∷ rest)) is here t e out =
      let saying = subst (λ y. CarriesOutBefore me y r) (tried_is e) out in other_writes_none _ saying.2 refl
  asks_writes me (Settling n c way rest) is here t e out =
      let putting = subst (λ y. CarriesOutBefore me y r) (tried_is e) out in
      quiet_writes (Asks me (Settling n c way rest)) is here.2.0
      (put_tells v (turns_none v p.worker) (outcome_entry n putting.0 c) putting.1 (outcome_is v p.worker n putting.0 c here.2.1 (settled_quiet w v pid p n here.2.0 here.2.3)))
      (λ quiet. (here.0, here.1, (quiet, here.2.1, here.2.2, here.2.3)))
  asks_writes me (Dismissed rest) is here t e out = absurd (cc e)
  asks_writes me (Unanswered n reply) is here t e out = absurd (cc e)
  asks_writes me Broken is here t e out = absurd (cc e)
  asks_writes me st is here t e out = absurd here.2

  works_writes : (me : Identity) (jobs : List ℕ) (st : Stage) (owes : Bool) (logs : Logs) → p.phase ≡ Works me jobs st owes logs → At w v pid p (Works me jobs st owes logs)
      → (t : Try) → due st ≡ Some t → CarriesOut me jobs t r → Reaches v (written w pid (Some p) r)
  works_writes me jobs (Going s a way) owes logs is here t e out = plain_writes_none (out_of_access me jobs _ t r e out)
  works_writes me jobs (Finding s a j) owes logs is here t e out = plain_writes_none (out_of_find me jobs j t r e out)
  works_writes me jobs (Intending s a j) owes logs is here t e out =
      let putting = subst (λ y. CarriesOut me jobs y r) (tried_is e) out in
      quiet_writes (Works me jobs (Intending s a j) owes logs) is here.2.0
      (put_tells v (turns_none v p.worker) (Intent s putting.0 putting.1) putting.3 (intent_is v p.worker s putting.0 putting.1))
      (λ quiet. (here.0, here.1, (quiet, here.2.1)))
  works_writes me jobs (Clearing s a j) owes logs is here t e out = other_writes_none _ (subst (λ y. CarriesOut me jobs y r) (tried_is e) out) refl
  works_writes me jobs (Performing s a j) owes logs is here t e out =
      let saying = subst (λ y. CarriesOut me jobs y r) (tried_is e) out in other_writes_none _ saying.4 refl
  works_writes me jobs (Noting s a c way) owes logs is here t e out =
      let owing = subst (λ y. CarriesOut me jobs y r) (tried_is e) out in other_writes_none _ owing.1 refl
  works_writes me jobs (Leaving a) owes logs is here t e out = plain_writes_none (out_of_store me jobs _ _ t r e out)
  works_writes me jobs Gone owes logs is here t e out = absurd (cc e)
  works_writes me jobs (Unanswered s reply) owes logs is here t e out = absurd (cc e)
  works_writes me jobs (Refused word value) owes logs is here t e out = absurd (cc e)
  works_writes me jobs Broken owes logs is here t e out = absurd (cc e)
  works_writes me jobs st owes logs is here t e out = absurd here.2

  pays_writes : (me : Identity) (jobs : List ℕ) (st : Stage) (owes : Bool) (logs : Logs) → p.phase ≡ Works me jobs st owes logs → At w v pid p (Works me jobs st owes logs)
      → due st ≡ None → r ≡ Pay → Reaches v (written w pid (Some p) r)
  pays_writes me jobs st owes logs is here none pay =
      let free = none_due w v pid p jobs st none here.2 in
      quiet_writes (Works me jobs st owes logs) is free.0 (pay_tells pay) (λ quiet. (here.0, here.1, free.1 (written w pid (Some p) r) (record p { writes = Some r }) refl quiet))

  -- The process gives its attempt up, and the attempt is opened from now on.
  drops : (me : Identity) (jobs : List ℕ) (s : ℕ) (a : ProcessView) (j : ℕ) (logs : Logs) (left : List LogFile) → p.phase ≡ Clears me jobs s a j logs left
      → me.worker ≡ p.worker → Knows v p.read logs → (line : ℕ) (seen : List ℕ) → Holds w v pid p jobs s j line seen → r ≡ Put (outcome_entry s 0 Unbegun) → Reaches v (written w pid (Some p) r)
  drops me jobs s a j logs left is same knows line seen holds put =
      let q = p.worker in
      let dead = site_after v (Dies q) in
      let name : Name = record { worker = q; serial = s } in
      let v' = site_after dead (Opens name) in
      let untouched = held_untouched w v pid p jobs s j line seen goes holds in
      let away = at_it v.stage q Away in
      let turned = turns_then v dead v' q (turns_dies v q) (turns_opens dead q name) in
      record {
        events = Dies q ∷ Opens name ∷ [];
        run = (
          tt,
          (
            record {
              kept = (line, holds.kept);
              not_held = λ l marks held. absurd (away_holds (sym away ∙ held));
              not_alive = λ h one named. untouched.not_alive h (subst (λ (hs : List Handing). IsOneOf hs h) goes.alive one) named;
              not_performed = λ h one named. untouched.not_performed h (subst (λ (hs : List Handing). IsOneOf hs h) goes.performed one) named;
            },
            tt,
          ),
        );
        goes = wrote w v goes pid p lives r text is_text idle fits v' holds.owns.guard
            turned refl
            (put_tells v' turned (outcome_entry s 0 Unbegun) put (outcome_is v' q s 0 Unbegun (λ is. inl refl)
            ((line, holds.kept), λ l marks held. absurd (away_holds (sym away ∙ held)))))
            (subst (At (written w pid (Some p) r) v' pid (record p { writes = Some r })) (sym is) (
              same,
              knows_more v v' p.read logs (λ n m o. inr o) knows,
              inr (record {
                owns = owns_after w v goes pid p lives r text is_text idle fits holds.owns;
                away = away;
                writes = ap Some put;
              }),
            ));
      }
    where
      away_holds : {n l : ℕ} {marks : List ℕ} → Away ≡ ModelClearing n l marks → ⊥
      away_holds e = cc

  writes_at : (ph : Phase) → p.phase ≡ ph → Allows ph r → At w v pid p ph → Reaches v (written w pid (Some p) r)
  writes_at (Starts k start) is al here = starts_writes k start al
  writes_at (Asks me st) is (inl (t, e, out)) here = asks_writes me st is here t e out
  writes_at (Asks me st) is (inr (e, (hold, try))) here = other_writes_none _ try refl
  writes_at (Idle me logs) is (hold, try) here = other_writes_none _ try refl
  writes_at (Begins me begin) is al here = plain_writes_none (plain_beginning me begin r al)
  writes_at (Joins me join) is al here = plain_writes_none (plain_joining join r al)
  writes_at (Reads me purpose logs counts []) is al here = absurd al
  writes_at (Reads me purpose logs counts (f ∷ left)) is al here = other_writes_none _ al.1 refl
  writes_at (Works me jobs st owes logs) is (inl (t, e, out)) here = works_writes me jobs st owes logs is here t e out
  writes_at (Works me jobs st owes logs) is (inr (none, inl pay)) here = pays_writes me jobs st owes logs is here none pay
  writes_at (Works me jobs st owes logs) is (inr (none, inr unlock)) here = other_writes_none _ unlock.1 refl
  writes_at (Clears me jobs s a j logs []) is al here = absurd al
  writes_at (Clears me jobs s a j logs (f ∷ left)) is (inl on) here = other_writes_none _ on refl
  writes_at (Clears me jobs s a j logs (f ∷ left)) is (inr put) here = ⊎_elim
      (λ clears. drops me jobs s a j logs (f ∷ left) is here.0 here.1 clears.0 clears.1 clears.2 put)
      (λ dropped. absurd (not_idle (sym idle ∙ dropped.writes)))
      here.2
    where
      not_idle : {x : Request} → None ≡ Some x → ⊥
      not_idle e = cc
  writes_at (Unclear s) is put here = quiet_writes (Unclear s) is here.0
      (put_tells v (turns_none v p.worker) (outcome_entry s 0 Unbegun) put (outcome_is v p.worker s 0 Unbegun (λ e. here.1) (settled_quiet w v pid p s here.0 here.2)))
      (λ quiet. (quiet, here.1, here.2))
  writes_at (Over me logs) is al here = other_writes_none _ al refl
  writes_at (Stays me logs) is al here = other_writes_none _ al refl
  writes_at Ended is al here = absurd al

-- The model follows the event by which a process writes its append.
pub writes_step : (w : World) (v : Site) → Goes w v → (pid : ℕ) (r : Request) → MayFollow w (Writes pid r) → Reaches v (world_after w (Writes pid r))
writes_step w v goes pid r (p, (lives, al), idle, fits, text, is_text) = subst (λ o. Reaches v (written w pid o r)) (sym lives)
    (writes_at w v goes pid p lives r text is_text idle fits p.phase refl al (goes.stand pid p lives).here)
