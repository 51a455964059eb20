-- The lines that were handed over, and the later events that may be of such a line.
use Rattle.std.proofs.Common.{◌≡◌, ◌⊎◌, inl, inr, ⊎_elim, ℕ, ◌+◌, ◌≤◌, true, false, List, [], ◌∷◌, ◌++◌, Option, Some, None, take, refl, sym, ap, ◌∙◌, subst, append-nil, append_assoc}
use Rattle.std.specs.Prelude.{⊤, ◌==◌}
use Rattle.std.proofs.lemmas.Bool.{true≢false, cases_Bool, eq-eqb, or_left, or_right}
use Rattle.std.proofs.lemmas.Option.{none-some, same_Some}
use Rattle.amo_sets.specs.Lists.{numbered, table}
use Rattle.amo_sets.specs.Sets.{has}
use Rattle.amo_sets.proofs.Numbers.{has-append}
use Rattle.amo_params.specs.declared.limits.TheConstants.{MAX_WORKERS}
use Rattle.amo_params.specs.Givens.{IsJob, IsWorker}
use Rattle.amo_params.specs.declared.givens.Givens.{Givens}
use Rattle.amo_process.specs.Stepped.{ProcessView}
use Rattle.amo_driver.specs.declared.model.Deed.{Deed}
use Rattle.amo_driver.specs.declared.model.Try.{Try}
use Rattle.amo_driver.specs.declared.model.Try.TheVariants.{Perform}
use Rattle.amo_driver.specs.Stage.{Stage, Performing}
use Rattle.amo_driver.specs.Course.{try_of, due}
use Rattle.amo_driver_safety.specs.Scene.{stage_at, scene_of, MayBe, handed_by, handed_by_try, handed_jobs}
use Rattle.amo_driver_safety.specs.Tries.{worker_of, tried_in}
use Rattle.amo_driver_safety.specs.declared.model.Moment.{Moment}
use Rattle.amo_driver_safety.specs.declared.model.Moment.TheVariants.{Does, Loses, Begins}
use Rattle.amo_driver_safety.proofs.Stages.{performing_at}
use Rattle.amo_driver_safety.proofs.Intents.{tried_due}
use Rattle.amo_run_log.specs.declared.entry.Entry.{Entry}
use Rattle.amo_run_log.specs.Findings.{is_undone}
use Rattle.amo_run_log.specs.Grammar.{intents}
use Rattle.amo_run_log.specs.Open.{OpensNot, NoneOpens, is_open}
use Rattle.amo_run_files.specs.Records.{RecordView}
use Rattle.amo_run_safety.specs.File.{File, read_of, settled, with_put, with_unheard, with_unread, after_put}
use Rattle.amo_run_safety.specs.Site.{Whereabouts, Away, Before, Inside, Round, Site, Event, Dies, Starts, RoundBegins, Joins, Acts, Misses, Pays, PaysUnheard, PaysUnread, Says, SaysUnheard, SaysUnread, Stops, IsNumber, with_at, lines_of, lines_at}
use Rattle.amo_run_safety.specs.Run.{appended, has_fallen, with_moment, with_moment_at, site_after, MayBegin, MayBeIn, MayAct, MayMiss, MayHappen, IsRunFrom, site_after_all, Handing, handings_of_try, handings_by, openings_by, openings_from, is_among, IsOneOf}
use Rattle.amo_run_safety.proofs.Files.{Grows, grows_none, after_grows}
use Rattle.amo_run_safety.proofs.Openings.{among_more, all_left, undone_left}
use Rattle.amo_run_safety.proofs.Entries.{HasEntry, entry_stays, entry_before, stays_closed, among_table, open_there}
use Rattle.amo_run_safety.proofs.Moments.{handed_job, handed_first, handed_then}
use Rattle.amo_run_safety.proofs.Records.{one_job, line_there}
use Rattle.amo_run_safety.proofs.Stages.{IsPut, asks_only}
use Rattle.amo_run_safety.proofs.Counted.{IsCounted}
use Rattle.amo_run_safety.proofs.Sane.{at_number, IsGood, IsGoodIf, Fits, FitsIn, IsSane}
use Rattle.amo_run_safety.proofs.Events.{sane_after}

-- In the round that stands, each job of its line was handed over already, unless it was said that
-- the intent wasn't begun or done.
abbrev pub IsPast : Option Round → List (ℕ × ℕ) → Handing → Type 0
IsPast None said h = ⊤
IsPast (Some r) said h = (j : ℕ) → IsJob r.givens j → numbered 0 r.written.lines j ≡ h.line → (is_among said h.worker h.serial ≡ true) ⊎ (has (handed_jobs r.moments) j ≡ true)

-- It was handed over: its intent is kept.
pub record WasHanded (w : Site) (said : List (ℕ × ℕ)) (h : Handing) : Type 0 where
  pub number : IsNumber h.worker
  pub entry : HasEntry h.serial h.line (w.journals h.worker).kept
  pub past : IsPast (w.rounds w.last) said h

-- what is kept stays

unheard_grows : (w : Site) (o p : ℕ) (es : List Entry) → Grows (w.journals p).kept (with_at w.journals o (with_unheard (w.journals o) es) p).kept
unheard_grows w o p es =
    let f = with_unheard (w.journals o) es in
    at_number (λ (f : File Entry). Grows (w.journals p).kept f.kept) w.journals o f p
    (λ e. subst (λ x. Grows (w.journals x).kept f.kept) (sym e) (grows_none (w.journals o).kept))
    (λ n. grows_none (w.journals p).kept)

pub kept_grows : (w : Site) (e : Event) (p : ℕ) → Grows (w.journals p).kept ((site_after w e).journals p).kept
kept_grows w (Dies o) p = grows_none (w.journals p).kept
kept_grows w (Starts o es) p = at_number (λ (f : File Entry). Grows (w.journals p).kept f.kept) w.journals o (settled (w.journals o)) p
    (λ e. subst (λ x. Grows (w.journals x).kept (settled (w.journals o)).kept) (sym e) ((w.journals o).loose, refl))
    (λ n. grows_none (w.journals p).kept)
kept_grows w (RoundBegins g r lines) p = grows_none (w.journals p).kept
kept_grows w (Joins o q n) p = grows_none (w.journals p).kept
kept_grows w (Acts o time d) p =
    let es = appended (w.whereabouts o) (w.owed o) (lines_at w.rounds (w.whereabouts o)) time (try_of d) in
    let f = after_put (has_fallen d) (w.journals o) es in
    at_number (λ (f : File Entry). Grows (w.journals p).kept f.kept) w.journals o f p
    (λ e. subst (λ x. Grows (w.journals x).kept f.kept) (sym e) (after_grows (has_fallen d) (w.journals o) es))
    (λ n. grows_none (w.journals p).kept)
kept_grows w (Misses o time t) p = unheard_grows w o p (appended (w.whereabouts o) (w.owed o) (lines_at w.rounds (w.whereabouts o)) time t)
kept_grows w (Pays o) p =
    let f = with_put (w.journals o) (w.owed o) in
    at_number (λ (f : File Entry). Grows (w.journals p).kept f.kept) w.journals o f p
    (λ e. subst (λ x. Grows (w.journals x).kept f.kept) (sym e) (after_grows false (w.journals o) (w.owed o)))
    (λ n. grows_none (w.journals p).kept)
kept_grows w (PaysUnheard o) p = unheard_grows w o p (w.owed o)
kept_grows w (PaysUnread o) p =
    let f = with_unread (w.journals o) (w.owed o) in
    at_number (λ (f : File Entry). Grows (w.journals p).kept f.kept) w.journals o f p
    (λ e. subst (λ x. Grows (w.journals x).kept f.kept) (sym e) (grows_none (w.journals o).kept))
    (λ n. grows_none (w.journals p).kept)
kept_grows w (Says f) p = grows_none (w.journals p).kept
kept_grows w (SaysUnheard f) p = grows_none (w.journals p).kept
kept_grows w (SaysUnread f) p = grows_none (w.journals p).kept
kept_grows w (Stops left n) p = (take (left p) ((w.journals p).loose ++ (w.journals p).hidden), refl)

-- what is past stays past

past_more : (o : Option Round) (said more : List (ℕ × ℕ)) (h : Handing) → IsPast o said h → IsPast o (said ++ more) h
past_more None said more h past = tt
past_more (Some r) said more h past = λ j is line. ⊎_elim
    (λ (a : is_among said h.worker h.serial ≡ true). inl (among_more said more h.worker h.serial a))
    (λ (b : has (handed_jobs r.moments) j ≡ true). inr b)
    (past j is line)

past_moment : (o : Option Round) (m : Moment) (said : List (ℕ × ℕ)) (h : Handing) → IsPast o said h → IsPast (with_moment m o) said h
past_moment None m said h past = tt
past_moment (Some r) m said h past = λ j is line. ⊎_elim
    (λ (a : is_among said h.worker h.serial ≡ true). inl a)
    (λ (b : has (handed_jobs r.moments) j ≡ true). inr (ap (λ l. has l j) (handed_then r.moments m) ∙ has-append (handed_jobs r.moments) (handed_by m) j ∙ or_left _ _ b))
    (past j is line)

past_in : (rounds : ℕ → Option Round) (k : ℕ) (m : Moment) (last : ℕ) (said : List (ℕ × ℕ)) (h : Handing) → IsPast (rounds last) said h → IsPast (with_at rounds k (with_moment m (rounds k)) last) said h
past_in rounds k m last said h past = at_number (λ o. IsPast o said h) rounds k (with_moment m (rounds k)) last
    (λ e. past_moment (rounds k) m said h (subst (λ x. IsPast (rounds x) said h) e past))
    (λ n. past)

past_at : (whereabouts : Whereabouts) (moment : ℕ → Moment) (rounds : ℕ → Option Round) (last : ℕ) (said : List (ℕ × ℕ)) (h : Handing) → IsPast (rounds last) said h → IsPast (with_moment_at whereabouts moment rounds last) said h
past_at Away moment rounds last said h past = past
past_at (Before s) moment rounds last said h past = past
past_at (Inside k q) moment rounds last said h past = past_in rounds k (moment q) last said h past

-- a line that is in a new round was opened, by each intent of it that can be read
pub opened_then : (w : Site) (said : List (ℕ × ℕ)) (p n line : ℕ) (g : Givens) (r : RecordView) (lines : ℕ) → IsSane w said → IsNumber p → HasEntry n line (read_of (w.journals p))
    → MayBegin w g r lines → (j : ℕ) → IsJob g j → numbered 0 r.lines j ≡ line → is_among said p n ≡ true
opened_then w said p n line g r lines sane number has_entry may j is same = ⊎_elim
    (λ (yes : is_among said p n ≡ true). yes)
    (λ (no : is_among said p n ≡ false). absurd (
    let at = among_table may.attempts MAX_WORKERS p number.low number.high in
    let (missed, split, answers) = may.entries_seen p number in
    let (more, findings_split) = may.findings_seen in
    let (front, time, back, stands) = has_entry in
    let entry = entry_before n line (may.entries p) missed answers front time back (sym split ∙ stands) in
    let read = all_left (OpensNot n) (read_of (w.journals p)) (w.journals p).hidden (sane.answers p n no) in
    let none = all_left (OpensNot n) (may.entries p) missed (subst (λ l. NoneOpens n l) split read) in
    let found = undone_left p n (read_of w.findings) w.findings.hidden (sane.findings p n no) in
    let fewer = undone_left p n may.findings more (subst (λ l. is_undone l p n ≡ false) findings_split found) in
    let undone = subst (λ k. is_undone may.findings k n ≡ false) (sym at.place) fewer in
    let closed = stays_closed lines may.findings at.before at.after (may.attempts p) (may.entries p) n line entry none undone (may.journals p number) in
    let there = subst (λ l. has r.lines l ≡ true) same (line_there r may.sound j is.low (subst (λ k. j ≤ k) may.jobs is.high)) in
    let opened = open_there may.findings (table MAX_WORKERS may.attempts) lines line (may.are_open line there) in
    true≢false (sym opened ∙ ap (λ l. is_open may.findings l line) at.is ∙ closed)))
    (cases_Bool (is_among said p n))

module _ (w : Site) (said : List (ℕ × ℕ)) (sane : IsSane w said) (h : Handing) (was : WasHanded w said h) where
  still : (more : List (ℕ × ℕ)) → IsPast (w.rounds w.last) (said ++ more) h
  still more = past_more (w.rounds w.last) said more h was.past

  past_after : (e : Event) → MayHappen w e → IsPast ((site_after w e).rounds (site_after w e).last) (said ++ openings_by w e) h
  past_after (Dies p) may = still []
  past_after (Starts p es) may = still []
  past_after (RoundBegins g r lines) may = at_number (λ o. IsPast o (said ++ []) h) w.rounds (w.last + 1) (Some (record { givens = g; written = r; moments = [] })) (w.last + 1)
      (λ e j is line. inl (among_more said [] h.worker h.serial (opened_then w said h.worker h.serial h.line g r lines sane was.number
      (entry_stays h.serial h.line (w.journals h.worker).kept (read_of (w.journals h.worker)) ((w.journals h.worker).loose, refl) was.entry) may j is line)))
      (λ n. absurd (n refl))
  past_after (Joins p q n) may = past_in w.rounds w.last (Begins q n) w.last (said ++ []) h (still [])
  past_after (Acts p time d) may = past_at (w.whereabouts p) (λ q. Does q d) w.rounds w.last (said ++ openings_by w (Acts p time d)) h (still (openings_by w (Acts p time d)))
  past_after (Misses p time t) may = past_at (w.whereabouts p) (λ q. Loses q t) w.rounds w.last (said ++ openings_by w (Misses p time t)) h (still (openings_by w (Misses p time t)))
  past_after (Pays p) may = still []
  past_after (PaysUnheard p) may = still []
  past_after (PaysUnread p) may = still []
  past_after (Says f) may = still (openings_by w (Says f))
  past_after (SaysUnheard f) may = still (openings_by w (SaysUnheard f))
  past_after (SaysUnread f) may = still (openings_by w (SaysUnread f))
  past_after (Stops left n) may = still []

  pub handed_after : (e : Event) → MayHappen w e → WasHanded (site_after w e) (said ++ openings_by w e) h
  handed_after e may = record {
    number = was.number;
    entry = entry_stays h.serial h.line (w.journals h.worker).kept ((site_after w e).journals h.worker).kept (kept_grows w e h.worker) was.entry;
    past = past_after e may;
  }

-- Here worker p hands job j of the last round over, by intent n, in this moment.
pub record IsHere (w : Site) (p n j : ℕ) (m : Moment) : Type 0 where
  pub round : Round
  pub stands : w.rounds w.last ≡ Some round
  pub good : IsGood round
  pub entry : HasEntry n (numbered 0 round.written.lines j) (w.journals p).kept
  pub job : IsJob round.givens j
  pub fresh : has (handed_jobs round.moments) j ≡ false
  pub may : MayBe round.givens (scene_of round.givens round.moments) m
  pub tries : tried_in m ≡ Some (Perform n j)
  -- where its process stands, and the number of its journal's intents
  pub seat : ℕ
  pub of : worker_of m ≡ seat
  pub inside : w.whereabouts p ≡ Inside w.last seat
  pub process : ProcessView
  pub stage : stage_at (scene_of round.givens round.moments) seat ≡ Performing n process j
  pub counted : n ≡ intents (w.journals p).kept

-- what a moment hands over that tries so
hands_it : (m : Moment) (n j : ℕ) → tried_in m ≡ Some (Perform n j) → handed_by m ≡ j ∷ []
hands_it (Does q d) n j is = ap handed_by_try (same_Some (try_of d) (Perform n j) is)
hands_it (Loses q t) n j is = ap handed_by_try (same_Some t (Perform n j) is)
hands_it (Begins q k) n j is = absurd (none-some (Perform n j) is)

here_at : (o : Option Round) (w : Site) (p q n j : ℕ) (m : Moment) → w.rounds w.last ≡ o → w.whereabouts p ≡ Inside w.last q → IsGoodIf o → FitsIn o (w.journals p) p q → MayBeIn o m
    → worker_of m ≡ q → tried_in m ≡ Some (Perform n j) → IsHere w p n j m
here_at None w p q n j m is inside good fits may of tries = absurd may
here_at (Some r) w p q n j m is inside good fits may of tries =
    let due_there = tried_due r.givens (scene_of r.givens r.moments) m (Perform n j) may tries in
    let worker = subst (IsWorker r.givens) of due_there.0 in
    let its_due = subst (λ k. due (stage_at (scene_of r.givens r.moments) k) ≡ Some (Perform n j)) of due_there.1 in
    let at = performing_at (stage_at (scene_of r.givens r.moments) q) n j its_due in
    record {
      round = r;
      stands = is;
      good = good;
      entry = subst (λ s. IsPut r.written.lines (w.journals p).kept s) at.1 fits.1.1;
      job = handed_job r.givens r.moments good.history q n j worker its_due;
      fresh = handed_first r.givens r.moments good.history m j may (hands_it m n j tries);
      may = may;
      tries = tries;
      seat = q;
      of = of;
      inside = inside;
      process = at.0;
      stage = at.1;
      counted = subst (IsCounted (intents (w.journals p).kept)) at.1 fits.1.2;
    }

-- what a try hands over
abbrev pub handing : (p : ℕ) → List ℕ → (n j : ℕ) → Handing
handing p lines n j = record { worker = p; serial = n; line = numbered 0 lines j }

pub record IsOfTry (p : ℕ) (lines : List ℕ) (t : Try) (h : Handing) : Type 0 where
  pub serial : ℕ
  pub job : ℕ
  pub try_is : t ≡ Perform serial job
  pub is : handing p lines serial job ≡ h

pub of_try : (p : ℕ) (lines : List ℕ) (t : Try) (h : Handing) → IsOneOf (handings_of_try p lines t) h → IsOfTry p lines t h
of_try p lines (Perform n j) h one = record { serial = n; job = j; try_is = refl; is = ⊎_elim (λ (e : handing p lines n j ≡ h). e) (λ none. absurd none) one }
of_try p lines t h one = absurd one

-- an event hands over one at most

one_by_try : (p : ℕ) (lines : List ℕ) (t : Try) → (handings_of_try p lines t ≡ []) ⊎ ((h : Handing) × (handings_of_try p lines t ≡ h ∷ []))
one_by_try p lines (Perform n j) = inr (_, refl)
one_by_try p lines t = inl refl

pub one_at_most : (w : Site) (e : Event) → (handings_by w e ≡ []) ⊎ ((h : Handing) × (handings_by w e ≡ h ∷ []))
one_at_most w (Acts p time d) = one_by_try p (lines_at w.rounds (w.whereabouts p)) (try_of d)
one_at_most w (Misses p time t) = one_by_try p (lines_at w.rounds (w.whereabouts p)) t
one_at_most w e = inl refl

-- what is among two lists is in one of them
pub split_one : (xs ys : List Handing) (h : Handing) → IsOneOf (xs ++ ys) h → IsOneOf xs h ⊎ IsOneOf ys h
split_one [] ys h one = inr one
split_one (x ∷ xs) ys h one = ⊎_elim
    (λ (e : x ≡ h). inl (inl e))
    (λ (o : IsOneOf (xs ++ ys) h). ⊎_elim (λ (a : IsOneOf xs h). inl (inr a)) (λ (b : IsOneOf ys h). inr b) (split_one xs ys h o))
    one

-- An event hands a line over: in the last round.
pub record IsNow (w : Site) (e : Event) (h : Handing) : Type 0 where
  pub number : IsNumber h.worker
  pub job : ℕ
  pub moment : Moment
  pub here : IsHere w h.worker h.serial job moment
  pub line : numbered 0 here.round.written.lines job ≡ h.line
  pub afterwards : (site_after w e).rounds (site_after w e).last ≡ with_moment moment (w.rounds w.last)

-- the round of this number after this moment
pub moment_there : (rounds : ℕ → Option Round) (k last : ℕ) → k ≡ last → (m : Moment) → with_at rounds k (with_moment m (rounds k)) last ≡ with_moment m (rounds last)
moment_there rounds k last e m = at_number (λ o. o ≡ with_moment m (rounds last)) rounds k (with_moment m (rounds k)) last
    (λ same. ap (λ x. with_moment m (rounds x)) e)
    (λ n. absurd (n (sym e)))

module _ (w : Site) (said : List (ℕ × ℕ)) (sane : IsSane w said) (p : ℕ) where
  record Found (whereabouts : Whereabouts) (moment : ℕ → Moment) (n j : ℕ) : Type 0 where
    pub seat : ℕ
    pub here : IsHere w p n j (moment seat)
    pub lines : lines_at w.rounds whereabouts ≡ here.round.written.lines
    pub afterwards : with_moment_at whereabouts moment w.rounds w.last ≡ with_moment (moment seat) (w.rounds w.last)

  found : (k q : ℕ) → w.whereabouts p ≡ Inside k q → (moment : ℕ → Moment) (n j : ℕ) → MayBeIn (w.rounds k) (moment q) → worker_of (moment q) ≡ q → tried_in (moment q) ≡ Some (Perform n j)
      → Found (Inside k q) moment n j
  found k q at moment n j may of tries =
      let fits : Fits w.rounds w.last (w.journals p) p (Inside k q) = subst (λ whereabouts. Fits w.rounds w.last (w.journals p) p whereabouts) at (sane.whereabouts p) in
      let here = here_at (w.rounds w.last) w p q n j (moment q) refl (at ∙ ap (λ x. Inside x q) fits.0) (sane.rounds w.last)
      (subst (λ x. FitsIn (w.rounds x) (w.journals p) p q) fits.0 fits.1) (subst (λ x. MayBeIn (w.rounds x) (moment q)) fits.0 may) of tries in
      record {
        seat = q;
        here = here;
        lines = ap (λ x. lines_of (w.rounds x)) fits.0 ∙ ap lines_of here.stands;
        afterwards = moment_there w.rounds k w.last fits.0 (moment q);
      }

  asks_nothing : (s : Stage) → w.whereabouts p ≡ Before s → (n j : ℕ) → due s ≡ Some (Perform n j) → ⊥
  asks_nothing s at n j e =
      let fits : Fits w.rounds w.last (w.journals p) p (Before s) = subst (λ whereabouts. Fits w.rounds w.last (w.journals p) p whereabouts) at (sane.whereabouts p) in
      asks_only s n j fits.0 e

  acts_here : (whereabouts : Whereabouts) → w.whereabouts p ≡ whereabouts → (d : Deed) (n j : ℕ) → try_of d ≡ Perform n j → MayAct w.rounds whereabouts d → Found whereabouts (λ q. Does q d) n j
  acts_here Away at d n j is may = absurd may
  acts_here (Before s) at d n j is may = absurd (asks_nothing s at n j (may ∙ ap (λ t. Some t) is))
  acts_here (Inside k q) at d n j is may = found k q at (λ q. Does q d) n j may refl (ap (λ t. Some t) is)

  misses_here : (whereabouts : Whereabouts) → w.whereabouts p ≡ whereabouts → (t : Try) (n j : ℕ) → t ≡ Perform n j → MayMiss w.rounds whereabouts t → Found whereabouts (λ q. Loses q t) n j
  misses_here Away at t n j is may = absurd may
  misses_here (Before s) at t n j is may = absurd (asks_nothing s at n j (may ∙ ap (λ t. Some t) is))
  misses_here (Inside k q) at t n j is may = found k q at (λ q. Loses q t) n j may refl (ap (λ t. Some t) is)

  -- in an event that is this moment of its round
  now_by : (e : Event) (t : Try) (moment : ℕ → Moment) (h : Handing) → IsNumber p → (of : IsOfTry p (lines_at w.rounds (w.whereabouts p)) t h)
      → Found (w.whereabouts p) moment of.serial of.job → (site_after w e).rounds (site_after w e).last ≡ with_moment_at (w.whereabouts p) moment w.rounds w.last → IsNow w e h
  now_by e t moment h number of it after = subst (λ x. IsNow w e x) of.is (record {
    number = number;
    job = of.job;
    moment = moment it.seat;
    here = it.here;
    line = ap (λ l. numbered 0 l of.job) (sym it.lines);
    afterwards = after ∙ it.afterwards;
  })

pub handed_now : (w : Site) (said : List (ℕ × ℕ)) → IsSane w said → (e : Event) → MayHappen w e → (h : Handing) → IsOneOf (handings_by w e) h → IsNow w e h
handed_now w said sane (Acts p time d) may h one =
    let of = of_try p (lines_at w.rounds (w.whereabouts p)) (try_of d) h one in
    now_by w said sane p (Acts p time d) (try_of d) (λ q. Does q d) h may.0 of (acts_here w said sane p (w.whereabouts p) refl d of.serial of.job of.try_is may.1) refl
handed_now w said sane (Misses p time t) may h one =
    let of = of_try p (lines_at w.rounds (w.whereabouts p)) t h one in
    now_by w said sane p (Misses p time t) t (λ q. Loses q t) h may.0 of (misses_here w said sane p (w.whereabouts p) refl t of.serial of.job of.try_is may.1) refl
handed_now w said sane e may h one = absurd one

-- what is handed over now was handed over afterwards
pub now_handed : (w : Site) (said : List (ℕ × ℕ)) (e : Event) (h : Handing) → IsNow w e h → WasHanded (site_after w e) (said ++ openings_by w e) h
now_handed w said e h now =
    let here = now.here in
    record {
      number = now.number;
      entry = entry_stays h.serial h.line (w.journals h.worker).kept ((site_after w e).journals h.worker).kept (kept_grows w e h.worker)
          (subst (λ l. HasEntry h.serial l (w.journals h.worker).kept) now.line here.entry);
      past = subst (λ o. IsPast o (said ++ openings_by w e) h) (sym (now.afterwards ∙ ap (with_moment now.moment) here.stands)) (λ j is line. inr (
          let same = one_job here.round.written here.good.sound j now.job is.low (subst (λ k. j ≤ k) here.good.jobs is.high)
          here.job.low (subst (λ k. now.job ≤ k) here.good.jobs here.job.high) (line ∙ sym now.line) in
          ap (λ k. has (handed_jobs (here.round.moments ++ now.moment ∷ [])) k) same
          ∙ ap (λ l. has l now.job) (handed_then here.round.moments now.moment)
          ∙ has-append (handed_jobs here.round.moments) (handed_by now.moment) now.job
          ∙ or_right (has (handed_jobs here.round.moments) now.job) (has (handed_by now.moment) now.job)
          (ap (λ l. has l now.job) (hands_it now.moment h.serial now.job here.tries) ∙ or_left (now.job == now.job) false (eq-eqb now.job now.job refl))));
    }

-- a line that was handed over is handed over again only if it was opened
pub opened_before : (w : Site) (said : List (ℕ × ℕ)) (e : Event) (h k : Handing) → WasHanded w said h → IsNow w e k → h.line ≡ k.line → is_among said h.worker h.serial ≡ true
opened_before w said e h k was now same =
    let here = now.here in
    let past : IsPast (Some here.round) said h = subst (λ o. IsPast o said h) here.stands was.past in
    ⊎_elim
    (λ (yes : is_among said h.worker h.serial ≡ true). yes)
    (λ (b : has (handed_jobs here.round.moments) now.job ≡ true). absurd (true≢false (sym b ∙ here.fresh)))
    (past now.job here.job (now.line ∙ sym same))

pub handed_after_all : (w : Site) (said : List (ℕ × ℕ)) (es : List Event) (h : Handing) → IsSane w said → IsRunFrom w es → WasHanded w said h
    → WasHanded (site_after_all w es) (said ++ openings_from w es) h
handed_after_all w said [] h sane run was = subst (λ l. WasHanded w l h) (sym (append-nil said)) was
handed_after_all w said (e ∷ es) h sane run was =
    subst (λ l. WasHanded (site_after_all (site_after w e) es) l h) (append_assoc said (openings_by w e) (openings_from (site_after w e) es))
    (handed_after_all (site_after w e) (said ++ openings_by w e) es h (sane_after w said sane e run.0) run.1 (handed_after w said sane h was e run.0))
