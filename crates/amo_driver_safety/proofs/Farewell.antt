-- The deeds of a process after a reply that it is to leave, and after it finds its job taken.
use Rattle.std.proofs.Common.{◌≡◌, ℕ, ◌+◌, Bool, true, false, refl, sym, ap, ◌∙◌, subst, List, [], ◌∷◌, ◌++◌, length, Option, Some, None}
use Rattle.std.specs.Prelude.{if◌then◌else◌, ◌==◌}
use Rattle.std.proofs.lemmas.Bool.{true≢false}
use Rattle.std.proofs.lemmas.Option.{none-some, same_Some}
use Rattle.amo_sets.specs.Sets.{with_number}
use Rattle.amo_kk.specs.Machine.{LocalView}
use Rattle.amo_kk.specs.Record.{can_leave}
use Rattle.amo_kk.specs.Step.{want, want_in, record_after, record_after_phase}
use Rattle.amo_kk.specs.Words.{next_word, done_word}
use Rattle.amo_params.specs.declared.givens.Givens.{Givens}
use Rattle.amo_kk.specs.declared.model.Record.{Record}
use Rattle.amo_kk.specs.declared.phase.Phase.TheVariants.{Holding, Over}
use Rattle.amo_kk.proofs.Choice.{choice_cases}
use Rattle.amo_process.specs.Heard.{can_hear}
use Rattle.amo_process.specs.Stepped.{ProcessView, process_after, standing_after, access_for, access_of, may_leave, is_refused}
use Rattle.amo_process.specs.declared.access.Access.TheVariants.{Store as StoreAccess, Nothing}
use Rattle.amo_process.specs.declared.standing.Standing.{Standing}
use Rattle.amo_process.specs.declared.standing.Standing.TheVariants.{Going as GoingOn}
use Rattle.amo_driver.specs.declared.answer.JobResult.{JobResult}
use Rattle.amo_driver.specs.declared.answer.JobResult.TheVariants.{Unbegun}
use Rattle.amo_driver.specs.declared.answer.Reply.{Reply}
use Rattle.amo_driver.specs.declared.answer.Reply.TheVariants.{Answered, Running}
use Rattle.amo_driver.specs.declared.answer.Way.TheVariants.{Go, Leave}
use Rattle.amo_driver.specs.declared.model.Deed.{Deed}
use Rattle.amo_driver.specs.declared.model.Deed.TheVariants.{Stored, Cleared, Performed, Noted, Fell}
use Rattle.amo_driver.specs.declared.model.Try.{Try}
use Rattle.amo_driver.specs.declared.model.Try.TheVariants.{Store, Note}
use Rattle.amo_driver.specs.Stage.{Stage, Going, Noting, Leaving, Unanswered, Refused, Broken}
use Rattle.amo_driver.specs.Course.{try_of, access_tried, due, stage_heard, stage_told, stage_replied, stage_after, stage_after_all, AreDue, first_stage}
use Rattle.amo_driver_safety.specs.Course.{tells_to_leave, note_of, AreInTurn, TakesLeave, BeginInTurn, PassesOver}
use Rattle.amo_driver_safety.proofs.Stages.{performing_at, clearing_at, number_is, standing_is, access_is, Shown, all_shown}
use Rattle.amo_driver_safety.proofs.Claims.{told_holds}
use Rattle.amo_driver_safety.proofs.Courses.{due_among}

-- by what is due first

nothing_due : (s : Stage) (ts : List Try) (ds : List Deed) → due s ≡ None → AreDue s ds → AreInTurn ts ds
nothing_due s ts [] none h = tt
nothing_due s ts (d ∷ ds) none h = absurd (none-some (try_of d) (sym none ∙ h.0))

one_due : (s : Stage) (t : Try) (ts : List Try) (ds : List Deed) → due s ≡ Some t
    → ((d : Deed) (more : List Deed) → try_of d ≡ t → AreDue (stage_after s d) more → AreInTurn ts more) → AreDue s ds → AreInTurn (t ∷ ts) ds
one_due s t ts [] e goes_on h = tt
one_due s t ts (d ∷ ds) e goes_on h = let is = same_Some _ _ (sym h.0 ∙ e) in (is, goes_on d ds is h.1)

-- the last store
leaving : (p : ℕ) (a : ProcessView) (ds : List Deed) → a.number ≡ p → AreDue (Leaving a) ds → AreInTurn (Store (next_word p) 0 ∷ []) ds
leaving p a ds is h = one_due (Leaving a) (Store (next_word p) 0) [] ds (ap (λ n. Some (Store (next_word n) 0)) is) (λ d more e rest. nothing_due (stage_after (Leaving a) d) [] more (gone d e) rest) h
  where
    gone : (d : Deed) → try_of d ≡ Store (next_word p) 0 → due (stage_after (Leaving a) d) ≡ None
    gone (Stored w v) e = refl
    gone (Fell t) e = refl
    gone d e = cc

-- who has filed what was in its hand may leave, or wants nothing more
module _ (g : Givens) (p v j : ℕ) (l : LocalView) (holds : l.state.phase ≡ Holding j) where
  rests : can_leave (record_after g p v l.state).phase ≡ false → (record_after g p v l.state).phase ≡ Over
  rests = subst (λ x. P (record_after_phase g p v l.state x)) (sym holds)
      (choice_cases g p (record l.state { dones = l.state.dones ++ j ∷ []; known = with_number j l.state.known }) P (λ _ _. refl) (λ _ e. absurd (true≢false e)))
    where
      P : Record → Type 0
      P x = can_leave x.phase ≡ false → x.phase ≡ Over

  idles : (own : List ℕ) → let next = standing_after g p v own (Some (GoingOn l false)) in may_leave next ≡ false → access_of g p next ≡ Nothing
  idles own = by (can_hear g v (want l.state))
    where
      next : Bool → Option Standing
      next b = if b then Some (GoingOn (record l { state = record_after g p v l.state }) false) else None

      by : (b : Bool) → may_leave (next b) ≡ false → access_of g p (next b) ≡ Nothing
      by true e = ap (λ x. access_for g p (want_in (record_after g p v l.state) x)) (rests e)
      by false e = refl

filed : (p w v n : ℕ) (a : ProcessView) (ds : List Deed) → a.number ≡ p → (may_leave a.standing ≡ false → access_of a.givens a.number a.standing ≡ Nothing)
    → AreDue (stage_told w v n Leave a) ds → AreInTurn (Store (next_word p) 0 ∷ []) ds
filed p w v n a ds is idle = told (is_refused a.standing)
  where
    heard : (b : Bool) → may_leave a.standing ≡ b → AreDue (if b then Leaving a else Going n a Leave) ds → AreInTurn (Store (next_word p) 0 ∷ []) ds
    heard true may h = leaving p a ds is h
    heard false may h = nothing_due (Going n a Leave) (Store (next_word p) 0 ∷ []) ds (ap access_tried (idle may)) h

    told : (b : Bool) → AreDue (if b then Refused w v else stage_heard n Leave a) ds → AreInTurn (Store (next_word p) 0 ∷ []) ds
    told true h = nothing_due (Refused w v) (Store (next_word p) 0 ∷ []) ds refl h
    told false h = heard (may_leave a.standing) refl h

-- from the answer on
module _ (p place j : ℕ) (a : ProcessView) (is : a.number ≡ p) (l : LocalView) (stands : a.standing ≡ Some (GoingOn l false)) (holds : l.state.phase ≡ Holding j)
    (files : access_of a.givens a.number a.standing ≡ StoreAccess place j) where
  abbrev last : List Try
  last = Store place j ∷ Store (next_word p) 0 ∷ []

  filing : (n : ℕ) (ds : List Deed) → AreDue (Going n a Leave) ds → AreInTurn last ds
  filing n ds h = one_due (Going n a Leave) (Store place j) (Store (next_word p) 0 ∷ []) ds (ap access_tried files) goes_on h
    where
      next : ProcessView
      next = process_after a 0

      idle : may_leave next.standing ≡ false → access_of next.givens next.number next.standing ≡ Nothing
      idle = subst (λ s. may_leave (standing_after a.givens a.number 0 next.own s) ≡ false → access_of a.givens a.number (standing_after a.givens a.number 0 next.own s) ≡ Nothing) (sym stands)
          (idles a.givens a.number 0 j l holds next.own)

      goes_on : (d : Deed) (more : List Deed) → try_of d ≡ Store place j → AreDue (stage_after (Going n a Leave) d) more → AreInTurn (Store (next_word p) 0 ∷ []) more
      goes_on (Stored w v) more e rest = filed p w v n next more is idle rest
      goes_on (Fell t) more e rest = nothing_due Broken (Store (next_word p) 0 ∷ []) more refl rest
      goes_on d more e rest = cc

  noting : (n : ℕ) (c : JobResult) (ds : List Deed) → AreDue (Noting n a c Leave) ds → AreInTurn (Note n c ∷ last) ds
  noting n c ds h = one_due (Noting n a c Leave) (Note n c) last ds refl goes_on h
    where
      goes_on : (d : Deed) (more : List Deed) → try_of d ≡ Note n c → AreDue (stage_after (Noting n a c Leave) d) more → AreInTurn last more
      goes_on (Noted m x) more e rest = filing (n + 1) more rest
      goes_on (Fell t) more e rest = nothing_due Broken last more refl rest
      goes_on d more e rest = cc

  replied : (n : ℕ) (reply : Reply) (ds : List Deed) → tells_to_leave reply ≡ true → AreDue (stage_replied n a reply) ds → AreInTurn (note_of n reply ++ last) ds
  replied n (Answered m c Leave) ds tells = by (m == n)
    where
      by : (b : Bool) → AreDue (if b then Noting n a c Leave else Unanswered n (Answered m c Leave)) ds → AreInTurn (Note n c ∷ last) ds
      by true h = noting n c ds h
      by false h = nothing_due (Unanswered n (Answered m c Leave)) (Note n c ∷ last) ds refl h
  replied n (Running m Leave) ds tells = by (m == n)
    where
      by : (b : Bool) → AreDue (if b then Going (n + 1) a Leave else Unanswered n (Running m Leave)) ds → AreInTurn last ds
      by true h = filing (n + 1) ds h
      by false h = nothing_due (Unanswered n (Running m Leave)) last ds refl h
  replied n reply ds tells = absurd (true≢false (sym tells))

pub takes_leave : (g : Givens) (p s n j : ℕ) (reply : Reply) (before after : List Deed) → tells_to_leave reply ≡ true
    → AreDue (first_stage g p s) (before ++ Performed n j reply ∷ after) → TakesLeave g p (first_stage g p s) before n j reply after
takes_leave g p s n j reply before after tells h =
    let first = first_stage g p s in
    let parts = due_among first before after (Performed n j reply) h in
    let at = performing_at (stage_after_all first before) n j parts.1 in
    let shown = all_shown g p [] first before refl in
    let f = subst (Shown g p shown.0) at.1 shown.1 in
    let held = told_holds j f.2 at.0.standing f.1 in
    let place = length held.machine.state.dones + 1 in
    let wants = sym (access_is g p shown.0 at.0 f.0) ∙ ap (access_of g p) (sym (standing_is g p shown.0 at.0 f.0) ∙ held.stands)
    ∙ ap (λ x. access_for g p (want_in held.machine.state x)) held.phase in
    record {
      process = at.0;
      stood = at.1;
      machine = held.machine;
      standing = held.stands;
      place = place;
      wanted = ap (want_in held.machine.state) held.phase;
      farewell = replied p (done_word g p place) j at.0 (number_is g p shown.0 at.0 f.0) held.machine held.stands held.phase wants n reply after tells
          (subst (λ z. AreDue (stage_after z (Performed n j reply)) after) at.1 parts.2);
    }

-- who finds its job taken

first_due : (s : Stage) (t : Try) (ts : List Try) (ds : List Deed) → due s ≡ Some t
    → ((d : Deed) (more : List Deed) → try_of d ≡ t → AreDue (stage_after s d) more → BeginInTurn ts more) → AreDue s ds → BeginInTurn (t ∷ ts) ds
first_due s t ts [] e goes_on h = tt
first_due s t ts (d ∷ ds) e goes_on h = let is = same_Some _ _ (sym h.0 ∙ e) in (is, goes_on d ds is h.1)

passing : (n place j : ℕ) (a : ProcessView) (ds : List Deed) → access_of a.givens a.number a.standing ≡ StoreAccess place j → AreDue (Noting n a Unbegun Go) ds
    → BeginInTurn (Note n Unbegun ∷ Store place j ∷ []) ds
passing n place j a ds files h = first_due (Noting n a Unbegun Go) (Note n Unbegun) (Store place j ∷ []) ds refl goes_on h
  where
    goes_on : (d : Deed) (more : List Deed) → try_of d ≡ Note n Unbegun → AreDue (stage_after (Noting n a Unbegun Go) d) more → BeginInTurn (Store place j ∷ []) more
    goes_on (Noted m x) more e rest = first_due (Going (n + 1) a Go) (Store place j) [] more (ap access_tried files) (λ d after is due_after. tt) rest
    goes_on (Fell t) [] e rest = tt
    goes_on (Fell t) (d ∷ more) e rest = absurd (none-some (try_of d) rest.0)
    goes_on d more e rest = cc

pub passes_over : (g : Givens) (p s n j : ℕ) (before after : List Deed) → AreDue (first_stage g p s) (before ++ Cleared n j false ∷ after)
    → PassesOver g p (first_stage g p s) before n j after
passes_over g p s n j before after h =
    let first = first_stage g p s in
    let parts = due_among first before after (Cleared n j false) h in
    let at = clearing_at (stage_after_all first before) n j parts.1 in
    let shown = all_shown g p [] first before refl in
    let f = subst (Shown g p shown.0) at.1 shown.1 in
    let held = told_holds j f.2 at.0.standing f.1 in
    let place = length held.machine.state.dones + 1 in
    let wants = sym (access_is g p shown.0 at.0 f.0) ∙ ap (access_of g p) (sym (standing_is g p shown.0 at.0 f.0) ∙ held.stands)
    ∙ ap (λ x. access_for g p (want_in held.machine.state x)) held.phase in
    record {
      process = at.0;
      stood = at.1;
      machine = held.machine;
      standing = held.stands;
      place = place;
      wanted = ap (want_in held.machine.state) held.phase;
      next = passing n (done_word g p place) j at.0 after wants (subst (λ z. AreDue (stage_after z (Cleared n j false)) after) at.1 parts.2);
    }
