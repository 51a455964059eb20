-- Each job is handed to one process, between two of its accesses.
use Rattle.std.proofs.Common.{◌≡◌, ⊎_elim, ◌⊎◌, inl, inr, ℕ, ◌≤◌, Bool, true, false, refl, sym, ap, ◌∙◌, subst, arith, List, [], ◌∷◌, ◌++◌, length, Some, append_assoc, append-nil, drop}
use Rattle.std.specs.Prelude.{if◌then◌else◌}
use Rattle.std.proofs.lemmas.Bool.{true≢false}
use Rattle.std.proofs.Math.Seq.{drop-append_seam}
use Rattle.amo_sets.specs.Lists.{numbered}
use Rattle.amo_sets.proofs.Numbers.{numbered-put_same}
use Rattle.amo_params.specs.Givens.{bound, IsWorker, is_within}
use Rattle.amo_kk.specs.Object.{first_object}
use Rattle.amo_kk.specs.Record.{wants_nothing, is_over, job_in_hand}
use Rattle.amo_kk.specs.Step.{record_after, record_after_phase}
use Rattle.amo_kk.specs.Machine.{LocalView}
use Rattle.amo_kk.specs.World.{process, done_count}
use Rattle.amo_params.specs.declared.givens.Givens.{Givens}
use Rattle.amo_kk.specs.declared.phase.Phase.{Phase}
use Rattle.amo_kk.specs.declared.phase.Phase.TheVariants.{Claiming, Over, Left}
use Rattle.amo_kk.specs.declared.model.Record.{Record}
use Rattle.amo_kk.specs.declared.event.Event.TheVariants.{Claimed, Done, Ended, Halted, Left as LeftEvent}
use Rattle.amo_params.specs.declared.moves.Move.TheVariants.{Turn}
use Rattle.amo_kk.proofs.Runs.{HasDone, has_done}
use Rattle.amo_kk.proofs.Ends.{enough_done}
use Rattle.amo_restart.specs.declared.model.Act.{Act}
use Rattle.amo_restart.specs.declared.model.Act.TheVariants.{Moves, Returns}
use Rattle.amo_restart.specs.declared.model.Entry.{Entry}
use Rattle.amo_restart.specs.declared.model.Entry.TheVariants.{Shown, Returned}
use Rattle.amo_restart.specs.declared.model.Tale.{Tale}
use Rattle.amo_restart.specs.Return.{filed_in, world_of_tale, tale_after_move, tale_with_return, tale_after, tale_after_all, opening_tale, tale_of}
use Rattle.amo_restart.specs.Story.{IsStory, may_perform, HasNoDeed}
use Rattle.amo_restart.proofs.Once.{may-append, one_stretch}
use Rattle.amo_restart.proofs.Tales.{IsTold, act_told, acts_told, opening_told}
use Rattle.amo_restart.proofs.Filed.{filed_is}
use Rattle.amo_process.specs.declared.model.Happening.{Happening}
use Rattle.amo_process.specs.declared.model.Happening.TheVariants.{Steps, Begins, Leaves}
use Rattle.amo_process.specs.declared.standing.Standing.TheVariants.{Going}
use Rattle.amo_process.specs.Heard.{standing_of, told_by}
use Rattle.amo_process.specs.Shared.{Shared, first_shared, standing_at, shared_after, shared_after_all, shared_of, acts_of_step, acts_of_one, acts_after, acts_of, told_to_perform, IsBeginning, IsGoing, Shows, AreOfWorkers, HasNoStep}
use Rattle.amo_process.proofs.Hearing.{with_record, is_going, record_in}
use Rattle.amo_process.proofs.Together.{beginning_stands, turned_local, one_shows}
use Rattle.amo_process.proofs.Opening.{first_shows}

-- tales one after the other

acts-append : (g : Givens) (t : Tale) (xs ys : List Act) → tale_after_all g t (xs ++ ys) ≡ tale_after_all g (tale_after_all g t xs) ys
acts-append g t [] ys = refl
acts-append g t (x ∷ xs) ys = acts-append g (tale_after g t x) xs ys

-- what a tale has more than the one that it goes on from
pub record HasMore (t v : Tale) : Type 0 where
  pub more : List Entry
  pub is : v.entries ≡ t.entries ++ more

one_more : (g : Givens) (t : Tale) (x : Act) → HasMore t (tale_after g t x)
one_more g t (Moves m) = record { more = _; is = refl }
one_more g t (Returns p) = go (is_within g.workers p)
  where
    go : (b : Bool) → HasMore t (if b then tale_with_return g t p (process (world_of_tale t) p) else t)
    go true = record { more = _; is = refl }
    go false = record { more = []; is = sym (append-nil t.entries) }

pub all_more : (g : Givens) (t : Tale) (xs : List Act) → HasMore t (tale_after_all g t xs)
all_more g t [] = record { more = []; is = sym (append-nil t.entries) }
all_more g t (x ∷ xs) =
    let a = one_more g t x in
    let b = all_more g (tale_after g t x) xs in
    record { more = a.more ++ b.more; is = b.is ∙ ap (λ l. l ++ b.more) a.is ∙ append_assoc t.entries a.more b.more }

-- all happenings

pub first_of : (g : Givens) (h : Happening) (hs : List Happening) → AreOfWorkers g (h ∷ hs) → AreOfWorkers g (h ∷ []) × AreOfWorkers g hs
first_of g (Steps p) hs o = ((o.0, tt), o.1)
first_of g (Begins p) hs o = ((o.0, tt), o.1)
first_of g (Leaves p) hs o = ((o.0, tt), o.1)

pub all_show : (g : Givens) (s : Shared) (t : Tale) (hs : List Happening) → IsTold g t → Shows g s t → AreOfWorkers g hs → Shows g (shared_after_all g s hs) (tale_after_all g t (acts_after g s hs))
all_show g s t [] told shows o = shows
all_show g s t (h ∷ hs) told shows o =
    let parts = first_of g h hs o in
    subst (λ v. Shows g (shared_after_all g (shared_after g s h) hs) v) (sym (acts-append g t (acts_of_one g s h) (acts_after g (shared_after g s h) hs)))
    (all_show g (shared_after g s h) (tale_after_all g t (acts_of_one g s h)) hs (acts_told g t (acts_of_one g s h) g.limits told) (one_shows g s t h told shows parts.0) parts.1)

pub always_shows : (g : Givens) (hs : List Happening) → AreOfWorkers g hs → Shows g (shared_of g hs) (tale_of g (acts_of g hs))
always_shows g hs o = all_show g (first_shared g) (opening_tale g) hs (opening_told g g.limits) (first_shows g) o

-- entries without a deed change nothing
no_deed_may : (p h : ℕ) (xs : List Entry) → HasNoDeed p xs → may_perform p h xs ≡ h
no_deed_may p h [] n = refl
no_deed_may p h (Shown (Claimed q j) ∷ xs) n = ap (λ b. may_perform p (if b then j else h) xs) n.0 ∙ no_deed_may p h xs n.1
no_deed_may p h (Shown (Done q j) ∷ xs) n = ap (λ b. may_perform p (if b then 0 else h) xs) n.0 ∙ no_deed_may p h xs n.1
no_deed_may p h (Shown (Ended q) ∷ xs) n = no_deed_may p h xs n.1
no_deed_may p h (Shown (Halted q) ∷ xs) n = no_deed_may p h xs n.1
no_deed_may p h (Shown (LeftEvent q) ∷ xs) n = no_deed_may p h xs n.1
no_deed_may p h (Returned q j ∷ xs) n = ap (λ b. may_perform p (if b then 0 else h) xs) n.0 ∙ no_deed_may p h xs n.1

no_deed_parts : (p : ℕ) (xs ys : List Entry) → HasNoDeed p (xs ++ ys) → HasNoDeed p xs × HasNoDeed p ys
no_deed_parts p [] ys n = (tt, n)
no_deed_parts p (Shown e ∷ xs) ys n = let r = no_deed_parts p xs ys n.1 in ((n.0, r.0), r.1)
no_deed_parts p (Returned q j ∷ xs) ys n = let r = no_deed_parts p xs ys n.1 in ((n.0, r.0), r.1)

-- what cancels on the left
cancel : {X : Type 0} (xs ys zs : List X) → xs ++ ys ≡ xs ++ zs → ys ≡ zs
cancel xs ys zs e = sym (drop-append_seam xs ys) ∙ ap (drop (length xs)) e ∙ drop-append_seam xs zs

-- no job is handed out but the one in the hand
told_hand : (g : Givens) (s : Shared) (t : Tale) (p : ℕ) → IsTold g t → (shows : Shows g s t) → (o : IsWorker g p)
    → (told_to_perform g s p ≡ 0) ⊎ (told_to_perform g s p ≡ job_in_hand (process (world_of_tale t) p).local.phase)
told_hand g s t p told shows o = ⊎_elim
    (λ (b : IsBeginning g p (numbered [] s.lists p) (process (world_of_tale t) p)). inl (ap told_by (beginning_stands g s t told shows p o b)))
    (λ (h : IsGoing g p (numbered [] s.lists p) (process (world_of_tale t) p)). by h.0 (ap told_by h.1))
    (shows.workers p o).stands
  where
    by : (f : Bool) → told_to_perform g s p ≡ (if f then 0 else job_in_hand (process (world_of_tale t) p).local.phase)
        → (told_to_perform g s p ≡ 0) ⊎ (told_to_perform g s p ≡ job_in_hand (process (world_of_tale t) p).local.phase)
    by true h = inl h
    by false h = inr h

-- after the step of a worker with a job in its hand, no job is in it
hand_empties : (g : Givens) (p v : ℕ) (r : Record) → 1 ≤ job_in_hand r.phase → job_in_hand (record_after g p v r).phase ≡ 0
hand_empties g p v r some = go r.phase refl (has_done g p v r r.phase refl) some
  where
    go : (phase : Phase) → r.phase ≡ phase → HasDone r (record_after_phase g p v r r.phase) phase → 1 ≤ job_in_hand phase → job_in_hand (record_after_phase g p v r r.phase).phase ≡ 0
    go (Claiming j) is d h = absurd (omega arith)
    go phase is d h = d.held_now

-- a worker that has a job to perform doesn't have it after its step
step_ends : (g : Givens) (s : Shared) (t : Tale) (p j : ℕ) → IsTold g t → (shows : Shows g s t) → (o : IsWorker g p) → 1 ≤ j → told_to_perform g s p ≡ j
    → told_to_perform g (shared_after g s (Steps p)) p ≡ 0
step_ends g s t p j told shows o some e = ⊎_elim
    (λ (z : told_to_perform g s p ≡ 0). absurd (omega arith))
    (λ (h : told_to_perform g s p ≡ job_in_hand (process (world_of_tale t) p).local.phase). ⊎_elim
    (λ (b : IsBeginning g p (numbered [] s.lists p) (process (world_of_tale t) p)). absurd (let z = ap told_by (beginning_stands g s t told shows p o b) in omega arith))
    (λ (k : IsGoing g p (numbered [] s.lists p) (process (world_of_tale t) p)). after k.0 k.1 (sym h ∙ e))
    (shows.workers p o).stands)
    (told_hand g s t p told shows o)
  where
    goes : (phase : Phase) → 1 ≤ job_in_hand phase → wants_nothing phase ≡ false
    goes Over h = absurd (omega arith)
    goes Left h = absurd (omega arith)
    goes phase h = refl

    now : Tale
    now = tale_after_move g t (Turn p)

    after : (f : Bool) → standing_of g p (numbered [] s.lists p) ≡ Some (Going (with_record g p (process (world_of_tale t) p).local) f) → job_in_hand (process (world_of_tale t) p).local.phase ≡ j
        → told_to_perform g (shared_after g s (Steps p)) p ≡ 0
    after f is held = ⊎_elim (λ z. z) (λ h. h ∙ ap (λ (r : Record). job_in_hand r.phase) (turned_local g s t told shows p o wants) ∙ hand_empties g p _ (process (world_of_tale t) p).local (let x = held in omega arith)) (told_hand g (shared_after g s (Steps p)) now p (act_told g t (Moves (Turn p)) g.limits told) shown o)
      where
        wants : wants_nothing (process (world_of_tale t) p).local.phase ≡ false
        wants = goes (process (world_of_tale t) p).local.phase (let x = held in omega arith)

        acts : acts_of_one g s (Steps p) ≡ Moves (Turn p) ∷ []
        acts = ap (acts_of_step p) is ∙ ap (λ b. if b then [] else Moves (Turn p) ∷ []) wants

        shown : Shows g (shared_after g s (Steps p)) now
        shown = subst (λ xs. Shows g (shared_after g s (Steps p)) (tale_after_all g t xs)) acts (one_shows g s t (Steps p) told shows (o, tt))

-- a process that begins has no job to perform
new_ends : (g : Givens) (s : Shared) (p : ℕ) → length s.lists ≡ g.workers → IsWorker g p → told_to_perform g (shared_after g s (Begins p)) p ≡ 0
new_ends g s p size o = ap (λ l. told_by (standing_of g p l)) (numbered-put_same [] [] s.lists p o.low (let h = o.high in omega arith))

-- no access of p, and no new process of it, if there is no deed of p
no_step : (g : Givens) (s : Shared) (t : Tale) (hs : List Happening) (p j : ℕ) → IsTold g t → Shows g s t → AreOfWorkers g hs → IsWorker g p → 1 ≤ j → told_to_perform g s p ≡ j
    → (es : List Entry) → (tale_after_all g t (acts_after g s hs)).entries ≡ t.entries ++ es → HasNoDeed p es → HasNoStep p hs
no_step g s t [] p j told shows o w some e es is none = tt
no_step g s t (h ∷ hs) p j told shows o w some e es is none =
    head h refl (λ k. no_step g (shared_after g s h) (tale_after_all g t (acts_of_one g s h)) hs p j (acts_told g t (acts_of_one g s h) g.limits told) (one_shows g s t h told shows parts.0) parts.1 w some k second.more second.is both.1)
  where
    parts : AreOfWorkers g (h ∷ []) × AreOfWorkers g hs
    parts = first_of g h hs o

    mid : Tale
    mid = tale_after_all g t (acts_of_one g s h)

    first : HasMore t (tale_after_all g t (acts_of_one g s h))
    first = all_more g t (acts_of_one g s h)

    second : HasMore (tale_after_all g t (acts_of_one g s h)) (tale_after_all g (tale_after_all g t (acts_of_one g s h)) (acts_after g (shared_after g s h) hs))
    second = all_more g (tale_after_all g t (acts_of_one g s h)) (acts_after g (shared_after g s h) hs)

    cut : es ≡ first.more ++ second.more
    cut = cancel t.entries es (first.more ++ second.more)
        (sym is ∙ ap (λ (v : Tale). v.entries) (acts-append g t (acts_of_one g s h) (acts_after g (shared_after g s h) hs)) ∙ second.is ∙ ap (λ l. l ++ second.more) first.is ∙ append_assoc t.entries first.more second.more)

    both : HasNoDeed p first.more × HasNoDeed p second.more
    both = no_deed_parts p first.more second.more (subst (λ l. HasNoDeed p l) cut none)

    still : told_to_perform g (shared_after g s h) p ≡ j
    still =
        sym ((one_shows g s t h told shows parts.0).workers p w).performs
        ∙ ap (λ l. may_perform p 0 l) first.is ∙ may-append t.entries first.more p 0 ∙ no_deed_may p (may_perform p 0 t.entries) first.more both.0
        ∙ (shows.workers p w).performs ∙ e

    head : (x : Happening) → h ≡ x → (told_to_perform g (shared_after g s h) p ≡ j → HasNoStep p hs) → HasNoStep p (x ∷ hs)
    head (Steps q) same rest = (
      λ i. absurd (let z : told_to_perform g (shared_after g s h) p ≡ 0 = subst (λ y. told_to_perform g (shared_after g s y) p ≡ 0) (sym (same ∙ ap Steps i)) (step_ends g s t p j told shows w some e) in let k = still in omega arith),
      rest still,
    )
    head (Begins q) same rest = (
      λ i. absurd (let z : told_to_perform g (shared_after g s h) p ≡ 0 = subst (λ y. told_to_perform g (shared_after g s y) p ≡ 0) (sym (same ∙ ap Begins i)) (new_ends g s p shows.size w) in let k = still in omega arith),
      rest still,
    )
    head (Leaves q) same rest = rest still

pub told_once : (g : Givens) (hs more : List Happening) (p q j : ℕ) → AreOfWorkers g hs → AreOfWorkers g more → IsWorker g p → IsWorker g q → 1 ≤ j
    → told_to_perform g (shared_of g hs) p ≡ j → told_to_perform g (shared_after_all g (shared_of g hs) more) q ≡ j → (p ≡ q) × HasNoStep p more
told_once g hs more p q j o m w x some first second = (once.0, no_step g (shared_of g hs) t more p j told shows m w some first rest.more rest.is once.1)
  where
    t : Tale
    t = tale_of g (acts_of g hs)

    told : IsTold g (tale_of g (acts_of g hs))
    told = acts_told g (opening_tale g) (acts_of g hs) g.limits (opening_told g g.limits)

    shows : Shows g (shared_of g hs) (tale_of g (acts_of g hs))
    shows = always_shows g hs o

    acts : List Act
    acts = acts_after g (shared_of g hs) more

    rest : HasMore (tale_of g (acts_of g hs)) (tale_after_all g (tale_of g (acts_of g hs)) (acts_after g (shared_of g hs) more))
    rest = all_more g (tale_of g (acts_of g hs)) (acts_after g (shared_of g hs) more)

    later : Shows g (shared_after_all g (shared_of g hs) more) (tale_after_all g (tale_of g (acts_of g hs)) (acts_after g (shared_of g hs) more))
    later = all_show g (shared_of g hs) (tale_of g (acts_of g hs)) more told shows m

    story : IsStory g (first_object g) (t.entries ++ rest.more)
    story = subst (λ l. IsStory g (first_object g) l) rest.is (acts_told g t acts g.limits told).story

    once : (p ≡ q) × HasNoDeed p rest.more
    once = one_stretch g t.entries rest.more p q j story some ((shows.workers p w).performs ∙ first)
        (ap (λ l. may_perform q 0 l) (sym rest.is) ∙ (later.workers q x).performs ∙ second)

-- if a worker has its end, enough jobs are recorded as done
over_is_late : (g : Givens) (hs : List Happening) (p : ℕ) (l : LocalView) (fresh : Bool) → AreOfWorkers g hs → IsWorker g p → standing_at g (shared_of g hs) p ≡ Some (Going l fresh) → is_over l.state.phase ≡ true
    → bound g ≤ done_count (world_of_tale (tale_of g (acts_of g hs)))
over_is_late g hs p l fresh o w is over = enough_done g (world_of_tale (tale_of g (acts_of g hs))) p told.lawful w (⊎_elim
    (λ (b : IsBeginning g p (numbered [] (shared_of g hs).lists p) (process (world_of_tale (tale_of g (acts_of g hs))) p)). absurd (true≢false (sym (ap is_going (sym (beginning_stands g (shared_of g hs) (tale_of g (acts_of g hs)) told shows p w b) ∙ is)))))
    (λ (h : IsGoing g p (numbered [] (shared_of g hs).lists p) (process (world_of_tale (tale_of g (acts_of g hs))) p)). ap (λ (r : Record). is_over r.phase) (ap (record_in l.state) (sym h.1 ∙ is)) ∙ over)
    (shows.workers p w).stands)
  where
    told : IsTold g (tale_of g (acts_of g hs))
    told = acts_told g (opening_tale g) (acts_of g hs) g.limits (opening_told g g.limits)

    shows : Shows g (shared_of g hs) (tale_of g (acts_of g hs))
    shows = always_shows g hs o

-- and the words show it
pub words_are_late : (g : Givens) (hs : List Happening) (p : ℕ) (l : LocalView) (fresh : Bool) → AreOfWorkers g hs → IsWorker g p → standing_at g (shared_of g hs) p ≡ Some (Going l fresh) → is_over l.state.phase ≡ true
    → bound g ≤ filed_in g (shared_of g hs).words
words_are_late g hs p l fresh o w is over =
    subst (λ n. bound g ≤ n)
    (sym (ap (filed_in g) (always_shows g hs o).words ∙ filed_is g (world_of_tale (tale_of g (acts_of g hs))) (acts_told g (opening_tale g) (acts_of g hs) g.limits (opening_told g g.limits)).lawful))
    (over_is_late g hs p l fresh o w is over)
