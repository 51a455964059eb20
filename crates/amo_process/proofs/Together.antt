-- Processes over shared words beside a tale, step by step.
use Rattle.std.proofs.Common.{◌≡◌, ◌≢◌, ◌⊎◌, inl, inr, ⊎_elim, ℕ, ◌+◌, ◌<◌, ◌≤◌, Bool, true, false, refl, sym, ap, ◌∙◌, subst, arith, List, [], ◌∷◌, ◌++◌, length, get_or, take, set, Some}
use Rattle.std.specs.Prelude.{if◌then◌else◌, ◌==◌, slice_index}
use Rattle.std.proofs.lemmas.Bool.{true≢false, cases_eq, cases_lt, and_from, le-leb, eq-eqb, ne_eqb}
use Rattle.std.proofs.lemmas.List.{take_more, take_all, length_push}
use Rattle.amo_sets.specs.Lists.{numbered, put}
use Rattle.amo_sets.proofs.Numbers.{numbered-put_same, numbered-put_other, length-put}
use Rattle.amo_params.specs.Givens.{IsWorker, is_within}
use Rattle.amo_kk.specs.Record.{wants_nothing, can_leave, job_in_hand}
use Rattle.amo_kk.specs.Step.{want, record_after, record_after_leave, shown, events_of, ended_if_over}
use Rattle.amo_kk.specs.Again.{entries_of, doubt}
use Rattle.amo_kk.specs.Words.{words_of, loaded_word, next_word, words_after}
use Rattle.amo_kk.specs.Lawful.{IsLawful}
use Rattle.amo_kk.specs.World.{nobody, process, loaded_value, process_after, world_with, world_after_step, world_after_leave}
use Rattle.amo_params.specs.declared.givens.Givens.{Givens}
use Rattle.amo_kk.specs.declared.phase.Phase.{Phase}
use Rattle.amo_kk.specs.declared.phase.Phase.TheVariants.{Over, Left}
use Rattle.amo_kk.specs.declared.phase.Want.{Want}
use Rattle.amo_kk.specs.declared.phase.Want.TheVariants.{StoreNext, LoadNext, LoadDone}
use Rattle.amo_kk.specs.declared.model.Record.{Record}
use Rattle.amo_kk.specs.declared.model.Process.{Process}
use Rattle.amo_kk.specs.declared.model.World.{World}
use Rattle.amo_kk.specs.declared.event.Event.TheVariants.{Left as LeftEvent}
use Rattle.amo_params.specs.declared.moves.Move.TheVariants.{Turn, Leave}
use Rattle.amo_kk.proofs.Worlds.{put_here}
use Rattle.amo_kk.proofs.Runs.{stored_local, stored_gone}
use Rattle.amo_kk.proofs.Words.{turn_loads, turn_stores, leave_stores, keep_words}
use Rattle.amo_restart.specs.declared.model.Act.TheVariants.{Moves, Returns}
use Rattle.amo_restart.specs.declared.model.Entry.TheVariants.{Returned}
use Rattle.amo_restart.specs.declared.model.Tale.{Tale}
use Rattle.amo_restart.specs.Return.{process_after_return, world_of_tale, entries_for, tale_after_move, tale_with_return, tale_after_return, tale_after_all}
use Rattle.amo_restart.specs.Story.{may_perform}
use Rattle.amo_restart.proofs.Once.{may-append}
use Rattle.amo_restart.proofs.Tales.{IsTold, act_told}
use Rattle.amo_process.specs.declared.model.Happening.{Happening}
use Rattle.amo_process.specs.declared.model.Happening.TheVariants.{Steps, Begins, Leaves}
use Rattle.amo_process.specs.declared.standing.Standing.TheVariants.{Beginning, Going}
use Rattle.amo_process.specs.Heard.{standing_of, told_by}
use Rattle.amo_process.specs.Shared.{Shared, standing_at, heard_of, with_heard, with_new_process, shared_after_step, shared_after_leave, shared_after, acts_of_step, acts_of_leave, acts_of_one, own_words, IsBeginning, IsGoing, ShowsWorker, Shows, AreOfWorkers}
use Rattle.amo_process.proofs.Hearing.{with_record, standing_more}
use Rattle.amo_process.proofs.Coming.{heard_fits}
use Rattle.amo_process.proofs.Beginning.{begun, BeginsAt, begins}
use Rattle.amo_process.proofs.Performs.{other_may, end_may, step_may}

-- another worker, of whom nothing changed
same_worker : (g : Givens) (heard now : List ℕ) (t v : Tale) (q : ℕ) → now ≡ heard → process (world_of_tale v) q ≡ process (world_of_tale t) q → may_perform q 0 v.entries ≡ may_perform q 0 t.entries
    → ShowsWorker g heard t q → ShowsWorker g now v q
same_worker g heard now t v q e same may w =
    subst (λ l. ShowsWorker g l v q) (sym e)
    (record {
      gone = subst (λ (a : Process). a.gone ≡ wants_nothing a.local.phase) (sym same) w.gone;
      stands = subst (λ (a : Process). IsBeginning g q heard a ⊎ IsGoing g q heard a) (sym same) w.stands;
      performs = may ∙ w.performs;
    })

-- all workers, where p alone has another list
all_show : (g : Givens) (s : Shared) (words : List ℕ) (v : Tale) (p : ℕ) (l : List ℕ) → length s.lists ≡ g.workers → IsWorker g p → words ≡ words_of v.processes
    → ((q : ℕ) → IsWorker g q → q ≢ p → ShowsWorker g (numbered [] s.lists q) v q) → ShowsWorker g l v p → Shows g (record { words = words; lists = put s.lists p l }) v
all_show g s words v p l size o same others mine =
    record {
      words = same;
      size = length-put l s.lists p ∙ size;
      workers = λ q w. ⊎_elim
          (λ (e : q ≡ p). subst (λ x. ShowsWorker g (numbered [] (put s.lists p l) x) v x) (sym e)
          (subst (λ m. ShowsWorker g m v p) (sym (numbered-put_same [] l s.lists p o.low (let h = o.high in omega arith))) mine))
          (λ n. subst (λ m. ShowsWorker g m v q) (sym (numbered-put_other [] l s.lists p q n)) (others q w n))
          (cases_eq q p);
    }

-- a return of p, whatever p is before it
return_shows : (g : Givens) (s : Shared) (words : List ℕ) (t : Tale) (p : ℕ) → IsLawful g (world_of_tale t) → length s.lists ≡ g.workers → (o : IsWorker g p) → words ≡ words_of t.processes
    → ((q : ℕ) → IsWorker g q → q ≢ p → ShowsWorker g (numbered [] s.lists q) t q)
    → Shows g (with_new_process s p words) (tale_after_return g t p)
return_shows g s words t p law size o same others =
    subst (λ b. Shows g (with_new_process s p words) (if b then tale_with_return g t p (process (world_of_tale t) p) else t)) (sym within)
    (all_show g s words v p [] size o (same ∙ sym (keep_words g t.processes nobody law.size p b o.low refl refl refl)) (λ q w n. same_worker g (numbered [] s.lists q) (numbered [] s.lists q) t v q refl (now_q q n) (may_q q n) (others q w n)) mine)
  where
    within : is_within g.workers p ≡ true
    within = and_from _ _ (le-leb 1 p o.low) (le-leb p g.workers o.high)

    b : Process
    b = process_after_return g p (process (world_of_tale t) p)

    v : Tale
    v = tale_with_return g t p (process (world_of_tale t) p)

    now_p : process (world_of_tale v) p ≡ b
    now_p = put_here g (world_of_tale t) p b law.size o

    now_q : (q : ℕ) → q ≢ p → process (world_of_tale v) q ≡ process (world_of_tale t) q
    now_q q n = numbered-put_other nobody b t.processes p q n

    may_q : (q : ℕ) → q ≢ p → may_perform q 0 v.entries ≡ may_perform q 0 t.entries
    may_q q n =
        may-append t.entries (Returned p (doubt (process (world_of_tale t) p).next (process (world_of_tale t) p).claim (entries_of (process (world_of_tale t) p).row)) ∷ entries_for (ended_if_over p b.local.phase)) q 0
        ∙ end_may p q (if p == q then 0 else may_perform q 0 t.entries) b.local.phase
        ∙ ap (λ c. if c then 0 else may_perform q 0 t.entries) (ne_eqb p q (λ e. n (sym e)))

    may_p : may_perform p 0 v.entries ≡ 0
    may_p =
        may-append t.entries (Returned p (doubt (process (world_of_tale t) p).next (process (world_of_tale t) p).claim (entries_of (process (world_of_tale t) p).row)) ∷ entries_for (ended_if_over p b.local.phase)) p 0
        ∙ end_may p p (if p == p then 0 else may_perform p 0 t.entries) b.local.phase
        ∙ ap (λ c. if c then 0 else may_perform p 0 t.entries) (eq-eqb p p refl)

    mine : ShowsWorker g [] v p
    mine =
        record {
          gone = subst (λ (a : Process). a.gone ≡ wants_nothing a.local.phase) (sym now_p) refl;
          stands = subst (λ (a : Process). IsBeginning g p [] a ⊎ IsGoing g p [] a) (sym now_p) (inl (record { few = omega arith; loaded = refl; same = refl }));
          performs = may_p;
        }

module _ (g : Givens) (s : Shared) (t : Tale) (told : IsTold g t) (shows : Shows g s t) (p : ℕ) (o : IsWorker g p) where
  abbrev w : World
  w = world_of_tale t

  abbrev a : Process
  a = process (world_of_tale t) p

  abbrev heard : List ℕ
  heard = numbered [] s.lists p

  abbrev mine : ShowsWorker g (numbered [] s.lists p) t p
  mine = shows.workers p o

  -- the job of a process that begins
  pub beginning_at : IsBeginning g p heard a → BeginsAt g w told.lawful p o (length heard)
  beginning_at b = begins g w told.lawful p o (length heard) b.few

  pub beginning_stands : (b : IsBeginning g p heard a) → standing_of g p heard ≡ Some (Beginning (beginning_at b).word)
  beginning_stands b = ap (λ l. standing_of g p l) b.loaded ∙ (beginning_at b).stands

  -- one own word more
  loads_own : (b : IsBeginning g p heard a) → Shows g (with_heard s p (slice_index s.words (beginning_at b).word) s.words) t
  loads_own b = all_show g s s.words t p next shows.size o shows.words (λ q x n. shows.workers q x) (record { gone = mine.gone; stands = after.0; performs = mine.performs ∙ ap told_by (beginning_stands b) ∙ sym after.1 })
    where
      k : ℕ
      k = length heard

      v : ℕ
      v = slice_index s.words (beginning_at b).word

      next : List ℕ
      next = heard ++ v ∷ []

      value : v ≡ get_or (own_words a) k 0
      value = ap (λ l. slice_index l (beginning_at b).word) shows.words ∙ (beginning_at b).value

      is : next ≡ take (k + 1) (own_words a)
      is = (λ i. b.loaded i ++ value i ∷ []) ∙ sym (take_more (own_words a) k 0 b.few)

      more : length next ≡ k + 1
      more = length_push heard v

      after : (IsBeginning g p next a ⊎ IsGoing g p next a) × (told_by (standing_of g p next) ≡ 0)
      after = ⊎_elim
          (λ (l : k + 1 < length (own_words a)).
          let c : IsBeginning g p next a = record { few = let m = more in omega arith; loaded = is ∙ ap (λ n. take n (own_words a)) (sym more); same = b.same } in
          (inl c, ap (λ l. told_by (standing_of g p l)) is ∙ ap told_by (begins g w told.lawful p o (k + 1) l).stands))
          (λ (l : length (own_words a) ≤ k + 1).
          let e : standing_of g p next ≡ Some (Going (with_record g p a.local) true)
          = ap (λ l. standing_of g p l) (is ∙ take_all (k + 1) (own_words a) l) ∙ begun g w told.lawful p o ∙ ap (λ (x : Process). Some (Going (with_record g p x.local) true)) b.same in
          (inr (true, e), ap told_by e))
          (cases_lt (k + 1) (length (own_words a)))

  -- a turn
  heard_is : (x : Want) → loaded_value w x ≡ get_or s.words (loaded_word g x) 0 → heard_of g s.words x ≡ loaded_value w x
  heard_is (LoadNext q) h = sym h
  heard_is (LoadDone q k) h = sym h
  heard_is x h = refl

  turns : (fresh : Bool) → standing_of g p heard ≡ Some (Going (with_record g p a.local) fresh) → wants_nothing a.local.phase ≡ false
      → Shows g (with_heard s p (heard_of g s.words (want a.local)) (words_after g p (want a.local) s.words)) (tale_after_move g t (Turn p))
  turns fresh e wants =
      subst (λ b. Shows g (with_heard s p (heard_of g s.words (want a.local)) (words_after g p (want a.local) s.words)) (shown_by b)) (sym here)
      (all_show g s (words_after g p (want a.local) s.words) v p next shows.size o words (λ q x n. same_worker g (numbered [] s.lists q) (numbered [] s.lists q) t v q refl (now_q q n) (may_q q n) (shows.workers q x)) now)
    where
      here : a.gone ≡ false
      here = mine.gone ∙ wants

      shown_by : Bool → Tale
      shown_by b = let u = if b then w else world_after_step g w p a in record { processes = u.processes; entries = t.entries ++ entries_for u.history }

      x : Record
      x = record_after g p (loaded_value w (want a.local)) a.local

      c : Process
      c = process_after (want a.local) a x

      v : Tale
      v = shown_by false

      next : List ℕ
      next = heard ++ heard_of g s.words (want a.local) ∷ []

      heard_now : heard_of g s.words (want a.local) ≡ loaded_value w (want a.local)
      heard_now = heard_is (want a.local) (turn_loads g w told.lawful p o ∙ ap (λ l. get_or l (loaded_word g (want a.local)) 0) (sym shows.words))

      words : words_after g p (want a.local) s.words ≡ words_of v.processes
      words = ap (λ l. words_after g p (want a.local) l) shows.words ∙ sym (turn_stores g w told.lawful p o)

      now_p : process (world_of_tale v) p ≡ c
      now_p = put_here g w p c told.lawful.size o

      now_q : (q : ℕ) → q ≢ p → process (world_of_tale v) q ≡ process w q
      now_q q n = numbered-put_other nobody c t.processes p q n

      may_q : (q : ℕ) → q ≢ p → may_perform q 0 v.entries ≡ may_perform q 0 t.entries
      may_q q n = may-append t.entries (entries_for (events_of p (shown a.local.phase x.phase))) q 0 ∙ other_may p q (may_perform q 0 t.entries) (shown a.local.phase x.phase) (λ i. n (sym i))

      was : (may_perform p 0 t.entries ≡ 0) ⊎ (may_perform p 0 t.entries ≡ job_in_hand a.local.phase)
      was = by fresh (mine.performs ∙ ap told_by e)
        where
          by : (f : Bool) → may_perform p 0 t.entries ≡ (if f then 0 else job_in_hand a.local.phase) → (may_perform p 0 t.entries ≡ 0) ⊎ (may_perform p 0 t.entries ≡ job_in_hand a.local.phase)
          by true h = inl h
          by false h = inr h

      stands : standing_of g p next ≡ Some (Going (with_record g p x) false)
      stands = ap (λ n. standing_of g p (heard ++ n ∷ [])) heard_now ∙ standing_more g p heard a.local fresh (loaded_value w (want a.local)) e (heard_fits g w told.lawful p here)

      now : ShowsWorker g next v p
      now =
          record {
            gone = subst (λ (y : Process). y.gone ≡ wants_nothing y.local.phase) (sym now_p) (stored_gone (want a.local) a x ∙ ap (λ (y : Record). wants_nothing y.phase) (sym (stored_local (want a.local) a x)));
            stands = inr (false, stands ∙ ap (λ y. Some (Going (with_record g p y) false)) (sym (ap (λ (y : Process). y.local) now_p ∙ stored_local (want a.local) a x)));
            performs = may-append t.entries (entries_for (events_of p (shown a.local.phase x.phase))) p 0 ∙ step_may g p (loaded_value w (want a.local)) (may_perform p 0 t.entries) a.local wants was ∙ ap told_by (sym stands);
          }

  -- the record of p after its turn
  pub turned_local : wants_nothing a.local.phase ≡ false → (process (world_of_tale (tale_after_move g t (Turn p))) p).local ≡ record_after g p (loaded_value w (want a.local)) a.local
  turned_local wants =
      ap (λ b. (process (if b then w else world_after_step g w p a) p).local) (mine.gone ∙ wants)
      ∙ ap (λ (y : Process). y.local) (put_here g w p (process_after (want a.local) a (record_after g p (loaded_value w (want a.local)) a.local)) told.lawful.size o)
      ∙ stored_local (want a.local) a (record_after g p (loaded_value w (want a.local)) a.local)

  -- a leaving
  leaves : can_leave a.local.phase ≡ true → Shows g (with_new_process s p (set s.words (next_word p) 0)) (tale_after_return g (tale_after_move g t (Leave p)) p)
  leaves may = return_shows g s (set s.words (next_word p) 0) (tale_after_move g t (Leave p)) p (act_told g t (Moves (Leave p)) g.limits told).lawful shows.size o words
      (λ q x n. same_worker g (numbered [] s.lists q) (numbered [] s.lists q) t (tale_after_move g t (Leave p)) q refl (now_q q n) (may_q q n) (shows.workers q x))
    where
      goes_on : (phase : Phase) → can_leave phase ≡ true → wants_nothing phase ≡ false
      goes_on Over h = absurd (true≢false (sym h))
      goes_on Left h = absurd (true≢false (sym h))
      goes_on phase h = refl

      here : a.gone ≡ false
      here = mine.gone ∙ goes_on a.local.phase may

      c : Process
      c = process_after (StoreNext 0) a (record_after_leave a.local)

      u : World
      u = world_with w p c (LeftEvent p ∷ [])

      is : world_after_leave w p ≡ u
      is = ap (λ b. if b then w else (if can_leave a.local.phase then u else w)) here ∙ ap (λ b. if b then u else w) may

      words : set s.words (next_word p) 0 ≡ words_of (tale_after_move g t (Leave p)).processes
      words = ap (λ l. set l (next_word p) 0) shows.words ∙ sym (leave_stores g w told.lawful p o) ∙ ap (λ (y : World). words_of y.processes) (sym is)

      now_q : (q : ℕ) → q ≢ p → process (world_of_tale (tale_after_move g t (Leave p))) q ≡ process w q
      now_q q n = ap (λ (y : World). numbered nobody y.processes q) is ∙ numbered-put_other nobody c t.processes p q n

      may_q : (q : ℕ) → q ≢ p → may_perform q 0 (tale_after_move g t (Leave p)).entries ≡ may_perform q 0 t.entries
      may_q q n = ap (λ (y : World). may_perform q 0 (t.entries ++ entries_for y.history)) is ∙ may-append t.entries (entries_for (LeftEvent p ∷ [])) q 0

  step_shows : Shows g (shared_after_step g s p (standing_at g s p)) (tale_after_all g t (acts_of_step p (standing_at g s p)))
  step_shows = ⊎_elim
      (λ (b : IsBeginning g p heard a). subst (λ x. Shows g (shared_after_step g s p x) (tale_after_all g t (acts_of_step p x))) (sym (beginning_stands b)) (loads_own b))
      (λ (h : IsGoing g p heard a). subst (λ x. Shows g (shared_after_step g s p x) (tale_after_all g t (acts_of_step p x))) (sym h.1) (by h.0 h.1 (wants_nothing a.local.phase) refl))
      mine.stands
    where
      by : (fresh : Bool) → standing_of g p heard ≡ Some (Going (with_record g p a.local) fresh) → (b : Bool) → wants_nothing a.local.phase ≡ b
          → Shows g (if b then s else with_heard s p (heard_of g s.words (want a.local)) (words_after g p (want a.local) s.words)) (tale_after_all g t (if b then [] else Moves (Turn p) ∷ []))
      by fresh e true wants = shows
      by fresh e false wants = turns fresh e wants

  leave_shows : Shows g (shared_after_leave g s p (standing_at g s p)) (tale_after_all g t (acts_of_leave p (standing_at g s p)))
  leave_shows = ⊎_elim
      (λ (b : IsBeginning g p heard a). subst (λ x. Shows g (shared_after_leave g s p x) (tale_after_all g t (acts_of_leave p x))) (sym (beginning_stands b)) shows)
      (λ (h : IsGoing g p heard a). subst (λ x. Shows g (shared_after_leave g s p x) (tale_after_all g t (acts_of_leave p x))) (sym h.1) (by (can_leave a.local.phase) refl))
      mine.stands
    where
      by : (b : Bool) → can_leave a.local.phase ≡ b
          → Shows g (if b then with_new_process s p (set s.words (next_word p) 0) else s) (tale_after_all g t (if b then Moves (Leave p) ∷ Returns p ∷ [] else []))
      by true may = leaves may
      by false may = shows

-- one happening
pub one_shows : (g : Givens) (s : Shared) (t : Tale) (h : Happening) → IsTold g t → Shows g s t → AreOfWorkers g (h ∷ []) → Shows g (shared_after g s h) (tale_after_all g t (acts_of_one g s h))
one_shows g s t (Steps p) told shows o = step_shows g s t told shows p o.0
one_shows g s t (Begins p) told shows o = return_shows g s s.words t p told.lawful shows.size o.0 shows.words (λ q x n. shows.workers q x)
one_shows g s t (Leaves p) told shows o = leave_shows g s t told shows p o.0
