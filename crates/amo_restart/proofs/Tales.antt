-- Every tale is lawful, and its entries are a story of the object, whose state agrees with the
-- workers.
use Rattle.std.proofs.Common.{◌≡◌, ◌≢◌, ⊎_elim, ℕ, Bool, true, false, List, [], ◌∷◌, ◌++◌, length, refl, sym, ap, ◌∙◌, subst, arith, append-nil}
use Rattle.std.specs.Prelude.{if◌then◌else◌, nat_le, ◌==◌}
use Rattle.std.proofs.lemmas.Bool.{cases_eq, and_from, and_parts, eq-eqb, ne_eqb, leb-true}
use Rattle.amo_sets.specs.Lists.{numbered, put}
use Rattle.amo_sets.specs.Sets.{has}
use Rattle.amo_sets.proofs.Numbers.{numbered-put_same, numbered-put_other, length-put}
use Rattle.amo_params.specs.Givens.{AreGivens, IsWorker, is_within}
use Rattle.amo_kk.specs.Object.{first_object, object_after}
use Rattle.amo_kk.specs.Run.{object_after_all, IsRun}
use Rattle.amo_kk.specs.Record.{wants_nothing, is_over, job_in_hand, jobs_in_hand}
use Rattle.amo_kk.specs.Choice.{record_after_choice}
use Rattle.amo_kk.specs.Step.{ended_if_over}
use Rattle.amo_kk.specs.World.{nobody, process, world_after_move, opening_world}
use Rattle.amo_kk.specs.Lawful.{AreLawful, IsLawful, jobs_of, Agrees}
use Rattle.amo_params.specs.declared.givens.Givens.{Givens}
use Rattle.amo_kk.specs.declared.phase.Phase.TheVariants.{Holding}
use Rattle.amo_kk.specs.declared.model.Record.{Record}
use Rattle.amo_kk.specs.declared.model.Process.{Process}
use Rattle.amo_kk.specs.declared.model.Object.{Object}
use Rattle.amo_kk.specs.declared.event.Event.{Event}
use Rattle.amo_params.specs.declared.moves.Move.{Move}
use Rattle.amo_kk.proofs.Choice.{choice_cases}
use Rattle.amo_kk.proofs.Steps.{agrees_put_gone}
use Rattle.amo_kk.proofs.Worlds.{put_here, kept_lawful, move_lawful, opening_lawful}
use Rattle.amo_kk.proofs.Runs.{Goes, move_goes, ending_goes, opening_runs}
use Rattle.amo_restart.specs.declared.model.Act.{Act}
use Rattle.amo_restart.specs.declared.model.Act.TheVariants.{Moves, Returns}
use Rattle.amo_restart.specs.declared.model.Entry.{Entry}
use Rattle.amo_restart.specs.declared.model.Entry.TheVariants.{Returned}
use Rattle.amo_restart.specs.declared.model.Tale.{Tale}
use Rattle.amo_kk.specs.Again.{entries_of, record_of_dones, doubt}
use Rattle.amo_restart.specs.Return.{process_again, process_after_return, world_of_tale, entries_for, tale_after_move, tale_with_return, tale_after_return, tale_after, tale_after_all, opening_tale, tale_of}
use Rattle.amo_restart.specs.Story.{object_after_entry, object_after_entries, IsStory}
use Rattle.amo_restart.proofs.Kept.{hand_cases, empty_hand, entries, counts_empty, counts_held, announced_held, returned_kept}

-- stories one after the other, and runs as stories

pub entries-append : (s : Object) (xs ys : List Entry) → object_after_entries s (xs ++ ys) ≡ object_after_entries (object_after_entries s xs) ys
entries-append s [] ys = refl
entries-append s (x ∷ xs) ys = entries-append (object_after_entry s x) xs ys

pub story-append : (g : Givens) (s : Object) (xs ys : List Entry) → IsStory g s xs → IsStory g (object_after_entries s xs) ys → IsStory g s (xs ++ ys)
story-append g s [] ys h k = k
story-append g s (x ∷ xs) ys h k = (h.0, story-append g (object_after_entry s x) xs ys h.1 k)

pub after-shown : (s : Object) (es : List Event) → object_after_entries s (entries_for es) ≡ object_after_all s es
after-shown s [] = refl
after-shown s (e ∷ es) = after-shown (object_after s e) es

pub story-shown : (g : Givens) (s : Object) (es : List Event) → IsRun g s es → IsStory g s (entries_for es)
story-shown g s [] h = tt
story-shown g s (e ∷ es) h = (h.0, story-shown g (object_after s e) es h.1)

-- some entries from s on, which lead to a state that agrees
pub record Tells (g : Givens) (at : ℕ → Process) (s : Object) (xs : List Entry) : Type 0 where
  pub story : IsStory g s xs
  pub agrees : Agrees g at (object_after_entries s xs)

tells_on : (g : Givens) (at now : ℕ → Process) (s : Object) (xs ys : List Entry) → Tells g at s xs → Tells g now (object_after_entries s xs) ys → Tells g now s (xs ++ ys)
tells_on g at now s xs ys h k = record { story = story-append g s xs ys h.story k.story; agrees = subst (λ x. Agrees g now x) (sym (entries-append s xs ys)) k.agrees }

tells_shown : (g : Givens) (at : ℕ → Process) (s : Object) (es : List Event) → Goes g at s es → Tells g at s (entries_for es)
tells_shown g at s es h = record { story = story-shown g s es h.run; agrees = subst (λ x. Agrees g at x) (sym (after-shown s es)) h.agrees }

-- the moves

move_told_on : (g : Givens) (t : Tale) (m : Move) (s : Object) → AreGivens g → IsLawful g (world_of_tale t) → Agrees g (process (world_of_tale t)) s
    → Goes g (process (world_after_move g (world_of_tale t) m)) s (world_after_move g (world_of_tale t) m).history
move_told_on g t m s ok law agrees =
    let more = move_goes g s (world_of_tale t) m ok law agrees in
    subst (λ l. Goes g (process (world_after_move g (world_of_tale t) m)) s l) (sym more.history) (record { run = more.run; agrees = more.agrees })

-- the returns

-- what a return leaves as it was, and the job d in doubt
pub record IsSame (a b : Process) (d : ℕ) : Type 0 where
  pub claimed : b.local.claimed ≡ a.local.claimed
  pub done : b.local.dones ≡ a.local.dones
  pub held : job_in_hand b.local.phase ≡ job_in_hand a.local.phase
  pub in_doubt : d ≡ job_in_hand a.local.phase
  pub rests : wants_nothing b.local.phase ≡ is_over b.local.phase

-- the process a with the record x
abbrev with_record : Process → Record → Process
with_record a x = record a { local = x; gone = wants_nothing x.phase }

-- the record after a return, by the test whether nothing is in hand
abbrev record_by : Givens → ℕ → Process → Bool → Record
record_by g p a b =
    if b
    then record_after_choice g p (record_of_dones g a.local.dones)
    else record (record_of_dones g a.local.dones) { phase = Holding a.next; claimed = a.local.dones ++ a.next ∷ [] }

abbrev SameBy : Givens → ℕ → Process → Bool → Type 0
SameBy g p a b = IsSame a (with_record a (record_by g p a b)) (if b then 0 else a.next)

module _ (g : Givens) (ok : AreGivens g) (at : ℕ → Process) (before : AreLawful g at) (p : ℕ) (w : IsWorker g p) where
  same_empty : jobs_in_hand (at p).local.phase ≡ [] → SameBy g p (at p) true
  same_empty empty = choice_cases g p (record_of_dones g (at p).local.dones) (λ x. IsSame (at p) (with_record (at p) x) 0)
      (λ _. record { claimed = list; done = refl; held = sym none; in_doubt = sym none; rests = refl })
      (λ _. record { claimed = list; done = refl; held = sym none; in_doubt = sym none; rests = refl })
    where
      list : (at p).local.dones ≡ (at p).local.claimed
      list = sym ((before.sound p w).local.claims ∙ ap (λ l. (at p).local.dones ++ l) empty ∙ append-nil (at p).local.dones)

      none : job_in_hand (at p).local.phase ≡ 0
      none = empty_hand (at p).local.phase empty

  same_held : (j : ℕ) → (at p).local.phase ≡ Holding j → SameBy g p (at p) false
  same_held j is =
      let e = announced_held g ok at before p w j is in
      record {
        claimed = ap (λ y. (at p).local.dones ++ y ∷ []) e ∙ sym ((before.sound p w).local.claims ∙ ap (λ phase. (at p).local.dones ++ jobs_in_hand phase) is);
        done = refl;
        held = e ∙ sym (ap job_in_hand is);
        in_doubt = e ∙ sym (ap job_in_hand is);
        rests = refl;
      }

  same_dones : SameBy g p (at p) ((at p).claim == length (at p).local.dones)
  same_dones = ⊎_elim
      (λ (empty : jobs_in_hand (at p).local.phase ≡ []). subst (λ b. SameBy g p (at p) b) (sym (counts_empty g ok at before p w empty)) (same_empty empty))
      (λ (h : (j : ℕ) × ((at p).local.phase ≡ Holding j)). subst (λ b. SameBy g p (at p) b) (sym (counts_held g ok at before p w h.0 h.1)) (same_held h.0 h.1))
      (hand_cases (at p).local.phase)

  pub same : IsSame (at p) (process_after_return g p (at p)) (doubt (at p).next (at p).claim (entries_of (at p).row))
  same = subst (λ l. IsSame (at p) (process_again g p (at p) l) (doubt (at p).next (at p).claim l)) (sym (entries g ok at before p w)) same_dones

-- what holds of every tale
pub record IsTold (g : Givens) (t : Tale) : Type 0 where
  pub lawful : IsLawful g (world_of_tale t)
  pub story : IsStory g (first_object g) t.entries
  pub agrees : Agrees g (process (world_of_tale t)) (object_after_entries (first_object g) t.entries)

move_told : (g : Givens) (t : Tale) (m : Move) → AreGivens g → IsTold g t → IsTold g (tale_after_move g t m)
move_told g t m ok told =
    let s = object_after_entries (first_object g) t.entries in
    let w = world_after_move g (world_of_tale t) m in
    let law = move_lawful g (world_of_tale t) m ok told.lawful in
    let all : Tells g (process w) (first_object g) (t.entries ++ entries_for w.history)
    = tells_on g (process (world_of_tale t)) (process w) (first_object g) t.entries (entries_for w.history) (record { story = told.story; agrees = told.agrees })
    (tells_shown g (process w) s w.history (move_told_on g t m s ok told.lawful told.agrees)) in
    record { lawful = record { size = law.size; lawful = law.lawful }; story = all.story; agrees = all.agrees }

with_return_told : (g : Givens) (t : Tale) (p : ℕ) → AreGivens g → IsWorker g p → is_within g.workers p ≡ true → IsTold g t → IsTold g (tale_with_return g t p (process (world_of_tale t) p))
with_return_told g t p ok o within told = record { lawful = law; story = all.story; agrees = all.agrees }
  where
    at : ℕ → Process
    at = process (world_of_tale t)

    b : Process
    b = process_after_return g p (process (world_of_tale t) p)

    v : Tale
    v = tale_with_return g t p (process (world_of_tale t) p)

    s : Object
    s = object_after_entries (first_object g) t.entries

    d : ℕ
    d = doubt (process (world_of_tale t) p).next (process (world_of_tale t) p).claim (entries_of (process (world_of_tale t) p).row)

    is : IsSame (process (world_of_tale t) p) (process_after_return g p (process (world_of_tale t) p)) (doubt (process (world_of_tale t) p).next (process (world_of_tale t) p).claim (entries_of (process (world_of_tale t) p).row))
    is = same g ok (process (world_of_tale t)) told.lawful.lawful p o

    law : IsLawful g (world_of_tale v)
    law = kept_lawful g (world_of_tale t) (world_of_tale v) p b told.lawful o (returned_kept g ok (process (world_of_tale t)) told.lawful.lawful p o) refl

    now_p : process (world_of_tale v) p ≡ b
    now_p = put_here g (world_of_tale t) p b told.lawful.size o

    now_q : (q : ℕ) → q ≢ p → process (world_of_tale v) q ≡ process (world_of_tale t) q
    now_q q n = numbered-put_other nobody b t.processes p q n

    -- before it is over
    stay : Process
    stay = record b { gone = false }

    mid : ℕ → Process
    mid q = if q == p then stay else process (world_of_tale t) q

    mid_p : mid p ≡ stay
    mid_p = ap (λ c. if c then stay else process (world_of_tale t) p) (eq-eqb p p refl)

    mid_q : (q : ℕ) → q ≢ p → mid q ≡ process (world_of_tale t) q
    mid_q q n = ap (λ c. if c then stay else process (world_of_tale t) q) (ne_eqb q p n)

    back : Object
    back = record s { gone = put s.gone p false }

    back_agrees : Agrees g mid back
    back_agrees = agrees_put_gone g (process (world_of_tale t)) p o stay mid mid_p mid_q s told.agrees is.claimed is.done is.held false refl

    last : Goes g (process (world_of_tale v)) back (ended_if_over p b.local.phase)
    last = ending_goes g mid back p b (process (world_of_tale v)) ok law.lawful o back_agrees (ap (λ (y : Process). y.gone) mid_p) mid_p is.rests now_p (λ q n. now_q q n ∙ sym (mid_q q n))

    after : Tells g (process (world_of_tale v)) back (entries_for (ended_if_over p b.local.phase))
    after = tells_shown g (process (world_of_tale v)) back (ended_if_over p b.local.phase) last

    both : Tells g (process (world_of_tale v)) s (Returned p d ∷ entries_for (ended_if_over p b.local.phase))
    both = record { story = (and_from _ _ within (eq-eqb _ _ (told.agrees.in_hand p o ∙ sym is.in_doubt)), after.story); agrees = after.agrees }

    all : Tells g (process (world_of_tale v)) (first_object g) (t.entries ++ Returned p d ∷ entries_for (ended_if_over p b.local.phase))
    all = tells_on g (process (world_of_tale t)) (process (world_of_tale v)) (first_object g) t.entries (Returned p d ∷ entries_for (ended_if_over p b.local.phase)) (record { story = told.story; agrees = told.agrees }) both

return_told : (g : Givens) (t : Tale) (p : ℕ) → AreGivens g → IsTold g t → IsTold g (tale_after_return g t p)
return_told g t p ok told = go (is_within g.workers p) refl
  where
    go : (c : Bool) → is_within g.workers p ≡ c → IsTold g (if c then tale_with_return g t p (process (world_of_tale t) p) else t)
    go false e = told
    go true e =
        let a = and_parts (nat_le 1 p) (nat_le p g.workers) e in
        with_return_told g t p ok (record { low = leb-true 1 p a.0; high = leb-true p g.workers a.1 }) e told

pub act_told : (g : Givens) (t : Tale) (x : Act) → AreGivens g → IsTold g t → IsTold g (tale_after g t x)
act_told g t (Moves m) ok told = move_told g t m ok told
act_told g t (Returns p) ok told = return_told g t p ok told

pub acts_told : (g : Givens) (t : Tale) (xs : List Act) → AreGivens g → IsTold g t → IsTold g (tale_after_all g t xs)
acts_told g t [] ok told = told
acts_told g t (x ∷ xs) ok told = acts_told g (tale_after g t x) xs ok (act_told g t x ok told)

pub opening_told : (g : Givens) → AreGivens g → IsTold g (opening_tale g)
opening_told g ok =
    let law = opening_lawful g ok in
    let run = opening_runs g ok in
    record {
      lawful = record { size = law.size; lawful = law.lawful };
      story = story-shown g (first_object g) (opening_world g).history run.0;
      agrees = subst (λ x. Agrees g (process (opening_world g)) x) (sym (after-shown (first_object g) (opening_world g).history)) run.1;
    }

pub always_told : (g : Givens) (xs : List Act) → IsTold g (tale_of g xs)
always_told g xs = acts_told g (opening_tale g) xs g.limits (opening_told g g.limits)
