-- Processes by batches are processes by single accesses.
use Rattle.std.proofs.Common.{◌≡◌, ◌≢◌, ⊎_elim, ℕ, ◌≤◌, Bool, true, false, refl, sym, ap, ◌∙◌, subst, arith, List, [], ◌∷◌, ◌++◌, length, slice_index, Option, Some, None}
use Rattle.std.specs.Prelude.{⊤, if◌then◌else◌, set}
use Rattle.std.proofs.lemmas.Bool.{cases_eq}
use Rattle.amo_sets.specs.Lists.{numbered, put}
use Rattle.amo_sets.proofs.Numbers.{numbered-put_same, numbered-put_other, length-put, length-table}
use Rattle.amo_params.specs.Givens.{IsWorker}
use Rattle.amo_kk.specs.Record.{can_leave}
use Rattle.amo_kk.specs.Words.{next_word}
use Rattle.amo_sets.proofs.Tables.{numbered-table}
use Rattle.amo_kk.specs.World.{process}
use Rattle.amo_params.specs.declared.givens.Givens.{Givens}
use Rattle.amo_restart.specs.declared.model.Tale.{Tale}
use Rattle.amo_restart.specs.Return.{world_of_tale, tale_after_all, opening_tale}
use Rattle.amo_restart.proofs.Tales.{IsTold, acts_told, opening_told}
use Rattle.amo_process.specs.declared.model.Happening.{Happening}
use Rattle.amo_process.specs.declared.model.Happening.TheVariants.{Steps, Begins, Leaves}
use Rattle.amo_process.specs.declared.standing.Standing.{Standing}
use Rattle.amo_process.specs.declared.standing.Standing.TheVariants.{Beginning, Going}
use Rattle.amo_process.specs.declared.batch.Item.{Item}
use Rattle.amo_process.specs.declared.batch.Item.TheVariants.{Store, Load, LoadUntilZero}
use Rattle.amo_process.specs.Heard.{standing_of}
use Rattle.amo_process.specs.Shared.{Shared, first_shared, standing_at, shared_after_step, shared_after_leave, with_new_process, shared_after, shared_after_all, shared_of, acts_of_one, told_to_perform, AreOfWorkers, HasNoStep, IsBeginning, IsGoing, Shows}
use Rattle.amo_process.specs.Batch.{items_of, left_after, left_if, left_after_all, carried_out, WantsLeft}
use Rattle.amo_process.specs.Batched.{Batched, first_batched, batch_at, next_items, heard_by, left_or_none, after_access, batched_after, batched_after_all, batched_of}
use Rattle.amo_process.proofs.Together.{beginning_stands, one_shows}
use Rattle.amo_process.proofs.Opening.{first_shows}
use Rattle.amo_process.proofs.Told.{first_of, told_once}
use Rattle.amo_process.proofs.Batches.{carried_first, first_step, more_rests}

-- each worker stands somewhere
pub record Stands (g : Givens) (s : Shared) (p : ℕ) : Type 0 where
  pub at : Standing
  pub is : standing_at g s p ≡ Some at

stands : (g : Givens) (s : Shared) (t : Tale) (p : ℕ) → IsTold g t → (shows : Shows g s t) → (o : IsWorker g p) → Stands g s p
stands g s t p told shows o = ⊎_elim
    (λ (b : IsBeginning g p (numbered [] s.lists p) (process (world_of_tale t) p)). record { at = _; is = beginning_stands g s t told shows p o b })
    (λ (h : IsGoing g p (numbered [] s.lists p) (process (world_of_tale t) p)). record { at = _; is = h.1 })
    (shows.workers p o).stands

-- what is left is what the worker wants
abbrev pub FitsLeft : Givens → ℕ → List Item → Option Standing → Type 0
FitsLeft g p [] o = ⊤
FitsLeft g p (item ∷ items) None = ⊥
FitsLeft g p (item ∷ items) (Some t) = items_of g p t ≡ item ∷ items

pub record AllFit (g : Givens) (b : Batched) : Type 0 where
  pub size : length b.left ≡ g.workers
  pub fits : (p : ℕ) → IsWorker g p → FitsLeft g p (numbered [] b.left p) (standing_at g b.shared p)

wanted_fits : (g : Givens) (p : ℕ) (rest : List Item) (t : Standing) → WantsLeft g p t rest → FitsLeft g p rest (Some t)
wanted_fits g p [] t h = tt
wanted_fits g p (item ∷ items) t h = h

-- so the next items are those of its standing
next_are : (g : Givens) (s : Shared) (p : ℕ) (left : List Item) (t : Standing) → standing_at g s p ≡ Some t → FitsLeft g p left (standing_at g s p) → next_items g s p left ≡ items_of g p t
next_are g s p [] t is h = ap (batch_at g p) is
next_are g s p (item ∷ items) t is h = sym (let z : FitsLeft g p (item ∷ items) (Some t) = subst (λ o. FitsLeft g p (item ∷ items) o) is h in z)

-- the access of these items changes the words and the lists as the first of them
shared_first : (b : Batched) (p : ℕ) (items : List Item) → (after_access b p items).shared ≡ carried_first b.shared p items
shared_first b p [] = refl
shared_first b p (item ∷ items) = refl

step_same : (g : Givens) (b : Batched) (p : ℕ) (t : Standing) → standing_at g b.shared p ≡ Some t → FitsLeft g p (numbered [] b.left p) (standing_at g b.shared p)
    → (batched_after g b (Steps p)).shared ≡ shared_after g b.shared (Steps p)
step_same g b p t is fit =
    shared_first b p (next_items g b.shared p (numbered [] b.left p))
    ∙ ap (carried_first b.shared p) (next_are g b.shared p (numbered [] b.left p) t is fit)
    ∙ sym (first_step g b.shared p t) ∙ ap (shared_after_step g b.shared p) (sym is)

pub one_same : (g : Givens) (b : Batched) (t : Tale) (h : Happening) → IsTold g t → Shows g b.shared t → AreOfWorkers g (h ∷ []) → AllFit g b → (batched_after g b h).shared ≡ shared_after g b.shared h
one_same g b t (Steps p) told shows o fit = let s = stands g b.shared t p told shows o.0 in step_same g b p s.at s.is (fit.fits p o.0)
one_same g b t (Begins p) told shows o fit = refl
one_same g b t (Leaves p) told shows o fit = refl

-- what fitted a worker's list fits it where neither has changed
kept_fits : (g : Givens) (q : ℕ) (left left' : List Item) (heard heard' : List ℕ) → left' ≡ left → heard' ≡ heard → FitsLeft g q left (standing_of g q heard) → FitsLeft g q left' (standing_of g q heard')
kept_fits g q left left' heard heard' l h fit = subst (λ x. FitsLeft g q x (standing_of g q heard')) (sym l) (subst (λ x. FitsLeft g q left (standing_of g q x)) (sym h) fit)

-- the list of the worker, and those of the others, after the first access of an item
own_list : (s : Shared) (p : ℕ) (item : Item) → 1 ≤ p → p ≤ length s.lists → numbered [] (carried_out s p item).lists p ≡ numbered [] s.lists p ++ heard_by s item ∷ []
own_list s p (Store word value) low high = numbered-put_same [] (numbered [] s.lists p ++ 0 ∷ []) s.lists p low high
own_list s p (Load word) low high = numbered-put_same [] (numbered [] s.lists p ++ slice_index s.words word ∷ []) s.lists p low high
own_list s p (LoadUntilZero word last) low high = numbered-put_same [] (numbered [] s.lists p ++ slice_index s.words word ∷ []) s.lists p low high

other_list : (s : Shared) (p q : ℕ) (item : Item) → q ≢ p → numbered [] (carried_out s p item).lists q ≡ numbered [] s.lists q
other_list s p q (Store word value) n = numbered-put_other [] (numbered [] s.lists p ++ 0 ∷ []) s.lists p q n
other_list s p q (Load word) n = numbered-put_other [] (numbered [] s.lists p ++ slice_index s.words word ∷ []) s.lists p q n
other_list s p q (LoadUntilZero word last) n = numbered-put_other [] (numbered [] s.lists p ++ slice_index s.words word ∷ []) s.lists p q n

leave_list : (g : Givens) (s : Shared) (p q : ℕ) (o : Option Standing) → q ≢ p → numbered [] (shared_after_leave g s p o).lists q ≡ numbered [] s.lists q
leave_list g s p q None n = refl
leave_list g s p q (Some (Beginning word)) n = refl
leave_list g s p q (Some (Going l fresh)) n = go (can_leave l.state.phase)
  where
    go : (b : Bool) → numbered [] (if b then with_new_process s p (set s.words (next_word p) 0) else s).lists q ≡ numbered [] s.lists q
    go true = numbered-put_other [] [] s.lists p q n
    go false = refl

-- where p has asked for nothing, or asks anew
nothing_fits : (g : Givens) (b : Batched) (p : ℕ) (s : Shared) → IsWorker g p → AllFit g b → ((q : ℕ) → q ≢ p → numbered [] s.lists q ≡ numbered [] b.shared.lists q)
    → AllFit g (record { shared = s; left = put b.left p [] })
nothing_fits g b p s o fit others =
    record {
      size = length-put [] b.left p ∙ fit.size;
      fits = λ q w. ⊎_elim
          (λ (e : q ≡ p). subst (λ l. FitsLeft g q l (standing_at g s q)) (sym (ap (numbered [] (put b.left p [])) e ∙ numbered-put_same [] [] b.left p o.low (let h = o.high in let z = fit.size in omega arith))) tt)
          (λ (n : q ≢ p). kept_fits g q (numbered [] b.left q) (numbered [] (put b.left p []) q) (numbered [] b.shared.lists q) (numbered [] s.lists q) (numbered-put_other [] [] b.left p q n) (others q n) (fit.fits q w))
          (cases_eq q p);
    }

-- after an access
access_fits : (g : Givens) (b : Batched) (p : ℕ) (t u : Standing) (item : Item) (rest : List Item) → IsWorker g p → length b.shared.lists ≡ g.workers → AllFit g b
    → standing_at g b.shared p ≡ Some t → item ∷ rest ≡ items_of g p t → standing_at g (carried_out b.shared p item) p ≡ Some u → AllFit g (after_access b p (item ∷ rest))
access_fits g b p t u item rest o size fit is items now =
    record {
      size = length-put (left_or_none (left_after (item ∷ rest) (heard_by b.shared item))) b.left p ∙ fit.size;
      fits = λ q w. ⊎_elim
          (λ (e : q ≡ p). subst (λ k. FitsLeft g k (numbered [] (put b.left p (left_or_none (left_after (item ∷ rest) (heard_by b.shared item)))) k) (standing_at g (carried_out b.shared p item) k)) (sym e) mine)
          (λ (n : q ≢ p). kept_fits g q (numbered [] b.left q) (numbered [] (put b.left p (left_or_none (left_after (item ∷ rest) (heard_by b.shared item)))) q) (numbered [] b.shared.lists q) (numbered [] (carried_out b.shared p item).lists q)
          (numbered-put_other [] (left_or_none (left_after (item ∷ rest) (heard_by b.shared item))) b.left p q n) (other_list b.shared p q item n) (fit.fits q w))
          (cases_eq q p);
    }
  where
    v : ℕ
    v = heard_by b.shared item

    list : numbered [] (carried_out b.shared p item).lists p ≡ numbered [] b.shared.lists p ++ heard_by b.shared item ∷ []
    list = own_list b.shared p item o.low (let h = o.high in let z = size in omega arith)

    left_fits : (x : Option (List Item)) → left_after (item ∷ rest) (heard_by b.shared item) ≡ x → FitsLeft g p (left_or_none x) (Some u)
    left_fits None e = tt
    left_fits (Some more) e = wanted_fits g p more u
        (more_rests g p (numbered [] b.shared.lists p) (heard_by b.shared item) [] t u more o is
        (subst (λ l. left_after_all l (heard_by b.shared item ∷ []) ≡ Some more) items (ap (left_if (λ l. Some l)) e))
        (ap (standing_of g p) (sym list) ∙ now)).wants

    mine : FitsLeft g p (numbered [] (put b.left p (left_or_none (left_after (item ∷ rest) (heard_by b.shared item)))) p) (standing_at g (carried_out b.shared p item) p)
    mine =
        subst (λ l. FitsLeft g p l (standing_at g (carried_out b.shared p item) p))
        (sym (numbered-put_same [] (left_or_none (left_after (item ∷ rest) (heard_by b.shared item))) b.left p o.low (let h = o.high in let z = fit.size in omega arith)))
        (subst (λ x. FitsLeft g p (left_or_none (left_after (item ∷ rest) (heard_by b.shared item))) x) (sym now) (left_fits (left_after (item ∷ rest) (heard_by b.shared item)) refl))

step_fits : (g : Givens) (b : Batched) (p : ℕ) (t u : Standing) (items : List Item) → IsWorker g p → length b.shared.lists ≡ g.workers → AllFit g b
    → standing_at g b.shared p ≡ Some t → items ≡ items_of g p t → standing_at g (after_access b p items).shared p ≡ Some u → AllFit g (after_access b p items)
step_fits g b p t u [] o size fit is items now = fit
step_fits g b p t u (item ∷ rest) o size fit is items now = access_fits g b p t u item rest o size fit is items now

one_fits : (g : Givens) (b : Batched) (t : Tale) (h : Happening) → IsTold g t → Shows g b.shared t → AreOfWorkers g (h ∷ []) → AllFit g b → AllFit g (batched_after g b h)
one_fits g b t (Steps p) told shows o fit =
    let s = stands g b.shared t p told shows o.0 in
    let same = one_same g b t (Steps p) told shows o fit in
    let u = stands g (shared_after g b.shared (Steps p)) (tale_after_all g t (acts_of_one g b.shared (Steps p))) p (acts_told g t (acts_of_one g b.shared (Steps p)) g.limits told) (one_shows g b.shared t (Steps p) told shows o) o.0 in
    step_fits g b p s.at u.at (next_items g b.shared p (numbered [] b.left p)) o.0 shows.size fit s.is
    (next_are g b.shared p (numbered [] b.left p) s.at s.is (fit.fits p o.0)) (ap (λ x. standing_at g x p) same ∙ u.is)
one_fits g b t (Begins p) told shows o fit = nothing_fits g b p (shared_after g b.shared (Begins p)) o.0 fit (λ q n. numbered-put_other [] [] b.shared.lists p q n)
one_fits g b t (Leaves p) told shows o fit = nothing_fits g b p (shared_after g b.shared (Leaves p)) o.0 fit (λ q n. leave_list g b.shared p q (standing_at g b.shared p) n)

all_same : (g : Givens) (b : Batched) (t : Tale) (hs : List Happening) → IsTold g t → Shows g b.shared t → AreOfWorkers g hs → AllFit g b → (batched_after_all g b hs).shared ≡ shared_after_all g b.shared hs
all_same g b t [] told shows o fit = refl
all_same g b t (h ∷ hs) told shows o fit =
    let parts = first_of g h hs o in
    let same = one_same g b t h told shows parts.0 fit in
    all_same g (batched_after g b h) (tale_after_all g t (acts_of_one g b.shared h)) hs (acts_told g t (acts_of_one g b.shared h) g.limits told)
    (subst (λ s. Shows g s (tale_after_all g t (acts_of_one g b.shared h))) (sym same) (one_shows g b.shared t h told shows parts.0)) parts.1 (one_fits g b t h told shows parts.0 fit)
    ∙ ap (λ s. shared_after_all g s hs) same

first_fits : (g : Givens) → AllFit g (first_batched g)
first_fits g =
    record {
      size = length-table (λ _. []) g.workers;
      fits = λ q w. subst (λ l. FitsLeft g q l (standing_at g (first_shared g) q)) (sym (numbered-table [] (λ _. []) g.workers q w.low w.high)) tt;
    }

pub always_same : (g : Givens) (hs : List Happening) → AreOfWorkers g hs → (batched_of g hs).shared ≡ shared_of g hs
always_same g hs o = all_same g (first_batched g) (opening_tale g) hs (opening_told g g.limits) (first_shows g) o (first_fits g)

-- a job is handed out once

shared_append : (g : Givens) (s : Shared) (hs more : List Happening) → shared_after_all g s (hs ++ more) ≡ shared_after_all g (shared_after_all g s hs) more
shared_append g s [] more = refl
shared_append g s (h ∷ hs) more = shared_append g (shared_after g s h) hs more

workers_append : (g : Givens) (hs more : List Happening) → AreOfWorkers g hs → AreOfWorkers g more → AreOfWorkers g (hs ++ more)
workers_append g [] more o m = m
workers_append g (Steps p ∷ hs) more o m = (o.0, workers_append g hs more o.1 m)
workers_append g (Begins p ∷ hs) more o m = (o.0, workers_append g hs more o.1 m)
workers_append g (Leaves p ∷ hs) more o m = (o.0, workers_append g hs more o.1 m)

pub batched_once : (g : Givens) (hs more : List Happening) (p q j : ℕ) → AreOfWorkers g hs → AreOfWorkers g more → IsWorker g p → IsWorker g q → 1 ≤ j
    → told_to_perform g (batched_of g hs).shared p ≡ j → told_to_perform g (batched_of g (hs ++ more)).shared q ≡ j → (p ≡ q) × HasNoStep p more
batched_once g hs more p q j o m w x some first second =
    told_once g hs more p q j o m w x some
    (ap (λ s. told_to_perform g s p) (sym (always_same g hs o)) ∙ first)
    (ap (λ s. told_to_perform g s q) (sym (always_same g (hs ++ more) (workers_append g hs more o m) ∙ shared_append g (first_shared g) hs more)) ∙ second)
