-- The fields of a worker before and after a step.
use Rattle.std.proofs.Common.{◌≡◌, ℕ, zero, suc, ◌+◌, ◌-◌, ◌*◌, ◌/◌, ◌<◌, ◌≤◌, List, [], ◌∷◌, sym, ap, ◌∙◌, subst, arith, Option, Some, true, mul-le-mul_right, suc-mul, slice_get, unwrap_or, drop, get_or}
use Rattle.atomic_table.specs.Seated.{TableId}
use mathlib.Core.Option.{some, some-injective, some-ne-none}
use lib.ListN.{get_elem?}
use Rattle.atomic_table.specs.Table.{rest}
use Rattle.amo_params.specs.Givens.{IsWorker}
use Rattle.amo_kk.specs.Record.{can_leave}
use Rattle.amo_kk.specs.Step.{want, MayLoad}
use Rattle.amo_kk.specs.Words.{claim_word, done_word, word_count}
use Rattle.amo_kk.specs.Machine.{LocalView}
use Rattle.amo_params.specs.declared.givens.Givens.{Givens}
use Rattle.amo_kk.specs.Fits.{WantFits}
use Rattle.amo_kk.proofs.Wants.{want_fits}
use Rattle.amo_kk.proofs.Fit.{after_fit, left_fit}
use Rattle.amo_kk.proofs.Worlds.{leaves_empty}
use Rattle.amo_words.specs.declared.rule.View.{View}
use Rattle.amo_words.specs.Plays.{machine_turned, machine_left, HasTurned, TurnedBy, HasLeft, LeftBy}
use Rattle.amo_words.specs.Faces.{Seated, machine_of, machine, spots_of, spots, IsBook, IsWorking}
use Rattle.amo_words.specs.declared.rule.Spot.{Spot}
use Rattle.amo_kk.specs.Lawful.{IsSoundRecord}
use Rattle.amo_words.specs.declared.rule.Role.TheVariants.{Working}
use Rattle.std.proofs.Math.Nat.{mul-div_cancel}
use Rattle.amo_kk.specs.declared.model.Record.{Record}
use Rattle.amo_kk.specs.declared.phase.Want.{Want}

-- the places of words are within the table

pub next_within : (g : Givens) (p : ℕ) → IsWorker g p → p < word_count g
next_within g p o = let high = o.high in let wide = word_room g in omega arith
  where
    word_room : (g : Givens) → g.workers ≤ g.workers * (g.jobs + 3)
    word_room g = grind arith

-- what holds of a worker's fields v, id and l holds of those after its step
module _ {P : Type 0} (v w : View P) (id id' : TableId) (l l' : LocalView) (is : IsWorking v id l) (same : id' ≡ id) where
  pub turned : (n : ℕ) → TurnedBy v v.role n w → HasTurned v l n w
  turned n h = subst (λ ro. TurnedBy v ro n w) is.role h

  pub left : LeftBy v v.role w → HasLeft v l w
  left h = subst (λ ro. LeftBy v ro w) is.role h

  -- where just the record of l changes, and stays sound
  stays : (r : Record) → w.role ≡ Working (record l { state = r }) → w.givens ≡ v.givens → IsSoundRecord l.givens l.number r → l' ≡ record l { state = r } → IsWorking w id' l'
  stays r role givens sound now = subst (IsWorking w id') (sym now) (record {
    role = role;
    givens = givens ∙ is.givens;
    words = ap (λ t. t.words) same ∙ is.words;
    slots = ap (λ t. t.slots) same ∙ is.slots;
    worker = is.worker;
    sound = sound;
  })

  -- after a turn
  pub working_after : (n : ℕ) → TurnedBy v v.role n w → MayLoad l.givens n (want l.state) → l' ≡ machine_turned l n → IsWorking w id' l'
  working_after n h may now =
      let t = turned n h in
      stays (machine_turned l n).state (ap (λ (u : View P). u.role) t.leads) (ap (λ (u : View P). u.givens) t.leads)
      (after_fit l.givens l.givens.limits l.number is.worker l.state n is.sound may) now

  -- after leaving
  pub working_left : LeftBy v v.role w → can_leave l.state.phase ≡ true → l' ≡ machine_left l → IsWorking w id' l'
  working_left h may now =
      let t = left h in
      stays (machine_left l).state (ap (λ (u : View P). u.role) t.leads) (ap (λ (u : View P). u.givens) t.leads)
      (left_fit l.givens l.givens.limits l.number is.worker l.state (leaves_empty l.state.phase may) is.sound) now

module _ {P : Type 0} (id : TableId) (seat : ℕ) (v : View P) (l : LocalView) (x : Seated P) (is : IsWorking v id l) (seen : (let y : Seated P = record { table_id = id; id = seat; view = v } in y) ≡ x) where
  -- the machine of a worker with these fields
  pub machine_is : machine x ≡ l
  machine_is = ap machine (sym seen) ∙ ap (machine_of v.givens) is.role

  -- what is wanted fits
  pub fits : (y : Want) → want (machine x).state ≡ y → (want l.state ≡ y) × WantFits l.givens l.number y
  fits y wants =
      let same : want l.state ≡ y = ap (λ (m : LocalView). want m.state) (sym machine_is) ∙ wants in
      (same, subst (WantFits l.givens l.number) same (want_fits l.givens l.number l.state l.givens.limits is.worker is.sound))

  -- a word that is one of those of its givens is at its table
  pub at_table : (t : TableId) → x.table_id ≡ t → (i k : ℕ) → i ≡ k → k < word_count l.givens → (id ≡ t) × (i < t.words)
  at_table t here i k e low = let tied = ap (λ (y : Seated P). y.table_id) seen ∙ here in (tied, let n = is.words in let z = ap (λ u. u.words) tied in omega (arith, e, low, n, z))

pub claim_within : (g : Givens) (p : ℕ) → IsWorker g p → claim_word g p < word_count g
claim_within g p o = let high = o.high in let wide = word_room g in omega arith
  where
    word_room : (g : Givens) → 2 * g.workers ≤ g.workers * (g.jobs + 3)
    word_room g = grind arith

rows_within : (q n m : ℕ) → q < m → q * n + n ≤ m * n
rows_within q n m less = let a : suc q * n ≤ m * n = mul-le-mul_right n less in omega (arith, suc-mul q n)

spread : (m n : ℕ) → m * (n + 3) ≡ m * (n + 1) + 2 * m
spread m n = grind arith

pub done_within : (g : Givens) (p k : ℕ) → IsWorker g p → k ≤ g.jobs + 1 → done_word g p k < word_count g
done_within g p k o few = let low = o.low in let high = o.high in
    let rows = rows_within (p - 1) (g.jobs + 1) g.workers (omega arith) in
    let split = spread g.workers g.jobs in
    omega (arith, rows, split, few)

-- lists

pub get_from_at : {A : Type 0} (l : List A) (i : ℕ) (a : A) → get_elem? l i ≡ some a → slice_get l i ≡ Some a
get_from_at [] i a e = absurd (some-ne-none a (sym e))
get_from_at (x ∷ xs) zero a e = ap Some (some-injective x a e)
get_from_at (x ∷ xs) (suc i) a e = get_from_at xs i a e

pub with_rest : {A : Type 0} (l : List (ℕ × A)) (x : ℕ × A) (xs : List (ℕ × A)) → l ≡ x ∷ xs → l ≡ x ∷ rest l
with_rest l x xs e = e ∙ ap (λ z. x ∷ z) (sym (ap rest e))

-- floors of one table have the same number of workers
pub same_workers : (g h : Givens) → word_count g ≡ word_count h → g.jobs ≡ h.jobs → g.workers ≡ h.workers
same_workers g h words jobs = let a : g.workers * (g.jobs + 3) ≡ h.workers * (g.jobs + 3) = omega (arith, words, ap (λ n. h.workers * (n + 3)) jobs) in
    let k : 0 < g.jobs + 3 = omega arith in
    sym (mul-div_cancel g.workers k) ∙ ap (λ n. n / (g.jobs + 3)) a ∙ mul-div_cancel h.workers k

pub some_words : (id id' : TableId) (g : Givens) → id.words ≡ word_count g → id' ≡ id → 0 < id'.words
some_words id id' g words same = let a = ap (λ t. t.words) same in omega (arith, words, a)

-- the spots of a book with these fields
pub spots_are : {P : Type 0} (id : TableId) (seat : ℕ) (v : View P) (g : Givens) (l : List Spot) (room : ℕ) (x : Seated P) → IsBook v id g l room
    → (let y : Seated P = record { table_id = id; id = seat; view = v } in y) ≡ x → spots x ≡ l
spots_are id seat v g l room x is e = ap spots (sym e) ∙ ap spots_of is.role

pub at_from_get : {A : Type 0} (l : List A) (i : ℕ) (a : A) → slice_get l i ≡ Some a → get_elem? l i ≡ some a
at_from_get {A} [] i a e = cc
at_from_get {A} (x ∷ xs) zero a e = let value : Option A → A = λ o. unwrap_or o x in ap some (ap value e)
at_from_get (x ∷ xs) (suc i) a e = at_from_get xs i a e

-- what stands at i, and what comes after it
pub front_of : {A : Type 0} (l : List A) (i : ℕ) (x : A) (ys : List A) → x ∷ ys ≡ drop i l → (get_elem? l i ≡ some x) × (ys ≡ drop (suc i) l)
front_of [] zero x ys e = absurd cc
front_of [] (suc i) x ys e = absurd cc
front_of {A} (z ∷ zs) zero x ys e = let head : List A → A = λ l. get_or l 0 x in let tail : List A → List A = λ l. drop 1 l in (ap some (sym (ap head e)), ap tail e)
front_of (z ∷ zs) (suc i) x ys e = front_of zs i x ys e
