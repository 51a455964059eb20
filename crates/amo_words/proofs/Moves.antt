-- The duty of each kind of a worker's step towards the table, which may still be opening.
use Rattle.std.proofs.Common.{◌≡◌, ℕ, ◌-◌, ◌<◌, List, set, ap, Option, true, false, []}
use mathlib.Core.Option.{none, some}
use lib.ListN.{get_elem?}
use Rattle.atomic_table.specs.Table.{Me, step, Allows, Splits, Joins}
use Rattle.amo_kk.specs.Record.{can_leave}
use Rattle.amo_kk.specs.Step.{want, is_load, is_store}
use Rattle.amo_kk.specs.Words.{next_word, loaded_word, words_after}
use Rattle.amo_kk.specs.Machine.{LocalView}
use Rattle.amo_kk.specs.declared.phase.Want.{Want}
use Rattle.amo_kk.specs.declared.phase.Want.TheVariants.{StoreClaim}
use Rattle.amo_words.specs.declared.rule.Role.TheVariants.{Keeping, Working}
use Rattle.amo_words.specs.declared.rule.Spot.{Spot}
use Rattle.amo_words.specs.declared.rule.Spot.TheVariants.{Home}
use Rattle.amo_words.specs.declared.rule.View.{View}
use Rattle.amo_words.specs.declared.rule.Key.{Key}
use Rattle.amo_words.specs.Rule.{IsKept, spent_view}
use Rattle.amo_words.specs.Plays.{told_by_store, told_by_load, told_by_claim, told_by_leave, told_by_meeting, book_left, worker_right, shed_left, shed_right, both_views}
use Rattle.amo_words.proofs.Lifts.{is_placing, lift_allows, lift_splits, lift_joins}
use Rattle.amo_words.proofs.Steps as steps
use Rattle.amo_words.proofs.Seats as seats
use Rattle.amo_kk.proofs.Wants.{is_claim}

module _ {P : Type 0} (k : Key P) (slots id : ℕ) (me : Me (Option P) (View P)) (l : LocalView) (is : me.0.role ≡ Working l) where
  pub stores : (i new : ℕ) (x : Want) → want l.state ≡ x → is_store x ≡ true → is_claim x ≡ false → ((words : List ℕ) → set words i new ≡ words_after l.givens l.number x words)
      → Allows (IsKept k) slots id me i (λ _. new) (λ _. told_by_store (step slots i new 0 none) me new)
  stores i new x a b c d = lift_allows k slots id me i (λ _. new) (λ _. told_by_store (step slots i new 0 none) me new) (ap is_placing is) (steps.stores k slots id me l is i new x a b c d)

  pub loads : (i : ℕ) → is_load (want l.state) ≡ true → i ≡ loaded_word l.givens (want l.state) → Allows (IsKept k) slots id me i (λ n. n) (told_by_load (step slots i 0 0 none) me)
  loads i a b = lift_allows k slots id me i (λ n. n) (told_by_load (step slots i 0 0 none) me) (ap is_placing is) (steps.loads k slots id me l is i a b)

  pub claims : (i c j : ℕ) → want l.state ≡ StoreClaim c j → ((words : List ℕ) → set words i c ≡ words_after l.givens l.number (StoreClaim c j) words)
      → Allows (IsKept k) slots id me i (λ _. c) (λ _. told_by_claim (step slots i c 0 none) me c)
  claims i c j a b = lift_allows k slots id me i (λ _. c) (λ _. told_by_claim (step slots i c 0 none) me c) (ap is_placing is) (steps.claims k slots id me l is i c j a b)

  pub leaves : (i : ℕ) → can_leave l.state.phase ≡ true → i ≡ next_word l.number → Allows (IsKept k) slots id me i (λ _. 0) (λ _. told_by_leave (step slots i 0 0 none) me 0)
  leaves i a b = lift_allows k slots id me i (λ _. 0) (λ _. told_by_leave (step slots i 0 0 none) me 0) (ap is_placing is) (steps.leaves k slots id me l is i a b)

module _ {P : Type 0} (k : Key P) where
  pub hires : (id p : ℕ) (v : View P) (spots : List Spot) → v.role ≡ Keeping spots → 0 < p → get_elem? spots (p - 1) ≡ some Home → Splits (IsKept k) id v (book_left p v) (worker_right p v)
  hires id p v spots is a b = lift_splits k id v (book_left p v) (worker_right p v) (ap is_placing is) (seats.hires k id p v spots is a b)

  pub sheds : (id : ℕ) (v : View P) (l : LocalView) → v.role ≡ Working l → Splits (IsKept k) id v (shed_left v) (shed_right v)
  sheds id v l is = lift_splits k id v (shed_left v) (shed_right v) (ap is_placing is) (seats.sheds k id v l is)

  pub joins : (id : ℕ) (v : View P) (spots : List Spot) (other : ℕ) (w : View P) (l : LocalView) → v.role ≡ Keeping spots → v.moves ≡ [] → w.role ≡ Working l → Joins (IsKept k) id v other w (both_views v w) spent_view
  joins id v spots other w l is moves js = lift_joins k id v other w (both_views v w) spent_view (ap is_placing is) (seats.joins k id v spots other w l is moves js)

  pub meets : (slots id : ℕ) (me : Me (Option P) (View P)) (spots : List Spot) → me.0.role ≡ Keeping spots → Allows (IsKept k) slots id me 0 (λ n. n) (told_by_meeting (step slots 0 0 0 none) me)
  meets slots id me spots is = lift_allows k slots id me 0 (λ n. n) (told_by_meeting (step slots 0 0 0 none) me) (ap is_placing is) (seats.meets k slots id me spots is)
