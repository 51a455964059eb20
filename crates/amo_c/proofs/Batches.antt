-- The reply for a batch repeats the replies for its accesses.
use Rattle.std.proofs.Common.{◌≡◌, ℕ, zero, suc, Bool, true, false, refl, sym, ap, subst, arith, List, [], ◌∷◌, ◌++◌, Option, Some, None, Result, Ok, Err}
use Rattle.std.specs.Prelude.{if◌then◌else◌, ◌==◌, map}
use Rattle.std.specs.List.{All}
use Rattle.std.proofs.lemmas.Bool.{true≢false}
use Rattle.std.specs.Result.{is_ok, result_ok}
use Rattle.amo_params.specs.Givens.{IsWorker, is_within}
use Rattle.amo_params.specs.declared.givens.Givens.{Givens}
use Rattle.amo_kk.specs.Step.{want, is_load}
use Rattle.amo_kk.specs.Words.{next_word, claim_word, done_word, word_count}
use Rattle.amo_kk.specs.declared.phase.Want.{Want}
use Rattle.amo_kk.specs.declared.phase.Want.TheVariants.{StoreNext, LoadNext, LoadDone, StoreClaim, StoreDone, Nothing}
use Rattle.amo_process.specs.declared.standing.Standing.{Standing}
use Rattle.amo_process.specs.declared.standing.Standing.TheVariants.{Beginning, Going}
use Rattle.amo_process.specs.declared.batch.Item.{Item}
use Rattle.amo_process.specs.declared.batch.Item.TheVariants.{Store, Load, LoadUntilZero}
use Rattle.amo_process.specs.Heard.{standing_of}
use Rattle.amo_process.specs.Stepped.{access_for}
use Rattle.amo_process.specs.Batch.{last_word, items_from, items_of, left_after_all, wants_load, IsWithin, AreWithin}
use Rattle.amo_process.proofs.Batches.{rest_wanted}
use Rattle.amo_process.proofs.Within.{batch_within}
use Rattle.amo_c.specs.Codes.{access_code, kind_of, phase_of}
use Rattle.amo_c.specs.Told.{told_of, next_of}
use Rattle.amo_c.specs.Reply.{worker_in, standing_or_fault, words_in}
use Rattle.amo_c.specs.declared.codes.FaultCode.{FaultCode}
use Rattle.amo_c.specs.declared.codes.FaultCode.TheVariants.{NoSuchWorker}
use Rattle.amo_c.specs.declared.codes.AccessCode.TheVariants.{Load as ToLoad}
use Rattle.amo_c.specs.declared.told.AmoNext.{AmoNext}
use Rattle.amo_c.specs.declared.worker.Worker.{Worker}
use Rattle.amo_c.specs.Batch.{item_told, batch_of, IsBelow, Tells}

-- the first item

abbrev FirstTells : AmoNext → List Item → Type 0
FirstTells n [] = Unit {0}
FirstTells n (item ∷ items) = Tells n (item_told item)

first_tells : (w : Worker) (t : Standing) → FirstTells (next_of w t) (items_of w.givens w.number t)
first_tells w (Beginning word) = go (word == next_word w.number) (word == claim_word w.givens w.number)
  where
    go : (b c : Bool) → FirstTells (next_of w (Beginning word))
        (if b then Load word ∷ Load (claim_word w.givens w.number) ∷ LoadUntilZero (done_word w.givens w.number 1) (last_word w.givens w.number) ∷ []
        else if c then Load word ∷ LoadUntilZero (done_word w.givens w.number 1) (last_word w.givens w.number) ∷ []
        else LoadUntilZero word (last_word w.givens w.number) ∷ [])
    go true c = record { access = refl; word = refl; value = refl }
    go false true = record { access = refl; word = refl; value = refl }
    go false false = record { access = refl; word = refl; value = refl }
first_tells w (Going l fresh) = go (want l.state)
  where
    told : Want → AmoNext
    told x = record (next_of w (Going l fresh)) {
      access = (told_of (access_for w.givens w.number x) (phase_of l.state.phase)).access;
      word = (told_of (access_for w.givens w.number x) (phase_of l.state.phase)).word;
      value = (told_of (access_for w.givens w.number x) (phase_of l.state.phase)).value;
    }

    go : (x : Want) → FirstTells (told x) (items_from w.givens w.number l.state x)
    go (StoreNext j) = record { access = refl; word = refl; value = refl }
    go (LoadNext q) = record { access = refl; word = refl; value = refl }
    go (LoadDone q k) = record { access = refl; word = refl; value = refl }
    go (StoreClaim c j) = record { access = refl; word = refl; value = refl }
    go (StoreDone k j) = record { access = refl; word = refl; value = refl }
    go Nothing = tt

-- the access of the reply if an item is left
pub rest_told : (w : Worker) (heard more : List ℕ) (s t : Standing) (item : Item) (rest : List Item) → IsWorker w.givens w.number
    → standing_of w.givens w.number heard ≡ Some s → left_after_all (items_of w.givens w.number s) more ≡ Some (item ∷ rest)
    → standing_of w.givens w.number (heard ++ more) ≡ Some t → Tells (next_of w t) (item_told item)
rest_told w heard more s t item rest o stands left after =
    subst (λ l. FirstTells (next_of w t) l) (rest_wanted w.givens w.number heard more s t (item ∷ rest) o stands left after) (first_tells w t)

no_load : (w : Worker) (x : Want) → is_load x ≡ false → access_code (kind_of (access_for w.givens w.number x)) ≡ 1 → ⊥
no_load w (StoreNext j) h e = omega arith
no_load w (LoadNext q) h e = true≢false h
no_load w (LoadDone q k) h e = true≢false h
no_load w (StoreClaim c j) h e = omega arith
no_load w (StoreDone k j) h e = omega arith
no_load w Nothing h e = omega arith

-- if no item is left, the reply has no load
pub end_told : (w : Worker) (heard more : List ℕ) (s t : Standing) → IsWorker w.givens w.number
    → standing_of w.givens w.number heard ≡ Some s → left_after_all (items_of w.givens w.number s) more ≡ Some []
    → standing_of w.givens w.number (heard ++ more) ≡ Some t → (next_of w t).access ≡ access_code ToLoad → ⊥
end_told w heard more s t o stands left after = go t (rest_wanted w.givens w.number heard more s t [] o stands left after)
  where
    go : (x : Standing) → wants_load x ≡ false → (next_of w x).access ≡ access_code ToLoad → ⊥
    go (Beginning word) h e = true≢false h
    go (Going l fresh) h e = no_load w (want l.state) h e

-- the words

one_below : (w : Worker) (item : Item) → IsWithin w.givens item → IsBelow (word_count w.givens) (item_told item)
one_below w (Store word value) h = record { word = h; row = λ e. absurd (let x : 2 ≡ 3 = e in omega arith) }
one_below w (Load word) h = record { word = h; row = λ e. absurd (let x : 1 ≡ 3 = e in omega arith) }
one_below w (LoadUntilZero word last) h = record { word = (let x = h.0 in let y = h.1 in omega arith); row = λ e. h }

items_below : (w : Worker) (items : List Item) → AreWithin w.givens items → All (IsBelow (word_count w.givens)) (map item_told items)
items_below w [] h k d l = absurd (omega arith)
items_below w (item ∷ items) h zero d l = one_below w item h.0
items_below w (item ∷ items) h (suc k) d l = items_below w items h.1 k d (omega arith)

pub told_below : (w : Worker) (heard : List ℕ) (s : Standing) → IsWorker w.givens w.number → standing_of w.givens w.number heard ≡ Some s
    → All (IsBelow (word_count w.givens)) (batch_of w s)
told_below w heard s o stands = items_below w (items_of w.givens w.number s) (batch_within w.givens w.number heard s o stands)

-- the givens of a worker are those of the three numbers
abbrev givens_counted : Result Worker FaultCode → ℕ
givens_counted (Ok w) = word_count w.givens
givens_counted (Err e) = 0

pub words_are : (r : Result Givens FaultCode) (p : ℕ) (w : Worker) → worker_in r p ≡ Ok w → words_in r ≡ word_count w.givens
words_are (Ok g) p w e = go (is_within g.workers p) e
  where
    go : (b : Bool) → (if b then Ok (record { givens = g; number = p }) else Err NoSuchWorker) ≡ Ok w → word_count g ≡ word_count w.givens
    go true e = ap givens_counted e
    go false e = absurd (true≢false (sym (ap is_ok e)))
words_are (Err fault) p w e = absurd (true≢false (sym (ap is_ok e)))

pub stands_so : (o : Option Standing) (s : Standing) → standing_or_fault o ≡ Ok s → o ≡ Some s
stands_so (Some t) s e = ap result_ok e
stands_so None s e = absurd (true≢false (sym (ap is_ok e)))
