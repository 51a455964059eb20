-- A process that loads its worker's own words.
use Rattle.std.proofs.Common.{◌≡◌, ⊎_elim, ℕ, zero, suc, ◌+◌, ◌<◌, ◌≤◌, Bool, true, false, not, ◌&&◌, ◌||◌, refl, sym, ap, ◌∙◌, subst, arith, List, [], ◌∷◌, ◌++◌, length, get_or, take, Some, None}
use Rattle.std.specs.Prelude.{if◌then◌else◌, ◌==◌, nat_le}
use Rattle.std.proofs.lemmas.Bool.{and_from, le-leb, eq-eqb, or_left, or_right}
use Rattle.std.proofs.lemmas.List.{length-take-le, length_push}
use Rattle.amo_sets.specs.Sets.{has, AreDistinct, with_number}
use Rattle.amo_sets.proofs.Numbers.{has-append, has_with_cases}
use Rattle.amo_params.specs.Givens.{IsJob, IsWorker, is_within}
use Rattle.amo_kk.specs.Record.{jobs_in_hand}
use Rattle.amo_kk.specs.Again.{entries_of, set_of, are_new, are_own_words, record_again}
use Rattle.amo_kk.specs.Words.{words_of, next_word, claim_word, done_word}
use Rattle.amo_kk.specs.Lawful.{IsLawful, IsSoundProcess}
use Rattle.amo_kk.specs.World.{nobody, process}
use Rattle.amo_params.specs.declared.givens.Givens.{Givens}
use Rattle.amo_kk.specs.declared.phase.Phase.TheVariants.{Holding}
use Rattle.amo_kk.specs.declared.model.Process.{Process}
use Rattle.amo_kk.specs.declared.model.World.{World}
use Rattle.amo_kk.proofs.Again.{has-set_of}
use Rattle.amo_kk.proofs.Kept.{row_room, numbered_next, not_both}
use Rattle.amo_kk.proofs.RowSums.{front_distinct}
use Rattle.amo_kk.proofs.Words.{AreEven, read_next, read_claim, read_done}
use Rattle.amo_restart.specs.Return.{process_after_return}
use Rattle.amo_restart.proofs.Kept.{entries, hand_cases, counts_empty, announced_held}
use Rattle.amo_process.specs.declared.standing.Standing.TheVariants.{Beginning, Going}
use Rattle.amo_process.specs.Heard.{rest_of, standing_in, standing_of}
use Rattle.amo_process.specs.Shared.{own_words}
use Rattle.amo_process.proofs.Hearing.{with_record}

-- a row up to its first 0, and then 0

rest_none : (row : List ℕ) (i : ℕ) → i ≤ length (entries_of row) → rest_of (take i (entries_of row ++ 0 ∷ [])) ≡ None
rest_none [] zero h = refl
rest_none [] (suc i) h = absurd (omega arith)
rest_none (zero ∷ row) zero h = refl
rest_none (zero ∷ row) (suc i) h = absurd (omega arith)
rest_none (suc j ∷ row) zero h = refl
rest_none (suc j ∷ row) (suc i) h = rest_none row i (omega arith)

rest_all : (row : List ℕ) → rest_of (entries_of row ++ 0 ∷ []) ≡ Some []
rest_all [] = refl
rest_all (zero ∷ row) = refl
rest_all (suc j ∷ row) = rest_all row

entries_all : (row : List ℕ) → entries_of (entries_of row ++ 0 ∷ []) ≡ entries_of row
entries_all [] = refl
entries_all (zero ∷ row) = refl
entries_all (suc j ∷ row) = ap (λ l. suc j ∷ l) (entries_all row)

get_or-zero : (xs : List ℕ) (i : ℕ) → get_or (xs ++ 0 ∷ []) i 0 ≡ get_or xs i 0
get_or-zero [] zero = refl
get_or-zero [] (suc i) = refl
get_or-zero (x ∷ xs) zero = refl
get_or-zero (x ∷ xs) (suc i) = get_or-zero xs i

-- a list of jobs, each another one and none of them known, passes the test
new_from : (g : Givens) (known xs : List ℕ) → AreDistinct xs → ((j : ℕ) → has xs j ≡ true → IsJob g j) → ((j : ℕ) → has xs j ≡ true → has known j ≡ false) → are_new g known xs ≡ true
new_from g known [] d jobs fresh = refl
new_from g known (x ∷ xs) d jobs fresh =
    and_from _ _
    (and_from _ _ (and_from _ _ (le-leb 1 x (jobs x here).low) (le-leb x g.jobs (jobs x here).high)) (isnt (has known x) (fresh x here)))
    (new_from g (with_number x known) xs d.1 (λ j t. jobs j (or_right _ _ t)) (λ j t. none j t (has (with_number x known) j) refl))
  where
    here : ((x == x) || has xs x) ≡ true
    here = or_left _ _ (eq-eqb x x refl)

    isnt : (b : Bool) → b ≡ false → not b ≡ true
    isnt b t = grind arith

    none : (j : ℕ) → has xs j ≡ true → (b : Bool) → has (with_number x known) j ≡ b → has (with_number x known) j ≡ false
    none j t true h = ⊎_elim (λ (e : x ≡ j). not_both _ (subst (λ y. has xs y ≡ true) (sym e) t) d.0) (λ k. not_both _ k (fresh j (or_right _ _ t))) (has_with_cases x known j h)
    none j t false h = h

module _ (g : Givens) (w : World) (law : IsLawful g w) (p : ℕ) (o : IsWorker g p) where
  abbrev a : Process
  a = process w p

  abbrev s : IsSoundProcess g p (process w p)
  s = law.lawful.sound p o

  row_is : entries_of (process w p).row ≡ (process w p).local.dones
  row_is = entries g g.limits (process w) law.lawful p o

  few : length (process w p).local.dones ≤ g.jobs
  few = row_room g (process w) law.lawful p o

  even : AreEven g w.processes nobody
  even i h = (law.lawful.sound (suc i) (record { low = omega arith; high = let e = law.size in omega arith })).row_length

  -- the own words of a lawful world can be so
  pub own_fit : are_own_words g (process w p).next (process w p).claim (entries_of (process w p).row) ≡ true
  own_fit = subst (λ l. are_own_words g (process w p).next (process w p).claim l ≡ true) (sym row_is)
      (and_from _ _ new (and_from _ _ (le-leb _ _ s.next) (⊎_elim
      (λ (empty : jobs_in_hand (process w p).local.phase ≡ []). or_left _ _ (counts_empty g g.limits (process w) law.lawful p o empty))
      (λ h. or_right _ _ (held h.0 h.1))
      (hand_cases (process w p).local.phase))))
    where
      dones_claimed : (j : ℕ) → has (process w p).local.dones j ≡ true → has (process w p).local.claimed j ≡ true
      dones_claimed j h = ap (λ l. has l j) s.local.claims ∙ has-append (process w p).local.dones (jobs_in_hand (process w p).local.phase) j ∙ or_left _ _ h

      new : are_new g [] (process w p).local.dones ≡ true
      new = new_from g [] (process w p).local.dones (front_distinct (process w p).local.dones (jobs_in_hand (process w p).local.phase) (subst (λ l. AreDistinct l) s.local.claims s.local.distinct))
          (λ j t. s.local.jobs j (dones_claimed j t)) (λ j t. refl)

      held : (j : ℕ) → (process w p).local.phase ≡ Holding j
          → (((process w p).claim == length (process w p).local.dones + 1) && (is_within g.jobs (process w p).next && not (has (set_of (process w p).local.dones) (process w p).next))) ≡ true
      held j is =
          and_from _ _ (eq-eqb _ _ (s.claim ∙ ap length (s.local.claims ∙ ap (λ phase. (process w p).local.dones ++ jobs_in_hand phase) is) ∙ length_push (process w p).local.dones j))
          (subst (λ x. (is_within g.jobs x && not (has (set_of (process w p).local.dones) x)) ≡ true) (sym (announced_held g g.limits (process w) law.lawful p o j is))
          (and_from _ _ (and_from _ _ (le-leb 1 j stands.0.low) (le-leb j g.jobs stands.0.high)) (isnt _ (has-set_of (process w p).local.dones j ∙ none (has (process w p).local.dones j) refl))))
        where
          stands : IsJob g j × (has (process w p).local.known j ≡ false) × (has (process w p).local.tried j ≡ false)
          stands = rw is at s.local.stands

          isnt : (b : Bool) → b ≡ false → not b ≡ true
          isnt b t = grind arith

          none : (b : Bool) → has (process w p).local.dones j ≡ b → has (process w p).local.dones j ≡ false
          none true h = not_both _ (s.local.own j h) stands.1
          none false h = h

  -- once all were loaded, it goes on as after a return
  pub begun : standing_of g p (own_words (process w p)) ≡ Some (Going (with_record g p (process_after_return g p (process w p)).local) true)
  begun =
      ap (λ x. standing_in g p (process w p).next (process w p).claim (entries_of (process w p).row ++ 0 ∷ []) x) (rest_all (process w p).row)
      ∙ (λ i. if are_own_words g (process w p).next (process w p).claim (entries_all (process w p).row i)
      then Some (Going (with_record g p (record_again g p (process w p).next (process w p).claim (entries_all (process w p).row i))) true) else None)
      ∙ ap (λ b. if b then Some (Going (with_record g p (process_after_return g p (process w p)).local) true) else None) own_fit

  -- until then it loads the next of them
  pub record BeginsAt (k : ℕ) : Type 0 where
    pub word : ℕ
    pub stands : standing_of g p (take k (own_words (process w p))) ≡ Some (Beginning word)
    pub value : get_or (words_of w.processes) word 0 ≡ get_or (own_words (process w p)) k 0

  pub begins : (k : ℕ) → k < length (own_words (process w p)) → BeginsAt k
  begins zero h = record { word = next_word p; stands = refl; value = read_next g w.processes nobody law.size p o.low o.high }
  begins (suc zero) h = record { word = claim_word g p; stands = refl; value = read_claim g w.processes nobody law.size p o.low o.high }
  begins (suc (suc i)) h =
      record {
        word = done_word g p (i + 1);
        stands = ap (λ x. standing_in g p (process w p).next (process w p).claim (take i (entries_of (process w p).row ++ 0 ∷ [])) x) (rest_none (process w p).row i small)
            ∙ ap (λ n. if nat_le n g.jobs then Some (Beginning (done_word g p (n + 1))) else None) (length-take-le i (entries_of (process w p).row ++ 0 ∷ []) (let e = size in let l = small in omega arith))
            ∙ ap (λ b. if b then Some (Beginning (done_word g p (i + 1))) else None) (le-leb i g.jobs jobs);
        value = read_done g w.processes nobody law.size p (i + 1) even o.low o.high (omega arith) (let l = jobs in omega arith)
            ∙ numbered_next 0 (process w p).row i ∙ s.row i ∙ ap (λ l. get_or l i 0) (sym row_is) ∙ sym (get_or-zero (entries_of (process w p).row) i);
      }
    where
      size : length (entries_of (process w p).row ++ 0 ∷ []) ≡ length (entries_of (process w p).row) + 1
      size = length_push (entries_of (process w p).row) 0

      small : i ≤ length (entries_of (process w p).row)
      small = let e = size in omega arith

      jobs : i ≤ g.jobs
      jobs = let e = ap length row_is in let f = few in let l = small in omega arith
