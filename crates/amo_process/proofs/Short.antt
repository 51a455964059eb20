-- A batch has few items.
use Rattle.std.proofs.Common.{◌≡◌, ◌≢◌, ⊎_elim, ℕ, zero, suc, ◌+◌, ◌-◌, ◌*◌, ◌<◌, ◌≤◌, Bool, true, false, not, sym, arith, List, [], ◌∷◌, length}
use Rattle.std.specs.Prelude.{if◌then◌else◌, ◌==◌, cond}
use Rattle.std.specs.List.{filter, range_with_len}
use Rattle.std.proofs.lemmas.Bool.{true≢false, cases_eq, eq-eqb}
use Rattle.std.proofs.lemmas.List.{length-append, length-map}
use Rattle.amo_params.specs.Givens.{IsWorker}
use Rattle.amo_kk.specs.Step.{want, record_after}
use Rattle.amo_kk.specs.Words.{next_word, claim_word, done_word}
use Rattle.amo_params.specs.declared.givens.Givens.{Givens}
use Rattle.amo_kk.specs.declared.model.Record.{Record}
use Rattle.amo_kk.specs.declared.phase.Want.{Want}
use Rattle.amo_kk.specs.declared.phase.Want.TheVariants.{StoreNext, LoadNext, LoadDone, StoreDone}
use Rattle.amo_process.specs.declared.standing.Standing.{Standing}
use Rattle.amo_process.specs.declared.standing.Standing.TheVariants.{Beginning, Going}
use Rattle.amo_process.specs.declared.batch.Item.TheVariants.{Load, LoadUntilZero}
use Rattle.amo_process.specs.Batch.{others_above, last_word, row_item, loads_above, rows_above, items_wanted, items_from, items_beginning, items_of}

-- numbers without p are no more than all
few : (p a n : ℕ) → length (filter (λ i. not (i == p)) (range_with_len a n)) ≤ n
few p a zero = omega arith
few p a (suc n) = go (filter (λ i. not (i == p)) (range_with_len (a + 1) n)) (few p (a + 1) n) (not (a == p))
  where
    go : (rest : List ℕ) → length rest ≤ n → (b : Bool) → length (cond b (a ∷ rest) rest) ≤ suc n
    go rest h true = omega arith
    go rest h false = omega arith

-- and one less where p is among them
fewer : (p a n : ℕ) → a ≤ p → p < a + n → length (filter (λ i. not (i == p)) (range_with_len a n)) + 1 ≤ n
fewer p a zero low high = absurd (omega arith)
fewer p a (suc n) low high = ⊎_elim
    (λ (e : a ≡ p). here (filter (λ i. not (i == p)) (range_with_len (a + 1) n)) (few p (a + 1) n) (a == p) (eq-eqb a p e))
    (λ (d : a ≢ p). above (filter (λ i. not (i == p)) (range_with_len (a + 1) n)) (fewer p (a + 1) n (omega arith) (omega arith)) (not (a == p)))
    (cases_eq a p)
  where
    here : (rest : List ℕ) → length rest ≤ n → (b : Bool) → b ≡ true → length (cond (not b) (a ∷ rest) rest) + 1 ≤ suc n
    here rest h true e = omega arith
    here rest h false e = absurd (true≢false (sym e))

    above : (rest : List ℕ) → length rest + 1 ≤ n → (b : Bool) → length (cond b (a ∷ rest) rest) + 1 ≤ suc n
    above rest h true = omega arith
    above rest h false = omega arith

module _ (g : Givens) (p : ℕ) (o : IsWorker g p) where
  others_few : (q : ℕ) → length (others_above g p q) ≤ g.workers
  others_few q = let h = few p (q + 1) (g.workers - q) in omega arith

  others_fewer : length (others_above g p 0) + 1 ≤ g.workers
  others_fewer = let low = o.low in let high = o.high in let h = fewer p 1 (g.workers - 0) low (omega arith) in omega arith

  loads_few : (q : ℕ) → length (loads_above g p q) ≤ g.workers
  loads_few q = let e = length-map (others_above g p q) (λ i. Load (next_word i)) in let h = others_few q in omega arith

  rows_few : (fronts : List ℕ) (q : ℕ) → length (rows_above g p fronts q) ≤ g.workers
  rows_few fronts q = let e = length-map (others_above g p q) (row_item g fronts) in let h = others_few q in omega arith

  rows_fewer : (fronts : List ℕ) → length (rows_above g p fronts 0) + 1 ≤ g.workers
  rows_fewer fronts = let e = length-map (others_above g p 0) (row_item g fronts) in let h = others_fewer in omega arith

  wanted_short : (fronts : List ℕ) (x : Want) → length (items_wanted g p fronts x) ≤ 2 * g.workers
  wanted_short fronts (StoreNext j) =
      let e = length-append (loads_above g p 0) (rows_above g p fronts 0) in let a = loads_few 0 in let b = rows_fewer fronts in omega arith
  wanted_short fronts (LoadNext q) =
      let e = length-append (loads_above g p q) (rows_above g p fronts 0) in let a = loads_few q in let b = rows_fewer fronts in omega arith
  wanted_short fronts (LoadDone q k) = let b = rows_few fronts q in let low = o.low in let high = o.high in omega arith
  wanted_short fronts x = let low = o.low in let high = o.high in omega arith

  from_short : (r : Record) (x : Want) → length (items_from g p r x) ≤ 2 * g.workers + 1
  from_short r (StoreDone k j) = let h = wanted_short (record_after g p 0 r).fronts (want (record_after g p 0 r)) in omega arith
  from_short r x = let h = wanted_short r.fronts x in omega arith

  own_short : (word : ℕ) → length (items_beginning g p word) ≤ 2 * g.workers + 1
  own_short word = go (word == next_word p) (word == claim_word g p)
    where
      some : 1 ≤ g.workers
      some = let low = o.low in let high = o.high in omega arith

      go : (b c : Bool) → length (if b then Load word ∷ Load (claim_word g p) ∷ LoadUntilZero (done_word g p 1) (last_word g p) ∷ []
          else if c then Load word ∷ LoadUntilZero (done_word g p 1) (last_word g p) ∷ [] else LoadUntilZero word (last_word g p) ∷ []) ≤ 2 * g.workers + 1
      go true c = let h = some in omega arith
      go false true = let h = some in omega arith
      go false false = omega arith

pub batch_short : (g : Givens) (p : ℕ) (s : Standing) → IsWorker g p → length (items_of g p s) ≤ 2 * g.workers + 1
batch_short g p (Beginning word) o = own_short g p o word
batch_short g p (Going l fresh) o = from_short g p o l.state (want l.state)
