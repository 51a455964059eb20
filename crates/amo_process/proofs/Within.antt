-- The words of a batch are shared words.
use Rattle.std.proofs.Common.{◌≡◌, ℕ, zero, suc, ◌+◌, ◌-◌, ◌*◌, ◌<◌, ◌≤◌, Bool, true, false, not, refl, sym, ap, ◌∙◌, subst, arith, List, [], ◌∷◌, ◌++◌, length, Some}
use Rattle.std.specs.Prelude.{◌==◌, map, cond}
use Rattle.std.specs.List.{filter, range_with_len}
use Rattle.std.proofs.lemmas.Nat.{mul-add-lt}
use Rattle.amo_sets.specs.Lists.{numbered}
use Rattle.amo_params.specs.Givens.{IsWorker}
use Rattle.amo_kk.specs.Fits.{WantFits}
use Rattle.amo_kk.specs.Step.{want, record_after, MayLoad}
use Rattle.amo_kk.specs.Words.{next_word, claim_word, done_word}
use Rattle.amo_kk.specs.Lawful.{IsSoundRecord}
use Rattle.amo_params.specs.declared.givens.Givens.{Givens}
use Rattle.amo_kk.specs.declared.model.Record.{Record}
use Rattle.amo_kk.specs.declared.phase.Want.{Want}
use Rattle.amo_kk.specs.declared.phase.Want.TheVariants.{StoreNext, LoadNext, LoadDone, StoreClaim, StoreDone, Nothing}
use Rattle.amo_kk.proofs.Fit.{after_fit}
use Rattle.amo_kk.proofs.Wants.{want_fits}
use Rattle.amo_process.specs.declared.standing.Standing.{Standing}
use Rattle.amo_process.specs.declared.standing.Standing.TheVariants.{Beginning, Going}
use Rattle.amo_process.specs.declared.batch.Item.{Item}
use Rattle.amo_process.specs.declared.batch.Item.TheVariants.{Load, LoadUntilZero}
use Rattle.amo_process.specs.Heard.{standing_of}
use Rattle.amo_process.specs.Batch.{last_word, row_item, loads_above, rows_above, items_wanted, items_from, items_beginning, items_of, IsWithin, AreWithin}
use Rattle.amo_process.proofs.Hearing.{going_sound}
use Rattle.amo_process.proofs.Batches.{row_beginning, at_next, at_claim, at_row, word_in}

-- the places of words

wide : (m n : ℕ) → m * (n + 3) ≡ (n + 1) * m + 2 * m
wide m n = grind arith

low_within : (m n w : ℕ) → w ≤ 2 * m → w < m * (n + 3) + 1
low_within m n w h = omega (arith, wide m n)

done_within : (m n q k : ℕ) → 1 ≤ q → q ≤ m → k ≤ n + 1 → 2 * m + (q - 1) * (n + 1) + k < m * (n + 3) + 1
done_within m n q k low high few = omega (arith, wide m n, mul-add-lt (q - 1) (n + 1) (k - 1) m (omega arith) (omega arith))

both : (g : Givens) (xs ys : List Item) → AreWithin g xs → AreWithin g ys → AreWithin g (xs ++ ys)
both g [] ys a b = b
both g (x ∷ xs) ys a b = (a.0, both g xs ys a.1 b)

above_within : (g : Givens) (f : ℕ → Item) (t : ℕ → Bool) (a n : ℕ) → ((i : ℕ) → IsWorker g i → IsWithin g (f i)) → 1 ≤ a → ((i : ℕ) → a ≤ i → i < a + n → i ≤ g.workers)
    → AreWithin g (map f (filter t (range_with_len a n)))
above_within g f t a zero each low high = tt
above_within g f t a (suc n) each low high =
    go (each a (record { low = low; high = high a (omega arith) (omega arith) })) (above_within g f t (a + 1) n each (omega arith) (λ i x y. high i (omega arith) (omega arith))) (t a)
  where
    go : IsWithin g (f a) → AreWithin g (map f (filter t (range_with_len (a + 1) n))) → (b : Bool) → AreWithin g (map f (cond b (a ∷ filter t (range_with_len (a + 1) n)) (filter t (range_with_len (a + 1) n))))
    go here rest true = (here, rest)
    go here rest false = rest

row_within : (g : Givens) (q k : ℕ) → IsWorker g q → k ≤ g.jobs + 1 → IsWithin g (LoadUntilZero (done_word g q k) (last_word g q))
row_within g q k o few = (omega arith, done_within g.workers g.jobs q (g.jobs + 1) o.low o.high (omega arith))

module _ (g : Givens) (p : ℕ) (o : IsWorker g p) where
  loads_within : (q : ℕ) → AreWithin g (loads_above g p q)
  loads_within q = above_within g (λ i. Load (next_word i)) (λ i. not (i == p)) (q + 1) (g.workers - q) (λ i w. low_within g.workers g.jobs i (let h = w.high in omega arith)) (omega arith) (λ i x y. omega arith)

  rows_within : (fronts : List ℕ) (q : ℕ) → ((i : ℕ) → numbered 0 fronts i ≤ g.jobs) → AreWithin g (rows_above g p fronts q)
  rows_within fronts q front = above_within g (row_item g fronts) (λ i. not (i == p)) (q + 1) (g.workers - q) (λ i w. row_within g i (numbered 0 fronts i + 1) w (let h = front i in omega arith)) (omega arith) (λ i x y. omega arith)

  wanted_within : (fronts : List ℕ) (x : Want) → WantFits g p x → ((i : ℕ) → numbered 0 fronts i ≤ g.jobs) → AreWithin g (items_wanted g p fronts x)
  wanted_within fronts (StoreNext j) fit front = (low_within g.workers g.jobs p (let h = o.high in omega arith), both g (loads_above g p 0) (rows_above g p fronts 0) (loads_within 0) (rows_within fronts 0 front))
  wanted_within fronts (LoadNext q) fit front = (low_within g.workers g.jobs q (let h = fit.worker.high in omega arith), both g (loads_above g p q) (rows_above g p fronts 0) (loads_within q) (rows_within fronts 0 front))
  wanted_within fronts (LoadDone q k) fit front = (row_within g q k fit.0.worker fit.2, rows_within fronts q front)
  wanted_within fronts (StoreClaim c j) fit front = (low_within g.workers g.jobs (claim_word g p) (let h = o.high in omega arith), tt)
  wanted_within fronts (StoreDone k j) fit front = (done_within g.workers g.jobs p k o.low o.high (let h = fit.2 in omega arith), tt)
  wanted_within fronts Nothing fit front = tt

  from_within : (r : Record) → IsSoundRecord g p r → (x : Want) → want r ≡ x → AreWithin g (items_from g p r x)
  from_within r fit (StoreDone k j) is =
      let next = after_fit g g.limits p o r 0 fit (subst (λ x. MayLoad g 0 x) (sym is) tt) in (
        (wanted_within r.fronts (StoreDone k j) (subst (λ x. WantFits g p x) is (want_fits g p r g.limits o fit)) fit.front).0,
        wanted_within (record_after g p 0 r).fronts (want (record_after g p 0 r)) (want_fits g p (record_after g p 0 r) g.limits o next) next.front,
      )
  from_within r fit x is = wanted_within r.fronts x (subst (λ y. WantFits g p y) is (want_fits g p r g.limits o fit)) fit.front

own_within : (g : Givens) (p : ℕ) (heard : List ℕ) (word : ℕ) → IsWorker g p → standing_of g p heard ≡ Some (Beginning word) → AreWithin g (items_beginning g p word)
own_within g p [] word o stands =
    subst (λ l. AreWithin g l) (sym (ap (items_beginning g p) (sym (ap (word_in word) stands)) ∙ at_next g p))
    (low_within g.workers g.jobs p (let h = o.high in omega arith), (low_within g.workers g.jobs (claim_word g p) (let h = o.high in omega arith), (row_within g p 1 o (omega arith), tt)))
own_within g p (next ∷ []) word o stands =
    subst (λ l. AreWithin g l) (sym (ap (items_beginning g p) (sym (ap (word_in word) stands)) ∙ at_claim g p o))
    (low_within g.workers g.jobs (claim_word g p) (let h = o.high in omega arith), (row_within g p 1 o (omega arith), tt))
own_within g p (next ∷ claim ∷ row) word o stands =
    let b = row_beginning g p next claim row word stands in
    subst (λ l. AreWithin g l) (sym (ap (items_beginning g p) b.1 ∙ at_row g p (done_word g p (length row + 1)) o (omega arith)))
    (row_within g p (length row + 1) o (let f = b.2 in omega arith), tt)

pub batch_within : (g : Givens) (p : ℕ) (heard : List ℕ) (s : Standing) → IsWorker g p → standing_of g p heard ≡ Some s → AreWithin g (items_of g p s)
batch_within g p heard (Beginning word) o stands = own_within g p heard word o stands
batch_within g p heard (Going l fresh) o stands = from_within g p o l.state (going_sound g p heard l fresh o stands) (want l.state) refl
