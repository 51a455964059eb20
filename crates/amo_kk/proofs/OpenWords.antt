-- At first all words are 0.
use Rattle.std.proofs.Common.{◌≡◌, ℕ, zero, suc, ◌+◌, ◌*◌, refl, sym, ap, ◌∙◌, arith, List, [], ◌∷◌, ◌++◌, replicate, map, append-nil, suc-mul}
use Rattle.std.specs.List.{flat_map}
use Rattle.std.proofs.lemmas.List.{map-append, replicate-append-replicate}
use Rattle.std.proofs.lemmas.Grind.{flat_map-append}
use Rattle.amo_sets.specs.Lists.{table}
use Rattle.amo_kk.specs.Words.{words_of, word_count}
use Rattle.amo_kk.specs.World.{first_process, opening_world}
use Rattle.amo_params.specs.declared.givens.Givens.{Givens}
use Rattle.amo_kk.specs.declared.model.Process.{Process}

map_table : {X : Type 0} (f : X → ℕ) (h : ℕ → X) → ((k : ℕ) → f (h k) ≡ 0) → (n : ℕ) → map f (table n h) ≡ replicate n 0
map_table f h zeros zero = refl
map_table f h zeros (suc n) = map-append f (table n h) (h (suc n) ∷ []) ∙ (λ i. map_table f h zeros n i ++ zeros (suc n) i ∷ []) ∙ replicate-append-replicate n 1 0 ∙ (let e : n + 1 ≡ suc n = omega arith in ap (λ k. replicate k 0) e)

flat_table : {X : Type 0} (f : X → List ℕ) (h : ℕ → X) (size : ℕ) → ((k : ℕ) → f (h k) ≡ replicate size 0) → (n : ℕ) → flat_map f (table n h) ≡ replicate (n * size) 0
flat_table f h size rows zero = let e : 0 ≡ 0 * size = omega arith in ap (λ k. replicate k 0) e
flat_table f h size rows (suc n) = flat_map-append f (table n h) (h (suc n) ∷ []) ∙ (λ i. flat_table f h size rows n i ++ (rows (suc n) i ++ [])) ∙ ap (λ l. replicate (n * size) 0 ++ l) (append-nil (replicate size 0)) ∙ replicate-append-replicate (n * size) size 0 ∙ (let e : n * size + size ≡ suc n * size = sym (suc-mul n size) in ap (λ k. replicate k 0) e)

pub opening_words : (g : Givens) → words_of (opening_world g).processes ≡ replicate (word_count g) 0
opening_words g =
    (λ i. 0 ∷ map_table (λ (a : Process). a.next) (first_process g) (λ k. refl) g.workers i ++ (map_table (λ (a : Process). a.claim) (first_process g) (λ k. refl) g.workers i ++ flat_table (λ (a : Process). a.row) (first_process g) (g.jobs + 1) (λ k. refl) g.workers i))
    ∙ ap (λ l. 0 ∷ replicate g.workers 0 ++ l) (replicate-append-replicate g.workers (g.workers * (g.jobs + 1)) 0)
    ∙ ap (λ l. 0 ∷ l) (replicate-append-replicate g.workers (g.workers + g.workers * (g.jobs + 1)) 0)
    ∙ ap (λ k. replicate k 0) (all g.workers g.jobs)
  where
    all : (m n : ℕ) → suc (m + (m + m * (n + 1))) ≡ m * (n + 3) + 1
    all m n = grind arith
