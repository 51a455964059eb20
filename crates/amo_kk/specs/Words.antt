-- The shared words in one list: the book word, the announcements, the counts of claims, and the
-- rows.
use Rattle.std.specs.Prelude.{ℕ, set, ◌+◌, ◌-◌, ◌*◌, List, ◌∷◌, ◌++◌, map}
use Rattle.std.specs.List.{flat_map}
use Rattle.amo_params.specs.declared.givens.Givens.{Givens}
use Rattle.amo_kk.specs.declared.model.Process.{Process}
use Rattle.amo_kk.specs.declared.phase.Want.{Want}
use Rattle.amo_kk.specs.declared.phase.Want.TheVariants.{StoreNext, LoadNext, LoadDone, StoreClaim, StoreDone}

-- the words of these workers; the book word is 0
abbrev pub words_of : List Process → List ℕ
words_of all = 0 ∷ map (λ (a : Process). a.next) all ++ (map (λ (a : Process). a.claim) all ++ flat_map (λ (a : Process). a.row) all)

-- how many words there are: the book word, and for each worker its announcement, its count of
-- claims and its row
abbrev pub word_count : Givens → ℕ
word_count g = g.workers * (g.jobs + 3) + 1

-- the place of the announcement of p
abbrev pub next_word : ℕ → ℕ
next_word p = p

-- the place of the count of p's claims
abbrev pub claim_word : Givens → ℕ → ℕ
claim_word g p = g.workers + p

-- the place of the k-th entry of p's row, from 1
abbrev pub done_word : Givens → ℕ → ℕ → ℕ
done_word g p k = 2 * g.workers + (p - 1) * (g.jobs + 1) + k

-- the place of the word that is loaded, or 0 if there is no load
abbrev pub loaded_word : Givens → Want → ℕ
loaded_word g (LoadNext q) = next_word q
loaded_word g (LoadDone q k) = done_word g q k
loaded_word g want = 0

-- the words after the store of worker p
abbrev pub words_after : Givens → ℕ → Want → List ℕ → List ℕ
words_after g p (StoreNext j) words = set words (next_word p) j
words_after g p (StoreClaim c j) words = set words (claim_word g p) c
words_after g p (StoreDone k j) words = set words (done_word g p k) j
words_after g p want words = words
