-- How many words there are.
use Rattle.std.proofs.Common.{◌≡◌, ℕ, ◌+◌, ◌*◌, ◌≤◌, List, [], ◌∷◌, ◌++◌, length, map, arith, length-append, mul-le-mul_left}
use Rattle.std.specs.Prelude.{All, flat_map}
use Rattle.std.proofs.lemmas.List.{length-map}
use Rattle.std.proofs.lemmas.List.Elements.{All-head, All-tail}
use Rattle.amo_kk.specs.Words.{words_of}
use Rattle.amo_params.specs.declared.limits.TheConstants.{MAX_JOBS, MAX_WORKERS}
use Rattle.amo_kk.specs.declared.model.Process.{Process}

pub few_words : (workers jobs : ℕ) → workers ≤ MAX_WORKERS → jobs ≤ MAX_JOBS → workers * (jobs + 3) ≤ MAX_WORKERS * (MAX_JOBS + 3)
few_words workers jobs few_workers few_jobs =
    let few : jobs + 3 ≤ MAX_JOBS + 3 = omega arith in
    omega (arith, mul-le-mul_left workers few)

-- the rows of all workers, of so many words each
rows : (n : ℕ) (all : List Process) → All (λ (p : Process). length p.row ≡ n) all → length (flat_map (λ (p : Process). p.row) all) ≡ length all * n
rows n [] each = omega arith
rows n (p ∷ all) each =
    omega (arith, length-append p.row (flat_map (λ (q : Process). q.row) all), All-head (λ (q : Process). length q.row ≡ n) p all each, rows n all (All-tail (λ (q : Process). length q.row ≡ n) p all each))

pub many : (n : ℕ) (all : List Process) → All (λ (p : Process). length p.row ≡ n + 1) all → length (words_of all) ≡ length all * (n + 3) + 1
many n all each =
    let nexts = map (λ (p : Process). p.next) all in
    let claims = map (λ (p : Process). p.claim) all in
    let entries = flat_map (λ (p : Process). p.row) all in
    omega (arith, length-append nexts (claims ++ entries), length-append claims entries, length-map all (λ (p : Process). p.next), length-map all (λ (p : Process). p.claim), rows (n + 1) all each)
