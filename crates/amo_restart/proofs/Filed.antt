-- The entries of all rows, in the list of words, are as many as the jobs that are filed.
use Rattle.std.proofs.Common.{◌≡◌, ℕ, zero, suc, ◌+◌, ◌*◌, ◌<◌, ◌≤◌, Bool, ◌||◌, true, List, [], ◌∷◌, ◌++◌, length, get_or, drop, refl, sym, ap, ◌∙◌, arith, map}
use Rattle.std.specs.List.{flat_map}
use Rattle.std.specs.Prelude.{sum_by, ◌==◌}
use Rattle.std.proofs.lemmas.Bool.{or_left, eq-eqb}
use Rattle.std.proofs.lemmas.List.{append_assoc, length-append, length-map}
use Rattle.std.proofs.Math.Seq.{drop-append_seam}
use Rattle.std.proofs.lemmas.List.Sums.{sum_by-cons}
use Rattle.amo_sets.specs.Sets.{has}
use Rattle.amo_params.specs.Givens.{IsWorker}
use Rattle.amo_kk.specs.Words.{words_of}
use Rattle.amo_kk.specs.World.{nobody, process, done_count}
use Rattle.amo_kk.specs.Lawful.{IsLawful}
use Rattle.amo_params.specs.declared.givens.Givens.{Givens}
use Rattle.amo_kk.specs.declared.model.Process.{Process}
use Rattle.amo_kk.specs.declared.model.World.{World}
use Rattle.amo_restart.specs.Return.{entries_in, filed_in}
use Rattle.amo_restart.proofs.Kept.{some_dones}

entries_in-append : (xs ys : List ℕ) → entries_in (xs ++ ys) ≡ entries_in xs + entries_in ys
entries_in-append [] ys = omega arith
entries_in-append (zero ∷ xs) ys = entries_in-append xs ys
entries_in-append (suc j ∷ xs) ys = let e = entries_in-append xs ys in omega arith

row_entries : (row dones : List ℕ) → ((k : ℕ) → get_or row k 0 ≡ get_or dones k 0) → ((j : ℕ) → has dones j ≡ true → 1 ≤ j) → entries_in row ≡ length dones
row_entries [] [] same some = refl
row_entries [] (d ∷ ds) same some = let e : 0 ≡ d = same 0 in absurd (omega (arith, some d (or_left _ _ (eq-eqb d d refl))))
row_entries (zero ∷ xs) [] same some = row_entries xs [] (λ k. same (suc k)) some
row_entries (suc x ∷ xs) [] same some = absurd (let e : suc x ≡ 0 = same 0 in omega arith)
row_entries (zero ∷ xs) (d ∷ ds) same some = let e : 0 ≡ d = same 0 in absurd (omega (arith, some d (or_left _ _ (eq-eqb d d refl))))
row_entries (suc x ∷ xs) (d ∷ ds) same some = ap suc (row_entries xs ds (λ k. same (suc k)) (λ j h. some j (later (d == j) (has ds j) h)))
  where
    later : (a b : Bool) → b ≡ true → (a || b) ≡ true
    later a b h = grind arith

rows_entries : (all : List Process) → ((i : ℕ) → i < length all → entries_in (get_or all i nobody).row ≡ length (get_or all i nobody).local.dones)
    → entries_in (flat_map (λ (a : Process). a.row) all) ≡ sum_by (λ (a : Process). length a.local.dones) all
rows_entries [] each = refl
rows_entries (a ∷ all) each =
    entries_in-append a.row (flat_map (λ (b : Process). b.row) all)
    ∙ (λ i. each 0 (omega arith) i + rows_entries all (λ k h. each (suc k) (omega arith)) i)
    ∙ sym (sum_by-cons (λ (b : Process). length b.local.dones) a all)

-- the rows come after all other words
rows_last : (g : Givens) (all : List Process) → length all ≡ g.workers → drop (2 * g.workers + 1) (words_of all) ≡ flat_map (λ (a : Process). a.row) all
rows_last g all size =
    (λ i. drop (count i) (sym (append_assoc nexts claims rows) i))
    ∙ drop-append_seam (0 ∷ nexts ++ claims) rows
  where
    nexts : List ℕ
    nexts = 0 ∷ map (λ (a : Process). a.next) all

    claims : List ℕ
    claims = map (λ (a : Process). a.claim) all

    rows : List ℕ
    rows = flat_map (λ (a : Process). a.row) all

    count : 2 * g.workers + 1 ≡ length (nexts ++ claims)
    count = let n = length-map all (λ (a : Process). a.next) in let c = length-map all (λ (a : Process). a.claim) in let e = length-append nexts claims in omega arith

pub filed_is : (g : Givens) (w : World) → IsLawful g w → filed_in g (words_of w.processes) ≡ done_count w
filed_is g w law =
    ap entries_in (rows_last g w.processes law.size)
    ∙ rows_entries w.processes (λ i h. row_entries _ _ (law.lawful.sound (suc i) (here i h)).row (some_dones g g.limits (process w) law.lawful (suc i) (here i h)))
  where
    here : (i : ℕ) → i < length w.processes → IsWorker g (suc i)
    here i h = record { low = omega arith; high = let e = law.size in omega arith }
