-- Where lines begin and end in a file.
use Rattle.std.proofs.Common.{◌≡◌, ◌≢◌, inl, inr, ℕ, zero, suc, ◌+◌, ◌-◌, ◌<◌, ◌≤◌, Bool, cond, List, [], ◌∷◌, ◌++◌, length, get_or, take, drop, refl, sym, ap, ◌∙◌, arith, append_assoc, length-append, take-append-drop, take-suc, take_all, take_at, drop_at}
use Rattle.std.specs.Prelude.{◌==◌}
use Rattle.std.proofs.lemmas.Bool.{cases_eq}
use Rattle.amo_run_log.specs.Texts.{ended}
use Rattle.amo_run_log.proofs.Words.{equal, not_equal}
use Rattle.amo_run_files.specs.Lines.{lines_from, lines_in, remainder_in, ends_of}
use Rattle.amo_run_files.proofs.Cuts.{lines_end, lines_on, whole}

-- the ends of the lines that are read from here on; so far this many bytes were read
abbrev pub ends_from : ℕ → List ℕ → List ℕ
ends_from i [] = []
ends_from i (b ∷ bytes) = cond (b == 10) ((i + 1) ∷ ends_from (i + 1) bytes) (ends_from (i + 1) bytes)

ends_end : (i b : ℕ) (bytes : List ℕ) → b ≡ 10 → ends_from i (b ∷ bytes) ≡ (i + 1) ∷ ends_from (i + 1) bytes
ends_end i b bytes e = ap (λ (t : Bool). cond t ((i + 1) ∷ ends_from (i + 1) bytes) (ends_from (i + 1) bytes)) (equal b 10 e)

ends_on : (i b : ℕ) (bytes : List ℕ) → b ≢ 10 → ends_from i (b ∷ bytes) ≡ ends_from (i + 1) bytes
ends_on i b bytes ne = ap (λ (t : Bool). cond t ((i + 1) ∷ ends_from (i + 1) bytes) (ends_from (i + 1) bytes)) (not_equal b 10 ne)

ends_are : (n i : ℕ) (begun file : List ℕ) → i ≡ n + length begun → ends_from i file ≡ ends_of n (lines_from begun file)
ends_are n i begun [] is = refl
ends_are n i begun (b ∷ bytes) is = elim (cases_eq b 10) [
  | inl e ↦
      let next : i + 1 ≡ n + length begun + 1 = omega arith in
      ends_end i b bytes e
      ∙ ap (λ (k : ℕ). k ∷ ends_from (i + 1) bytes) next
      ∙ ap (λ (ks : List ℕ). (n + length begun + 1) ∷ ks) (ends_are (n + length begun + 1) (i + 1) [] bytes (omega arith))
      ∙ ap (ends_of n) (sym (lines_end begun b bytes e))
  | inr ne ↦
      ends_on i b bytes ne
      ∙ ends_are n (i + 1) (begun ++ b ∷ []) bytes (omega (arith, length-append begun (b ∷ [])))
      ∙ ap (ends_of n) (sym (lines_on begun b bytes ne))
]

pub ends_in_are : (file : List ℕ) → ends_from 0 file ≡ ends_of 0 (lines_in file)
ends_in_are file = ends_are 0 0 [] file (omega arith)

-- each end

pub length_ends : (n : ℕ) (lines : List (List ℕ)) → length (ends_of n lines) ≡ length lines
length_ends n [] = refl
length_ends n (line ∷ lines) = ap suc (length_ends (n + length line + 1) lines)

end_from : (n : ℕ) (lines : List (List ℕ)) (i d : ℕ) → i < length lines → get_or (ends_of n lines) i d ≡ n + length (ended (take (suc i) lines))
end_from n [] i d lt = absurd (omega arith)
end_from n (line ∷ lines) zero d lt = omega (arith, length-append line (10 ∷ []))
end_from n (line ∷ lines) (suc i) d lt =
    omega (arith, end_from (n + length line + 1) lines i d (omega arith), length-append line (10 ∷ ended (take (suc i) lines)))

pub end_at : (lines : List (List ℕ)) (i d : ℕ) → i < length lines → get_or (ends_of 0 lines) i d ≡ length (ended (take (suc i) lines))
end_at lines i d lt = omega (arith, end_from 0 lines i d lt)

-- the end of the line before it is its beginning
pub begin_at : (lines : List (List ℕ)) (i d : ℕ) → 0 < i → i ≤ length lines → get_or (ends_of 0 lines) (i - 1) d ≡ length (ended (take i lines))
begin_at lines zero d some le = absurd (omega arith)
begin_at lines (suc i) d some le =
    let same : suc i - 1 ≡ i = omega arith in
    ap (λ (k : ℕ). get_or (ends_of 0 lines) k d) same ∙ end_at lines i d (omega arith)

pub last_at : (lines : List (List ℕ)) → get_or (ends_of 0 lines) (length (ends_of 0 lines) - 1) 0 ≡ length (ended lines)
last_at [] = refl
last_at (line ∷ lines) =
    let all = line ∷ lines in
    ap (λ (n : ℕ). get_or (ends_of 0 all) (n - 1) 0) (length_ends 0 all) ∙ begin_at all (length all) 0 (omega arith) (omega arith) ∙ ap (λ (ls : List (List ℕ)). length (ended ls)) (take_all (length all) all (omega arith))

-- a line in the file

pub ended-append : (xs ys : List (List ℕ)) → ended (xs ++ ys) ≡ ended xs ++ ended ys
ended-append [] ys = refl
ended-append (x ∷ xs) ys = ap (λ (t : List ℕ). x ++ 10 ∷ t) (ended-append xs ys) ∙ sym (append_assoc x (10 ∷ ended xs) (ended ys))

-- the line at index i goes from start to just before end
pub record IsLineFrom (bytes : List ℕ) (i start end : ℕ) : Type 0 where
  pub some : start < end
  pub within : end ≤ length bytes
  pub is : take (end - 1 - start) (drop start bytes) ≡ get_or (lines_in bytes) i []

pub line_from : (bytes : List ℕ) (i start end : ℕ) → i < length (lines_in bytes) → start ≡ length (ended (take i (lines_in bytes))) → end ≡ length (ended (take (suc i) (lines_in bytes))) → IsLineFrom bytes i start end
line_from bytes i start end lt start_is end_is =
    let lines = lines_in bytes in
    let line = get_or lines i [] in
    let front = ended (take i lines) in
    let more = ended (drop (suc i) lines) ++ remainder_in bytes in
    let up_to : ended (take (suc i) lines) ≡ front ++ (line ++ 10 ∷ []) = ap ended (take-suc lines i [] lt) ∙ ended-append (take i lines) (line ∷ []) in
    let cut : ended lines ≡ ended (take (suc i) lines) ++ ended (drop (suc i) lines) = ap ended (sym (take-append-drop (suc i) lines)) ∙ ended-append (take (suc i) lines) (drop (suc i) lines) in
    let are : bytes ≡ front ++ (line ++ 10 ∷ more) =
    sym (whole bytes) ∙ ap (λ (t : List ℕ). t ++ remainder_in bytes) cut ∙ append_assoc (ended (take (suc i) lines)) (ended (drop (suc i) lines)) (remainder_in bytes)
    ∙ ap (λ (t : List ℕ). t ++ more) up_to ∙ append_assoc front (line ++ 10 ∷ []) more ∙ ap (λ (t : List ℕ). front ++ t) (append_assoc line (10 ∷ []) more) in
    let end_more : end ≡ length front + length line + 1 = omega (arith, ap length up_to, length-append front (line ++ 10 ∷ []), length-append line (10 ∷ [])) in
    let size : end - 1 - start ≡ length line = omega arith in
    record {
      some = omega arith;
      within = omega (arith, ap length are, length-append front (line ++ 10 ∷ more), length-append line (10 ∷ more));
      is =
          ap (λ (bs : List ℕ). take (end - 1 - start) (drop start bs)) are
          ∙ ap (take (end - 1 - start)) (drop_at front (line ++ 10 ∷ more) start (sym start_is))
          ∙ ap (λ (n : ℕ). take n (line ++ 10 ∷ more)) size
          ∙ take_at line (10 ∷ more) (length line) refl;
    }

pub line_part : (bytes ends : List ℕ) (i start : ℕ) → ends ≡ ends_of 0 (lines_in bytes) → i < length ends → ((lines : List (List ℕ)) → ends ≡ ends_of 0 lines → start ≡ length (ended (take i lines))) → IsLineFrom bytes i start (get_or ends i 0)
line_part bytes ends i start are there begins =
    let lines = lines_in bytes in
    let within : i < length lines = omega (arith, ap length are, length_ends 0 lines) in
    line_from bytes i start (get_or ends i 0) within (begins lines are) (ap (λ (es : List ℕ). get_or es i 0) are ∙ end_at lines i 0 within)

-- and the remainder

pub remainder_from_end : (bytes : List ℕ) (end : ℕ) → end ≡ length (ended (lines_in bytes)) → (end ≤ length bytes) × (drop end bytes ≡ remainder_in bytes)
remainder_from_end bytes end is = (
  omega (arith, ap length (whole bytes), length-append (ended (lines_in bytes)) (remainder_in bytes)),
  ap (drop end) (sym (whole bytes)) ∙ drop_at (ended (lines_in bytes)) (remainder_in bytes) end (sym is),
)
