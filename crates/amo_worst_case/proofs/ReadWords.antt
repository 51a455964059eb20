-- The words of the worst schedule are read as its moves.
use Rattle.std.proofs.Common.{◌≡◌, ℕ, zero, suc, ◌+◌, ◌-◌, ◌^◌, ◌%◌, ◌<◌, ◌≤◌, Bool, true, false, List, [], ◌∷◌, ◌++◌, length, replicate, Some, None, Ok, Err, Result, refl, sym, ap, ◌∙◌, subst, arith, append_assoc, append-nil}
use Rattle.std.specs.Prelude.{if◌then◌else◌, nat_lt, nat_le, slice_index, position, filter, codes}
use Rattle.std.specs.Fmt.{decimal}
use Rattle.std.specs.List.{All, position_or_len, flat_map}
use Rattle.std.proofs.lemmas.Bool.{lt-ltb, le-ltb, le-leb, ltb-false}
use Rattle.std.proofs.lemmas.Bool.Decides.{nat_tests}
use Rattle.std.proofs.lemmas.Fmt.{decimal_by_steps, decimal_nonempty}
use Rattle.std.proofs.lemmas.List.Elements.{All-append}
use Rattle.std.proofs.lemmas.List.Splits.{slice_split_none, slice_split_at}
use Rattle.std.proofs.lemmas.List.Sums.{position_or_len_is}
use Rattle.amo_params.specs.declared.givens.Givens.{Givens}
use Rattle.amo_params.specs.declared.limits.TheConstants.{MAX_WORKERS}
use Rattle.amo_params.specs.declared.moves.Move.{Move}
use Rattle.amo_params.specs.declared.moves.Move.TheVariants.{Turn, Halt}
use Rattle.amo_plan.specs.declared.fault.PlanFault.{PlanFault}
use Rattle.amo_plan.specs.declared.fault.PlanFault.TheVariants.{TooLong}
use Rattle.amo_plan.specs.declared.limits.TheConstants.{HIGHEST_IN_WORD, MOST_MOVES}
use Rattle.amo_plan.specs.Schedule.{is_space, is_word, words_of, number_of, is_x, is_l, is_asterisk, turns_word, word_of, word_at, read_words, moves_of, moves_of_word, short_moves_of, read_schedule}
use Rattle.amo_plan.specs.Passing.{◌>>=◌, unless, each, capped}
use Rattle.amo_plan.proofs.DigitsLemmas.{within_is_decimal}
use Rattle.amo_bounds.specs.Worst.{stuck_moves, lone_turns, worst_moves}
use Rattle.amo_worst_case.specs.Schedule.{stuck_words, worst_schedule}
use Rattle.amo_worst_case.proofs.Lengths.{few_turns, some_turns}

-- the digits of a number

abbrev IsFigure : ℕ → Type 0
IsFigure b = (48 ≤ b) × (b ≤ 57)

figure : (b : ℕ) → IsFigure b → All IsFigure (b ∷ [])
figure b h zero d l = h
figure b h (suc k) d l = absurd (omega arith)

figures : (n : ℕ) → n < 2 ^ 64 → All IsFigure (decimal n)
figures = decimal_by_steps (λ n ds. All IsFigure ds)
    (λ n low. figure (48 + n) (omega arith, omega arith))
    (λ n ds big so_far. All-append IsFigure ds ((48 + n % 10) ∷ []) so_far (figure (48 + n % 10) (omega arith, omega arith)))

pub no_space : (n : ℕ) → n < 2 ^ 64 → All (λ b. is_space b ≡ false) (decimal n)
no_space n small k d l = let h = figures n small k d l in let low = h.0 in let high = h.1 in grind (arith, nat_tests)

no_space_after_x : (ds : List ℕ) → All (λ b. is_space b ≡ false) ds → All (λ b. is_space b ≡ false) (120 ∷ ds)
no_space_after_x ds none zero d l = refl
no_space_after_x ds none (suc k) d l = none k d (omega arith)

-- a word, and one that a space ends

is_some_word : (w : List ℕ) → 0 < length w → is_word w ≡ true
is_some_word w some = grind (arith, nat_tests)

pub alone : (w : List ℕ) → All (λ b. is_space b ≡ false) w → 0 < length w → words_of w ≡ w ∷ []
alone w none some = ap (filter is_word) (slice_split_none is_space w none) ∙ rw (is_some_word w some) refl

pub before_space : (w rest : List ℕ) → All (λ b. is_space b ≡ false) w → 0 < length w → words_of (w ++ 32 ∷ rest) ≡ w ∷ words_of rest
before_space w rest none some = ap (filter is_word) (slice_split_at is_space w 32 rest none refl) ∙ rw (is_some_word w some) refl

-- the words of the others
abbrev stuck_list : ℕ → List (List ℕ)
stuck_list zero = []
stuck_list (suc k) = stuck_list k ++ decimal (k + 2) ∷ (120 ∷ decimal (k + 2)) ∷ []

stuck_split : (k : ℕ) (rest : List ℕ) → k ≤ 15 → words_of (stuck_words k ++ rest) ≡ stuck_list k ++ words_of rest
stuck_split zero rest few = refl
stuck_split (suc k) rest few =
    ap words_of shape
    ∙ stuck_split k (ds ++ 32 ∷ 120 ∷ (ds ++ 32 ∷ rest)) (omega arith)
    ∙ ap (λ l. stuck_list k ++ l) (before_space ds (120 ∷ (ds ++ 32 ∷ rest)) none some ∙ ap (λ l. ds ∷ l) (before_space (120 ∷ ds) rest (no_space_after_x ds none) (omega arith)))
    ∙ sym (append_assoc (stuck_list k) (ds ∷ (120 ∷ ds) ∷ []) (words_of rest))
  where
    ds : List ℕ
    ds = decimal (k + 2)

    none : All (λ b. is_space b ≡ false) ds
    none = no_space (k + 2) (omega arith)

    some : 0 < length ds
    some = decimal_nonempty (k + 2) (omega arith)

    shape : stuck_words (suc k) ++ rest ≡ stuck_words k ++ (ds ++ 32 ∷ 120 ∷ (ds ++ 32 ∷ rest))
    shape =
        append_assoc (stuck_words k) (ds ++ 32 ∷ 120 ∷ (ds ++ 32 ∷ [])) rest
        ∙ ap (λ l. stuck_words k ++ l) (append_assoc ds (32 ∷ 120 ∷ (ds ++ 32 ∷ [])) rest ∙ ap (λ l. ds ++ 32 ∷ 120 ∷ l) (append_assoc ds (32 ∷ []) rest))

-- what a word means

number : (n : ℕ) → 1 ≤ n → n ≤ HIGHEST_IN_WORD → number_of (decimal n) ≡ Some n
unfolding number_of
number n low high = (within_is_decimal 1 HIGHEST_IN_WORD (decimal n) n (omega arith)).1 (refl, low, high)

-- what is read of words, wherever they stand: these moves
abbrev pub IsRead : ℕ → ℕ → List ℕ → List Move → Type 0
IsRead version m w moves = (i : ℕ) → (word_at version m i w >>= λ word. Ok (moves_of_word word)) ≡ Ok moves

abbrev pub AreRead : ℕ → ℕ → List (List ℕ) → List Move → Type 0
AreRead version m ws moves = (i : ℕ) → (each (word_at version m) i ws >>= λ words. Ok (moves_of words)) ≡ Ok moves

-- one and the others
both : {A : Type 0} (f : A → List Move) (r : Result A PlanFault) (s : Result (List A) PlanFault) (a b : List Move) → (r >>= λ x. Ok (f x)) ≡ Ok a → (s >>= λ xs. Ok (flat_map f xs)) ≡ Ok b
    → ((r >>= λ x. s >>= λ xs. Ok (x ∷ xs)) >>= λ xs. Ok (flat_map f xs)) ≡ Ok (a ++ b)
both f (Ok x) (Ok xs) a b e h = let first : f x ≡ a = cc in let rest : flat_map f xs ≡ b = cc in rw (first, rest) refl
both f (Ok x) (Err fault) a b e h = absurd cc
both f (Err fault) s a b e h = absurd cc

pub cons_read : (version m : ℕ) (w : List ℕ) (ws : List (List ℕ)) (a b : List Move) → IsRead version m w a → AreRead version m ws b → AreRead version m (w ∷ ws) (a ++ b)
cons_read version m w ws a b here more i = both moves_of_word (word_at version m (capped i) w) (each (word_at version m) (i + 1) ws) a b (here (capped i)) (more (i + 1))

module _ (version m n : ℕ) (low : 1 ≤ n) (high : n ≤ HIGHEST_IN_WORD) where
  first : IsFigure (slice_index (decimal n) 0)
  first = figures n (omega arith) 0 0 (decimal_nonempty n (omega arith))

  not_x : is_x (slice_index (decimal n) 0) ≡ false
  not_x = let above = first.0 in let below = first.1 in grind (arith, nat_tests)

  not_l : is_l version (slice_index (decimal n) 0) ≡ false
  not_l = let above = first.0 in let below = first.1 in grind (arith, nat_tests)

  no_asterisk : position is_asterisk (decimal n) ≡ None
  no_asterisk =
      let at : position_or_len is_asterisk (decimal n) ≡ length (decimal n) =
      position_or_len_is is_asterisk (decimal n) (length (decimal n)) 0 (omega arith)
      (λ k l. let h = figures n (omega arith) k 0 l in let above = h.0 in let below = h.1 in grind (arith, nat_tests)) (λ l. absurd (omega arith)) in
      rw (at, le-ltb (length (decimal n)) (length (decimal n)) (omega arith)) refl

  pub turn_read : n ≤ m → IsRead version m (decimal n) (Turn n ∷ [])
  unfolding word_at word_of turns_word
  turn_read here i = rw (not_x, not_l, no_asterisk, number n low high, le-leb n m here) refl

  stop_read : n ≤ m → IsRead version m (120 ∷ decimal n) (Halt n ∷ [])
  unfolding word_at word_of
  stop_read here i = rw (number n low high, le-leb n m here) refl

  alone_read : 1 ≤ m → IsRead version m (49 ∷ 42 ∷ decimal n) (replicate n (Turn 1))
  unfolding word_at word_of turns_word number_of
  alone_read some i =
      let other : is_l version 49 ≡ false = grind (arith, nat_tests) in
      let within : nat_lt 1 (length (49 ∷ 42 ∷ decimal n)) ≡ true = lt-ltb 1 (length (49 ∷ 42 ∷ decimal n)) (omega arith) in
      let turns : number_of (decimal n) ≡ Some n = number n low high in
      rw (other, within, turns, le-leb 1 m some) refl

two_read : (version m k : ℕ) (rest : List (List ℕ)) (moves : List Move) → k + 2 ≤ m → m ≤ MAX_WORKERS → AreRead version m rest moves
    → AreRead version m (decimal (k + 2) ∷ (120 ∷ decimal (k + 2)) ∷ rest) (Turn (k + 2) ∷ Halt (k + 2) ∷ moves)
two_read version m k rest moves here few later =
    cons_read version m (decimal (k + 2)) ((120 ∷ decimal (k + 2)) ∷ rest) (Turn (k + 2) ∷ []) (Halt (k + 2) ∷ moves) (turn_read version m (k + 2) (omega arith) (omega arith) here)
    (cons_read version m (120 ∷ decimal (k + 2)) rest (Halt (k + 2) ∷ []) moves (stop_read version m (k + 2) (omega arith) (omega arith) here) later)

stuck_read : (version m k : ℕ) (rest : List (List ℕ)) (moves : List Move) → k + 1 ≤ m → m ≤ MAX_WORKERS → AreRead version m rest moves
    → AreRead version m (stuck_list k ++ rest) (stuck_moves k ++ moves)
stuck_read version m zero rest moves here few later i = later i
stuck_read version m (suc k) rest moves here few later i =
    let ds = decimal (k + 2) in
    ap (λ l. each (word_at version m) i l >>= λ words. Ok (moves_of words)) (append_assoc (stuck_list k) (ds ∷ (120 ∷ ds) ∷ []) rest)
    ∙ stuck_read version m k (ds ∷ (120 ∷ ds) ∷ rest) (Turn (k + 2) ∷ Halt (k + 2) ∷ moves) (omega arith) few (two_read version m k rest moves (omega arith) few later) i
    ∙ ap Ok (sym (append_assoc (stuck_moves k) (Turn (k + 2) ∷ Halt (k + 2) ∷ []) moves))

-- moves that are few enough
pub kept : {A : Type 0} (f : A → List Move) (s : Result A PlanFault) (moves : List Move) → (s >>= λ x. Ok (f x)) ≡ Ok moves → nat_le (length moves) MOST_MOVES ≡ true
    → (s >>= λ x. unless (nat_le (length (f x)) MOST_MOVES) TooLong (Ok (f x))) ≡ Ok moves
kept f (Ok x) moves e few = let same : f x ≡ moves = cc in rw (same, few) refl
kept f (Err fault) moves e few = absurd cc

-- the words of all others and of worker 1, which takes so many turns
module _ (version m turns : ℕ) (some : 1 ≤ m) (few : m ≤ MAX_WORKERS) (low : 1 ≤ turns) (high : turns ≤ HIGHEST_IN_WORD) where
  abbrev last : List ℕ
  last = 49 ∷ 42 ∷ decimal turns

  all_split : words_of (stuck_words (m - 1) ++ last) ≡ stuck_list (m - 1) ++ last ∷ []
  all_split = stuck_split (m - 1) last (omega arith) ∙ ap (λ l. stuck_list (m - 1) ++ l) (alone last no_space_in_last (omega arith))
    where
      no_space_in_last : All (λ b. is_space b ≡ false) last
      no_space_in_last zero d l = refl
      no_space_in_last (suc zero) d l = refl
      no_space_in_last (suc (suc k)) d l = no_space turns (omega arith) k d (omega arith)

  last_read : AreRead version m (last ∷ []) (replicate turns (Turn 1))
  last_read = subst (λ moves. AreRead version m (last ∷ []) moves) (append-nil (replicate turns (Turn 1)))
      (cons_read version m last [] (replicate turns (Turn 1)) [] (alone_read version m turns low high some) (λ i. refl))

  all_read : length (stuck_moves (m - 1) ++ replicate turns (Turn 1)) ≤ MOST_MOVES
      → read_schedule version m (stuck_words (m - 1) ++ last) ≡ Ok (stuck_moves (m - 1) ++ replicate turns (Turn 1))
  unfolding read_schedule short_moves_of
  all_read short =
      ap (λ ws. read_words version m ws >>= λ words. unless (nat_le (length (moves_of words)) MOST_MOVES) TooLong (Ok (moves_of words))) all_split
      ∙ kept moves_of (read_words version m (stuck_list (m - 1) ++ last ∷ [])) (stuck_moves (m - 1) ++ replicate turns (Turn 1))
      (stuck_read version m (m - 1) (last ∷ []) (replicate turns (Turn 1)) (omega arith) few last_read 1) (le-leb _ _ short)

-- the schedule is read as the worst moves
pub schedule_read : (version : ℕ) (g : Givens) → length (worst_moves g) ≤ MOST_MOVES → read_schedule version g.workers (worst_schedule g) ≡ Ok (worst_moves g)
unfolding worst_schedule read_schedule short_moves_of
schedule_read version g = go (nat_lt g.jobs g.beta) refl
  where
    go : (b : Bool) → nat_lt g.jobs g.beta ≡ b → length (if b then [] else stuck_moves (g.workers - 1) ++ replicate (lone_turns g) (Turn 1)) ≤ MOST_MOVES
        → read_schedule version g.workers (if b then [] else stuck_words (g.workers - 1) ++ (codes "1*" ++ decimal (lone_turns g)))
        ≡ Ok (if b then [] else stuck_moves (g.workers - 1) ++ replicate (lone_turns g) (Turn 1))
    go true e short = refl
    go false e short = all_read version g.workers (lone_turns g) g.limits.some g.limits.few_workers (some_turns g (ltb-false _ _ e)) (let few = (few_turns g).1 in omega arith) short
