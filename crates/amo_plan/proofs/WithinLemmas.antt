-- The moves that are read are those of the workers that there are.
use Rattle.std.proofs.Common.{◌≡◌, ℕ, zero, suc, ◌+◌, ◌≤◌, Bool, true, false, cond, leb, List, [], ◌∷◌, ◌++◌, length, slice_index, take, drop, Option, Some, None, option_map, Result, Ok, refl, subst, replicate, arith}
use Rattle.std.specs.Prelude.{position}
use Rattle.std.specs.List.{list_all}
use Rattle.std.proofs.lemmas.Bool.{le-leb, and_parts, and_from}
use Rattle.std.proofs.lemmas.Bool.Decides.{nat_tests}
use Rattle.amo_params.specs.Givens.{is_within, IsWorker}
use Rattle.amo_params.specs.Moves.{are_in_range, worker_of as mover}
use Rattle.amo_params.specs.declared.givens.Givens.{Givens}
use Rattle.amo_params.specs.declared.moves.Move.{Move}
use Rattle.amo_params.specs.declared.moves.Move.TheVariants.{Turn}
use Rattle.amo_plan.specs.declared.fault.PlanFault.{PlanFault}
use Rattle.amo_plan.specs.declared.fault.PlanFault.TheVariants.{TooLong, BadScheduleWord, NoSuchWorker}
use Rattle.amo_plan.specs.declared.limits.TheConstants.{HIGHEST_IN_WORD, MOST_MOVES}
use Rattle.amo_plan.specs.declared.schedule_word.ScheduleWord.{ScheduleWord}
use Rattle.amo_plan.specs.declared.schedule_word.ScheduleWord.TheVariants.{Turns, Stop, Departure}
use Rattle.amo_decimal.specs.Numbers.{number_in}
use Rattle.amo_plan.specs.Schedule.{is_x, is_l, is_asterisk, number_of, turns_of, turns_at, turns_word, word_of, worker_of, word_at, words_of, read_words, moves_of_word, moves_of, short_moves_of, read_schedule}
use Rattle.amo_plan.specs.Passing.{◌>>=◌, or_fault, unless, each, capped}
use Rattle.amo_plan.proofs.DigitsLemmas.{within_some}
use Rattle.amo_plan.proofs.PassingLemmas.{bind_ok, ok_is, or_ok, unless_ok}

number_some : (text : List ℕ) (k : ℕ) → number_of text ≡ Some k → 1 ≤ k
unfolding number_of
number_some text k e = (within_some 1 HIGHEST_IN_WORD k (number_in text) e).1

-- a word that names the worker of a number
one_some : (named : ℕ → ScheduleWord) → ((k : ℕ) → worker_of (named k) ≡ k) → (o : Option ℕ) (x : ScheduleWord) → ((k : ℕ) → o ≡ Some k → 1 ≤ k) → option_map named o ≡ Some x → 1 ≤ worker_of x
one_some named of_it None x some e = absurd cc
one_some named of_it (Some k) x some e =
    let same : named k ≡ x = cc in
    subst (λ (y : ScheduleWord). 1 ≤ worker_of y) same (rw (of_it k) (some k refl))

turns_some : (o p : Option ℕ) (x : ScheduleWord) → ((k : ℕ) → o ≡ Some k → 1 ≤ k) → turns_of o p ≡ Some x → 1 ≤ worker_of x
turns_some None p x some e = absurd cc
turns_some (Some k) None x some e = absurd cc
turns_some (Some k) (Some c) x some e = let same : Turns k c ≡ x = cc in subst (λ (y : ScheduleWord). 1 ≤ worker_of y) same (some k refl)

at_some : (i : Option ℕ) (w : List ℕ) (x : ScheduleWord) → turns_at i w ≡ Some x → 1 ≤ worker_of x
at_some None w x e = turns_some (number_of w) (Some 1) x (number_some w) e
at_some (Some i) w x e = turns_some (number_of (take i w)) (number_of (drop (i + 1) w)) x (number_some (take i w)) e

either_some : (b : Bool) (o p : Option ScheduleWord) (x : ScheduleWord) → (o ≡ Some x → 1 ≤ worker_of x) → (p ≡ Some x → 1 ≤ worker_of x) → cond b o p ≡ Some x → 1 ≤ worker_of x
either_some true o p x f g e = f e
either_some false o p x f g e = g e

word_some : (version : ℕ) (w : List ℕ) (x : ScheduleWord) → word_of version w ≡ Some x → 1 ≤ worker_of x
unfolding word_of turns_word
word_some version w x e =
    let of_rest = number_some (drop 1 w) in
    either_some (is_x (slice_index w 0)) (option_map Stop (number_of (drop 1 w))) (cond (is_l version (slice_index w 0)) (option_map Departure (number_of (drop 1 w))) (turns_at (position is_asterisk w) w)) x
    (one_some Stop (λ k. refl) (number_of (drop 1 w)) x of_rest)
    (either_some (is_l version (slice_index w 0)) (option_map Departure (number_of (drop 1 w))) (turns_at (position is_asterisk w) w) x
    (one_some Departure (λ k. refl) (number_of (drop 1 w)) x of_rest) (at_some (position is_asterisk w) w x)) e

-- the word is of one of m workers
abbrev word_within : ℕ → ScheduleWord → Bool
word_within m x = is_within m (worker_of x)

at_within : (version m j : ℕ) (w : List ℕ) (x : ScheduleWord) → word_at version m j w ≡ Ok x → word_within m x ≡ true
unfolding word_at
at_within version m j w x e =
    let a = bind_ok (or_fault (word_of version w) (BadScheduleWord j)) (λ word. unless (leb (worker_of word) m) (NoSuchWorker j) (Ok word)) x e in
    let b = unless_ok (leb (worker_of a.0) m) (NoSuchWorker j) (Ok a.0) x a.2 in
    let same : a.0 ≡ x = ok_is a.0 x b.1 in
    let low : leb 1 (worker_of a.0) ≡ true = le-leb 1 (worker_of a.0) (word_some version w a.0 (or_ok (word_of version w) (BadScheduleWord j) a.0 a.1)) in
    rw (← same, low, b.0) refl

each_within : {A B : Type 0} (p : B → Bool) (f : ℕ → A → Result B PlanFault) → ((j : ℕ) (a : A) (y : B) → f j a ≡ Ok y → p y ≡ true) → (i : ℕ) (xs : List A) (ys : List B) → each f i xs ≡ Ok ys → list_all p ys ≡ true
each_within p f good i [] ys e = rw (← ok_is _ _ e) refl
each_within {A} {B} p f good i (x ∷ xs) ys e =
    let first = bind_ok (f (capped i) x) (λ y. each f (i + 1) xs >>= λ zs. Ok (y ∷ zs)) ys e in
    let rest = bind_ok (each f (i + 1) xs) (λ zs. Ok (first.0 ∷ zs)) ys first.2 in
    let parts : first.0 ∷ rest.0 ≡ ys = ok_is _ _ rest.2 in
    rw (← parts, good (capped i) x first.0 first.1, each_within p f good (i + 1) xs rest.0 rest.1) refl

-- one list of moves after another
pub in_range-append : (g : Givens) (xs ys : List Move) → are_in_range g xs ≡ true → are_in_range g ys ≡ true → are_in_range g (xs ++ ys) ≡ true
in_range-append g [] ys front back = back
in_range-append g (x ∷ xs) ys front back =
    let (here, more) = and_parts (is_within g.workers (mover x)) (are_in_range g xs) front in
    rw (here, in_range-append g xs ys more back) refl

-- the first of some moves
pub in_range-take : (g : Givens) (n : ℕ) (moves : List Move) → are_in_range g moves ≡ true → are_in_range g (take n moves) ≡ true
in_range-take g zero moves h = refl
in_range-take g (suc n) [] h = refl
in_range-take g (suc n) (m ∷ moves) h = let parts = and_parts _ _ h in and_from _ _ parts.0 (in_range-take g n moves parts.1)

within : (n p : ℕ) → 1 ≤ p → p ≤ n → is_within n p ≡ true
within n p low high = grind (arith, nat_tests)

-- one move of a worker that there is
pub one_in_range : (g : Givens) (m : Move) → IsWorker g (mover m) → are_in_range g (m ∷ []) ≡ true
one_in_range g m is = and_from _ true (within g.workers (mover m) is.low is.high) refl

turns_in_range : (g : Givens) (k c : ℕ) → is_within g.workers k ≡ true → are_in_range g (replicate c (Turn k)) ≡ true
turns_in_range g k zero h = refl
turns_in_range g k (suc c) h = rw (h, turns_in_range g k c h) refl

of_word_in_range : (g : Givens) (x : ScheduleWord) → word_within g.workers x ≡ true → are_in_range g (moves_of_word x) ≡ true
of_word_in_range g (Turns k c) h = turns_in_range g k c h
of_word_in_range g (Stop k) h = rw h refl
of_word_in_range g (Departure k) h = rw h refl

of_words_in_range : (g : Givens) (ws : List ScheduleWord) → list_all (word_within g.workers) ws ≡ true → are_in_range g (moves_of ws) ≡ true
of_words_in_range g [] h = refl
of_words_in_range g (w ∷ ws) h =
    let (here, more) = and_parts (word_within g.workers w) (list_all (word_within g.workers) ws) h in
    in_range-append g (moves_of_word w) (moves_of ws) (of_word_in_range g w here) (of_words_in_range g ws more)

-- the moves that are read are of workers that exist
pub schedule_in_range : (version : ℕ) (g : Givens) (text : List ℕ) (moves : List Move) → read_schedule version g.workers text ≡ Ok moves → are_in_range g moves ≡ true
unfolding read_schedule short_moves_of
schedule_in_range version g text moves e =
    let m = g.workers in
    let a = bind_ok (read_words version m (words_of text)) (λ words. unless (leb (length (moves_of words)) MOST_MOVES) TooLong (Ok (moves_of words))) moves e in
    let b = unless_ok (leb (length (moves_of a.0)) MOST_MOVES) TooLong (Ok (moves_of a.0)) moves a.2 in
    let same : moves_of a.0 ≡ moves = ok_is _ _ b.1 in
    rw (← same) (of_words_in_range g a.0 (each_within (word_within m) (word_at version m) (at_within version m) 1 (words_of text) a.0 a.1))
