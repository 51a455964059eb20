-- Two workers never have one seat, the first has seat 1, and each seat is some worker's.
use Rattle.std.proofs.Common.{◌≡◌, ◌⊎◌, inl, inr, ⊎_elim, ℕ, ◌+◌, ◌-◌, ◌<◌, ◌≤◌, Bool, true, false, cond, ◌&&◌, Some, None, refl, ap, ◌∙◌, arith}
use Rattle.std.specs.Prelude.{nat_le}
use Rattle.std.proofs.lemmas.Bool.{and_from, and_parts}
use Rattle.std.proofs.lemmas.Bool.Decides.{nat_tests}
use Rattle.amo_run_files.specs.Rounds.{turn_of, seat_of}
use Rattle.amo_run_log.proofs.Words.{blank_and}

at_most : (a b : ℕ) → nat_le a b ≡ true → a ≤ b
at_most a b t = grind (arith, nat_tests)

at_most_is : (a b : ℕ) → a ≤ b → nat_le a b ≡ true
at_most_is a b t = grind (arith, nat_tests)

more_than : (a b : ℕ) → nat_le a b ≡ false → b < a
more_than a b t = grind (arith, nat_tests)

-- where on the circle
abbrev IsTurn : ℕ → ℕ → ℕ → ℕ → Type 0
IsTurn worker first workers place = ((first ≤ worker) × (place + first ≡ worker + 1)) ⊎ ((worker < first) × (place + first ≡ worker + workers + 1))

placed : (worker first workers : ℕ) → first ≤ workers → IsTurn worker first workers (turn_of worker first workers)
placed worker first workers le = by_test (nat_le first worker) refl
  where
    by_test : (b : Bool) → nat_le first worker ≡ b → IsTurn worker first workers (cond b ((worker - first) + 1) (((worker + workers) - first) + 1))
    by_test true t = let here = at_most first worker t in inl (here, omega (arith, here))
    by_test false t = let past = more_than first worker t in inr (past, omega (arith, past))

record IsSeat (worker first workers shared seat : ℕ) : Type 0 where
  pub from_1 : 1 ≤ worker
  pub there : worker ≤ workers
  pub shares : seat ≤ shared
  pub is_turn : IsTurn worker first workers seat

seated : (worker first workers shared seat : ℕ) → first ≤ workers → seat_of worker first workers shared ≡ Some seat → IsSeat worker first workers shared seat
seated worker first workers shared seat le h =
    let place = turn_of worker first workers in
    let (passes, some) = blank_and ((nat_le 1 worker && nat_le worker workers) && nat_le place shared) (Some place) seat h in
    let (inside, few) = and_parts (nat_le 1 worker && nat_le worker workers) (nat_le place shared) passes in
    let (from, there) = and_parts (nat_le 1 worker) (nat_le worker workers) inside in
    let is : place ≡ seat = cc in
    let shares : place ≤ shared = at_most place shared few in
    record {
      from_1 = at_most 1 worker from;
      there = at_most worker workers there;
      shares = omega (arith, shares, is);
      is_turn = ⊎_elim (λ here. inl (here.0, omega (arith, here.1, is))) (λ past. inr (past.0, omega (arith, past.1, is))) (placed worker first workers le);
    }

takes_seat : (worker first workers shared : ℕ) → 1 ≤ worker → worker ≤ workers → turn_of worker first workers ≤ shared → seat_of worker first workers shared ≡ Some (turn_of worker first workers)
takes_seat worker first workers shared from there shares =
    let place = turn_of worker first workers in
    ap (λ b. cond b (Some place) None) (and_from (nat_le 1 worker && nat_le worker workers) (nat_le place shared) (and_from (nat_le 1 worker) (nat_le worker workers) (at_most_is 1 worker from) (at_most_is worker workers there)) (at_most_is place shared shares))

pub one_each : (one other first workers shared seat : ℕ) → first ≤ workers → seat_of one first workers shared ≡ Some seat → seat_of other first workers shared ≡ Some seat → one ≡ other
one_each one other first workers shared seat le h k =
    let a : IsSeat one first workers shared seat = seated one first workers shared seat le h in
    let b : IsSeat other first workers shared seat = seated other first workers shared seat le k in
    ⊎_elim
    (λ x. ⊎_elim (λ y. omega (arith, x.1, y.1)) (λ y. absurd (omega (arith, a.there, b.from_1, x.1, y.1))) b.is_turn)
    (λ x. ⊎_elim (λ y. absurd (omega (arith, b.there, a.from_1, x.1, y.1))) (λ y. omega (arith, x.1, y.1)) b.is_turn)
    a.is_turn

pub in_range : (worker first workers shared seat : ℕ) → first ≤ workers → seat_of worker first workers shared ≡ Some seat → (1 ≤ seat) × (seat ≤ shared) × (worker ≤ workers)
in_range worker first workers shared seat le h =
    let a : IsSeat worker first workers shared seat = seated worker first workers shared seat le h in
    (⊎_elim (λ x. omega (arith, x.0, x.1)) (λ x. omega (arith, le, a.from_1, x.1)) a.is_turn, a.shares, a.there)

pub first_seat : (first workers shared : ℕ) → 1 ≤ first → first ≤ workers → 1 ≤ shared → seat_of first first workers shared ≡ Some 1
first_seat first workers shared from there some =
    let one : turn_of first first workers ≡ 1 = ap (λ b. cond b ((first - first) + 1) (((first + workers) - first) + 1)) (at_most_is first first (omega arith)) ∙ omega arith in
    takes_seat first first workers shared from there (omega (arith, one, some)) ∙ ap Some one

-- whose seat it is
holder : (first workers shared seat : ℕ) → 1 ≤ first → first ≤ workers → 1 ≤ seat → seat ≤ workers → (worker : ℕ) × (1 ≤ worker) × (worker ≤ workers) × (turn_of worker first workers ≡ seat)
holder first workers shared seat from there one few = by_test (nat_le (seat + first) (workers + 1)) refl
  where
    by_test : (b : Bool) → nat_le (seat + first) (workers + 1) ≡ b → (worker : ℕ) × (1 ≤ worker) × (worker ≤ workers) × (turn_of worker first workers ≡ seat)
    by_test true t =
        let inside = at_most (seat + first) (workers + 1) t in (
          (seat + first) - 1,
          omega (arith, one, from),
          omega (arith, inside),
          ⊎_elim (λ here. omega (arith, here.1, one, from)) (λ past. absurd (omega (arith, past.0, one, from))) (placed ((seat + first) - 1) first workers there),
        )
    by_test false t =
        let round = more_than (seat + first) (workers + 1) t in (
          (seat + first) - (workers + 1),
          omega (arith, round),
          omega (arith, few, there),
          ⊎_elim (λ here. absurd (omega (arith, here.0, round, few, there))) (λ past. omega (arith, past.1, round)) (placed ((seat + first) - (workers + 1)) first workers there),
        )

pub each_taken : (first workers shared seat : ℕ) → 1 ≤ first → first ≤ workers → shared ≤ workers → 1 ≤ seat → seat ≤ shared → (worker : ℕ) × (seat_of worker first workers shared ≡ Some seat)
each_taken first workers shared seat from there few one shares =
    let (worker, w_from, w_there, is) = holder first workers shared seat from there one (omega (arith, few, shares)) in
    (worker, takes_seat worker first workers shared w_from w_there (omega (arith, is, shares)) ∙ ap Some is)
