-- Alone, a worker makes at most three attempts until it claims or ends, and reads little in each.
use Rattle.std.proofs.Common.{◌≡◌, ⊎_elim, ℕ, zero, suc, ◌+◌, ◌-◌, ◌<◌, ◌≤◌, Bool, true, false, ◌&&◌, refl, sym, ap, ◌∙◌, subst, arith}
use Rattle.std.specs.Prelude.{if◌then◌else◌, ◌==◌, nat_lt}
use Rattle.std.proofs.lemmas.Bool.Decides.{nat_tests}
use Rattle.std.proofs.lemmas.Bool.{cases_lt, true≢false, or_parts}
use Rattle.amo_params.specs.Givens.{AreGivens}
use Rattle.amo_kk.specs.Step.{want_in, want, is_load}
use Rattle.amo_kk.specs.World.{process, world_after_turn}
use Rattle.amo_kk.specs.Alone.{is_claiming, claims_or_ends, world_after_turns, IsFirstToClaimOrEnd, want_at, value_at, stores_announcement, reads_announcement, reads_zero, reads_entry, turns_that, attempts_going_on, turns_of_attempt, FitsThreeAttempts}
use Rattle.amo_kk.specs.Lawful.{IsLawful}
use Rattle.amo_params.specs.declared.givens.Givens.{Givens}
use Rattle.amo_kk.specs.declared.phase.Phase.{Phase}
use Rattle.amo_kk.specs.declared.phase.Phase.TheVariants.{Announcing, Trying, Reading, Claiming, Holding, Over, Left}
use Rattle.amo_kk.specs.declared.phase.Want.{Want}
use Rattle.amo_kk.specs.declared.model.Record.{Record}
use Rattle.amo_kk.specs.declared.model.World.{World}
use Rattle.amo_kk.proofs.OwnTurns.{next_record, IsTurned, own_turn, stored, stored_within, to_begin, turns_that-suc}
use Rattle.amo_kk.proofs.AttemptReads.{IsPaid, IsSpent, to_hear, to_read, unread_in, announcements_paid, zeros_paid, entries_spent, attempt_begun}
use Rattle.amo_kk.proofs.Alone.{stores_few}

-- what attempt a may still count, where n is the number of the attempt by now, which has so much
-- left
abbrev still : (each n a left : ℕ) → ℕ
still each n a left = if n == a then left else (if nat_lt n a then each else 0)

-- a turn that stores or not, and passes the test or not, takes from what attempt a may still count
one_turn : (stores passes : Bool) (each n a left rest : ℕ) → (if passes then 1 else 0) + rest ≤ (if stores then each else left)
    → (if ((n + (if stores then 1 else 0)) == a) && passes then 1 else 0) + still each (n + (if stores then 1 else 0)) a rest ≤ still each n a left
one_turn true true each n a left rest h = grind (arith, nat_tests)
one_turn true false each n a left rest h = grind (arith, nat_tests)
one_turn false true each n a left rest h = grind (arith, nat_tests)
one_turn false false each n a left rest h = grind (arith, nat_tests)

last_turn : (stores passes : Bool) (each n a left rest : ℕ) → (if passes then 1 else 0) + rest ≤ (if stores then each else left)
    → (if ((n + (if stores then 1 else 0)) == a) && passes then 1 else 0) ≤ still each n a left
last_turn stores passes each n a left rest h = let all = one_turn stores passes each n a left rest h in omega arith

module _ (g : Givens) (ok : AreGivens g) (p : ℕ) where
  -- p goes on in its next i turns
  abbrev GoesOn : World → ℕ → Type 0
  GoesOn w i = (k : ℕ) → k < i → claims_or_ends g (world_after_turns g w p k) p ≡ false

  first_turn : (w : World) (i : ℕ) → IsLawful g w → (process w p).gone ≡ false → GoesOn w (suc i) → IsTurned g w p (world_after_turn g w p)
  first_turn w i law here goes_on = own_turn g w p law here (or_parts (is_claiming (process w p).local.phase) _ (goes_on 0 (omega arith))).1

  paid : (test : Want → ℕ → Bool) (each : ℕ) (left : Record → ℕ) → IsPaid g p test each left
      → (a i n : ℕ) (w : World) → IsLawful g w → (process w p).gone ≡ false → GoesOn w i
      → turns_that (λ k. ((n + stored_within g w p k) == a) && test (want_at g w p k) (value_at g w p k)) i ≤ still each n a (left (process w p).local)
  paid test each left pays a zero n w law here goes_on = last_turn (stores_announcement (want (process w p).local)) (test (want_at g w p 0) (value_at g w p 0)) each n a _ _ (pays w law here)
  paid test each left pays a (suc i) n w law here goes_on =
      let t = first_turn w i law here goes_on in
      let v = world_after_turn g w p in
      let number : (k : ℕ) → n + stored_within g w p (suc k) ≡ n + stored w p + stored_within g v p k = λ k. let apart = turns_that-suc (λ l. stores_announcement (want_at g w p l)) k in omega arith in
      let rest = paid test each left pays a i (n + stored w p) v t.law t.here (λ k l. goes_on (suc k) (omega arith)) in
      let later : turns_that (λ k. ((n + stored_within g w p (suc k)) == a) && test (want_at g v p k) (value_at g v p k)) i ≤ still each (n + stored w p) a (left (next_record g w p)) =
      subst (λ r. turns_that (λ k. ((n + stored_within g w p (suc k)) == a) && test (want_at g v p k) (value_at g v p k)) i ≤ still each (n + stored w p) a (left r)) t.local
      (subst (λ (f : ℕ → ℕ). turns_that (λ k. (f k == a) && test (want_at g v p k) (value_at g v p k)) i ≤ still each (n + stored w p) a (left (process v p).local)) (λ x k. sym (number k) x) rest) in
      let first = one_turn (stores_announcement (want (process w p).local)) (test (want_at g w p 0) (value_at g w p 0)) each n a (left (process w p).local) (left (next_record g w p)) (pays w law here) in
      let all = turns_that-suc (λ k. ((n + stored_within g w p k) == a) && test (want_at g w p k) (value_at g w p k)) i in
      omega arith

  spent : (test : Want → ℕ → Bool) (left : Record → ℕ) → IsSpent g p test left
      → (i : ℕ) (w : World) → IsLawful g w → (process w p).gone ≡ false → GoesOn w i
      → turns_that (λ k. test (want_at g w p k) (value_at g w p k)) i ≤ left (process w p).local
  spent test left spends zero w law here goes_on = let first = spends w law here in omega arith
  spent test left spends (suc i) w law here goes_on =
      let t = first_turn w i law here goes_on in
      let v = world_after_turn g w p in
      let rest = subst (λ r. turns_that (λ k. test (want_at g v p k) (value_at g v p k)) i ≤ left r) t.local (spent test left spends i v t.law t.here (λ k l. goes_on (suc k) (omega arith))) in
      let first = spends w law here in
      let all = turns_that-suc (λ k. test (want_at g w p k) (value_at g w p k)) i in
      omega arith

  -- an attempt that goes on has begun
  begun : (i k n : ℕ) (w : World) → IsLawful g w → (process w p).gone ≡ false → GoesOn w i → k ≤ i → attempts_going_on (process w p).local.phase ≤ n
      → n + stored_within g w p k ≡ 0 → is_load (want_at g w p k) ≡ false
  begun i zero n w law here goes_on l most none = no_attempt (process w p).local (omega arith)
    where
      no_attempt : (r : Record) → attempts_going_on r.phase ≡ 0 → is_load (want r) ≡ false
      no_attempt r = go r.phase
        where
          go : (phase : Phase) → attempts_going_on phase ≡ 0 → is_load (want_in r phase) ≡ false
          go (Announcing j) h = refl
          go (Trying j q) h = absurd (omega arith)
          go (Reading j q) h = absurd (omega arith)
          go (Claiming j) h = refl
          go (Holding j) h = refl
          go Over h = refl
          go Left h = refl
  begun zero (suc k) n w law here goes_on l most none = absurd (omega arith)
  begun (suc i) (suc k) n w law here goes_on l most none =
      let t = first_turn w i law here goes_on in
      let kept = attempt_begun g p w law here in
      let same = ap (λ (r : Record). attempts_going_on r.phase) t.local in
      let apart = turns_that-suc (λ l. stores_announcement (want_at g w p l)) k in
      begun i k (n + stored w p) (world_after_turn g w p) t.law t.here (λ k l. goes_on (suc k) (omega arith)) (omega arith) (omega arith) (omega arith)

-- the attempt of a phase goes on, or is still to begin
goes_on_or_begins : (phase : Phase) → attempts_going_on phase + to_begin phase ≤ 1
goes_on_or_begins (Announcing j) = omega arith
goes_on_or_begins phase = omega arith

-- only one turn is the first
one_first : (g : Givens) (w : World) (p i k : ℕ) → IsFirstToClaimOrEnd g w p i → IsFirstToClaimOrEnd g w p k → i ≡ k
one_first g w p i k a b = ⊎_elim
    (λ (l : i < k). absurd (true≢false (sym a.this_one ∙ b.none_before i l)))
    (λ (l : k ≤ i). ⊎_elim (λ (m : k < i). absurd (true≢false (sym b.this_one ∙ a.none_before k m))) (λ (m : i ≤ k). omega arith) (cases_lt k i))
    (cases_lt i k)

still_at_most : (each n a left : ℕ) → left ≤ each → still each n a left ≤ each
still_at_most each n a left h = grind (arith, nat_tests)

pub fits_three : (g : Givens) (w : World) (p i : ℕ) → AreGivens g → IsLawful g w → (process w p).gone ≡ false → IsFirstToClaimOrEnd g w p i → FitsThreeAttempts g w p i
fits_three g w p i ok law here first =
    record {
      three =
          let few = stores_few g w p ok law here in
          let stores = subst (λ k. stored_within g w p k ≤ to_begin (process w p).local.phase + 2) (one_first g w p few.0 i few.2 first) few.3 in
          let one = goes_on_or_begins (process w p).local.phase in
          omega arith;
      stores = counts (λ x v. stores_announcement x) 1 (λ _. 0) (λ _ _ _. omega arith) (omega arith);
      announcements = counts (λ x v. reads_announcement x) (g.workers - 1) (λ r. to_hear g p r.phase) (announcements_paid g p) (few_to_hear (process w p).local.phase);
      zeros = counts reads_zero (g.workers - 1) (λ r. to_read g p r.phase) (zeros_paid g p) (few_to_read (process w p).local.phase);
      between = λ k l none. begun g ok p i k (attempts_going_on (process w p).local.phase) w law here first.none_before l (omega arith) none;
      entries = λ q e. let most = spent g ok p (reads_entry q e) (λ r. unread_in q e r.fronts) (entries_spent g p q e) i w law here first.none_before in one_at_most _ _ most;
    }
  where
    counts : (test : Want → ℕ → Bool) (each : ℕ) (left : Record → ℕ) → IsPaid g p test each left → left (process w p).local ≤ each
        → (a : ℕ) → turns_of_attempt g w p a (λ k. test (want_at g w p k) (value_at g w p k)) i ≤ each
    counts test each left pays few a =
        let n = attempts_going_on (process w p).local.phase in
        let all = paid g ok p test each left pays a i n w law here first.none_before in
        let most = still_at_most each n a (left (process w p).local) few in
        omega arith

    few_to_hear : (phase : Phase) → to_hear g p phase ≤ g.workers - 1
    few_to_hear (Announcing j) = omega arith
    few_to_hear phase = omega arith

    few_to_read : (phase : Phase) → to_read g p phase ≤ g.workers - 1
    few_to_read (Announcing j) = omega arith
    few_to_read phase = omega arith

    one_at_most : (b : Bool) (n : ℕ) → n ≤ (if b then 0 else 1) → n ≤ 1
    one_at_most true n h = omega arith
    one_at_most false n h = omega arith
