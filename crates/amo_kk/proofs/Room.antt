-- A run has at most two events for each job and one for each worker.
use Rattle.std.proofs.Common.{◌≡◌, ℕ, zero, suc, ◌+◌, ◌*◌, ◌≤◌, true, false, not, ◌&&◌, List, [], ◌∷◌, length, refl, sym, ap, ◌∙◌, arith}
use Rattle.std.specs.Prelude.{if◌then◌else◌, nat_le, ◌==◌}
use Rattle.std.proofs.lemmas.Bool.{and_parts, ne_eqb, leb-true}
use Rattle.std.proofs.lemmas.Bool.Decides.{nat_tests}
use Rattle.amo_sets.specs.Lists.{numbered, put, table}
use Rattle.amo_sets.specs.Sets.{has, without_number}
use Rattle.amo_sets.specs.Rank.{count}
use Rattle.amo_params.specs.Givens.{is_within}
use Rattle.amo_kk.specs.Object.{first_object, is_here, has_in_hand, is_step, object_after}
use Rattle.amo_kk.specs.Run.{IsRun}
use Rattle.amo_params.specs.declared.givens.Givens.{Givens}
use Rattle.amo_kk.specs.declared.model.Object.{Object}
use Rattle.amo_kk.specs.declared.event.Event.{Event}
use Rattle.amo_kk.specs.declared.event.Event.TheVariants.{Claimed, Done, Ended, Halted, Left}
use Rattle.amo_sets.proofs.Numbers.{numbered-put_same, numbered-put_other, length-put, length-table, count_le_all}
use Rattle.amo_sets.proofs.Tally.{count_gain}
use Rattle.amo_sets.proofs.Tables.{numbered-table_same}
use Rattle.amo_sets.proofs.Removed.{has-without_other, has-without_same}
use Rattle.amo_kk.proofs.Claims.{here_parts, claim_parts, done_parts}

-- how many events may still come
abbrev events_left : Givens → Object → ℕ
events_left g s = 2 * count g.jobs (has s.unclaimed) + count g.workers (λ p. not (has_in_hand s p 0)) + count g.workers (λ p. not (numbered true s.gone p))

record HasSizes (g : Givens) (s : Object) : Type 0 where
  hands : length s.in_hand ≡ g.workers
  gone : length s.gone ≡ g.workers

sizes_after : (g : Givens) (s : Object) (e : Event) → HasSizes g s → HasSizes g (object_after s e)
sizes_after g s (Claimed p j) z = record { hands = length-put j s.in_hand p ∙ z.hands; gone = z.gone }
sizes_after g s (Done p j) z = record { hands = length-put 0 s.in_hand p ∙ z.hands; gone = z.gone }
sizes_after g s (Ended p) z = record { hands = z.hands; gone = length-put true s.gone p ∙ z.gone }
sizes_after g s (Halted p) z = record { hands = z.hands; gone = length-put true s.gone p ∙ z.gone }
sizes_after g s (Left p) z = record { hands = z.hands; gone = length-put true s.gone p ∙ z.gone }

-- whoever is here is fewer among those that are, once it is gone
goes : (g : Givens) (s : Object) (p : ℕ) → HasSizes g s → is_here g s p ≡ true
    → count g.workers (λ q. not (numbered true s.gone q)) ≡ count g.workers (λ q. not (numbered true (put s.gone p true) q)) + 1
goes g s p z h =
    let range = here_parts g s p h in
    let size = z.gone in
    let high = range.1 in
    count_gain g.workers (λ q. not (numbered true (put s.gone p true) q)) (λ q. not (numbered true s.gone q)) p range.0 range.1
    (ap not (numbered-put_same true true s.gone p range.0 (omega arith)))
    (and_parts (is_within g.workers p) (not (numbered true s.gone p)) h).1
    (λ q n. ap not (sym (numbered-put_other true true s.gone p q n)))

fewer : (g : Givens) (s : Object) (e : Event) → HasSizes g s → is_step g s e ≡ true → events_left g (object_after s e) + 1 ≤ events_left g s
fewer g s (Claimed p j) z h =
    let parts = claim_parts g s p j h in
    let size = z.hands in
    let low = parts.0.low in
    let high = parts.0.high in
    let job = parts.0.job in
    let a = and_parts (is_here g s p) (is_within g.jobs j && (has_in_hand s p 0 && has s.unclaimed j)) h in
    let b = and_parts (is_within g.jobs j) (has_in_hand s p 0 && has s.unclaimed j) a.1 in
    let c = and_parts (has_in_hand s p 0) (has s.unclaimed j) b.1 in
    let within = within_high g.jobs j b.0 in
    let jobs = count_gain g.jobs (has (without_number j s.unclaimed)) (has s.unclaimed) j job within (has-without_same j s.unclaimed) parts.1 (λ i n. sym (has-without_other j s.unclaimed i (λ e. n (sym e)))) in
    let hands = count_gain g.workers (λ q. not (has_in_hand s q 0)) (λ q. not (numbered 0 (put s.in_hand p j) q == 0)) p low high (ap not c.0)
    (ap (λ x. not (x == 0)) (numbered-put_same 0 j s.in_hand p low (omega arith)) ∙ ap not (ne_eqb j 0 (λ e. omega arith))) (λ q n. ap (λ x. not (x == 0)) (numbered-put_other 0 j s.in_hand p q n)) in
    omega arith
  where
    within_high : (n k : ℕ) → is_within n k ≡ true → k ≤ n
    within_high n k h = leb-true k n (and_parts (nat_le 1 k) (nat_le k n) h).1
fewer g s (Done p j) z h =
    let (at, held) = done_parts g s p j h in
    let hands = count_gain g.workers (λ q. not (numbered 0 (put s.in_hand p 0) q == 0)) (λ q. not (has_in_hand s q 0)) p at.low at.high
    (ap (λ x. not (x == 0)) (numbered-put_same 0 0 s.in_hand p at.low (omega (arith, at.high, z.hands)))) (ap (λ x. not (x == 0)) held ∙ ap not (ne_eqb j 0 (λ e. omega (arith, at.job)))) (λ q n. ap (λ x. not (x == 0)) (sym (numbered-put_other 0 0 s.in_hand p q n))) in
    omega arith
fewer g s (Ended p) z h = let one = goes g s p z (and_parts (is_here g s p) _ h).0 in omega arith
fewer g s (Halted p) z h = let one = goes g s p z h in omega arith
fewer g s (Left p) z h = let one = goes g s p z (and_parts (is_here g s p) (has_in_hand s p 0) h).0 in omega arith

short : (g : Givens) (s : Object) (es : List Event) → HasSizes g s → IsRun g s es → length es ≤ events_left g s
short g s [] z h = omega arith
short g s (e ∷ es) z h = let one = fewer g s e z h.0 in let rest = short g (object_after s e) es (sizes_after g s e z) h.1 in omega arith

pub run_is_short : (g : Givens) (es : List Event) → IsRun g (first_object g) es → length es ≤ 2 * g.jobs + g.workers
run_is_short g es h =
    let all = short g (first_object g) es (record { hands = length-table (λ _. 0) g.workers; gone = length-table (λ _. false) g.workers }) h in
    let jobs = count_le_all (has (first_object g).unclaimed) g.jobs in
    let gone = count_le_all (λ p. not (numbered true (first_object g).gone p)) g.workers in
    let hands : count g.workers (λ p. not (has_in_hand (first_object g) p 0)) ≡ 0 = none g.workers in
    omega arith
  where
    none : (n : ℕ) → count n (λ p. not (numbered {X = ℕ} 0 (table g.workers (λ _. 0)) p == 0)) ≡ 0
    none zero = refl
    none (suc n) = step (count n (λ p. not (numbered {X = ℕ} 0 (table g.workers (λ _. 0)) p == 0))) (numbered 0 (table g.workers (λ _. 0)) (suc n)) (numbered-table_same 0 g.workers (suc n)) (none n)
      where
        step : (c x : ℕ) → x ≡ 0 → c ≡ 0 → c + (if not (x == 0) then 1 else 0) ≡ 0
        step c x e f = grind (arith, nat_tests)
