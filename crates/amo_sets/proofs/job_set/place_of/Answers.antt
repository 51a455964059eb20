-- `place_of`: the premises of its calls, what its loop keeps and its promises, by the lemmas of
-- Tally and Words.
use Rattle.std.proofs.Common.{rules, arith, add-one, ◌≡◌, ◌≢◌, ◌+◌, ◌∙◌, true, ℕ, ap, sym, eq-eqb, ne_eqb}
use Rattle.std.specs.Prelude.{if◌then◌else◌, ◌==◌}
use Rattle.std.specs.Int.{bit_at}
use Rattle.std.proofs.lemmas.Bool.{and_from}
use Rattle.std.proofs.lemmas.Nat.Bits.{shr_and_one}
use Rattle.amo_sets.specs.Bits.{is_one}
use Rattle.amo_sets.specs.Rank.{count, has_rank}
use Rattle.amo_sets.proofs.Tally.{tally_count}
use Rattle.amo_sets.proofs.Words.{tally_ones}
use Rattle.amo_sets.proofs.job_set.place_of.Goals as goal
use Rattle.amo_sets.proofs.job_set.place_of.Goals.{then-word-r-eq1+else-left-eq1, else-word-r-eq1}

-- the bit at r is 1, or it isn't
more_one : (w r : ℕ) → bit_at w r ≡ 1 → count (r + 1) (is_one w) ≡ count r (is_one w) + 1
more_one w r is = ap (λ (n : ℕ). count n (is_one w)) (add-one r) ∙ ap (λ b. count r (is_one w) + (if b then 1 else 0)) (eq-eqb (bit_at w r) 1 is)

more_none : (w r : ℕ) → bit_at w r ≢ 1 → count (r + 1) (is_one w) ≡ count r (is_one w) + 0
more_none w r is = ap (λ (n : ℕ). count n (is_one w)) (add-one r) ∙ ap (λ b. count r (is_one w) + (if b then 1 else 0)) (ne_eqb (bit_at w r) 1 is)

ranked_here : (w r i : ℕ) → bit_at w r ≡ 1 → count r (is_one w) + 1 ≡ i → has_rank (is_one w) i (r + 1) ≡ true
ranked_here w r i is before =
    and_from (is_one w (r + 1)) (count (r + 1) (is_one w) == i) (ap (is_one w) (add-one r) ∙ eq-eqb (bit_at w r) 1 is) (eq-eqb (count (r + 1) (is_one w)) i (more_one w r is ∙ before))

pub returns-then-left-eq1-clause-rank : goal.returns-then-left-eq1-clause-rank
returns-then-left-eq1-clause-rank c =
    ranked_here c.args.word c.loop-r.r c.args.i (sym (shr_and_one c.args.word c.loop-r.r) ∙ c.if-word-r-eq1.true) (let before = c.loop-r.invariant.before in omega arith)

pub loop-r-preserved : goal.loop-r-preserved
loop-r-preserved c = elim c.if-word-r-eq1.branch [
  | then-word-r-eq1+else-left-eq1 w ↦ (
      let some = c.loop-r.invariant.some in
      let ne = w.if-left-eq1.false in
      let gap : c.loop-r.left ≡ c.if-word-r-eq1.left + 1 = omega (arith, w.left-is) in
      let more = more_one c.args.word c.loop-r.r (sym (shr_and_one c.args.word c.loop-r.r) ∙ w.if-word-r-eq1.true) in
      record { before = omega (arith, c.loop-r.invariant.before); some = omega arith })
  | else-word-r-eq1 w ↦ (
      let e : c.if-word-r-eq1.left ≡ c.loop-r.left = w.left-is in
      let more = more_none c.args.word c.loop-r.r (λ is. w.if-word-r-eq1.false (shr_and_one c.args.word c.loop-r.r ∙ is)) in
      record { before = omega (arith, c.loop-r.invariant.before); some = omega (arith, c.loop-r.invariant.some) })
]

pub unreachable-requires : goal.unreachable-requires
unreachable-requires c =
    let all = sym (tally_count 64 (is_one c.args.word)) ∙ tally_ones 64 c.args.word (search rules) in
    let at : c.loop-r.r ≡ 64 = omega arith in
    let e = ap (λ (r : ℕ). count r (is_one c.args.word)) at in
    let before = c.loop-r.invariant.before in
    omega (arith, c.loop-r.invariant.some, c.requires.high)
