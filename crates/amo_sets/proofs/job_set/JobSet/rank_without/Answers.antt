-- `JobSet::rank_without`: no overflow, the premises of its calls, what its loop keeps and its
-- promises, by the lemmas of Numbers, Ranks, Shown, Tally and Without.
use Rattle.std.proofs.Common.{rules, arith, ⊎_elim, refl, true≢false, ◌≡◌, ◌<◌, ◌*◌, ◌+◌, length, sym, inl, inr}
use Rattle.amo_sets.specs.Bits.{is_without}
use Rattle.amo_sets.specs.Rank.{count}
use Rattle.amo_sets.proofs.Numbers.{IsRanked}
use Rattle.amo_sets.proofs.Ranks.{number_of_no_rank, number_of, has_rank_of, rank_within}
use Rattle.amo_sets.proofs.Shown.{length_of}
use Rattle.amo_sets.proofs.Tally.{tally-zero}
use Rattle.amo_sets.proofs.Without.{word_counted, all_without, rank_is}
use Rattle.amo_sets.proofs.job_set.JobSet.rank_without.Goals as goal

pub returns-then-i-eq0-clause-number : goal.returns-then-i-eq0-clause-number
returns-then-i-eq0-clause-number c = sym (number_of_no_rank (length c.args.self.now) (is_without c.args.self.now c.args.other.now) c.args.i (inl c.if-i-eq0.true))

pub loop-q-init : goal.loop-q-init
loop-q-init c = let none = tally-zero (is_without c.args.self.now c.args.other.now) in record { before = omega arith; some = omega arith }

pub word_without-word-requires-clause-within : goal.word_without-word-requires-clause-within
word_without-word-requires-clause-within c = let n = length_of c.self.inside c.args.self.now c.self.view_is in omega (arith, c.self.invariant.size)

-- the member that was found has the wanted rank
found : (c : goal.After-place_of) → IsRanked (length c.args.self.now) (is_without c.args.self.now c.args.other.now) c.args.i (64 * c.loop-q.q + c.place_of.result)
found c =
    rank_is c.args.self.now c.args.other.now c.loop-q.q c.word_without-word.result c.place_of.result c.args.i c.loop-q.left
    c.word_without-word.ensures c.loop-q.invariant.before c.place_of.ensures.within c.place_of.ensures.rank

pub overflow_add-result : goal.overflow_add-result
overflow_add-result c = let high = (found c).high in let n = length_of c.self.inside c.args.self.now c.self.view_is in omega (arith, c.self.invariant.small)

pub returns-then-left-ones-clause-none : goal.returns-then-left-ones-clause-none
returns-then-left-ones-clause-none c =
    let (low, high) = rank_within (length c.args.self.now) (is_without c.args.self.now c.args.other.now) c.args.i (64 * c.loop-q.q + c.place_of.result) (found c) in
    ((λ e. absurd (true≢false e)), ⊎_elim (λ (e : c.args.i ≡ 0). absurd (omega arith)) (λ (l : count (length c.args.self.now) (is_without c.args.self.now c.args.other.now) < c.args.i). absurd (omega arith)))

pub returns-then-left-ones-clause-some : goal.returns-then-left-ones-clause-some
returns-then-left-ones-clause-some c =
    let ranked = found c in
    (ranked.low, ranked.high, has_rank_of (length c.args.self.now) (is_without c.args.self.now c.args.other.now) c.args.i (64 * c.loop-q.q + c.place_of.result) ranked)

pub returns-then-left-ones-clause-number : goal.returns-then-left-ones-clause-number
returns-then-left-ones-clause-number c = number_of (length c.args.self.now) (is_without c.args.self.now c.args.other.now) c.args.i (64 * c.loop-q.q + c.place_of.result) (found c)

pub loop-q-preserved : goal.loop-q-preserved
loop-q-preserved c =
    let step = word_counted c.args.self.now c.args.other.now c.loop-q.q c.word_without-word.result c.word_without-word.ensures (search rules) in
    record { before = omega (arith, c.loop-q.invariant.before); some = omega arith }

-- if all words were passed, fewer than i are left
too_few : (c : goal.After-loop-q) → count (length c.args.self.now) (is_without c.args.self.now c.args.other.now) < c.args.i
too_few c =
    let n = length_of c.self.inside c.args.self.now c.self.view_is in
    let all = all_without c.args.self.now c.args.other.now c.loop-q.q (omega (arith, c.self.invariant.size)) in
    let before = c.loop-q.invariant.before in
    let some = c.loop-q.invariant.some in
    omega arith

pub returns-clause-none : goal.returns-clause-none
returns-clause-none c = ((λ _. inr (too_few c)), (λ _. refl))

pub returns-clause-number : goal.returns-clause-number
returns-clause-number c =
    sym (number_of_no_rank (length c.args.self.now) (is_without c.args.self.now c.args.other.now) c.args.i (inr (too_few c)))
