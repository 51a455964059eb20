-- `JobSet::full`: what its type keeps and its promises, by the lemmas of Tables, Full and Numbers.
use Rattle.std.proofs.Common.{rules, arith, ◌≡◌, ◌+◌, ◌-◌, ◌*◌, ◌/◌, ◌%◌, ◌^◌, ◌<◌, ℕ, replicate, ap, sym, ◌∙◌, true}
use Rattle.std.proofs.lemmas.Nat.{pow_below}
use Rattle.std.specs.Vec.{vec_len, vec_capacity}
use Rattle.amo_sets.specs.Bits.{bit}
use Rattle.amo_sets.proofs.Tables.{table_constant}
use Rattle.amo_sets.proofs.Full.{IsFull, filled_full, trimmed_full}
use Rattle.amo_sets.proofs.Numbers.{count_every}
use Rattle.amo_sets.proofs.job_set.JobSet.full.Goals as goal
use Rattle.amo_sets.proofs.job_set.JobSet.full.Goals.{then-rest-ne0, else-rest-ne0}

as_filled : (c : goal.Joined-rest-ne0) → c.in_ok-words.words.items ≡ replicate ((c.args.n + 63) / 64) (2 ^ 64 - 1)
as_filled c = search rules

low_bits : (r : ℕ) → r < 64 → 1 * 2 ^ r % 2 ^ 64 - 1 ≡ 2 ^ r - 1
low_bits r lt = let below : 2 ^ r < 2 ^ 64 = pow_below r 64 lt in omega arith

is_full : (c : goal.Joined-rest-ne0) → IsFull c.args.n c.if-rest-ne0.words.items
is_full c = elim c.if-rest-ne0.branch [
  | then-rest-ne0 w ↦ (let f = trimmed_full c.args.n c.in_ok-words.words.items (1 * 2 ^ (c.args.n % 64) % 2 ^ 64 - 1) (as_filled c) w.if-rest-ne0.true (low_bits (c.args.n % 64) (omega arith)) in record { inside = λ j l h. (λ i. bit (w.words-is i).items j) ∙ f.inside j l h; outside = λ j h. (λ i. bit (w.words-is i).items j) ∙ f.outside j h })
  | else-rest-ne0 w ↦ (let f = filled_full c.args.n c.in_ok-words.words.items (as_filled c) w.if-rest-ne0.false in record { inside = λ j l h. (λ i. bit (w.words-is i).items j) ∙ f.inside j l h; outside = λ j h. (λ i. bit (w.words-is i).items j) ∙ f.outside j h })
]

size : (c : goal.Joined-rest-ne0) → vec_len c.if-rest-ne0.words ≡ (c.args.n + 63) / 64
size c = elim c.if-rest-ne0.branch [
  | then-rest-ne0 w ↦ ap vec_len w.words-is ∙ (search rules)
  | else-rest-ne0 w ↦ ap vec_len w.words-is ∙ (search rules)
]

room : (c : goal.Joined-rest-ne0) → vec_capacity c.if-rest-ne0.words ≡ (c.args.n + 63) / 64
room c = elim c.if-rest-ne0.branch [
  | then-rest-ne0 w ↦ ap vec_capacity w.words-is ∙ (search rules)
  | else-rest-ne0 w ↦ ap vec_capacity w.words-is ∙ (search rules)
]

pub invariant_of-result : goal.invariant_of-result
invariant_of-result c =
    let full = is_full c in
    record {
      size = size c;
      room = room c;
      small = c.ranges.n.fits;
      spare = full.outside;
      kept = sym (count_every c.args.n (bit c.if-rest-ne0.words.items) full.inside);
    }

pub returns : goal.returns
returns c = table_constant true (bit c.if-rest-ne0.words.items) c.args.n (is_full c).inside
