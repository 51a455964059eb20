-- `JobSet::empty`: what its type keeps and its promises, by the lemmas of Tables, Numbers and
-- Words.
use Rattle.std.proofs.Common.{◌≡◌, ◌+◌, ◌/◌, ℕ, false, sym, rules}
use Rattle.amo_sets.specs.Bits.{bit}
use Rattle.amo_sets.proofs.Tables.{table_constant}
use Rattle.amo_sets.proofs.Numbers.{count_nothing}
use Rattle.amo_sets.proofs.Words.{bit-zeros}
use Rattle.amo_sets.proofs.job_set.JobSet.empty.Goals as goal

pub invariant_of-result : goal.invariant_of-result
invariant_of-result c =
    let clear : (j : ℕ) → bit c.in_ok-words.words.items j ≡ false = bit-zeros c.in_ok-words.words.items ((c.args.n + 63) / 64) (search rules) in
    record {
      size = search rules;
      room = search rules;
      small = c.ranges.n.fits;
      spare = λ j _. clear j;
      kept = sym (count_nothing c.args.n (bit c.in_ok-words.words.items) (λ j _ _. clear j));
    }

pub returns : goal.returns
returns c = table_constant false (bit c.in_ok-words.words.items) c.args.n (λ j _ _. bit-zeros c.in_ok-words.words.items ((c.args.n + 63) / 64) (search rules) j)
