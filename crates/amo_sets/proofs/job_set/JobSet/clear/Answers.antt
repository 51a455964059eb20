-- `JobSet::clear`: what its type keeps and its promises, by the lemmas of Tables, Numbers, Words
-- and Shown.
use Rattle.std.proofs.Common.{◌≡◌, vec_len, ℕ, replicate, false, rules, ap, sym, ◌∙◌}
use Rattle.amo_sets.specs.Bits.{bit}
use Rattle.amo_sets.proofs.Tables.{table_constant}
use Rattle.amo_sets.proofs.Numbers.{count_nothing}
use Rattle.amo_sets.proofs.Words.{bit-zeros}
use Rattle.amo_sets.proofs.Shown.{length_of}
use Rattle.amo_sets.proofs.job_set.JobSet.clear.Goals as goal

pub invariant_of-self : goal.invariant_of-self
invariant_of-self c =
    let none : (j : ℕ) → bit c.fill.new.self.items j ≡ false = bit-zeros c.fill.new.self.items (vec_len c.self.inside.words) (search rules) in
    record {
      size = c.fill.ensures.len ∙ c.self.invariant.size;
      room = c.fill.ensures.capacity ∙ c.self.invariant.room;
      small = c.self.invariant.small;
      spare = λ j _. none j;
      kept = sym (count_nothing c.self.inside.range (bit c.fill.new.self.items) (λ j _ _. none j));
    }

pub returns : goal.returns
returns c =
    table_constant false (bit c.fill.new.self.items) c.self.inside.range (λ j _ _. bit-zeros c.fill.new.self.items (vec_len c.self.inside.words) (search rules) j)
    ∙ ap (λ (n : ℕ). replicate n false) (sym (length_of c.self.inside c.args.self.now c.self.view_is))
