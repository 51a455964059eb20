-- `Knowledge::new`: what its type keeps and its promises, by the lemmas of Sets (amo_sets) and
-- OpenJobs.
use Rattle.std.proofs.Common.{◌≡◌, [], ap, sym, ◌∙◌, length, true, false}
use Rattle.std.proofs.lemmas.List.{length-replicate}
use Rattle.amo_sets.specs.Sets.{set_of_bits}
use Rattle.amo_sets.proofs.Sets.{set_of_bits-replicate}
use Rattle.amo_kk.specs.Knowledge.{numbers_without}
use Rattle.amo_kk.proofs.OpenJobs.{numbers_without-replicate, opens_at_first}
use Rattle.amo_kk.proofs.knowledge.Knowledge.new.Goals as goal

pub invariant_of-result : goal.invariant_of-result
invariant_of-result c =
    record {
      same_range = ap length c.in_ok-tried.ensures ∙ length-replicate c.args.jobs false ∙ sym (ap length c.in_ok-free.ensures ∙ length-replicate c.args.jobs true);
      opens = opens_at_first c.args.jobs c.in_ok-free.free c.in_ok-tried.tried c.in_ok-free.ensures c.in_ok-tried.ensures;
    }

pub returns : goal.returns
returns c =
    let range : length c.in_ok-free.free ≡ c.args.jobs = ap length c.in_ok-free.ensures ∙ length-replicate c.args.jobs true in
    let known : numbers_without c.in_ok-free.free ≡ [] = ap numbers_without c.in_ok-free.ensures ∙ numbers_without-replicate c.args.jobs in
    let tried : set_of_bits c.in_ok-tried.tried ≡ [] = ap set_of_bits c.in_ok-tried.ensures ∙ set_of_bits-replicate c.args.jobs in
    λ i. record { range = range i; known = known i; tried = tried i }
