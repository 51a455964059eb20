-- `filed_of`: its promises, by the lemmas of DoneSets.
use Rattle.std.proofs.Common.{rules, ◌≡◌, None, List, Bool, Option, length, sym, subst, arith}
use Rattle.amo_sets.specs.Lists.{numbered}
use Rattle.amo_run_plan.specs.declared.block_done.BlockDone.{BlockDone}
use Rattle.amo_run_plan.specs.Became.{listed, lists_block}
use Rattle.amo_run_plan.specs.Noted.{is_in, IsNoted}
use Rattle.amo_run_plan.proofs.DoneSets.{sets_agree, noted_agree, written}
use Rattle.amo_run_plan.proofs.block_done.filed_of.Goals as goal

pub returns-clause-noted : goal.returns-clause-noted
returns-clause-noted c = λ b low high.
    let size : length c.deref_mut.result.now ≡ c.args.jobs = search rules in
    let here = c.note_outputs.ensures.noted b low (omega (arith, high, size)) in
    let inside = subst (λ (l : List (List Bool)). IsNoted (is_in l) c.args.outputs.now b (numbered None c.note_outputs.new.filed b)) c.deref.ensures.value here in
    let agreed = noted_agree (is_in c.in_ok-sets.sets.items) (lists_block (listed c.args.dones.now)) c.args.outputs.now b (numbered None c.note_outputs.new.filed b)
    (sets_agree c.args.jobs b low high c.args.dones.now c.in_ok-sets.sets.items c.in_ok-sets.ensures) inside in
    subst (λ (l : List (Option BlockDone)). IsNoted (lists_block (listed c.args.dones.now)) c.args.outputs.now b (numbered None l b))
    (sym (written c.in_ok-filed.filed.len c.note_outputs.new.filed c.in_ok-filed.filed.items (search rules))) agreed
