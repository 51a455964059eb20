-- `push_run`: its promises, by the lemmas of Fates.
use Rattle.std.proofs.Common.{◌≡◌, ℕ, List, ◌++◌, Vec, Global, string_bytes, length, sum_by, ap, ◌∙◌}
use Rattle.amo_crew.specs.declared.outcome.End.{End}
use Rattle.amo_run_plan.specs.declared.block_done.BlockDone.{BlockDone}
use Rattle.std.specs.Prelude.{Option}
use Rattle.amo_run_plan.specs.Became.{listed}
use Rattle.amo_run_plan.specs.Noted.{noted_fate, filed_blocks}
use Rattle.amo_render.specs.Numbers.{first_line}
use Rattle.amo_run_plan.specs.OutcomeLines.{end_lines, job_lines}
use Rattle.amo_run_plan.specs.OutcomeTexts.{run_lines}
use Rattle.amo_render.specs.Results.{jobs_in_block}
use Rattle.amo_render.specs.Tallies.{tally_line, performed_line}
use Rattle.amo_run_plan.proofs.Fates.{four_parts}
use Rattle.amo_run_plan.proofs.outcome.push_run.Goals as goal

pub returns : goal.returns
unfolding run_lines
returns c =
    let h = c.args.heads.now in
    let s = c.args.outcome.now.settlement in
    let ends = c.args.outcome.now.ends.items in
    let notes = c.args.notes.now in
    let filed = notes.filed.items in
    let fates = noted_fate notes.outputs.now filed notes.claimers.items in
    let one = string_bytes c.push_first_line.new.out in
    let two = string_bytes c.push_ends.new.out in
    let three = string_bytes c.push_jobs.new.out in
    let blocks = filed_blocks filed h.givens.jobs in
    let dones : c.count_filed-dones.result ≡ length blocks =
    c.count_filed-dones.ensures
    ∙ ap (λ (l : List (Option BlockDone)). length (filed_blocks l (length l))) c.deref-4.ensures.value
    ∙ ap (λ n. length (filed_blocks filed n)) c.requires.len in
    let jobs : c.count_filed_jobs-done_jobs.result ≡ sum_by (jobs_in_block h.block (length h.names)) blocks =
    c.count_filed_jobs-done_jobs.ensures
    ∙ ap (λ (l : List (List ℕ)). sum_by (jobs_in_block h.block (length l)) (filed_blocks c.deref-5.result.now (length c.deref-5.result.now))) c.as_slice-names.ensures
    ∙ ap (λ (l : List (Option BlockDone)). sum_by (jobs_in_block h.block (length h.names)) (filed_blocks l (length l))) c.deref-5.ensures.value
    ∙ ap (λ n. sum_by (jobs_in_block h.block (length h.names)) (filed_blocks filed n)) c.requires.len in
    four_parts (string_bytes c.args.out.now) (first_line h.version h.block (length h.names) h.givens) (end_lines 1 ends (listed s.claims.items) (listed s.dones.items))
    (job_lines fates h.block 1 h.names) (performed_line h.version h.block (length h.names) blocks) one two three (string_bytes c.push_tally.new.out)
    c.in_ok-push_first_line.ensures
    (c.in_ok-push_ends.ensures
    ∙ ap (λ (l : List End). one ++ end_lines 1 l (listed c.deref-2.result.now) (listed c.deref-3.result.now)) c.deref.ensures.value
    ∙ ap (λ (l : List (Vec ℕ Global)). one ++ end_lines 1 ends (listed l) (listed c.deref-3.result.now)) c.deref-2.ensures.value
    ∙ ap (λ (l : List (Vec ℕ Global)). one ++ end_lines 1 ends (listed s.claims.items) (listed l)) c.deref-3.ensures.value)
    (c.in_ok-push_jobs.ensures ∙ ap (λ (l : List (List ℕ)). two ++ job_lines fates h.block 1 l) c.as_slice-names.ensures)
    (c.in_ok-push_tally.ensures
    ∙ ap (λ n. three ++ tally_line h.version n c.count_filed_jobs-done_jobs.result) dones
    ∙ ap (λ n. three ++ tally_line h.version (length blocks) n) jobs)
