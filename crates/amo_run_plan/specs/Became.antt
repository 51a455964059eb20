-- The fate of a block: the worker that has done it, and the one that has claimed it.
use Rattle.std.specs.Prelude.{ℕ, ◌+◌, Bool, ◌&&◌, ◌==◌, if◌then◌else◌, List, [], ◌∷◌, map, filter, find, Option, Some, None, is_some}
use Rattle.std.proofs.Common.{Vec, Global}
use Rattle.amo_sets.specs.Lists.{numbered}
use Rattle.amo_sets.specs.Sets.{has, members}
use Rattle.amo_mailbox.specs.declared.output.Output.{Output}
use Rattle.amo_plan.specs.declared.answer.Answer.{Answer}
use Rattle.amo_render.specs.Least.{least_of}

-- an output: its worker, its block and the answers of the block's jobs
abbrev pub Handed : Type 0
Handed = Output (Vec Answer Global)

-- the lists of all workers, in the order of their numbers
abbrev pub listed : List (Vec ℕ Global) → List (List ℕ)
listed lists = map (λ (v : Vec ℕ Global). v.items) lists

-- the least worker that has block b in its list, the first of these lists being that of worker p
abbrev pub claimer_from : ℕ → List (List ℕ) → ℕ → Option ℕ
claimer_from p [] b = None
claimer_from p (claims ∷ later) b = if has claims b then Some p else claimer_from (p + 1) later b

-- the least worker that has claimed block b
abbrev pub claimer_of : List (List ℕ) → ℕ → Option ℕ
claimer_of claims b = claimer_from 1 claims b

-- whether worker p has block b in its list
abbrev pub lists_block : List (List ℕ) → ℕ → ℕ → Bool
lists_block lists p b = has (numbered [] lists p) b

-- the least worker that has done block b by this test, and whose output of it is among the outputs
abbrev pub doer_of : (ℕ → ℕ → Bool) → List Handed → ℕ → Option ℕ
doer_of has_done outputs b = least_of (map (λ (x : Handed). x.worker) (filter (λ (x : Handed). x.job == b && has_done x.worker b) outputs))

-- the first output of worker p of block b
abbrev pub output_of : List Handed → ℕ → ℕ → Option Handed
output_of outputs p b = find (λ (x : Handed). x.worker == p && x.job == b) outputs

-- this of a worker, if there is one
abbrev pub first_output : List Handed → ℕ → Option ℕ → Option Handed
first_output outputs b None = None
first_output outputs b (Some p) = output_of outputs p b

-- The fate of a block: the worker that has done it, with its output, and the worker that has
-- claimed it.
pub record Fate : Type 0 where
  pub doer : Option ℕ
  pub output : Option Handed
  pub claimer : Option ℕ

-- this of block b
abbrev pub fate_of : List (List ℕ) → List (List ℕ) → List Handed → ℕ → Fate
fate_of claims dones outputs b = record {
  doer = doer_of (lists_block dones) outputs b;
  output = first_output outputs b (doer_of (lists_block dones) outputs b);
  claimer = claimer_of claims b;
}

-- the blocks of 1..n that somebody has done, in rising order
abbrev pub done_blocks : (ℕ → Fate) → ℕ → List ℕ
done_blocks fates n = members n (λ b. is_some (fates b).doer)
