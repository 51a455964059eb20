-- Within this crate: what is noted of blocks while an outcome is read.
use Rattle.std.specs.Prelude.{◌≡◌, ℕ, ◌≤◌, Bool, true, false, List, length, Option, Some, None, option_map, [], is_some, slice_get, nat_le, if◌then◌else◌}
use Rattle.amo_sets.specs.Lists.{numbered}
use Rattle.amo_sets.specs.Sets.{has, members}
use Rattle.amo_run_plan.specs.declared.block_done.BlockDone.{BlockDone}
use Rattle.amo_run_plan.specs.Became.{Handed, doer_of, output_of, Fate}

-- the bits of 1..n are those of the numbers of the list
abbrev pub IsSetOf : ℕ → List ℕ → List Bool → Type 0
IsSetOf n js bits = (length bits ≡ n) × ((k : ℕ) → 1 ≤ k → k ≤ n → numbered false bits k ≡ has js k)

-- whether the set with this number has job j
abbrev pub is_in : List (List Bool) → ℕ → ℕ → Bool
is_in sets p j = numbered false (numbered [] sets p) j

-- the output that stays noted: the earlier, unless the later is of a lesser worker
abbrev pub kept : Option BlockDone → BlockDone → BlockDone
kept None later = later
kept (Some earlier) later = if nat_le earlier.worker later.worker then earlier else later

-- what is noted with a later output: nothing more, unless it counts
abbrev pub noted_with : Bool → Option BlockDone → BlockDone → Option BlockDone
noted_with true noted later = Some (kept noted later)
noted_with false noted later = noted

-- The note on block b is the first output of the least worker that has done it by this test.
abbrev pub IsNoted : (ℕ → ℕ → Bool) → List Handed → ℕ → Option BlockDone → Type 0
IsNoted has_done outputs b None = doer_of has_done outputs b ≡ None
IsNoted has_done outputs b (Some f) =
    (x : Handed) × (slice_get outputs f.place ≡ Some x) × (doer_of has_done outputs b ≡ Some f.worker) × (output_of outputs f.worker b ≡ Some x)

-- the output that is noted
abbrev pub noted_output : List Handed → Option BlockDone → Option Handed
noted_output outputs None = None
noted_output outputs (Some f) = slice_get outputs f.place

-- what is noted of a block
abbrev pub fate_in : List Handed → Option BlockDone → Option ℕ → Fate
fate_in outputs filed claimer = record {
  doer = option_map (λ (f : BlockDone). f.worker) filed;
  output = noted_output outputs filed;
  claimer = claimer;
}

-- what is noted of block b
abbrev pub noted_fate : List Handed → List (Option BlockDone) → List (Option ℕ) → ℕ → Fate
noted_fate outputs filed claimers b = fate_in outputs (numbered None filed b) (numbered None claimers b)

-- the blocks of 1..n of which an output is noted, in rising order
abbrev pub filed_blocks : List (Option BlockDone) → ℕ → List ℕ
filed_blocks filed n = members n (λ b. is_some (option_map (λ (f : BlockDone). f.worker) (numbered None filed b)))

-- worker p, if it has claimed block b
abbrev pub claimed_by : ℕ → List ℕ → ℕ → Option ℕ
claimed_by p claims b = if has claims b then Some p else None
