-- Sets of jobs as bits: one bit a job, and 64 bits a word.
use Rattle.std.specs.Prelude.{ℕ, zero, suc, ◌/◌, ◌%◌, Bool, false, not, ◌&&◌, ◌==◌, List, slice_index}
use Rattle.std.specs.Int.{bit_at}
use Rattle.amo_sets.specs.Lists.{numbered}

-- whether the bit of this place is 1; the lowest bit of a word has place 1
abbrev pub is_one : ℕ → ℕ → Bool
is_one word zero = false
is_one word (suc r) = bit_at word r == 1

-- whether the bit of job j is 1: bit (j - 1) mod 64 of word (j - 1) / 64
abbrev pub bit : List ℕ → ℕ → Bool
bit words zero = false
bit words (suc k) = is_one (slice_index words (k / 64)) (suc (k % 64))

-- whether job j is in the first set and not in the second
abbrev pub is_without : List Bool → List Bool → ℕ → Bool
is_without first second j = numbered false first j && not (numbered false second j)
