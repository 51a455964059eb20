-- How contracts see what a worker knows of the jobs.
use Rattle.std.specs.Prelude.{◌≡◌, ℕ, Bool, false, not, List, length}
use Rattle.amo_sets.specs.Lists.{numbered}
use Rattle.amo_sets.specs.Sets.{members}
use Rattle.amo_kk.specs.declared.phase.Phase.{Phase}
use Rattle.amo_kk.specs.declared.model.Record.{Record}

-- there are so many jobs; these are known to be performed, and these were seen announced
pub record KnowledgeView : Type 0 where
  pub range : ℕ
  pub known : List ℕ
  pub tried : List ℕ

-- the numbers whose bit is false, in rising order
abbrev pub numbers_without : List Bool → List ℕ
numbers_without bits = members (length bits) (λ k. not (numbered false bits k))

-- the change leads each record that knows and has tried what k does to this phase, and to these
-- jobs tried
abbrev pub LeadsTo : KnowledgeView → (Record → Record) → Phase → List ℕ → Type 0
LeadsTo k change phase tried = (r : Record) → r.known ≡ k.known → r.tried ≡ k.tried → change r ≡ record r { phase = phase; tried = tried }
