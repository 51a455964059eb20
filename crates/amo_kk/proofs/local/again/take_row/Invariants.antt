-- The facts that each pass of a loop of `take_row` keeps.
use Rattle.std.proofs.Common.{◌≡◌, [], take, drop}
use Rattle.std.specs.Vec.{vec_capacity}
use Rattle.amo_kk.specs.Again.{set_of, are_new}
use Rattle.amo_kk.proofs.local.again.take_row.Given as goal

abbrev pub invariant-loop-entry : goal.invariant-loop-entry
invariant-loop-entry l =
    record {
      claims : l.claims.items ≡ take l.entry-index l.row;
      dones : l.dones.items ≡ take l.entry-index l.row;
      knows : l.knowledge ≡ record l.initial.knowledge { known = set_of (take l.entry-index l.row) };
      rest : are_new l.givens l.knowledge.known (drop l.entry-index l.row) ≡ are_new l.givens [] l.row;
      claims_stay : vec_capacity l.claims ≡ vec_capacity l.initial.claims;
      dones_stay : vec_capacity l.dones ≡ vec_capacity l.initial.dones;
    }
