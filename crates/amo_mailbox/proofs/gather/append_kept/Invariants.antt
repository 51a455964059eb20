-- The facts that each pass of a loop of `append_kept` keeps.
use Rattle.std.proofs.Common.{◌≡◌, ◌<◌, ◌≤◌, ◌+◌, ◌++◌, ℕ, length, take, drop, get_or, flat_map, sum_by, vec_len, vec_capacity}
use Rattle.amo_mailbox.specs.declared.outlet.Outlet.{Outlet}
use Rattle.amo_mailbox.proofs.gather.append_kept.Given as goal

abbrev pub invariant-loop-outlet : goal.invariant-loop-outlet
invariant-loop-outlet g l = record {
  items : l.into.items ≡ l.initial.into.items ++ flat_map (λ o. o.kept) (take l.outlet-index l.initial.outlets);
  room : vec_len l.into + sum_by (λ o. length o.kept) (drop l.outlet-index l.initial.outlets) ≤ vec_capacity l.into;
  rest : (i : ℕ) (d : Outlet g.row.Out.Denot) → l.outlet-index ≤ i → i < length l.outlets → get_or l.outlets i d ≡ get_or l.initial.outlets i d;
}
