-- The facts that each pass of a loop of `first_refused` keeps.
use Rattle.std.proofs.Common.{◌≡◌, map, drop}
use Rattle.amo_fs.specs.Options.{first_refused}
use Rattle.amo_fs.proofs.option.first_refused.Given as goal

abbrev pub invariant-loop-option : goal.invariant-loop-option
invariant-loop-option l = first_refused (map (λ option. option.now) (drop l.option-index l.options)) ≡ first_refused (map (λ option. option.now) l.options)
