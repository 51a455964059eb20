-- The facts that each pass of a loop of `day_of` keeps.
use Rattle.std.proofs.Common.{◌≡◌, List, Some, map, take}
use Rattle.amo_example_payments.specs.declared.line.Line.{Line}
use Rattle.amo_example_payments.specs.Days.{IsDay}
use Rattle.amo_example_payments.specs.Lines.{line_in}
use Rattle.amo_example_payments.proofs.day.day_of.Given as goal

-- the day is what the lines so far say
abbrev pub invariant-loop-words : goal.invariant-loop-words
invariant-loop-words l = (said : List Line) × (map line_in (map (λ w. w.now) (take l.words-index l.words-items)) ≡ map (λ line. Some line) said) × IsDay said l.day
