-- The facts that each pass of a loop of `journals_in` keeps.
use Rattle.std.proofs.Common.{◌≡◌, ◌++◌, drop, map}
use Rattle.amo_operator.specs.Knowing.{are_readable, journals_in}
use Rattle.amo_operator.proofs.probing.journals_in.Given as goal

abbrev pub invariant-loop-i : goal.invariant-loop-i
invariant-loop-i l =
    record {
      readable : are_readable l.count (map (λ journal. map (λ text. text.items) journal.items) l.journals)
          ≡ are_readable l.count (map (λ journal. map (λ text. text.items) journal.items) (drop l.i l.journals));
      exact : journals_in l.count (map (λ journal. map (λ text. text.items) journal.items) l.journals)
          ≡ map (λ journal. journal.items) l.read.items ++ journals_in l.count (map (λ journal. map (λ text. text.items) journal.items) (drop l.i l.journals));
    }
