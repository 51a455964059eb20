-- The facts that each pass of a loop of `events_in` keeps.
use Rattle.std.proofs.Common.{◌≡◌, [], drop, length, map}
use Rattle.amo_call_log_judge.specs.Reading.{events_from}
use Rattle.amo_call_log_judge.proofs.reading.events_in.Given as goal

-- the events so far and the lines to come decide
abbrev pub invariant-loop-k : goal.invariant-loop-k
invariant-loop-k l = record {
  many : length l.events.items ≡ l.k;
  rest : events_from l.events.items (map (λ line. line.now) (drop l.k l.lines)) ≡ events_from [] (map (λ line. line.now) l.lines);
}
