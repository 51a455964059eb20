-- How many lines stand how.
use Rattle.std.specs.Prelude.{ℕ, List, length, count_by}
use Rattle.amo_status.specs.declared.count.Counts.{Counts}
use Rattle.amo_status.specs.declared.standing.LineStatus.{LineStatus}
use Rattle.amo_status.specs.declared.state.State.{State}
use Rattle.amo_status.specs.declared.state.State.TheVariants.{Open, Done, Failed, Doubt, Untouched, Running}
use Rattle.amo_status.specs.States.{is}

-- how many stand so
abbrev pub count_of : State → List LineStatus → ℕ
count_of kind standings = count_by (λ s. is kind s.state) standings

-- how many there are, and how many of each kind
abbrev pub counts_of : List LineStatus → Counts
counts_of standings = record {
  lines = length standings;
  done = count_of Done standings;
  failed = count_of Failed standings;
  doubt = count_of Doubt standings;
  untouched = count_of Untouched standings;
  running = count_of Running standings;
  «open» = count_of Open standings;
}
