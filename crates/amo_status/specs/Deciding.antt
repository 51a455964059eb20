-- Within this crate: which intent decides, as they are come by one after the other.
use Rattle.std.specs.Prelude.{◌&&◌, ◌||◌, not, List, [], ◌∷◌, if◌then◌else◌}
use Rattle.amo_status.specs.declared.standing.LineStatus.{LineStatus}
use Rattle.amo_status.specs.declared.state.State.TheVariants.{Open, Running}
use Rattle.amo_status.specs.States.{is}

-- the one of two that decides: the later one if the line was open before it, or if it alone runs
abbrev pub decided_of : LineStatus → LineStatus → LineStatus
decided_of old new = if is Open old.state || (is Running new.state && not (is Running old.state)) then new else old

-- what decides, after all these
abbrev pub decided_from : LineStatus → List LineStatus → LineStatus
decided_from old [] = old
decided_from old (new ∷ more) = decided_from (decided_of old new) more
