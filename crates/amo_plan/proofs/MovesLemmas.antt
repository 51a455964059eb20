-- When the moves of a schedule are too many.
use Rattle.std.proofs.Common.{◌≡◌, ℕ, ◌+◌, ◌<◌, ◌≤◌, List, length, get_or, take, Ok, Err, refl, ap, arith}
use Rattle.std.proofs.lemmas.List.{take_all}
use Rattle.amo_params.specs.declared.moves.Move.{Move}
use Rattle.std.proofs.lemmas.Bool.{le-leb, lt-leb}
use Rattle.std.proofs.lemmas.List.Folds.{length-flat_map-take}
use Rattle.amo_plan.specs.declared.limits.TheConstants.{MOST_MOVES}
use Rattle.amo_plan.specs.declared.schedule_word.ScheduleWord.{ScheduleWord}
use Rattle.amo_plan.specs.declared.fault.PlanFault.TheVariants.{TooLong}
use Rattle.amo_plan.specs.Schedule.{moves_of_word, moves_of, short_moves_of}

pub too_long : (ws : List ScheduleWord) (i : ℕ) (d : ScheduleWord) (ms : List Move) (n : ℕ) → i < length ws → ms ≡ moves_of (take i ws) → n ≡ length (moves_of_word (get_or ws i d)) → MOST_MOVES < length ms + n → short_moves_of ws ≡ Err TooLong
unfolding short_moves_of
too_long ws i d ms n lt made is many =
    let all : length (moves_of (take i ws)) + length (moves_of_word (get_or ws i d)) ≤ length (moves_of ws) = length-flat_map-take moves_of_word ws i d lt in
    rw (lt-leb (length (moves_of ws)) MOST_MOVES (omega (arith, ap length made))) refl

pub few_enough : (ws : List ScheduleWord) (i : ℕ) (ms : List Move) → length ws ≤ i → ms ≡ moves_of (take i ws) → length ms ≤ MOST_MOVES → short_moves_of ws ≡ Ok ms
unfolding short_moves_of
few_enough ws i ms le made few =
    let whole : ms ≡ moves_of ws = rw (take_all i ws le) at made in
    rw (← whole, le-leb (length ms) MOST_MOVES few) refl
