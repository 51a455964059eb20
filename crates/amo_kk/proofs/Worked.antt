-- Worked schedules, first choices, judged lists, ranks and places of words: the definitions give
-- these values.
use Rattle.std.proofs.Common.{◌≡◌, ℕ, List, [], ◌∷◌, ◌++◌, refl, replicate, Bool, true, false, not, ◌&&◌, length, map}
use Rattle.std.specs.Prelude.{Some, None}
use Rattle.amo_sets.specs.Sets.{has}
use Rattle.amo_sets.specs.Rank.{count, number_of_rank}
use Rattle.amo_params.specs.Limits.{first_fault, within_limits}
use Rattle.amo_params.specs.Givens.{bound}
use Rattle.amo_kk.specs.Object.{first_object}
use Rattle.amo_kk.specs.Run.{object_after_all, first_bad}
use Rattle.amo_kk.specs.Choice.{first_record}
use Rattle.amo_kk.specs.World.{process, world_after_halt, world_after_leave, opening_world, world_of}
use Rattle.amo_kk.specs.Words.{words_of, done_word}
use Rattle.amo_kk.specs.Answer.{turn_shown, leave_answer}
use Rattle.amo_kk.specs.Alone.{claims_or_ends, world_after_turns, want_at, value_at, reads_announcement, reads_zero, reads_entry, turns_that, attempt_at, turns_of_attempt}
use Rattle.amo_params.specs.declared.givens.Givens.{Givens}
use Rattle.amo_params.specs.declared.givens.GivensFault.TheVariants.{TooManyJobs, NoWorkers, TooManyWorkers, BetaLow, BetaHigh}
use Rattle.amo_kk.specs.declared.phase.Phase.{Phase}
use Rattle.amo_kk.specs.declared.phase.Phase.TheVariants.{Announcing}
use Rattle.amo_params.specs.declared.moves.Move.{Move}
use Rattle.amo_params.specs.declared.moves.Move.TheVariants.{Turn, Halt, Leave}
use Rattle.amo_kk.specs.declared.event.Event.{Event}
use Rattle.amo_kk.specs.declared.event.Event.TheVariants.{Claimed, Done, Ended, Halted, Left}
use Rattle.amo_kk.specs.declared.event.Shown.TheVariants.{Done as DoneShown}
use Rattle.amo_kk.specs.declared.event.Leaving.TheVariants.{InHand, Gone}
use Rattle.amo_kk.specs.declared.model.World.{World}

-- the givens of numbers that break no limit
abbrev givens : (n m b : ℕ) → first_fault n m b ≡ None → Givens
givens n m b unbroken = record { jobs = n; workers = m; beta = b; limits = within_limits n m b unbroken }

abbrev two_jobs : Givens
two_jobs = givens 2 2 2 refl

abbrev three_jobs : Givens
three_jobs = givens 3 2 2 refl

abbrev five_jobs : Givens
five_jobs = givens 5 2 2 refl

abbrev turns : ℕ → ℕ → List Move
turns p k = replicate k (Turn p)

abbrev history_of : Givens → List Move → List Event
history_of g ms = (world_of g ms).history

abbrev steps_of : Givens → List Move → ℕ → ℕ
steps_of g ms p = (process (world_of g ms) p).local.steps

abbrev unclaimed_of : Givens → List Move → List ℕ
unclaimed_of g ms = (object_after_all (first_object g) (history_of g ms)).unclaimed

abbrev performed_of : Givens → List Move → ℕ
performed_of g ms = length (object_after_all (first_object g) (history_of g ms)).performed

-- what moves come to: their history, the unclaimed jobs, how many are performed, and how many steps
-- workers 1 and 2 have had
abbrev ComesTo : Givens → List Move → List Event → List ℕ → (performed one two : ℕ) → Type 0
ComesTo g ms history unclaimed performed one two =
    (history_of g ms ≡ history) × (unclaimed_of g ms ≡ unclaimed) × (performed_of g ms ≡ performed) × (steps_of g ms 1 ≡ one) × (steps_of g ms 2 ≡ two)

-- Without jobs, and with a threshold above the number of jobs, all have ended at birth.

no_jobs : history_of (givens 0 2 2 refl) [] ≡ Ended 1 ∷ Ended 2 ∷ []
no_jobs = refl

no_jobs_bound : bound (givens 0 2 2 refl) ≡ 0
no_jobs_bound = refl

high_threshold : history_of (givens 3 2 9 refl) (Turn 1 ∷ Halt 1 ∷ []) ≡ Ended 1 ∷ Ended 2 ∷ []
high_threshold = refl

high_threshold_bound : bound (givens 3 2 9 refl) ≡ 0
high_threshold_bound = refl

high_threshold_unclaimed : unclaimed_of (givens 3 2 9 refl) [] ≡ 1 ∷ 2 ∷ 3 ∷ []
high_threshold_unclaimed = refl

-- Two workers in rotation.

abbrev rotation : List Move
rotation = Turn 1 ∷ Turn 2 ∷ Turn 1 ∷ Turn 2 ∷ Turn 1 ∷ Turn 2 ∷ Turn 1 ∷ Turn 2 ∷ Turn 1 ∷ Turn 2 ∷ []

rotation_comes : ComesTo two_jobs rotation (Claimed 1 1 ∷ Claimed 2 2 ∷ Done 1 1 ∷ Ended 1 ∷ Done 2 2 ∷ Ended 2 ∷ []) [] 2 5 5
rotation_comes = (refl, refl, refl, refl, refl)

-- Both announce job 2, and each sees it.

abbrev collision : List Move
collision = turns 1 5 ++ Turn 1 ∷ Turn 2 ∷ turns 1 2 ++ turns 2 3

collision_comes : ComesTo three_jobs collision (Claimed 1 1 ∷ Done 1 1 ∷ Ended 1 ∷ Ended 2 ∷ []) (2 ∷ 3 ∷ []) 1 8 4
collision_comes = (refl, refl, refl, refl, refl)

collision_bound : bound three_jobs ≡ 1
collision_bound = refl

-- Worker 2 is stopped after it has announced job 3.

abbrev stop : List Move
stop = Turn 2 ∷ Halt 2 ∷ turns 1 15

stop_comes : ComesTo five_jobs stop (Halted 2 ∷ Claimed 1 1 ∷ Done 1 1 ∷ Claimed 1 2 ∷ Done 1 2 ∷ Claimed 1 4 ∷ Done 1 4 ∷ Ended 1 ∷ []) (3 ∷ 5 ∷ []) 3 15 1
stop_comes = (refl, refl, refl, refl, refl)

stop_bound : bound five_jobs ≡ 3
stop_bound = refl

-- Worker 2 comes late, and ends with nothing.

abbrev late : List Move
late = turns 1 16 ++ turns 2 6 ++ turns 1 4

late_comes : ComesTo five_jobs late (Claimed 1 1 ∷ Done 1 1 ∷ Claimed 1 2 ∷ Done 1 2 ∷ Claimed 1 3 ∷ Done 1 3 ∷ Ended 2 ∷ Claimed 1 4 ∷ Done 1 4 ∷ Ended 1 ∷ []) (5 ∷ []) 4 20 6
late_comes = (refl, refl, refl, refl, refl)

-- A worker that looks at announcements alone would claim 3 again in the last move.

abbrev known_done : List Move
known_done = turns 1 13 ++ Turn 2 ∷ turns 1 3 ++ turns 2 6

known_done_comes : ComesTo five_jobs known_done (Claimed 1 1 ∷ Done 1 1 ∷ Claimed 1 2 ∷ Done 1 2 ∷ Claimed 1 3 ∷ Done 1 3 ∷ Ended 2 ∷ []) (4 ∷ 5 ∷ []) 3 16 6
known_done_comes = (refl, refl, refl, refl, refl)

-- A worker 2 that reads rows before announcements would claim 3 again in its sixth turn.

abbrev rows_last : List Move
rows_last = turns 1 13 ++ turns 2 4 ++ turns 1 3 ++ turns 2 7 ++ turns 1 5

rows_last_comes : ComesTo five_jobs rows_last (Claimed 1 1 ∷ Done 1 1 ∷ Claimed 1 2 ∷ Done 1 2 ∷ Claimed 1 3 ∷ Done 1 3 ∷ Claimed 2 5 ∷ Done 2 5 ∷ Ended 2 ∷ Claimed 1 4 ∷ Done 1 4 ∷ Ended 1 ∷ []) [] 5 21 11
rows_last_comes = (refl, refl, refl, refl, refl)

-- Worker 1 is stopped with job 1 in its hand.

abbrev in_hand : List Move
in_hand = turns 1 4 ++ Halt 1 ∷ turns 2 15

in_hand_comes : ComesTo five_jobs in_hand (Claimed 1 1 ∷ Halted 1 ∷ Claimed 2 3 ∷ Done 2 3 ∷ Claimed 2 4 ∷ Done 2 4 ∷ Claimed 2 5 ∷ Done 2 5 ∷ Ended 2 ∷ []) (2 ∷ []) 3 4 15
in_hand_comes = (refl, refl, refl, refl, refl)

-- A worker that is stopped stays stopped.

stopped_twice : history_of five_jobs (Halt 1 ∷ Halt 1 ∷ Turn 1 ∷ []) ≡ Halted 1 ∷ []
stopped_twice = refl

-- Worker 2 takes back its announcement of 3, so that worker 1 can claim it.

abbrev leaving : List Move
leaving = Turn 2 ∷ Leave 2 ∷ turns 1 20

leaving_comes : ComesTo five_jobs leaving (Left 2 ∷ Claimed 1 1 ∷ Done 1 1 ∷ Claimed 1 2 ∷ Done 1 2 ∷ Claimed 1 3 ∷ Done 1 3 ∷ Claimed 1 4 ∷ Done 1 4 ∷ Ended 1 ∷ []) (5 ∷ []) 4 20 2
leaving_comes = (refl, refl, refl, refl, refl)

left_twice : history_of five_jobs (Leave 1 ∷ Leave 1 ∷ Turn 1 ∷ Halt 1 ∷ []) ≡ Left 1 ∷ []
left_twice = refl

-- With a job in its hand a worker does not leave.

abbrev holding : World
holding = world_of five_jobs (turns 1 4)

leave_with_a_job : leave_answer holding 1 ≡ InHand 1
leave_with_a_job = refl

leave_with_a_job_same : world_after_leave holding 1 ≡ holding
leave_with_a_job_same = refl

leave_with_a_job_next : turn_shown five_jobs (world_after_leave holding 1) 1 ≡ DoneShown 1
leave_with_a_job_next = refl

-- A worker that is gone gets the result Gone, even with a job in its hand.

leave_when_stopped : leave_answer (world_after_halt holding 1) 1 ≡ Gone
leave_when_stopped = refl

leave_when_stopped_same : world_after_leave (world_after_halt holding 1) 1 ≡ world_after_halt holding 1
leave_when_stopped_same = refl

-- The limits, in their order.

largest : first_fault 4096 16 16 ≡ None
largest = refl

too_many_jobs : first_fault 4097 16 16 ≡ Some TooManyJobs
too_many_jobs = refl

too_many_jobs_first : first_fault 4097 0 0 ≡ Some TooManyJobs
too_many_jobs_first = refl

no_workers : first_fault 1 0 0 ≡ Some NoWorkers
no_workers = refl

too_many_workers : first_fault 4096 17 17 ≡ Some TooManyWorkers
too_many_workers = refl

beta_low : first_fault 5 2 1 ≡ Some BetaLow
beta_low = refl

beta_least : first_fault 5 2 2 ≡ None
beta_least = refl

beta_most : first_fault 5 2 65535 ≡ None
beta_most = refl

beta_high : first_fault 5 2 65536 ≡ Some BetaHigh
beta_high = refl

-- The first choices of the workers.

abbrev first_phase : Givens → ℕ → Phase
first_phase g p = (first_record g p).phase

spread : map (first_phase (givens 100 4 4 refl)) (1 ∷ 2 ∷ 3 ∷ 4 ∷ []) ≡ Announcing 1 ∷ Announcing 25 ∷ Announcing 49 ∷ Announcing 73 ∷ []
spread = refl

crowded : map (first_phase (givens 4 3 3 refl)) (1 ∷ 2 ∷ 3 ∷ []) ≡ Announcing 1 ∷ Announcing 2 ∷ Announcing 3 ∷ []
crowded = refl

-- Lists that are judged: 0, or the place of the first event that is no step.

abbrev judged : Givens → List Event → ℕ
judged g events = first_bad g (first_object g) events

judged_empty : judged two_jobs [] ≡ 0
judged_empty = refl

judged_claimed_twice : judged two_jobs (Claimed 1 1 ∷ Claimed 2 1 ∷ []) ≡ 2
judged_claimed_twice = refl

judged_run : judged two_jobs (Claimed 1 1 ∷ Done 1 1 ∷ Ended 1 ∷ []) ≡ 0
judged_run = refl

judged_stopped_claims : judged two_jobs (Halted 1 ∷ Claimed 1 1 ∷ []) ≡ 2
judged_stopped_claims = refl

judged_stopped_twice : judged two_jobs (Halted 1 ∷ Halted 1 ∷ []) ≡ 2
judged_stopped_twice = refl

judged_done_unclaimed : judged two_jobs (Done 1 1 ∷ []) ≡ 1
judged_done_unclaimed = refl

judged_no_worker : judged two_jobs (Claimed 3 1 ∷ []) ≡ 1
judged_no_worker = refl

judged_left : judged two_jobs (Left 1 ∷ Ended 2 ∷ []) ≡ 0
judged_left = refl

judged_left_claims : judged two_jobs (Left 1 ∷ Claimed 1 1 ∷ []) ≡ 2
judged_left_claims = refl

judged_leaves_with_a_job : judged two_jobs (Claimed 1 1 ∷ Left 1 ∷ []) ≡ 2
judged_leaves_with_a_job = refl

judged_left_twice : judged two_jobs (Left 1 ∷ Left 1 ∷ []) ≡ 2
judged_left_twice = refl

judged_done_then_left : judged two_jobs (Claimed 1 1 ∷ Done 1 1 ∷ Left 1 ∷ []) ≡ 0
judged_done_then_left = refl

judged_early_end : judged five_jobs (Ended 1 ∷ []) ≡ 1
judged_early_end = refl

-- A worker alone, of five jobs and two workers: worker 2 has done 3 and announces 2, and worker 1,
-- which has done 1, is about to announce 2. It announces 2, reads 2, reads 3 and then 0 in the row:
-- 2 was tried. It announces 4, reads 2 and 0, and claims.

abbrev both_on_2 : World
both_on_2 = world_of five_jobs (turns 2 2 ++ (turns 1 3 ++ (turns 2 4 ++ turns 1 2)))

about_to_announce : (process both_on_2 1).local.phase ≡ Announcing 2
about_to_announce = refl

not_yet : claims_or_ends five_jobs (world_after_turns five_jobs both_on_2 1 6) 1 ≡ false
not_yet = refl

claims_at_last : claims_or_ends five_jobs (world_after_turns five_jobs both_on_2 1 7) 1 ≡ true
claims_at_last = refl

two_attempts : attempt_at five_jobs both_on_2 1 7 ≡ 2
two_attempts = refl

one_goes_on : attempt_at five_jobs (world_after_turns five_jobs both_on_2 1 1) 1 6 ≡ 2
one_goes_on = refl

first_hears_one : turns_of_attempt five_jobs both_on_2 1 1 (λ k. reads_announcement (want_at five_jobs both_on_2 1 k)) 7 ≡ 1
first_hears_one = refl

second_hears_one : turns_of_attempt five_jobs both_on_2 1 2 (λ k. reads_announcement (want_at five_jobs both_on_2 1 k)) 7 ≡ 1
second_hears_one = refl

first_zero : turns_of_attempt five_jobs both_on_2 1 1 (λ k. reads_zero (want_at five_jobs both_on_2 1 k) (value_at five_jobs both_on_2 1 k)) 7 ≡ 1
first_zero = refl

second_zero : turns_of_attempt five_jobs both_on_2 1 2 (λ k. reads_zero (want_at five_jobs both_on_2 1 k) (value_at five_jobs both_on_2 1 k)) 7 ≡ 1
second_zero = refl

entry_1_once : turns_that (λ k. reads_entry 2 1 (want_at five_jobs both_on_2 1 k) (value_at five_jobs both_on_2 1 k)) 7 ≡ 1
entry_1_once = refl

no_entry_2 : turns_that (λ k. reads_entry 2 2 (want_at five_jobs both_on_2 1 k) (value_at five_jobs both_on_2 1 k)) 7 ≡ 0
no_entry_2 = refl

-- Ranks in 2, 4, 5, 7 without 4, 9.

abbrev passes : ℕ → Bool
passes k = has (2 ∷ 4 ∷ 5 ∷ 7 ∷ []) k && not (has (4 ∷ 9 ∷ []) k)

ranked_count : count 9 passes ≡ 3
ranked_count = refl

ranks : map (number_of_rank 9 passes) (0 ∷ 1 ∷ 2 ∷ 3 ∷ 4 ∷ []) ≡ 0 ∷ 2 ∷ 5 ∷ 7 ∷ 0 ∷ []
ranks = refl

-- Places of words: the last of the largest table, and the row of worker 2 in a small one.

largest_last_word : done_word (givens 4096 16 16 refl) 16 4097 ≡ 65584
largest_last_word = refl

small_row : done_word five_jobs 2 1 ≡ 11
small_row = refl

small_last_word : done_word five_jobs 2 6 ≡ 16
small_last_word = refl

small_words : length (words_of (opening_world five_jobs).processes) ≡ 17
small_words = refl
