-- The lines of an outcome: how each worker went, and what became of each job.
use Rattle.std.specs.Prelude.{ℕ, suc, ◌+◌, ◌-◌, ◌/◌, ◌%◌, List, [], ◌∷◌, ◌++◌, length, Option, Some, None, slice_get, codes}
use Rattle.std.specs.Fmt.{decimal}
use Rattle.amo_plan.specs.declared.answer.Answer.{Answer}
use Rattle.amo_plan.specs.declared.answer.Answer.TheVariants.{Text, Number}
use Rattle.amo_crew.specs.declared.outcome.End.{End}
use Rattle.amo_crew.specs.declared.outcome.End.TheVariants.{Ended, Halted, NotStarted}
use Rattle.amo_render.specs.Escaped.{escaped}
use Rattle.amo_run_plan.specs.Became.{Handed, Fate}

-- how a worker went, in one word
abbrev pub end_word : End → List ℕ
end_word (Ended steps) = codes "ended"
end_word (Halted steps) = codes "halted"
end_word NotStarted = codes "refused"

-- how many steps it took: none where its thread was refused
abbrev pub end_steps : End → ℕ
end_steps (Ended steps) = steps
end_steps (Halted steps) = steps
end_steps NotStarted = 0

-- `worker P STATE steps T claimed C done D`
unfoldable pub end_line : ℕ → End → ℕ → ℕ → List ℕ
end_line p e claims dones =
    codes "worker " ++ decimal p ++ codes " " ++ end_word e ++ codes " steps " ++ decimal (end_steps e)
    ++ codes " claimed " ++ decimal claims ++ codes " done " ++ decimal dones ++ codes "\n"

-- a line for each worker, numbered from p, with the lengths of its lists
abbrev pub end_lines : ℕ → List End → List (List ℕ) → List (List ℕ) → List ℕ
end_lines p [] claims dones = []
end_lines p (e ∷ es) [] dones = []
end_lines p (e ∷ es) (c ∷ cs) [] = []
end_lines p (e ∷ es) (c ∷ cs) (d ∷ ds) = end_line p e (length c) (length d) ++ end_lines (p + 1) es cs ds

-- an answer as text: the text itself, or the number in decimal digits
abbrev pub answer_text : Answer → List ℕ
answer_text (Text text) = text
answer_text (Number n) = decimal n

-- the answer at this place of an output
abbrev pub text_of_answer : Option Answer → List ℕ
text_of_answer None = []
text_of_answer (Some answer) = answer_text answer

-- the text of the answer at this place of an output, or nothing without an output
abbrev pub text_in : ℕ → Option Handed → List ℕ
text_in place None = []
text_in place (Some x) = text_of_answer (slice_get x.out.items place)

-- `job J done P NAME TEXT`
unfoldable pub done_line : ℕ → ℕ → List ℕ → List ℕ → List ℕ
done_line j p name text = codes "job " ++ decimal j ++ codes " done " ++ decimal p ++ codes " " ++ name ++ codes " " ++ escaped text ++ codes "\n"

-- `job J claimed P NAME`
unfoldable pub claimed_line : ℕ → ℕ → List ℕ → List ℕ
claimed_line j p name = codes "job " ++ decimal j ++ codes " claimed " ++ decimal p ++ codes " " ++ name ++ codes "\n"

-- `job J free NAME`
unfoldable pub free_line : ℕ → List ℕ → List ℕ
free_line j name = codes "job " ++ decimal j ++ codes " free " ++ name ++ codes "\n"

-- the first of the three that fits: somebody has done its block, or has claimed it, or neither; the
-- job stands at this place of the block
abbrev pub fate_line : ℕ → ℕ → List ℕ → Option ℕ → Option Handed → Option ℕ → List ℕ
fate_line j place name (Some p) output claimer = done_line j p name (text_in place output)
fate_line j place name None output (Some p) = claimed_line j p name
fate_line j place name None output None = free_line j name

-- the block of job j, if a block has so many jobs, and the place of the job in it, from 0
abbrev pub block_of : ℕ → ℕ → ℕ
block_of block j = suc ((j - 1) / block)

-- the place of job j in its block, from 0
abbrev pub place_of : ℕ → ℕ → ℕ
place_of block j = (j - 1) % block

-- the line of job j with this name, by what became of its block
abbrev pub job_line : (ℕ → Fate) → ℕ → ℕ → List ℕ → List ℕ
job_line fates block j name =
    let fate = fates (block_of block j) in
    fate_line j (place_of block j) name fate.doer fate.output fate.claimer

-- a line for each job, numbered from j
abbrev pub job_lines : (ℕ → Fate) → ℕ → ℕ → List (List ℕ) → List ℕ
job_lines fates block j [] = []
job_lines fates block j (name ∷ names) = job_line fates block j name ++ job_lines fates block (j + 1) names
