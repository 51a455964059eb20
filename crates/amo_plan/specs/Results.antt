-- The results of tasks.
use Rattle.std.specs.Prelude.{ℕ, List, sum, Bool, true, nat_le, if◌then◌else◌}
use Rattle.std.specs.Fmt.{decimal}
use Rattle.amo_plan.specs.declared.answer.Answer.{Answer}
use Rattle.amo_plan.specs.declared.answer.Answer.TheVariants.{Text, Number}
use Rattle.amo_plan.specs.declared.task.Task.{Task}
use Rattle.amo_plan.specs.declared.task.Task.TheVariants.{Say, Add}

-- the sum, which is without limit, has at most 64 bits
abbrev pub fits : Task → Bool
fits (Say text) = true
fits (Add numbers) = nat_le (sum numbers) 18446744073709551615

-- the text of a task's result: what it says, or the sum in decimal digits
abbrev pub result_text : Task → List ℕ
result_text (Say text) = text
result_text (Add numbers) = decimal (sum numbers)

-- what a task gives: what it says, or the sum
abbrev pub answer_of : Task → Answer
answer_of (Say text) = Text text
answer_of (Add numbers) = Number (sum numbers)

-- the result if the task fits, else the largest number
abbrev pub capped_answer : Task → Answer
capped_answer task = if fits task then answer_of task else Number 18446744073709551615
