-- The effect of a command of `amo_show`: the text that it writes, and the streams that it leaves.
use Rattle.std.specs.Prelude.{◌≡◌, ℕ, List, Option, Result, Ok}
use Rattle.std.specs.Io.KnownBytes.{Keeps}
use Rattle.amo_plan.specs.Plan.{PlanSeen, plan_of}
use Rattle.amo_plan.specs.declared.fault.PlanFault.{PlanFault}
use Rattle.amo_render.specs.declared.writing.ReplayFault.{ReplayFault}
use Rattle.amo_render.specs.declared.writing.ReplayFault.TheVariants as replay
use Rattle.amo_render.specs.Written.{Writes, Refuses}
use Rattle.amo_render.specs.OfBytes.{WritesOf, RefusesOf}
use Rattle.amo_explain_faults.specs.Heading.{BeginsWith, explanation_head}
use Rattle.amo_judge.specs.Judgement.{judgement}
use Rattle.amo_call_log_judge.specs.Judgement.{IsAnswer}
use Rattle.amo_show_commands.specs.Shown.{text_of}
use Rattle.amo_worst_case.specs.Answer.{worst_of}
use Rattle.amo_state_space.specs.Answer.{IsAllOfBytes, AreNoPlan}
use Rattle.amo_cli.specs.Statuses.{Left}
use Rattle.amo_show_commands.specs.declared.told.Told.{Told}
use Rattle.amo_show_commands.specs.declared.told.Told.TheVariants.{Explanation, Judgement, RunJudgement}
use Rattle.amo_show_commands.specs.declared.show.Show.{Show}
use Rattle.amo_show_commands.specs.declared.show.Show.TheVariants.{Run, Explain, Judge, JudgeRun, Worst, All}

-- the text begins with the line `taken` if the bytes are a plan, and otherwise with the line of
-- their fault
abbrev pub Explains : List ℕ → List ℕ → Type 0
Explains bytes text = BeginsWith (explanation_head (plan_of bytes)) text

-- the text is what the judge says of the history that the bytes are
abbrev pub Judges : List ℕ → List ℕ → Type 0
Judges bytes text = text ≡ judgement bytes

-- the text is the one on these bytes
abbrev pub IsTold : Told → List ℕ → List ℕ → Type 0
IsTold Explanation = Explains
IsTold Judgement = Judges
IsTold RunJudgement = IsAnswer

-- the text with the worst schedule; each plan has it, or else the line that says why it is missing
abbrev pub worst_text_of : PlanSeen → Result (List ℕ) PlanFault
worst_text_of plan = Ok (worst_of plan)

-- the text that is wanted of a source with these bytes was written, and nothing else
abbrev pub writes : Show → Left
writes (Run shown) = Writes (text_of shown)
writes Explain = WritesOf (IsTold Explanation)
writes Judge = WritesOf (IsTold Judgement)
writes JudgeRun = WritesOf (IsTold RunJudgement)
writes Worst = Writes worst_text_of
writes All = WritesOf IsAllOfBytes

-- the streams after a fault; to explain and to judge, bytes are a fault only if they are too many
abbrev pub refuses : Show → ReplayFault → Left
refuses (Run shown) fault = Refuses (text_of shown) fault
refuses Explain fault = RefusesOf (IsTold Explanation) (λ _ _. ⊥) fault
refuses Judge fault = RefusesOf (IsTold Judgement) (λ _ _. ⊥) fault
refuses JudgeRun fault = RefusesOf (IsTold RunJudgement) (λ _ _. ⊥) fault
refuses Worst fault = Refuses worst_text_of fault
refuses All fault = RefusesOf IsAllOfBytes AreNoPlan fault

-- no thread is ever started
abbrev pub others : Show → Left
others show known old new = ⊥

-- nothing was written if the plan was refused
pub plan_keeps : (show : Show) (f : PlanFault) (known old new : Option (List ℕ)) → refuses show (replay.Plan f) known old new → Keeps old new
plan_keeps (Run shown) f known old new h = h.2
plan_keeps Explain f known old new h = h.1
plan_keeps Judge f known old new h = h.1
plan_keeps JudgeRun f known old new h = h.1
plan_keeps Worst f known old new h = h.2
plan_keeps All f known old new h = h.1
