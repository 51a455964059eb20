-- The job that a course hands to the partner, the deeds before that, and those after it.
use Rattle.std.specs.Prelude.{◌≡◌, ⊤, ℕ, Bool, true, false, List, [], ◌∷◌, ◌++◌, Some}
use Rattle.std.specs.List.{flat_map}
use Rattle.amo_kk.specs.Machine.{LocalView}
use Rattle.amo_kk.specs.Step.{want}
use Rattle.amo_kk.specs.Words.{next_word, claim_word, done_word}
use Rattle.amo_params.specs.declared.givens.Givens.{Givens}
use Rattle.amo_kk.specs.declared.phase.Want.TheVariants.{StoreClaim, StoreDone}
use Rattle.amo_process.specs.Heard.{told_by}
use Rattle.amo_process.specs.Stepped.{ProcessView, process_after}
use Rattle.amo_process.specs.declared.standing.Standing.TheVariants.{Going as GoingOn}
use Rattle.amo_driver.specs.declared.answer.JobResult.{JobResult}
use Rattle.amo_driver.specs.declared.answer.JobResult.TheVariants.{Unbegun}
use Rattle.amo_driver.specs.declared.answer.Reply.{Reply}
use Rattle.amo_driver.specs.declared.answer.Reply.TheVariants.{Answered, Running, Garbled, Closed}
use Rattle.amo_driver.specs.declared.answer.Way.{Way}
use Rattle.amo_driver.specs.declared.answer.Way.TheVariants.{Go, Leave}
use Rattle.amo_driver.specs.declared.model.Deed.{Deed}
use Rattle.amo_driver.specs.declared.model.Deed.TheVariants.{Stored, Intended, Cleared, Performed}
use Rattle.amo_driver.specs.declared.model.Try.{Try}
use Rattle.amo_driver.specs.declared.model.Try.TheVariants.{Store, Note}
use Rattle.amo_driver.specs.Stage.{Stage, Going, Clearing, Performing}
use Rattle.amo_driver.specs.Course.{try_of, stage_after_all}
use Rattle.amo_driver_safety.specs.Scene.{handed_by_try}

-- the jobs that these deeds have handed to the partner, whether it has answered or the call has
-- failed, in their order
abbrev pub handed_by_deeds : List Deed → List ℕ
handed_by_deeds ds = flat_map (λ (d : Deed). handed_by_try (try_of d)) ds

-- The last of these deeds is the store of worker p's count of claims by which it claims job j.
-- Before it the machine wanted just that store. The process that has stored it is to perform j. Its
-- next intent is intent n.
pub record HasJustClaimed (g : Givens) (p : ℕ) (first : Stage) (deeds : List Deed) (n j : ℕ) (process : ProcessView) : Type 0 where
  pub earlier : List Deed
  pub count : ℕ
  pub is : deeds ≡ earlier ++ Stored (claim_word g p) count ∷ []
  -- the process before that store, and the access that its machine wanted
  pub before : ProcessView
  pub way : Way
  pub stood : stage_after_all first earlier ≡ Going n before way
  pub machine : LocalView
  pub fresh : Bool
  pub standing : before.standing ≡ Some (GoingOn machine fresh)
  pub wanted : want machine.state ≡ StoreClaim count j
  -- the process after it, and the job that it is to perform
  pub after : process ≡ process_after before 0
  pub job : told_by process.standing ≡ j

-- The last of these deeds is intent n of job j, put into the journal, and the one right before it
-- is the store by which worker p claims j. After them the question whether j may be handed over is
-- due.
pub record HasJustIntended (g : Givens) (p : ℕ) (first : Stage) (deeds : List Deed) (n j : ℕ) (process : ProcessView) : Type 0 where
  pub earlier : List Deed
  pub is : deeds ≡ earlier ++ Intended n j ∷ []
  pub claimed : HasJustClaimed g p first earlier n j process
  pub stands : stage_after_all first deeds ≡ Clearing n process j

-- The last of these deeds says that job j may be handed over by intent n, and the one right before
-- it is that intent. After them the performance of j is due.
pub record HasJustCleared (g : Givens) (p : ℕ) (first : Stage) (deeds : List Deed) (n j : ℕ) : Type 0 where
  pub earlier : List Deed
  pub process : ProcessView
  pub is : deeds ≡ earlier ++ Cleared n j true ∷ []
  pub intended : HasJustIntended g p first earlier n j process
  pub stands : stage_after_all first deeds ≡ Performing n process j

-- The last of these deeds is the performance of a job by intent n, and this was answered to it.
pub record HasJustAnswered (deeds : List Deed) (n : ℕ) (answer : JobResult) : Type 0 where
  pub earlier : List Deed
  pub job : ℕ
  pub way : Way
  pub is : deeds ≡ earlier ++ Performed n job (Answered n answer way) ∷ []

-- The last of these deeds says that the job of intent n is taken, and the one right before it is
-- that intent. The answer is that the job was not begun.
pub record HasJustFoundTaken (deeds : List Deed) (n : ℕ) (answer : JobResult) : Type 0 where
  pub earlier : List Deed
  pub job : ℕ
  pub is : deeds ≡ earlier ++ Intended n job ∷ Cleared n job false ∷ []
  pub unbegun : answer ≡ Unbegun

-- whether this reply asks the worker to leave
abbrev pub tells_to_leave : Reply → Bool
tells_to_leave (Answered n answer Go) = false
tells_to_leave (Answered n answer Leave) = true
tells_to_leave (Running n Go) = false
tells_to_leave (Running n Leave) = true
tells_to_leave Garbled = false
tells_to_leave Closed = false

-- the note of what came in answer to intent n, as a list of one try or none: while its job runs
-- nothing is noted
abbrev pub note_of : ℕ → Reply → List Try
note_of n (Answered m answer way) = Note n answer ∷ []
note_of n (Running m way) = []
note_of n Garbled = []
note_of n Closed = []

-- The deeds try what stands in the list, from its first on and in its order; they needn't come to
-- its end.
abbrev pub AreInTurn : List Try → List Deed → Type 0
AreInTurn ts [] = ⊤
AreInTurn [] (d ∷ ds) = ⊥
AreInTurn (t ∷ ts) (d ∷ ds) = (try_of d ≡ t) × AreInTurn ts ds

-- After the deeds of `before` worker p has handed job j to its partner by intent n, and this is the
-- reply. In the deeds of `after` it notes the reply, then files the job, if the machine that has it
-- in its hand wants that. Then it takes its announcement back. It does this in this order, as far
-- as it comes, and nothing else.
pub record TakesLeave (g : Givens) (p : ℕ) (first : Stage) (before : List Deed) (n j : ℕ) (reply : Reply) (after : List Deed) : Type 0 where
  -- the process that has handed it over, and the access that its machine wanted
  pub process : ProcessView
  pub stood : stage_after_all first before ≡ Performing n process j
  pub machine : LocalView
  pub standing : process.standing ≡ Some (GoingOn machine false)
  pub place : ℕ
  pub wanted : want machine.state ≡ StoreDone place j
  -- what follows
  pub farewell : AreInTurn (note_of n reply ++ Store (done_word g p place) j ∷ Store (next_word p) 0 ∷ []) after

-- The deeds try first what stands in the list, in its order, as far as they come. Nothing is stated
-- about what they try after that.
abbrev pub BeginInTurn : List Try → List Deed → Type 0
BeginInTurn [] ds = ⊤
BeginInTurn (t ∷ ts) [] = ⊤
BeginInTurn (t ∷ ts) (d ∷ ds) = (try_of d ≡ t) × BeginInTurn ts ds

-- After the deeds of `before` worker p has asked whether job j may be handed over by intent n, and
-- it is taken. In the deeds of `after` the worker notes first that the job was not begun. Then it
-- files the job, in the place in which the machine that has the job in its hand wants that.
pub record PassesOver (g : Givens) (p : ℕ) (first : Stage) (before : List Deed) (n j : ℕ) (after : List Deed) : Type 0 where
  -- the process when it asked, and what its machine wanted
  pub process : ProcessView
  pub stood : stage_after_all first before ≡ Clearing n process j
  pub machine : LocalView
  pub standing : process.standing ≡ Some (GoingOn machine false)
  pub place : ℕ
  pub wanted : want machine.state ≡ StoreDone place j
  -- what follows
  pub next : BeginInTurn (Note n Unbegun ∷ Store (done_word g p place) j ∷ []) after
