-- Where a worker's process stands between two deeds.
use Rattle.std.specs.Prelude.{ℕ, List}
use Rattle.amo_process.specs.Stepped.{ProcessView}
use Rattle.amo_driver.specs.declared.answer.JobResult.{JobResult}
use Rattle.amo_driver.specs.declared.answer.Reply.{Reply}
use Rattle.amo_driver.specs.declared.answer.Way.{Way}
use Rattle.amo_driver.specs.declared.past.Intent.{Intent}

-- Each but the last five says what is due. A first number is the serial number of the intent, or of
-- the next one.
pub data Stage : Type 0 where
  -- the access that the process wants; if it is to leave, it is to file the job in its hand
  Going : ℕ → ProcessView → Way → Stage
  -- to say that this job was found in its hand as it began
  Finding : ℕ → ProcessView → ℕ → Stage
  -- the intent of this job, whose claim is stored
  Intending : ℕ → ProcessView → ℕ → Stage
  -- to ask whether it may be handed over, now that its intent is in the journal
  Clearing : ℕ → ProcessView → ℕ → Stage
  -- its performance, which is clear
  Performing : ℕ → ProcessView → ℕ → Stage
  -- the note of this answer
  Noting : ℕ → ProcessView → JobResult → Way → Stage
  -- the store by which it leaves
  Leaving : ProcessView → Stage
  -- to ask for the first of these intents, which former processes have left, if there is one
  Asking : List Intent → Stage
  -- the note of this answer to one of them; these are still to be asked for
  Settling : ℕ → JobResult → Way → List Intent → Stage
  -- it is to leave, and these were not asked for
  Dismissed : List Intent → Stage
  -- it has left
  Gone : Stage
  -- this came in place of an answer to the intent
  Unanswered : ℕ → Reply → Stage
  -- the word was loaded, and its value can't be
  Refused : (word value : ℕ) → Stage
  -- something has failed
  Broken : Stage
