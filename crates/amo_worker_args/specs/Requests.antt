-- The requests of a command's arguments, by the rows that `clap` returns. A row has the name of an
-- argument, and the texts that were given or stand by default.
use Rattle.std.specs.Prelude.{◌≡◌, ℕ, Bool, ◌&&◌, nat_le, false, List, [], codes, Option, Some, None, Result, Ok, Err, unwrap_or, if◌then◌else◌}
use Rattle.std.specs.Str.{bytes_eq}
use Rattle.clap.specs.Words.{Row, Text, first_of}
use Rattle.amo_decimal.specs.Numbers.{number_in}
use Rattle.amo_params.specs.declared.limits.TheConstants.{MAX_BETA, MAX_JOBS, MAX_WORKERS}
use Rattle.amo_operator.specs.declared.model.Form.{Form}
use Rattle.amo_operator.specs.declared.model.Form.TheVariants.{Text as AsText, Json, Lines}
use Rattle.amo_run_faults.specs.Id.{is_id}
use Rattle.amo_status.specs.declared.state.State.{State}
use Rattle.amo_status.specs.declared.state.State.TheVariants.{Open, Done, Failed, Doubt, Untouched, Running}
use Rattle.amo_worker_args.specs.Asked.{Asked, AskedDoor, AskedWork, AskedLines, AskedStatus, AskedDamaged, AskedFollow, AskedDoubts, AskedAnswer, AskedAnswerFrom, AskedAgain, Jobs, Misused, NoNumber, NoWord, NoProtocol, Said}
use Rattle.amo_worker_args.specs.declared.args.TheConstants.{MAX_QUIET, PROTOCOL}
use Rattle.amo_worker_args.specs.declared.by_lines.ByLines.{ByLines}
use Rattle.amo_worker_args.specs.declared.command_line.TheConstants.{BOOT}

-- what the next step makes of it, unless it is refused
abbrev pub next : {A B : Type 0} → Result A Misused → (A → Result B Misused) → Result B Misused
next (Ok x) step = step x
next (Err e) step = Err e

-- the text of this argument, or an empty one
abbrev pub text_at : Text → List Row → Text
text_at id rows = unwrap_or (first_of id rows) []

-- the text is the word that clap gives a flag that is set
abbrev pub is_true : Option Text → Bool
is_true None = false
is_true (Some text) = bytes_eq text (codes "true")

-- the flag of this name is set
abbrev pub is_set : Text → List Row → Bool
is_set id rows = is_true (first_of id rows)

-- the number, if there is one from `low` to `high`; else the refusal
abbrev pub within : Misused → ℕ → ℕ → Option ℕ → Result ℕ Misused
within refusal low high None = Err refusal
within refusal low high (Some found) = if nat_le low found && nat_le found high then Ok found else Err refusal

-- the number of the argument with this id and this name, from `low` to `high`
abbrev pub number_at : List Row → Text → Text → ℕ → ℕ → Result ℕ Misused
number_at rows id name low high = within (NoNumber name low high) low high (number_in (text_at id rows))

-- the jobs that `door` and `work` name
unfoldable pub jobs_of : List Row → Result Jobs Misused
jobs_of rows =
    next (number_at rows (codes "workers") (codes "--workers") 1 MAX_WORKERS) (λ workers.
    next (number_at rows (codes "beta") (codes "--beta") 1 MAX_BETA) (λ beta.
    Ok (record { list = text_at (codes "JOBS") rows; workers = workers; beta = beta })))

-- the state that a word of `--lines` names
unfoldable pub kind_of : Text → Result State Misused
kind_of word =
    if bytes_eq word (codes "done") then Ok Done
    else (if bytes_eq word (codes "failed") then Ok Failed
    else (if bytes_eq word (codes "doubt") then Ok Doubt
    else (if bytes_eq word (codes "untouched") then Ok Untouched
    else (if bytes_eq word (codes "running") then Ok Running
    else (if bytes_eq word (codes "open") then Ok Open
    else Err (NoWord (codes "--lines") (codes "done, failed, doubt, untouched, running or open")))))))

-- the lines that are printed, by the word of `--lines`
abbrev pub form_by_word : Option Text → Result Form Misused
form_by_word None = Ok AsText
form_by_word (Some word) = next (kind_of word) (λ kind. Ok (Lines kind))

-- the form in which lines are printed
abbrev pub form_of : List Row → Result Form Misused
form_of rows = if is_set (codes "json") rows then Ok Json else form_by_word (first_of (codes "lines") rows)

-- for how many seconds an attempt must have been over, or None if that doesn't matter
unfoldable pub quiet_of : List Row → Result (Option ℕ) Misused
quiet_of rows =
    next (number_at rows (codes "quiet") (codes "--quiet") 0 MAX_QUIET) (λ seconds.
    Ok (if is_set (codes "now") rows then None else Some seconds))

-- neither a file nor the four words of an answer are given
abbrev pub no_answer : Misused
no_answer = NoWord (codes "answer") (codes "INTENT LINE TEXT done|not-done, or --from FILE")

-- the answer of these four words, if all are given
abbrev pub answer_by_words : Option Text → Option Text → Option Text → Option Text → Option ℕ → Result Asked Misused
answer_by_words None line text verdict quiet = Err no_answer
answer_by_words (Some intent) None text verdict quiet = Err no_answer
answer_by_words (Some intent) (Some line) None verdict quiet = Err no_answer
answer_by_words (Some intent) (Some line) (Some text) None quiet = Err no_answer
answer_by_words (Some intent) (Some line) (Some text) (Some verdict) quiet = Ok (AskedAnswer intent line text verdict quiet)

-- the answers of this file, or else of the words
abbrev pub answer_by : List Row → Option Text → Option ℕ → Result Asked Misused
answer_by rows (Some sheet) quiet = Ok (AskedAnswerFrom sheet quiet)
answer_by rows None quiet =
    answer_by_words (first_of (codes "INTENT") rows) (first_of (codes "LINE") rows) (first_of (codes "TEXT") rows) (first_of (codes "VERDICT") rows) quiet

-- what `answer` asks for
unfoldable pub answer_of : List Row → Result Asked Misused
answer_of rows = next (quiet_of rows) (λ quiet. answer_by rows (first_of (codes "from") rows) quiet)

-- the worker that `lines` names, once the protocol is the one that the program speaks
unfoldable pub numbers_of : List Row → Result ByLines Misused
numbers_of rows =
    next (number_at rows (codes "WORKERS") (codes "WORKERS") 1 MAX_WORKERS) (λ workers.
    next (number_at rows (codes "P") (codes "P") 1 workers) (λ worker.
    next (number_at rows (codes "BETA") (codes "BETA") workers MAX_BETA) (λ beta.
    next (number_at rows (codes "N") (codes "N") 0 MAX_JOBS) (λ jobs.
    Ok (record { jobs = jobs; workers = workers; beta = beta; worker = worker })))))

-- the worker that `lines` names
abbrev pub by_lines_of : List Row → Result ByLines Misused
by_lines_of rows = if bytes_eq (text_at (codes "protocol") rows) PROTOCOL.now then numbers_of rows else Err NoProtocol

-- what `door` asks for
abbrev pub door_of : List Row → Result Asked Misused
door_of rows = next (jobs_of rows) (λ jobs. Ok (AskedDoor jobs (is_set (codes "into") rows)))

-- what `work` asks for: the worker is one of those of the run
abbrev pub work_of : List Row → Result Asked Misused
work_of rows =
    next (jobs_of rows) (λ jobs.
    next (number_at rows (codes "P") (codes "P") 1 jobs.workers) (λ worker.
    Ok (AskedWork jobs worker)))

-- what `status` asks for
abbrev pub status_of : List Row → Result Asked Misused
status_of rows =
    if is_set (codes "damaged") rows then Ok AskedDamaged
    else (if is_set (codes "follow") rows then Ok (AskedFollow (is_set (codes "once") rows))
    else (if is_set (codes "once") rows then Err (NoWord (codes "--once") (codes "given with --follow"))
    else next (form_of rows) (λ form. Ok (AskedStatus form))))

-- what the command of this name asks for with these arguments
unfoldable pub request_of : Text → List Row → Result Asked Misused
request_of name rows =
    if bytes_eq name (codes "door") then door_of rows
    else (if bytes_eq name (codes "work") then work_of rows
    else (if bytes_eq name (codes "lines") then next (by_lines_of rows) (λ lines. Ok (AskedLines lines))
    else (if bytes_eq name (codes "status") then status_of rows
    else (if bytes_eq name (codes "doubts") then next (form_of rows) (λ form. Ok (AskedDoubts form))
    else (if bytes_eq name (codes "answer") then answer_of rows
    else Ok AskedAgain)))))

-- the id, if it is one
abbrev pub id_by_text : Option Text → Result (Option Text) Misused
id_by_text None = Ok None
id_by_text (Some id) = if is_id id then Ok (Some id) else Err (NoWord (codes "--id") (codes "32 hexadecimal digits, none of them a capital letter"))

-- the id that is named, if one is
abbrev pub id_of : List Row → Result (Option Text) Misused
id_of rows = id_by_text (first_of (codes "id") rows)

-- the path of the file with the boot id: that of Linux, unless another one is named
abbrev pub boot_of : List Row → Text
boot_of rows = unwrap_or (first_of (codes "boot-id") rows) BOOT.now

-- the conditions on a run and what is asked of it, by the command of this name with these arguments
unfoldable pub asked_by : Text → List Row → Result Said Misused
asked_by name rows =
    next (id_of rows) (λ id.
    next (request_of name rows) (λ asked.
    Ok (record { id = id; file_system = first_of (codes "file-system") rows; boot = boot_of rows; asked = asked })))

-- some command asks for it with some arguments
pub record IsAskedFor (said : Said) : Type 0 where
  pub name : Text
  pub rows : List Row
  pub asks : asked_by name rows ≡ Ok said
