-- The lines of the log. A line feed comes first and a dot last, so a line that was cut off is known.
-- Before a call stands what it is about, and after it what came of it:
--
--     before PID P CALL WORDS .
--     after PID P CALL WORDS .
use Rattle.std.specs.Prelude.{ℕ, Bool, true, false, List, [], ◌++◌, codes, map, Option, Some, None, Result, Ok, Err, Vec}
use Rattle.std.specs.Fmt.{decimal}
use Rattle.std.specs.declared.alloc.Global.{Global}
use Rattle.amo_host.specs.declared.host.Failed.{Failed}
use Rattle.amo_host.specs.declared.model.LogFile.{LogFile}
use Rattle.amo_host.specs.declared.model.LogFile.TheVariants.{Answers, Journal}
use Rattle.amo_run_log.specs.Entries.{text_of, text_of_answer}
use Rattle.amo_run_log.specs.Findings.{word_of}
use Rattle.amo_run_log.specs.declared.entry.Outcome.TheVariants.{Doubt}
use Rattle.amo_run_log.specs.declared.finding.Finding.{Finding}
use Rattle.amo_call_log.specs.Shown.{attempts_text, said_text, shown}
use Rattle.amo_call_log.specs.declared.call.Call.{Call}
use Rattle.amo_call_log.specs.declared.call.Call.TheVariants.{Recover, Put, Owe, Pay, ReadOn, Say, PutDoubt, PutAnswer}
use Rattle.amo_call_log.specs.declared.call.Came.{Came}
use Rattle.amo_call_log.specs.declared.call.Came.TheVariants.{Made, Fell, Attempts, Reply, NoReply}

-- the name of a log's file
abbrev pub file_name : LogFile → List ℕ
file_name Answers = codes "answers"
file_name (Journal worker) = codes "journal." ++ decimal worker

-- the verdict of an operator's answer, and the attempt: `done P S`
abbrev pub answer_text : Finding → List ℕ
answer_text answer = word_of answer.verdict ++ (codes " " ++ (decimal answer.worker ++ (codes " " ++ decimal answer.serial)))

-- the name of a call
abbrev pub call_word : Call → List ℕ
call_word (Recover log) = codes "recover"
call_word (Put entry) = codes "put"
call_word (Owe entry) = codes "owe"
call_word Pay = codes "pay"
call_word (ReadOn log) = codes "read_on"
call_word (Say line) = codes "say"
call_word (PutDoubt serial time) = codes "put_doubt"
call_word (PutAnswer answer) = codes "put_answer"

-- what a call is about, with a blank before each word
abbrev pub words_before : Call → List ℕ
words_before (Recover log) = codes " " ++ file_name log
words_before (Put entry) = codes " " ++ text_of entry
words_before (Owe entry) = codes " " ++ text_of entry
words_before Pay = []
words_before (ReadOn log) = codes " " ++ file_name log
words_before (Say line) = codes " " ++ said_text line.now
words_before (PutDoubt serial time) = codes " " ++ text_of_answer serial (Doubt time)
words_before (PutAnswer answer) = codes " " ++ answer_text answer

-- what came of a call, with a blank before each word
abbrev pub words_after : Came → List ℕ
words_after Made = []
words_after Fell = codes " failed"
words_after (Attempts appends) = codes " " ++ attempts_text (map (λ append. append.items) appends.now)
words_after (Reply line) = codes " " ++ shown line.now
words_after NoReply = codes " none"

-- what came of a call that was made (true) or has failed
abbrev pub words_of_end : Bool → List ℕ
words_of_end true = []
words_of_end false = codes " failed"

-- what came of the recovery of this log: of a journal the attempts that it has
abbrev pub words_of_recovery : LogFile → Result (Vec (Vec ℕ Global) Global) Failed → List ℕ
words_of_recovery log (Err failed) = codes " failed"
words_of_recovery Answers (Ok appends) = []
words_of_recovery (Journal worker) (Ok appends) = codes " " ++ attempts_text (map (λ append. append.items) appends.items)

-- what came of a line to the runner: its reply
abbrev pub words_of_reply : Result (Option (Vec ℕ Global)) Failed → List ℕ
words_of_reply (Err failed) = codes " failed"
words_of_reply (Ok None) = codes " none"
words_of_reply (Ok (Some line)) = codes " " ++ shown line.items

-- a line: its side of the call, the process and the worker, and the call with its words
abbrev pub line_with : (side : List ℕ) (process worker : ℕ) (call words : List ℕ) → List ℕ
line_with side process worker call words =
    codes "\n" ++ (side ++ (codes " " ++ (decimal process ++ (codes " " ++ (decimal worker ++ (codes " " ++ (call ++ (words ++ codes " ."))))))))

-- the line of a process that begins, of this worker of this run; 0 is an operator's command
abbrev pub line_of_begin : ℕ → ℕ → List ℕ → List ℕ
line_of_begin process worker run = line_with (codes "begin") process worker (codes "run") (codes " " ++ shown run)

-- the line before a call
abbrev pub line_before : ℕ → ℕ → Call → List ℕ
line_before process worker call = line_with (codes "before") process worker (call_word call) (words_before call)

-- the line after a call
abbrev pub line_after : ℕ → ℕ → Call → Came → List ℕ
line_after process worker call came = line_with (codes "after") process worker (call_word call) (words_after came)
