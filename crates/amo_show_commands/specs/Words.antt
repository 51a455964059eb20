-- Which words are a command.
use Rattle.std.specs.Prelude.{ℕ, List, [], ◌∷◌, ◌&&◌, Option, Some, None, codes, drop, if◌then◌else◌}
use Rattle.std.specs.Str.{bytes_eq}
use Rattle.amo_show_commands.specs.declared.shown.Shown.TheVariants.{Trace, Picture}
use Rattle.amo_show_commands.specs.declared.show.Show.{Show}
use Rattle.amo_show_commands.specs.declared.show.Show.TheVariants.{Run, Explain, Judge, JudgeRun, Worst, All}

-- what one word asks for
abbrev pub command_asked : List ℕ → Option Show
command_asked word =
    if bytes_eq word (codes "trace") then Some (Run Trace) else
    if bytes_eq word (codes "picture") then Some (Run Picture) else
    if bytes_eq word (codes "explain") then Some Explain else
    if bytes_eq word (codes "judge") then Some Judge else
    if bytes_eq word (codes "worst") then Some Worst else
    if bytes_eq word (codes "all") then Some All else None

-- what a word and its option ask for
abbrev pub option_asked : List ℕ → List ℕ → Option Show
option_asked word option = if bytes_eq word (codes "judge") && bytes_eq option (codes "--run") then Some JudgeRun else None

-- what the words after the program's name ask for, or None if they are no command: one word, or one
-- with its option
abbrev pub asked : List (List ℕ) → Option Show
asked (word ∷ []) = command_asked word
asked (word ∷ option ∷ []) = option_asked word option
asked words = None

-- what all words that the program is given ask for, its own name first
abbrev pub asked_after_name : List (List ℕ) → Option Show
asked_after_name words = asked (drop 1 words)
