-- Which words are a command, and what it asks for.
use Rattle.std.specs.Prelude.{ℕ, List, [], ◌∷◌, Option, Some, None, true, option_and_then, codes, drop, if◌then◌else◌}
use Rattle.std.specs.Str.{bytes_eq}
use Rattle.clap.specs.Words.{App, Row, Rule, Text, new_app, new_rule, with_rule, with_subcommand, subcommand_of, fault_of, first_of}
use Rattle.amo_params.specs.declared.limits.TheConstants.{MAX_WORKERS}
use Rattle.amo_decimal.specs.Numbers.{number_in}
use Rattle.amo_plan.specs.Digits.{within}
use Rattle.amo_plan.specs.declared.limits.TheConstants.{MOST_FIRST, MOST_COUNT, MOST_TURNS}
use Rattle.amo_report.specs.Wanted as texts
use Rattle.amo_report.specs.declared.wanted.Wanted.TheVariants.{Report, Check, Explored, Stops}
use Rattle.amo_args.specs.declared.request.Request.{Request}
use Rattle.amo_args.specs.declared.request.Request.TheVariants.{Write, Run}

-- the subcommand `replay`, which takes nothing
abbrev pub replay_app : App
replay_app = new_app (codes "replay")

-- the subcommand `check`, which takes nothing
abbrev pub check_app : App
check_app = new_app (codes "check")

-- the subcommand `run`, which takes nothing
abbrev pub run_app : App
run_app = new_app (codes "run")

-- a text that has to be given
abbrev pub required : Text → Rule
required id = record (new_rule id) { required = true }

-- the subcommand `explore`, which takes three texts
abbrev pub explore_app : App
explore_app = with_rule (with_rule (with_rule (new_app (codes "explore")) (required (codes "FROM"))) (required (codes "COUNT"))) (required (codes "LENGTH"))

-- the subcommand `stops`, which takes one text
abbrev pub stops_app : App
stops_app = with_rule (new_app (codes "stops")) (required (codes "WORKER"))

-- the same app, which wants a subcommand
abbrev pub wanting_subcommand : App → App
wanting_subcommand a = record a { top = record a.top { subcommand_required = true } }

-- the program as `clap` sees it: `amo` with a subcommand for each request
abbrev pub amo_app : App
amo_app = with_subcommand (with_subcommand (with_subcommand (with_subcommand (with_subcommand (wanting_subcommand (new_app (codes "amo"))) replay_app.top) check_app.top) run_app.top) explore_app.top) stops_app.top

-- the number of the text at this id, if it is a number within this range
abbrev pub number_at : ℕ → ℕ → Text → List Row → Option ℕ
number_at low high id rows = within low high (option_and_then number_in (first_of id rows))

-- `explore` with these numbers
abbrev pub explore_with : Option ℕ → Option ℕ → Option ℕ → Option Request
explore_with (Some from) (Some count) (Some turns) = Some (Write (Explored from count turns))
explore_with _ _ _ = None

-- what the texts of `explore` ask for
unfoldable pub explore_of_rows : List Row → Option Request
explore_of_rows rows = explore_with (number_at 0 MOST_FIRST (codes "FROM") rows) (number_at 1 MOST_COUNT (codes "COUNT") rows) (number_at 0 MOST_TURNS (codes "LENGTH") rows)

-- what the text of `stops` asks for
abbrev pub stops_of_rows : List Row → Option Request
stops_of_rows rows = option_and_then (λ worker. Some (Write (Stops worker))) (number_at 1 MAX_WORKERS (codes "WORKER") rows)

-- what a subcommand of this name with these texts asks for
unfoldable pub request_of_row : Text → List Row → Option Request
request_of_row name rows =
    if bytes_eq name (codes "replay") then Some (Write Report)
    else (if bytes_eq name (codes "check") then Some (Write Check)
    else (if bytes_eq name (codes "run") then Some Run
    else (if bytes_eq name (codes "explore") then explore_of_rows rows
    else (if bytes_eq name (codes "stops") then stops_of_rows rows
    else None))))

-- this, if there are no faults
abbrev pub unless_any : {A B : Type 0} → List A → Option B → Option B
unless_any [] answer = answer
unless_any (fault ∷ more) answer = None

-- what the words of a command line ask for, the program's name among them: the subcommand that
-- `clap` finds, unless it refuses the words
unfoldable pub request_of_line : List Text → Option Request
request_of_line line = unless_any (fault_of amo_app line) (option_and_then (λ row. request_of_row row.0 row.1) (subcommand_of amo_app line))

-- the request of the words after the program's name, or None if they are no command
abbrev pub asked : List Text → Option Request
asked words = request_of_line (codes "amo" ∷ words)

-- what all words that the program is given ask for, its own name first
abbrev pub asked_after_name : List Text → Option Request
asked_after_name words = asked (drop 1 words)

-- the numbers of a request are within their ranges
abbrev pub IsWithinRanges : Request → Type 0
IsWithinRanges (Write text) = texts.IsWithinRanges text
IsWithinRanges Run = Unit {0}
