-- The request of a line, from the matches that `clap` returns.
use Rattle.std.proofs.Common.{◌≡◌, true, List, [], ◌∷◌, Option, Some, None, option_map, refl, sym, ap, subst, ◌∙◌}
use Rattle.clap.specs.Words.{App, Row, Text, is_simple, is_simple_and_free, subcommand_of, subcommand_rows_of, subcommand_name_of, fault_of, HasMatchesOf, Kinds, IsAmong}
use Rattle.clap.specs.declared.ArgMatches.{ArgMatches}
use Rattle.clap.specs.declared.error.ErrorKind.{ErrorKind}
use Rattle.clap.proofs.OnLiterals.{clap_on_literals}
use Rattle.amo_args.specs.Commands.{amo_app, unless_any, request_of_row, request_of_line}

-- ---- the app is of the kind of which `clap` says everything

pub amo_is_simple : is_simple amo_app ≡ true
unfolding clap_on_literals
amo_is_simple = refl

pub amo_is_free : is_simple_and_free amo_app ≡ true
unfolding clap_on_literals
amo_is_free = refl

-- ---- the subcommand that was found: its name and its rows are one pair

map_of_map : {A B C : Type 0} (g : B → C) (f : A → B) (o : Option A) → option_map g (option_map f o) ≡ option_map (λ x. g (f x)) o
map_of_map g f None = refl
map_of_map g f (Some x) = refl

name_of_rows : (m : ArgMatches) → option_map (λ (p : Text × List Row). p.0) (subcommand_rows_of m) ≡ subcommand_name_of m
name_of_rows m = map_of_map (λ (p : Text × List Row). p.0) _ _

pair_of_parts : (o : Option (Text × List Row)) (name : Text) (rows : List Row)
    → Some name ≡ option_map (λ (p : Text × List Row). p.0) o → Some rows ≡ option_map (λ (p : Text × List Row). p.1) o → o ≡ Some (name, rows)
pair_of_parts None name rows e f = absurd cc
pair_of_parts (Some p) name rows e f = let same : p.0 ≡ name = cc in let found : p.1 ≡ rows = cc in rw (← same, ← found) refl

pub subcommand_found : (m : ArgMatches) (name : Text) (rows : List Row)
    → Some name ≡ subcommand_name_of m → Some rows ≡ option_map (λ (p : Text × List Row). p.1) (subcommand_rows_of m) → subcommand_rows_of m ≡ Some (name, rows)
subcommand_found m name rows e f = pair_of_parts (subcommand_rows_of m) name rows (e ∙ sym (name_of_rows m)) f

-- ---- from a command whose app is ours to what is said of ours; by `ap`, since `fault_of` is too
-- large to rewrite in

pub no_faults : (a : App) (line : List Text) → a ≡ amo_app → (is_simple_and_free a ≡ true → fault_of a line ≡ []) → fault_of amo_app line ≡ []
no_faults a line e h = ap (λ (b : App). fault_of b line) (sym e) ∙ h (ap is_simple_and_free e ∙ amo_is_free)

pub found_is_ours : (a : App) (line : List Text) (m : ArgMatches) → a ≡ amo_app → HasMatchesOf a line m → subcommand_rows_of m ≡ subcommand_of amo_app line
found_is_ours a line m e h = (h (ap is_simple e ∙ amo_is_simple)).1 ∙ ap (λ (b : App). subcommand_of b line) e

-- ---- the request of a line that is taken, and of one that is refused

pub asks_row : (line : List Text) (name : Text) (rows : List Row) → fault_of amo_app line ≡ [] → subcommand_of amo_app line ≡ Some (name, rows)
    → request_of_line line ≡ request_of_row name rows
unfolding request_of_line
asks_row line name rows taken found = rw (taken, found) refl

none_among : {A : Type 0} (kinds : Kinds) (k : ErrorKind) (answer : Option A) → IsAmong k kinds → unless_any kinds answer ≡ None
none_among [] k answer h = absurd h
none_among (x ∷ xs) k answer h = refl

refused_by_ours : (line : List Text) (k : ErrorKind) → IsAmong k (fault_of amo_app line) → request_of_line line ≡ None
unfolding request_of_line
refused_by_ours line k h = none_among (fault_of amo_app line) k _ h

pub asks_nothing : (a : App) (line : List Text) (k : ErrorKind) → a ≡ amo_app → IsAmong k (fault_of a line) → request_of_line line ≡ None
asks_nothing a line k e h = refused_by_ours line k (subst (λ (b : App). IsAmong k (fault_of b line)) e h)
