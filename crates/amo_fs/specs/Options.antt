-- Options by which a file system doesn't keep what is synced.
use Rattle.std.specs.Prelude.{◌≡◌, ◌⊎◌, ℕ, Bool, ◌||◌, List, ◌∷◌, ◌++◌, codes, Option, Some, None, if◌then◌else◌}
use Rattle.std.specs.Option.{option_or}
use Rattle.std.specs.List.{AllByRecursion}
use Rattle.std.specs.Str.{bytes_eq}
use Rattle.amo_fs.specs.Mounts.{MountView}
use Rattle.amo_fs.specs.Parts.{lines_of, options_of, first_by}

-- whether an option is one of them
abbrev pub is_refused : List ℕ → Bool
is_refused option = bytes_eq option (codes "nobarrier") || bytes_eq option (codes "barrier=0") || bytes_eq option (codes "data=writeback")

-- the first of these options that is
abbrev pub first_refused : List (List ℕ) → Option (List ℕ)
first_refused options = first_by (λ option. if is_refused option then Some option else None) options

-- the options of a mount, and then those of its file system
abbrev pub all_options : MountView → List (List ℕ)
all_options m = options_of m.options ++ options_of m.super_options

-- the first of a mount's options that is refused
abbrev pub refused_option : MountView → Option (List ℕ)
refused_option m = option_or (first_refused (options_of m.options)) (first_refused (options_of m.super_options))

-- the first line that is
abbrev pub refused_default : List ℕ → Option (List ℕ)
refused_default text = first_refused (lines_of text)

-- an option that is refused
abbrev pub Refused : List ℕ → Type 0
Refused option = (option ≡ codes "nobarrier") ⊎ ((option ≡ codes "barrier=0") ⊎ (option ≡ codes "data=writeback"))

-- none of these options is refused
abbrev pub NoneRefused : List (List ℕ) → Type 0
NoneRefused options = AllByRecursion (λ option. Refused option → ⊥) options

-- of these options this one is refused, and none before it
pub record IsFirstRefused (options : List (List ℕ)) (option : List ℕ) : Type 0 where
  pub before : List (List ℕ)
  pub behind : List (List ℕ)
  pub are : options ≡ before ++ option ∷ behind
  pub refused : Refused option
  pub first : NoneRefused before
