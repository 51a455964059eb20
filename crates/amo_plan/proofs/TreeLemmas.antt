-- The tree of a document as the code walks it.
use Rattle.std.proofs.Common.{◌≡◌, Bool, List, [], ◌∷◌, ◌++◌, map, Option, option_map, string_bytes, refl, ap}
use Rattle.std.specs.Prelude.{◌&&◌}
use Rattle.std.specs.List.{list_all}
use Rattle.toml.specs.View.{members_view}
use Rattle.toml.proofs.Views.{Entry}
use Rattle.amo_plan.specs.Tree.{Key, each_key}

-- a test of each key of a map is one of the members
pub keys_of_members : (test : Key → Bool) (es : List Entry) → list_all (λ k. test (string_bytes k)) (map (λ e. e.0) es) ≡ each_key test (members_view es)
keys_of_members test [] = refl
keys_of_members test (e ∷ es) = ap (λ (b : Bool). test (string_bytes e.0) && b) (keys_of_members test es)

-- what was found, and what is to come
abbrev pub with_front : {A : Type 0} → List A → Option (List A) → Option (List A)
with_front front more = option_map (λ xs. front ++ xs) more
