-- The values in the tree of a document, by their keys.
use Rattle.std.specs.Prelude.{ℕ, ℤ, pos, negsuc, List, [], ◌∷◌, Bool, true, ◌&&◌, Option, Some, None, is_some, option_map, option_and_then}
use Rattle.std.specs.List.{list_any}
use Rattle.std.specs.Str.{bytes_eq}
use Rattle.toml.specs.Data.{Data, Items, no_items, item, Members, no_members, member, as_integer, as_str, as_array, as_table, get_member}

-- a key, by its bytes
abbrev pub Key : Type 0
Key = List ℕ

-- the key is one of these
abbrev pub is_known : List Key → Key → Bool
is_known known k = list_any (λ name. bytes_eq k name) known

-- each key of a table passes the test
abbrev pub each_key : (Key → Bool) → Members → Bool
each_key test no_members = true
each_key test (member k d ms) = test k && each_key test ms

-- the table has this key
abbrev pub has : Key → Members → Bool
has key ms = is_some (get_member key ms)

-- an integer that is not negative
abbrev pub natural_of : ℤ → Option ℕ
natural_of (pos n) = Some n
natural_of (negsuc n) = None

-- the same of a value
abbrev pub natural : Data → Option ℕ
natural d = option_and_then natural_of (as_integer d)

-- the same at a key
abbrev pub natural_at : Key → Members → Option ℕ
natural_at key ms = option_and_then natural (get_member key ms)

-- the text at a key
abbrev pub text_at : Key → Members → Option (List ℕ)
text_at key ms = option_and_then as_str (get_member key ms)

-- what each item gives, if each gives something
abbrev pub all_of : {A : Type 0} → (Data → Option A) → Items → Option (List A)
all_of f no_items = Some []
all_of f (item d ds) = option_and_then (λ x. option_map (λ xs. x ∷ xs) (all_of f ds)) (f d)

-- the items, if each is a table
abbrev pub tables_of : Items → Option (List Members)
tables_of ds = all_of as_table ds

-- the items, if each is an integer that is not negative
abbrev pub naturals_of : Items → Option (List ℕ)
naturals_of ds = all_of natural ds

-- an array of integers that are not negative
abbrev pub naturals_in : Data → Option (List ℕ)
naturals_in d = option_and_then naturals_of (as_array d)
