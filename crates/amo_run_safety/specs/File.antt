-- The entries of a file that is only added to, and those that are left if the machine stops.
use Rattle.std.specs.Prelude.{ℕ, Bool, true, false, List, [], ◌∷◌, ◌++◌, take}

-- The entries in their order, in three parts. Every stop of the machine leaves the first. The
-- second are read as well, but a stop may take them. The third aren't read, but a stop may leave
-- them, since their put has failed.
pub record File (A : Type 0) : Type 0 where
  pub kept : List A
  pub loose : List A
  pub hidden : List A

-- an empty file
abbrev pub empty : {A : Type 0} → File A
empty = record { kept = []; loose = []; hidden = [] }

-- what is read of it
abbrev pub read_of : {A : Type 0} → File A → List A
read_of f = f.kept ++ f.loose

-- once its writer has settled it, every stop leaves what is read, and nothing else
abbrev pub settled : {A : Type 0} → File A → File A
settled f = record { kept = f.kept ++ f.loose; loose = []; hidden = [] }

-- these entries after those that are kept and those that are loose: an entry after a loose one is
-- as loose
abbrev pub behind : {A : Type 0} → (kept loose more : List A) → File A
behind kept [] more = record { kept = kept ++ more; loose = []; hidden = [] }
behind kept (x ∷ loose) more = record { kept = kept; loose = x ∷ loose ++ more; hidden = [] }

-- with these entries, each of which was put, and the put was answered
abbrev pub with_put : {A : Type 0} → File A → List A → File A
with_put f more = behind f.kept f.loose more

-- with these entries, whose puts returned to nobody
abbrev pub with_unheard : {A : Type 0} → File A → List A → File A
with_unheard f more = record { kept = f.kept; loose = f.loose ++ more; hidden = [] }

-- with these entries, whose puts have failed so that they aren't read
abbrev pub with_unread : {A : Type 0} → File A → List A → File A
with_unread f more = record { kept = f.kept; loose = f.loose; hidden = more }

-- with these entries, once their puts were answered so
abbrev pub after_put : {A : Type 0} → (failed : Bool) → File A → List A → File A
after_put true f more = with_unread f more
after_put false f more = with_put f more

-- once the machine has stopped, where so many are left of those that it may leave or take
abbrev pub after_stop : {A : Type 0} → ℕ → File A → File A
after_stop n f = record { kept = f.kept ++ take n (f.loose ++ f.hidden); loose = []; hidden = [] }
