-- Evidence for things that come one after the other.

infixr 5 ◌▸◌
-- this, and then the rest
abbrev pub ◌▸◌ : {A B : Type 0} → A → B → A × B
x ▸ rest = (x, rest)
