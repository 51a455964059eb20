-- A process that is stepped: it keeps what it needs of the values that it has read, not their list.
use Rattle.std.specs.Prelude.{⊤, ℕ, zero, suc, ◌<◌, Bool, true, false, List, [], ◌∷◌, ◌++◌, Option, Some, None, if◌then◌else◌}
use Rattle.amo_kk.specs.Record.{is_over, can_leave}
use Rattle.amo_kk.specs.Step.{want, record_after}
use Rattle.amo_kk.specs.Words.{next_word, claim_word, done_word, word_count}
use Rattle.amo_params.specs.declared.givens.Givens.{Givens}
use Rattle.amo_kk.specs.declared.phase.Want.{Want}
use Rattle.amo_kk.specs.declared.phase.Want.TheVariants.{StoreNext, LoadNext, LoadDone, StoreClaim, StoreDone, Nothing}
use Rattle.amo_process.specs.Heard.{can_hear, standing_of}
use Rattle.amo_process.specs.declared.standing.Standing.{Standing}
use Rattle.amo_process.specs.declared.standing.Standing.TheVariants.{Beginning, Going}
use Rattle.amo_process.specs.declared.access.Access.{Access}
use Rattle.amo_process.specs.declared.access.Access.TheVariants.{Load, Store, Nothing as NoAccess}

-- How contracts see it.
pub record ProcessView : Type 0 where
  pub givens : Givens
  pub number : ℕ
  -- the own words that it has loaded, in their order
  pub own : List ℕ
  -- the standing of its worker; None if an impossible value was read
  pub standing : Option Standing

-- the process of worker p that has read nothing
abbrev pub new_process : Givens → ℕ → ProcessView
new_process g p = record { givens = g; number = p; own = []; standing = Some (Beginning (next_word p)) }

-- the loaded own registers, with v if one was due
abbrev pub own_after : ℕ → List ℕ → Option Standing → List ℕ
own_after v own None = own
own_after v own (Some (Beginning word)) = own ++ v ∷ []
own_after v own (Some (Going l fresh)) = own

-- the standing after one more value: by its own registers while it loads them, v among them, then
-- by the machine's step
abbrev pub standing_after : Givens → ℕ → ℕ → List ℕ → Option Standing → Option Standing
standing_after g p v own None = None
standing_after g p v own (Some (Beginning word)) = standing_of g p own
standing_after g p v own (Some (Going l fresh)) =
    if can_hear g v (want l.state) then Some (Going (record l { state = record_after g p v l.state }) false) else None

-- the process that has read v too
abbrev pub process_after : ProcessView → ℕ → ProcessView
process_after a v =
    let own = own_after v a.own a.standing in
    record a { own = own; standing = standing_after a.givens a.number v own a.standing }

-- the process that has read these values too, in their order
abbrev pub process_after_all : ProcessView → List ℕ → ProcessView
process_after_all a [] = a
process_after_all a (v ∷ vs) = process_after_all (process_after a v) vs

-- the access of worker p whose machine wants this
abbrev pub access_for : Givens → ℕ → Want → Access
access_for g p (StoreNext j) = Store (next_word p) j
access_for g p (LoadNext q) = Load (next_word q)
access_for g p (LoadDone q k) = Load (done_word g q k)
access_for g p (StoreClaim c j) = Store (claim_word g p) c
access_for g p (StoreDone k j) = Store (done_word g p k) j
access_for g p Nothing = NoAccess

-- the next access of worker p that stands so
abbrev pub access_of : Givens → ℕ → Option Standing → Access
access_of g p None = NoAccess
access_of g p (Some (Beginning word)) = Load word
access_of g p (Some (Going l fresh)) = access_for g p (want l.state)

-- whether a worker that stands so may leave
abbrev pub may_leave : Option Standing → Bool
may_leave None = false
may_leave (Some (Beginning word)) = false
may_leave (Some (Going l fresh)) = can_leave l.state.phase

-- whether a worker that stands so has ended by its own choice
abbrev pub has_ended : Option Standing → Bool
has_ended None = false
has_ended (Some (Beginning word)) = false
has_ended (Some (Going l fresh)) = is_over l.state.phase

-- true if an impossible value was read
abbrev pub is_refused : Option Standing → Bool
is_refused None = true
is_refused (Some s) = false

-- whether the access is a store
abbrev pub is_store : Access → Bool
is_store (Load word) = false
is_store (Store word v) = true
is_store NoAccess = false

-- the place is that of one of the shared words
abbrev pub IsWord : Givens → Access → Type 0
IsWord g (Load word) = word < word_count g
IsWord g (Store word v) = word < word_count g
IsWord g NoAccess = ⊤

-- the list of this number, empty if it is 0
abbrev pub one_or_none : ℕ → List ℕ
one_or_none zero = []
one_or_none (suc j) = suc j ∷ []
