-- Within this crate: while the workers are collected, in the order of their numbers.
use Rattle.std.specs.Prelude.{◌≡◌, ◌⊎◌, ℕ, zero, suc, ◌+◌, ◌-◌, ◌<◌, false, ◌≤◌, List, [], ◌∷◌, ◌++◌, length, map, sum_by, All, Option, Some, None, vec_len, vec_capacity, ⊤}
use Rattle.std.specs.List.{AllZip}
use mathlib.Core.Option.{some}
use lib.ListN.{get_elem?}
use Rattle.atomic_table.specs.Seated.{TableId}
use Rattle.amo_params.specs.declared.givens.Givens.{Givens}
use Rattle.amo_words.specs.declared.rule.Spot.{Spot}
use Rattle.amo_words.specs.declared.rule.Spot.TheVariants.{Back}
use Rattle.amo_words.specs.Rule.{AllStand}
use Rattle.amo_words.specs.Faces.{Seated, machine, spots}
use Rattle.amo_words.specs.Hiring.{HasCollected}
use Rattle.amo_mailbox.specs.declared.queue.Queue.{Queue}
use Rattle.amo_mailbox.specs.declared.outlet.Outlet.{Outlet}
use Rattle.amo_crew.specs.declared.outcome.End.{End}
use Rattle.amo_crew.specs.declared.outcome.End.TheVariants.{NotStarted}
use Rattle.amo_crew.specs.declared.settle.collecting.Collected.{Collected}
use Rattle.amo_crew.specs.declared.run.member.Member.{Member}
use Rattle.amo_crew.specs.declared.run.member.Finish.{Finish}
use Rattle.amo_crew.specs.declared.run.member.Finish.TheVariants.{Ran as HasRan, NotStarted as WasNotStarted}
use Rattle.amo_crew.specs.Crew.{EachAt, IsFinishOf}
use Rattle.amo_crew.specs.Unsettling.{UnsettledView}
use Rattle.amo_mailbox.specs.Endpoints.{IsOutletOf, given, has_worker}
use Rattle.amo_crew.specs.Running.{IsRelated}
use Rattle.amo_crew.specs.Outcomes.{spot_of, dones_in, IsBare, AreEnds, AreInHand}

module _ {P Out : Type 0} where
  -- an outlet of worker p is among these, and was given just the answers of these dones
  pub record HasOutlet (related : ℕ → ℕ → P → Out → Type 0) (payloads : List P) (outlets : List (Outlet Out)) (p : ℕ) (dones : List ℕ) : Type 0 where
    pub at : ℕ
    pub outlet : Outlet Out
    pub there : get_elem? outlets at ≡ some outlet
    pub worker : outlet.worker ≡ p
    pub jobs : map (λ x. x.job) (given outlet) ≡ dones
    pub answers : All (IsRelated related payloads) (given outlet)

  -- or none is, and nothing was done
  abbrev pub OutletFits : (ℕ → ℕ → P → Out → Type 0) → List P → List (Outlet Out) → ℕ → List ℕ → Type 0
  OutletFits related payloads outlets p dones = HasOutlet related payloads outlets p dones ⊎ ((has_worker outlets p ≡ false) × (dones ≡ []))

-- how many jobs 1..i have done
abbrev pub dones_upto : List Spot → ℕ → ℕ
dones_upto spots zero = 0
dones_upto spots (suc p) = dones_upto spots p + length (dones_in (spot_of spots (suc p)))

-- The workers 1..i are collected.
pub record AreCollected {P Out : Type 0} (related : ℕ → ℕ → P → Out → Type 0) (queue : Queue Out) (table : TableId) (g : Givens) (payloads : List P) (budgets : List ℕ) (i : ℕ) (book : Seated P) (all : Collected P Out) : Type 0 where
  pub table_is : book.table_id ≡ table
  pub givens : book.view.givens ≡ g
  pub payloads_are : book.view.payloads ≡ payloads
  pub size : length (spots book) ≡ g.workers
  pub stand : AllStand g book.view.seen (spots book)
  pub rest : (p : ℕ) → i < p → IsBare (spot_of (spots book) p)
  pub belong : All (IsOutletOf queue) all.outlets.items
  pub fits : (p : ℕ) → OutletFits related payloads all.outlets.items p (dones_in (spot_of (spots book) p))
  pub count : sum_by (λ o. o.put_count) all.outlets.items ≡ dones_upto (spots book) i
  pub ends_are : AreEnds budgets (spots book) i all.ends.items
  pub hands_are : AreInHand payloads (spots book) i all.in_hand.items

-- the job in hand of worker p, as a list
abbrev pub hand_of : {P : Type 0} → ℕ → Option (ℕ × P) → List (ℕ × ℕ × P)
hand_of p None = []
hand_of p (Some h) = (p, h.0, h.1) ∷ []

-- what collecting worker p does
abbrev pub Collects : {P Out : Type 0} → ℕ → Finish P Out → Seated P → Collected P Out → Seated P → Collected P Out → Type 0
Collects p (HasRan r) b a c z =
    HasCollected b r.gone c × (z.outlets.items ≡ a.outlets.items ++ r.outlet ∷ []) × (z.ends.items ≡ a.ends.items ++ r.end ∷ []) × (z.in_hand.items ≡ a.in_hand.items ++ hand_of p r.in_hand)
Collects p (WasNotStarted u) b a c z = (c ≡ b) × (z.outlets.items ≡ a.outlets.items) × (z.ends.items ≡ a.ends.items ++ NotStarted ∷ []) × (z.in_hand.items ≡ a.in_hand.items)

-- a worker that ran is of this table
abbrev pub RanAt : {P Out : Type 0} → TableId → Finish P Out → Type 0
RanAt table (HasRan r) = r.gone.table_id ≡ table
RanAt table (WasNotStarted u) = ⊤

-- there is room for n more
pub record HasRoomFor {P Out : Type 0} (n : ℕ) (a : Collected P Out) : Type 0 where
  pub outlets_room : vec_len a.outlets + n ≤ vec_capacity a.outlets
  pub ends_room : vec_len a.ends + n ≤ vec_capacity a.ends
  pub hand_room : vec_len a.in_hand + n ≤ vec_capacity a.in_hand

-- the end of a worker whose thread finished so
abbrev pub end_in : {P Out : Type 0} → Finish P Out → End
end_in (HasRan r) = r.end
end_in (WasNotStarted u) = NotStarted

-- the ends of these, in the order of the workers: the last of them is of worker 1
abbrev pub ends_in : {P Out : Type 0} → List (Finish P Out) → List End
ends_in [] = []
ends_in (f ∷ fs) = ends_in fs ++ end_in f ∷ []

-- a worker that ran is in the book again, with the record that it came back with
abbrev pub IsBackAs : {P Out : Type 0} → List Spot → ℕ → Finish P Out → Type 0
IsBackAs spots p (HasRan r) = spot_of spots p ≡ Back (machine r.gone)
IsBackAs spots p (WasNotStarted u) = ⊤

-- so is each of these, the last of which is worker 1
abbrev pub AreBack : {P Out : Type 0} → Givens → List Spot → List (Finish P Out) → Type 0
AreBack {P} {Out} g spots finishes = EachAt (λ k (f : Finish P Out). IsBackAs spots (g.workers - k) f) finishes

-- The ends of an unsettled run are those of what became of its crew.
abbrev pub TellsCrew : {P Out : Type 0} → (ℕ → ℕ → P → Out → Type 0) → Queue Out → TableId → Givens → List (Member P Out) → UnsettledView P Out → Type 0
TellsCrew {P} {Out} related queue table g crew u =
    (fs : List (Finish P Out)) × AllZip (IsFinishOf related queue table) crew fs × (u.ends ≡ ends_in fs) × AreBack g u.floor.spots fs
