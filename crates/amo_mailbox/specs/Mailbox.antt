-- The outputs in the queue, beside the knowledge of each pass.
use Rattle.std.specs.Prelude.{◌≡◌, ◌≢◌, ℕ, ◌+◌, ◌<◌, ◌≤◌, ◌==◌, List, [], ◌∷◌, ◌++◌, filter, length, All, AllPairs}
use mathlib.Core.Option.{some}
use lib.ListN.{get_elem?}
use Rattle.amo_mailbox.specs.declared.output.Output.{Output}
use Rattle.amo_mailbox.specs.declared.pass_state.PassState.{PassState}
use Rattle.amo_mailbox.specs.declared.pass_state.PassState.TheVariants.{Sends, Gets, Spent}

module _ {Out : Type 0} where
  -- the outputs of a worker, in order
  abbrev pub of : ℕ → List (Output Out) → List (Output Out)
  of p xs = filter (λ x. x.worker == p) xs

  -- the outlet of each of these workers came back. It had sent this
  abbrev pub CameBack : (ℕ → ℕ) → List (Output Out) → List (ℕ × List (Output Out)) → Type 0
  CameBack seat all back = All (λ e. (seat e.0 ≡ 0) × (e.1 ≡ of e.0 all)) back

  -- no two of the list are of one worker
  abbrev pub AreApart : List (ℕ × List (Output Out)) → Type 0
  AreApart back = AllPairs (λ e f. e.0 ≢ f.0) back

  -- each of these workers sent just this
  abbrev pub AreWhole : List (Output Out) → List (ℕ × List (Output Out)) → Type 0
  AreWhole xs back = All (λ e. of e.0 xs ≡ e.1) back

  -- The knowledge of a pass is right. Seat p is 0 if no outlet of p is out, and else one more than the number of its pass.
  -- The first list has all outputs that were ever put.
  abbrev pub Fits : ℕ → (ℕ → ℕ) → List (Output Out) → List (Output Out) → ℕ → PassState Out → Type 0
  Fits reader seat got all pass (Sends p put) = (seat p ≡ pass + 1) × (put ≡ of p all)
  Fits reader seat got all pass (Gets taken made back) =
      (pass ≡ reader) × (taken ≡ got) × ((p : ℕ) → made < p → (seat p ≡ 0) × (of p all ≡ [])) × CameBack seat all back × AreApart back
  Fits reader seat got all pass Spent = Unit {0}

  -- what the inlet took, and then what stands in the queue, is for each worker what its outlet sent, in order
  pub record Delivers (items : List (Output Out)) (views : List (PassState Out)) : Type 0 where
    pub reader : ℕ
    pub seat : ℕ → ℕ
    pub got : List (Output Out)
    pub each : (pass : ℕ) (v : PassState Out) → get_elem? views pass ≡ some v → Fits reader seat got (got ++ items) pass v

  -- a pass is split: the inlet's makes an outlet of the next worker, an outlet's moves all that it knows
  abbrev pub stays : PassState Out → PassState Out
  stays (Sends p put) = Spent
  stays (Gets taken made back) = Gets taken (made + 1) back
  stays Spent = Spent

  abbrev pub goes : PassState Out → PassState Out
  goes (Sends p put) = Sends p put
  goes (Gets taken made back) = Sends (made + 1) []
  goes Spent = Spent

  -- the inlet's pass takes an outlet's in
  abbrev pub joined : PassState Out → PassState Out → PassState Out
  joined (Gets taken made back) (Sends p put) = Gets taken made (back ++ (p, put) ∷ [])
  joined v w = v

  -- an output was sent
  abbrev pub Adds : PassState Out → Output Out → PassState Out → Type 0
  Adds (Sends p put) x w = w ≡ Sends p (put ++ x ∷ [])
  Adds (Gets taken made back) x w = ⊥
  Adds Spent x w = ⊥

  -- of each of these workers there are at most as many as it sent
  abbrev pub AreWithin : List (Output Out) → List (ℕ × List (Output Out)) → Type 0
  AreWithin xs back = All (λ e. length (of e.0 xs) ≤ length e.1) back

  -- an output was taken
  abbrev pub Takes : PassState Out → Output Out → PassState Out → Type 0
  Takes (Gets taken made back) x w = (w ≡ Gets (taken ++ x ∷ []) made back) × AreWithin (taken ++ x ∷ []) back
  Takes (Sends p put) x w = ⊥
  Takes Spent x w = ⊥

  -- what the inlet learns of what the queue holds
  abbrev pub Tells : PassState Out → List (Output Out) → Type 0
  Tells (Gets taken made back) items = AreWhole (taken ++ items) back × AreApart back
  Tells (Sends p put) items = Unit {0}
  Tells Spent items = Unit {0}

  -- the parts of what an inlet's pass knows
  abbrev pub taken_of : PassState Out → List (Output Out)
  taken_of (Gets taken made back) = taken
  taken_of (Sends p put) = []
  taken_of Spent = []

  abbrev pub made_of : PassState Out → ℕ
  made_of (Gets taken made back) = made
  made_of (Sends p put) = 0
  made_of Spent = 0

  abbrev pub back_of : PassState Out → List (ℕ × List (Output Out))
  back_of (Gets taken made back) = back
  back_of (Sends p put) = []
  back_of Spent = []
