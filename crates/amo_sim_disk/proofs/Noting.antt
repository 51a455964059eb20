-- One call more joins those that were made.
use Rattle.std.proofs.Common.{◌≡◌, ◌⊎◌, inl, inr, ⊎_elim, ℕ, zero, suc, ◌+◌, ◌<◌, List, [], ◌∷◌, ◌++◌, get_or, length, reverse, take, Option, Some, refl, sym, ◌∙◌, ap, subst}
use Rattle.std.specs.List.{slice_get}
use Rattle.std.proofs.lemmas.List.{reverse-append, take_more}
use Rattle.amo_sim_disk.specs.declared.call.Call.{Call}
use Rattle.amo_sim_disk.specs.Calls.{has_failed, is_planned, FailsAsPlanned}
use Rattle.amo_sim_disk.specs.Replay.{Story, story_of, noted}

-- the story with the call at the end
pub story_push : (first : List ℕ) (failing : Option ℕ) (calls later : List Call) (call : Call) → later ≡ calls ++ call ∷ []
    → story_of first failing later ≡ noted call (story_of first failing calls)
story_push first failing calls later call is =
    let turned : reverse later ≡ call ∷ reverse calls = ap reverse is ∙ reverse-append calls (call ∷ []) in
    ap (λ (cs : List Call). let story : Story = record { first = first; failing = failing; calls = cs } in story) turned

-- what stands at a place of a list with one more, and where
last_or_before : (calls : List Call) (call it : Call) (i : ℕ) → slice_get (calls ++ call ∷ []) i ≡ Some it
    → (slice_get calls i ≡ Some it) ⊎ ((call ≡ it) × (i ≡ length calls))
last_or_before [] call it zero is = let same : call ≡ it = cc is in inr (same, refl)
last_or_before [] call it (suc i) is = absurd (cc is)
last_or_before (c ∷ calls) call it zero is = inl is
last_or_before (c ∷ calls) call it (suc i) is = ⊎_elim (λ before. inl before) (λ last. inr (last.0, ap suc last.1)) (last_or_before calls call it i is)

-- the plan is kept if it has the call as it ended
pub planned_push : (failing : Option ℕ) (calls later : List Call) (call : Call) → FailsAsPlanned failing calls
    → has_failed call ≡ is_planned failing (length calls) → later ≡ calls ++ call ∷ [] → FailsAsPlanned failing later
planned_push failing calls later call kept here is number it stands =
    ⊎_elim (λ before. kept number it before)
    (λ last. ap has_failed (sym last.0) ∙ here ∙ ap (λ (n : ℕ). is_planned failing n) (sym last.1))
    (last_or_before calls call it number (subst (λ (l : List Call). slice_get l number ≡ Some it) is stands))

-- the story of one call more of those that were made
pub story_more : (first : List ℕ) (failing : Option ℕ) (calls : List Call) (i : ℕ) (call : Call) → i < length calls → call ≡ get_or calls i call
    → story_of first failing (take (i + 1) calls) ≡ noted call (story_of first failing (take i calls))
story_more first failing calls i call lt is =
    story_push first failing (take i calls) (take (i + 1) calls) call (take_more calls i call lt ∙ ap (λ (it : Call). take i calls ++ it ∷ []) (sym is))
