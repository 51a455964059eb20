-- Consequences for each story: no job is claimed or filed twice, and an end comes late enough.
use Rattle.std.proofs.Common.{◌≡◌, ◌≢◌, ℕ, suc, ◌+◌, ◌≤◌, Bool, true, false, ◌||◌, List, [], ◌∷◌, ◌++◌, length, refl, sym, ap, subst, arith, append-nil, append_assoc}
use Rattle.std.specs.Prelude.{if◌then◌else◌, ◌==◌}
use Rattle.std.proofs.lemmas.Bool.{and_parts, eqb-true}
use Rattle.std.proofs.lemmas.Bool.Decides.{nat_tests}
use Rattle.amo_sets.specs.Lists.{numbered, put}
use Rattle.amo_sets.specs.Sets.{has, AreDistinct, with_number, without_number}
use Rattle.amo_sets.proofs.Numbers.{length-with_number}
use Rattle.amo_sets.proofs.Removed.{has-without_other}
use Rattle.amo_params.specs.Givens.{AreGivens, bound, is_within}
use Rattle.amo_kk.specs.Object.{first_object, has_in_hand, object_after}
use Rattle.amo_kk.specs.Run.{claimed_jobs, has_claimed}
use Rattle.amo_params.specs.declared.givens.Givens.{Givens}
use Rattle.amo_kk.specs.declared.model.Object.{Object}
use Rattle.amo_kk.specs.declared.event.Event.{Event}
use Rattle.amo_kk.specs.declared.event.Event.TheVariants.{Done, Ended}
use Rattle.amo_kk.proofs.Claims.{IsKept, kept_step, whole_kept, done_parts, end_parts}
use Rattle.amo_restart.specs.declared.model.Entry.{Entry}
use Rattle.amo_restart.specs.declared.model.Entry.TheVariants.{Shown, Returned}
use Rattle.amo_restart.specs.Story.{is_entry, object_after_entry, object_after_entries, IsStory, events_in, doubted_jobs, returns_in_doubt, without_all, filed_jobs, sure_jobs}

pub events-append : (xs ys : List Entry) → events_in (xs ++ ys) ≡ events_in xs ++ events_in ys
events-append [] ys = refl
events-append (Shown e ∷ xs) ys = ap (λ l. e ∷ l) (events-append xs ys)
events-append (Returned p j ∷ xs) ys = events-append xs ys

kept_story : (g : Givens) (past : List Event) (xs : List Entry) (s : Object) → IsKept g past s → IsStory g s xs → IsKept g (past ++ events_in xs) (object_after_entries s xs)
kept_story g past [] s k h = subst (λ l. IsKept g l s) (sym (append-nil past)) k
kept_story g past (Shown e ∷ xs) s k h =
    subst (λ l. IsKept g l (object_after_entries (object_after s e) xs)) (append_assoc past (e ∷ []) (events_in xs)) (kept_story g (past ++ e ∷ []) xs (object_after s e) (kept_step g past s e k h.0) h.1)
kept_story g past (Returned p j ∷ xs) s k h =
    kept_story g past xs (record s { gone = put s.gone p false })
    (record { size = k.size; claims = k.claims; dones = k.dones; apart = k.apart; held = k.held; once = k.once; claimed = k.claimed; performed = k.performed })
    h.1

pub kept : (g : Givens) (xs : List Entry) → IsStory g (first_object g) xs → IsKept g (events_in xs) (object_after_entries (first_object g) xs)
kept g xs h = kept_story g [] xs (first_object g) (whole_kept g) h

-- a story up to an entry is a story, which allows the entry
pub story_to : (g : Givens) (s : Object) (xs ys : List Entry) (x : Entry) → IsStory g s (xs ++ x ∷ ys) → IsStory g s xs × (is_entry g (object_after_entries s xs) x ≡ true)
story_to g s [] ys x h = (tt, h.0)
story_to g s (y ∷ xs) ys x h = let rest = story_to g (object_after_entry s y) xs ys x h.1 in ((h.0, rest.0), rest.1)

pub claims_distinct : (g : Givens) (xs : List Entry) → IsStory g (first_object g) xs → AreDistinct (claimed_jobs (events_in xs))
claims_distinct g xs h = (kept g xs h).claims

pub filed_distinct : (g : Givens) (xs : List Entry) → IsStory g (first_object g) xs → AreDistinct (filed_jobs xs)
filed_distinct g xs h = (kept g xs h).dones

pub filed_has_claim : (g : Givens) (xs ys : List Entry) (p j : ℕ) → IsStory g (first_object g) (xs ++ Shown (Done p j) ∷ ys) → has_claimed (events_in xs) p j ≡ true
filed_has_claim g xs ys p j h =
    let cut = story_to g (first_object g) xs ys (Shown (Done p j)) h in
    let parts = done_parts g (object_after_entries (first_object g) xs) p j cut.1 in
    ((kept g xs cut.0).held p j parts.0.job parts.1).0

pub doubt_has_claim : (g : Givens) (xs ys : List Entry) (p j : ℕ) → IsStory g (first_object g) (xs ++ Returned p j ∷ ys) → 1 ≤ j
    → (has_claimed (events_in xs) p j ≡ true) × (has (filed_jobs xs) j ≡ false)
doubt_has_claim g xs ys p j h some =
    let s = object_after_entries (first_object g) xs in
    let cut = story_to g (first_object g) xs ys (Returned p j) h in
    let parts = and_parts (is_within g.workers p) (has_in_hand s p j) cut.1 in
    (kept g xs cut.0).held p j some (eqb-true (numbered 0 s.in_hand p) j parts.1)

pub end_is_late : (g : Givens) (xs ys : List Entry) (p : ℕ) → AreGivens g → IsStory g (first_object g) (xs ++ Shown (Ended p) ∷ ys) → bound g ≤ length (filed_jobs xs)
end_is_late g xs ys p ok h =
    let s = object_after_entries (first_object g) xs in
    let cut = story_to g (first_object g) xs ys (Shown (Ended p)) h in
    let many : g.jobs + 2 ≤ length s.performed + g.beta + g.workers = end_parts g s p cut.1 in
    let same : length s.performed ≡ length (filed_jobs xs) = (kept g xs cut.0).performed in
    let some = ok.some in
    let low = ok.beta_low in
    omega arith

-- how many are certain

without_le : (j : ℕ) (ds : List ℕ) → length (without_number j ds) ≤ length ds
without_le j [] = omega arith
without_le j (d ∷ ds) = step (j == d) (without_number j ds) (without_le j ds)
  where
    step : (b : Bool) (l : List ℕ) → length l ≤ length ds → length (if b then l else d ∷ l) ≤ suc (length ds)
    step true l h = omega arith
    step false l h = omega arith

without_less : (j : ℕ) (ds : List ℕ) → has ds j ≡ true → suc (length (without_number j ds)) ≤ length ds
without_less j [] h = absurd (cc)
without_less j (d ∷ ds) h = step (j == d) (has ds j) (without_number j ds) (without_le j ds) (without_less j ds) (flip d j (has ds j) h)
  where
    flip : (d j : ℕ) (c : Bool) → ((d == j) || c) ≡ true → ((j == d) || c) ≡ true
    flip d j c h = grind (arith, nat_tests)

    step : (b c : Bool) (l : List ℕ) → length l ≤ length ds → (c ≡ true → suc (length l) ≤ length ds) → (b || c) ≡ true → suc (length (if b then l else d ∷ l)) ≤ suc (length ds)
    step true c l h k e = omega arith
    step false c l h k e = let x = k e in omega arith

skipped : (xs ds : List ℕ) (x : ℕ) → has xs x ≡ false → without_all (without_number x ds) xs ≡ without_all ds xs
skipped [] ds x h = refl
skipped (y ∷ ys) ds x h =
    (λ i. if has-without_other x ds y (λ e. parts.0 (sym e)) i then skipped ys ds x parts.1 i else y ∷ skipped ys ds x parts.1 i)
  where
    both : (y x : ℕ) (c : Bool) → ((y == x) || c) ≡ false → (y ≢ x) × (c ≡ false)
    both y x c h = ((λ e. grind (arith, nat_tests)), grind arith)

    parts : (y ≢ x) × (has ys x ≡ false)
    parts = both y x (has ys x) h

split : (xs ds : List ℕ) → AreDistinct xs → length xs ≤ length (without_all ds xs) + length ds
split [] ds h = omega arith
split (x ∷ xs) ds h = go (has ds x) refl (split xs ds h.1) (split xs (without_number x ds) h.1)
  where
    go : (b : Bool) → has ds x ≡ b → length xs ≤ length (without_all ds xs) + length ds
        → length xs ≤ length (without_all (without_number x ds) xs) + length (without_number x ds)
        → suc (length xs) ≤ length (if b then without_all ds xs else x ∷ without_all ds xs) + length ds
    go true e all rest = let same = ap length (skipped xs ds x h.0) in let less = without_less x ds e in omega arith
    go false e all rest = omega arith

pub sure_end : (g : Givens) (xs ys : List Entry) (p : ℕ) → AreGivens g → IsStory g (first_object g) (xs ++ Shown (Ended p) ∷ ys) → bound g ≤ length (sure_jobs xs) + length (doubted_jobs xs)
sure_end g xs ys p ok h =
    let late = end_is_late g xs ys p ok h in
    let cut = story_to g (first_object g) xs ys (Shown (Ended p)) h in
    let parts = split (filed_jobs xs) (doubted_jobs xs) (filed_distinct g xs cut.0) in
    omega arith

pub few_doubts : (xs : List Entry) → length (doubted_jobs xs) ≤ returns_in_doubt xs
few_doubts [] = omega arith
few_doubts (Shown e ∷ xs) = few_doubts xs
few_doubts (Returned p j ∷ xs) = step (j == 0) (length-with_number j (doubted_jobs xs)) (few_doubts xs)
  where
    step : (b : Bool) → length (with_number j (doubted_jobs xs)) ≤ suc (length (doubted_jobs xs)) → length (doubted_jobs xs) ≤ returns_in_doubt xs
        → length (if b then doubted_jobs xs else with_number j (doubted_jobs xs)) ≤ (if b then returns_in_doubt xs else suc (returns_in_doubt xs))
    step true a h = h
    step false a h = omega arith
