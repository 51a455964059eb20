-- The ends of those that came back, as the last of them is collected first.
use Rattle.std.proofs.Common.{◌≡◌, ℕ, zero, suc, ◌<◌, List, [], ◌∷◌, ◌++◌, length, refl, sym, ap, ◌∙◌, arith, append-nil, append_assoc}
use mathlib.Core.Option.{some, some-ne-none}
use lib.ListN.{get_elem?}
use Rattle.amo_words.specs.Faces.{Seated}
use Rattle.amo_crew.specs.declared.outcome.End.{End}
use Rattle.amo_crew.specs.declared.run.member.Finish.{Finish}
use Rattle.amo_crew.specs.declared.settle.collecting.Collected.{Collected}
use Rattle.amo_crew.specs.declared.run.member.Finish.TheVariants.{Ran as HasRan, NotStarted as WasNotStarted}
use Rattle.amo_crew.specs.Collecting.{Collects, end_in, ends_in}

module _ {P Out : Type 0} where
  -- the last one's end comes first
  last_first : (rest : List (Finish P Out)) (f : Finish P Out) → ends_in (rest ++ f ∷ []) ≡ end_in f ∷ ends_in rest
  last_first [] f = refl
  last_first (x ∷ rest) f = ap (λ l. l ++ end_in x ∷ []) (last_first rest f)

  one_end : (p : ℕ) (f : Finish P Out) (b c : Seated P) (a z : Collected P Out) → Collects p f b a c z → z.ends.items ≡ a.ends.items ++ end_in f ∷ []
  one_end p (HasRan r) b c a z did = did.2
  one_end p (WasNotStarted u) b c a z did = did.2

  -- one more is collected
  pub ends_more : (p : ℕ) (f : Finish P Out) (rest fs : List (Finish P Out)) (b c : Seated P) (a z : Collected P Out) (all : List End) → fs ≡ rest ++ f ∷ []
      → Collects p f b a c z → a.ends.items ++ ends_in fs ≡ all → z.ends.items ++ ends_in rest ≡ all
  ends_more p f rest fs b c a z all is did told =
      ap (λ l. l ++ ends_in rest) (one_end p f b c a z did)
      ∙ append_assoc a.ends.items (end_in f ∷ []) (ends_in rest)
      ∙ ap (λ l. a.ends.items ++ l) (sym (last_first rest f)) ∙ ap (λ x. a.ends.items ++ ends_in x) (sym is) ∙ told

  -- none is left
  pub ends_all : (fs : List (Finish P Out)) (es all : List End) → length fs ≡ 0 → es ++ ends_in fs ≡ all → es ≡ all
  ends_all [] es all none told = sym (append-nil es) ∙ told
  ends_all (f ∷ fs) es all none told = absurd (omega (arith, none))

  -- who stands at a place, stands inside
  pub inside : (fs : List (Finish P Out)) (k : ℕ) (f : Finish P Out) → get_elem? fs k ≡ some f → k < length fs
  inside [] k f at = absurd (some-ne-none f (sym at))
  inside (x ∷ fs) zero f at = omega arith
  inside (x ∷ fs) (suc k) f at = let l = inside fs k f at in omega (arith, l)
