-- Facts that hold at each moment of a run by clearance.
use Rattle.std.proofs.Common.{◌≡◌, ◌⊎◌, inl, inr, ⊎_elim, ◌≤◌, ℕ, zero, suc, ◌+◌, List, [], ◌∷◌, ◌++◌, length, map, take, drop, Some, refl, sym, ap, ◌∙◌, subst}
use Rattle.std.specs.Prelude.{if◌then◌else◌}
use Rattle.std.specs.List.{slice_get}
use Rattle.std.proofs.lemmas.Bool.{cases_eq, eq-eqb, ne_eqb}
use Rattle.amo_safety_by_journals.specs.Model.{Attempt, Handing, IsOneOf, AreDistinct, Stage, Away, Free, Clearing, Site, first_site, with_at, looked, in_hand, site_after, Event, Dies, Begins, Lands, Wants, Intends, Looks, HandsOver, Performs, Ends, Opens, line_of}
use Rattle.amo_safety_by_journals.specs.Runs.{Clearance, EarlyClearance, IsClear, HasSeenAll, MayFollow, IsOver, IsRunFrom, IsRun, site_from, site_of}

-- ---- lists

at_number : {A : Type 0} (P : A → Type 0) (f : ℕ → A) (p : ℕ) (x : A) (q : ℕ) → (q ≡ p → P x) → ((q ≡ p → ⊥) → P (f q)) → P (with_at f p x q)
at_number P f p x q same other = ⊎_elim
    (λ (e : q ≡ p). subst (λ b. P (if b then x else f q)) (sym (eq-eqb q p e)) (same e))
    (λ (n : q ≡ p → ⊥). subst (λ b. P (if b then x else f q)) (sym (ne_eqb q p n)) (other n))
    (cases_eq q p)

get_longer : (xs ys : List ℕ) (i x : ℕ) → slice_get xs i ≡ Some x → slice_get (xs ++ ys) i ≡ Some x
get_longer [] ys i x is = absurd (cc is)
get_longer (y ∷ xs) ys zero x is = is
get_longer (y ∷ xs) ys (suc i) x is = get_longer xs ys i x is

get_new : (xs : List ℕ) (y : ℕ) → slice_get (xs ++ y ∷ []) (length xs) ≡ Some y
get_new [] y = refl
get_new (x ∷ xs) y = get_new xs y

get_behind : (xs : List ℕ) (y : ℕ) → slice_get xs (length xs) ≡ Some y → ⊥
get_behind [] y is = absurd (cc is)
get_behind (x ∷ xs) y is = get_behind xs y is

line_stays : (lines : List ℕ) (serial line more : ℕ) → line_of lines serial ≡ Some line → line_of (lines ++ more ∷ []) serial ≡ Some line
line_stays lines zero line more is = absurd (cc is)
line_stays lines (suc i) line more is = get_longer lines (more ∷ []) i line is

-- one of both lists is one of the first or of the second
of_both : {A : Type 0} (xs ys : List A) (x : A) → IsOneOf (xs ++ ys) x → IsOneOf xs x ⊎ IsOneOf ys x
of_both [] ys x one = inr one
of_both (z ∷ xs) ys x (inl is) = inl (inl is)
of_both (z ∷ xs) ys x (inr one) = ⊎_elim (λ a. inl (inr a)) (λ b. inr b) (of_both xs ys x one)

of_front : {A : Type 0} (i : ℕ) (xs : List A) (x : A) → IsOneOf (take i xs) x → IsOneOf xs x
of_front zero xs x one = absurd one
of_front (suc i) [] x one = one
of_front (suc i) (z ∷ xs) x (inl is) = inl is
of_front (suc i) (z ∷ xs) x (inr one) = inr (of_front i xs x one)

of_back : {A : Type 0} (i : ℕ) (xs : List A) (x : A) → IsOneOf (drop i xs) x → IsOneOf xs x
of_back zero xs x one = one
of_back (suc i) [] x one = one
of_back (suc i) (z ∷ xs) x one = inr (of_back i xs x one)

of_without : {A : Type 0} (i : ℕ) (xs : List A) (x : A) → IsOneOf (take i xs ++ drop (i + 1) xs) x → IsOneOf xs x
of_without i xs x one = ⊎_elim (of_front i xs x) (of_back (i + 1) xs x) (of_both (take i xs) (drop (i + 1) xs) x one)

-- the line of one of them
of_lines : (hs : List Handing) (line : ℕ) → IsOneOf (map (λ (h : Handing). h.line) hs) line → (h : Handing) × IsOneOf hs h × (h.line ≡ line)
of_lines [] line one = absurd one
of_lines (h ∷ hs) line (inl is) = (h, inl refl, is)
of_lines (h ∷ hs) line (inr one) = let rest = of_lines hs line one in (rest.0, inr rest.1, rest.2)

-- ---- what holds

-- the attempt was handed over
abbrev WasHanded : Site → ℕ → ℕ → ℕ → Type 0
WasHanded w p s l = IsOneOf w.alive (record { worker = p; serial = s; line = l }) ⊎ IsOneOf w.performed (record { worker = p; serial = s; line = l })

-- its process looked at the journal of q after the intent was acknowledged
abbrev HasPassed : ℕ → Site → ℕ → ℕ → ℕ → ℕ → Type 0
HasPassed n w p s l q = (WasHanded w p s l × (q ≤ n)) ⊎ ((seen : List ℕ) × (w.stage p ≡ Clearing s l seen) × IsOneOf seen q)

abbrev IsOpened : Site → ℕ → ℕ → Type 0
IsOpened w p s = IsOneOf w.opened (record { worker = p; serial = s })

record IsSafe (n : ℕ) (w : Site) : Type 0 where
  pub handed_line : (p s l : ℕ) → WasHanded w p s l → line_of (w.kept p) s ≡ Some l
  pub handed_number : (p s l : ℕ) → WasHanded w p s l → p ≤ n
  pub held_line : (p s l : ℕ) (seen : List ℕ) → w.stage p ≡ Clearing s l seen → line_of (w.kept p) s ≡ Some l
  pub number : (p : ℕ) → (w.stage p ≡ Away → ⊥) → p ≤ n
  pub fresh : (p s l k : ℕ) (seen : List ℕ) → w.stage p ≡ Clearing s l seen → WasHanded w p s k → ⊥
  pub over_handed : (p s l : ℕ) → IsOpened w p s → WasHanded w p s l → ⊥
  pub over_held : (p s l : ℕ) (seen : List ℕ) → IsOpened w p s → w.stage p ≡ Clearing s l seen → ⊥
  pub over_kept : (p s : ℕ) → IsOpened w p s → (l : ℕ) × (line_of (w.kept p) s ≡ Some l)
  -- of two attempts at one line of which each has looked at the other's journal one is opened
  pub apart : (p s q t l : ℕ) → ((p ≡ q) × (s ≡ t) → ⊥) → HasPassed n w p s l q → HasPassed n w q t l p → IsOpened w p s ⊎ IsOpened w q t
  pub once : AreDistinct (map (λ h. h.line) w.performed)

-- ---- events after which no process holds more, and nothing more was handed over

module _ (n : ℕ) (w v : Site)
    (kept : (p s l : ℕ) → line_of (w.kept p) s ≡ Some l → line_of (v.kept p) s ≡ Some l)
    (held : (p s l : ℕ) (seen : List ℕ) → v.stage p ≡ Clearing s l seen → w.stage p ≡ Clearing s l seen)
    (number : (p : ℕ) → (v.stage p ≡ Away → ⊥) → p ≤ n)
    (opened : v.opened ≡ w.opened)
    (once : IsSafe n w → AreDistinct (map (λ h. h.line) v.performed))
    (handed : (p s l : ℕ) → WasHanded v p s l → WasHanded w p s l) where
  was_opened : (p s : ℕ) → IsOpened v p s → IsOpened w p s
  was_opened p s is = subst (λ (all : List Attempt). IsOneOf all (record { worker = p; serial = s })) opened is

  is_opened : (p s : ℕ) → IsOpened w p s → IsOpened v p s
  is_opened p s is = subst (λ (all : List Attempt). IsOneOf all (record { worker = p; serial = s })) (sym opened) is

  passed : (p s l q : ℕ) → HasPassed n v p s l q → HasPassed n w p s l q
  passed p s l q (inl (was, le)) = inl (handed p s l was, le)
  passed p s l q (inr (seen, is, one)) = inr (seen, held p s l seen is, one)

  still_safe : IsSafe n w → IsSafe n v
  still_safe safe = record {
    handed_line = λ p s l was. kept p s l (safe.handed_line p s l (handed p s l was));
    handed_number = λ p s l was. safe.handed_number p s l (handed p s l was);
    held_line = λ p s l seen is. kept p s l (safe.held_line p s l seen (held p s l seen is));
    number = number;
    fresh = λ p s l k seen is was. safe.fresh p s l k seen (held p s l seen is) (handed p s k was);
    over_handed = λ p s l is was. safe.over_handed p s l (was_opened p s is) (handed p s l was);
    over_held = λ p s l seen is at. safe.over_held p s l seen (was_opened p s is) (held p s l seen at);
    over_kept = λ p s is. let old = safe.over_kept p s (was_opened p s is) in (old.0, kept p s old.0 old.1);
    apart = λ p s q t l other a b. ⊎_elim (λ is. inl (is_opened p s is)) (λ is. inr (is_opened q t is)) (safe.apart p s q t l other (passed p s l q a) (passed q t l p b));
    once = once safe;
  }

-- a process that holds nothing now held nothing else before
held_other : (stage : ℕ → Stage) (p : ℕ) (x : Stage) → ((s l : ℕ) (seen : List ℕ) → x ≡ Clearing s l seen → ⊥) → (q s l : ℕ) (seen : List ℕ) → with_at stage p x q ≡ Clearing s l seen → stage q ≡ Clearing s l seen
held_other stage p x none q s l seen = at_number (λ (y : Stage). y ≡ Clearing s l seen → stage q ≡ Clearing s l seen) stage p x q (λ e is. absurd (none s l seen is)) (λ other is. is)

-- it has a number
number_with : (n : ℕ) (stage : ℕ → Stage) (p : ℕ) (x : Stage) → ((x ≡ Away → ⊥) → p ≤ n) → ((q : ℕ) → (stage q ≡ Away → ⊥) → q ≤ n) → (q : ℕ) → (with_at stage p x q ≡ Away → ⊥) → q ≤ n
number_with n stage p x new old q = at_number (λ (y : Stage). (y ≡ Away → ⊥) → q ≤ n) stage p x q (λ e here. subst (λ k. k ≤ n) (sym e) (new here)) (λ other here. old q here)

-- a journal with one intent more
kept_more : (kept : ℕ → List ℕ) (p more : ℕ) (q s l : ℕ) → line_of (kept q) s ≡ Some l → line_of (with_at kept p (kept p ++ more ∷ []) q) s ≡ Some l
kept_more kept p more q s l is = at_number (λ (lines : List ℕ). line_of lines s ≡ Some l) kept p (kept p ++ more ∷ []) q
    (λ e. line_stays (kept p) s l more (subst (λ k. line_of (kept k) s ≡ Some l) e is))
    (λ other. is)

dies : (n : ℕ) (w : Site) (p : ℕ) → IsSafe n w → IsSafe n (site_after w (Dies p))
dies n w p safe = still_safe n w (site_after w (Dies p)) (λ q s l is. is)
    (held_other w.stage p Away (λ s l seen is. cc is))
    (number_with n w.stage p Away (λ here. absurd (here refl)) safe.number) refl (λ s. s.once) (λ q s l was. was) safe

begins : (n : ℕ) (w : Site) (p : ℕ) → p ≤ n → IsSafe n w → IsSafe n (site_after w (Begins p))
begins n w p le safe = still_safe n w (site_after w (Begins p)) (λ q s l is. is)
    (held_other w.stage p Free (λ s l seen is. cc is))
    (number_with n w.stage p Free (λ here. le) safe.number) refl (λ s. s.once) (λ q s l was. was) safe

lands : (n : ℕ) (w : Site) (p more : ℕ) → IsSafe n w → IsSafe n (site_after w (Lands p more))
lands n w p more safe = still_safe n w (site_after w (Lands p more)) (kept_more w.kept p more) (λ q s l seen is. is) safe.number refl (λ s. s.once) (λ q s l was. was) safe

ends : (n : ℕ) (w : Site) (i : ℕ) → IsSafe n w → IsSafe n (site_after w (Ends i))
ends n w i safe = still_safe n w (site_after w (Ends i)) (λ q s l is. is) (λ q s l seen is. is) safe.number refl (λ s. s.once)
    (λ q s l was. ⊎_elim (λ alive. inl (of_without i w.alive _ alive)) (λ done. inr done) was) safe

-- ---- the other events

-- who holds what once one process holds this
held_now : (stage : ℕ → Stage) (p : ℕ) (x : Stage) (s0 l0 : ℕ) (seen0 : List ℕ) → x ≡ Clearing s0 l0 seen0 → (q s l : ℕ) (seen : List ℕ) → with_at stage p x q ≡ Clearing s l seen
    → ((q ≡ p) × (s ≡ s0) × (l ≡ l0) × (seen ≡ seen0)) ⊎ ((q ≡ p → ⊥) × (stage q ≡ Clearing s l seen))
held_now stage p x s0 l0 seen0 x_is q s l seen = at_number (λ (y : Stage). y ≡ Clearing s l seen → ((q ≡ p) × (s ≡ s0) × (l ≡ l0) × (seen ≡ seen0)) ⊎ ((q ≡ p → ⊥) × (stage q ≡ Clearing s l seen))) stage p x q
    (λ e is. let both : Clearing s l seen ≡ Clearing s0 l0 seen0 = sym is ∙ x_is in inl (e, cc both, cc both, cc both))
    (λ other is. inr (other, is))

not_away : (w : Site) (p : ℕ) (s l : ℕ) (seen : List ℕ) → w.stage p ≡ Clearing s l seen → w.stage p ≡ Away → ⊥
not_away w p s l seen is away = let both : Clearing s l seen ≡ Away = sym is ∙ away in absurd (cc both)

intends : (n : ℕ) (w : Site) (p more : ℕ) → w.stage p ≡ Free → IsSafe n w → IsSafe n (site_after w (Intends p more))
intends n w p more free safe = record {
  handed_line = λ q s l was. kept_more w.kept p more q s l (safe.handed_line q s l was);
  handed_number = safe.handed_number;
  held_line = λ q s l seen is. ⊎_elim
      (λ now. new_line q s l now.0 now.1 now.2)
      (λ old. kept_more w.kept p more q s l (safe.held_line q s l seen old.1))
      (now_held q s l seen is);
  number = number_with n w.stage p (Clearing serial more []) (λ here. safe.number p (λ away. let both : Free ≡ Away = sym free ∙ away in absurd (cc both))) safe.number;
  fresh = λ q s l k seen is was. ⊎_elim
      (λ now. none_there q s k now.0 now.1 (safe.handed_line q s k was))
      (λ old. safe.fresh q s l k seen old.1 was)
      (now_held q s l seen is);
  over_handed = safe.over_handed;
  over_held = λ q s l seen opened is. ⊎_elim
      (λ now. let old = safe.over_kept q s opened in none_there q s old.0 now.0 now.1 old.1)
      (λ old. safe.over_held q s l seen opened old.1)
      (now_held q s l seen is);
  over_kept = λ q s opened. let old = safe.over_kept q s opened in (old.0, kept_more w.kept p more q s old.0 old.1);
  apart = λ q s r t l other a b. safe.apart q s r t l other (was_passed q s l r a) (was_passed r t l q b);
  once = safe.once;
}
  where
    serial : ℕ
    serial = suc (length (w.kept p))

    now_held : (q s l : ℕ) (seen : List ℕ) → with_at w.stage p (Clearing serial more []) q ≡ Clearing s l seen → ((q ≡ p) × (s ≡ serial) × (l ≡ more) × (seen ≡ [])) ⊎ ((q ≡ p → ⊥) × (w.stage q ≡ Clearing s l seen))
    now_held = held_now w.stage p (Clearing serial more []) serial more [] refl

    new_line : (q s l : ℕ) → q ≡ p → s ≡ serial → l ≡ more → line_of (with_at w.kept p (w.kept p ++ more ∷ []) q) s ≡ Some l
    new_line q s l e s_is l_is = at_number (λ (lines : List ℕ). line_of lines s ≡ Some l) w.kept p (w.kept p ++ more ∷ []) q
        (λ _. ap (line_of (w.kept p ++ more ∷ [])) s_is ∙ get_new (w.kept p) more ∙ ap (λ (x : ℕ). Some x) (sym l_is))
        (λ other. absurd (other e))

    none_there : (q s l : ℕ) → q ≡ p → s ≡ serial → line_of (w.kept q) s ≡ Some l → ⊥
    none_there q s l e s_is is = get_behind (w.kept p) l (sym (ap (line_of (w.kept p)) s_is) ∙ subst (λ k. line_of (w.kept k) s ≡ Some l) e is)

    was_passed : (q s l r : ℕ) → HasPassed n (site_after w (Intends p more)) q s l r → HasPassed n w q s l r
    was_passed q s l r (inl was) = inl was
    was_passed q s l r (inr (seen, is, one)) = ⊎_elim
        (λ now. absurd (subst (λ (qs : List ℕ). IsOneOf qs r) now.3 one))
        (λ old. inr (seen, old.1, one))
        (now_held q s l seen is)

looks : (n : ℕ) (w : Site) (p other : ℕ) (serial line : ℕ) (seen : List ℕ) → w.stage p ≡ Clearing serial line seen → IsClear w other (record { worker = p; serial = serial }) line → IsSafe n w → IsSafe n (site_after w (Looks p other))
looks n w p other serial line seen at clear safe = record {
  handed_line = safe.handed_line;
  handed_number = safe.handed_number;
  held_line = held_line;
  number = number_with n w.stage p (looked other (w.stage p)) (λ here. safe.number p (not_away w p serial line seen at)) safe.number;
  fresh = λ q s l k seen1 is was. ⊎_elim
      (λ now. safe.fresh p serial line k seen at (subst (λ m. WasHanded w p m k) now.1 (subst (λ m. WasHanded w m s k) now.0 was)))
      (λ old. safe.fresh q s l k seen1 old.1 was)
      (now_held q s l seen1 is);
  over_handed = safe.over_handed;
  over_held = λ q s l seen1 opened is. ⊎_elim
      (λ now. safe.over_held p serial line seen (subst (λ m. IsOpened w p m) now.1 (subst (λ m. IsOpened w m s) now.0 opened)) at)
      (λ old. safe.over_held q s l seen1 opened old.1)
      (now_held q s l seen1 is);
  over_kept = safe.over_kept;
  apart = λ q s r t l differ a b. ⊎_elim
      (λ a_old. ⊎_elim
      (λ b_old. safe.apart q s r t l differ a_old b_old)
      (λ b_new. inl (against q s l b_new.2 b_new.3 (λ same. differ (same.0 ∙ sym b_new.0, same.1 ∙ sym b_new.1)) (line_there q s l r a)))
      (parts r t l q b))
      (λ a_new. inr (against r t l a_new.2 a_new.3 (λ same. differ (a_new.0 ∙ sym same.0, a_new.1 ∙ sym same.1)) (line_there r t l q b)))
      (parts q s l r a);
  once = safe.once;
}
  where
    now_is : looked other (w.stage p) ≡ Clearing serial line (other ∷ seen)
    now_is = ap (looked other) at

    now_held : (q s l : ℕ) (seen1 : List ℕ) → with_at w.stage p (looked other (w.stage p)) q ≡ Clearing s l seen1 → ((q ≡ p) × (s ≡ serial) × (l ≡ line) × (seen1 ≡ other ∷ seen)) ⊎ ((q ≡ p → ⊥) × (w.stage q ≡ Clearing s l seen1))
    now_held = held_now w.stage p (looked other (w.stage p)) serial line (other ∷ seen) now_is

    held_line : (q s l : ℕ) (seen1 : List ℕ) → with_at w.stage p (looked other (w.stage p)) q ≡ Clearing s l seen1 → line_of (w.kept q) s ≡ Some l
    held_line q s l seen1 is = ⊎_elim
        (λ now. ap (λ k. line_of (w.kept k) s) now.0 ∙ ap (line_of (w.kept p)) now.1 ∙ safe.held_line p serial line seen at ∙ ap (λ (x : ℕ). Some x) (sym now.2))
        (λ old. safe.held_line q s l seen1 old.1)
        (now_held q s l seen1 is)

    line_there : (q s l r : ℕ) → HasPassed n (site_after w (Looks p other)) q s l r → line_of (w.kept q) s ≡ Some l
    line_there q s l r (inl (was, le)) = safe.handed_line q s l was
    line_there q s l r (inr (seen1, is, one)) = held_line q s l seen1 is

    parts : (q s l r : ℕ) → HasPassed n (site_after w (Looks p other)) q s l r → HasPassed n w q s l r ⊎ ((q ≡ p) × (s ≡ serial) × (l ≡ line) × (r ≡ other))
    parts q s l r (inl was) = inl (inl was)
    parts q s l r (inr (seen1, is, one)) = ⊎_elim
        (λ now. ⊎_elim
        (λ (first : other ≡ r). inr (now.0, now.1, now.2, sym first))
        (λ (rest : IsOneOf seen r). inl (inr (seen, ap w.stage now.0 ∙ at ∙ same serial s line l (sym now.1) (sym now.2), rest)))
        (subst (λ (qs : List ℕ). IsOneOf qs r) now.3 one))
        (λ old. inl (inr (seen1, old.1, one)))
        (now_held q s l seen1 is)
      where
        same : (a b c d : ℕ) → a ≡ b → c ≡ d → Clearing a c seen ≡ Clearing b d seen
        same a b c d ab cd = cc (ab, cd)

    -- an attempt at that line in the journal that was looked at
    against : (q s l : ℕ) → l ≡ line → q ≡ other → ((q ≡ p) × (s ≡ serial) → ⊥) → line_of (w.kept q) s ≡ Some l → IsOpened w q s
    against q s l l_is q_is differ is = ⊎_elim
        (λ own. let worker : other ≡ p = ap (λ (a : Attempt). a.worker) own in let number : s ≡ serial = ap (λ (a : Attempt). a.serial) own in absurd (differ (q_is ∙ worker, number)))
        (λ opened. subst (λ k. IsOpened w k s) (sym q_is) opened)
        (clear s (subst (λ k. line_of (w.kept k) s ≡ Some line) q_is (is ∙ ap (λ (x : ℕ). Some x) l_is)))

hands_over : (n : ℕ) (w : Site) (p : ℕ) (serial line : ℕ) (seen : List ℕ) → w.stage p ≡ Clearing serial line seen → HasSeenAll n seen → IsSafe n w → IsSafe n (site_after w (HandsOver p))
hands_over n w p serial line seen at all safe = record {
  handed_line = λ q s l was. ⊎_elim (safe.handed_line q s l) (λ new. line_there q s l new.0 new.1 new.2) (parts q s l was);
  handed_number = λ q s l was. ⊎_elim (safe.handed_number q s l) (λ new. subst (λ k. k ≤ n) (sym new.0) (safe.number p (not_away w p serial line seen at))) (parts q s l was);
  held_line = λ q s l seen1 is. safe.held_line q s l seen1 (held q s l seen1 is).1;
  number = number_with n w.stage p Free (λ here. safe.number p (not_away w p serial line seen at)) safe.number;
  fresh = λ q s l k seen1 is was. ⊎_elim
      (safe.fresh q s l k seen1 (held q s l seen1 is).1)
      (λ new. (held q s l seen1 is).0 new.0)
      (parts q s k was);
  over_handed = λ q s l opened was. ⊎_elim
      (safe.over_handed q s l opened)
      (λ new. safe.over_held p serial line seen (subst (λ m. IsOpened w p m) new.1 (subst (λ m. IsOpened w m s) new.0 opened)) at)
      (parts q s l was);
  over_held = λ q s l seen1 opened is. safe.over_held q s l seen1 opened (held q s l seen1 is).1;
  over_kept = safe.over_kept;
  apart = λ q s r t l differ a b. safe.apart q s r t l differ (passed q s l r a) (passed r t l q b);
  once = safe.once;
}
  where
    held : (q s l : ℕ) (seen1 : List ℕ) → with_at w.stage p Free q ≡ Clearing s l seen1 → (q ≡ p → ⊥) × (w.stage q ≡ Clearing s l seen1)
    held q s l seen1 = at_number (λ (y : Stage). y ≡ Clearing s l seen1 → (q ≡ p → ⊥) × (w.stage q ≡ Clearing s l seen1)) w.stage p Free q (λ e is. absurd (cc is)) (λ other is. (other, is))

    parts : (q s l : ℕ) → WasHanded (site_after w (HandsOver p)) q s l → WasHanded w q s l ⊎ ((q ≡ p) × (s ≡ serial) × (l ≡ line))
    parts q s l (inr done) = inl (inr done)
    parts q s l (inl one) = ⊎_elim
        (λ (new : record { worker = p; serial = serial; line = line } ≡ record { worker = q; serial = s; line = l }).
        inr (sym (ap (λ (h : Handing). h.worker) new), sym (ap (λ (h : Handing). h.serial) new), sym (ap (λ (h : Handing). h.line) new)))
        (λ alive. inl (inl alive))
        (subst (λ (st : Stage). IsOneOf (in_hand p st ++ w.alive) (record { worker = q; serial = s; line = l })) at one)

    line_there : (q s l : ℕ) → q ≡ p → s ≡ serial → l ≡ line → line_of (w.kept q) s ≡ Some l
    line_there q s l e s_is l_is = ap (λ k. line_of (w.kept k) s) e ∙ ap (line_of (w.kept p)) s_is ∙ safe.held_line p serial line seen at ∙ ap (λ (x : ℕ). Some x) (sym l_is)

    passed : (q s l r : ℕ) → HasPassed n (site_after w (HandsOver p)) q s l r → HasPassed n w q s l r
    passed q s l r (inr (seen1, is, one)) = inr (seen1, (held q s l seen1 is).1, one)
    passed q s l r (inl (was, le)) = ⊎_elim
        (λ old. inl (old, le))
        (λ new. inr (seen, ap w.stage new.0 ∙ at ∙ same serial s line l (sym new.1) (sym new.2), all r le))
        (parts q s l was)
      where
        same : (a b c d : ℕ) → a ≡ b → c ≡ d → Clearing a c seen ≡ Clearing b d seen
        same a b c d ab cd = cc (ab, cd)

performs : (n : ℕ) (w : Site) (h : Handing) → IsOneOf w.alive h → (IsOneOf w.performed h → ⊥) → IsSafe n w → IsSafe n (site_after w (Performs h))
performs n w h alive fresh safe = still_safe n w (site_after w (Performs h)) (λ q s l is. is) (λ q s l seen is. is) safe.number refl (λ s. (not_twice, safe.once)) was_handed safe
  where
    was_handed : (q s l : ℕ) → WasHanded (site_after w (Performs h)) q s l → WasHanded w q s l
    was_handed q s l (inl one) = inl one
    was_handed q s l (inr (inl is)) = inl (subst (IsOneOf w.alive) is alive)
    was_handed q s l (inr (inr one)) = inr one

    same_handing : (g : Handing) → g.line ≡ h.line → (g.worker ≡ h.worker) × (g.serial ≡ h.serial) → g ≡ h
    same_handing g line both = of_parts g.worker h.worker g.serial h.serial g.line h.line both.0 both.1 line
      where
        handing : ℕ → ℕ → ℕ → Handing
        handing p s l = record { worker = p; serial = s; line = l }

        of_parts : (a b c d e f : ℕ) → a ≡ b → c ≡ d → e ≡ f → handing a c e ≡ handing b d f
        of_parts a b c d e f ab cd ef = ap (λ k. handing k c e) ab ∙ ap (λ k. handing b k e) cd ∙ ap (λ k. handing b d k) ef

    -- an attempt at the same line was performed before
    not_twice : IsOneOf (map (λ h. h.line) w.performed) h.line → ⊥
    not_twice one =
        let before = of_lines w.performed h.line one in
        let g = before.0 in
        let g_done : WasHanded w g.worker g.serial h.line = subst (λ (k : ℕ). IsOneOf w.alive (record { worker = g.worker; serial = g.serial; line = k }) ⊎ IsOneOf w.performed (record { worker = g.worker; serial = g.serial; line = k })) before.2 (inr before.1) in
        let h_out : WasHanded w h.worker h.serial h.line = inl alive in
        let differ : (g.worker ≡ h.worker) × (g.serial ≡ h.serial) → ⊥ = λ both. fresh (subst (IsOneOf w.performed) (same_handing g before.2 both) before.1) in
        ⊎_elim
        (λ opened. safe.over_handed g.worker g.serial h.line opened g_done)
        (λ opened. safe.over_handed h.worker h.serial h.line opened h_out)
        (safe.apart g.worker g.serial h.worker h.serial h.line differ
        (inl (g_done, safe.handed_number h.worker h.serial h.line h_out))
        (inl (h_out, safe.handed_number g.worker g.serial h.line g_done)))

opens : (n : ℕ) (w : Site) (a : Attempt) → IsOver w a → IsSafe n w → IsSafe n (site_after w (Opens a))
opens n w a over safe = record {
  handed_line = safe.handed_line;
  handed_number = safe.handed_number;
  held_line = safe.held_line;
  number = safe.number;
  fresh = safe.fresh;
  over_handed = λ p s l opened was. ⊎_elim (λ is. not_handed p s l is was) (λ old. safe.over_handed p s l old was) opened;
  over_held = λ p s l seen opened at. ⊎_elim
      (λ is. over.not_held l seen (ap w.stage (ap (λ (b : Attempt). b.worker) is) ∙ at ∙ ap (λ (k : ℕ). Clearing k l seen) (sym (ap (λ (b : Attempt). b.serial) is))))
      (λ old. safe.over_held p s l seen old at)
      opened;
  over_kept = λ p s opened. ⊎_elim
      (λ is. (over.kept.0, sym (ap (λ (b : Attempt). line_of (w.kept b.worker) b.serial) is) ∙ over.kept.1))
      (λ old. safe.over_kept p s old)
      opened;
  apart = λ p s q t l differ one two. ⊎_elim (λ is. inl (inr is)) (λ is. inr (inr is)) (safe.apart p s q t l differ one two);
  once = safe.once;
}
  where
    not_handed : (p s l : ℕ) → a ≡ record { worker = p; serial = s } → WasHanded w p s l → ⊥
    not_handed p s l is was =
        let worker : p ≡ a.worker = sym (ap (λ (b : Attempt). b.worker) is) in
        let serial : s ≡ a.serial = sym (ap (λ (b : Attempt). b.serial) is) in
        ⊎_elim
        (λ alive. over.not_alive (record { worker = p; serial = s; line = l }) alive (worker, serial))
        (λ done. over.not_performed (record { worker = p; serial = s; line = l }) done (worker, serial))
        was

-- ---- a run

safe_after : (n : ℕ) (w : Site) (e : Event) → MayFollow Clearance n w e → IsSafe n w → IsSafe n (site_after w e)
safe_after n w (Dies p) may safe = dies n w p safe
safe_after n w (Begins p) may safe = begins n w p may.1 safe
safe_after n w (Lands p line) may safe = lands n w p line safe
safe_after n w (Wants p line) may safe = let no : Clearance ≡ EarlyClearance = may.0 in absurd (cc no)
safe_after n w (Intends p line) may safe = intends n w p line may safe
safe_after n w (Looks p q) may safe = looks n w p q may.0 may.1 may.2 may.3 may.4 safe
safe_after n w (HandsOver p) may safe = hands_over n w p may.0 may.1 may.2 may.3 may.4 safe
safe_after n w (Performs h) may safe = performs n w h may.0 may.1 safe
safe_after n w (Ends i) may safe = ends n w i safe
safe_after n w (Opens a) may safe = opens n w a may safe

first_safe : (n : ℕ) → IsSafe n first_site
first_safe n = record {
  handed_line = λ p s l was. ⊎_elim (λ none. absurd none) (λ none. absurd none) was;
  handed_number = λ p s l was. ⊎_elim (λ none. absurd none) (λ none. absurd none) was;
  held_line = λ p s l seen is. absurd (cc is);
  number = λ p here. absurd (here refl);
  fresh = λ p s l k seen is was. absurd (cc is);
  over_handed = λ p s l opened was. opened;
  over_held = λ p s l seen opened at. opened;
  over_kept = λ p s opened. absurd opened;
  apart = λ p s q t l differ one two. ⊎_elim
      (λ was. ⊎_elim (λ none. absurd none) (λ none. absurd none) was.0)
      (λ held. let is = held.1 in absurd (cc is))
      one;
  once = tt;
}

safe_from : (n : ℕ) (w : Site) (es : List Event) → IsRunFrom Clearance n w es → IsSafe n w → IsSafe n (site_from w es)
safe_from n w [] run safe = safe
safe_from n w (e ∷ es) run safe = safe_from n (site_after w e) es run.1 (safe_after n w e run.0 safe)

pub performed_once : (n : ℕ) (es : List Event) → IsRun Clearance n es → AreDistinct (map (λ h. h.line) (site_of es).performed)
performed_once n es run = (safe_from n first_site es run (first_safe n)).once
