-- Whether a line is clear, by a test.
use Rattle.std.proofs.Common.{◌≡◌, ◌≢◌, inl, inr, ⊎_elim, ◌⊎◌, ℕ, zero, suc, ◌+◌, ◌-◌, Bool, true, false, ◌&&◌, ◌||◌, List, [], ◌∷◌, Option, Some, None, refl, sym, ap, subst, arith}
use Rattle.std.specs.Prelude.{slice_get, ◌==◌, not, is_none, IfNone, IfSome}
use Rattle.std.proofs.lemmas.Bool.{and_parts, cases_eq, eq-eqb}
use Rattle.amo_run_log.specs.declared.clearance.AttemptId.{AttemptId}
use Rattle.amo_run_log.specs.declared.finding.Finding.{Finding}
use Rattle.amo_run_log.specs.declared.journal.Attempt.{Attempt}
use Rattle.amo_run_log.specs.Clearance.{stands_against, any_stands, stands_in, is_clear, IsClear, IsOpened, IsOther, IsStanding}
use Rattle.amo_run_log.specs.Findings.{is_undone}
use Rattle.amo_run_log.specs.Open.{closes, reopens}
use Rattle.amo_run_log.proofs.OpenLaws.{is_equal}

not_so : (b : Bool) → (b ≡ true → ⊥) → b ≡ false
not_so true never = absurd (never refl)
not_so false never = refl

not_true : (b : Bool) → not b ≡ true → b ≡ false
not_true true h = cc
not_true false h = refl

neither : (a b : Bool) → (a || b) ≡ false → (a ≡ true) ⊎ (b ≡ true) → ⊥
neither true b isnt either = cc
neither false b isnt either = ⊎_elim (λ has. cc) (λ has. cc) either

module _ (findings : List Finding) (own : AttemptId) (line : ℕ) where
  is_other : (worker serial : ℕ) → ((worker == own.worker) && (serial == own.serial)) ≡ false → IsOther own worker serial
  is_other worker serial isnt = ⊎_elim
      (λ (w : worker ≡ own.worker). ⊎_elim
      (λ (s : serial ≡ own.serial). absurd (both (worker == own.worker) (serial == own.serial) (eq-eqb worker own.worker w) (eq-eqb serial own.serial s) isnt))
      (λ (s : serial ≢ own.serial). inr s)
      (cases_eq serial own.serial))
      (λ (w : worker ≢ own.worker). inl w)
      (cases_eq worker own.worker)
    where
      both : (a b : Bool) → a ≡ true → b ≡ true → (a && b) ≡ false → ⊥
      both true true has too isnt = cc
      both true false has too isnt = cc
      both false b has too isnt = cc

  own_false : (worker serial : ℕ) → IsOther own worker serial → ((worker == own.worker) && (serial == own.serial)) ≡ false
  own_false worker serial other = not_so _ (λ has.
      let parts = and_parts (worker == own.worker) (serial == own.serial) has in
      ⊎_elim (λ (w : worker ≢ own.worker). w (is_equal worker own.worker parts.0)) (λ (s : serial ≢ own.serial). s (is_equal serial own.serial parts.1)) other)

  clear_one : (worker serial : ℕ) (e : Attempt) → (e.line ≡ line → IsOther own worker serial → IsOpened findings worker serial e) → stands_against findings own line worker serial e ≡ false
  clear_one worker serial e opened = not_so _ (λ has.
      let parts = and_parts (closes findings worker serial e line) (not ((worker == own.worker) && (serial == own.serial))) has in
      let closed = and_parts (e.line == line) (not (reopens e.answer || is_undone findings worker serial)) parts.0 in
      neither (reopens e.answer) (is_undone findings worker serial) (not_true _ closed.1)
      (opened (is_equal e.line line closed.0) (is_other worker serial (not_true _ parts.1))))

  stands_one : (worker serial : ℕ) (e : Attempt) → e.line ≡ line → IsOther own worker serial → (IsOpened findings worker serial e → ⊥) → stands_against findings own line worker serial e ≡ true
  stands_one worker serial e at other closed =
      all (e.line == line) (reopens e.answer) (is_undone findings worker serial) ((worker == own.worker) && (serial == own.serial)) (eq-eqb e.line line at)
      (not_so _ (λ has. closed (inl has))) (not_so _ (λ has. closed (inr has))) (own_false worker serial other)
    where
      all : (l r u o : Bool) → l ≡ true → r ≡ false → u ≡ false → o ≡ false → ((l && not (r || u)) && not o) ≡ true
      all true false false false a b c d = refl
      all false r u o a b c d = absurd (cc)
      all true true u o a b c d = absurd (cc)
      all true false true o a b c d = absurd (cc)
      all true false false true a b c d = absurd (cc)

  or_false : (a b : Bool) → a ≡ false → b ≡ false → (a || b) ≡ false
  or_false true b isnt none = cc
  or_false false b isnt none = none

  or_left : (a b : Bool) → a ≡ true → (a || b) ≡ true
  or_left true b has = refl
  or_left false b has = absurd (cc)

  or_right : (a b : Bool) → b ≡ true → (a || b) ≡ true
  or_right true b has = refl
  or_right false b has = has

  -- in one journal, from this serial number on
  clear_journal : (worker serial : ℕ) (es : List Attempt)
      → ((i : ℕ) (e : Attempt) → slice_get es i ≡ Some e → e.line ≡ line → IsOther own worker (serial + i) → IsOpened findings worker (serial + i) e)
      → any_stands findings own line worker serial es ≡ false
  clear_journal worker serial [] opened = refl
  clear_journal worker serial (e ∷ es) opened = or_false _ _
      (clear_one worker serial e (λ at other.
      let here : serial + 0 ≡ serial = omega arith in
      subst (λ (s : ℕ). IsOpened findings worker s e) here (opened 0 e refl at (subst (IsOther own worker) (sym here) other))))
      (clear_journal worker (serial + 1) es (λ i f is at other.
      let there : serial + suc i ≡ (serial + 1) + i = omega arith in
      subst (λ (s : ℕ). IsOpened findings worker s f) there (opened (suc i) f is at (subst (IsOther own worker) (sym there) other))))

  stands_journal : (worker serial : ℕ) (es : List Attempt) (i : ℕ) (e : Attempt) → slice_get es i ≡ Some e → e.line ≡ line → IsOther own worker (serial + i)
      → (IsOpened findings worker (serial + i) e → ⊥) → any_stands findings own line worker serial es ≡ true
  stands_journal worker serial [] i e is at other closed = absurd (cc)
  stands_journal worker serial (x ∷ es) zero e is at other closed =
      let same : x ≡ e = cc in
      let here : serial + 0 ≡ serial = omega arith in
      or_left _ _ (subst (λ (y : Attempt). stands_against findings own line worker serial y ≡ true) (sym same)
      (stands_one worker serial e at (subst (IsOther own worker) here other) (λ opened. closed (subst (λ (s : ℕ). IsOpened findings worker s e) (sym here) opened))))
  stands_journal worker serial (x ∷ es) (suc i) e is at other closed =
      let there : serial + suc i ≡ (serial + 1) + i = omega arith in
      or_right _ _ (stands_journal worker (serial + 1) es i e is at (subst (IsOther own worker) there other) (λ opened. closed (subst (λ (s : ℕ). IsOpened findings worker s e) (sym there) opened)))

  -- in these journals, from this worker on
  clear_journals : (worker : ℕ) (journals : List (List Attempt))
      → ((k i : ℕ) (es : List Attempt) (e : Attempt) → slice_get journals k ≡ Some es → slice_get es i ≡ Some e → e.line ≡ line → IsOther own (worker + k) (1 + i) → IsOpened findings (worker + k) (1 + i) e)
      → stands_in findings own line worker journals ≡ false
  clear_journals worker [] opened = refl
  clear_journals worker (es ∷ journals) opened = or_false _ _
      (clear_journal worker 1 es (λ i e is at other.
      let here : worker + 0 ≡ worker = omega arith in
      subst (λ (w : ℕ). IsOpened findings w (1 + i) e) here (opened 0 i es e refl is at (subst (λ (w : ℕ). IsOther own w (1 + i)) (sym here) other))))
      (clear_journals (worker + 1) journals (λ k i fs f there is at other.
      let same : worker + suc k ≡ (worker + 1) + k = omega arith in
      subst (λ (w : ℕ). IsOpened findings w (1 + i) f) same (opened (suc k) i fs f there is at (subst (λ (w : ℕ). IsOther own w (1 + i)) (sym same) other))))

  stands_journals : (worker : ℕ) (journals : List (List Attempt)) (k i : ℕ) (es : List Attempt) (e : Attempt) → slice_get journals k ≡ Some es → slice_get es i ≡ Some e → e.line ≡ line
      → IsOther own (worker + k) (1 + i) → (IsOpened findings (worker + k) (1 + i) e → ⊥) → stands_in findings own line worker journals ≡ true
  stands_journals worker [] k i es e there is at other closed = absurd (cc)
  stands_journals worker (xs ∷ journals) zero i es e there is at other closed =
      let same : xs ≡ es = cc in
      let here : worker + 0 ≡ worker = omega arith in
      or_left _ _ (subst (λ (ys : List Attempt). any_stands findings own line worker 1 ys ≡ true) (sym same)
      (stands_journal worker 1 es i e is at (subst (λ (w : ℕ). IsOther own w (1 + i)) here other) (λ opened. closed (subst (λ (w : ℕ). IsOpened findings w (1 + i) e) (sym here) opened))))
  stands_journals worker (xs ∷ journals) (suc k) i es e there is at other closed =
      let same : worker + suc k ≡ (worker + 1) + k = omega arith in
      or_right _ _ (stands_journals (worker + 1) journals k i es e there is at (subst (λ (w : ℕ). IsOther own w (1 + i)) same other) (λ opened. closed (subst (λ (w : ℕ). IsOpened findings w (1 + i) e) (sym same) opened)))

  -- the test agrees with what was found
  pub clear_exactly : (journals : List (List Attempt)) (found : Option AttemptId) → IfNone found (IsClear findings journals own line) → IfSome found (IsStanding findings journals own line)
      → is_none found ≡ is_clear findings journals own line
  clear_exactly journals None clear standing = sym (ap not (clear_journals 1 journals (λ k i es e there is at other.
      clear (1 + k) (1 + i) e (omega arith, omega arith, es, subst (λ (n : ℕ). slice_get journals n ≡ Some es) (minus k) there, subst (λ (n : ℕ). slice_get es n ≡ Some e) (minus i) is, at) other)))
    where
      minus : (n : ℕ) → n ≡ (1 + n) - 1
      minus n = omega arith
  clear_exactly journals (Some other) clear standing =
      let e = standing.0 in
      let a = standing.1 in
      let w : 1 + (other.worker - 1) ≡ other.worker = omega (arith, a.0) in
      let s : 1 + (other.serial - 1) ≡ other.serial = omega (arith, a.1) in
      sym (ap not (stands_journals 1 journals (other.worker - 1) (other.serial - 1) a.2 e a.3 a.4 a.5
      (subst (λ (x : ℕ). IsOther own x (1 + (other.serial - 1))) (sym w) (subst (λ (y : ℕ). IsOther own other.worker y) (sym s) standing.2))
      (λ opened. standing.3 (subst (λ (x : ℕ). IsOpened findings x other.serial e) w (subst (λ (y : ℕ). IsOpened findings (1 + (other.worker - 1)) y e) s opened)))))
