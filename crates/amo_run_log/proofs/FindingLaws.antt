-- A finding more closes no line.
use Rattle.std.proofs.Common.{◌≡◌, ℕ, ◌+◌, Bool, true, false, ◌&&◌, ◌||◌, List, [], ◌∷◌, ◌++◌, refl, ap}
use Rattle.std.specs.Prelude.{not, ◌==◌}
use Rattle.amo_run_log.specs.declared.finding.Finding.{Finding}
use Rattle.amo_run_log.specs.declared.journal.Attempt.{Attempt}
use Rattle.amo_run_log.specs.Findings.{is_of, is_not_done, is_undone}
use Rattle.amo_run_log.specs.Open.{reopens, closes, any_closes, closed_by, is_open}

or_first : (a b : Bool) → a ≡ true → (a || b) ≡ true
or_first a b h = ap (λ x. x || b) h

still : (a b c : Bool) → (b ≡ true → c ≡ true) → (a || b) ≡ true → (a || c) ≡ true
still true b c follows h = refl
still false b c follows h = follows h

pub undone_more : (findings more : List Finding) (worker serial : ℕ) → is_undone findings worker serial ≡ true → is_undone (findings ++ more) worker serial ≡ true
undone_more [] more worker serial h = absurd (cc)
undone_more (f ∷ findings) more worker serial h =
    still (is_not_done f.verdict && is_of worker serial f) (is_undone findings worker serial) (is_undone (findings ++ more) worker serial) (undone_more findings more worker serial) h

-- of its parts: of the line, answered so, found not done with fewer and with more findings
fewer : (m r f g : Bool) → (f ≡ true → g ≡ true) → (m && not (r || g)) ≡ true → (m && not (r || f)) ≡ true
fewer false r f g follows h = h
fewer true true f g follows h = h
fewer true false true g follows h = absurd (cc (ap not (follows refl), h))
fewer true false false g follows h = refl

both : (a b c d : Bool) → (b ≡ true → a ≡ true) → (d ≡ true → c ≡ true) → (b || d) ≡ true → (a || c) ≡ true
both true b c d first rest h = refl
both false true c d first rest h = absurd (cc (first refl))
both false false c d first rest h = rest h

module _ (findings more : List Finding) (line : ℕ) where
  closes_less : (worker serial : ℕ) (es : List Attempt) → any_closes (findings ++ more) worker serial es line ≡ true → any_closes findings worker serial es line ≡ true
  closes_less worker serial [] h = h
  closes_less worker serial (e ∷ es) h =
      both (closes findings worker serial e line) (closes (findings ++ more) worker serial e line) (any_closes findings worker (serial + 1) es line) (any_closes (findings ++ more) worker (serial + 1) es line)
      (fewer (e.line == line) (reopens e.answer) (is_undone findings worker serial) (is_undone (findings ++ more) worker serial) (undone_more findings more worker serial))
      (closes_less worker (serial + 1) es) h

  closed_less : (worker : ℕ) (journals : List (List Attempt)) → closed_by (findings ++ more) worker journals line ≡ true → closed_by findings worker journals line ≡ true
  closed_less worker [] h = h
  closed_less worker (es ∷ journals) h =
      both (any_closes findings worker 1 es line) (any_closes (findings ++ more) worker 1 es line) (closed_by findings (worker + 1) journals line) (closed_by (findings ++ more) (worker + 1) journals line)
      (closes_less worker 1 es) (closed_less (worker + 1) journals) h

  pub law_findings : (journals : List (List Attempt)) → is_open findings journals line ≡ true → is_open (findings ++ more) journals line ≡ true
  law_findings journals = contrary (closed_by (findings ++ more) 1 journals line) (closed_by findings 1 journals line) (closed_less 1 journals)
    where
      contrary : (s t : Bool) → (s ≡ true → t ≡ true) → not t ≡ true → not s ≡ true
      contrary true t follows h = absurd (cc (ap not (follows refl), h))
      contrary false t follows h = refl
