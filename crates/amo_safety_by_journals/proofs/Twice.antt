-- Runs in which a line is performed twice, since a rule is left out.
use Rattle.std.proofs.Common.{◌≡◌, ◌⊎◌, ◌≤◌, ◌<◌, inl, inr, ℕ, zero, suc, List, [], ◌∷◌, Some, refl, map, ap, arith}
use Rattle.amo_safety_by_journals.specs.Model.{Attempt, Handing, IsOneOf, Event, Begins, Wants, Intends, Looks, HandsOver, Performs, line_of}
use Rattle.amo_safety_by_journals.specs.Runs.{NoClearance, EarlyClearance, OthersAlone, ButTheLast, PendingOpens, HasSeenAll, IsRun, site_of}

first : Handing
first = record { worker = 1; serial = 1; line = 7 }

second : Handing
second = record { worker = 2; serial = 1; line = 7 }

they_differ : IsOneOf (first ∷ []) second → ⊥
unfolding first second
they_differ (inl is) = let worker : 1 ≡ 2 = ap (λ (h : Handing). h.worker) is in omega (arith, worker)
they_differ (inr none) = none

nothing_there : {A : Type 0} (serial line : ℕ) → line_of [] serial ≡ Some line → A
nothing_there zero line is = absurd (cc is)
nothing_there (suc i) line is = absurd (cc is)

all_three : HasSeenAll 2 (2 ∷ 1 ∷ 0 ∷ [])
all_three zero le = inr (inr (inl refl))
all_three (suc zero) le = inr (inl refl)
all_three (suc (suc zero)) le = inl refl
all_three (suc (suc (suc q))) le = absurd (omega (arith, le))

-- both intend, and hand over
pub without_clearance : (es : List Event) × IsRun NoClearance 2 es × (map (λ h. h.line) (site_of es).performed ≡ 7 ∷ 7 ∷ [])
unfolding first second
without_clearance = (
  Begins 1 ∷ Begins 2 ∷ Intends 1 7 ∷ Intends 2 7 ∷ HandsOver 1 ∷ HandsOver 2 ∷ Performs first ∷ Performs second ∷ [],
  ((refl, omega arith), ((refl, omega arith), (refl, (refl, ((1, 7, [], refl, λ q no. absurd no), ((1, 7, [], refl, λ q no. absurd no), ((inr (inl refl), λ none. none), ((inl refl, they_differ), tt)))))))),
  refl,
)

-- both look while neither has intended
pub before_the_intent : (es : List Event) × IsRun EarlyClearance 2 es × (map (λ h. h.line) (site_of es).performed ≡ 7 ∷ 7 ∷ [])
unfolding first second
before_the_intent = (
  Begins 1 ∷ Begins 2 ∷ Wants 1 7 ∷ Wants 2 7 ∷ Looks 1 0 ∷ Looks 1 1 ∷ Looks 1 2 ∷ Looks 2 0 ∷ Looks 2 1 ∷ Looks 2 2 ∷ Intends 1 7 ∷ Intends 2 7 ∷ HandsOver 1 ∷ HandsOver 2 ∷ Performs first ∷ Performs second ∷ [],
  (
    (refl, omega arith),
    (
      (refl, omega arith),
      (
        (refl, refl),
        (
          (refl, refl),
          (
            (7, [], refl, λ s is. nothing_there s 7 is),
            (
              (7, 0 ∷ [], refl, λ s is. nothing_there s 7 is),
              (
                (7, 1 ∷ 0 ∷ [], refl, λ s is. nothing_there s 7 is),
                (
                  (7, [], refl, λ s is. nothing_there s 7 is),
                  (
                    (7, 0 ∷ [], refl, λ s is. nothing_there s 7 is),
                    (
                      (7, 1 ∷ 0 ∷ [], refl, λ s is. nothing_there s 7 is),
                      (
                        (2 ∷ 1 ∷ 0 ∷ [], refl, all_three),
                        (
                          (2 ∷ 1 ∷ 0 ∷ [], refl, all_three),
                          (
                            (1, 7, [], refl, λ q no. absurd no),
                            (
                              (1, 7, [], refl, λ q no. absurd no),
                              (
                                (inr (inl refl), λ none. none),
                                ((inl refl, they_differ), tt),
                              ),
                            ),
                          ),
                        ),
                      ),
                    ),
                  ),
                ),
              ),
            ),
          ),
        ),
      ),
    ),
  ),
  refl,
)

-- ---- a journal that isn't looked at

again : Handing
again = record { worker = 1; serial = 2; line = 7 }

again_differs : IsOneOf (first ∷ []) again → ⊥
unfolding first again
again_differs (inl is) = let serial : 1 ≡ 2 = ap (λ (h : Handing). h.serial) is in omega (arith, serial)
again_differs (inr none) = none

others : (q : ℕ) → (q ≤ 2) × (q ≡ 1 → ⊥) → IsOneOf (2 ∷ 0 ∷ []) q
others zero both = inr (inl refl)
others (suc zero) both = absurd (both.1 refl)
others (suc (suc zero)) both = inl refl
others (suc (suc (suc q))) both = let le = both.0 in absurd (omega (arith, le))

first_two : (q : ℕ) → q < 2 → IsOneOf (1 ∷ 0 ∷ []) q
first_two zero lt = inr (inl refl)
first_two (suc zero) lt = inl refl
first_two (suc (suc q)) lt = absurd (omega (arith, lt))

-- the only attempt in its own journal is the one itself
attempt : ℕ → ℕ → Attempt
attempt p s = record { worker = p; serial = s }

own_alone : (opened : List Attempt) (serial : ℕ) → line_of (7 ∷ []) serial ≡ Some 7 → (attempt 1 serial ≡ attempt 1 1) ⊎ IsOneOf opened (attempt 1 serial)
own_alone opened zero is = absurd (cc is)
own_alone opened (suc zero) is = inl refl
own_alone opened (suc (suc i)) is = absurd (cc is)

first_again : IsOneOf (second ∷ []) first → ⊥
unfolding first second
first_again (inl is) = let worker : 2 ≡ 1 = ap (λ (h : Handing). h.worker) is in omega (arith, worker)
first_again (inr none) = none

-- a worker attempts a line again, and looks at the others alone
pub without_its_own : (es : List Event) × IsRun OthersAlone 2 es × (map (λ h. h.line) (site_of es).performed ≡ 7 ∷ 7 ∷ [])
unfolding first again
without_its_own = (
  Begins 1 ∷ Intends 1 7 ∷ Looks 1 0 ∷ Looks 1 2 ∷ HandsOver 1 ∷ Intends 1 7 ∷ Looks 1 0 ∷ Looks 1 2 ∷ HandsOver 1 ∷ Performs first ∷ Performs again ∷ [],
  (
    (refl, omega arith),
    (
      refl,
      (
        (1, 7, [], refl, λ s is. nothing_there s 7 is),
        (
          (1, 7, 0 ∷ [], refl, λ s is. nothing_there s 7 is),
          (
            (1, 7, 2 ∷ 0 ∷ [], refl, others),
            (
              refl,
              (
                (2, 7, [], refl, λ s is. nothing_there s 7 is),
                (
                  (2, 7, 0 ∷ [], refl, λ s is. nothing_there s 7 is),
                  (
                    (2, 7, 2 ∷ 0 ∷ [], refl, others),
                    (
                      (inr (inl refl), λ none. none),
                      ((inl refl, again_differs), tt),
                    ),
                  ),
                ),
              ),
            ),
          ),
        ),
      ),
    ),
  ),
  refl,
)

-- neither looks at the second one's journal
pub without_one : (es : List Event) × IsRun ButTheLast 2 es × (map (λ h. h.line) (site_of es).performed ≡ 7 ∷ 7 ∷ [])
unfolding first second attempt
without_one = (
  Begins 1 ∷ Begins 2 ∷ Intends 2 7 ∷ Looks 2 0 ∷ Looks 2 1 ∷ HandsOver 2 ∷ Intends 1 7 ∷ Looks 1 0 ∷ Looks 1 1 ∷ HandsOver 1 ∷ Performs second ∷ Performs first ∷ [],
  (
    (refl, omega arith),
    (
      (refl, omega arith),
      (
        refl,
        (
          (1, 7, [], refl, λ s is. nothing_there s 7 is),
          (
            (1, 7, 0 ∷ [], refl, λ s is. nothing_there s 7 is),
            (
              (1, 7, 1 ∷ 0 ∷ [], refl, first_two),
              (
                refl,
                (
                  (1, 7, [], refl, λ s is. nothing_there s 7 is),
                  (
                    (1, 7, 0 ∷ [], refl, own_alone []),
                    (
                      (1, 7, 1 ∷ 0 ∷ [], refl, first_two),
                      (
                        (inr (inl refl), λ none. none),
                        ((inl refl, first_again), tt),
                      ),
                    ),
                  ),
                ),
              ),
            ),
          ),
        ),
      ),
    ),
  ),
  refl,
)

-- each finds the other's attempt, and takes it as opened
pub if_pending_opens : (es : List Event) × IsRun PendingOpens 2 es × (map (λ h. h.line) (site_of es).performed ≡ 7 ∷ 7 ∷ [])
unfolding first second
if_pending_opens = (
  Begins 1 ∷ Begins 2 ∷ Intends 1 7 ∷ Intends 2 7 ∷ Looks 1 0 ∷ Looks 1 1 ∷ Looks 1 2 ∷ Looks 2 0 ∷ Looks 2 1 ∷ Looks 2 2 ∷ HandsOver 1 ∷ HandsOver 2 ∷ Performs first ∷ Performs second ∷ [],
  (
    (refl, omega arith),
    (
      (refl, omega arith),
      (
        refl,
        (
          refl,
          (
            (1, 7, [], refl),
            (
              (1, 7, 0 ∷ [], refl),
              (
                (1, 7, 1 ∷ 0 ∷ [], refl),
                (
                  (1, 7, [], refl),
                  (
                    (1, 7, 0 ∷ [], refl),
                    (
                      (1, 7, 1 ∷ 0 ∷ [], refl),
                      (
                        (1, 7, 2 ∷ 1 ∷ 0 ∷ [], refl, all_three),
                        (
                          (1, 7, 2 ∷ 1 ∷ 0 ∷ [], refl, all_three),
                          (
                            (inr (inl refl), λ none. none),
                            ((inl refl, they_differ), tt),
                          ),
                        ),
                      ),
                    ),
                  ),
                ),
              ),
            ),
          ),
        ),
      ),
    ),
  ),
  refl,
)
