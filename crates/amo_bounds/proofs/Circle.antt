-- A circle: moves of workers that come back to the same state, again and again. In a circle nobody
-- claims, performs or learns.
use Rattle.std.proofs.Common.{◌≡◌, ◌⊎◌, inl, inr, ⊎_elim, ℕ, zero, suc, ◌+◌, ◌<◌, ◌≤◌, true, List, [], ◌∷◌, ◌++◌, length, refl, sym, ap, ◌∙◌, subst, arith}
use Rattle.std.proofs.lemmas.Bool.{cases_eq}
use Rattle.std.proofs.lemmas.List.{length_push}
use Rattle.amo_sets.specs.Lists.{numbered, put}
use Rattle.amo_sets.specs.Sets.{has, with_number}
use Rattle.amo_sets.proofs.Numbers.{numbered-put_same, numbered-put_other}
use Rattle.amo_params.specs.Givens.{IsOther, next_other}
use Rattle.amo_kk.specs.Choice.{record_after_choice, record_after_check}
use Rattle.amo_kk.specs.Step.{with_announced}
use Rattle.amo_kk.specs.Lawful.{AreLawful, IsDone}
use Rattle.amo_params.specs.declared.givens.Givens.{Givens}
use Rattle.amo_kk.specs.declared.phase.Phase.{Phase}
use Rattle.amo_kk.specs.declared.phase.Phase.TheVariants.{Announcing, Trying, Reading}
use Rattle.amo_kk.specs.declared.model.Record.{Record}
use Rattle.amo_kk.specs.declared.model.Process.{Process}
use Rattle.amo_kk.proofs.Choice.{choice_cases, check_cases}
use Rattle.amo_bounds.proofs.Turns.{next_after}
use Rattle.amo_bounds.proofs.Still.{still, IsTurnOf}
use Rattle.amo_bounds.proofs.TurnCases.{turn_cases as cases}

-- nothing changes, or somebody takes a turn
abbrev pub IsStep : Givens → (ℕ → Process) → (ℕ → Process) → Type 0
IsStep g a b = ((q : ℕ) → b q ≡ a q) ⊎ ((p : ℕ) × IsTurnOf g a b p)

-- Lawful workers at each moment, the same again after a while, where from each moment to the next
-- at most one takes a turn.
pub record Circle (g : Givens) : Type 0 where
  pub at : ℕ → ℕ → Process
  pub law : (t : ℕ) → AreLawful g (at t)
  -- one less than the period
  pub before : ℕ
  pub period : (t q : ℕ) → at (t + suc before) q ≡ at t q
  pub step : (t : ℕ) → IsStep g (at t) (at (suc t))

-- what a turn does to claims, dones and fronts

-- x has the lists and fronts of r
record IsKept (r x : Record) : Type 0 where
  claimed : x.claimed ≡ r.claimed
  dones : x.dones ≡ r.dones
  fronts : x.fronts ≡ r.fronts

-- no list of r is longer than that of x, and no front further
record Grew (r x : Record) : Type 0 where
  claimed : length r.claimed ≤ length x.claimed
  dones : length r.dones ≤ length x.dones
  fronts : (i : ℕ) → numbered 0 r.fronts i ≤ numbered 0 x.fronts i

kept_grew : (r x : Record) → IsKept r x → Grew r x
kept_grew r x k =
    record {
      claimed = let e = ap length k.claimed in omega arith;
      dones = let e = ap length k.dones in omega arith;
      fronts = λ i. let e = ap (λ l. numbered 0 l i) k.fronts in omega arith;
    }

check_kept : (g : Givens) (p j : ℕ) (r : Record) → IsKept r (still (record_after_check g p j r))
check_kept g p j r = check_cases g p j r (λ x. IsKept r (still x))
    (λ _ _. record { claimed = refl; dones = refl; fronts = refl })
    (choice_cases g p r (λ x. IsKept r (still x)) (λ _. record { claimed = refl; dones = refl; fronts = refl }) (λ _. record { claimed = refl; dones = refl; fronts = refl }))

push_grows : (xs : List ℕ) (j : ℕ) → length xs ≤ length (xs ++ j ∷ [])
push_grows xs j = let e = length_push xs j in omega arith

put_grows : (fronts : List ℕ) (q i : ℕ) → 1 ≤ q → q ≤ length fronts → numbered 0 fronts i ≤ numbered 0 (put fronts q (numbered 0 fronts q + 1)) i
put_grows fronts q i low high = ⊎_elim
    (λ (e : i ≡ q). subst (λ x. numbered 0 fronts x ≤ numbered 0 (put fronts q (numbered 0 fronts q + 1)) x) (sym e) (let s = numbered-put_same 0 (numbered 0 fronts q + 1) fronts q low high in omega arith))
    (λ n. let s = numbered-put_other 0 (numbered 0 fronts q + 1) fronts q i n in omega arith)
    (cases_eq i q)

turn_grows : (g : Givens) (at now : ℕ → Process) (p : ℕ) → AreLawful g at → IsTurnOf g at now p → Grew (at p).local (now p).local
turn_grows g at now p law turn = cases g at now p law turn (Grew r (now p).local)
    (λ j is none first e. kept _ e (record { claimed = refl; dones = refl; fronts = refl }))
    (λ j is none alone e. kept _ e (check_kept g p j r))
    (λ j q is other in_range e. kept _ e (record { claimed = refl; dones = refl; fronts = refl }))
    (λ j q is other above first e. kept _ e (record { claimed = refl; dones = refl; fronts = refl }))
    (λ j q i is other more e. subst (λ x. Grew r x) (sym e) (record { claimed = omega arith; dones = omega arith; fronts = λ k. put_grows r.fronts q k other.worker.low (let w = wide in let h = other.worker.high in omega arith) }))
    (λ j q is other all in_range e. kept _ e (record { claimed = refl; dones = refl; fronts = refl }))
    (λ j q is other all above e. kept _ e (check_kept g p j r))
    (λ j is e. subst (λ x. Grew r x) (sym e) (record { claimed = push_grows r.claimed j; dones = omega arith; fronts = λ i. omega arith }))
    (λ j is e. subst (λ x. Grew r x) (sym e) (choice_cases g p (record r { dones = r.dones ++ j ∷ []; known = with_number j r.known }) (λ x. Grew r (still x))
    (λ _. record { claimed = omega arith; dones = push_grows r.dones j; fronts = λ i. omega arith })
    (λ _. record { claimed = omega arith; dones = push_grows r.dones j; fronts = λ i. omega arith })))
  where
    r : Record
    r = (at p).local

    wide : length (at p).local.fronts ≡ g.workers
    wide = (law.sound p turn.worker).local.fronts

    kept : (x : Record) → (now p).local ≡ x → IsKept (at p).local x → Grew (at p).local (now p).local
    kept x e k = subst (λ y. Grew (at p).local y) (sym e) (kept_grew (at p).local x k)

module _ {g : Givens} (c : Circle g) where
  abbrev pub Turns : ℕ → ℕ → Type 0
  Turns t p = IsTurnOf g (c.at t) (c.at (suc t)) p

  -- to show something of a worker at a moment and the next
  pub one_step : (P : Process → Process → Type 0) (t q : ℕ) → ((a : Process) → P a a) → (Turns t q → P (c.at t q) (c.at (suc t) q)) → P (c.at t q) (c.at (suc t) q)
  one_step P t q same mine = ⊎_elim
      (λ (idle : (q : ℕ) → c.at (suc t) q ≡ c.at t q). subst (λ x. P (c.at t q) x) (sym (idle q)) (same (c.at t q)))
      (λ (turn : (p : ℕ) × Turns t p). ⊎_elim
      (λ (e : q ≡ turn.0). mine (subst (λ x. Turns t x) (sym e) turn.1))
      (λ n. subst (λ x. P (c.at t q) x) (sym (turn.1.others q n)) (same (c.at t q)))
      (cases_eq q turn.0))
      (c.step t)

  -- what is kept from each moment to the next is kept
  later : (Q : ℕ → Type 0) → ((t : ℕ) → Q t → Q (suc t)) → (t k : ℕ) → Q t → Q (t + k)
  later Q s t zero h = subst Q (omega arith) h
  later Q s t (suc k) h = subst Q (omega arith) (s (t + k) (later Q s t k h))

  -- and so it was there before
  pub around : (Q : Process → Type 0) (q t : ℕ) → ((u : ℕ) → Q (c.at u q) → Q (c.at (suc u) q)) → Q (c.at (suc t) q) → Q (c.at t q)
  around Q q t kept h = subst Q (ap (λ u. c.at u q) (omega arith) ∙ c.period t q) (later (λ u. Q (c.at u q)) kept (suc t) c.before h)

  -- what only grows stays as it is
  stays : (f : Process → ℕ) (q t : ℕ) → ((u : ℕ) → f (c.at u q) ≤ f (c.at (suc u) q)) → f (c.at (suc t) q) ≡ f (c.at t q)
  stays f q t grows =
      let up = grows t in
      let down = around (λ a. f (c.at (suc t) q) ≤ f a) q t (λ u h. let more = grows u in omega arith) (omega arith) in
      omega arith

  grows : (t q : ℕ) → Grew (c.at t q).local (c.at (suc t) q).local
  grows t q = one_step (λ a b. Grew a.local b.local) t q (λ a. kept_grew a.local a.local (record { claimed = refl; dones = refl; fronts = refl })) (λ turn. turn_grows g (c.at t) (c.at (suc t)) q (c.law t) turn)

  same_claims : (t q : ℕ) → length (c.at (suc t) q).local.claimed ≡ length (c.at t q).local.claimed
  same_claims t q = stays (λ a. length a.local.claimed) q t (λ u. (grows u q).claimed)

  same_done_count : (t q : ℕ) → length (c.at (suc t) q).local.dones ≡ length (c.at t q).local.dones
  same_done_count t q = stays (λ a. length a.local.dones) q t (λ u. (grows u q).dones)

  same_front : (t q i : ℕ) → numbered 0 (c.at (suc t) q).local.fronts i ≡ numbered 0 (c.at t q).local.fronts i
  same_front t q i = stays (λ a. numbered 0 a.local.fronts i) q t (λ u. (grows u q).fronts i)

  -- so a turn can be six things: who reads a row reads a zero, and nobody claims or performs
  pub turn_cases : (t p : ℕ) → Turns t p → (P : Record → Type 0) → (let r = (c.at t p).local in
      ((j : ℕ) → r.phase ≡ Announcing j → r.tried ≡ [] → P (record r { phase = Trying j (next_other p 0); steps = 0 }))
      → ((j : ℕ) → r.phase ≡ Announcing j → r.tried ≡ [] → ((q : ℕ) → IsOther g p q → ⊥) → P (still (record_after_check g p j r)))
      → ((j q : ℕ) → r.phase ≡ Trying j q → IsOther g p q → next_other p q ≤ g.workers → P (record r { phase = Trying j (next_other p q); tried = with_announced (c.at t q).next r.tried; steps = 0 }))
      → ((j q : ℕ) → r.phase ≡ Trying j q → IsOther g p q → g.workers < next_other p q → P (record r { phase = Reading j (next_other p 0); tried = with_announced (c.at t q).next r.tried; steps = 0 }))
      → ((j q : ℕ) → r.phase ≡ Reading j q → IsOther g p q → length (c.at t q).local.dones ≤ numbered 0 r.fronts q → next_other p q ≤ g.workers → P (record r { phase = Reading j (next_other p q); steps = 0 }))
      → ((j q : ℕ) → r.phase ≡ Reading j q → IsOther g p q → length (c.at t q).local.dones ≤ numbered 0 r.fronts q → g.workers < next_other p q → P (still (record_after_check g p j r)))
      → P (c.at (suc t) p).local)
  turn_cases t p turn P begins alone tries rows reads checks = cases g (c.at t) (c.at (suc t)) p (c.law t) turn (P (c.at (suc t) p).local)
      (λ j is none first e. subst P (sym e) (begins j is none))
      (λ j is none nobody e. subst P (sym e) (alone j is none nobody))
      (λ j q is other in_range e. subst P (sym e) (tries j q is other in_range))
      (λ j q is other above first e. subst P (sym e) (rows j q is other above))
      (λ j q i is other more e. absurd (learns q other (ap (λ (x : Record). numbered 0 x.fronts q) e)))
      (λ j q is other all in_range e. subst P (sym e) (reads j q is other all in_range))
      (λ j q is other all above e. subst P (sym e) (checks j q is other all above))
      (λ j is e. absurd (let same = same_claims t p in let now = ap (λ (x : Record). length x.claimed) e in let more = length_push (c.at t p).local.claimed j in omega arith))
      (λ j is e. absurd (let same = same_done_count t p in let now = ap (λ (x : Record). length x.dones) e ∙ performs j in omega arith))
    where
      r : Record
      r = (c.at t p).local

      learns : (q : ℕ) → IsOther g p q → numbered 0 (c.at (suc t) p).local.fronts q ≡ numbered 0 (put (c.at t p).local.fronts q (numbered 0 (c.at t p).local.fronts q + 1)) q → ⊥
      learns q other now =
          let same = same_front t p q in
          let wide = ((c.law t).sound p turn.worker).local.fronts in
          let more = numbered-put_same 0 (numbered 0 (c.at t p).local.fronts q + 1) (c.at t p).local.fronts q other.worker.low (let h = other.worker.high in omega arith) in
          omega arith

      performs : (j : ℕ) → length (still (record_after_choice g p (record (c.at t p).local { dones = (c.at t p).local.dones ++ j ∷ []; known = with_number j (c.at t p).local.known }))).dones ≡ suc (length (c.at t p).local.dones)
      performs j = choice_cases g p (record (c.at t p).local { dones = (c.at t p).local.dones ++ j ∷ []; known = with_number j (c.at t p).local.known }) (λ x. length (still x).dones ≡ suc (length (c.at t p).local.dones))
          (λ _. let e = length_push (c.at t p).local.dones j in omega arith) (λ _. let e = length_push (c.at t p).local.dones j in omega arith)

  -- what is done stays as it is
  pub dones_are : (t q : ℕ) → (c.at t q).local.dones ≡ (c.at 0 q).local.dones
  dones_are zero q = refl
  dones_are (suc t) q = one_step (λ a b. b.local.dones ≡ a.local.dones) t q (λ a. refl)
      (λ turn. turn_cases t q turn (λ x. x.dones ≡ (c.at t q).local.dones)
      (λ j _ _. refl) (λ j _ _ _. (check_kept g q j (c.at t q).local).dones) (λ _ _ _ _ _. refl) (λ _ _ _ _ _. refl) (λ _ _ _ _ _ _. refl) (λ j _ _ _ _ _. (check_kept g q j (c.at t q).local).dones))
      ∙ dones_are t q

  pub done_first : (t j : ℕ) → IsDone g (c.at t) j → IsDone g (c.at 0) j
  done_first t j d = (d.0, d.1, subst (λ l. has l j ≡ true) (dones_are t d.0) d.2)

  -- at t, p stores the announcement of j
  pub record Stores (t p j : ℕ) : Type 0 where
    pub turn : Turns t p
    pub phase : (c.at t p).local.phase ≡ Announcing j

  pub stored : (t p j : ℕ) → Stores t p j → (c.at (suc t) p).next ≡ j
  stored t p j s = s.turn.next ∙ ap (λ x. next_after x (c.at t p).next) s.phase

  -- an announcement is stored, or stays
  abbrev pub StoredOrSame : ℕ → ℕ → Type 0
  StoredOrSame t q = ((j : ℕ) × Stores t q j) ⊎ ((c.at (suc t) q).next ≡ (c.at t q).next)

  pub stored_or_same : (t q : ℕ) → StoredOrSame t q
  stored_or_same t q = one_step (λ a b. ((j : ℕ) × Stores t q j) ⊎ (b.next ≡ a.next)) t q (λ a. inr refl) (λ turn. go turn (c.at t q).local.phase refl)
    where
      go : Turns t q → (phase : Phase) → (c.at t q).local.phase ≡ phase → StoredOrSame t q
      go turn phase is = by_phase phase is
        where
          kept : (phase : Phase) → (c.at t q).local.phase ≡ phase → next_after phase (c.at t q).next ≡ (c.at t q).next → StoredOrSame t q
          kept phase is h = inr (turn.next ∙ ap (λ x. next_after x (c.at t q).next) is ∙ h)

          by_phase : (phase : Phase) → (c.at t q).local.phase ≡ phase → StoredOrSame t q
          by_phase (Announcing j) is = inl (j, record { turn = turn; phase = is })
          by_phase phase is = kept phase is refl

  -- the announcement of o never changes
  abbrev pub Constant : ℕ → Type 0
  Constant o = (t : ℕ) → (c.at t o).next ≡ (c.at 0 o).next
