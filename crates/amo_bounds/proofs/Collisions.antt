-- In a circle nobody announces, and so nobody takes a turn: whoever announces a job was turned away
-- from it by another that announces it too.
use Rattle.std.proofs.Common.{◌≡◌, ◌⊎◌, inl, inr, ⊎_elim, ℕ, zero, suc, ◌+◌, ◌-◌, ◌<◌, ◌≤◌, true, false, refl, sym, ap, ◌∙◌, subst, arith}
use Rattle.std.proofs.lemmas.Bool.{cases_eq, true≢false, false_from_ne_true}
use Rattle.amo_sets.specs.Sets.{has}
use Rattle.amo_params.specs.Givens.{IsWorker, IsOther}
use Rattle.amo_kk.specs.Choice.{record_after_check}
use Rattle.amo_kk.specs.Step.{with_announced}
use Rattle.amo_params.specs.declared.givens.Givens.{Givens}
use Rattle.amo_kk.specs.declared.phase.Phase.{Phase}
use Rattle.amo_kk.specs.declared.phase.Phase.TheVariants.{Announcing, Trying, Reading, Claiming}
use Rattle.amo_kk.specs.declared.model.Record.{Record}
use Rattle.amo_kk.specs.declared.model.Process.{Process}
use Rattle.amo_kk.proofs.Choice.{choice_cases, check_cases}
use Rattle.amo_kk.proofs.Kept.{others_room, others_next, noted_cases}
use Rattle.amo_kk.proofs.OwnTurns.{left_from}
use Rattle.amo_bounds.proofs.Turns.{check_passes}
use Rattle.amo_bounds.proofs.Still.{still}
use Rattle.amo_bounds.proofs.Circle.{Circle, Turns, one_step, around, turn_cases, done_first, Stores, stored, stored_or_same, Constant}
use Rattle.amo_bounds.proofs.Choosers.{IsChoice, chooser, storer_high, chose}

module _ {g : Givens} (c : Circle g) where
  -- whoever stores at all has stored what it announces later
  has_stored : (o t j : ℕ) → Stores c t o j → (k : ℕ) → (u : ℕ) × Stores c u o (c.at (suc t + k) o).next
  has_stored o t j s zero = (t, subst (λ y. Stores c t o y) (sym (ap (λ u. (c.at u o).next) (omega arith) ∙ stored c t o j s)) s)
  has_stored o t j s (suc k) = ⊎_elim
      (λ (new : (i : ℕ) × Stores c (suc t + k) o i). (suc t + k, subst (λ y. Stores c (suc t + k) o y) (sym (stored c (suc t + k) o new.0 new.1) ∙ ap (λ u. (c.at u o).next) (omega arith)) new.1))
      (λ same. let was = has_stored o t j s k in (was.0, subst (λ y. Stores c was.0 o y) (sym same ∙ ap (λ u. (c.at u o).next) (omega arith)) was.1))
      (stored_or_same c (suc t + k) o)

  -- a moment after k at which q is as at t
  again : (t q k : ℕ) → (u : ℕ) × (k ≤ u) × (c.at u q ≡ c.at t q)
  again t q zero = (t, omega arith, refl)
  again t q (suc k) = let r = again t q k in let l = r.1 in (r.0 + suc c.before, omega arith, c.period r.0 q ∙ r.2)

module _ {g : Givens} (c : Circle g) (x : ℕ) (none_below : (y : ℕ) → y < x → (t p : ℕ) → Stores c t p y → ⊥) where
  -- another one announces x at some time
  abbrev IsSeenBy : ℕ → Type 0
  IsSeenBy p = (o : ℕ) × IsOther g p o × ((t : ℕ) × ((c.at t o).next ≡ x))

  -- the attempt on x goes on, or passed, and x was not seen announced
  abbrev GoesOn : Record → Phase → Type 0
  GoesOn r (Trying j q) = (j ≡ x) × (has r.tried x ≡ false)
  GoesOn r (Reading j q) = (j ≡ x) × (has r.tried x ≡ false)
  GoesOn r (Claiming j) = Unit {0}
  GoesOn r phase = ⊥

  -- so it is, or its announcement is about to be stored
  abbrev GoesIn : Record → Phase → Type 0
  GoesIn r (Announcing j) = j ≡ x
  GoesIn r phase = GoesOn r phase

  goes_in : (r : Record) (phase : Phase) → GoesOn r phase → GoesIn r phase
  goes_in r (Announcing j) h = absurd h
  goes_in r phase h = h

  module _ (p : ℕ) (choice : IsChoice c x none_below p) where
    abbrev IsSeenOr : Record → Type 0
    IsSeenOr r = IsSeenBy p ⊎ GoesOn r r.phase

    unknown : (t : ℕ) → has (c.at t p).local.known x ≡ false
    unknown t = false_from_ne_true (has (c.at t p).local.known x) (λ h. true≢false (sym (choice.knows x (done_first c t x ((c.law t).known p x choice.worker h))) ∙ choice.unknown))

    passes : (t j : ℕ) → j ≡ x → has (c.at t p).local.tried x ≡ false → IsSeenOr (still (record_after_check g p j (c.at t p).local))
    passes t j e none = inr (subst (λ k. GoesOn (still (record_after_check g p k (c.at t p).local)) (still (record_after_check g p k (c.at t p).local)).phase) (sym e)
        (subst (λ y. GoesOn (still y) (still y).phase) (sym (check_passes g p x (c.at t p).local (unknown t) none)) tt))

    seen_turn : (t : ℕ) → Turns c t p → GoesIn (c.at t p).local (c.at t p).local.phase → IsSeenOr (c.at (suc t) p).local
    seen_turn t turn on = turn_cases c t p turn IsSeenOr
        (λ j is none. let e : j ≡ x = subst (λ y. GoesIn (c.at t p).local y) is on in inr (e, ap (λ l. has l x) none))
        (λ j is none alone. let e : j ≡ x = subst (λ y. GoesIn (c.at t p).local y) is on in passes t j e (ap (λ l. has l x) none))
        (λ j q is other in_range. let h : (j ≡ x) × (has (c.at t p).local.tried x ≡ false) = subst (λ y. GoesIn (c.at t p).local y) is on in noted t q other (λ none. (h.0, none)) h.1)
        (λ j q is other above. let h : (j ≡ x) × (has (c.at t p).local.tried x ≡ false) = subst (λ y. GoesIn (c.at t p).local y) is on in noted t q other (λ none. (h.0, none)) h.1)
        (λ j q is other all in_range. let h : (j ≡ x) × (has (c.at t p).local.tried x ≡ false) = subst (λ y. GoesIn (c.at t p).local y) is on in inr h)
        (λ j q is other all above. let h : (j ≡ x) × (has (c.at t p).local.tried x ≡ false) = subst (λ y. GoesIn (c.at t p).local y) is on in passes t j h.0 h.1)
      where
        noted : {G : Type 0} (t q : ℕ) → IsOther g p q → (has (with_announced (c.at t q).next (c.at t p).local.tried) x ≡ false → G) → has (c.at t p).local.tried x ≡ false → IsSeenBy p ⊎ G
        noted t q other follow none = ⊎_elim
            (λ (e : (c.at t q).next ≡ x). inl (q, other, (t, e)))
            (λ n. inr (follow (false_from_ne_true (has (with_announced (c.at t q).next (c.at t p).local.tried) x)
            (λ h. ⊎_elim (λ (new : (1 ≤ (c.at t q).next) × ((c.at t q).next ≡ x)). n new.1) (λ old. true≢false (sym old ∙ none)) (noted_cases (c.at t q).next x (c.at t p).local.tried h)))))
            (cases_eq (c.at t q).next x)

    seen_step : (t : ℕ) → IsSeenOr (c.at t p).local → IsSeenOr (c.at (suc t) p).local
    seen_step t = one_step c (λ a b. IsSeenOr a.local → IsSeenOr b.local) t p (λ a h. h)
        (λ turn h. ⊎_elim (λ s. inl s) (λ on. seen_turn t turn (goes_in (c.at t p).local (c.at t p).local.phase on)) h)

    -- since p stores x again, it has seen x announced
    sees : (t : ℕ) → Stores c t p x → IsSeenBy p
    sees t s =
        let first : IsSeenOr (c.at (suc t) p).local = seen_turn t s.turn (subst (λ y. GoesIn (c.at t p).local y) (sym s.phase) refl) in
        let back = around c (λ y. IsSeenOr y.local) p t seen_step first in
        ⊎_elim (λ h. h) (λ (h : GoesOn (c.at t p).local (c.at t p).local.phase). absurd (subst (λ y. GoesOn (c.at t p).local y) s.phase h)) back

  -- so nobody stores x
  none_stores : (t p : ℕ) → Stores c t p x → ⊥
  none_stores t p s =
      let choice = chose c x none_below p s.turn.worker (storer_high c x none_below t p s) t s in
      let seen = sees p choice t s in
      let o = seen.0 in
      let other = seen.1 in
      let never : (u j : ℕ) → Stores c u o j → ⊥ = λ u j m.
      let r = again c seen.2.0 o (suc u) in
      let l = r.1 in
      let was = has_stored c o u j m (r.0 - suc u) in
      let mine : Stores c was.0 o x = subst (λ y. Stores c was.0 o y) (ap (λ v. (c.at v o).next) (omega arith) ∙ ap (λ (y : Process). y.next) r.2 ∙ seen.2.1) was.1 in
      other.differs (chooser c x none_below o p (chose c x none_below o mine.turn.worker (storer_high c x none_below was.0 o mine) was.0 mine) choice) in
      let constant : Constant c o = still_there o never in
      let there : (c.at 0 o).next ≡ x = sym (constant seen.2.0) ∙ seen.2.1 in
      let low = choice.job.low in
      true≢false (sym (subst (λ y. has choice.r.tried y ≡ true) there (choice.tried.seen o other (let m = other.worker.high in omega arith) constant (omega arith))) ∙ choice.untried)
    where
      still_there : (o : ℕ) → ((u j : ℕ) → Stores c u o j → ⊥) → Constant c o
      still_there o never zero = refl
      still_there o never (suc u) = ⊎_elim (λ (m : (j : ℕ) × Stores c u o j). absurd (never u m.0 m.1)) (λ e. e ∙ still_there o never u) (stored_or_same c u o)

module _ {g : Givens} (c : Circle g) where
  -- and so nobody stores any announcement
  nothing_stored : (x : ℕ) → (y : ℕ) → y < x → (t p : ℕ) → Stores c t p y → ⊥
  nothing_stored zero y l t p s = absurd (omega arith)
  nothing_stored (suc x) y l t p s = ⊎_elim
      (λ (e : y ≡ x). none_stores c x (nothing_stored x) t p (subst (λ k. Stores c t p k) e s))
      (λ n. nothing_stored x y (omega arith) t p s)
      (cases_eq y x)

  -- turns left until the check
  abbrev togo : ℕ → Phase → ℕ
  togo p (Trying j q) = 2 + (left_from g p q + (g.workers - 1))
  togo p (Reading j q) = 2 + left_from g p q
  togo p phase = 0

  -- after a check none are left
  checked : (p j : ℕ) (r : Record) → togo p (still (record_after_check g p j r)).phase ≡ 0
  checked p j r = check_cases g p j r (λ y. togo p (still y).phase ≡ 0) (λ _ _. refl) (choice_cases g p r (λ y. togo p (still y).phase ≡ 0) (λ _. refl) (λ _. refl))

  nearer : (t p : ℕ) → Turns c t p → togo p (c.at (suc t) p).local.phase < togo p (c.at t p).local.phase
  nearer t p turn = turn_cases c t p turn (λ y. togo p y.phase < togo p (c.at t p).local.phase)
      (λ j is none. absurd (nothing_stored (suc j) j (omega arith) t p (record { turn = turn; phase = is })))
      (λ j is none alone. absurd (nothing_stored (suc j) j (omega arith) t p (record { turn = turn; phase = is })))
      (λ j q is other in_range. let now = ap (togo p) is in let room = others_room p q g.workers o.low o.high other.worker.low other.worker.high other.differs in let more = others_next p q o.low other.worker.low other.differs in omega arith)
      (λ j q is other above. let now = ap (togo p) is in let room = others_room p q g.workers o.low o.high other.worker.low other.worker.high other.differs in omega arith)
      (λ j q is other all in_range. let now = ap (togo p) is in let room = others_room p q g.workers o.low o.high other.worker.low other.worker.high other.differs in let more = others_next p q o.low other.worker.low other.differs in omega arith)
      (λ j q is other all above. let now = ap (togo p) is in let none = checked p j (c.at t p).local in omega arith)
    where
      o : IsWorker g p
      o = turn.worker

  -- nobody takes a turn in a circle
  pub none_turns : (t p : ℕ) → Turns c t p → ⊥
  none_turns t p turn =
      let less = nearer t p turn in
      let back = around c (λ a. togo p a.local.phase ≤ togo p (c.at (suc t) p).local.phase) p t (λ u h. let step = up u in omega arith) (omega arith) in
      omega arith
    where
      up : (u : ℕ) → togo p (c.at (suc u) p).local.phase ≤ togo p (c.at u p).local.phase
      up u = one_step c (λ a b. togo p b.local.phase ≤ togo p a.local.phase) u p (λ a. omega arith) (λ turn. let less = nearer u p turn in omega arith)
