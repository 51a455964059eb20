-- Turns of a worker alone: one of the next claims or ends, and what the turn in each phase leaves
-- to show for that.
use Rattle.std.proofs.Common.{◌≡◌, ◌≢◌, ◌⊎◌, inl, inr, ⊎_elim, ℕ, zero, suc, ◌+◌, ◌-◌, ◌<◌, ◌≤◌, ◌^◌, min, Bool, true, false, length, get_or, refl, sym, ap, ◌∙◌, subst, arith}
use Rattle.std.specs.Prelude.{if◌then◌else◌, ◌==◌}
use Rattle.std.proofs.lemmas.Bool.{cases_eq, cases_lt, true≢false, or_left, or_right, eq-eqb, ne_eqb}
use Rattle.std.proofs.lemmas.List.{get_or_past}
use Rattle.amo_sets.specs.Lists.{numbered, put}
use Rattle.amo_sets.specs.Sets.{has, with_number}
use Rattle.amo_params.specs.Givens.{AreGivens, IsWorker, IsOther, next_other}
use Rattle.amo_kk.specs.Record.{is_over, wants_nothing}
use Rattle.amo_kk.specs.Choice.{record_after_check}
use Rattle.amo_kk.specs.Step.{want_in, want, with_announced, record_at_row, record_after_phase}
use Rattle.amo_kk.specs.World.{process, loaded_value, world_after_turn}
use Rattle.amo_kk.specs.Alone.{is_claiming, claims_or_ends, world_after_turns, IsFirstToClaimOrEnd, stores_announcement, want_at}
use Rattle.amo_kk.specs.Lawful.{IsLawful}
use Rattle.amo_params.specs.declared.givens.Givens.{Givens}
use Rattle.amo_kk.specs.declared.phase.Phase.{Phase}
use Rattle.amo_kk.specs.declared.phase.Phase.TheVariants.{Announcing, Trying, Reading, Claiming}
use Rattle.amo_kk.specs.declared.model.Record.{Record}
use Rattle.amo_kk.specs.declared.model.Process.{Process}
use Rattle.amo_kk.specs.declared.model.World.{World}
use Rattle.amo_sets.proofs.Numbers.{has-get_or}
use Rattle.amo_kk.proofs.Choice.{to_row_cases, to_announcement_cases}
use Rattle.amo_kk.proofs.Kept.{numbered_next, first_other, done_job}
use Rattle.amo_kk.proofs.OwnTurns.{next_record, own_turn, wants_some, heard, read_of, stored, stored_within, stored_in, stored_in_want, turns_that-suc}
use Rattle.amo_kk.proofs.RowSums.{unread, unread_less}

-- one of the next k turns of p claims a job or ends p, and up to it at most n announcements are
-- stored
abbrev pub ClaimsOrEndsWithin : Givens → ℕ → ℕ → ℕ → World → Type 0
ClaimsOrEndsWithin g p zero n w = ⊥
ClaimsOrEndsWithin g p (suc k) n w = (stored w p ≤ n) × ((claims_or_ends g w p ≡ true) ⊎ ClaimsOrEndsWithin g p k (n - stored w p) (world_after_turn g w p))

-- and so one of them is the first
pub first_of_them : (g : Givens) (p k n : ℕ) (w : World) → ClaimsOrEndsWithin g p k n w → (i : ℕ) × (i < k) × IsFirstToClaimOrEnd g w p i × (stored_within g w p i ≤ n)
first_of_them g p zero n w h = absurd h
first_of_them g p (suc k) n w h = go (claims_or_ends g w p) refl h.1 (first_of_them g p k (n - stored w p) (world_after_turn g w p))
  where
    go : (b : Bool) → claims_or_ends g w p ≡ b → (claims_or_ends g w p ≡ true) ⊎ ClaimsOrEndsWithin g p k (n - stored w p) (world_after_turn g w p)
        → (ClaimsOrEndsWithin g p k (n - stored w p) (world_after_turn g w p) → (i : ℕ) × (i < k) × IsFirstToClaimOrEnd g (world_after_turn g w p) p i × (stored_within g (world_after_turn g w p) p i ≤ n - stored w p))
        → (i : ℕ) × (i < suc k) × IsFirstToClaimOrEnd g w p i × (stored_within g w p i ≤ n)
    go true e s next = (0, omega arith, record { none_before = λ i l. absurd (omega arith); this_one = e }, h.0)
    go false e (inl t) next = absurd (true≢false (sym t ∙ e))
    go false e (inr s) next = (suc (next s).0, suc_less (next s).0 k (next s).1, record { none_before = none; this_one = (next s).2.this_one }, all (next s).0 (next s).3)
      where
        suc_less : (i k : ℕ) → i < k → suc i < suc k
        suc_less i k l = omega arith

        less : (i k : ℕ) → suc i < suc k → i < k
        less i k l = omega arith

        none : (i : ℕ) → i < suc (next s).0 → claims_or_ends g (world_after_turns g w p i) p ≡ false
        none zero l = e
        none (suc i) l = (next s).2.none_before i (less i (next s).0 l)

        all : (i : ℕ) → stored_within g (world_after_turn g w p) p i ≤ n - stored w p → stored_within g w p (suc i) ≤ n
        all i l = let here : stored w p ≤ n = h.0 in let first = turns_that-suc (λ k. stores_announcement (want_at g w p k)) i in omega arith

-- p goes on in the lawful world w, and the others are as at has them
pub record IsLone (g : Givens) (p : ℕ) (at : ℕ → Process) (w : World) : Type 0 where
  pub law : IsLawful g w
  pub here : (process w p).gone ≡ false
  pub same : (q : ℕ) → q ≢ p → process w q ≡ at q

-- x as the record after an event at r, which is counted
abbrev pub stepped : (r x : Record) → Record
stepped r x = record x { steps = min (r.steps + 1) (2 ^ 64 - 1) }

module _ (g : Givens) (ok : AreGivens g) (p : ℕ) (o : IsWorker g p) (at : ℕ → Process) where
  -- in each such world in which p has the record x, p claims or ends within k turns and n stores, where x is not over
  abbrev pub Ready : ℕ → ℕ → Record → Type 0
  Ready k n x = is_over x.phase ≡ false → (w : World) → IsLone g p at w → (process w p).local ≡ x → ClaimsOrEndsWithin g p k n w

  -- a record of which S holds is ready, if S is enough
  pub is_ready : (S : Record → Type 0) (k n : ℕ) (x : Record) → ((w : World) → IsLone g p at w → S (process w p).local → ClaimsOrEndsWithin g p k n w) → S x → Ready k n x
  is_ready S k n x enough holds _ w lone e = enough w lone (subst S (sym e) holds)

  pub turn : (k n : ℕ) (w : World) (phase : Phase) → (process w p).local.phase ≡ phase → stored_in phase ≤ n → IsLone g p at w
      → (let r = (process w p).local in Ready k (n - stored_in phase) (stepped r (record_after_phase g p (loaded_value w (want r)) r phase)) → ClaimsOrEndsWithin g p (suc k) n w)
  turn k n w phase is enough lone ready = (subst (λ x. x ≤ n) (sym paid) enough, go (is_over (next_record g w p).phase) refl)
    where
      r : Record
      r = (process w p).local

      paid : stored w p ≡ stored_in phase
      paid = ap (λ x. if stores_announcement (want_in r x) then 1 else 0) is ∙ stored_in_want r phase

      next : Ready k (n - stored_in phase) (next_record g w p)
      next = subst (λ x. Ready k (n - stored_in phase) (stepped r (record_after_phase g p (loaded_value w (want r)) r x))) (sym is) ready

      go : (b : Bool) → is_over (next_record g w p).phase ≡ b → (claims_or_ends g w p ≡ true) ⊎ ClaimsOrEndsWithin g p k (n - stored w p) (world_after_turn g w p)
      go true e = inl (or_right (is_claiming r.phase) (is_over (next_record g w p).phase) e)
      go false e =
          let t = own_turn g w p lone.law lone.here e in
          inr (subst (λ x. ClaimsOrEndsWithin g p k (n - x) (world_after_turn g w p)) (sym paid) (next e (world_after_turn g w p) (record { law = t.law; here = t.here; same = λ q n. t.others q n ∙ lone.same q n }) t.local))

  -- the announcement is stored
  pub announces : (k n i : ℕ) (w : World) → (process w p).local.phase ≡ Announcing i → 1 ≤ n → IsLone g p at w
      → (let r = (process w p).local in
      Ready k (n - 1) (stepped r (record r { phase = Trying i (next_other p 0) }))
      → (g.workers < next_other p 0 → Ready k (n - 1) (stepped r (record_after_check g p i r)))
      → ClaimsOrEndsWithin g p (suc k) n w)
  announces k n i w is enough lone tries checks =
      let r = (process w p).local in
      turn k n w (Announcing i) is enough lone (to_announcement_cases g p i (next_other p 0) r (λ x. Ready k (n - 1) (stepped r x))
      (λ _. tries)
      (λ above. to_row_cases g p i (next_other p 0) r (λ x. Ready k (n - 1) (stepped r x)) (λ within. absurd (omega arith)) checks))

  -- the announcement of q is read: so there is another, and a first one
  pub hears : (k n i q : ℕ) (w : World) → (process w p).local.phase ≡ Trying i q → IsLone g p at w
      → (let r = (process w p).local in
      let x = record r { tried = with_announced (loaded_value w (want r)) r.tried } in
      Ready k (n - 0) (stepped r (record x { phase = Trying i (next_other p q) }))
      → (g.workers < next_other p q → Ready k (n - 0) (stepped r (record x { phase = Reading i (next_other p 0) })))
      → ClaimsOrEndsWithin g p (suc k) n w)
  hears k n i q w is lone tries reads =
      let r = (process w p).local in
      let x = record r { tried = with_announced (loaded_value w (want r)) r.tried } in
      let first = (first_other g (process w) lone.law.lawful p o q (heard g w p i q lone.law o is)).worker.high in
      turn k n w (Trying i q) is (omega arith) lone (to_announcement_cases g p i (next_other p q) x (λ y. Ready k (n - 0) (stepped r y))
      (λ _. tries)
      (λ above. to_row_cases g p i (next_other p 0) x (λ y. Ready k (n - 0) (stepped r y)) (λ _. reads above) (λ nobody. absurd (omega arith))))

  -- what is loaded from another's announcement
  pub hears_next : (w : World) → IsLone g p at w → (j q : ℕ) → (process w p).local.phase ≡ Trying j q → loaded_value w (want (process w p).local) ≡ (at q).next
  hears_next w lone j q is = ap (λ phase. loaded_value w (want_in (process w p).local phase)) is ∙ ap (λ (x : Process). x.next) (lone.same q (heard g w p j q lone.law o is).differs)

  -- the value loaded from another's row: its entry after the front, or 0 if the row has no more
  hears_done : (w : World) → IsLone g p at w → (j q : ℕ) → (process w p).local.phase ≡ Reading j q
      → loaded_value w (want (process w p).local) ≡ get_or (at q).local.dones (numbered 0 (process w p).local.fronts q) 0
  hears_done w lone j q is =
      let other = read_of g w p j q lone.law o is in
      ap (λ phase. loaded_value w (want_in (process w p).local phase)) is ∙ numbered_next 0 (process w q).row (numbered 0 (process w p).local.fronts q)
      ∙ (lone.law.lawful.sound q other.worker).row (numbered 0 (process w p).local.fronts q) ∙ ap (λ (x : Process). get_or x.local.dones (numbered 0 (process w p).local.fronts q) 0) (lone.same q other.differs)

  -- a zero shows that the whole row is read
  whole_row : (w : World) → IsLone g p at w → (q front : ℕ) → IsOther g p q → get_or (at q).local.dones front 0 ≡ 0 → length (at q).local.dones ≤ front
  whole_row w lone q front other z = ⊎_elim
      (λ (l : front < length (at q).local.dones).
      let job = done_job g (process w) lone.law.lawful p o q (get_or (at q).local.dones front 0) other.worker (ap (λ (x : Process). has x.local.dones (get_or (at q).local.dones front 0)) (lone.same q other.differs) ∙ has-get_or (at q).local.dones front l) in
      let low = job.low in absurd (omega arith))
      (λ l. l)
      (cases_lt front (length (at q).local.dones))

  -- the row of q is read: its zero, if all its entries were read, or else its next entry
  pub reads : (k n i q : ℕ) (w : World) → (process w p).local.phase ≡ Reading i q → IsLone g p at w
      → (let r = (process w p).local in
      let after = record r { known = with_number (loaded_value w (want r)) r.known; fronts = put r.fronts q (numbered 0 r.fronts q + 1) } in
      (length (at q).local.dones ≤ numbered 0 r.fronts q → Ready k (n - 0) (stepped r (record r { phase = Reading i (next_other p q) })))
      → (length (at q).local.dones ≤ numbered 0 r.fronts q → g.workers < next_other p q → Ready k (n - 0) (stepped r (record_after_check g p i r)))
      → (numbered 0 r.fronts q < length (at q).local.dones → unread g p at after < unread g p at r → Ready k (n - 0) (stepped r after))
      → ClaimsOrEndsWithin g p (suc k) n w)
  reads k n i q w is lone next_row checks entry = turn k n w (Reading i q) is (omega arith) lone (⊎_elim a_zero an_entry (cases_eq v 0))
    where
      r : Record
      r = (process w p).local

      v : ℕ
      v = loaded_value w (want r)

      front : ℕ
      front = numbered 0 r.fronts q

      after : Record
      after = record r { known = with_number v r.known; fronts = put r.fronts q (front + 1) }

      other : IsOther g p q
      other = read_of g w p i q lone.law o is

      a_zero : v ≡ 0 → Ready k (n - 0) (stepped r (if v == 0 then record_at_row g p i (next_other p q) r else after))
      a_zero z =
          let all = whole_row w lone q front other (sym (hears_done w lone i q is) ∙ z) in
          subst (λ b. Ready k (n - 0) (stepped r (if b then record_at_row g p i (next_other p q) r else after))) (sym (eq-eqb v 0 z))
          (to_row_cases g p i (next_other p q) r (λ x. Ready k (n - 0) (stepped r x)) (λ _. next_row all) (λ above. checks all above))

      an_entry : (v ≡ 0 → ⊥) → Ready k (n - 0) (stepped r (if v == 0 then record_at_row g p i (next_other p q) r else after))
      an_entry nonzero =
          let below : front < length (at q).local.dones = ⊎_elim (λ m. m) (λ (m : length (at q).local.dones ≤ front). absurd (nonzero (hears_done w lone i q is ∙ get_or_past (at q).local.dones front 0 m))) (cases_lt front (length (at q).local.dones)) in
          let less = unread_less g p at r q (with_number v r.known) other (lone.law.lawful.sound p o).local.fronts below in
          subst (λ b. Ready k (n - 0) (stepped r (if b then record_at_row g p i (next_other p q) r else after))) (sym (ne_eqb v 0 nonzero)) (entry below less)

  pub claims_now : (k n j : ℕ) (w : World) → (process w p).local.phase ≡ Claiming j → ClaimsOrEndsWithin g p (suc k) n w
  claims_now k n j w is = (subst (λ x. (if stores_announcement (want_in (process w p).local x) then 1 else 0) ≤ n) (sym is) (omega arith), inl (or_left (is_claiming (process w p).local.phase) _ (ap is_claiming is)))

  -- whoever goes on is in no phase that wants nothing
  pub never_idle : (w : World) → IsLone g p at w → wants_nothing (process w p).local.phase ≡ true → ⊥
  never_idle w lone idle = true≢false (sym idle ∙ wants_some g w p lone.law o lone.here)
