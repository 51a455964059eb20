-- The potential falls in two cases: no more fails and fewer turns left, or fewer fails and at most
-- one attempt more.
use Rattle.std.proofs.Common.{◌≡◌, ◌⊎◌, inl, inr, ⊎_elim, ℕ, suc, ◌+◌, ◌-◌, ◌*◌, ◌<◌, ◌≤◌, Bool, true, false, not, length, refl, sym, ap, ◌∙◌, subst, arith}
use Rattle.std.proofs.lemmas.Bool.{cases_eq, true≢false}
use Rattle.amo_sets.specs.Lists.{numbered}
use Rattle.amo_sets.specs.Sets.{has}
use Rattle.amo_sets.specs.Rank.{count}
use Rattle.amo_sets.proofs.Numbers.{get_or-has}
use Rattle.amo_params.specs.Givens.{IsJob, IsOther}
use Rattle.amo_kk.specs.Record.{is_free}
use Rattle.amo_kk.specs.Lawful.{AreLawful, IsSoundProcess}
use Rattle.amo_params.specs.declared.givens.Givens.{Givens}
use Rattle.amo_kk.specs.declared.phase.Phase.{Phase}
use Rattle.amo_kk.specs.declared.model.Record.{Record}
use Rattle.amo_kk.specs.declared.model.Process.{Process}
use Rattle.amo_bounds.specs.Turns.{width}
use Rattle.amo_bounds.proofs.Turns.{next_after}
use Rattle.amo_bounds.proofs.Still.{IsTurnOf}
use Rattle.amo_bounds.proofs.Sums.{times_le, total}
use Rattle.amo_bounds.proofs.Homes.{IsHome}
use Rattle.amo_bounds.proofs.Potential.{togo, unread, cost, GradeIn, Cleared, Charge, HasPotential, weight, Rebuilds, rebuilt, rebuilt_weighs}

times_lt : (u a b : ℕ) → a < b → u * a + u ≤ u * b
times_lt u a b l = let x = times_le u (suc a) b l in grind arith

-- the potential after a turn, and it has fallen
abbrev pub Fallen : (g : Givens) (at now : ℕ → Process) → HasPotential g at → Type 0
Fallen g at now h = (n : HasPotential g now) × (weight g now n < weight g at h)

-- many jobs are free, or the threshold is high
abbrev pub Room : Givens → (ℕ → Bool) → Type 0
Room g free = (width g ≤ g.beta) ⊎ (width g ≤ count g.jobs free)

-- a turn of p in a world in which all workers are lawful, have a potential, and have room
pub record IsTaken (g : Givens) (at now : ℕ → Process) (p : ℕ) : Type 0 where
  pub law : AreLawful g at
  pub turn : IsTurnOf g at now p
  pub h : HasPotential g at
  pub room : Room g h.free

module _ {g : Givens} {at now : ℕ → Process} {p : ℕ} (given : IsTaken g at now p) where
  open given use {law, turn, turn.{worker as o}, h, room}

  abbrev r : Record
  r = (at p).local

  pub sound : IsSoundProcess g p (at p)
  sound = law.sound p o

  settle : (q k c : ℕ) → Rebuilds g at now h p q k c → 2 * g.workers * (k + c) + cost g p (now p).local < 2 * g.workers * (h.grades p + h.charges q) + cost g p r → Fallen g at now h
  settle q k c s l = (rebuilt g at now h p q k c s, let e = rebuilt_weighs g at now h p q k c s in omega arith)

  -- no more fails, and fewer turns left
  pub nearer : (q k c : ℕ) → Rebuilds g at now h p q k c → k + c ≤ h.grades p + h.charges q → cost g p (now p).local < cost g p r → Fallen g at now h
  nearer q k c s few l = settle q k c s (let t = times_le (2 * g.workers) (k + c) (h.grades p + h.charges q) few in omega arith)

  -- fewer fails, and no more than a whole attempt more
  pub failed : (q k c : ℕ) → Rebuilds g at now h p q k c → k + c < h.grades p + h.charges q → cost g p (now p).local < cost g p r + 2 * g.workers → Fallen g at now h
  failed q k c s few l = settle q k c s (let t = times_lt (2 * g.workers) (k + c) (h.grades p + h.charges q) few in omega arith)

  -- the grade of p, whatever its phase
  pub graded_as : (phase : Phase) → r.phase ≡ phase → GradeIn g at h.free p r (h.grades p) phase
  graded_as phase is = subst (λ x. GradeIn g at h.free p r (h.grades p) x) is (h.graded p o)

  -- the announcement of p is charged as before, where p doesn't store
  pub charge_kept : (now p).next ≡ (at p).next → Charge g now h.free p (h.charges p)
  charge_kept same = ⊎_elim (λ l. inl l)
      (λ clear. inr (λ i w d home. subst (λ (x : Process). Cleared x.local p (now p).next) (sym (turn.others i d))
      (subst (λ y. Cleared (at i).local p y) (sym same) (clear i w d (subst (λ y. IsHome g h.free i y) same home)))))
      (h.charged p o)

  pub next_kept : (phase : Phase) → r.phase ≡ phase → next_after phase (at p).next ≡ (at p).next → (now p).next ≡ (at p).next
  next_kept phase is e = turn.next ∙ ap (λ x. next_after x (at p).next) is ∙ e

  -- p learned all that is done
  pub knows_all : ((q : ℕ) → IsOther g p q → length (at q).local.dones ≤ numbered 0 r.fronts q) → (j : ℕ) → IsJob g j → is_free r j ≡ h.free j
  knows_all read j job = go (has r.known j) refl (h.free j) refl
    where
      go : (a : Bool) → has r.known j ≡ a → (b : Bool) → h.free j ≡ b → not (has r.known j) ≡ h.free j
      go true e true f = absurd (true≢false (sym f ∙ h.taken j (law.known p j o e)))
      go true e false f = ap not e ∙ sym f
      go false e true f = ap not e ∙ sym f
      go false e false f =
          let d = h.done j job f in
          absurd (true≢false (sym (⊎_elim
          (λ (m : d.0 ≡ p). sound.local.own j (subst (λ x. has (at x).local.dones j ≡ true) m d.2))
          (λ n. let place = get_or-has (at d.0).local.dones j d.2 in
          let other : IsOther g p d.0 = record { worker = d.1; differs = n } in
          let all = read d.0 other in
          subst (λ x. has r.known x ≡ true) place.2 ((law.apart p d.0 o other).read place.0 (let l = place.1 in omega arith)))
          (cases_eq d.0 p)) ∙ e))

  pub cost_is : (x : Record) → (now p).local ≡ x → x.fronts ≡ r.fronts → cost g p (now p).local ≡ togo g p x.phase + unread g r
  cost_is x is same = ap (cost g p) is ∙ ap (λ l. togo g p x.phase + total g.workers (λ q. g.jobs - numbered 0 l q)) same
