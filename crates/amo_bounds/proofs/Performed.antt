-- A job that is done: what could fail before may fail anew, but a job less is free.
use Rattle.std.proofs.Common.{◌≡◌, ◌≢◌, inl, inr, ⊎_elim, ℕ, ◌+◌, ◌*◌, ◌<◌, ◌≤◌, Bool, true, false, not, ◌&&◌, [], ◌∷◌, ◌++◌, refl, sym, ap, ◌∙◌, subst, arith}
use Rattle.std.specs.Prelude.{◌==◌}
use Rattle.std.proofs.lemmas.Bool.{cases_eq, or_left, true≢false, false_from_ne_true, true_from_ne_false, eqb-true, eq-eqb, ne_eqb}
use Rattle.amo_sets.specs.Sets.{has, with_number}
use Rattle.amo_sets.specs.Rank.{count}
use Rattle.amo_sets.proofs.Numbers.{has-append, has_push, has_push_kept, has_push_cases}
use Rattle.amo_sets.proofs.Tally.{count_gain}
use Rattle.amo_params.specs.Givens.{IsJob}
use Rattle.amo_kk.specs.Record.{jobs_in_hand}
use Rattle.amo_kk.specs.Choice.{record_after_choice}
use Rattle.amo_kk.specs.Lawful.{IsDone}
use Rattle.amo_params.specs.declared.givens.Givens.{Givens}
use Rattle.amo_kk.specs.declared.phase.Phase.{Phase}
use Rattle.amo_kk.specs.declared.phase.Phase.TheVariants.{Announcing, Trying, Reading, Holding}
use Rattle.amo_kk.specs.declared.model.Record.{Record}
use Rattle.amo_kk.specs.declared.model.Process.{Process}
use Rattle.amo_kk.proofs.Choice.{choice_cases}
use Rattle.amo_bounds.proofs.Still.{still}
use Rattle.amo_bounds.proofs.Sums.{total, total_changed, total_constant}
use Rattle.amo_bounds.proofs.Potential.{togo, unread, cost, GradeIn, HasPotential, price, weight}
use Rattle.amo_bounds.proofs.Fallen.{IsTaken, Fallen, sound}

priced : (u n : ℕ) → u * (n + 1) ≡ u * n + u
priced u n = grind arith

fails_most : (m s : ℕ) → s ≡ m * 3 + m * 1 → 2 * m * s ≡ 8 * (m * m)
fails_most m s e = ap (λ x. 2 * m * x) e ∙ grind arith

module _ {g : Givens} {at now : ℕ → Process} {p : ℕ} (given : IsTaken g at now p) where
  open given use {law, turn, turn.{worker as o}, h, room}

  abbrev r : Record
  r = (at p).local

  -- p does the job that it holds: whatever could fail before may fail anew, but a job less is free
  module _ (j : ℕ) (is : r.phase ≡ Holding j) (e : (now p).local ≡ still (record_after_choice g p (record r { dones = r.dones ++ j ∷ []; known = with_number j r.known }))) where
    held : IsJob g j × (has r.known j ≡ false) × (has r.tried j ≡ false)
    held = rw is at (sound given).local.stands

    after : (now p).local.dones ≡ r.dones ++ j ∷ []
    after = ap (λ (x : Record). x.dones) e ∙ choice_cases g p (record r { dones = r.dones ++ j ∷ []; known = with_number j r.known }) (λ x. x.dones ≡ r.dones ++ j ∷ []) (λ _. refl) (λ _. refl)

    dear : cost g p (now p).local ≤ 2 * g.workers + 1 + unread g r
    dear = subst (λ x. cost g p x ≤ 2 * g.workers + 1 + unread g r) (sym e)
        (choice_cases g p (record r { dones = r.dones ++ j ∷ []; known = with_number j r.known }) (λ x. cost g p (still x) ≤ 2 * g.workers + 1 + unread g r) (λ _. omega arith) (λ _. omega arith))

    others_done : (q : ℕ) → q ≢ p → (now q).local.dones ≡ (at q).local.dones
    others_done q n = ap (λ (x : Process). x.local.dones) (turn.others q n)

    claimed : has r.claimed j ≡ true
    claimed = ap (λ l. has l j) ((sound given).local.claims ∙ ap (λ x. r.dones ++ jobs_in_hand x) is) ∙ has_push r.dones j

    undone : has r.dones j ≡ false
    undone = false_from_ne_true (has r.dones j) (λ t. true≢false (sym ((sound given).local.own j t) ∙ held.1))

    -- j was free
    was_free : h.free j ≡ true
    was_free = true_from_ne_false (h.free j) (λ f. let d = h.done j held.0 f in ⊎_elim
        (λ (m : d.0 ≡ p). true≢false (sym (subst (λ x. has (at x).local.dones j ≡ true) m d.2) ∙ undone))
        (λ n. let s = law.sound d.0 d.1 in true≢false (sym (ap (λ l. has l j) s.local.claims ∙ has-append (at d.0).local.dones (jobs_in_hand (at d.0).local.phase) j ∙ or_left _ _ d.2)
        ∙ (law.apart p d.0 o (record { worker = d.1; differs = n })).claims j claimed))
        (cases_eq d.0 p))

    abbrev free : ℕ → Bool
    free i = h.free i && not (i == j)

    here_now : (i : ℕ) → has r.dones i ≡ true → has (now p).local.dones i ≡ true
    here_now i d = ap (λ l. has l i) after ∙ has_push_kept r.dones j i d

    still_done : (i : ℕ) → IsDone g at i → IsDone g now i
    still_done i d = ⊎_elim
        (λ (m : d.0 ≡ p). (p, o, here_now i (subst (λ x. has (at x).local.dones i ≡ true) m d.2)))
        (λ n. (d.0, d.1, ap (λ l. has l i) (others_done d.0 n) ∙ d.2))
        (cases_eq d.0 p)

    now_done : (i : ℕ) → IsJob g i → free i ≡ false → IsDone g now i
    now_done i job f = go (h.free i) refl (i == j) refl
      where
        go : (a : Bool) → h.free i ≡ a → (b : Bool) → (i == j) ≡ b → IsDone g now i
        go false e b c = still_done i (h.done i job e)
        go true e true c = (p, o, ap (λ l. has l i) after ∙ subst (λ x. has (r.dones ++ j ∷ []) x ≡ true) (sym (eqb-true i j c)) (has_push r.dones j))
        go true e false c = absurd (true≢false (sym (λ k. e k && not (c k)) ∙ f))

    now_taken : (i : ℕ) → IsDone g now i → free i ≡ false
    now_taken i d = ⊎_elim
        (λ (m : d.0 ≡ p). ⊎_elim
        (λ (old : has r.dones i ≡ true). was (p, o, old))
        (λ (new : j ≡ i). subst (λ x. (h.free x && not (x == j)) ≡ false) new (go (h.free j)))
        (has_push_cases r.dones j i (sym (ap (λ l. has l i) after) ∙ subst (λ x. has (now x).local.dones i ≡ true) m d.2)))
        (λ n. was (d.0, d.1, sym (ap (λ l. has l i) (others_done d.0 n)) ∙ d.2))
        (cases_eq d.0 p)
      where
        was : IsDone g at i → (h.free i && not (i == j)) ≡ false
        was d = ap (λ b. b && not (i == j)) (h.taken i d)

        go : (b : Bool) → (b && not (j == j)) ≡ false
        go true = ap not (eq-eqb j j refl)
        go false = refl

    any_grade : (i : ℕ) (x : Record) (phase : Phase) → GradeIn g now free i x 3 phase
    any_grade i x (Announcing k) = inr (omega arith)
    any_grade i x (Trying k q) = inr (omega arith)
    any_grade i x (Reading k q) = inr (omega arith)
    any_grade i x phase = tt

    abbrev potential : HasPotential g now
    potential =
        record {
          free = free;
          done = now_done;
          taken = now_taken;
          grades = λ _. 3;
          charges = λ _. 1;
          graded = λ i w. any_grade i (now i).local (now i).local.phase;
          charged = λ i w. inl (omega arith);
        }

    one_less : count g.jobs h.free ≡ count g.jobs free + 1
    one_less = count_gain g.jobs free h.free j held.0.low held.0.high (ap (λ b. h.free j && not b) (eq-eqb j j refl) ∙ none (h.free j)) was_free
        (λ i n. sym (ap (λ b. h.free i && not b) (ne_eqb i j n) ∙ all (h.free i)))
      where
        none : (b : Bool) → (b && not true) ≡ false
        none true = refl
        none false = refl

        all : (b : Bool) → (b && not false) ≡ b
        all true = refl
        all false = refl

    lighter : weight g now potential < weight g at h
    lighter =
        let costs = total_changed g.workers p (λ i. cost g i (at i).local) (λ i. cost g i (now i).local) o.low o.high (λ i n. ap (λ (x : Process). cost g i x.local) (turn.others i n)) in
        let mine = dear in
        let was = ap (togo g p) is in
        let threes = total_constant g.workers 3 in
        let ones = total_constant g.workers 1 in
        let count_is = ap (λ k. price g * k) one_less in
        let prices = priced (price g) (count g.jobs free) in
        let fails_are = fails_most g.workers (total g.workers (λ _. 3) + total g.workers (λ _. 1)) (omega arith) in
        omega arith

    pub holds : Fallen g at now h
    holds = (potential, lighter)
