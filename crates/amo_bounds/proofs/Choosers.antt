-- In a circle, a job that is announced while no job below it is announced was chosen in that
-- circle, by one worker alone.
use Rattle.std.proofs.Common.{◌≡◌, ⊎_elim, ℕ, zero, suc, ◌<◌, ◌≤◌, Bool, true, false, not, ◌&&◌, List, length, get_or, refl, sym, ap, ◌∙◌, subst, arith}
use Rattle.std.proofs.lemmas.Bool.{cases_eq, cases_lt, true≢false}
use Rattle.amo_sets.specs.Lists.{numbered}
use Rattle.amo_sets.specs.Sets.{has}
use Rattle.amo_sets.specs.Rank.{count}
use Rattle.amo_sets.proofs.Numbers.{get_or-has}
use Rattle.amo_sets.proofs.Tally.{count_same}
use Rattle.amo_params.specs.Givens.{IsJob, IsWorker, IsOther, next_other}
use Rattle.amo_kk.specs.Record.{is_free, is_open}
use Rattle.amo_kk.specs.Choice.{chosen_rank, chosen_job, record_after_check}
use Rattle.amo_kk.specs.Step.{with_announced}
use Rattle.amo_kk.specs.Lawful.{IsDone}
use Rattle.amo_params.specs.declared.givens.Givens.{Givens}
use Rattle.amo_kk.specs.declared.phase.Phase.{Phase}
use Rattle.amo_kk.specs.declared.phase.Phase.TheVariants.{Announcing, Trying, Reading}
use Rattle.amo_kk.specs.declared.model.Record.{Record}
use Rattle.amo_kk.proofs.FirstChoice.{ranks_rise}
use Rattle.amo_kk.proofs.Choice.{open_parts, chosen_is, next_other_next, choice_cases, check_cases}
use Rattle.amo_kk.proofs.Kept.{noted_cases, noted_kept, noted_same, none_before}
use Rattle.amo_bounds.proofs.Still.{still}
use Rattle.amo_bounds.proofs.Circle.{Circle, Turns, one_step, around, turn_cases, dones_are, done_first, Stores, stored, stored_or_same, Constant}

-- nobody ever announces a job below x
module _ {g : Givens} (c : Circle g) (x : ℕ) (none_below : (y : ℕ) → y < x → (t p : ℕ) → Stores c t p y → ⊥) where
  stores_high : (t p j : ℕ) → Stores c t p j → x ≤ j
  stores_high t p j s = ⊎_elim (λ (l : j < x). absurd (none_below j l t p s)) (λ l. l) (cases_lt j x)

  high_stays : (q t : ℕ) → x ≤ (c.at t q).next → x ≤ (c.at (suc t) q).next
  high_stays q t h = ⊎_elim
      (λ (s : (j : ℕ) × Stores c t q j). let a = stored c t q s.0 s.1 in let b = stores_high t q s.0 s.1 in omega arith)
      (λ e. omega arith)
      (stored_or_same c t q)

  low_stays : (q t : ℕ) → (c.at t q).next < x → (c.at (suc t) q).next ≡ (c.at t q).next
  low_stays q t l = ⊎_elim
      (λ (s : (j : ℕ) × Stores c t q j).
      let a = stored c t q s.0 s.1 in
      let b = stores_high t q s.0 s.1 in
      let back = around c (λ y. x ≤ y.next) q t (high_stays q) (omega arith) in
      absurd (omega arith))
      (λ e. e)
      (stored_or_same c t q)

  low_constant : (o : ℕ) → (c.at 0 o).next < x → Constant c o
  low_constant o l zero = refl
  low_constant o l (suc t) = let e = low_constant o l t in low_stays o t (omega arith) ∙ e

  high_constant : (o t : ℕ) → x ≤ (c.at 0 o).next → x ≤ (c.at t o).next
  high_constant o zero h = h
  high_constant o (suc t) h = high_stays o t (high_constant o t h)

  -- an announcement below x was there from the beginning
  low_first : (o t : ℕ) → (c.at t o).next < x → (c.at 0 o).next ≡ (c.at t o).next
  low_first o t l = ⊎_elim
      (λ (m : (c.at 0 o).next < x). sym (low_constant o m t))
      (λ (m : x ≤ (c.at 0 o).next). let h = high_constant o t m in absurd (omega arith))
      (cases_lt (c.at 0 o).next x)

  -- whoever stores x always announces x or more
  pub storer_high : (t p : ℕ) → Stores c t p x → x ≤ (c.at 0 p).next
  storer_high t p s = ⊎_elim
      (λ (m : (c.at 0 p).next < x). let a = low_constant p m (suc t) in let b = stored c t p x s in absurd (omega arith))
      (λ m. m)
      (cases_lt (c.at 0 p).next x)

  -- what was seen of the announcements of the others before q: below x just those that are there, and all that never change
  pub record Seen (p : ℕ) (tried : List ℕ) (q : ℕ) : Type 0 where
    pub there : (y : ℕ) → 1 ≤ y → y < x → has tried y ≡ true → (o : ℕ) × IsOther g p o × ((c.at 0 o).next ≡ y)
    pub seen : (o : ℕ) → IsOther g p o → o < q → Constant c o → 1 ≤ (c.at 0 o).next → has tried (c.at 0 o).next ≡ true

  -- the rows of the others before q are read
  abbrev HasRead : ℕ → Record → ℕ → Type 0
  HasRead p r q = (o : ℕ) → IsOther g p o → o < q → length (c.at 0 o).local.dones ≤ numbered 0 r.fronts o

  -- how p came to choose x
  pub record IsChoice (p : ℕ) : Type 0 where
    pub worker : IsWorker g p
    pub high : x ≤ (c.at 0 p).next
    pub r : Record
    pub job : IsJob g x
    pub known : (y : ℕ) → has r.known y ≡ true → IsDone g (c.at 0) y
    pub knows : (y : ℕ) → IsDone g (c.at 0) y → has r.known y ≡ true
    pub tried : Seen p r.tried (suc g.workers)
    pub unknown : has r.known x ≡ false
    pub untried : has r.tried x ≡ false
    pub rank : count x (is_open r) ≡ chosen_rank g p (count g.jobs (is_free r))

  -- whoever chooses x has the one rank for it
  pub chooser : (p q : ℕ) → IsChoice p → IsChoice q → p ≡ q
  chooser p q a b = ⊎_elim (λ e. e) (λ n. ⊎_elim
      (λ (l : p < q). let rise = ranks_rise g p q free a.worker b.worker l in let e = same_rank in absurd (omega arith))
      (λ (l : q ≤ p). let rise = ranks_rise g q p free b.worker a.worker (omega arith) in let e = same_rank in absurd (omega arith))
      (cases_lt p q)) (cases_eq p q)
    where
      iff : (b c : Bool) → (b ≡ true → c ≡ true) → (c ≡ true → b ≡ true) → b ≡ c
      iff true c f h = sym (f refl)
      iff false true f h = h refl
      iff false false f h = refl

      free : ℕ
      free = count g.jobs (is_free a.r)

      same_known : (y : ℕ) → has a.r.known y ≡ has b.r.known y
      same_known y = iff (has a.r.known y) (has b.r.known y) (λ h. b.knows y (a.known y h)) (λ h. a.knows y (b.known y h))

      goes : (p q : ℕ) (r s : Record) → IsWorker g p → IsWorker g q → x ≤ (c.at 0 q).next → Seen p r.tried (suc g.workers) → Seen q s.tried (suc g.workers) → (y : ℕ) → 1 ≤ y → y < x → has r.tried y ≡ true → has s.tried y ≡ true
      goes p q r s wp wq high tp tq y low less h =
          let o = tp.there y low less h in
          let e = o.2 in
          let other : IsOther g q o.0 = record { worker = o.1.worker; differs = λ i. let z = ap (λ k. (c.at 0 k).next) i in omega arith } in
          subst (λ k. has s.tried k ≡ true) e (tq.seen o.0 other (let m = o.1.worker.high in omega arith) (low_constant o.0 (omega arith)) (omega arith))

      same_open : (y : ℕ) → 1 ≤ y → y ≤ x → is_open a.r y ≡ is_open b.r y
      same_open y low high = ⊎_elim
          (λ (l : y < x). λ i. not (same_known y i) && not (iff (has a.r.tried y) (has b.r.tried y) (goes p q a.r b.r a.worker b.worker b.high a.tried b.tried y low l) (goes q p b.r a.r b.worker a.worker a.high b.tried a.tried y low l) i))
          (λ (m : x ≤ y). let e : x ≡ y = omega arith in subst (λ k. is_open a.r k ≡ is_open b.r k) e (λ i. not ((a.unknown ∙ sym b.unknown) i) && not ((a.untried ∙ sym b.untried) i)))
          (cases_lt y x)

      same_rank : chosen_rank g p free ≡ chosen_rank g q free
      same_rank = sym a.rank ∙ count_same x (is_open a.r) (is_open b.r) same_open ∙ b.rank
          ∙ ap (λ k. chosen_rank g q k) (sym (count_same g.jobs (is_free a.r) (is_free b.r) (λ y low high. ap not (same_known y))))

  -- what holds of p while it makes attempts that began in the circle
  abbrev Fair : ℕ → Record → Phase → Type 0
  Fair p r (Announcing j) = j ≡ x → IsChoice p
  Fair p r (Trying j q) = Seen p r.tried q
  Fair p r (Reading j q) = Seen p r.tried (suc g.workers) × HasRead p r q
  Fair p r phase = Unit {0}

  -- the same, but that an attempt may be about to begin after anything
  abbrev Begun : ℕ → Record → Phase → Type 0
  Begun p r (Announcing j) = Unit {0}
  Begun p r phase = Fair p r phase

  fair_begun : (p : ℕ) (r : Record) (phase : Phase) → Fair p r phase → Begun p r phase
  fair_begun p r (Announcing j) h = tt
  fair_begun p r phase h = h

  module _ (p : ℕ) (o : IsWorker g p) (high : x ≤ (c.at 0 p).next) where
    -- the check after a whole attempt
    check_fair : (t j : ℕ) → Seen p (c.at t p).local.tried (suc g.workers) → HasRead p (c.at t p).local (suc g.workers) → Fair p (still (record_after_check g p j (c.at t p).local)) (still (record_after_check g p j (c.at t p).local)).phase
    check_fair t j tried read =
        check_cases g p j r (λ y. Fair p (still y) (still y).phase) (λ a b. tt)
        (choice_cases g p r (λ y. Fair p (still y) (still y).phase) (λ over. tt) (λ many e.
        let found = chosen_is g p r o g.limits.beta_low few many in
        let clear = open_parts (has r.known (chosen_job g p r)) (has r.tried (chosen_job g p r)) found.passes in
        record {
          worker = o;
          high = high;
          r = r;
          job = subst (λ k. IsJob g k) e (record { low = found.low; high = found.high });
          known = λ y h. done_first c t y ((c.law t).known p y o h);
          knows = knows;
          tried = tried;
          unknown = subst (λ k. has r.known k ≡ false) e clear.0;
          untried = subst (λ k. has r.tried k ≡ false) e clear.1;
          rank = subst (λ k. count k (is_open r) ≡ chosen_rank g p (count g.jobs (is_free r))) e found.rank;
        }))
      where
        r : Record
        r = (c.at t p).local

        few : length r.tried < g.workers
        few = ((c.law t).sound p o).local.tried_few

        knows : (y : ℕ) → IsDone g (c.at 0) y → has r.known y ≡ true
        knows y d = ⊎_elim
            (λ (e : d.0 ≡ p). ((c.law t).sound p o).local.own y (subst (λ l. has l y ≡ true) (sym (dones_are c t p)) (subst (λ k. has (c.at 0 k).local.dones y ≡ true) e d.2)))
            (λ n.
            let other : IsOther g p d.0 = record { worker = d.1; differs = n } in
            let place = get_or-has (c.at 0 d.0).local.dones y d.2 in
            let all = read d.0 other (let m = d.1.high in omega arith) in
            let l = place.1 in
            subst (λ k. has r.known k ≡ true) (ap (λ l. get_or l place.0 0) (dones_are c t d.0) ∙ place.2) (((c.law t).apart p d.0 o other).read place.0 (omega arith)))
            (cases_eq d.0 p)

    fair_turn : (t : ℕ) → Turns c t p → Begun p (c.at t p).local (c.at t p).local.phase → Fair p (c.at (suc t) p).local (c.at (suc t) p).local.phase
    fair_turn t turn begun = turn_cases c t p turn (λ y. Fair p y y.phase)
        (λ j is none. record {
          there = λ y low less h. absurd (true≢false (sym h ∙ ap (λ l. has l y) none));
          seen = λ i other l. absurd (none_before g (c.at t) (c.law t) p o i other l);
        })
        (λ j is none alone. check_fair t j
        (record { there = λ y low less h. absurd (true≢false (sym h ∙ ap (λ l. has l y) none)); seen = λ i other. absurd (alone i other) })
        (λ i other. absurd (alone i other)))
        (λ j q is other in_range. noted t j q is other (subst (λ y. Begun p (c.at t p).local y) is begun))
        (λ j q is other above. (wider (next_other p q) above _ (noted t j q is other (subst (λ y. Begun p (c.at t p).local y) is begun)), λ i io l. absurd (none_before g (c.at t) (c.law t) p o i io l)))
        (λ j q is other all in_range.
        let b : Seen p (c.at t p).local.tried (suc g.workers) × HasRead p (c.at t p).local q = subst (λ y. Begun p (c.at t p).local y) is begun in
        (b.0, read_on t q all b.1))
        (λ j q is other all above.
        let b : Seen p (c.at t p).local.tried (suc g.workers) × HasRead p (c.at t p).local q = subst (λ y. Begun p (c.at t p).local y) is begun in
        check_fair t j b.0 (λ i io l. read_on t q all b.1 i io (let m = io.worker.high in omega arith)))
      where
        wider : (q : ℕ) → g.workers < q → (tried : List ℕ) → Seen p tried q → Seen p tried (suc g.workers)
        wider q above tried s = record { there = s.there; seen = λ i io l. s.seen i io (let m = io.worker.high in omega arith) }

        noted : (t j q : ℕ) → (c.at t p).local.phase ≡ Trying j q → IsOther g p q → Seen p (c.at t p).local.tried q → Seen p (with_announced (c.at t q).next (c.at t p).local.tried) (next_other p q)
        noted t j q is other s =
            record {
              there = λ y low less h. ⊎_elim
                  (λ (new : (1 ≤ (c.at t q).next) × ((c.at t q).next ≡ y)). let e = new.1 in (q, other, low_first q t (omega arith) ∙ new.1))
                  (λ old. s.there y low less old)
                  (noted_cases (c.at t q).next y (c.at t p).local.tried h);
              seen = λ i io l constant some. ⊎_elim
                  (λ (m : i < q). noted_kept (c.at t q).next (c.at 0 i).next (c.at t p).local.tried (s.seen i io m constant some))
                  (λ (m : q ≤ i). let n = next_other_next p q i io.differs l in let e : q ≡ i = omega arith in
                  let now : (c.at t q).next ≡ (c.at 0 i).next = ap (λ k. (c.at t k).next) e ∙ constant t in
                  subst (λ k. has (with_announced (c.at t q).next (c.at t p).local.tried) k ≡ true) now (noted_same (c.at t q).next (c.at t p).local.tried (omega arith)))
                  (cases_lt i q);
            }

        read_on : (t q : ℕ) → length (c.at t q).local.dones ≤ numbered 0 (c.at t p).local.fronts q → HasRead p (c.at t p).local q → HasRead p (c.at t p).local (next_other p q)
        read_on t q all b i io l = ⊎_elim
            (λ (m : i < q). b i io m)
            (λ (m : q ≤ i). let n = next_other_next p q i io.differs l in let e : q ≡ i = omega arith in
            subst (λ k. length (c.at 0 k).local.dones ≤ numbered 0 (c.at t p).local.fronts k) e (let same = ap length (dones_are c t q) in omega arith))
            (cases_lt i q)

    fair_step : (t : ℕ) → Fair p (c.at t p).local (c.at t p).local.phase → Fair p (c.at (suc t) p).local (c.at (suc t) p).local.phase
    fair_step t = one_step c (λ a b. Fair p a.local a.local.phase → Fair p b.local b.local.phase) t p (λ a h. h)
        (λ turn h. fair_turn t turn (fair_begun p (c.at t p).local (c.at t p).local.phase h))

    -- whoever stores x has chosen it in the circle
    pub chose : (t : ℕ) → Stores c t p x → IsChoice p
    chose t s =
        let first : Fair p (c.at (suc t) p).local (c.at (suc t) p).local.phase = fair_turn t s.turn (subst (λ y. Begun p (c.at t p).local y) (sym s.phase) tt) in
        let back = around c (λ y. Fair p y.local y.local.phase) p t fair_step first in
        let end : x ≡ x → IsChoice p = subst (λ y. Fair p (c.at t p).local y) s.phase back in
        end refl
