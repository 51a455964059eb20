-- Each job is answered, in a hand, free, or with a worker that was not started.
use Rattle.std.proofs.Common.{◌≡◌, ◌≢◌, ◌⊎◌, inl, inr, ⊎_elim, ℕ, zero, suc, ◌+◌, ◌<◌, ◌≤◌, Bool, true, false, cond, eqb, ◌||◌, List, [], ◌∷◌, map, length, refl, sym, ap, ◌∙◌, subst, arith, get_or}
use Rattle.std.proofs.lemmas.Bool.{cases_lt, or_right, true≢false, eq-eqb}
use Rattle.std.proofs.lemmas.List.{map-append, get_or-map, get_or_past}
use mathlib.Core.Logic.{dite}
use native.Mathlib.Decide.{ℕ_discrete}
use Rattle.amo_sets.specs.Lists.{numbered}
use Rattle.amo_sets.specs.Sets.{has}
use Rattle.amo_params.specs.Givens.{IsJob}
use Rattle.amo_kk.specs.World.{nobody, world_of}
use Rattle.amo_kk.specs.Lawful.{IsSoundRecord}
use Rattle.amo_kk.specs.Machine.{LocalView}
use Rattle.amo_kk.specs.Record.{jobs_in_hand}
use Rattle.amo_params.specs.declared.givens.Givens.{Givens}
use Rattle.amo_params.specs.declared.moves.Move.{Move}
use Rattle.amo_kk.specs.declared.model.Process.{Process}
use Rattle.amo_words.specs.declared.rule.Spot.{Spot}
use Rattle.amo_words.specs.declared.rule.Spot.TheVariants.{Back}
use Rattle.amo_words.specs.Logs.{machine_after, is_claimed}
use Rattle.amo_words.specs.Settling.{free_of, settled_dones}
use Rattle.amo_words.proofs.Worlds.{lawful}
use Rattle.amo_words.proofs.Turns.{some_at}
use Rattle.amo_words.proofs.Whole.{settles}
use Rattle.amo_words.proofs.Meetings.{stands_back, worker_back}
use Rattle.amo_mailbox.specs.declared.output.Output.{Output}
use Rattle.amo_crew.specs.declared.outcome.End.{End}
use Rattle.amo_crew.specs.declared.outcome.End.TheVariants.{Ended, Halted, NotStarted}
use Rattle.amo_crew.specs.declared.outcome.Outcome.{Outcome}
use Rattle.amo_mailbox.specs.Mailbox.{of}
use Rattle.amo_crew.specs.Outcomes.{spot_of, dones_in, hand_in, hands_upto, jobs_of, EndsAs, IsOutcome, AllStarted, HasAPlace, HasStarted, IsOfNoThread, answered, in_hand}
use Rattle.std.proofs.lemmas.List.Elements.{All-get_or}
use Rattle.amo_words.proofs.Settles.{get_or_at}
use Rattle.amo_crew.proofs.Fitted.{is_back}
use Rattle.amo_crew.proofs.Once.{had_by, has_front, has_back, numbers, in_hand_is}

module _ {Out : Type 0} where
  in_all : (xs : List (Output Out)) (p j : ℕ) → has (jobs_of (of p xs)) j ≡ true → has (jobs_of xs) j ≡ true
  in_all [] p j h = h
  in_all (x ∷ xs) p j h = go (in_all xs p j) (eqb x.worker p) h
    where
      first : (b : Bool) → (has (jobs_of (of p xs)) j ≡ true → has (jobs_of xs) j ≡ true) → b || has (jobs_of (of p xs)) j ≡ true → b || has (jobs_of xs) j ≡ true
      first true rest k = refl
      first false rest k = rest k

      go : (has (jobs_of (of p xs)) j ≡ true → has (jobs_of xs) j ≡ true) → (b : Bool) → has (jobs_of (cond b (x ∷ of p xs) (of p xs))) j ≡ true → has (jobs_of (x ∷ xs)) j ≡ true
      go rest true k = first (eqb x.job j) rest k
      go rest false k = or_right (eqb x.job j) (has (jobs_of xs) j) (rest k)

-- a job in somebody's hand is among all in hand
in_hands : (spots : List Spot) (i p j : ℕ) → 1 ≤ p → p ≤ i → has (hand_in (spot_of spots p)) j ≡ true → has (map (λ (e : ℕ × ℕ). e.1) (hands_upto spots i)) j ≡ true
in_hands spots zero p j low high h = absurd (omega arith)
in_hands spots (suc i) p j low high h =
    ap (λ l. has l j) (map-append (λ (e : ℕ × ℕ). e.1) (hands_upto spots i) (map (λ (k : ℕ). (suc i, k)) (hand_in (spot_of spots (suc i)))))
    ∙ dite (ℕ_discrete p (suc i))
    (λ e. has_back (map (λ (e : ℕ × ℕ). e.1) (hands_upto spots i)) (map (λ (e : ℕ × ℕ). e.1) (map (λ (k : ℕ). (suc i, k)) (hand_in (spot_of spots (suc i))))) j
    (ap (λ l. has l j) (numbers (suc i) (hand_in (spot_of spots (suc i)))) ∙ ap (λ n. has (hand_in (spot_of spots n)) j) (sym e) ∙ h))
    (λ n. has_front (map (λ (e : ℕ × ℕ). e.1) (hands_upto spots i)) (map (λ (e : ℕ × ℕ). e.1) (map (λ (k : ℕ). (suc i, k)) (hand_in (spot_of spots (suc i))))) j (in_hands spots i p j low (omega arith) h))

-- who has claimed a job
who : (all : List Process) (j : ℕ) → is_claimed all j ≡ true → (k : ℕ) × (k < length all) × (has (get_or all k nobody).local.claimed j ≡ true)
who [] j h = absurd (true≢false (sym h))
who (a ∷ all) j h = go (has a.local.claimed j) refl h (who all j)
  where
    go : (b : Bool) → has a.local.claimed j ≡ b → b || is_claimed all j ≡ true → (is_claimed all j ≡ true → (k : ℕ) × (k < length all) × (has (get_or all k nobody).local.claimed j ≡ true))
        → (k : ℕ) × (k < suc (length all)) × (has (get_or (a ∷ all) k nobody).local.claimed j ≡ true)
    go true e k rest = (0, omega arith, e)
    go false e k rest = let r = rest k in let l = r.1 in (suc r.0, omega arith, r.2)

-- what nobody has claimed is free
unclaimed_is_free : {P : Type 0} (all : List Process) (i : ℕ) (xs : List P) (j : ℕ) → i ≤ j → j < i + length xs → is_claimed all j ≡ false → has (map (λ (t : ℕ × P). t.0) (free_of all i xs)) j ≡ true
unclaimed_is_free all i [] j low high un = absurd (omega arith)
unclaimed_is_free {P} all i (x ∷ xs) j low high un = go (is_claimed all i) refl (dite (ℕ_discrete i j)
    (λ e. inl e)
    (λ n. inr (unclaimed_is_free all (suc i) xs j (omega arith) (omega arith) un)))
  where
    rest : List (ℕ × P)
    rest = free_of all (suc i) xs

    go : (b : Bool) → is_claimed all i ≡ b → (i ≡ j) ⊎ (has (map (λ (t : ℕ × P). t.0) rest) j ≡ true) → has (map (λ (t : ℕ × P). t.0) (cond b rest ((i, x) ∷ rest))) j ≡ true
    go true e (inl same) = absurd (true≢false (sym e ∙ ap (is_claimed all) same ∙ un))
    go true e (inr h) = h
    go false e (inl same) = ap (λ b. b || has (map (λ (t : ℕ × P). t.0) rest) j) (eq-eqb i j same)
    go false e (inr h) = or_right (eqb i j) (has (map (λ (t : ℕ × P). t.0) rest) j) h

-- who was started came back
came_back : (budget : ℕ) (s : Spot) (e : End) → EndsAs budget s e → (e ≡ NotStarted) ⊎ ((l : LocalView) × (s ≡ Back l))
came_back budget s (Ended n) h = inr (h.0, h.1)
came_back budget s (Halted n) h = inr (h.0, h.1)
came_back budget s NotStarted h = inl refl

-- if each was started, none was not
none_left : (ends : List End) → AllStarted ends → (p : ℕ) → 1 ≤ p → p ≤ length ends → numbered NotStarted ends p ≡ NotStarted → ⊥
none_left ends all zero low high e = absurd (omega arith)
none_left ends all (suc k) low high e = All-get_or (λ (x : End). x ≢ NotStarted) ends k NotStarted (omega arith) all e

module _ {P Out : Type 0} (related : ℕ → ℕ → P → Out → Type 0) (g : Givens) (payloads : List P) (budgets : List ℕ) (o : Outcome P Out) (is : IsOutcome related g payloads budgets o) where
  abbrev log : List Move
  log = is.whole.log

  abbrev processes : List Process
  processes = (world_of g log).processes

  -- each worker came back, or was not started
  back : (k : ℕ) → k < g.workers → (numbered NotStarted o.ends.items (suc k) ≡ NotStarted) ⊎ ((l : LocalView) × (spot_of is.spots (suc k) ≡ Back l))
  back k inside = let size = is.run.ends_are.size in let e = some_at o.ends.items k (omega arith) in let next : suc k ≡ k + 1 = omega arith in
      ⊎_elim
      (λ z. inl (sym (get_or_at o.ends.items k e.0 NotStarted e.1) ∙ z))
      (λ b. inr (b.0, ap (spot_of is.spots) next ∙ b.1))
      (came_back (numbered 0 budgets (k + 1)) (spot_of is.spots (k + 1)) e.0 (is.run.ends_are.each k e.0 e.1))

  -- who came back has the record that the world has of it
  record_of : (k : ℕ) (l : LocalView) → spot_of is.spots (suc k) ≡ Back l → l ≡ machine_after g log (suc k)
  record_of k l b = stands_back g log is.spots is.whole.stand (suc k) l (is_back is.spots (suc k) l b)

  pub count : length payloads ≡ g.jobs
  count = (settles is.whole.key is.whole.seat _ is.spots is.whole.words is.whole.slots refl refl is.whole.closed).1.free.0

  -- what one that came back has claimed is answered, or in its hand
  claimed_back : (j k : ℕ) (l : LocalView) → k < g.workers → spot_of is.spots (suc k) ≡ Back l → has (get_or processes k nobody).local.claimed j ≡ true → (has (answered o) j ≡ true) ⊎ (has (in_hand o) j ≡ true)
  claimed_back j k l inside b h =
      let same = record_of k l b in
      let worker = worker_back g log is.spots is.whole.stand (suc k) l (is_back is.spots (suc k) l b) in
      let of_it : IsSoundRecord g (suc k) l.state = subst (λ (m : LocalView). IsSoundRecord g (suc k) m.state) (sym same) ((lawful g log).lawful.sound (suc k) worker).local in
      let at : has l.state.claimed j ≡ true = ap (λ (m : LocalView). has m.state.claimed j) same ∙ h in
      ⊎_elim
      (λ d. inl (in_all o.outputs.items (suc k) j (ap (λ l. has l j) (is.run.outputs_are.jobs (suc k)) ∙ ap (λ s. has (dones_in s) j) b ∙ d)))
      (λ d. inr (ap (λ l. has l j) (in_hand_is related g payloads budgets o is)
      ∙ in_hands is.spots g.workers (suc k) j (omega arith) (omega arith) (ap (λ s. has (hand_in s) j) b ∙ d)))
      (had_by l.state.dones (jobs_in_hand l.state.phase) j (ap (λ c. has c j) (sym of_it.claims) ∙ at))

  -- a claimed job is answered, in a hand, or with a worker that was not started
  claimed : (j k : ℕ) → k < length processes → has (get_or processes k nobody).local.claimed j ≡ true → HasAPlace o j ⊎ IsOfNoThread o j
  claimed j k inside h = let many = (lawful g log).size in let size = is.run.ends_are.size in
      ⊎_elim
      (λ z. inr (
        suc k,
        omega arith,
        omega (arith, inside, many, size),
        z,
        ap (λ l. has (get_or l k []) j) is.whole.claims ∙ ap (λ l. has l j) (get_or-map (λ (a : Process). a.local.claimed) processes k nobody [] inside) ∙ h,
      ))
      (λ b. inl (⊎_elim (λ a. inl a) (λ a. inr (inl a)) (claimed_back j k b.0 (omega (arith, inside, many)) b.1 h)))
      (back k (omega (arith, inside, many)))

  pub has_a_place_or : (j : ℕ) → IsJob g j → HasAPlace o j ⊎ IsOfNoThread o j
  has_a_place_or j job = go (is_claimed processes j) refl
    where
      go : (b : Bool) → is_claimed processes j ≡ b → HasAPlace o j ⊎ IsOfNoThread o j
      go true e = let w = who processes j e in claimed j w.0 w.1 w.2
      go false e = let c = count in let low = job.low in let high = job.high in
          inl (inr (inr (ap (λ l. has (map (λ (t : ℕ × P). t.0) l) j) is.whole.free ∙ unclaimed_is_free processes 1 payloads j low (omega (arith, c, high)) e)))

  pub has_a_place : AllStarted o.ends.items → (j : ℕ) → IsJob g j → HasAPlace o j
  has_a_place all j job = ⊎_elim (λ h. h) (λ n. absurd (none_left o.ends.items all n.0 n.1 n.2 n.3)) (has_a_place_or j job)

  -- the outputs of who came back are the dones that the settlement has of it
  pub outputs_told : (p : ℕ) → HasStarted o p → jobs_of (of p o.outputs.items) ≡ settled_dones o.settlement p
  outputs_told zero n = absurd (n refl)
  outputs_told (suc k) n = let size = is.run.ends_are.size in let many = (lawful g log).size in
      ⊎_elim
      (λ (inside : k < length o.ends.items).
      ⊎_elim
      (λ z. absurd (n z))
      (λ b. is.run.outputs_are.jobs (suc k) ∙ ap dones_in b.1 ∙ ap (λ (m : LocalView). m.state.dones) (record_of k b.0 b.1)
      ∙ sym (get_or-map (λ (a : Process). a.local.dones) processes k nobody [] (omega (arith, inside, size, many)))
      ∙ ap (λ l. get_or l k []) (sym is.whole.dones))
      (back k (omega (arith, inside, size))))
      (λ (past : length o.ends.items ≤ k). absurd (n (get_or_past o.ends.items k NotStarted past)))
      (cases_lt k (length o.ends.items))
