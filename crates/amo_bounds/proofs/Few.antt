-- Few turns are taken: no more than the potential of the opening world.
use Rattle.std.proofs.Common.{◌≡◌, ◌≢◌, ◌⊎◌, inl, inr, ⊎_elim, ℕ, suc, ◌+◌, ◌-◌, ◌*◌, ◌<◌, ◌≤◌, Bool, true, false, not, List, [], ◌∷◌, refl, sym, ap, ◌∙◌, subst, arith}
use Rattle.std.specs.Prelude.{if◌then◌else◌, ◌==◌}
use Rattle.std.proofs.lemmas.Bool.{true≢false, true_from_ne_false, eq-eqb, ne_eqb}
use Rattle.amo_sets.specs.Lists.{numbered}
use Rattle.amo_sets.specs.Sets.{has}
use Rattle.amo_sets.proofs.Numbers.{count_true}
use Rattle.amo_sets.proofs.Tables.{numbered-table}
use Rattle.amo_params.specs.Givens.{IsWorker, IsOther}
use Rattle.amo_kk.specs.Record.{is_over, can_leave, empty_record}
use Rattle.amo_kk.specs.Choice.{first_record}
use Rattle.amo_kk.specs.Step.{record_after_leave}
use Rattle.amo_kk.specs.World.{nobody, process, process_after, first_process, world_after_step, world_after_move, world_after_turn, opening_world, world_of, rounds}
use Rattle.amo_kk.specs.Lawful.{IsLawful}
use Rattle.amo_params.specs.declared.givens.Givens.{Givens}
use Rattle.amo_kk.specs.declared.phase.Phase.TheVariants.{Left}
use Rattle.amo_kk.specs.declared.phase.Want.TheVariants.{StoreNext}
use Rattle.amo_kk.specs.declared.model.Record.{Record}
use Rattle.amo_kk.specs.declared.model.Process.{Process}
use Rattle.amo_kk.specs.declared.model.World.{World}
use Rattle.amo_params.specs.declared.moves.Move.{Move}
use Rattle.amo_params.specs.declared.moves.Move.TheVariants.{Turn, Halt, Leave}
use Rattle.amo_kk.proofs.Choice.{choice_cases}
use Rattle.amo_kk.proofs.Worlds.{here_is_worker, move_lawful, opening_lawful}
use Rattle.amo_bounds.specs.Rest.{without_steps, is_taken, turns_taken, turns_of}
use Rattle.amo_bounds.specs.Turns.{width, most_turns}
use Rattle.amo_bounds.proofs.Still.{still, view, moved, view_moved, still_lawful, turn_of}
use Rattle.amo_bounds.proofs.Rest.{takes_all}
use Rattle.amo_bounds.proofs.Rounds.{over_after}
use Rattle.amo_bounds.proofs.Sums.{times_le, total, total_le, total_constant}
use Rattle.amo_bounds.proofs.Homes.{IsHome, chosen_home}
use Rattle.amo_bounds.proofs.Potential.{unread, cost, Grade, Cleared, Charge, HasPotential, price, weight, Rebuilds, rebuilt, rebuilt_weighs}
use Rattle.amo_bounds.proofs.Fallen.{Room}
use Rattle.amo_bounds.proofs.Falls.{falls}

-- a potential that is no heavier
abbrev Lighter : (g : Givens) (w : World) (h : HasPotential g (view w)) (v : World) → Type 0
Lighter g w h v = (n : HasPotential g (view v)) × (weight g (view v) n ≤ weight g (view w) h)

-- p halts or leaves: its record becomes x, and does no job
changed_lighter : (g : Givens) (w v : World) (p k c : ℕ) (h : HasPotential g (view w)) → IsWorker g p → ((i : ℕ) → i ≢ p → view v i ≡ view w i)
    → (x : Record) → (view v p).local ≡ x → x.dones ≡ (view w p).local.dones → Grade g (view w) h.free p x k → Charge g (view v) h.free p c
    → ((i : ℕ) → IsOther g p i → Cleared (view w p).local i (view w i).next → Cleared x i (view w i).next)
    → k + c ≤ h.grades p + h.charges p → cost g p x ≤ cost g p (view w p).local → Lighter g w h v
changed_lighter g w v p k c h o others x local dones grade charge cleared few less = (
  rebuilt g (view w) (view v) h p p k c s,
  let e = rebuilt_weighs g (view w) (view v) h p p k c s in
      let t = times_le (2 * g.workers) (k + c) (h.grades p + h.charges p) few in
      let m = ap (cost g p) local in
      omega arith,
)
  where
    s : Rebuilds g (view w) (view v) h p p k c
    s =
        record {
          worker = o;
          charger = o;
          others = others;
          dones = ap (λ (y : Record). y.dones) local ∙ dones;
          next = λ n. absurd (n refl);
          grade = subst (λ y. Grade g (view w) h.free p y k) (sym local) grade;
          charge = charge;
          cleared = λ i other low was. subst (λ y. Cleared y i (view w i).next) (sym local) (cleared i other was);
        }

-- its record and its announcement stay
same_lighter : (g : Givens) (w v : World) (p : ℕ) (h : HasPotential g (view w)) → IsWorker g p → ((i : ℕ) → i ≢ p → view v i ≡ view w i)
    → (view v p).local ≡ (view w p).local → (view v p).next ≡ (view w p).next → Lighter g w h v
same_lighter g w v p h o others local next = changed_lighter g w v p (h.grades p) (h.charges p) h o others (view w p).local local refl
    (h.graded p o)
    (⊎_elim (λ l. inl l)
    (λ clear. inr (λ i m d home. subst (λ (x : Process). Cleared x.local p (view v p).next) (sym (others i d))
    (subst (λ y. Cleared (view w i).local p y) (sym next) (clear i m d (subst (λ y. IsHome g h.free i y) next home)))))
    (h.charged p o))
    (λ i other was. was)
    (omega arith)
    (omega arith)

-- it has left, and announces nothing
left_lighter : (g : Givens) (w v : World) (p : ℕ) (h : HasPotential g (view w)) → IsWorker g p → ((i : ℕ) → i ≢ p → view v i ≡ view w i)
    → (view v p).local ≡ still (record (view w p).local { phase = Left }) → (view v p).next ≡ 0 → Lighter g w h v
left_lighter g w v p h o others local next = changed_lighter g w v p 0 0 h o others (still (record (view w p).local { phase = Left })) local refl
    tt
    (inr (λ i m d home. absurd (let low = home.job.low in omega arith)))
    (λ i other was. tt)
    (omega arith)
    (omega arith)

-- a move of p changes nobody else
move_others : (g : Givens) (w : World) (m : Move) (p : ℕ) → IsLawful g w → (m ≡ Halt p) ⊎ (m ≡ Leave p) → (i : ℕ) → i ≢ p → view (world_after_move g w m) i ≡ view w i
move_others g w m p law is i n = view_moved g w m law i ∙ ⊎_elim
    (λ (e : m ≡ Halt p). ap (λ x. moved g (view w) x i) e ∙ ap (λ b. if (view w p).gone then view w i else (if b then record (view w p) { gone = true } else view w i)) (ne_eqb i p n) ∙ either (view w p).gone)
    (λ (e : m ≡ Leave p). ap (λ x. moved g (view w) x i) e
    ∙ ap (λ b. if (view w p).gone then view w i else (if can_leave (view w p).local.phase then (if b then without_steps (process_after (StoreNext 0) (view w p) (record_after_leave (view w p).local)) else view w i) else view w i)) (ne_eqb i p n)
    ∙ ap (λ x. if (view w p).gone then view w i else x) (either (can_leave (view w p).local.phase)) ∙ either (view w p).gone)
    is
  where
    either : (b : Bool) → (if b then view w i else view w i) ≡ view w i
    either true = refl
    either false = refl

-- who is gone stays as it is, whatever would come else
gone_same : (w x : World) (b : Bool) → b ≡ true → (if b then w else x) ≡ w
gone_same w x true e = refl
gone_same w x false e = absurd (true≢false (sym e))

-- the potential after the move, and it has fallen if a turn was taken
abbrev pub Stepped : (g : Givens) (w : World) (h : HasPotential g (view w)) (m : Move) → World → Type 0
Stepped g w h m v = (n : HasPotential g (view v)) × ((if is_taken w m then 1 else 0) + weight g (view v) n ≤ weight g (view w) h)

pub step : (g : Givens) (w : World) (m : Move) → IsLawful g w → (h : HasPotential g (view w)) → Room g h.free → Stepped g w h m (world_after_move g w m)
step g w (Turn p) law h room = go (process w p).gone refl
  where
    go : (b : Bool) → (process w p).gone ≡ b → Stepped g w h (Turn p) (world_after_turn g w p)
    go true e = subst (λ x. Stepped g w h (Turn p) x) (sym (gone_same w (world_after_step g w p (process w p)) (process w p).gone e)) (h, subst (λ b. (if not b then 1 else 0) + weight g (view w) h ≤ weight g (view w) h) (sym e) (omega arith))
    go false e =
        let n = falls (record { law = still_lawful g w law; turn = turn_of g w p law e; h = h; room = room }) in
        (n.0, subst (λ b. (if not b then 1 else 0) + weight g (view (world_after_turn g w p)) n.0 ≤ weight g (view w) h) (sym e) (let l = n.1 in omega arith))
step g w (Halt p) law h room = go (process w p).gone refl
  where
    either : (b c : Bool) → (let x = (if b then view w p else (if c then record (view w p) { gone = true } else view w p)) in (x.local ≡ (view w p).local) × (x.next ≡ (view w p).next))
    either true c = (refl, refl)
    either false true = (refl, refl)
    either false false = (refl, refl)

    now : view (world_after_move g w (Halt p)) p ≡ (if (view w p).gone then view w p else (if p == p then record (view w p) { gone = true } else view w p))
    now = view_moved g w (Halt p) law p

    go : (b : Bool) → (process w p).gone ≡ b → Stepped g w h (Halt p) (world_after_move g w (Halt p))
    go true e = subst (λ x. Stepped g w h (Halt p) x) (sym (gone_same w _ (process w p).gone e)) (h, omega arith)
    go false e =
        let same = either (view w p).gone (p == p) in
        let n = same_lighter g w (world_after_move g w (Halt p)) p h (here_is_worker g w p law.size e) (move_others g w (Halt p) p law (inl refl)) (ap (λ (x : Process). x.local) now ∙ same.0) (ap (λ (x : Process). x.next) now ∙ same.1) in
        (n.0, let l = n.1 in omega arith)
step g w (Leave p) law h room = go (process w p).gone refl (can_leave (view w p).local.phase) refl
  where
    now : view (world_after_move g w (Leave p)) p ≡ (if (view w p).gone then view w p else (if can_leave (view w p).local.phase then (if p == p then without_steps (process_after (StoreNext 0) (view w p) (record_after_leave (view w p).local)) else view w p) else view w p))
    now = view_moved g w (Leave p) law p

    others : (i : ℕ) → i ≢ p → view (world_after_move g w (Leave p)) i ≡ view w i
    others = move_others g w (Leave p) p law (inr refl)

    stepped : Lighter g w h (world_after_move g w (Leave p)) → Stepped g w h (Leave p) (world_after_move g w (Leave p))
    stepped n = (n.0, let l = n.1 in omega arith)

    go : (b : Bool) → (process w p).gone ≡ b → (c : Bool) → can_leave (view w p).local.phase ≡ c → Stepped g w h (Leave p) (world_after_move g w (Leave p))
    go true e c f = subst (λ x. Stepped g w h (Leave p) x) (sym (gone_same w _ (process w p).gone e)) (h, omega arith)
    go false e true f =
        let is = now ∙ ap (λ b. if b then view w p else (if can_leave (view w p).local.phase then (if p == p then without_steps (process_after (StoreNext 0) (view w p) (record_after_leave (view w p).local)) else view w p) else view w p)) e
        ∙ ap (λ b. if b then (if p == p then without_steps (process_after (StoreNext 0) (view w p) (record_after_leave (view w p).local)) else view w p) else view w p) f
        ∙ ap (λ b. if b then without_steps (process_after (StoreNext 0) (view w p) (record_after_leave (view w p).local)) else view w p) (eq-eqb p p refl) in
        stepped (left_lighter g w (world_after_move g w (Leave p)) p h (here_is_worker g w p law.size e) others (ap (λ (x : Process). x.local) is) (ap (λ (x : Process). x.next) is))
    go false e false f =
        let is = now ∙ ap (λ b. if b then view w p else (if can_leave (view w p).local.phase then (if p == p then without_steps (process_after (StoreNext 0) (view w p) (record_after_leave (view w p).local)) else view w p) else view w p)) e
        ∙ ap (λ b. if b then (if p == p then without_steps (process_after (StoreNext 0) (view w p) (record_after_leave (view w p).local)) else view w p) else view w p) f in
        stepped (same_lighter g w (world_after_move g w (Leave p)) p h (here_is_worker g w p law.size e) others (ap (λ (x : Process). x.local) is) (ap (λ (x : Process). x.next) is))

-- no more turns are taken than the potential weighs
taken_few : (g : Givens) (w : World) (ms : List Move) → width g ≤ g.beta → IsLawful g w → (h : HasPotential g (view w)) → turns_taken g w ms ≤ weight g (view w) h
taken_few g w [] high law h = omega arith
taken_few g w (m ∷ ms) high law h =
    let n = step g w m law h (inl high) in
    let rest = taken_few g (world_after_move g w m) ms high (move_lawful g w m g.limits law) n.0 in
    let l = n.1 in
    omega arith

-- the opening world

pub opening_process : (g : Givens) (p : ℕ) → IsWorker g p → view (opening_world g) p ≡ without_steps (first_process g p)
opening_process g p o = ap without_steps (numbered-table nobody (first_process g) g.workers p o.low o.high)

abbrev pub opening_potential : (g : Givens) → (width g ≤ g.beta) ⊎ (width g ≤ g.jobs) → HasPotential g (view (opening_world g))
opening_potential g room =
    record {
      free = λ _. true;
      done = λ j job f. absurd (true≢false f);
      taken = λ j d. absurd (true≢false (sym (subst (λ (x : Process). has x.local.dones j ≡ true) (opening_process g d.0 d.1) d.2) ∙ none d.0 j));
      grades = λ _. 0;
      charges = λ _. 0;
      graded = λ p o. subst (λ (x : Process). Grade g (view (opening_world g)) (λ _. true) p x.local 0) (sym (opening_process g p o)) (graded p o);
      charged = λ q w. inr (λ i m d home. absurd (let low = home.job.low in let e = ap (λ (x : Process). x.next) (opening_process g q w) in omega arith));
    }
  where
    none : (p j : ℕ) → has (first_record g p).dones j ≡ false
    none p j = choice_cases g p (empty_record g) (λ x. has x.dones j ≡ false) (λ _. refl) (λ _. refl)

    graded : (p : ℕ) → IsWorker g p → Grade g (view (opening_world g)) (λ _. true) p (first_process g p).local 0
    graded p o = choice_cases g p (empty_record g) (λ x. Grade g (view (opening_world g)) (λ _. true) p x 0) (λ _. tt)
        (λ many. inl (chosen_home g (λ _. true) p (empty_record g) o (let some = g.limits.some in omega arith) many (⊎_elim (λ l. inl l) (λ l. inr (let all = count_true g.jobs in omega arith)) room) (λ j job. refl)))

pub opening_weighs : (g : Givens) (room : (width g ≤ g.beta) ⊎ (width g ≤ g.jobs)) → weight g (view (opening_world g)) (opening_potential g room) ≤ most_turns g
opening_weighs g room =
    let none = total_constant g.workers 0 in
    let all = ap (λ k. price g * k) (count_true g.jobs) in
    let costs = total_le g.workers (λ p. cost g p (view (opening_world g) p).local) (λ _. 2 * g.workers + 1 + g.workers * g.jobs) (λ p low high. dear p (record { low = low; high = high })) in
    let same = total_constant g.workers (2 * g.workers + 1 + g.workers * g.jobs) in
    let fails_none = nothing (2 * g.workers) (total g.workers (λ _. 0) + total g.workers (λ _. 0)) (omega arith) in
    let sum_is = sums g.workers g.jobs in
    omega arith
  where
    nothing : (u s : ℕ) → s ≡ g.workers * 0 + g.workers * 0 → u * s ≡ 0
    nothing u s e = let z : s ≡ 0 = omega arith in ap (λ x. u * x) z ∙ omega arith

    sums : (m n : ℕ) → (8 * (m * m) + 2 * m + 1) * n + m * (2 * m + 1 + m * n) ≡ n * (9 * (m * m) + 2 * m + 1) + 2 * (m * m) + m
    sums m n = grind arith

    unread_few : (r : Record) → unread g r ≤ g.workers * g.jobs
    unread_few r = let l = total_le g.workers (λ q. g.jobs - numbered 0 r.fronts q) (λ _. g.jobs) (λ q a b. omega arith) in let e = total_constant g.workers g.jobs in omega arith

    dear : (p : ℕ) → IsWorker g p → cost g p (view (opening_world g) p).local ≤ 2 * g.workers + 1 + g.workers * g.jobs
    dear p o = subst (λ (x : Process). cost g p x.local ≤ 2 * g.workers + 1 + g.workers * g.jobs) (sym (opening_process g p o))
        (choice_cases g p (empty_record g) (λ x. cost g p (still x) ≤ 2 * g.workers + 1 + g.workers * g.jobs)
        (λ _. let l = unread_few (empty_record g) in omega arith)
        (λ _. let l = unread_few (empty_record g) in omega arith))

pub always_few : (g : Givens) (ms : List Move) → width g ≤ g.beta → turns_taken g (opening_world g) ms ≤ most_turns g
always_few g ms high =
    let few = taken_few g (opening_world g) ms high (opening_lawful g g.limits) (opening_potential g (inl high)) in
    let most = opening_weighs g (inl high) in
    omega arith

-- whoever is given more turns is gone
pub gone_after : (g : Givens) (ms : List Move) (p : ℕ) → width g ≤ g.beta → most_turns g < turns_of p ms → (process (world_of g ms) p).gone ≡ true
gone_after g ms p high many = true_from_ne_false (process (world_of g ms) p).gone (λ here.
    let all = takes_all g (opening_world g) ms p (opening_lawful g g.limits) here in
    let few = always_few g ms high in
    absurd (omega arith))

pub over_soon : (g : Givens) (p : ℕ) → width g ≤ g.beta → IsWorker g p → is_over (process (world_of g (rounds g.workers (most_turns g + 1))) p).local.phase ≡ true
over_soon g p high o =
    let next : suc (most_turns g) ≡ most_turns g + 1 = omega arith in
    subst (λ k. is_over (process (world_of g (rounds g.workers k)) p).local.phase ≡ true) next (over_after g (most_turns g) p o (λ ms. gone_after g ms p high))
