-- A hired worker goes back without a step, and all payloads are free if nothing was claimed.
use Rattle.std.proofs.Common.{◌≡◌, ◌≢◌, inl, inr, ⊎_elim, ℕ, zero, suc, ◌+◌, ◌-◌, ◌<◌, ◌≤◌, false, List, All, [], ◌∷◌, ◌++◌, length, map, replicate, get_or, refl, sym, ap, ◌∙◌, subst, arith}
use Rattle.std.specs.Prelude.{if◌then◌else◌, slice_set}
use Rattle.std.proofs.lemmas.List.{length_push, length-replicate}
use Rattle.std.proofs.lemmas.List.Elements.{All-nil}
use Rattle.std.proofs.lemmas.Bool.{cases_lt}
use mathlib.Core.Option.{some, some-injective, some-ne-none}
use mathlib.Core.Logic.{dite}
use native.Mathlib.Decide.{ℕ_discrete}
use lib.ListN.{get_elem?}
use Rattle.atomic_table.specs.Seated.{TableId}
use Rattle.atomic_table.proofs.Lists.{at_longer, at_last}
use Rattle.amo_sets.specs.Lists.{numbered, put}
use Rattle.amo_sets.specs.Sets.{has}
use Rattle.amo_sets.proofs.Numbers.{numbered-put_same, numbered-put_other, length-put}
use Rattle.amo_kk.specs.World.{nobody, world_of}
use Rattle.amo_kk.specs.Machine.{LocalView}
use Rattle.amo_params.specs.declared.givens.Givens.{Givens}
use Rattle.amo_params.specs.declared.moves.Move.{Move}
use Rattle.amo_kk.specs.declared.model.Process.{Process}
use Rattle.amo_words.specs.declared.rule.Spot.{Spot}
use Rattle.amo_words.specs.declared.rule.Spot.TheVariants.{Home, Out as Away, Back}
use Rattle.amo_words.specs.Logs.{machine_after, is_claimed}
use Rattle.amo_words.specs.Rule.{AllStand, Stands}
use Rattle.amo_words.specs.declared.floor.settling.Settlement.{Settlement}
use Rattle.amo_words.specs.Settling.{HasClosed, free_of, IsWhole}
use Rattle.amo_claims.specs.Calls.{worker_in}
use Rattle.amo_mailbox.specs.declared.output.Output.{Output}
use Rattle.amo_crew.specs.declared.fault.ExecFault.{ExecFault}
use Rattle.amo_crew.specs.declared.fault.ExecFault.TheVariants.{WrongCount, NoMemory, ThreadRefused, Unsettled}
use Rattle.amo_crew.specs.declared.outcome.End.{End}
use Rattle.amo_crew.specs.declared.outcome.End.TheVariants.{NotStarted}
use Rattle.amo_words.specs.Faces.{Seated, ClosedView, machine, spots}
use Rattle.amo_words.specs.Hiring.{HasCollected}
use Rattle.amo_words.proofs.Worlds.{lawful, unclaimed_by}
use Rattle.amo_mailbox.specs.declared.queue.Queue.{Queue}
use Rattle.amo_crew.specs.declared.kit.Kit.{Kit}
use Rattle.amo_crew.specs.declared.run.member.Member.{Member}
use Rattle.amo_crew.specs.Running.{IsMember}
use Rattle.amo_crew.specs.Crew.{IsCrew}
use Rattle.amo_crew.specs.Outcomes.{spot_of, IsBare, EndsAs, hands_upto, HaveRun}
use Rattle.amo_crew.specs.Refusing.{Refuses}
use Rattle.amo_crew.specs.Hired.{AreHired, IsUntouched, AreCalledOff, AtTable, HasNotBegun, IsCalledOff}
use Rattle.amo_crew.proofs.Hires.{first_claims}
use Rattle.amo_crew.proofs.Crews.{all_at}

module _ {P Out : Type 0} (table : TableId) (g : Givens) (payloads : List P) (budgets : List ℕ) where
  pub off_from : (b : Seated P) (kit : Kit P Out) → AreHired table g payloads budgets b kit → AreCalledOff kit.queue table g payloads budgets b kit.crew.items
  off_from b kit h = record {
    tied = h.tied;
    givens = h.givens;
    payloads_are = h.payloads_are;
    size = h.size;
    fits = let n = h.kit_is.count in omega arith;
    members = h.members;
    untouched = λ p. ⊎_elim
        (λ low. ⊎_elim (λ (high : p < suc g.workers). inr (low, omega arith)) (λ high. inl (subst IsUntouched (sym (beyond p high)) tt)) (cases_lt p (suc g.workers)))
        (λ high. inl (subst IsUntouched (sym (h.home p (omega arith))) tt))
        (cases_lt g.workers (p + length kit.crew.items));
  }
    where
      past : (l : List Spot) (k : ℕ) → length l ≤ k → get_or l k Home ≡ Home
      past [] k h = refl
      past (x ∷ xs) zero h = absurd (omega arith)
      past (x ∷ xs) (suc k) h = past xs k (omega arith)

      beyond : (p : ℕ) → suc g.workers ≤ p → spot_of (spots b) p ≡ Home
      beyond zero high = absurd (omega arith)
      beyond (suc k) high = past (spots b) k (let z = h.size in omega arith)

module _ {P Out : Type 0} (queue : Queue Out) (table : TableId) (g : Givens) (payloads : List P) (budgets : List ℕ) where
  module _ (b : Seated P) (rest : List (Member P Out)) (m : Member P Out) (c : Seated P) (h : AreCalledOff queue table g payloads budgets b (rest ++ m ∷ [])) (did : HasCollected b (worker_in m.after) c) where
    p : ℕ
    p = g.workers - length rest

    len : length (rest ++ m ∷ []) ≡ length rest + 1
    len = length_push rest m

    own : IsMember queue table g payloads p (numbered 0 budgets p) m
    unfolding p
    own = h.members (length rest) m (at_last rest m (length rest) refl)

    low : 1 ≤ p
    unfolding p
    low = let n = h.fits in let z = len in omega arith

    now : spots c ≡ put (spots b) p (Back (machine (worker_in m.after)))
    now = did.spots_are ∙ ap (λ n. slice_set (spots b) (n - 1) (Back (machine (worker_in m.after)))) own.number ∙ put_is p low
      where
        put_is : (p : ℕ) → 1 ≤ p → slice_set (spots b) (p - 1) (Back (machine (worker_in m.after))) ≡ put (spots b) p (Back (machine (worker_in m.after)))
        put_is zero low = absurd (omega arith)
        put_is (suc k) low = let n : suc k - 1 ≡ k = omega arith in ap (λ i. slice_set (spots b) i (Back (machine (worker_in m.after)))) n

    inside : p ≤ length (spots b)
    unfolding p
    inside = let z = h.size in omega arith

    pub goes_back : AreCalledOff queue table g payloads budgets c rest
    unfolding p
    goes_back = record {
      tied = did.kept.table ∙ h.tied;
      givens = did.kept.givens ∙ h.givens;
      payloads_are = did.kept.payloads ∙ h.payloads_are;
      size = ap length now ∙ length-put (Back (machine (worker_in m.after))) (spots b) p ∙ h.size;
      fits = let n = h.fits in let z = len in omega arith;
      untouched = λ q. dite (ℕ_discrete q p)
          (λ e. inl (subst IsUntouched (sym (ap (λ s. spot_of s q) now ∙ ap (λ n. spot_of (put (spots b) p (Back (machine (worker_in m.after)))) n) e ∙ numbered-put_same Home (Back (machine (worker_in m.after))) (spots b) p low inside)) (own.fresh.claimed, own.fresh.dones, own.fresh.empty)))
          (λ n. ⊎_elim
          (λ t. inl (subst IsUntouched (sym (ap (λ s. spot_of s q) now ∙ numbered-put_other Home (Back (machine (worker_in m.after))) (spots b) p q n)) t))
          (λ t. inr (higher q n t.0 t.1, t.1))
          (h.untouched q));
      members = λ k x at. h.members k x (at_longer rest (m ∷ []) k x at);
    }
      where
        higher : (q : ℕ) → q ≢ p → g.workers < q + length (rest ++ m ∷ []) → q ≤ g.workers → g.workers < q + length rest
        higher q n l high = let z = len in let f = h.fits in ⊎_elim (λ (a : g.workers < q + length rest). a) (λ a. absurd (n (omega arith))) (cases_lt g.workers (q + length rest))

-- untouched workers are bare
bare_of : (s : Spot) → IsUntouched s → IsBare s
bare_of Home h = (refl, refl)
bare_of Away h = absurd h
bare_of (Back l) h = (h.1, h.2)

pub all_bare : (ss : List Spot) → ((p : ℕ) → IsUntouched (spot_of ss p)) → (p : ℕ) → IsBare (spot_of ss p)
all_bare ss h p = bare_of (spot_of ss p) (h p)

pub no_hands : (ss : List Spot) → ((p : ℕ) → IsBare (spot_of ss p)) → (i : ℕ) → hands_upto ss i ≡ []
no_hands ss h zero = refl
no_hands ss h (suc i) = λ k. no_hands ss h i k ++ map (λ j. (suc i, j)) ((h (suc i)).1 k)

-- if nobody has claimed, all payloads are free
pub all_free : {P : Type 0} (all : List Process) → ((j : ℕ) → is_claimed all j ≡ false) → (j : ℕ) (xs : List P) → map (λ (t : ℕ × P). t.1) (free_of all j xs) ≡ xs
all_free all h j [] = refl
all_free {P} all h j (x ∷ xs) = ap (λ b. map (λ (t : ℕ × P). t.1) (if b then free_of all (suc j) xs else (j, x) ∷ free_of all (suc j) xs)) (h j) ∙ (λ k. x ∷ all_free all h (suc j) xs k)

at_spot : (l : List Spot) (k : ℕ) → k < length l → get_elem? l k ≡ some (get_or l k Home)
at_spot [] k h = absurd (omega arith)
at_spot (x ∷ xs) zero h = refl
at_spot (x ∷ xs) (suc k) h = at_spot xs k (omega arith)

claimed_none : (g : Givens) (log : List Move) (p : ℕ) (s : Spot) → IsUntouched s → Stands g log p s → (machine_after g log p).state.claimed ≡ []
claimed_none g log p Home h st = ap (λ (m : LocalView). m.state.claimed) (sym st.0) ∙ first_claims g p
claimed_none g log p Away h st = absurd h
claimed_none g log p (Back l) h st = ap (λ (m : LocalView). m.state.claimed) (sym st) ∙ h.0

pub none_claimed : (g : Givens) (log : List Move) (ss : List Spot) → AllStand g log ss → ((p : ℕ) → IsUntouched (spot_of ss p)) → (j : ℕ) → is_claimed (world_of g log).processes j ≡ false
none_claimed g log ss stand h j = unclaimed_by j (world_of g log).processes (λ p low high. ap (λ l. has l j) (at p low (let z = (lawful g log).size in omega arith)))
  where
    at : (p : ℕ) → 1 ≤ p → p ≤ g.workers → (numbered nobody (world_of g log).processes p).local.claimed ≡ []
    at zero low high = absurd (omega arith)
    at (suc k) low high = claimed_none g log (suc k) (spot_of ss (suc k)) (h (suc k))
        (stand.1 (suc k) (spot_of ss (suc k)) (omega arith) (let n : k ≡ suc k - 1 = omega arith in let z = stand.0 in subst (λ i. get_elem? ss i ≡ some (get_or ss k Home)) n (at_spot ss k (omega arith))))

-- so all payloads come back, in their order
pub all_back : {P : Type 0} (g : Givens) (payloads : List P) (seen : List Move) (ss : List Spot) (s : Settlement P) → IsWhole g payloads seen ss s → ((p : ℕ) → IsUntouched (spot_of ss p)) → map (λ (t : ℕ × P). t.1) s.free.items ≡ payloads
all_back {P} g payloads seen ss s w h = ap (map (λ (t : ℕ × P). t.1)) w.free ∙ all_free (world_of g w.log).processes (none_claimed g w.log ss w.stand h) 1 payloads

-- nothing was started
pub none_ran : {P Out : Type 0} (related : ℕ → ℕ → P → Out → Type 0) (g : Givens) (payloads : List P) (budgets : List ℕ) (ss : List Spot) (ends : List End) (outputs : List (Output Out)) (hands : List (ℕ × ℕ × P)) → ((p : ℕ) → IsUntouched (spot_of ss p))
    → ends ≡ replicate g.workers NotStarted → outputs ≡ [] → hands ≡ [] → HaveRun related g payloads budgets ss ends outputs hands
none_ran {P} {Out} related g payloads budgets ss ends outputs hands h e o t =
    subst (λ (x : List End). HaveRun related g payloads budgets ss x outputs hands) (sym e)
    (subst (λ (x : List (Output Out)). HaveRun related g payloads budgets ss (replicate g.workers NotStarted) x hands) (sym o)
    (subst (λ (x : List (ℕ × ℕ × P)). HaveRun related g payloads budgets ss (replicate g.workers NotStarted) [] x) (sym t) (record {
      ends_are = record { size = length-replicate g.workers NotStarted; each = λ k x at. subst (λ (y : End). EndsAs (numbered 0 budgets (k + 1)) (spot_of ss (k + 1)) y) (sym (same g.workers k x at)) (bare (k + 1)) };
      outputs_are = record { jobs = λ p. sym (bare p).0; answers = All-nil _ };
      hands_are = record { jobs = sym (no_hands ss bare g.workers); own = All-nil _ };
    })))
  where
    bare : (p : ℕ) → IsBare (spot_of ss p)
    bare = all_bare ss h

    same : (n k : ℕ) (x : End) → get_elem? (replicate n NotStarted) k ≡ some x → x ≡ NotStarted
    same zero k x at = absurd (some-ne-none x (sym at))
    same (suc n) zero x at = sym (some-injective NotStarted x at)
    same (suc n) (suc k) x at = same n k x at

-- so what is called off is refused, whatever the work and the budgets
pub off_refused : {P Out : Type 0} (related : ℕ → ℕ → P → Out → Type 0) (g : Givens) (payloads : List P) (budgets : List ℕ) (f : ExecFault P Out) → IsCalledOff g payloads f → Refuses related g payloads budgets f
off_refused related g payloads budgets (WrongCount v) h = absurd h
off_refused related g payloads budgets (NoMemory v) h = h
off_refused related g payloads budgets (ThreadRefused o) h = absurd h
off_refused related g payloads budgets (Unsettled u) h = record { seen = h.seen; closed = h.closed; run = none_ran related g payloads budgets u.floor.spots u.ends u.outputs u.in_hand h.untouched h.ends h.outputs h.in_hand }

pub all_off : {P Out : Type 0} (queue : Queue Out) (table : TableId) (g : Givens) (payloads : List P) (budgets : List ℕ) (b : Seated P) → AreCalledOff queue table g payloads budgets b [] → (p : ℕ) → IsUntouched (spot_of (spots b) p)
all_off queue table g payloads budgets b h p = ⊎_elim (λ t. t) (λ t. let low = t.0 in let high = t.1 in absurd (omega arith)) (h.untouched p)

pub all_at_table : {P Out : Type 0} (queue : Queue Out) (table : TableId) (g : Givens) (payloads : List P) (budgets : List ℕ) (crew : List (Member P Out)) → IsCrew queue table g payloads budgets crew → All (AtTable table) crew
all_at_table queue table g payloads budgets crew is = all_at (AtTable table) crew (λ k m at. (is k m at).table_is)

-- the values that are kept if no thread was started
pub has_not_begun : {P Out : Type 0} (g : Givens) (payloads : List P) (b : Seated P) (c : ClosedView P) (ends : List End) (outputs : List (Output Out)) (in_hand : List (ℕ × ℕ × P))
    → HasClosed b.view.givens b.view.payloads b.view.seen (spots b) c → b.view.givens ≡ g → b.view.payloads ≡ payloads → ((p : ℕ) → IsUntouched (spot_of (spots b) p))
    → ends ≡ replicate g.workers NotStarted → outputs ≡ [] → in_hand ≡ [] → HasNotBegun g payloads record { floor = c; ends = ends; outputs = outputs; in_hand = in_hand }
has_not_begun {P} {Out} g payloads b c ends outputs in_hand closed givens own untouched e o h = record {
  seen = b.view.seen;
  closed = subst (λ (x : List Spot). HasClosed g payloads b.view.seen x c) (sym closed.spots_are)
      (subst (λ (x : List P). HasClosed g x b.view.seen (spots b) c) own
      (subst (λ (x : Givens). HasClosed x b.view.payloads b.view.seen (spots b) c) givens closed));
  untouched = subst (λ (x : List Spot). (p : ℕ) → IsUntouched (spot_of x p)) (sym closed.spots_are) untouched;
  ends = e;
  outputs = o;
  in_hand = h;
}
