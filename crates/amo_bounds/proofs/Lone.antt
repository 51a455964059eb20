-- Worker 1 alone, after the others announced their first choices and were halted. While it goes on
-- it performs a job in each attempt. It ends once the fewest jobs are done.
use Rattle.std.proofs.Common.{◌≡◌, ◌≢◌, ⊎_elim, ℕ, zero, suc, ◌+◌, ◌-◌, ◌<◌, ◌≤◌, Bool, true, false, not, ◌&&◌, List, [], ◌∷◌, ◌++◌, length, refl, sym, ap, ◌∙◌, subst, arith, length-append}
use Rattle.std.specs.Prelude.{if◌then◌else◌, ◌==◌}
use Rattle.std.proofs.lemmas.Bool.{cases_eq, cases_lt, true≢false, false_from_ne_true, le-ltb}
use Rattle.std.proofs.lemmas.Bool.Decides.{nat_tests}
use Rattle.std.proofs.lemmas.List.{length_push}
use Rattle.amo_sets.specs.Sets.{has, AreDistinct, with_number}
use Rattle.amo_sets.specs.Rank.{count}
use Rattle.amo_sets.proofs.Numbers.{count_le, count_more, count_neither, count_has, length_distinct, has_push_cases, has_push, has_push_kept, has_with_same, has_with_kept, has_with_cases}
use Rattle.amo_params.specs.Givens.{IsJob, IsWorker, IsOther, next_other, bound}
use Rattle.amo_kk.specs.Record.{is_over, jobs_in_hand, empty_record}
use Rattle.amo_kk.specs.Choice.{chosen_job, record_after_choice, record_after_check, first_record}
use Rattle.amo_kk.specs.Step.{want, with_announced, record_after_phase}
use Rattle.amo_kk.specs.Run.{done_jobs}
use Rattle.amo_kk.specs.World.{process, loaded_value, world_after_turn}
use Rattle.amo_kk.specs.Alone.{world_after_turns}
use Rattle.amo_kk.specs.Lawful.{IsLawful, IsSoundProcess}
use Rattle.amo_params.specs.declared.givens.Givens.{Givens}
use Rattle.amo_kk.specs.declared.phase.Phase.{Phase}
use Rattle.amo_kk.specs.declared.phase.Phase.TheVariants.{Announcing, Trying, Reading, Claiming, Holding, Over, Left}
use Rattle.amo_kk.specs.declared.model.Record.{Record}
use Rattle.amo_kk.specs.declared.model.Process.{Process}
use Rattle.amo_kk.specs.declared.model.World.{World}
use Rattle.amo_kk.proofs.Choice.{open_parts, chosen_is, choice_cases, rank_within, next_other_next}
use Rattle.amo_kk.proofs.FirstChoice.{ranks_rise, first_choice}
use Rattle.amo_kk.proofs.Kept.{noted_cases, noted_same, noted_kept, none_before}
use Rattle.amo_kk.proofs.Runs.{HasDone, has_done}
use Rattle.amo_kk.proofs.Shows.{idle}
use Rattle.amo_bounds.specs.Fewest.{fewest}
use Rattle.amo_bounds.proofs.Turns.{IsAfterTurn, after_turn, check_passes}
use Rattle.amo_bounds.proofs.Still.{still, view, still_lawful, turn_of}
use Rattle.amo_bounds.proofs.TurnCases.{turn_cases}
use Rattle.amo_bounds.proofs.Stuck.{first, IsStuck, AreStuck, first_empty, first_phase, first_here}

-- three sets that share nothing
count_three : (t u : ℕ → Bool) (n : ℕ) → ((k : ℕ) → t k ≡ true → u k ≡ false) → count n (λ k. not (t k) && not (u k)) + count n t + count n u ≤ n
count_three t u zero h = omega arith
count_three t u (suc n) h = let l = count_three t u n h in let m = h (suc n) in grind (arith, nat_tests)

count_step : (t : ℕ → Bool) (i e : ℕ) → i < e → t e ≡ true → count i t + 1 ≤ count e t
count_step t i zero l h = absurd (omega arith)
count_step t i (suc e) l h = let m = count_more t i e (omega arith) in grind (arith, nat_tests)

module _ (g : Givens) (enough : g.beta ≤ g.jobs) where
  -- the fewest, in numbers
  pub record IsFewest (x : ℕ) : Type 0 where
    pub one : 1 ≤ x
    most : g.jobs + 2 ≤ x + g.beta + g.workers
    least : (d : ℕ) → 1 ≤ d → g.jobs + 2 ≤ d + g.beta + g.workers → x ≤ d

  pub fewest_is : IsFewest (fewest g)
  fewest_is = subst (λ b. IsFewest (if b then 0 else (if bound g == 0 then 1 else bound g))) (sym (le-ltb g.jobs g.beta enough)) (go (bound g == 0) refl)
    where
      go : (b : Bool) → (bound g == 0) ≡ b → IsFewest (if b then 1 else bound g)
      go true e = record { one = omega arith; most = let z : bound g ≡ 0 = grind (arith, nat_tests) in omega arith; least = λ d some h. some }
      go false e = record { one = let z : 1 ≤ bound g = grind (arith, nat_tests) in omega arith; most = let z : 1 ≤ bound g = grind (arith, nat_tests) in omega arith; least = λ d some h. omega arith }

  pub o : IsWorker g 1
  o = record { low = omega arith; high = g.limits.some }

  -- no other announced j
  abbrev pub IsUntaken : ℕ → Type 0
  IsUntaken j = (q : ℕ) → IsOther g 1 q → first g q ≢ j

  -- the announcements of the others before next were seen
  abbrev pub HasSeen : List ℕ → ℕ → Type 0
  HasSeen tried next = (q : ℕ) → IsOther g 1 q → q < next → has tried (first g q) ≡ true

  -- and of all others
  abbrev pub HasSeenAll : List ℕ → Type 0
  HasSeenAll tried = (q : ℕ) → IsOther g 1 q → has tried (first g q) ≡ true

  -- worker 1 is to perform j, which nobody else announced
  pub record IsAt (r : Record) (j : ℕ) : Type 0 where
    pub unknown : has r.known j ≡ false
    pub untaken : IsUntaken j
    pub less : length r.dones < fewest g

  abbrev pub AtPhase : Record → Phase → Type 0
  AtPhase r (Announcing j) = IsAt r j
  AtPhase r (Trying j next) = IsAt r j × HasSeen r.tried next
  AtPhase r (Reading j next) = IsAt r j × HasSeenAll r.tried
  AtPhase r (Claiming j) = IsAt r j × HasSeenAll r.tried
  AtPhase r (Holding j) = IsAt r j × HasSeenAll r.tried
  AtPhase r Over = length r.dones ≡ fewest g
  AtPhase r Left = ⊥

  -- what it knows it has done itself, and it has tried nothing but what others announced
  pub record IsGood (r : Record) : Type 0 where
    own : (i : ℕ) → has r.known i ≡ true → has r.dones i ≡ true
    apart : (i : ℕ) → has r.known i ≡ true → IsUntaken i
    pub tried : (i : ℕ) → IsUntaken i → has r.tried i ≡ false
    pub at : AtPhase r r.phase

  -- the first choices of the first k others that were seen
  seen_count : (t : ℕ → Bool) (k : ℕ) → k + 1 ≤ g.workers → ((q : ℕ) → IsOther g 1 q → t (first g q) ≡ true) → k ≤ count (first g (k + 1)) t
  seen_count t zero h all = omega arith
  seen_count t (suc k) h all =
      let before = seen_count t k (omega arith) all in
      let a : IsWorker g (k + 1) = record { low = omega arith; high = omega arith } in
      let b : IsWorker g (suc k + 1) = record { low = omega arith; high = h } in
      let rise : first g (k + 1) < first g (suc k + 1) = ranks_rise g (k + 1) (suc k + 1) g.jobs a b (omega arith) in
      let more = count_step t (first g (k + 1)) (first g (suc k + 1)) rise (all (suc k + 1) (record { worker = b; differs = λ e. omega arith })) in
      omega arith

  last_first : first g ((g.workers - 1) + 1) ≤ g.jobs
  last_first = (rank_within g ((g.workers - 1) + 1) g.jobs g.jobs (record { low = omega arith; high = let s = g.limits.some in omega arith }) (omega arith) (let low = g.limits.beta_low in omega arith)).1

  -- a choice after all were seen: it goes on while fewer jobs are done than must be
  chooses : (r : Record) → AreDistinct r.dones → ((j : ℕ) → has r.dones j ≡ true → IsJob g j) → ((j : ℕ) → has r.dones j ≡ true → has r.known j ≡ true)
      → ((i : ℕ) → has r.known i ≡ true → has r.dones i ≡ true) → ((i : ℕ) → has r.known i ≡ true → IsUntaken i) → ((i : ℕ) → IsUntaken i → has r.tried i ≡ false)
      → HasSeenAll r.tried → length r.tried < g.workers → length r.dones ≤ fewest g → 1 ≤ length r.dones
      → IsGood (still (record_after_choice g 1 r))
  chooses r distinct jobs knows own apart tried all few most some =
      choice_cases g 1 r (λ x. IsGood (still x))
      (λ over. record {
        own = own;
        apart = apart;
        tried = tried;
        at =
            let none = count_neither (has r.known) (has r.tried) g.jobs in
            let t = count_has r.tried g.jobs in
            let k = count_le (has r.known) (has r.dones) own g.jobs in
            let d = count_has r.dones g.jobs in
            let low = fewest_is.least (length r.dones) some (omega arith) in
            omega arith;
      })
      (λ goes_on.
      let found = chosen_is g 1 r o g.limits.beta_low few goes_on in
      let clear = open_parts (has r.known (chosen_job g 1 r)) (has r.tried (chosen_job g 1 r)) found.passes in
      record {
        own = own;
        apart = apart;
        tried = λ i _. refl;
        at = record {
          unknown = clear.0;
          untaken = λ q other e. true≢false (sym (all q other) ∙ ap (λ x. has r.tried x) e ∙ clear.1);
          less =
              let three = count_three (has r.known) (has r.tried) g.jobs (λ k h. tried k (apart k h)) in
              let d = length_distinct r.dones g.jobs distinct (λ j h. let job = jobs j h in (job.low, job.high)) in
              let k = count_le (has r.dones) (has r.known) knows g.jobs in
              let seen = seen_count (has r.tried) (g.workers - 1) (let s = g.limits.some in omega arith) all in
              let more = count_more (has r.tried) (first g ((g.workers - 1) + 1)) g.jobs last_first in
              let most = fewest_is.most in
              let least = g.limits.some in
              omega arith;
        };
      })

  -- worker 1 beside stuck others
  pub record IsRunning (w : World) : Type 0 where
    pub law : IsLawful g w
    pub stuck : (q : ℕ) → IsOther g 1 q → IsStuck (first g q) (process w q)
    counts : length (done_jobs w.history) ≡ length (process w 1).local.dones
    pub gone : (process w 1).gone ≡ is_over (process w 1).local.phase
    pub good : IsGood (view w 1).local

  -- a turn of worker 1
  module _ (w : World) (run : IsRunning w) (here : (process w 1).gone ≡ false) where
    abbrev r : Record
    r = (view w 1).local

    abbrev now : ℕ → Process
    now = view (world_after_turn g w 1)

    good : IsGood (view w 1).local
    good = run.good

    sound : IsSoundProcess g 1 (view w 1)
    sound = (still_lawful g w run.law).sound 1 o

    at_phase : (phase : Phase) → r.phase ≡ phase → AtPhase r phase
    at_phase phase is = subst (λ x. AtPhase r x) is good.at

    leaves : (x : Record) → (now 1).local ≡ x → IsGood x → IsGood (now 1).local
    leaves x e h = subst (λ y. IsGood y) (sym e) h

    -- it goes on with j
    goes_on : (phase : Phase) (j : ℕ) (tried : List ℕ) → IsAt r j → ((i : ℕ) → IsUntaken i → has tried i ≡ false) → AtPhase (record r { phase = phase; tried = tried; steps = 0 }) phase
        → (now 1).local ≡ record r { phase = phase; tried = tried; steps = 0 } → IsGood (now 1).local
    goes_on phase j tried at only h e = leaves _ e (record { own = good.own; apart = good.apart; tried = only; at = h })

    still_at : (j : ℕ) (phase : Phase) (tried : List ℕ) → IsAt r j → IsAt (record r { phase = phase; tried = tried; steps = 0 }) j
    still_at j phase tried at = record { unknown = at.unknown; untaken = at.untaken; less = at.less }

    -- the check of j passes
    passes : (j : ℕ) → IsAt r j → HasSeenAll r.tried → (now 1).local ≡ still (record_after_check g 1 j r) → IsGood (now 1).local
    passes j at all e = leaves (record r { phase = Claiming j; steps = 0 }) (e ∙ ap still (check_passes g 1 j r at.unknown (good.tried j at.untaken)))
        (record { own = good.own; apart = good.apart; tried = good.tried; at = (still_at j (Claiming j) r.tried at, all) })

    -- what was tried once the announcement of q is read
    abbrev noted : ℕ → List ℕ
    noted q = with_announced (view w q).next r.tried

    noted_only : (q : ℕ) → IsOther g 1 q → (i : ℕ) → IsUntaken i → has (noted q) i ≡ false
    noted_only q other i free = false_from_ne_true (has (noted q) i) (λ t. ⊎_elim
        (λ x. free q other (sym (run.stuck q other).next ∙ x.1))
        (λ x. true≢false (sym x ∙ good.tried i free))
        (noted_cases (view w q).next i r.tried t))

    noted_seen : (q : ℕ) → IsOther g 1 q → HasSeen r.tried q → HasSeen (noted q) (next_other 1 q)
    noted_seen q other seen i i_other less = ⊎_elim
        (λ (l : i < q). noted_kept (view w q).next (first g i) r.tried (seen i i_other l))
        (λ (m : q ≤ i).
        let l = next_other_next 1 q i i_other.differs less in
        let e : q ≡ i = omega arith in
        let said = (run.stuck q other).next in
        let low = (rank_within g q g.jobs g.jobs other.worker (omega arith) (let low = g.limits.beta_low in omega arith)).0 in
        subst (λ x. has (noted q) (first g x) ≡ true) e (subst (λ x. has (noted q) x ≡ true) said (noted_same (view w q).next r.tried (omega arith))))
        (cases_lt i q)

    -- it performs j
    performs : (j : ℕ) → r.phase ≡ Holding j → IsAt r j → HasSeenAll r.tried
        → (now 1).local ≡ still (record_after_choice g 1 (record r { dones = r.dones ++ j ∷ []; known = with_number j r.known })) → IsGood (now 1).local
    performs j is at all e = leaves _ e (chooses (record r { dones = r.dones ++ j ∷ []; known = with_number j r.known })
        (subst (λ l. AreDistinct l) list sound.local.distinct)
        (λ i h. sound.local.jobs i (ap (λ l. has l i) list ∙ h))
        (λ i h. ⊎_elim (λ t. has_with_kept j r.known i (sound.local.own i t)) (λ (e : j ≡ i). subst (λ y. has (with_number j r.known) y ≡ true) e (has_with_same j r.known)) (has_push_cases r.dones j i h))
        (λ i h. ⊎_elim (λ (e : j ≡ i). subst (λ y. has (r.dones ++ j ∷ []) y ≡ true) e (has_push r.dones j)) (λ t. has_push_kept r.dones j i (good.own i t)) (has_with_cases j r.known i h))
        (λ i h. ⊎_elim (λ (e : j ≡ i). subst (λ y. IsUntaken y) e at.untaken) (λ t. good.apart i t) (has_with_cases j r.known i h))
        good.tried all sound.local.tried_few
        (let size = length_push r.dones j in let less = at.less in omega arith)
        (let size = length_push r.dones j in omega arith))
      where
        list : r.claimed ≡ r.dones ++ j ∷ []
        list = sound.local.claims ∙ ap (λ x. r.dones ++ jobs_in_hand x) is

    pub good_turn : IsGood (now 1).local
    good_turn = turn_cases g (view w) now 1 (still_lawful g w run.law) (turn_of g w 1 run.law here) (IsGood (now 1).local)
        (λ j is none first e. let at = at_phase (Announcing j) is in
        goes_on (Trying j (next_other 1 0)) j r.tried at good.tried (still_at j (Trying j (next_other 1 0)) r.tried at, λ q other l. absurd (none_before g (view w) (still_lawful g w run.law) 1 o q other l)) e)
        (λ j is none nobody e. passes j (at_phase (Announcing j) is) (λ q other. absurd (nobody q other)) e)
        (λ j q is other in_range e. let at = at_phase (Trying j q) is in
        goes_on (Trying j (next_other 1 q)) j (noted q) at.0 (noted_only q other) (still_at j (Trying j (next_other 1 q)) (noted q) at.0, noted_seen q other at.1) e)
        (λ j q is other above first e. let at = at_phase (Trying j q) is in
        goes_on (Reading j (next_other 1 0)) j (noted q) at.0 (noted_only q other)
        (still_at j (Reading j (next_other 1 0)) (noted q) at.0, λ i i_other. noted_seen q other at.1 i i_other (let high = i_other.worker.high in omega arith)) e)
        (λ j q i is other more e. absurd (let none = ap length (run.stuck q other).dones in omega arith))
        (λ j q is other all in_range e. let at = at_phase (Reading j q) is in
        goes_on (Reading j (next_other 1 q)) j r.tried at.0 good.tried (still_at j (Reading j (next_other 1 q)) r.tried at.0, at.1) e)
        (λ j q is other all above e. let at = at_phase (Reading j q) is in passes j at.0 at.1 e)
        (λ j is e. let at = at_phase (Claiming j) is in
        leaves _ e (record { own = good.own; apart = good.apart; tried = good.tried; at = (record { unknown = at.0.unknown; untaken = at.0.untaken; less = at.0.less }, at.1) }))
        (λ j is e. let at = at_phase (Holding j) is in performs j is at.0 at.1 e)

  -- the record has more dones by what was in its hand
  hand_done : (p v : ℕ) (r : Record) (phase : Phase) → r.phase ≡ phase → (record_after_phase g p v r phase).dones ≡ r.dones ++ jobs_in_hand phase
  hand_done p v r phase is = go phase (has_done g p v r phase is)
    where
      go : (phase : Phase) → HasDone r (record_after_phase g p v r phase) phase → (record_after_phase g p v r phase).dones ≡ r.dones ++ jobs_in_hand phase
      go (Holding j) d = d.done
      go phase d = d.done

  pub running_turn : (w : World) → IsRunning w → (process w 1).gone ≡ false → IsRunning (world_after_turn g w 1)
  running_turn w run here =
      record {
        law = t.law;
        stuck = λ q other. subst (λ x. IsStuck (first g q) x) (sym (t.others q other.differs)) (run.stuck q other);
        counts =
            let hand = jobs_in_hand (process w 1).local.phase in
            let shown = ap length t.done ∙ length-append (done_jobs w.history) hand in
            let dones = ap (λ (x : Record). length x.dones) t.local ∙ ap length (hand_done 1 (loaded_value w (want (process w 1).local)) (process w 1).local (process w 1).local.phase refl)
            ∙ length-append (process w 1).local.dones hand in
            let before = run.counts in
            omega arith;
        gone = t.gone ∙ sym (ap (λ (x : Record). is_over x.phase) t.local);
        good = good_turn w run here;
      }
    where
      t : IsAfterTurn g w 1 (world_after_turn g w 1)
      t = after_turn g w 1 run.law here

  -- turns of worker 1, and no other moves
  pub keeps_running : (k : ℕ) (w : World) → IsRunning w → IsRunning (world_after_turns g w 1 k)
  keeps_running zero w run = run
  keeps_running (suc k) w run = keeps_running k (world_after_turn g w 1) (go (process w 1).gone refl)
    where
      go : (b : Bool) → (process w 1).gone ≡ b → IsRunning (world_after_turn g w 1)
      go true gone = subst (λ v. IsRunning v) (sym (idle g w 1 gone)) run
      go false here = running_turn w run here

  -- worker 1 at first, beside stuck others
  pub starts : (w : World) → AreStuck g (g.workers - 1) w → IsRunning w
  starts w s =
      record {
        law = s.law;
        stuck = λ q other. s.stuck q (let n = other.differs in let l = other.worker.low in two q l n) (let h = other.worker.high in omega arith);
        counts = ap length s.none ∙ sym (ap length (ap (λ (x : Process). x.local.dones) s.one ∙ first_empty g 1));
        gone = ap (λ (x : Process). x.gone) s.one ∙ first_here g enough 1 o ∙ sym (ap (λ (x : Process). is_over x.local.phase) s.one ∙ ap is_over (first_phase g enough 1 o));
        good = subst (λ (x : Process). IsGood (still x.local)) (sym s.one) (subst (λ x. IsGood (still x)) (sym whole) (record {
          own = λ i h. absurd (true≢false (sym h));
          apart = λ i h. absurd (true≢false (sym h));
          tried = λ i h. refl;
          at = record {
            unknown = refl;
            untaken = λ q other e. let l = ranks_rise g 1 q g.jobs o other.worker (two q other.worker.low other.differs) in omega arith;
            less = fewest_is.one;
          };
        }));
      }
    where
      two : (q : ℕ) → 1 ≤ q → q ≢ 1 → 2 ≤ q
      two q l n = ⊎_elim (λ e. absurd (n e)) (λ m. omega arith) (cases_eq q 1)

      whole : first_record g 1 ≡ record (empty_record g) { phase = Announcing (first g 1) }
      whole = choice_cases g 1 (empty_record g) (λ x. x.phase ≡ Announcing (first g 1) → x ≡ record (empty_record g) { phase = Announcing (first g 1) })
          (λ few e. absurd (true≢false (ap is_over e)))
          (λ many e. ap (λ y. record (empty_record g) { phase = y }) e)
          (first_choice g 1 o enough)

  -- and once it is gone, no more jobs are done than the fewest
  pub ends_with_the_fewest : (w : World) → IsRunning w → (process w 1).gone ≡ true → length (done_jobs w.history) ≡ fewest g
  ends_with_the_fewest w run gone = run.counts ∙ last (process w 1).local.phase (view w 1).local (sym run.gone ∙ gone) run.good.at
    where
      last : (phase : Phase) (r : Record) → is_over phase ≡ true → AtPhase r phase → length r.dones ≡ fewest g
      last Over r e h = h
      last phase r e h = absurd (true≢false (sym e))
