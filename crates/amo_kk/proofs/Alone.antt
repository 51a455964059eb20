-- Alone, a worker claims or ends soon: an attempt that began alone fails only for what was done
-- before, and the next one passes.
use Rattle.std.proofs.Common.{◌≡◌, ◌≢◌, ◌⊎◌, inl, inr, ⊎_elim, ℕ, zero, suc, ◌+◌, ◌-◌, ◌*◌, ◌<◌, ◌≤◌, true, false, not, ◌&&◌, [], ◌∷◌, ◌++◌, length, refl, sym, ap, ◌∙◌, subst, arith}
use Rattle.std.specs.Prelude.{if◌then◌else◌}
use Rattle.std.proofs.lemmas.Bool.{cases_eq, cases_lt, true≢false, false_from_ne_true}
use Rattle.amo_sets.specs.Lists.{numbered, put}
use Rattle.amo_sets.specs.Sets.{has, with_number}
use Rattle.amo_sets.specs.Rank.{count}
use Rattle.amo_params.specs.Givens.{AreGivens, IsWorker, IsOther, next_other, lone_bound}
use Rattle.amo_kk.specs.Record.{is_open, wants_nothing}
use Rattle.amo_kk.specs.Choice.{chosen_job, record_after_choice, record_after_check}
use Rattle.amo_kk.specs.Step.{want, with_announced}
use Rattle.amo_kk.specs.World.{process, loaded_value}
use Rattle.amo_kk.specs.Alone.{IsFirstToClaimOrEnd}
use Rattle.amo_kk.specs.Lawful.{IsLawful}
use Rattle.amo_params.specs.declared.givens.Givens.{Givens}
use Rattle.amo_kk.specs.declared.phase.Phase.{Phase}
use Rattle.amo_kk.specs.declared.phase.Phase.TheVariants.{Announcing, Trying, Reading, Claiming, Holding, Over, Left}
use Rattle.amo_kk.specs.declared.model.Record.{Record}
use Rattle.amo_kk.specs.declared.model.Process.{Process}
use Rattle.amo_kk.specs.declared.model.World.{World}
use Rattle.amo_sets.proofs.Numbers.{numbered-put_other}
use Rattle.amo_kk.proofs.Choice.{open_parts, chosen_is, choice_cases, check_cases, next_other_next}
use Rattle.amo_kk.proofs.Kept.{noted_cases, noted_same, noted_kept, first_other, none_before}
use Rattle.amo_kk.proofs.Worlds.{here_is_worker}
use Rattle.amo_kk.proofs.OwnTurns.{heard, read_of, one_fewer, stored_within, to_begin, left_from}
use Rattle.amo_kk.proofs.RowSums.{unread, unread_few}
use Rattle.amo_kk.proofs.LoneTurns.{ClaimsOrEndsWithin, first_of_them, IsLone, stepped, Ready, is_ready, turn, announces, hears, hears_next, reads, claims_now, never_idle}

module _ (g : Givens) (ok : AreGivens g) (p : ℕ) (o : IsWorker g p) (at : ℕ → Process) where
  -- turns from this phase to the check's end, entries of rows apart
  abbrev cost : Phase → ℕ
  cost (Announcing j) = 1 + 2 * (g.workers - 1)
  cost (Trying j q) = left_from g p q + (g.workers - 1)
  cost (Reading j q) = left_from g p q
  cost (Holding j) = 2 + 2 * (g.workers - 1)
  cost phase = 0

  abbrev whole_attempt : ℕ
  whole_attempt = 1 + 2 * (g.workers - 1)

  -- the job of the attempt
  abbrev IsOn : Phase → ℕ → Type 0
  IsOn (Announcing i) j = i ≡ j
  IsOn (Trying i q) j = i ≡ j
  IsOn (Reading i q) j = i ≡ j
  IsOn (Claiming i) j = i ≡ j
  IsOn phase j = ⊥

  -- all that the others have done was read
  abbrev AllRead : Record → Type 0
  AllRead r = (q : ℕ) → IsOther g p q → length (at q).local.dones ≤ numbered 0 r.fronts q

  -- an attempt on j that passes its check: all rows are read, and nobody announces j
  record Passes (r : Record) (j k n : ℕ) : Type 0 where
    on : IsOn r.phase j
    read : AllRead r
    unknown : has r.known j ≡ false
    untried : has r.tried j ≡ false
    apart : (q : ℕ) → IsOther g p q → (at q).next ≢ j
    bound : cost r.phase < k
    stores : to_begin r.phase ≤ n

  check_open : (j : ℕ) (r : Record) → has r.known j ≡ false → has r.tried j ≡ false → record_after_check g p j r ≡ record r { phase = Claiming j }
  check_open j r a b = λ i. if not (a i) && not (b i) then record r { phase = Claiming j } else record_after_choice g p r

  -- in each such world whose record of p passes the test, p claims or ends within k turns and so many stores
  abbrev Leads : (Record → ℕ → ℕ → Type 0) → ℕ → Type 0
  Leads Holds k = (n : ℕ) (w : World) → IsLone g p at w → Holds (process w p).local k n → ClaimsOrEndsWithin g p k n w

  -- so it does if each turn leads on
  by_turns : (Holds : Record → ℕ → ℕ → Type 0) → ((r : Record) (n : ℕ) → Holds r 0 n → ⊥) → ((k : ℕ) → Leads Holds k → Leads Holds (suc k)) → (k : ℕ) → Leads Holds k
  by_turns Holds none step zero n w lone l = absurd (none (process w p).local n l)
  by_turns Holds none step (suc k) n w lone l = step k (by_turns Holds none step k) n w lone l

  passes_step : (j k : ℕ) → Leads (λ r. Passes r j) k → Leads (λ r. Passes r j) (suc k)
  passes_step j k next n w lone l = go (process w p).local.phase refl
    where
      r : Record
      r = (process w p).local

      v : ℕ
      v = loaded_value w (want r)

      to : (m : ℕ) (x : Record) → Passes x j k m → Ready g ok p o at k m x
      to m x = is_ready g ok p o at (λ y. Passes y j k m) k m x (next m)

      claim : (m i : ℕ) → i ≡ j → 1 ≤ k → Ready g ok p o at k m (stepped r (record_after_check g p i r))
      claim m i e some = subst (λ x. Ready g ok p o at k m (stepped r x)) (sym (check_open i r (subst (λ x. has r.known x ≡ false) (sym e) l.unknown) (subst (λ x. has r.tried x ≡ false) (sym e) l.untried)))
          (to _ _ (record { on = e; read = l.read; unknown = l.unknown; untried = l.untried; apart = l.apart; bound = some; stores = omega arith }))

      go : (phase : Phase) → r.phase ≡ phase → ClaimsOrEndsWithin g p (suc k) n w
      go (Announcing i) is =
          let on : i ≡ j = subst (λ x. IsOn x j) is l.on in
          let b : 1 + 2 * (g.workers - 1) < suc k = subst (λ x. cost x < suc k) is l.bound in
          let c : 1 ≤ n = subst (λ x. to_begin x ≤ n) is l.stores in
          announces g ok p o at k n i w is c lone
          (to _ _ (record { on = on; read = l.read; unknown = l.unknown; untried = l.untried; apart = l.apart; bound = omega arith; stores = omega arith }))
          (λ above. claim _ i on (omega arith))
      go (Trying i q) is =
          let on : i ≡ j = subst (λ x. IsOn x j) is l.on in
          let b : left_from g p q + (g.workers - 1) < suc k = subst (λ x. cost x < suc k) is l.bound in
          let other = heard g w p i q lone.law o is in
          let fewer = one_fewer g p q o other in
          let none : has (with_announced v r.tried) j ≡ false = false_from_ne_true (has (with_announced v r.tried) j) (λ t. ⊎_elim (λ x. l.apart q other (sym (hears_next g ok p o at w lone i q is) ∙ x.1)) (λ x. true≢false (sym x ∙ l.untried)) (noted_cases v j r.tried t)) in
          hears g ok p o at k n i q w is lone
          (to _ _ (record { on = on; read = l.read; unknown = l.unknown; untried = none; apart = l.apart; bound = omega arith; stores = omega arith }))
          (λ above. to _ _ (record { on = on; read = l.read; unknown = l.unknown; untried = none; apart = l.apart; bound = omega arith; stores = omega arith }))
      go (Reading i q) is =
          let on : i ≡ j = subst (λ x. IsOn x j) is l.on in
          let b : left_from g p q < suc k = subst (λ x. cost x < suc k) is l.bound in
          let other = read_of g w p i q lone.law o is in
          let fewer = one_fewer g p q o other in
          let all = l.read q other in
          reads g ok p o at k n i q w is lone
          (λ _. to _ _ (record { on = on; read = l.read; unknown = l.unknown; untried = l.untried; apart = l.apart; bound = omega arith; stores = omega arith }))
          (λ _ above. claim _ i on (omega arith))
          (λ below _. absurd (omega arith))
      go (Claiming i) is = claims_now g ok p o at k n i w is
      go phase is = absurd (subst (λ x. IsOn x j) is l.on)

  passes : (j k : ℕ) → Leads (λ r. Passes r j) k
  passes j k = by_turns (λ r. Passes r j) (λ r n l. let b = l.bound in omega arith) (passes_step j) k

  -- the announcement of q is noted
  abbrev IsNoted : Record → ℕ → Type 0
  IsNoted r q = ((at q).next ≡ 0) ⊎ (has r.tried (at q).next ≡ true)

  -- all announcements of the others are noted
  abbrev AllNoted : Record → Type 0
  AllNoted r = (q : ℕ) → IsOther g p q → IsNoted r q

  -- in an attempt that began alone: what it has seen is so still
  abbrev Sees : Record → Phase → Type 0
  Sees r (Trying i next) = (q : ℕ) → IsOther g p q → q < next → IsNoted r q
  Sees r (Reading i next) = AllNoted r × ((q : ℕ) → IsOther g p q → q < next → length (at q).local.dones ≤ numbered 0 r.fronts q)
  Sees r phase = Unit {0}

  -- an attempt that began alone: if it fails, the next one passes
  record Began (r : Record) (k n : ℕ) : Type 0 where
    sees : Sees r r.phase
    bound : cost r.phase + unread g p at r + whole_attempt < k
    stores : to_begin r.phase + 1 ≤ n

  -- a choice after such an attempt
  chosen_passes : (k n steps : ℕ) (r : Record) → length r.tried < g.workers → g.beta ≤ count g.jobs (is_open r) → whole_attempt < k → 1 ≤ n → AllNoted r → AllRead r
      → Passes (record r { phase = Announcing (chosen_job g p r); tried = []; steps = steps }) (chosen_job g p r) k n
  chosen_passes k n steps r few many room enough noted_all read_all =
      let c = chosen_is g p r o ok.beta_low few many in
      let e = chosen_job g p r in
      let open_now = open_parts (has r.known e) (has r.tried e) c.passes in
      record {
        on = refl;
        read = read_all;
        unknown = open_now.0;
        untried = refl;
        apart = λ q other same. ⊎_elim (λ (z : (at q).next ≡ 0). let l = c.low in omega arith) (λ t. true≢false (sym t ∙ ap (λ x. has r.tried x) same ∙ open_now.1)) (noted_all q other);
        bound = room;
        stores = enough;
      }

  -- the check after such an attempt
  rechecks : (k n steps i : ℕ) → Leads Began k
      → (r : Record) → length r.tried < g.workers → unread g p at r + whole_attempt < k → 1 ≤ n → AllNoted r → AllRead r
      → Ready g ok p o at k n (record (record_after_check g p i r) { steps = steps })
  rechecks k n steps i next r few room enough noted_all read_all =
      check_cases g p i r (λ x. Ready g ok p o at k n (record x { steps = steps }))
      (λ _ _. is_ready g ok p o at (λ y. Began y k n) k n (record r { phase = Claiming i; steps = steps }) (next n) (record { sees = tt; bound = omega arith; stores = omega arith }))
      (choice_cases g p r (λ x. Ready g ok p o at k n (record x { steps = steps }))
      (λ over alive. absurd (true≢false alive))
      (λ many. is_ready g ok p o at (λ y. Passes y (chosen_job g p r) k n) k n (record r { phase = Announcing (chosen_job g p r); tried = []; steps = steps }) (passes (chosen_job g p r) k n)
      (chosen_passes k n steps r few many (omega arith) enough noted_all read_all)))

  -- what is noted after the announcement of q0
  noted_to : (r : Record) (v q0 : ℕ) → v ≡ (at q0).next → ((q : ℕ) → IsOther g p q → q < q0 → IsNoted r q)
      → (q : ℕ) → IsOther g p q → q < next_other p q0 → ((at q).next ≡ 0) ⊎ (has (with_announced v r.tried) (at q).next ≡ true)
  noted_to r v q0 is before q other h =
      let l = next_other_next p q0 q other.differs h in
      ⊎_elim
      (λ (m : q < q0). ⊎_elim (λ z. inl z) (λ t. inr (noted_kept v (at q).next r.tried t)) (before q other m))
      (λ (m : q0 ≤ q). let e : q0 ≡ q = omega arith in
      subst (λ x. ((at x).next ≡ 0) ⊎ (has (with_announced v r.tried) (at x).next ≡ true)) e
      (subst (λ y. (y ≡ 0) ⊎ (has (with_announced v r.tried) y ≡ true)) is (⊎_elim (λ (z : v ≡ 0). inl z) (λ n. inr (noted_same v r.tried (omega arith))) (cases_eq v 0))))
      (cases_lt q q0)

  -- what is read once the whole row of q0 is
  read_to : (r : Record) (q0 : ℕ) → length (at q0).local.dones ≤ numbered 0 r.fronts q0 → ((q : ℕ) → IsOther g p q → q < q0 → length (at q).local.dones ≤ numbered 0 r.fronts q)
      → (q : ℕ) → IsOther g p q → q < next_other p q0 → length (at q).local.dones ≤ numbered 0 r.fronts q
  read_to r q0 whole before q other h = ⊎_elim
      (λ (m : q < q0). before q other m)
      (λ (m : q0 ≤ q). let n = next_other_next p q0 q other.differs h in let e : q0 ≡ q = omega arith in subst (λ x. length (at x).local.dones ≤ numbered 0 r.fronts x) e whole)
      (cases_lt q q0)

  began_step : (k : ℕ) → Leads Began k → Leads Began (suc k)
  began_step k next n w lone l = go (process w p).local.phase refl
    where
      r : Record
      r = (process w p).local

      v : ℕ
      v = loaded_value w (want r)

      few : length r.tried < g.workers
      few = (lone.law.lawful.sound p o).local.tried_few

      to : (m : ℕ) (x : Record) → Began x k m → Ready g ok p o at k m x
      to m x = is_ready g ok p o at (λ y. Began y k m) k m x (next m)

      -- nobody comes before the first other
      none_yet : {A : Type 0} (q : ℕ) → IsOther g p q → q < next_other p 0 → A
      none_yet q other h = absurd (none_before g (process w) lone.law.lawful p o q other h)

      go : (phase : Phase) → r.phase ≡ phase → ClaimsOrEndsWithin g p (suc k) n w
      go (Announcing i) is =
          let b : 1 + 2 * (g.workers - 1) + unread g p at r + whole_attempt < suc k = subst (λ x. cost x + unread g p at r + whole_attempt < suc k) is l.bound in
          let nobody_else : g.workers < next_other p 0 → (q : ℕ) → IsOther g p q → ⊥ = λ h q other. let f = (first_other g (process w) lone.law.lawful p o q other).worker.high in omega arith in
          let c : 1 + 1 ≤ n = subst (λ x. to_begin x + 1 ≤ n) is l.stores in
          announces g ok p o at k n i w is (omega arith) lone
          (to _ _ (record { sees = λ q other h. none_yet q other h; bound = omega arith; stores = omega arith }))
          (λ above. rechecks k _ _ i next r few (omega arith) (omega arith) (λ q other. absurd (nobody_else above q other)) (λ q other. absurd (nobody_else above q other)))
      go (Trying i q0) is =
          let sees : (q : ℕ) → IsOther g p q → q < q0 → IsNoted r q = subst (λ x. Sees r x) is l.sees in
          let b : left_from g p q0 + (g.workers - 1) + unread g p at r + whole_attempt < suc k = subst (λ x. cost x + unread g p at r + whole_attempt < suc k) is l.bound in
          let fewer = one_fewer g p q0 o (heard g w p i q0 lone.law o is) in
          let noted_now = noted_to r v q0 (hears_next g ok p o at w lone i q0 is) sees in
          let c : 0 + 1 ≤ n = subst (λ x. to_begin x + 1 ≤ n) is l.stores in
          hears g ok p o at k n i q0 w is lone
          (to _ _ (record { sees = noted_now; bound = omega arith; stores = omega arith }))
          (λ above. to _ _ (record { sees = ((λ q other. noted_now q other (let h = other.worker.high in omega arith)), λ q other h. none_yet q other h); bound = omega arith; stores = omega arith }))
      go (Reading i q0) is =
          let sees : AllNoted r × ((q : ℕ) → IsOther g p q → q < q0 → length (at q).local.dones ≤ numbered 0 r.fronts q) = subst (λ x. Sees r x) is l.sees in
          let b : left_from g p q0 + unread g p at r + whole_attempt < suc k = subst (λ x. cost x + unread g p at r + whole_attempt < suc k) is l.bound in
          let c : 0 + 1 ≤ n = subst (λ x. to_begin x + 1 ≤ n) is l.stores in
          let fewer = one_fewer g p q0 o (read_of g w p i q0 lone.law o is) in
          reads g ok p o at k n i q0 w is lone
          (λ whole. to _ _ (record { sees = (sees.0, read_to r q0 whole sees.1); bound = omega arith; stores = omega arith }))
          (λ whole above. rechecks k _ _ i next r few (omega arith) (omega arith) sees.0 (λ q other. read_to r q0 whole sees.1 q other (let h = other.worker.high in omega arith)))
          (λ below less. let bound_now = l.bound in to _ _ (record {
            sees = subst (λ x. Sees (record r { known = with_number v r.known; fronts = put r.fronts q0 (numbered 0 r.fronts q0 + 1) }) x) (sym is)
                (sees.0, λ q other h. subst (λ x. length (at q).local.dones ≤ x) (sym (numbered-put_other 0 (numbered 0 r.fronts q0 + 1) r.fronts q0 q (λ e. omega arith))) (sees.1 q other h));
            bound = omega arith;
            stores = subst (λ x. to_begin x + 1 ≤ n - 0) (sym is) (omega arith);
          }))
      go (Claiming i) is = claims_now g ok p o at k n i w is
      go (Holding i) is =
          let b : 2 + 2 * (g.workers - 1) + unread g p at r + whole_attempt < suc k = subst (λ x. cost x + unread g p at r + whole_attempt < suc k) is l.bound in
          let c : 1 + 1 ≤ n = subst (λ x. to_begin x + 1 ≤ n) is l.stores in
          turn g ok p o at k n w (Holding i) is (omega arith) lone (choice_cases g p (record r { dones = r.dones ++ i ∷ []; known = with_number i r.known }) (λ x. Ready g ok p o at k (n - 0) (stepped r x))
          (λ over alive. absurd (true≢false alive))
          (λ many. to _ _ (record { sees = tt; bound = omega arith; stores = omega arith })))
      go phase is = absurd (never_idle g ok p o at w lone (ap wants_nothing is))

  began : (k : ℕ) → Leads Began k
  began k = by_turns Began (λ r n l. let b = l.bound in omega arith) began_step k

  -- any attempt: if it fails, the next one began alone
  record Goes (r : Record) (k n : ℕ) : Type 0 where
    bound : cost r.phase + unread g p at r + 2 * whole_attempt < k
    stores : to_begin r.phase + 2 ≤ n

  goes_step : (k : ℕ) → Leads Goes k → Leads Goes (suc k)
  goes_step k next n w lone l = go (process w p).local.phase refl
    where
      r : Record
      r = (process w p).local

      to : (m : ℕ) (x : Record) → Goes x k m → Ready g ok p o at k m x
      to m x = is_ready g ok p o at (λ y. Goes y k m) k m x (next m)

      checks : (m i : ℕ) → unread g p at r + 2 * whole_attempt < k → 2 ≤ m → Ready g ok p o at k m (stepped r (record_after_check g p i r))
      checks m i room enough = check_cases g p i r (λ x. Ready g ok p o at k m (stepped r x))
          (λ _ _. to m (stepped r (record r { phase = Claiming i })) (record { bound = omega arith; stores = omega arith }))
          (choice_cases g p r (λ x. Ready g ok p o at k m (stepped r x))
          (λ over alive. absurd (true≢false alive))
          (λ many. is_ready g ok p o at (λ y. Began y k m) k m (stepped r (record r { phase = Announcing (chosen_job g p r); tried = [] })) (began k m) (record { sees = tt; bound = omega arith; stores = omega arith })))

      -- an attempt that is still to begin begins alone
      begins : Sees r r.phase → ClaimsOrEndsWithin g p (suc k) n w
      begins sees = let b = l.bound in let c = l.stores in began (suc k) n w lone (record { sees = sees; bound = omega arith; stores = omega arith })

      go : (phase : Phase) → r.phase ≡ phase → ClaimsOrEndsWithin g p (suc k) n w
      go (Trying i q) is =
          let b : left_from g p q + (g.workers - 1) + unread g p at r + 2 * whole_attempt < suc k = subst (λ x. cost x + unread g p at r + 2 * whole_attempt < suc k) is l.bound in
          let c : 0 + 2 ≤ n = subst (λ x. to_begin x + 2 ≤ n) is l.stores in
          let fewer = one_fewer g p q o (heard g w p i q lone.law o is) in
          hears g ok p o at k n i q w is lone
          (to _ _ (record { bound = omega arith; stores = omega arith }))
          (λ above. to _ _ (record { bound = omega arith; stores = omega arith }))
      go (Reading i q) is =
          let b : left_from g p q + unread g p at r + 2 * whole_attempt < suc k = subst (λ x. cost x + unread g p at r + 2 * whole_attempt < suc k) is l.bound in
          let c : 0 + 2 ≤ n = subst (λ x. to_begin x + 2 ≤ n) is l.stores in
          let fewer = one_fewer g p q o (read_of g w p i q lone.law o is) in
          reads g ok p o at k n i q w is lone
          (λ _. to _ _ (record { bound = omega arith; stores = omega arith }))
          (λ _ _. checks _ i (omega arith) (omega arith))
          (λ below less. let b' = l.bound in let c' = l.stores in to _ _ (record { bound = omega arith; stores = omega arith }))
      go (Claiming i) is = claims_now g ok p o at k n i w is
      go Over is = absurd (never_idle g ok p o at w lone (ap wants_nothing is))
      go Left is = absurd (never_idle g ok p o at w lone (ap wants_nothing is))
      go phase is = begins (subst (λ x. Sees r x) (sym is) tt)

  goes : (k : ℕ) → Leads Goes k
  goes k = by_turns Goes (λ r n l. let b = l.bound in omega arith) goes_step k

  -- the turns to the end of three attempts, entries apart
  few_turns : (phase : Phase) → cost phase + 2 * whole_attempt < 6 * g.workers
  few_turns (Announcing j) = let s = ok.some in omega arith
  few_turns phase = let s = ok.some in omega arith

-- Consider a worker that isn't gone, in any lawful world. It claims a job or ends within lone_bound
-- turns of its own, and begins at most three attempts, or two if it is in one.
pub stores_few : (g : Givens) (w : World) (p : ℕ) → AreGivens g → IsLawful g w → (process w p).gone ≡ false
    → (i : ℕ) × (i < lone_bound g) × IsFirstToClaimOrEnd g w p i × (stored_within g w p i ≤ to_begin (process w p).local.phase + 2)
stores_few g w p ok law here =
    let o = here_is_worker g w p law.size here in
    let phase = (process w p).local.phase in
    let turns = few_turns g ok p o (process w) phase in
    let entries = unread_few g p w law (process w p).local in
    first_of_them g p (lone_bound g) _ w (goes g ok p o (process w) (lone_bound g) (to_begin phase + 2) w
    (record { law = law; here = here; same = λ q n. refl })
    (record { bound = omega arith; stores = omega arith }))

pub claims_or_ends_soon : (g : Givens) (w : World) (p : ℕ) → AreGivens g → IsLawful g w → (process w p).gone ≡ false → (i : ℕ) × (i < lone_bound g) × IsFirstToClaimOrEnd g w p i
claims_or_ends_soon g w p ok law here = let f = stores_few g w p ok law here in (f.0, f.1, f.2)
