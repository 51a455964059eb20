-- Each step of a worker, and each stop, keeps what is lawful.
use Rattle.std.proofs.Common.{◌≡◌, ◌≢◌, ◌⊎◌, inl, inr, ⊎_elim, ℕ, suc, ◌+◌, ◌-◌, ◌<◌, ◌≤◌, Bool, true, false, ◌||◌, List, [], ◌∷◌, ◌++◌, length, get_or, set, refl, sym, ap, ◌∙◌, subst, arith, add-one, length-append, min, ◌^◌}
use Rattle.std.specs.Prelude.{◌==◌, if◌then◌else◌}
use Rattle.std.proofs.lemmas.Bool.Decides.{nat_tests}
use Rattle.std.proofs.lemmas.Bool.{cases_Bool, cases_eq, cases_lt, true≢false, or_from, or_left, eqb-true, eqb-false}
use Rattle.std.proofs.lemmas.List.{get_or_past, get_or-set_same, get_or-set_other, get_or_push, get_or_append_left, length_push, append-nil}
use Rattle.amo_sets.specs.Lists.{numbered, put}
use Rattle.amo_sets.specs.Sets.{has, with_number}
use Rattle.amo_params.specs.Givens.{IsJob, IsWorker, IsOther, next_other, others_before}
use Rattle.amo_kk.specs.Record.{wants_nothing, jobs_in_hand, IsPast, IsThrough, IsClear}
use Rattle.amo_kk.specs.Choice.{chosen_job, record_after_choice, record_after_check}
use Rattle.amo_kk.specs.Step.{want_in, with_announced, record_at_row, record_at_announcement, record_after_phase, record_after, record_after_leave}
use Rattle.amo_kk.specs.World.{process_after}
use Rattle.amo_kk.specs.Lawful.{Announces, FitsPhase, IsSoundRecord, IsSoundProcess, IsDoneByOther, IsUnclaimedByOther, IsSoundTowards, IsDone, AreLawful}
use Rattle.amo_kk.specs.declared.phase.Want.{Want}
use Rattle.amo_kk.specs.declared.phase.Want.TheVariants.{StoreNext, LoadNext, LoadDone}
use Rattle.amo_params.specs.declared.givens.Givens.{Givens}
use Rattle.amo_kk.specs.declared.phase.Phase.{Phase}
use Rattle.amo_kk.specs.declared.phase.Phase.TheVariants.{Announcing, Trying, Reading, Claiming, Holding, Over, Left}
use Rattle.amo_kk.specs.declared.model.Record.{Record}
use Rattle.amo_kk.specs.declared.model.Process.{Process}
use Rattle.amo_sets.proofs.Numbers.{numbered-put_same, numbered-put_other, length-put, has-get_or, get_or-has, has-append, length_distinct, count_le_all, length-with_number, has_with_same, has_with_kept, has_with_cases, has_with_none, has_push, has_push_kept, has_push_cases, has_push_none, distinct_push}
use Rattle.amo_kk.proofs.Choice.{chosen_is_job, choice_cases, check_cases, to_row_cases, to_announcement_cases, next_other_differs, next_other_above, next_other_next}

-- the facts that a step of p keeps, a being p after it
pub record IsKept (g : Givens) (at : ℕ → Process) (p : ℕ) (a : Process) : Type 0 where
  pub sound : IsSoundProcess g p a
  pub mine : (q : ℕ) → IsOther g p q → IsSoundTowards p a.local q (at q).local
  pub theirs : (q : ℕ) → IsOther g p q → IsSoundTowards q (at q).local p a.local
  pub known : (j : ℕ) → has a.local.known j ≡ true → (has a.local.dones j ≡ true) ⊎ IsDone g at j
  pub dones : (j : ℕ) → has (at p).local.dones j ≡ true → has a.local.dones j ≡ true

-- a record after a step that neither claims nor does a job
abbrev pub quiet_record : Record → Phase → List ℕ → List ℕ → List ℕ → ℕ → Record
quiet_record r phase known tried fronts steps = record { phase = phase; known = known; tried = tried; fronts = fronts; claimed = r.claimed; dones = r.dones; steps = steps }

abbrev pub quiet_process : Process → Phase → List ℕ → List ℕ → List ℕ → ℕ → ℕ → Process
quiet_process a phase known tried fronts steps next =
    record { local = quiet_record a.local phase known tried fronts steps; next = next; claim = a.claim; row = a.row; gone = wants_nothing phase }

-- The facts about the sets and fronts of such a record, and about the announcement, in each phase.
pub record HasSeen (g : Givens) (at : ℕ → Process) (p : ℕ) (known tried fronts : List ℕ) (word : ℕ) : Type 0 where
  pub next : word ≤ g.jobs
  pub kept : (j : ℕ) → has (at p).local.known j ≡ true → has known j ≡ true
  pub known_done : (j : ℕ) → has known j ≡ true → IsDone g at j
  pub tried_few : length tried < g.workers
  pub tried_jobs : (j : ℕ) → has tried j ≡ true → IsJob g j
  pub fronts_size : length fronts ≡ g.workers
  pub few_read : (q : ℕ) → numbered 0 fronts q ≤ g.jobs
  pub front : (q : ℕ) → IsOther g p q → numbered 0 fronts q ≤ length (at q).local.dones
  pub read : (q k : ℕ) → IsOther g p q → k < numbered 0 fronts q → has known (get_or (at q).local.dones k 0) ≡ true

-- The needs of the phase of such a record r, which was old.
pub record IsPlaced (g : Givens) (p : ℕ) (r : Record) (word : ℕ) : Type 0 where
  pub announces : Announces r.phase word
  pub empty : jobs_in_hand r.phase ≡ []
  pub stands : FitsPhase g p r r.phase

-- The duty of such a record towards worker q, with record s, on job j.
abbrev pub Owes : ℕ → Record → Record → ℕ → Record → ℕ → Type 0
Owes p old r q s j = IsClear r q j → (IsDoneByOther r q j s ⊎ IsUnclaimedByOther p j s) × (IsClear s p j → IsClear old q j)

-- a worker that is past announcing j announces j
pub announced : (g : Givens) (q p i : ℕ) (b : Process) → IsSoundProcess g q b → IsClear b.local p i → b.next ≡ i
announced g q p i b sound clear = go b.local.phase sound.announces clear.0
  where
    go : (phase : Phase) → Announces phase b.next → IsPast phase p i → b.next ≡ i
    go (Trying k n) a c = a ∙ c.0
    go (Reading k n) a c = a ∙ c
    go (Claiming k) a c = a ∙ c
    go (Holding k) a c = a ∙ c
    go phase a c = absurd c

-- a worker that does not announce i has done it, or has not claimed it and is not clear of anybody
-- on it
pub unannounced : (g : Givens) (q p i : ℕ) (b : Process) → IsSoundProcess g q b → b.next ≢ i → (has b.local.dones i ≡ true) ⊎ IsUnclaimedByOther p i b.local
unannounced g q p i b sound other = ⊎_elim inl (λ not_done. inr (record { free = ap (λ l. has l i) sound.local.claims ∙ has-append b.local.dones (jobs_in_hand b.local.phase) i ∙ none not_done; unclear = λ c. other (announced g q p i b sound c) })) (cases_Bool (has b.local.dones i))
  where
    hand : (phase : Phase) → Announces phase b.next → has (jobs_in_hand phase) i ≡ false
    hand (Holding k) a = one k (λ e. other (a ∙ e))
      where
        one : (k : ℕ) → k ≢ i → ((k == i) || false) ≡ false
        one k n = grind (arith, nat_tests)
    hand phase a = refl

    none : has b.local.dones i ≡ false → (has b.local.dones i || has (jobs_in_hand b.local.phase) i) ≡ false
    none not_done = or_from _ _ not_done (hand b.local.phase sound.announces)

-- what an announcement adds to tried

pub noted_kept : (v i : ℕ) (tried : List ℕ) → has tried i ≡ true → has (with_announced v tried) i ≡ true
noted_kept v i tried h = go (v == 0)
  where
    go : (b : Bool) → has (if b then tried else with_number v tried) i ≡ true
    go true = h
    go false = has_with_kept v tried i h

pub noted_length : (v : ℕ) (tried : List ℕ) → length (with_announced v tried) ≤ suc (length tried)
noted_length v tried = go (v == 0)
  where
    go : (b : Bool) → length (if b then tried else with_number v tried) ≤ suc (length tried)
    go true = omega arith
    go false = length-with_number v tried

pub noted_cases : (v i : ℕ) (tried : List ℕ) → has (with_announced v tried) i ≡ true → ((1 ≤ v) × (v ≡ i)) ⊎ (has tried i ≡ true)
noted_cases v i tried = go (v == 0) refl
  where
    go : (b : Bool) → (v == 0) ≡ b → has (if b then tried else with_number v tried) i ≡ true → ((1 ≤ v) × (v ≡ i)) ⊎ (has tried i ≡ true)
    go true e h = inr h
    go false e h = ⊎_elim (λ (x : v ≡ i). inl (omega (arith, eqb-false v 0 e), x)) inr (has_with_cases v tried i h)

pub noted_none : (v i : ℕ) (tried : List ℕ) → 1 ≤ i → has (with_announced v tried) i ≡ false → (v ≢ i) × (has tried i ≡ false)
noted_none v i tried l = go (v == 0) refl
  where
    go : (b : Bool) → (v == 0) ≡ b → has (if b then tried else with_number v tried) i ≡ false → (v ≢ i) × (has tried i ≡ false)
    go true e h = let z : v ≡ 0 = eqb-true v 0 e in ((λ x. omega arith), h)
    go false e h = has_with_none v tried i h

-- what was announced is noted, unless it is nothing
pub noted_same : (v : ℕ) (tried : List ℕ) → 1 ≤ v → has (with_announced v tried) v ≡ true
noted_same v tried l = go (v == 0) refl
  where
    go : (b : Bool) → (v == 0) ≡ b → has (if b then tried else with_number v tried) v ≡ true
    go true e = let z : v ≡ 0 = eqb-true v 0 e in absurd (omega arith)
    go false e = has_with_same v tried

pub others_room : (p q m : ℕ) → 1 ≤ p → p ≤ m → 1 ≤ q → q ≤ m → q ≢ p → suc (others_before p q) < m
others_room p q m a b c d n = grind (arith, nat_tests)

pub others_next : (p q : ℕ) → 1 ≤ p → 1 ≤ q → q ≢ p → others_before p (next_other p q) ≡ suc (others_before p q)
others_next p q a b n = grind (arith, nat_tests)

pub numbered_next : {X : Type 0} (d : X) (xs : List X) (k : ℕ) → numbered d xs (k + 1) ≡ get_or xs k d
numbered_next d xs k = rw add-one refl

pub put_next : {X : Type 0} (xs : List X) (k : ℕ) (x : X) → put xs (k + 1) x ≡ set xs k x
put_next xs k x = rw add-one refl

-- one more entry, in the list and in the words
row_push : (row dones : List ℕ) (j : ℕ) → length dones < length row → ((k : ℕ) → get_or row k 0 ≡ get_or dones k 0) → (k : ℕ) → get_or (put row (length dones + 1) j) k 0 ≡ get_or (dones ++ j ∷ []) k 0
row_push row dones j room same k = ap (λ l. get_or l k 0) (put_next row (length dones) j) ∙ ⊎_elim here (λ n. ⊎_elim (before n) (behind n) (cases_lt k (length dones))) (cases_eq k (length dones))
  where
    here : k ≡ length dones → get_or (set row (length dones) j) k 0 ≡ get_or (dones ++ j ∷ []) k 0
    here e = subst (λ x. get_or (set row (length dones) j) x 0 ≡ get_or (dones ++ j ∷ []) x 0) (sym e) (get_or-set_same row (length dones) j 0 room ∙ sym (get_or_push dones j 0 (length dones) refl))

    before : k ≢ length dones → k < length dones → get_or (set row (length dones) j) k 0 ≡ get_or (dones ++ j ∷ []) k 0
    before n l = get_or-set_other row (length dones) k j 0 n ∙ same k ∙ sym (get_or_append_left dones (j ∷ []) 0 k l)

    behind : k ≢ length dones → length dones ≤ k → get_or (set row (length dones) j) k 0 ≡ get_or (dones ++ j ∷ []) k 0
    behind n l = get_or-set_other row (length dones) k j 0 n ∙ same k ∙ get_or_past dones k 0 l ∙ sym (get_or_past (dones ++ j ∷ []) k 0 (let e = length_push dones j in omega arith))

-- a test is not both true and false
pub not_both : {X : Type 0} (b : Bool) → b ≡ true → b ≡ false → X
not_both b t f = absurd (true≢false (sym t ∙ f))

-- v is what a load gives
abbrev pub Hears : (ℕ → Process) → Want → ℕ → Type 0
Hears at (LoadNext q) v = v ≡ (at q).next
Hears at (LoadDone q k) v = v ≡ numbered 0 (at q).row k
Hears at want v = Unit {0}

module _ (g : Givens) (at : ℕ → Process) (before : AreLawful g at) (p : ℕ) (w : IsWorker g p) where
  -- p with another record of the same claims and dones, and another announcement
  pub sound_with : (r : Record) (word : ℕ) (gone : Bool) → IsSoundRecord g p r → Announces r.phase word → word ≤ g.jobs → r.claimed ≡ (at p).local.claimed → r.dones ≡ (at p).local.dones
      → (wants_nothing r.phase ≡ true → gone ≡ true) → IsSoundProcess g p (record (at p) { local = r; next = word; gone = gone })
  sound_with r word gone sound announces small claims dones rests =
      let s = before.sound p w in
      record {
        local = sound;
        announces = announces;
        next = small;
        claim = s.claim ∙ ap length (sym claims);
        row_length = s.row_length;
        row = λ k. s.row k ∙ ap (λ l. get_or l k 0) (sym dones);
        gone = rests;
      }

  quiet : (phase : Phase) (known tried fronts : List ℕ) (steps word : ℕ) → jobs_in_hand (at p).local.phase ≡ []
      → HasSeen g at p known tried fronts word
      → IsPlaced g p (quiet_record (at p).local phase known tried fronts steps) word
      → ((q j : ℕ) → IsOther g p q → Owes p (at p).local (quiet_record (at p).local phase known tried fronts steps) q (at q).local j)
      → IsKept g at p (quiet_process (at p) phase known tried fronts steps word)
  quiet phase known tried fronts steps word empty seen placed owes =
      record {
        sound = sound_with (quiet_record (at p).local phase known tried fronts steps) word (wants_nothing phase) (record {
          claims = s.local.claims ∙ ap (λ l. (at p).local.dones ++ l) (empty ∙ sym placed.empty);
          distinct = s.local.distinct;
          jobs = s.local.jobs;
          own = λ j h. seen.kept j (s.local.own j h);
          tried_few = seen.tried_few;
          tried_jobs = seen.tried_jobs;
          fronts = seen.fronts_size;
          front = seen.few_read;
          stands = placed.stands;
        }) placed.announces seen.next refl refl (λ h. h);
        mine = λ q o. let was = before.apart p q w o in record { claims = was.claims; front = seen.front q o; read = λ k h. seen.read q k o h; clear = λ j c. (owes q j o c).0 };
        theirs = λ q o. let was = before.apart q p o.worker (record { worker = w; differs = λ e. o.differs (sym e) }) in
            record {
              claims = was.claims;
              front = was.front;
              read = was.read;
              clear = λ j c. ⊎_elim (λ d. inl (record { done = d.done; known = d.known })) (λ f. inr (record { free = f.free; unclear = λ mine. f.unclear ((owes q j o mine).1 c) })) (was.clear j c);
            };
        known = λ j h. inr (seen.known_done j h);
        dones = λ j h. h;
      }
    where
      s : IsSoundProcess g p (at p)
      s = before.sound p w

  -- the process after the record x
  abbrev becomes : ℕ → ℕ → Record → Process
  becomes steps word x = record (at p) { local = record x { steps = steps }; next = word; gone = wants_nothing x.phase }

  -- after a choice
  rests : (phase : Phase) (known tried fronts : List ℕ) (old_steps steps word : ℕ) → g.workers ≤ g.beta → jobs_in_hand (at p).local.phase ≡ []
      → HasSeen g at p known tried fronts word
      → IsKept g at p (becomes steps word (record_after_choice g p (quiet_record (at p).local phase known tried fronts old_steps)))
  rests phase known tried fronts old_steps steps word low empty seen =
      choice_cases g p (quiet_record (at p).local phase known tried fronts old_steps) (λ x. IsKept g at p (becomes steps word x))
      (λ few. quiet Over known tried fronts steps word empty seen (record { announces = tt; empty = refl; stands = few }) (λ q j o c. absurd c.0))
      (λ many. let e = chosen_job g p (quiet_record (at p).local phase known tried fronts old_steps) in
      let job : IsJob g e = chosen_is_job g p (quiet_record (at p).local phase known tried fronts old_steps) w low seen.tried_few many in
      quiet (Announcing e) known [] fronts steps word empty
      (record { next = seen.next; kept = seen.kept; known_done = seen.known_done; tried_few = omega (arith, seen.tried_few); tried_jobs = λ j h. absurd (cc); fronts_size = seen.fronts_size; few_read = seen.few_read; front = seen.front; read = seen.read })
      (record { announces = tt; empty = refl; stands = (job, refl) }) (λ q j o c. absurd c.0))

  -- after a check of j
  checked : (j : ℕ) (phase : Phase) (known tried fronts : List ℕ) (old_steps steps word : ℕ) → g.workers ≤ g.beta → jobs_in_hand (at p).local.phase ≡ []
      → HasSeen g at p known tried fronts word → word ≡ j → IsJob g j
      → ((q i : ℕ) → IsOther g p q → Owes p (at p).local (quiet_record (at p).local (Claiming j) known tried fronts steps) q (at q).local i)
      → IsKept g at p (becomes steps word (record_after_check g p j (quiet_record (at p).local phase known tried fronts old_steps)))
  checked j phase known tried fronts old_steps steps word low empty seen is job owes =
      check_cases g p j (quiet_record (at p).local phase known tried fronts old_steps) (λ x. IsKept g at p (becomes steps word x))
      (λ not_known not_tried. quiet (Claiming j) known tried fronts steps word empty seen (record { announces = is; empty = refl; stands = (job, not_known, not_tried) }) owes)
      (rests phase known tried fronts old_steps steps word low empty seen)

  me : (q : ℕ) → IsOther g p q → IsOther g q p
  me q o = record { worker = w; differs = λ e. o.differs (sym e) }

  -- there is a first other worker
  pub first_other : (q : ℕ) → IsOther g p q → IsOther g p (next_other p 0)
  first_other q o =
      record {
        worker = record { low = next_other_above p 0; high = ⊎_elim (λ below. absurd (omega (arith, next_other_next p 0 q o.differs below, o.worker.low))) (λ (h : next_other p 0 ≤ q). omega (arith, o.worker.high)) (cases_lt q (next_other p 0)) };
        differs = next_other_differs p 0;
      }

  -- none comes before it
  pub none_before : (q : ℕ) → IsOther g p q → q < next_other p 0 → ⊥
  none_before q o h = let l = next_other_next p 0 q o.differs h in let low = o.worker.low in omega arith

  -- nothing new was seen
  same : (word : ℕ) → word ≤ g.jobs → HasSeen g at p (at p).local.known (at p).local.tried (at p).local.fronts word
  same word h =
      let s = before.sound p w in
      record {
        next = h;
        kept = λ j k. k;
        known_done = λ j k. before.known p j w k;
        tried_few = s.local.tried_few;
        tried_jobs = s.local.tried_jobs;
        fronts_size = s.local.fronts;
        few_read = s.local.front;
        front = λ q o. (before.apart p q w o).front;
        read = λ q k o. (before.apart p q w o).read k;
      }

  announces : (j steps : ℕ) → g.workers ≤ g.beta → (at p).local.phase ≡ Announcing j
      → IsKept g at p (becomes steps j (record_at_announcement g p j (next_other p 0) (at p).local))
  announces j steps low is =
      let s = before.sound p w in
      let stands : IsJob g j × ((at p).local.tried ≡ []) = rw is at s.local.stands in
      let job = stands.0 in
      let empty : jobs_in_hand (at p).local.phase ≡ [] = ap jobs_in_hand is in
      let nobody : g.workers < next_other p 0 → (q : ℕ) → IsOther g p q → ⊥ = λ h q o. let f = (first_other q o).worker.high in omega arith in
      to_announcement_cases g p j (next_other p 0) (at p).local (λ x. IsKept g at p (becomes steps j x))
      (λ in_range. quiet (Trying j (next_other p 0)) (at p).local.known (at p).local.tried (at p).local.fronts steps j empty (same j job.high)
      (record { announces = refl; empty = refl; stands = (job, record { worker = record { low = next_other_above p 0; high = in_range }; differs = next_other_differs p 0 }, omega (arith, ap length stands.1)) })
      (λ q i o c. absurd (none_before q o c.0.1)))
      (λ above. to_row_cases g p j (next_other p 0) (at p).local (λ x. IsKept g at p (becomes steps j x))
      (λ in_range. absurd (omega arith))
      (λ _. checked j (at p).local.phase (at p).local.known (at p).local.tried (at p).local.fronts (at p).local.steps steps j low empty (same j job.high) refl job (λ q i o c. absurd (nobody above q o))))

  -- what was seen after the announcement of q0 is noted
  with_noted : (j q0 : ℕ) → (at p).local.phase ≡ Trying j q0 → HasSeen g at p (at p).local.known (with_announced (at q0).next (at p).local.tried) (at p).local.fronts (at p).next
  with_noted j q0 is =
      let s = before.sound p w in
      let stands : IsJob g j × IsOther g p q0 × (length (at p).local.tried ≤ others_before p q0) = rw is at s.local.stands in
      let was = same (at p).next s.next in
      let room = others_room p q0 g.workers w.low w.high stands.1.worker.low stands.1.worker.high stands.1.differs in
      let few = noted_length (at q0).next (at p).local.tried in
      record {
        next = s.next;
        kept = was.kept;
        known_done = was.known_done;
        tried_few = omega arith;
        tried_jobs = λ i h. ⊎_elim (λ x. record { low = omega arith; high = let l = (before.sound q0 stands.1.worker).next in omega arith }) (λ t. s.local.tried_jobs i t) (noted_cases (at q0).next i (at p).local.tried h);
        fronts_size = was.fronts_size;
        few_read = was.few_read;
        front = was.front;
        read = was.read;
      }

  -- what that says of the workers up to q0
  up_to : (j q0 : ℕ) → (at p).local.phase ≡ Trying j q0 → (q i : ℕ) → IsOther g p q → j ≡ i → q < next_other p q0 → has (with_announced (at q0).next (at p).local.tried) i ≡ false
      → ((has (at q).local.dones i ≡ true) ⊎ IsUnclaimedByOther p i (at q).local) × (IsClear (at q).local p i → IsClear (at p).local q i)
  up_to j q0 is q i o same_job below none = ⊎_elim earlier now (cases_lt q q0)
    where
      stands : IsJob g j × IsOther g p q0 × (length (at p).local.tried ≤ others_before p q0)
      stands = rw is at (before.sound p w).local.stands

      no : ((at q0).next ≢ i) × (has (at p).local.tried i ≡ false)
      no = noted_none (at q0).next i (at p).local.tried (let l = stands.0.low in omega arith) none

      earlier : q < q0 → ((has (at q).local.dones i ≡ true) ⊎ IsUnclaimedByOther p i (at q).local) × (IsClear (at q).local p i → IsClear (at p).local q i)
      earlier h =
          let c : IsClear (at p).local q i = (subst (λ phase. IsPast phase q i) (sym is) (same_job, h), no.1) in
          (⊎_elim (λ d. inl d.done) inr ((before.apart p q w o).clear i c), λ _. c)

      now : q0 ≤ q → ((has (at q).local.dones i ≡ true) ⊎ IsUnclaimedByOther p i (at q).local) × (IsClear (at q).local p i → IsClear (at p).local q i)
      now h =
          let e : q0 ≡ q = let l = next_other_next p q0 q o.differs below in omega arith in
          let ne : (at q).next ≢ i = subst (λ x. (at x).next ≢ i) e no.0 in
          (unannounced g q p i (at q) (before.sound q o.worker) ne, λ c. absurd (ne (announced g q p i (at q) (before.sound q o.worker) c)))

  tries : (j q0 steps : ℕ) → (at p).local.phase ≡ Trying j q0
      → IsKept g at p (becomes steps (at p).next (record_at_announcement g p j (next_other p q0) (record (at p).local { tried = with_announced (at q0).next (at p).local.tried })))
  tries j q0 steps is =
      let s = before.sound p w in
      let stands : IsJob g j × IsOther g p q0 × (length (at p).local.tried ≤ others_before p q0) = rw is at s.local.stands in
      let word : (at p).next ≡ j = rw is at s.announces in
      let empty : jobs_in_hand (at p).local.phase ≡ [] = ap jobs_in_hand is in
      let ts = with_announced (at q0).next (at p).local.tried in
      let r = record (at p).local { tried = ts } in
      let q1 = next_other p 0 in
      let few = noted_length (at q0).next (at p).local.tried in
      let more = others_next p q0 w.low stands.1.worker.low stands.1.differs in
      to_announcement_cases g p j (next_other p q0) r (λ x. IsKept g at p (becomes steps (at p).next x))
      (λ in_range. quiet (Trying j (next_other p q0)) (at p).local.known ts (at p).local.fronts steps (at p).next empty (with_noted j q0 is)
      (record { announces = word; empty = refl; stands = (stands.0, record { worker = record { low = let l = next_other_above p q0 in omega arith; high = in_range }; differs = next_other_differs p q0 }, omega arith) })
      (λ q i o c. let u = up_to j q0 is q i o c.0.0 c.0.1 c.1 in (⊎_elim (λ d. inl (record { done = d; known = λ t. absurd t })) inr u.0, u.1)))
      (λ above. to_row_cases g p j q1 r (λ x. IsKept g at p (becomes steps (at p).next x))
      (λ in_range. quiet (Reading j q1) (at p).local.known ts (at p).local.fronts steps (at p).next empty (with_noted j q0 is)
      (record { announces = word; empty = refl; stands = (stands.0, first_other q0 stands.1) })
      (λ q i o c. let u = up_to j q0 is q i o c.0 (let h = o.worker.high in omega arith) c.1 in (⊎_elim (λ d. inl (record { done = d; known = λ t. absurd (none_before q o t) })) inr u.0, u.1)))
      (λ none. absurd (let f = (first_other q0 stands.1).worker.high in omega arith)))

  -- a job that q has done is one
  pub done_job : (q i : ℕ) → IsWorker g q → has (at q).local.dones i ≡ true → IsJob g i
  done_job q i o h = let s = before.sound q o in s.local.jobs i (ap (λ l. has l i) s.local.claims ∙ has-append (at q).local.dones (jobs_in_hand (at q).local.phase) i ∙ or_left _ _ h)

  -- in each row there is room
  row_room_of : (q : ℕ) → IsWorker g q → length (at q).local.dones ≤ g.jobs
  row_room_of q o =
      let s = before.sound q o in
      let few = length_distinct (at q).local.claimed g.jobs s.local.distinct (λ j h. ((s.local.jobs j h).low, (s.local.jobs j h).high)) in
      let most = count_le_all (has (at q).local.claimed) g.jobs in
      let parts = ap length s.local.claims ∙ length-append (at q).local.dones (jobs_in_hand (at q).local.phase) in
      omega arith

  -- another entry of the row of q0
  reads_more : (j q0 steps : ℕ) → (at p).local.phase ≡ Reading j q0 → get_or (at q0).local.dones (numbered 0 (at p).local.fronts q0) 0 ≢ 0
      → IsKept g at p (becomes steps (at p).next (record (at p).local { known = with_number (get_or (at q0).local.dones (numbered 0 (at p).local.fronts q0) 0) (at p).local.known; fronts = put (at p).local.fronts q0 (numbered 0 (at p).local.fronts q0 + 1) }))
  reads_more j q0 steps is some =
      let s = before.sound p w in
      let stands : IsJob g j × IsOther g p q0 = rw is at s.local.stands in
      let empty : jobs_in_hand (at p).local.phase ≡ [] = ap jobs_in_hand is in
      let was = same (at p).next s.next in
      let front = numbered 0 (at p).local.fronts q0 in
      let dones = (at q0).local.dones in
      let v = get_or dones front 0 in
      let below : front < length dones = ⊎_elim (λ h. h) (λ (h : length dones ≤ front). absurd (some (get_or_past dones front 0 h))) (cases_lt front (length dones)) in
      let here : numbered 0 (put (at p).local.fronts q0 (front + 1)) q0 ≡ front + 1 = numbered-put_same 0 (front + 1) (at p).local.fronts q0 stands.1.worker.low (let h = s.local.fronts in let l = stands.1.worker.high in omega arith) in
      let elsewhere : (q : ℕ) → q ≢ q0 → numbered 0 (put (at p).local.fronts q0 (front + 1)) q ≡ numbered 0 (at p).local.fronts q = λ q n. numbered-put_other 0 (front + 1) (at p).local.fronts q0 q n in
      quiet (at p).local.phase (with_number v (at p).local.known) (at p).local.tried (put (at p).local.fronts q0 (front + 1)) steps (at p).next empty
      (record {
        next = s.next;
        kept = λ i h. has_with_kept v (at p).local.known i h;
        known_done = λ i h. ⊎_elim (λ (e : v ≡ i). (q0, stands.1.worker, subst (λ x. has dones x ≡ true) e (has-get_or dones front below))) (λ k. before.known p i w k) (has_with_cases v (at p).local.known i h);
        tried_few = s.local.tried_few;
        tried_jobs = s.local.tried_jobs;
        fronts_size = length-put (front + 1) (at p).local.fronts q0 ∙ s.local.fronts;
        few_read = λ q. ⊎_elim (λ (e : q ≡ q0). subst (λ x. numbered 0 (put (at p).local.fronts q0 (front + 1)) x ≤ g.jobs) (sym e) (let h = here in let l = row_room_of q0 stands.1.worker in omega arith)) (λ n. let e = elsewhere q n in let l = s.local.front q in omega arith) (cases_eq q q0);
        front = λ q o. ⊎_elim (λ (e : q ≡ q0). subst (λ x. numbered 0 (put (at p).local.fronts q0 (front + 1)) x ≤ length (at x).local.dones) (sym e) (let h = here in omega arith)) (λ n. let e = elsewhere q n in let l = was.front q o in omega arith) (cases_eq q q0);
        read = λ q k o h. ⊎_elim
            (λ (e : q ≡ q0). subst (λ x. has (with_number v (at p).local.known) (get_or (at x).local.dones k 0) ≡ true) (sym e) (
            let h' : k < front + 1 = subst (λ x. k < x) here (subst (λ x. k < numbered 0 (put (at p).local.fronts q0 (front + 1)) x) e h) in
            ⊎_elim (λ (l : k < front). has_with_kept v (at p).local.known _ (was.read q0 k stands.1 l)) (λ (l : front ≤ k). let i : front ≡ k = omega arith in subst (λ x. has (with_number v (at p).local.known) (get_or dones x 0) ≡ true) i (has_with_same v (at p).local.known)) (cases_lt k front)))
            (λ n. has_with_kept v (at p).local.known _ (was.read q k o (subst (λ x. k < x) (elsewhere q n) h)))
            (cases_eq q q0);
      })
      (record { announces = s.announces; empty = empty; stands = subst (λ phase. FitsPhase g p (record (at p).local { known = with_number v (at p).local.known; fronts = put (at p).local.fronts q0 (front + 1); steps = steps }) phase) (sym is) stands })
      (λ q i o c. (⊎_elim (λ d. inl (record { done = d.done; known = λ t. has_with_kept v (at p).local.known i (d.known t) })) inr ((before.apart p q w o).clear i c), λ _. c))

  -- at a zero it knows all that q0 has done
  knows_all : (j q0 : ℕ) → (at p).local.phase ≡ Reading j q0 → get_or (at q0).local.dones (numbered 0 (at p).local.fronts q0) 0 ≡ 0
      → (i : ℕ) → has (at q0).local.dones i ≡ true → has (at p).local.known i ≡ true
  knows_all j q0 is zero_there i h =
      let stands : IsJob g j × IsOther g p q0 = rw is at (before.sound p w).local.stands in
      let front = numbered 0 (at p).local.fronts q0 in
      let dones = (at q0).local.dones in
      let past : length dones ≤ front = ⊎_elim (λ (l : front < length dones). absurd (let job = (done_job q0 (get_or dones front 0) stands.1.worker (has-get_or dones front l)).low in omega arith)) (λ l. l) (cases_lt front (length dones)) in
      let place = get_or-has dones i h in
      subst (λ x. has (at p).local.known x ≡ true) place.2 ((before.apart p q0 w stands.1).read place.0 (let l = place.1 in omega arith))

  reads_on : (j q0 steps : ℕ) → g.workers ≤ g.beta → (at p).local.phase ≡ Reading j q0 → get_or (at q0).local.dones (numbered 0 (at p).local.fronts q0) 0 ≡ 0
      → IsKept g at p (becomes steps (at p).next (record_at_row g p j (next_other p q0) (at p).local))
  reads_on j q0 steps low is zero_there =
      let s = before.sound p w in
      let stands : IsJob g j × IsOther g p q0 = rw is at s.local.stands in
      let word : (at p).next ≡ j = rw is at s.announces in
      let empty : jobs_in_hand (at p).local.phase ≡ [] = ap jobs_in_hand is in
      let was = same (at p).next s.next in
      let r = (at p).local in
      -- what is known of the rows so far
      let far : (q i : ℕ) → IsOther g p q → j ≡ i → has r.tried i ≡ false → (known : Type 0) → (known → q < next_other p q0)
      → (((has (at q).local.dones i ≡ true) × (known → has r.known i ≡ true)) ⊎ IsUnclaimedByOther p i (at q).local) × (IsClear (at q).local p i → IsClear r q i)
      = λ q i o e t known through.
      let c : IsClear r q i = (subst (λ phase. IsPast phase q i) (sym is) e, t) in
      (⊎_elim (λ d. inl (d.done, λ k. ⊎_elim (λ (l : q < q0). d.known (subst (λ phase. IsThrough phase q) (sym is) l)) (λ (l : q0 ≤ q). knows_all j q0 is zero_there i (subst (λ x. has (at x).local.dones i ≡ true) (let n = next_other_next p q0 q o.differs (through k) in let e' : q ≡ q0 = omega arith in e') d.done)) (cases_lt q q0))) inr ((before.apart p q w o).clear i c), λ _. c) in
      to_row_cases g p j (next_other p q0) r (λ x. IsKept g at p (becomes steps (at p).next x))
      (λ in_range. quiet (Reading j (next_other p q0)) r.known r.tried r.fronts steps (at p).next empty was
      (record { announces = word; empty = refl; stands = (stands.0, record { worker = record { low = let l = next_other_above p q0 in omega arith; high = in_range }; differs = next_other_differs p q0 }) })
      (λ q i o c. let f = far q i o c.0 c.1 (q < next_other p q0) (λ h. h) in (⊎_elim (λ d. inl (record { done = d.0; known = d.1 })) inr f.0, f.1)))
      (λ above. checked j r.phase r.known r.tried r.fronts r.steps steps (at p).next low empty was word stands.0
      (λ q i o c. let f = far q i o c.0 c.1 (Unit {0}) (λ _. let h = o.worker.high in omega arith) in (⊎_elim (λ d. inl (record { done = d.0; known = λ _. d.1 tt })) inr f.0, f.1)))

  claims : (j steps : ℕ) → (at p).local.phase ≡ Claiming j
      → IsKept g at p (record (at p) { local = record (at p).local { phase = Holding j; claimed = (at p).local.claimed ++ j ∷ []; steps = steps }; claim = length (at p).local.claimed + 1; gone = false })
  claims j steps is =
      let s = before.sound p w in
      let r = (at p).local in
      let stands : IsJob g j × (has r.known j ≡ false) × (has r.tried j ≡ false) = rw is at s.local.stands in
      let same_list : r.claimed ≡ r.dones = s.local.claims ∙ ap (λ phase. r.dones ++ jobs_in_hand phase) is ∙ append-nil r.dones in
      let clear : (q : ℕ) → IsClear r q j = λ q. (subst (λ phase. IsPast phase q j) (sym is) refl, stands.2) in
      let through : (q : ℕ) → IsThrough r.phase q = λ q. subst (λ phase. IsThrough phase q) (sym is) tt in
      let free : (q : ℕ) → IsOther g p q → has (at q).local.claimed j ≡ false
      = λ q o. ⊎_elim (λ d. not_both _ (d.known (through q)) stands.1) (λ f. f.free) ((before.apart p q w o).clear j (clear q)) in
      record {
        sound = record {
          local = record {
            claims = ap (λ l. l ++ j ∷ []) same_list;
            distinct = distinct_push r.claimed j s.local.distinct (⊎_elim (λ t. not_both _ (s.local.own j (ap (λ l. has l j) (sym same_list) ∙ t)) stands.1) (λ f. f) (cases_Bool (has r.claimed j)));
            jobs = λ i h. ⊎_elim (λ t. s.local.jobs i t) (λ (e : j ≡ i). subst (λ x. IsJob g x) e stands.0) (has_push_cases r.claimed j i h);
            own = s.local.own;
            tried_few = s.local.tried_few;
            tried_jobs = s.local.tried_jobs;
            fronts = s.local.fronts;
            front = s.local.front;
            stands = stands;
          };
          announces = rw is at s.announces;
          next = s.next;
          claim = sym (length_push r.claimed j);
          row_length = s.row_length;
          row = s.row;
          gone = λ h. h;
        };
        mine = λ q o. let was = before.apart p q w o in
            record {
              claims = λ i h. ⊎_elim (λ t. was.claims i t) (λ (e : j ≡ i). subst (λ x. has (at q).local.claimed x ≡ false) e (free q o)) (has_push_cases r.claimed j i h);
              front = was.front;
              read = was.read;
              clear = λ i c. ⊎_elim (λ d. inl (record { done = d.done; known = λ _. d.known (through q) })) inr (was.clear i (subst (λ x. IsClear r q x) c.0 (clear q)));
            };
        theirs = λ q o. let was = before.apart q p o.worker (me q o) in
            record {
              claims = λ i h. has_push_none r.claimed j i (λ (e : j ≡ i). not_both _ (subst (λ x. has (at q).local.claimed x ≡ true) (sym e) h) (free q o)) (was.claims i h);
              front = was.front;
              read = was.read;
              clear = λ i c. ⊎_elim (λ d. inl (record { done = d.done; known = d.known }))
                  (λ f. let ne : j ≢ i = λ e. f.unclear (subst (λ x. IsClear r q x) e (clear q)) in inr (record { free = has_push_none r.claimed j i ne f.free; unclear = λ c'. ne c'.0 }))
                  (was.clear i c);
            };
        known = λ i h. inr (before.known p i w h);
        dones = λ i h. h;
      }

  -- in its own row there is room
  pub row_room : length (at p).local.dones ≤ g.jobs
  row_room = row_room_of p w

  done_then : (j steps : ℕ) (phase : Phase) (tried : List ℕ) → (at p).local.phase ≡ Holding j
      → jobs_in_hand phase ≡ [] → ((q i : ℕ) → IsPast phase q i → ⊥) → Announces phase (at p).next → length tried < g.workers → ((i : ℕ) → has tried i ≡ true → IsJob g i)
      → FitsPhase g p (record (at p).local { phase = phase; known = with_number j (at p).local.known; tried = tried; dones = (at p).local.dones ++ j ∷ []; steps = steps }) phase
      → IsKept g at p (record (at p) {
        local = record (at p).local { phase = phase; known = with_number j (at p).local.known; tried = tried; dones = (at p).local.dones ++ j ∷ []; steps = steps };
        row = put (at p).row (length (at p).local.dones + 1) j;
        gone = wants_nothing phase;
      })
  done_then j steps phase tried is empty fresh announces' few jobs stands =
      let s = before.sound p w in
      let r = (at p).local in
      let row_is = s.row_length in
      let room = row_room in
      record {
        sound = record {
          local = record {
            claims = s.local.claims ∙ ap (λ x. r.dones ++ jobs_in_hand x) is ∙ sym (append-nil (r.dones ++ j ∷ [])) ∙ ap (λ l. (r.dones ++ j ∷ []) ++ l) (sym empty);
            distinct = s.local.distinct;
            jobs = s.local.jobs;
            own = λ i h. ⊎_elim (λ t. has_with_kept j r.known i (s.local.own i t)) (λ (e : j ≡ i). subst (λ x. has (with_number j r.known) x ≡ true) e (has_with_same j r.known)) (has_push_cases r.dones j i h);
            tried_few = few;
            tried_jobs = jobs;
            fronts = s.local.fronts;
            front = s.local.front;
            stands = stands;
          };
          announces = announces';
          next = s.next;
          claim = s.claim;
          row_length = length-put j (at p).row (length r.dones + 1) ∙ s.row_length;
          row = row_push (at p).row r.dones j (omega arith) s.row;
          gone = λ h. h;
        };
        mine = λ q o. let was = before.apart p q w o in
            record { claims = was.claims; front = was.front; read = λ k h. has_with_kept j r.known _ (was.read k h); clear = λ i c. absurd (fresh q i c.0) };
        theirs = λ q o. let was = before.apart q p o.worker (me q o) in
            record {
              claims = was.claims;
              front = let e = length_push r.dones j in let f = was.front in omega arith;
              read = λ k h. subst (λ x. has (at q).local.known x ≡ true) (sym (get_or_append_left r.dones (j ∷ []) 0 k (let f = was.front in omega arith))) (was.read k h);
              clear = λ i c. ⊎_elim (λ d. inl (record { done = has_push_kept r.dones j i d.done; known = d.known })) (λ f. inr (record { free = f.free; unclear = λ c'. fresh q i c'.0 })) (was.clear i c);
            };
        known = λ i h. ⊎_elim (λ (e : j ≡ i). inl (subst (λ x. has (r.dones ++ j ∷ []) x ≡ true) e (has_push r.dones j))) (λ k. inr (before.known p i w k)) (has_with_cases j r.known i h);
        dones = λ i h. has_push_kept r.dones j i h;
      }

  does : (j steps : ℕ) → g.workers ≤ g.beta → (at p).local.phase ≡ Holding j
      → (let x = record_after_choice g p (record (at p).local { dones = (at p).local.dones ++ j ∷ []; known = with_number j (at p).local.known }) in
      IsKept g at p (record (at p) { local = record x { steps = steps }; row = put (at p).row (length (at p).local.dones + 1) j; gone = wants_nothing x.phase }))
  does j steps low is =
      let s = before.sound p w in
      let r = record (at p).local { dones = (at p).local.dones ++ j ∷ []; known = with_number j (at p).local.known } in
      choice_cases g p r (λ x. IsKept g at p (record (at p) { local = record x { steps = steps }; row = put (at p).row (length (at p).local.dones + 1) j; gone = wants_nothing x.phase }))
      (λ few. done_then j steps Over (at p).local.tried is refl (λ q i c. c) tt s.local.tried_few s.local.tried_jobs few)
      (λ many. done_then j steps (Announcing (chosen_job g p r)) [] is refl (λ q i c. c) tt (let f = s.local.tried_few in omega arith) (λ i h. absurd (cc)) (chosen_is_job g p r w low s.local.tried_few many, refl))

  pub stops : IsKept g at p (record (at p) { gone = true })
  stops =
      let s = before.sound p w in
      record {
        sound = sound_with (at p).local (at p).next true s.local s.announces s.next refl refl (λ _. refl);
        mine = λ q o. before.apart p q w o;
        theirs = λ q o. before.apart q p o.worker (me q o);
        known = λ i h. inr (before.known p i w h);
        dones = λ i h. h;
      }

  -- p leaves
  pub leaves : jobs_in_hand (at p).local.phase ≡ [] → IsKept g at p (process_after (StoreNext 0) (at p) (record_after_leave (at p).local))
  leaves empty = quiet Left (at p).local.known (at p).local.tried (at p).local.fronts (min ((at p).local.steps + 1) (2 ^ 64 - 1)) 0 empty (same 0 (omega arith)) (record { announces = tt; empty = refl; stands = tt }) (λ q j o c. absurd c.0)

  -- one turn of p
  pub turns : (v : ℕ) → g.workers ≤ g.beta → (at p).gone ≡ false → Hears at (want_in (at p).local (at p).local.phase) v
      → IsKept g at p (process_after (want_in (at p).local (at p).local.phase) (at p) (record_after g p v (at p).local))
  turns v low here = go (at p).local.phase refl
    where
      steps : ℕ
      steps = min ((at p).local.steps + 1) (2 ^ 64 - 1)

      go : (phase : Phase) → (at p).local.phase ≡ phase → Hears at (want_in (at p).local phase) v
          → IsKept g at p (process_after (want_in (at p).local phase) (at p) (record (record_after_phase g p v (at p).local phase) { steps = steps }))
      go (Announcing j) is h = announces j steps low is
      go (Trying j q) is h = subst (λ x. IsKept g at p (process_after (LoadNext q) (at p) (record (record_after_phase g p x (at p).local (Trying j q)) { steps = steps }))) (sym h) (tries j q steps is)
      go (Reading j q) is h = reads (v == 0) refl
        where
          entry : v ≡ get_or (at q).local.dones (numbered 0 (at p).local.fronts q) 0
          entry =
              let o : IsJob g j × IsOther g p q = rw is at (before.sound p w).local.stands in
              h ∙ numbered_next 0 (at q).row (numbered 0 (at p).local.fronts q) ∙ (before.sound q o.1.worker).row (numbered 0 (at p).local.fronts q)

          reads : (b : Bool) → (v == 0) ≡ b → IsKept g at p (becomes steps (at p).next (if b
              then record_at_row g p j (next_other p q) (at p).local
              else record (at p).local { known = with_number v (at p).local.known; fronts = put (at p).local.fronts q (numbered 0 (at p).local.fronts q + 1) }))
          reads true e = reads_on j q steps low is (sym entry ∙ eqb-true v 0 e)
          reads false e = subst (λ x. IsKept g at p (becomes steps (at p).next (record (at p).local { known = with_number x (at p).local.known; fronts = put (at p).local.fronts q (numbered 0 (at p).local.fronts q + 1) }))) (sym entry) (reads_more j q steps is (λ z. eqb-false v 0 e (entry ∙ z)))
      go (Claiming j) is h = claims j steps is
      go (Holding j) is h = does j steps low is
      go Over is h = not_both _ ((before.sound p w).gone (ap wants_nothing is)) here
      go Left is h = not_both _ ((before.sound p w).gone (ap wants_nothing is)) here

-- The facts that a step keeps, when its worker is put in place of the old one.
pub lawful_put : (g : Givens) (at : ℕ → Process) (p : ℕ) (a : Process) (now : ℕ → Process) → AreLawful g at → IsWorker g p → IsKept g at p a
    → now p ≡ a → ((q : ℕ) → q ≢ p → now q ≡ at q) → AreLawful g now
lawful_put g at p a now before w kept here there =
    record {
      sound = λ q o. ⊎_elim (λ (e : q ≡ p). subst (λ x. IsSoundProcess g x (now x)) (sym e) (subst (λ x. IsSoundProcess g p x) (sym here) kept.sound)) (λ n. subst (λ x. IsSoundProcess g q x) (sym (there q n)) (before.sound q o)) (cases_eq q p);
      apart = apart;
      known = λ q j o h. ⊎_elim
          (λ (e : q ≡ p). let h' : has a.local.known j ≡ true = subst (λ x. has x.local.known j ≡ true) (ap now e ∙ here) h in
          ⊎_elim (λ d. (p, w, subst (λ x. has x.local.dones j ≡ true) (sym here) d)) (done j) (kept.known j h'))
          (λ n. done j (before.known q j o (subst (λ x. has x.local.known j ≡ true) (there q n) h)))
          (cases_eq q p);
    }
  where
    done : (j : ℕ) → IsDone g at j → IsDone g now j
    done j d = ⊎_elim
        (λ (e : d.0 ≡ p). (p, w, subst (λ x. has x.local.dones j ≡ true) (sym here) (kept.dones j (subst (λ x. has (at x).local.dones j ≡ true) e d.2))))
        (λ n. (d.0, d.1, subst (λ x. has x.local.dones j ≡ true) (sym (there d.0 n)) d.2))
        (cases_eq d.0 p)

    apart : (q i : ℕ) → IsWorker g q → IsOther g q i → IsSoundTowards q (now q).local i (now i).local
    apart q i o other = ⊎_elim
        (λ (e : q ≡ p). let ne : i ≢ p = λ x. other.differs (x ∙ sym e) in
        subst (λ x. IsSoundTowards x (now x).local i (now i).local) (sym e)
        (subst (λ x. IsSoundTowards p x.local i (now i).local) (sym here) (subst (λ x. IsSoundTowards p a.local i x.local) (sym (there i ne)) (kept.mine i (record { worker = other.worker; differs = ne })))))
        (λ n. ⊎_elim
        (λ (e : i ≡ p). subst (λ x. IsSoundTowards q (now q).local x (now x).local) (sym e)
        (subst (λ x. IsSoundTowards q (now q).local p x.local) (sym here) (subst (λ x. IsSoundTowards q x.local p a.local) (sym (there q n)) (kept.theirs q (record { worker = o; differs = n })))))
        (λ m. subst (λ x. IsSoundTowards q x.local i (now i).local) (sym (there q n)) (subst (λ x. IsSoundTowards q (at q).local i x.local) (sym (there i m)) (before.apart q i o other)))
        (cases_eq i p))
        (cases_eq q p)
