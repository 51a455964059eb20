-- The events other than appends and calls of processes. For each event, the model has events that
-- lead to a site that goes with the world.
use Rattle.std.proofs.Common.{◌≡◌, ◌⊎◌, inl, inr, ⊎_elim, ◌≤◌, ◌<◌, ◌+◌, ◌^◌, ℕ, zero, suc, List, [], ◌∷◌, ◌++◌, take, drop, Option, Some, None, refl, sym, ap, ◌∙◌, subst, arith, append_assoc, append-nil}
use Rattle.std.specs.Prelude.{if◌then◌else◌}
use Rattle.std.proofs.lemmas.Bool.{cases_eq, cases_lt, eq-eqb, ne_eqb}
use Rattle.std.proofs.lemmas.List.{take-append-drop}
use Rattle.amo_safety_by_journals.specs.Model.{Attempt as Name, Handing, IsOneOf, Stage as ModelStage, Away, Free, Clearing as ModelClearing, Site, Event as ModelEvent, Dies as ModelDies, Lands, HandsOver as ModelHandsOver, Performs as ModelPerforms, Ends as ModelEnds, with_at, in_hand, site_after, line_of}
use Rattle.amo_safety_by_journals.specs.Runs.{Clearance, IsRunFrom, site_from}
use Rattle.amo_params.specs.declared.limits.TheConstants.{MAX_WORKERS}
use Rattle.amo_host.specs.declared.model.LogFile.{LogFile}
use Rattle.amo_host.specs.declared.model.LogFile.TheVariants.{Answers, Journal}
use Rattle.amo_run_log.specs.declared.append.Append.TheVariants.{One}
use Rattle.amo_run_log.specs.declared.entry.Entry.TheVariants.{Answer as Answered}
use Rattle.amo_run_log.specs.declared.entry.Outcome.{Outcome}
use Rattle.amo_run_log.specs.declared.entry.Outcome.TheVariants.{Doubt, Unbegun as NotBegun}
use Rattle.amo_run_log.specs.Entries.{append_in, text_of_append}
use Rattle.amo_program_safety.specs.Texts.{entries_of, lines_in}
use Rattle.amo_program_safety.specs.World.{Log, Process, World, Starts, HandsOver, Dies, Stops, Performs, Ends, Doubts, Recovers, with_append, recovered, handing_of, freed, new_process, world_after}
use Rattle.amo_program_safety.specs.Runs.{IsFirst, MayFollow}
use Rattle.amo_program_safety.proofs.Texts.{lines_in_both, put_says, put_no_lines, line_of_both, taken_of, of_both, of_left, of_same}
use Rattle.amo_program_safety.proofs.Standing.{IsOpened, Settled, Stand, all_of, Goes}
use Rattle.amo_program_safety.proofs.Moves.{Reaches, Same}
use Rattle.amo_program_safety.proofs.Points.{at_number, at_it, at_other, log_other}
use Rattle.amo_program_safety.proofs.Settling.{settled_same, settled_after, settled_from}
use Rattle.amo_program_safety.proofs.Steps.{owes_more}
use Rattle.amo_program_safety.proofs.Frame.{at_log, frame_stand}
use Rattle.amo_program_safety.proofs.Ready.{Ready, is_ready}

-- ---- options and lists

pub some_is : {A : Type 0} {a b : A} → Some a ≡ Some b → a ≡ b
some_is e = cc

none_some : {A : Type 0} {a : A} → None ≡ Some a → ⊥
none_some e = cc

journal_of : (q p : ℕ) → Journal q ≡ Journal p → q ≡ p
journal_of q p e = cc

dropped_of : {A : Type 0} (k : ℕ) (xs : List A) (x : A) → IsOneOf (drop k xs) x → IsOneOf xs x
dropped_of zero xs x one = one
dropped_of (suc k) [] x one = one
dropped_of (suc k) (y ∷ xs) x one = inr (dropped_of k xs x one)

pub without_of : {A : Type 0} (i : ℕ) (xs : List A) (x : A) → IsOneOf (take i xs ++ drop (i + 1) xs) x → IsOneOf xs x
without_of i xs x one = ⊎_elim (taken_of i xs x) (dropped_of (i + 1) xs x) (of_both (take i xs) (drop (i + 1) xs) x one)

front_empty : (xs ys : List ℕ) → xs ++ ys ≡ [] → xs ≡ []
front_empty [] ys e = refl
front_empty (x ∷ xs) ys e = absurd (cc e)

-- ---- a log that has lost some texts from its end

record Fewer (old new : Log) : Type 0 where
  pub lost : List (List ℕ)
  pub all : all_of old ≡ all_of new ++ lost

fewer_one : (old new : Log) (text : List ℕ) → Fewer old new → IsOneOf (all_of new) text → IsOneOf (all_of old) text
fewer_one old new text few one = of_same _ _ text (sym few.all) (of_left (all_of new) few.lost text one)

fewer_nobody : (old new : Log) → Fewer old new → lines_in (all_of old) ≡ [] → lines_in (all_of new) ≡ []
fewer_nobody old new few none = front_empty (lines_in (all_of new)) (lines_in few.lost) (sym (lines_in_both (all_of new) few.lost) ∙ (ap lines_in (sym few.all) ∙ none))

left_all : (log : Log) (n : ℕ) → log.kept ++ log.rest ≡ (log.kept ++ take n log.rest) ++ drop n log.rest
left_all log n = ap (λ (xs : List (List ℕ)). log.kept ++ xs) (sym (take-append-drop n log.rest)) ∙ sym (append_assoc log.kept (take n log.rest) (drop n log.rest))

left_fewer : (log : Log) (n : ℕ) → Fewer log (record { kept = log.kept; rest = take n log.rest })
left_fewer log n = record { lost = drop n log.rest; all = left_all log n }

recovered_fewer : (log : Log) (more : ℕ) → Fewer log (recovered log more)
recovered_fewer log more = record {
  lost = drop more log.rest;
  all = left_all log more ∙ ap (λ (xs : List (List ℕ)). xs ++ drop more log.rest) (sym (append-nil (log.kept ++ take more log.rest)));
}

-- ---- nothing has changed for any process

same_all : (w : World) (v : Site) (w' : World) (v' : Site) (r : ℕ) (o : Process) → w'.guard ≡ w.guard → v'.stage ≡ v.stage → v'.kept ≡ v.kept → w'.logs ≡ w.logs → w'.handed ≡ w.handed → v'.opened ≡ v.opened → Same w v w' v' r o
same_all w v w' v' r o guard stage kept logs handed opened = record {
  lost = λ q holds. ap (λ (f : ℕ → Option ℕ). f q) (sym guard) ∙ holds;
  guard = λ holds. ap (λ (f : ℕ → Option ℕ). f o.worker) guard ∙ holds;
  stage = λ holds. ap (λ (f : ℕ → ModelStage). f o.worker) stage;
  kept = λ holds. ap (λ (f : ℕ → List ℕ). f o.worker) kept;
  log = λ holds. ap (λ (f : LogFile → Log). f (Journal o.worker)) logs;
  first = λ holds s first h one named. first h (subst (λ (hs : List Handing). IsOneOf hs h) handed one) named;
  handed = λ h one. subst (λ (hs : List Handing). IsOneOf hs h) (sym handed) one;
  opened = λ q s one. subst (λ (os : List Name). IsOneOf os (record { worker = q; serial = s })) (sym opened) one;
  settled = λ q s is. settled_same v v' q s (ap (λ (f : ℕ → List ℕ). f q) kept) (ap (λ (f : ℕ → ModelStage). f q) stage) is;
}

-- ---- a process is started

pub starts : (w : World) (v : Site) (pid worker : ℕ) → MayFollow w (Starts pid worker) → Goes w v → Reaches v (world_after w (Starts pid worker))
starts w v pid worker may goes = record {
  events = [];
  run = tt;
  goes = record {
    alive = goes.alive;
    performed = goes.performed;
    kept = goes.kept;
    nobody = goes.nobody;
    unbegun = goes.unbegun;
    answered = goes.answered;
    undone = goes.undone;
    alive_handed = goes.alive_handed;
    performed_handed = goes.performed_handed;
    handed = goes.handed;
    away = goes.away;
    owner = owner_at;
    stand = stand_at;
  };
}
  where
    no_guard : (q : ℕ) → w.guard q ≡ Some pid → ⊥
    no_guard q holds = let old = goes.owner q pid holds in none_some (sym may.0 ∙ old.1)

    owner_at : (q r : ℕ) → w.guard q ≡ Some r → (o : Process) × (with_at w.process pid (Some (new_process worker)) r ≡ Some o) × (o.worker ≡ q)
    owner_at q r holds =
        let old = goes.owner q r holds in
        (old.0, at_other w.process pid (Some (new_process worker)) r (λ e. no_guard q (holds ∙ ap Some e)) ∙ old.1, old.2)

    stand_new : Stand (world_after w (Starts pid worker)) v pid (new_process worker)
    stand_new = record { low = may.1; high = may.2; owes = tt; fits = tt; here = (refl, λ f. refl, (no_guard, refl)) }

    stand_at : (r : ℕ) (o : Process) → with_at w.process pid (Some (new_process worker)) r ≡ Some o → Stand (world_after w (Starts pid worker)) v r o
    stand_at r o = at_number (λ x. x ≡ Some o → Stand (world_after w (Starts pid worker)) v r o) w.process pid (Some (new_process worker)) r
        (λ e own. subst (λ k. Stand (world_after w (Starts pid worker)) v k o) (sym e) (subst (λ x. Stand (world_after w (Starts pid worker)) v pid x) (some_is own) stand_new))
        (λ other old. frame_stand w v (world_after w (Starts pid worker)) v r o (same_all w v (world_after w (Starts pid worker)) v r o refl refl refl refl refl refl) (goes.stand r o old))

-- ---- an attempt is handed over

module _ (w : World) (v : Site) (pid : ℕ) (p : Process) (s line : ℕ) (goes : Goes w v) (lives : w.process pid ≡ Some p) (ready : Ready w v pid p p.phase s line) where
  abbrev given_now : Handing
  given_now = record { worker = p.worker; serial = s; line = line }

  abbrev world_given : World
  world_given = record w { handed = given_now ∷ w.handed; alive = given_now ∷ w.alive }

  abbrev site_given : Site
  site_given = site_after v (ModelHandsOver p.worker)

  given_alive : site_given.alive ≡ world_given.alive
  given_alive = ap (λ (st : ModelStage). in_hand p.worker st ++ v.alive) ready.stage ∙ ap (λ (hs : List Handing). given_now ∷ hs) goes.alive

  given_handed : (h : Handing) → IsOneOf world_given.handed h → line_of (v.kept h.worker) h.serial ≡ Some h.line
  given_handed h (inl e) = subst (λ (x : Handing). line_of (v.kept x.worker) x.serial ≡ Some x.line) e ready.kept
  given_handed h (inr one) = goes.handed h one

  given_alive_handed : (h : Handing) → IsOneOf world_given.alive h → IsOneOf world_given.handed h
  given_alive_handed h (inl e) = inl e
  given_alive_handed h (inr one) = inr (goes.alive_handed h one)

  given_away : (q : ℕ) → w.guard q ≡ None → with_at v.stage p.worker Free q ≡ Away
  given_away q none = at_other v.stage p.worker Free q (λ e. none_some (sym none ∙ (ap w.guard e ∙ ready.owns.guard))) ∙ goes.away q none

  given_mine : Stand world_given site_given pid p
  given_mine = let st = goes.stand pid p lives in record {
    low = st.low;
    high = st.high;
    owes = owes_more v site_given p.worker p.owed (λ q n one. one) (settled_after v (ModelHandsOver p.worker)) st.owes;
    fits = st.fits;
    here = ready.after world_given site_given (λ q n one. one) (record {
      quiet = record { owns = record { guard = ready.owns.guard; rest = ready.owns.rest }; free = at_it v.stage p.worker Free };
      serial = ready.serial;
      kept = (line, ready.kept);
      given = (given_now, inl refl, (refl, refl));
      fits = ready.fits;
    });
  }

  given_same : (r : ℕ) (o : Process) → (r ≡ pid → ⊥) → Same w v world_given site_given r o
  given_same r o other = record {
    lost = λ q holds. holds;
    guard = λ holds. holds;
    stage = λ holds. at_other v.stage p.worker Free o.worker (apart holds);
    kept = λ holds. refl;
    log = λ holds. refl;
    first = λ holds n first. first_still holds n first;
    handed = λ h one. inr one;
    opened = λ q n one. one;
    settled = settled_after v (ModelHandsOver p.worker);
  }
    where
      apart : w.guard o.worker ≡ Some r → o.worker ≡ p.worker → ⊥
      apart holds e = other (some_is (sym holds ∙ (ap w.guard e ∙ ready.owns.guard)))

      first_still : w.guard o.worker ≡ Some r → (n : ℕ) → IsFirst w o.worker n → IsFirst world_given o.worker n
      first_still holds n first h (inl e) named = apart holds (sym named.0 ∙ sym (ap (λ (x : Handing). x.worker) e))
      first_still holds n first h (inr one) named = first h one named

  given_stand : (r : ℕ) (o : Process) → w.process r ≡ Some o → Stand world_given site_given r o
  given_stand r o is = ⊎_elim
      (λ (e : r ≡ pid). subst (λ k. Stand world_given site_given k o) (sym e)
      (subst (λ x. Stand world_given site_given pid x) (some_is (sym lives ∙ (ap w.process (sym e) ∙ is))) given_mine))
      (λ (other : r ≡ pid → ⊥). frame_stand w v world_given site_given r o (given_same r o other) (goes.stand r o is))
      (cases_eq r pid)

  given_reaches : Reaches v world_given
  given_reaches = record {
    events = ModelHandsOver p.worker ∷ [];
    run = ((s, line, ready.seen, ready.stage, ready.all), tt);
    goes = record {
      alive = given_alive;
      performed = goes.performed;
      kept = goes.kept;
      nobody = goes.nobody;
      unbegun = goes.unbegun;
      answered = λ q n c t one says. settled_after v (ModelHandsOver p.worker) q n (goes.answered q n c t one says);
      undone = goes.undone;
      alive_handed = given_alive_handed;
      performed_handed = λ h one. inr (goes.performed_handed h one);
      handed = given_handed;
      away = given_away;
      owner = goes.owner;
      stand = given_stand;
    };
  }

pub hands_over : (w : World) (v : Site) (pid s line : ℕ) (text : List ℕ) → MayFollow w (HandsOver pid s line text) → Goes w v → Reaches v (world_after w (HandsOver pid s line text))
hands_over w v pid s line text may goes =
    let p = may.0 in
    subst (λ (o : Option Process). Reaches v (record w { handed = handing_of o s line ++ w.handed; alive = handing_of o s line ++ w.alive })) (sym may.1.0)
    (given_reaches w v pid p s line goes may.1.0 (is_ready w v pid p s line text may.2 p.phase (goes.stand pid p may.1.0).here may.1.1))

-- ---- processes die

pub freed_some : (g : Option ℕ) (pid r : ℕ) → freed g pid ≡ Some r → (g ≡ Some r) × (r ≡ pid → ⊥)
freed_some None pid r is = absurd (none_some is)
freed_some (Some h) pid r is = ⊎_elim
    (λ (e : h ≡ pid). absurd (none_some (sym (ap (λ b. if b then None else Some h) (eq-eqb h pid e)) ∙ is)))
    (λ (n : h ≡ pid → ⊥). let same : Some h ≡ Some r = sym (ap (λ b. if b then None else Some h) (ne_eqb h pid n)) ∙ is in (same, λ e. n (some_is same ∙ e)))
    (cases_eq h pid)

pub freed_other : (g : Option ℕ) (pid r : ℕ) → (r ≡ pid → ⊥) → g ≡ Some r → freed g pid ≡ Some r
freed_other g pid r n is = ap (λ (x : Option ℕ). freed x pid) is ∙ ap (λ b. if b then None else Some r) (ne_eqb r pid n)

freed_none : (g : Option ℕ) (pid : ℕ) → freed g pid ≡ None → (g ≡ None) ⊎ (g ≡ Some pid)
freed_none None pid is = inl refl
freed_none (Some h) pid is = ⊎_elim
    (λ (e : h ≡ pid). inr (ap Some e))
    (λ (n : h ≡ pid → ⊥). absurd (none_some (sym is ∙ ap (λ b. if b then None else Some h) (ne_eqb h pid n))))
    (cases_eq h pid)

module _ (w : World) (v : Site) (pid : ℕ) (st : ℕ → ModelStage) (goes : Goes w v)
    (gone : (q : ℕ) → w.guard q ≡ Some pid → st q ≡ Away) (stays : (q : ℕ) → (w.guard q ≡ Some pid → ⊥) → st q ≡ v.stage q)
    (settled : (q s : ℕ) → Settled v q s → Settled (record v { stage = st }) q s) where
  dead_away : (q : ℕ) → freed (w.guard q) pid ≡ None → st q ≡ Away
  dead_away q is = ⊎_elim
      (λ (none : w.guard q ≡ None). stays q (λ holds. none_some (sym none ∙ holds)) ∙ goes.away q none)
      (λ holds. gone q holds)
      (freed_none (w.guard q) pid is)

  dead_owner : (q r : ℕ) → freed (w.guard q) pid ≡ Some r → (o : Process) × (with_at w.process pid None r ≡ Some o) × (o.worker ≡ q)
  dead_owner q r is =
      let was = freed_some (w.guard q) pid r is in
      let old = goes.owner q r was.0 in
      (old.0, at_other w.process pid None r was.1 ∙ old.1, old.2)

  dead_same : (r : ℕ) (o : Process) → (r ≡ pid → ⊥) → Same w v (world_after w (Dies pid)) (record v { stage = st }) r o
  dead_same r o other = record {
    lost = λ q holds. (freed_some (w.guard q) pid r holds).0;
    guard = λ holds. freed_other (w.guard o.worker) pid r other holds;
    stage = λ holds. stays o.worker (λ mine. other (some_is (sym holds ∙ mine)));
    kept = λ holds. refl;
    log = λ holds. refl;
    first = λ holds n first. first;
    handed = λ h one. one;
    opened = λ q n one. one;
    settled = settled;
  }

  dead_stand : (r : ℕ) (o : Process) → with_at w.process pid None r ≡ Some o → Stand (world_after w (Dies pid)) (record v { stage = st }) r o
  dead_stand r o = at_number (λ x. x ≡ Some o → Stand (world_after w (Dies pid)) (record v { stage = st }) r o) w.process pid None r
      (λ e is. absurd (none_some is))
      (λ other is. frame_stand w v (world_after w (Dies pid)) (record v { stage = st }) r o (dead_same r o other) (goes.stand r o is))

  dead_goes : Goes (world_after w (Dies pid)) (record v { stage = st })
  dead_goes = record {
    alive = goes.alive;
    performed = goes.performed;
    kept = goes.kept;
    nobody = goes.nobody;
    unbegun = goes.unbegun;
    answered = λ q s c text one says. settled q s (goes.answered q s c text one says);
    undone = goes.undone;
    alive_handed = goes.alive_handed;
    performed_handed = goes.performed_handed;
    handed = goes.handed;
    away = dead_away;
    owner = dead_owner;
    stand = dead_stand;
  }

-- The process pid has this lock, or it doesn't.
is_some_pid : (g : Option ℕ) (pid : ℕ) → (g ≡ Some pid) ⊎ (g ≡ Some pid → ⊥)
is_some_pid None pid = inr (λ e. none_some e)
is_some_pid (Some h) pid = ⊎_elim (λ (e : h ≡ pid). inl (ap Some e)) (λ n. inr (λ e. n (some_is e))) (cases_eq h pid)

pub dies : (w : World) (v : Site) (pid : ℕ) → MayFollow w (Dies pid) → Goes w v → Reaches v (world_after w (Dies pid))
dies w v pid may goes = by (w.process pid) refl
  where
    quietly : ((q : ℕ) → w.guard q ≡ Some pid → ⊥) → Reaches v (world_after w (Dies pid))
    quietly none = record {
      events = [];
      run = tt;
      goes = dead_goes w v pid v.stage goes (λ q holds. absurd (none q holds)) (λ q other. refl) (λ q s is. is);
    }

    by : (o : Option Process) → w.process pid ≡ o → Reaches v (world_after w (Dies pid))
    by None is = quietly (λ q holds. none_some (sym is ∙ (goes.owner q pid holds).1))
    by (Some p) is = ⊎_elim
        (λ (mine : w.guard p.worker ≡ Some pid). record {
          events = ModelDies p.worker ∷ [];
          run = (tt, tt);
          goes = dead_goes w v pid (with_at v.stage p.worker Away) goes
              (λ q holds. ap (with_at v.stage p.worker Away) (sym (worker_is q holds)) ∙ at_it v.stage p.worker Away)
              (λ q other. at_other v.stage p.worker Away q (λ e. other (ap w.guard e ∙ mine)))
              (settled_after v (ModelDies p.worker));
        })
        (λ other. quietly (λ q holds. other (ap w.guard (worker_is q holds) ∙ holds)))
        (is_some_pid (w.guard p.worker) pid)
      where
        worker_is : (q : ℕ) → w.guard q ≡ Some pid → p.worker ≡ q
        worker_is q holds = let old = goes.owner q pid holds in ap (λ (x : Process). x.worker) (some_is (sym is ∙ old.1)) ∙ old.2

-- By some events the processes of the workers 0 to n die in the model.
record AllDie (n : ℕ) (v : Site) : Type 0 where
  pub events : List ModelEvent
  pub run : IsRunFrom Clearance MAX_WORKERS v events
  pub stage : ℕ → ModelStage
  pub site : site_from v events ≡ record v { stage = stage }
  pub low : (q : ℕ) → q ≤ n → stage q ≡ Away
  pub was : (q : ℕ) → v.stage q ≡ Away → stage q ≡ Away

died_away : (stage : ℕ → ModelStage) (n q : ℕ) → (q ≡ n) ⊎ (stage q ≡ Away) → with_at stage n Away q ≡ Away
died_away stage n q either = at_number (λ x. x ≡ Away) stage n Away q (λ e. refl) (λ other. ⊎_elim (λ e. absurd (other e)) (λ is. is) either)

all_die : (n : ℕ) (v : Site) → AllDie n v
all_die zero v = record {
  events = ModelDies 0 ∷ [];
  run = (tt, tt);
  stage = with_at v.stage 0 Away;
  site = refl;
  low = λ q le. died_away v.stage 0 q (inl (omega arith));
  was = λ q is. died_away v.stage 0 q (inr is);
}
all_die (suc n) v =
    let rest : AllDie n (site_after v (ModelDies (suc n))) = all_die n (site_after v (ModelDies (suc n))) in
    record {
      events = ModelDies (suc n) ∷ rest.events;
      run = (tt, rest.run);
      stage = rest.stage;
      site = rest.site;
      low = λ q le. ⊎_elim
          (λ (lt : q < suc n). rest.low q (omega arith))
          (λ (ge : suc n ≤ q). rest.was q (died_away v.stage (suc n) q (inl (omega arith))))
          (cases_lt q (suc n));
      was = λ q is. rest.was q (died_away v.stage (suc n) q (inr is));
    }

pub stops : (w : World) (v : Site) (left : LogFile → ℕ) → MayFollow w (Stops left) → Goes w v → Reaches v (world_after w (Stops left))
stops w v left may goes = record {
  events = die.events;
  run = die.run;
  goes = subst (λ x. Goes (world_after w (Stops left)) x) (sym die.site) (record {
    alive = goes.alive;
    performed = goes.performed;
    kept = goes.kept;
    nobody = fewer_nobody (w.logs (Journal 0)) ((world_after w (Stops left)).logs (Journal 0)) (few (Journal 0)) goes.nobody;
    unbegun = λ q s text one. goes.unbegun q s text (fewer_one (w.logs (Journal q)) ((world_after w (Stops left)).logs (Journal q)) text (few (Journal q)) one);
    answered = λ q s c text one says. subst (λ x. Settled x q s) die.site (settled_from v die.events q s
        (goes.answered q s c text (fewer_one (w.logs (Journal q)) ((world_after w (Stops left)).logs (Journal q)) text (few (Journal q)) one) says));
    undone = λ text one. goes.undone text (fewer_one (w.logs Answers) ((world_after w (Stops left)).logs Answers) text (few Answers) one);
    alive_handed = goes.alive_handed;
    performed_handed = goes.performed_handed;
    handed = goes.handed;
    away = λ q is. away_at q (w.guard q) refl;
    owner = λ q r holds. absurd (none_some holds);
    stand = λ r o is. absurd (none_some is);
  });
}
  where
    die : AllDie MAX_WORKERS v
    die = all_die MAX_WORKERS v

    few : (f : LogFile) → Fewer (w.logs f) ((world_after w (Stops left)).logs f)
    few f = left_fewer (w.logs f) (left f)

    away_at : (q : ℕ) (g : Option ℕ) → w.guard q ≡ g → die.stage q ≡ Away
    away_at q None is = die.was q (goes.away q is)
    away_at q (Some r) is =
        let old = goes.owner q r is in
        die.low q (subst (λ k. k ≤ MAX_WORKERS) old.2 (goes.stand r old.0 old.1).high)

-- ---- lines are performed, and attempts end

pub performs : (w : World) (v : Site) (h : Handing) → MayFollow w (Performs h) → Goes w v → Reaches v (world_after w (Performs h))
performs w v h may goes = record {
  events = ModelPerforms h ∷ [];
  run = ((subst (λ (hs : List Handing). IsOneOf hs h) (sym goes.alive) may.0, λ one. may.1 (subst (λ (hs : List Handing). IsOneOf hs h) goes.performed one)), tt);
  goes = record {
    alive = goes.alive;
    performed = ap (λ (hs : List Handing). h ∷ hs) goes.performed;
    kept = goes.kept;
    nobody = goes.nobody;
    unbegun = goes.unbegun;
    answered = goes.answered;
    undone = goes.undone;
    alive_handed = goes.alive_handed;
    performed_handed = performed_at;
    handed = goes.handed;
    away = goes.away;
    owner = goes.owner;
    stand = λ r o is. frame_stand w v (world_after w (Performs h)) (site_after v (ModelPerforms h)) r o
        (same_all w v (world_after w (Performs h)) (site_after v (ModelPerforms h)) r o refl refl refl refl refl refl) (goes.stand r o is);
  };
}
  where
    performed_at : (g : Handing) → IsOneOf (h ∷ w.performed) g → IsOneOf w.handed g
    performed_at g (inl e) = subst (λ (x : Handing). IsOneOf w.handed x) e (goes.alive_handed h may.0)
    performed_at g (inr one) = goes.performed_handed g one

pub ends : (w : World) (v : Site) (i : ℕ) → MayFollow w (Ends i) → Goes w v → Reaches v (world_after w (Ends i))
ends w v i may goes = record {
  events = ModelEnds i ∷ [];
  run = (tt, tt);
  goes = record {
    alive = ap (λ (hs : List Handing). take i hs ++ drop (i + 1) hs) goes.alive;
    performed = goes.performed;
    kept = goes.kept;
    nobody = goes.nobody;
    unbegun = goes.unbegun;
    answered = goes.answered;
    undone = goes.undone;
    alive_handed = λ h one. goes.alive_handed h (without_of i w.alive h one);
    performed_handed = goes.performed_handed;
    handed = goes.handed;
    away = goes.away;
    owner = goes.owner;
    stand = λ r o is. frame_stand w v (world_after w (Ends i)) (site_after v (ModelEnds i)) r o
        (same_all w v (world_after w (Ends i)) (site_after v (ModelEnds i)) r o refl refl refl refl refl refl) (goes.stand r o is);
  };
}

-- ---- an operator's command writes to a journal

module _ (w : World) (v : Site) (q0 s0 time : ℕ) (unlocked : w.guard q0 ≡ None) (small : s0 < 2 ^ 64) (soon : time < 2 ^ 64)
    (known : (line : ℕ) × (line_of (lines_in (w.logs (Journal q0)).kept) s0 ≡ Some line)) (goes : Goes w v) where
  abbrev doubt_text : List ℕ
  doubt_text = text_of_append (One (Answered s0 (Doubt time)))

  abbrev log_before : Log
  log_before = w.logs (Journal q0)

  abbrev log_doubted : Log
  log_doubted = with_append (w.logs (Journal q0)) doubt_text

  abbrev world_doubted : World
  world_doubted = world_after w (Doubts q0 s0 time)

  doubt_says : append_in doubt_text ≡ Some (One (Answered s0 (Doubt time)))
  doubt_says = put_says None (Answered s0 (Doubt time)) (small, soon)

  doubted_kept : (q : ℕ) → v.kept q ≡ lines_in (world_doubted.logs (Journal q)).kept
  doubted_kept q = at_log (λ (l : Log). v.kept q ≡ lines_in l.kept) w.logs (Journal q0) log_doubted (Journal q)
      (λ e. ap v.kept (journal_of q q0 e) ∙ goes.kept q0)
      (λ other. goes.kept q)

  doubted_nobody : lines_in (all_of (world_doubted.logs (Journal 0))) ≡ []
  doubted_nobody = at_log (λ (l : Log). lines_in (all_of l) ≡ []) w.logs (Journal q0) log_doubted (Journal 0)
      (λ e. ap lines_in (sym (append_assoc log_before.kept log_before.rest (doubt_text ∷ [])))
      ∙ (lines_in_both (all_of log_before) (doubt_text ∷ [])
      ∙ (ap (λ (xs : List ℕ). xs ++ lines_in (doubt_text ∷ [])) (ap (λ k. lines_in (all_of (w.logs (Journal k)))) (sym (journal_of 0 q0 e)) ∙ goes.nobody)
      ∙ put_no_lines None (Answered s0 (Doubt time)) (λ o is. absurd (none_some is)) tt (small, soon))))
      (λ other. goes.nobody)

  says_doubt : (s : ℕ) (c : Outcome) → IsOneOf (entries_of (append_in doubt_text)) (Answered s c) → Answered s0 (Doubt time) ≡ Answered s c
  says_doubt s c one = ⊎_elim
      (λ is. is)
      (λ none. absurd none)
      (subst (λ o. IsOneOf (entries_of o) (Answered s c)) doubt_says one)

  -- The attempt in doubt is settled, since no process has the lock on its journal.
  doubted_settled : Settled v q0 s0
  doubted_settled = (
    (known.0, ap (λ (ls : List ℕ). line_of ls s0) (goes.kept q0) ∙ known.1),
    λ line seen held. let no : Away ≡ ModelClearing s0 line seen = sym (goes.away q0 unlocked) ∙ held in absurd (cc no),
  )

  -- Each text of the journal was there before, or is the text of the doubt.
  doubted_one : (q : ℕ) (text : List ℕ) → IsOneOf (all_of (world_doubted.logs (Journal q))) text → IsOneOf (all_of (w.logs (Journal q))) text ⊎ ((q ≡ q0) × (doubt_text ≡ text))
  doubted_one q text = at_log (λ (l : Log). IsOneOf (all_of l) text → IsOneOf (all_of (w.logs (Journal q))) text ⊎ ((q ≡ q0) × (doubt_text ≡ text))) w.logs (Journal q0) log_doubted (Journal q)
      (λ e one. ⊎_elim
      (λ old. inl (subst (λ k. IsOneOf (all_of (w.logs (Journal k))) text) (sym (journal_of q q0 e)) old))
      (λ new. ⊎_elim (λ (is : doubt_text ≡ text). inr (journal_of q q0 e, is)) (λ none. absurd none) new)
      (of_both (all_of (w.logs (Journal q0))) (doubt_text ∷ []) text
      (of_same _ _ text (sym (append_assoc (w.logs (Journal q0)).kept (w.logs (Journal q0)).rest (doubt_text ∷ []))) one)))
      (λ other one. inl one)

  doubted_unbegun : (q s : ℕ) (text : List ℕ) → IsOneOf (all_of (world_doubted.logs (Journal q))) text → IsOneOf (entries_of (append_in text)) (Answered s NotBegun) → IsOpened v q s
  doubted_unbegun q s text one says = ⊎_elim
      (λ old. goes.unbegun q s text old says)
      (λ (new : (q ≡ q0) × (doubt_text ≡ text)).
      let is : Answered s0 (Doubt time) ≡ Answered s NotBegun = says_doubt s NotBegun (subst (λ (t : List ℕ). IsOneOf (entries_of (append_in t)) (Answered s NotBegun)) (sym new.1) says) in
      absurd (cc is))
      (doubted_one q text one)

  doubted_answered : (q s : ℕ) (c : Outcome) (text : List ℕ) → IsOneOf (all_of (world_doubted.logs (Journal q))) text → IsOneOf (entries_of (append_in text)) (Answered s c) → Settled v q s
  doubted_answered q s c text one says = ⊎_elim
      (λ old. goes.answered q s c text old says)
      (λ (new : (q ≡ q0) × (doubt_text ≡ text)).
      subst (λ k. Settled v k s) (sym new.0) (subst (Settled v q0)
      (serial_is s0 s (Doubt time) c (says_doubt s c (subst (λ (t : List ℕ). IsOneOf (entries_of (append_in t)) (Answered s c)) (sym new.1) says)))
      doubted_settled))
      (doubted_one q text one)
    where
      serial_is : (a b : ℕ) (x y : Outcome) → Answered a x ≡ Answered b y → a ≡ b
      serial_is a b x y e = cc

  doubted_same : (r : ℕ) (o : Process) → Same w v world_doubted v r o
  doubted_same r o = record {
    lost = λ q holds. holds;
    guard = λ holds. holds;
    stage = λ holds. refl;
    kept = λ holds. refl;
    log = λ holds. log_other w.logs q0 log_doubted o.worker (λ e. none_some (sym unlocked ∙ (ap w.guard (sym e) ∙ holds)));
    first = λ holds n first. first;
    handed = λ h one. one;
    opened = λ q n one. one;
    settled = λ q n is. is;
  }

  doubted_reaches : Reaches v world_doubted
  doubted_reaches = record {
    events = [];
    run = tt;
    goes = record {
      alive = goes.alive;
      performed = goes.performed;
      kept = doubted_kept;
      nobody = doubted_nobody;
      unbegun = doubted_unbegun;
      answered = doubted_answered;
      undone = goes.undone;
      alive_handed = goes.alive_handed;
      performed_handed = goes.performed_handed;
      handed = goes.handed;
      away = goes.away;
      owner = goes.owner;
      stand = λ r o is. frame_stand w v world_doubted v r o (doubted_same r o) (goes.stand r o is);
    };
  }

pub doubts : (w : World) (v : Site) (q s time : ℕ) → MayFollow w (Doubts q s time) → Goes w v → Reaches v (world_after w (Doubts q s time))
doubts w v q s time may goes = doubted_reaches w v q s time may.0 may.1 may.2 may.3 goes

-- ---- a log is recovered

-- By some events intents of these lines come into the journal of the worker q in the model.
record AllLand (q : ℕ) (lines : List ℕ) (v : Site) : Type 0 where
  pub events : List ModelEvent
  pub run : IsRunFrom Clearance MAX_WORKERS v events
  pub kept : ℕ → List ℕ
  pub site : site_from v events ≡ record v { kept = kept }
  pub here : kept q ≡ v.kept q ++ lines
  pub other : (r : ℕ) → (r ≡ q → ⊥) → kept r ≡ v.kept r

all_land : (q : ℕ) (lines : List ℕ) (v : Site) → v.stage q ≡ Away → AllLand q lines v
all_land q [] v away = record {
  events = [];
  run = tt;
  kept = v.kept;
  site = refl;
  here = sym (append-nil (v.kept q));
  other = λ r apart. refl;
}
all_land q (x ∷ lines) v away =
    let rest : AllLand q lines (site_after v (Lands q x)) = all_land q lines (site_after v (Lands q x)) away in
    record {
      events = Lands q x ∷ rest.events;
      run = (away, rest.run);
      kept = rest.kept;
      site = rest.site;
      here = rest.here ∙ (ap (λ (xs : List ℕ). xs ++ lines) (at_it v.kept q (v.kept q ++ x ∷ [])) ∙ append_assoc (v.kept q) (x ∷ []) lines);
      other = λ r apart. rest.other r apart ∙ at_other v.kept q (v.kept q ++ x ∷ []) r apart;
    }

module _ (w : World) (v : Site) (q0 more : ℕ) (unlocked : w.guard q0 ≡ None) (goes : Goes w v) (land : AllLand q0 (lines_in (take more (w.logs (Journal q0)).rest)) v) where
  abbrev log_landed : Log
  log_landed = recovered (w.logs (Journal q0)) more

  abbrev world_landed : World
  world_landed = world_after w (Recovers (Journal q0) more)

  abbrev site_landed : Site
  site_landed = record v { kept = land.kept }

  landed_kept : (q : ℕ) → land.kept q ≡ lines_in (world_landed.logs (Journal q)).kept
  landed_kept q = at_log (λ (l : Log). land.kept q ≡ lines_in l.kept) w.logs (Journal q0) log_landed (Journal q)
      (λ e. ap land.kept (journal_of q q0 e) ∙ (land.here ∙ (ap (λ (xs : List ℕ). xs ++ lines_in (take more (w.logs (Journal q0)).rest)) (goes.kept q0)
      ∙ sym (lines_in_both (w.logs (Journal q0)).kept (take more (w.logs (Journal q0)).rest)))))
      (λ other. land.other q (λ e. other (ap Journal e)) ∙ goes.kept q)

  landed_fewer : (q : ℕ) → Fewer (w.logs (Journal q)) (world_landed.logs (Journal q))
  landed_fewer q = at_log (λ (l : Log). Fewer (w.logs (Journal q)) l) w.logs (Journal q0) log_landed (Journal q)
      (λ e. subst (λ k. Fewer (w.logs (Journal k)) log_landed) (sym (journal_of q q0 e)) (recovered_fewer (w.logs (Journal q0)) more))
      (λ other. record { lost = []; all = sym (append-nil (all_of (w.logs (Journal q)))) })

  landed_handed : (h : Handing) → IsOneOf w.handed h → line_of (land.kept h.worker) h.serial ≡ Some h.line
  landed_handed h one = ⊎_elim
      (λ (e : h.worker ≡ q0). ap (λ (ls : List ℕ). line_of ls h.serial) (ap land.kept e ∙ land.here)
      ∙ line_of_both (v.kept q0) _ h.serial h.line (ap (λ k. line_of (v.kept k) h.serial) (sym e) ∙ goes.handed h one))
      (λ other. ap (λ (ls : List ℕ). line_of ls h.serial) (land.other h.worker other) ∙ goes.handed h one)
      (cases_eq h.worker q0)

  landed_settled : (q s : ℕ) → Settled v q s → Settled site_landed q s
  landed_settled q s is = subst (λ x. Settled x q s) land.site (settled_from v land.events q s is)

  landed_same : (r : ℕ) (o : Process) → Same w v world_landed site_landed r o
  landed_same r o = record {
    lost = λ q holds. holds;
    guard = λ holds. holds;
    stage = λ holds. refl;
    kept = λ holds. land.other o.worker (apart holds);
    log = λ holds. log_other w.logs q0 log_landed o.worker (apart holds);
    first = λ holds n first. first;
    handed = λ h one. one;
    opened = λ q n one. one;
    settled = landed_settled;
  }
    where
      apart : w.guard o.worker ≡ Some r → o.worker ≡ q0 → ⊥
      apart holds e = none_some (sym unlocked ∙ (ap w.guard (sym e) ∙ holds))

  landed_goes : Goes world_landed site_landed
  landed_goes = record {
    alive = goes.alive;
    performed = goes.performed;
    kept = landed_kept;
    nobody = fewer_nobody (w.logs (Journal 0)) (world_landed.logs (Journal 0)) (landed_fewer 0) goes.nobody;
    unbegun = λ q s text one. goes.unbegun q s text (fewer_one (w.logs (Journal q)) (world_landed.logs (Journal q)) text (landed_fewer q) one);
    answered = λ q s c text one says. landed_settled q s (goes.answered q s c text (fewer_one (w.logs (Journal q)) (world_landed.logs (Journal q)) text (landed_fewer q) one) says);
    undone = goes.undone;
    alive_handed = goes.alive_handed;
    performed_handed = goes.performed_handed;
    handed = landed_handed;
    away = goes.away;
    owner = goes.owner;
    stand = λ r o is. frame_stand w v world_landed site_landed r o (landed_same r o) (goes.stand r o is);
  }

pub recovers : (w : World) (v : Site) (f : LogFile) (more : ℕ) → MayFollow w (Recovers f more) → Goes w v → Reaches v (world_after w (Recovers f more))
recovers w v Answers more may goes = record {
  events = [];
  run = tt;
  goes = record {
    alive = goes.alive;
    performed = goes.performed;
    kept = goes.kept;
    nobody = goes.nobody;
    unbegun = goes.unbegun;
    answered = goes.answered;
    undone = λ text one. goes.undone text (fewer_one (w.logs Answers) (recovered (w.logs Answers) more) text (recovered_fewer (w.logs Answers) more) one);
    alive_handed = goes.alive_handed;
    performed_handed = goes.performed_handed;
    handed = goes.handed;
    away = goes.away;
    owner = goes.owner;
    stand = λ r o is. frame_stand w v (world_after w (Recovers Answers more)) v r o (same r o) (goes.stand r o is);
  };
}
  where
    same : (r : ℕ) (o : Process) → Same w v (world_after w (Recovers Answers more)) v r o
    same r o = record {
      lost = λ q holds. holds;
      guard = λ holds. holds;
      stage = λ holds. refl;
      kept = λ holds. refl;
      log = λ holds. refl;
      first = λ holds n first. first;
      handed = λ h one. one;
      opened = λ q n one. one;
      settled = λ q n is. is;
    }
recovers w v (Journal q) more may goes =
    let land : AllLand q (lines_in (take more (w.logs (Journal q)).rest)) v = all_land q (lines_in (take more (w.logs (Journal q)).rest)) v (goes.away q may) in
    record {
      events = land.events;
      run = land.run;
      goes = subst (λ x. Goes (world_after w (Recovers (Journal q) more)) x) (sym land.site) (landed_goes w v q more may goes land);
    }
