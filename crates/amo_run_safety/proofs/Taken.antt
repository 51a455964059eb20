-- An intent whose job was found taken is over from then on, and no command of it has begun.
use Rattle.std.proofs.Common.{◌≡◌, ⊎_elim, ℕ, ◌<◌, true, false, List, [], ◌∷◌, ◌++◌, Option, Some, None, refl, sym, ap, ◌∙◌, subst, append-nil, arith}
use Rattle.std.proofs.lemmas.Bool.{true≢false}
use Rattle.amo_driver.specs.declared.model.Deed.TheVariants.{Cleared}
use Rattle.amo_driver.specs.declared.model.Try.TheVariants.{Clear, Perform}
use Rattle.amo_driver.specs.Stage.{Stage}
use Rattle.amo_driver.specs.Course.{due}
use Rattle.amo_driver_safety.specs.Scene.{stage_at, scene_of}
use Rattle.amo_driver_safety.specs.declared.model.Moment.TheVariants.{Does, Loses}
use Rattle.amo_driver_safety.proofs.Stages.{clearing_at, performing_at}
use Rattle.amo_driver_safety.proofs.Spent.{after_taking}
use Rattle.amo_run_log.specs.Grammar.{intents}
use Rattle.amo_run_safety.specs.Site.{Whereabouts, Away, Before, Inside, Round, Site, Acts}
use Rattle.amo_run_safety.specs.Run.{site_after, MayBeIn, MayAct, MayMiss, Handing, is_among, IsOneOf, names_of}
use Rattle.amo_run_safety.specs.Commands.{Action, Happens, Begins, Sends, Arrives, Vanishes, Ends, Drops, Lists, Yard, first_yard, yard_after, IsOver, MayFollow, AreActionsFrom, AreActions, yard_after_all, yard_of, said_by}
use Rattle.amo_run_safety.proofs.Openings.{among_neither}
use Rattle.amo_run_safety.proofs.Stages.{is_asking, asks_only}
use Rattle.amo_run_safety.proofs.Counted.{intents_grow, IsCounted, IsBehind}
use Rattle.amo_run_safety.proofs.Sane.{FitsIn, Fits, IsSane}
use Rattle.amo_run_safety.proofs.Handed.{kept_grows}
use Rattle.amo_run_safety.proofs.Named.{BehindIn, BehindAt, WasNamed, named_after, acted_now, unnamed}
use Rattle.amo_run_safety.proofs.Said.{named, IsNotDue}
use Rattle.amo_run_safety.proofs.Yards.{names-append, one_named, one_left, one_right, without_less, still_none}
use Rattle.amo_run_safety.proofs.Begun.{IsOrderly, first_orderly, waits_not, orderly_after}

asks_none : (s : Stage) (n j : ℕ) → is_asking s ≡ true → due s ≡ Some (Clear n j) → ⊥
asks_none s n j h e = let at = clearing_at s n j e in true≢false (sym h ∙ ap is_asking at.1)

-- what has its name is handed over no more, and it is not asked for it

not_due_in : (o : Option Round) (q n : ℕ) → BehindIn o q n → (j : ℕ) → (MayBeIn o (Loses q (Clear n j)) → ⊥) × (MayBeIn o (Loses q (Perform n j)) → ⊥)
not_due_in None q n behind j = ((λ may. may), (λ may. may))
not_due_in (Some r) q n behind j = (
  (λ may.
      let at = clearing_at (stage_at (scene_of r.givens r.moments) q) n j may.1 in
      let less : n < n = subst (IsBehind n) at.1 behind in
      omega (arith, less)),
  (λ may.
      let at = performing_at (stage_at (scene_of r.givens r.moments) q) n j may.1 in
      let less : n < n = subst (IsBehind n) at.1 behind in
      omega (arith, less)),
)

module _ (w : Site) (said : List (ℕ × ℕ)) (sane : IsSane w said) (p n : ℕ) where
  not_due_at : (whereabouts : Whereabouts) → w.whereabouts p ≡ whereabouts → BehindAt w.rounds whereabouts n
      → (j : ℕ) → (MayMiss w.rounds whereabouts (Clear n j) → ⊥) × (MayMiss w.rounds whereabouts (Perform n j) → ⊥)
  not_due_at Away at behind j = ((λ may. may), (λ may. may))
  not_due_at (Before s) at behind j =
      let fits : Fits w.rounds w.last (w.journals p) p (Before s) = subst (λ whereabouts. Fits w.rounds w.last (w.journals p) p whereabouts) at (sane.whereabouts p) in
      (asks_none s n j fits.0, asks_only s n j fits.0)
  not_due_at (Inside k q) at behind j = not_due_in (w.rounds k) q n behind j

  named_not_due : WasNamed w (named p n) → IsNotDue w p n
  named_not_due was = not_due_at (w.whereabouts p) refl was.behind

  -- who asks for it asks by the number of the journal's intents, and what was handed over before has another

  asked_in : (o : Option Round) (q j : ℕ) → FitsIn o (w.journals p) p q → MayBeIn o (Does q (Cleared n j false)) → n ≡ intents (w.journals p).kept
  asked_in None q j fits may = absurd may
  asked_in (Some r) q j fits may =
      let at = clearing_at (stage_at (scene_of r.givens r.moments) q) n j may.1 in
      subst (IsCounted (intents (w.journals p).kept)) at.1 fits.1.2

  asked_at : (whereabouts : Whereabouts) (j : ℕ) → w.whereabouts p ≡ whereabouts → MayAct w.rounds whereabouts (Cleared n j false) → n ≡ intents (w.journals p).kept
  asked_at Away j at may = absurd may
  asked_at (Before s) j at may =
      let fits : Fits w.rounds w.last (w.journals p) p (Before s) = subst (λ whereabouts. Fits w.rounds w.last (w.journals p) p whereabouts) at (sane.whereabouts p) in
      absurd (asks_none s n j fits.0 may)
  asked_at (Inside k q) j at may =
      let fits : Fits w.rounds w.last (w.journals p) p (Inside k q) = subst (λ whereabouts. Fits w.rounds w.last (w.journals p) p whereabouts) at (sane.whereabouts p) in
      asked_in (w.rounds k) q j fits.1 may

  missed_in : (o : Option Round) (q j : ℕ) → MayBeIn o (Does q (Cleared n j false)) → MayBeIn o (Loses q (Clear n j))
  missed_in None q j may = may
  missed_in (Some r) q j may = (may.0, may.1)

  missed_at : (whereabouts : Whereabouts) (j : ℕ) → MayAct w.rounds whereabouts (Cleared n j false) → MayMiss w.rounds whereabouts (Clear n j)
  missed_at Away j may = may
  missed_at (Before s) j may = may
  missed_at (Inside k q) j may = missed_in (w.rounds k) q j may

  is_new : (j : ℕ) → MayAct w.rounds (w.whereabouts p) (Cleared n j false) → (h : Handing) → WasNamed w h → p ≡ h.worker → n ≡ h.serial → ⊥
  is_new j may h was one same =
      let behind : BehindAt w.rounds (w.whereabouts p) n = subst (λ k. BehindAt w.rounds (w.whereabouts p) k) (sym same) (subst (λ x. BehindAt w.rounds (w.whereabouts x) h.serial) (sym one) was.behind) in
      (not_due_at (w.whereabouts p) refl behind j).0 (missed_at (w.whereabouts p) j may)

  taken_name : (time j : ℕ) → MayAct w.rounds (w.whereabouts p) (Cleared n j false) → WasNamed (site_after w (Acts p time (Cleared n j false))) (named p n)
  taken_name time j may =
      let e = Acts p time (Cleared n j false) in
      let more = intents_grow (w.journals p).kept ((site_after w e).journals p).kept (kept_grows w e p) in
      let counted = asked_at (w.whereabouts p) j refl may in
      record { few = omega (arith, counted, more); behind = acted_now w said sane p time (Cleared n j false) may (λ s due_there. after_taking s n j due_there) n }

-- It was found taken: no command of it may begin, has begun, or has sent a request.
record WasTaken (y : Yard) (p n : ℕ) : Type 0 where
  pub name : WasNamed y.site (named p n)
  pub waits : is_among (names_of y.waiting) p n ≡ false
  pub runs : is_among (names_of y.running) p n ≡ false
  pub sent : is_among (names_of y.sent) p n ≡ false
  pub begun : is_among (names_of y.begun) p n ≡ false
  pub performed : is_among (names_of y.performed) p n ≡ false

module _ (p n : ℕ) where
  -- one more that is among others of another name
  another : (others hs : List Handing) (k : Handing) → IsOneOf others k → is_among (names_of others) p n ≡ false → is_among (names_of hs) p n ≡ false → is_among (names_of (hs ++ k ∷ [])) p n ≡ false
  another others hs k one none before =
      ap (λ l. is_among l p n) (names-append hs (k ∷ [])) ∙ among_neither (names_of hs) (names_of (k ∷ [])) p n before
      (unnamed (k ∷ []) p n (λ h its first second. ⊎_elim
      (λ (e : k ≡ h). true≢false (sym (one_named others k one)
      ∙ ap (λ (x : Handing). is_among (names_of others) x.worker x.serial) e
      ∙ ap (λ x. is_among (names_of others) x h.serial) (sym first) ∙ ap (λ x. is_among (names_of others) p x) (sym second) ∙ none))
      (λ nothing. absurd nothing) its))

  taken_now : (y : Yard) (said : List (ℕ × ℕ)) → IsOrderly y said → (time j : ℕ) → MayFollow IsOver y (Happens (Acts p time (Cleared n j false)))
      → WasTaken (yard_after y (Happens (Acts p time (Cleared n j false)))) p n
  taken_now y said orderly time j may =
      let new = is_new y.site said orderly.sane p n j may.0.1 in
      record {
        name = taken_name y.site said orderly.sane p n time j may.0.1;
        waits = ap (λ l. is_among (names_of l) p n) (append-nil y.waiting)
            ∙ unnamed y.waiting p n (λ k one first second. new k (orderly.going k (one_left y.waiting y.running k one)).name first second);
        runs = unnamed y.running p n (λ k one first second. new k (orderly.going k (one_right y.waiting y.running k one)).name first second);
        sent = unnamed y.sent p n (λ k one first second. new k (orderly.past k (one_left y.sent y.performed k one)).name first second);
        begun = unnamed y.begun p n (λ k one first second. new k (orderly.begun k one).name first second);
        performed = unnamed y.performed p n (λ k one first second. new k (orderly.past k (one_right y.sent y.performed k one)).name first second);
      }

  taken_after : (y : Yard) (said : List (ℕ × ℕ)) → IsOrderly y said → WasTaken y p n → (a : Action) → MayFollow IsOver y a → WasTaken (yard_after y a) p n
  taken_after y said orderly was (Happens e) may = record {
    name = named_after y.site said orderly.sane (named p n) was.name e may.0;
    waits = waits_not y said orderly e may (named p n) was.name was.waits;
    runs = still_none e y.running p n was.runs;
    sent = was.sent;
    begun = was.begun;
    performed = was.performed;
  }
  taken_after y said orderly was (Begins k) may = record {
    name = was.name;
    waits = without_less k y.waiting p n was.waits;
    runs = another y.waiting y.running k may was.waits was.runs;
    sent = was.sent;
    begun = another y.waiting y.begun k may was.waits was.begun;
    performed = was.performed;
  }
  taken_after y said orderly was (Sends k) may = record {
    name = was.name;
    waits = was.waits;
    runs = was.runs;
    sent = another y.running y.sent k may was.runs was.sent;
    begun = was.begun;
    performed = was.performed;
  }
  taken_after y said orderly was (Arrives k) may = record {
    name = was.name;
    waits = was.waits;
    runs = was.runs;
    sent = without_less k y.sent p n was.sent;
    begun = was.begun;
    performed = another y.sent y.performed k may.0 was.sent was.performed;
  }
  taken_after y said orderly was (Vanishes k) may = record {
    name = was.name;
    waits = was.waits;
    runs = was.runs;
    sent = without_less k y.sent p n was.sent;
    begun = was.begun;
    performed = was.performed;
  }
  taken_after y said orderly was (Ends k) may = record {
    name = was.name;
    waits = was.waits;
    runs = without_less k y.running p n was.runs;
    sent = was.sent;
    begun = was.begun;
    performed = was.performed;
  }
  taken_after y said orderly was (Drops k) may = record {
    name = was.name;
    waits = without_less k y.waiting p n was.waits;
    runs = was.runs;
    sent = was.sent;
    begun = was.begun;
    performed = was.performed;
  }
  taken_after y said orderly was (Lists q m l) may = was

  -- it is over, no command of it has begun, no request of it is under way, and its line was not performed
  abbrev pub IsLeft : Yard → Type 0
  IsLeft y = IsOver y p n × (is_among (names_of y.begun) p n ≡ false) × (is_among (names_of y.sent) p n ≡ false) × (is_among (names_of y.performed) p n ≡ false)

  left_by : (y : Yard) (said : List (ℕ × ℕ)) → IsOrderly y said → WasTaken y p n → IsLeft y
  left_by y said orderly was =
      let none = named_not_due y.site said orderly.sane p n was.name in
      (record { asked = λ j. (none j).0; due = λ j. (none j).1; waits = was.waits; runs = was.runs }, was.begun, was.sent, was.performed)

  left_all : (y : Yard) (said : List (ℕ × ℕ)) (actions : List Action) → IsOrderly y said → WasTaken y p n → AreActionsFrom IsOver y actions → IsLeft (yard_after_all y actions)
  left_all y said [] orderly was may = left_by y said orderly was
  left_all y said (a ∷ actions) orderly was may =
      left_all (yard_after y a) (said ++ said_by y a) actions (orderly_after y said orderly a may.0) (taken_after y said orderly was a may.0) may.1

  taken_from : (y : Yard) (said : List (ℕ × ℕ)) (time j : ℕ) (before after : List Action) → IsOrderly y said → AreActionsFrom IsOver y (before ++ Happens (Acts p time (Cleared n j false)) ∷ after)
      → IsLeft (yard_after_all y (before ++ Happens (Acts p time (Cleared n j false)) ∷ after))
  taken_from y said time j [] after orderly may =
      let a = Happens (Acts p time (Cleared n j false)) in
      left_all (yard_after y a) (said ++ said_by y a) after (orderly_after y said orderly a may.0) (taken_now y said orderly time j may.0) may.1
  taken_from y said time j (a ∷ before) after orderly may = taken_from (yard_after y a) (said ++ said_by y a) time j before after (orderly_after y said orderly a may.0) may.1

  pub taken_is_over : (time j : ℕ) (before after : List Action) → AreActions (before ++ Happens (Acts p time (Cleared n j false)) ∷ after)
      → IsLeft (yard_of (before ++ Happens (Acts p time (Cleared n j false)) ∷ after))
  taken_is_over time j before after may = taken_from first_yard [] time j before after first_orderly may
