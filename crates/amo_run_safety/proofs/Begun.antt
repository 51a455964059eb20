-- No line is performed twice, and none whose doubt was listed.
use Rattle.std.proofs.Common.{◌≡◌, ◌⊎◌, ⊎_elim, ℕ, true, false, List, [], ◌∷◌, ◌++◌, refl, sym, ap, ◌∙◌, subst, append-nil, append_assoc, arith, inl, inr}
use Rattle.std.specs.Prelude.{◌==◌, ◌&&◌}
use Rattle.std.proofs.lemmas.Bool.{true≢false, cases_Bool, false_from_ne_true, or_parts, or_from, and_from, eq-eqb, ne_eqb}
use Rattle.amo_sets.specs.Sets.{AreDistinct, has}
use Rattle.amo_sets.proofs.Numbers.{distinct_push}
use Rattle.amo_driver.specs.Course.{try_of}
use Rattle.amo_run_safety.specs.File.{read_of}
use Rattle.amo_run_safety.specs.Site.{Site, Event, Acts, Misses, IsNumber, lines_at}
use Rattle.amo_run_safety.specs.Run.{entries_of_try, site_after, IsRunFrom, IsRun, site_after_all, site_of, Handing, handings_by, opened_by_entries, openings_by, is_among, IsOneOf, names_of, AreDifferent}
use Rattle.amo_run_safety.specs.Commands.{Action, Happens, Begins, Sends, Arrives, Vanishes, Ends, Drops, Lists, Yard, first_yard, without, is_stop, unless_stopped, yard_after, MayFollow, AreActionsFrom, AreActions, yard_after_all, yard_of, said_by, said_from, said_in, AreNotAmong, IsSaidOfNone, IsTruthful, IsPatient, lines_in, events_of, IsOver}
use Rattle.amo_run_safety.proofs.Openings.{among_neither, among_more}
use Rattle.amo_run_safety.proofs.Entries.{HasEntry, entry_stays}
use Rattle.amo_run_safety.proofs.Counted.{size_is}
use Rattle.amo_run_safety.proofs.Sane.{IsSane, first_sane}
use Rattle.amo_run_safety.proofs.Events.{sane_after}
use Rattle.amo_run_safety.proofs.Handed.{kept_grows, split_one, WasHanded, handed_after, handed_now, now_handed, of_try}
use Rattle.amo_run_safety.proofs.Named.{WasNamed, named_after, now_named, differs, unnamed}
use Rattle.amo_run_safety.proofs.Low.{AreAllLow, first_low, low_then_all}
use Rattle.amo_run_safety.proofs.Said.{one_among, named, AreNamed, not_due_named, named_then}
use Rattle.amo_run_safety.proofs.Closing.{IsClosing, first_closing, closing_after}
use Rattle.amo_run_safety.proofs.Alone.{IsAlone, alone_after, alone_now}
use Rattle.amo_run_safety.proofs.Yards.{names-append, named_one, one_left, one_right, one_named, without_some, without_less, without_it, still_none, still_open}

-- The command of this may begin, or something is left of it.
pub record IsOpen (w : Site) (said : List (ℕ × ℕ)) (h : Handing) : Type 0 where
  pub was : WasHanded w said h
  pub name : WasNamed w h
  pub unsaid : is_among said h.worker h.serial ≡ false
  pub alone : IsAlone w said h

-- It has begun, and will not begin again.
pub record HasBegun (w : Site) (waiting : List Handing) (h : Handing) : Type 0 where
  pub name : WasNamed w h
  pub waits : is_among (names_of waiting) h.worker h.serial ≡ false

-- Its command has sent its request, or has performed its line.
pub record WasPast (w : Site) (said : List (ℕ × ℕ)) (h : Handing) : Type 0 where
  pub was : WasHanded w said h
  pub name : WasNamed w h

pub record IsOrderly (y : Yard) (said : List (ℕ × ℕ)) : Type 0 where
  pub sane : IsSane y.site said
  pub closing : IsClosing y.site said
  pub low : AreAllLow y.site
  pub names : AreNamed y.site said
  pub going : (h : Handing) → IsOneOf (y.waiting ++ y.running) h → IsOpen y.site said h
  pub begun : (h : Handing) → IsOneOf y.begun h → HasBegun y.site y.waiting h
  pub past : (h : Handing) → IsOneOf (y.sent ++ y.performed) h → WasPast y.site said h

pub first_orderly : IsOrderly first_yard []
first_orderly = record {
  sane = first_sane;
  closing = first_closing;
  low = first_low;
  names = λ p n h. absurd (true≢false (sym h));
  going = λ h one. absurd one;
  begun = λ h one. absurd one;
  past = λ h one. absurd one;
}

its_only : (k h : Handing) → IsOneOf (k ∷ []) h → k ≡ h
its_only k h one = ⊎_elim (λ (e : k ≡ h). e) (λ none. absurd none) one

-- The commands that have sent a request or performed their line: after a request was sent, has
-- arrived, or is lost.

pub sent_one : (y : Yard) (k h : Handing) → IsOneOf ((y.sent ++ k ∷ []) ++ y.performed) h → IsOneOf (y.sent ++ y.performed) h ⊎ (k ≡ h)
sent_one y k h one = ⊎_elim
    (λ (a : IsOneOf (y.sent ++ k ∷ []) h). ⊎_elim
    (λ (b : IsOneOf y.sent h). inl (one_left y.sent y.performed h b))
    (λ (b : IsOneOf (k ∷ []) h). inr (its_only k h b))
    (split_one y.sent (k ∷ []) h a))
    (λ (a : IsOneOf y.performed h). inl (one_right y.sent y.performed h a))
    (split_one (y.sent ++ k ∷ []) y.performed h one)

pub vanished_one : (y : Yard) (k h : Handing) → IsOneOf (without k y.sent ++ y.performed) h → IsOneOf (y.sent ++ y.performed) h
vanished_one y k h one = ⊎_elim
    (λ (a : IsOneOf (without k y.sent) h). one_left y.sent y.performed h (without_some k y.sent h a))
    (λ (a : IsOneOf y.performed h). one_right y.sent y.performed h a)
    (split_one (without k y.sent) y.performed h one)

pub arrived_one : (y : Yard) (k h : Handing) → IsOneOf (without k y.sent ++ (y.performed ++ k ∷ [])) h → IsOneOf (y.sent ++ y.performed) h ⊎ (k ≡ h)
arrived_one y k h one = ⊎_elim
    (λ (a : IsOneOf (without k y.sent) h). inl (one_left y.sent y.performed h (without_some k y.sent h a)))
    (λ (a : IsOneOf (y.performed ++ k ∷ []) h). ⊎_elim
    (λ (b : IsOneOf y.performed h). inl (one_right y.sent y.performed h b))
    (λ (b : IsOneOf (k ∷ []) h). inr (its_only k h b))
    (split_one y.performed (k ∷ []) h a))
    (split_one (without k y.sent) (y.performed ++ k ∷ []) h one)

-- An event that hands something over says nothing.
hands_or_says : (w : Site) (e : Event) (h : Handing) → IsOneOf (handings_by w e) h → openings_by w e ≡ []
hands_or_says w (Acts q time d) h one =
    let of = of_try q (lines_at w.rounds (w.whereabouts q)) (try_of d) h one in
    ap (λ t. opened_by_entries q (entries_of_try (lines_at w.rounds (w.whereabouts q)) time t)) of.try_is
hands_or_says w (Misses q time t) h one =
    let of = of_try q (lines_at w.rounds (w.whereabouts q)) t h one in
    ap (λ t. opened_by_entries q (entries_of_try (lines_at w.rounds (w.whereabouts q)) time t)) of.try_is
hands_or_says w e h one = absurd one

module _ (y : Yard) (said : List (ℕ × ℕ)) (orderly : IsOrderly y said) where
  -- an event

  module _ (e : Event) (may : MayFollow IsOver y (Happens e)) where
    -- an intent that may begin or runs isn't one that a note names now
    unsaid_now : (h : Handing) → IsOneOf (y.waiting ++ y.running) h → is_among (openings_by y.site e) h.worker h.serial ≡ false
    unsaid_now h one = false_from_ne_true (is_among (openings_by y.site e) h.worker h.serial) (λ t.
        let over = may.1 h.worker h.serial t in
        ⊎_elim
        (λ (a : IsOneOf y.waiting h). true≢false (sym (one_named y.waiting h a) ∙ over.waits))
        (λ (a : IsOneOf y.running h). true≢false (sym (one_named y.running h a) ∙ over.runs))
        (split_one y.waiting y.running h one))

    old_open : (h : Handing) → IsOneOf (y.waiting ++ y.running) h → is_stop e ≡ false → IsOpen (site_after y.site e) (said ++ openings_by y.site e) h
    old_open h one on =
        let it = orderly.going h one in
        record {
          was = handed_after y.site said orderly.sane h it.was e may.0;
          name = named_after y.site said orderly.sane h it.name e may.0;
          unsaid = among_neither said (openings_by y.site e) h.worker h.serial it.unsaid (unsaid_now h one);
          alone = alone_after y.site said orderly.sane h it.was it.unsaid it.alone e may.0 on;
        }

    new_open : (h : Handing) → IsOneOf (handings_by y.site e) h → is_stop e ≡ false → IsOpen (site_after y.site e) (said ++ openings_by y.site e) h
    new_open h one on =
        let now = handed_now y.site said orderly.sane e may.0 h one in
        record {
          was = now_handed y.site said e h now;
          name = now_named y.site said orderly.sane e may.0 h one;
          unsaid = among_neither said (openings_by y.site e) h.worker h.serial
              (false_from_ne_true (is_among said h.worker h.serial) (λ t. differs y.site e (named h.worker h.serial) h (orderly.names h.worker h.serial t) now refl refl))
              (ap (λ l. is_among l h.worker h.serial) (hands_or_says y.site e h one));
          alone = alone_now y.site said orderly.sane orderly.closing e h one now on;
        }

    -- what has its name will not be handed over by this
    not_again : (h : Handing) → WasNamed y.site h → is_among (names_of (handings_by y.site e)) h.worker h.serial ≡ false
    not_again h name = unnamed (handings_by y.site e) h.worker h.serial (λ k one. differs y.site e h k name (handed_now y.site said orderly.sane e may.0 k one))

    pub waits_not : (h : Handing) → WasNamed y.site h → is_among (names_of y.waiting) h.worker h.serial ≡ false
        → is_among (names_of (unless_stopped e (y.waiting ++ handings_by y.site e))) h.worker h.serial ≡ false
    waits_not h name waits = still_none e (y.waiting ++ handings_by y.site e) h.worker h.serial
        (ap (λ l. is_among l h.worker h.serial) (names-append y.waiting (handings_by y.site e))
        ∙ among_neither (names_of y.waiting) (names_of (handings_by y.site e)) h.worker h.serial waits (not_again h name))

    happens : IsOrderly (yard_after y (Happens e)) (said ++ openings_by y.site e)
    happens = record {
      sane = sane_after y.site said orderly.sane e may.0;
      closing = closing_after y.site said orderly.sane orderly.closing e may.0;
      low = low_then_all y.site said orderly.sane orderly.low e may.0;
      names = named_then y.site said orderly.sane orderly.low orderly.names e may.0 (λ p n t j. ((may.1 p n t).asked j, (may.1 p n t).due j));
      going = λ h one.
          let it = still_open e y.waiting (handings_by y.site e) y.running h one in
          ⊎_elim (λ (a : IsOneOf (y.waiting ++ y.running) h). old_open h a it.0) (λ (a : IsOneOf (handings_by y.site e) h). new_open h a it.0) it.1;
      begun = λ h one.
          let it = orderly.begun h one in
          record { name = named_after y.site said orderly.sane h it.name e may.0; waits = waits_not h it.name it.waits };
      past = λ h one.
          let it = orderly.past h one in
          record { was = handed_after y.site said orderly.sane h it.was e may.0; name = named_after y.site said orderly.sane h it.name e may.0 };
    }

  -- what runners and commands do

  -- of those that were going or begin no others are left
  acted : (waiting running sent begun performed : List Handing) → ((h : Handing) → IsOneOf (waiting ++ running) h → IsOpen y.site said h)
      → ((h : Handing) → IsOneOf begun h → HasBegun y.site waiting h) → ((h : Handing) → IsOneOf (sent ++ performed) h → WasPast y.site said h)
      → IsOrderly (record { site = y.site; waiting = waiting; running = running; sent = sent; begun = begun; performed = performed }) said
  acted waiting running sent begun performed going have_begun past = record {
    sane = orderly.sane;
    closing = orderly.closing;
    low = orderly.low;
    names = orderly.names;
    going = going;
    begun = have_begun;
    past = past;
  }

  -- what may still be begun without this one
  fewer_wait : (k h : Handing) → HasBegun y.site y.waiting h → HasBegun y.site (without k y.waiting) h
  fewer_wait k h it = record { name = it.name; waits = without_less k y.waiting h.worker h.serial it.waits }

  begins : (k : Handing) → IsOneOf y.waiting k → IsOrderly (yard_after y (Begins k)) said
  begins k waits = acted (without k y.waiting) (y.running ++ k ∷ []) y.sent (y.begun ++ k ∷ []) y.performed
      (λ h one. ⊎_elim
      (λ (a : IsOneOf (without k y.waiting) h). orderly.going h (one_left y.waiting y.running h (without_some k y.waiting h a)))
      (λ (a : IsOneOf (y.running ++ k ∷ []) h). ⊎_elim
      (λ (b : IsOneOf y.running h). orderly.going h (one_right y.waiting y.running h b))
      (λ (b : IsOneOf (k ∷ []) h). subst (IsOpen y.site said) (its_only k h b) (orderly.going k (one_left y.waiting y.running k waits)))
      (split_one y.running (k ∷ []) h a))
      (split_one (without k y.waiting) (y.running ++ k ∷ []) h one))
      (λ h one. ⊎_elim
      (λ (a : IsOneOf y.begun h). fewer_wait k h (orderly.begun h a))
      (λ (a : IsOneOf (k ∷ []) h). subst (HasBegun y.site (without k y.waiting)) (its_only k h a)
      (record { name = (orderly.going k (one_left y.waiting y.running k waits)).name; waits = without_it k y.waiting }))
      (split_one y.begun (k ∷ []) h one))
      orderly.past

  -- what was past, or has been sent or has arrived just now
  past_with : (sent performed : List Handing) (k : Handing) → WasPast y.site said k → ((h : Handing) → IsOneOf (sent ++ performed) h → IsOneOf (y.sent ++ y.performed) h ⊎ (k ≡ h))
      → (h : Handing) → IsOneOf (sent ++ performed) h → WasPast y.site said h
  past_with sent performed k it which h one = ⊎_elim
      (λ (old : IsOneOf (y.sent ++ y.performed) h). orderly.past h old)
      (λ (e : k ≡ h). subst (WasPast y.site said) e it)
      (which h one)

  sends : (k : Handing) → IsOneOf y.running k → IsOrderly (yard_after y (Sends k)) said
  sends k runs =
      let it = orderly.going k (one_right y.waiting y.running k runs) in
      acted y.waiting y.running (y.sent ++ k ∷ []) y.begun y.performed orderly.going orderly.begun
      (past_with (y.sent ++ k ∷ []) y.performed k (record { was = it.was; name = it.name }) (λ h one. sent_one y k h one))

  arrives : (k : Handing) → IsOneOf y.sent k → IsOrderly (yard_after y (Arrives k)) said
  arrives k sent = acted y.waiting y.running (without k y.sent) y.begun (y.performed ++ k ∷ []) orderly.going orderly.begun
      (past_with (without k y.sent) (y.performed ++ k ∷ []) k (orderly.past k (one_left y.sent y.performed k sent)) (λ h one. arrived_one y k h one))

  vanishes : (k : Handing) → IsOrderly (yard_after y (Vanishes k)) said
  vanishes k = acted y.waiting y.running (without k y.sent) y.begun y.performed orderly.going orderly.begun (λ h one. orderly.past h (vanished_one y k h one))

  ends : (k : Handing) → IsOrderly (yard_after y (Ends k)) said
  ends k = acted y.waiting (without k y.running) y.sent y.begun y.performed
      (λ h one. ⊎_elim
      (λ (a : IsOneOf y.waiting h). orderly.going h (one_left y.waiting y.running h a))
      (λ (a : IsOneOf (without k y.running) h). orderly.going h (one_right y.waiting y.running h (without_some k y.running h a)))
      (split_one y.waiting (without k y.running) h one))
      orderly.begun orderly.past

  drops : (k : Handing) → IsOrderly (yard_after y (Drops k)) said
  drops k = acted (without k y.waiting) y.running y.sent y.begun y.performed
      (λ h one. ⊎_elim
      (λ (a : IsOneOf (without k y.waiting) h). orderly.going h (one_left y.waiting y.running h (without_some k y.waiting h a)))
      (λ (a : IsOneOf y.running h). orderly.going h (one_right y.waiting y.running h a))
      (split_one (without k y.waiting) y.running h one))
      (λ h one. fewer_wait k h (orderly.begun h one)) orderly.past

  -- if no note is made
  as_it_was : (a : Action) → said_by y a ≡ [] → IsOrderly (yard_after y a) said → IsOrderly (yard_after y a) (said ++ said_by y a)
  as_it_was a none it = subst (IsOrderly (yard_after y a)) (sym (ap (λ l. said ++ l) none ∙ append-nil said)) it

  pub orderly_after : (a : Action) → MayFollow IsOver y a → IsOrderly (yard_after y a) (said ++ said_by y a)
  orderly_after (Happens e) may = happens e may
  orderly_after (Begins k) may = as_it_was (Begins k) refl (begins k may)
  orderly_after (Sends k) may = as_it_was (Sends k) refl (sends k may)
  orderly_after (Arrives k) may = as_it_was (Arrives k) refl (arrives k may.0)
  orderly_after (Vanishes k) may = as_it_was (Vanishes k) refl (vanishes k)
  orderly_after (Ends k) may = as_it_was (Ends k) refl (ends k)
  orderly_after (Drops k) may = as_it_was (Drops k) refl (drops k)
  orderly_after (Lists p n line) may = as_it_was (Lists p n line) refl orderly

-- no command begins twice

names_differ : (hs : List Handing) (k : Handing) → AreDifferent (names_of hs) → is_among (names_of hs) k.worker k.serial ≡ false → AreDifferent (names_of (hs ++ k ∷ []))
names_differ [] k h none = (refl, tt)
names_differ (x ∷ hs) k h none =
    let parts = or_parts ((x.worker == k.worker) && (x.serial == k.serial)) (is_among (names_of hs) k.worker k.serial) none in (
      ap (λ l. is_among l x.worker x.serial) (names-append hs (k ∷ [])) ∙ among_neither (names_of hs) ((k.worker, k.serial) ∷ []) x.worker x.serial h.0
          (false_from_ne_true (is_among ((k.worker, k.serial) ∷ []) x.worker x.serial) (λ t.
          let at = one_among k.worker k.serial x.worker x.serial t in
          true≢false (sym (and_from (x.worker == k.worker) (x.serial == k.serial) (eq-eqb x.worker k.worker at.0) (eq-eqb x.serial k.serial at.1)) ∙ parts.0))),
      names_differ hs k h.1 parts.1,
    )

different_after : (y : Yard) (said : List (ℕ × ℕ)) → IsOrderly y said → AreDifferent (names_of y.begun) → (a : Action) → MayFollow IsOver y a → AreDifferent (names_of (yard_after y a).begun)
different_after y said orderly h (Begins k) may = names_differ y.begun k h (false_from_ne_true (is_among (names_of y.begun) k.worker k.serial) (λ t.
    let it = named_one y.begun k.worker k.serial t in
    true≢false (sym (one_named y.waiting k may) ∙ ap (λ x. is_among (names_of y.waiting) x k.serial) it.worker ∙ ap (λ x. is_among (names_of y.waiting) it.it.worker x) it.serial
    ∙ (orderly.begun it.it it.one).waits)))
different_after y said orderly h a may = h

all_different : (y : Yard) (said : List (ℕ × ℕ)) (actions : List Action) → IsOrderly y said → AreDifferent (names_of y.begun) → AreActionsFrom IsOver y actions
    → AreDifferent (names_of (yard_after_all y actions).begun)
all_different y said [] orderly h may = h
all_different y said (a ∷ actions) orderly h may =
    all_different (yard_after y a) (said ++ said_by y a) actions (orderly_after y said orderly a may.0) (different_after y said orderly h a may.0) may.1

pub begun_once : (actions : List Action) → AreActions actions → AreDifferent (names_of (yard_of actions).begun)
begun_once actions may = all_different first_yard [] actions first_orderly tt may

-- what was performed is of different lines

-- Nobody has said of an intent that it wasn't done, if its request was sent or its line performed.
-- No two lines that were performed are the same, and a request that is under way has a line of its
-- own.
record IsSettled (y : Yard) (said : List (ℕ × ℕ)) : Type 0 where
  pub unsaid : (h : Handing) → IsOneOf (y.sent ++ y.performed) h → is_among said h.worker h.serial ≡ false
  pub apart : (h k : Handing) → IsOneOf y.sent h → IsOneOf (y.sent ++ y.performed) k → h.line ≡ k.line → (h.worker ≡ k.worker) × (h.serial ≡ k.serial)
  pub distinct : AreDistinct (lines_in y.performed)

lines-append : (hs : List Handing) (k : Handing) → lines_in (hs ++ k ∷ []) ≡ lines_in hs ++ k.line ∷ []
lines-append [] k = refl
lines-append (h ∷ hs) k = ap (λ l. h.line ∷ l) (lines-append hs k)

none_of : (hs : List Handing) (line : ℕ) → ((h : Handing) → IsOneOf hs h → h.line ≡ line → ⊥) → has (lines_in hs) line ≡ false
none_of [] line none = refl
none_of (h ∷ hs) line none = or_from (h.line == line) (has (lines_in hs) line) (ne_eqb h.line line (none h (inl refl))) (none_of hs line (λ k one. none k (inr one)))

module _ (y : Yard) (said : List (ℕ × ℕ)) (orderly : IsOrderly y said) (settled : IsSettled y said) where
  -- A command that runs is the only one of its line.
  runs_alone : (k : Handing) → IsOneOf y.running k → (h : Handing) → IsOneOf (y.sent ++ y.performed) h → h.line ≡ k.line → (h.worker ≡ k.worker) × (h.serial ≡ k.serial)
  runs_alone k runs h one same =
      let was = (orderly.past h one).was in
      let read = entry_stays h.serial h.line (y.site.journals h.worker).kept (read_of (y.site.journals h.worker)) ((y.site.journals h.worker).loose, refl) was.entry in
      (orderly.going k (one_right y.waiting y.running k runs)).alone h.worker h.serial was.number
      (subst (λ l. HasEntry h.serial l (read_of (y.site.journals h.worker))) same read) (settled.unsaid h one)

  settled_sends : (k : Handing) → IsOneOf y.running k → IsSettled (yard_after y (Sends k)) said
  settled_sends k runs = record {
    unsaid = λ h one. ⊎_elim
        (λ (old : IsOneOf (y.sent ++ y.performed) h). settled.unsaid h old)
        (λ (e : k ≡ h). subst (λ (x : Handing). is_among said x.worker x.serial ≡ false) e (orderly.going k (one_right y.waiting y.running k runs)).unsaid)
        (sent_one y k h one);
    apart = λ h x one other same. ⊎_elim
        (λ (old : IsOneOf y.sent h). ⊎_elim
        (λ (there : IsOneOf (y.sent ++ y.performed) x). settled.apart h x old there same)
        (λ (e : k ≡ x).
        subst (λ (z : Handing). (h.worker ≡ z.worker) × (h.serial ≡ z.serial)) e (runs_alone k runs h (one_left y.sent y.performed h old) (same ∙ ap (λ (z : Handing). z.line) (sym e))))
        (sent_one y k x other))
        (λ (new : IsOneOf (k ∷ []) h).
        let e = its_only k h new in
        subst (λ (z : Handing). (z.worker ≡ x.worker) × (z.serial ≡ x.serial)) e (⊎_elim
        (λ (there : IsOneOf (y.sent ++ y.performed) x).
        let its = runs_alone k runs x there (sym same ∙ ap (λ (z : Handing). z.line) (sym e)) in
        (sym its.0, sym its.1))
        (λ (its : k ≡ x). (ap (λ (z : Handing). z.worker) its, ap (λ (z : Handing). z.serial) its))
        (sent_one y k x other)))
        (split_one y.sent (k ∷ []) h one);
    distinct = settled.distinct;
  }

  settled_vanishes : (k : Handing) → IsSettled (yard_after y (Vanishes k)) said
  settled_vanishes k = record {
    unsaid = λ h one. settled.unsaid h (vanished_one y k h one);
    apart = λ h x one other same. settled.apart h x (without_some k y.sent h one) (vanished_one y k x other) same;
    distinct = settled.distinct;
  }

  -- The line of a request that arrives was not performed before.
  none_before : (k : Handing) → MayFollow IsOver y (Arrives k) → (h : Handing) → IsOneOf y.performed h → h.line ≡ k.line → ⊥
  none_before k may h one same =
      let its = settled.apart k h may.0 (one_right y.sent y.performed h one) (sym same) in
      true≢false (sym (one_named y.performed h one) ∙ ap (λ x. is_among (names_of y.performed) x h.serial) (sym its.0)
      ∙ ap (λ x. is_among (names_of y.performed) k.worker x) (sym its.1) ∙ may.1)

  settled_arrives : (k : Handing) → MayFollow IsOver y (Arrives k) → IsSettled (yard_after y (Arrives k)) said
  settled_arrives k may = record {
    unsaid = λ h one. ⊎_elim
        (λ (old : IsOneOf (y.sent ++ y.performed) h). settled.unsaid h old)
        (λ (e : k ≡ h). subst (λ (x : Handing). is_among said x.worker x.serial ≡ false) e (settled.unsaid k (one_left y.sent y.performed k may.0)))
        (arrived_one y k h one);
    apart = λ h x one other same. ⊎_elim
        (λ (old : IsOneOf (y.sent ++ y.performed) x). settled.apart h x (without_some k y.sent h one) old same)
        (λ (e : k ≡ x).
        settled.apart h x (without_some k y.sent h one) (subst (IsOneOf (y.sent ++ y.performed)) e (one_left y.sent y.performed k may.0)) same)
        (arrived_one y k x other);
    distinct = subst AreDistinct (sym (lines-append y.performed k))
        (distinct_push (lines_in y.performed) k.line settled.distinct (none_of y.performed k.line (none_before k may)));
  }

  settled_happens : (e : Event) → AreNotAmong y.performed (openings_by y.site e) → AreNotAmong y.sent (openings_by y.site e) → IsSettled (yard_after y (Happens e)) (said ++ openings_by y.site e)
  settled_happens e honest patient = record {
    unsaid = λ h one. among_neither said (openings_by y.site e) h.worker h.serial (settled.unsaid h one)
        (false_from_ne_true (is_among (openings_by y.site e) h.worker h.serial) (λ t. ⊎_elim
        (λ (a : IsOneOf y.sent h). true≢false (sym (one_named y.sent h a) ∙ patient h.worker h.serial t))
        (λ (a : IsOneOf y.performed h). true≢false (sym (one_named y.performed h a) ∙ honest h.worker h.serial t))
        (split_one y.sent y.performed h one)));
    apart = settled.apart;
    distinct = settled.distinct;
  }

  -- if nothing is said
  settled_still : (a : Action) → said_by y a ≡ [] → IsSettled (yard_after y a) said → IsSettled (yard_after y a) (said ++ said_by y a)
  settled_still a none it = subst (IsSettled (yard_after y a)) (sym (ap (λ l. said ++ l) none ∙ append-nil said)) it

  settled_after : (a : Action) → MayFollow IsOver y a → AreNotAmong y.performed (said_by y a) → AreNotAmong y.sent (said_by y a) → IsSettled (yard_after y a) (said ++ said_by y a)
  settled_after (Happens e) may honest patient = settled_happens e honest patient
  settled_after (Sends k) may honest patient = settled_still (Sends k) refl (settled_sends k may)
  settled_after (Arrives k) may honest patient = settled_still (Arrives k) refl (settled_arrives k may)
  settled_after (Vanishes k) may honest patient = settled_still (Vanishes k) refl (settled_vanishes k)
  settled_after (Begins k) may honest patient = settled_still (Begins k) refl (record { unsaid = settled.unsaid; apart = settled.apart; distinct = settled.distinct })
  settled_after (Ends k) may honest patient = settled_still (Ends k) refl (record { unsaid = settled.unsaid; apart = settled.apart; distinct = settled.distinct })
  settled_after (Drops k) may honest patient = settled_still (Drops k) refl (record { unsaid = settled.unsaid; apart = settled.apart; distinct = settled.distinct })
  settled_after (Lists p n line) may honest patient = settled_still (Lists p n line) refl settled

all_settled : (y : Yard) (said : List (ℕ × ℕ)) (actions : List Action) → IsOrderly y said → IsSettled y said → AreActionsFrom IsOver y actions
    → IsSaidOfNone (λ (x : Yard). x.performed) y actions → IsSaidOfNone (λ (x : Yard). x.sent) y actions → AreDistinct (lines_in (yard_after_all y actions).performed)
all_settled y said [] orderly settled may honest patient = settled.distinct
all_settled y said (a ∷ actions) orderly settled may honest patient =
    all_settled (yard_after y a) (said ++ said_by y a) actions (orderly_after y said orderly a may.0) (settled_after y said orderly settled a may.0 honest.0 patient.0) may.1 honest.1 patient.1

pub performed_once : (actions : List Action) → AreActions actions → IsTruthful actions → IsPatient actions → AreDistinct (lines_in (yard_of actions).performed)
performed_once actions may honest patient =
    all_settled first_yard [] actions first_orderly (record { unsaid = λ h one. refl; apart = λ h k one other same. absurd one; distinct = tt }) may honest patient

-- The intent was listed: it stands in its journal, and no command of it begins or runs any more.
record WasListed (y : Yard) (p n line : ℕ) : Type 0 where
  pub number : IsNumber p
  pub entry : HasEntry n line (y.site.journals p).kept
  pub name : WasNamed y.site (named p n)
  pub waits : is_among (names_of y.waiting) p n ≡ false
  pub runs : is_among (names_of y.running) p n ≡ false

module _ (p n line : ℕ) where
  listed_now : (y : Yard) (said : List (ℕ × ℕ)) → IsOrderly y said → MayFollow IsOver y (Lists p n line) → WasListed y p n line
  listed_now y said orderly may = record {
    number = may.number;
    entry = may.kept;
    name = not_due_named y.site said orderly.sane orderly.low p n
        (let size = size_is y.site.lines (y.site.journals p).kept may.attempts may.journal in let there = may.there in omega (arith, size, there)) (λ j. (may.its_end.asked j, may.its_end.due j));
    waits = may.its_end.waits;
    runs = may.its_end.runs;
  }

  listed_after : (y : Yard) (said : List (ℕ × ℕ)) → IsOrderly y said → WasListed y p n line → (a : Action) → MayFollow IsOver y a → WasListed (yard_after y a) p n line
  listed_after y said orderly was (Happens e) may = record {
    number = was.number;
    entry = entry_stays n line (y.site.journals p).kept ((site_after y.site e).journals p).kept (kept_grows y.site e p) was.entry;
    name = named_after y.site said orderly.sane (named p n) was.name e may.0;
    waits = waits_not y said orderly e may (named p n) was.name was.waits;
    runs = still_none e y.running p n was.runs;
  }
  listed_after y said orderly was (Begins k) may = record {
    number = was.number;
    entry = was.entry;
    name = was.name;
    waits = without_less k y.waiting p n was.waits;
    runs = ap (λ l. is_among l p n) (names-append y.running (k ∷ [])) ∙ among_neither (names_of y.running) (names_of (k ∷ [])) p n was.runs
        (unnamed (k ∷ []) p n (λ h one first second. ⊎_elim
        (λ (e : k ≡ h). true≢false (sym (one_named y.waiting k may)
        ∙ ap (λ (x : Handing). is_among (names_of y.waiting) x.worker x.serial) e
        ∙ ap (λ x. is_among (names_of y.waiting) x h.serial) (sym first) ∙ ap (λ x. is_among (names_of y.waiting) p x) (sym second) ∙ was.waits))
        (λ none. absurd none) one));
  }
  listed_after y said orderly was (Sends k) may = record { number = was.number; entry = was.entry; name = was.name; waits = was.waits; runs = was.runs }
  listed_after y said orderly was (Arrives k) may = record { number = was.number; entry = was.entry; name = was.name; waits = was.waits; runs = was.runs }
  listed_after y said orderly was (Vanishes k) may = record { number = was.number; entry = was.entry; name = was.name; waits = was.waits; runs = was.runs }
  listed_after y said orderly was (Ends k) may = record { number = was.number; entry = was.entry; name = was.name; waits = was.waits; runs = without_less k y.running p n was.runs }
  listed_after y said orderly was (Drops k) may = record { number = was.number; entry = was.entry; name = was.name; waits = without_less k y.waiting p n was.waits; runs = was.runs }
  listed_after y said orderly was (Lists q m l) may = was

  -- no command of its line may begin or runs, unless it was said that it wasn't begun or done
  not_open : (y : Yard) (said : List (ℕ × ℕ)) → IsOrderly y said → WasListed y p n line → (h : Handing) → IsOneOf (y.waiting ++ y.running) h → h.line ≡ line → is_among said p n ≡ true
  not_open y said orderly was h one same = ⊎_elim
      (λ (yes : is_among said p n ≡ true). yes)
      (λ (unsaid : is_among said p n ≡ false). absurd (
      let read = entry_stays n line (y.site.journals p).kept (read_of (y.site.journals p)) ((y.site.journals p).loose, refl) was.entry in
      let its = (orderly.going h one).alone p n was.number (subst (λ l. HasEntry n l (read_of (y.site.journals p))) (sym same) read) unsaid in
      let there = one_named (y.waiting ++ y.running) h one in
      true≢false (sym there ∙ ap (λ l. is_among l h.worker h.serial) (names-append y.waiting y.running)
      ∙ ap (λ x. is_among (names_of y.waiting ++ names_of y.running) x h.serial) (sym its.0) ∙ ap (λ x. is_among (names_of y.waiting ++ names_of y.running) p x) (sym its.1)
      ∙ among_neither (names_of y.waiting) (names_of y.running) p n was.waits was.runs)))
      (cases_Bool (is_among said p n))

  listed_all : (y : Yard) (said : List (ℕ × ℕ)) (actions : List Action) → IsOrderly y said → WasListed y p n line → AreActionsFrom IsOver y actions
      → (h : Handing) → IsOneOf ((yard_after_all y actions).waiting ++ (yard_after_all y actions).running) h → h.line ≡ line → is_among (said ++ said_from y actions) p n ≡ true
  listed_all y said [] orderly was may h one same = subst (λ l. is_among l p n ≡ true) (sym (append-nil said)) (not_open y said orderly was h one same)
  listed_all y said (a ∷ actions) orderly was may h one same =
      subst (λ l. is_among l p n ≡ true) (append_assoc said (said_by y a) (said_from (yard_after y a) actions))
      (listed_all (yard_after y a) (said ++ said_by y a) actions (orderly_after y said orderly a may.0) (listed_after y said orderly was a may.0) may.1 h one same)

  final_from : (y : Yard) (said : List (ℕ × ℕ)) (before after : List Action) → IsOrderly y said → AreActionsFrom IsOver y (before ++ Lists p n line ∷ after)
      → (h : Handing) → IsOneOf ((yard_after_all y (before ++ Lists p n line ∷ after)).waiting ++ (yard_after_all y (before ++ Lists p n line ∷ after)).running) h → h.line ≡ line
      → is_among (said ++ said_from y (before ++ Lists p n line ∷ after)) p n ≡ true
  final_from y said [] after orderly may h one same = listed_all y said after orderly (listed_now y said orderly may.0) may.1 h one same
  final_from y said (a ∷ before) after orderly may h one same =
      subst (λ l. is_among l p n ≡ true) (append_assoc said (said_by y a) (said_from (yard_after y a) (before ++ Lists p n line ∷ after)))
      (final_from (yard_after y a) (said ++ said_by y a) before after (orderly_after y said orderly a may.0) may.1 h one same)

  pub listed_is_final : (before after : List Action) → AreActions (before ++ Lists p n line ∷ after) → (h : Handing)
      → IsOneOf ((yard_of (before ++ Lists p n line ∷ after)).waiting ++ (yard_of (before ++ Lists p n line ∷ after)).running) h → h.line ≡ line
      → is_among (said_in (before ++ Lists p n line ∷ after)) p n ≡ true
  listed_is_final before after may h one same = final_from first_yard [] before after first_orderly may h one same

-- parts of actions

pub actions_parts : (over : Yard → (p n : ℕ) → Type 0) (y : Yard) (before after : List Action) → AreActionsFrom over y (before ++ after)
    → AreActionsFrom over y before × AreActionsFrom over (yard_after_all y before) after
actions_parts over y [] after may = (tt, may)
actions_parts over y (a ∷ before) after may = let parts = actions_parts over (yard_after y a) before after may.1 in ((may.0, parts.0), parts.1)

said-append : (y : Yard) (before after : List Action) → said_from y (before ++ after) ≡ said_from y before ++ said_from (yard_after_all y before) after
said-append y [] after = refl
said-append y (a ∷ before) after = ap (λ l. said_by y a ++ l) (said-append (yard_after y a) before after) ∙ sym (append_assoc (said_by y a) (said_from (yard_after y a) before) (said_from (yard_after_all (yard_after y a) before) after))

orderly_all : (y : Yard) (said : List (ℕ × ℕ)) (actions : List Action) → IsOrderly y said → AreActionsFrom IsOver y actions → IsOrderly (yard_after_all y actions) (said ++ said_from y actions)
orderly_all y said [] orderly may = subst (IsOrderly y) (sym (append-nil said)) orderly
orderly_all y said (a ∷ actions) orderly may =
    subst (IsOrderly (yard_after_all (yard_after y a) actions)) (append_assoc said (said_by y a) (said_from (yard_after y a) actions))
    (orderly_all (yard_after y a) (said ++ said_by y a) actions (orderly_after y said orderly a may.0) may.1)

-- once the intent was listed, no command of its line sends a request, and no other request arrives
-- than was under way before, until it is said that it wasn't begun or done

module _ (p n line : ℕ) (base : List Handing) where
  -- each request of its line that is under way was so before, or it was said
  abbrev AreEarlier : List Handing → (said : List (ℕ × ℕ)) → Type 0
  AreEarlier sent said = (h : Handing) → IsOneOf sent h → h.line ≡ line → IsOneOf base h ⊎ (is_among said p n ≡ true)

  earlier_more : (sent : List Handing) (said more : List (ℕ × ℕ)) → AreEarlier sent said → AreEarlier sent (said ++ more)
  earlier_more sent said more earlier h one same = ⊎_elim
      (λ (a : IsOneOf base h). inl a)
      (λ (b : is_among said p n ≡ true). inr (among_more said more p n b))
      (earlier h one same)

  earlier_after : (y : Yard) (said : List (ℕ × ℕ)) → IsOrderly y said → WasListed y p n line → AreEarlier y.sent said → (a : Action) → MayFollow IsOver y a → AreEarlier (yard_after y a).sent said
  earlier_after y said orderly was earlier (Sends k) may h one same = ⊎_elim
      (λ (a : IsOneOf y.sent h). earlier h a same)
      (λ (a : IsOneOf (k ∷ []) h). inr (not_open p n line y said orderly was k (one_right y.waiting y.running k may) (ap (λ (x : Handing). x.line) (its_only k h a) ∙ same)))
      (split_one y.sent (k ∷ []) h one)
  earlier_after y said orderly was earlier (Arrives k) may h one same = earlier h (without_some k y.sent h one) same
  earlier_after y said orderly was earlier (Vanishes k) may h one same = earlier h (without_some k y.sent h one) same
  earlier_after y said orderly was earlier (Happens e) may h one same = earlier h one same
  earlier_after y said orderly was earlier (Begins k) may h one same = earlier h one same
  earlier_after y said orderly was earlier (Ends k) may h one same = earlier h one same
  earlier_after y said orderly was earlier (Drops k) may h one same = earlier h one same
  earlier_after y said orderly was earlier (Lists q m l) may h one same = earlier h one same

  earlier_all : (y : Yard) (said : List (ℕ × ℕ)) (actions : List Action) → IsOrderly y said → WasListed y p n line → AreEarlier y.sent said → AreActionsFrom IsOver y actions
      → AreEarlier (yard_after_all y actions).sent (said ++ said_from y actions)
  earlier_all y said [] orderly was earlier may = subst (AreEarlier y.sent) (sym (append-nil said)) earlier
  earlier_all y said (a ∷ actions) orderly was earlier may =
      subst (AreEarlier (yard_after_all (yard_after y a) actions).sent) (append_assoc said (said_by y a) (said_from (yard_after y a) actions))
      (earlier_all (yard_after y a) (said ++ said_by y a) actions (orderly_after y said orderly a may.0) (listed_after p n line y said orderly was a may.0)
      (earlier_more (yard_after y a).sent said (said_by y a) (earlier_after y said orderly was earlier a may.0)) may.1)

module _ (p n line : ℕ) (before mid after : List Action) (h : Handing) where
  abbrev listed : List Action
  listed = before ++ Lists p n line ∷ mid

  pub listed_sends : AreActions (before ++ Lists p n line ∷ mid ++ Sends h ∷ after) → h.line ≡ line → is_among (said_in listed) p n ≡ true
  listed_sends may same =
      let parts = actions_parts IsOver first_yard listed (Sends h ∷ after) may in
      listed_is_final p n line before mid parts.0 h (one_right (yard_of listed).waiting (yard_of listed).running h parts.1.0) same

  pub listed_arrives : AreActions (before ++ Lists p n line ∷ mid ++ Arrives h ∷ after) → h.line ≡ line → (is_among (said_in listed) p n ≡ true) ⊎ IsOneOf (yard_of before).sent h
  listed_arrives may same =
      let y = yard_of before in
      let whole : AreActions (before ++ (Lists p n line ∷ mid ++ Arrives h ∷ after)) = subst AreActions (append_assoc before (Lists p n line ∷ mid) (Arrives h ∷ after)) may in
      let parts = actions_parts IsOver first_yard before (Lists p n line ∷ mid ++ Arrives h ∷ after) whole in
      let orderly = orderly_all first_yard [] before first_orderly parts.0 in
      let rest = actions_parts IsOver y mid (Arrives h ∷ after) parts.1.1 in
      let said_is : said_in listed ≡ said_in before ++ said_from y mid = said-append first_yard before (Lists p n line ∷ mid) in
      ⊎_elim
      (λ (a : IsOneOf y.sent h). inr a)
      (λ (b : is_among (said_in before ++ said_from y mid) p n ≡ true). inl (ap (λ l. is_among l p n) said_is ∙ b))
      (earlier_all p n line y.sent y (said_in before) mid orderly (listed_now p n line y (said_in before) orderly parts.1.0) (λ k one at. inl one) rest.0 h rest.1.0.0 same)

-- without the commands it is a run

run_from : (y : Yard) (actions : List Action) → AreActionsFrom IsOver y actions → IsRunFrom y.site (events_of actions) × ((yard_after_all y actions).site ≡ site_after_all y.site (events_of actions))
run_from y [] may = (tt, refl)
run_from y (Happens e ∷ actions) may = let rest = run_from (yard_after y (Happens e)) actions may.1 in ((may.0.0, rest.0), rest.1)
run_from y (a ∷ actions) may = run_from (yard_after y a) actions may.1

pub is_run : (actions : List Action) → AreActions actions → IsRun (events_of actions) × ((yard_of actions).site ≡ site_of (events_of actions))
is_run actions may = run_from first_yard actions may
