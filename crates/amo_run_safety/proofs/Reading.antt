-- The entries that are read of a journal after an event: those that were read before, and an intent
-- only if a process has just tried it.
use Rattle.std.proofs.Common.{◌≡◌, ◌⊎◌, inl, inr, ⊎_elim, ℕ, Bool, true, false, List, [], ◌∷◌, ◌++◌, sym, ap, ◌∙◌, subst, append-nil, append_assoc}
use Rattle.std.specs.List.{AllByRecursion}
use Rattle.std.proofs.lemmas.Bool.{true≢false}
use Rattle.amo_sets.specs.Lists.{numbered}
use Rattle.amo_driver.specs.declared.model.Try.{Try}
use Rattle.amo_driver.specs.declared.model.Try.TheVariants.{Load, Store, Find, Intend, Clear, Perform, Note, Ask}
use Rattle.amo_driver.specs.Course.{try_of}
use Rattle.amo_run_log.specs.declared.entry.Entry.{Entry}
use Rattle.amo_run_log.specs.declared.entry.Entry.TheVariants.{Intent as IntentOf, Answer as AnswerTo}
use Rattle.amo_run_safety.specs.File.{File, read_of, settled, behind, with_put, with_unheard, with_unread, after_put}
use Rattle.amo_run_safety.specs.Site.{Whereabouts, Away, Before, Inside, Site, Event, Dies, Starts, RoundBegins, Joins, Acts, Misses, Pays, PaysUnheard, PaysUnread, Says, SaysUnheard, SaysUnread, Stops, with_at, lines_at}
use Rattle.amo_run_safety.specs.Run.{entries_of_try, with_owed, appended, has_fallen, site_after}
use Rattle.amo_run_safety.specs.Commands.{is_stop}
use Rattle.amo_run_log.specs.Open.{IsAnswer}
use Rattle.amo_run_safety.proofs.Files.{read_settled}
use Rattle.amo_run_safety.proofs.Openings.{all_right}
use Rattle.amo_run_safety.proofs.Entries.{HasEntry, head_or, tail_of, entry_in_either}
use Rattle.amo_run_safety.proofs.Sane.{at_number}

-- what is read after a put

read_behind : (kept loose more : List Entry) → read_of (behind kept loose more) ≡ (kept ++ loose) ++ more
read_behind kept [] more = append-nil (kept ++ more) ∙ ap (λ l. l ++ more) (sym (append-nil kept))
read_behind kept (x ∷ loose) more = sym (append_assoc kept (x ∷ loose) more)

-- an intent among what is read after a put was there, or is the one that was put

read_after : (failed : Bool) (f : File Entry) (es : List Entry) (n line : ℕ) → HasEntry n line (read_of (after_put failed f es)) → HasEntry n line (read_of f) ⊎ HasEntry n line es
read_after true f es n line has = inl has
read_after false f es n line has = entry_in_either n line (read_of f) es (subst (HasEntry n line) (read_behind f.kept f.loose es) has)

read_unheard : (f : File Entry) (es : List Entry) (n line : ℕ) → HasEntry n line (read_of (with_unheard f es)) → HasEntry n line (read_of f) ⊎ HasEntry n line es
read_unheard f es n line has = entry_in_either n line (read_of f) es (subst (HasEntry n line) (sym (append_assoc f.kept f.loose es)) has)

-- the entry that a try puts

abbrev is_intent : Entry → Bool
is_intent (IntentOf n line time) = true
is_intent (AnswerTo n answer) = false

abbrev serial_of : Entry → ℕ
serial_of (IntentOf n line time) = n
serial_of (AnswerTo n answer) = 0

abbrev line_of : Entry → ℕ
line_of (IntentOf n line time) = line
line_of (AnswerTo n answer) = 0

abbrev is_none_there : List Entry → Bool
is_none_there [] = true
is_none_there (x ∷ xs) = false

none_in_none : (n line : ℕ) → HasEntry n line [] → ⊥
none_in_none n line ([], time, back, e) = true≢false (ap is_none_there e)
none_in_none n line (x ∷ front, time, back, e) = true≢false (ap is_none_there e)

one_in_one : (n line : ℕ) (x : Entry) → HasEntry n line (x ∷ []) → (is_intent x ≡ true) × (serial_of x ≡ n) × (line_of x ≡ line)
one_in_one n line x ([], time, back, e) = let same = ap (head_or x) e in (ap is_intent same, ap serial_of same, ap line_of same)
one_in_one n line x (y ∷ front, time, back, e) = absurd (none_in_none n line (front, time, back, ap tail_of e))

-- It is the intent of this job, which is of this line.
pub record IsIntent (lines : List ℕ) (t : Try) (n line : ℕ) : Type 0 where
  pub job : ℕ
  pub is : t ≡ Intend n job
  pub line_is : numbered 0 lines job ≡ line

put_by : (lines : List ℕ) (time : ℕ) (t : Try) (n line : ℕ) → HasEntry n line (entries_of_try lines time t) → IsIntent lines t n line
put_by lines time (Intend m j) n line has =
    let same = one_in_one n line (IntentOf m (numbered 0 lines j) time) has in
    record { job = j; is = ap (λ k. Intend k j) same.1; line_is = same.2 }
put_by lines time (Note m c) n line has = absurd (true≢false (sym (one_in_one n line (AnswerTo m _) has).0))
put_by lines time (Load a) n line has = absurd (none_in_none n line has)
put_by lines time (Store a b) n line has = absurd (none_in_none n line has)
put_by lines time (Find j) n line has = absurd (none_in_none n line has)
put_by lines time (Clear m j) n line has = absurd (none_in_none n line has)
put_by lines time (Perform m j) n line has = absurd (none_in_none n line has)
put_by lines time (Ask m l) n line has = absurd (none_in_none n line has)

-- among what is owed is no intent: what is appended has the intent of this try alone
module _ (owed : List Entry) (answers : AllByRecursion IsAnswer owed) (n line : ℕ) where
  none_owed : HasEntry n line owed → ⊥
  none_owed has =
      let (front, time, back, is) = has in
      (all_right IsAnswer front (IntentOf n line time ∷ back) (subst (AllByRecursion IsAnswer) is answers)).0

  with_owed_by : (lines : List ℕ) (time : ℕ) (t : Try) → HasEntry n line (with_owed owed lines time t) → IsIntent lines t n line
  with_owed_by lines time (Intend m j) has = ⊎_elim
      (λ (there : HasEntry n line owed). absurd (none_owed there))
      (λ (here : HasEntry n line (entries_of_try lines time (Intend m j))). put_by lines time (Intend m j) n line here)
      (entry_in_either n line owed (entries_of_try lines time (Intend m j)) has)
  with_owed_by lines time t has = absurd (none_in_none n line has)

  appended_by : (whereabouts : Whereabouts) (lines : List ℕ) (time : ℕ) (t : Try) → HasEntry n line (appended whereabouts owed lines time t) → IsIntent lines t n line
  appended_by Away lines time t has = absurd (none_in_none n line has)
  appended_by (Before s) lines time t has = put_by lines time t n line has
  appended_by (Inside k q) lines time t has = with_owed_by lines time t has

-- In this event the process of worker p tries this intent.
abbrev pub TriesIntent : Site → Event → (p n line : ℕ) → Type 0
TriesIntent w (Acts q time d) p n line = (p ≡ q) × IsIntent (lines_at w.rounds (w.whereabouts q)) (try_of d) n line
TriesIntent w (Misses q time t) p n line = (p ≡ q) × IsIntent (lines_at w.rounds (w.whereabouts q)) t n line
TriesIntent w e p n line = ⊥

module _ (w : Site) (owing : (p : ℕ) → AllByRecursion IsAnswer (w.owed p)) where
  -- the journal of q has become this one, which has all that was read and what may be appended
  entry_in : (q : ℕ) (f : File Entry) (p n line : ℕ) (New : Type 0) → (HasEntry n line (read_of f) → HasEntry n line (read_of (w.journals q)) ⊎ New)
      → HasEntry n line (read_of (with_at w.journals q f p)) → HasEntry n line (read_of (w.journals p)) ⊎ ((p ≡ q) × New)
  entry_in q f p n line New by has =
      at_number (λ x. HasEntry n line (read_of x) → HasEntry n line (read_of (w.journals p)) ⊎ ((p ≡ q) × New)) w.journals q f p
      (λ e there. ⊎_elim
      (λ (old : HasEntry n line (read_of (w.journals q))). inl (subst (λ x. HasEntry n line (read_of (w.journals x))) (sym e) old))
      (λ (new : New). inr (e, new))
      (by there))
      (λ m there. inl there) has

  -- if it is no new one, it was there
  entry_old : (q : ℕ) (f : File Entry) (p n line : ℕ) → (HasEntry n line (read_of f) → HasEntry n line (read_of (w.journals q)) ⊎ HasEntry n line (w.owed q))
      → HasEntry n line (read_of (with_at w.journals q f p)) → HasEntry n line (read_of (w.journals p))
  entry_old q f p n line by has = ⊎_elim
      (λ (old : HasEntry n line (read_of (w.journals p))). old)
      (λ (new : (p ≡ q) × HasEntry n line (w.owed q)). absurd (none_owed (w.owed q) (owing q) n line new.1))
      (entry_in q f p n line (HasEntry n line (w.owed q)) by has)

  -- what the process of q appends now
  module _ (q time : ℕ) (t : Try) where
    abbrev lines_now : List ℕ
    lines_now = lines_at w.rounds (w.whereabouts q)

    abbrev appended_now : List Entry
    appended_now = appended (w.whereabouts q) (w.owed q) lines_now time t

    tried : (n line : ℕ) → HasEntry n line (read_of (w.journals q)) ⊎ HasEntry n line appended_now → HasEntry n line (read_of (w.journals q)) ⊎ IsIntent lines_now t n line
    tried n line either = ⊎_elim
        (λ (old : HasEntry n line (read_of (w.journals q))). inl old)
        (λ (new : HasEntry n line appended_now). inr (appended_by (w.owed q) (owing q) n line (w.whereabouts q) lines_now time t new))
        either

  pub entry_was : (e : Event) → is_stop e ≡ false → (p n line : ℕ) → HasEntry n line (read_of ((site_after w e).journals p))
      → HasEntry n line (read_of (w.journals p)) ⊎ TriesIntent w e p n line
  entry_was (Dies q) on p n line has = inl has
  entry_was (Starts q es) on p n line has = inl (at_number (λ f. HasEntry n line (read_of f) → HasEntry n line (read_of (w.journals p))) w.journals q (settled (w.journals q)) p
      (λ e there. subst (λ x. HasEntry n line (read_of (w.journals x))) (sym e) (subst (HasEntry n line) (read_settled (w.journals q)) there))
      (λ m there. there) has)
  entry_was (RoundBegins g r lines) on p n line has = inl has
  entry_was (Joins q s k) on p n line has = inl has
  entry_was (Acts q time d) on p n line has =
      let more = appended_now q time (try_of d) in
      entry_in q (after_put (has_fallen d) (w.journals q) more) p n line (IsIntent (lines_now q time (try_of d)) (try_of d) n line)
      (λ there. tried q time (try_of d) n line (read_after (has_fallen d) (w.journals q) more n line there)) has
  entry_was (Misses q time t) on p n line has =
      let more = appended_now q time t in
      entry_in q (with_unheard (w.journals q) more) p n line (IsIntent (lines_now q time t) t n line)
      (λ there. tried q time t n line (read_unheard (w.journals q) more n line there)) has
  entry_was (Pays q) on p n line has = inl (entry_old q (with_put (w.journals q) (w.owed q)) p n line (read_after false (w.journals q) (w.owed q) n line) has)
  entry_was (PaysUnheard q) on p n line has = inl (entry_old q (with_unheard (w.journals q) (w.owed q)) p n line (read_unheard (w.journals q) (w.owed q) n line) has)
  entry_was (PaysUnread q) on p n line has = inl (entry_old q (with_unread (w.journals q) (w.owed q)) p n line (read_after true (w.journals q) (w.owed q) n line) has)
  entry_was (Says f) on p n line has = inl has
  entry_was (SaysUnheard f) on p n line has = inl has
  entry_was (SaysUnread f) on p n line has = inl has
  entry_was (Stops left k) on p n line has = absurd (true≢false on)
