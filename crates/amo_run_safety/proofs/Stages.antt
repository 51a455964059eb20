-- If a process may hand a job over, or asks whether it may, the job's intent is in the journal. A
-- process that asks for intents hands nothing over.
use Rattle.std.proofs.Common.{◌≡◌, ℕ, zero, suc, ◌+◌, Bool, true, false, List, [], ◌∷◌, ◌++◌, Some, refl, sym, ap, ◌∙◌, subst, append_assoc}
use Rattle.std.specs.Prelude.{⊤, if◌then◌else◌}
use Rattle.std.proofs.lemmas.Bool.{true≢false}
use Rattle.std.proofs.lemmas.Option.{none-some}
use Rattle.amo_sets.specs.Lists.{numbered}
use Rattle.amo_process.specs.Heard.{told_by, doubted_by}
use Rattle.amo_process.specs.Stepped.{ProcessView, process_after, may_leave, is_refused}
use Rattle.amo_driver.specs.declared.answer.JobResult.{JobResult}
use Rattle.amo_driver.specs.declared.answer.JobResult.TheVariants.{Unbegun}
use Rattle.amo_driver.specs.declared.answer.Reply.{Reply}
use Rattle.amo_driver.specs.declared.answer.Way.{Way}
use Rattle.amo_driver.specs.declared.answer.Way.TheVariants.{Go, Leave}
use Rattle.amo_driver.specs.declared.model.Deed.{Deed}
use Rattle.amo_driver.specs.declared.model.Deed.TheVariants.{Loaded, Stored, Found, Intended, Cleared, Performed, Noted, Asked, Fell}
use Rattle.amo_driver.specs.declared.model.Try.{Try}
use Rattle.amo_driver.specs.declared.model.Try.TheVariants.{Intend, Perform}
use Rattle.amo_driver.specs.declared.past.Intent.{Intent}
use Rattle.amo_driver.specs.Stage.{Stage, Going, Finding, Intending, Clearing, Performing, Noting, Leaving, Asking, Settling, Dismissed, Gone, Unanswered, Refused, Broken}
use Rattle.amo_driver.specs.Course.{try_of, due, stage_by_jobs, stage_heard, stage_told, stage_replied, stage_asking, stage_asked, stage_after}
use Rattle.amo_driver_safety.proofs.Stages.{after_reply, after_settling, after_question, performing_only, serial_in, job_in}
use Rattle.amo_run_log.specs.declared.entry.Entry.{Entry}
use Rattle.amo_run_log.specs.declared.entry.Entry.TheVariants.{Intent as IntentOf}
use Rattle.amo_run_safety.specs.Run.{with_owed, has_fallen}
use Rattle.amo_run_safety.proofs.Files.{Grows}
use Rattle.amo_run_safety.proofs.Entries.{HasEntry, entry_stays}

-- nothing is due where something has failed

abbrev pub is_broken : Stage → Bool
is_broken Broken = true
is_broken s = false

pub not_broken : (s : Stage) (t : Try) → due s ≡ Some t → is_broken s ≡ false
not_broken Broken t e = absurd (none-some t e)
not_broken s t e = refl

-- it asks for intents, or has stopped doing so
abbrev pub is_asking : Stage → Bool
is_asking (Asking intents) = true
is_asking (Settling s c way rest) = true
is_asking (Dismissed rest) = true
is_asking (Unanswered s reply) = true
is_asking Broken = true
is_asking s = false

asking_then : (way : Way) (rest : List Intent) → is_asking (stage_asking way rest) ≡ true
asking_then way rest = after_settling (λ z. is_asking z ≡ true) (λ left. refl) (λ left. refl) way rest

pub asked_then : (intents : List Intent) (reply : Reply) → is_asking (stage_asked intents reply) ≡ true
asked_then intents reply = after_question (λ z. is_asking z ≡ true) (λ left. refl) (λ left. refl) intents reply (λ s c way left. refl) (λ s r. refl)

loaded_asks : (s : Stage) (w v : ℕ) → is_asking s ≡ true → is_asking (stage_after s (Loaded w v)) ≡ true
loaded_asks (Going n a way) w v h = absurd (true≢false (sym h))
loaded_asks s w v h = h

stored_asks : (s : Stage) (w v : ℕ) → is_asking s ≡ true → is_asking (stage_after s (Stored w v)) ≡ true
stored_asks (Going n a way) w v h = absurd (true≢false (sym h))
stored_asks (Leaving a) w v h = absurd (true≢false (sym h))
stored_asks s w v h = h

found_asks : (s : Stage) (j : ℕ) → is_asking s ≡ true → is_asking (stage_after s (Found j)) ≡ true
found_asks (Finding n a i) j h = absurd (true≢false (sym h))
found_asks s j h = h

intended_asks : (s : Stage) (n j : ℕ) → is_asking s ≡ true → is_asking (stage_after s (Intended n j)) ≡ true
intended_asks (Intending m a i) n j h = absurd (true≢false (sym h))
intended_asks s n j h = h

cleared_asks : (s : Stage) (n j : ℕ) (clear : Bool) → is_asking s ≡ true → is_asking (stage_after s (Cleared n j clear)) ≡ true
cleared_asks (Clearing m a i) n j clear h = absurd (true≢false (sym h))
cleared_asks s n j clear h = h

performed_asks : (s : Stage) (n j : ℕ) (reply : Reply) → is_asking s ≡ true → is_asking (stage_after s (Performed n j reply)) ≡ true
performed_asks (Performing m a i) n j reply h = absurd (true≢false (sym h))
performed_asks s n j reply h = h

noted_asks : (s : Stage) (n : ℕ) (c : JobResult) → is_asking s ≡ true → is_asking (stage_after s (Noted n c)) ≡ true
noted_asks (Noting m a x way) n c h = absurd (true≢false (sym h))
noted_asks (Settling m x way rest) n c h = asking_then way rest
noted_asks s n c h = h

asked_asks : (s : Stage) (n line : ℕ) (reply : Reply) → is_asking s ≡ true → is_asking (stage_after s (Asked n line reply)) ≡ true
asked_asks (Asking intents) n line reply h = asked_then intents reply
asked_asks s n line reply h = h

pub asks_on : (s : Stage) (d : Deed) → is_asking s ≡ true → is_asking (stage_after s d) ≡ true
asks_on s (Loaded w v) h = loaded_asks s w v h
asks_on s (Stored w v) h = stored_asks s w v h
asks_on s (Found j) h = found_asks s j h
asks_on s (Intended n j) h = intended_asks s n j h
asks_on s (Cleared n j clear) h = cleared_asks s n j clear h
asks_on s (Performed n j reply) h = performed_asks s n j reply h
asks_on s (Noted n c) h = noted_asks s n c h
asks_on s (Asked n line reply) h = asked_asks s n line reply h
asks_on s (Fell t) h = refl

pub asks_only : (s : Stage) (n j : ℕ) → is_asking s ≡ true → due s ≡ Some (Perform n j) → ⊥
asks_only s n j h e = let at = performing_only s n j e in true≢false (sym h ∙ ap is_asking at.2)

-- where its job is to be handed over, or it is to be asked whether it may be

abbrev pub is_performing : Stage → Bool
is_performing (Clearing n a j) = true
is_performing (Performing n a j) = true
is_performing s = false

-- A process that has just loaded or stored something goes on, finds a job, is to intend one, is to
-- leave, or refuses the value.
module _ (P : Stage → Type 0) (n : ℕ) (a : ProcessView) (going : (way : Way) → P (Going n a way)) (finding : (j : ℕ) → P (Finding n a j)) (intending : (j : ℕ) → P (Intending n a j)) (leaving : P (Leaving a)) where
  by_jobs : (t d : ℕ) → P (stage_by_jobs n a t d)
  by_jobs zero zero = going Go
  by_jobs zero (suc j) = finding (suc j)
  by_jobs (suc j) d = intending (suc j)

  by_way : (way : Way) → P (stage_heard n way a)
  by_way Go = by_jobs (told_by a.standing) (doubted_by a.standing)
  by_way Leave = by (may_leave a.standing)
    where
      by : (b : Bool) → P (if b then Leaving a else Going n a Leave)
      by true = leaving
      by false = going Leave

  pub by_value : (w v : ℕ) → P (Refused w v) → (way : Way) → P (stage_told w v n way a)
  by_value w v refused way = by (is_refused a.standing)
    where
      by : (b : Bool) → P (if b then Refused w v else stage_heard n way a)
      by true = refused
      by false = by_way way

not_performing : (w v n : ℕ) (way : Way) (a : ProcessView) → is_performing (stage_told w v n way a) ≡ false
not_performing w v n way a = by_value (λ z. is_performing z ≡ false) n a (λ x. refl) (λ j. refl) (λ j. refl) refl w v refl way

by_reply : (n : ℕ) (a : ProcessView) (reply : Reply) → is_performing (stage_replied n a reply) ≡ false
by_reply n a reply = after_reply (λ z. is_performing z ≡ false) n a reply (λ c way. refl) (λ way. refl) (λ r. refl)

asks_no : (s : Stage) → is_asking s ≡ true → is_performing s ≡ false
asks_no (Clearing n a j) h = absurd (true≢false (sym h))
asks_no (Performing n a j) h = absurd (true≢false (sym h))
asks_no s h = refl

-- Only an intent leads to the stage at which the process asks whether the job is clear. Only the
-- answer that it is clear leads to the stage at which the job is handed over. Assume that something
-- holds of all other stages, and stays if the stage stays, and if the job is found clear. Then it
-- holds after a deed if it does after an intent.
module _ (Q R : Stage → Type 0) (unless : (s : Stage) → is_performing s ≡ false → R s) (stays : (s : Stage) → Q s → R s)
    (clears : (n : ℕ) (a : ProcessView) (j : ℕ) → Q (Clearing n a j) → R (Performing n a j)) where
  loaded_then : (s : Stage) (w v : ℕ) → Q s → R (stage_after s (Loaded w v))
  loaded_then (Going n a way) w v h = unless (stage_told w v n way (process_after a v)) (not_performing w v n way (process_after a v))
  loaded_then s w v h = stays s h

  stored_then : (s : Stage) (w v : ℕ) → Q s → R (stage_after s (Stored w v))
  stored_then (Going n a way) w v h = unless (stage_told w v n way (process_after a 0)) (not_performing w v n way (process_after a 0))
  stored_then (Leaving a) w v h = unless Gone refl
  stored_then s w v h = stays s h

  found_then : (s : Stage) (j : ℕ) → Q s → R (stage_after s (Found j))
  found_then (Finding n a i) j h = unless (Going n a Go) refl
  found_then s j h = stays s h

  cleared_then : (s : Stage) (n j : ℕ) (clear : Bool) → Q s → R (stage_after s (Cleared n j clear))
  cleared_then (Clearing m a i) n j true h = clears m a i h
  cleared_then (Clearing m a i) n j false h = unless (Noting m a Unbegun Go) refl
  cleared_then s n j clear h = stays s h

  performed_then : (s : Stage) (n j : ℕ) (reply : Reply) → Q s → R (stage_after s (Performed n j reply))
  performed_then (Performing m a i) n j reply h = unless (stage_replied m a reply) (by_reply m a reply)
  performed_then s n j reply h = stays s h

  noted_then : (s : Stage) (n : ℕ) (c : JobResult) → Q s → R (stage_after s (Noted n c))
  noted_then (Noting m a x way) n c h = unless (Going (m + 1) a way) refl
  noted_then (Settling m x way rest) n c h = unless (stage_asking way rest) (asks_no (stage_asking way rest) (asking_then way rest))
  noted_then s n c h = stays s h

  asked_for_then : (s : Stage) (n line : ℕ) (reply : Reply) → Q s → R (stage_after s (Asked n line reply))
  asked_for_then (Asking intents) n line reply h = unless (stage_asked intents reply) (asks_no (stage_asked intents reply) (asked_then intents reply))
  asked_for_then s n line reply h = stays s h

  pub any_then : (s : Stage) (d : Deed) → ((n j : ℕ) → d ≡ Intended n j → R (stage_after s d)) → Q s → R (stage_after s d)
  any_then s (Loaded w v) intended h = loaded_then s w v h
  any_then s (Stored w v) intended h = stored_then s w v h
  any_then s (Found j) intended h = found_then s j h
  any_then s (Intended n j) intended h = intended n j refl
  any_then s (Cleared n j clear) intended h = cleared_then s n j clear h
  any_then s (Performed n j reply) intended h = performed_then s n j reply h
  any_then s (Noted n c) intended h = noted_then s n c h
  any_then s (Asked n line reply) intended h = asked_for_then s n line reply h
  any_then s (Fell t) intended h = unless Broken refl

-- The entries that a deed appends in a round if these are owed: none, if it has failed.
abbrev pub entries_of_deed : (owed : List Entry) → List ℕ → (time : ℕ) → Deed → List Entry
entries_of_deed owed lines time d = if has_fallen d then [] else with_owed owed lines time (try_of d)

-- the intent of the job that is to be handed over, or about which the process is to ask, is among
-- these entries, if the jobs are these lines
abbrev pub IsPut : List ℕ → List Entry → Stage → Type 0
IsPut lines kept (Clearing n a j) = HasEntry n (numbered 0 lines j) kept
IsPut lines kept (Performing n a j) = HasEntry n (numbered 0 lines j) kept
IsPut lines kept s = ⊤

put_unless : (lines : List ℕ) (kept : List Entry) (s : Stage) → is_performing s ≡ false → IsPut lines kept s
put_unless lines kept (Clearing n a j) h = absurd (true≢false h)
put_unless lines kept (Performing n a j) h = absurd (true≢false h)
put_unless lines kept s h = tt

pub put_stays : (lines : List ℕ) (old new : List Entry) → Grows old new → (s : Stage) → IsPut lines old s → IsPut lines new s
put_stays lines old new grows (Clearing n a j) h = entry_stays n (numbered 0 lines j) old new grows h
put_stays lines old new grows (Performing n a j) h = entry_stays n (numbered 0 lines j) old new grows h
put_stays lines old new grows s h = tt

module _ (owed : List Entry) (lines : List ℕ) (time : ℕ) (kept : List Entry) where
  -- with this intent, and what is owed
  abbrev with_intent : (n j : ℕ) → List Entry
  with_intent n j = kept ++ (owed ++ IntentOf n (numbered 0 lines j) time ∷ [])

  intended_put : (s : Stage) (n j : ℕ) → due s ≡ Some (Intend n j) → IsPut lines kept s → IsPut lines (with_intent n j) (stage_after s (Intended n j))
  intended_put (Intending m a i) n j e h =
      let serial : n ≡ m = sym (ap serial_in e) in
      let job : j ≡ i = sym (ap job_in e) in (
        kept ++ owed,
        time,
        [],
        sym (append_assoc kept owed (IntentOf n (numbered 0 lines j) time ∷ []))
            ∙ ap (λ k. (kept ++ owed) ++ IntentOf k (numbered 0 lines j) time ∷ []) serial ∙ ap (λ k. (kept ++ owed) ++ IntentOf m (numbered 0 lines k) time ∷ []) job,
      )
  intended_put s n j e h = put_stays lines kept (with_intent n j) (owed ++ IntentOf n (numbered 0 lines j) time ∷ [], refl) s h

  -- once a deed that was due is done, and what it appends is kept
  pub put_then : (s : Stage) (d : Deed) → due s ≡ Some (try_of d) → IsPut lines kept s → IsPut lines (kept ++ entries_of_deed owed lines time d) (stage_after s d)
  put_then s d e h =
      let new = kept ++ entries_of_deed owed lines time d in
      any_then (IsPut lines kept) (IsPut lines new) (put_unless lines new) (put_stays lines kept new (entries_of_deed owed lines time d, refl))
      (λ m a i was. entry_stays m (numbered 0 lines i) kept new (entries_of_deed owed lines time d, refl) was) s d
      (λ n j is. subst (λ x. IsPut lines (kept ++ entries_of_deed owed lines time x) (stage_after s x)) (sym is) (intended_put s n j (e ∙ ap (λ x. Some (try_of x)) is) h)) h
