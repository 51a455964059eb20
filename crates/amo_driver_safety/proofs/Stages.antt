-- The deed that is due at a stage, and the stage of a process by the numbers that it has read.
use Rattle.std.proofs.Common.{◌≡◌, ◌⊎◌, inl, inr, ℕ, zero, suc, ◌≤◌, ◌+◌, Bool, true, false, refl, sym, ap, ◌∙◌, arith, List, [], ◌∷◌, ◌++◌, Option, Some, None}
use Rattle.std.specs.Prelude.{⊤, if◌then◌else◌, ◌==◌}
use Rattle.std.proofs.lemmas.Bool.{true≢false}
use Rattle.amo_kk.specs.Words.{next_word}
use Rattle.amo_params.specs.declared.givens.Givens.{Givens}
use Rattle.amo_process.specs.Heard.{standing_of, told_by, doubted_by}
use Rattle.amo_process.specs.Stepped.{ProcessView, new_process, process_after, process_after_all, access_of, may_leave, is_refused}
use Rattle.amo_process.specs.declared.access.Access.{Access}
use Rattle.amo_process.specs.declared.access.Access.TheVariants.{Load as LoadAccess, Store as StoreAccess, Nothing}
use Rattle.amo_process.proofs.Stepped.{stepped_stands}
use Rattle.amo_driver.specs.declared.answer.JobResult.{JobResult}
use Rattle.amo_driver.specs.declared.answer.Reply.{Reply}
use Rattle.amo_driver.specs.declared.answer.Reply.TheVariants.{Answered, Running, Garbled, Closed}
use Rattle.amo_driver.specs.declared.answer.Way.{Way}
use Rattle.amo_driver.specs.declared.answer.Way.TheVariants.{Go, Leave}
use Rattle.amo_driver.specs.declared.model.Deed.{Deed}
use Rattle.amo_driver.specs.declared.model.Deed.TheVariants.{Loaded, Stored, Found, Intended, Cleared, Performed, Noted, Asked, Fell}
use Rattle.amo_driver.specs.declared.model.Try.{Try}
use Rattle.amo_driver.specs.declared.model.Try.TheVariants.{Intend, Load, Store, Clear, Perform, Note}
use Rattle.amo_driver.specs.declared.past.Intent.{Intent}
use Rattle.amo_driver.specs.Stage.{Stage, Going, Finding, Intending, Clearing, Performing, Noting, Leaving, Asking, Settling, Dismissed, Unanswered, Refused}
use Rattle.amo_driver.specs.Course.{access_tried, due, stage_by_jobs, stage_heard, stage_told, stage_replied, stage_asking, stage_asked, stage_after, stage_after_all}

-- what was tried, in parts

abbrev pub word_in : Option Try → ℕ
word_in (Some (Load w)) = w
word_in (Some (Store w v)) = w
word_in t = 0

abbrev pub value_in : Option Try → ℕ
value_in (Some (Store w v)) = v
value_in t = 0

abbrev pub job_in : Option Try → ℕ
job_in (Some (Intend n j)) = j
job_in (Some (Clear n j)) = j
job_in (Some (Perform n j)) = j
job_in t = 0

abbrev pub serial_in : Option Try → ℕ
serial_in (Some (Intend n j)) = n
serial_in (Some (Clear n j)) = n
serial_in (Some (Perform n j)) = n
serial_in (Some (Note n c)) = n
serial_in t = 0

-- an access that is tried is that access

pub tried_load : (x : Access) (w : ℕ) → access_tried x ≡ Some (Load w) → x ≡ LoadAccess w
tried_load (LoadAccess u) w e = ap (λ o. LoadAccess (word_in o)) e
tried_load (StoreAccess u v) w e = cc
tried_load Nothing w e = cc

pub tried_store : (x : Access) (w v : ℕ) → access_tried x ≡ Some (Store w v) → x ≡ StoreAccess w v
tried_store (LoadAccess u) w v e = cc
tried_store (StoreAccess u y) w v e = ap (λ o. StoreAccess (word_in o) (value_in o)) e
tried_store Nothing w v e = cc

-- and nothing else is tried by one

abbrev is_other : Option Try → Bool
is_other None = false
is_other (Some (Load w)) = false
is_other (Some (Store w v)) = false
is_other t = true

pub no_other : (x : Access) (t : Try) → is_other (Some t) ≡ true → access_tried x ≡ Some t → ⊥
no_other (LoadAccess w) t other e = true≢false (sym other ∙ ap is_other (sym e))
no_other (StoreAccess w v) t other e = true≢false (sym other ∙ ap is_other (sym e))
no_other Nothing t other e = true≢false (sym other ∙ ap is_other (sym e))

-- a load is due only if the process wants it
pub load_only : (s : Stage) (w : ℕ) → due s ≡ Some (Load w) → (n : ℕ) × (a : ProcessView) × (way : Way) × (s ≡ Going n a way)
load_only (Going s a way) w e = (s, a, way, refl)
load_only (Asking []) w e = cc
load_only s w e = cc

-- a store only if the process wants it, or leaves
pub store_only : (s : Stage) (w v : ℕ) → due s ≡ Some (Store w v)
    → ((n : ℕ) × (a : ProcessView) × (way : Way) × (s ≡ Going n a way)) ⊎ ((a : ProcessView) × (s ≡ Leaving a) × (w ≡ next_word a.number) × (v ≡ 0))
store_only (Going s a way) w v e = inl (s, a, way, refl)
store_only (Leaving a) w v e = inr (a, refl, sym (ap word_in e), sym (ap value_in e))
store_only (Asking []) w v e = cc
store_only s w v e = cc

-- a performance only if the job is clear
pub performing_only : (s : Stage) (n j : ℕ) → due s ≡ Some (Perform n j) → (m : ℕ) × (a : ProcessView) × (s ≡ Performing m a j)
performing_only (Performing s a i) m k e = (s, a, ap (λ o. Performing s a (job_in o)) e)
performing_only (Going s a way) m k e = absurd (no_other (access_of a.givens a.number a.standing) (Perform m k) refl e)
performing_only (Asking []) m k e = cc
performing_only s m k e = cc

-- and just that one
pub performing_at : (s : Stage) (n j : ℕ) → due s ≡ Some (Perform n j) → (a : ProcessView) × (s ≡ Performing n a j)
performing_at s n j e =
    let at = performing_only s n j e in
    let same : at.0 ≡ n = ap serial_in (sym (ap due at.2) ∙ e) in
    (at.1, at.2 ∙ ap (λ x. Performing x at.1 j) same)

-- an intent only if it is to be put
pub intending_at : (s : Stage) (n j : ℕ) → due s ≡ Some (Intend n j) → (a : ProcessView) × (s ≡ Intending n a j)
intending_at (Intending m a i) n j e = (a, (λ k. Intending (serial_in (e k)) a (job_in (e k))))
intending_at (Going s a way) n j e = absurd (no_other (access_of a.givens a.number a.standing) (Intend n j) refl e)
intending_at (Asking []) n j e = cc
intending_at s n j e = cc

-- whether a job may be handed over is asked only where its intent was put
pub clearing_at : (s : Stage) (n j : ℕ) → due s ≡ Some (Clear n j) → (a : ProcessView) × (s ≡ Clearing n a j)
clearing_at (Clearing m a i) n j e = (a, (λ k. Clearing (serial_in (e k)) a (job_in (e k))))
clearing_at (Going s a way) n j e = absurd (no_other (access_of a.givens a.number a.standing) (Clear n j) refl e)
clearing_at (Asking []) n j e = cc
clearing_at s n j e = cc

-- what holds of each stage to which something may lead holds of the one to which it leads

module _ (P : Stage → Type 0) where
  either : (b : Bool) (x y : Stage) → P x → P y → P (if b then x else y)
  either true x y h k = h
  either false x y h k = k

  -- what came in answer to an intent
  pub after_reply : (s : ℕ) (a : ProcessView) (reply : Reply) → ((c : JobResult) (way : Way) → P (Noting s a c way)) → ((way : Way) → P (Going (s + 1) a way))
      → ((r : Reply) → P (Unanswered s r)) → P (stage_replied s a reply)
  after_reply s a (Answered n c way) notes goes ends = either (n == s) (Noting s a c way) (Unanswered s (Answered n c way)) (notes c way) (ends (Answered n c way))
  after_reply s a (Running n way) notes goes ends = either (n == s) (Going (s + 1) a way) (Unanswered s (Running n way)) (goes way) (ends (Running n way))
  after_reply s a Garbled notes goes ends = ends Garbled
  after_reply s a Closed notes goes ends = ends Closed

  module _ (asks : (left : List Intent) → P (Asking left)) (leaves : (left : List Intent) → P (Dismissed left)) where
    -- what became of an intent that a former process has left is noted, or its job runs
    pub after_settling : (way : Way) (rest : List Intent) → P (stage_asking way rest)
    after_settling Go rest = asks rest
    after_settling Leave rest = leaves rest

    -- what came in answer when such an intent was asked for
    pub after_question : (intents : List Intent) (reply : Reply) → ((s : ℕ) (c : JobResult) (way : Way) (left : List Intent) → P (Settling s c way left))
        → ((s : ℕ) (r : Reply) → P (Unanswered s r)) → P (stage_asked intents reply)
    after_question [] reply notes ends = asks []
    after_question (i ∷ rest) (Answered n c way) notes ends =
        either (n == i.serial) (Settling i.serial c way rest) (Unanswered i.serial (Answered n c way)) (notes i.serial c way rest) (ends i.serial (Answered n c way))
    after_question (i ∷ rest) (Running n way) notes ends =
        either (n == i.serial) (stage_asking way rest) (Unanswered i.serial (Running n way)) (after_settling way rest) (ends i.serial (Running n way))
    after_question (i ∷ rest) Garbled notes ends = ends i.serial Garbled
    after_question (i ∷ rest) Closed notes ends = ends i.serial Closed

-- the process that has read these numbers since it began

abbrev pub process_of : Givens → ℕ → List ℕ → ProcessView
process_of g p hs = process_after_all (new_process g p) hs

after_more : (a : ProcessView) (hs : List ℕ) (v : ℕ) → process_after_all a (hs ++ v ∷ []) ≡ process_after (process_after_all a hs) v
after_more a [] v = refl
after_more a (x ∷ xs) v = after_more (process_after a x) xs v

kept : (a : ProcessView) (hs : List ℕ) → ((process_after_all a hs).givens ≡ a.givens) × ((process_after_all a hs).number ≡ a.number)
kept a [] = (refl, refl)
kept a (x ∷ xs) = kept (process_after a x) xs

module _ (g : Givens) (p : ℕ) (hs : List ℕ) (a : ProcessView) (is : a ≡ process_of g p hs) where
  pub hears_more : (v : ℕ) → process_after a v ≡ process_of g p (hs ++ v ∷ [])
  hears_more v = ap (λ z. process_after z v) is ∙ sym (after_more (new_process g p) hs v)

  pub number_is : a.number ≡ p
  number_is = ap (λ (z : ProcessView). z.number) is ∙ (kept (new_process g p) hs).1

  pub standing_is : a.standing ≡ standing_of g p hs
  standing_is = ap (λ (z : ProcessView). z.standing) is ∙ stepped_stands g p hs

  -- its access is that of its list
  pub access_is : access_of g p (standing_of g p hs) ≡ access_of a.givens a.number a.standing
  access_is =
      sym ((λ i. access_of (givens_is i) (number_is i) a.standing) ∙ ap (access_of g p) standing_is)
    where
      givens_is : a.givens ≡ g
      givens_is = ap (λ (z : ProcessView). z.givens) is ∙ (kept (new_process g p) hs).0

-- The process at this stage has received these numbers since it began. By them it is to perform the
-- job whose intent is due, the job about which it asks whether it is clear, and the job that is
-- clear. By them a job that is to be found is in doubt, and a process that leaves may leave.
-- Nothing is stated about a process that has ended, or that asks for intents.
abbrev pub Shown : Givens → ℕ → List ℕ → Stage → Type 0
Shown g p hs (Going s a way) = a ≡ process_of g p hs
Shown g p hs (Finding s a j) = (a ≡ process_of g p hs) × (doubted_by a.standing ≡ j) × (1 ≤ j)
Shown g p hs (Intending s a j) = (a ≡ process_of g p hs) × (told_by a.standing ≡ j) × (1 ≤ j)
Shown g p hs (Clearing s a j) = (a ≡ process_of g p hs) × (told_by a.standing ≡ j) × (1 ≤ j)
Shown g p hs (Performing s a j) = (a ≡ process_of g p hs) × (told_by a.standing ≡ j) × (1 ≤ j)
Shown g p hs (Noting s a c way) = a ≡ process_of g p hs
Shown g p hs (Leaving a) = (a ≡ process_of g p hs) × (may_leave a.standing ≡ true)
Shown g p hs s = ⊤

module _ (g : Givens) (p : ℕ) (hs : List ℕ) where
  -- after a number was read

  module _ (s : ℕ) (a : ProcessView) (is : a ≡ process_of g p hs) where
    jobs_shown : (t d : ℕ) → told_by a.standing ≡ t → doubted_by a.standing ≡ d → Shown g p hs (stage_by_jobs s a t d)
    jobs_shown zero zero e x = is
    jobs_shown zero (suc j) e x = (is, x, omega arith)
    jobs_shown (suc j) d e x = (is, e, omega arith)

    leaving_shown : (b : Bool) → may_leave a.standing ≡ b → Shown g p hs (if b then Leaving a else Going s a Leave)
    leaving_shown true e = (is, e)
    leaving_shown false e = is

    heard_shown : (way : Way) → Shown g p hs (stage_heard s way a)
    heard_shown Go = jobs_shown (told_by a.standing) (doubted_by a.standing) refl refl
    heard_shown Leave = leaving_shown (may_leave a.standing) refl

    pub told_shown : (w v : ℕ) (way : Way) → Shown g p hs (stage_told w v s way a)
    told_shown w v way = by (is_refused a.standing)
      where
        by : (b : Bool) → Shown g p hs (if b then Refused w v else stage_heard s way a)
        by true = tt
        by false = heard_shown way

    replied_shown : (reply : Reply) → Shown g p hs (stage_replied s a reply)
    replied_shown reply = after_reply (Shown g p hs) s a reply (λ c way. is) (λ way. is) (λ r. tt)

  asking_shown : (way : Way) (rest : List Intent) → Shown g p hs (stage_asking way rest)
  asking_shown way rest = after_settling (Shown g p hs) (λ left. tt) (λ left. tt) way rest

  asked_shown : (intents : List Intent) (reply : Reply) → Shown g p hs (stage_asked intents reply)
  asked_shown intents reply = after_question (Shown g p hs) (λ left. tt) (λ left. tt) intents reply (λ s c way left. tt) (λ s r. tt)

  -- after a deed that gives no process a number

  pub found_shown : (s : Stage) (j : ℕ) → Shown g p hs s → Shown g p hs (stage_after s (Found j))
  found_shown (Finding s a i) j f = f.0
  found_shown s j f = f

  pub intended_shown : (s : Stage) (n j : ℕ) → Shown g p hs s → Shown g p hs (stage_after s (Intended n j))
  intended_shown (Intending s a i) n j f = f
  intended_shown s n j f = f

  pub cleared_shown : (s : Stage) (n j : ℕ) (clear : Bool) → Shown g p hs s → Shown g p hs (stage_after s (Cleared n j clear))
  cleared_shown (Clearing s a i) n j true f = f
  cleared_shown (Clearing s a i) n j false f = f.0
  cleared_shown s n j clear f = f

  pub performed_shown : (s : Stage) (n j : ℕ) (reply : Reply) → Shown g p hs s → Shown g p hs (stage_after s (Performed n j reply))
  performed_shown (Performing s a i) n j reply f = replied_shown s a f.0 reply
  performed_shown s n j reply f = f

  pub noted_shown : (s : Stage) (n : ℕ) (c : JobResult) → Shown g p hs s → Shown g p hs (stage_after s (Noted n c))
  noted_shown (Noting s a d way) n c f = f
  noted_shown (Settling s d way rest) n c f = asking_shown way rest
  noted_shown s n c f = f

  pub asked_for_shown : (s : Stage) (n line : ℕ) (reply : Reply) → Shown g p hs s → Shown g p hs (stage_after s (Asked n line reply))
  asked_for_shown (Asking intents) n line reply f = asked_shown intents reply
  asked_for_shown s n line reply f = f

-- the numbers that a process has read after a deed: an access gives it one more, if one is due

abbrev pub heard_at : List ℕ → Stage → ℕ → List ℕ
heard_at hs (Going s a way) v = hs ++ v ∷ []
heard_at hs s v = hs

abbrev pub heard_with : List ℕ → Stage → Deed → List ℕ
heard_with hs s (Loaded w v) = heard_at hs s v
heard_with hs s (Stored w v) = heard_at hs s 0
heard_with hs s d = hs

module _ (g : Givens) (p : ℕ) where
  loaded_shown : (hs : List ℕ) (s : Stage) (w v : ℕ) → Shown g p hs s → Shown g p (heard_at hs s v) (stage_after s (Loaded w v))
  loaded_shown hs (Going n a way) w v f = told_shown g p (hs ++ v ∷ []) n (process_after a v) (hears_more g p hs a f v) w v way
  loaded_shown hs s w v f = f

  stored_shown : (hs : List ℕ) (s : Stage) (w v : ℕ) → Shown g p hs s → Shown g p (heard_at hs s 0) (stage_after s (Stored w v))
  stored_shown hs (Going n a way) w v f = told_shown g p (hs ++ 0 ∷ []) n (process_after a 0) (hears_more g p hs a f 0) w v way
  stored_shown hs (Leaving a) w v f = tt
  stored_shown hs s w v f = f

  pub shown_with : (hs : List ℕ) (s : Stage) (d : Deed) → Shown g p hs s → Shown g p (heard_with hs s d) (stage_after s d)
  shown_with hs s (Loaded w v) f = loaded_shown hs s w v f
  shown_with hs s (Stored w v) f = stored_shown hs s w v f
  shown_with hs s (Found j) f = found_shown g p hs s j f
  shown_with hs s (Intended n j) f = intended_shown g p hs s n j f
  shown_with hs s (Cleared n j clear) f = cleared_shown g p hs s n j clear f
  shown_with hs s (Performed n j reply) f = performed_shown g p hs s n j reply f
  shown_with hs s (Noted n c) f = noted_shown g p hs s n c f
  shown_with hs s (Asked n line reply) f = asked_for_shown g p hs s n line reply f
  shown_with hs s (Fell t) f = tt

  -- and so after all these deeds
  pub all_shown : (hs : List ℕ) (s : Stage) (ds : List Deed) → Shown g p hs s → (heard : List ℕ) × Shown g p heard (stage_after_all s ds)
  all_shown hs s [] f = (hs, f)
  all_shown hs s (d ∷ ds) f = all_shown (heard_with hs s d) (stage_after s d) ds (shown_with hs s d f)
