-- The content of a day's journal after a call, the intents that stand, and the faults of opening
-- it.
use Rattle.std.proofs.Common.{◌≡◌, ℕ, Bool, true, false, List, [], ◌∷◌, ◌++◌, Option, Some, None, Result, Ok, Err, cond, zero, suc, refl, sym, ap, ◌∙◌, ⊎_elim, ◌⊎◌}
use Rattle.std.specs.Prelude.{option_and_then, option_map, is_none, ◌||◌, ◌&&◌, ◌==◌, not}
use Rattle.std.proofs.lemmas.Bool.{true≢false}
use Rattle.std.proofs.lemmas.List.Folds.{list_any-append}
use Rattle.amo_run_log.specs.declared.entry.Outcome.{Outcome}
use Rattle.amo_run_log.specs.declared.entry.Entry.{Entry as LedgerEntry}
use Rattle.amo_run_log.specs.declared.entry.Entry.TheVariants.{Intent}
use Rattle.amo_run_log.specs.declared.journal.Attempt.{Attempt}
use Rattle.amo_run_log.specs.Journals.{answered, answered_to, journal_of, noted}
use Rattle.amo_run_log.specs.Open.{opens, reopens}
use Rattle.amo_run_log.specs.Puts.{entries_of}
use Rattle.amo_run_log.proofs.AttemptLemmas.{journal_push}
use Rattle.amo_example_payments.specs.declared.fault.Fault.{Fault}
use Rattle.amo_example_payments.specs.declared.fault.Fault.TheVariants.{Memory}
use Rattle.amo_example_payments.specs.Faults.{is_early}
use Rattle.amo_example_payments.specs.Restarts.{has_intent, journal_in, stands}

-- what is read after a put is what was noted
pub known_more : (lines : ℕ) (old new : List ℕ) (es fs : List Attempt) (e : LedgerEntry) → ((entries : List LedgerEntry) → entries_of old ≡ Some entries → entries_of new ≡ Some (entries ++ e ∷ []))
    → noted lines es e ≡ Some fs → journal_in lines old ≡ Some es → journal_in lines new ≡ Some fs
known_more lines old new es fs e put is known = go (entries_of old) refl known
  where
    go : (o : Option (List LedgerEntry)) → entries_of old ≡ o → option_and_then (λ (xs : List LedgerEntry). journal_of lines xs) o ≡ Some es → journal_in lines new ≡ Some fs
    go None at none = absurd (cc)
    go (Some entries) at some = ap (option_and_then (λ (xs : List LedgerEntry). journal_of lines xs)) (put entries at) ∙ journal_push lines [] es entries e some ∙ is

-- the fault of a result, if it has one
abbrev pub fault_in : {T : Type 0} → Result T Fault → Fault → Fault
fault_in (Ok x) f = f
fault_in (Err e) f = e

-- a fault of one kind, or want of memory, is different from the others that come before anything is
-- written
pub none_of : (is : Fault → Bool) (f g : Fault) → (is f ≡ true) ⊎ (f ≡ Memory) → f ≡ g → is g ≡ false → is_early g ≡ true → ⊥
none_of is f g of same isnt early = ⊎_elim (λ t. true≢false (sym t ∙ ap is same ∙ isnt)) (λ m. true≢false (sym early ∙ ap is_early (sym same ∙ m))) of

-- ---- which intents stand after an entry more

-- an answer that opens no line leaves those that stand
answer_leaves : (es fs : List Attempt) (i : ℕ) (a : Outcome) (id : ℕ) → opens a ≡ false → answered es i a ≡ Some fs → has_intent fs id ≡ has_intent es id
answer_leaves [] fs i a id shut none = absurd (cc)
answer_leaves (e ∷ es) fs zero a id shut some = go e.answer refl some
  where
    go : (o : Option Outcome) → e.answer ≡ o → cond (is_none o) (Some (record e { answer = Some a } ∷ es)) None ≡ Some fs → has_intent fs id ≡ has_intent (e ∷ es) id
    go None at is =
        let same : fs ≡ record e { answer = Some a } ∷ es = cc in
        ap (λ (xs : List Attempt). has_intent xs id) same ∙ ap (λ b. ((e.line == id) && not b) || has_intent es id) (shut ∙ sym (ap reopens at))
    go (Some b) at none = absurd (cc)
answer_leaves (e ∷ es) fs (suc i) a id shut some = go (λ rest at. answer_leaves es rest i a id shut at) (answered es i a) refl some
  where
    go : ((rest : List Attempt) → answered es i a ≡ Some rest → has_intent rest id ≡ has_intent es id) → (o : Option (List Attempt)) → answered es i a ≡ o → option_map (λ (rest : List Attempt). e ∷ rest) o ≡ Some fs
        → has_intent fs id ≡ has_intent (e ∷ es) id
    go more None at none = absurd (cc)
    go more (Some rest) at is =
        let same : fs ≡ e ∷ rest = cc in
        ap (λ (xs : List Attempt). has_intent xs id) same ∙ ap (λ b. stands id e || b) (more rest at)

pub answer_stays : (es fs : List Attempt) (serial : ℕ) (a : Outcome) (id : ℕ) → opens a ≡ false → answered_to es serial a ≡ Some fs → has_intent fs id ≡ has_intent es id
answer_stays es fs zero a id shut none = absurd (cc)
answer_stays es fs (suc i) a id shut some = answer_leaves es fs i a id shut some

an_intent : (b : Bool) → ((b && true) || false) ≡ b
an_intent true = refl
an_intent false = refl

-- an intent stands from then on
pub intent_adds : (lines : ℕ) (es fs : List Attempt) (serial line time id : ℕ) → noted lines es (Intent serial line time) ≡ Some fs → has_intent fs id ≡ (has_intent es id || (line == id))
intent_adds lines es fs serial line time id is = go _ is
  where
    here : Attempt
    here = record { line = line; time = time; answer = None }

    go : (b : Bool) → cond b (Some (es ++ here ∷ [])) None ≡ Some fs → has_intent fs id ≡ (has_intent es id || (line == id))
    go false none = absurd (cc)
    go true some =
        let same : fs ≡ es ++ here ∷ [] = cc in
        ap (λ (xs : List Attempt). has_intent xs id) same ∙ list_any-append (stands id) es (here ∷ []) ∙ ap (λ b. has_intent es id || b) (an_intent (line == id))
