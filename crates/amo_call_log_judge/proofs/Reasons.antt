-- A reason that the judge finds by its state is so at the site.
use Rattle.std.proofs.Common.{◌≡◌, inl, inr, ⊎_elim, ◌≤◌, ℕ, zero, suc, ◌+◌, Bool, true, false, List, length, map, Option, Some, None, refl, sym, ap, ◌∙◌, subst, arith}
use Rattle.std.specs.Prelude.{if◌then◌else◌, option_map}
use Rattle.std.specs.List.{slice_get, list_any}
use Rattle.std.proofs.lemmas.List.{length-map}
use Rattle.amo_safety_by_journals.specs.Model.{Attempt, Handing, IsOneOf, Clearing, Site, Begins, Lands, Intends, Looks, HandsOver, Performs, Opens, line_of}
use Rattle.amo_safety_by_journals.specs.Runs.{IsClear, IsOf}
use Rattle.amo_params.specs.declared.limits.TheConstants.{MAX_WORKERS}
use Rattle.amo_call_log_judge.specs.Against.{Holds, Stands}
use Rattle.amo_call_log_judge.specs.Events.{attempt_of, event_of, handing_of}
use Rattle.amo_call_log_judge.specs.Rules.{first_standing, has_serial, holds_serial, intent_reason, is_of, is_other, is_same, look_reason, open_reason, perform_reason, process_reason, IsHandOverReason}
use Rattle.amo_call_log_judge.specs.Seen.{is_opened, lines_in, stage_of, kept_of, process_of, IsReason, Shows}
use Rattle.amo_call_log_judge.specs.declared.event.Attempt.{Attempt as AttemptRead}
use Rattle.amo_call_log_judge.specs.declared.event.Event.{Event as EventRead}
use Rattle.amo_call_log_judge.specs.declared.event.Event.TheVariants.{Intends as IntendsRead, Lands as LandsRead}
use Rattle.amo_call_log_judge.specs.declared.event.Handing.{Handing as HandingRead}
use Rattle.amo_call_log_judge.specs.declared.journal.Intent.{Intent}
use Rattle.amo_call_log_judge.specs.declared.journal.Journal.{Journal}
use Rattle.amo_call_log_judge.specs.declared.journal.Stage.{Stage as StageKept}
use Rattle.amo_call_log_judge.specs.declared.journal.Stage.TheVariants.{Away as AwayKept, Free as FreeKept, Clearing as ClearingKept}
use Rattle.amo_call_log_judge.specs.declared.reason.Reason.{Reason}
use Rattle.amo_call_log_judge.specs.declared.reason.Reason.TheVariants.{Taken, NotSeen, NotAlive, PerformedBefore, NotKept, Held, Alive, Performed}
use Rattle.amo_call_log_judge.specs.declared.site.Site.{Site as SiteKept}
use Rattle.amo_call_log_judge.proofs.Found.{any_of, has_line, is_listed, IsAt, line_has, listed_is, of_any, other_attempt, same_attempt, standing_none, standing_some}
use Rattle.amo_call_log_judge.proofs.Places.{differ, equal_is, is_equal, one_seen, seen_one}
use Rattle.amo_call_log_judge.proofs.Refuted.{attempt, clearing_away, clearing_free, free_away, same_serial}

-- ---- a journal that is there

pub stage_there : (s : SiteKept) (w : Site) (p : ℕ) (j : Journal) → Shows s w → slice_get s.journals.items p ≡ Some j → w.stage p ≡ stage_of j.stage j.seen.items
stage_there s w p j shows is = shows.stage p ∙ ap process_of is

pub kept_there : (s : SiteKept) (w : Site) (p : ℕ) (j : Journal) → Shows s w → slice_get s.journals.items p ≡ Some j → w.kept p ≡ lines_in j.kept.items
kept_there s w p j shows is = shows.kept p ∙ ap (λ (o : Option Journal). lines_in (kept_of o)) is

-- ---- processes

pub begins_is : (w : Site) (p : ℕ) (stage : StageKept) (seen : List ℕ) → w.stage p ≡ stage_of stage seen → p ≤ MAX_WORKERS → IsReason w (Begins p) (process_reason stage)
begins_is w p AwayKept seen is le = (is, le)
begins_is w p FreeKept seen is le = λ away. free_away (sym is ∙ away)
begins_is w p (ClearingKept serial line) seen is le = λ away. clearing_away serial line seen (sym is ∙ away)

pub lands_is : (w : Site) (p more : ℕ) (stage : StageKept) (seen : List ℕ) → w.stage p ≡ stage_of stage seen → IsReason w (Lands p more) (process_reason stage)
lands_is w p more AwayKept seen is = is
lands_is w p more FreeKept seen is = λ away. free_away (sym is ∙ away)
lands_is w p more (ClearingKept serial line) seen is = λ away. clearing_away serial line seen (sym is ∙ away)

pub intends_is : (w : Site) (p more : ℕ) (stage : StageKept) (seen : List ℕ) → w.stage p ≡ stage_of stage seen → IsReason w (Intends p more) (intent_reason stage)
intends_is w p more AwayKept seen is = is
intends_is w p more FreeKept seen is = is
intends_is w p more (ClearingKept serial line) seen is = (serial, line, (seen, is))

-- the same of an event that was read
pub lands_read : (w : Site) {e : EventRead} {p more : ℕ} (stage : StageKept) (seen : List ℕ) (reason : Option Reason) → e ≡ LandsRead p more → w.stage p ≡ stage_of stage seen → reason ≡ process_reason stage → IsReason w (event_of e) reason
lands_read w {e} {p} {more} stage seen reason is at why = subst (λ (x : EventRead). IsReason w (event_of x) reason) (sym is) (subst (IsReason w (Lands p more)) (sym why) (lands_is w p more stage seen at))

pub intends_read : (w : Site) {e : EventRead} {p more : ℕ} (stage : StageKept) (seen : List ℕ) (reason : Option Reason) → e ≡ IntendsRead p more → w.stage p ≡ stage_of stage seen → reason ≡ intent_reason stage → IsReason w (event_of e) reason
intends_read w {e} {p} {more} stage seen reason is at why = subst (λ (x : EventRead). IsReason w (event_of x) reason) (sym is) (subst (IsReason w (Intends p more)) (sym why) (intends_is w p more stage seen at))

-- ---- looks

same_numbers : (a b c d : ℕ) → a ≡ b → c ≡ d → attempt a c ≡ attempt b d
same_numbers a b c d e f = ap (λ (n : ℕ). attempt n c) e ∙ ap (λ (n : ℕ). attempt b n) f

-- the line is clear if nothing stands
clear_if_none : (w : Site) (q : ℕ) (kept : List Intent) (own : AttemptRead) (line : ℕ) → w.kept q ≡ lines_in kept → ((serial : ℕ) → is_opened kept serial ≡ true → IsOneOf w.opened (attempt q serial)) → first_standing q own line 0 kept ≡ None → IsClear w q (attempt_of own) line
clear_if_none w q kept own line kept_is opened none zero at = absurd (cc)
clear_if_none w q kept own line kept_is opened none (suc i) at =
    ⊎_elim (λ o. inr (opened (suc i) o)) (λ o. inl (same o)) (standing_none q own line 0 kept none i (ap (λ (lines : List ℕ). slice_get lines i) (sym kept_is) ∙ at))
  where
    same : is_other own q (0 + 1 + i) ≡ false → attempt q (suc i) ≡ attempt_of own
    same o =
        let numbers = same_attempt own q (0 + 1 + i) o in
        let number : suc i ≡ own.serial = omega (arith, numbers.1) in
        same_numbers q own.worker (suc i) own.serial (sym numbers.0) number

-- what was found stands
stands_if_some : (w : Site) (q : ℕ) (kept : List Intent) (own : AttemptRead) (line serial : ℕ) → w.kept q ≡ lines_in kept → ((number : ℕ) → IsOneOf w.opened (attempt q number) → is_opened kept number ≡ true) → first_standing q own line 0 kept ≡ Some serial → Stands w q serial (attempt_of own) line
stands_if_some w q kept own line serial kept_is opened_only some = record {
  at_line = subst (λ (n : ℕ). line_of (w.kept q) n ≡ Some line) (sym number) (ap (λ (lines : List ℕ). slice_get lines found.index) kept_is ∙ found.at_line);
  other = λ e. other_attempt own q serial found.other (sym (ap (λ (a : Attempt). a.worker) e)) (sym (ap (λ (a : Attempt). a.serial) e));
  not_opened = λ one. differ (sym (opened_only (suc found.index) (subst (λ (n : ℕ). IsOneOf w.opened (attempt q n)) number one)) ∙ found.not_opened);
}
  where
    found : IsAt q own line 0 serial kept
    found = standing_some q own line 0 serial kept some

    number : serial ≡ suc found.index
    number = omega (arith, found.number)

-- an attempt by its numbers, as it is read
abbrev reader : ℕ → ℕ → AttemptRead
reader worker serial = record { worker = worker; serial = serial }

pub looks_is : (w : Site) (p q : ℕ) (stage : StageKept) (seen : List ℕ) (kept : List Intent) → w.stage p ≡ stage_of stage seen → w.kept q ≡ lines_in kept
    → ((serial : ℕ) → is_opened kept serial ≡ true → IsOneOf w.opened (attempt q serial)) → ((serial : ℕ) → IsOneOf w.opened (attempt q serial) → is_opened kept serial ≡ true)
    → IsReason w (Looks p q) (look_reason p q stage kept)
looks_is w p q AwayKept seen kept is kept_is opened opened_only = λ serial line holds. clearing_away serial line holds.0 (sym holds.1 ∙ is)
looks_is w p q FreeKept seen kept is kept_is opened opened_only = λ serial line holds. clearing_free serial line holds.0 (sym holds.1 ∙ is)
looks_is w p q (ClearingKept serial line) seen kept is kept_is opened opened_only = by_found (first_standing q (reader p serial) line 0 kept) refl
  where
    by_found : (found : Option ℕ) → first_standing q (reader p serial) line 0 kept ≡ found → IsReason w (Looks p q) (option_map (λ standing. Taken standing line) found)
    by_found None none = (serial, line, seen, is, clear_if_none w q kept (reader p serial) line kept_is opened none)
    by_found (Some standing) some = (serial, (seen, is), stands_if_some w q kept (reader p serial) line standing kept_is opened_only some)

-- ---- handing over

pub hands_over_is : (w : Site) (p : ℕ) (stage : StageKept) (seen : List ℕ) (reason : Option Reason) → w.stage p ≡ stage_of stage seen → IsHandOverReason stage seen reason → IsReason w (HandsOver p) reason
hands_over_is w p AwayKept seen reason is why = subst (IsReason w (HandsOver p)) (sym why) (λ serial line holds. clearing_away serial line holds.0 (sym holds.1 ∙ is))
hands_over_is w p FreeKept seen reason is why = subst (IsReason w (HandsOver p)) (sym why) (λ serial line holds. clearing_free serial line holds.0 (sym holds.1 ∙ is))
hands_over_is w p (ClearingKept serial line) seen None is why = (serial, line, seen, is, λ q le. seen_one q seen (why q le))
hands_over_is w p (ClearingKept serial line) seen (Some (NotSeen q)) is why = (serial, line, seen, is, why.0, λ one. differ (sym (one_seen q seen one) ∙ why.1))
hands_over_is w p (ClearingKept serial line) seen (Some reason) is why = absurd why

-- ---- performing

pub performs_is : (w : Site) (alive performed : List HandingRead) (h : HandingRead) → w.alive ≡ map handing_of alive → w.performed ≡ map handing_of performed → IsReason w (Performs (handing_of h)) (perform_reason alive performed h)
performs_is w alive performed h alive_is performed_is = by_tests (list_any (is_same h) alive) (list_any (is_same h) performed) refl refl
  where
    is_alive : IsOneOf w.alive (handing_of h) → list_any (is_same h) alive ≡ true
    is_alive one = is_listed h alive (subst (λ (hs : List Handing). IsOneOf hs (handing_of h)) alive_is one)

    is_performed : IsOneOf w.performed (handing_of h) → list_any (is_same h) performed ≡ true
    is_performed one = is_listed h performed (subst (λ (hs : List Handing). IsOneOf hs (handing_of h)) performed_is one)

    by_tests : (a b : Bool) → list_any (is_same h) alive ≡ a → list_any (is_same h) performed ≡ b → IsReason w (Performs (handing_of h)) (if a then (if b then Some PerformedBefore else None) else Some NotAlive)
    by_tests false b ta tb = λ one. differ (sym (is_alive one) ∙ ta)
    by_tests true true ta tb = subst (λ (hs : List Handing). IsOneOf hs (handing_of h)) (sym performed_is) (listed_is h performed tb)
    by_tests true false ta tb = (subst (λ (hs : List Handing). IsOneOf hs (handing_of h)) (sym alive_is) (listed_is h alive ta), λ one. differ (sym (is_performed one) ∙ tb))

-- ---- opening

held_is : (w : Site) (p serial : ℕ) (stage : StageKept) (seen : List ℕ) → w.stage p ≡ stage_of stage seen → holds_serial stage serial ≡ true → (line : ℕ) × Holds w p serial line
held_is w p serial AwayKept seen is t = absurd (differ (sym t))
held_is w p serial FreeKept seen is t = absurd (differ (sym t))
held_is w p serial (ClearingKept held line) seen is t = (line, (seen, is ∙ ap (λ (n : ℕ). Clearing n line seen) (is_equal held serial t)))

not_held_is : (w : Site) (p serial : ℕ) (stage : StageKept) (seen : List ℕ) → w.stage p ≡ stage_of stage seen → holds_serial stage serial ≡ false → (line : ℕ) (others : List ℕ) → w.stage p ≡ Clearing serial line others → ⊥
not_held_is w p serial AwayKept seen is t line others held = clearing_away serial line others (sym held ∙ is)
not_held_is w p serial FreeKept seen is t line others held = clearing_free serial line others (sym held ∙ is)
not_held_is w p serial (ClearingKept number at) seen is t line others held = differ (sym (equal_is number serial (same_serial number at serial line seen others (sym is ∙ held))) ∙ t)

pub opens_is : (w : Site) (kept : List Intent) (stage : StageKept) (seen : List ℕ) (alive performed : List HandingRead) (a : AttemptRead) → w.kept a.worker ≡ lines_in kept → w.stage a.worker ≡ stage_of stage seen → w.alive ≡ map handing_of alive → w.performed ≡ map handing_of performed
    → IsReason w (Opens (attempt_of a)) (open_reason (length kept) stage alive performed a)
opens_is w kept stage seen alive performed a kept_is is alive_is performed_is =
    by_tests (has_serial (length kept) a.serial) (holds_serial stage a.serial) (list_any (is_of a) alive) (list_any (is_of a) performed) refl refl refl refl
  where
    many : length (w.kept a.worker) ≡ length kept
    many = ap length kept_is ∙ length-map kept (λ intent. intent.line)

    has : has_serial (length kept) a.serial ≡ true → has_serial (length (w.kept a.worker)) a.serial ≡ true
    has t = subst (λ (n : ℕ). has_serial n a.serial ≡ true) (sym many) t

    hasnt : has_serial (length kept) a.serial ≡ false → (line : ℕ) → line_of (w.kept a.worker) a.serial ≡ Some line → ⊥
    hasnt t line at = differ (sym (subst (λ (n : ℕ). has_serial n a.serial ≡ true) many (line_has (w.kept a.worker) a.serial line at)) ∙ t)

    found : (all : List Handing) (xs : List HandingRead) → all ≡ map handing_of xs → list_any (is_of a) xs ≡ true → (h : Handing) × IsOneOf all h × IsOf (attempt_of a) h
    found all xs e t = subst (λ (hs : List Handing). (h : Handing) × IsOneOf hs h × IsOf (attempt_of a) h) (sym e) (any_of a xs t)

    lacking : (all : List Handing) (xs : List HandingRead) → all ≡ map handing_of xs → list_any (is_of a) xs ≡ false → (h : Handing) → IsOneOf all h → IsOf (attempt_of a) h → ⊥
    lacking all xs e t h one of = differ (sym (of_any a xs h (subst (λ (hs : List Handing). IsOneOf hs h) e one) of) ∙ t)

    by_tests : (b1 b2 b3 b4 : Bool) → has_serial (length kept) a.serial ≡ b1 → holds_serial stage a.serial ≡ b2 → list_any (is_of a) alive ≡ b3 → list_any (is_of a) performed ≡ b4
        → IsReason w (Opens (attempt_of a)) (if b1 then (if b2 then Some Held else (if b3 then Some Alive else (if b4 then Some Performed else None))) else Some NotKept)
    by_tests false b2 b3 b4 t1 t2 t3 t4 = hasnt t1
    by_tests true true b3 b4 t1 t2 t3 t4 = held_is w a.worker a.serial stage seen is t2
    by_tests true false true b4 t1 t2 t3 t4 = found w.alive alive alive_is t3
    by_tests true false false true t1 t2 t3 t4 = found w.performed performed performed_is t4
    by_tests true false false false t1 t2 t3 t4 = record {
      kept = has_line (w.kept a.worker) a.serial (has t1);
      not_held = not_held_is w a.worker a.serial stage seen is t2;
      not_alive = lacking w.alive alive alive_is t3;
      not_performed = lacking w.performed performed performed_is t4;
    }
