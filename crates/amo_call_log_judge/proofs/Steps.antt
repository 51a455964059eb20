-- The judge's state follows the events.
use Rattle.std.proofs.Common.{◌≡◌, ◌⊎◌, inl, inr, ⊎_elim, ◌≤◌, ◌<◌, ℕ, zero, suc, ◌+◌, ◌-◌, Bool, true, false, List, [], ◌∷◌, ◌++◌, length, map, take, drop, get_or, set, Option, Some, None, refl, sym, ap, ◌∙◌, subst, arith, length-append}
use Rattle.std.specs.Prelude.{IsSome, OnSome}
use Rattle.std.specs.List.{slice_get, remove}
use Rattle.std.specs.Vec.{with_item}
use Rattle.std.proofs.lemmas.Option.{slice_get_read}
use Rattle.std.proofs.lemmas.Bool.{cases_eq}
use Rattle.std.proofs.lemmas.Bool.Decides.{nat_tests}
use Rattle.std.proofs.lemmas.List.{length-map, length-set}
use Rattle.amo_safety_by_journals.specs.Model.{Attempt, Handing, IsOneOf, Stage, Away, Free, Clearing, Site, first_site, with_at, in_hand, looked, site_after, line_of, Dies, Begins, Lands, Intends, Looks, HandsOver, Performs, Ends, Opens}
use Rattle.amo_params.specs.declared.limits.TheConstants.{MAX_WORKERS}
use Rattle.amo_call_log_judge.specs.Events.{handing_of}
use Rattle.amo_call_log_judge.specs.Rules.{has_serial}
use Rattle.amo_call_log_judge.specs.Seen.{is_opened, is_open_at, lines_in, stage_of, kept_of, kept_at, process_of, process_at, with_opened, with_open_at, AreFresh, Follows, IsFresh, Shows}
use Rattle.amo_call_log_judge.specs.declared.event.Handing.{Handing as HandingRead}
use Rattle.amo_call_log_judge.specs.declared.journal.Intent.{Intent}
use Rattle.amo_call_log_judge.specs.declared.journal.Journal.{Journal}
use Rattle.amo_call_log_judge.specs.declared.journal.Stage.{Stage as StageKept}
use Rattle.amo_call_log_judge.specs.declared.journal.Stage.TheVariants.{Away as AwayKept, Free as FreeKept, Clearing as ClearingKept}
use Rattle.amo_call_log_judge.specs.declared.site.Site.{Site as SiteKept}
use Rattle.amo_call_log_judge.proofs.Places.{differ, get_set_other, get_set_same, with_at_other, with_at_same}
use Rattle.amo_call_log_judge.proofs.Reasons.{kept_there, stage_there}
use Rattle.amo_call_log_judge.proofs.Refuted.{attempt, clearing_away, clearing_free}

-- the state with another journal
abbrev pub with_journal : SiteKept → ℕ → Journal → SiteKept
with_journal s p k = record { journals = with_item s.journals p k; alive = s.alive; performed = s.performed }

-- the journal that is there
pub there : (js : List Journal) (p : ℕ) (j : Journal) → p < length js → j ≡ get_or js p j → slice_get js p ≡ Some j
there js p j lt is = slice_get_read js (length js) p j refl lt is

pub same_journal : (js : List Journal) (p : ℕ) (j k : Journal) → p < length js → j ≡ get_or js p j → slice_get js p ≡ Some k → j ≡ k
same_journal js p j k lt is at = same (sym (there js p j lt is) ∙ at)
  where
    same : Some j ≡ Some k → j ≡ k
    same e = cc

-- one journal is another one, and at the site all else of the journals and processes stays
record Changes (s t : SiteKept) (w v : Site) (p : ℕ) (k : Journal) : Type 0 where
  pub within : p < length s.journals.items
  pub journals : t.journals.items ≡ set s.journals.items p k
  pub kept : v.kept p ≡ lines_in k.kept.items
  pub kept_others : (q : ℕ) → (q ≡ p → ⊥) → v.kept q ≡ w.kept q
  pub stage : v.stage p ≡ stage_of k.stage k.seen.items
  pub stage_others : (q : ℕ) → (q ≡ p → ⊥) → v.stage q ≡ w.stage q
  pub opened : (serial : ℕ) → is_opened k.kept.items serial ≡ true → IsOneOf v.opened (attempt p serial)
  pub opened_only : (serial : ℕ) → IsOneOf v.opened (attempt p serial) → is_opened k.kept.items serial ≡ true
  pub opened_others : (q serial : ℕ) → (q ≡ p → ⊥) → IsOneOf w.opened (attempt q serial) → IsOneOf v.opened (attempt q serial)
  pub only_others : (q serial : ℕ) → (q ≡ p → ⊥) → IsOneOf v.opened (attempt q serial) → IsOneOf w.opened (attempt q serial)

module _ (s t : SiteKept) (w v : Site) (p : ℕ) (k : Journal) (shows : Shows s w) (changes : Changes s t w v p k) where
  at_p : slice_get t.journals.items p ≡ Some k
  at_p = ap (λ (js : List Journal). slice_get js p) changes.journals ∙ get_set_same s.journals.items p k changes.within

  at_other : (q : ℕ) → (q ≡ p → ⊥) → slice_get t.journals.items q ≡ slice_get s.journals.items q
  at_other q n = ap (λ (js : List Journal). slice_get js q) changes.journals ∙ get_set_other s.journals.items p k q n

  -- what holds of each journal by what is there
  by_place : (P : ℕ → Option Journal → Type 0) → P p (Some k) → ((q : ℕ) → (q ≡ p → ⊥) → P q (slice_get s.journals.items q)) → (q : ℕ) → P q (slice_get t.journals.items q)
  by_place P here others q = ⊎_elim
      (λ (e : q ≡ p). subst (λ (n : ℕ). P n (slice_get t.journals.items n)) (sym e) (subst (P p) (sym at_p) here))
      (λ (n : q ≡ p → ⊥). subst (P q) (sym (at_other q n)) (others q n))
      (cases_eq q p)

  changed : v.alive ≡ map handing_of t.alive.items → v.performed ≡ map handing_of t.performed.items → Shows t v
  changed alive performed = record {
    workers = ap length changes.journals ∙ (length-set s.journals.items p k ∙ shows.workers);
    kept = by_place (λ q j. v.kept q ≡ lines_in (kept_of j)) changes.kept (λ q n. changes.kept_others q n ∙ shows.kept q);
    stage = by_place (λ q j. v.stage q ≡ process_of j) changes.stage (λ q n. changes.stage_others q n ∙ shows.stage q);
    opened = by_place (λ q j. (serial : ℕ) → is_opened (kept_of j) serial ≡ true → IsOneOf v.opened (attempt q serial)) changes.opened (λ q n serial t. changes.opened_others q serial n (shows.opened q serial t));
    opened_only = by_place (λ q j. (serial : ℕ) → IsOneOf v.opened (attempt q serial) → is_opened (kept_of j) serial ≡ true) changes.opened_only (λ q n serial one. shows.opened_only q serial (changes.only_others q serial n one));
    alive = alive;
    performed = performed;
  }

-- ---- what is opened in a journal

pub opened_at : (s : SiteKept) (w : Site) (p : ℕ) (j : Journal) → Shows s w → slice_get s.journals.items p ≡ Some j → (serial : ℕ) → is_opened j.kept.items serial ≡ true → IsOneOf w.opened (attempt p serial)
opened_at s w p j shows is serial t = shows.opened p serial (ap (λ (o : Option Journal). is_opened (kept_of o) serial) is ∙ t)

pub opened_only_at : (s : SiteKept) (w : Site) (p : ℕ) (j : Journal) → Shows s w → slice_get s.journals.items p ≡ Some j → (serial : ℕ) → IsOneOf w.opened (attempt p serial) → is_opened j.kept.items serial ≡ true
opened_only_at s w p j shows is serial one = sym (ap (λ (o : Option Journal). is_opened (kept_of o) serial) is) ∙ shows.opened_only p serial one

-- an intent more is not opened
open_more : (kept : List Intent) (line i : ℕ) → is_open_at (kept ++ record { line = line; opened = false } ∷ []) i ≡ is_open_at kept i
open_more [] line zero = refl
open_more [] line (suc i) = refl
open_more (x ∷ kept) line zero = refl
open_more (x ∷ kept) line (suc i) = open_more kept line i

opened_more : (kept : List Intent) (line serial : ℕ) → is_opened (kept ++ record { line = line; opened = false } ∷ []) serial ≡ is_opened kept serial
opened_more kept line zero = refl
opened_more kept line (suc i) = open_more kept line i

open_found : (kept : List Intent) (i line : ℕ) → slice_get (lines_in kept) i ≡ Some line → is_open_at (with_open_at kept i) i ≡ true
open_found [] i line at = absurd (cc)
open_found (x ∷ kept) zero line at = refl
open_found (x ∷ kept) (suc i) line at = open_found kept i line at

opened_found : (kept : List Intent) (serial line : ℕ) → line_of (lines_in kept) serial ≡ Some line → is_opened (with_opened kept serial) serial ≡ true
opened_found kept zero line at = absurd (cc)
opened_found kept (suc i) line at = open_found kept i line at

open_other : (kept : List Intent) (i k : ℕ) → (k ≡ i → ⊥) → is_open_at (with_open_at kept i) k ≡ is_open_at kept k
open_other [] i k n = refl
open_other (x ∷ kept) zero zero n = absurd (n refl)
open_other (x ∷ kept) zero (suc k) n = refl
open_other (x ∷ kept) (suc i) zero n = refl
open_other (x ∷ kept) (suc i) (suc k) n = open_other kept i k (λ e. n (ap suc e))

opened_other : (kept : List Intent) (n serial : ℕ) → (serial ≡ n → ⊥) → is_opened (with_opened kept n) serial ≡ is_opened kept serial
opened_other kept zero serial other = refl
opened_other kept (suc i) zero other = refl
opened_other kept (suc i) (suc k) other = open_other kept i k (λ e. other (ap suc e))

lines_open : (kept : List Intent) (i : ℕ) → lines_in (with_open_at kept i) ≡ lines_in kept
lines_open [] i = refl
lines_open (x ∷ kept) zero = refl
lines_open (x ∷ kept) (suc i) = ap (λ (lines : List ℕ). x.line ∷ lines) (lines_open kept i)

lines_opened : (kept : List Intent) (serial : ℕ) → lines_in (with_opened kept serial) ≡ lines_in kept
lines_opened kept zero = refl
lines_opened kept (suc i) = lines_open kept i

open_beyond : (kept : List Intent) (i : ℕ) → length kept ≤ i → kept ≡ with_open_at kept i
open_beyond [] i le = refl
open_beyond (x ∷ kept) zero le = absurd (omega (arith, le))
open_beyond (x ∷ kept) (suc i) le = ap (λ (ks : List Intent). x ∷ ks) (open_beyond kept i (omega (arith, le)))

-- there is no attempt of this serial number
pub none_to_open : (kept : List Intent) (serial : ℕ) (b : Bool) → b ≡ has_serial (length kept) serial → b ≡ false → kept ≡ with_opened kept serial
none_to_open kept zero b is t = refl
none_to_open kept (suc i) b is t = open_beyond kept i (at_least (length kept) i (sym is ∙ t))
  where
    at_least : (n i : ℕ) → has_serial n (suc i) ≡ false → n ≤ i
    at_least n i t = grind (arith, nat_tests)

set_open_at : (kept : List Intent) (i : ℕ) (x : Intent) → x ≡ get_or kept i x → set kept i (record { line = x.line; opened = true }) ≡ with_open_at kept i
set_open_at [] i x is = refl
set_open_at (y ∷ kept) zero x is = ap (λ (z : Intent). record { line = z.line; opened = true } ∷ kept) is
set_open_at (y ∷ kept) (suc i) x is = ap (λ (ks : List Intent). y ∷ ks) (set_open_at kept i x is)

pub set_opened : (kept : List Intent) (serial : ℕ) (x : Intent) (b : Bool) → b ≡ has_serial (length kept) serial → b ≡ true → x ≡ get_or kept (serial - 1) x → set kept (serial - 1) (record { line = x.line; opened = true }) ≡ with_opened kept serial
set_opened kept zero x b is t at = absurd (differ (sym t ∙ is))
set_opened kept (suc i) x b is t at =
    subst (λ (n : ℕ). set kept n (record { line = x.line; opened = true }) ≡ with_open_at kept i) (sym before) (set_open_at kept i x (subst (λ (n : ℕ). x ≡ get_or kept n x) before at))
  where
    before : suc i - 1 ≡ i
    before = omega arith

-- a journal in which that many intents were
lines_more : (kept : List Intent) (line : ℕ) → lines_in (kept ++ record { line = line; opened = false } ∷ []) ≡ lines_in kept ++ line ∷ []
lines_more [] line = refl
lines_more (x ∷ kept) line = ap (λ (lines : List ℕ). x.line ∷ lines) (lines_more kept line)

-- ---- each event

module _ (s t : SiteKept) (p : ℕ) (j k : Journal) (lt : p < length s.journals.items) (is : slice_get s.journals.items p ≡ Some j)
    (journals : t.journals.items ≡ set s.journals.items p k) (performed : t.performed.items ≡ s.performed.items) where
  -- only the process has changed
  stage_changes : (w : Site) (stage : Stage) (v : Site) → Shows s w → v.kept ≡ w.kept → v.opened ≡ w.opened → v.stage ≡ with_at w.stage p stage → k.kept.items ≡ j.kept.items → stage ≡ stage_of k.stage k.seen.items → Changes s t w v p k
  stage_changes w stage v shows kept opened stages same stage_is = record {
    within = lt;
    journals = journals;
    kept = ap (λ (f : ℕ → List ℕ). f p) kept ∙ (kept_there s w p j shows is ∙ ap lines_in (sym same));
    kept_others = λ q n. ap (λ (f : ℕ → List ℕ). f q) kept;
    stage = ap (λ (f : ℕ → Stage). f p) stages ∙ (with_at_same w.stage p stage ∙ stage_is);
    stage_others = λ q n. ap (λ (f : ℕ → Stage). f q) stages ∙ with_at_other w.stage p stage q n;
    opened = λ serial o. subst (λ (all : List Attempt). IsOneOf all (attempt p serial)) (sym opened) (opened_at s w p j shows is serial (ap (λ (ks : List Intent). is_opened ks serial) (sym same) ∙ o));
    opened_only = λ serial one. ap (λ (ks : List Intent). is_opened ks serial) same ∙ opened_only_at s w p j shows is serial (subst (λ (all : List Attempt). IsOneOf all (attempt p serial)) opened one);
    opened_others = λ q serial n one. subst (λ (all : List Attempt). IsOneOf all (attempt q serial)) (sym opened) one;
    only_others = λ q serial n one. subst (λ (all : List Attempt). IsOneOf all (attempt q serial)) opened one;
  }

  -- an intent more
  intent_changes : (w : Site) (line : ℕ) (v : Site) → Shows s w → v.kept ≡ with_at w.kept p (w.kept p ++ line ∷ []) → v.opened ≡ w.opened → k.kept.items ≡ j.kept.items ++ record { line = line; opened = false } ∷ []
      → v.stage p ≡ stage_of k.stage k.seen.items → ((q : ℕ) → (q ≡ p → ⊥) → v.stage q ≡ w.stage q) → Changes s t w v p k
  intent_changes w line v shows kept opened more stage stages = record {
    within = lt;
    journals = journals;
    kept =
        ap (λ (f : ℕ → List ℕ). f p) kept ∙ (with_at_same w.kept p (w.kept p ++ line ∷ []) ∙ (ap (λ (lines : List ℕ). lines ++ line ∷ []) (kept_there s w p j shows is)
        ∙ (sym (lines_more j.kept.items line) ∙ ap lines_in (sym more))));
    kept_others = λ q n. ap (λ (f : ℕ → List ℕ). f q) kept ∙ with_at_other w.kept p (w.kept p ++ line ∷ []) q n;
    stage = stage;
    stage_others = stages;
    opened = λ serial o. subst (λ (all : List Attempt). IsOneOf all (attempt p serial)) (sym opened) (opened_at s w p j shows is serial (sym (opened_more j.kept.items line serial) ∙ (ap (λ (ks : List Intent). is_opened ks serial) (sym more) ∙ o)));
    opened_only = λ serial one. ap (λ (ks : List Intent). is_opened ks serial) more ∙ (opened_more j.kept.items line serial ∙ opened_only_at s w p j shows is serial (subst (λ (all : List Attempt). IsOneOf all (attempt p serial)) opened one));
    opened_others = λ q serial n one. subst (λ (all : List Attempt). IsOneOf all (attempt q serial)) (sym opened) one;
    only_others = λ q serial n one. subst (λ (all : List Attempt). IsOneOf all (attempt q serial)) opened one;
  }

  module _ (alive : t.alive.items ≡ s.alive.items) where
    still_alive : (w : Site) → Shows s w → w.alive ≡ map handing_of t.alive.items
    still_alive w shows = shows.alive ∙ ap (map handing_of) (sym alive)

    still_performed : (w : Site) → Shows s w → w.performed ≡ map handing_of t.performed.items
    still_performed w shows = shows.performed ∙ ap (map handing_of) (sym performed)

    pub begins_follows : k.kept.items ≡ j.kept.items → k.stage ≡ FreeKept → Follows s (Begins p) t
    begins_follows same stage w shows may =
        changed s t w (site_after w (Begins p)) p k shows
        (stage_changes w Free (site_after w (Begins p)) shows refl refl refl same (ap (λ (x : StageKept). stage_of x k.seen.items) (sym stage)))
        (still_alive w shows) (still_performed w shows)

    pub dies_follows : k.kept.items ≡ j.kept.items → k.stage ≡ AwayKept → Follows s (Dies p) t
    dies_follows same stage w shows may =
        changed s t w (site_after w (Dies p)) p k shows
        (stage_changes w Away (site_after w (Dies p)) shows refl refl refl same (ap (λ (x : StageKept). stage_of x k.seen.items) (sym stage)))
        (still_alive w shows) (still_performed w shows)

    pub looks_follows : (q : ℕ) → k.kept.items ≡ j.kept.items → k.stage ≡ j.stage → k.seen.items ≡ q ∷ j.seen.items → Follows s (Looks p q) t
    looks_follows q same stage seen w shows may =
        changed s t w (site_after w (Looks p q)) p k shows
        (stage_changes w (looked q (w.stage p)) (site_after w (Looks p q)) shows refl refl refl same
        (ap (looked q) (stage_there s w p j shows is) ∙ (sees q j.stage j.seen.items ∙ (ap (λ (all : List ℕ). stage_of j.stage all) (sym seen) ∙ ap (λ (x : StageKept). stage_of x k.seen.items) (sym stage)))))
        (still_alive w shows) (still_performed w shows)
      where
        sees : (q : ℕ) (stage : StageKept) (seen : List ℕ) → looked q (stage_of stage seen) ≡ stage_of stage (q ∷ seen)
        sees q AwayKept seen = refl
        sees q FreeKept seen = refl
        sees q (ClearingKept serial line) seen = refl

    pub lands_follows : (line : ℕ) → k.kept.items ≡ j.kept.items ++ record { line = line; opened = false } ∷ [] → k.stage ≡ j.stage → k.seen.items ≡ j.seen.items → Follows s (Lands p line) t
    lands_follows line more stage seen w shows may =
        changed s t w (site_after w (Lands p line)) p k shows
        (intent_changes w line (site_after w (Lands p line)) shows refl refl more
        (stage_there s w p j shows is ∙ (ap (λ (all : List ℕ). stage_of j.stage all) (sym seen) ∙ ap (λ (x : StageKept). stage_of x k.seen.items) (sym stage)))
        (λ q n. refl))
        (still_alive w shows) (still_performed w shows)

    pub intends_follows : (line : ℕ) → k.kept.items ≡ j.kept.items ++ record { line = line; opened = false } ∷ [] → k.stage ≡ ClearingKept (length j.kept.items + 1) line → k.seen.items ≡ [] → Follows s (Intends p line) t
    intends_follows line more stage seen w shows may =
        changed s t w (site_after w (Intends p line)) p k shows
        (intent_changes w line (site_after w (Intends p line)) shows refl refl more
        (with_at_same w.stage p (Clearing (suc (length (w.kept p))) line []) ∙ (ap (λ (n : ℕ). Clearing n line []) number
        ∙ (ap (λ (all : List ℕ). Clearing (length j.kept.items + 1) line all) (sym seen) ∙ ap (λ (x : StageKept). stage_of x k.seen.items) (sym stage))))
        (λ q n. with_at_other w.stage p (Clearing (suc (length (w.kept p))) line []) q n))
        (still_alive w shows) (still_performed w shows)
      where
        many : length (w.kept p) ≡ length j.kept.items
        many = ap length (kept_there s w p j shows is) ∙ length-map j.kept.items (λ intent. intent.line)

        number : suc (length (w.kept p)) ≡ length j.kept.items + 1
        number = omega (arith, many)

    pub opens_follows : (serial : ℕ) → k.kept.items ≡ with_opened j.kept.items serial → k.stage ≡ j.stage → k.seen.items ≡ j.seen.items → Follows s (Opens (attempt p serial)) t
    opens_follows serial opened stage seen w shows may = changed s t w (site_after w (Opens (attempt p serial))) p k shows change (still_alive w shows) (still_performed w shows)
      where
        here : is_opened k.kept.items serial ≡ true
        here =
            ap (λ (ks : List Intent). is_opened ks serial) opened
            ∙ opened_found j.kept.items serial may.kept.0 (ap (λ (lines : List ℕ). line_of lines serial) (sym (kept_there s w p j shows is)) ∙ may.kept.1)

        other : (n : ℕ) → (n ≡ serial → ⊥) → is_opened k.kept.items n ≡ is_opened j.kept.items n
        other n ne = ap (λ (ks : List Intent). is_opened ks n) opened ∙ opened_other j.kept.items serial n ne

        still : (n : ℕ) → is_opened j.kept.items n ≡ true → is_opened k.kept.items n ≡ true
        still n o = ⊎_elim (λ (e : n ≡ serial). subst (λ (m : ℕ). is_opened k.kept.items m ≡ true) (sym e) here) (λ (ne : n ≡ serial → ⊥). other n ne ∙ o) (cases_eq n serial)

        change : Changes s t w (site_after w (Opens (attempt p serial))) p k
        change = record {
          within = lt;
          journals = journals;
          kept = kept_there s w p j shows is ∙ (sym (lines_opened j.kept.items serial) ∙ ap lines_in (sym opened));
          kept_others = λ q n. refl;
          stage = stage_there s w p j shows is ∙ (ap (λ (all : List ℕ). stage_of j.stage all) (sym seen) ∙ ap (λ (x : StageKept). stage_of x k.seen.items) (sym stage));
          stage_others = λ q n. refl;
          opened = λ n o. ⊎_elim (λ (e : n ≡ serial). inl (ap (attempt p) (sym e))) (λ (ne : n ≡ serial → ⊥). inr (opened_at s w p j shows is n (sym (other n ne) ∙ o))) (cases_eq n serial);
          opened_only = λ n one. ⊎_elim (λ (e : attempt p serial ≡ attempt p n). subst (λ (m : ℕ). is_opened k.kept.items m ≡ true) (ap (λ (a : Attempt). a.serial) e) here) (λ (old : IsOneOf w.opened (attempt p n)). still n (opened_only_at s w p j shows is n old)) one;
          opened_others = λ q n ne one. inr one;
          only_others = λ q n ne one. ⊎_elim (λ (e : attempt p serial ≡ attempt q n). absurd (ne (sym (ap (λ (a : Attempt). a.worker) e)))) (λ (old : IsOneOf w.opened (attempt q n)). old) one;
        }

  pub hands_over_follows : (serial line : ℕ) → j.stage ≡ ClearingKept serial line → t.alive.items ≡ record { worker = p; serial = serial; line = line } ∷ s.alive.items → k.kept.items ≡ j.kept.items → k.stage ≡ FreeKept → Follows s (HandsOver p) t
  hands_over_follows serial line held alive same stage w shows may =
      changed s t w (site_after w (HandsOver p)) p k shows
      (stage_changes w Free (site_after w (HandsOver p)) shows refl refl refl same (ap (λ (x : StageKept). stage_of x k.seen.items) (sym stage)))
      (ap (λ (x : Stage). in_hand p x ++ w.alive) holds ∙ (ap (λ (hs : List Handing). record { worker = p; serial = serial; line = line } ∷ hs) shows.alive ∙ ap (map handing_of) (sym alive)))
      (shows.performed ∙ ap (map handing_of) (sym performed))
    where
      holds : w.stage p ≡ Clearing serial line j.seen.items
      holds = stage_there s w p j shows is ∙ ap (λ (x : StageKept). stage_of x j.seen.items) held

-- who holds nothing can't hand over
pub nothing_to_hand : (s t : SiteKept) (p : ℕ) (j : Journal) → slice_get s.journals.items p ≡ Some j → (j.stage ≡ AwayKept) ⊎ (j.stage ≡ FreeKept) → Follows s (HandsOver p) t
nothing_to_hand s t p j is (inl away) w shows may = absurd (clearing_away may.0 may.1 may.2 (sym may.3 ∙ (stage_there s w p j shows is ∙ ap (λ (x : StageKept). stage_of x j.seen.items) away)))
nothing_to_hand s t p j is (inr free) w shows may = absurd (clearing_free may.0 may.1 may.2 (sym may.3 ∙ (stage_there s w p j shows is ∙ ap (λ (x : StageKept). stage_of x j.seen.items) free)))

-- ---- events that leave the journals

shows_on : (s t : SiteKept) (w v : Site) → Shows s w → t.journals.items ≡ s.journals.items → v.kept ≡ w.kept → v.stage ≡ w.stage → v.opened ≡ w.opened → v.alive ≡ map handing_of t.alive.items → v.performed ≡ map handing_of t.performed.items → Shows t v
shows_on s t w v shows journals kept stage opened alive performed = record {
  workers = ap length journals ∙ shows.workers;
  kept = λ q. ap (λ (f : ℕ → List ℕ). f q) kept ∙ (shows.kept q ∙ ap (λ (js : List Journal). lines_in (kept_at js q)) (sym journals));
  stage = λ q. ap (λ (f : ℕ → Stage). f q) stage ∙ (shows.stage q ∙ ap (λ (js : List Journal). process_at js q) (sym journals));
  opened = λ q serial o. subst (λ (all : List Attempt). IsOneOf all (attempt q serial)) (sym opened) (shows.opened q serial (ap (λ (js : List Journal). is_opened (kept_at js q) serial) (sym journals) ∙ o));
  opened_only = λ q serial one. ap (λ (js : List Journal). is_opened (kept_at js q) serial) journals ∙ shows.opened_only q serial (subst (λ (all : List Attempt). IsOneOf all (attempt q serial)) opened one);
  alive = alive;
  performed = performed;
}

pub performs_follows : (s t : SiteKept) (h : HandingRead) → t.journals.items ≡ s.journals.items → t.alive.items ≡ s.alive.items → t.performed.items ≡ h ∷ s.performed.items → Follows s (Performs (handing_of h)) t
performs_follows s t h journals alive performed w shows may =
    shows_on s t w (site_after w (Performs (handing_of h))) shows journals refl refl refl (shows.alive ∙ ap (map handing_of) (sym alive)) (ap (λ (hs : List Handing). handing_of h ∷ hs) shows.performed ∙ ap (map handing_of) (sym performed))

-- without the item at this index
without : (i : ℕ) (xs : List HandingRead) → map handing_of (take i xs ++ drop (suc i) xs) ≡ take i (map handing_of xs) ++ drop (suc i) (map handing_of xs)
without zero [] = refl
without zero (x ∷ xs) = refl
without (suc i) [] = refl
without (suc i) (x ∷ xs) = ap (λ (hs : List Handing). handing_of x ∷ hs) (without i xs)

-- the index is past the end
without_none : (i : ℕ) (xs : List HandingRead) → length xs ≤ i → take i xs ++ drop (suc i) xs ≡ xs
without_none zero [] le = refl
without_none zero (x ∷ xs) le = absurd (omega (arith, le))
without_none (suc i) [] le = refl
without_none (suc i) (x ∷ xs) le = ap (λ (hs : List HandingRead). x ∷ hs) (without_none i xs (omega (arith, le)))

-- what holds if there is something
pub some_of : {A : Type 0} (o : Option A) (P : Type 0) → IsSome o → OnSome o P → P
some_of (Some x) P some p = p
some_of None P some p = absurd (differ (sym some))

pub ends_follows : (s t : SiteKept) (i : ℕ) → t.journals.items ≡ s.journals.items → t.alive.items ≡ remove s.alive.items i → t.performed.items ≡ s.performed.items → Follows s (Ends i) t
ends_follows s t i journals alive performed w shows may =
    shows_on s t w (site_after w (Ends i)) shows journals refl refl refl
    (ap (λ (hs : List Handing). take i hs ++ drop (i + 1) hs) shows.alive
    ∙ (ap (λ (n : ℕ). take i (map handing_of s.alive.items) ++ drop n (map handing_of s.alive.items)) next
    ∙ (sym (without i s.alive.items) ∙ ap (map handing_of) (sym alive))))
    (shows.performed ∙ ap (map handing_of) (sym performed))
  where
    next : i + 1 ≡ suc i
    next = omega arith

pub nothing_ends : (s t : SiteKept) (i : ℕ) → t.journals.items ≡ s.journals.items → t.alive.items ≡ s.alive.items → length s.alive.items ≤ i → t.performed.items ≡ s.performed.items → Follows s (Ends i) t
nothing_ends s t i journals alive le performed = ends_follows s t i journals (alive ∙ sym (without_none i s.alive.items le)) performed

-- ---- before all events

fresh_kept : (js : List Journal) → AreFresh js → (q : ℕ) → kept_at js q ≡ []
fresh_kept [] fresh q = refl
fresh_kept (j ∷ js) fresh zero = fresh.0.kept
fresh_kept (j ∷ js) fresh (suc q) = fresh_kept js fresh.1 q

fresh_stage : (js : List Journal) → AreFresh js → (q : ℕ) → process_at js q ≡ Away
fresh_stage [] fresh q = refl
fresh_stage (j ∷ js) fresh zero = ap (λ (x : StageKept). stage_of x j.seen.items) fresh.0.stage
fresh_stage (j ∷ js) fresh (suc q) = fresh_stage js fresh.1 q

pub fresh_more : (js : List Journal) (j : Journal) → AreFresh js → IsFresh j → AreFresh (js ++ j ∷ [])
fresh_more [] j fresh one = (one, tt)
fresh_more (x ∷ js) j fresh one = (fresh.0, fresh_more js j fresh.1 one)

pub one_longer : (xs ys : List Journal) (j : Journal) (n : ℕ) → ys ≡ xs ++ j ∷ [] → length xs ≡ n → length ys ≡ n + 1
one_longer xs ys j n is many = ap length is ∙ (length-append xs (j ∷ []) ∙ ap (λ (k : ℕ). k + 1) many)

none_opened : (serial : ℕ) → is_opened [] serial ≡ true → ⊥
none_opened zero t = differ (sym t)
none_opened (suc i) t = differ (sym t)

pub fresh_shows : (s : SiteKept) → length s.journals.items ≡ MAX_WORKERS + 1 → AreFresh s.journals.items → s.alive.items ≡ [] → s.performed.items ≡ [] → Shows s first_site
fresh_shows s many fresh alive performed = record {
  workers = many;
  kept = λ q. ap lines_in (sym (fresh_kept s.journals.items fresh q));
  stage = λ q. sym (fresh_stage s.journals.items fresh q);
  opened = λ q serial t. absurd (none_opened serial (ap (λ (ks : List Intent). is_opened ks serial) (sym (fresh_kept s.journals.items fresh q)) ∙ t));
  opened_only = λ q serial one. absurd one;
  alive = ap (map handing_of) (sym alive);
  performed = ap (map handing_of) (sym performed);
}
