-- A process asks for intents of its own journal, and notes them: their numbers are at most that of
-- the intents there.
use Rattle.std.proofs.Common.{◌≡◌, ℕ, ◌+◌, ◌≤◌, Bool, true, false, List, [], ◌∷◌, length, map, Some, refl, sym, ap, subst, arith}
use Rattle.std.specs.Prelude.{⊤, is_none, ◌==◌, if◌then◌else◌}
use Rattle.std.proofs.lemmas.Bool.{true≢false}
use Rattle.amo_process.specs.Stepped.{access_of}
use Rattle.amo_driver.specs.declared.answer.JobResult.{JobResult}
use Rattle.amo_driver.specs.declared.answer.Reply.{Reply}
use Rattle.amo_driver.specs.declared.answer.Reply.TheVariants.{Answered, Running, Garbled, Closed}
use Rattle.amo_driver.specs.declared.answer.Way.{Way}
use Rattle.amo_driver.specs.declared.answer.Way.TheVariants.{Go, Leave}
use Rattle.amo_driver.specs.declared.model.Deed.{Deed}
use Rattle.amo_driver.specs.declared.model.Deed.TheVariants.{Noted, Asked, Fell}
use Rattle.amo_driver.specs.declared.model.Try.TheVariants.{Note}
use Rattle.amo_driver.specs.declared.past.Intent.{Intent}
use Rattle.amo_driver.specs.Stage.{Stage, Going, Noting, Asking, Settling, Dismissed, Unanswered, Broken}
use Rattle.amo_driver.specs.Course.{due, stage_asking, stage_asked, stage_after}
use Rattle.amo_driver_safety.proofs.Stages.{serial_in, no_other}
use Rattle.amo_run_log.specs.declared.journal.Attempt.{Attempt}
use Rattle.amo_run_log.specs.Journals.{pending_from}
use Rattle.amo_run_safety.specs.File.{read_of, settled}
use Rattle.amo_run_safety.specs.Site.{Whereabouts, Away, Before, Inside, Site, first_site, Event, Dies, Starts, RoundBegins, Joins, Acts, Misses, Pays, PaysUnheard, PaysUnread, Says, SaysUnheard, SaysUnread, Stops, with_at}
use Rattle.amo_run_safety.specs.Run.{intent_of, left_in, whereabouts_after, whereabouts_missing, site_after, MayHappen}
use Rattle.amo_run_safety.proofs.Stages.{is_asking}
use Rattle.amo_run_safety.proofs.Counted.{size_is, intents_grow, IsCounted}
use Rattle.amo_run_safety.proofs.Sane.{at_number, at_both, Fits, IsSane}
use Rattle.amo_run_safety.proofs.Handed.{kept_grows}
use Rattle.amo_run_log.specs.Grammar.{intents}

abbrev AreLow : ℕ → List Intent → Type 0
AreLow k [] = ⊤
AreLow k (i ∷ is) = (i.serial ≤ k) × AreLow k is

-- who asks for intents does so for those up to this number
abbrev pub IsLow : ℕ → Stage → Type 0
IsLow k (Asking intents) = AreLow k intents
IsLow k (Settling n c way rest) = (n ≤ k) × AreLow k rest
IsLow k s = ⊤

all_higher : (k m : ℕ) → k ≤ m → (is : List Intent) → AreLow k is → AreLow m is
all_higher k m more [] h = tt
all_higher k m more (i ∷ is) h = let low = h.0 in (omega (arith, low, more), all_higher k m more is h.1)

higher : (k m : ℕ) → k ≤ m → (s : Stage) → IsLow k s → IsLow m s
higher k m more (Asking intents) h = all_higher k m more intents h
higher k m more (Settling n c way rest) h = let low = h.0 in (omega (arith, low, more), all_higher k m more rest h.1)
higher k m more s h = tt

asking_low : (k : ℕ) (way : Way) (rest : List Intent) → AreLow k rest → IsLow k (stage_asking way rest)
asking_low k Go rest h = h
asking_low k Leave rest h = tt

asked_low : (k : ℕ) (intents : List Intent) (reply : Reply) → AreLow k intents → IsLow k (stage_asked intents reply)
asked_low k [] reply h = tt
asked_low k (i ∷ rest) (Answered n c way) h = by (n == i.serial)
  where
    by : (b : Bool) → IsLow k (if b then Settling i.serial c way rest else Unanswered i.serial (Answered n c way))
    by true = h
    by false = tt
asked_low k (i ∷ rest) (Running n way) h = by (n == i.serial)
  where
    by : (b : Bool) → IsLow k (if b then stage_asking way rest else Unanswered i.serial (Running n way))
    by true = asking_low k way rest h.1
    by false = tt
asked_low k (i ∷ rest) Garbled h = tt
asked_low k (i ∷ rest) Closed h = tt

low_then : (k : ℕ) (s : Stage) (d : Deed) → is_asking s ≡ true → IsLow k s → IsLow k (stage_after s d)
low_then k (Asking intents) (Asked n line reply) asks h = asked_low k intents reply h
low_then k (Asking intents) (Fell t) asks h = tt
low_then k (Asking intents) d asks h = h
low_then k (Settling m c way rest) (Noted n a) asks h = asking_low k way rest h.1
low_then k (Settling m c way rest) (Fell t) asks h = tt
low_then k (Settling m c way rest) d asks h = h
low_then k (Dismissed rest) (Fell t) asks h = tt
low_then k (Dismissed rest) d asks h = tt
low_then k (Unanswered n reply) (Fell t) asks h = tt
low_then k (Unanswered n reply) d asks h = tt
low_then k Broken (Fell t) asks h = tt
low_then k Broken d asks h = tt
low_then k s d asks h = absurd (true≢false (sym asks))

-- the intents that are pending in a journal

left_low : (first : ℕ) (es : List Attempt) (k : ℕ) → first + length es ≤ k + 1 → AreLow k (map intent_of (pending_from first es))
left_low first [] k few = tt
left_low first (e ∷ es) k few = by (is_none e.answer) (left_low (first + 1) es k (omega arith))
  where
    by : (b : Bool) → AreLow k (map intent_of (pending_from (first + 1) es))
        → AreLow k (map intent_of (if b then (first, e.line) ∷ pending_from (first + 1) es else pending_from (first + 1) es))
    by true rest = (omega arith, rest)
    by false rest = rest

-- who is here and asks, asks for intents of its journal
abbrev pub LowAt : ℕ → Whereabouts → Type 0
LowAt k Away = ⊤
LowAt k (Before s) = IsLow k s
LowAt k (Inside r q) = ⊤

higher_at : (k m : ℕ) → k ≤ m → (whereabouts : Whereabouts) → LowAt k whereabouts → LowAt m whereabouts
higher_at k m more Away h = tt
higher_at k m more (Before s) h = higher k m more s h
higher_at k m more (Inside r q) h = tt

low_after : (k : ℕ) (whereabouts : Whereabouts) (d : Deed) → ((s : Stage) → whereabouts ≡ Before s → is_asking s ≡ true) → LowAt k whereabouts → LowAt k (whereabouts_after whereabouts d)
low_after k Away d asks h = tt
low_after k (Before s) d asks h = low_then k s d (asks s refl) h
low_after k (Inside r q) d asks h = tt

low_missing : (k : ℕ) (whereabouts : Whereabouts) → LowAt k (whereabouts_missing whereabouts)
low_missing k Away = tt
low_missing k (Before s) = tt
low_missing k (Inside r q) = tt

abbrev pub AreAllLow : Site → Type 0
AreAllLow w = (p : ℕ) → LowAt (intents (w.journals p).kept) (w.whereabouts p)

pub first_low : AreAllLow first_site
first_low p = tt

module _ (w : Site) (said : List (ℕ × ℕ)) (sane : IsSane w said) (low : AreAllLow w) where
  asks : (q : ℕ) (s : Stage) → w.whereabouts q ≡ Before s → is_asking s ≡ true
  asks q s e = (subst (λ whereabouts. Fits w.rounds w.last (w.journals q) q whereabouts) e (sane.whereabouts q)).0

  -- at the whereabouts as they were, by the journal as it is
  grown : (e : Event) (p : ℕ) → LowAt (intents ((site_after w e).journals p).kept) (w.whereabouts p)
  grown e p = higher_at (intents (w.journals p).kept) (intents ((site_after w e).journals p).kept) (intents_grow (w.journals p).kept ((site_after w e).journals p).kept (kept_grows w e p)) (w.whereabouts p) (low p)

  gone : (e : Event) (q p : ℕ) → LowAt (intents ((site_after w e).journals p).kept) (with_at w.whereabouts q Away p)
  gone e q p = at_number (λ whereabouts. LowAt (intents ((site_after w e).journals p).kept) whereabouts) w.whereabouts q Away p (λ e. tt) (λ n. grown e p)

  pub low_then_all : (e : Event) → MayHappen w e → AreAllLow (site_after w e)
  low_then_all (Dies q) may p = gone (Dies q) q p
  low_then_all (Starts q es) may p = at_both (λ f whereabouts. LowAt (intents f.kept) whereabouts) w.journals w.whereabouts q (settled (w.journals q)) (Before (Asking (left_in es))) p
      (λ e. let size = size_is w.lines (read_of (w.journals q)) es may.1 in left_low 1 es (intents (read_of (w.journals q))) (omega (arith, size)))
      (λ n. low p)
  low_then_all (RoundBegins g r lines) may p = low p
  low_then_all (Joins q seat n) may p = at_number (λ whereabouts. LowAt (intents (w.journals p).kept) whereabouts) w.whereabouts q (Inside w.last seat) p (λ e. tt) (λ n. low p)
  low_then_all (Acts q time d) may p = at_number (λ whereabouts. LowAt (intents ((site_after w (Acts q time d)).journals p).kept) whereabouts) w.whereabouts q (whereabouts_after (w.whereabouts q) d) p
      (λ e. low_after (intents ((site_after w (Acts q time d)).journals p).kept) (w.whereabouts q) d (asks q) (subst (λ x. LowAt (intents ((site_after w (Acts q time d)).journals p).kept) (w.whereabouts x)) e (grown (Acts q time d) p)))
      (λ n. grown (Acts q time d) p)
  low_then_all (Misses q time t) may p = at_number (λ whereabouts. LowAt (intents ((site_after w (Misses q time t)).journals p).kept) whereabouts) w.whereabouts q (whereabouts_missing (w.whereabouts q)) p
      (λ e. low_missing (intents ((site_after w (Misses q time t)).journals p).kept) (w.whereabouts q))
      (λ n. grown (Misses q time t) p)
  low_then_all (Pays q) may p = grown (Pays q) p
  low_then_all (PaysUnheard q) may p = gone (PaysUnheard q) q p
  low_then_all (PaysUnread q) may p = gone (PaysUnread q) q p
  low_then_all (Says f) may p = low p
  low_then_all (SaysUnheard f) may p = low p
  low_then_all (SaysUnread f) may p = low p
  low_then_all (Stops left k) may p = tt

-- what is noted is an intent up to that number

pub noted_low : (k : ℕ) (s : Stage) (n : ℕ) (c : JobResult) → due s ≡ Some (Note n c) → is_asking s ≡ true → IsLow k s → n ≤ k
noted_low k (Settling m a way rest) n c e asks h = let same = ap serial_in e in let low = h.0 in omega (arith, same, low)
noted_low k (Asking []) n c e asks h = cc
noted_low k (Asking (i ∷ rest)) n c e asks h = cc
noted_low k (Dismissed rest) n c e asks h = cc
noted_low k (Unanswered m reply) n c e asks h = cc
noted_low k Broken n c e asks h = cc
noted_low k s n c e asks h = absurd (true≢false (sym asks))

pub noted_counted : (k : ℕ) (s : Stage) (n : ℕ) (c : JobResult) → due s ≡ Some (Note n c) → IsCounted k s → n ≤ k
noted_counted k (Noting m a z way) n c e h = let same = ap serial_in e in omega (arith, same, h)
noted_counted k (Going m a way) n c e h = absurd (no_other (access_of a.givens a.number a.standing) (Note n c) refl e)
noted_counted k (Asking intents) n c e h = absurd h
noted_counted k (Settling m a way rest) n c e h = absurd h
noted_counted k s n c e h = cc
