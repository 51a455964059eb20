-- The steps of a process that begins a round, joins a round, or is in no round.
use Rattle.std.proofs.Common.{◌≡◌, ◌⊎◌, inl, inr, ⊎_elim, ◌≤◌, ◌<◌, ◌+◌, ℕ, zero, suc, List, [], map, Option, Some, None, refl, sym, ap, ◌∙◌, subst}
use Rattle.std.proofs.lemmas.Bool.{cases_eq}
use Rattle.std.specs.Prelude.{Bool, true, false, Result, Ok, Err, replicate, slice_get}
use native.Mathlib.Omega.{arith}
use Rattle.amo_safety_by_journals.specs.Model.{IsOneOf, Site}
use Rattle.amo_driver.specs.declared.answer.Way.{Way}
use Rattle.amo_driver.specs.declared.answer.Way.TheVariants.{Go, Leave}
use Rattle.amo_params.specs.declared.givens.Givens.{Givens}
use Rattle.amo_params.specs.declared.givens.GivensFault.{GivensFault}
use Rattle.amo_params.specs.declared.limits.TheConstants.{MAX_WORKERS}
use Rattle.amo_host.specs.declared.model.Hold.{Hold}
use Rattle.amo_host.specs.declared.model.Hold.TheVariants.{Shared, Exclusive}
use Rattle.amo_host.specs.declared.model.LogFile.{LogFile}
use Rattle.amo_host.specs.declared.model.LogFile.TheVariants.{Journal}
use Rattle.amo_host.specs.declared.model.RunLock.TheVariants.{Round}
use Rattle.amo_host.specs.Beginning.{begins_on, MayDo}
use Rattle.amo_host.specs.Calls.{Request, TryLock, Call, Tried, HasUnlocked, FolderIsKept, FolderIsSynced, BootIs, RoundIs, JobsAre, RegistersAre, ListIs, JobsAreMade, RoundIsMade, RegistersAreMade, Heard, request_of}
use Rattle.amo_host.specs.Joining.{joins_on, has_header, has_header_if, seated, MayJoin}
use Rattle.amo_host.specs.Logs.{Logs, all_logs, journals_from, logs_before}
use Rattle.amo_host.specs.Phase.{Identity, Join, Locked, Booted, HasHeader, HasJobs, Seated, Begin, LockedAlone, BootedAlone, HasLast, KnowsJobs, ListHasGrown, KnowsAll, RoundMade, RegistersMade, ToWork, Phase, Idle, Begins, Joins, Over, Stays, Ended}
use Rattle.amo_host.specs.Protocol.{idles_on, locked_if, stays_on, stays_if, over_on, over_way}
use Rattle.amo_run_files.specs.declared.round_file.RoundFile.{RoundFile}
use Rattle.amo_run_log.specs.declared.journal.Attempt.{Attempt}
use Rattle.amo_program_safety.specs.Texts.{lines_in}
use Rattle.amo_program_safety.specs.World.{Process, World, process_by}
use Rattle.amo_program_safety.proofs.Standing.{IsOpened, Knows, KnowsPrior, Quiet, At, prior_of_begin, prior_of_join, ReadsOwn}
use Rattle.amo_program_safety.proofs.Texts.{AreOpened}
use Rattle.amo_program_safety.proofs.Moves.{Reaches}
use Rattle.amo_program_safety.proofs.Steps.{Made, next_world, stood}
use Rattle.amo_program_safety.proofs.Plain.{IsPlain, IsPlainRequest, plain_call, quiet_step}

is_plain : (pid : ℕ) (c : Call) (r : Request) → IsPlainRequest r → request_of c ≡ r → IsPlain pid c
is_plain pid c r plain e = plain_call pid c (subst IsPlainRequest (sym e) plain)

-- ---- beginning a round

pub plain_beginning : (me : Identity) (begin : Begin) (r : Request) → MayDo me begin r → IsPlainRequest r
plain_beginning me (LockedAlone prior) r e = subst IsPlainRequest (sym e) tt
plain_beginning me (BootedAlone prior boot) r e = subst IsPlainRequest (sym e) tt
plain_beginning me (HasLast prior boot last) r e = subst IsPlainRequest (sym e) tt
plain_beginning me (KnowsJobs prior boot last) r e = subst IsPlainRequest (sym e) tt
plain_beginning me (ListHasGrown boot last logs counts) r e = subst IsPlainRequest (sym e) tt
plain_beginning me (KnowsAll boot last logs counts) r (inl (file, next, e)) = subst IsPlainRequest (sym e) tt
plain_beginning me (KnowsAll boot last logs counts) r (inr e) = subst IsPlainRequest (sym e) tt
plain_beginning me (RoundMade file logs) r (bytes, new, e) = subst IsPlainRequest (sym e) tt
plain_beginning me (RegistersMade logs) r e = subst IsPlainRequest (sym e) tt

none_there : (n k : ℕ) (es : List Attempt) → slice_get (replicate n []) k ≡ Some es → es ≡ []
none_there zero k es is = absurd (cc is)
none_there (suc n) zero es is = some_is (sym is)
  where
    some_is : {a b : List Attempt} → Some a ≡ Some b → a ≡ b
    some_is e = cc
none_there (suc n) (suc k) es is = none_there n k es is

opens_none : (v : Site) (q : ℕ) → AreOpened (λ s. IsOpened v q s) []
opens_none v q zero e is re = absurd (cc is)
opens_none v q (suc i) e is re = absurd (cc is)

knows_before : (v : Site) (read : LogFile → List (List ℕ)) (count : ℕ) (prior : Option Logs) → KnowsPrior v read prior → Knows v read (logs_before count prior)
knows_before v read count None unread = record {
  len = refl;
  lines = λ k es is. ap (map (λ (a : Attempt). a.line)) (none_there MAX_WORKERS k es is) ∙ ap lines_in (sym (unread (Journal (suc k))));
  opened = λ k es is. subst (AreOpened (λ s. IsOpened v (suc k) s)) (sym (none_there MAX_WORKERS k es is)) (opens_none v (suc k));
  undone = λ r s is. absurd (cc is);
}
knows_before v read count (Some logs) k = record { len = k.len; lines = k.lines; opened = k.opened; undone = k.undone }

module _ (w : World) (v : Site) (pid : ℕ) (p : Process) where
  begins_next : (me : Identity) (begin : Begin) (c : Call) → me.worker ≡ p.worker → KnowsPrior v p.read (prior_of_begin begin) → Quiet w v pid p
      → (begins_on me begin c ≡ Ended) ⊎ At w v pid p (begins_on me begin c)
  begins_next me (LockedAlone prior) (BootIs boot) same k quiet = inr (same, k, quiet)
  begins_next me (BootedAlone prior boot) (RoundIs last) same k quiet = inr (same, k, quiet)
  begins_next me (HasLast prior boot last) (JobsAre from lines) same k quiet = inr (same, k, quiet)
  begins_next me (KnowsJobs prior boot last) (ListIs bytes) same k quiet = inr (same, knows_before v p.read _ prior k, quiet, tt)
  begins_next me (ListHasGrown boot last logs counts) (JobsAreMade bytes) same k quiet = inr (same, k, quiet)
  begins_next me (KnowsAll boot last logs counts) (RoundIsMade file) same k quiet = inr (same, k, quiet)
  begins_next me (KnowsAll boot last logs counts) (HasUnlocked lock) same k quiet = inr (same, k, quiet)
  begins_next me (RoundMade file logs) (RegistersAreMade bytes) same k quiet = inr (same, k, quiet)
  begins_next me (RegistersMade logs) (HasUnlocked lock) same k quiet = inr (same, k, quiet)
  begins_next me begin c same k quiet = inl refl

pub begins_step : (w : World) (v : Site) (pid : ℕ) (p : Process) (me : Identity) (begin : Begin) (c : Call) → Made w v pid p (Begins me begin) c → Reaches v (next_world w pid p c)
begins_step w v pid p me begin c m =
    let here = stood w v pid p (Begins me begin) c m in
    let plain = plain_call pid c (plain_beginning me begin (request_of c) m.allowed) in
    quiet_step w v pid p (Begins me begin) c m here.2 plain (next here plain)
  where
    next : At w v pid p (Begins me begin) → IsPlain pid c
        → Quiet (next_world w pid p c) v pid (process_by p c) → (begins_on me begin c ≡ Ended) ⊎ At (next_world w pid p c) v pid (process_by p c) (begins_on me begin c)
    next here plain = λ quiet. begins_next (next_world w pid p c) v pid (process_by p c) me begin c here.0
        (subst (λ r. KnowsPrior v r (prior_of_begin begin)) (sym (plain.read p.read)) here.1) quiet

-- ---- joining a round

journal_from : (n w q : ℕ) → w ≤ q → q < w + n → IsOneOf (journals_from w n) (Journal q)
journal_from zero w q low high = absurd (none low high)
  where
    none : w ≤ q → q < w + 0 → ⊥
    none low high = omega (arith, low, high)
journal_from (suc n) w q low high = ⊎_elim
    (λ (e : q ≡ w). inl (ap Journal (sym e)))
    (λ (other : q ≡ w → ⊥). inr (journal_from n (w + 1) q (above low other) (below high)))
    (cases_eq q w)
  where
    above : w ≤ q → (q ≡ w → ⊥) → w + 1 ≤ q
    above low other = omega (arith, low, other)

    below : q < w + suc n → q < (w + 1) + n
    below high = omega (arith, high)

pub journal_among : (q : ℕ) → 1 ≤ q → q ≤ MAX_WORKERS → IsOneOf (journals_from 1 MAX_WORKERS) (Journal q)
journal_among q low high = journal_from MAX_WORKERS 1 q low (below high)
  where
    below : q ≤ 16 → q < 1 + 16
    below high = omega (arith, high)

module _ (w : World) (v : Site) (pid : ℕ) (p : Process) (me : Identity) (same : me.worker ≡ p.worker) (quiet : Quiet w v pid p) where
  header_next : (prior : Option Logs) (file : RoundFile) (b : Bool) → KnowsPrior v p.read prior → (has_header_if me prior file b ≡ Ended) ⊎ At w v pid p (has_header_if me prior file b)
  header_next prior file true k = inr (same, k, quiet)
  header_next prior file false k = inl refl

  round_next : (prior : Option Logs) (boot : List ℕ) (last : Option RoundFile) → KnowsPrior v p.read prior → (has_header me prior boot last ≡ Ended) ⊎ At w v pid p (has_header me prior boot last)
  round_next prior boot None k = inl refl
  round_next prior boot (Some file) k = header_next prior file _ k

  seat_next : (prior : Option Logs) (file : RoundFile) (seat : Option ℕ) (givens : Result Givens GivensFault) (fits : Bool) → KnowsPrior v p.read prior
      → (seated me prior file seat givens fits ≡ Ended) ⊎ At w v pid p (seated me prior file seat givens fits)
  seat_next prior file (Some seat) (Ok givens) true k = inr (same, k, quiet)
  seat_next prior file (Some seat) (Ok givens) false k = inl refl
  seat_next prior file (Some seat) (Err fault) fits k = inl refl
  seat_next prior file None givens fits k = inl refl

joins_next : (w : World) (v : Site) (pid : ℕ) (p : Process) (me : Identity) (join : Join) (c : Call) → 1 ≤ p.worker → p.worker ≤ MAX_WORKERS → me.worker ≡ p.worker
    → KnowsPrior v p.read (prior_of_join join) → Quiet w v pid p → (joins_on me join c ≡ Ended) ⊎ At w v pid p (joins_on me join c)
joins_next w v pid p me (Locked prior) (BootIs boot) low high same k quiet = inr (same, k, quiet)
joins_next w v pid p me (Booted prior boot) (RoundIs last) low high same k quiet = round_next w v pid p me same quiet prior boot last k
joins_next w v pid p me (HasHeader prior file) (JobsAre last lines) low high same k quiet = inr (same, k, quiet)
joins_next w v pid p me (HasHeader prior file) (HasUnlocked lock) low high same k quiet = inr (same, knows_before v p.read _ prior k, quiet)
joins_next w v pid p me (HasJobs prior file) (RegistersAre front registers) low high same k quiet = seat_next w v pid p me same quiet prior file _ _ _ k
joins_next w v pid p me (Seated prior file givens seat) FolderIsSynced low high same k quiet =
    inr (same, knows_before v p.read _ prior k, quiet, reads_own file givens seat)
  where
    reads_own : (file : RoundFile) (givens : Givens) (seat : ℕ) → ReadsOwn w p (ToWork file givens seat) all_logs
    reads_own file givens seat = inl (inr (journal_among p.worker low high))
joins_next w v pid p me join c low high same k quiet = inl refl

pub plain_joining : (join : Join) (r : Request) → MayJoin join r → IsPlainRequest r
plain_joining (Locked prior) r e = subst IsPlainRequest (sym e) tt
plain_joining (Booted prior boot) r e = subst IsPlainRequest (sym e) tt
plain_joining (HasHeader prior file) r (inl e) = subst IsPlainRequest (sym e) tt
plain_joining (HasHeader prior file) r (inr e) = subst IsPlainRequest (sym e) tt
plain_joining (HasJobs prior file) r (front, e) = subst IsPlainRequest (sym e) tt
plain_joining (Seated prior file givens seat) r e = subst IsPlainRequest (sym e) tt

pub joins_step : (w : World) (v : Site) (pid : ℕ) (p : Process) (me : Identity) (join : Join) (c : Call) → Made w v pid p (Joins me join) c → Reaches v (next_world w pid p c)
joins_step w v pid p me join c m =
    let here = stood w v pid p (Joins me join) c m in
    let plain = plain_call pid c (plain_joining join (request_of c) m.allowed) in
    let stand = m.goes.stand pid p m.lives in
    quiet_step w v pid p (Joins me join) c m here.2 plain
    (λ quiet. joins_next (next_world w pid p c) v pid (process_by p c) me join c stand.low stand.high here.0
    (subst (λ r. KnowsPrior v r (prior_of_join join)) (sym (plain.read p.read)) here.1) quiet)

-- ---- in no round

lock_next : (w : World) (v : Site) (pid : ℕ) (p : Process) (from : Phase) (me : Identity) (prior : Option Logs) (hold : Hold) (got : Bool) → me.worker ≡ p.worker
    → KnowsPrior v p.read prior → At w v pid p from → Quiet w v pid p → At w v pid p (locked_if from me prior hold got)
lock_next w v pid p from me prior Shared true same k here quiet = (same, k, quiet)
lock_next w v pid p from me prior Exclusive true same k here quiet = (same, k, quiet)
lock_next w v pid p from me prior Shared false same k here quiet = here
lock_next w v pid p from me prior Exclusive false same k here quiet = here

idle_next : (w : World) (v : Site) (pid : ℕ) (p : Process) (me : Identity) (logs : Logs) (c : Call) → me.worker ≡ p.worker → Knows v p.read logs → Quiet w v pid p
    → (idles_on me logs c ≡ Ended) ⊎ At w v pid p (idles_on me logs c)
idle_next w v pid p me logs (Tried lock hold got) same k quiet = inr (lock_next w v pid p (Idle me logs) me (Some logs) hold got same k (same, k, quiet) quiet)
idle_next w v pid p me logs c same k quiet = inl refl

pub idle_step : (w : World) (v : Site) (pid : ℕ) (p : Process) (me : Identity) (logs : Logs) (c : Call) → Made w v pid p (Idle me logs) c → Reaches v (next_world w pid p c)
idle_step w v pid p me logs c m =
    let here = stood w v pid p (Idle me logs) c m in
    let plain = is_plain pid c (TryLock Round m.allowed.0) tt m.allowed.1 in
    quiet_step w v pid p (Idle me logs) c m here.2 plain
    (λ quiet. idle_next (next_world w pid p c) v pid (process_by p c) me logs c here.0 (subst (λ r. Knows v r logs) (sym (plain.read p.read)) here.1) quiet)

-- ---- after a round

stays_next : (w : World) (v : Site) (pid : ℕ) (p : Process) (me : Identity) (logs : Logs) (way : Option Way) → me.worker ≡ p.worker → Knows v p.read logs → Quiet w v pid p
    → (stays_if me logs way ≡ Ended) ⊎ At w v pid p (stays_if me logs way)
stays_next w v pid p me logs (Some Go) same k quiet = inr (same, k, quiet)
stays_next w v pid p me logs (Some Leave) same k quiet = inl refl
stays_next w v pid p me logs None same k quiet = inl refl

over_next : (w : World) (v : Site) (pid : ℕ) (p : Process) (me : Identity) (logs : Logs) (c : Call) → me.worker ≡ p.worker → Knows v p.read logs → Quiet w v pid p
    → (over_on me logs c ≡ Ended) ⊎ At w v pid p (over_on me logs c)
over_next w v pid p me logs (Heard line reply) same k quiet = stays_next w v pid p me logs (over_way reply) same k quiet
over_next w v pid p me logs c same k quiet = inl refl

pub over_step : (w : World) (v : Site) (pid : ℕ) (p : Process) (me : Identity) (logs : Logs) (c : Call) → Made w v pid p (Over me logs) c → Reaches v (next_world w pid p c)
over_step w v pid p me logs c m =
    let here = stood w v pid p (Over me logs) c m in
    let plain = is_plain pid c _ tt m.allowed in
    quiet_step w v pid p (Over me logs) c m here.2 plain
    (λ quiet. over_next (next_world w pid p c) v pid (process_by p c) me logs c here.0 (subst (λ r. Knows v r logs) (sym (plain.read p.read)) here.1) quiet)

waits_next : (w : World) (v : Site) (pid : ℕ) (p : Process) (me : Identity) (logs : Logs) (c : Call) → me.worker ≡ p.worker → Knows v p.read logs → Quiet w v pid p
    → (stays_on me logs c ≡ Ended) ⊎ At w v pid p (stays_on me logs c)
waits_next w v pid p me logs FolderIsKept same k quiet = inr (same, k, quiet)
waits_next w v pid p me logs c same k quiet = inl refl

pub stays_step : (w : World) (v : Site) (pid : ℕ) (p : Process) (me : Identity) (logs : Logs) (c : Call) → Made w v pid p (Stays me logs) c → Reaches v (next_world w pid p c)
stays_step w v pid p me logs c m =
    let here = stood w v pid p (Stays me logs) c m in
    let plain = is_plain pid c _ tt m.allowed in
    quiet_step w v pid p (Stays me logs) c m here.2 plain
    (λ quiet. waits_next (next_world w pid p c) v pid (process_by p c) me logs c here.0 (subst (λ r. Knows v r logs) (sym (plain.read p.read)) here.1) quiet)
