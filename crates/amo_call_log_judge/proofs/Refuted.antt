-- Each reason is against the rule.
use Rattle.std.proofs.Common.{◌≡◌, ⊎_elim, ◌≤◌, ℕ, List, Some, sym, ap, ◌∙◌, subst}
use Rattle.amo_safety_by_journals.specs.Model.{Attempt, IsOneOf, Away, Free, Clearing, Site, Event, Begins, Lands, Intends, Looks, HandsOver, Performs, Opens, line_of}
use Rattle.amo_safety_by_journals.specs.Runs.{Clearance, MayFollow}
use Rattle.amo_params.specs.declared.limits.TheConstants.{MAX_WORKERS}
use Rattle.amo_call_log_judge.specs.Against.{Against, Holds, Stands}
use Rattle.amo_call_log_judge.specs.declared.reason.Reason.{Reason}
use Rattle.amo_call_log_judge.specs.declared.reason.Reason.TheVariants.{HasProcess, NoProcess, HasIntent, NoIntent, Taken, NotSeen, NotAlive, PerformedBefore, NotKept, Held, Alive, Performed}

pub free_away : Free ≡ Away → ⊥
free_away e = cc

pub clearing_away : (s l : ℕ) (seen : List ℕ) → Clearing s l seen ≡ Away → ⊥
clearing_away s l seen e = cc

pub clearing_free : (s l : ℕ) (seen : List ℕ) → Clearing s l seen ≡ Free → ⊥
clearing_free s l seen e = cc

pub same_serial : (s l t m : ℕ) (seen others : List ℕ) → Clearing s l seen ≡ Clearing t m others → s ≡ t
same_serial s l t m seen others e = cc

pub same_line : (s l t m : ℕ) (seen others : List ℕ) → Clearing s l seen ≡ Clearing t m others → l ≡ m
same_line s l t m seen others e = cc

pub same_seen : (s l t m : ℕ) (seen others : List ℕ) → Clearing s l seen ≡ Clearing t m others → seen ≡ others
same_seen s l t m seen others e = cc

-- an attempt by its numbers
abbrev pub attempt : ℕ → ℕ → Attempt
attempt worker serial = record { worker = worker; serial = serial }

-- what stands against the line isn't clear
not_clear : (w : Site) (p q serial own line : ℕ) (may : MayFollow Clearance MAX_WORKERS w (Looks p q)) → Holds w p own line → Stands w q serial (attempt p own) line → ⊥
not_clear w p q serial own line may holds stands =
    let e = sym holds.1 ∙ may.3 in
    let at : line_of (w.kept q) serial ≡ Some may.1 = stands.at_line ∙ ap Some (same_line own line may.0 may.1 holds.0 may.2 e) in
    ⊎_elim (λ is. stands.other (is ∙ ap (attempt p) (sym (same_serial own line may.0 may.1 holds.0 may.2 e)))) stands.not_opened (may.4 serial at)

-- who has not looked at all journals has not seen all
not_all_seen : (w : Site) (p q serial line : ℕ) (seen : List ℕ) → MayFollow Clearance MAX_WORKERS w (HandsOver p) → w.stage p ≡ Clearing serial line seen → q ≤ MAX_WORKERS → (IsOneOf seen q → ⊥) → ⊥
not_all_seen w p q serial line seen may is le unseen =
    unseen (subst (λ (all : List ℕ). IsOneOf all q) (sym (same_seen serial line may.0 may.1 seen may.2 (sym is ∙ may.3))) (may.4 q le))

pub refuted : (w : Site) (e : Event) (reason : Reason) → Against w e reason → MayFollow Clearance MAX_WORKERS w e → ⊥
refuted w (Begins p) HasProcess why may = why may.0
refuted w (Lands p line) HasProcess why may = why may
refuted w (Intends p line) NoProcess why may = free_away (sym may ∙ why)
refuted w (Intends p line) HasIntent why may = clearing_free why.0 why.1 why.2.0 (sym why.2.1 ∙ may)
refuted w (Looks p q) NoIntent why may = why may.0 may.1 (may.2, may.3)
refuted w (Looks p q) (Taken serial line) why may = not_clear w p q serial why.0 line may why.1 why.2
refuted w (HandsOver p) NoIntent why may = why may.0 may.1 (may.2, may.3)
refuted w (HandsOver p) (NotSeen q) why may = not_all_seen w p q why.0 why.1 why.2 may why.3 why.4 why.5
refuted w (Performs h) NotAlive why may = why may.0
refuted w (Performs h) PerformedBefore why may = may.1 why
refuted w (Opens a) NotKept why may = why may.kept.0 may.kept.1
refuted w (Opens a) Held why may = may.not_held why.0 why.1.0 why.1.1
refuted w (Opens a) Alive why may = may.not_alive why.0 why.1 why.2
refuted w (Opens a) Performed why may = may.not_performed why.0 why.1 why.2
refuted w e reason why may = absurd why
