-- The reply is the next access, the leave, the job in hand and the end.
use Rattle.std.proofs.Common.{◌≡◌, ℕ, ◌+◌, Bool, true, false, refl, sym, ap, ◌∙◌, arith, length, Some, Result, Ok, Err}
use Rattle.std.specs.Prelude.{set, if◌then◌else◌}
use Rattle.std.proofs.lemmas.Bool.{true≢false}
use Rattle.amo_kk.specs.Record.{job_in_hand, can_leave, is_over}
use Rattle.amo_kk.specs.Words.{next_word}
use Rattle.amo_kk.specs.Machine.{LocalView}
use Rattle.amo_kk.specs.Step.{want_in}
use Rattle.amo_kk.specs.declared.phase.Phase.{Phase}
use Rattle.amo_kk.specs.declared.phase.Phase.TheVariants.{Announcing, Trying, Reading, Claiming, Holding, Over, Left}
use Rattle.amo_kk.specs.declared.model.Record.{Record}
use Rattle.amo_process.specs.Heard.{to_perform, in_doubt}
use Rattle.amo_process.specs.Stepped.{access_of, access_for, has_ended}
use Rattle.amo_process.specs.Shared.{Shared, standing_at, shared_after, shared_after_leave, shared_after_access, with_new_process}
use Rattle.amo_process.specs.declared.access.Access.{Access}
use Rattle.amo_process.specs.declared.access.Access.TheVariants.{Load, Store, Nothing}
use Rattle.amo_process.specs.declared.model.Happening.TheVariants.{Steps, Leaves}
use Rattle.amo_process.specs.declared.standing.Standing.{Standing}
use Rattle.amo_process.specs.declared.standing.Standing.TheVariants.{Beginning, Going}
use Rattle.amo_process.proofs.Accesses.{access_is_step}
use Rattle.amo_c.specs.Codes.{access_code, phase_code, kind_of, phase_of}
use Rattle.amo_c.specs.Told.{told_of, next_of, leave_by}
use Rattle.amo_c.specs.Carried.{carried_out}
use Rattle.amo_c.specs.declared.codes.AccessCode.TheVariants.{Nothing as ToNothing}
use Rattle.amo_c.specs.declared.codes.FaultCode.{FaultCode}
use Rattle.amo_c.specs.declared.codes.FaultCode.TheVariants.{MayNotLeave}
use Rattle.amo_c.specs.declared.codes.PhaseCode.{PhaseCode}
use Rattle.amo_c.specs.declared.codes.PhaseCode.TheVariants.{Over as IsOver, Left as HasLeft}
use Rattle.amo_c.specs.declared.told.AmoNext.{AmoNext}
use Rattle.amo_c.specs.declared.worker.Worker.{Worker}

-- the steps

carries : (s : Shared) (p : ℕ) (phase : PhaseCode) (a : Access) → shared_after_access s p a ≡ carried_out s p (told_of a phase)
carries s p phase (Load word) = refl
carries s p phase (Store word value) = refl
carries s p phase Nothing = refl

next_carries : (w : Worker) (s : Shared) (t : Standing) → shared_after_access s w.number (access_of w.givens w.number (Some t)) ≡ carried_out s w.number (next_of w t)
next_carries w s (Beginning word) = refl
next_carries w s (Going l fresh) = carries s w.number (phase_of l.state.phase) (access_of w.givens w.number (Some (Going l fresh)))

pub told_steps : (w : Worker) (s : Shared) (t : Standing) → standing_at w.givens s w.number ≡ Some t → shared_after w.givens s (Steps w.number) ≡ carried_out s w.number (next_of w t)
told_steps w s t e =
    access_is_step w.givens s w.number (standing_at w.givens s w.number)
    ∙ ap (λ o. shared_after_access s w.number (access_of w.givens w.number o)) e
    ∙ next_carries w s t

-- the leaving

abbrev words_told : Shared → ℕ → Result AmoNext FaultCode → Shared
words_told s p (Ok n) = with_new_process s p (carried_out s p n).words
words_told s p (Err e) = s

leaving_carries : (w : Worker) (s : Shared) (t : Standing) → shared_after_leave w.givens s w.number (Some t) ≡ words_told s w.number (leave_by w t)
leaving_carries w s (Beginning word) = refl
leaving_carries w s (Going l fresh) = go (can_leave l.state.phase)
  where
    go : (b : Bool) → (if b then with_new_process s w.number (set s.words (next_word w.number) 0) else s)
        ≡ words_told s w.number (if b then Ok (record (told_of (Store (next_word w.number) 0) HasLeft) { claims = length l.state.claimed; dones = length l.state.dones }) else Err MayNotLeave)
    go true = refl
    go false = refl

leaves_by : (w : Worker) (s : Shared) (t : Standing) → standing_at w.givens s w.number ≡ Some t → shared_after w.givens s (Leaves w.number) ≡ words_told s w.number (leave_by w t)
leaves_by w s t e = ap (shared_after_leave w.givens s w.number) e ∙ leaving_carries w s t

pub told_leaves : (w : Worker) (s : Shared) (t : Standing) (n : AmoNext) → standing_at w.givens s w.number ≡ Some t → leave_by w t ≡ Ok n
    → shared_after w.givens s (Leaves w.number) ≡ with_new_process s w.number (carried_out s w.number n).words
told_leaves w s t n e is = leaves_by w s t e ∙ ap (words_told s w.number) is

pub told_stays : (w : Worker) (s : Shared) (t : Standing) (x : FaultCode) → standing_at w.givens s w.number ≡ Some t → leave_by w t ≡ Err x
    → shared_after w.givens s (Leaves w.number) ≡ s
told_stays w s t x e is = leaves_by w s t e ∙ ap (words_told s w.number) is

-- the job in hand

pub told_performs : (w : Worker) (t : Standing) → (next_of w t).perform ≡ to_perform t
told_performs w (Beginning word) = refl
told_performs w (Going l fresh) = refl

pub told_doubts : (w : Worker) (t : Standing) → (next_of w t).doubt ≡ in_doubt t
told_doubts w (Beginning word) = refl
told_doubts w (Going l fresh) = refl

pub told_hand : (w : Worker) (l : LocalView) (fresh : Bool) → (next_of w (Going l fresh)).perform + (next_of w (Going l fresh)).doubt ≡ job_in_hand l.state.phase
told_hand w l true = omega arith
told_hand w l false = omega arith

-- the end

over_told : (phase : Phase) → phase_code (phase_of phase) ≡ 6 → is_over phase ≡ true
over_told (Announcing j) e = absurd (omega arith)
over_told (Trying j q) e = absurd (omega arith)
over_told (Reading j q) e = absurd (omega arith)
over_told (Claiming j) e = absurd (omega arith)
over_told (Holding j) e = absurd (omega arith)
over_told Over e = refl
over_told Left e = absurd (omega arith)

pub told_over : (w : Worker) (t : Standing) → (next_of w t).phase ≡ phase_code IsOver → has_ended (Some t) ≡ true
told_over w (Beginning word) e = absurd (let x : 0 ≡ 6 = e in omega arith)
told_over w (Going l fresh) e = over_told l.state.phase e

-- the reply for a machine in this phase that has ended
abbrev TellsEnd : Worker → Record → Phase → Type 0
TellsEnd w r phase = (phase_code (phase_of phase) ≡ phase_code IsOver) × (access_code (kind_of (access_for w.givens w.number (want_in r phase))) ≡ access_code ToNothing)

tells_end : (w : Worker) (r : Record) (phase : Phase) → is_over phase ≡ true → TellsEnd w r phase
tells_end w r (Announcing j) h = absurd (true≢false (sym h))
tells_end w r (Trying j q) h = absurd (true≢false (sym h))
tells_end w r (Reading j q) h = absurd (true≢false (sym h))
tells_end w r (Claiming j) h = absurd (true≢false (sym h))
tells_end w r (Holding j) h = absurd (true≢false (sym h))
tells_end w r Over h = (refl, refl)
tells_end w r Left h = absurd (true≢false (sym h))

pub over_is_told : (w : Worker) (t : Standing) → has_ended (Some t) ≡ true → ((next_of w t).phase ≡ phase_code IsOver) × ((next_of w t).access ≡ access_code ToNothing)
over_is_told w (Beginning word) h = absurd (true≢false (sym h))
over_is_told w (Going l fresh) h = tells_end w l.state l.state.phase h
