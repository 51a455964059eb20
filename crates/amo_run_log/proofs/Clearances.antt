-- Attempts by their serial number, from 1, and by their places, from 0.
use Rattle.std.proofs.Common.{◌≡◌, ℕ, ◌+◌, ◌-◌, ◌≤◌, List, sym, subst, arith}
use Rattle.amo_run_log.specs.declared.clearance.AttemptId.{AttemptId}
use Rattle.amo_run_log.specs.declared.finding.Finding.{Finding}
use Rattle.amo_run_log.specs.declared.journal.Attempt.{Attempt}
use Rattle.amo_run_log.specs.Clearance.{IsOpened, IsOther}

module _ (findings : List Finding) (own : AttemptId) (line : ℕ) where
  -- by the serial number
  pub by_serial : (worker serial : ℕ) (e : Attempt) → ((e.line ≡ line) → IsOther own worker (serial - 1 + 1) → IsOpened findings worker (serial - 1 + 1) e) → 1 ≤ serial → e.line ≡ line → IsOther own worker serial → IsOpened findings worker serial e
  by_serial worker serial e opened some is other =
      let same : serial - 1 + 1 ≡ serial = omega (arith, some) in
      subst (λ (n : ℕ). IsOpened findings worker n e) same (opened is (subst (λ (n : ℕ). IsOther own worker n) (sym same) other))
