-- `loss_in`: its promises, directly from definitions and clauses.
use Rattle.std.proofs.Common.{◌≡◌, ◌<◌, ◌≤◌, false, length, inl, inr, sym, subst, arith}
use Rattle.std.proofs.lemmas.Bool.{cases_lt}
use Rattle.std.proofs.lemmas.List.{length-map}
use Rattle.amo_journal.specs.Logs.{checksums_of}
use Rattle.amo_run_journals.specs.Logs.{IsWhyLost}
use Rattle.amo_run_files.specs.Counted.{counted, is_kept}
use Rattle.amo_run_files.specs.declared.count.Count.{Count}
use Rattle.amo_run_journals.proofs.logs.loss_in.Goals as goal

pub returns-in-Some-clause-some : goal.returns-in-Some-clause-some
returns-in-Some-clause-some c =
    let first = c.args.first.digits in
    let long : length (checksums_of c.args.checksums.now) ≡ length c.args.checksums.now = length-map c.args.checksums.now (λ checksum. checksum.digits) in
    elim (cases_lt (length c.args.checksums.now) c.in-Some.count.appends) [
      | inl fewer ↦ subst (λ why. IsWhyLost why c.args.counted first (checksums_of c.args.checksums.now)) (sym (c.loss_of.ensures.fewer (subst (λ (x : Count). length c.args.checksums.now < x.appends) (sym c.in-Some.count-is) fewer)))
          (c.in-Some.count, c.in-Some.is, omega (arith, long), fewer)
      | inr other ↦ subst (λ why. IsWhyLost why c.args.counted first (checksums_of c.args.checksums.now)) (sym (c.loss_of.ensures.other (subst (λ (x : Count). x.appends ≤ length c.args.checksums.now) (sym c.in-Some.count-is) other)))
          (c.in-Some.count, c.in-Some.is, omega (arith, long, other), subst (λ (x : Count). is_kept (counted x) first (checksums_of c.args.checksums.now) ≡ false) c.in-Some.count-is (sym c.if-not-is_kept_by.ensures))
    ]
