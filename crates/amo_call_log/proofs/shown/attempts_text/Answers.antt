-- `attempts_text`: its promise for appends that are refused, by the lemma of Refusals.
use Rattle.std.proofs.Common.{◌≡◌, List, Option, map, sym, subst, string_bytes, IfOk}
use Rattle.amo_run_log.specs.Journals.{IsRefusedAppend}
use Rattle.amo_run_log.specs.declared.fault.Fault.TheVariants.{Refused}
use Rattle.amo_run_log.specs.declared.journal.Attempt.{Attempt}
use Rattle.amo_call_log.specs.Shown.{attempts_or_refused}
use Rattle.amo_call_log.specs.declared.shown.TheConstants.{MOST_LINES}
use Rattle.amo_call_log.proofs.Refusals.{refused_whole}
use Rattle.amo_call_log.proofs.shown.attempts_text.Goals as goal

pub returns-in-Err-Refused : goal.returns-in-Err-Refused
returns-in-Err-Refused c =
    let refused : IsRefusedAppend MOST_LINES (map (λ append. append.items) c.args.appends.now) (Refused c.in-Err-Refused.field-0-0) = rw c.in-Err-Refused.field-0-is at c.in-Err-Refused.ensures.refused in
    let P : Option (List Attempt) → Type 0 = λ o. IfOk c.from_str.result (λ text. string_bytes text ≡ attempts_or_refused o) in
    subst P (sym (refused_whole MOST_LINES _ c.in-Err-Refused.field-0-0 refused)) c.from_str.ensures.ok
