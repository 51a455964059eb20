-- `checked_log`: its promises, by the lemmas of KeptCounts (amo_run_files).
use Rattle.std.proofs.Common.{◌≡◌, ℕ, List, length, sym, ◌∙◌, ap, arith, Option}
use Rattle.amo_journal.specs.Appends.{IsLog}
use Rattle.amo_journal.specs.Logs.{checksums_from, checksums_of}
use Rattle.amo_run_journals.specs.Logs.{IsWhyLost, IsWhyUnread}
use Rattle.amo_run_journals.specs.declared.logs.Unread.{Unread}
use Rattle.amo_run_journals.specs.declared.logs.Unread.TheVariants.{Memory, Damaged, Fewer, Other}
use Rattle.amo_run_files.proofs.KeptCounts.{length-checksums_from}
use Rattle.amo_run_files.specs.Counted.{counted, is_kept}
use Rattle.amo_run_files.specs.declared.count.Count.{Count}
use Rattle.amo_run_journals.proofs.logs.checked_log.Goals as goal

-- what the checksums lack, the file lacks
why_unread : (why : Unread) (was : Option Count) (first file : List ℕ) (records checksums : List (List ℕ)) → checksums ≡ checksums_from first records → IsLog first records file → IsWhyLost why was first checksums → IsWhyUnread why was first file
why_unread Memory was first file records checksums are log why = tt
why_unread (Damaged number kind) was first file records checksums are log why = absurd why
why_unread (Fewer has) was first file records checksums are log why =
    (why.0, why.1, record { records = records; log = log; has_them = why.2 ∙ ap length are ∙ length-checksums_from first records; fewer = why.3 })
why_unread Other was first file records checksums are log why =
    (why.0, why.1, record { records = records; log = log; many = omega (arith, why.2, ap length are, length-checksums_from first records); other = sym (ap (λ (l : List (List ℕ)). is_kept (counted why.0) first l) are) ∙ why.3 })

pub returns-in-Some-clause-refused : goal.returns-in-Some-clause-refused
returns-in-Some-clause-refused c =
    why_unread c.in-Some.why c.args.counted c.args.first.digits c.args.bytes.now _ (checksums_of c.deref.result.now) (ap checksums_of c.deref.ensures.value ∙ c.in-Ok.ensures.checksums) c.in-Ok.ensures.exact c.in-Some.ensures.some
