-- `list`: its promises, by the lemmas of ByLine.
use Rattle.std.proofs.Common.{◌-◌, ◌<◌, [], List, length, set, sym, subst, arith}
use Rattle.std.proofs.lemmas.List.{length-map}
use Rattle.amo_run_log.specs.declared.clearance.AttemptId.{AttemptId}
use Rattle.amo_run_log.specs.declared.entry.Entry.{Entry}
use Rattle.amo_run_log.specs.ByLine.{IsListed, ListsIntent}
use Rattle.amo_run_log.proofs.ByLine.{ids_in, listed_more, lists_more, pushed_at, same_lines}
use Rattle.amo_run_log.proofs.attempts_by_line.list.Goals as goal

pub returns-in_err-push-clause-stays : goal.returns-in_err-push-clause-stays
returns-in_err-push-clause-stays c line other serial was =
    subst (λ (l : List (List AttemptId)). IsListed l line other serial) (sym (same_lines c.args.lines.now.items (c.in-Intent.line - 1) c.index_mut.result.now c.push.new.self c.index_mut.ensures.value c.in_err-push.ensures.items)) was

pub returns-clause-stays : goal.returns-clause-stays
returns-clause-stays c line other serial was =
    let lt : c.in-Intent.line - 1 < length c.args.lines.now.items = omega arith in
    subst (λ (l : List (List AttemptId)). IsListed l line other serial)
    (sym (pushed_at c.args.lines.now.items (c.in-Intent.line - 1) c.index_mut.result.now c.push.new.self _ lt c.index_mut.ensures.value c.in_ok-push.ensures.items))
    (listed_more (ids_in c.args.lines.now.items) (c.in-Intent.line - 1) _ [] line other serial (omega (arith, lt, length-map c.args.lines.now.items (λ line. line.items))) was)

pub returns-clause-listed : goal.returns-clause-listed
returns-clause-listed c =
    let lt : c.in-Intent.line - 1 < length c.args.lines.now.items = omega arith in
    subst (λ (e : Entry). ListsIntent (ids_in (set c.args.lines.now.items (c.in-Intent.line - 1) c.push.new.self)) c.args.worker e) (sym c.in-Intent.is)
    (λ _. subst (λ (l : List (List AttemptId)). IsListed l c.in-Intent.line c.args.worker c.in-Intent.serial)
    (sym (pushed_at c.args.lines.now.items (c.in-Intent.line - 1) c.index_mut.result.now c.push.new.self _ lt c.index_mut.ensures.value c.in_ok-push.ensures.items))
    (lists_more (ids_in c.args.lines.now.items) c.in-Intent.line [] c.args.worker c.in-Intent.serial (omega arith) (omega (arith, lt, length-map c.args.lines.now.items (λ line. line.items)))))
