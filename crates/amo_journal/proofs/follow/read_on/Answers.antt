-- `read_on`: the premises of its calls and its promises, by the lemmas of Following.
use Rattle.std.proofs.Common.{rules, ◌≡◌, ◌+◌, ◌++◌, ◌<◌, ◌^◌, ℕ, length, subst, sym, ap, ◌∙◌, arith, length-append}
use Rattle.amo_journal.specs.Logs.{records_of}
use Rattle.amo_journal.specs.Following.{IsReasonThere}
use Rattle.amo_journal.proofs.Following.{end_there, log_there, number_fits, reason_there}
use Rattle.amo_journal.proofs.follow.read_on.Goals as goal

pub error_there-requires : goal.error_there-requires
error_there-requires c =
    let place = c.args.place.now in
    let append : c.deref.result.now ≡ place.append.items = search rules in
    let fits : place.count + length c.args.bytes.now < 2 ^ 64 = search rules in
    number_fits place.count c.in-Err.error place.checksum.digits c.in-Some.rest.now (length c.args.bytes.now) c.in-Err.ensures.refused
    (omega (arith, ap length c.in-Some.ensures.found, length-append c.deref.result.now c.in-Some.rest.now)) fits

pub returns-in-Err-clause-refused : goal.returns-in-Err-clause-refused
returns-in-Err-clause-refused c =
    let place = c.args.place.now in
    let append : c.deref.result.now ≡ place.append.items = search rules in
    let bytes : c.args.bytes.now ≡ place.append.items ++ c.in-Some.rest.now = c.in-Some.ensures.found ∙ ap (λ l. l ++ c.in-Some.rest.now) append in
    subst (λ e. IsReasonThere e place c.args.bytes.now) (sym c.error_there.ensures) (reason_there place c.in-Err.error c.args.bytes.now c.in-Some.rest.now bytes c.in-Err.ensures.refused)

pub returns-clause-exact : goal.returns-clause-exact
returns-clause-exact c first all at =
    let place = c.args.place.now in
    let append : c.deref.result.now ≡ place.append.items = search rules in
    let bytes : c.args.bytes.now ≡ place.append.items ++ c.in-Some.rest.now = c.in-Some.ensures.found ∙ ap (λ l. l ++ c.in-Some.rest.now) append in
    log_there first all place at c.args.bytes.now c.in-Some.rest.now (records_of c.in-Ok.log.records.items) bytes c.in-Ok.ensures.exact

pub returns-clause-end : goal.returns-clause-end
returns-clause-end c first all at =
    let place = c.args.place.now in
    let size : c.len.result ≡ length place.append.items = search rules in
    ap (λ (n : ℕ). place.start + n + c.in-Ok.log.end) size ∙ end_there first all place at (records_of c.in-Ok.log.records.items) c.in-Ok.log.end c.in-Ok.ensures.end
