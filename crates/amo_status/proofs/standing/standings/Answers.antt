-- `standings`: its promises, by the lemmas of Opened.
use Rattle.std.proofs.Common.{◌≡◌, ℕ, ◌+◌, ◌<◌, List, Vec, Global, length, get_or, map, replicate, rules, ap, ◌∙◌, arith}
use Rattle.std.proofs.lemmas.List.{take_at, get_or-replicate}
use Rattle.amo_run_log.specs.declared.journal.Attempt.{Attempt}
use Rattle.amo_status.specs.Deciding.{decided_from}
use Rattle.amo_status.specs.Standings.{open_standing, closing}
use Rattle.amo_status.proofs.Opened.{all_stand, just_open}
use Rattle.amo_status.proofs.standing.standings.Goals as goal

pub returns-clause-exact : goal.returns-clause-exact
returns-clause-exact c =
    let journals : List (List Attempt) = map (λ (journal : Vec Attempt Global). journal.items) c.args.log.now.journals.now in
    let size : length c.note_all.new.found ≡ c.in_ok-found.found.len = omega (arith, c.note_all.auto.found, c.deref_mut.ensures.len, c.in_ok-found.ensures.len) in
    let long : length c.note_all.new.found ≡ c.args.count = omega (arith, size, c.in_ok-found.ensures.len) in
    let filled : c.in_ok-found.found.items ≡ replicate c.args.count open_standing = search rules in
    let blank : (k : ℕ) → k < c.args.count → get_or c.deref_mut.result.now k open_standing ≡ open_standing = λ k lt. ap (λ l. get_or l k open_standing) (c.deref_mut.ensures.value ∙ filled) ∙ get_or-replicate c.args.count k open_standing open_standing lt in
    let each : (k : ℕ) → k < c.args.count → get_or c.note_all.new.found k open_standing ≡ decided_from open_standing (closing c.args.log.now.findings.now c.args.log.now.finals.now 1 journals (k + 1)) = λ k lt.
    c.note_all.ensures k (omega (arith, lt, c.deref_mut.ensures.len, c.in_ok-found.ensures.len))
    ∙ ap (λ s. decided_from s (closing c.args.log.now.findings.now c.args.log.now.finals.now 1 journals (k + 1))) (blank k lt) in
    take_at _ _ _ size ∙ all_stand c.args.log.now.findings.now journals c.args.log.now.finals.now c.note_all.new.found c.args.count long each

pub returns-clause-just_open : goal.returns-clause-just_open
returns-clause-just_open c =
    just_open c.args.log.now.findings.now (map (λ (journal : Vec Attempt Global). journal.items) c.args.log.now.journals.now) c.args.log.now.finals.now _ c.args.count (returns-clause-exact c)
