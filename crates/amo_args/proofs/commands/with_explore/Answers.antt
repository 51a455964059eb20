-- `with_explore`: its promises, directly from definitions and clauses.
use Rattle.std.proofs.Common.{rules, refl, ap, ap₂, codes, ◌≡◌, ◌∙◌}
use Rattle.std.proofs.lemmas.Result.{IfOk-weaker}
use Rattle.clap.specs.Words.{App, app_of, rule_of, with_rule, with_subcommand}
use Rattle.amo_args.specs.Commands.{required, explore_app}
use Rattle.amo_args.proofs.commands.with_explore.Goals as goal

pub returns : goal.returns
returns c =
    let from_is : rule_of c.required.result ≡ required (codes "FROM") = search rules in
    let count_is : rule_of c.required-2.result ≡ required (codes "COUNT") = search rules in
    let length_is : rule_of c.required-3.result ≡ required (codes "LENGTH") = search rules in
    let explore_is : app_of c.in_ok-explore.explore ≡ explore_app = c.in_ok-explore.ensures.shape (search rules)
    ∙ ap₂ with_rule (c.in_ok-arg-2.ensures.shape (search rules) ∙ ap₂ with_rule (c.in_ok-arg.ensures.shape (search rules) ∙ ap₂ with_rule c.new.ensures.app from_is) count_is) length_is in
    IfOk-weaker c.subcommand.result _ _ (λ r h. h.shape (rw (c.in_ok-explore.ensures.globals, c.in_ok-arg-2.ensures.globals, c.in_ok-arg.ensures.globals, c.new.ensures.local, c.required.ensures.local, c.required-2.ensures.local, c.required-3.ensures.local) refl) ∙ ap (λ (a : App). with_subcommand (app_of c.args.parent) a.top) explore_is) c.subcommand.ensures
