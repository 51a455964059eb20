-- `with_stops`: its promises, directly from definitions and clauses.
use Rattle.std.proofs.Common.{rules, refl, ap, ap₂, codes, ◌≡◌, ◌∙◌}
use Rattle.std.proofs.lemmas.Result.{IfOk-weaker}
use Rattle.clap.specs.Words.{App, app_of, rule_of, with_rule, with_subcommand}
use Rattle.amo_args.specs.Commands.{required, stops_app}
use Rattle.amo_args.proofs.commands.with_stops.Goals as goal

pub returns : goal.returns
returns c =
    let worker_is : rule_of c.required.result ≡ required (codes "WORKER") = search rules in
    let stops_is : app_of c.in_ok-stops.stops ≡ stops_app = c.in_ok-stops.ensures.shape (search rules) ∙ ap₂ with_rule c.new.ensures.app worker_is in
    IfOk-weaker c.subcommand.result _ _ (λ r h. h.shape (rw (c.in_ok-stops.ensures.globals, c.new.ensures.local, c.required.ensures.local) refl) ∙ ap (λ (a : App). with_subcommand (app_of c.args.parent) a.top) stops_is) c.subcommand.ensures
