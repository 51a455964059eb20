-- `refused_default`: its promises, by the lemmas of First and Refused.
use Rattle.std.proofs.Common.{ℕ, List, Bor}
use Rattle.amo_fs.specs.Options.{refused_default, IsFirstRefused, NoneRefused}
use Rattle.amo_fs.specs.Parts.{lines_of}
use Rattle.amo_fs.proofs.First.{in_ok, if_some, if_none}
use Rattle.amo_fs.proofs.Refused.{default_is, no_default_is}
use Rattle.amo_fs.proofs.option.refused_default.Goals as goal

pub returns-clause-found : goal.returns-clause-found
returns-clause-found c =
    let text = c.args.text.now in
    in_ok c.find_default.result c.find_default.ensures (λ o is. if_some (λ (option : Bor (List ℕ)). option.now) (λ option. IsFirstRefused (lines_of text) option) (refused_default text) (λ option e. default_is text option e) o is)

pub returns-clause-none : goal.returns-clause-none
returns-clause-none c =
    let text = c.args.text.now in
    in_ok c.find_default.result c.find_default.ensures (λ o is. if_none (λ (option : Bor (List ℕ)). option.now) (NoneRefused (lines_of text)) (refused_default text) (λ e. no_default_is text e) o is)
