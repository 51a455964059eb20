-- `refused_option`: its promises, by the lemmas of First and Refused.
use Rattle.std.proofs.Common.{ℕ, List, Bor}
use Rattle.amo_fs.specs.Mounts.{seen}
use Rattle.amo_fs.specs.Options.{all_options, refused_option, IsFirstRefused, NoneRefused}
use Rattle.amo_fs.proofs.First.{in_ok, if_some, if_none}
use Rattle.amo_fs.proofs.Refused.{option_is, no_option_is}
use Rattle.amo_fs.proofs.option.refused_option.Goals as goal

pub returns-clause-found : goal.returns-clause-found
returns-clause-found c =
    let m = seen c.args.mount.now in
    in_ok c.find_option.result c.find_option.ensures (λ o is. if_some (λ (option : Bor (List ℕ)). option.now) (λ option. IsFirstRefused (all_options m) option) (refused_option m) (λ option e. option_is m option e) o is)

pub returns-clause-none : goal.returns-clause-none
returns-clause-none c =
    let m = seen c.args.mount.now in
    in_ok c.find_option.result c.find_option.ensures (λ o is. if_none (λ (option : Bor (List ℕ)). option.now) (NoneRefused (all_options m)) (refused_option m) (λ e. no_option_is m e) o is)
