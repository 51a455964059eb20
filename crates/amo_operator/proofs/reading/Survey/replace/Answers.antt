-- `Survey::replace`: its promises, by the lemmas of Setting.
use Rattle.std.proofs.Common.{◌-◌, ℕ, List, map, ap}
use Rattle.amo_operator.proofs.Setting.{map_set}
use Rattle.amo_operator.proofs.reading.Survey.replace.Goals as goal

pub returns-in-Some-clause-texts : goal.returns-in-Some-clause-texts
returns-in-Some-clause-texts c =
    let s = c.args.self.now in
    ap (λ (js : List (List (List ℕ))). record {
      answers = map (λ text. text.items) s.answers.items;
      journals = js;
      alive = s.alive.items;
      idle = s.idle.items;
    }) (map_set (λ journal. map (λ text. text.items) journal.items) s.journals.items (c.args.worker - 1) c.args.texts)
