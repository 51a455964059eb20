-- The values of this crate, as the protocol has them.
use Rattle.std.specs.Prelude.{◌==◌, not, is_some, length, map}
use Rattle.amo_operator.specs.declared.deciding.Judgement.{Judgement}
use Rattle.amo_operator.specs.declared.probing.Seen.{Seen}
use Rattle.amo_operator.specs.declared.reading.Survey.{Survey}
use Rattle.amo_operator.specs.Judging.{Judged}
use Rattle.amo_operator.specs.Phase.{Known, Texts}

-- The texts that a survey has read.
abbrev pub texts_of : Survey → Texts
texts_of s = record {
  answers = map (λ text. text.items) s.answers.items;
  journals = map (λ journal. map (λ text. text.items) journal.items) s.journals.items;
  alive = s.alive.items;
  idle = s.idle.items;
}

-- The run that a command knows.
abbrev pub known_of : Seen → Known
known_of s = record {
  lines = s.jobs;
  findings = s.findings.items;
  journals = map (λ journal. journal.items) s.journals.items;
  alive = s.alive.items;
  finals = s.finals.items;
  records = s.records;
}

-- The state after answers were looked at.
abbrev pub judged_of : Judgement → Judged
judged_of j = record {
  findings = j.findings.items;
  fresh = j.fresh.items;
  is_early = not (length j.early.items == 0);
  runs = is_some j.running;
}
