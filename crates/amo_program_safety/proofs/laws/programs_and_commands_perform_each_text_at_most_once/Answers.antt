-- `programs_and_commands_perform_each_text_at_most_once`: its promises, by the lemmas of Lists.
use Rattle.amo_program_safety.specs.Steps.{machine_of}
use Rattle.amo_program_safety.proofs.Lists.{each_is_handed, each_has_text, texts_differ}
use Rattle.amo_program_safety.proofs.laws.programs_and_commands_perform_each_text_at_most_once.Goals as goal

pub returns-clause-handed : goal.returns-clause-handed
returns-clause-handed c list steps more process serial line text few run reads = each_is_handed list few steps more process serial line text run reads

pub returns-clause-performed : goal.returns-clause-performed
returns-clause-performed c list steps few run reads h one = each_has_text list few steps run reads h one

pub returns-clause-once : goal.returns-clause-once
returns-clause-once c list steps few differ run reads =
    texts_differ list few differ (machine_of steps).world.performed (c.programs_and_commands_perform_each_line_at_most_once.ensures steps run) (each_has_text list few steps run reads)
