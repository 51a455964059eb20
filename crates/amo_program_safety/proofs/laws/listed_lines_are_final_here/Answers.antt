-- `listed_lines_are_final_here`: its promises, by the lemmas of Commanding, Final and Forever.
use Rattle.amo_program_safety.proofs.Commanding.{calls_lead, records_lead}
use Rattle.amo_program_safety.proofs.Final.{finals_are_final}
use Rattle.amo_program_safety.proofs.Forever.{doubts_stay_final}
use Rattle.amo_program_safety.proofs.laws.listed_lines_are_final_here.Goals as goal

pub returns-clause-found : goal.returns-clause-found
returns-clause-found c steps process o command known left run is at i one = finals_are_final calls_lead records_lead steps process o command known left run is at i one

pub returns-clause-recorded : goal.returns-clause-recorded
returns-clause-recorded c steps more process i time run = doubts_stay_final calls_lead records_lead steps process i time more run
