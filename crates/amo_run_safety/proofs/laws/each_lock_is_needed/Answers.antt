-- `each_lock_is_needed`: its promises, by the lemmas of Needed.
use Rattle.amo_run_safety.proofs.Needed.{processes_actions, are_processes_actions, processes_truth, processes_patience, processes_lines, runners_actions, are_runners_actions, runners_truth, runners_patience, runners_lines, commands_actions, are_commands_actions, commands_truth, commands_patience, commands_lines, asking_actions, are_asking_actions, asking_truth, asking_patience, asking_lines, false_actions, are_false_actions, false_patience, false_lines}
use Rattle.amo_run_safety.proofs.laws.each_lock_is_needed.Goals as goal

pub returns-clause-journal : goal.returns-clause-journal
returns-clause-journal c = (processes_actions, are_processes_actions, processes_truth, processes_patience, processes_lines)

pub returns-clause-runner : goal.returns-clause-runner
returns-clause-runner c = (runners_actions, are_runners_actions, runners_truth, runners_patience, runners_lines)

pub returns-clause-command : goal.returns-clause-command
returns-clause-command c = (commands_actions, are_commands_actions, commands_truth, commands_patience, commands_lines)

pub returns-clause-asking : goal.returns-clause-asking
returns-clause-asking c = (asking_actions, are_asking_actions, asking_truth, asking_patience, asking_lines)

pub returns-clause-truth : goal.returns-clause-truth
returns-clause-truth c = (false_actions, are_false_actions, false_patience, false_lines)
