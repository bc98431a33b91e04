-- A first word that names no command is refused, and what is found after a name is what the command finds.
use Rattle.dcv_command.proofs.TakenWords.{taken_words_are_command_lines}
use Rattle.dcv_command.proofs.laws.taken_words_are_command_lines.Goals as goal

pub returns : goal.returns
returns c = taken_words_are_command_lines
