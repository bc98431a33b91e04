use Rattle.dcv_tables_read.proofs.Chain.{ReadSoFar}
use Rattle.dcv_tables_read.proofs.StepTexts.{letters_from}
use Rattle.dcv_tables_read.proofs.functions.letters.Given as goal

abbrev pub invariant-loop-number : goal.invariant-loop-number
invariant-loop-number l = ReadSoFar (letters_from 0 l.names) l.text (letters_from l.number l.names) l.rest
