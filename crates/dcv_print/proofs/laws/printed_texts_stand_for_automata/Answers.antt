use Rattle.std.proofs.Common.{refl}
use Rattle.dcv_print.proofs.PrintedAutomata.{printed_table}
use Rattle.dcv_print.proofs.PrintedWords.{printed_access, printed_suffixes}
use Rattle.dcv_print.proofs.laws.printed_texts_stand_for_automata.Goals as goal

pub returns : goal.returns
returns c =
    record {
      table = printed_table c.lines_are_of_tables.ensures.lead;
      access = printed_access;
      suffixes = printed_suffixes;
      steps = λ raw names access suffixes counts. (refl, refl);
    }
