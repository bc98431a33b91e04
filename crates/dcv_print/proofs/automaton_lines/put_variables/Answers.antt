use Rattle.std.proofs.Common.{sym, codes}
use Rattle.dcv_automaton_text.specs.Spelled.{name_words}
use Rattle.dcv_print.specs.Printed.{texts_of}
use Rattle.dcv_print.proofs.Spellings.{line_is_spaced}
use Rattle.dcv_io.proofs.Putting.{puts_same, puts_both}
use Rattle.dcv_print.proofs.automaton_lines.put_variables.Goals as goal

pub returns : goal.returns
returns g c =
    puts_same _ _ _ _ (puts_both _ _ _ _ _ c.put.ensures (puts_both _ _ _ _ _ c.put_names.ensures c.put-2.ensures)) (sym (line_is_spaced (codes "variables") (name_words (texts_of c.args.names.now))))
