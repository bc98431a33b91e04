use Rattle.std.proofs.Common.{refl}
use Rattle.dcv_automaton_text.specs.Spelled.{spelled}
use Rattle.dcv_print.specs.Printed.{printed_file}
use Rattle.dcv_print.proofs.laws.printed_texts_are_read_back.Goals as goal

pub returns : goal.returns
returns c raw names access suffixes counts printable proof small =
    let file = printed_file raw names access suffixes counts in
    c.good_texts_are_read.ensures (spelled file) file
    (record { spellable = c.printed_texts_are_good.ensures.form raw names access suffixes counts printable proof small; spelled = refl })
    (c.printed_texts_are_good.ensures.rules raw names access suffixes counts printable proof small)
