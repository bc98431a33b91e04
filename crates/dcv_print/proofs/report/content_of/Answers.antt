use Rattle.std.proofs.Common.{refl}
use Rattle.dcv_automaton_text.specs.Spelled.{spelled}
use Rattle.dcv_print.specs.Listed.{listed_file, lustre_text, c_text}
use Rattle.dcv_print.proofs.Reports.{spells, says_node, says_unit, says_tables}
use Rattle.dcv_print.proofs.report.content_of.Goals as goal

pub returns-in_ok-new-in-Automaton-clause-says : goal.returns-in_ok-new-in-Automaton-clause-says
returns-in_ok-new-in-Automaton-clause-says c verdict =
    let all = c.in_ok-new-in-Automaton.ensures in
    rw c.in-Automaton.is (spells c.in_ok-new-in-Automaton.field-0 c.args.auto.now c.args.names.now c.args.counts.now all.auto all.names all.counts all.proof)

pub returns-in_ok-new-in-Lustre-clause-says : goal.returns-in_ok-new-in-Lustre-clause-says
returns-in_ok-new-in-Lustre-clause-says c verdict =
    let all = c.in_ok-new-in-Lustre.ensures in
    rw c.in-Lustre.is (says_node c.in_ok-new-in-Lustre.field-0 c.args.auto.now c.args.names.now all.auto all.names)

pub returns-in_ok-new-in-C-clause-says : goal.returns-in_ok-new-in-C-clause-says
returns-in_ok-new-in-C-clause-says c verdict =
    let all = c.in_ok-new-in-C.ensures in
    rw c.in-C.is (says_unit c.in_ok-new-in-C.field-0 c.args.auto.now c.args.names.now all.auto all.names)

pub returns-in_ok-new-in-Tables-clause-says : goal.returns-in_ok-new-in-Tables-clause-says
returns-in_ok-new-in-Tables-clause-says c verdict =
    let all = c.in_ok-new-in-Tables.ensures in
    rw c.in-Tables.is (says_tables c.in_ok-new-in-Tables.field-0 c.args.auto.now c.args.names.now all.auto all.names)

pub returns-in_ok-new-in-All-clause-says : goal.returns-in_ok-new-in-All-clause-says
returns-in_ok-new-in-All-clause-says c verdict =
    let listed = c.in_ok-new-in-All.field-0 in
    let all = c.in_ok-new-in-All.ensures in
    rw c.in-All.is (record {
      automaton = spelled (listed_file listed);
      node = lustre_text listed.lined;
      unit = c_text listed.lined;
      spells_automaton = spells listed c.args.auto.now c.args.names.now c.args.counts.now all.auto all.names all.counts all.proof;
      is_node = says_node listed.lined c.args.auto.now c.args.names.now all.auto all.names;
      is_unit = says_unit listed.lined c.args.auto.now c.args.names.now all.auto all.names;
      says = refl;
    })
