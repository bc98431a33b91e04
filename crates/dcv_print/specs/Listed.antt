-- An automaton with what its lines say beside it.
--     listed_file listed      the file that it spells
--     lustre_text lined       the text of its observer in the subset of Lustre
--     c_text lined            and in that of C
--     tables_text lined       and in constant tables of C
--     IsLined lined           it has few states and few nodes, the lines of nodes are its own, and each names a variable that there is
use Rattle.std.specs.Prelude.{◌≡◌, ◌<◌, ◌≤◌, ℕ, List, [], length}
use Rattle.std.specs.List.{All}
use Rattle.dcv_language.specs.Limits.{most_states, most_nodes}
use Rattle.dcv_automaton_text.specs.File.{AutomatonFile}
use Rattle.dcv_automaton_text.specs.Rules.{AreNames}
use Rattle.dcv_automaton_file.specs.File.{file_of}
use Rattle.dcv_dfa.specs.Auto.{count_of_nodes}
use Rattle.dcv_dfa.specs.NodeLines.{node_lines_of}
use Rattle.dcv_dfa.specs.declared.node_lines.NodeLine.{NodeLine}
use Rattle.dcv_c.specs.Layout as c
use Rattle.dcv_c.specs.Observer.{observer_of as unit_of}
use Rattle.dcv_c_tables.specs.Layout as tables
use Rattle.dcv_c_tables.specs.Observer.{tables_of}
use Rattle.dcv_lustre.specs.Layout as lustre
use Rattle.dcv_lustre.specs.Observer.{observer_of as node_of}
use Rattle.dcv_print.specs.Printed.{texts_of, printed_file}
use Rattle.dcv_print.specs.declared.automaton_lines.Lined.{Lined}
use Rattle.dcv_print.specs.declared.automaton_lines.Listed.{Listed}

abbrev pub listed_file : Listed → AutomatonFile
listed_file listed = printed_file listed.lined.auto.now (texts_of listed.lined.names.now) listed.proof.access listed.proof.suffixes listed.counts.now

-- the file's words and steps do not matter to an observer, so it has none
abbrev pub lustre_text : Lined → List ℕ
lustre_text lined = lustre.text_of (node_of (file_of lined.auto.now (texts_of lined.names.now) [] []))

abbrev pub c_text : Lined → List ℕ
c_text lined = c.text_of (unit_of (file_of lined.auto.now (texts_of lined.names.now) [] []))

abbrev pub tables_text : Lined → List ℕ
tables_text lined = tables.text_of (tables_of (file_of lined.auto.now (texts_of lined.names.now) [] []))

pub record IsLined (lined : Lined) : Type 0 where
  pub are_names : AreNames (texts_of lined.names.now)
  pub count : length lined.names.now ≡ lined.auto.now.arena.slots
  pub states : length lined.auto.now.rows ≤ most_states
  pub few : count_of_nodes lined.auto.now ≤ most_nodes
  pub lines : lined.nodes ≡ node_lines_of lined.auto.now
  pub below : All (λ (node : NodeLine). node.slot < length lined.names.now) lined.nodes.lines
