-- The file of an automaton: a line for each node of its rows, by the names of its variables, and one for each state.
--     texts_of names                        names as bytes
--     child                       a state or a node, as a line names it
--     node_line names (number, line)        the line of the node with this number
--     state_line raw (number, row)          the line of the state with this number
--     state_lines raw rows                  the lines of states with these rows
--     Fits slots nodes line                 what is needed of a node's line where it is written
--     file_of raw names access suffixes     the file of version 1, where its access words and its suffixes are spelled so
use Rattle.std.specs.Prelude.{ℕ, ◌<◌, List, [], None, length, map, slice_index_or}
use Rattle.std.specs.List.{enumerate_from}
use Rattle.dcv_syntax.specs.declared.names.Name.{Name}
use Rattle.dcv_language.specs.Limits.{number_bound}
use Rattle.dcv_language.specs.declared.child.Child.{Child}
use Rattle.dcv_dfa.specs.declared.node_lines.NodeLine.{NodeLine as CodeNodeLine}
use Rattle.dcv_dfa.specs.Raw.{RawValue, is_accepting}
use Rattle.dcv_dfa.specs.NodeLines.{node_lines_of, IsBelow}
use Rattle.dcv_automaton_text.specs.File.{NodeLine, StateLine, AccessLine, SuffixLine, AutomatonFile}

abbrev pub texts_of : List Name → List (List ℕ)
texts_of names = map (λ (name : Name). name.text) names

-- ---- what the parts of a line stand for

-- ---- lines, of what has a number

abbrev pub node_line : List (List ℕ) → ℕ × CodeNodeLine → NodeLine
node_line names numbered =
    let line = numbered.1 in
    record { number = numbered.0; name = slice_index_or names line.slot []; hi = line.hi; lo = line.lo }

abbrev pub state_line : RawValue → ℕ × Child → StateLine
state_line raw numbered = record { number = numbered.0; accepting = is_accepting raw numbered.0; row = numbered.1 }

-- the lines of states with these rows
abbrev pub state_lines : RawValue → List Child → List StateLine
state_lines raw rows = map (state_line raw) (enumerate_from 0 rows)

-- the variable of a node's line is one of so many, and its children are there
pub record Fits (slots nodes : ℕ) (line : CodeNodeLine) : Type 0 where
  pub slot : line.slot < slots
  pub hi : IsBelow number_bound nodes line.hi
  pub lo : IsBelow number_bound nodes line.lo

-- ---- the file

unfoldable pub file_of : RawValue → List (List ℕ) → List AccessLine → List SuffixLine → AutomatonFile
file_of raw names access suffixes =
    let all = node_lines_of raw in
    record {
      names = names;
      states = length raw.rows;
      node_lines = map (node_line names) (enumerate_from 0 all.lines);
      state_lines = map (state_line raw) (enumerate_from 0 all.rows);
      access_lines = access;
      suffix_lines = suffixes;
      steps = None;
    }
