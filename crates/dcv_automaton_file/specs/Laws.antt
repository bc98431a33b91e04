-- The laws that `src/laws.rt` proves.
--     HasFile raw names        this automaton has a file, with these names of its variables
use Rattle.std.specs.Prelude.{◌≡◌, ℕ, ◌≤◌, List, length}
use Rattle.dcv_language.specs.Limits.{most_states, most_nodes}
use Rattle.dcv_automaton_text.specs.File.{AccessLine, SuffixLine}
use Rattle.dcv_automaton_text.specs.Meaning.{table_of}
use Rattle.dcv_automaton_text.specs.Rules.{AreNames}
use Rattle.dcv_dfa.specs.Auto.{IsAuto, count_of_nodes, table_of_states}
use Rattle.dcv_dfa.specs.Raw.{RawValue, IsRaw}
use Rattle.dcv_automaton_file.specs.File.{file_of}

pub record HasFile (raw : RawValue) (names : List (List ℕ)) : Type 0 where
  pub is_raw : IsRaw raw
  pub auto : IsAuto raw
  pub are_names : AreNames names
  pub slots : length names ≡ raw.arena.slots
  pub states : length raw.rows ≤ most_states
  pub nodes : count_of_nodes raw ≤ most_nodes

-- the file stands for the automaton's table, however its access words and its suffixes are spelled
abbrev pub FileHasTheTable : Type 0
FileHasTheTable = (raw : RawValue) (names : List (List ℕ)) (access : List AccessLine) (suffixes : List SuffixLine)
    → HasFile raw names → table_of (file_of raw names access suffixes) ≡ table_of_states raw
