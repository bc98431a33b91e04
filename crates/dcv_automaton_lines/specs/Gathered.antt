-- Lines as they are gathered, one after another, in a file.
--     PlainLine                 a line after the head as plain data
--     kind_of                   its kind
--     line_then version line    its words, each with the byte after it, and then the rest
--     IsLine line               its words are of the form
--     added file line           the file with one line more
--     section_words file        the lines after the head, up to the word that closes them
--     closed_by version kind    that word, where it has been read, and then the rest
--     IsOpen first file         there are no lines of a kind after this one
--     HasLines file             the words of the lines are of the form
use Rattle.std.specs.Prelude.{◌≡◌, ℕ, ◌<◌, List, [], ◌∷◌, ◌++◌, map}
use Rattle.std.specs.List.{All}
use Rattle.dcv_automaton_text.specs.File.{NodeLine, StateLine, AccessLine, SuffixLine, AutomatonFile}
use Rattle.dcv_automaton_text.specs.Form.{IsNodeLine, IsStateLine, IsAccessLine, IsSuffixLine}
use Rattle.dcv_automaton_text.specs.Spelled.{node_words, state_words, access_words, suffix_words}
use Rattle.dcv_automaton_lines.specs.Parts.{closing_then, rank, words_then}
use Rattle.dcv_automaton_lines.specs.Seen.{node_line_of, state_line_of, access_line_of, suffix_line_of}
use Rattle.dcv_automaton_lines.specs.declared.sections.Kind.{Kind}
use Rattle.dcv_automaton_lines.specs.declared.sections.Kind.TheVariants.{Node, State, Access, Suffix, Closing}
use Rattle.dcv_automaton_lines.specs.declared.version.Version.{Version}
use Rattle.dcv_automaton_lines.specs.declared.sections.Line.{Line}
use Rattle.dcv_automaton_lines.specs.declared.sections.Line.TheVariants.{Node as NodeVariant, State as StateVariant, Access as AccessVariant, Suffix as SuffixVariant, Closing as ClosingVariant}

pub data PlainLine : Type 0 where
  OfNode : (line : NodeLine) → PlainLine
  OfState : (line : StateLine) → PlainLine
  OfAccess : (line : AccessLine) → PlainLine
  OfSuffix : (line : SuffixLine) → PlainLine
  OfClosing : PlainLine

-- a line of the code
abbrev pub line_of : Line → PlainLine
line_of (NodeVariant line) = OfNode (node_line_of line)
line_of (StateVariant line) = OfState (state_line_of line)
line_of (AccessVariant line) = OfAccess (access_line_of line)
line_of (SuffixVariant line) = OfSuffix (suffix_line_of line)
line_of ClosingVariant = OfClosing

abbrev pub kind_of : PlainLine → Kind
kind_of (OfNode line) = Node
kind_of (OfState line) = State
kind_of (OfAccess line) = Access
kind_of (OfSuffix line) = Suffix
kind_of OfClosing = Closing

abbrev pub line_then : Version → PlainLine → List ℕ → List ℕ
line_then version (OfNode line) rest = words_then (node_words line) rest
line_then version (OfState line) rest = words_then (state_words line) rest
line_then version (OfAccess line) rest = words_then (access_words line) rest
line_then version (OfSuffix line) rest = words_then (suffix_words line) rest
line_then version OfClosing rest = closing_then version rest

abbrev pub IsLine : PlainLine → Type 0
IsLine (OfNode line) = IsNodeLine line
IsLine (OfState line) = IsStateLine line
IsLine (OfAccess line) = IsAccessLine line
IsLine (OfSuffix line) = IsSuffixLine line
IsLine OfClosing = Unit {0}

abbrev pub added : AutomatonFile → PlainLine → AutomatonFile
added file (OfNode line) = record file { node_lines = file.node_lines ++ line ∷ [] }
added file (OfState line) = record file { state_lines = file.state_lines ++ line ∷ [] }
added file (OfAccess line) = record file { access_lines = file.access_lines ++ line ∷ [] }
added file (OfSuffix line) = record file { suffix_lines = file.suffix_lines ++ line ∷ [] }
added file OfClosing = file

abbrev pub section_words : AutomatonFile → List (List (List ℕ))
section_words file =
    map node_words file.node_lines
    ++ (map state_words file.state_lines
    ++ (map access_words file.access_lines
    ++ map suffix_words file.suffix_lines))

abbrev pub closed_by : Version → Kind → List ℕ → List ℕ
closed_by version Node rest = rest
closed_by version State rest = rest
closed_by version Access rest = rest
closed_by version Suffix rest = rest
closed_by version Closing rest = closing_then version rest

pub record IsOpen (first : Kind) (file : AutomatonFile) : Type 0 where
  pub no_states : rank first < 1 → file.state_lines ≡ []
  pub no_access : rank first < 2 → file.access_lines ≡ []
  pub no_suffixes : rank first < 3 → file.suffix_lines ≡ []

pub record HasLines (file : AutomatonFile) : Type 0 where
  pub node_lines : All IsNodeLine file.node_lines
  pub state_lines : All IsStateLine file.state_lines
  pub access_lines : All IsAccessLine file.access_lines
  pub suffix_lines : All IsSuffixLine file.suffix_lines
