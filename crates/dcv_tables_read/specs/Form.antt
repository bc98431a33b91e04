-- Which texts are units of tables by their form alone.
--     IsSmallNode node, IsSmallState state    their numbers have seven digits at most
--     IsNameWord name             a word of letters, digits and underscores
--     IsParameter parameter       `v_` and such a word
--     IsPlainUnit tables          a unit whose numbers are small and whose parameters are such words
--     HasForm text tables         the text is that of the unit
--     IsSyntaxFault text at       up to this byte the text begins one of the form, and no further
use Rattle.std.specs.Prelude.{◌≡◌, ℕ, ◌+◌, ◌<◌, IsTrue, List, length}
use Rattle.std.specs.List.{All, list_all}
use Rattle.dcv_tokens.specs.Tokens.{is_word_byte}
use Rattle.dcv_automaton_text.specs.Form.{IsNumber}
use Rattle.dcv_automaton_lines.specs.Pieces.{IsFaultAt}
use Rattle.dcv_c_tables.specs.Unit.{TableNode, TableState, Tables}
use Rattle.dcv_c_tables.specs.Observer.{parameter_name}
use Rattle.dcv_c_tables.specs.Layout.{text_of}

pub record IsSmallNode (node : TableNode) : Type 0 where
  pub variable : IsNumber node.variable
  pub high : IsNumber node.high
  pub low : IsNumber node.low

pub record IsSmallState (state : TableState) : Type 0 where
  pub row : IsNumber state.row

-- letters, digits and underscores, one or more
pub record IsNameWord (name : List ℕ) : Type 0 where
  pub some : 0 < length name
  pub bytes : IsTrue (list_all is_word_byte name)

pub record IsParameter (parameter : List ℕ) : Type 0 where
  pub name : List ℕ
  pub word : IsNameWord name
  pub is : parameter ≡ parameter_name name

-- ---- the form

pub record IsPlainUnit (tables : Tables) : Type 0 where
  pub nodes : All IsSmallNode tables.nodes
  pub states : All IsSmallState tables.states
  pub parameters : All IsParameter tables.parameters
  pub few_nodes : IsNumber (length tables.nodes)
  pub few_states : IsNumber (length tables.states)
  pub few_parameters : IsNumber (length tables.parameters)

pub record HasForm (text : List ℕ) (tables : Tables) : Type 0 where
  pub plain : IsPlainUnit tables
  pub spelled : text ≡ text_of tables

abbrev pub Form : List ℕ → Type 0
Form text = (tables : Tables) × HasForm text tables

pub record IsSyntaxFault (text : List ℕ) (at : ℕ) : Type 0 where
  pub left : List ℕ
  pub cut : length text ≡ at + length left
  pub fault : IsFaultAt Form text left
