-- Observers, and the replays that follow them.
--     Observer                          a node of Lustre, a unit of C, or a unit of constant tables of C
--     width_of observer                 how many variables its letters have
--     Accepts observer word             it accepts the word, by its own meaning
--     KeepsTheRules observer            it keeps the rules of its language
--     HasStore observer word replay     what the replay keeps for the observer's names is what they have after the word
--     Follows observer word replay      so it is, also after all letters that may come; and the replay's answers are the observer's
--     AreAnswers observer before ..     the lines of the answers to letters, after a word
use Rattle.std.specs.Prelude.{◌≡◌, ◌↔◌, ℕ, ◌+◌, Bool, IsTrue, if◌then◌else◌, List, [], ◌∷◌, ◌++◌, length, map, take, drop}
use Rattle.dcv_word.specs.Behaviour.{Word, IsBehaviour}
use Rattle.dcv_language.specs.Automaton.{state_after}
use Rattle.dcv_lustre.specs.Tree.{Node, Value, Truth, Number}
use Rattle.dcv_lustre.specs.Meaning as lustre
use Rattle.dcv_lustre.specs.Rules as lustre_rules
use Rattle.dcv_c.specs.Tree.{CUnit}
use Rattle.dcv_c.specs.Meaning as c
use Rattle.dcv_c.specs.Rules as c_rules
use Rattle.dcv_c_tables.specs.Unit.{Tables as TablesUnit}
use Rattle.dcv_c_tables.specs.Meaning as tables
use Rattle.dcv_c_tables.specs.Rules.{IsTables}
use Rattle.dcv_replay.specs.TraceText.{AreWide}
use Rattle.dcv_replay.specs.Answers.{answer_line}
use Rattle.dcv_replay.specs.Program.{ReplayValue, first_name, number_in, advanced, rest_of}

pub data Observer : Type 0 where
  Lustre : (node : Node) → Observer
  C : (unit : CUnit) → Observer
  Tables : (unit : TablesUnit) → Observer

abbrev pub width_of : Observer → ℕ
width_of (Lustre node) = lustre.width_of node
width_of (C unit) = c.width_of unit
width_of (Tables unit) = length unit.parameters

-- the observer accepts a word that is not empty
abbrev pub Accepts : Observer → Word → Type 0
Accepts (Lustre node) word = lustre.Accepts node word
Accepts (C unit) word = IsTrue (c.unit_accepts unit word)
Accepts (Tables unit) word = IsTrue (tables.tables_accept unit word)

-- it keeps its language's rules: those of names, or those by which each step of tables ends
abbrev pub KeepsTheRules : Observer → Type 0
KeepsTheRules (Lustre node) = lustre_rules.IsWellNamed node
KeepsTheRules (C unit) = c_rules.IsWellNamed unit
KeepsTheRules (Tables unit) = IsTables unit

-- ---- stores

-- what a replay keeps for the first names
abbrev pub numbers_of : ℕ → ReplayValue → List ℕ
numbers_of count replay = take count (drop first_name replay.store)

-- a value of Lustre as it is kept: the first two numbers stand for the truths
abbrev pub value_number : Value → ℕ
value_number (Truth truth) = if truth then 1 else 0
value_number (Number number) = number + 2

-- the values of the last instant; there is none after the empty word
abbrev pub AreOfLast : List ℕ → List lustre.Valuation → Type 0
AreOfLast numbers [] = Unit {0}
AreOfLast numbers (now ∷ []) = numbers ≡ map value_number now
AreOfLast numbers (now ∷ next ∷ trace) = AreOfLast numbers (next ∷ trace)

-- The store of a node is what its names had at the last instant of the trace, that of a unit the numbers of its statics, and that of tables the state.
abbrev pub HasStore : Observer → Word → ReplayValue → Type 0
HasStore (Lustre node) word replay =
    (trace : List lustre.Valuation) → lustre.IsTrace node word trace → AreOfLast (numbers_of (length (lustre.names_of node)) replay) trace
HasStore (C unit) word replay = numbers_of (length unit.statics) replay ≡ (state_after (c.automaton_of_unit unit) word).store
HasStore (Tables unit) word replay = number_in replay.store 0 ≡ (state_after (tables.automaton_of_tables unit) word).state

-- ---- replays

-- The replay stands where the observer does after the word, whatever letters come next.
pub record Follows (observer : Observer) (word : Word) (replay : ReplayValue) : Type 0 where
  pub width : replay.program.width ≡ width_of observer
  pub store : (more : Word) → AreWide (width_of observer) more → HasStore observer (word ++ more) (advanced replay more)
  pub answers : (more : Word) → IsBehaviour (width_of observer) more → IsTrue (rest_of replay more) ↔ Accepts observer (word ++ more)

-- a line for each letter, which says whether the word up to it and with it is accepted
abbrev pub AreAnswers : Observer → Word → Word → List ℕ → Type 0
AreAnswers observer before [] text = text ≡ []
AreAnswers observer before (letter ∷ letters) text =
    (answer : Bool) × (after : List ℕ)
    × (IsTrue answer ↔ Accepts observer (before ++ letter ∷ []))
    × (text ≡ answer_line answer ++ after)
    × AreAnswers observer (before ++ letter ∷ []) letters after
