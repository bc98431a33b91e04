-- What a node means: its equations hold at each instant, whatever their order.
--     ok, tick                          the output, and the input of a node that has no variables
--     names_of node                     the inputs, the output and the locals
--     Valuation                         a value for each of these names, in their order
--     value_in node valuation name      the value that a name has
--     right_value before now right      what a right side is, by what names had at the instant before, if there was one, and have now
--     IsInstant node before now letter  at one instant the inputs have the letter's values, and every equation holds
--     IsTrace node word trace           so it is at each instant of the word
--     Accepts node word                 a trace over the word has the output true at the last instant
use Rattle.std.specs.Prelude.{◌≡◌, ℕ, Bool, false, nat_eq, bytes_eq, IsTrue, if◌then◌else◌, List, [], ◌∷◌, ◌++◌, Option, Some, None, length, map}
use Rattle.std.specs.Prelude.{slice_index_or, codes}
use Rattle.std.specs.List.{All, list_any, position_or_len}
use Rattle.dcv_word.specs.Behaviour.{Word}
use Rattle.dcv_lustre.specs.Tree.{Value, Truth, Number, Item, Constant, Named, Condition, Holds, Equals, Arm, Test, Right, Delayed, Chosen, Tested}
use Rattle.dcv_lustre.specs.Tree.{Equation, Local, Node}

abbrev pub ok : List ℕ
ok = codes "ok"

abbrev pub tick : List ℕ
tick = codes "tick"

abbrev pub local_names : Node → List (List ℕ)
local_names node = map (λ (local : Local). local.name) node.locals

abbrev pub names_of : Node → List (List ℕ)
names_of node = node.inputs ++ (ok ∷ local_names node)

-- ---- letters

-- the only input is `tick`
abbrev pub has_only_tick : List (List ℕ) → Bool
has_only_tick [] = false
has_only_tick (input ∷ []) = bytes_eq input tick
has_only_tick (input ∷ other ∷ inputs) = false

-- how many variables a letter has
abbrev pub width_of : Node → ℕ
width_of node = if has_only_tick node.inputs then 0 else length node.inputs

-- `tick` is false at every instant
abbrev pub inputs_at : Node → List Bool → List Bool
inputs_at node letter = if has_only_tick node.inputs then false ∷ letter else letter

-- ---- values

abbrev pub Valuation : Type 0
Valuation = List Value

abbrev pub value_in : Node → Valuation → List ℕ → Value
value_in node valuation name = slice_index_or valuation (position_or_len (bytes_eq name) (names_of node)) (Truth false)

abbrev pub is_true : Value → Bool
is_true (Truth truth) = truth
is_true (Number number) = false

abbrev pub is_number : Value → ℕ → Bool
is_number (Truth truth) other = false
is_number (Number number) other = nat_eq number other

-- what names have
abbrev pub Values : Type 0
Values = List ℕ → Value

abbrev pub item_value : Values → Item → Value
item_value now (Constant value) = value
item_value now (Named name) = now name

abbrev pub holds : Values → Condition → Bool
holds now (Holds name) = is_true (now name)
holds now (Equals name number) = is_number (now name) number

abbrev pub chosen_value : Values → List Arm → Item → Value
chosen_value now [] otherwise = item_value now otherwise
chosen_value now (arm ∷ arms) otherwise = if holds now arm.condition then item_value now arm.item else chosen_value now arms otherwise

abbrev pub passes : Values → Test → Bool
passes now test = is_number (now test.name) test.number

abbrev pub delayed_value : Option Values → Value → List ℕ → Value
delayed_value None first source = first
delayed_value (Some before) first source = before source

abbrev pub right_value : Option Values → Values → Right → Value
right_value before now (Delayed first source) = delayed_value before first source
right_value before now (Chosen arms otherwise) = chosen_value now arms otherwise
right_value before now (Tested tests) = Truth (list_any (passes now) tests)

-- ---- traces

pub record IsInstant (node : Node) (before : Option Values) (now : Valuation) (letter : List Bool) : Type 0 where
  pub count : length now ≡ length (names_of node)
  pub inputs : map (value_in node now) node.inputs ≡ map Truth (inputs_at node letter)
  pub equations : All (λ (equation : Equation). value_in node now equation.left ≡ right_value before (value_in node now) equation.right) node.equations

abbrev pub IsTraceFrom : Node → Option Values → Word → List Valuation → Type 0
IsTraceFrom node before [] [] = Unit {0}
IsTraceFrom node before [] (now ∷ trace) = ⊥
IsTraceFrom node before (letter ∷ word) [] = ⊥
IsTraceFrom node before (letter ∷ word) (now ∷ trace) = IsInstant node before now letter × IsTraceFrom node (Some (value_in node now)) word trace

-- no instant is before the first
abbrev pub IsTrace : Node → Word → List Valuation → Type 0
IsTrace node word trace = IsTraceFrom node None word trace

-- whether the output is true at the last instant
abbrev pub is_ok : Node → List Valuation → Bool
is_ok node [] = false
is_ok node (now ∷ []) = is_true (value_in node now ok)
is_ok node (now ∷ next ∷ trace) = is_ok node (next ∷ trace)

pub record Accepts (node : Node) (word : Word) : Type 0 where
  pub trace : List Valuation
  pub is : IsTrace node word trace
  pub accepted : IsTrue (is_ok node trace)
