-- For private functions and proofs: what the expansion has in sight, in the words of `CoreOf`.
use Rattle.std.specs.Prelude.{◌≡◌, ℕ, ◌+◌, ◌<◌, true, false, List, [], ◌∷◌, ◌++◌, Some, map, length, if◌then◌else◌}
use Rattle.std.specs.Prelude.{Option, None, slice_index_or}
use Rattle.dcv_syntax.specs.declared.names.Span.{Span}
use Rattle.dcv_syntax.specs.declared.names.Name.{Name}
use Rattle.dcv_syntax.specs.declared.files.Macro.{Macro}
use Rattle.dcv_syntax.specs.declared.propositions.Prop.{Prop}
use Rattle.dcv_syntax.specs.declared.formulas.FormulaOperand.{FormulaOperand}
use Rattle.dcv_syntax.specs.Plain.{PlainPropKind, PropCall, no_arguments, PlainFormulaOperands, formula_operands_of}
use Rattle.dcv_syntax.specs.Views.{plain_prop_kind, plain_formula_operand, plain_macro}
use Rattle.dcv_logic.specs.Environment.{found}
use Rattle.dcv_logic.specs.Newest.{IsNewest}
use Rattle.dcv_scope.specs.declared.expansion.Meaning.{Meaning}
use Rattle.dcv_scope.specs.declared.expansion.Meaning.TheVariants.{Slot, Argument}
use Rattle.dcv_scope.specs.declared.expansion.Binding.{Binding}
use Rattle.dcv_scope.specs.declared.expansion.Called.{Called}
use Rattle.dcv_scope.specs.declared.expansion.Sight.{Sight as SightOfCode}
use Rattle.dcv_scope.specs.declared.measures.MacroMeasure.{MacroMeasure}
use Rattle.dcv_syntax.specs.declared.propositions.Connective.{Connective}
use Rattle.dcv_syntax.specs.declared.formulas.Bracket.TheVariants.{Point}
use Rattle.dcv_logic.specs.Connectives.{of_none}
use Rattle.dcv_core.specs.Core.{PlainTruth, TruthConstant, TruthSlot, PlainBasic, BasicConstant, BasicBracketed, CoreTree, CoreJoined, CoreChop}
use Rattle.dcv_scope.specs.CoreOf.{Sight, Expansion, PropExpansion, FormulaExpansion, expansion_of, with_expansions, declared_slots, truth_of}
use Rattle.dcv_core.specs.Steps.{PlainOp, OpJoined, OpChop}
use Rattle.dcv_scope.specs.Linear.{uses_parameter, AreMeasuresOf, variables_alone}
use Rattle.dcv_scope.specs.Unused.{PassesOver}
use Rattle.dcv_core.specs.TruthViews.{plain_truth}

-- what a name stands for
abbrev pub meant : Meaning → PlainTruth
meant (Slot slot) = TruthSlot slot
meant (Argument truth) = plain_truth truth.now

abbrev pub names_of : List Binding → List (List ℕ × PlainTruth)
names_of = map (λ (b : Binding). (b.name.now.text, meant b.meaning))

-- the declared variables and these macros
unfoldable pub top_sight_of : List Name → List Macro → Sight
top_sight_of variables macros =
    with_expansions (record { slots = length variables; truths = declared_slots 0 variables; macros = [] }) (map plain_macro macros)

-- what the code has in sight
abbrev pub sight_of : SightOfCode → Sight
sight_of s = record {
  slots = s.slots;
  truths = names_of s.names.items;
  macros = (top_sight_of s.variables.now s.macros.now).macros;
}

-- what a relay stands for is its argument at place j, whatever the others are
abbrev pub IsRelay : ℕ → Expansion → Type 0
IsRelay j (PropExpansion c) =
    (before : List PlainTruth) → length before ≡ j → (one : PlainTruth) (after : List PlainTruth) → c (before ++ one ∷ after) ≡ one
IsRelay j (FormulaExpansion c) = ⊥

-- a place is told of relays alone
abbrev pub IsRelayTo : Option ℕ → Expansion → Type 0
IsRelayTo None e = Unit {0}
IsRelayTo (Some j) e = IsRelay j e

-- of each macro, where those before it are in sight
abbrev pub AreRelays : List Name → List Macro → List (Option ℕ) → Type 0
AreRelays variables macros relays = (earlier : List Macro) (last : Macro) (after : List Macro) → macros ≡ earlier ++ last ∷ after
    → IsRelayTo (slice_index_or relays (length earlier) None) (expansion_of (top_sight_of variables earlier) (plain_macro last))

-- the name stands for such a macro
pub record IsRelayed (sight : Sight) (name : List ℕ) (j : ℕ) : Type 0 where
  pub free : found sight.truths name ≡ None
  pub expansion : Expansion
  pub stands : found sight.macros name ≡ Some expansion
  pub relay : IsRelay j expansion

-- the second list has no other names
abbrev pub HasNoOthers : List (List ℕ × PlainTruth) → List (List ℕ × PlainTruth) → Type 0
HasNoOthers truths others = (name : List ℕ) → found truths name ≡ None → found others name ≡ None

-- both propositions stand for the same, whatever these names stand for
abbrev pub StandAlike : Sight → PlainPropKind → PlainPropKind → Type 0
StandAlike sight p q = (truths : List (List ℕ × PlainTruth)) → HasNoOthers sight.truths truths
    → truth_of (record sight { truths = truths }) p ≡ truth_of (record sight { truths = truths }) q

-- parameters that stand for anything, and their places
abbrev pub parameter_slots : List Name → List (List ℕ × PlainTruth)
parameter_slots = map (λ (p : Name). (p.text, TruthSlot 0))

abbrev pub places_from : ℕ → List Name → List (List ℕ × ℕ)
places_from j [] = []
places_from j (name ∷ names) = (name.text, j) ∷ places_from (j + 1) names

-- the proposition is the parameter at place j
pub record IsParameter (parameters : List Name) (p : PlainPropKind) (j : ℕ) : Type 0 where
  pub name : Name
  pub is : p ≡ PropCall name no_arguments
  pub place : found (places_from 0 parameters) name.text ≡ Some j

-- the measures are those of the macros, and there are numbers enough for the variables
pub record IsSight (s : SightOfCode) : Type 0 where
  pub few : length s.variables.now < 256
  pub relays : AreRelays s.variables.now s.macros.now s.relays.now
  pub measured : AreMeasuresOf (variables_alone s.variables.now) (map plain_macro s.macros.now) s.measures.now

-- what a macro stands for does not depend on its argument at place j
abbrev pub ExpansionPassesOver : ℕ → Expansion → Type 0
ExpansionPassesOver j (PropExpansion c) = PassesOver j c
ExpansionPassesOver j (FormulaExpansion c) = (k : ℕ) → PassesOver j (c k)

-- this macro stands under a name, and its measure tells which arguments it uses
pub record IsCalled (s : SightOfCode) (name : List ℕ) (called : Called) : Type 0 where
  pub newest : IsNewest s.macros.now name called.defined.now called.macros.now
  pub few : length called.variables.now < 256
  pub measured : AreMeasuresOf (variables_alone called.variables.now) (map plain_macro called.macros.now) called.measures.now
  pub relays : AreRelays called.variables.now called.macros.now called.relays.now
  pub expansion : found (sight_of s).macros name ≡ Some (expansion_of (top_sight_of called.variables.now called.macros.now) (plain_macro called.defined.now))
  pub skips : (j : ℕ) → uses_parameter called.measure.now j ≡ false
      → ExpansionPassesOver j (expansion_of (top_sight_of called.variables.now called.macros.now) (plain_macro called.defined.now))

-- the arguments from place j on, where those that are not used are left out
abbrev pub used_from : MacroMeasure → ℕ → List PlainTruth → List PlainTruth
used_from measure j [] = []
used_from measure j (p ∷ truths) = (if uses_parameter measure j then p else TruthConstant false) ∷ used_from measure (j + 1) truths

-- the propositions of a list
abbrev pub truths_in : Sight → List Prop → List PlainTruth
truths_in sight = map (λ (p : Prop). truth_of sight (plain_prop_kind p.kind))

-- the joins of a list: by a connective, or by chops where there is none
abbrev pub join_of : Option Connective → CoreTree → CoreTree → Span → CoreTree
join_of (Some connective) = CoreJoined connective
join_of None = CoreChop

abbrev pub join_op : Option Connective → ℕ → ℕ → PlainOp
join_op (Some connective) = OpJoined connective
join_op None = OpChop

-- what a list without operands stands for
abbrev pub unit_of : Option Connective → PlainBasic
unit_of (Some connective) = BasicConstant (of_none connective)
unit_of None = BasicBracketed Point (TruthConstant true)

abbrev pub operands_of : List FormulaOperand → PlainFormulaOperands
operands_of operands = formula_operands_of (map plain_formula_operand operands)
