-- How clauses see a node of the code, in which a name stands by its place: the inputs first, then the output, then the locals.
use Rattle.std.specs.Prelude.{ℕ, List, ◌∷◌, ◌++◌, map}
pub use Rattle.dcv_observer.specs.Conditions.{Names, name_at, seen_condition, seen_test}
use Rattle.dcv_lustre.specs.declared.node.Value.{Value as CodeValue}
use Rattle.dcv_lustre.specs.declared.node.Value.TheVariants.{Truth as CodeTruth, Number as CodeNumber}
use Rattle.dcv_lustre.specs.declared.node.Kind.{Kind as CodeKind}
use Rattle.dcv_lustre.specs.declared.node.Kind.TheVariants.{OfTruth as CodeOfTruth, OfNumber as CodeOfNumber}
use Rattle.dcv_lustre.specs.declared.node.Item.{Item as CodeItem}
use Rattle.dcv_lustre.specs.declared.node.Item.TheVariants.{Constant as CodeConstant, Named as CodeNamed}
use Rattle.dcv_lustre.specs.declared.node.Arm.{Arm as CodeArm}
use Rattle.dcv_lustre.specs.declared.node.Right.{Right as CodeRight}
use Rattle.dcv_lustre.specs.declared.node.Right.TheVariants.{Delayed as CodeDelayed, Chosen as CodeChosen, Tested as CodeTested}
use Rattle.dcv_lustre.specs.declared.node.Equation.{Equation as CodeEquation}
use Rattle.dcv_lustre.specs.declared.node.Local.{Local as CodeLocal}
use Rattle.dcv_lustre.specs.Tree.{Value, Truth, Number, Kind, OfTruth, OfNumber, Item, Constant, Named, Arm, Right}
use Rattle.dcv_lustre.specs.Tree.{Delayed, Chosen, Tested, Equation, Local, Node}
use Rattle.dcv_lustre.specs.Meaning.{ok}
use Rattle.dcv_lustre.specs.Rules.{IsWellNamed}
use Rattle.dcv_lustre.specs.Form.{IsSpellable}

abbrev pub seen_value : CodeValue → Value
seen_value (CodeTruth truth) = Truth truth
seen_value (CodeNumber number) = Number number

abbrev pub seen_kind : CodeKind → Kind
seen_kind CodeOfTruth = OfTruth
seen_kind CodeOfNumber = OfNumber

abbrev pub seen_item : Names → CodeItem → Item
seen_item names (CodeConstant value) = Constant (seen_value value)
seen_item names (CodeNamed place) = Named (name_at names place)

abbrev pub seen_arm : Names → CodeArm → Arm
seen_arm names arm = record { condition = seen_condition names arm.condition; item = seen_item names arm.item }

abbrev pub seen_right : Names → CodeRight → Right
seen_right names (CodeDelayed first source) = Delayed (seen_value first) (name_at names source)
seen_right names (CodeChosen arms otherwise) = Chosen (map (seen_arm names) arms.items) (seen_item names otherwise)
seen_right names (CodeTested tests) = Tested (map (seen_test names) tests.items)

abbrev pub seen_equation : Names → CodeEquation → Equation
seen_equation names equation = record { left = name_at names equation.left; right = seen_right names equation.right }

abbrev pub seen_local : CodeLocal → Local
seen_local local = record { name = local.name; kind = seen_kind local.kind }

abbrev pub all_names : Names → List CodeLocal → Names
all_names inputs locals = inputs ++ (ok ∷ map (λ (local : Local). local.name) (map seen_local locals))

abbrev pub seen_node : List ℕ → Names → List CodeLocal → List CodeEquation → Node
seen_node name inputs locals equations =
    record {
      name = name;
      inputs = inputs;
      locals = map seen_local locals;
      equations = map (seen_equation (all_names inputs locals)) equations;
    }

pub record IsNode (name : List ℕ) (inputs : Names) (locals : List CodeLocal) (equations : List CodeEquation) : Type 0 where
  pub well_named : IsWellNamed (seen_node name inputs locals equations)
  -- so each place is that of a name: a name is not empty
  pub spellable : IsSpellable (seen_node name inputs locals equations)
