-- The parts make up a node that keeps the rules.
use Rattle.std.proofs.Common.{◌≡◌, ℕ, List, ◌∷◌, ◌++◌, map, None, sym, ap, subst, ◌∙◌}
use Rattle.dcv_lustre.specs.declared.node.Local.{Local as CodeLocal}
use Rattle.dcv_lustre.specs.declared.node.Equation.{Equation as CodeEquation}
use Rattle.dcv_observer.specs.Conditions.{Names}
use Rattle.dcv_observer.proofs.Readings.{well_named_if_unbroken}
use Rattle.dcv_lustre.specs.Tree.{Local}
use Rattle.dcv_lustre.specs.Meaning.{ok, names_of}
use Rattle.dcv_lustre.specs.Seen.{seen_local, seen_equation, seen_node, IsNode}
use Rattle.dcv_lustre.specs.Placed.{PlacedNode, node_of}
use Rattle.dcv_lustre.specs.Rules.{IsWellNamed}
use Rattle.dcv_lustre.specs.Form.{IsSpellable}
use Rattle.dcv_lustre.specs.Words.{AreWords}
use Rattle.dcv_lustre.proofs.Readings.{is_subset}
use Rattle.dcv_lustre_read.specs.Contents.{first_fault_of}
use Rattle.dcv_lustre_read.proofs.Spellable.{words_are_spellable}

module _ (placed : PlacedNode) (name : List ℕ) (inputs : Names) (locals : List CodeLocal) (equations : List CodeEquation) where
  pub node_is : name ≡ (node_of placed).name → inputs ≡ (node_of placed).inputs → map seen_local locals ≡ (node_of placed).locals
      → map (seen_equation (names_of (node_of placed))) equations ≡ (node_of placed).equations → seen_node name inputs locals equations ≡ node_of placed
  node_is name_is inputs_are locals_are equations_are =
      let names : inputs ++ (ok ∷ map (λ (local : Local). local.name) (map seen_local locals)) ≡ names_of (node_of placed) =
      λ i. inputs_are i ++ (ok ∷ map (λ (local : Local). local.name) (locals_are i)) in
      let equations_then = ap (λ (ns : Names). map (seen_equation ns) equations) names ∙ equations_are in
      λ i. record { name = name_is i; inputs = inputs_are i; locals = locals_are i; equations = equations_then i }

  pub is_node : AreWords placed → first_fault_of placed ≡ None → seen_node name inputs locals equations ≡ node_of placed → IsNode name inputs locals equations
  is_node words unbroken is =
      record {
        well_named = subst IsWellNamed (sym is) (well_named_if_unbroken is_subset placed unbroken);
        spellable = subst IsSpellable (sym is) (words_are_spellable placed words);
      }
