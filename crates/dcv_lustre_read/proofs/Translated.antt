-- What trees stand for, by the parts of the code.
use Rattle.std.proofs.Common.{◌≡◌, ℕ, List, [], ◌∷◌, refl, sym, ap, ◌∙◌, subst}
use Rattle.std.specs.Prelude.{Box}
use Rattle.std.specs.declared.alloc.Global.{Global}
use Rattle.dcv_translation.specs.Scheme.{IsOfBody}
use Rattle.dcv_observer.specs.Scheme.{over, StandsFor}
use Rattle.dcv_lustre.specs.Placed.{PlacedNode}
use Rattle.dcv_lustre.specs.Actions.{Part, ANode, Nothing, action, scheme, Spells}
use Rattle.dcv_lustre.proofs.EachTree.{rule_stands, tree_stands}
use Rattle.dcv_lustre_read.specs.declared.placed.PlacedNode.{PlacedNode as CodeNode}
use Rattle.dcv_lustre_read.specs.declared.parts.Part.{Part as CodePart}
use Rattle.dcv_lustre_read.specs.declared.parts.Part.TheVariants.{Node, Words as WordsPart}
use Rattle.dcv_lustre_read.specs.declared.parts.Words.{Words}
use Rattle.dcv_lustre_read.specs.declared.parts.Words.TheVariants.{Token}
use Rattle.dcv_lustre_read.specs.Symbols.{seen_part, seen_words, IsMeant}

meant : (part : Part) → (part ≡ Nothing → ⊥) → IsMeant part
meant Nothing some = some refl
meant _ some = tt

-- the parts of a body make a part of its rule
pub body_is_meant : (rule : ℕ) (parts : List Part) → IsOfBody (over scheme) rule parts → IsMeant (action rule parts)
body_is_meant rule parts of =
    meant (action rule parts) (λ none. rule_stands rule of.body of.trees of.is_body of.derived (ap (action rule) of.stand ∙ none))

-- what a text stands for is a node that it spells
pub node_spelled : (text : List ℕ) (part : Part) → StandsFor scheme text part → (placed : PlacedNode) × (part ≡ ANode placed) × Spells text placed
node_spelled text part stands =
    let (placed, is, words) = tree_stands stands.tree stands.is.derived in
    let same : part ∷ [] ≡ ANode placed ∷ [] = sym stands.stands ∙ is in
    let one : part ≡ ANode placed = cc in
    (placed, one, subst (StandsFor scheme text) one stands)

no_node : (words : Words) (placed : PlacedNode) → seen_words words ≡ ANode placed → ⊥
no_node (Token item) placed is = cc
no_node _ placed is = cc

-- the part of a node is the code's
pub node_in : (part : CodePart) (placed : PlacedNode) → seen_part part ≡ ANode placed → ((found : Box CodeNode Global) → part ≡ Node found → ⊥) → ⊥
node_in (Node found) placed is none = none found refl
node_in (WordsPart words) placed is none = no_node words placed is
node_in _ placed is none = cc
