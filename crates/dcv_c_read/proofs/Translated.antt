-- What trees stand for, by the parts of the code.
use Rattle.std.proofs.Common.{◌≡◌, ℕ, List, [], ◌∷◌, refl, sym, ap, ◌∙◌, subst}
use Rattle.std.specs.Prelude.{Box}
use Rattle.std.specs.declared.alloc.Global.{Global}
use Rattle.dcv_translation.specs.Scheme.{IsOfBody}
use Rattle.dcv_observer.specs.Scheme.{over, StandsFor}
use Rattle.dcv_c.specs.Placed.{PlacedUnit}
use Rattle.dcv_c.specs.Actions.{Part, AUnit, Nothing, action, scheme, Spells}
use Rattle.dcv_c.proofs.EachTree.{rule_stands, tree_stands}
use Rattle.dcv_c_read.specs.declared.placed.PlacedUnit.{PlacedUnit as CodeUnit}
use Rattle.dcv_c_read.specs.declared.parts.Part.{Part as CodePart}
use Rattle.dcv_c_read.specs.declared.parts.Part.TheVariants.{Unit as CodeUnitPart, Words as WordsPart}
use Rattle.dcv_c_read.specs.declared.parts.Words.{Words}
use Rattle.dcv_c_read.specs.declared.parts.Words.TheVariants.{Token}
use Rattle.dcv_c_read.specs.Symbols.{seen_part, seen_words, IsMeant}

meant : (part : Part) → (part ≡ Nothing → ⊥) → IsMeant part
meant Nothing some = some refl
meant _ some = tt

-- the parts of a body make a part of its rule
pub body_is_meant : (rule : ℕ) (parts : List Part) → IsOfBody (over scheme) rule parts → IsMeant (action rule parts)
body_is_meant rule parts of =
    meant (action rule parts) (λ none. rule_stands rule of.body of.trees of.is_body of.derived (ap (action rule) of.stand ∙ none))

-- what a text stands for is a unit that it spells
pub unit_spelled : (text : List ℕ) (part : Part) → StandsFor scheme text part → (placed : PlacedUnit) × (part ≡ AUnit placed) × Spells text placed
unit_spelled text part stands =
    let (placed, is, words) = tree_stands stands.tree stands.is.derived in
    let same : part ∷ [] ≡ AUnit placed ∷ [] = sym stands.stands ∙ is in
    let one : part ≡ AUnit placed = cc in
    (placed, one, subst (StandsFor scheme text) one stands)

no_unit : (words : Words) (placed : PlacedUnit) → seen_words words ≡ AUnit placed → ⊥
no_unit (Token item) placed is = cc
no_unit _ placed is = cc

-- the part of a unit is the code's
pub unit_in : (part : CodePart) (placed : PlacedUnit) → seen_part part ≡ AUnit placed → ((found : Box CodeUnit Global) → part ≡ CodeUnitPart found → ⊥) → ⊥
unit_in (CodeUnitPart found) placed is none = none found refl
unit_in (WordsPart words) placed is none = no_unit words placed is
unit_in _ placed is none = cc
