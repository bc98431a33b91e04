-- How clauses see the parts of the code. Their lists stand from the last element to the first.
--     seen_part part        the part
--     seen_words words      one that owns nothing
--     IsMeant part          it is a part of some body
use Rattle.std.specs.Prelude.{map, reverse, option_map}
use Rattle.dcv_observer.specs.Left.{seen}
use Rattle.dcv_lustre.specs.Actions.{Part, AToken, Tokens, ALocal, Locals, AnEquation, Equations, ARight, Maybe, Compared, Choice, ATest, Tests, ANode, Nothing}
use Rattle.dcv_lustre_read.specs.declared.parts.Words.{Words as CodeWords}
use Rattle.dcv_lustre_read.specs.declared.parts.Words.TheVariants.{Token as CodeToken, Local as CodeLocal, Maybe as CodeMaybe, Compared as CodeCompared, Test as CodeTest}
use Rattle.dcv_lustre_read.specs.declared.parts.Part.{Part as CodePart}
use Rattle.dcv_lustre_read.specs.declared.parts.Part.TheVariants.{Words as CodeWordsPart, Tokens as CodeTokens, Locals as CodeLocals, Equation as CodeEquation}
use Rattle.dcv_lustre_read.specs.declared.parts.Part.TheVariants.{Equations as CodeEquations, Right as CodeRight, Choice as CodeChoice, Tests as CodeTests, Node as CodeNode}
use Rattle.dcv_lustre_read.specs.Seen.{seen_local, seen_equation, seen_right, seen_arm, seen_test, seen_node}

abbrev pub seen_words : CodeWords → Part
seen_words (CodeToken item) = AToken (seen item)
seen_words (CodeLocal local) = ALocal (seen_local local)
seen_words (CodeMaybe item) = Maybe (option_map seen item)
seen_words (CodeCompared name number) = Compared (seen name) (option_map seen number)
seen_words (CodeTest test) = ATest (seen_test test)

abbrev pub seen_part : CodePart → Part
seen_part (CodeWordsPart words) = seen_words words
seen_part (CodeTokens items) = Tokens (reverse (map seen items.items))
seen_part (CodeLocals locals) = Locals (reverse (map seen_local locals.items))
seen_part (CodeEquation equation) = AnEquation (seen_equation equation)
seen_part (CodeEquations equations) = Equations (reverse (map seen_equation equations.items))
seen_part (CodeRight right) = ARight (seen_right right)
seen_part (CodeChoice arms otherwise) = Choice (reverse (map seen_arm arms.items)) (seen otherwise)
seen_part (CodeTests tests) = Tests (reverse (map seen_test tests.items))
seen_part (CodeNode placed) = ANode (seen_node placed.value)

abbrev pub IsMeant : Part → Type 0
IsMeant Nothing = ⊥
IsMeant part = Unit {0}
