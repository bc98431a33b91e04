-- Each word that a rule of names judges has its judgement, so no judgement is lost.
use Rattle.std.proofs.Common.{◌≡◌, ℕ, List, [], ◌∷◌, ◌++◌, length, map, refl, sym, ◌∙◌, arith}
use Rattle.std.proofs.Common.{length-append}
use Rattle.std.specs.List.{flat_map, enumerate_from}
use Rattle.std.proofs.lemmas.List.{length-map}
use Rattle.std.proofs.lemmas.List.FromFn.{length-enumerate_from}
use Rattle.dcv_lexer.specs.Cuts.{Token}
use Rattle.dcv_lustre.specs.Tree.{Kind, OfNumber, Test, Local, Node}
use Rattle.dcv_lustre.specs.Placed.{PlacedArm, PlacedTest, PlacedRight, PlacedDelayed, PlacedChosen, PlacedTested, PlacedEquation, PlacedLocal}
use Rattle.dcv_lustre.specs.Placed.{PlacedNode, arm_of, test_of, right_of, equation_of, local_of, node_of}
use Rattle.dcv_lustre.specs.Meaning.{ok}
use Rattle.dcv_lustre.specs.Rules.{declared, keeps_declared, keeps_arm, keeps_right, keeps_name, keeps_equation, keeps_equations, kind_of}
use Rattle.dcv_lustre.specs.Rules.{has_all_equations, judged, words_of_right, words_of}

module _ (node : Node) where
  arm_words : (known : List (List ℕ)) (kind : Kind) (arms : List PlacedArm)
      → length (flat_map (keeps_arm node known kind) (map arm_of arms)) ≡ length (flat_map (λ (arm : PlacedArm). arm.name ∷ arm.item ∷ []) arms)
  arm_words known kind [] = refl
  arm_words known kind (arm ∷ arms) = omega (arith, arm_words known kind arms)

  right_words : (known : List (List ℕ)) (kind : Kind) (right : PlacedRight)
      → length (keeps_right node known kind (right_of right)) ≡ length (words_of_right right)
  right_words known kind (PlacedDelayed first source) = refl
  right_words known kind (PlacedChosen arms otherwise) =
      length-append (flat_map (keeps_arm node known kind) (map arm_of arms)) _
      ∙ (let same = arm_words known kind arms in
      omega (arith, same, length-append (flat_map (λ (arm : PlacedArm). arm.name ∷ arm.item ∷ []) arms) (otherwise ∷ [])))
  right_words known kind (PlacedTested tests) =
      length-map (map test_of tests) (λ (test : Test). keeps_name node known OfNumber test.name) ∙ length-map tests test_of ∙ sym (length-map tests (λ (test : PlacedTest). test.name))

  equation_words : (earlier : List (List ℕ)) (equations : List PlacedEquation)
      → length (keeps_equations node earlier (map equation_of equations)) ≡ length (flat_map (λ (equation : PlacedEquation). equation.left ∷ words_of_right equation.right) equations)
  equation_words earlier [] = refl
  equation_words earlier (equation ∷ equations) =
      let kept = keeps_equation node earlier (equation_of equation) in
      let one = right_words (node.inputs ++ earlier) (kind_of node equation.left.bytes) equation.right in
      let more = equation_words (equation.left.bytes ∷ earlier) equations in
      length-append kept (keeps_equations node (equation.left.bytes ∷ earlier) (map equation_of equations))
      ∙ omega (arith, one, more, length-append (words_of_right equation.right) (flat_map (λ (equation : PlacedEquation). equation.left ∷ words_of_right equation.right) equations))

pub as_many : (placed : PlacedNode) → length (words_of placed) ≡ length (judged (node_of placed))
unfolding words_of judged
as_many placed =
    let node = node_of placed in
    let names = enumerate_from 0 (declared node) in
    let equations = flat_map (λ (equation : PlacedEquation). equation.left ∷ words_of_right equation.right) placed.equations in
    let local_words = map (λ (local : PlacedLocal). local.name) placed.locals in
    let locals = map (λ (local : Local). local.name) (map local_of placed.locals) in
    let inputs = map (λ (token : Token). token.bytes) placed.inputs in
    let kept = keeps_equations node [] node.equations in
    let last = has_all_equations node in
    omega (
      arith,
      length-append placed.inputs (placed.output ∷ local_words ++ (equations ++ placed.tel ∷ [])),
      length-append local_words (equations ++ placed.tel ∷ []),
      length-append equations (placed.tel ∷ []),
      length-map placed.locals (λ (local : PlacedLocal). local.name),
      length-append (map (λ numbered. keeps_declared node numbered.0 numbered.1) names) (kept ++ last ∷ []),
      length-map names (λ numbered. keeps_declared node numbered.0 numbered.1),
      length-enumerate_from 0 (declared node),
      length-append inputs (ok ∷ locals),
      length-map placed.inputs (λ (token : Token). token.bytes),
      length-map (map local_of placed.locals) (λ (local : Local). local.name),
      length-map placed.locals local_of,
      length-append kept (last ∷ []),
      equation_words node [] placed.equations,
    )
