-- Each derivation tree of the grammar stands for a node: the parts that a body's symbols stand for are those of an equation.
use Rattle.std.proofs.Common.{◌≡◌, ℕ, List, [], ◌∷◌, Option, Some, None, refl, sym, ◌∙◌, subst, arith}
use Rattle.std.specs.Prelude.{⊤, slice_index_or}
use Rattle.std.specs.List.{AllByRecursion}
use Rattle.dcv_grammar.specs.declared.grammar.Symbol.{Symbol}
use Rattle.dcv_grammar.specs.declared.grammar.Symbol.TheVariants.{Rule}
use Rattle.dcv_grammar.specs.Grammar.{IsBody}
use Rattle.dcv_grammar.specs.Trees.{Nodes, AreTrees}
use Rattle.dcv_lexer.specs.Cuts.{Token}
use Rattle.dcv_observer.specs.Items.{token_class}
use Rattle.dcv_observer.specs.Scheme.{parts_of}
use Rattle.dcv_observer.proofs.Sorts.{Sorts, Agree, trees_stand, inner_stands}
use Rattle.dcv_lustre.specs.Classes.{lexicon}
use Rattle.dcv_lustre.specs.Language.{language}
use Rattle.dcv_lustre.specs.Placed.{PlacedNode, PlacedLocal, PlacedEquation, PlacedRight, PlacedArm, PlacedTest}
use Rattle.dcv_lustre.specs.Actions.{Part, AToken, Tokens, ALocal, Locals, AnEquation, Equations, ARight, Maybe, Compared, Choice, ATest, Tests}
use Rattle.dcv_lustre.specs.Actions.{ANode, Nothing, arm, right_part, actions, action, scheme}
use Rattle.dcv_lustre.specs.Words.{IsNameWord, IsNameOrNone, IsNumberOrNone, IsLiteralWord, IsItemWord, AreWordsOfArm, AreWordsOfTest, AreWordsOfRight}
use Rattle.dcv_lustre.specs.Words.{AreWordsOfEquation, AreWords}
use Rattle.dcv_lustre.specs.Laws.{SpelledWords}
use Rattle.dcv_lustre.proofs.TokenClasses.{plain_is_name, ok_is_name, is_number_word, number_literal, true_literal, false_literal, literal_item, name_item}

-- ---- sorts of parts

-- which parts a rule stands for
data Sort : Type 0 where
  -- whichever it is
  OfWord : Sort
  OfName : Sort
  OfNames : Sort
  OfLiteral : Sort
  OfItem : Sort
  OfLocal : Sort
  OfLocals : Sort
  OfEquation : Sort
  OfEquations : Sort
  OfRight : Sort
  -- a name or none
  OfDelay : Sort
  -- a number or none
  OfCompared : Sort
  OfCondition : Sort
  OfChoice : Sort
  OfTest : Sort
  OfTests : Sort
  OfNode : Sort

-- of each rule, in the order of their numbers
abbrev sorts : List Sort
sorts =
    OfNode ∷ OfNames ∷ OfName ∷ OfLocals ∷ OfLocals ∷ OfLocal ∷ OfWord ∷ OfEquations
    ∷ OfEquation ∷ OfRight ∷ OfDelay ∷ OfChoice ∷ OfCondition ∷ OfCompared ∷ OfTest ∷ OfTests
    ∷ OfItem ∷ OfLiteral ∷ OfName ∷ OfWord ∷ []

abbrev AreNameWords : List Token → Type 0
AreNameWords tokens = AllByRecursion IsNameWord tokens

abbrev AreWordsOfLocals : List PlacedLocal → Type 0
AreWordsOfLocals locals = AllByRecursion (λ (local : PlacedLocal). IsNameWord local.name) locals

record IsChoice (arms : List PlacedArm) (otherwise : Token) : Type 0 where
  arms_are : AllByRecursion AreWordsOfArm arms
  last : IsItemWord otherwise

record IsConditionWords (name : Token) (number : Option Token) : Type 0 where
  name_is : IsNameWord name
  number_is : IsNumberOrNone number

-- with what its words are
abbrev ValueOf : Sort → Type 0
ValueOf OfWord = Token
ValueOf OfName = (token : Token) × IsNameWord token
ValueOf OfNames = (tokens : List Token) × AreNameWords tokens
ValueOf OfLiteral = (token : Token) × IsLiteralWord token
ValueOf OfItem = (token : Token) × IsItemWord token
ValueOf OfLocal = (local : PlacedLocal) × IsNameWord local.name
ValueOf OfLocals = (locals : List PlacedLocal) × AreWordsOfLocals locals
ValueOf OfEquation = (equation : PlacedEquation) × AreWordsOfEquation equation
ValueOf OfEquations = (equations : List PlacedEquation) × AllByRecursion AreWordsOfEquation equations
ValueOf OfRight = (right : PlacedRight) × AreWordsOfRight right
ValueOf OfDelay = (source : Option Token) × IsNameOrNone source
ValueOf OfCompared = (number : Option Token) × IsNumberOrNone number
ValueOf OfCondition = (name : Token) × (number : Option Token) × IsConditionWords name number
ValueOf OfChoice = (arms : List PlacedArm) × (otherwise : Token) × IsChoice arms otherwise
ValueOf OfTest = (test : PlacedTest) × AreWordsOfTest test
ValueOf OfTests = (tests : List PlacedTest) × AllByRecursion AreWordsOfTest tests
ValueOf OfNode = (placed : PlacedNode) × AreWords placed

abbrev part_of : (sort : Sort) → ValueOf sort → Part
part_of OfWord value = AToken value
part_of OfName value = AToken value.0
part_of OfNames value = Tokens value.0
part_of OfLiteral value = AToken value.0
part_of OfItem value = AToken value.0
part_of OfLocal value = ALocal value.0
part_of OfLocals value = Locals value.0
part_of OfEquation value = AnEquation value.0
part_of OfEquations value = Equations value.0
part_of OfRight value = ARight value.0
part_of OfDelay value = Maybe value.0
part_of OfCompared value = Maybe value.0
part_of OfCondition value = Compared value.0 value.1
part_of OfChoice value = Choice value.0 value.1
part_of OfTest value = ATest value.0
part_of OfTests value = Tests value.0
part_of OfNode value = ANode value.0

abbrev IsOf : Sort → Part → Type 0
IsOf OfWord (AToken token) = ⊤
IsOf OfName (AToken token) = IsNameWord token
IsOf OfNames (Tokens tokens) = AreNameWords tokens
IsOf OfLiteral (AToken token) = IsLiteralWord token
IsOf OfItem (AToken token) = IsItemWord token
IsOf OfLocal (ALocal local) = IsNameWord local.name
IsOf OfLocals (Locals locals) = AreWordsOfLocals locals
IsOf OfEquation (AnEquation equation) = AreWordsOfEquation equation
IsOf OfEquations (Equations equations) = AllByRecursion AreWordsOfEquation equations
IsOf OfRight (ARight right) = AreWordsOfRight right
IsOf OfDelay (Maybe source) = IsNameOrNone source
IsOf OfCompared (Maybe number) = IsNumberOrNone number
IsOf OfCondition (Compared name number) = IsConditionWords name number
IsOf OfChoice (Choice arms otherwise) = IsChoice arms otherwise
IsOf OfTest (ATest test) = AreWordsOfTest test
IsOf OfTests (Tests tests) = AllByRecursion AreWordsOfTest tests
IsOf OfNode (ANode placed) = AreWords placed
IsOf sort part = ⊥

nothing_of : (sort : Sort) → IsOf sort Nothing → ⊥
nothing_of OfWord is = is
nothing_of OfName is = is
nothing_of OfNames is = is
nothing_of OfLiteral is = is
nothing_of OfItem is = is
nothing_of OfLocal is = is
nothing_of OfLocals is = is
nothing_of OfEquation is = is
nothing_of OfEquations is = is
nothing_of OfRight is = is
nothing_of OfDelay is = is
nothing_of OfCompared is = is
nothing_of OfCondition is = is
nothing_of OfChoice is = is
nothing_of OfTest is = is
nothing_of OfTests is = is
nothing_of OfNode is = is

value_in : (sort : Sort) (part : Part) → IsOf sort part → (value : ValueOf sort) × (part ≡ part_of sort value)
value_in OfWord (AToken value) is = (value, refl)
value_in OfName (AToken value) is = ((value, is), refl)
value_in OfNames (Tokens value) is = ((value, is), refl)
value_in OfLiteral (AToken value) is = ((value, is), refl)
value_in OfItem (AToken value) is = ((value, is), refl)
value_in OfLocal (ALocal value) is = ((value, is), refl)
value_in OfLocals (Locals value) is = ((value, is), refl)
value_in OfEquation (AnEquation value) is = ((value, is), refl)
value_in OfEquations (Equations value) is = ((value, is), refl)
value_in OfRight (ARight value) is = ((value, is), refl)
value_in OfDelay (Maybe value) is = ((value, is), refl)
value_in OfCompared (Maybe value) is = ((value, is), refl)
value_in OfCondition (Compared name number) is = ((name, number, is), refl)
value_in OfChoice (Choice arms otherwise) is = ((arms, otherwise, is), refl)
value_in OfTest (ATest value) is = ((value, is), refl)
value_in OfTests (Tests value) is = ((value, is), refl)
value_in OfNode (ANode value) is = ((value, is), refl)
value_in sort part is = absurd is

-- ---- what rules stand for

abbrev of_sorts : Sorts scheme
of_sorts = record { Sort = Sort; of_rules = sorts; otherwise = OfNode; ValueOf = ValueOf; part_of = part_of; IsOf = IsOf; value_in = value_in }

right_of_literal : (literal : Token) (source : Option Token) → IsLiteralWord literal → IsNameOrNone source → IsOf OfRight (right_part (AToken literal ∷ Maybe source ∷ []))
right_of_literal literal None is none = (tt, literal_item literal is)
right_of_literal literal (Some source) is named = (is.value, named)

arm_is : (name : Token) (number : Option Token) (item : Token) → IsConditionWords name number → IsItemWord item → AreWordsOfArm (arm name number item)
arm_is name number item condition is = record { name = condition.name_is; number = condition.number_is; item = is }

-- the body that a rule takes otherwise stands first
rules_agree : Agree of_sorts language.productions actions sorts
unfolding language
rules_agree = (
  (
    λ v.
        record {
          name = v.1.0.1;
          some_input = omega arith;
          inputs = (v.1.1.1.0.1, v.1.1.1.1.0.1);
          locals = v.1.1.1.1.1.1.1.0.1;
          equations = v.1.1.1.1.1.1.1.1.1.0.1;
        },
    tt,
  ),  -- node
  (
    (λ v. tt, (λ v. (v.1.0.1, v.1.1.0.1), tt)),  -- more_inputs
    (
      (λ v. v.0.1, tt),  -- input
      (
        (λ v. tt, (λ v. (v.1.0.1, v.1.1.0.1), tt)),  -- variables
        (
          (λ v. tt, (λ v. (v.0.1, v.1.0.1), tt)),  -- locals
          (
            (λ v. v.0.1, tt),  -- local
            (
              (λ v. tt, (λ v. tt, tt)),  -- kind
              (
                (λ v. tt, (λ v. (v.0.1, v.1.0.1), tt)),  -- equations
                (
                  (λ v. record { left = v.0.1; right = v.1.1.0.1 }, tt),  -- equation
                  (
                    (
                      λ v. (tt, name_item v.0.0 v.0.1),
                      (
                        λ v. right_of_literal v.0.0 v.1.0.0 v.0.1 v.1.0.1,
                        (
                          λ v.
                              let condition = v.1.0 in
                              let item = v.1.1.1.0 in
                              let choice = v.1.1.1.1.1.0 in
                              ((arm_is condition.0 condition.1 item.0 condition.2 item.1, choice.2.arms_are), choice.2.last),
                          (λ v. (omega arith, (v.0.1, v.1.0.1)), tt),
                        ),
                      ),
                    ),  -- right
                    (
                      (λ v. tt, (λ v. v.1.1.0.1, tt)),  -- delay
                      (
                        (
                          λ v. record { arms_are = tt; last = v.0.1 },
                          (
                            λ v.
                                let condition = v.1.0 in
                                let item = v.1.1.1.0 in
                                let choice = v.1.1.1.1.1.0 in
                                record { arms_are = (arm_is condition.0 condition.1 item.0 condition.2 item.1, choice.2.arms_are); last = choice.2.last },
                            tt,
                          ),
                        ),  -- choice
                        (
                          (λ v. record { name_is = v.0.1; number_is = v.1.0.1 }, tt),  -- condition
                          (
                            (λ v. tt, (λ v. is_number_word v.1.0.0.bytes v.1.0.1, tt)),  -- compared
                            (
                              (λ v. record { name = v.1.0.1; number = is_number_word v.1.1.1.0.0.bytes v.1.1.1.0.1 }, tt),  -- test
                              (
                                (λ v. tt, (λ v. (v.1.0.1, v.1.1.0.1), tt)),  -- more_tests
                                (
                                  (λ v. name_item v.0.0 v.0.1, (λ v. literal_item v.0.0 v.0.1, tt)),  -- item
                                  (
                                    (λ v. false_literal v.0.0 v.0.1, (λ v. number_literal v.0.0 v.0.1, (λ v. true_literal v.0.0 v.0.1, tt))),  -- literal
                                    (
                                      (λ v. plain_is_name v.0.0.bytes v.0.1, (λ v. ok_is_name v.0.0.bytes v.0.1, tt)),  -- name
                                      ((λ v. tt, tt), tt),
                                    ),
                                  ),
                                ),
                              ),
                            ),
                          ),
                        ),
                      ),
                    ),
                  ),
                ),
              ),
            ),
          ),
        ),
      ),
    ),
  ),
)  -- output

-- ---- what trees stand for

-- what is inside a node of a rule stands for a part
pub rule_stands : (number : ℕ) (body : List Symbol) (inner : Nodes Token) → IsBody language number body → AreTrees language (token_class lexicon) body inner
    → action number (parts_of scheme inner) ≡ Nothing → ⊥
rule_stands number body inner is are none =
    nothing_of (slice_index_or sorts number OfNode)
    (subst (IsOf (slice_index_or sorts number OfNode)) none (inner_stands of_sorts actions (λ parts. Nothing) (λ rule parts. refl) rules_agree number body inner is are))

pub tree_stands : (tree : Nodes Token) → AreTrees language (token_class lexicon) (Rule language.start ∷ []) tree
    → (placed : PlacedNode) × (parts_of scheme tree ≡ ANode placed ∷ []) × AreWords placed
unfolding language
tree_stands tree are = let (values, is) = trees_stand of_sorts actions (λ parts. Nothing) (λ rule parts. refl) rules_agree (Rule language.start ∷ []) tree are in (values.0.0, is, values.0.1)

-- so the words of a node that a text spells are what the grammar asks
pub words_spelled : SpelledWords
words_spelled text placed spells =
    let (other, stands_too, words) = tree_stands spells.tree spells.is.derived in
    let parts : ANode other ∷ [] ≡ ANode placed ∷ [] = sym stands_too ∙ spells.stands in
    let same : other ≡ placed = cc in
    subst AreWords same words
