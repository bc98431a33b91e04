-- Each derivation tree of the grammar stands for a unit: the parts that a body's symbols stand for are those of an equation. Its words are
-- what the grammar asks.
use Rattle.std.proofs.Common.{◌≡◌, ℕ, List, [], ◌∷◌, Option, Some, None, refl, sym, ◌∙◌, subst, arith}
use Rattle.std.specs.Prelude.{⊤, slice_index_or}
use Rattle.std.specs.List.{AllByRecursion}
use Rattle.dcv_grammar.specs.declared.grammar.Symbol.{Symbol}
use Rattle.dcv_grammar.specs.declared.grammar.Symbol.TheVariants.{Rule}
use Rattle.dcv_grammar.specs.Grammar.{IsBody}
use Rattle.dcv_grammar.specs.Trees.{Nodes, AreTrees}
use Rattle.dcv_lexer.specs.Cuts.{Token}
use Rattle.dcv_observer.specs.Items.{token_class}
use Rattle.dcv_observer.specs.Scheme.{parts_of}
use Rattle.dcv_observer.proofs.Sorts.{Sorts, Agree, trees_stand, inner_stands}
use Rattle.dcv_c.specs.Classes.{lexicon}
use Rattle.dcv_c.specs.Language.{language}
use Rattle.dcv_c.specs.Placed.{PlacedUnit, PlacedAssignment, PlacedStatement, PlacedRight, PlacedChoice, PlacedReturned, PlacedTest, PlacedTests}
use Rattle.dcv_c.specs.Actions.{Part, AToken, Tokens, AnAssignment, Assignments, AReset, AStatement, Statements, ARight, Choice, Maybe, Compared}
use Rattle.dcv_c.specs.Actions.{AReturned, ATest, Tests, Behind, AStep, AUnit, Nothing, right_part, returned_part, actions, action, scheme}
use Rattle.dcv_c.specs.Words.{IsNameWord, IsNumberWord, IsNumberOrNone, IsItemWord, AreWordsOfAssignment, AreWordsOfTest, AreWordsOfChoice}
use Rattle.dcv_c.specs.Words.{AreWordsOfRight, AreWordsOfStatement, AreWordsOfReturned, AreWords}
use Rattle.dcv_c.specs.Laws.{SpelledWords}
use Rattle.dcv_c.proofs.TokenClasses.{plain_is_name, is_number_word, number_item, name_item}

-- ---- sorts of parts

-- which parts a rule stands for
data Sort : Type 0 where
  OfName : Sort
  OfNames : Sort
  OfItem : Sort
  OfAssignment : Sort
  OfAssignments : Sort
  OfReset : Sort
  OfStatement : Sort
  OfStatements : Sort
  OfRight : Sort
  OfChoice : Sort
  -- a number or none
  OfCompared : Sort
  OfCondition : Sort
  OfReturned : Sort
  OfTest : Sort
  OfTests : Sort
  OfBehind : Sort
  OfStep : Sort
  OfUnit : Sort

-- of each rule, in the order of their numbers
abbrev sorts : List Sort
sorts =
    OfUnit ∷ OfName ∷ OfNames ∷ OfReset ∷ OfAssignments ∷ OfAssignment ∷ OfStep ∷ OfNames
    ∷ OfNames ∷ OfName ∷ OfNames ∷ OfName ∷ OfStatements ∷ OfStatement ∷ OfRight ∷ OfChoice
    ∷ OfCondition ∷ OfCompared ∷ OfItem ∷ OfReturned ∷ OfBehind ∷ OfTests ∷ OfTest ∷ []

abbrev AreNameWords : List Token → Type 0
AreNameWords tokens = AllByRecursion IsNameWord tokens

record IsResetWords (name : Token) (assignments : List PlacedAssignment) : Type 0 where
  name_is : IsNameWord name
  assignments_are : AllByRecursion AreWordsOfAssignment assignments

abbrev AreWordsOfChoices : Option PlacedChoice → Type 0
AreWordsOfChoices None = ⊤
AreWordsOfChoices (Some choice) = AreWordsOfChoice choice

record IsConditionWords (name : Token) (number : Option Token) : Type 0 where
  name_is : IsNameWord name
  number_is : IsNumberOrNone number

record AreWordsOfTests (tests : PlacedTests) : Type 0 where
  number_is : IsNumberWord tests.number
  others_are : AllByRecursion AreWordsOfTest tests.others

abbrev AreBehind : Option PlacedTests → Type 0
AreBehind None = ⊤
AreBehind (Some tests) = AreWordsOfTests tests

record IsStepWords (name : Token) (parameters locals : List Token) (statements : List PlacedStatement) (returned : PlacedReturned) : Type 0 where
  name_is : IsNameWord name
  parameters_are : AreNameWords parameters
  locals_are : AreNameWords locals
  statements_are : AllByRecursion AreWordsOfStatement statements
  returned_is : AreWordsOfReturned returned

-- with what its words are
abbrev ValueOf : Sort → Type 0
ValueOf OfName = (token : Token) × IsNameWord token
ValueOf OfNames = (tokens : List Token) × AreNameWords tokens
ValueOf OfItem = (token : Token) × IsItemWord token
ValueOf OfAssignment = (assignment : PlacedAssignment) × AreWordsOfAssignment assignment
ValueOf OfAssignments = (assignments : List PlacedAssignment) × AllByRecursion AreWordsOfAssignment assignments
ValueOf OfReset = (name : Token) × (assignments : List PlacedAssignment) × (end : Token) × IsResetWords name assignments
ValueOf OfStatement = (statement : PlacedStatement) × AreWordsOfStatement statement
ValueOf OfStatements = (statements : List PlacedStatement) × AllByRecursion AreWordsOfStatement statements
ValueOf OfRight = (right : PlacedRight) × AreWordsOfRight right
ValueOf OfChoice = (choice : Option PlacedChoice) × AreWordsOfChoices choice
ValueOf OfCompared = (number : Option Token) × IsNumberOrNone number
ValueOf OfCondition = (name : Token) × (number : Option Token) × IsConditionWords name number
ValueOf OfReturned = (returned : PlacedReturned) × AreWordsOfReturned returned
ValueOf OfTest = (test : PlacedTest) × AreWordsOfTest test
ValueOf OfTests = (tests : List PlacedTest) × AllByRecursion AreWordsOfTest tests
ValueOf OfBehind = (tests : Option PlacedTests) × AreBehind tests
ValueOf OfStep =
    (name : Token) × (parameters : List Token) × (locals : List Token) × (statements : List PlacedStatement) × (returned : PlacedReturned)
    × IsStepWords name parameters locals statements returned
ValueOf OfUnit = (placed : PlacedUnit) × AreWords placed

abbrev part_of : (sort : Sort) → ValueOf sort → Part
part_of OfName value = AToken value.0
part_of OfNames value = Tokens value.0
part_of OfItem value = AToken value.0
part_of OfAssignment value = AnAssignment value.0
part_of OfAssignments value = Assignments value.0
part_of OfReset value = AReset value.0 value.1 value.2
part_of OfStatement value = AStatement value.0
part_of OfStatements value = Statements value.0
part_of OfRight value = ARight value.0
part_of OfChoice value = Choice value.0
part_of OfCompared value = Maybe value.0
part_of OfCondition value = Compared value.0 value.1
part_of OfReturned value = AReturned value.0
part_of OfTest value = ATest value.0
part_of OfTests value = Tests value.0
part_of OfBehind value = Behind value.0
part_of OfStep value = AStep value.0 value.1 value.2 value.3 value.4
part_of OfUnit value = AUnit value.0

abbrev IsOf : Sort → Part → Type 0
IsOf OfName (AToken token) = IsNameWord token
IsOf OfNames (Tokens tokens) = AreNameWords tokens
IsOf OfItem (AToken token) = IsItemWord token
IsOf OfAssignment (AnAssignment assignment) = AreWordsOfAssignment assignment
IsOf OfAssignments (Assignments assignments) = AllByRecursion AreWordsOfAssignment assignments
IsOf OfReset (AReset name assignments end) = IsResetWords name assignments
IsOf OfStatement (AStatement statement) = AreWordsOfStatement statement
IsOf OfStatements (Statements statements) = AllByRecursion AreWordsOfStatement statements
IsOf OfRight (ARight right) = AreWordsOfRight right
IsOf OfChoice (Choice choice) = AreWordsOfChoices choice
IsOf OfCompared (Maybe number) = IsNumberOrNone number
IsOf OfCondition (Compared name number) = IsConditionWords name number
IsOf OfReturned (AReturned returned) = AreWordsOfReturned returned
IsOf OfTest (ATest test) = AreWordsOfTest test
IsOf OfTests (Tests tests) = AllByRecursion AreWordsOfTest tests
IsOf OfBehind (Behind tests) = AreBehind tests
IsOf OfStep (AStep name parameters locals statements returned) = IsStepWords name parameters locals statements returned
IsOf OfUnit (AUnit placed) = AreWords placed
IsOf sort part = ⊥

nothing_of : (sort : Sort) → IsOf sort Nothing → ⊥
nothing_of OfName is = is
nothing_of OfNames is = is
nothing_of OfItem is = is
nothing_of OfAssignment is = is
nothing_of OfAssignments is = is
nothing_of OfReset is = is
nothing_of OfStatement is = is
nothing_of OfStatements is = is
nothing_of OfRight is = is
nothing_of OfChoice is = is
nothing_of OfCompared is = is
nothing_of OfCondition is = is
nothing_of OfReturned is = is
nothing_of OfTest is = is
nothing_of OfTests is = is
nothing_of OfBehind is = is
nothing_of OfStep is = is
nothing_of OfUnit is = is

value_in : (sort : Sort) (part : Part) → IsOf sort part → (value : ValueOf sort) × (part ≡ part_of sort value)
value_in OfName (AToken value) is = ((value, is), refl)
value_in OfNames (Tokens value) is = ((value, is), refl)
value_in OfItem (AToken value) is = ((value, is), refl)
value_in OfAssignment (AnAssignment value) is = ((value, is), refl)
value_in OfAssignments (Assignments value) is = ((value, is), refl)
value_in OfReset (AReset name assignments end) is = ((name, assignments, end, is), refl)
value_in OfStatement (AStatement value) is = ((value, is), refl)
value_in OfStatements (Statements value) is = ((value, is), refl)
value_in OfRight (ARight value) is = ((value, is), refl)
value_in OfChoice (Choice value) is = ((value, is), refl)
value_in OfCompared (Maybe value) is = ((value, is), refl)
value_in OfCondition (Compared name number) is = ((name, number, is), refl)
value_in OfReturned (AReturned value) is = ((value, is), refl)
value_in OfTest (ATest value) is = ((value, is), refl)
value_in OfTests (Tests value) is = ((value, is), refl)
value_in OfBehind (Behind value) is = ((value, is), refl)
value_in OfStep (AStep name parameters locals statements returned) is = ((name, parameters, locals, statements, returned, is), refl)
value_in OfUnit (AUnit value) is = ((value, is), refl)
value_in sort part is = absurd is

-- ---- what rules stand for

abbrev of_sorts : Sorts scheme
of_sorts = record { Sort = Sort; of_rules = sorts; otherwise = OfUnit; ValueOf = ValueOf; part_of = part_of; IsOf = IsOf; value_in = value_in }

right_of_name : (name : Token) (choice : Option PlacedChoice) → IsNameWord name → AreWordsOfChoices choice
    → IsOf OfRight (right_part (AToken name ∷ Choice choice ∷ []))
right_of_name name None is words = name_item name is
right_of_name name (Some choice) is words = (is, words)

returned_of_name : (name : Token) (tests : Option PlacedTests) → IsNameWord name → AreBehind tests → IsOf OfReturned (returned_part (AToken name ∷ Behind tests ∷ []))
returned_of_name name None is are = is
returned_of_name name (Some tests) is are = (omega arith, (record { name = is; number = are.number_is }, are.others_are))

-- the body that a rule takes otherwise stands first
rules_agree : Agree of_sorts language.productions actions sorts
unfolding language
rules_agree = (
  (
    λ v.
        let reset = v.1.1.0 in
        let step = v.1.1.1.0 in
        record {
          some_static = omega arith;
          statics = (v.0.1, v.1.0.1);
          reset = reset.3.name_is;
          assignments = reset.3.assignments_are;
          step = step.5.name_is;
          parameters = step.5.parameters_are;
          locals = step.5.locals_are;
          statements = step.5.statements_are;
          returned = step.5.returned_is;
        },
    tt,
  ),  -- unit
  (
    (λ v. plain_is_name v.1.1.0.0.bytes v.1.1.0.1, tt),  -- static
    (
      (λ v. tt, (λ v. (v.0.1, v.1.0.1), tt)),  -- more_statics
      (
        (λ v. record { name_is = plain_is_name v.1.0.0.bytes v.1.0.1; assignments_are = v.1.1.1.1.1.1.0.1 }, tt),  -- reset
        (
          (λ v. tt, (λ v. (v.0.1, v.1.0.1), tt)),  -- assignments
          (
            (λ v. record { name = plain_is_name v.0.0.bytes v.0.1; number = is_number_word v.1.1.0.0.bytes v.1.1.0.1 }, tt),  -- assignment
            (
              (
                λ v.
                    record {
                      name_is = plain_is_name v.1.0.0.bytes v.1.0.1;
                      parameters_are = v.1.1.1.0.1;
                      locals_are = v.1.1.1.1.1.1.0.1;
                      statements_are = v.1.1.1.1.1.1.1.0.1;
                      returned_is = v.1.1.1.1.1.1.1.1.1.0.1;
                    },
                tt,
              ),  -- step
              (
                (λ v. (v.0.1, v.1.0.1), (λ v. tt, tt)),  -- parameters
                (
                  (λ v. tt, (λ v. (v.1.0.1, v.1.1.0.1), tt)),  -- more_parameters
                  (
                    (λ v. plain_is_name v.1.0.0.bytes v.1.0.1, tt),  -- parameter
                    (
                      (λ v. tt, (λ v. (v.0.1, v.1.0.1), tt)),  -- locals
                      (
                        (λ v. plain_is_name v.1.0.0.bytes v.1.0.1, tt),  -- local
                        (
                          (λ v. tt, (λ v. (v.0.1, v.1.0.1), tt)),  -- statements
                          (
                            (
                              λ v. (plain_is_name v.0.0.bytes v.0.1, v.1.1.0.1),
                              (
                                λ v.
                                    let condition = v.1.1.0 in
                                    let left = v.1.1.1.1.0 in
                                    let item = v.1.1.1.1.1.1.0 in
                                    (condition.2.name_is, condition.2.number_is, plain_is_name left.0.bytes left.1, item.1),
                                tt,
                              ),
                            ),  -- statement
                            (
                              (
                                λ v. right_of_name v.0.0 v.1.0.0 (plain_is_name v.0.0.bytes v.0.1) v.1.0.1,
                                (λ v. number_item v.0.0 (is_number_word v.0.0.bytes v.0.1), tt),
                              ),  -- right
                              (
                                (
                                  λ v. tt,
                                  (
                                    λ v. record { number = tt; item = v.1.0.1; otherwise = v.1.1.1.0.1 },
                                    (
                                      λ v. record { number = is_number_word v.1.0.0.bytes v.1.0.1; item = v.1.1.1.0.1; otherwise = v.1.1.1.1.1.0.1 },
                                      tt,
                                    ),
                                  ),
                                ),  -- choice
                                (
                                  (λ v. record { name_is = plain_is_name v.0.0.bytes v.0.1; number_is = v.1.0.1 }, tt),  -- condition
                                  (
                                    (λ v. tt, (λ v. is_number_word v.1.0.0.bytes v.1.0.1, tt)),  -- compared
                                    (
                                      (
                                        λ v. name_item v.0.0 (plain_is_name v.0.0.bytes v.0.1),
                                        (λ v. number_item v.0.0 (is_number_word v.0.0.bytes v.0.1), tt),
                                      ),  -- item
                                      (
                                        (
                                          λ v. returned_of_name v.0.0 v.1.0.0 (plain_is_name v.0.0.bytes v.0.1) v.1.0.1,
                                          (λ v. is_number_word v.0.0.bytes v.0.1, tt),
                                        ),  -- returned
                                        (
                                          (
                                            λ v. tt,
                                            (λ v. record { number_is = is_number_word v.1.0.0.bytes v.1.0.1; others_are = v.1.1.0.1 }, tt),
                                          ),  -- tests
                                          (
                                            (λ v. tt, (λ v. (v.1.0.1, v.1.1.0.1), tt)),  -- more_tests
                                            (
                                              (
                                                λ v.
                                                    record {
                                                      name = plain_is_name v.0.0.bytes v.0.1;
                                                      number = is_number_word v.1.1.0.0.bytes v.1.1.0.1;
                                                    },
                                                tt,
                                              ),
                                              tt,
                                            ),
                                          ),
                                        ),
                                      ),
                                    ),
                                  ),
                                ),
                              ),
                            ),
                          ),
                        ),
                      ),
                    ),
                  ),
                ),
              ),
            ),
          ),
        ),
      ),
    ),
  ),
)  -- test

-- ---- what trees stand for

-- what is inside a node of a rule stands for a part
pub rule_stands : (number : ℕ) (body : List Symbol) (inner : Nodes Token) → IsBody language number body → AreTrees language (token_class lexicon) body inner
    → action number (parts_of scheme inner) ≡ Nothing → ⊥
rule_stands number body inner is are none =
    nothing_of (slice_index_or sorts number OfUnit)
    (subst (IsOf (slice_index_or sorts number OfUnit)) none (inner_stands of_sorts actions (λ parts. Nothing) (λ rule parts. refl) rules_agree number body inner is are))

pub tree_stands : (tree : Nodes Token) → AreTrees language (token_class lexicon) (Rule language.start ∷ []) tree
    → (placed : PlacedUnit) × (parts_of scheme tree ≡ AUnit placed ∷ []) × AreWords placed
unfolding language
tree_stands tree are = let (values, is) = trees_stand of_sorts actions (λ parts. Nothing) (λ rule parts. refl) rules_agree (Rule language.start ∷ []) tree are in (values.0.0, is, values.0.1)

-- so the words of a unit that a text spells are what the grammar asks
pub words_spelled : SpelledWords
words_spelled text placed spells =
    let (other, stands_too, words) = tree_stands spells.tree spells.is.derived in
    let parts : AUnit other ∷ [] ≡ AUnit placed ∷ [] = sym stands_too ∙ spells.stands in
    let same : other ≡ placed = cc in
    subst AreWords same words
