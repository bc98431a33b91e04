-- Each derivation tree of the grammar stands for a file: the parts that a body's symbols stand for are those of an equation.
use Rattle.std.proofs.Common.{◌≡◌, ℕ, zero, suc, List, [], ◌∷◌, Option, Some, None, length, ◌≤◌, refl, sym, ap, ◌∙◌, subst, arith}
use Rattle.std.specs.Prelude.{⊤, Contains, slice_get, slice_index_or}
use Rattle.std.specs.List.{AllByRecursion}
use Rattle.std.proofs.lemmas.List.Elements.{All-from_recursion}
use Rattle.dcv_syntax.specs.declared.names.Name.{Name}
use Rattle.dcv_syntax.specs.declared.names.Span.{Span}
use Rattle.dcv_syntax.specs.declared.formulas.Relation.{Relation}
use Rattle.dcv_syntax.specs.Plain.{PlainProp, PlainPropOperand, PlainFormulaOperand, PlainMacro, PlainFile}
use Rattle.dcv_grammar.specs.declared.grammar.Symbol.{Symbol}
use Rattle.dcv_grammar.specs.declared.grammar.Symbol.TheVariants.{Class, Rule}
use Rattle.dcv_grammar.specs.Grammar.{Production, IsBody, bodies}
use Rattle.dcv_grammar.specs.Trees.{Nodes, done, leaf, node, AreTrees}
use Rattle.dcv_grammar.proofs.Derivations.{rule_with}
use Rattle.dcv_tokens.specs.Tokens.{Token}
use Rattle.dcv_sentence.specs.Language.{file_rules, formula_rules, prop_rules, formula_atom_rule, language}
use Rattle.dcv_sentence.specs.RuleNumbers.{formula_atom}
use Rattle.dcv_translation.specs.Scheme.{IsOfBody}
use Rattle.dcv_reader.specs.Nodes.{token_class}
use Rattle.dcv_reader.specs.Parts.{IsMeant, HasNumber}
use Rattle.dcv_reader.specs.Actions.{Part, AToken, Names, Arguments, ARelation, AProp, AFormula, Props, Formulas, Stars, AMacro, Macros, AFile, Nothing, actions, action, scheme, parts_of, prop_implies_part, formula_implies_part}

-- ---- sorts of parts

-- which parts a rule stands for; an implication's right side is one operand, or none
data Sort : Type 0 where
  OfNames : Sort
  OfArguments : Sort
  OfRelation : Sort
  OfProp : Sort
  OfFormula : Sort
  OfProps : Sort
  OfFormulas : Sort
  OfImpliedProp : Sort
  OfImpliedFormula : Sort
  OfStars : Sort
  OfMacro : Sort
  OfMacros : Sort
  OfFile : Sort

-- of each rule, in the order of their numbers
abbrev sorts : List Sort
sorts =
    OfFile ∷ OfNames ∷ OfNames ∷ OfMacros ∷ OfMacro ∷ OfNames ∷ OfArguments ∷ OfProps
    ∷ OfFormula ∷ OfFormula ∷ OfFormulas ∷ OfFormula ∷ OfImpliedFormula
    ∷ OfFormula ∷ OfFormulas ∷ OfFormula ∷ OfFormulas ∷ OfFormula
    ∷ OfFormulas ∷ OfFormula ∷ OfFormula ∷ OfStars ∷ OfFormula ∷ OfRelation
    ∷ OfProp ∷ OfProps ∷ OfProp ∷ OfImpliedProp ∷ OfProp ∷ OfProps
    ∷ OfProp ∷ OfProps ∷ OfProp ∷ OfProp ∷ []

abbrev sort_of : ℕ → Sort
sort_of rule = slice_index_or sorts rule OfFile

abbrev ValueOf : Sort → Type 0
ValueOf OfNames = List Name
ValueOf OfArguments = List PlainProp × Option Span
ValueOf OfRelation = Relation
ValueOf OfProp = PlainPropOperand
ValueOf OfFormula = PlainFormulaOperand
ValueOf OfProps = List PlainPropOperand
ValueOf OfFormulas = List PlainFormulaOperand
ValueOf OfImpliedProp = Option PlainPropOperand
ValueOf OfImpliedFormula = Option PlainFormulaOperand
ValueOf OfStars = List Span
ValueOf OfMacro = PlainMacro
ValueOf OfMacros = List PlainMacro
ValueOf OfFile = PlainFile

abbrev at_most_one : {X : Type 0} → Option X → List X
at_most_one None = []
at_most_one (Some x) = x ∷ []

abbrev part_of : (sort : Sort) → ValueOf sort → Part
part_of OfNames value = Names value
part_of OfArguments value = Arguments value.0 value.1
part_of OfRelation value = ARelation value
part_of OfProp value = AProp value
part_of OfFormula value = AFormula value
part_of OfProps value = Props value
part_of OfFormulas value = Formulas value
part_of OfImpliedProp value = Props (at_most_one value)
part_of OfImpliedFormula value = Formulas (at_most_one value)
part_of OfStars value = Stars value
part_of OfMacro value = AMacro value
part_of OfMacros value = Macros value
part_of OfFile value = AFile value

abbrev IsOf : Sort → Part → Type 0
IsOf OfNames (Names value) = ⊤
IsOf OfArguments (Arguments value parentheses) = ⊤
IsOf OfRelation (ARelation value) = ⊤
IsOf OfProp (AProp value) = ⊤
IsOf OfFormula (AFormula value) = ⊤
IsOf OfProps (Props value) = ⊤
IsOf OfFormulas (Formulas value) = ⊤
IsOf OfImpliedProp (Props []) = ⊤
IsOf OfImpliedProp (Props (p ∷ [])) = ⊤
IsOf OfImpliedFormula (Formulas []) = ⊤
IsOf OfImpliedFormula (Formulas (d ∷ [])) = ⊤
IsOf OfStars (Stars value) = ⊤
IsOf OfMacro (AMacro value) = ⊤
IsOf OfMacros (Macros value) = ⊤
IsOf OfFile (AFile value) = ⊤
IsOf sort part = ⊥

value_in : (sort : Sort) (part : Part) → IsOf sort part → (value : ValueOf sort) × (part ≡ part_of sort value)
value_in OfNames (Names value) is = (value, refl)
value_in OfArguments (Arguments value parentheses) is = ((value, parentheses), refl)
value_in OfRelation (ARelation value) is = (value, refl)
value_in OfProp (AProp value) is = (value, refl)
value_in OfFormula (AFormula value) is = (value, refl)
value_in OfProps (Props value) is = (value, refl)
value_in OfFormulas (Formulas value) is = (value, refl)
value_in OfImpliedProp (Props []) is = (None, refl)
value_in OfImpliedProp (Props (p ∷ [])) is = (Some p, refl)
value_in OfImpliedFormula (Formulas []) is = (None, refl)
value_in OfImpliedFormula (Formulas (d ∷ [])) is = (Some d, refl)
value_in OfStars (Stars value) is = (value, refl)
value_in OfMacro (AMacro value) is = (value, refl)
value_in OfMacros (Macros value) is = (value, refl)
value_in OfFile (AFile value) is = (value, refl)
value_in sort part is = absurd is

-- ---- what symbols stand for

abbrev Values : List Symbol → Type 0
Values [] = ⊤
Values (Class class ∷ symbols) = ((token : Token) × (token_class token ≡ class)) × Values symbols
Values (Rule number ∷ symbols) = ValueOf (sort_of number) × Values symbols

abbrev parts_from : (symbols : List Symbol) → Values symbols → List Part
parts_from [] values = []
parts_from (Class class ∷ symbols) values = AToken values.0.0 ∷ parts_from symbols values.1
parts_from (Rule number ∷ symbols) values = part_of (sort_of number) values.0 ∷ parts_from symbols values.1

-- each body of each rule stands for a part of the rule's sort
abbrev Agree : List Production → List (List Part → Part) → List Sort → Type 0
Agree [] made kinds = ⊤
Agree (rule ∷ rules) (make ∷ made) (sort ∷ kinds) =
    AllByRecursion (λ body. (values : Values body) → IsOf sort (make (parts_from body values))) (bodies rule) × Agree rules made kinds
Agree rules made kinds = ⊥

implied_prop : (p : PlainPropOperand) (q : Option PlainPropOperand) → IsOf OfProp (prop_implies_part (AProp p ∷ Props (at_most_one q) ∷ []))
implied_prop p None = tt
implied_prop p (Some q) = tt

implied_formula : (d : PlainFormulaOperand) (e : Option PlainFormulaOperand) → IsOf OfFormula (formula_implies_part (AFormula d ∷ Formulas (at_most_one e) ∷ []))
implied_formula d None = tt
implied_formula d (Some e) = tt

-- the body that a rule takes otherwise stands first
rules_agree : Agree language.productions actions sorts
unfolding language file_rules formula_rules prop_rules
rules_agree = (
  (λ v. tt, tt),
  (
    (λ v. tt, (λ v. tt, tt)),
    (
      (λ v. tt, (λ v. tt, tt)),
      (
        (λ v. tt, (λ v. tt, tt)),
        (
          (λ v. tt, (λ v. tt, tt)),
          (
            (λ v. tt, (λ v. tt, tt)),
            (
              (λ v. tt, (λ v. tt, tt)),
              (
                (λ v. tt, (λ v. tt, tt)),
                (
                  (λ v. tt, (λ v. tt, (λ v. tt, tt))),
                  (
                    (λ v. tt, tt),
                    (
                      (λ v. tt, (λ v. tt, tt)),
                      (
                        (λ v. implied_formula v.0 v.1.0, tt),
                        (
                          (λ v. tt, (λ v. tt, tt)),
                          (
                            (λ v. tt, tt),
                            (
                              (λ v. tt, (λ v. tt, tt)),
                              (
                                (λ v. tt, tt),
                                (
                                  (λ v. tt, (λ v. tt, tt)),
                                  (
                                    (λ v. tt, tt),
                                    (
                                      (λ v. tt, (λ v. tt, tt)),
                                      (
                                        (λ v. tt, (λ v. tt, (λ v. tt, (λ v. tt, tt)))),
                                        (
                                          (λ v. tt, tt),
                                          (
                                            (λ v. tt, (λ v. tt, tt)),
                                            (
                                              (λ v. tt, (λ v. tt, (λ v. tt, (λ v. tt, (λ v. tt, (λ v. tt, (λ v. tt, (λ v. tt, (λ v. tt, (λ v. tt, (λ v. tt, (λ v. tt, (λ v. tt, tt))))))))))))),
                                              (
                                                (λ v. tt, (λ v. tt, (λ v. tt, (λ v. tt, (λ v. tt, tt))))),
                                                (
                                                  (λ v. tt, tt),
                                                  (
                                                    (λ v. tt, (λ v. tt, tt)),
                                                    (
                                                      (λ v. implied_prop v.0 v.1.0, tt),
                                                      (
                                                        (λ v. tt, (λ v. tt, tt)),
                                                        (
                                                          (λ v. tt, tt),
                                                          (
                                                            (λ v. tt, (λ v. tt, tt)),
                                                            (
                                                              (λ v. tt, tt),
                                                              (
                                                                (λ v. tt, (λ v. tt, tt)),
                                                                (
                                                                  (λ v. tt, (λ v. tt, (λ v. tt, (λ v. tt, tt)))),
                                                                  (
                                                                    (λ v. tt, (λ v. tt, (λ v. tt, (λ v. tt, tt)))),
                                                                    tt,
                                                                  ),
                                                                ),
                                                              ),
                                                            ),
                                                          ),
                                                        ),
                                                      ),
                                                    ),
                                                  ),
                                                ),
                                              ),
                                            ),
                                          ),
                                        ),
                                      ),
                                    ),
                                  ),
                                ),
                              ),
                            ),
                          ),
                        ),
                      ),
                    ),
                  ),
                ),
              ),
            ),
          ),
        ),
      ),
    ),
  ),
)

body_agrees : (P : List Symbol → Type 0) (all : List (List Symbol)) (body : List Symbol) → AllByRecursion P all → Contains all body → P body
body_agrees P all body each contains = subst P contains.2 (All-from_recursion P all each contains.0 body contains.1)

agree_at : (rules : List Production) (actions : List (List Part → Part)) (sorts : List Sort) (number : ℕ) (rule : Production) (body : List Symbol) (values : Values body) → Agree rules actions sorts → slice_get rules number ≡ Some rule → Contains (bodies rule) body → IsOf (slice_index_or sorts number OfFile) (slice_index_or actions number (λ parts. Nothing) (parts_from body values))
agree_at [] actions sorts number rule body values agree is contains = let never : None ≡ Some rule = is in cc
agree_at (r ∷ rules) (a ∷ actions) (s ∷ sorts) zero rule body values agree is contains =
    let same : r ≡ rule = cc in
    body_agrees (λ body. (values : Values body) → IsOf s (a (parts_from body values))) (bodies r) body agree.0
    (subst (λ (x : Production). Contains (bodies x) body) (sym same) contains) values
agree_at (r ∷ rules) (a ∷ actions) (s ∷ sorts) (suc number) rule body values agree is contains =
    agree_at rules actions sorts number rule body values agree.1 is contains
agree_at (r ∷ rules) [] sorts number rule body values agree is contains = absurd agree
agree_at (r ∷ rules) (a ∷ actions) [] number rule body values agree is contains = absurd agree

body_stands : (number : ℕ) (body : List Symbol) (values : Values body) → IsBody language number body → IsOf (sort_of number) (action number (parts_from body values))
body_stands number body values is =
    let (rule, at, contains) = rule_with language number body is in
    agree_at language.productions actions sorts number rule body values rules_agree at contains

-- ---- what trees stand for

trees_stand : (symbols : List Symbol) (trees : Nodes Token) → AreTrees language token_class symbols trees → (values : Values symbols) × (parts_of trees ≡ parts_from symbols values)
trees_stand [] done h = (tt, refl)
trees_stand [] (leaf token next) h = absurd h
trees_stand [] (node rule inner next) h = absurd h
trees_stand (Class class ∷ symbols) done h = absurd h
trees_stand (Class class ∷ symbols) (leaf token next) h =
    let (values, is) = trees_stand symbols next h.1 in
    (((token, h.0), values), ap (λ (parts : List Part). AToken token ∷ parts) is)
trees_stand (Class class ∷ symbols) (node rule inner next) h = absurd h
trees_stand (Rule number ∷ symbols) done h = absurd h
trees_stand (Rule number ∷ symbols) (leaf token next) h = absurd h
trees_stand (Rule number ∷ symbols) (node rule inner next) h =
    let (inside, inside_is) = trees_stand h.1.0 inner h.1.2 in
    let (behind, behind_is) = trees_stand symbols next h.2 in
    let of_sort : IsOf (sort_of number) (action number (parts_of inner)) =
    subst (λ (parts : List Part). IsOf (sort_of number) (action number parts)) (sym inside_is) (body_stands number h.1.0 inside h.1.1) in
    let (value, is) = value_in (sort_of number) (action number (parts_of inner)) of_sort in (
      (value, behind),
      ap (λ (n : ℕ). action n (parts_of inner) ∷ parts_of next) h.0
          ∙ ap (λ (part : Part). part ∷ parts_of next) is
          ∙ ap (λ (parts : List Part). part_of (sort_of number) value ∷ parts) behind_is,
    )

pub tree_stands : (tree : Nodes Token) → AreTrees language token_class (Rule language.start ∷ []) tree → (file : PlainFile) × (parts_of tree ≡ AFile file ∷ [])
unfolding language
tree_stands tree are = let (values, is) = trees_stand (Rule language.start ∷ []) tree are in (values.0, is)

-- ---- what a body stands for

meant_value : (sort : Sort) (value : ValueOf sort) → IsMeant (part_of sort value)
meant_value OfNames value = tt
meant_value _ value = tt

-- the parts of a body make a part of its rule
pub body_is_meant : (rule : ℕ) (parts : List Part) → IsOfBody scheme rule parts → IsMeant (action rule parts)
body_is_meant rule parts of =
    let (values, is) = trees_stand of.body of.trees of.derived in
    let (value, made) = value_in (sort_of rule) (action rule (parts_from of.body values)) (body_stands rule of.body values of.is_body) in
    subst (λ (l : List Part). IsMeant (action rule l)) (sym is ∙ of.stand) (subst IsMeant (sym made) (meant_value (sort_of rule) value))

-- a relation is one with a number
numbers_follow : AllByRecursion (λ body. (values : Values body) → HasNumber (parts_from body values)) (bodies formula_atom_rule)
numbers_follow = (
  λ v. tt,
  (
    λ v. tt,
    (
      λ v. tt,
      (
        λ v. tt,
        (
          λ v. tt,
          (
            λ v. tt,
            (
              λ v. tt,
              (
                λ v. tt,
                (
                  λ v. tt,
                  (
                    λ v. tt,
                    (λ v. v.1.1.0.1, (λ v. v.1.1.1.0.1, (λ v. v.1.1.1.0.1, tt))),
                  ),
                ),
              ),
            ),
          ),
        ),
      ),
    ),
  ),
)

atom_at : slice_get language.productions formula_atom ≡ Some formula_atom_rule
unfolding language file_rules formula_rules prop_rules
atom_at = refl

pub number_follows : (parts : List Part) → IsOfBody scheme formula_atom parts → HasNumber parts
number_follows parts of =
    let (values, is) = trees_stand of.body of.trees of.derived in
    let (rule, at, contains) = rule_with language formula_atom of.body of.is_body in
    let both : Some rule ≡ Some formula_atom_rule = sym at ∙ atom_at in
    let same : rule ≡ formula_atom_rule = cc in
    subst HasNumber (sym is ∙ of.stand)
    (body_agrees (λ body. (values : Values body) → HasNumber (parts_from body values)) (bodies formula_atom_rule) of.body numbers_follow
    (subst (λ (x : Production). Contains (bodies x) of.body) same contains) values)

-- a rule that has no number stands for nothing
past_end : {A : Type 0} (xs : List A) (n : ℕ) (other : A) → length xs ≤ n → slice_index_or xs n other ≡ other
past_end [] n other beyond = refl
past_end (x ∷ xs) zero other beyond = absurd (omega arith)
past_end (x ∷ xs) (suc n) other beyond = past_end xs n other (omega arith)

pub known_rule : (rule : ℕ) (parts : List Part) → IsMeant (action rule parts) → 34 ≤ rule → ⊥
known_rule rule parts meant beyond =
    subst (λ (act : List Part → Part). IsMeant (act parts)) (past_end actions rule (λ parts. Nothing) beyond) meant
