-- Of which sort the part is that a rule of a scheme stands for, with what is so of its words: a table of rules tells it of each body, and so it is
-- of each derivation tree.
--     Sorts scheme               the sorts, and the parts of each
--     Values sorts symbols       values for symbols, of the sorts of their rules
--     Agree sorts rules ..       each body of each rule stands for a part of the rule's sort
use Rattle.std.proofs.Common.{◌≡◌, ℕ, zero, suc, List, [], ◌∷◌, ◌++◌, Some, None, refl, sym, ap, ◌∙◌, subst}
use Rattle.std.specs.Prelude.{⊤, Contains, slice_get, slice_index_or}
use Rattle.std.specs.List.{AllByRecursion}
use Rattle.std.proofs.lemmas.List.Elements.{All-from_recursion}
use Rattle.dcv_grammar.specs.declared.grammar.Symbol.{Symbol}
use Rattle.dcv_grammar.specs.declared.grammar.Symbol.TheVariants.{Class, Rule}
use Rattle.dcv_grammar.specs.Grammar.{Production, IsBody, bodies}
use Rattle.dcv_grammar.specs.Trees.{Nodes, done, leaf, node, AreTrees}
use Rattle.dcv_grammar.proofs.Derivations.{rule_with}
use Rattle.dcv_lexer.specs.Cuts.{Token}
use Rattle.dcv_observer.specs.Items.{token_class}
use Rattle.dcv_observer.specs.Scheme.{Scheme, parts_of_token, parts_of}

pub record Sorts {Part : Type 0} (scheme : Scheme Part) : Type 1 where
  pub Sort : Type 0
  -- of each rule, in the order of their numbers, and of a rule that is none
  pub of_rules : List Sort
  pub otherwise : Sort
  -- the values of a sort, each with what is so of its words
  pub ValueOf : Sort → Type 0
  pub part_of : (sort : Sort) → ValueOf sort → Part
  -- the parts of a sort
  pub IsOf : Sort → Part → Type 0
  pub value_in : (sort : Sort) (part : Part) → IsOf sort part → (value : ValueOf sort) × (part ≡ part_of sort value)

module _ {Part : Type 0} {scheme : Scheme Part} (sorts : Sorts scheme) where
  abbrev pub sort_of : ℕ → sorts.Sort
  sort_of rule = slice_index_or sorts.of_rules rule sorts.otherwise

  abbrev pub Values : List Symbol → Type 0
  Values [] = ⊤
  Values (Class class ∷ symbols) = ((token : Token) × (token_class scheme.lexicon token ≡ class)) × Values symbols
  Values (Rule number ∷ symbols) = sorts.ValueOf (sort_of number) × Values symbols

  abbrev pub parts_from : (symbols : List Symbol) → Values symbols → List Part
  parts_from [] values = []
  parts_from (Class class ∷ symbols) values = parts_of_token scheme class values.0.0 ++ parts_from symbols values.1
  parts_from (Rule number ∷ symbols) values = sorts.part_of (sort_of number) values.0 ∷ parts_from symbols values.1

  abbrev pub Agree : List Production → List (List Part → Part) → List sorts.Sort → Type 0
  Agree [] made kinds = ⊤
  Agree (rule ∷ rules) (make ∷ made) (sort ∷ kinds) =
      AllByRecursion (λ body. (values : Values body) → sorts.IsOf sort (make (parts_from body values))) (bodies rule) × Agree rules made kinds
  Agree rules made kinds = ⊥

  body_agrees : (P : List Symbol → Type 0) (all : List (List Symbol)) (body : List Symbol) → AllByRecursion P all → Contains all body → P body
  body_agrees P all body each contains = subst P contains.2 (All-from_recursion P all each contains.0 body contains.1)

  agree_at : (rules : List Production) (actions : List (List Part → Part)) (kinds : List sorts.Sort) (otherwise : List Part → Part) (last : sorts.Sort)
      (number : ℕ) (rule : Production) (body : List Symbol) (values : Values body)
      → Agree rules actions kinds → slice_get rules number ≡ Some rule → Contains (bodies rule) body
      → sorts.IsOf (slice_index_or kinds number last) (slice_index_or actions number otherwise (parts_from body values))
  agree_at [] actions kinds otherwise last number rule body values agree is contains = let never : None ≡ Some rule = is in cc
  agree_at (r ∷ rules) (a ∷ actions) (s ∷ kinds) otherwise last zero rule body values agree is contains =
      let same : r ≡ rule = cc in
      body_agrees (λ body. (values : Values body) → sorts.IsOf s (a (parts_from body values))) (bodies r) body agree.0
      (subst (λ (x : Production). Contains (bodies x) body) (sym same) contains) values
  agree_at (r ∷ rules) (a ∷ actions) (s ∷ kinds) otherwise last (suc number) rule body values agree is contains =
      agree_at rules actions kinds otherwise last number rule body values agree.1 is contains
  agree_at (r ∷ rules) [] kinds otherwise last number rule body values agree is contains = absurd agree
  agree_at (r ∷ rules) (a ∷ actions) [] otherwise last number rule body values agree is contains = absurd agree

  -- where the scheme has the actions of a table that agrees with the grammar
  module _ (actions : List (List Part → Part)) (otherwise : List Part → Part) (is_action : (rule : ℕ) (parts : List Part) → slice_index_or actions rule otherwise parts ≡ scheme.action rule parts)
      (agree : Agree scheme.grammar.productions actions sorts.of_rules) where
    body_stands : (number : ℕ) (body : List Symbol) (values : Values body) → IsBody scheme.grammar number body
        → sorts.IsOf (sort_of number) (scheme.action number (parts_from body values))
    body_stands number body values is =
        let (rule, at, contains) = rule_with scheme.grammar number body is in
        subst (sorts.IsOf (sort_of number)) (is_action number (parts_from body values))
        (agree_at scheme.grammar.productions actions sorts.of_rules otherwise sorts.otherwise number rule body values agree at contains)

    pub trees_stand : (symbols : List Symbol) (trees : Nodes Token) → AreTrees scheme.grammar (token_class scheme.lexicon) symbols trees
        → (values : Values symbols) × (parts_of scheme trees ≡ parts_from symbols values)
    trees_stand [] done h = (tt, refl)
    trees_stand [] (leaf token next) h = absurd h
    trees_stand [] (node rule inner next) h = absurd h
    trees_stand (Class class ∷ symbols) done h = absurd h
    trees_stand (Class class ∷ symbols) (leaf token next) h =
        let (values, is) = trees_stand symbols next h.1 in
        (((token, h.0), values), λ i. parts_of_token scheme (h.0 i) token ++ is i)
    trees_stand (Class class ∷ symbols) (node rule inner next) h = absurd h
    trees_stand (Rule number ∷ symbols) done h = absurd h
    trees_stand (Rule number ∷ symbols) (leaf token next) h = absurd h
    trees_stand (Rule number ∷ symbols) (node rule inner next) h =
        let (inside, inside_is) = trees_stand h.1.0 inner h.1.2 in
        let (behind, behind_is) = trees_stand symbols next h.2 in
        let of_sort : sorts.IsOf (sort_of number) (scheme.action number (parts_of scheme inner)) =
        subst (λ (parts : List Part). sorts.IsOf (sort_of number) (scheme.action number parts)) (sym inside_is) (body_stands number h.1.0 inside h.1.1) in
        let (value, is) = sorts.value_in (sort_of number) (scheme.action number (parts_of scheme inner)) of_sort in (
          (value, behind),
          ap (λ (n : ℕ). scheme.action n (parts_of scheme inner) ∷ parts_of scheme next) h.0
              ∙ ap (λ (part : Part). part ∷ parts_of scheme next) is
              ∙ ap (λ (parts : List Part). sorts.part_of (sort_of number) value ∷ parts) behind_is,
        )

    -- what is inside a node of a rule stands for a part of the rule's sort
    pub inner_stands : (number : ℕ) (body : List Symbol) (inner : Nodes Token) → IsBody scheme.grammar number body
        → AreTrees scheme.grammar (token_class scheme.lexicon) body inner → sorts.IsOf (sort_of number) (scheme.action number (parts_of scheme inner))
    inner_stands number body inner is are =
        let (values, stand) = trees_stand body inner are in
        subst (λ (parts : List Part). sorts.IsOf (sort_of number) (scheme.action number parts)) (sym stand) (body_stands number body values is)
