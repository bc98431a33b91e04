-- What a grammar derives. Nothing here knows of a reader.
--     bodies rule                         each body of a rule
--     IsBody grammar number body          the rule of this number has this body
--     Derives grammar symbols classes     the symbols derive the classes
--     IsReached grammar symbols           the symbols stand after the beginning of a sentence
--     IsSentence grammar classes          the start derives the classes
--     IsViable grammar classes            the classes are the beginning of a sentence, or a whole one
--     IsFaultAt grammar classes place     the classes are viable up to the place, and no further
--     IsVerdict grammar classes verdict   the place of the fault, or none in a sentence
use Rattle.std.specs.Prelude.{◌≡◌, ℕ, ◌+◌, ◌<◌, List, [], ◌∷◌, ◌++◌, ◌⊎◌, Option, Some, None, IsSomeAnd, length, map, take, slice_get, Contains}
use Rattle.std.specs.List.{flat_map}
use Rattle.dcv_grammar.specs.declared.grammar.Symbol.{Symbol}
use Rattle.dcv_grammar.specs.declared.grammar.Symbol.TheVariants.{Class, Rule}
use Rattle.dcv_grammar.specs.declared.grammar.Alternative.{Alternative as AlternativeTable}
use Rattle.dcv_grammar.specs.declared.grammar.Production.{Production as ProductionTable}
use Rattle.dcv_grammar.specs.declared.grammar.ContextFree.{ContextFree as GrammarTables}

-- a body, and the classes at which a reader picks it
pub record Alternative : Type 0 where
  pub classes : List ℕ
  pub body : List Symbol

-- the bodies of a rule: those that a reader picks by the next class, and the one that it takes otherwise
pub record Production : Type 0 where
  pub alternatives : List Alternative
  pub otherwise : List Symbol

-- a context-free grammar: the number of the rule that it starts with, and the rules, numbered from 0
pub record ContextFree : Type 0 where
  pub start : ℕ
  pub productions : List Production

-- what is written in the tables of the code
abbrev pub alternative_of : AlternativeTable → Alternative
alternative_of table = record { classes = table.classes.now; body = table.body.now }

abbrev pub production_of : ProductionTable → Production
production_of table = record { alternatives = map alternative_of table.alternatives.now; otherwise = table.otherwise.now }

abbrev pub grammar_of : GrammarTables → ContextFree
grammar_of grammar =
    record {
      start = grammar.start;
      productions = flat_map (λ table. map production_of table.now) grammar.tables.now;
    }

-- each body of a rule
abbrev pub bodies : Production → List (List Symbol)
bodies rule = rule.otherwise ∷ map (λ alternative. alternative.body) rule.alternatives

-- the rule of this number has this body
abbrev pub IsBody : ContextFree → ℕ → List Symbol → Type 0
IsBody grammar number body = IsSomeAnd (slice_get grammar.productions number) (λ rule. Contains (bodies rule) body)

-- The symbols derive the classes: nothing derives nothing, a class itself, and a rule what one of its bodies derives in its place.
pub data Derives (grammar : ContextFree) : List Symbol → List ℕ → Type 0 where
  nothing : Derives grammar [] []
  by_class : {class : ℕ} {symbols : List Symbol} {classes : List ℕ} → Derives grammar symbols classes → Derives grammar (Class class ∷ symbols) (class ∷ classes)
  by_body : {number : ℕ} {symbols : List Symbol} {classes : List ℕ} → (body : List Symbol) → IsBody grammar number body → Derives grammar (body ++ symbols) classes → Derives grammar (Rule number ∷ symbols) classes

-- The symbols stand after the beginning of a sentence: the start after none, a body where its rule stood, and what stood after a class.
pub data IsReached (grammar : ContextFree) : List Symbol → Type 0 where
  at_start : IsReached grammar (Rule grammar.start ∷ [])
  in_body : {number : ℕ} {symbols : List Symbol} → (body : List Symbol) → IsBody grammar number body → IsReached grammar (Rule number ∷ symbols) → IsReached grammar (body ++ symbols)
  past_class : {class : ℕ} {symbols : List Symbol} → IsReached grammar (Class class ∷ symbols) → IsReached grammar symbols

-- what the start derives
abbrev pub IsSentence : ContextFree → List ℕ → Type 0
IsSentence grammar classes = Derives grammar (Rule grammar.start ∷ []) classes

-- the beginning of a sentence, or a whole one
abbrev pub IsViable : ContextFree → List ℕ → Type 0
IsViable grammar classes = (more : List ℕ) × IsSentence grammar (classes ++ more)

-- The list is viable up to the place, and either not with the class there, or it ends there and is no sentence.
pub record IsFaultAt (grammar : ContextFree) (classes : List ℕ) (place : ℕ) : Type 0 where
  pub viable : IsViable grammar (take place classes)
  pub fault : ((place < length classes) × ¬ IsViable grammar (take (place + 1) classes)) ⊎ ((place ≡ length classes) × ¬ IsSentence grammar classes)

-- no fault in a sentence, and else the first
abbrev pub IsVerdict : ContextFree → List ℕ → Option ℕ → Type 0
IsVerdict grammar classes None = IsSentence grammar classes
IsVerdict grammar classes (Some place) = IsFaultAt grammar classes place
