-- Translation schemes: what the derivation trees of a grammar stand for.
--     Scheme                        a grammar of tokens, what these stand for, and the action of each rule
--     parts_of_token scheme class token    what a token of a class stands for: one part, or nothing
--     parts_of scheme trees         what trees stand for
--     IsOfBody scheme rule parts    the trees of a body of the rule stand for the parts
--     StandFor scheme tokens part   the tokens are a sentence, whose tree stands for the part
use Rattle.std.specs.Prelude.{◌≡◌, ℕ, Bool, if◌then◌else◌, List, [], ◌∷◌, ◌++◌}
use Rattle.dcv_grammar.specs.declared.grammar.Symbol.{Symbol}
use Rattle.dcv_grammar.specs.Grammar.{ContextFree, IsBody}
use Rattle.dcv_grammar.specs.Trees.{Nodes, done, leaf, node, AreTrees, IsTree}
use Rattle.dcv_lexer.specs.Cuts.{Token}

pub record Scheme (Part : Type 0) : Type 0 where
  pub grammar : ContextFree
  pub class : Token → ℕ
  -- whether the tokens of a class stand for anything, and what such a token stands for
  pub has_part : ℕ → Bool
  pub of_token : Token → Part
  -- of the rule with a number, by what the symbols of its body stand for
  pub action : ℕ → List Part → Part

abbrev pub parts_of_token : {Part : Type 0} → Scheme Part → ℕ → Token → List Part
parts_of_token scheme class token = if scheme.has_part class then scheme.of_token token ∷ [] else []

-- what derivation trees stand for, from left to right
abbrev pub parts_of : {Part : Type 0} → Scheme Part → Nodes Token → List Part
parts_of scheme done = []
parts_of scheme (leaf token next) = parts_of_token scheme (scheme.class token) token ++ parts_of scheme next
parts_of scheme (node rule inner next) = scheme.action rule (parts_of scheme inner) ∷ parts_of scheme next

-- the parts of what one of the bodies of a rule derives
pub record IsOfBody {Part : Type 0} (scheme : Scheme Part) (rule : ℕ) (parts : List Part) : Type 0 where
  pub body : List Symbol
  pub is_body : IsBody scheme.grammar rule body
  pub trees : Nodes Token
  pub derived : AreTrees scheme.grammar scheme.class body trees
  pub stand : parts_of scheme trees ≡ parts

-- the tokens have a derivation that stands for the part
pub record StandFor {Part : Type 0} (scheme : Scheme Part) (tokens : List Token) (part : Part) : Type 0 where
  pub tree : Nodes Token
  pub is : IsTree scheme.grammar scheme.class tokens tree
  pub stands : parts_of scheme tree ≡ part ∷ []
