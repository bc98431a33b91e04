-- Translation schemes of texts: what the derivation trees of a language stand for.
--     Scheme                        a language, what its tokens stand for, and the action of each rule
--     over scheme                   the same over its tokens
--     written lexicon scheme        and back
--     parts_of scheme trees         what trees stand for
--     StandsFor scheme text part    the text is a sentence, whose tree stands for the part
use Rattle.std.specs.Prelude.{◌≡◌, ℕ, Bool, List, [], ◌∷◌}
use Rattle.dcv_grammar.specs.Grammar.{ContextFree}
use Rattle.dcv_grammar.specs.Trees.{Nodes, IsTree}
use Rattle.dcv_lexer.specs.Lexicon.{Lexicon}
use Rattle.dcv_lexer.specs.Cuts.{Token}
use Rattle.dcv_translation.specs.Scheme as tokens
use Rattle.dcv_observer.specs.Items.{HasItems, token_class}

pub record Scheme (Part : Type 0) : Type 0 where
  pub lexicon : Lexicon
  pub grammar : ContextFree
  -- whether the tokens of a class stand for anything, and what such a token stands for
  pub has_part : ℕ → Bool
  pub of_token : Token → Part
  -- of the rule with a number, by what the symbols of its body stand for
  pub action : ℕ → List Part → Part

abbrev pub over : {Part : Type 0} → Scheme Part → tokens.Scheme Part
over scheme =
    record {
      grammar = scheme.grammar;
      class = token_class scheme.lexicon;
      has_part = scheme.has_part;
      of_token = scheme.of_token;
      action = scheme.action;
    }

abbrev pub written : {Part : Type 0} → Lexicon → tokens.Scheme Part → Scheme Part
written lexicon scheme =
    record {
      lexicon = lexicon;
      grammar = scheme.grammar;
      has_part = scheme.has_part;
      of_token = scheme.of_token;
      action = scheme.action;
    }

abbrev pub parts_of_token : {Part : Type 0} → Scheme Part → ℕ → Token → List Part
parts_of_token scheme class token = tokens.parts_of_token (over scheme) class token

abbrev pub parts_of : {Part : Type 0} → Scheme Part → Nodes Token → List Part
parts_of scheme trees = tokens.parts_of (over scheme) trees

-- the tokens have a derivation that stands for the part
pub record StandsFor {Part : Type 0} (scheme : Scheme Part) (text : List ℕ) (part : Part) : Type 0 where
  pub items : List Token
  pub has : HasItems scheme.lexicon text items
  pub tree : Nodes Token
  pub is : IsTree scheme.grammar (token_class scheme.lexicon) items tree
  pub stands : parts_of scheme tree ≡ part ∷ []
