-- How far a translation is. The first step of a list is the one to be taken next, and the last part the one made last.
--     symbols_of steps                            the symbols that are still to come
--     Runs scheme steps trees parts all           with these trees of the symbols, the steps make all of the parts
--     IsUnderWay scheme steps parts left all      the items that are left are leaves of such trees
--     Fits scheme steps parts                     whatever comes for these symbols, the parts are those that the steps need
--     Advances scheme next old new                the machine went on to a class, or to the end
--     Takes scheme token taken old new            the token was taken, or no sentence goes on with it
use Rattle.std.specs.Prelude.{◌≡◌, ℕ, ◌≤◌, Bool, true, false, List, [], ◌∷◌, ◌++◌, Option, Some, None, length, map, take, drop, slice_get}
use Rattle.dcv_grammar.specs.declared.grammar.Symbol.{Symbol}
use Rattle.dcv_grammar.specs.declared.grammar.Symbol.TheVariants.{Class as ClassSymbol, Rule as RuleSymbol}
use Rattle.dcv_grammar.specs.Grammar.{IsBody, IsReached, IsViable}
use Rattle.dcv_grammar.specs.Machine.{Follows, Wants}
use Rattle.dcv_grammar.specs.Trees.{Nodes, done, leaf, node, leaves, AreTrees}
use Rattle.dcv_lexer.specs.Cuts.{Token}
use Rattle.dcv_translation.specs.declared.machine.Step.{Step}
use Rattle.dcv_translation.specs.declared.machine.Step.TheVariants.{Class, Rule, Close}
use Rattle.dcv_translation.specs.Scheme.{Scheme, parts_of_token, parts_of, IsOfBody}

abbrev pub step_of : Symbol → Step
step_of (ClassSymbol class) = Class class
step_of (RuleSymbol number) = Rule number

abbrev pub symbols_of : List Step → List Symbol
symbols_of [] = []
symbols_of (Class class ∷ steps) = ClassSymbol class ∷ symbols_of steps
symbols_of (Rule number ∷ steps) = RuleSymbol number ∷ symbols_of steps
symbols_of (Close rule first ∷ steps) = symbols_of steps

abbrev pub Runs : {Part : Type 0} → Scheme Part → List Step → Nodes Token → List Part → List Part → Type 0
Runs scheme [] done parts all = parts ≡ all
Runs scheme (Class class ∷ steps) (leaf token next) parts all =
    (scheme.class token ≡ class) × Runs scheme steps next (parts ++ parts_of_token scheme class token) all
Runs scheme (Rule number ∷ steps) (node rule inner next) parts all =
    (rule ≡ number)
    × ((body : List Symbol) × IsBody scheme.grammar number body × AreTrees scheme.grammar (scheme.class) body inner)
    × Runs scheme steps next (parts ++ scheme.action rule (parts_of scheme inner) ∷ []) all
-- the parts from the first one on are those of a body that ends here
Runs scheme (Close rule first ∷ steps) trees parts all =
    (first ≤ length parts) × IsOfBody scheme rule (drop first parts)
    × Runs scheme steps trees (take first parts ++ scheme.action rule (drop first parts) ∷ []) all
Runs scheme steps trees parts all = ⊥

pub record IsUnderWay {Part : Type 0} (scheme : Scheme Part) (steps : List Step) (parts : List Part) (left : List Token) (all : List Part) : Type 0 where
  pub reached : IsReached scheme.grammar (symbols_of steps)
  pub trees : Nodes Token
  pub runs : Runs scheme steps trees parts all
  pub leaves_left : leaves trees ≡ left

-- ---- whatever comes

-- With any trees of the symbols that are still to come, each body that ends has parts of its own.
abbrev pub Fits : {Part : Type 0} → Scheme Part → List Step → List Part → Type 0
Fits scheme [] parts = Unit {0}
Fits scheme (Class class ∷ steps) parts =
    (token : Token) → scheme.class token ≡ class → Fits scheme steps (parts ++ parts_of_token scheme class token)
Fits scheme (Rule number ∷ steps) parts =
    (body : List Symbol) (trees : Nodes Token) → IsBody scheme.grammar number body → AreTrees scheme.grammar (scheme.class) body trees
    → Fits scheme steps (parts ++ scheme.action number (parts_of scheme trees) ∷ [])
Fits scheme (Close rule first ∷ steps) parts =
    (first ≤ length parts) × IsOfBody scheme rule (drop first parts)
    × Fits scheme steps (take first parts ++ scheme.action rule (drop first parts) ∷ [])

pub record IsReady {Part : Type 0} (scheme : Scheme Part) (steps : List Step) (parts : List Part) : Type 0 where
  pub reached : IsReached scheme.grammar (symbols_of steps)
  pub fits : Fits scheme steps parts

-- ---- from place to place

-- a class that is taken off the steps
abbrev pub with_class : Option ℕ → List Step → List Step
with_class None steps = []
with_class (Some class) steps = Class class ∷ steps

-- Where this class comes next, the new place is one further with the class that is wanted there, and whatever is made from the old place on is made from
-- there on.
pub record Advances {Part : Type 0} (scheme : Scheme Part) (next : Option ℕ) (old : List Step) (old_parts : List Part) (wanted : Option ℕ) (new : List Step)
    (parts : List Part) : Type 0 where
  pub wants : Wants scheme.grammar next (symbols_of old) wanted (symbols_of new)
  pub fits : Fits scheme (with_class wanted new) parts
  pub goes : (left : List Token) (all : List Part) → slice_get (map (scheme.class) left) 0 ≡ next
      → IsUnderWay scheme old old_parts left all → IsUnderWay scheme (with_class wanted new) parts left all

-- the token was taken
pub record IsPast {Part : Type 0} (scheme : Scheme Part) (token : Token) (old : List Step) (old_parts : List Part) (new : List Step) (parts : List Part) : Type 0 where
  pub follows : (done : List ℕ) → Follows scheme.grammar done (symbols_of old)
      → Follows scheme.grammar (done ++ scheme.class token ∷ []) (symbols_of new)
  pub fits : Fits scheme new parts
  pub goes : (left : List Token) (all : List Part) → IsUnderWay scheme old old_parts (token ∷ left) all → IsUnderWay scheme new parts left all

-- no sentence begins with what was taken before and the token
pub record IsStuck {Part : Type 0} (scheme : Scheme Part) (token : Token) (old : List Step) : Type 0 where
  pub none : (done : List ℕ) → Follows scheme.grammar done (symbols_of old) → ¬ IsViable scheme.grammar (done ++ scheme.class token ∷ [])

abbrev pub Takes : {Part : Type 0} → Scheme Part → Token → Bool → List Step → List Part → List Step → List Part → Type 0
Takes scheme token true old old_parts new parts = IsPast scheme token old old_parts new parts
Takes scheme token false old old_parts new parts = IsStuck scheme token old
