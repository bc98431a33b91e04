-- What the reader's stack stands for. Its top is the first symbol.
use Rattle.std.specs.Prelude.{◌≡◌, ◌↔◌, ℕ, List, [], ◌∷◌, ◌++◌, Option, Some, None, slice_get, IfNone}
use Rattle.dcv_grammar.specs.declared.grammar.Symbol.{Symbol}
use Rattle.dcv_grammar.specs.declared.grammar.Symbol.TheVariants.{Class}
use Rattle.dcv_grammar.specs.Grammar.{ContextFree, Derives, IsReached, IsSentence}

-- the wanted class on top of a stack
abbrev pub with_wanted : Option ℕ → List Symbol → List Symbol
with_wanted None stack = stack
with_wanted (Some class) stack = Class class ∷ stack

-- A stack derives just what makes a sentence after what was read.
pub record Follows (grammar : ContextFree) (done : List ℕ) (stack : List Symbol) : Type 0 where
  pub reached : IsReached grammar stack
  pub same : (w : List ℕ) → IsSentence grammar (done ++ w) ↔ Derives grammar stack w

-- Where this class comes next, the old stack derives what the wanted class and the new stack do; nothing is wanted only at an empty stack.
pub record Wants (grammar : ContextFree) (next : Option ℕ) (old : List Symbol) (wanted : Option ℕ) (new : List Symbol) : Type 0 where
  pub reached : IsReached grammar (with_wanted wanted new)
  pub same : (w : List ℕ) → slice_get w 0 ≡ next → Derives grammar old w ↔ Derives grammar (with_wanted wanted new) w
  pub ended : IfNone wanted (new ≡ [])
