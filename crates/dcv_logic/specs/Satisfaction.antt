-- Satisfaction of a formula on an interval of instants: an equation for each form.
--
-- An interval is its first instant b and its last instant e, both in it. An environment `env` is what is in sight, `p`
-- a proposition, `c` and `d` are formulas. Each equation stands below the form as it is written in a file; the span of
-- an operand, its place in the file, means nothing here.
use Rattle.std.specs.Prelude.{ℕ, ◌-◌, Bool, false, ◌&&◌, ◌||◌, not, ◌==◌, nat_lt, nat_le, List, Option, Some, None}
use Rattle.dcv_syntax.specs.Plain.{PlainFormulaKind, FormulaConstant, FormulaPt, FormulaExt, FormulaBracketed, FormulaSlen, FormulaCounted, FormulaCall}
use Rattle.dcv_syntax.specs.Plain.{FormulaApplied, FormulaJoined, FormulaImplies, FormulaChop, FormulaQuantified}
use Rattle.dcv_syntax.specs.Plain.{PlainFormulaOperands, no_formula_operands, formula_operand, arguments_of}
use Rattle.dcv_syntax.specs.declared.propositions.Connective.{Connective}
use Rattle.dcv_syntax.specs.declared.formulas.Relation.{Relation}
use Rattle.dcv_syntax.specs.declared.formulas.Relation.TheVariants.{Equal, Less, AtMost, Greater, AtLeast}
use Rattle.dcv_logic.specs.Track.{Track}
use Rattle.dcv_logic.specs.Search.{some_between}
use Rattle.dcv_logic.specs.Connectives.{joins, of_none, bracket_holds, counted, applied, quantified}
use Rattle.dcv_logic.specs.Environment.{Environment, Meaning, PropMeaning, FormulaMeaning, found, bind}
use Rattle.dcv_logic.specs.Value.{value, argument_tracks}

-- a number stands in the relation to another
abbrev pub compares : Relation → ℕ → ℕ → Bool
compares Equal m n = m == n
compares Less m n = nat_lt m n
compares AtMost m n = nat_le m n
compares Greater m n = nat_lt n m
compares AtLeast m n = nat_le n m

-- a formula macro: what it means for the arguments. A proposition macro is no formula, nor is a name without a meaning.
abbrev pub macro_holds : Option Meaning → List Track → ℕ → ℕ → Bool
macro_holds None arguments b e = false
macro_holds (Some (PropMeaning m)) arguments b e = false
macro_holds (Some (FormulaMeaning m)) arguments b e = m arguments b e

abbrev mutual
  pub satisfies : Environment → PlainFormulaKind → ℕ → ℕ → Bool
  -- true, false
  satisfies env (FormulaConstant truth) b e = truth
  -- pt
  satisfies env FormulaPt b e = b == e
  -- ext
  satisfies env FormulaExt b e = nat_lt b e
  -- <P>, [P], [[P]], {{P}}
  satisfies env (FormulaBracketed bracket p) b e = bracket_holds bracket (value env p.kind) b e
  -- slen R n
  satisfies env (FormulaSlen relation n) b e = compares relation (e - b) n.value
  -- scount P R n, sdur P R n
  satisfies env (FormulaCounted count p relation n) b e = compares relation (counted count (value env p.kind) b e) n.value
  -- f(P, Q, ..)
  satisfies env (FormulaCall name arguments) b e =
      macro_holds (found env.macros name.text) (argument_tracks env (arguments_of arguments)) b e
  -- !D, D*, <>D, []D
  satisfies env (FormulaApplied unary d span) b e = applied unary (satisfies env d) b e
  -- D && E && .., D || E || .., D <=> E <=> ..
  satisfies env (FormulaJoined connective operands) b e = joined_holds env connective (of_none connective) operands b e
  -- C => D
  satisfies env (FormulaImplies c c_span d d_span) b e = not (satisfies env c b e) || satisfies env d b e
  -- D ^ E ^ ..
  satisfies env (FormulaChop operands) b e = chop_holds env operands b e
  -- ex p. D, all p. D
  satisfies env (FormulaQuantified quantifier name d span) b e =
      quantified quantifier env.instants (λ track. satisfies (bind env name.text track) d b e)

  -- from the left: each operand is joined to those before it
  pub joined_holds : Environment → Connective → Bool → PlainFormulaOperands → ℕ → ℕ → Bool
  joined_holds env connective so_far no_formula_operands b e = so_far
  joined_holds env connective so_far (formula_operand d span outer operands) b e =
      joined_holds env connective (joins connective so_far (satisfies env d b e)) operands b e

  -- some instant m ends the first operand's part and begins the rest's; no operands have one instant, as `pt` does
  pub chop_holds : Environment → PlainFormulaOperands → ℕ → ℕ → Bool
  chop_holds env no_formula_operands b e = b == e
  chop_holds env (formula_operand d span outer operands) b e =
      some_between b e (λ m. satisfies env d b m && chop_holds env operands m e)
