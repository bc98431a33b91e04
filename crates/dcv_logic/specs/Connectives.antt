-- What connectives, brackets, counts, operators and quantifiers make of truths, whatever these are of.
--     joins, of_none      two truths that are joined, and what a list without operands is
--     bracket_holds       a bracket round what is true at instants
--     counted             a count of the instants of an interval
--     applied             an operator on what holds on intervals
--     quantified          a quantifier over what holds for tracks
use Rattle.std.specs.Prelude.{ℕ, zero, suc, ◌+◌, ◌-◌, Bool, true, false, ◌&&◌, ◌||◌, not, ◌==◌, nat_lt}
use Rattle.dcv_syntax.specs.declared.propositions.Connective.{Connective}
use Rattle.dcv_syntax.specs.declared.propositions.Connective.TheVariants.{And, Or, Iff}
use Rattle.dcv_syntax.specs.declared.formulas.Bracket.{Bracket}
use Rattle.dcv_syntax.specs.declared.formulas.Bracket.TheVariants.{Point, Run, Every, Unit as TwoInstants}
use Rattle.dcv_syntax.specs.declared.formulas.Count.{Count}
use Rattle.dcv_syntax.specs.declared.formulas.Count.TheVariants.{Scount, Sdur}
use Rattle.dcv_syntax.specs.declared.formulas.Unary.{Unary}
use Rattle.dcv_syntax.specs.declared.formulas.Unary.TheVariants.{Not, Star, Somewhere, Everywhere}
use Rattle.dcv_syntax.specs.declared.formulas.Quantifier.{Quantifier}
use Rattle.dcv_syntax.specs.declared.formulas.Quantifier.TheVariants.{Exists, ForAll}
use Rattle.dcv_logic.specs.Track.{Track}
use Rattle.dcv_logic.specs.Search.{some_between, each_between, count_from, count_between}
use Rattle.dcv_language.specs.Operations.{some_track, iff}

abbrev pub joins : Connective → Bool → Bool → Bool
joins And a b = a && b
joins Or a b = a || b
joins Iff a b = iff a b

abbrev pub of_none : Connective → Bool
of_none And = true
of_none Or = false
of_none Iff = true

abbrev pub bracket_holds : Bracket → (ℕ → Bool) → ℕ → ℕ → Bool
-- <P>
bracket_holds Point p b e = b == e && p b
-- [P]
bracket_holds Run p b e = nat_lt b e && each_between b (e - 1) p
-- [[P]]
bracket_holds Every p b e = each_between b e p
-- {{P}}
bracket_holds TwoInstants p b e = e == b + 1 && p b

abbrev pub counted : Count → (ℕ → Bool) → ℕ → ℕ → ℕ
counted Scount p b e = count_between b e p
counted Sdur p b e = count_from b (e - b) p

-- D* on an interval of at most n steps: one instant, or D up to some later instant and D* from there
abbrev pub star : (ℕ → ℕ → Bool) → ℕ → ℕ → ℕ → Bool
star d zero b e = b == e
star d (suc n) b e = b == e || some_between (b + 1) e (λ m. d b m && star d n m e)

-- some part of the interval has D
abbrev pub somewhere : (ℕ → ℕ → Bool) → ℕ → ℕ → Bool
somewhere d b e = some_between b e (λ x. some_between x e (λ y. d x y))

abbrev pub applied : Unary → (ℕ → ℕ → Bool) → ℕ → ℕ → Bool
-- !D
applied Not d b e = not (d b e)
-- D*
applied Star d b e = star d (e - b) b e
-- <>D
applied Somewhere d b e = somewhere d b e
-- []D
applied Everywhere d b e = not (somewhere (λ x y. not (d x y)) b e)

abbrev pub quantified : Quantifier → ℕ → (Track → Bool) → Bool
-- ex p. D
quantified Exists n d = some_track n d
-- all p. D
quantified ForAll n d = not (some_track n (λ track. not (d track)))
