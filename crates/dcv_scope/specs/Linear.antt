-- Measures of macros as linear functions of their arguments' measures: a macro's expansion has nodes of its own, and of each
-- argument a share, which says how often it is used and how deep below the root. An argument without a share is not used.
--     measure_at      the measure of a macro at its arguments' measures
--     IsMeasureOf     these numbers, each at most the greatest of its type, are a macro's measure
--     AreMeasuresOf   the same of each macro of a list
--     uses_parameter  a macro's expansion has the argument at a place
use Rattle.std.specs.Prelude.{◌≡◌, ℕ, ◌+◌, ◌-◌, ◌*◌, ◌^◌, min, Bool, true, false, List, [], ◌∷◌, Option, Some, None, map}
use Rattle.std.specs.List.{slice_get}
use Rattle.dcv_syntax.specs.declared.names.Name.{Name}
use Rattle.dcv_syntax.specs.Plain.{PlainMacro}
use Rattle.dcv_scope.specs.declared.measures.Measure.{Measure as Numbers}
use Rattle.dcv_scope.specs.declared.measures.Share.{Share}
use Rattle.dcv_scope.specs.declared.measures.MacroMeasure.{MacroMeasure}
use Rattle.dcv_scope.specs.Measures.{Measure, leaf, beside, Measured, macro_measure}
use Rattle.dcv_scope.specs.Unused.{PassesOver}

-- the measure with these three numbers
abbrev pub measure_with : Numbers → Measure
measure_with m = record { size = m.size; depth = m.depth; quantifiers = m.quantifiers }

abbrev pub numbers_of : Measure → Numbers
numbers_of m = record { size = m.size; depth = m.depth; quantifiers = m.quantifiers }

-- ---- at arguments

-- what the uses of an argument come to
abbrev pub share_of : Share → Measure → Measure
share_of s m = record { size = s.uses * m.size; depth = s.depth + m.depth; quantifiers = s.quantifiers + m.quantifiers }

abbrev pub with_share : Measure → Option Share → Measure → Measure
with_share m None argument = m
with_share m (Some s) argument = beside m (share_of s argument)

-- an argument that is missing counts as one node
abbrev pub first_measure : List Measure → Measure
first_measure [] = leaf
first_measure (m ∷ arguments) = m

abbrev pub later_measures : List Measure → List Measure
later_measures [] = []
later_measures (m ∷ arguments) = arguments

abbrev pub with_shares : Measure → List (Option Share) → List Measure → Measure
with_shares m [] arguments = m
with_shares m (s ∷ shares) arguments = with_shares (with_share m s (first_measure arguments)) shares (later_measures arguments)

abbrev pub measure_at : MacroMeasure → List Measure → Measure
measure_at m arguments = with_shares (measure_with m.own) m.shares arguments

abbrev pub is_used : Option (Option Share) → Bool
is_used None = false
is_used (Some None) = false
is_used (Some (Some s)) = true

abbrev pub uses_parameter : MacroMeasure → ℕ → Bool
uses_parameter m j = is_used (slice_get m.shares j)

-- ---- numbers that stop at the greatest of their type

abbrev pub capped : ℕ → ℕ
capped n = min n (2 ^ 32 - 1)

abbrev pub capped_numbers : Numbers → Numbers
capped_numbers m = record { size = capped m.size; depth = capped m.depth; quantifiers = capped m.quantifiers }

abbrev pub capped_share : Option Share → Option Share
capped_share None = None
capped_share (Some s) = Some (record { uses = capped s.uses; depth = capped s.depth; quantifiers = capped s.quantifiers })

unfoldable pub capped_macro : MacroMeasure → MacroMeasure
capped_macro m = record { own = capped_numbers m.own; shares = map capped_share m.shares }

-- ---- macros

-- the numbers are those of a linear function, capped, and that is the measure
pub record IsMeasureOf (f : List Measure → Measure) (numbers : MacroMeasure) : Type 0 where
  pub exact : MacroMeasure
  pub capped : numbers ≡ capped_macro exact
  pub linear : (arguments : List Measure) → f arguments ≡ measure_at exact arguments
  pub unused : (j : ℕ) → uses_parameter numbers j ≡ false → PassesOver j f

-- of each macro, with those before it in sight
abbrev pub AreMeasuresOf : Measured → List PlainMacro → List MacroMeasure → Type 0
AreMeasuresOf sight [] [] = Unit {0}
AreMeasuresOf sight [] (n ∷ numbers) = ⊥
AreMeasuresOf sight (m ∷ macros) [] = ⊥
AreMeasuresOf sight (m ∷ macros) (n ∷ numbers) =
    IsMeasureOf (macro_measure sight m) n
    × AreMeasuresOf (record sight { macros = (m.name.text, macro_measure sight m) ∷ sight.macros }) macros numbers

-- declared variables, and no macros
abbrev pub variables_alone : List Name → Measured
variables_alone names = record { names = map (λ (name : Name). (name.text, leaf)) names; macros = [] }
