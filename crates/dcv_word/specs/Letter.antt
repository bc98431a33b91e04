-- A letter values the declared variables at one instant. It is seen as the list of their truth values, slot 0 first.
--     letter_of width bits     the letter whose values are the binary digits of the number bits, the highest in slot 0
--     bits_of letter           the number whose binary digits the letter's values are
--     letters_of_width width   every letter of that many variables, in order
--     letter_order             slot by slot, false before true
use Rattle.std.specs.Prelude.{ℕ, zero, suc, ◌+◌, ◌^◌, ◌==◌, Bool, true, false, if◌then◌else◌, List, [], ◌∷◌, ◌++◌, length, map}
use Rattle.std.specs.Int.{bit_at}
use Rattle.std.specs.declared.cmp.Ordering.{Ordering}
use Rattle.std.specs.Ordering.{bool_cmp}
use Rattle.std.specs.Cmp.Lexicographic.{slice_cmp}

abbrev pub letter_of : ℕ → ℕ → List Bool
letter_of zero bits = []
letter_of (suc width) bits = (bit_at bits width == 1) ∷ letter_of width bits

abbrev pub bits_of : List Bool → ℕ
bits_of [] = 0
bits_of (value ∷ values) = (if value then 2 ^ length values else 0) + bits_of values

abbrev pub letters_of_width : ℕ → List (List Bool)
letters_of_width zero = [] ∷ []
letters_of_width (suc width) =
    map (λ values. false ∷ values) (letters_of_width width) ++ map (λ values. true ∷ values) (letters_of_width width)

abbrev pub letter_order : List Bool → List Bool → Ordering
letter_order = slice_cmp bool_cmp
