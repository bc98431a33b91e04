-- The sets of shifts. P and T are tests of a letter; T says what P is one instant earlier or later.
--     back P T     T is false at the first instant, and at each later one what P was at the instant before
--     fore P T     T is false at the last instant, and at each earlier one what P is at the next
use Rattle.std.specs.Prelude.{Bool, true, false, not, ◌&&◌, List, [], ◌∷◌}
use Rattle.dcv_language.specs.Language.{Language}
use Rattle.dcv_language.specs.Operations.{iff}

-- after a letter T is what P was at the letter before
abbrev pub goes_back : (P T : List Bool → Bool) → List Bool → Language
goes_back P T before [] = true
goes_back P T before (letter ∷ letters) = iff (T letter) (P before) && goes_back P T letter letters

abbrev pub back : (P T : List Bool → Bool) → Language
back P T [] = false
back P T (letter ∷ letters) = not (T letter) && goes_back P T letter letters

abbrev pub fore : (P T : List Bool → Bool) → Language
fore P T [] = false
fore P T (letter ∷ []) = not (T letter)
fore P T (letter ∷ next ∷ letters) = iff (T letter) (P next) && fore P T (next ∷ letters)
