-- What is answered to the letters of a word.
--     answer_line answer       the line of an answer
--     answers L word           for each letter whether the word up to it and with it is in the set
use Rattle.std.specs.Prelude.{ℕ, Bool, List, [], ◌∷◌, ◌++◌}
use Rattle.dcv_word.specs.Behaviour.{Word}
use Rattle.dcv_word.specs.TraceLine.{digit_of, line_feed}
use Rattle.dcv_language.specs.Language.{Language}

abbrev pub answer_line : Bool → List ℕ
answer_line answer = digit_of answer ∷ line_feed ∷ []

-- what is in the set after a letter
abbrev pub behind : Language → List Bool → Language
behind L letter = λ word. L (letter ∷ word)

-- for each letter whether the word up to it and with it is in the set
abbrev pub answers : Language → Word → List ℕ
answers L [] = []
answers L (letter ∷ letters) = answer_line (L (letter ∷ [])) ++ answers (behind L letter) letters
