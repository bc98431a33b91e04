-- Sets of behaviours, as tests of words.
--     Language                 a set of words
--     outside L                the words that are not in it
--     HasEvery, HasNone        it has each behaviour over k variables, or none of them
--     HaveSameBehaviours       two sets have the same behaviours over k variables
use Rattle.std.specs.Prelude.{◌≡◌, ℕ, Bool, not, IsTrue}
use Rattle.dcv_word.specs.Behaviour.{Word, IsBehaviour}

-- a set of words, as a test of them
abbrev pub Language : Type 0
Language = Word → Bool

-- the words that are not in the set
abbrev pub outside : Language → Language
outside L = λ word. not (L word)

-- each behaviour over k variables is in the set
abbrev pub HasEvery : ℕ → Language → Type 0
HasEvery k L = (word : Word) → IsBehaviour k word → IsTrue (L word)

-- no behaviour over k variables is in the set
abbrev pub HasNone : ℕ → Language → Type 0
HasNone k L = HasEvery k (outside L)

-- each behaviour over k variables is in both of the sets or in neither
abbrev pub HaveSameBehaviours : ℕ → Language → Language → Type 0
HaveSameBehaviours k L M = (word : Word) → IsBehaviour k word → L word ≡ M word
