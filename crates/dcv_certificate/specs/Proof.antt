-- What shows that an automaton has the fewest states: its access words, each spelled by another, and suffixes that tell them apart.
--     ProofValue                          what a `Proof` is seen as
--     AreSpelled access words             the list spells these access words
--     suffix_words suffixes               the suffixes as words
--     GoOnFromEarlier suffixes            each goes on from an earlier one
--     IsProof raw access suffixes         they show that the automaton has the fewest states
use Rattle.std.specs.Prelude.{◌≡◌, ℕ, ◌<◌, Bool, List, [], ◌∷◌, ◌++◌, Some, length, fold, slice_get, slice_index_or}
use Rattle.dcv_word.specs.Behaviour.{Word}
use Rattle.dcv_language.specs.Canonical.{access_word, IsCanonical}
use Rattle.dcv_language.specs.Certificate.{IsCertificate}
use Rattle.dcv_dfa.specs.Raw.{RawValue, raw_accepts}
use Rattle.dcv_dfa.specs.Auto.{table_of_states}
use Rattle.dcv_language.specs.declared.certificate.Access.{Access}
use Rattle.dcv_language.specs.declared.certificate.Access.TheVariants.{Empty as EmptyAccess, Start, After}
use Rattle.dcv_language.specs.declared.certificate.Suffix.{Suffix}
use Rattle.dcv_language.specs.declared.certificate.Suffix.TheVariants.{Empty, Then}

pub record ProofValue : Type 0 where
  pub access : List Access
  pub suffixes : List Suffix

-- ---- access words

-- the word of a state is that of another and a letter; that of a start comes last of all, and else the states stand in order
pub record IsSpelledAfter (words : List Word) (state before : ℕ) (letter : List Bool) : Type 0 where
  pub word : access_word words state ≡ access_word words before ++ letter ∷ []
  pub is_state : before < length words
  pub not_start : 0 < before
  pub in_order : 0 < state → before < state

abbrev pub IsSpelled : List Word → ℕ → Access → Type 0
IsSpelled words state EmptyAccess = access_word words state ≡ []
IsSpelled words state (Start letter) = access_word words state ≡ letter ∷ []
IsSpelled words state (After before letter) = IsSpelledAfter words state before letter

pub record AreSpelled (access : List Access) (words : List Word) : Type 0 where
  pub count : length access ≡ length words
  pub each : (state : ℕ) (one : Access) → slice_get access state ≡ Some one → IsSpelled words state one

-- ---- suffixes

abbrev pub suffix_word : List Word → Suffix → Word
suffix_word earlier Empty = []
suffix_word earlier (Then letter place) = letter ∷ slice_index_or earlier place []

unfoldable pub suffix_words : List Suffix → List Word
suffix_words suffixes = fold (λ earlier suffix. earlier ++ suffix_word earlier suffix ∷ []) [] suffixes

abbrev pub GoOnFromEarlier : List Suffix → Type 0
GoOnFromEarlier suffixes = (place from : ℕ) (letter : List Bool) → slice_get suffixes place ≡ Some (Then letter from) → from < place

-- ---- both

pub record IsProof (raw : RawValue) (access : List Access) (suffixes : List Suffix) : Type 0 where
  -- the words that lead to the states
  pub words : List Word
  pub canonical : IsCanonical raw.arena.slots (raw_accepts raw) (table_of_states raw) words
  pub spelled : AreSpelled access words
  pub earlier : GoOnFromEarlier suffixes
  pub certificate : IsCertificate raw.arena.slots (raw_accepts raw) words (suffix_words suffixes)
