-- Sets of texts of which a longer text is made, word after word, and where a text stops to be the beginning of one of them.
--     AreVisible word            all its bytes are visible
--     Exactly word               this word alone
--     Nothing                    the empty text alone
--     Followed P end Q           a word of the first set, the byte after it, and then a text of the second
--     Either P Q                 a text of the one set or of the other
--     Begins P text              the text is the beginning of a text of the set, or a whole one
--     IsNoFurther P front left   no text of the set goes on from the front with the next byte of what is left; where nothing is
--                                left, none has ended
--     IsStuckIn P text left      the text begins one of the set up to what is left of it, and no further, and none has ended before
--     IsFaultAt P text left      the text begins one of the set up to what is left of it, and no further
use Rattle.std.specs.Prelude.{◌≡◌, ℕ, true, List, [], ◌∷◌, ◌++◌, ◌⊎◌}
use Rattle.std.specs.List.{list_all}
use Rattle.dcv_automaton_text.specs.Form.{is_visible}

abbrev pub AreVisible : List ℕ → Type 0
AreVisible word = list_all is_visible word ≡ true

pub record Exactly (word text : List ℕ) : Type 0 where
  pub is : text ≡ word

pub record Nothing (text : List ℕ) : Type 0 where
  pub is : text ≡ []

pub record Followed (P : List ℕ → Type 0) (end : ℕ) (Q : List ℕ → Type 0) (text : List ℕ) : Type 0 where
  pub word : List ℕ
  pub back : List ℕ
  pub word_is : P word
  pub back_is : Q back
  pub whole : text ≡ word ++ end ∷ back

pub record Either (P Q : List ℕ → Type 0) (text : List ℕ) : Type 0 where
  pub which : P text ⊎ Q text

pub record Begins (P : List ℕ → Type 0) (text : List ℕ) : Type 0 where
  pub more : List ℕ
  pub member : P (text ++ more)

abbrev pub IsNoFurther : (List ℕ → Type 0) → List ℕ → List ℕ → Type 0
IsNoFurther P front [] = (text more : List ℕ) → P text → text ++ more ≡ front → ⊥
IsNoFurther P front (b ∷ left) = (text more other : List ℕ) → P text → text ++ more ≡ front ++ b ∷ other → ⊥

pub record IsStuckIn (P : List ℕ → Type 0) (text left : List ℕ) : Type 0 where
  pub front : List ℕ
  pub cut : text ≡ front ++ left
  pub viable : Begins P front
  pub stuck : IsNoFurther P front left

-- ---- faults of whole texts

-- no text of the set goes on from the front with the next byte of what is left; where nothing is left, the front is none
abbrev pub IsFrontOnly : (List ℕ → Type 0) → List ℕ → List ℕ → Type 0
IsFrontOnly P front [] = P front → ⊥
IsFrontOnly P front (b ∷ left) = (other : List ℕ) → P (front ++ b ∷ other) → ⊥

-- the text begins one of the set up to what is left of it, and no further; a text of the set may have ended there
pub record IsFaultAt (P : List ℕ → Type 0) (text left : List ℕ) : Type 0 where
  pub front : List ℕ
  pub cut : text ≡ front ++ left
  pub viable : Begins P front
  pub fault : IsFrontOnly P front left
