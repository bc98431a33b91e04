-- The canonical table of a set, with its access words: for each state the least behaviour that leads to it. The access word
-- of state 0 is empty where no behaviour leads to the start.
--     access_word          the access word of a state
--     IsAccessWord         the word is the least behaviour that leads to a state
--     StandsAlone          the start is entered by no behaviour, and each behaviour is apart from the empty word
--     IsFolded             the start is the state of the least behaviour that is not apart from the empty word
--     IsCanonical          the table of least states, which are numbered by their access words
use Rattle.std.specs.Prelude.{◌≡◌, ◌≢◌, ℕ, ◌<◌, false, List, [], ◌∷◌, length, drop, slice_index_or}
use Rattle.std.specs.List.{AllPairs}
use Rattle.std.specs.declared.cmp.Ordering.TheVariants.{Less}
use Rattle.dcv_word.specs.Word.{shortlex_order}
use Rattle.dcv_word.specs.Behaviour.{Word, IsBehaviour}
use Rattle.dcv_language.specs.Language.{Language}
use Rattle.dcv_language.specs.Least.{IsLeastWhere}
use Rattle.dcv_language.specs.Table.{Table, IsTable, is_accepting, leads_to, AcceptsExactly}
use Rattle.dcv_language.specs.Apart.{AreApart}

abbrev pub access_word : List Word → ℕ → Word
access_word access state = slice_index_or access state []

abbrev pub IsAccessWord : ℕ → Table → ℕ → Word → Type 0
IsAccessWord k table state = IsLeastWhere k (λ word. leads_to table word ≡ state)

pub record StandsAlone (k : ℕ) (L : Language) (table : Table) : Type 0 where
  pub never_entered : (word : Word) → IsBehaviour k word → leads_to table word ≢ 0
  pub rejects : is_accepting table 0 ≡ false
  pub apart : (word : Word) → IsBehaviour k word → AreApart k L word []

-- this behaviour leads to the start, and is the least that is like the empty word
pub record IsFolded (k : ℕ) (L : Language) (table : Table) (word : Word) : Type 0 where
  pub leads : leads_to table word ≡ 0
  pub least : IsLeastWhere k (λ other. ¬ AreApart k L other []) word

-- how the start stands, by its access word
abbrev pub IsStart : ℕ → Language → Table → Word → Type 0
IsStart k L table [] = StandsAlone k L table
IsStart k L table (letter ∷ letters) = IsFolded k L table (letter ∷ letters)

pub record IsCanonical (k : ℕ) (L : Language) (table : Table) (access : List Word) : Type 0 where
  pub states : IsTable k table
  pub exact : AcceptsExactly k table L
  pub words : length access ≡ length table
  pub start : IsStart k L table (access_word access 0)
  pub least : (state : ℕ) → 0 < state → state < length table → IsAccessWord k table state (access_word access state)
  -- of states 1, 2, ..
  pub in_order : AllPairs (λ first second. shortlex_order first second ≡ Less) (drop 1 access)
  pub apart : AllPairs (AreApart k L) access
