-- The laws that `src/laws.rt` proves.
use Rattle.std.specs.Prelude.{◌≡◌, ℕ, suc, ◌<◌, ◌≤◌, Bool, List, [], ◌∷◌, ◌++◌, length, IsTrue, Some, slice_get}
use Rattle.std.specs.List.{AllPairs}
use Rattle.std.specs.declared.cmp.Ordering.TheVariants.{Less}
use Rattle.dcv_word.specs.Behaviour.{Word, IsBehaviour}
use Rattle.dcv_word.specs.Letter.{letter_order}
use Rattle.dcv_word.specs.Word.{shortlex_order}
use Rattle.dcv_language.specs.Language.{Language, outside, HaveSameBehaviours}
use Rattle.dcv_language.specs.Verdict.{Verdict, IsVerdict}
use Rattle.dcv_language.specs.Least.{IsLeastWhere, IsNoLater}
use Rattle.dcv_language.specs.Automaton.{Automaton, state_after, accepts}
use Rattle.dcv_language.specs.Table.{Table, IsTable, AcceptsExactly, leads_to}
use Rattle.dcv_language.specs.Apart.{AreApart}
use Rattle.dcv_language.specs.Canonical.{access_word, IsAccessWord, IsCanonical}
use Rattle.dcv_language.specs.Complement.{complement}
use Rattle.dcv_language.specs.Certificate.{IsCertificate}
use Rattle.dcv_language.specs.Search.{IsSearched, IsSearchedBefore}
use Rattle.dcv_language.specs.Folding.{IsFolding}
use Rattle.dcv_language.specs.Operations.{intersection, union, agreement, chop, star, projection}

-- ---- verdicts

abbrev pub OneVerdict : Type 0
OneVerdict = (k : ℕ) (L : Language) (one other : Verdict) → IsVerdict k L one → IsVerdict k L other → one ≡ other

-- it depends on the behaviours of the set alone
abbrev pub VerdictOfSameBehaviours : Type 0
VerdictOfSameBehaviours = (k : ℕ) (L M : Language) (verdict : Verdict) → HaveSameBehaviours k L M → IsVerdict k L verdict → IsVerdict k M verdict

-- ---- canonical tables

-- a set has one canonical table at most, and one list of access words
abbrev pub OneCanonicalTable : Type 0
OneCanonicalTable = (k : ℕ) (L : Language) (one other : Table) (access words : List Word)
    → IsCanonical k L one access → IsCanonical k L other words → (one ≡ other) × (access ≡ words)

-- the access word of the start, too, is the least behaviour that leads there, unless it is empty
abbrev pub AccessWordsAreLeast : Type 0
AccessWordsAreLeast = (k : ℕ) (L : Language) (table : Table) (access : List Word) (state : ℕ) (letter : List Bool) (letters : Word)
    → IsCanonical k L table access → access_word access state ≡ letter ∷ letters → IsAccessWord k table state (letter ∷ letters)

-- and each leads to its state, the empty word to a start that stands alone
abbrev pub AccessWordsLead : Type 0
AccessWordsLead = (k : ℕ) (L : Language) (table : Table) (access : List Word) (state : ℕ)
    → IsCanonical k L table access → state < length table → leads_to table (access_word access state) ≡ state

-- sets with the same behaviours have the same canonical tables
abbrev pub CanonicalForSameBehaviours : Type 0
CanonicalForSameBehaviours = (k : ℕ) (L M : Language) (table : Table) (access : List Word)
    → HaveSameBehaviours k L M → IsCanonical k L table access → IsCanonical k M table access

abbrev pub ComplementIsCanonical : Type 0
ComplementIsCanonical = (k : ℕ) (L : Language) (table : Table) (access : List Word)
    → IsCanonical k L table access → IsCanonical k (outside L) (complement access table) access

-- the quotient of a raw automaton is canonical for what the raw automaton accepts
abbrev pub FoldingIsCanonical : Type 0
FoldingIsCanonical = (k : ℕ) (raw : Automaton ℕ) (reached : ℕ → Bool) (number : ℕ → ℕ) (table : Table) (access : List Word)
    → IsFolding k raw reached number table access → IsCanonical k (accepts raw) table access

-- ---- the lower bound

-- words that are apart, one of which may be empty, are no more than the states of any table automaton for the set
abbrev pub WordsApartAreNoMoreThanStates : Type 0
WordsApartAreNoMoreThanStates = (k : ℕ) (L : Language) (words : List Word) (table : Table)
    → AllPairs (AreApart k L) words → IsTable k table → AcceptsExactly k table L → length words ≤ length table

-- so a canonical table has as few states as any table automaton for the set, whether or not that one's start accepts
abbrev pub CanonicalIsMinimal : Type 0
CanonicalIsMinimal = (k : ℕ) (L : Language) (table other : Table) (access : List Word)
    → IsCanonical k L table access → IsTable k other → AcceptsExactly k other L → length table ≤ length other

-- and a certificate shows it of its access words
abbrev pub CertifiedIsMinimal : Type 0
CertifiedIsMinimal = (k : ℕ) (L : Language) (access suffixes : List Word) (table : Table)
    → IsCertificate k L access suffixes → IsTable k table → AcceptsExactly k table L → length access ≤ length table

abbrev pub OneWordNeedsNoSuffix : Type 0
OneWordNeedsNoSuffix = (k : ℕ) (L : Language) (word : Word) (suffixes : List Word) → IsCertificate k L (word ∷ []) suffixes → suffixes ≡ []

-- the suffixes of two words or more begin with the empty one
abbrev pub FirstSuffixIsEmpty : Type 0
FirstSuffixIsEmpty = (k : ℕ) (L : Language) (first second : Word) (words suffixes : List Word)
    → IsCertificate k L (first ∷ second ∷ words) suffixes → slice_get suffixes 0 ≡ Some []

-- ---- breadth-first searches

-- a front of the least word that leads to a state is the least that leads to its own
abbrev pub FrontOfLeastIsLeast : Type 0
FrontOfLeastIsLeast = (k : ℕ) (automaton : Automaton ℕ) (front : Word) (letter : List Bool) → IsBehaviour k front
    → IsLeastWhere k (λ word. state_after automaton word ≡ state_after automaton (front ++ letter ∷ [])) (front ++ letter ∷ [])
    → IsLeastWhere k (λ word. state_after automaton word ≡ state_after automaton front) front

-- each behaviour leads to a state that is found
abbrev pub SearchFindsAll : Type 0
SearchFindsAll = (k : ℕ) (automaton : Automaton ℕ) (found : ℕ → Bool) (word_of : ℕ → Word) (word : Word)
    → IsSearched k automaton found word_of → IsBehaviour k word → IsTrue (found (state_after automaton word))

-- and the word of each state is the least that leads to it
abbrev pub FoundWordsAreLeast : Type 0
FoundWordsAreLeast = (k : ℕ) (automaton : Automaton ℕ) (found : ℕ → Bool) (word_of : ℕ → Word) (state : ℕ)
    → IsSearched k automaton found word_of → IsTrue (found state)
    → IsLeastWhere k (λ word. state_after automaton word ≡ state) (word_of state)

-- of a search that stops at a bound, the same holds before the bound
abbrev pub SearchFindsAllBefore : Type 0
SearchFindsAllBefore = (k : ℕ) (automaton : Automaton ℕ) (found : ℕ → Bool) (word_of : ℕ → Word) (bound word : Word)
    → IsSearchedBefore k automaton found word_of bound → IsBehaviour k word → shortlex_order word bound ≡ Less
    → IsTrue (found (state_after automaton word)) × IsNoLater (word_of (state_after automaton word)) word

abbrev pub FoundWordsAreLeastBefore : Type 0
FoundWordsAreLeastBefore = (k : ℕ) (automaton : Automaton ℕ) (found : ℕ → Bool) (word_of : ℕ → Word) (bound : Word) (state : ℕ)
    → IsSearchedBefore k automaton found word_of bound → IsTrue (found state) → IsNoLater (word_of state) bound
    → IsLeastWhere k (λ word. state_after automaton word ≡ state) (word_of state)

-- the words that go on from a later word come later, whatever letter they go on by
abbrev pub LaterWordsGoOnLater : Type 0
LaterWordsGoOnLater = (first second : Word) (a b : List Bool)
    → shortlex_order first second ≡ Less → shortlex_order (first ++ a ∷ []) (second ++ b ∷ []) ≡ Less

-- and those that go on from one word, in the order of the letters
abbrev pub LaterLettersGoOnLater : Type 0
LaterLettersGoOnLater = (word : Word) (a b : List Bool)
    → letter_order a b ≡ Less → shortlex_order (word ++ a ∷ []) (word ++ b ∷ []) ≡ Less

-- ---- operations on sets keep sameness

abbrev pub OutsideKeepsSameness : Type 0
OutsideKeepsSameness = (k : ℕ) (L M : Language) → HaveSameBehaviours k L M → HaveSameBehaviours k (outside L) (outside M)

abbrev pub KeepsSameness : (Language → Language → Language) → Type 0
KeepsSameness operation = (k : ℕ) (L L' M M' : Language) → HaveSameBehaviours k L L' → HaveSameBehaviours k M M'
    → HaveSameBehaviours k (operation L M) (operation L' M')

abbrev pub IntersectionKeepsSameness : Type 0
IntersectionKeepsSameness = KeepsSameness intersection

abbrev pub UnionKeepsSameness : Type 0
UnionKeepsSameness = KeepsSameness union

abbrev pub AgreementKeepsSameness : Type 0
AgreementKeepsSameness = KeepsSameness agreement

abbrev pub ChopKeepsSameness : Type 0
ChopKeepsSameness = KeepsSameness chop

abbrev pub StarKeepsSameness : Type 0
StarKeepsSameness = (k : ℕ) (L M : Language) → HaveSameBehaviours k L M → HaveSameBehaviours k (star L) (star M)

-- the operand has one slot more
abbrev pub ProjectionKeepsSameness : Type 0
ProjectionKeepsSameness = (k : ℕ) (L M : Language) → HaveSameBehaviours (suc k) L M → HaveSameBehaviours k (projection L) (projection M)
