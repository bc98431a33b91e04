-- Whether the words of an automaton's text show by themselves that its table has the fewest states.
--     set_of file                    the words that its table accepts
--     word_at file state             the access word of a state, as its line spells it
--     landed file state              the state to which that word leads
--     HasGoodWords file              the word of each state leads to it, so that each state is reached
--     AreTold file first second      some listed suffix tells the access words of two states apart
--     HasAllTold file                so it is with any two states
--     IsFirstAstray file state       the first state whose word leads elsewhere
--     IsFirstPair file first second  the first two states that no listed suffix tells apart
--     IsCertified file answer        the answer is that of the file
--     HasFewestStates file           each table automaton that accepts the same behaviours has as many states or more
--     WhereMinimal fact answer       a fact that such an answer shows
use Rattle.std.specs.Prelude.{◌≡◌, ◌≢◌, ◌⊎◌, ℕ, ◌<◌, ◌≤◌, length}
use Rattle.dcv_word.specs.Behaviour.{Word}
use Rattle.dcv_language.specs.Language.{Language}
use Rattle.dcv_language.specs.Table.{Table, IsTable, leads_to, table_accepts, AcceptsExactly}
use Rattle.dcv_language.specs.Canonical.{access_word}
use Rattle.dcv_language.specs.Certificate.{AreToldBy}
use Rattle.dcv_automaton_text.specs.File.{AutomatonFile}
use Rattle.dcv_automaton_text.specs.Meaning.{table_of, access_words_of, suffix_words_of}
use Rattle.dcv_certify.specs.declared.answer.Answer.{Answer}
use Rattle.dcv_certify.specs.declared.answer.Answer.TheVariants.{Minimal, Access, Pair}

abbrev pub set_of : AutomatonFile → Language
set_of file = table_accepts (table_of file)

-- ---- access words

abbrev pub word_at : AutomatonFile → ℕ → Word
word_at file state = access_word (access_words_of file) state

-- the word is followed as it is spelled, also where it goes on from one that leads elsewhere
abbrev pub landed : AutomatonFile → ℕ → ℕ
landed file state = leads_to (table_of file) (word_at file state)

abbrev pub HasGoodWords : AutomatonFile → Type 0
HasGoodWords file = (state : ℕ) → state < file.states → landed file state ≡ state

pub record IsFirstAstray (file : AutomatonFile) (state : ℕ) : Type 0 where
  pub is_state : state < file.states
  pub astray : landed file state ≢ state
  pub before : (other : ℕ) → other < state → landed file other ≡ other

-- ---- suffixes

-- Both words go on as behaviours, and exactly one of these is accepted. So the empty suffix says nothing of an empty access word.
abbrev pub AreTold : AutomatonFile → ℕ → ℕ → Type 0
AreTold file first second = AreToldBy (length file.names) (set_of file) (suffix_words_of file) (word_at file first) (word_at file second)

abbrev pub HasAllTold : AutomatonFile → Type 0
HasAllTold file = (first second : ℕ) → first < second → second < file.states → AreTold file first second

pub record IsPair (file : AutomatonFile) (first second : ℕ) : Type 0 where
  pub in_order : first < second
  pub is_state : second < file.states
  pub not_told : ¬ AreTold file first second

-- one pair is the other, or comes before it
abbrev pub IsNoLaterPair : ℕ → ℕ → ℕ → ℕ → Type 0
IsNoLaterPair first second other another = (first < other) ⊎ ((first ≡ other) × (second ≤ another))

pub record IsFirstPair (file : AutomatonFile) (first second : ℕ) : Type 0 where
  pub pair : IsPair file first second
  pub least : (other another : ℕ) → IsPair file other another → IsNoLaterPair first second other another

-- ---- the answer

abbrev pub IsCertified : AutomatonFile → Answer → Type 0
IsCertified file Minimal = HasGoodWords file × HasAllTold file
IsCertified file (Access state) = IsFirstAstray file state
IsCertified file (Pair first second) = HasGoodWords file × IsFirstPair file first second

-- ---- what it shows

-- whether or not the start of the other table accepts
abbrev pub HasFewestStates : AutomatonFile → Type 0
HasFewestStates file = (table : Table) → IsTable (length file.names) table → AcceptsExactly (length file.names) table (set_of file)
    → file.states ≤ length table

abbrev pub WhereMinimal : Type 0 → Answer → Type 0
WhereMinimal fact Minimal = fact
WhereMinimal fact (Access state) = Unit {0}
WhereMinimal fact (Pair first second) = Unit {0}
