-- Automata, whatever their states are, and the working machines that are explored.
--     Automaton S              where it starts, where it goes on each letter, and in which states it accepts
--     state_from               the state to which a word leads from a state
--     state_after              the state to which a word leads from the start
--     accepts_from             whether a word is accepted from a state (the empty word too)
--     accepts                  the set of words that it accepts, none of them empty
--     WorkingMachine S         an automaton with the number of slots of its letters
--     IsReached                a state to which some word over these slots leads
use Rattle.std.specs.Prelude.{◌≡◌, ℕ, Bool, false, List, [], ◌∷◌, length}
use Rattle.std.specs.List.{All}
use Rattle.dcv_word.specs.Behaviour.{Word}
use Rattle.dcv_language.specs.Language.{Language}

pub record Automaton (S : Type 0) : Type 0 where
  pub start : S
  pub next : S → List Bool → S
  pub accepting : S → Bool

abbrev pub state_from : {S : Type 0} → Automaton S → S → Word → S
state_from automaton state [] = state
state_from automaton state (letter ∷ letters) = state_from automaton (automaton.next state letter) letters

abbrev pub state_after : {S : Type 0} → Automaton S → Word → S
state_after automaton word = state_from automaton automaton.start word

abbrev pub accepts_from : {S : Type 0} → Automaton S → S → Language
accepts_from automaton state word = automaton.accepting (state_from automaton state word)

-- Whether the start accepts matters only where a nonempty word leads to it.
abbrev pub accepts : {S : Type 0} → Automaton S → Language
accepts automaton [] = false
accepts automaton (letter ∷ letters) = accepts_from automaton automaton.start (letter ∷ letters)

pub record WorkingMachine (S : Type 0) : Type 0 where
  pub slots : ℕ
  pub automaton : Automaton S
  pub open automaton use *

pub record IsReached {S : Type 0} (machine : WorkingMachine S) (state : S) : Type 0 where
  pub word : Word
  pub widths : All (λ letter. length letter ≡ machine.slots) word
  pub leads : state_after machine.automaton word ≡ state
