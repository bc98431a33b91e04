-- Marks: states, each beside a function that has the number 1 at some letters and 0 at the others. A state without a mark has 0 at each.
--     marked arena marks letter state     whether a state has 1 at a letter
--     IsMarkFrom arena states slot mark   a state and such a function, which depends on no slot before this one
--     AreTold raw blocks word arena slot front marks   at the letters that begin as the front does: the letter, then the word, tells two states
--                                         of one block apart where the marks do
--     AreDone raw blocks word slot front    and at none of these letters does it
--     IsSideOf arena slot value marks side    where the slot has the value, the side has the same states marked
--     IsSplitOff raw blocks test part     in each block the part has the states on one side of the test; and if it has a state, then not all of a block
use Rattle.std.specs.Prelude.{◌≡◌, ◌≢◌, ℕ, ◌<◌, ◌≤◌, ◌==◌, ◌&&◌, Bool, false, List, [], ◌∷◌, length, slice_index_or}
use Rattle.std.specs.List.{list_any}
use Rattle.dcv_word.specs.Behaviour.{Word}
use Rattle.dcv_arena.specs.Arena.{ArenaValue, IsRef, level_of, value_of}
use Rattle.dcv_arena.specs.declared.nodes.Ref.{Ref}
use Rattle.dcv_letters.specs.Walk.{AgreeBefore}
use Rattle.dcv_dfa.specs.Raw.{RawValue}
use Rattle.dcv_certificate.specs.Separation.{accepts_word, TellAlike, AreTogether, has}

abbrev pub marked : ArenaValue → List (ℕ × Ref) → List Bool → ℕ → Bool
marked arena marks letter state = list_any (λ mark. (mark.0 == state) && (value_of arena mark.1 letter == 1)) marks

pub record IsMarkFrom (arena : ArenaValue) (states slot : ℕ) (mark : ℕ × Ref) : Type 0 where
  pub is_state : mark.0 < states
  pub is_ref : IsRef arena mark.1
  pub level : slot ≤ level_of arena mark.1

abbrev pub AreTold : RawValue → List ℕ → Word → ArenaValue → ℕ → List Bool → List (ℕ × Ref) → Type 0
AreTold raw blocks word arena slot front marks = (first second : ℕ) (letter : List Bool) → AreTogether raw blocks first second
    → length letter ≡ raw.arena.slots → AgreeBefore slot front letter
    → TellAlike (accepts_word raw (letter ∷ word)) (marked arena marks letter) first second

abbrev pub AreDone : RawValue → List ℕ → Word → ℕ → List Bool → Type 0
AreDone raw blocks word slot front = (first second : ℕ) (letter : List Bool) → AreTogether raw blocks first second
    → length letter ≡ raw.arena.slots → AgreeBefore slot front letter
    → accepts_word raw (letter ∷ word) first ≡ accepts_word raw (letter ∷ word) second

abbrev pub IsSideOf : ArenaValue → ℕ → Bool → List (ℕ × Ref) → List (ℕ × Ref) → Type 0
IsSideOf arena slot value marks side = (state : ℕ) (letter : List Bool) → slice_index_or letter slot false ≡ value
    → marked arena side letter state ≡ marked arena marks letter state

-- two states of one block, one of which is in the part
pub record SplitsSome (raw : RawValue) (blocks part : List ℕ) : Type 0 where
  pub first : ℕ
  pub second : ℕ
  pub together : AreTogether raw blocks first second
  pub differ : has part first ≢ has part second

pub record IsSplitOff (raw : RawValue) (blocks : List ℕ) (test : ℕ → Bool) (part : List ℕ) : Type 0 where
  pub alike : (first second : ℕ) → AreTogether raw blocks first second → TellAlike test (has part) first second
  pub some : part ≢ [] → SplitsSome raw blocks part
