-- The least values of the last slots that lead from a ref on into a set of states, for each place of an arena.
--     won_at win state                 whether the state is in the set (a number that is no state is not)
--     leads_in arena win root front    the rests of a letter that lead into the set after a front
--     IsAnswer arena win root answer   after each front the least such rest, as a number, with the state to which it leads, or none
--     first_of lo hi weight            the answer where the slot is false, or else the one where it is true
--     answer_at win answers root       the leaf's own answer, or what the list has of the place
--     AreAnswers arena win answers     the list has the answer of each place that it has
--     AreAllAnswers arena win answers  and it has all places
use Rattle.std.specs.Prelude.{◌≡◌, ℕ, ◌+◌, ◌<◌, ◌≤◌, Bool, false, if◌then◌else◌, List, ◌++◌, length, Option, Some, None, slice_index_or, IsTrue, IsFalse}
use Rattle.dcv_word.specs.Letter.{bits_of}
use Rattle.dcv_language.specs.Operations.{some_track}
use Rattle.dcv_arena.specs.Arena.{ArenaValue, level_of, value_of}
use Rattle.dcv_arena.specs.declared.nodes.Ref.{Ref}
use Rattle.dcv_arena.specs.declared.nodes.Ref.TheVariants.{Leaf, Place}
use Rattle.dcv_synth.specs.Tracks.{least_track}
use Rattle.dcv_synth.specs.declared.answers.Answer.{Answer}

abbrev pub won_at : List Bool → ℕ → Bool
won_at win state = slice_index_or win state false

abbrev pub leads_in : ArenaValue → List Bool → Ref → List Bool → List Bool → Bool
leads_in arena win root front rest = won_at win (value_of arena root (front ++ rest))

pub record IsLeast (arena : ArenaValue) (win : List Bool) (root : Ref) (front : List Bool) (count : ℕ) (answer : Answer) : Type 0 where
  pub some : IsTrue (some_track count (leads_in arena win root front))
  pub output : bits_of (least_track count (leads_in arena win root front)) ≡ answer.output
  pub next : value_of arena root (front ++ least_track count (leads_in arena win root front)) ≡ answer.next

abbrev pub IsAnswerBehind : ArenaValue → List Bool → Ref → List Bool → ℕ → Option Answer → Type 0
IsAnswerBehind arena win root front count None = IsFalse (some_track count (leads_in arena win root front))
IsAnswerBehind arena win root front count (Some answer) = IsLeast arena win root front count answer

abbrev pub IsAnswer : ArenaValue → List Bool → Ref → Option Answer → Type 0
IsAnswer arena win root answer = (front : List Bool) (count : ℕ) → length front + count ≡ arena.slots → length front ≤ level_of arena root
    → IsAnswerBehind arena win root front count answer

abbrev pub first_of : Option Answer → Option Answer → ℕ → Option Answer
first_of (Some lo) hi weight = Some lo
first_of None (Some hi) weight = Some (record { output = hi.output + weight; next = hi.next })
first_of None None weight = None

abbrev pub answer_at : List Bool → List (Option Answer) → Ref → Option Answer
answer_at win answers (Leaf state) = if won_at win state then Some (record { output = 0; next = state }) else None
answer_at win answers (Place place) = slice_index_or answers place None

abbrev pub AreAnswers : ArenaValue → List Bool → List (Option Answer) → Type 0
AreAnswers arena win answers = (place : ℕ) → place < length answers → IsAnswer arena win (Place place) (slice_index_or answers place None)

pub record AreAllAnswers (arena : ArenaValue) (win : List Bool) (answers : List (Option Answer)) : Type 0 where
  pub places : length answers ≡ length arena.nodes
  pub each : AreAnswers arena win answers
