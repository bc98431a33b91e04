-- For the proofs: suffixes that are to be tried, and what was tried so far.
--     waiting left column place          those after one more, if any
--     rank_of, work_left ..              numbers that grow less with each suffix that is tried
--     IsSteady column                    a column is the same at all states
--     IsFirstBelow column first below    the link leads there, or to none where the column is so
--     suffix_word file place                 the word of a suffix
--     IsKnown file numbers place         entries of one number are told apart by no such suffix
--     Waits first next left place        the suffix is met from one that is to be tried
--     IsNumbering file numbers           entries that no suffix of the file tells apart have one number, the least of them
--     IsWalk file first next left numbers    each suffix is known, or waits
use Rattle.std.specs.Prelude.{◌≡◌, ◌⊎◌, ℕ, zero, suc, ◌<◌, ◌+◌, ◌-◌, ◌*◌, Bool, List, [], ◌∷◌, ◌++◌, length, Option, None, Some, Vec, slice_index_or}
use Rattle.std.specs.declared.alloc.Global.{Global}
use Rattle.std.specs.List.{AllByRecursion}
use Rattle.dcv_word.specs.Behaviour.{Word}
use Rattle.dcv_automaton_text.specs.File.{AutomatonFile}
use Rattle.dcv_automaton_text.specs.Meaning.{table_of, suffix_words_of}
use Rattle.dcv_certify.specs.declared.walk.Untried.{Untried}
use Rattle.dcv_certify.specs.Alike.{bit, entries_of, AreAlike}
use Rattle.dcv_certify.specs.Columns.{IsColumnBefore}
use Rattle.dcv_certify.specs.Links.{suffix_at, parent_at, link_at, Below}
use Rattle.dcv_certify.specs.Split.{number_at, bit_at, AreOwn}

-- ---- suffixes that are to be tried

abbrev pub waiting : List Untried → Vec Bool Global → Option ℕ → List Untried
waiting left column None = left
waiting left column (Some place) = left ++ record { column = column; place = place } ∷ []

abbrev pub depth_of : Option ℕ → ℕ
depth_of None = 0
depth_of (Some parent) = suc parent

abbrev pub left_beside : ℕ → Option ℕ → ℕ
left_beside left None = 0
left_beside left (Some other) = left

-- less for those that go on from the suffix, and for the next that goes on from the same one
abbrev pub rank_of : AutomatonFile → List (Option ℕ) → ℕ → ℕ
rank_of file next place =
    let count = length file.suffix_lines in
    (count - depth_of (parent_at file place)) * (count + 1) + left_beside (count - place) (link_at next place)

abbrev pub weight : ℕ → ℕ
weight zero = 1
weight (suc rank) = 3 * weight rank

abbrev pub work_left : AutomatonFile → List (Option ℕ) → List Untried → ℕ
work_left file next [] = 0
work_left file next (at ∷ left) = weight (rank_of file next at.place) + work_left file next left

-- ---- where nothing below tells states apart

abbrev pub IsSteadyBefore : List Bool → ℕ → Type 0
IsSteadyBefore column count = (entry : ℕ) → entry < count → bit_at column entry ≡ bit_at column 0

abbrev pub IsSteady : List Bool → Type 0
IsSteady column = IsSteadyBefore column (length column - 1)

abbrev pub IsFirstBelow : List Bool → Option ℕ → Option ℕ → Type 0
IsFirstBelow column first below = (below ≡ first) ⊎ ((below ≡ None) × IsSteady column)

-- ---- what was tried so far

abbrev pub suffix_word : AutomatonFile → ℕ → Word
suffix_word file place = slice_index_or (suffix_words_of file) place []

abbrev pub IsKnown : AutomatonFile → List ℕ → ℕ → Type 0
IsKnown file numbers place = (one other : ℕ) → one < length numbers → other < length numbers → number_at numbers one ≡ number_at numbers other
    → bit (table_of file) one (suffix_word file place) ≡ bit (table_of file) other (suffix_word file place)

abbrev pub Waits : List (Option ℕ) → List (Option ℕ) → List Untried → ℕ → Type 0
Waits first next [] place = ⊥
Waits first next (at ∷ left) place = Below first next (Some at.place) place ⊎ Waits first next left place

abbrev pub IsUntried : AutomatonFile → Untried → Type 0
IsUntried file at =
    (at.place < length file.suffix_lines) × IsColumnBefore (table_of file) (suffix_words_of file) at.column.items (suffix_at file at.place)

pub record IsNumbering (file : AutomatonFile) (numbers : List ℕ) : Type 0 where
  pub count : length numbers ≡ entries_of file
  pub own : AreOwn numbers
  pub joined : (one other : ℕ) → one < length numbers → other < length numbers → AreAlike (table_of file) (suffix_words_of file) one other
      → number_at numbers one ≡ number_at numbers other

pub record IsWalk (file : AutomatonFile) (first next : List (Option ℕ)) (left : List Untried) (numbers : List ℕ) : Type 0 where
  pub numbering : IsNumbering file numbers
  pub columns : AllByRecursion (IsUntried file) left
  pub each : (place : ℕ) → place < length file.suffix_lines → IsKnown file numbers place ⊎ Waits first next left place
