-- The names of several files as one list, and what a word over it is on the names of one of them.
--     place_of names name         where a name stands in a list of names
--     with_new names more         the names, and those of the others that are new, in their order
--     joint_names lists           the names of all lists, each once, those of the first list first
--     HasAll joint own            each own name stands in the joint list
--     restricted joint own word   what a word over the joint names is on a file's own names
--     over joint own L            the words over the joint names that are in the set by what they are on the own names
use Rattle.std.specs.Prelude.{◌≡◌, ℕ, Bool, true, if◌then◌else◌, List, [], ◌∷◌, ◌++◌, map, bytes_eq}
use Rattle.std.specs.List.{AllByRecursion, position_or_len}
use Rattle.dcv_language.specs.Language.{Language}
use Rattle.dcv_logic.specs.Track.{truth_at}
use Rattle.dcv_scope.specs.Names.{stands_in}
use Rattle.dcv_word.specs.Behaviour.{Word}

-- the first place; beyond the end where it stands at none
abbrev pub place_of : List (List ℕ) → List ℕ → ℕ
place_of names name = position_or_len (λ other. bytes_eq other name) names

-- one more, unless it is there
abbrev pub with_name : List (List ℕ) → List ℕ → List (List ℕ)
with_name names name = if stands_in name names then names else names ++ name ∷ []

abbrev pub with_new : List (List ℕ) → List (List ℕ) → List (List ℕ)
with_new names [] = names
with_new names (name ∷ more) = with_new (with_name names name) more

abbrev pub joint_from : List (List ℕ) → List (List (List ℕ)) → List (List ℕ)
joint_from names [] = names
joint_from names (list ∷ lists) = joint_from (with_new names list) lists

abbrev pub joint_names : List (List (List ℕ)) → List (List ℕ)
joint_names lists = joint_from [] lists

abbrev pub HasAll : List (List ℕ) → List (List ℕ) → Type 0
HasAll joint own = AllByRecursion (λ name. stands_in name joint ≡ true) own

-- ---- words

-- the truth that a letter over these names gives to a name
abbrev pub truth_of : List (List ℕ) → List Bool → List ℕ → Bool
truth_of names letter name = truth_at letter (place_of names name)

abbrev pub restricted : List (List ℕ) → List (List ℕ) → Word → Word
restricted joint own word = map (λ letter. map (truth_of joint letter) own) word

abbrev pub over : List (List ℕ) → List (List ℕ) → Language → Language
over joint own L word = L (restricted joint own word)
