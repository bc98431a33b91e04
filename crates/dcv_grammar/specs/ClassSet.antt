-- Sets of classes: class k is in the set where bit k of the number is 1.
use Rattle.std.specs.Prelude.{ℕ, ◌^◌, Bool, true, false, List, [], ◌∷◌, nat_eq, bit_and, bit_or}
use Rattle.std.specs.Int.{bit_at}

abbrev pub ClassSet : Type 0
ClassSet = ℕ

abbrev pub none : ClassSet
none = 0

abbrev pub only : ℕ → ClassSet
only class = 2 ^ class

abbrev pub union : ClassSet → ClassSet → ClassSet
union a b = bit_or a b

abbrev pub has : ClassSet → ℕ → Bool
has set class = nat_eq (bit_at set class) 1

-- a is part of b
abbrev pub is_within : ClassSet → ClassSet → Bool
is_within a b = nat_eq (bit_or a b) b

-- no class is in both
abbrev pub is_apart : ClassSet → ClassSet → Bool
is_apart a b = nat_eq (bit_and a b) 0

-- the set, if the test holds, and else none
abbrev pub kept_if : Bool → ClassSet → ClassSet
kept_if true set = set
kept_if false set = none

abbrev pub set_of : List ℕ → ClassSet
set_of [] = none
set_of (class ∷ classes) = union (only class) (set_of classes)
