-- What is held under names, and what is left to read of the file that is open.
use Rattle.std.specs.Prelude.{◌≡◌, ℕ, ◌+◌, ◌<◌, ◌≤◌, List, [], ◌++◌, length, drop, Option, None, Some, option_map, IfSome, IsSome, ⊤}

-- What is held under the bytes of each name, and what is left to read of the open file, None where no file is open.
pub record Disk : Type 0 where
  pub held : List ℕ → Option (List ℕ)
  pub «open» : Option (List ℕ)

-- what is held under each name, where it is told
abbrev pub held_of : Option Disk → Option (List ℕ → Option (List ℕ))
held_of told = option_map (λ disk. disk.held) told

-- the disk is told before and after, and goes by this step; or it is told at neither time
abbrev pub WhereTold : (Disk → Disk → Type 0) → Option Disk → Option Disk → Type 0
WhereTold Step None None = ⊤
WhereTold Step None (Some new) = ⊥
WhereTold Step (Some old) None = ⊥
WhereTold Step (Some old) (Some new) = Step old new

-- what is held under the name is open, from its first byte on
pub record Opens (name : List ℕ) (old new : Disk) : Type 0 where
  pub there : IsSome (old.held name)
  pub whole : new.open ≡ old.held name

-- no file is open
abbrev pub Closes : Disk → Disk → Type 0
Closes old new = new.open ≡ None

-- these bytes were the next of the open file, of which the rest is left
pub record Gives (bytes : List ℕ) (old new : Disk) : Type 0 where
  pub rest : List ℕ
  pub before : old.open ≡ Some (bytes ++ rest)
  pub after : new.open ≡ Some rest

-- this many bytes were given
abbrev pub GivesMany : ℕ → Option Disk → Option Disk → Type 0
GivesMany count old new = (bytes : List ℕ) × (length bytes ≡ count) × WhereTold (Gives bytes) old new

-- at most this many bytes were given
pub record GivesAtMost (most : ℕ) (old new : Option Disk) : Type 0 where
  pub bytes : List ℕ
  pub fits : length bytes ≤ most
  pub given : WhereTold (Gives bytes) old new

-- what was given stands after what there was
abbrev pub GivesAdded : List ℕ → List ℕ → Option Disk → Option Disk → Type 0
GivesAdded before after old new = (bytes : List ℕ) × (after ≡ before ++ bytes) × WhereTold (Gives bytes) old new

-- the open file has been read to its end, where it is told
abbrev pub IsAtEnd : Option Disk → Type 0
IsAtEnd told = IfSome told (λ disk. disk.open ≡ Some [])

-- more bytes than the limit are held under the name, and one more than the limit have been read
pub record ReadsPast (name : List ℕ) (limit : ℕ) (old new : Disk) : Type 0 where
  pub bytes : List ℕ
  pub there : old.held name ≡ Some bytes
  pub longer : limit < length bytes
  pub left : new.open ≡ Some (drop (limit + 1) bytes)

-- What is open, if a file is, is the file of this name, of which at most so many bytes have been read.
abbrev pub ReadsAtMost : List ℕ → ℕ → Disk → Disk → Type 0
ReadsAtMost name most old new = IfSome new.open (λ rest. (bytes : List ℕ) × (length bytes ≤ most) × (old.held name ≡ Some (bytes ++ rest)))
