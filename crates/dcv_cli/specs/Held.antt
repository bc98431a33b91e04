-- What is right where a command is given texts that are held under names.
--     Texts                               what is held under each name, as the first file is opened, which has number 0, and as the next is
--     OnHeld held name OfText outcome     the outcome is right for the text that is held under the name
--     IsHeldText told name text           this text is held under the name, where that is told
--     OfHeldText told name P              P of the text that is held under the name, where that is told
--     ForHeld told P                      P of what the files tell that they hold
use Rattle.std.specs.Prelude.{◌≡◌, ℕ, List, Option, Some, IfSome, IsSomeAnd}
use Rattle.dcv_cli.specs.Common.{Disk, held_of}
use Rattle.dcv_cli.specs.Outcome.{Outcome}

abbrev pub Texts : Type 0
Texts = ℕ → List ℕ → Option (List ℕ)

-- no outcome where nothing is held under the name
abbrev pub OnHeld : (List ℕ → Option (List ℕ)) → List ℕ → (List ℕ → Outcome → Type 0) → Outcome → Type 0
OnHeld held name OfText outcome = IsSomeAnd (held name) (λ text. OfText text outcome)

-- P of what is held, where the files tell it: that is the same at each time. Files that tell nothing may hold any texts, and others later.
pub record ForHeld (told : Option Disk) (P : Texts → Type 0) : Type 0 where
  pub held : Texts
  pub same : IfSome (held_of told) (λ told_held. (time : ℕ) → held time ≡ told_held)
  pub holds : P held

abbrev pub IsHeldText : Option Disk → List ℕ → List ℕ → Type 0
IsHeldText told name text = IfSome (held_of told) (λ held. held name ≡ Some text)

pub record OfHeldText (told : Option Disk) (name : List ℕ) (P : List ℕ → Type 0) : Type 0 where
  pub text : List ℕ
  pub there : IsHeldText told name text
  pub is : P text
