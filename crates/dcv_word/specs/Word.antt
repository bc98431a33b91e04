-- A word is a row of letters that value the same variables.
--     WordValue        what a `Word` is seen as
--     shortlex_order   the shorter first, and of two as long the one whose first differing letter comes first
use Rattle.std.specs.Prelude.{◌≡◌, ℕ, ◌≤◌, Bool, List, length}
use Rattle.std.specs.List.{All}
use Rattle.std.specs.declared.cmp.Ordering.{Ordering}
use Rattle.std.specs.Ordering.{nat_cmp, ordering_then}
use Rattle.std.specs.Cmp.Lexicographic.{slice_cmp}
use Rattle.dcv_word.specs.Behaviour.{Word}
use Rattle.dcv_word.specs.Letter.{letter_order}

-- how many variables each letter values, and the letters
pub record WordValue : Type 0 where
  pub width : ℕ
  pub letters : Word

-- each letter values as many variables, and those are 32 at most
pub record IsWord (width : ℕ) (letters : Word) : Type 0 where
  pub bound : width ≤ 32
  pub widths : All (λ letter. length letter ≡ width) letters

abbrev pub shortlex_order : Word → Word → Ordering
shortlex_order u v = ordering_then (nat_cmp (length u) (length v)) (slice_cmp letter_order u v)
