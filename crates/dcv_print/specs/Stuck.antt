-- What is said where it is asked after which behaviours a system that has kept to a set so far has no way to go on.
--     stuck_text least    by the least of them, if there is one
use Rattle.std.specs.Prelude.{ℕ, List, Option, None, Some, codes}
use Rattle.dcv_word.specs.Behaviour.{Word}
use Rattle.dcv_language.specs.VerdictText.{line, shown}

abbrev pub stuck_text : Option Word → List ℕ
stuck_text None = line (codes "never stuck")
stuck_text (Some word) = shown (codes "stuck") (Some word)
