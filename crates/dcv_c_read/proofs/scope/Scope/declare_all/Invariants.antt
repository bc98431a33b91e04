use Rattle.std.proofs.Common.{ℕ, List, Bool, Option, map, drop, ◌++◌}
use Rattle.dcv_lexer.specs.Cuts.{Token}
use Rattle.dcv_observer.specs.Left.{seen}
use Rattle.dcv_c.specs.Placed.{bytes_of}
use Rattle.dcv_c_read.specs.Scope.{Frame, keeps_names, Knows}
use Rattle.dcv_observer.specs.Judged.{IsLeft}
use Rattle.dcv_c_read.proofs.Lists.{AreDeclaredSoFar}
use Rattle.dcv_c_read.proofs.scope.Scope.declare_all.Given as goal

abbrev pub invariant-loop-place : goal.invariant-loop-place
invariant-loop-place l =
    (frame : Frame) → Knows frame l.initial.self → (whole : Option ℕ) (others : List Token) (keeps : List Bool)
    → IsLeft whole (map seen l.words ++ others) (keeps_names l.are_left frame.earlier 0 (bytes_of (map seen l.words)) ++ keeps)
    → AreDeclaredSoFar l.are_left frame whole others keeps l.words l.place l.texts.items (drop l.place l.words) l.self
