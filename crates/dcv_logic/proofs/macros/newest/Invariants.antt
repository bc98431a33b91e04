use Rattle.std.proofs.Common.{◌≡◌, ◌≢◌, ◌++◌, List, length}
use Rattle.std.specs.List.{AllByRecursion}
use Rattle.dcv_syntax.specs.declared.files.Macro.{Macro}
use Rattle.dcv_logic.proofs.macros.newest.Given as goal

-- none of those after has the name
abbrev pub invariant-loop-last : goal.invariant-loop-last
invariant-loop-last l =
    (after : List Macro) × (l.macros ≡ l.earlier ++ after) × AllByRecursion (λ (m : Macro). m.name.text ≢ l.name) after

abbrev pub decreases-loop-last : goal.decreases-loop-last
decreases-loop-last l = length l.earlier
