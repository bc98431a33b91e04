-- What a text is: a unit, or at fault. The syntax is judged over the whole text first, and names only where the text is a sentence.
--     subset                   the subset, as one of those of which `dcv_observer` tells what their texts are
--     HasFault text fault      the fault of a text, at its offset
--     IsReadAs text unit       the text spells the unit, which keeps the rules of names
use Rattle.std.specs.Prelude.{ℕ, List}
use Rattle.dcv_observer.specs.declared.fault.ObsFault.{ObsFault}
use Rattle.dcv_observer.specs.Subsets.{Subset}
use Rattle.dcv_observer.specs.Subsets as subsets
use Rattle.dcv_c.specs.Tree.{CUnit}
use Rattle.dcv_c.specs.Placed.{PlacedUnit, unit_of}
use Rattle.dcv_c.specs.Actions.{Part, AUnit, scheme}
use Rattle.dcv_c.specs.Rules.{judged, words_of}

abbrev pub subset : Subset Part PlacedUnit CUnit
subset = record { scheme = scheme; whole = AUnit; tree_of = unit_of; words_of = words_of; judged = judged }

abbrev pub HasFault : List ℕ → ObsFault → Type 0
HasFault text fault = subsets.HasFault subset text fault

abbrev pub IsReadAs : List ℕ → CUnit → Type 0
IsReadAs text unit = subsets.IsReadAs subset text unit
