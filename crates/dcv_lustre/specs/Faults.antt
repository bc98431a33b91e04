-- What a text is: a node, or at fault. The syntax is judged over the whole text first, and names only where the text is a sentence.
--     subset                   the subset, as one of those of which `dcv_observer` tells what their texts are
--     HasFault text fault      the fault of a text, at its offset
--     IsReadAs text node       the text spells the node, which keeps the rules of names
use Rattle.std.specs.Prelude.{ℕ, List}
use Rattle.dcv_observer.specs.declared.fault.ObsFault.{ObsFault}
use Rattle.dcv_observer.specs.Subsets.{Subset}
use Rattle.dcv_observer.specs.Subsets as subsets
use Rattle.dcv_lustre.specs.Tree.{Node}
use Rattle.dcv_lustre.specs.Placed.{PlacedNode, node_of}
use Rattle.dcv_lustre.specs.Actions.{Part, ANode, scheme}
use Rattle.dcv_lustre.specs.Rules.{judged, words_of}

abbrev pub subset : Subset Part PlacedNode Node
subset = record { scheme = scheme; whole = ANode; tree_of = node_of; words_of = words_of; judged = judged }

abbrev pub HasFault : List ℕ → ObsFault → Type 0
HasFault text fault = subsets.HasFault subset text fault

abbrev pub IsReadAs : List ℕ → Node → Type 0
IsReadAs text node = subsets.IsReadAs subset text node
