-- The laws of traces.
use Rattle.std.proofs.Common.{◌≡◌, ℕ, Bool, true, false, cond, List, [], ◌∷◌, ◌++◌, length, take, Option, Some, None, arith}
use Rattle.std.specs.List.{AllByRecursion}
use Rattle.std.proofs.lemmas.List.Elements.{recursion_from_All}
use Rattle.dcv_word.specs.Behaviour.{Word}
use Rattle.dcv_lustre.specs.Tree.{Node}
use Rattle.dcv_lustre.specs.Meaning.{Values, Valuation, inputs_at, has_only_tick, value_in, width_of, IsTraceFrom}
use Rattle.dcv_lustre.specs.Laws.{TraceExists, TraceIsOne, TraceOfBeginning}
use Rattle.dcv_lustre.proofs.InOrder.{stands_in_order}
use Rattle.dcv_lustre.proofs.OneTrace.{trace_exists, trace_is_one}

-- a letter of the width has a value for each input
width_of_inputs : (inputs : List (List ℕ)) (letter : List Bool) → length letter ≡ cond (has_only_tick inputs) 0 (length inputs)
    → length (cond (has_only_tick inputs) (false ∷ letter) letter) ≡ length inputs
width_of_inputs [] letter h = h
width_of_inputs (input ∷ other ∷ inputs) letter h = h
width_of_inputs (input ∷ []) letter h = by_cases (has_only_tick (input ∷ [])) h
  where
    by_cases : (only : Bool) → length letter ≡ cond only 0 1 → length (cond only (false ∷ letter) letter) ≡ 1
    by_cases true size = omega (arith, size)
    by_cases false size = size

widths_of_inputs : (node : Node) (word : Word) → AllByRecursion (λ letter. length letter ≡ width_of node) word
    → AllByRecursion (λ letter. length (inputs_at node letter) ≡ length node.inputs) word
widths_of_inputs node [] h = tt
widths_of_inputs node (letter ∷ word) h = (width_of_inputs node.inputs letter h.0, widths_of_inputs node word h.1)

pub some_trace : TraceExists
some_trace node well word widths =
    trace_exists node (stands_in_order node well) None word
    (widths_of_inputs node word (recursion_from_All (λ (letter : List Bool). length letter ≡ width_of node) word widths))

pub only_trace : TraceIsOne
only_trace node well word trace other h k = trace_is_one node (stands_in_order node well) None word trace other h k

beginning_from : (node : Node) (before : Option Values) (word more : Word) (trace : List Valuation) → IsTraceFrom node before (word ++ more) trace
    → IsTraceFrom node before word (take (length word) trace)
beginning_from node before [] more trace h = tt
beginning_from node before (letter ∷ word) more [] h = absurd h
beginning_from node before (letter ∷ word) more (now ∷ trace) h = (h.0, beginning_from node (Some (value_in node now)) word more trace h.1)

pub trace_of_beginning : TraceOfBeginning
trace_of_beginning node word more trace h = beginning_from node None word more trace h
