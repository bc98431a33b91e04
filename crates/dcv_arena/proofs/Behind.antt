-- The nodes of a function that a ref means after a front.
use Rattle.std.proofs.Common.{◌≡◌, ℕ, ◌-◌, ◌≤◌, Bool, List, ◌++◌, length, take, drop, Contains, inl, inr, sym, ap, ◌∙◌, arith}
use Rattle.std.proofs.lemmas.Bool.{cases_lt}
use Rattle.std.proofs.lemmas.List.{append_assoc, length-append, length-drop, length-take-le, take-append-drop}
use Rattle.dcv_arena.specs.Arena.{ArenaValue, IsReduced, IsRef, level_of, value_of, table_of}
use Rattle.dcv_arena.specs.Diagram.{as_table, nodes_of}
use Rattle.dcv_arena.specs.Laws.{MeansBehind, NodesAreBehindFronts}
use Rattle.dcv_arena.specs.declared.nodes.Ref.{Ref}
use Rattle.dcv_arena.proofs.Refs.{ignores_earlier}
use Rattle.dcv_arena.proofs.Blocks.{nodes_of-from, nodes_of-is}
use Rattle.dcv_arena.proofs.Listed.{agree_behind, no_earlier, with_front}

-- each node of the ref stands after a front that is no shorter than the given one, since no earlier slot splits the ref's function;
-- the ref ignores how that front begins, and where it begins with the given one the numbers are those of the function
pub of_meant : (arena : ArenaValue) (is : IsReduced arena) (ref : Ref) (front : List Bool) (function : List Bool → ℕ) → IsRef arena ref
    → length front ≤ level_of arena ref → MeansBehind arena ref front function
    → (node : ℕ × List ℕ) → Contains (nodes_of arena.slots (table_of arena ref)) node → Contains (nodes_of arena.slots (as_table arena.slots function)) node
unfolding table_of
of_meant arena is ref front function one later means node c =
    let f = value_of arena ref in
    let count = length front in
    let split = nodes_of-is arena.slots f node c in
    let whole = split.front in
    let inside : count ≤ length whole = elim (cases_lt (length whole) count) [
      | inl short ↦ absurd (no_earlier arena is ref one node split (omega (arith, split.level)))
      | inr long ↦ long
    ] in
    let before = take count whole in
    let back = drop count whole in
    let before_size : length before ≡ count = length-take-le count whole inside in
    let back_size : length back ≡ length whole - count = length-drop count whole in
    nodes_of-from arena.slots function node
    (with_front f function node split (front ++ back) (omega (arith, length-append front back)) (λ values size.
    (λ i. f (sym (take-append-drop count whole) i ++ values))
    ∙ ap f (append_assoc before back values)
    ∙ ignores_earlier arena is count ref one later (before ++ (back ++ values)) (front ++ (back ++ values))
    (λ slot from. agree_behind before front (back ++ values) before_size slot (omega arith))
    ∙ means (back ++ values) (omega (arith, length-append back values))
    ∙ ap function (sym (append_assoc front back values))))

pub behind_fronts : NodesAreBehindFronts
behind_fronts arena ref front function is one later means node c = of_meant arena is.reduced ref front function one later means node c
