-- The decision diagram of functions from letters to numbers, by plain lists.
-- A function of the letters of so many slots is written as its table: its 2 ^ slots numbers, in the letters' order.
--     as_table slots function          a function's table
--     block slots table level place    one of the 2 ^ level parts of the table, each as long: the numbers of the letters that begin alike
--     blocks slots table level         these parts, in order
--     nodes_at slots table level       the diagram's nodes at a level: the blocks whose two halves differ, each beside the level
--     nodes_of slots table             the nodes of all levels, some maybe more than once
--     nodes_of_all slots tables        those of several functions
--     node_count slots tables          how many nodes several functions have together, each counted once
use Rattle.std.specs.Prelude.{ℕ, ◌-◌, ◌*◌, ◌/◌, ◌^◌, ◌==◌, Bool, not, ◌&&◌, nat_eq, List, length, map, filter, take, drop}
use Rattle.std.specs.Cmp.Lexicographic.{pointwise}
use Rattle.std.specs.List.{flat_map, range_with_len}
use Rattle.std.specs.Set.{distinct_count}
use Rattle.dcv_word.specs.Letter.{letters_of_width}

abbrev pub as_table : ℕ → (List Bool → ℕ) → List ℕ
as_table slots function = map function (letters_of_width slots)

abbrev pub block : ℕ → List ℕ → ℕ → ℕ → List ℕ
block slots table level place = let size = 2 ^ (slots - level) in take size (drop (place * size) table)

abbrev pub blocks : ℕ → List ℕ → ℕ → List (List ℕ)
blocks slots table level = map (block slots table level) (range_with_len 0 (2 ^ level))

-- the first half is of the letters with false in the level's slot, the second of those with true
abbrev pub first_half : List ℕ → List ℕ
first_half numbers = take (length numbers / 2) numbers

abbrev pub second_half : List ℕ → List ℕ
second_half numbers = drop (length numbers / 2) numbers

abbrev pub halves_differ : List ℕ → Bool
halves_differ numbers = not (pointwise nat_eq (first_half numbers) (second_half numbers))

abbrev pub nodes_at : ℕ → List ℕ → ℕ → List (ℕ × List ℕ)
nodes_at slots table level = map (λ numbers. (level, numbers)) (filter halves_differ (blocks slots table level))

unfoldable pub nodes_of : ℕ → List ℕ → List (ℕ × List ℕ)
nodes_of slots table = flat_map (nodes_at slots table) (range_with_len 0 slots)

abbrev pub nodes_of_all : ℕ → List (List ℕ) → List (ℕ × List ℕ)
nodes_of_all slots tables = flat_map (nodes_of slots) tables

-- two nodes are the same where the levels and the blocks are
abbrev pub is_same_node : ℕ × List ℕ → ℕ × List ℕ → Bool
is_same_node a b = (a.0 == b.0) && pointwise nat_eq a.1 b.1

abbrev pub node_count : ℕ → List (List ℕ) → ℕ
node_count slots tables = distinct_count is_same_node (nodes_of_all slots tables)
