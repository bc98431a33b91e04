-- Lines of an automaton's nodes and states, by the texts that stand around their parts.
--     in_turn pieces             texts after one another
--     child_text target          a state as its number, and a node as `nJ`
--     node_text layout line      the line of a node
--     row_text layout line       the line of a state, by its row
--     listed_by before after between none texts    the texts, each between two, with something between every two or in place of none
--     listed listing texts       the same by a listing
--     accepting_numbers lines    the numbers of the states that accept
use Rattle.std.specs.Prelude.{ℕ, List, [], ◌∷◌, ◌++◌, map}
use Rattle.std.specs.Borrow.{Bor}
use Rattle.std.specs.Fmt.{decimal}
use Rattle.std.specs.List.{filter, flat_map, join_by}
use Rattle.std.specs.Str.{byte}
use Rattle.dcv_language.specs.declared.child.Child.{Child}
use Rattle.dcv_language.specs.declared.child.Child.TheVariants.{State, Node}
use Rattle.dcv_automaton_text.specs.File.{NodeLine, StateLine}
use Rattle.dcv_automaton_file.specs.declared.lines.Listing.{Listing}
use Rattle.dcv_automaton_file.specs.declared.lines.NodeLayout.{NodeLayout}
use Rattle.dcv_automaton_file.specs.declared.lines.RowLayout.{RowLayout}

abbrev pub in_turn : List (Bor (List ℕ)) → List ℕ
in_turn pieces = flat_map (λ (piece : Bor (List ℕ)). piece.now) pieces

abbrev pub child_text : Child → List ℕ
child_text (State state) = decimal state
child_text (Node number) = byte "n" ∷ decimal number

abbrev pub node_text : NodeLayout → NodeLine → List ℕ
node_text layout line =
    in_turn layout.number.now
    ++ (decimal line.number ++ (in_turn layout.variable.now ++ (line.name ++ (layout.hi.now ++ (child_text line.hi ++ (layout.lo.now ++ (child_text line.lo ++ layout.end.now)))))))

abbrev pub row_text : RowLayout → StateLine → List ℕ
row_text layout line = in_turn layout.number.now ++ (decimal line.number ++ (in_turn layout.row.now ++ (child_text line.row ++ layout.end.now)))

abbrev pub listed_by : List ℕ → List ℕ → List ℕ → List ℕ → List (List ℕ) → List ℕ
listed_by before after between none [] = none
listed_by before after between none (text ∷ texts) = join_by (λ text. before ++ (text ++ after)) between (text ∷ texts)

abbrev pub one_listed : Listing → List ℕ → List ℕ
one_listed listing text = in_turn listing.before.now ++ (text ++ listing.after.now)

abbrev pub listed : Listing → List (List ℕ) → List ℕ
listed listing texts = listed_by (in_turn listing.before.now) listing.after.now listing.between.now (in_turn listing.none.now) texts

abbrev pub number_of : StateLine → List ℕ
number_of line = decimal line.number

abbrev pub accepting_numbers : List StateLine → List (List ℕ)
accepting_numbers lines = map number_of (filter (λ (line : StateLine). line.accepting) lines)
