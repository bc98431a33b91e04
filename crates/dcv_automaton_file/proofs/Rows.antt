-- The lines of an automaton, one more at a time: their numbers, those of states that accept, and those of nodes.
use Rattle.std.proofs.Common.{◌≡◌, ℕ, zero, suc, ◌+◌, ◌<◌, ◌≤◌, Bool, true, false, cond, List, [], ◌∷◌, ◌++◌, length, map, take, get_or, refl, sym, ap, subst, ◌∙◌}
use Rattle.std.proofs.Common.{arith}
use Rattle.std.specs.List.{All, range_with_len, enumerate_from, filter}
use Rattle.std.proofs.lemmas.List.{take_more, length-take-le, map_push}
use Rattle.std.proofs.lemmas.Option.{slice_get-get_or}
use Rattle.dcv_language.specs.Limits.{most_nodes}
use Rattle.dcv_language.specs.declared.child.Child.{Child}
use Rattle.dcv_language.specs.declared.child.Child.TheVariants.{State, Node as NodeAt}
use Rattle.dcv_dfa.specs.declared.node_lines.NodeLine.{NodeLine}
use Rattle.dcv_dfa.specs.Auto.{IsAuto, count_of_nodes}
use Rattle.dcv_dfa.specs.NodeLines.{NodeLinesValue, node_lines_of, numbered, IsBelow, AreReduced}
use Rattle.dcv_dfa.specs.Raw.{RawValue, IsRaw}
use Rattle.dcv_dfa.proofs.Reduced.{has_node_lines}
use Rattle.dcv_automaton_text.specs.File.{StateLine}
use Rattle.dcv_automaton_file.specs.File.{state_line, state_lines}

-- ---- numbers

pub range_more : (first count : ℕ) → range_with_len first (count + 1) ≡ range_with_len first count ++ (first + count) ∷ []
range_more first zero = let e : first ≡ first + 0 = omega arith in ap (λ n. n ∷ []) e
range_more first (suc count) =
    let next : suc count + 1 ≡ suc (count + 1) = omega arith in
    let e : first + 1 + count ≡ first + suc count = omega arith in
    ap (range_with_len first) next ∙ ap (λ ns. first ∷ ns) (range_more (first + 1) count ∙ ap (λ n. range_with_len (first + 1) count ++ n ∷ []) e)

pub enumerate_more : {X : Type 0} (first : ℕ) (xs : List X) (x : X) → enumerate_from first (xs ++ x ∷ []) ≡ enumerate_from first xs ++ (first + length xs, x) ∷ []
enumerate_more first [] x = let e : first ≡ first + 0 = omega arith in ap (λ n. (n, x) ∷ []) e
enumerate_more first (y ∷ xs) x =
    let e : first + 1 + length xs ≡ first + suc (length xs) = omega arith in
    ap (λ rest. (first, y) ∷ rest) (enumerate_more (first + 1) xs x ∙ ap (λ n. enumerate_from (first + 1) xs ++ (n, x) ∷ []) e)

-- the first so many and one more, with their numbers
pub numbered_more : {X : Type 0} (xs : List X) (k : ℕ) (d : X) → k < length xs
    → enumerate_from 0 (take (k + 1) xs) ≡ enumerate_from 0 (take k xs) ++ (k, get_or xs k d) ∷ []
numbered_more xs k d within =
    let size : 0 + length (take k xs) ≡ k = omega (arith, length-take-le k xs (omega arith)) in
    ap (enumerate_from 0) (take_more xs k d within) ∙ enumerate_more 0 (take k xs) (get_or xs k d) ∙ ap (λ n. enumerate_from 0 (take k xs) ++ (n, get_or xs k d) ∷ []) size

-- ---- states that accept

module _ {X : Type 0} (say : StateLine → X) where
  abbrev pub said : List StateLine → List X
  said lines = map say (filter (λ (line : StateLine). line.accepting) lines)

  said_more : (lines : List StateLine) (line : StateLine) → said (lines ++ line ∷ []) ≡ said lines ++ cond line.accepting (say line ∷ []) []
  said_more [] line = by line.accepting
    where
      by : (b : Bool) → map say (cond b (line ∷ []) []) ≡ cond b (say line ∷ []) []
      by true = refl
      by false = refl
  said_more (first ∷ lines) line = by first.accepting (said_more lines line)
    where
      by : (b : Bool) → said (lines ++ line ∷ []) ≡ said lines ++ cond line.accepting (say line ∷ []) []
          → map say (cond b (first ∷ filter (λ (line : StateLine). line.accepting) (lines ++ line ∷ [])) (filter (λ (line : StateLine). line.accepting) (lines ++ line ∷ [])))
          ≡ map say (cond b (first ∷ filter (λ (line : StateLine). line.accepting) lines) (filter (λ (line : StateLine). line.accepting) lines))
          ++ cond line.accepting (say line ∷ []) []
      by true more = ap (λ said. say first ∷ said) more
      by false more = more

  -- what is said of the states up to one more
  pub flags_more : (raw : RawValue) (rows : List Child) (k : ℕ) → k < length rows
      → said (state_lines raw (take (k + 1) rows))
      ≡ said (state_lines raw (take k rows)) ++ cond (get_or raw.accepting k false) (say (state_line raw (k, get_or rows k (State 0))) ∷ []) []
  flags_more raw rows k within =
      let row = get_or rows k (State 0) in
      ap said (ap (map (state_line raw)) (numbered_more rows k (State 0) within) ∙ map_push (state_line raw) (enumerate_from 0 (take k rows)) (k, row))
      ∙ said_more (state_lines raw (take k rows)) (state_line raw (k, row))

-- ---- nodes

pub below_more : (a b c d : ℕ) (child : Child) → a ≤ c → b ≤ d → IsBelow a b child → IsBelow c d child
below_more a b c d (State state) first second below = omega (arith, below, first)
below_more a b c d (NodeAt number) first second below = omega (arith, below, second)

-- ---- the lines that are put

pub record AreLined (slots states : ℕ) (all : NodeLinesValue) : Type 0 where
  pub count : length all.lines ≤ most_nodes
  pub slots_below : All (λ (line : NodeLine). line.slot < slots) all.lines
  pub row_count : length all.rows ≡ states

-- those of an automaton with few nodes
pub are_lined : (raw : RawValue) (all : NodeLinesValue) → IsRaw raw → IsAuto raw → count_of_nodes raw ≤ most_nodes → all ≡ node_lines_of raw
    → AreLined raw.arena.slots (length raw.rows) all
are_lined raw all is auto nodes same =
    let lines = node_lines_of raw in
    let known = has_node_lines raw is auto.nodes (numbered raw.arena raw.rows) refl in
    let reduced : AreReduced raw.arena.slots (length raw.rows) lines = known.reduced in
    subst (AreLined raw.arena.slots (length raw.rows)) (sym same) (record {
      count = omega (arith, known.count, nodes);
      slots_below = λ k d within.
          let one = reduced.lines k (get_or lines.lines k d) (slice_get-get_or lines.lines k d within) in
          one.slot;
      row_count = reduced.count;
    })
