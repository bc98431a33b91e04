-- The blocks of a table: those of the letters that begin alike.
use Rattle.std.proofs.Common.{◌≡◌, ◌≢◌, ℕ, zero, suc, ◌+◌, ◌-◌, ◌*◌, ◌/◌, ◌^◌, ◌<◌, ◌≤◌, Bool, true, false, List, [], ◌∷◌, ◌++◌, length, map, filter, take, drop, not, nat_eq, Contains, refl, sym, ap, subst, ◌∙◌, arith}
use Rattle.std.proofs.lemmas.List.{length-map, take_all, take_at, drop_at, drop-drop, take-append-le, drop-append-le, length-drop}
use Rattle.std.proofs.lemmas.Nat.{pow-add}
use Rattle.std.proofs.Math.Nat.{mul-le-mul_left}
use Rattle.std.proofs.lemmas.Bool.{both_ways, not-true, false_from_ne_true}
use Rattle.std.specs.Cmp.{unsigned_Decides}
use Rattle.std.specs.Cmp.Lexicographic.{pointwise, pointwise_decides}
use Rattle.std.specs.List.{range_with_len}
use Rattle.dcv_word.specs.Letter.{bits_of, letter_of, letters_of_width}
use Rattle.dcv_word.specs.LetterFacts.{length-letter_of, bits_of-letter_of}
use Rattle.dcv_word.proofs.AllLetters.{length-letters_of_width}
use Rattle.dcv_word.proofs.Bits.{bits_of-lt, double}
use Rattle.dcv_arena.specs.Diagram.{as_table, block, blocks, first_half, second_half, halves_differ, nodes_at, nodes_of}
use Rattle.dcv_arena.proofs.Members.{Contains-map, Contains-map_cases, Contains-filter, Contains-filter_cases, Contains-flat_map, Contains-flat_map_cases, Contains-range, Contains-range_cases}
use Rattle.dcv_arena.proofs.Tables.{table-suc}

pub length-table : (f : List Bool → ℕ) (width : ℕ) → length (map f (letters_of_width width)) ≡ 2 ^ width
length-table f width = length-map (letters_of_width width) f ∙ length-letters_of_width width

-- the numbers of the letters that begin with these values
abbrev pub part_of : (List Bool → ℕ) → List Bool → ℕ → List ℕ
part_of f front rest = map (λ values. f (front ++ values)) (letters_of_width rest)

-- it ends within the table
part_fits : (front : List Bool) (rest width : ℕ) → length front + rest ≡ width → bits_of front * 2 ^ rest + 2 ^ rest ≤ 2 ^ width
part_fits front rest width e =
    let size : 2 ^ width ≡ 2 ^ length front * 2 ^ rest = ap (λ n. 2 ^ n) (sym e) ∙ pow-add 2 (length front) rest in
    let within : suc (bits_of front) ≤ 2 ^ length front = bits_of-lt front in
    omega (arith, size, mul-le-mul_left (2 ^ rest) within)

-- what is taken of the first of two lists, and of the second
take_first : (n k : ℕ) (low high : List ℕ) → k + n ≤ length low → take n (drop k (low ++ high)) ≡ take n (drop k low)
take_first n k low high h =
    ap (take n) (drop-append-le k low high (omega arith))
    ∙ take-append-le n (drop k low) high (omega (arith, length-drop k low))

take_second : (n k : ℕ) (low high : List ℕ) → take n (drop (length low + k) (low ++ high)) ≡ take n (drop k high)
take_second n k low high =
    ap (take n) (sym (drop-drop k (length low) (low ++ high)) ∙ ap (drop k) (drop_at low high (length low) refl))

-- it stands in the table from the place of those values on
pub part-in_table : (front : List Bool) (rest width : ℕ) (f : List Bool → ℕ) → length front + rest ≡ width
    → take (2 ^ rest) (drop (bits_of front * 2 ^ rest) (map f (letters_of_width width))) ≡ part_of f front rest
part-in_table [] rest width f e =
    let same : width ≡ rest = omega arith in
    let start : 0 * 2 ^ rest ≡ 0 = omega arith in
    (λ i. take (2 ^ rest) (drop (start i) (map f (letters_of_width (same i)))))
    ∙ take_all (2 ^ rest) (map f (letters_of_width rest)) (omega (arith, length-table f rest))
part-in_table (value ∷ front) rest zero f e = absurd (omega arith)
part-in_table (false ∷ front) rest (suc width) f e =
    let low = map (λ values. f (false ∷ values)) (letters_of_width width) in
    let high = map (λ values. f (true ∷ values)) (letters_of_width width) in
    let start : (0 + bits_of front) * 2 ^ rest ≡ bits_of front * 2 ^ rest = omega arith in
    let size : length front + rest ≡ width = omega arith in
    (λ i. take (2 ^ rest) (drop (start i) (table-suc f width i)))
    ∙ take_first (2 ^ rest) (bits_of front * 2 ^ rest) low high (omega (arith, part_fits front rest width size, length-table (λ values. f (false ∷ values)) width))
    ∙ part-in_table front rest width (λ values. f (false ∷ values)) size
part-in_table (true ∷ front) rest (suc width) f e =
    let low = map (λ values. f (false ∷ values)) (letters_of_width width) in
    let high = map (λ values. f (true ∷ values)) (letters_of_width width) in
    let size : length front + rest ≡ width = omega arith in
    let half : 2 ^ width ≡ 2 ^ length front * 2 ^ rest = ap (λ n. 2 ^ n) (sym size) ∙ pow-add 2 (length front) rest in
    let start : (2 ^ length front + bits_of front) * 2 ^ rest ≡ length low + bits_of front * 2 ^ rest = omega (arith, half, length-table (λ values. f (false ∷ values)) width) in
    (λ i. take (2 ^ rest) (drop (start i) (table-suc f width i)))
    ∙ take_second (2 ^ rest) (bits_of front * 2 ^ rest) low high
    ∙ part-in_table front rest width (λ values. f (true ∷ values)) size

-- ---- the two halves of a part

abbrev pub low_part : (List Bool → ℕ) → List Bool → ℕ → List ℕ
low_part f front rest = map (λ values. f (front ++ false ∷ values)) (letters_of_width rest)

abbrev pub high_part : (List Bool → ℕ) → List Bool → ℕ → List ℕ
high_part f front rest = map (λ values. f (front ++ true ∷ values)) (letters_of_width rest)

pub part-halves : (f : List Bool → ℕ) (front : List Bool) (rest : ℕ) → part_of f front (suc rest) ≡ low_part f front rest ++ high_part f front rest
part-halves f front rest = table-suc (λ values. f (front ++ values)) rest

half_length : (f : List Bool → ℕ) (front : List Bool) (rest : ℕ) → length (part_of f front (suc rest)) / 2 ≡ 2 ^ rest
half_length f front rest = omega (arith, length-table (λ values. f (front ++ values)) (suc rest), double rest)

pub first_half-part : (f : List Bool → ℕ) (front : List Bool) (rest : ℕ) → first_half (part_of f front (suc rest)) ≡ low_part f front rest
first_half-part f front rest =
    (λ i. take (half_length f front rest i) (part-halves f front rest i))
    ∙ take_at (low_part f front rest) (high_part f front rest) (2 ^ rest) (length-table (λ values. f (front ++ false ∷ values)) rest)

pub second_half-part : (f : List Bool → ℕ) (front : List Bool) (rest : ℕ) → second_half (part_of f front (suc rest)) ≡ high_part f front rest
second_half-part f front rest =
    (λ i. drop (half_length f front rest i) (part-halves f front rest i))
    ∙ drop_at (low_part f front rest) (high_part f front rest) (2 ^ rest) (length-table (λ values. f (front ++ false ∷ values)) rest)

-- ---- the nodes of a function's diagram

-- a part's halves are of the two values in the next slot, and differ
pub record IsNodeOf (slots : ℕ) (f : List Bool → ℕ) (node : ℕ × List ℕ) : Type 0 where
  pub front : List Bool
  pub rest : ℕ
  pub level : length front ≡ node.0
  pub size : length front + suc rest ≡ slots
  pub numbers : node.1 ≡ part_of f front (suc rest)
  pub differ : low_part f front rest ≢ high_part f front rest

pub differ_from : (a b : List ℕ) → not (pointwise nat_eq a b) ≡ true → a ≢ b
differ_from a b h e = both_ways (pointwise nat_eq a b) (not-true (pointwise nat_eq a b) h) ((pointwise_decides unsigned_Decides a b).1 e)

pub differ_to : (a b : List ℕ) → a ≢ b → not (pointwise nat_eq a b) ≡ true
differ_to a b h = ap not (false_from_ne_true (pointwise nat_eq a b) (λ e. h ((pointwise_decides unsigned_Decides a b).0 e)))

pub block-part : (front : List Bool) (rest slots : ℕ) (f : List Bool → ℕ) → length front + rest ≡ slots
    → block slots (as_table slots f) (length front) (bits_of front) ≡ part_of f front rest
block-part front rest slots f e =
    let size : slots - length front ≡ rest = omega arith in
    (λ i. take (2 ^ size i) (drop (bits_of front * 2 ^ size i) (as_table slots f)))
    ∙ part-in_table front rest slots f e

pub nodes_of-from : (slots : ℕ) (f : List Bool → ℕ) (node : ℕ × List ℕ) → IsNodeOf slots f node → Contains (nodes_of slots (as_table slots f)) node
unfolding nodes_of
nodes_of-from slots f node is =
    let table = as_table slots f in
    let front = is.front in
    let rest = is.rest in
    let below : length front < slots = omega (arith, is.size) in
    let numbers = part_of f front (suc rest) in
    let halves : first_half numbers ≢ second_half numbers = λ e. is.differ (sym (first_half-part f front rest) ∙ e ∙ second_half-part f front rest) in
    let at_level : Contains (blocks slots table (length front)) (block slots table (length front) (bits_of front)) =
    Contains-map (block slots table (length front)) (range_with_len 0 (2 ^ length front)) (bits_of front) (Contains-range (2 ^ length front) (bits_of front) (bits_of-lt front)) in
    let listed : Contains (blocks slots table (length front)) numbers = subst (Contains (blocks slots table (length front))) (block-part front (suc rest) slots f is.size) at_level in
    let kept = Contains-filter halves_differ (blocks slots table (length front)) numbers listed (differ_to (first_half numbers) (second_half numbers) halves) in
    let beside = Contains-map (λ numbers. (length front, numbers)) (filter halves_differ (blocks slots table (length front))) numbers kept in
    let all = Contains-flat_map (nodes_at slots table) (range_with_len 0 slots) (length front) (length front, numbers) (Contains-range slots (length front) below) beside in
    subst (Contains (nodes_of slots table)) (λ i. (is.level i, sym is.numbers i)) all

pub nodes_of-is : (slots : ℕ) (f : List Bool → ℕ) (node : ℕ × List ℕ) → Contains (nodes_of slots (as_table slots f)) node → IsNodeOf slots f node
unfolding nodes_of
nodes_of-is slots f node c =
    let table = as_table slots f in
    let by_level = Contains-flat_map_cases (nodes_at slots table) (range_with_len 0 slots) node c in
    let level = by_level.0 in
    let below = Contains-range_cases slots level by_level.1 in
    let beside = Contains-map_cases (λ numbers. (level, numbers)) (filter halves_differ (blocks slots table level)) node by_level.2 in
    let kept = Contains-filter_cases halves_differ (blocks slots table level) beside.0 beside.1 in
    let by_place = Contains-map_cases (block slots table level) (range_with_len 0 (2 ^ level)) beside.0 kept.0 in
    let place = by_place.0 in
    let front = letter_of level place in
    let size : length front ≡ level = length-letter_of level place in
    let number : bits_of front ≡ place = bits_of-letter_of level place (Contains-range_cases (2 ^ level) place by_place.1) in
    let rest = slots - level - 1 in
    let whole : length front + suc rest ≡ slots = omega arith in
    let numbers : beside.0 ≡ part_of f front (suc rest) =
    sym by_place.2 ∙ (λ i. block slots table (sym size i) (sym number i)) ∙ block-part front (suc rest) slots f whole in
    let halves = differ_from (first_half beside.0) (second_half beside.0) kept.1 in
    record {
      front = front;
      rest = rest;
      level = size ∙ ap (λ pair. pair.0) beside.2;
      size = whole;
      numbers = sym (ap (λ pair. pair.1) beside.2) ∙ numbers;
      differ = λ e. halves (ap first_half numbers ∙ first_half-part f front rest ∙ e ∙ sym (second_half-part f front rest) ∙ sym (ap second_half numbers));
    }
