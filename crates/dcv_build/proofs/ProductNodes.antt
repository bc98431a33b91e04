-- How many nodes the rows of a product have.
--     parts_of slots tables states     what an operand's rows are made of: its nodes, and a leaf for each of its states
--     all_pairs                        each node of a row of the product is among the pairs of these
-- At a level of a row of the product stands what the rows of both operands have there, entry by entry. Each of the two is a part of its
-- operand, repeated; and where the halves of what stands there differ, those of one of the two do, so that this one is not repeated.
use Rattle.std.proofs.Common.{◌≡◌, ◌≢◌, ◌⊎◌, inl, inr, ℕ, zero, suc, ◌+◌, ◌-◌, ◌*◌, ◌<◌, ◌≤◌, Bool, true, false, List, [], ◌∷◌, ◌++◌, length, length-append, map, nat_eq, Contains, refl, sym, ap, subst, ◌∙◌, arith}
use Rattle.std.specs.Bool.{Decides}
use Rattle.std.specs.Cmp.{decided, unsigned_Decides}
use Rattle.std.specs.Cmp.Lexicographic.{pointwise, pointwise_decides}
use Rattle.std.specs.List.{AllPairs, flat_map, range_with_len}
use Rattle.std.specs.Set.{unique_keys}
use Rattle.std.proofs.lemmas.Bool.{cases_Bool, true≢false}
use Rattle.std.proofs.lemmas.List.{append_assoc, length-map}
use Rattle.std.proofs.lemmas.List.Elements.{Contains-append_left, Contains-append_right}
use Rattle.std.proofs.lemmas.List.FromFn.{length-map-range_with_len}
use Rattle.std.proofs.lemmas.Map.Made.{length-le_from_is_member, is_member-Decides, IsDistinct-from_AllPairs}
use Rattle.dcv_word.specs.Letter.{letters_of_width}
use Rattle.dcv_arena.specs.Diagram.{as_table, nodes_of, nodes_of_all, is_same_node, node_count}
use Rattle.dcv_arena.proofs.Blocks.{IsNodeOf, part_of, low_part, high_part, part-halves, nodes_of-from, nodes_of-is}
use Rattle.dcv_arena.proofs.Fewer.{same_node, each_once}
use Rattle.dcv_arena.proofs.Members.{Contains-map, Contains-flat_map, Contains-range}

-- ---- all pairs of two lists

module _ {X Y Z : Type 0} (f : X → Y → Z) where
  abbrev pub products : List X → List Y → List Z
  products xs ys = flat_map (λ x. map (f x) ys) xs

  pub length-products : (xs : List X) (ys : List Y) → length (products xs ys) ≡ length xs * length ys
  length-products [] ys = omega arith
  length-products (x ∷ xs) ys = omega (arith, length-append (map (f x) ys) (products xs ys), length-map ys (f x), length-products xs ys)

  pub Contains-products : (xs : List X) (ys : List Y) (x : X) (y : Y) → Contains xs x → Contains ys y → Contains (products xs ys) (f x y)
  Contains-products xs ys x y first second = Contains-flat_map (λ x. map (f x) ys) xs x (f x y) first (Contains-map (f x) ys y second)

-- distinct elements that are all among others are no more than these
pub no_more : {K : Type 0} {eq : K → K → Bool} → ((a b : K) → Decides (eq a b) (a ≡ b)) → (few many : List K) → AllPairs (λ a b. a ≢ b) few
    → ((q : K) → Contains few q → Contains many q) → length few ≤ length many
no_more {eq = eq} same few many apart inside =
    length-le_from_is_member (decided eq same) few many (IsDistinct-from_AllPairs same few apart)
    (λ q found. (is_member-Decides same many q).1 (inside q ((is_member-Decides same few q).0 found)))

-- ---- parts

halves_alike : (f : List Bool → ℕ) (front : List Bool) (rest : ℕ) → (low_part f front rest ≡ high_part f front rest) ⊎ (low_part f front rest ≢ high_part f front rest)
halves_alike f front rest =
    let low = low_part f front rest in
    let high = high_part f front rest in
    let decides = pointwise_decides unsigned_Decides low high in
    elim (cases_Bool (pointwise nat_eq low high)) [ inl alike ↦ inl (decides.0 alike) | inr differ ↦ inr (λ same. true≢false (sym (decides.1 same) ∙ differ)) ]

-- twice the numbers, and so again, so many times
repeated : ℕ → List ℕ → List ℕ
repeated zero numbers = numbers
repeated (suc times) numbers = repeated times numbers ++ repeated times numbers

module _ (slots : ℕ) (tables : List (List ℕ)) (states : ℕ) where
  abbrev nodes : List (ℕ × List ℕ)
  nodes = unique_keys is_same_node (nodes_of_all slots tables)

  abbrev leaf : ℕ → ℕ × List ℕ
  leaf state = (slots, state ∷ [])

  abbrev leaves : List (ℕ × List ℕ)
  leaves = map leaf (range_with_len 0 states)

  abbrev pub parts_of : List (ℕ × List ℕ)
  parts_of = leaves ++ nodes

  length-parts_of : length parts_of ≡ states + node_count slots tables
  length-parts_of =
      let count : length leaves ≡ states = length-map-range_with_len leaf 0 states in
      omega (arith, length-append leaves nodes, count)

  -- the function of a row
  pub record IsRow (f : List Bool → ℕ) : Type 0 where
    pub listed : Contains tables (as_table slots f)
    pub below : (letter : List Bool) → length letter ≡ slots → f letter < states

  -- what stands behind a front is a part, repeated so many times
  record Repeats (f : List Bool → ℕ) (front : List Bool) (rest times : ℕ) : Type 0 where
    part : ℕ × List ℕ
    among : Contains parts_of part
    level : part.0 ≡ length front + times
    numbers : part_of f front rest ≡ repeated times part.1

  module _ (f : List Bool → ℕ) (row : IsRow f) where
    -- a node stands there itself
    own_node : (front : List Bool) (rest : ℕ) → length front + suc rest ≡ slots → low_part f front rest ≢ high_part f front rest → Repeats f front (suc rest) 0
    unfolding repeated
    own_node front rest size differ =
        let node : ℕ × List ℕ = (length front, part_of f front (suc rest)) in
        let is : IsNodeOf slots f node = record { front = front; rest = rest; level = refl; size = size; numbers = refl; differ = differ } in
        let there = Contains-flat_map (nodes_of slots) tables (as_table slots f) node row.listed (nodes_of-from slots f node is) in
        let all = nodes_of_all slots tables in
        let once = (is_member-Decides same_node nodes node).0 ((each_once all).members node ∙ (is_member-Decides same_node all node).1 there) in
        record { part = node; among = Contains-append_right leaves nodes node once; level = omega arith; numbers = refl }

    twice : (front : List Bool) (rest times : ℕ) → low_part f front rest ≡ high_part f front rest → Repeats f (front ++ false ∷ []) rest times → Repeats f front (suc rest) (suc times)
    unfolding repeated
    twice front rest times same half = record {
      part = half.part;
      among = half.among;
      level = omega (arith, half.level, length-append front (false ∷ []));
      numbers =
          part-halves f front rest
          ∙ (λ i. low_part f front rest ++ sym same i)
          ∙ (λ i. sym behind i ++ sym behind i)
          ∙ (λ i. half.numbers i ++ half.numbers i);
    }
      where
        behind : part_of f (front ++ false ∷ []) rest ≡ low_part f front rest
        behind = λ i. map (λ values. f (append_assoc front (false ∷ []) values i)) (letters_of_width rest)

    repeats : (rest : ℕ) (front : List Bool) → length front + rest ≡ slots → (times : ℕ) × Repeats f front rest times
    unfolding repeated
    repeats zero front size =
        let number = f (front ++ []) in
        let there = Contains-map leaf (range_with_len 0 states) number (Contains-range states number (row.below (front ++ []) (omega (arith, size, length-append front [])))) in
        (0, record { part = leaf number; among = Contains-append_left leaves nodes (leaf number) there; level = omega arith; numbers = refl })
    repeats (suc rest) front size = elim (halves_alike f front rest) [
      | inl same ↦ let half = repeats rest (front ++ false ∷ []) (omega (arith, length-append front (false ∷ []))) in (suc half.0, twice front rest half.0 same half.1)
      | inr differ ↦ (0, own_node front rest size differ)
    ]

-- ---- two operands side by side

module _ (join : ℕ → ℕ → ℕ) where
  -- the numbers of two lists, joined one by one
  paired : List ℕ → List ℕ → List ℕ
  paired [] ys = []
  paired (x ∷ xs) [] = []
  paired (x ∷ xs) (y ∷ ys) = join x y ∷ paired xs ys

  paired-map : {X : Type 0} (f g : X → ℕ) (xs : List X) → paired (map f xs) (map g xs) ≡ map (λ x. join (f x) (g x)) xs
  unfolding paired
  paired-map f g [] = refl
  paired-map f g (x ∷ xs) = ap (λ rest. join (f x) (g x) ∷ rest) (paired-map f g xs)

  -- the part at the later level is repeated up to the earlier one
  side_by_side : ℕ × List ℕ → ℕ × List ℕ → ℕ × List ℕ
  side_by_side one other = (one.0 - (one.0 - other.0), paired (repeated (one.0 - other.0) one.1) (repeated (other.0 - one.0) other.1))

  side_by_side-is : (one other : ℕ × List ℕ) (level times more : ℕ) → one.0 ≡ level + times → other.0 ≡ level + more → (times ≡ 0) ⊎ (more ≡ 0)
      → side_by_side one other ≡ (level, paired (repeated times one.1) (repeated more other.1))
  unfolding side_by_side
  side_by_side-is one other level times more at there once =
      let first : one.0 - other.0 ≡ times = elim once [ inl none ↦ omega arith | inr none ↦ omega arith ] in
      let second : other.0 - one.0 ≡ more = elim once [ inl none ↦ omega arith | inr none ↦ omega arith ] in
      let earlier : one.0 - (one.0 - other.0) ≡ level = omega arith in
      λ i. (earlier i, paired (repeated (first i) one.1) (repeated (second i) other.1))

module _ (slots : ℕ) (join : ℕ → ℕ → ℕ) (tables others : List (List ℕ)) (states more : ℕ) where
  abbrev joined : (List Bool → ℕ) → (List Bool → ℕ) → List Bool → ℕ
  joined f g letter = join (f letter) (g letter)

  abbrev firsts : List (ℕ × List ℕ)
  firsts = parts_of slots tables states

  abbrev seconds : List (ℕ × List ℕ)
  seconds = parts_of slots others more

  abbrev pairs : List (ℕ × List ℕ)
  pairs = products (side_by_side join) firsts seconds

  module _ (f g : List Bool → ℕ) where
    -- what stands behind a front is a pair, unless both are repeated
    stands : (front : List Bool) (rest times again : ℕ) → Repeats slots tables states f front rest times → Repeats slots others more g front rest again → (times ≡ 0) ⊎ (again ≡ 0)
        → Contains pairs (length front, part_of (joined f g) front rest)
    stands front rest times again first second once =
        let there = Contains-products (side_by_side join) firsts seconds first.part second.part first.among second.among in
        let numbers : paired join (repeated times first.part.1) (repeated again second.part.1) ≡ part_of (joined f g) front rest =
        (λ i. paired join (sym first.numbers i) (sym second.numbers i))
        ∙ paired-map join (λ values. f (front ++ values)) (λ values. g (front ++ values)) (letters_of_width rest) in
        subst (Contains pairs)
        (side_by_side-is join first.part second.part (length front) times again first.level second.level once ∙ (λ i. (length front, numbers i)))
        there

    module _ (row : IsRow slots tables states f) (other : IsRow slots others more g) where
      node_stands : (front : List Bool) (rest : ℕ) → length front + suc rest ≡ slots → low_part (joined f g) front rest ≢ high_part (joined f g) front rest
          → Contains pairs (length front, part_of (joined f g) front (suc rest))
      node_stands front rest size differ = elim (halves_alike f front rest) [
        | inr first ↦
            let second = repeats slots others more g other (suc rest) front size in
            stands front (suc rest) 0 second.0 (own_node slots tables states f row front rest size first) second.1 (inl refl)
        | inl same ↦ elim (halves_alike g front rest) [
          | inr second ↦
              let first = repeats slots tables states f row (suc rest) front size in
              stands front (suc rest) first.0 0 first.1 (own_node slots others more g other front rest size second) (inr refl)
          | inl alike ↦ absurd (differ
              (sym (paired-map join (λ values. f (front ++ false ∷ values)) (λ values. g (front ++ false ∷ values)) (letters_of_width rest))
              ∙ (λ i. paired join (same i) (alike i))
              ∙ paired-map join (λ values. f (front ++ true ∷ values)) (λ values. g (front ++ true ∷ values)) (letters_of_width rest)))
        ]
      ]

  node_stands_in : (f g : List Bool → ℕ) → IsRow slots tables states f → IsRow slots others more g → (node : ℕ × List ℕ)
      → Contains (nodes_of slots (as_table slots (joined f g))) node → Contains pairs node
  node_stands_in f g row other node there =
      let split = nodes_of-is slots (joined f g) node there in
      subst (Contains pairs) (λ i. (split.level i, sym split.numbers i)) (node_stands f g row other split.front split.rest split.size split.differ)

  -- pairs of all parts, among which each node is
  pub record HasPairs : Type 0 where
    pub nodes : List (ℕ × List ℕ)
    pub few : length nodes ≡ (states + node_count slots tables) * (more + node_count slots others)
    pub all : (f g : List Bool → ℕ) → IsRow slots tables states f → IsRow slots others more g → (node : ℕ × List ℕ) → Contains (nodes_of slots (as_table slots (joined f g))) node → Contains nodes node

  pub all_pairs : HasPairs
  all_pairs = record {
    nodes = pairs;
    few = length-products (side_by_side join) firsts seconds ∙ (λ i. length-parts_of slots tables states i * length-parts_of slots others more i);
    all = node_stands_in;
  }
