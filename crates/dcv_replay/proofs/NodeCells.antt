-- The cells of delayed equations: what an instant keeps for the next one.
--     Cells before store equations      each cell has what its equation takes from the instant before
use Rattle.std.proofs.Common.{◌≡◌, ◌≢◌, ℕ, ◌+◌, ◌<◌, ◌≤◌, ◌||◌, Bool, true, false, not, List, [], ◌∷◌, ◌++◌}
use Rattle.std.proofs.Common.{length, map, fold, reverse, get_or, set, Option, Some, refl, sym, ap, subst, ◌∙◌, arith, append_assoc, length-append}
use Rattle.std.specs.Prelude.{bytes_eq}
use Rattle.std.specs.List.{All, AllByRecursion, flat_map}
use Rattle.std.proofs.lemmas.List.{get_or-set_other, get_or-set_same, length-set, get_or_append_left, reverse-append}
use Rattle.std.proofs.lemmas.List.Sums.{fold-append}
use Rattle.std.proofs.lemmas.Bool.{or_parts, or_left, both_ways}
use Rattle.std.proofs.lemmas.Slice.Eq.{bytes_eq-Decides}
use Rattle.dcv_observer.specs.Naming.{is_among}
use Rattle.dcv_observer.proofs.Naming.{Name}
use Rattle.dcv_lustre.specs.declared.node.Value.{Value as CodeValue}
use Rattle.dcv_lustre.specs.declared.node.Arm.{Arm}
use Rattle.dcv_lustre.specs.declared.node.Right.{Right}
use Rattle.dcv_lustre.specs.declared.node.Right.TheVariants.{Delayed, Chosen, Tested}
use Rattle.dcv_lustre.specs.declared.node.Equation.{Equation}
use Rattle.dcv_lustre.specs.Tree.{Equation as PlainEquation}
use Rattle.dcv_lustre.specs.Meaning.{Values, delayed_value, right_value}
use Rattle.dcv_lustre.specs.Rules.{lefts_of}
use Rattle.dcv_lustre.specs.Seen.{seen_value, seen_right, seen_equation}
use Rattle.dcv_lustre.proofs.Runs.{reads_also, IsOnNoLeft, IsInOrder}
use Rattle.dcv_replay.specs.declared.replay.Select.{Select}
use Rattle.dcv_replay.specs.Program.{first_name, after_select}
use Rattle.dcv_replay.specs.Observer.{value_number}
use Rattle.dcv_replay.specs.Selecting.{slot_of, most_names}
use Rattle.dcv_replay.specs.OfNode.{arm_select, arms_selects, cell_of, equation_selects, latch_of, latch_selects, with_cell, after_cell, IsPlacedArm, IsPlacedRight, IsPlacedEquation}
use Rattle.dcv_replay.proofs.Mirrors.{copied, IsApart, Mirrors, fewer}
use Rattle.dcv_replay.proofs.NodeSteps.{CellIs, right_is, value_written}

-- ---- arms from the last to the first

pub front_placed : (rest others : List Arm) (last : Arm) → rest ≡ others ++ last ∷ [] → All (IsPlacedArm most_names) rest → All (IsPlacedArm most_names) others
front_placed rest others last whole placed =
    λ k d below.
    subst (IsPlacedArm most_names) (ap (λ (arms : List Arm). get_or arms k d) whole ∙ get_or_append_left others (last ∷ []) d k below)
    (placed k d (omega (arith, below, ap length whole, length-append others (last ∷ []))))

pub arms_in_turn : (target : ℕ) (selects pushed all : List Select) (rest others : List Arm) (last : Arm) (one : Select) → rest ≡ others ++ last ∷ []
    → selects ++ arms_selects target rest ≡ all → pushed ≡ selects ++ one ∷ [] → one ≡ arm_select target last → pushed ++ arms_selects target others ≡ all
arms_in_turn target selects pushed all rest others last one whole before pushes is =
    ap (λ front. front ++ arms_selects target others) (pushes ∙ ap (λ (s : Select). selects ++ s ∷ []) is)
    ∙ append_assoc selects (arm_select target last ∷ []) (arms_selects target others)
    ∙ ap (λ back. selects ++ back) (sym (ap (map (arm_select target)) (ap reverse whole ∙ reverse-append others (last ∷ []))))
    ∙ before

-- ---- cells

-- what the cell of a delayed right side is to have
abbrev pub cell_number : List Name → Option Values → CodeValue → ℕ → ℕ
cell_number names before first source = value_number (delayed_value before (seen_value first) (get_or names source []))

abbrev pub known_but : List PlainEquation → Name → Bool
known_but equations name = not (is_among (lefts_of equations) name)

module _ (names : List Name) (apart : IsApart names) where
  abbrev seen : List Equation → List PlainEquation
  seen equations = map (seen_equation names) equations

  abbrev pub Cells : Option Values → List ℕ → List Equation → Type 0
  Cells before store equations = AllByRecursion (λ (equation : Equation). CellIs names before store (cell_of (length names) equation.left) equation.right) equations

  cell_kept : (before : Option Values) (store store' : List ℕ) (cell : ℕ) (right : Right) → get_or store' cell 0 ≡ get_or store cell 0
      → CellIs names before store cell right → CellIs names before store' cell right
  cell_kept before store store' cell (Delayed first source) same is = same ∙ is
  cell_kept before store store' cell (Chosen arms otherwise) same is = tt
  cell_kept before store store' cell (Tested tests) same is = tt

  pub cells_kept : (before : Option Values) (store store' : List ℕ) (equations : List Equation) → ((slot : ℕ) → first_name + length names ≤ slot → get_or store' slot 0 ≡ get_or store slot 0)
      → Cells before store equations → Cells before store' equations
  cells_kept before store store' [] same cells = tt
  cells_kept before store store' (equation ∷ equations) same cells = (
    cell_kept before store store' (cell_of (length names) equation.left) equation.right (same (cell_of (length names) equation.left) (omega arith)) cells.0,
    cells_kept before store store' equations same cells.1,
  )

  -- names keep their numbers where a cell is set
  high_written : {known : Name → Bool} {now : Name → ℕ} {store : List ℕ} → Mirrors names known now store → (slot number : ℕ) → first_name + length names ≤ slot
      → Mirrors names known now (set store slot number)
  high_written {known} {now} {store} mirrors slot number high = record {
    long = omega (arith, length-set store slot number, mirrors.long);
    literals = λ literal small. get_or-set_other store slot literal number 0 (λ same. omega (arith, same, small, high)) ∙ mirrors.literals literal small;
    numbers = λ place below there.
        get_or-set_other store slot (slot_of place) number 0 (λ same. omega (arith, same, below, high)) ∙ mirrors.numbers place below there;
  }

  differ_places : (p q : ℕ) → bytes_eq (get_or names p []) (get_or names q []) ≡ false → p ≡ q → ⊥
  differ_places p q differ same = both_ways (bytes_eq (get_or names p []) (get_or names q [])) differ
      (subst (λ n. bytes_eq (get_or names p []) (get_or names n []) ≡ true) same ((bytes_eq-Decides (get_or names p []) (get_or names p [])).1 refl))

  pub record CellsSet (before : Option Values) (equations : List Equation) (store end : List ℕ) : Type 0 where
    pub long : length end ≡ length store
    pub low : (slot : ℕ) → slot < first_name + length names → get_or end slot 0 ≡ get_or store slot 0
    pub others : (place : ℕ) → IsOnNoLeft (map (seen_equation names) equations) (get_or names place []) → get_or end (cell_of (length names) place) 0 ≡ get_or store (cell_of (length names) place) 0
    pub cells : Cells before end equations

  module _ (before : Option Values) (equation : Equation) (equations : List Equation) (free_left : IsOnNoLeft (map (seen_equation names) equations) (get_or names equation.left []))
      (placed : IsPlacedEquation (length names) equation) (store : List ℕ) (room : first_name + (length names + length names) < length store)
      (later : (next : List ℕ) → first_name + (length names + length names) < length next
      → CellsSet before equations next (fold (after_cell (cell_number names before) (length names)) next equations)) where
    -- what one equation sets does not stand in the way of the others
    one_more : (next : List ℕ) → length next ≡ length store → ((slot : ℕ) → slot ≢ cell_of (length names) equation.left → get_or next slot 0 ≡ get_or store slot 0)
        → CellIs names before next (cell_of (length names) equation.left) equation.right
        → CellsSet before (equation ∷ equations) store (fold (after_cell (cell_number names before) (length names)) next equations)
    one_more next long same is =
        let rest = later next (omega (arith, room, long)) in
        record {
          long = rest.long ∙ long;
          low = λ slot small. rest.low slot small ∙ same slot (λ at. omega (arith, at, small));
          others = λ place free.
              let both = or_parts (bytes_eq (get_or names place []) (get_or names equation.left [])) (is_among (lefts_of (map (seen_equation names) equations)) (get_or names place [])) free in
              rest.others place both.1 ∙ same (cell_of (length names) place) (λ at. differ_places place equation.left both.0 (omega (arith, at)));
          cells = (
            cell_kept before next (fold (after_cell (cell_number names before) (length names)) next equations) (cell_of (length names) equation.left) equation.right
                (rest.others equation.left free_left) is,
            rest.cells,
          );
        }

    by_right : (right : Right) → equation.right ≡ right
        → CellsSet before (equation ∷ equations) store (fold (after_cell (cell_number names before) (length names)) (after_cell (cell_number names before) (length names) store equation) equations)
    by_right (Delayed first source) is =
        subst (λ (next : List ℕ). CellsSet before (equation ∷ equations) store (fold (after_cell (cell_number names before) (length names)) next equations))
        (sym (ap (with_cell (cell_number names before) (cell_of (length names) equation.left) store) is))
        (one_more (set store (cell_of (length names) equation.left) (cell_number names before first source))
        (length-set store (cell_of (length names) equation.left) (cell_number names before first source))
        (λ slot apart. get_or-set_other store (cell_of (length names) equation.left) slot (cell_number names before first source) 0 apart)
        (subst (CellIs names before (set store (cell_of (length names) equation.left) (cell_number names before first source)) (cell_of (length names) equation.left)) (sym is)
        (get_or-set_same store (cell_of (length names) equation.left) (cell_number names before first source) 0 (omega (arith, room, placed.left)))))
    by_right (Chosen arms otherwise) is =
        subst (λ (next : List ℕ). CellsSet before (equation ∷ equations) store (fold (after_cell (cell_number names before) (length names)) next equations))
        (sym (ap (with_cell (cell_number names before) (cell_of (length names) equation.left) store) is))
        (one_more store refl (λ slot apart. refl) (subst (CellIs names before store (cell_of (length names) equation.left)) (sym is) tt))
    by_right (Tested tests) is =
        subst (λ (next : List ℕ). CellsSet before (equation ∷ equations) store (fold (after_cell (cell_number names before) (length names)) next equations))
        (sym (ap (with_cell (cell_number names before) (cell_of (length names) equation.left) store) is))
        (one_more store refl (λ slot apart. refl) (subst (CellIs names before store (cell_of (length names) equation.left)) (sym is) tt))

  -- setting the cells one by one sets each
  pub cells_set : (before : Option Values) (equations : List Equation) → IsInOrder (map (seen_equation names) equations) → AllByRecursion (IsPlacedEquation (length names)) equations
      → (store : List ℕ) → first_name + (length names + length names) < length store
      → CellsSet before equations store (fold (after_cell (cell_number names before) (length names)) store equations)
  cells_set before [] order placed store room = record { long = refl; low = λ slot small. refl; others = λ place free. refl; cells = tt }
  cells_set before (equation ∷ equations) order placed store room =
      by_right before equation equations order.0.left placed.0 store room (λ next fits. cells_set before equations order.1 placed.1 next fits) equation.right refl

  -- what stands after `pre` is a name
  abbrev IsSourcePlaced : Right → Type 0
  IsSourcePlaced (Delayed first source) = source < length names
  IsSourcePlaced (Chosen arms otherwise) = Unit {0}
  IsSourcePlaced (Tested tests) = Unit {0}

  source_placed : (right : Right) → IsPlacedRight (length names) right → IsSourcePlaced right
  source_placed (Delayed first source) placed = placed
  source_placed (Chosen arms otherwise) placed = tt
  source_placed (Tested tests) placed = tt

  module _ (values : Values) where
    -- the latches set the cells to what names have now
    latch_is : {store : List ℕ} → Mirrors names (known_but []) (λ name. value_number (values name)) store → (cell : ℕ) (right : Right) → IsSourcePlaced right
        → fold after_select store (latch_of cell right) ≡ with_cell (cell_number names (Some values)) cell store right
    latch_is {store} mirrors cell (Delayed first source) below = copied store cell (slot_of source) ∙ ap (λ (n : ℕ). set store cell n) (mirrors.numbers source below refl)
    latch_is mirrors cell (Chosen arms otherwise) below = refl
    latch_is mirrors cell (Tested tests) below = refl

    with_cell_mirrors : {store : List ℕ} → Mirrors names (known_but []) (λ name. value_number (values name)) store → (cell : ℕ) → first_name + length names ≤ cell → (right : Right)
        → Mirrors names (known_but []) (λ name. value_number (values name)) (with_cell (cell_number names (Some values)) cell store right)
    with_cell_mirrors mirrors cell high (Delayed first source) = high_written mirrors cell (cell_number names (Some values) first source) high
    with_cell_mirrors mirrors cell high (Chosen arms otherwise) = mirrors
    with_cell_mirrors mirrors cell high (Tested tests) = mirrors

    pub latches_are : (equations : List Equation) → AllByRecursion (IsPlacedEquation (length names)) equations → {store : List ℕ}
        → Mirrors names (known_but []) (λ name. value_number (values name)) store
        → fold after_select store (flat_map (latch_selects (length names)) equations) ≡ fold (after_cell (cell_number names (Some values)) (length names)) store equations
    latches_are [] placed mirrors = refl
    latches_are (equation ∷ equations) placed {store} mirrors =
        let cell : ℕ = cell_of (length names) equation.left in
        fold-append after_select store (latch_selects (length names) equation) (flat_map (latch_selects (length names)) equations)
        ∙ ap (λ (s : List ℕ). fold after_select s (flat_map (latch_selects (length names)) equations))
        (latch_is mirrors (cell_of (length names) equation.left) equation.right (source_placed equation.right placed.0.right))
        ∙ latches_are equations placed.1 (with_cell_mirrors mirrors (cell_of (length names) equation.left) (omega arith) equation.right)

    -- ---- the equations of an instant

    known_next : (a b : Bool) → not b ≡ true → (a || not (a || b)) ≡ true
    known_next true b there = refl
    known_next false b there = there

    pub record EquationsRun (store end : List ℕ) : Type 0 where
      pub mirrors : Mirrors names (known_but []) (λ name. value_number (values name)) end
      pub high : (slot : ℕ) → first_name + length names ≤ slot → get_or end slot 0 ≡ get_or store slot 0

    pub equations_run : (before : Option Values) (equations : List Equation) → IsInOrder (map (seen_equation names) equations) → AllByRecursion (IsPlacedEquation (length names)) equations
        → AllByRecursion (λ (equation : PlainEquation). values equation.left ≡ right_value before values equation.right) (map (seen_equation names) equations)
        → {store : List ℕ} → Cells before store equations → Mirrors names (known_but (map (seen_equation names) equations)) (λ name. value_number (values name)) store
        → EquationsRun store (fold after_select store (flat_map (equation_selects (length names)) equations))
    equations_run before [] order placed hold cells mirrors = record { mirrors = mirrors; high = λ slot there. refl }
    equations_run before (equation ∷ equations) order placed hold {store} cells mirrors =
        let left : Name = get_or names equation.left [] in
        let number : ℕ = value_number (right_value before values (seen_right names equation.right)) in
        let fresh : known_but (map (seen_equation names) (equation ∷ equations)) (get_or names equation.left []) ≡ false =
        ap not (or_left (bytes_eq (get_or names equation.left []) (get_or names equation.left [])) _ ((bytes_eq-Decides (get_or names equation.left []) (get_or names equation.left [])).1 refl)) in
        let reads = reads_also (IsOnNoLeft (map (seen_equation names) (equation ∷ equations))) (λ name. known_but (map (seen_equation names) (equation ∷ equations)) name ≡ true)
        (λ name free. ap not free) (seen_right names equation.right) order.0.reads in
        let set_is : fold after_select store (equation_selects (length names) equation)
        ≡ set store (slot_of equation.left) (value_number (right_value before values (seen_right names equation.right))) =
        right_is names apart values (known_but (map (seen_equation names) (equation ∷ equations))) mirrors equation.left placed.0.left fresh before
        (cell_of (length names) equation.left) equation.right placed.0.right reads cells.0 in
        let whole : fold after_select store (flat_map (equation_selects (length names)) (equation ∷ equations))
        ≡ fold after_select (set store (slot_of equation.left) (value_number (right_value before values (seen_right names equation.right)))) (flat_map (equation_selects (length names)) equations) =
        fold-append after_select store (equation_selects (length names) equation) (flat_map (equation_selects (length names)) equations)
        ∙ ap (λ (s : List ℕ). fold after_select s (flat_map (equation_selects (length names)) equations)) set_is in
        let same : (slot : ℕ) → first_name + length names ≤ slot
        → get_or (set store (slot_of equation.left) (value_number (right_value before values (seen_right names equation.right)))) slot 0 ≡ get_or store slot 0 =
        λ slot there. get_or-set_other store (slot_of equation.left) slot (value_number (right_value before values (seen_right names equation.right))) 0
        (λ at. omega (arith, at, there, placed.0.left)) in
        let next = fewer names apart
        (value_written names apart values mirrors equation.left (value_number (right_value before values (seen_right names equation.right))) placed.0.left (ap value_number hold.0))
        (λ name there. known_next (bytes_eq name (get_or names equation.left [])) (is_among (lefts_of (map (seen_equation names) equations)) name) there) in
        let rest = equations_run before equations order.1 placed.1 hold.1
        (cells_kept before store (set store (slot_of equation.left) (value_number (right_value before values (seen_right names equation.right)))) equations same cells.1) next in
        record {
          mirrors = subst (λ (end : List ℕ). Mirrors names (known_but []) (λ name. value_number (values name)) end) (sym whole) rest.mirrors;
          high = λ slot there. ap (λ (end : List ℕ). get_or end slot 0) whole ∙ rest.high slot there ∙ same slot there;
        }
