-- Where a step of a file's tables arrives: at the state for which the file's lines stand.
use Rattle.std.proofs.Common.{◌≡◌, ℕ, zero, suc, ◌+◌, ◌-◌, ◌<◌, ◌≤◌, Bool, true, false, cond, nat_lt, List, [], ◌∷◌, ◌++◌, length, fold, get_or}
use Rattle.std.proofs.Common.{refl, sym, ap, subst, ◌∙◌, arith}
use Rattle.std.proofs.lemmas.List.{length_push, length-map, get_or-map, get_or_append_left, get_or_push}
use Rattle.dcv_language.specs.declared.child.Child.{Child}
use Rattle.dcv_language.specs.declared.child.Child.TheVariants.{State, Node}
use Rattle.dcv_dfa.specs.NodeLines.{IsBelow}
use Rattle.dcv_automaton_text.specs.File.{NodeLine, AutomatonFile}
use Rattle.dcv_automaton_text.specs.Meaning.{state_at, states_at}
use Rattle.dcv_automaton_text.specs.Rules.{slot_of}
use Rattle.dcv_automaton_file.proofs.ObservedFiles.{GoodLine, GoodLines, IsObservable}
use Rattle.dcv_c_tables.specs.Unit.{TableNode, Tables, no_node}
use Rattle.dcv_c_tables.specs.Meaning.{next_place, walked}
use Rattle.dcv_c_tables.specs.Observer.{place_of, table_node, table_state, tables_of}

-- a walk that is at a state goes no further
pub at_state : (tables : Tables) (letter : List Bool) (most place : ℕ) → place < length tables.states → walked tables letter most place ≡ place
at_state tables letter zero place within = refl
at_state tables letter (suc most) place within =
    let here : nat_lt place (length tables.states) ≡ true = grind (arith, within) in
    ap (λ b. cond b place (walked tables letter most (next_place tables letter place))) here

-- and one that is at a node goes on
pub at_node : (tables : Tables) (letter : List Bool) (most place : ℕ) → length tables.states ≤ place
    → walked tables letter (suc most) place ≡ walked tables letter most (next_place tables letter place)
at_node tables letter most place beyond =
    let here : nat_lt place (length tables.states) ≡ false = grind (arith, beyond) in
    ap (λ b. cond b place (walked tables letter most (next_place tables letter place))) here

-- ---- the lines

pub none : NodeLine
none = record { number = 0; name = []; hi = State 0; lo = State 0 }

pub line_at : (names : List (List ℕ)) (states number : ℕ) (lines : List NodeLine) → GoodLines names states number lines → (k : ℕ) → k < length lines
    → GoodLine names states (number + k) (get_or lines k none)
line_at names states number [] good k within = absurd (omega (arith, within))
line_at names states number (line ∷ lines) good zero within =
    subst (λ n. GoodLine names states n line) (let here : number ≡ number + 0 = omega arith in here) good.0
line_at names states number (line ∷ lines) good (suc k) within =
    subst (λ n. GoodLine names states n (get_or lines k none)) (let here : number + 1 + k ≡ number + suc k = omega arith in here)
    (line_at names states (number + 1) lines good.1 k (omega (arith, within)))

module _ (names : List (List ℕ)) (letter : List Bool) where
  abbrev side_of : NodeLine → Bool
  side_of line = get_or letter (slot_of names line.name) false

  abbrev choice : NodeLine → Child
  choice line = cond (side_of line) line.hi line.lo

  abbrev step : List ℕ → NodeLine → List ℕ
  step states line = states ++ state_at states (choice line) ∷ []

  -- the states of earlier lines stay
  stays : (lines : List NodeLine) (states : List ℕ) (k : ℕ) → k < length states → get_or (fold step states lines) k 0 ≡ get_or states k 0
  stays [] states k within = refl
  stays (line ∷ lines) states k within =
      let next = state_at states (choice line) in
      stays lines (states ++ next ∷ []) k (omega (arith, within, length_push states next)) ∙ get_or_append_left states (next ∷ []) 0 k within

  stays_for : (lines : List NodeLine) (states : List ℕ) (most : ℕ) (child : Child) → IsBelow most (length states) child
      → state_at states child ≡ state_at (fold step states lines) child
  stays_for lines states most (State state) below = refl
  stays_for lines states most (Node number) below = sym (stays lines states number below)

  chosen_below : (most bound : ℕ) (side : Bool) (hi lo : Child) → IsBelow most bound hi → IsBelow most bound lo → IsBelow most bound (cond side hi lo)
  chosen_below most bound true hi lo first second = first
  chosen_below most bound false hi lo first second = second

  -- each line leads where its child on the letter's side does
  line_leads : (most : ℕ) (lines : List NodeLine) (states : List ℕ) (number : ℕ) → number ≡ length states → GoodLines names most number lines
      → (k : ℕ) → k < length lines → get_or (fold step states lines) (number + k) 0 ≡ state_at (fold step states lines) (choice (get_or lines k none))
  line_leads most [] states number at good k within = absurd (omega (arith, within))
  line_leads most (line ∷ lines) states number at good zero within =
      let next = state_at states (choice line) in
      let hi = subst (λ n. IsBelow most n line.hi) at good.0.hi in
      let lo = subst (λ n. IsBelow most n line.lo) at good.0.lo in
      let below = chosen_below most (length states) (side_of line) line.hi line.lo hi lo in
      let here : number + 0 ≡ length states = omega (arith, at) in
      ap (λ n. get_or (fold step (states ++ next ∷ []) lines) n 0) here
      ∙ stays lines (states ++ next ∷ []) (length states) (omega (arith, length_push states next))
      ∙ get_or_push states next 0 (length states) refl
      ∙ stays_for (line ∷ lines) states most (choice line) below
  line_leads most (line ∷ lines) states number at good (suc k) within =
      let next = state_at states (choice line) in
      let here : number + suc k ≡ number + 1 + k = omega arith in
      ap (λ n. get_or (fold step (states ++ next ∷ []) lines) n 0) here
      ∙ line_leads most lines (states ++ next ∷ []) (number + 1) (omega (arith, at, length_push states next)) good.1 k (omega (arith, within))

-- ---- a file

further : (states bound most : ℕ) (child : Child) → bound ≤ most → IsBelow states bound child → IsBelow states most child
further states bound most (State state) more below = below
further states bound most (Node number) more below = omega (arith, more, below)

module _ (file : AutomatonFile) (good : IsObservable file) (letter : List Bool) where
  abbrev states : ℕ
  states = length file.state_lines

  abbrev all : List ℕ
  all = states_at file.names letter file.node_lines

  pub size : length (tables_of file).states ≡ states
  unfolding tables_of
  size = length-map file.state_lines (table_state states)

  side_place : (side : Bool) (hi lo : Child) → cond side (place_of states hi) (place_of states lo) ≡ place_of states (cond side hi lo)
  side_place true hi lo = refl
  side_place false hi lo = refl

  next_is : (number : ℕ) → number < length file.node_lines
      → next_place (tables_of file) letter (states + number) ≡ place_of states (choice file.names letter (get_or file.node_lines number none))
  unfolding tables_of
  next_is number within =
      let line = get_or file.node_lines number none in
      let side = get_or letter (slot_of file.names line.name) false in
      let at : states + number - length (tables_of file).states ≡ number = omega (arith, size) in
      let node : get_or (tables_of file).nodes (states + number - length (tables_of file).states) no_node ≡ table_node file.names states line =
      ap (λ k. get_or (tables_of file).nodes k no_node) at ∙ get_or-map (table_node file.names states) file.node_lines number none no_node within in
      ap (λ (node : TableNode). cond (get_or letter node.variable false) node.high node.low) node ∙ side_place side line.hi line.lo

  pub arrives : (most : ℕ) (child : Child) → most ≤ length file.node_lines → IsBelow states most child
      → walked (tables_of file) letter most (place_of states child) ≡ state_at all child
  unfolding states_at
  arrives most (State state) few below = at_state (tables_of file) letter most state (omega (arith, size, below))
  arrives zero (Node number) few below = absurd (omega (arith, below))
  arrives (suc most) (Node number) few below =
      let line = get_or file.node_lines number none in
      let within : number < length file.node_lines = omega (arith, few, below) in
      let facts = line_at file.names states 0 file.node_lines good.lines number within in
      let side = get_or letter (slot_of file.names line.name) false in
      let child = choice file.names letter line in
      let early = chosen_below file.names letter states (0 + number) side line.hi line.lo facts.hi facts.lo in
      at_node (tables_of file) letter most (states + number) (omega (arith, size))
      ∙ ap (walked (tables_of file) letter most) (next_is number within)
      ∙ arrives most child (omega (arith, few)) (further states (0 + number) most child (omega (arith, below)) early)
      ∙ sym (line_leads file.names letter states file.node_lines [] 0 refl good.lines number within)
      ∙ (let same : 0 + number ≡ number = omega arith in ap (λ n. get_or all n 0) same)
