-- Where a text is stuck in an array, or in the arrays of the nodes or the states.
use Rattle.std.proofs.Common.{◌≡◌, ℕ, zero, suc, ◌<◌, Bool, true, false, List, [], ◌∷◌, ◌++◌, length, map, refl, sym, ap, ◌∙◌, subst, arith}
use Rattle.std.specs.Prelude.{codes, nat_eq}
use Rattle.std.specs.List.{All}
use Rattle.std.proofs.lemmas.List.{append_assoc}
use Rattle.std.proofs.lemmas.List.Elements.{All-nil, All-cons, All-head, All-tail}
use Rattle.dcv_automaton_text.specs.Form.{IsNumber}
use Rattle.dcv_automaton_lines.specs.Pieces.{Exactly, IsStuckIn}
use Rattle.dcv_automaton_lines.proofs.Pieces.{append_none}
use Rattle.dcv_automaton_lines.proofs.LineSets.{Some}
use Rattle.dcv_observer.specs.Layouts.{Each}
use Rattle.dcv_c_tables.specs.Unit.{TableNode, TableState, no_node, no_state}
use Rattle.dcv_c_tables.specs.Layout.{text_in, number_line, opening, closing, char_type, variable_head, high_head, low_head, row_head, accept_head, accept_number}
use Rattle.dcv_tables_read.specs.Form.{IsSmallNode, IsSmallState}
use Rattle.dcv_tables_read.specs.declared.entries.Entry.{Entry}
use Rattle.dcv_tables_read.specs.declared.entries.Entry.TheVariants.{Number, Answer}
use Rattle.dcv_tables_read.specs.Parts.{Then, IsUnique, IsEntry, AreEntries, LinesOf, lines_text, array_text, ArraySet, AreNodes, nodes_text, NodesSet, AreStates, states_text, StatesSet}
use Rattle.dcv_tables_read.proofs.Chain.{same_behind, stuck_same, stuck_first, stuck_next, some_then, some_spelling, lead_first, lead_next, tail_first, tail_next, unique_lead, unique_tail}
use Rattle.dcv_tables_read.proofs.LineLists.{unique_lines, lines_stuck, some_entry}

-- ---- one array

abbrev pub opening_text : List ℕ → List ℕ → List ℕ
opening_text integer head = text_in (opening integer head)

abbrev pub closing_text : List ℕ
closing_text = text_in closing

-- so many zeros
abbrev pub zeros : ℕ → List ℕ
zeros zero = []
zeros (suc count) = 0 ∷ zeros count

pub zeros_are : (entry : Entry) (count : ℕ) → AreEntries entry count (zeros count)
zeros_are entry zero = record { many = refl; each = All-nil (IsEntry entry) }
zeros_are entry (suc count) =
    let next = zeros_are entry count in
    record { many = ap suc next.many; each = All-cons (IsEntry entry) 0 (zeros count) (some_entry entry) next.each }

pub some_array : (entry : Entry) (integer head : List ℕ) (count : ℕ) → Some (ArraySet entry integer head count)
some_array entry integer head count = some_spelling (zeros count) (zeros_are entry count)

abbrev pub closed : List ℕ → List ℕ
closed numbers = lines_text numbers ++ closing_text

pub unique_array : (entry : Entry) (integer head : List ℕ) (count : ℕ) → IsUnique (AreEntries entry count) (array_text integer head)
unique_array entry integer head count = unique_lead closed (opening_text integer head) (unique_tail lines_text (λ _. closing_text) (unique_lines entry count))

pieces_are : (integer head : List ℕ) → codes "static const " ++ (integer ++ (head ++ [])) ≡ opening_text integer head
pieces_are integer head = ap (λ t. codes "static const " ++ (integer ++ t)) (append_none head)

module _ (entry : Entry) (integer head : List ℕ) (count : ℕ) where
  pub in_opening : {text left : List ℕ} → IsStuckIn (Exactly (codes "static const " ++ (integer ++ (head ++ [])))) text left → IsStuckIn (ArraySet entry integer head count) text left
  in_opening {text = text} {left = left} stuck =
      lead_first closed (opening_text integer head) (zeros count) (zeros_are entry count)
      (subst (λ (word : List ℕ). IsStuckIn (Exactly word) text left) (pieces_are integer head) stuck)

  module _ (text opened : List ℕ) (whole : text ≡ (codes "static const " ++ (integer ++ (head ++ []))) ++ opened) where
    opens : text ≡ opening_text integer head ++ opened
    opens = whole ∙ ap (λ t. t ++ opened) (pieces_are integer head)

    pub in_lines : {left : List ℕ} → IsStuckIn (LinesOf entry count) opened left → IsStuckIn (ArraySet entry integer head count) text left
    in_lines stuck = lead_next closed (opening_text integer head) opens (tail_first lines_text (λ _. closing_text) (lines_stuck entry count stuck))

    module _ (numbers : List ℕ) (numbers_are : AreEntries entry count numbers) {end : List ℕ} (read : opened ≡ lines_text numbers ++ end) where
      pub in_closing : {left : List ℕ} → IsStuckIn (Exactly closing_text) end left → IsStuckIn (ArraySet entry integer head count) text left
      in_closing stuck =
          lead_next closed (opening_text integer head) opens (tail_next lines_text (λ _. closing_text) (unique_lines entry count) numbers numbers_are read stuck)

      pub array_read : {rest : List ℕ} → end ≡ closing_text ++ rest → text ≡ array_text integer head numbers ++ rest
      array_read {rest = rest} last =
          opens ∙ ap (λ t. opening_text integer head ++ t) (read ∙ ap (λ t. lines_text numbers ++ t) last ∙ sym (append_assoc (lines_text numbers) closing_text rest))
          ∙ sym (append_assoc (opening_text integer head) (closed numbers) rest)

-- ---- the arrays of the nodes

abbrev variable_of : TableNode → ℕ
variable_of node = node.variable

abbrev high_of : TableNode → ℕ
high_of node = node.high

abbrev low_of : TableNode → ℕ
low_of node = node.low

-- the lines of the numbers of elements
each_is : {X : Type 0} (number : X → ℕ) (xs : List X) → text_in (Each (λ x. number_line (number x)) xs) ≡ lines_text (map number xs)
each_is number [] = refl
each_is number (x ∷ xs) = ap (λ t. text_in (number_line (number x)) ++ t) (each_is number xs)

abbrev variables_text : List ℕ → List ℕ
variables_text = array_text char_type variable_head

abbrev highs_text : List ℕ → List ℕ → List ℕ
highs_text integer = array_text integer high_head

abbrev lows_text : List ℕ → List ℕ → List ℕ
lows_text integer = array_text integer low_head

abbrev three_text : List ℕ → List ℕ → List ℕ → List ℕ → List ℕ
three_text integer variables highs lows = variables_text variables ++ (highs_text integer highs ++ lows_text integer lows)

nodes_are : (integer : List ℕ) (nodes : List TableNode) → 0 < length nodes
    → nodes_text integer nodes ≡ three_text integer (map variable_of nodes) (map high_of nodes) (map low_of nodes)
nodes_are integer [] some = absurd (omega (arith, some))
nodes_are integer (node ∷ nodes) some = λ i.
    (opening_text char_type variable_head ++ (each_is variable_of (node ∷ nodes) i ++ closing_text))
    ++ ((opening_text integer high_head ++ (each_is high_of (node ∷ nodes) i ++ closing_text)) ++ (opening_text integer low_head ++ (each_is low_of (node ∷ nodes) i ++ closing_text)))

-- nodes with these numbers
abbrev node_list : List ℕ → List ℕ → List ℕ → List TableNode
node_list (variable ∷ variables) (high ∷ highs) (low ∷ lows) = record { variable = variable; high = high; low = low } ∷ node_list variables highs lows
node_list [] highs lows = []
node_list (variable ∷ variables) [] lows = []
node_list (variable ∷ variables) (high ∷ highs) [] = []

pub record AreNodesOf (nodes : List TableNode) (variables highs lows : List ℕ) : Type 0 where
  pub variables_are : map variable_of nodes ≡ variables
  pub highs_are : map high_of nodes ≡ highs
  pub lows_are : map low_of nodes ≡ lows

node_list_is : (variables highs lows : List ℕ) → length highs ≡ length variables → length lows ≡ length variables
    → AreNodesOf (node_list variables highs lows) variables highs lows
node_list_is [] [] [] h l = record { variables_are = refl; highs_are = refl; lows_are = refl }
node_list_is [] (high ∷ highs) lows h l = absurd (omega (arith, h))
node_list_is [] [] (low ∷ lows) h l = absurd (omega (arith, l))
node_list_is (variable ∷ variables) [] lows h l = absurd (omega (arith, h))
node_list_is (variable ∷ variables) (high ∷ highs) [] h l = absurd (omega (arith, l))
node_list_is (variable ∷ variables) (high ∷ highs) (low ∷ lows) h l =
    let rest = node_list_is variables highs lows (omega (arith, h)) (omega (arith, l)) in
    record {
      variables_are = ap (λ xs. variable ∷ xs) rest.variables_are;
      highs_are = ap (λ xs. high ∷ xs) rest.highs_are;
      lows_are = ap (λ xs. low ∷ xs) rest.lows_are;
    }

map_length : {X : Type 0} (f : X → ℕ) (xs : List X) → length (map f xs) ≡ length xs
map_length f [] = refl
map_length f (x ∷ xs) = ap suc (map_length f xs)

all_map : {X : Type 0} (f : X → ℕ) (P : X → Type 0) → ((x : X) → P x → IsNumber (f x)) → (xs : List X) → All P xs → All IsNumber (map f xs)
all_map f P each [] all = All-nil IsNumber
all_map f P each (x ∷ xs) all = All-cons IsNumber (f x) (map f xs) (each x (All-head P x xs all)) (all_map f P each xs (All-tail P x xs all))

small_nodes : (nodes : List TableNode) → All IsNumber (map variable_of nodes) → All IsNumber (map high_of nodes) → All IsNumber (map low_of nodes) → All IsSmallNode nodes
small_nodes [] v h l = All-nil IsSmallNode
small_nodes (node ∷ nodes) v h l =
    All-cons IsSmallNode node nodes
    (record {
      variable = All-head IsNumber node.variable (map variable_of nodes) v;
      high = All-head IsNumber node.high (map high_of nodes) h;
      low = All-head IsNumber node.low (map low_of nodes) l;
    })
    (small_nodes nodes (All-tail IsNumber node.variable (map variable_of nodes) v) (All-tail IsNumber node.high (map high_of nodes) h) (All-tail IsNumber node.low (map low_of nodes) l))

module _ {count : ℕ} {nodes : List TableNode} (is : AreNodes count nodes) where
  pub of_variables : AreEntries Number count (map variable_of nodes)
  of_variables = record { many = map_length variable_of nodes ∙ is.many; each = all_map variable_of IsSmallNode (λ node small. small.variable) nodes is.each }

  pub of_highs : AreEntries Number count (map high_of nodes)
  of_highs = record { many = map_length high_of nodes ∙ is.many; each = all_map high_of IsSmallNode (λ node small. small.high) nodes is.each }

  pub of_lows : AreEntries Number count (map low_of nodes)
  of_lows = record { many = map_length low_of nodes ∙ is.many; each = all_map low_of IsSmallNode (λ node small. small.low) nodes is.each }

-- so many nodes, of which there are some
module _ (integer : List ℕ) (count : ℕ) (some : 0 < count) where
  abbrev LowsAfter : List ℕ → Type 0
  LowsAfter = ArraySet Number integer low_head count

  abbrev HighsAfter : List ℕ → Type 0
  HighsAfter = Then (AreEntries Number count) (highs_text integer) (λ _. LowsAfter)

  abbrev AllThree : List ℕ → Type 0
  AllThree = Then (AreEntries Number count) variables_text (λ _. HighsAfter)

  pub nodes_of_numbers : (nodes : List TableNode) (variables highs lows : List ℕ) → AreNodesOf nodes variables highs lows → AreEntries Number count variables
      → AreEntries Number count highs → AreEntries Number count lows → AreNodes count nodes
  nodes_of_numbers nodes variables highs lows of v h l =
      record {
        many = sym (map_length variable_of nodes) ∙ ap length of.variables_are ∙ v.many;
        each = small_nodes nodes (subst (All IsNumber) (sym of.variables_are) v.each) (subst (All IsNumber) (sym of.highs_are) h.each) (subst (All IsNumber) (sym of.lows_are) l.each);
      }

  pub nodes_spelled : (nodes : List TableNode) (variables highs lows : List ℕ) → AreNodesOf nodes variables highs lows → AreNodes count nodes
      → three_text integer variables highs lows ≡ nodes_text integer nodes
  nodes_spelled nodes variables highs lows of is =
      (λ i. three_text integer (sym of.variables_are i) (sym of.highs_are i) (sym of.lows_are i)) ∙ sym (nodes_are integer nodes (let many = is.many in omega (arith, some, many)))

  pub three_from : (text : List ℕ) → AllThree text → NodesSet integer count text
  three_from text is =
      let highs = is.back_is in
      let lows = highs.back_is in
      let of = node_list_is is.item highs.item lows.item (highs.valid_item.many ∙ sym is.valid_item.many) (lows.valid_item.many ∙ sym is.valid_item.many) in
      let nodes = node_list is.item highs.item lows.item in
      let valid = nodes_of_numbers nodes is.item highs.item lows.item of is.valid_item highs.valid_item lows.valid_item in
      record {
        item = nodes;
        valid_item = valid;
        is = is.whole ∙ ap (λ t. variables_text is.item ++ t) (highs.whole ∙ ap (λ t. highs_text integer highs.item ++ t) lows.is)
            ∙ nodes_spelled nodes is.item highs.item lows.item of valid;
      }

  three_into : (text : List ℕ) → NodesSet integer count text → AllThree text
  three_into text is =
      let nodes = is.item in
      let lows = map low_of nodes in
      record {
        item = map variable_of nodes;
        valid_item = of_variables is.valid_item;
        back = highs_text integer (map high_of nodes) ++ lows_text integer lows;
        back_is = record {
          item = map high_of nodes;
          valid_item = of_highs is.valid_item;
          back = lows_text integer lows;
          back_is = record { item = lows; valid_item = of_lows is.valid_item; is = refl };
          whole = refl;
        };
        whole = is.is ∙ nodes_are integer nodes (let many = is.valid_item.many in omega (arith, some, many));
      }

  pub three_stuck : {text left : List ℕ} → IsStuckIn AllThree text left → IsStuckIn (NodesSet integer count) text left
  three_stuck stuck = stuck_same three_from three_into stuck

  pub some_highs : Some HighsAfter
  some_highs = some_then (zeros count) (zeros_are Number count) (some_array Number integer low_head count)

  pub in_variables : {text left : List ℕ} → IsStuckIn (ArraySet Number char_type variable_head count) text left → IsStuckIn (NodesSet integer count) text left
  in_variables stuck = three_stuck (stuck_first (λ _ _. some_highs) stuck)

  module _ (text one : List ℕ) (variables : List ℕ) (variables_are : AreEntries Number count variables) (whole : text ≡ variables_text variables ++ one) where
    behind_variables : {left : List ℕ} → IsStuckIn HighsAfter one left → IsStuckIn (NodesSet integer count) text left
    behind_variables stuck = three_stuck (stuck_next (unique_array Number char_type variable_head count) variables variables_are whole stuck)

    pub in_highs : {left : List ℕ} → IsStuckIn (ArraySet Number integer high_head count) one left → IsStuckIn (NodesSet integer count) text left
    in_highs stuck = behind_variables (stuck_first (λ _ _. some_array Number integer low_head count) stuck)

    module _ (two : List ℕ) (highs : List ℕ) (highs_are : AreEntries Number count highs) (next : one ≡ highs_text integer highs ++ two) where
      pub in_lows : {left : List ℕ} → IsStuckIn (ArraySet Number integer low_head count) two left → IsStuckIn (NodesSet integer count) text left
      in_lows stuck = behind_variables (stuck_next (unique_array Number integer high_head count) highs highs_are next stuck)

      pub nodes_read : (rest lows : List ℕ) → AreEntries Number count lows → two ≡ lows_text integer lows ++ rest → (nodes : List TableNode) → AreNodesOf nodes variables highs lows
          → text ≡ nodes_text integer nodes ++ rest
      nodes_read rest lows lows_are last nodes of =
          whole ∙ ap (λ t. variables_text variables ++ t) (next ∙ ap (λ t. highs_text integer highs ++ t) last ∙ sym (append_assoc (highs_text integer highs) (lows_text integer lows) rest))
          ∙ sym (append_assoc (variables_text variables) (highs_text integer highs ++ lows_text integer lows) rest)
          ∙ ap (λ t. t ++ rest) (nodes_spelled nodes variables highs lows of (nodes_of_numbers nodes variables highs lows of variables_are highs_are lows_are))

abbrev no_nodes : (integer : List ℕ) → Exactly [] (nodes_text integer [])
no_nodes integer = record { is = refl }

pub none_is : AreNodes 0 []
none_is = record { many = refl; each = All-nil IsSmallNode }

-- ---- of the states

abbrev row_of : TableState → ℕ
row_of state = state.row

abbrev accepts_of : TableState → Bool
accepts_of state = state.accepts

abbrev number_of : TableState → ℕ
number_of state = accept_number state.accepts

abbrev rows_text : List ℕ → List ℕ → List ℕ
rows_text integer = array_text integer row_head

abbrev accepts_text : List ℕ → List ℕ
accepts_text = array_text char_type accept_head

states_are : (integer : List ℕ) (states : List TableState) → states_text integer states ≡ rows_text integer (map row_of states) ++ accepts_text (map number_of states)
states_are integer states = λ i.
    (opening_text integer row_head ++ (each_is row_of states i ++ closing_text)) ++ (opening_text char_type accept_head ++ (each_is number_of states i ++ closing_text))

-- 0 and 1 as answers
answer_number : (number : ℕ) → number < 2 → accept_number (nat_eq 1 number) ≡ number
answer_number zero small = refl
answer_number (suc zero) small = refl
answer_number (suc (suc number)) small = absurd (omega (arith, small))

abbrev answers : List ℕ → List Bool
answers numbers = map (nat_eq 1) numbers

-- states with these rows and answers
abbrev state_list : List ℕ → List ℕ → List TableState
state_list [] accepts = []
state_list (row ∷ rows) [] = []
state_list (row ∷ rows) (accept ∷ accepts) = record { row = row; accepts = nat_eq 1 accept } ∷ state_list rows accepts

pub record AreStatesOf (states : List TableState) (rows accepts : List ℕ) : Type 0 where
  pub rows_are : map row_of states ≡ rows
  pub accepts_are : map accepts_of states ≡ answers accepts

state_list_is : (rows accepts : List ℕ) → length accepts ≡ length rows → AreStatesOf (state_list rows accepts) rows accepts
state_list_is [] [] same = record { rows_are = refl; accepts_are = refl }
state_list_is [] (accept ∷ accepts) same = absurd (omega (arith, same))
state_list_is (row ∷ rows) [] same = absurd (omega (arith, same))
state_list_is (row ∷ rows) (accept ∷ accepts) same =
    let rest = state_list_is rows accepts (omega (arith, same)) in
    record { rows_are = ap (λ xs. row ∷ xs) rest.rows_are; accepts_are = ap (λ xs. nat_eq 1 accept ∷ xs) rest.accepts_are }

-- the numbers of answers
numbers_are : (states : List TableState) (accepts : List ℕ) → All (IsEntry Answer) accepts → map accepts_of states ≡ answers accepts → map number_of states ≡ accepts
numbers_are [] [] small same = refl
numbers_are [] (accept ∷ accepts) small same = absurd (let none : 0 ≡ suc (length (answers accepts)) = ap length same in omega (arith, none))
numbers_are (state ∷ states) [] small same = absurd (let none : suc (length (map accepts_of states)) ≡ 0 = ap length same in omega (arith, none))
numbers_are (state ∷ states) (accept ∷ accepts) small same =
    let first : state.accepts ≡ nat_eq 1 accept = cc in
    let rest : map accepts_of states ≡ answers accepts = cc in
    λ i. (ap accept_number first ∙ answer_number accept (All-head (IsEntry Answer) accept accepts small)) i
    ∷ numbers_are states accepts (All-tail (IsEntry Answer) accept accepts small) rest i

small_states : (states : List TableState) → All IsNumber (map row_of states) → All IsSmallState states
small_states [] rows = All-nil IsSmallState
small_states (state ∷ states) rows =
    All-cons IsSmallState state states (record { row = All-head IsNumber state.row (map row_of states) rows })
    (small_states states (All-tail IsNumber state.row (map row_of states) rows))

answer_is_small : (accepts : Bool) → accept_number accepts < 2
answer_is_small true = omega arith
answer_is_small false = omega arith

small_answers : (states : List TableState) → All (IsEntry Answer) (map number_of states)
small_answers [] = All-nil (IsEntry Answer)
small_answers (state ∷ states) = All-cons (IsEntry Answer) (number_of state) (map number_of states) (answer_is_small state.accepts) (small_answers states)

module _ (integer : List ℕ) (count : ℕ) where
  abbrev AcceptsAfter : List ℕ → Type 0
  AcceptsAfter = ArraySet Answer char_type accept_head count

  abbrev BothArrays : List ℕ → Type 0
  BothArrays = Then (AreEntries Number count) (rows_text integer) (λ _. AcceptsAfter)

  pub states_of_numbers : (states : List TableState) (rows accepts : List ℕ) → AreStatesOf states rows accepts → AreEntries Number count rows → AreStates count states
  states_of_numbers states rows accepts of r =
      record { many = sym (map_length row_of states) ∙ ap length of.rows_are ∙ r.many; each = small_states states (subst (All IsNumber) (sym of.rows_are) r.each) }

  states_spelled : (states : List TableState) (rows accepts : List ℕ) → AreStatesOf states rows accepts → AreEntries Answer count accepts
      → rows_text integer rows ++ accepts_text accepts ≡ states_text integer states
  states_spelled states rows accepts of a =
      (λ i. rows_text integer (sym of.rows_are i) ++ accepts_text (sym (numbers_are states accepts a.each of.accepts_are) i)) ∙ sym (states_are integer states)

  pub both_from : (text : List ℕ) → BothArrays text → StatesSet integer count text
  both_from text is =
      let accepts = is.back_is in
      let of = state_list_is is.item accepts.item (accepts.valid_item.many ∙ sym is.valid_item.many) in
      let states = state_list is.item accepts.item in
      record {
        item = states;
        valid_item = states_of_numbers states is.item accepts.item of is.valid_item;
        is = is.whole ∙ ap (λ t. rows_text integer is.item ++ t) accepts.is ∙ states_spelled states is.item accepts.item of accepts.valid_item;
      }

  both_into : (text : List ℕ) → StatesSet integer count text → BothArrays text
  both_into text is =
      let states = is.item in
      record {
        item = map row_of states;
        valid_item = record { many = map_length row_of states ∙ is.valid_item.many; each = all_map row_of IsSmallState (λ state small. small.row) states is.valid_item.each };
        back = accepts_text (map number_of states);
        back_is = record { item = map number_of states; valid_item = record { many = map_length number_of states ∙ is.valid_item.many; each = small_answers states }; is = refl };
        whole = is.is ∙ states_are integer states;
      }

  pub both_stuck : {text left : List ℕ} → IsStuckIn BothArrays text left → IsStuckIn (StatesSet integer count) text left
  both_stuck stuck = stuck_same both_from both_into stuck

  pub in_rows : {text left : List ℕ} → IsStuckIn (ArraySet Number integer row_head count) text left → IsStuckIn (StatesSet integer count) text left
  in_rows stuck = both_stuck (stuck_first (λ _ _. some_array Answer char_type accept_head count) stuck)

  module _ (text one rows : List ℕ) (rows_are : AreEntries Number count rows) (whole : text ≡ rows_text integer rows ++ one) where
    pub in_accepts : {left : List ℕ} → IsStuckIn (ArraySet Answer char_type accept_head count) one left → IsStuckIn (StatesSet integer count) text left
    in_accepts stuck = both_stuck (stuck_next (unique_array Number integer row_head count) rows rows_are whole stuck)

    pub states_read : (rest accepts : List ℕ) → AreEntries Answer count accepts → one ≡ accepts_text accepts ++ rest → (states : List TableState) → AreStatesOf states rows accepts
        → text ≡ states_text integer states ++ rest
    states_read rest accepts accepts_are last states of =
        whole ∙ ap (λ t. rows_text integer rows ++ t) last ∙ sym (append_assoc (rows_text integer rows) (accepts_text accepts) rest)
        ∙ ap (λ t. t ++ rest) (states_spelled states rows accepts of accepts_are)

-- ---- no spelling is that of two

nodes_same : (nodes other : List TableNode) → map variable_of nodes ≡ map variable_of other → map high_of nodes ≡ map high_of other → map low_of nodes ≡ map low_of other → nodes ≡ other
nodes_same [] [] v h l = refl
nodes_same [] (y ∷ ys) v h l = absurd (let none : 0 ≡ suc (length (map variable_of ys)) = ap length v in omega (arith, none))
nodes_same (x ∷ xs) [] v h l = absurd (let none : suc (length (map variable_of xs)) ≡ 0 = ap length v in omega (arith, none))
nodes_same (x ∷ xs) (y ∷ ys) v h l =
    let variable : x.variable ≡ y.variable = cc in
    let variables : map variable_of xs ≡ map variable_of ys = cc in
    let high : x.high ≡ y.high = cc in
    let highs : map high_of xs ≡ map high_of ys = cc in
    let low : x.low ≡ y.low = cc in
    let lows : map low_of xs ≡ map low_of ys = cc in
    λ i. record { variable = variable i; high = high i; low = low i } ∷ nodes_same xs ys variables highs lows i

three_opened : (integer : List ℕ) (nodes : List TableNode) (rest : List ℕ) → 0 < length nodes → nodes_text integer nodes ++ rest
    ≡ variables_text (map variable_of nodes) ++ (highs_text integer (map high_of nodes) ++ (lows_text integer (map low_of nodes) ++ rest))
three_opened integer nodes rest some =
    let variables = variables_text (map variable_of nodes) in
    let highs = highs_text integer (map high_of nodes) in
    let lows = lows_text integer (map low_of nodes) in
    ap (λ t. t ++ rest) (nodes_are integer nodes some) ∙ append_assoc variables (highs ++ lows) rest ∙ ap (λ t. variables ++ t) (append_assoc highs lows rest)

unique_some : (integer : List ℕ) (count : ℕ) → 0 < count → IsUnique (AreNodes count) (nodes_text integer)
unique_some integer count some x y a b x_is y_is spelled =
    let same = sym (three_opened integer x a (let many = x_is.many in omega (arith, some, many))) ∙ spelled ∙ three_opened integer y b (let many = y_is.many in omega (arith, some, many)) in
    let variables = unique_array Number char_type variable_head count (map variable_of x) (map variable_of y) _ _ (of_variables x_is) (of_variables y_is) same in
    let next = same_behind (variables_text (map variable_of x)) (variables_text (map variable_of y)) (ap variables_text variables) same in
    let highs = unique_array Number integer high_head count (map high_of x) (map high_of y) _ _ (of_highs x_is) (of_highs y_is) next in
    let last = same_behind (highs_text integer (map high_of x)) (highs_text integer (map high_of y)) (ap (highs_text integer) highs) next in
    let lows = unique_array Number integer low_head count (map low_of x) (map low_of y) a b (of_lows x_is) (of_lows y_is) last in
    nodes_same x y variables highs lows

pub unique_nodes : (integer : List ℕ) (count : ℕ) → IsUnique (AreNodes count) (nodes_text integer)
unique_nodes integer count [] [] a b x_is y_is same = refl
unique_nodes integer count [] (y ∷ ys) a b x_is y_is same = absurd (let none : 0 ≡ suc (length ys) = x_is.many ∙ sym y_is.many in omega (arith, none))
unique_nodes integer count (x ∷ xs) y a b x_is y_is same =
    unique_some integer count (let many : suc (length xs) ≡ count = x_is.many in omega (arith, many)) (x ∷ xs) y a b x_is y_is same

states_same : (states other : List TableState) → map row_of states ≡ map row_of other → map number_of states ≡ map number_of other → states ≡ other
states_same [] [] r n = refl
states_same [] (y ∷ ys) r n = absurd (let none : 0 ≡ suc (length (map row_of ys)) = ap length r in omega (arith, none))
states_same (x ∷ xs) [] r n = absurd (let none : suc (length (map row_of xs)) ≡ 0 = ap length r in omega (arith, none))
states_same (x ∷ xs) (y ∷ ys) r n =
    let row : x.row ≡ y.row = cc in
    let rows : map row_of xs ≡ map row_of ys = cc in
    let number : accept_number x.accepts ≡ accept_number y.accepts = cc in
    let numbers : map number_of xs ≡ map number_of ys = cc in
    λ i. record { row = row i; accepts = answer x.accepts y.accepts number i } ∷ states_same xs ys rows numbers i
  where
    answer : (accepts other : Bool) → accept_number accepts ≡ accept_number other → accepts ≡ other
    answer true true same = refl
    answer false false same = refl
    answer true false same = absurd (omega (arith, same))
    answer false true same = absurd (omega (arith, same))

pub unique_states : (integer : List ℕ) (count : ℕ) → IsUnique (AreStates count) (states_text integer)
unique_states integer count x y a b x_is y_is spelled =
    let same = sym (opened x a) ∙ spelled ∙ opened y b in
    let rows = unique_array Number integer row_head count (map row_of x) (map row_of y) _ _ (of_rows x x_is) (of_rows y y_is) same in
    let next = same_behind (rows_text integer (map row_of x)) (rows_text integer (map row_of y)) (ap (rows_text integer) rows) same in
    let numbers = unique_array Answer char_type accept_head count (map number_of x) (map number_of y) a b (of_numbers x x_is) (of_numbers y y_is) next in
    states_same x y rows numbers
  where
    opened : (states : List TableState) (rest : List ℕ) → states_text integer states ++ rest ≡ rows_text integer (map row_of states) ++ (accepts_text (map number_of states) ++ rest)
    opened states rest = ap (λ t. t ++ rest) (states_are integer states) ∙ append_assoc (rows_text integer (map row_of states)) (accepts_text (map number_of states)) rest

    of_rows : (states : List TableState) → AreStates count states → AreEntries Number count (map row_of states)
    of_rows states is = record { many = map_length row_of states ∙ is.many; each = all_map row_of IsSmallState (λ state small. small.row) states is.each }

    of_numbers : (states : List TableState) → AreStates count states → AreEntries Answer count (map number_of states)
    of_numbers states is = record { many = map_length number_of states ∙ is.many; each = small_answers states }

-- ---- some of each number

abbrev zero_nodes : ℕ → List TableNode
zero_nodes zero = []
zero_nodes (suc count) = no_node ∷ zero_nodes count

zero_nodes_are : (count : ℕ) → AreNodes count (zero_nodes count)
zero_nodes_are zero = none_is
zero_nodes_are (suc count) =
    let next = zero_nodes_are count in
    record { many = ap suc next.many; each = All-cons IsSmallNode no_node (zero_nodes count) (record { variable = omega arith; high = omega arith; low = omega arith }) next.each }

abbrev zero_states : ℕ → List TableState
zero_states zero = []
zero_states (suc count) = no_state ∷ zero_states count

zero_states_are : (count : ℕ) → AreStates count (zero_states count)
zero_states_are zero = record { many = refl; each = All-nil IsSmallState }
zero_states_are (suc count) =
    let next = zero_states_are count in
    record { many = ap suc next.many; each = All-cons IsSmallState no_state (zero_states count) (record { row = omega arith }) next.each }

pub some_nodes : (count : ℕ) → (nodes : List TableNode) × AreNodes count nodes
some_nodes count = (zero_nodes count, zero_nodes_are count)

pub some_states : (count : ℕ) → (states : List TableState) × AreStates count states
some_states count = (zero_states count, zero_states_are count)
