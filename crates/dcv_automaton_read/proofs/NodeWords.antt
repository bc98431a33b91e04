-- The words of a node's line.
use Rattle.std.proofs.Common.{◌≡◌, ℕ, zero, suc, ◌+◌, ◌<◌, ◌≤◌, Bool, true, false, not, ◌&&◌, ◌||◌, List, [], ◌∷◌, ◌++◌, length, map, take, get_or, slice_get, Some, Result, inl, inr, refl, sym, ap, ◌∙◌, subst, arith}
use Rattle.std.specs.Prelude.{nat_lt, nat_eq, if◌then◌else◌}
use Rattle.indexmap.specs.IndexSet.{insert_key}
use Rattle.std.specs.List.{All, list_any, zip}
use Rattle.std.specs.Str.{bytes_eq}
use Rattle.std.proofs.lemmas.Bool.{cases_lt, lt-ltb, le-ltb, ltb-true, not-true}
use Rattle.std.proofs.lemmas.Bool.Decides.{same_from_decides, Decides-eqb, Decides-like}
use Rattle.std.proofs.lemmas.List.{get_or-map, get_or-take, length-map, length-take-le, take_more}
use Rattle.std.proofs.lemmas.List.Elements.{All-append}
use Rattle.std.proofs.lemmas.List.Sums.{passes_at_first}
use Rattle.std.proofs.lemmas.Option.{get_or_from_slice_get}
use Rattle.std.proofs.lemmas.Slice.Eq.{bytes_eq-Decides}
use Rattle.dcv_language.specs.Limits.{most_nodes}
use Rattle.dcv_automaton_text.specs.File.{NodeLine, AutomatonFile}
use Rattle.dcv_automaton_text.proofs.InWords.{listed_slot}
use Rattle.dcv_automaton_text.specs.Rules.{slot_of, is_listed, slot_of_node, keeps_child, is_same_target, is_same_node, keeps_node}
use Rattle.dcv_automaton_text.specs.Spelled.{node_words}
use Rattle.dcv_automaton_read.specs.declared.faults.Stop.{Stop}
use Rattle.dcv_language.specs.declared.child.Child.{Child}
use Rattle.dcv_language.specs.declared.child.Child.TheVariants.{State, Node as AtNode}
use Rattle.dcv_automaton_read.specs.declared.nodes.Node.{Node}
use Rattle.dcv_automaton_read.specs.contracts.nodes.NodePartialEq.TheImpl.{eq-value as node_eq}
use Rattle.dcv_language.specs.contracts.child.ChildPartialEq.TheImpl.{eq-value as child_eq}
use Rattle.dcv_automaton_read.specs.Judged.{IsJudged, first_false, first_word}
use Rattle.dcv_automaton_read.specs.Seen.{node_of, same_node, slots_of, child_kept, IsAdded, AreNodesOf}

-- ---- tests

and_assoc : (a b c : Bool) → (a && (b && c)) ≡ ((a && b) && c)
and_assoc true b c = refl
and_assoc false b c = refl

pub same_children : (a b : Child) → child_eq.it a b ≡ is_same_target a b
same_children (State a) (State b) = refl
same_children (State a) (AtNode b) = refl
same_children (AtNode a) (State b) = refl
same_children (AtNode a) (AtNode b) = refl

pub same_nodes : (a b : Node) → node_eq.it a b ≡ same_node a b
same_nodes a b =
    (λ i. nat_eq a.slot b.slot && (same_children a.hi b.hi i && same_children a.lo b.lo i))
    ∙ and_assoc (nat_eq a.slot b.slot) (is_same_target a.hi b.hi) (is_same_target a.lo b.lo)

pub none_of : (node : Node) (nodes : List Node) → list_any (node_eq.it node) nodes ≡ list_any (same_node node) nodes
none_of node [] = refl
none_of node (other ∷ nodes) = λ i. same_nodes node other i || none_of node nodes i

pub added : (nodes : List Node) (node : Node) (is_new : Bool) (more : List Node) → length nodes < most_nodes
    → is_new ≡ not (list_any (node_eq.it node) nodes) → more ≡ insert_key node_eq.it nodes node → IsAdded nodes node is_new more
added nodes node is_new more below new_is more_is =
    let fresh = new_is ∙ ap not (none_of node nodes) in
    let few = lt-ltb (length nodes) most_nodes below in
    record {
      flag = fresh ∙ ap (λ few. few && not (list_any (same_node node) nodes)) (sym few);
      added = λ kept. more_is ∙ ap (λ there. if there then nodes else nodes ++ node ∷ []) (not-true (list_any (node_eq.it node) nodes) (sym new_is ∙ kept));
    }

-- ---- slots

pub name_there : (names : List (List ℕ)) (name : List ℕ) → slot_of names name < length names → name ≡ get_or names (slot_of names name) []
name_there names name below = (bytes_eq-Decides name (get_or names (slot_of names name) [])).0 (passes_at_first (bytes_eq name) names [] below)

pub same_slot : (names : List (List ℕ)) (a b : List ℕ) → is_listed names b ≡ true → bytes_eq a b ≡ nat_eq (slot_of names a) (slot_of names b)
same_slot names a b listed =
    let below : slot_of names b < length names = ltb-true (slot_of names b) (length names) (sym (listed_slot names b) ∙ listed) in
    same_from_decides (bytes_eq a b) (nat_eq (slot_of names a) (slot_of names b)) (bytes_eq-Decides a b)
    (Decides-like (nat_eq (slot_of names a) (slot_of names b))
    (λ same. name_there names a (omega (arith, same, below)) ∙ ap (λ slot. get_or names slot []) same ∙ sym (name_there names b below))
    (λ same. ap (slot_of names) same) (Decides-eqb (slot_of names a) (slot_of names b)))

-- ---- earlier nodes

same_line : (names : List (List ℕ)) (line other : NodeLine) → is_listed names other.name ≡ true → same_node (node_of names line) (node_of names other) ≡ is_same_node line other
same_line names line other listed =
    λ i. (sym (same_slot names line.name other.name listed) i && is_same_target line.hi other.hi) && is_same_target line.lo other.lo

among : (names : List (List ℕ)) (line : NodeLine) (earlier : List NodeLine) → All (λ (other : NodeLine). is_listed names other.name ≡ true) earlier
    → list_any (same_node (node_of names line)) (map (node_of names) earlier) ≡ list_any (is_same_node line) earlier
among names line [] listed = refl
among names line (other ∷ earlier) listed =
    let here = same_line names line other (listed 0 other (omega arith)) in
    let rest = among names line earlier (λ k d below. listed (suc k) d (omega arith)) in
    λ i. here i || rest i

module _ (file : AutomatonFile) (line : NodeLine) (nodes : List Node) (before : AreNodesOf file (length nodes) nodes) (there : slice_get file.node_lines (length nodes) ≡ Some line) where
  pub is_among : list_any (same_node (node_of file.names line)) nodes ≡ list_any (is_same_node line) (take (length nodes) file.node_lines)
  is_among = ap (list_any (same_node (node_of file.names line))) before.same ∙ among file.names line (take (length nodes) file.node_lines) before.listed

  place_below : length nodes < length file.node_lines
  place_below = some_below file.node_lines (length nodes) there
    where
      some_below : (lines : List NodeLine) (place : ℕ) → slice_get lines place ≡ Some line → place < length lines
      some_below [] place is = absurd cc
      some_below (one ∷ lines) zero is = omega arith
      some_below (one ∷ lines) (suc place) is = omega (arith, some_below lines place is)

  here_is : (d : NodeLine) → get_or file.node_lines (length nodes) d ≡ line
  here_is d = get_or_from_slice_get file.node_lines (length nodes) line d there

  this_slot : slot_of_node file (length nodes) ≡ slot_of file.names line.name
  this_slot =
      ap (slot_of file.names) (get_or-map (λ (one : NodeLine). one.name) file.node_lines (length nodes) line [] place_below ∙ ap (λ (one : NodeLine). one.name) (here_is line))

  earlier_slot : (number : ℕ) → number < length nodes → slot_of_node file number ≡ get_or (slots_of nodes) number 0
  earlier_slot number below =
      let place = length nodes in
      let earlier = take place file.node_lines in
      let size = length-take-le place file.node_lines (omega (arith, place_below)) in
      ap (slot_of file.names) (get_or-map (λ (one : NodeLine). one.name) file.node_lines number line [] (omega (arith, place_below)))
      ∙ ap (λ (one : NodeLine). slot_of file.names one.name) (sym (get_or-take place file.node_lines number line below))
      ∙ ap (λ (node : Node). node.slot) (sym (get_or-map (node_of file.names) earlier number line (node_of file.names line) (omega (arith, size, below))))
      ∙ ap (λ (all : List Node). (get_or all number (node_of file.names line)).slot) (sym before.same)
      ∙ sym (get_or-map (λ (node : Node). node.slot) nodes number (node_of file.names line) 0 below)

  pub kept_child : (target : Child) → child_kept file.states nodes (slot_of file.names line.name) target ≡ keeps_child file (length nodes) target
  kept_child (State number) = refl
  kept_child (AtNode number) = elim (cases_lt number (length nodes)) [
    | inl below ↦
        let test = lt-ltb number (length nodes) below in
        rw (test) (λ i. nat_lt (sym this_slot i) (sym (earlier_slot number below) i))
    | inr above ↦ let test = le-ltb number (length nodes) above in rw (test) refl
  ]

  pub kept_other : (hi lo : Child) → (child_kept file.states nodes (slot_of file.names line.name) lo && not (is_same_target hi lo))
      ≡ (keeps_child file (length nodes) lo && not (is_same_target hi lo))
  kept_other hi lo = λ i. kept_child lo i && not (is_same_target hi lo)

  pub next_nodes : is_listed file.names line.name ≡ true → (more : List Node) → more ≡ nodes ++ node_of file.names line ∷ [] → AreNodesOf file (length nodes + 1) more
  next_nodes listed more is =
      let lines = take_more file.node_lines (length nodes) line place_below ∙ ap (λ one. take (length nodes) file.node_lines ++ one ∷ []) (here_is line) in
      record {
        same = is ∙ ap (λ all. all ++ node_of file.names line ∷ []) before.same
            ∙ sym (pushed (take (length nodes) file.node_lines)) ∙ ap (map (node_of file.names)) (sym lines);
        listed = subst (All (λ (one : NodeLine). is_listed file.names one.name ≡ true)) (sym lines)
            (All-append (λ (one : NodeLine). is_listed file.names one.name ≡ true) (take (length nodes) file.node_lines) (line ∷ []) before.listed single);
      }
    where
      pushed : (xs : List NodeLine) → map (node_of file.names) (xs ++ line ∷ []) ≡ map (node_of file.names) xs ++ node_of file.names line ∷ []
      pushed [] = refl
      pushed (x ∷ xs) = ap (λ rest. node_of file.names x ∷ rest) (pushed xs)

      single : All (λ (one : NodeLine). is_listed file.names one.name ≡ true) (line ∷ [])
      single zero d below = listed
      single (suc k) d below = absurd (omega arith)

  -- the words of the line, from the flags
  pub node_judged : (first : ℕ) (begins numbered listed keeps_hi keeps_lo : Bool) (answer : Result ℕ Stop) (more : List Node)
      → IsAdded nodes (node_of file.names line) begins more → numbered ≡ nat_eq line.number (length nodes) → listed ≡ nat_lt (slot_of file.names line.name) (length file.names)
      → keeps_hi ≡ child_kept file.states nodes (slot_of file.names line.name) line.hi
      → keeps_lo ≡ (child_kept file.states nodes (slot_of file.names line.name) line.lo && not (is_same_target line.hi line.lo))
      → IsJudged (first_false first (begins ∷ numbered ∷ listed ∷ true ∷ keeps_hi ∷ true ∷ keeps_lo ∷ [])) (first + 7) answer
      → IsJudged (first_word first (zip (node_words line) (keeps_node file (length nodes) line))) (first + 7) answer
  node_judged first begins numbered listed keeps_hi keeps_lo answer more added a b c d judged =
      let begins_is : begins ≡ (nat_lt (length nodes) most_nodes && not (list_any (is_same_node line) (take (length nodes) file.node_lines))) =
      added.flag ∙ ap (λ same. nat_lt (length nodes) most_nodes && not same) is_among in
      let listed_is : listed ≡ is_listed file.names line.name = b ∙ sym (listed_slot file.names line.name) in
      let hi_is = c ∙ kept_child line.hi in
      let lo_is = d ∙ kept_other line.hi line.lo in
      let flags : (begins ∷ numbered ∷ listed ∷ true ∷ keeps_hi ∷ true ∷ keeps_lo ∷ []) ≡ keeps_node file (length nodes) line =
      λ i. begins_is i ∷ a i ∷ listed_is i ∷ true ∷ hi_is i ∷ true ∷ lo_is i ∷ [] in
      subst (λ keeps. IsJudged (first_false first keeps) (first + 7) answer) flags judged

pub nodes_count : (file : AutomatonFile) (count : ℕ) (nodes : List Node) → AreNodesOf file count nodes → count ≤ length file.node_lines → length nodes ≡ count
nodes_count file count nodes are few =
    ap length are.same ∙ length-map (take count file.node_lines) (node_of file.names) ∙ length-take-le count file.node_lines few
