-- What is built from lines that keep the rules says the same.
use Rattle.std.proofs.Common.{◌≡◌, ℕ, ◌≤◌, Bool, true, false, ◌&&◌, List, length, map, get_or, Option, None, Some, inl, inr, refl, sym, ap, ◌∙◌, subst, arith}
use Rattle.std.specs.Prelude.{nat_lt, nat_eq, option_map}
use Rattle.std.specs.List.{All, enumerate_from, zip}
use Rattle.std.proofs.lemmas.Bool.{eqb-true, leb-true, ltb-true, cases_lt}
use Rattle.std.proofs.lemmas.List.{get_or-map, length-map, take_all}
use Rattle.std.proofs.lemmas.Simd.{map-map}
use Rattle.dcv_automaton_text.specs.File.{Access, EmptyAccess, StartAccess, AfterAccess, Suffix, EmptySuffix, ThenSuffix, StepLine as FileStepLine, AutomatonFile}
use Rattle.dcv_automaton_text.specs.Rules.{slot_of, keeps_node, keeps_state, keeps_access, keeps_suffix, keeps_steps, keeps_step, has_all_steps, judged_steps, IsGood}
use Rattle.dcv_automaton_text.specs.Spelled.{node_words, state_words, access_words, suffix_words, steps_words, step_words, spelled_front}
use Rattle.dcv_automaton_lines.specs.declared.lines.NodeLine.{NodeLine}
use Rattle.dcv_automaton_lines.specs.declared.lines.StateLine.{StateLine}
use Rattle.dcv_automaton_lines.specs.declared.lines.AccessLine.{AccessLine}
use Rattle.dcv_automaton_lines.specs.declared.lines.SuffixLine.{SuffixLine}
use Rattle.dcv_automaton_lines.specs.declared.lines.StepLine.{StepLine}
use Rattle.dcv_automaton_lines.specs.declared.lines.StepPart.{StepPart}
use Rattle.dcv_automaton_lines.specs.declared.lines.Lines.{Lines}
use Rattle.dcv_automaton_lines.specs.Seen.{file_of, node_line_of, state_line_of, access_line_of, suffix_line_of, step_line_of, step_part_of, access_of, suffix_of}
use Rattle.dcv_automaton_read.specs.declared.nodes.Node.{Node}
use Rattle.dcv_automaton_read.specs.declared.file.Row.{Row}
use Rattle.dcv_language.specs.declared.count.Count.{Count}
use Rattle.dcv_language.specs.declared.certificate.Access.{Access as ReadAccess}
use Rattle.dcv_language.specs.declared.certificate.Suffix.{Suffix as ReadSuffix}
use Rattle.dcv_automaton_read.specs.File.{access_from, suffix_from, node_line, state_line, access_line, suffix_line, step_line, step_part, file_from, row_of, count_of, counts_of, IsNarrow, IsNarrowSuffix, IsRead, IsKept}
use Rattle.dcv_automaton_read.specs.Parts.{judged_lines, judged_step_lines}
use Rattle.dcv_automaton_read.specs.Seen.{node_of, AreNodesOf}
use Rattle.dcv_automaton_read.proofs.Kept.{AreKept, kept_parts, kept_at, made_again, Parts, good_parts, names_are_few, all_states}
use Rattle.dcv_automaton_text.proofs.InWords.{listed_slot}
use Rattle.dcv_automaton_read.proofs.NodeWords.{name_there}

-- ---- letters are narrow

narrow : (file : AutomatonFile) (n number : ℕ) (access : Access) → length file.names ≤ 16
    → AreKept (zip (access_words (record { number = number; access = access })) (keeps_access file n (record { number = number; access = access }))) → IsNarrow access
narrow file n number EmptyAccess few kept = tt
narrow file n number (StartAccess letter) few kept = omega (arith, few, eqb-true (length letter) (length file.names) kept.1.1.1.0)
narrow file n number (AfterAccess state letter) few kept = omega (arith, few, eqb-true (length letter) (length file.names) kept.1.1.1.0)

true_and : (a b : Bool) → (a && b) ≡ true → b ≡ true
true_and true b h = h
true_and false b h = absurd cc

narrow_suffix : (file : AutomatonFile) (n number : ℕ) (suffix : Suffix) → length file.names ≤ 16
    → AreKept (zip (suffix_words (record { number = number; suffix = suffix })) (keeps_suffix file n (record { number = number; suffix = suffix }))) → IsNarrowSuffix suffix
narrow_suffix file n number EmptySuffix few kept = tt
narrow_suffix file n number (ThenSuffix letter suffix) few kept =
    omega (arith, few, eqb-true (length letter) (length file.names) (true_and (nat_lt 0 n) (nat_eq (length letter) (length file.names)) kept.1.1.0))

module _ (lines : Lines) (good : IsGood (file_of lines)) where
  parts : Parts (file_of lines)
  parts = good_parts (file_of lines) good

  pub narrow_access_lines : (given : List AccessLine) → given ≡ lines.access_lines.items → All (λ (line : AccessLine). IsNarrow (access_of line.access)) given
  narrow_access_lines given same k d below =
      let line = get_or given k d in
      let kept = kept_at access_words (keeps_access (file_of lines)) (map access_line_of given) 0 k k (access_line_of d)
      (subst (λ items. AreKept (judged_lines access_words (keeps_access (file_of lines)) 0 (map access_line_of items))) (sym same) parts.access) (omega (arith, below, length-map given access_line_of)) (omega arith) in
      narrow (file_of lines) k line.number (access_of line.access) (names_are_few (file_of lines).names parts.names)
      (subst (λ x. AreKept (zip (access_words x) (keeps_access (file_of lines) k x))) (get_or-map access_line_of given k d (access_line_of d) below) kept)

  pub narrow_suffix_lines : (given : List SuffixLine) → given ≡ lines.suffix_lines.items → All (λ (line : SuffixLine). IsNarrowSuffix (suffix_of line.suffix)) given
  narrow_suffix_lines given same k d below =
      let line = get_or given k d in
      let kept = kept_at suffix_words (keeps_suffix (file_of lines)) (map suffix_line_of given) 0 k k (suffix_line_of d)
      (subst (λ items. AreKept (judged_lines suffix_words (keeps_suffix (file_of lines)) 0 (map suffix_line_of items))) (sym same) parts.suffixes) (omega (arith, below, length-map given suffix_line_of)) (omega arith) in
      narrow_suffix (file_of lines) k line.number (suffix_of line.suffix) (names_are_few (file_of lines).names parts.names)
      (subst (λ x. AreKept (zip (suffix_words x) (keeps_suffix (file_of lines) k x))) (get_or-map suffix_line_of given k d (suffix_line_of d) below) kept)

-- ---- lines are made again

node_again : (file : AutomatonFile) (n : ℕ) (x : NodeLine) → AreKept (zip (node_words (node_line_of x)) (keeps_node file n (node_line_of x)))
    → node_line file.names (n, node_of file.names (node_line_of x)) ≡ node_line_of x
node_again file n x kept =
    let number = sym (eqb-true x.number n kept.1.0) in
    let below = ltb-true (slot_of file.names x.name.now) (length file.names) (sym (listed_slot file.names x.name.now) ∙ kept.1.1.0) in
    let name = sym (name_there file.names x.name.now below) in
    λ i. record { number = number i; name = name i; hi = x.hi; lo = x.lo }

state_again : (file : AutomatonFile) (n : ℕ) (x : StateLine) → AreKept (zip (state_words (state_line_of x)) (keeps_state file n (state_line_of x))) → state_line (n, row_of x) ≡ state_line_of x
state_again file n x kept =
    let number = sym (eqb-true x.number n kept.1.0) in
    λ i. record { number = number i; accepting = x.accepting; row = x.row }

access_again : (file : AutomatonFile) (n : ℕ) (x : AccessLine) → AreKept (zip (access_words (access_line_of x)) (keeps_access file n (access_line_of x)))
    → access_line (n, access_of x.access) ≡ access_line_of x
access_again file n x kept = let number = sym (eqb-true x.number n kept.1.0) in λ i. record { number = number i; access = access_of x.access }

suffix_again : (file : AutomatonFile) (n : ℕ) (x : SuffixLine) → AreKept (zip (suffix_words (suffix_line_of x)) (keeps_suffix file n (suffix_line_of x)))
    → suffix_line (n, suffix_of x.suffix) ≡ suffix_line_of x
suffix_again file n x kept = let number = sym (eqb-true x.number n kept.1.0) in λ i. record { number = number i; suffix = suffix_of x.suffix }

step_again : (part : StepPart) (n : ℕ) (x : StepLine) → AreKept (zip (step_words (step_line_of x)) (keeps_step (step_part_of part) n (step_line_of x)))
    → step_line (n, count_of x) ≡ step_line_of x
step_again part n x kept =
    let number = sym (eqb-true x.number n kept.1.0) in
    λ i. record { number = number i; at = x.at; states = x.states; nodes = x.nodes }

-- there are as many steps as lines
all_steps : (part : StepPart) → AreKept (judged_step_lines (step_part_of part)) → has_all_steps (Some (step_part_of part)) ≡ true → length part.lines.items ≡ part.count
all_steps part kept enough =
    let lines = map step_line_of part.lines.items in
    let size = length-map part.lines.items step_line_of in
    let most = leb-true part.count (length lines) enough in
    elim (cases_lt part.count (length lines)) [
      | inl more ↦
          let nothing : FileStepLine = record { number = 0; at = 0; states = 0; nodes = 0 } in
          let flag = kept_at step_words (keeps_step (step_part_of part)) lines 0 part.count part.count nothing kept more (omega arith) in
          absurd (let below = ltb-true part.count part.count flag.0 in omega arith)
      | inr none ↦ omega (arith, most, none, size)
    ]

part_again : (file : AutomatonFile) (steps : Option StepPart) → AreKept (judged_steps file (option_map step_part_of steps)) → has_all_steps (option_map step_part_of steps) ≡ true
    → option_map step_part (option_map counts_of steps) ≡ option_map step_part_of steps
part_again file None kept enough = refl
part_again file (Some part) kept enough =
    let both = kept_parts (zip (steps_words (step_part_of part)) (keeps_steps file (step_part_of part))) (judged_step_lines (step_part_of part)) kept in
    let count = length-map part.lines.items count_of ∙ all_steps part both.1 enough in
    let lines = made_again step_words (keeps_step (step_part_of part)) step_line_of count_of step_line (step_again part) part.lines.items 0 both.1 in
    λ i. Some (record { count = count i; lines = lines i })

module _ (lines : Lines) (good : IsGood (file_of lines)) (texts : List (List ℕ)) (nodes : List Node) (rows : List Row) (access : List ReadAccess) (suffixes : List ReadSuffix) (steps : Option (List Count))
    (names_are : texts ≡ (file_of lines).names) (nodes_are : AreNodesOf (file_of lines) (length (file_of lines).node_lines) nodes) (rows_are : rows ≡ map row_of lines.state_lines.items)
    (access_are : map access_from access ≡ map (λ (line : AccessLine). access_of line.access) lines.access_lines.items)
    (suffixes_are : map suffix_from suffixes ≡ map (λ (line : SuffixLine). suffix_of line.suffix) lines.suffix_lines.items)
    (steps_are : steps ≡ option_map counts_of lines.steps) where
  whole_nodes : nodes ≡ map (node_of (file_of lines).names) (file_of lines).node_lines
  whole_nodes =
      nodes_are.same ∙ ap (map (node_of (file_of lines).names)) (take_all (length (file_of lines).node_lines) (file_of lines).node_lines (omega arith))

  node_lines_again : map (node_line texts) (enumerate_from 0 nodes) ≡ (file_of lines).node_lines
  node_lines_again =
      let file = file_of lines in
      let node = λ (x : NodeLine). node_of file.names (node_line_of x) in
      (λ i. map (node_line (names_are i)) (enumerate_from 0 ((whole_nodes ∙ map-map (node_of file.names) node_line_of lines.node_lines.items) i)))
      ∙ made_again node_words (keeps_node file) node_line_of node (node_line file.names) (node_again file) lines.node_lines.items 0 (good_parts file good).nodes

  state_lines_again : map state_line (enumerate_from 0 rows) ≡ (file_of lines).state_lines
  state_lines_again =
      let file = file_of lines in
      ap (λ all. map state_line (enumerate_from 0 all)) rows_are
      ∙ made_again state_words (keeps_state file) state_line_of row_of state_line (state_again file) lines.state_lines.items 0 (good_parts file good).states

  access_lines_again : map access_line (enumerate_from 0 (map access_from access)) ≡ (file_of lines).access_lines
  access_lines_again =
      let file = file_of lines in
      ap (λ all. map access_line (enumerate_from 0 all)) access_are
      ∙ made_again access_words (keeps_access file) access_line_of (λ (line : AccessLine). access_of line.access) access_line (access_again file) lines.access_lines.items 0 (good_parts file good).access

  suffix_lines_again : map suffix_line (enumerate_from 0 (map suffix_from suffixes)) ≡ (file_of lines).suffix_lines
  suffix_lines_again =
      let file = file_of lines in
      ap (λ all. map suffix_line (enumerate_from 0 all)) suffixes_are
      ∙ made_again suffix_words (keeps_suffix file) suffix_line_of (λ (line : SuffixLine). suffix_of line.suffix) suffix_line (suffix_again file) lines.suffix_lines.items 0 (good_parts file good).suffixes

  count_again : length rows ≡ (file_of lines).states
  count_again =
      ap length rows_are ∙ length-map lines.state_lines.items row_of ∙ sym (length-map lines.state_lines.items state_line_of) ∙ all_states (file_of lines) (good_parts (file_of lines) good)

  steps_again : option_map step_part steps ≡ (file_of lines).steps
  steps_again =
      let parts = good_parts (file_of lines) good in
      ap (option_map step_part) steps_are ∙ part_again (file_of lines) lines.steps parts.steps parts.all_steps

  pub remade : file_from texts nodes rows access suffixes steps ≡ file_of lines
  remade = λ i. record {
    names = names_are i;
    states = count_again i;
    node_lines = node_lines_again i;
    state_lines = state_lines_again i;
    access_lines = access_lines_again i;
    suffix_lines = suffix_lines_again i;
    steps = steps_again i;
  }

  is_read : IsRead (file_of lines) nodes
  is_read = record { good = good; nodes_are = whole_nodes }

  pub is_kept : (front : List ℕ) (at : ℕ) → at ≡ length front → front ≡ spelled_front (file_of lines) → IsKept (file_from texts nodes rows access suffixes steps) nodes at
  is_kept front at counted spelled =
      subst (λ file. IsKept file nodes at) (sym remade) (record { read = is_read; front = counted ∙ ap length spelled })
