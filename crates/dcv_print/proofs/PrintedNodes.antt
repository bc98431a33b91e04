-- The lines of nodes and states that are printed of an automaton keep the table rules.
use Rattle.std.proofs.Common.{◌≡◌, ◌≢◌, ℕ, ◌+◌, ◌<◌, ◌≤◌, Bool, true, false, not, ◌&&◌, List, [], length, map, take, get_or, refl, sym, ap, ◌∙◌, arith}
use Rattle.std.specs.Prelude.{bytes_eq, nat_eq, nat_lt}
use Rattle.std.specs.Cmp.{unsigned_Decides}
use Rattle.std.specs.List.{All, AllPairs, list_any, enumerate_from}
use Rattle.std.proofs.lemmas.Bool.{lt-ltb}
use Rattle.std.proofs.lemmas.List.{length-map, length-take, get_or-map, get_or-take}
use Rattle.std.proofs.lemmas.List.Folds.{list_any_none, list_any_at}
use Rattle.std.proofs.lemmas.List.FromFn.{length-enumerate_from, get_or-enumerate_from}
use Rattle.std.proofs.lemmas.Option.{slice_get-get_or}
use Rattle.std.proofs.lemmas.Slice.Eq.{bytes_eq-Decides}
use Rattle.dcv_language.specs.declared.count.Count.{Count}
use Rattle.dcv_language.specs.declared.child.Child.{Child}
use Rattle.dcv_language.specs.declared.child.Child.TheVariants.{State, Node}
use Rattle.dcv_dfa.specs.declared.node_lines.NodeLine.{NodeLine}
use Rattle.dcv_dfa.specs.NodeLines.{IsBelow, ComesAfter, AreReduced, node_lines_of}
use Rattle.dcv_dfa.specs.Raw.{RawValue}
use Rattle.dcv_language.specs.declared.certificate.Access.{Access as CodeAccess}
use Rattle.dcv_language.specs.declared.certificate.Suffix.{Suffix as CodeSuffix}
use Rattle.dcv_language.specs.Limits.{most_nodes}
use Rattle.dcv_automaton_text.specs.File.{NodeLine as PlainNodeLine}
use Rattle.dcv_automaton_text.specs.Rules.{slot_of, slot_of_node, keeps_child, is_same_target, is_same_node, keeps_node, keeps_row, keeps_state}
use Rattle.dcv_automaton_text.proofs.Kept.{AreKept, both_true, both}
use Rattle.dcv_print.specs.Printed.{node_line, state_line, printed_file, file_of}
use Rattle.dcv_automaton_file.proofs.Tables.{slot_at}

pub same_number : (n : ℕ) → nat_eq n n ≡ true
same_number n = (unsigned_Decides n n).1 refl

-- a test that is true of what is so alone is false of what is not
fails : (test : Bool) → (test ≡ true → ⊥) → test ≡ false
fails true not_so = absurd (not_so refl)
fails false not_so = refl

-- ---- children

same_target : (one other : Child) → is_same_target one other ≡ true → one ≡ other
same_target (State a) (State b) same = ap State ((unsigned_Decides a b).0 same)
same_target (State a) (Node b) same = absurd cc
same_target (Node a) (State b) same = absurd cc
same_target (Node a) (Node b) same = ap Node ((unsigned_Decides a b).0 same)

module _ (raw : RawValue) (names : List (List ℕ)) (access : List CodeAccess) (suffixes : List CodeSuffix) (counts : List Count) (differ : AllPairs ◌≢◌ names)
    (below : All (λ (line : NodeLine). line.slot < length names) (node_lines_of raw).lines) (reduced : AreReduced (length names) (length raw.rows) (node_lines_of raw)) where
  abbrev lines : List NodeLine
  lines = (node_lines_of raw).lines

  abbrev plain_lines : List PlainNodeLine
  plain_lines = map (node_line names) (enumerate_from 0 lines)

  abbrev no_line : NodeLine
  no_line = record { slot = 0; hi = State 0; lo = State 0 }

  pub count_of_lines : length plain_lines ≡ length lines
  count_of_lines = length-map (enumerate_from 0 lines) (node_line names) ∙ length-enumerate_from 0 lines

  pub line_at : (k : ℕ) (d : PlainNodeLine) → k < length lines → get_or plain_lines k d ≡ node_line names (k, get_or lines k no_line)
  line_at k d within =
      get_or-map (node_line names) (enumerate_from 0 lines) k (0, no_line) d (omega (arith, length-enumerate_from 0 lines))
      ∙ ap (node_line names) (get_or-enumerate_from 0 lines k (0, no_line) within ∙ ap (λ at. (at, get_or lines k no_line)) (let here : 0 + k ≡ k = omega arith in here))

  slot_of_line : (k : ℕ) → k < length lines → slot_of names (node_line names (k, get_or lines k no_line)).name ≡ (get_or lines k no_line).slot
  slot_of_line k within = slot_at names (get_or lines k no_line).slot differ (below k no_line within)

  slot_of_number : (k : ℕ) → k < length lines → slot_of_node (printed_file raw names access suffixes counts) k ≡ (get_or lines k no_line).slot
  unfolding file_of
  slot_of_number k within =
      ap (slot_of names) (get_or-map (λ (line : PlainNodeLine). line.name) plain_lines k (node_line names (0, no_line)) [] (omega (arith, count_of_lines))
      ∙ ap (λ (line : PlainNodeLine). line.name) (line_at k (node_line names (0, no_line)) within))
      ∙ slot_of_line k within

  child_kept : (k : ℕ) (child : Child) → k < length lines → IsBelow (length raw.rows) k child → ComesAfter lines (get_or lines k no_line).slot child
      → keeps_child (printed_file raw names access suffixes counts) k child ≡ true
  unfolding file_of
  child_kept k (State state) within is_below after = lt-ltb state (length raw.rows) is_below
  child_kept k (Node number) within is_below after =
      let earlier : number < length lines = omega arith in
      let later = after (get_or lines number no_line) (slice_get-get_or lines number no_line earlier) in
      let one = slot_of_number k within in
      let other = slot_of_number number earlier in
      both_true (nat_lt number k) _ (lt-ltb number k is_below) ((λ i. nat_lt (one i) (other i)) ∙ lt-ltb _ _ later)

  -- lines that are the same as printed are the same
  same_line : (one other : ℕ) → one < length lines → other < length lines
      → is_same_node (node_line names (one, get_or lines one no_line)) (node_line names (other, get_or lines other no_line)) ≡ true → get_or lines one no_line ≡ get_or lines other no_line
  same_line one other within other_within same =
      let a = get_or lines one no_line in
      let b = get_or lines other no_line in
      let parts = both (bytes_eq (node_line names (one, a)).name (node_line names (other, b)).name && is_same_target a.hi b.hi) (is_same_target a.lo b.lo) same in
      let firsts = both (bytes_eq (node_line names (one, a)).name (node_line names (other, b)).name) (is_same_target a.hi b.hi) parts.0 in
      let name = (bytes_eq-Decides (node_line names (one, a)).name (node_line names (other, b)).name).0 firsts.0 in
      let slots : a.slot ≡ b.slot = sym (slot_of_line one within) ∙ ap (slot_of names) name ∙ slot_of_line other other_within in
      let his = same_target a.hi b.hi firsts.1 in
      let los = same_target a.lo b.lo parts.1 in
      λ i. record { slot = slots i; hi = his i; lo = los i }

  is_new : (k : ℕ) → k < length lines → list_any (is_same_node (node_line names (k, get_or lines k no_line))) (take k plain_lines) ≡ false
  is_new k within =
      list_any_none (is_same_node (node_line names (k, get_or lines k no_line))) (take k plain_lines) (λ j d before.
      let earlier : j < k = omega (arith, length-take k plain_lines) in
      let line = get_or-take k plain_lines j d earlier ∙ line_at j d (omega arith) in
      fails (is_same_node (node_line names (k, get_or lines k no_line)) (get_or (take k plain_lines) j d)) (λ same.
      reduced.once j k no_line earlier within
      (sym (same_line k j within (omega arith) (sym (ap (is_same_node (node_line names (k, get_or lines k no_line))) line) ∙ same)))))

  pub node_kept : (k : ℕ) → k < length lines → length lines ≤ most_nodes → AreKept (keeps_node (printed_file raw names access suffixes counts) k (node_line names (k, get_or lines k no_line)))
  unfolding file_of
  node_kept k within few =
      let line = get_or lines k no_line in
      let is = reduced.lines k line (slice_get-get_or lines k no_line within) in
      let name = get_or names line.slot [] in
      let others = is_new k within in
      let listed = list_any_at (bytes_eq name) names line.slot [] (below k no_line within) ((bytes_eq-Decides name name).1 refl) in
      let differs = fails (is_same_target line.hi line.lo) (λ same. is.differ (sym (same_target line.hi line.lo same))) in (
        both_true (nat_lt k most_nodes) _ (lt-ltb k most_nodes (omega arith)) (ap not others),
        (
          same_number k,
          (
            listed,
            (
              refl,
              (
                child_kept k line.hi within is.hi_below is.hi_after,
                (refl, (both_true (keeps_child (printed_file raw names access suffixes counts) k line.lo) _ (child_kept k line.lo within is.lo_below is.lo_after) (ap not differs), tt)),
              ),
            ),
          ),
        ),
      )

  row_kept : (child : Child) → IsBelow (length raw.rows) (length lines) child → keeps_row (printed_file raw names access suffixes counts) child ≡ true
  unfolding file_of
  row_kept (State state) is_below = lt-ltb state (length raw.rows) is_below
  row_kept (Node number) is_below = lt-ltb number (length plain_lines) (omega (arith, count_of_lines))

  pub state_kept : (k : ℕ) → k < length raw.rows → AreKept (keeps_state (printed_file raw names access suffixes counts) k (state_line raw (k, get_or (node_lines_of raw).rows k (State 0))))
  unfolding file_of
  state_kept k within =
      (lt-ltb k (length raw.rows) within, (same_number k, (refl, (row_kept (get_or (node_lines_of raw).rows k (State 0)) (reduced.rows k (State 0) (omega (arith, reduced.count))), tt))))
