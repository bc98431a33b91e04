-- The words of the file that is printed of an automaton are words of the form.
use Rattle.std.proofs.Common.{◌≡◌, ◌≢◌, ℕ, ◌+◌, ◌<◌, ◌≤◌, Bool, true, false, ◌||◌, List, [], ◌∷◌, length, map, get_or, Some, refl, sym, ap, ◌∙◌, subst, arith}
use Rattle.std.specs.Prelude.{codes, nat_eq}
use Rattle.std.specs.Char.{is_ascii_alphabetic, is_ascii_digit}
use Rattle.std.specs.List.{All, list_all, enumerate_from}
use Rattle.std.proofs.lemmas.List.{length-map, get_or-map}
use Rattle.std.proofs.lemmas.List.FromFn.{length-enumerate_from, get_or-enumerate_from}
use Rattle.std.proofs.lemmas.Option.{slice_get-get_or}
use Rattle.dcv_language.specs.declared.count.Count.{Count}
use Rattle.dcv_language.specs.declared.child.Child.{Child}
use Rattle.dcv_language.specs.declared.child.Child.TheVariants.{State, Node}
use Rattle.dcv_dfa.specs.declared.node_lines.NodeLine.{NodeLine}
use Rattle.dcv_dfa.specs.NodeLines.{IsBelow, node_lines_of, numbered}
use Rattle.dcv_dfa.specs.Raw.{raw_accepts}
use Rattle.dcv_dfa.proofs.Reduced.{has_node_lines}
use Rattle.dcv_language.specs.declared.certificate.Access.{Access as CodeAccess}
use Rattle.dcv_language.specs.declared.certificate.Access.TheVariants.{Empty as NoLetters, Start, After}
use Rattle.dcv_language.specs.declared.certificate.Suffix.{Suffix as CodeSuffix}
use Rattle.dcv_language.specs.declared.certificate.Suffix.TheVariants.{Empty, Then}
use Rattle.dcv_language.specs.Limits.{most_states, most_nodes}
use Rattle.dcv_certificate.specs.Proof.{IsSpelled, suffix_words}
use Rattle.dcv_automaton_text.specs.Form.{is_visible, IsNameWord, IsTarget, IsNodeLine, IsStateLine, IsAccess, IsAccessLine, IsSuffix, IsSuffixLine, IsStepLine}
use Rattle.dcv_automaton_text.specs.Rules.{IsPlainName, AreNames}
use Rattle.dcv_automaton_text.proofs.Kept.{both_true, both}
use Rattle.dcv_print.specs.Printed.{node_line, state_line, access_line, suffix_line, file_of}
use Rattle.dcv_automaton_read.specs.File.{access_from, suffix_from, step_line}
use Rattle.dcv_print.specs.Counts.{ArePrintableCounts}
use Rattle.dcv_print.specs.Laws.{PrintedIsSpellable}
use Rattle.dcv_print.proofs.PrintedProofs.{length-suffix_words, count_of_words, count_of_access}
use Rattle.dcv_automaton_file.proofs.Tables.{reduced, slots_below}
use Rattle.dcv_print.proofs.SuffixCounts.{suffixes_are_few}

-- ---- names

letters_are_visible : (b : ℕ) → is_ascii_alphabetic b ≡ true → is_visible b ≡ true
letters_are_visible b is = grind (arith, is)

word_bytes_are_visible : (b : ℕ) → (is_ascii_alphabetic b || is_ascii_digit b || nat_eq b 95) ≡ true → is_visible b ≡ true
word_bytes_are_visible b is = grind (arith, is)

rest_is_visible : (bytes : List ℕ) → list_all (λ b. is_ascii_alphabetic b || is_ascii_digit b || nat_eq b 95) bytes ≡ true → list_all is_visible bytes ≡ true
rest_is_visible [] is = refl
rest_is_visible (b ∷ bytes) is =
    let parts = both (is_ascii_alphabetic b || is_ascii_digit b || nat_eq b 95) (list_all (λ b. is_ascii_alphabetic b || is_ascii_digit b || nat_eq b 95) bytes) is in
    both_true (is_visible b) (list_all is_visible bytes) (word_bytes_are_visible b parts.0) (rest_is_visible bytes parts.1)

visible_name : (name : List ℕ) → IsPlainName name → IsNameWord name
visible_name [] is = absurd (let wrong = is.form in cc)
visible_name (b ∷ bytes) is =
    let word = both _ _ is.form in
    let parts = both (is_ascii_alphabetic b) (list_all (λ b. is_ascii_alphabetic b || is_ascii_digit b || nat_eq b 95) bytes) word.0 in
    both_true (is_visible b) (list_all is_visible bytes) (letters_are_visible b parts.0) (rest_is_visible bytes parts.1)

-- a dash is no name
not_a_dash : (names : List (List ℕ)) → AreNames names → names ≢ codes "-" ∷ []
not_a_dash names are same =
    let dash : IsPlainName (codes "-") = subst IsPlainName (ap (λ names. get_or names 0 []) same) (are.each 0 [] (let size : length names ≡ 1 = ap length same in omega arith)) in
    let wrong : false ≡ true = dash.form in cc

-- ---- lines

-- lines of what has a number
all_numbered : {Line Numbered : Type 0} (P : Line → Type 0) (line : ℕ × Numbered → Line) (xs : List Numbered) (none : Numbered)
    → ((k : ℕ) → k < length xs → P (line (k, get_or xs k none))) → All P (map line (enumerate_from 0 xs))
all_numbered P line xs none each k d within =
    let all = enumerate_from 0 xs in
    let here : k < length xs = omega (arith, length-map all line, length-enumerate_from 0 xs) in
    let at = get_or-map line all k (0, none) d (omega (arith, length-map all line)) in
    let number = get_or-enumerate_from 0 xs k (0, none) here in
    let place : 0 + k ≡ k = omega arith in
    subst P (sym (at ∙ ap line (number ∙ ap (λ at. (at, get_or xs k none)) place))) (each k here)

small_target : (states nodes : ℕ) (child : Child) → states ≤ most_states → nodes ≤ most_nodes → IsBelow states nodes child → IsTarget child
small_target states nodes (State state) few few_nodes below = omega arith
small_target states nodes (Node number) few few_nodes below = omega arith

small_access : (words : List (List (List Bool))) (state : ℕ) (one : CodeAccess) → length words ≤ most_states → IsSpelled words state one → IsAccess (access_from one)
small_access words state NoLetters few is = tt
small_access words state (Start letter) few is = tt
small_access words state (After before letter) few is = let below = is.is_state in omega arith

small_suffix : (place : ℕ) (one : CodeSuffix) → place ≤ most_states → ((from : ℕ) (letter : List Bool) → one ≡ Then letter from → from < place) → IsSuffix (suffix_from one)
small_suffix place Empty few earlier = tt
small_suffix place (Then letter from) few earlier = let below = earlier from letter refl in omega arith

-- ---- steps

small_steps : (counts : List Count) → ArePrintableCounts counts → All IsStepLine (map step_line (enumerate_from 0 counts))
small_steps counts small =
    let none : Count = record { at = 0; states = 0; nodes = 0 } in
    let few = small.few in
    all_numbered IsStepLine step_line counts none (λ k within.
    let is = small.each k none within in
    let at = is.at in
    let states = is.few_states in
    let nodes = is.few_nodes in
    record { number = omega arith; at = omega arith; states = omega arith; nodes = omega arith })

-- ---- the file

pub printed_is_spellable : PrintedIsSpellable
unfolding file_of
printed_is_spellable raw names access suffixes counts is proof small =
    let all = node_lines_of raw in
    let lines_reduced = reduced raw is.is_raw is.auto in
    let below = slots_below raw (length names) lines_reduced is.slots in
    let facts = has_node_lines raw is.is_raw is.auto.nodes (numbered raw.arena raw.rows) refl in
    let few_nodes : length all.lines ≤ most_nodes = let nodes = is.nodes in omega (arith, facts.count) in
    let few : length raw.rows ≤ most_states = is.states in
    let no_line : NodeLine = record { slot = 0; hi = State 0; lo = State 0 } in
    let count = lines_reduced.count in
    let words = count_of_words raw names access suffixes counts proof is.slots count in
    let start = is.is_raw.start in
    let few_suffixes : length suffixes ≤ length raw.rows =
    omega (arith, length-suffix_words suffixes, suffixes_are_few raw.arena.slots (raw_accepts raw) proof.words (suffix_words suffixes) (omega arith) proof.certificate) in
    record {
      names = λ k d within. visible_name (get_or names k d) (is.are_names.each k d within);
      not_a_dash = not_a_dash names is.are_names;
      states = omega arith;
      node_lines = all_numbered IsNodeLine (node_line names) all.lines no_line (λ k within.
          let line = lines_reduced.lines k (get_or all.lines k no_line) (slice_get-get_or all.lines k no_line within) in
          let slot = below k no_line within in
          record {
            number = omega arith;
            name = visible_name (get_or names (get_or all.lines k no_line).slot []) (is.are_names.each (get_or all.lines k no_line).slot [] slot);
            hi = small_target (length raw.rows) k (get_or all.lines k no_line).hi few (omega arith) line.hi_below;
            lo = small_target (length raw.rows) k (get_or all.lines k no_line).lo few (omega arith) line.lo_below;
          });
      state_lines = all_numbered IsStateLine (state_line raw) all.rows (State 0) (λ k within. record {
        number = omega arith;
        row = small_target (length raw.rows) (length all.lines) (get_or all.rows k (State 0)) few few_nodes (lines_reduced.rows k (State 0) within);
      });
      access_lines = all_numbered IsAccessLine access_line access NoLetters (λ k within. record {
        number = omega (arith, count_of_access raw names access suffixes counts proof is.slots count);
        access = small_access proof.words k (get_or access k NoLetters) (omega arith) (proof.spelled.each k (get_or access k NoLetters) (slice_get-get_or access k NoLetters within));
      });
      suffix_lines = all_numbered IsSuffixLine suffix_line suffixes Empty (λ k within. record {
        number = omega arith;
        suffix = small_suffix k (get_or suffixes k Empty) (omega arith) (λ from letter same. proof.earlier k from letter (slice_get-get_or suffixes k Empty within ∙ ap Some same));
      });
      steps = record { count = let few = small.few in omega arith; lines = small_steps counts small };
    }
