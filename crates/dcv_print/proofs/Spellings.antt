-- What is written, line by line: one line more, and the words of a line.
use Rattle.std.proofs.Common.{◌≡◌, ℕ, suc, ◌+◌, ◌<◌, ◌≤◌, List, [], ◌∷◌, ◌++◌, length, map, take, get_or, refl, sym, ap, ◌∙◌, arith}
use Rattle.std.specs.Prelude.{codes}
use Rattle.std.specs.Fmt.{decimal}
use Rattle.std.specs.List.{enumerate_from, flat_map, join_with_byte}
use Rattle.std.proofs.lemmas.Grind.{flat_map-append}
use Rattle.std.proofs.lemmas.List.Folds.{flat_map-map}
use Rattle.std.proofs.lemmas.List.{append_assoc, append-nil, take_more, take_all, length-take, length-map}
use Rattle.dcv_language.specs.declared.count.Count.{Count}
use Rattle.dcv_dfa.specs.Raw.{RawValue}
use Rattle.dcv_dfa.specs.NodeLines.{node_lines_of}
use Rattle.dcv_language.specs.declared.certificate.Access.{Access as CodeAccess}
use Rattle.dcv_language.specs.declared.certificate.Suffix.{Suffix as CodeSuffix}
use Rattle.dcv_automaton_text.specs.Spelled.{name_words, node_words, state_words, access_words, suffix_words, step_words, steps_words, step_part as part_lines, head_lines, end_lines, lines_of, spelled_line, spelled}
use Rattle.dcv_syntax.specs.declared.names.Name.{Name}
use Rattle.dcv_automaton_read.specs.File.{step_line, step_part}
use Rattle.dcv_print.specs.Printed.{texts_of, node_line, state_line, access_line, suffix_line, printed_file, file_of}
use Rattle.dcv_print.specs.Pushed.{spaced, spelled_lines}

-- ---- lines

enumerate_push : {X : Type 0} (n : ℕ) (xs : List X) (x : X) → enumerate_from n (xs ++ x ∷ []) ≡ enumerate_from n xs ++ (n + length xs, x) ∷ []
enumerate_push n [] x = let place : n ≡ n + 0 = omega arith in λ i. (place i, x) ∷ []
enumerate_push n (first ∷ xs) x =
    let place : (n + 1) + length xs ≡ n + suc (length xs) = omega arith in
    ap (λ rest. (n, first) ∷ rest) (enumerate_push (n + 1) xs x ∙ ap (λ at. enumerate_from (n + 1) xs ++ (at, x) ∷ []) place)

-- the line of the element at a place, after those of the elements before it
pub lines_more : {Line : Type 0} (words : ℕ × Line → List (List ℕ)) (xs : List Line) (n : ℕ) (d : Line) → n < length xs
    → spelled_lines words (take (n + 1) xs) ≡ spelled_lines words (take n xs) ++ spelled_line (words (n, get_or xs n d))
lines_more words xs n d below =
    let place : 0 + length (take n xs) ≡ n = omega (arith, length-take n xs) in
    let spell = λ (numbered : _). spelled_line (words numbered) in
    ap (spelled_lines words) (take_more xs n d below)
    ∙ ap (flat_map spell) (enumerate_push 0 (take n xs) (get_or xs n d) ∙ ap (λ at. enumerate_from 0 (take n xs) ++ (at, get_or xs n d) ∷ []) place)
    ∙ flat_map-append spell (enumerate_from 0 (take n xs)) ((n, get_or xs n d) ∷ [])
    ∙ ap (λ line. spelled_lines words (take n xs) ++ line) (append-nil (spelled_line (words (n, get_or xs n d))))

-- ---- words

-- a line is its first word, each further word after a space, and the line feed
pub joined_is_spaced : (word : List ℕ) (words : List (List ℕ)) → join_with_byte 32 (word ∷ words) ≡ word ++ spaced words
joined_is_spaced word [] = sym (append-nil word)
joined_is_spaced word (next ∷ words) = ap (λ rest. word ++ 32 ∷ rest) (joined_is_spaced next words)

pub line_is_spaced : (word : List ℕ) (words : List (List ℕ)) → spelled_line (word ∷ words) ≡ word ++ (spaced words ++ 10 ∷ [])
line_is_spaced word words = ap (λ line. line ++ 10 ∷ []) (joined_is_spaced word words) ∙ append_assoc word (spaced words) (10 ∷ [])

pub some_names : (names : List (List ℕ)) → 0 < length names → name_words names ≡ names
some_names [] some = absurd (omega arith)
some_names (name ∷ names) some = refl

-- ---- steps

-- ---- the whole text

-- the lines of one kind, of what has a number
of_kind : {Line Numbered : Type 0} (words : Line → List (List ℕ)) (line : ℕ × Numbered → Line) (xs : List Numbered)
    → flat_map spelled_line (map words (map line (enumerate_from 0 xs))) ≡ spelled_lines (λ numbered. words (line numbered)) xs
of_kind words line xs = flat_map-map spelled_line words (map line (enumerate_from 0 xs)) ∙ flat_map-map (λ one. spelled_line (words one)) line (enumerate_from 0 xs)

module _ (raw : RawValue) (names : List (List ℕ)) (access : List CodeAccess) (suffixes : List CodeSuffix) (counts : List Count) where
  abbrev pub head_text : List ℕ
  head_text = spelled_line (codes "automaton" ∷ codes "2" ∷ []) ++ (spelled_line (codes "variables" ∷ name_words names) ++ spelled_line (codes "states" ∷ decimal (length raw.rows) ∷ []))

  abbrev pub nodes_text : List ℕ
  nodes_text = spelled_lines (λ numbered. node_words (node_line names numbered)) (node_lines_of raw).lines

  abbrev pub states_text : List ℕ
  states_text = spelled_lines (λ numbered. state_words (state_line raw numbered)) (node_lines_of raw).rows

  abbrev pub access_text : List ℕ
  access_text = spelled_lines (λ numbered. access_words (access_line numbered)) access

  abbrev pub suffixes_text : List ℕ
  suffixes_text = spelled_lines (λ numbered. suffix_words (suffix_line numbered)) suffixes

  abbrev pub steps_text : List ℕ
  steps_text = spelled_line (steps_words (step_part counts)) ++ spelled_lines (λ numbered. step_words (step_line numbered)) counts

  in_parts : spelled (printed_file raw names access suffixes counts) ≡ head_text ++ (nodes_text ++ (states_text ++ (access_text ++ (suffixes_text ++ (steps_text ++ codes "end\n")))))
  unfolding spelled lines_of file_of
  in_parts =
      let file = printed_file raw names access suffixes counts in
      let nodes = map node_words file.node_lines in
      let states = map state_words file.state_lines in
      let words = map access_words file.access_lines in
      let ends = map suffix_words file.suffix_lines in
      let steps = part_lines file.steps in
      let part : flat_map spelled_line steps ≡ steps_text = ap (λ lines. spelled_line (steps_words (step_part counts)) ++ lines) (of_kind step_words step_line counts) in
      let last = flat_map-append spelled_line steps end_lines ∙ ap (λ text. text ++ codes "end\n") part in
      let fifth = flat_map-append spelled_line ends (steps ++ end_lines) ∙ (λ i. of_kind suffix_words suffix_line suffixes i ++ last i) in
      let fourth = flat_map-append spelled_line words (ends ++ (steps ++ end_lines)) ∙ (λ i. of_kind access_words access_line access i ++ fifth i) in
      let third = flat_map-append spelled_line states (words ++ (ends ++ (steps ++ end_lines))) ∙ (λ i. of_kind state_words (state_line raw) (node_lines_of raw).rows i ++ fourth i) in
      let second = flat_map-append spelled_line nodes (states ++ (words ++ (ends ++ (steps ++ end_lines)))) ∙ (λ i. of_kind node_words (node_line names) (node_lines_of raw).lines i ++ third i) in
      let head : flat_map spelled_line (head_lines file) ≡ head_text =
      ap (λ end. spelled_line (codes "automaton" ∷ codes "2" ∷ []) ++ (spelled_line (codes "variables" ∷ name_words names) ++ end)) (append-nil (spelled_line (codes "states" ∷ decimal (length raw.rows) ∷ []))) in
      flat_map-append spelled_line (head_lines file) (nodes ++ (states ++ (words ++ (ends ++ (steps ++ end_lines))))) ∙ (λ i. head i ++ second i)

  pub text_written : (none first second third fourth fifth sixth last : List ℕ) → none ≡ [] → first ≡ none ++ head_text → second ≡ first ++ nodes_text → third ≡ second ++ states_text
      → fourth ≡ third ++ access_text → fifth ≡ fourth ++ suffixes_text → sixth ≡ fifth ++ steps_text → last ≡ sixth ++ codes "end\n" → last ≡ spelled (printed_file raw names access suffixes counts)
  text_written none first second third fourth fifth sixth last a b c d e f g h =
      let end = codes "end\n" in
      let behind_words = suffixes_text ++ (steps_text ++ end) in
      let behind_states = access_text ++ behind_words in
      let behind_nodes = states_text ++ behind_states in
      let head : first ≡ head_text = b ∙ ap (λ text. text ++ head_text) a in
      h ∙ ap (λ text. text ++ end) g ∙ append_assoc fifth steps_text end
      ∙ ap (λ text. text ++ (steps_text ++ end)) f ∙ append_assoc fourth suffixes_text (steps_text ++ end)
      ∙ ap (λ text. text ++ behind_words) e ∙ append_assoc third access_text behind_words
      ∙ ap (λ text. text ++ behind_states) d ∙ append_assoc second states_text behind_states
      ∙ ap (λ text. text ++ behind_nodes) c ∙ append_assoc first nodes_text behind_nodes
      ∙ ap (λ text. text ++ (nodes_text ++ behind_nodes)) head
      ∙ sym in_parts

-- ---- loops that put lines

pub one_line_more : {Line : Type 0} (words : ℕ × Line → List (List ℕ)) (xs : List Line) (n : ℕ) (d : Line) (line : List ℕ) → n < length xs → line ≡ spelled_line (words (n, get_or xs n d))
    → spelled_lines words (take (n + 1) xs) ≡ spelled_lines words (take n xs) ++ line
one_line_more words xs n d line below same = lines_more words xs n d below ∙ ap (λ l. spelled_lines words (take n xs) ++ l) (sym same)

-- the same after a line that stands before them
pub one_behind_more : {Line : Type 0} (head : List ℕ) (words : ℕ × Line → List (List ℕ)) (xs : List Line) (n : ℕ) (d : Line) → n < length xs
    → head ++ spelled_lines words (take (n + 1) xs) ≡ (head ++ spelled_lines words (take n xs)) ++ spelled_line (words (n, get_or xs n d))
one_behind_more head words xs n d below =
    ap (λ lines. head ++ lines) (lines_more words xs n d below)
    ∙ sym (append_assoc head (spelled_lines words (take n xs)) (spelled_line (words (n, get_or xs n d))))

pub all_lines : {Line : Type 0} (words : ℕ × Line → List (List ℕ)) (xs : List Line) (n : ℕ) → length xs ≤ n → spelled_lines words (take n xs) ≡ spelled_lines words xs
all_lines words xs n past = ap (spelled_lines words) (take_all n xs past)

-- the names, each after a space
pub names_spaced : (names : List Name) (n : ℕ) → length names ≤ n → 0 < length names
    → flat_map (λ (name : Name). 32 ∷ name.text) (take n names) ≡ spaced (name_words (texts_of names))
names_spaced names n past some =
    ap (flat_map (λ (name : Name). 32 ∷ name.text)) (take_all n names past)
    ∙ sym (flat_map-map (λ (word : List ℕ). 32 ∷ word) (λ (name : Name). name.text) names)
    ∙ ap spaced (sym (some_names (texts_of names) (omega (arith, length-map names (λ (name : Name). name.text), some))))

-- the parts one after another
pub text_joined : (raw : RawValue) (names : List (List ℕ)) (access : List CodeAccess) (suffixes : List CodeSuffix) (counts : List Count) (head nodes states words ends : List ℕ)
    → head ≡ head_text raw names access suffixes counts → nodes ≡ nodes_text raw names access suffixes counts → states ≡ states_text raw names access suffixes counts
    → words ≡ access_text raw names access suffixes counts → ends ≡ suffixes_text raw names access suffixes counts
    → (((((head ++ nodes) ++ states) ++ words) ++ ends) ++ steps_text raw names access suffixes counts) ++ codes "end\n" ≡ spelled (printed_file raw names access suffixes counts)
text_joined raw names access suffixes counts head nodes states words ends a b c d e =
    let second = head ++ nodes in
    let third = second ++ states in
    let fourth = third ++ words in
    let fifth = fourth ++ ends in
    let sixth = fifth ++ steps_text raw names access suffixes counts in
    text_written raw names access suffixes counts [] head second third fourth fifth sixth (sixth ++ codes "end\n") refl a (ap (λ t. head ++ t) b) (ap (λ t. second ++ t) c)
    (ap (λ t. third ++ t) d) (ap (λ t. fourth ++ t) e) refl refl
