-- The words of a text, each with one byte after it, and where a word begins.
use Rattle.std.proofs.Common.{◌≡◌, ◌==◌, ℕ, suc, ◌+◌, ◌-◌, ◌≤◌, Bool, true, false, ◌&&◌, List, [], ◌∷◌, ◌++◌, length, map, Option, None, Some, refl, sym, ap, ◌∙◌, subst, arith}
use Rattle.std.specs.Prelude.{nat_lt, nat_le, codes}
use Rattle.std.specs.Fmt.{decimal}
use Rattle.std.specs.List.{enumerate_from, list_all, flat_map, join_with_byte, zip}
use Rattle.std.proofs.lemmas.Bool.{and_parts, leb-true, ne_eqb, or_from}
use Rattle.std.proofs.lemmas.List.{append_assoc, length-map}
use Rattle.std.proofs.lemmas.List.FromFn.{length-enumerate_from}
use Rattle.dcv_language.specs.Limits.{most_states}
use Rattle.dcv_automaton_text.specs.File.{Access, EmptyAccess, StartAccess, AfterAccess, Suffix, EmptySuffix, ThenSuffix, StepPart, AutomatonFile}
use Rattle.dcv_automaton_text.specs.Form.{is_visible, IsSpellable}
use Rattle.dcv_automaton_text.specs.Rules.{keeps_names, keeps_name, keeps_node, keeps_state, keeps_how_access, keeps_access, keeps_how_suffix, keeps_suffix, keeps_steps, keeps_step, has_all_access, has_all_steps, judged_steps, judged_words, first_broken}
use Rattle.dcv_automaton_text.specs.Spelled.{name_words, how_access, how_suffix, version_word, head_lines, node_words, state_words, access_words, suffix_words}
use Rattle.dcv_automaton_text.specs.Spelled.{step_words, steps_words, step_part, end_lines, lines_of, spelled_line, spelled}
use Rattle.dcv_automaton_text.proofs.Words.{AreVisible, AreWords, IsLine, AreLines}
use Rattle.dcv_automaton_text.proofs.OneFile.{are_lines}
use Rattle.dcv_automaton_read.specs.Judged.{first_word}
use Rattle.dcv_automaton_read.specs.Parts.{judged_lines, judged_head, judged_step_lines}
use Rattle.dcv_automaton_read.specs.Starts.{is_separator, start_of_word}

-- ---- words in a text

pub record IsWordBefore (word text more : List ℕ) : Type 0 where
  pub end : ℕ
  pub separates : is_separator end ≡ true
  pub visible : AreVisible word
  pub is : text ≡ word ++ end ∷ more

-- the text begins with these words, each with a byte after it
abbrev pub AreIn : List (List ℕ × Bool) → List ℕ → List ℕ → Type 0
AreIn [] text rest = text ≡ rest
AreIn (word ∷ words) text rest = (more : List ℕ) × (IsWordBefore word.0 text more × AreIn words more rest)

in_append : (a b : List (List ℕ × Bool)) (text more rest : List ℕ) → AreIn a text more → AreIn b more rest → AreIn (a ++ b) text rest
in_append [] b text more rest first second = subst (λ all. AreIn b all rest) (sym first) second
in_append (word ∷ a) b text more rest (next, (here, behind)) second = (next, (here, in_append a b next more rest behind second))

-- ---- where a word begins

visible_is_none : (b : ℕ) → is_visible b ≡ true → is_separator b ≡ false
visible_is_none b visible =
    let low = leb-true 33 b (and_parts (nat_le 33 b) (nat_le b 126) visible).0 in
    or_from (b == 32) (b == 10) (ne_eqb b 32 (λ same. omega arith)) (ne_eqb b 10 (λ same. omega arith))

word_behind : (word more : List ℕ) (end number : ℕ) → AreVisible word → is_separator end ≡ true → start_of_word (word ++ end ∷ more) (suc number) ≡ length word + 1 + start_of_word more number
word_behind [] more end number visible separates =
    let some = ne_eqb (suc number) 0 (λ same. omega arith) in
    let less : suc number - 1 ≡ number = omega arith in
    rw (some, separates, less) (omega arith)
word_behind (b ∷ word) more end number visible separates =
    let both = and_parts (is_visible b) (list_all is_visible word) visible in
    let some = ne_eqb (suc number) 0 (λ same. omega arith) in
    let other = visible_is_none b both.0 in
    let rest = word_behind word more end number both.1 separates in
    rw (some, other, rest) (omega arith)

here : (text : List ℕ) (number : ℕ) → number ≡ 0 → start_of_word text number ≡ 0
here [] number none = refl
here (b ∷ text) number none = rw none refl

pub broken_at : (words : List (List ℕ × Bool)) (text rest : List ℕ) (at first number : ℕ) → AreIn words text rest → first_word first words ≡ Some number
    → (first ≤ number) × (first_broken at words ≡ Some (at + start_of_word text (number - first)))
broken_at [] text rest at first number are some = absurd cc
broken_at ((word, true) ∷ words) text rest at first number (more, (one, behind)) some =
    let next = broken_at words more rest (at + length word + 1) (first + 1) number behind some in
    let steps : number - first ≡ suc (number - (first + 1)) = omega (arith, next.0) in
    let begins = ap (start_of_word text) steps ∙ ap (λ all. start_of_word all (suc (number - (first + 1)))) one.is ∙ word_behind word more one.end (number - (first + 1)) one.visible one.separates in
    let sum : at + length word + 1 + start_of_word more (number - (first + 1)) ≡ at + start_of_word text (number - first) = omega (arith, begins) in
    (omega (arith, next.0), next.1 ∙ ap Some sum)
broken_at ((word, false) ∷ words) text rest at first number (more, (one, behind)) some =
    let same : first ≡ number = cc in
    let begins = here text (number - first) (omega arith) in
    let sum : at ≡ at + start_of_word text (number - first) = omega (arith, begins) in
    (omega arith, ap Some sum)

pub none_broken : (words : List (List ℕ × Bool)) (at first : ℕ) → first_word first words ≡ None → first_broken at words ≡ None
none_broken [] at first none = refl
none_broken ((word, true) ∷ words) at first none = none_broken words (at + length word + 1) (first + 1) none
none_broken ((word, false) ∷ words) at first none = absurd cc

-- ---- lines

abbrev behind : List (List ℕ) → List ℕ → List ℕ
behind words rest = join_with_byte 32 words ++ 10 ∷ rest

words_in : (word : List ℕ) (words : List (List ℕ)) (keeps : List Bool) (rest : List ℕ) → AreWords (word ∷ words) → length (word ∷ words) ≡ length keeps
    → AreIn (zip (word ∷ words) keeps) (behind (word ∷ words) rest) rest
words_in word words [] rest are sizes = absurd (omega arith)
words_in word [] (kept ∷ []) rest are sizes = (rest, (record { end = 10; separates = refl; visible = are.0; is = refl }, refl))
words_in word [] (kept ∷ next ∷ keeps) rest are sizes = absurd (omega arith)
words_in word (next ∷ words) (kept ∷ keeps) rest are sizes = (
  behind (next ∷ words) rest,
  (
    record { end = 32; separates = refl; visible = are.0; is = append_assoc word (32 ∷ join_with_byte 32 (next ∷ words)) (10 ∷ rest) },
    words_in next words keeps rest are.1 (omega arith),
  ),
)

line_in : (words : List (List ℕ)) (keeps : List Bool) (rest : List ℕ) → IsLine words → length words ≡ length keeps → AreIn (zip words keeps) (spelled_line words ++ rest) rest
line_in [] keeps rest are sizes = absurd are
line_in (word ∷ words) keeps rest are sizes =
    subst (λ text. AreIn (zip (word ∷ words) keeps) text rest) (sym (append_assoc (join_with_byte 32 (word ∷ words)) (10 ∷ []) rest)) (words_in word words keeps rest are sizes)

section_in : {Line : Type 0} (words : Line → List (List ℕ)) (keeps : ℕ → Line → List Bool) (sizes : (n : ℕ) (x : Line) → length (words x) ≡ length (keeps n x)) (xs : List Line) (n : ℕ)
    (others : List (List (List ℕ))) → AreLines (map words xs) → AreIn (judged_lines words keeps n xs) (flat_map spelled_line (map words xs ++ others)) (flat_map spelled_line others)
section_in words keeps sizes [] n others are = refl
section_in words keeps sizes (x ∷ xs) n others are =
    in_append (zip (words x) (keeps n x)) (judged_lines words keeps (n + 1) xs) _ (flat_map spelled_line (map words xs ++ others)) (flat_map spelled_line others)
    (line_in (words x) (keeps n x) (flat_map spelled_line (map words xs ++ others)) are.0 (sizes n x)) (section_in words keeps sizes xs (n + 1) others are.1)

both_lines : (lines more : List (List (List ℕ))) → AreLines (lines ++ more) → AreLines lines × AreLines more
both_lines [] more are = (tt, are)
both_lines (line ∷ lines) more are = let rest = both_lines lines more are.1 in ((are.0, rest.0), rest.1)

-- ---- sizes

names_size : (names : List (List ℕ)) → length (name_words names) ≡ length (keeps_names names)
names_size [] = refl
names_size (name ∷ names) =
    let keeps = λ (numbered : ℕ × List ℕ). keeps_name (name ∷ names) numbered.0 numbered.1 in
    sym (length-map (enumerate_from 0 (name ∷ names)) keeps ∙ length-enumerate_from 0 (name ∷ names))

access_size : (file : AutomatonFile) (place : ℕ) (access : Access) → length (how_access access) ≡ length (keeps_how_access file place access)
access_size file place EmptyAccess = refl
access_size file place (StartAccess letter) = refl
access_size file place (AfterAccess state letter) = refl

suffix_size : (file : AutomatonFile) (place : ℕ) (suffix : Suffix) → length (how_suffix suffix) ≡ length (keeps_how_suffix file place suffix)
suffix_size file place EmptySuffix = refl
suffix_size file place (ThenSuffix letter suffix) = refl

-- ---- the text

head_in : (file : AutomatonFile) (others : List (List (List ℕ))) → AreLines (head_lines file) → AreIn (judged_head file) (flat_map spelled_line (head_lines file ++ others)) (flat_map spelled_line others)
head_in file others (first, (second, (third, none))) =
    let counted : List (List ℕ) = codes "states" ∷ decimal file.states ∷ [] in
    let named : List (List ℕ) = codes "variables" ∷ name_words file.names in
    let begun : List (List ℕ) = codes "automaton" ∷ version_word file.steps ∷ [] in
    let keeps_count : List Bool = true ∷ (nat_lt 0 file.states && nat_le file.states most_states) ∷ [] in
    let behind_third = flat_map spelled_line others in
    let behind_second = spelled_line counted ++ behind_third in
    let behind_first = spelled_line named ++ behind_second in
    let count_judged = zip counted keeps_count in
    let names_judged = zip named (true ∷ keeps_names file.names) in
    in_append (zip begun (true ∷ true ∷ [])) (names_judged ++ count_judged) (spelled_line begun ++ behind_first) behind_first behind_third
    (line_in begun (true ∷ true ∷ []) behind_first first refl)
    (in_append names_judged count_judged behind_first behind_second behind_third
    (line_in named (true ∷ keeps_names file.names) behind_second second (ap suc (names_size file.names)))
    (line_in counted keeps_count behind_third third refl))

steps_in : (file : AutomatonFile) (steps : Option StepPart) (others : List (List (List ℕ))) → AreLines (step_part steps)
    → AreIn (judged_steps file steps) (flat_map spelled_line (step_part steps ++ others)) (flat_map spelled_line others)
steps_in file None others are = refl
steps_in file (Some part) others are =
    let behind_count = flat_map spelled_line (map step_words part.lines ++ others) in
    in_append (zip (steps_words part) (keeps_steps file part)) (judged_step_lines part) (spelled_line (steps_words part) ++ behind_count) behind_count (flat_map spelled_line others)
    (line_in (steps_words part) (keeps_steps file part) behind_count are.0 refl)
    (section_in step_words (keeps_step part) (λ n x. refl) part.lines 0 others are.1)

pub text_in : (file : AutomatonFile) → IsSpellable file → AreIn (judged_words file) (spelled file) []
unfolding judged_words spelled lines_of
text_in file spellable =
    let ends = end_lines in
    let steps = step_part file.steps ++ ends in
    let suffixes = map suffix_words file.suffix_lines ++ steps in
    let access = map access_words file.access_lines ++ suffixes in
    let states = map state_words file.state_lines ++ access in
    let nodes = map node_words file.node_lines ++ states in
    let of_head = both_lines (head_lines file) nodes (are_lines file spellable) in
    let of_nodes = both_lines (map node_words file.node_lines) states of_head.1 in
    let of_states = both_lines (map state_words file.state_lines) access of_nodes.1 in
    let of_access = both_lines (map access_words file.access_lines) suffixes of_states.1 in
    let of_suffixes = both_lines (map suffix_words file.suffix_lines) steps of_access.1 in
    let of_steps = both_lines (step_part file.steps) ends of_suffixes.1 in
    in_append (judged_head file) _ (flat_map spelled_line (head_lines file ++ nodes)) (flat_map spelled_line nodes) [] (head_in file nodes of_head.0)
    (in_append (judged_lines node_words (keeps_node file) 0 file.node_lines) _ (flat_map spelled_line nodes) (flat_map spelled_line states) []
    (section_in node_words (keeps_node file) (λ n x. refl) file.node_lines 0 states of_nodes.0)
    (in_append (judged_lines state_words (keeps_state file) 0 file.state_lines) _ (flat_map spelled_line states) (flat_map spelled_line access) []
    (section_in state_words (keeps_state file) (λ n x. refl) file.state_lines 0 access of_states.0)
    (in_append (judged_lines access_words (keeps_access file) 0 file.access_lines) _ (flat_map spelled_line access) (flat_map spelled_line suffixes) []
    (section_in access_words (keeps_access file) (λ n x. ap (λ size. suc (suc size)) (access_size file n x.access)) file.access_lines 0 suffixes of_access.0)
    (in_append (judged_lines suffix_words (keeps_suffix file) 0 file.suffix_lines) _ (flat_map spelled_line suffixes) (flat_map spelled_line steps) []
    (section_in suffix_words (keeps_suffix file) (λ n x. ap (λ size. suc (suc size)) (suffix_size file n x.suffix)) file.suffix_lines 0 steps of_suffixes.0)
    (in_append (judged_steps file file.steps) _ (flat_map spelled_line steps) (flat_map spelled_line ends) [] (steps_in file file.steps ends of_steps.0)
    (line_in (codes "end" ∷ []) ((has_all_access file && has_all_steps file.steps) ∷ []) [] of_steps.1.0 refl))))))
