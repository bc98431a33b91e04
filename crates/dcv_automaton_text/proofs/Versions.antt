-- Both versions of a text stand for the same, and the text of the one is made of slices of the other.
use Rattle.std.proofs.Common.{◌≡◌, ◌≢◌, ℕ, true, ◌&&◌, List, [], ◌∷◌, ◌++◌, Option, None, Some, length, map, take, drop, refl, sym, ap, ◌∙◌, subst, arith}
use Rattle.std.specs.Prelude.{codes, IfSome, nat_lt, nat_le}
use Rattle.std.specs.Fmt.{decimal, digits}
use Rattle.std.specs.List.{flat_map, zip}
use Rattle.std.proofs.lemmas.Grind.{flat_map-append}
use Rattle.std.proofs.lemmas.List.{append_assoc}
use Rattle.std.proofs.Math.Seq.{take-append_seam}
use Rattle.dcv_language.specs.Limits.{most_states}
use Rattle.dcv_automaton_text.specs.File.{StepPart, AutomatonFile}
use Rattle.dcv_automaton_text.specs.Form.{IsSpellable, IsStepPart}
use Rattle.dcv_automaton_text.specs.Laws.{VersionsStandForTheSame, said_in, IsOfVersions, TextsOfVersions, SecondAndBackIsTheText}
use Rattle.dcv_automaton_text.specs.Meaning.{table_of, access_words_of, suffix_words_of}
use Rattle.dcv_automaton_text.specs.Rules.{has_all_access, has_all_steps, keeps_names, most_steps}
use Rattle.dcv_automaton_text.specs.Rules.{judged, keeps_node, keeps_state, keeps_access, keeps_suffix, judged_steps, judged_words, IsGood}
use Rattle.dcv_automaton_text.specs.Spelled.{name_words, node_words, state_words, access_words, suffix_words, version_word}
use Rattle.dcv_automaton_text.specs.Spelled.{head_lines, front_lines, step_part, end_lines, lines_of, spelled_line, spelled, spelled_front}
use Rattle.dcv_automaton_text.specs.Versions.{first_version, part_or_none, second_version}
use Rattle.dcv_automaton_text.proofs.GoodFiles.{all_keep, head_judged, in_parts, kept_words as words_keep}
use Rattle.dcv_automaton_text.proofs.Kept.{AllKeep, none_kept, both, both_true, kept_words, in_turn, none_broken}

-- ---- the rules

-- the words of a file before its step part and its end, and what these say of the rest
pub record AreKeptBefore (file : AutomatonFile) : Type 0 where
  pub variables : AllKeep (zip (codes "variables" ∷ name_words file.names) (true ∷ keeps_names file.names))
  pub states : AllKeep (zip (codes "states" ∷ decimal file.states ∷ []) (true ∷ (nat_lt 0 file.states && nat_le file.states most_states) ∷ []))
  pub node_lines : AllKeep (judged node_words (keeps_node file) file.node_lines)
  pub state_lines : AllKeep (judged state_words (keeps_state file) file.state_lines)
  pub access_lines : AllKeep (judged access_words (keeps_access file) file.access_lines)
  pub suffix_lines : AllKeep (judged suffix_words (keeps_suffix file) file.suffix_lines)
  pub steps : AllKeep (judged_steps file file.steps)
  pub has_all_access : has_all_access file ≡ true
  pub has_all_steps : has_all_steps file.steps ≡ true

pub kept_before : (file : AutomatonFile) → IsGood file → AreKeptBefore file
unfolding judged_words
kept_before file is =
    let head = in_parts (head_judged file) (all_keep (judged_words file) 0 is) in
    let nodes = in_parts (judged node_words (keeps_node file) file.node_lines) head.1 in
    let states = in_parts (judged state_words (keeps_state file) file.state_lines) nodes.1 in
    let words = in_parts (judged access_words (keeps_access file) file.access_lines) states.1 in
    let ends = in_parts (judged suffix_words (keeps_suffix file) file.suffix_lines) words.1 in
    let steps = in_parts (judged_steps file file.steps) ends.1 in
    let first = in_parts (zip (codes "automaton" ∷ version_word file.steps ∷ []) (true ∷ true ∷ [])) head.0 in
    let variables = in_parts (zip (codes "variables" ∷ name_words file.names) (true ∷ keeps_names file.names)) first.1 in
    let numbers = in_parts (zip (codes "states" ∷ decimal file.states ∷ []) (true ∷ (nat_lt 0 file.states && nat_le file.states most_states) ∷ [])) variables.1 in
    let has_all = has_all_access file && has_all_steps file.steps in
    let end = words_keep (codes "end" ∷ []) (has_all ∷ []) (omega arith) (in_parts (zip (codes "end" ∷ []) (has_all ∷ [])) steps.1).0 in
    let enough = both (has_all_access file) (has_all_steps file.steps) end.0 in
    record {
      variables = variables.0;
      states = numbers.0;
      node_lines = nodes.0;
      state_lines = states.0;
      access_lines = words.0;
      suffix_lines = ends.0;
      steps = steps.0;
      has_all_access = enough.0;
      has_all_steps = enough.1;
    }

-- a file keeps the rules where these parts of it do
pub good_again : (file : AutomatonFile) → AreKeptBefore file → IsGood file
unfolding judged_words
good_again file are =
    let first = kept_words (codes "automaton" ∷ version_word file.steps ∷ []) (true ∷ true ∷ []) (refl, (refl, tt)) in
    let end = kept_words (codes "end" ∷ []) ((has_all_access file && has_all_steps file.steps) ∷ [])
    (both_true (has_all_access file) (has_all_steps file.steps) are.has_all_access are.has_all_steps, tt) in
    none_broken (judged_words file) 0
    (in_turn (in_turn first (in_turn are.variables (in_turn are.states none_kept)))
    (in_turn are.node_lines
    (in_turn are.state_lines (in_turn are.access_lines (in_turn are.suffix_lines (in_turn are.steps (in_turn end none_kept)))))))

first_kept : (file : AutomatonFile) → AreKeptBefore file → AreKeptBefore (first_version file)
first_kept file are =
    record {
      variables = are.variables;
      states = are.states;
      node_lines = are.node_lines;
      state_lines = are.state_lines;
      access_lines = are.access_lines;
      suffix_lines = are.suffix_lines;
      steps = none_kept;
      has_all_access = are.has_all_access;
      has_all_steps = refl;
    }

-- a step part of no steps keeps them where there are enough access words
steps_kept : (file : AutomatonFile) (steps : Option StepPart) → has_all_access file ≡ true → AllKeep (judged_steps file steps)
    → AllKeep (judged_steps file (Some (part_or_none steps)))
steps_kept file None enough is = in_turn (kept_words (codes "steps" ∷ decimal 0 ∷ []) (has_all_access file ∷ nat_le 0 most_steps ∷ []) (enough, (refl, tt))) none_kept
steps_kept file (Some part) enough is = is

all_steps : (steps : Option StepPart) → has_all_steps steps ≡ true → has_all_steps (Some (part_or_none steps)) ≡ true
all_steps None all = refl
all_steps (Some part) all = all

second_kept : (file : AutomatonFile) → AreKeptBefore file → AreKeptBefore (second_version file)
second_kept file are =
    record {
      variables = are.variables;
      states = are.states;
      node_lines = are.node_lines;
      state_lines = are.state_lines;
      access_lines = are.access_lines;
      suffix_lines = are.suffix_lines;
      steps = steps_kept file file.steps are.has_all_access are.steps;
      has_all_access = are.has_all_access;
      has_all_steps = all_steps file.steps are.has_all_steps;
    }

-- ---- the form

part_is : (steps : Option StepPart) → IfSome steps IsStepPart → IsStepPart (part_or_none steps)
part_is None is = record { count = omega arith; lines = λ k d within. absurd (omega arith) }
part_is (Some part) is = is

first_form : (file : AutomatonFile) → IsSpellable file → IsSpellable (first_version file)
first_form file is =
    record {
      names = is.names;
      not_a_dash = is.not_a_dash;
      states = is.states;
      node_lines = is.node_lines;
      state_lines = is.state_lines;
      access_lines = is.access_lines;
      suffix_lines = is.suffix_lines;
      steps = tt;
    }

second_form : (file : AutomatonFile) → IsSpellable file → IsSpellable (second_version file)
second_form file is =
    record {
      names = is.names;
      not_a_dash = is.not_a_dash;
      states = is.states;
      node_lines = is.node_lines;
      state_lines = is.state_lines;
      access_lines = is.access_lines;
      suffix_lines = is.suffix_lines;
      steps = part_is file.steps is.steps;
    }

-- ---- what they stand for

pub stand_for_the_same : VersionsStandForTheSame
unfolding table_of access_words_of suffix_words_of
stand_for_the_same =
    record {
      first = λ file form good. record {
        form = first_form file form;
        good = good_again (first_version file) (first_kept file (kept_before file good));
        table = refl;
        access = refl;
        suffixes = refl;
      };
      second = λ file form good. record {
        form = second_form file form;
        good = good_again (second_version file) (second_kept file (kept_before file good));
        table = refl;
        access = refl;
        suffixes = refl;
      };
    }

-- ---- the texts

-- what stands between the version and the step part, from the end of the first line on
said : AutomatonFile → List ℕ
said file =
    10 ∷ flat_map spelled_line
    ((codes "variables" ∷ name_words file.names) ∷ (codes "states" ∷ decimal file.states ∷ [])
    ∷ (map node_words file.node_lines ++ (map state_words file.state_lines ++ (map access_words file.access_lines ++ map suffix_words file.suffix_lines))))

-- five lists, the last of them apart
apart : {A : Type 0} (a b c d e f : List A) → a ++ (b ++ (c ++ (d ++ (e ++ f)))) ≡ (a ++ (b ++ (c ++ (d ++ e)))) ++ f
apart a b c d e f =
    sym (append_assoc a (b ++ (c ++ (d ++ e))) f
    ∙ ap (λ rest. a ++ rest) (append_assoc b (c ++ (d ++ e)) f
    ∙ ap (λ rest. b ++ rest) (append_assoc c (d ++ e) f
    ∙ ap (λ rest. c ++ rest) (append_assoc d e f))))

-- the front, and then the rest
pub front_and_rest : (file : AutomatonFile) → spelled file ≡ spelled_front file ++ flat_map spelled_line (step_part file.steps ++ end_lines)
unfolding spelled spelled_front lines_of front_lines
front_and_rest file =
    ap (flat_map spelled_line)
    (apart (head_lines file) (map node_words file.node_lines) (map state_words file.state_lines) (map access_words file.access_lines) (map suffix_words file.suffix_lines)
    (step_part file.steps ++ end_lines))
    ∙ flat_map-append spelled_line (front_lines file) (step_part file.steps ++ end_lines)

-- a file with this step part
abbrev with_part : AutomatonFile → Option StepPart → AutomatonFile
with_part file steps = record file { steps = steps }

front_of : (file : AutomatonFile) (steps : Option StepPart) → spelled_front (with_part file steps) ≡ codes "automaton " ++ (version_word steps ++ said file)
unfolding spelled_front front_lines said
front_of file None = refl
front_of file (Some part) = refl

said_behind : (file : AutomatonFile) (steps : Option StepPart) → drop 11 (codes "automaton " ++ (version_word steps ++ said file)) ≡ said file
said_behind file None = refl
said_behind file (Some part) = refl

said_is : (file : AutomatonFile) (steps : Option StepPart) → said_in (spelled (with_part file steps)) (with_part file steps) ≡ said file
said_is file steps =
    let whole = with_part file steps in
    let rest = flat_map spelled_line (step_part steps ++ end_lines) in
    ap (λ text. drop 11 (take (length (spelled_front whole)) text)) (front_and_rest whole)
    ∙ ap (drop 11) (take-append_seam (spelled_front whole) rest ∙ front_of file steps)
    ∙ said_behind file steps

version_is : (file : AutomatonFile) (steps : Option StepPart)
    → spelled (with_part file steps) ≡ codes "automaton " ++ (version_word steps ++ (said file ++ flat_map spelled_line (step_part steps ++ end_lines)))
version_is file steps =
    let rest = flat_map spelled_line (step_part steps ++ end_lines) in
    front_and_rest (with_part file steps)
    ∙ ap (λ front. front ++ rest) (front_of file steps)
    ∙ ap (λ more. codes "automaton " ++ more) (append_assoc (version_word steps) (said file) rest)

abbrev no_steps : StepPart
no_steps = record { count = 0; lines = [] }

text_of_no_steps : flat_map spelled_line (step_part (Some no_steps) ++ end_lines) ≡ codes "steps 0\nend\n"
unfolding digits
text_of_no_steps = refl

to_second : (file : AutomatonFile) → spelled (second_version (first_version file)) ≡ codes "automaton 2" ++ (said file ++ codes "steps 0\nend\n")
to_second file = version_is file (Some no_steps) ∙ ap (λ rest. codes "automaton 2" ++ (said file ++ rest)) text_of_no_steps

-- of a file with any step part
of_versions : (file : AutomatonFile) (steps : Option StepPart) → IsOfVersions (spelled (with_part file steps)) (with_part file steps)
of_versions file steps =
    let text = spelled (with_part file steps) in
    let whole = with_part file steps in
    let same = sym (said_is file steps) in
    record {
      first = version_is file None ∙ ap (λ said. codes "automaton 1" ++ (said ++ codes "end\n")) same;
      second = λ none. ap (λ steps. spelled (with_part file (Some (part_or_none steps)))) none
          ∙ to_second file ∙ ap (λ said. codes "automaton 2" ++ (said ++ codes "steps 0\nend\n")) same;
      one = λ none. ap (λ steps. spelled (with_part file steps)) (sym none);
      two = λ some. ap (λ steps. spelled (with_part file steps)) (kept steps some);
    }
  where
    kept : (steps : Option StepPart) → steps ≢ None → Some (part_or_none steps) ≡ steps
    kept None some = absurd (some refl)
    kept (Some part) some = refl

pub texts_of_versions : TextsOfVersions
texts_of_versions text file form = subst (λ text. IsOfVersions text file) (sym form.spelled) (of_versions file file.steps)

pub second_and_back : SecondAndBackIsTheText
second_and_back text file form none = ap (λ steps. spelled (with_part file steps)) (sym none) ∙ sym form.spelled
