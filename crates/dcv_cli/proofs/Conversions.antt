-- The text of a version is made of slices of the text, and what is written of it is right for the request.
use Rattle.dcv_cli.proofs.Common.{◌≡◌, ◌≢◌, ℕ, ◌+◌, ◌-◌, ◌≤◌, List, ◌++◌, Option, None, Some, length, take, drop, refl, sym, ap, ◌∙◌, arith}
use Rattle.dcv_cli.proofs.Common.{codes, flat_map, StepPart, AutomatonFile, HasForm, step_part, end_lines, spelled_line, first_version}
use Rattle.dcv_cli.proofs.Common.{second_version}
use Rattle.std.specs.Prelude.{slice_range}
use Rattle.std.proofs.lemmas.List.{drop-take, length-append}
use Rattle.dcv_automaton_text.specs.Laws.{said_in, TextsOfVersions}
use Rattle.dcv_automaton_text.specs.Spelled.{front_lines, spelled, spelled_front}
use Rattle.dcv_automaton_text.specs.Versions.{version_by, version_of}
use Rattle.dcv_automaton_text.proofs.Versions.{front_and_rest}

-- ---- where the step part begins

longer : (front rest whole : List ℕ) → whole ≡ front ++ rest → length front ≤ length whole
longer front rest whole is = omega (arith, ap length is, length-append front rest)

-- it is after the version
version_before : (file : AutomatonFile) (steps : Option StepPart) → 11 ≤ length (spelled_front (record file { steps = steps }))
unfolding spelled_front front_lines
version_before file None = longer (codes "automaton 1") _ (spelled_front (record file { steps = None })) refl
version_before file (Some part) = longer (codes "automaton 2") _ (spelled_front (record file { steps = Some part })) refl

pub begins_behind : (file : AutomatonFile) (at : ℕ) → at ≡ length (spelled_front file) → 11 ≤ at
begins_behind file at is = omega (arith, is, version_before file file.steps)

pub begins_within : (text : List ℕ) (file : AutomatonFile) (at : ℕ) → HasForm text file → at ≡ length (spelled_front file) → at ≤ length text
begins_within text file at form is =
    let rest = flat_map spelled_line (step_part file.steps ++ end_lines) in
    omega (arith, is, ap length (form.spelled ∙ front_and_rest file), length-append (spelled_front file) rest)

-- ---- the pieces

said_is : (text : List ℕ) (file : AutomatonFile) (at : ℕ) → at ≡ length (spelled_front file) → slice_range text 11 at ≡ said_in text file
said_is text file at is =
    let behind : at ≡ 11 + (at - 11) = omega (arith, begins_behind file at is) in
    sym (ap (λ n. drop 11 (take n text)) (sym is ∙ behind) ∙ drop-take 11 (at - 11) text)

has_none : (steps : Option StepPart) → version_by steps ≢ 2 → steps ≡ None
has_none None is = refl
has_none (Some part) is = absurd (is refl)

module _ (texts : TextsOfVersions) (text : List ℕ) (file : AutomatonFile) (form : HasForm text file) (at : ℕ) (is : at ≡ length (spelled_front file)) where
  pub to_first : codes "automaton 1" ++ (slice_range text 11 at ++ codes "end\n") ≡ spelled (first_version file)
  to_first = ap (λ said. codes "automaton 1" ++ (said ++ codes "end\n")) (said_is text file at is) ∙ sym (texts text file form).first

  pub to_second : version_of file ≢ 2 → codes "automaton 2" ++ (slice_range text 11 at ++ codes "steps 0\nend\n") ≡ spelled (second_version file)
  to_second first =
      ap (λ said. codes "automaton 2" ++ (said ++ codes "steps 0\nend\n")) (said_is text file at is)
      ∙ sym ((texts text file form).second (has_none file.steps first))
