-- A text of version 1 that is converted to version 2 and back is as it was; and one outcome at most is right where a text is converted.
use Rattle.dcv_cli.proofs.Common.{◌≡◌, ℕ, List, ◌++◌, Option, None, Some, refl, sym, ap, ◌∙◌, subst, arith, IsSomeAnd, codes, StepPart}
use Rattle.dcv_cli.proofs.Common.{AutomatonFile, HasForm, OneFile, first_version, second_version, Version, IsAutomatonText, OnAutomaton}
use Rattle.dcv_cli.proofs.Common.{IsConverted, as_version, Outcome, Done, StatusAutomaton}
use Rattle.std.specs.Prelude.{slice_index_or}
use Rattle.dcv_automaton_text.specs.Laws.{VersionsStandForTheSame, SecondAndBackIsTheText}
use Rattle.dcv_automaton_text.specs.Spelled.{spelled, lines_of}
use Rattle.dcv_command.specs.declared.words.Version.TheVariants.{One, Two}
use Rattle.dcv_cli.specs.AutomatonFile.{Refused, Read}
use Rattle.dcv_cli.specs.Laws.{ConvertedBackIsTheText, IsConversionOf}
use Rattle.dcv_cli.proofs.OneCertificate.{same_outcome, one_on_automaton, refuses_as_automaton}

-- ---- one outcome

one_conversion : (to : Version) (file : AutomatonFile) (a b : Outcome) → IsConverted to file a → IsConverted to file b → a ≡ b
one_conversion to file a b p q = same_outcome a b (p.status ∙ sym q.status) (p.says ∙ sym q.says) (p.no_message ∙ sym q.no_message)

pub one_held_conversion : OneFile → (to : Version) (text : Option (List ℕ)) (a b : Outcome) → IsSomeAnd text (λ bytes. OnAutomaton bytes (IsConverted to) a)
    → IsSomeAnd text (λ bytes. OnAutomaton bytes (IsConverted to) b) → a ≡ b
one_held_conversion one_file to None a b p q = absurd p
one_held_conversion one_file to (Some text) a b p q = one_on_automaton one_file text (IsConverted to) (one_conversion to) a b p q

-- ---- there and back

-- what was written of a text is that of its file
record Converts (to : Version) (text written : List ℕ) : Type 0 where
  file : AutomatonFile
  is : IsAutomatonText text file
  says : written ≡ spelled (as_version to file)

converts : (to : Version) (text written : List ℕ) → IsConversionOf to text written → Converts to text written
converts to text written of = by (of.held 0 of.name) of.there of.right
  where
    on_text : OnAutomaton text (IsConverted to) of.outcome → Converts to text written
    on_text (Refused refusal is e) =
        let wrong : StatusAutomaton ≡ Done = sym (refuses_as_automaton text refusal is) ∙ sym (ap (λ (o : Outcome). o.status) e) ∙ of.done in cc
    on_text (Read file is said) = record { file = file; is = is; says = of.says ∙ said.says }

    by : (found : Option (List ℕ)) → found ≡ Some text → IsSomeAnd found (λ bytes. OnAutomaton bytes (IsConverted to) of.outcome) → Converts to text written
    by None there right = absurd right
    by (Some bytes) there right =
        let same : bytes ≡ text = cc in on_text (subst (λ (bytes : List ℕ). OnAutomaton bytes (IsConverted to) of.outcome) same right)

-- the last byte of its first word tells the version
has_no_steps : (file : AutomatonFile) (steps : Option StepPart) (rest : List ℕ) → spelled (record file { steps = steps }) ≡ codes "automaton 1" ++ rest → steps ≡ None
unfolding spelled lines_of
has_no_steps file None rest e = refl
has_no_steps file (Some part) rest e = let bytes : 50 ≡ 49 = ap (λ (text : List ℕ). slice_index_or text 10 0) e in absurd (omega (arith, bytes))

pub converted_back : OneFile → VersionsStandForTheSame → SecondAndBackIsTheText → ConvertedBackIsTheText
converted_back one_file versions back text second last first there again =
    let one = converts Two text second there in
    let other = converts One second last again in
    let none = has_no_steps one.file one.file.steps first.0 (sym one.is.form.spelled ∙ first.1) in
    let form : HasForm second (second_version one.file) =
    record { spellable = (versions.second one.file one.is.form.spellable one.is.good).form; spelled = one.says } in
    let same : other.file ≡ second_version one.file = one_file second other.file (second_version one.file) other.is.form form in
    other.says ∙ ap (λ file. spelled (first_version file)) same ∙ back text one.file one.is.form none
