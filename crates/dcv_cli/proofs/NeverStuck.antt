-- A requirement that never gets stuck has a controller without inputs: it writes the letters with which the empty word goes on for ever.
use Rattle.dcv_cli.proofs.Common.{◌≡◌, ℕ, zero, suc, ◌+◌, ◌-◌, Bool, List, [], ◌∷◌, ◌++◌, length, map, take, Option, refl, sym, ap, ◌∙◌}
use Rattle.dcv_cli.proofs.Common.{subst, arith, IsTrue, IsSomeAnd, true≢false, length-append, Word, PlainFile, models, Language, Limits, SpellsOne}
use Rattle.dcv_cli.proofs.Common.{OverBudget, WithinBudget, IsBudgeted, IsFormulaFile, OnText, Refused, Read, Outcome, refused, is_answer, Refusal, Budget, Formula}
use Rattle.dcv_cli.proofs.Common.{Only, Valid, IsStuckReport, IsSynthesised, Undivided, Divided, Realisable, Unrealisable}
use Rattle.std.specs.List.{range_with_len}
use Rattle.std.proofs.lemmas.List.{nil_from_length}
use Rattle.std.proofs.lemmas.List.Elements.{All-nil, All-get_or}
use Rattle.std.proofs.lemmas.List.FromFn.{length-map-range_with_len, get_or-map-range_with_len, take-map-range_with_len}
use Rattle.dcv_stuck.specs.Stuck.{KeepsTo, GoesOnForEver}
use Rattle.dcv_language.specs.Table.{automaton_of}
use Rattle.dcv_synth.specs.Game.{Controller, Environment, Beats, play_after}
use Rattle.dcv_synth.specs.Moves.{input_at}
use Rattle.dcv_synth.specs.Play.{environment_of}
use Rattle.dcv_cli.proofs.BothWays.{no_refusal, status_is, valid_is_none}
use Rattle.dcv_cli.proofs.EqualMeanings.{no_refusal_answers}
use Rattle.dcv_cli.proofs.FormulaFiles.{one_file}
use Rattle.dcv_cli.specs.declared.faults.FormulaFault.TheVariants.{Outputs}
use Rattle.dcv_cli.specs.Laws.{NeverStuckIsRealisable}
use Rattle.dcv_cli.specs.Stuck.{stuck_outcome}

-- ---- the game

module _ (m : ℕ) (L : Language) (letters : ℕ → List Bool) (keeps : (count : ℕ) → KeepsTo m L (map letters (range_with_len 0 count))) where
  width_at : (place : ℕ) → length (letters place) ≡ m
  width_at place =
      subst (λ letter. length letter ≡ m) (get_or-map-range_with_len letters 0 (place + 1) place place [] (omega arith) (omega arith))
      (All-get_or (λ letter. length letter ≡ m) (map letters (range_with_len 0 (place + 1))) place [] (omega (arith, length-map-range_with_len letters 0 (place + 1))) (keeps (place + 1)).widths)

  abbrev controller : Controller
  controller inputs = letters (length inputs - 1)

  -- inputs that have no variables leave it to write its letters
  played : (environment : Environment) → ((word : Word) → length (environment word) ≡ 0) → (count : ℕ) (before : List (List Bool)) (word : Word)
      → play_after environment controller before word count ≡ map letters (range_with_len (length before) count)
  played environment none zero before word = refl
  played environment none (suc count) before word =
      let so_far = before ++ environment word ∷ [] in
      let size : length so_far ≡ length before + 1 = length-append before (environment word ∷ []) in
      let letter = environment word ++ controller so_far in
      let same : letter ≡ letters (length before) =
      ap (λ (input : List Bool). input ++ controller so_far) (nil_from_length (environment word) (none word)) ∙ ap letters (omega (arith, size)) in
      let rest = played environment none count so_far (word ++ letter ∷ []) ∙ ap (λ n. map letters (range_with_len n count)) size in
      λ i. same i ∷ rest i

  not_beaten : (environment : Environment) (bound : ℕ) → Beats 0 m L environment bound → ⊥
  not_beaten environment bound beats =
      let lost = beats.beats controller (λ inputs is. width_at (length inputs - 1)) in
      let word = map letters (range_with_len 0 lost.count) in
      let long : length word ≡ lost.count = length-map-range_with_len letters 0 lost.count in
      let kept = (keeps lost.count).prefixes lost.count lost.some (omega (arith, long)) in
      let whole : take lost.count word ≡ word = take-map-range_with_len letters 0 lost.count lost.count (omega arith) in
      true≢false (sym (ap L (sym whole) ∙ kept) ∙ ap L (sym (played environment beats.width lost.count [] [])) ∙ lost.outside)

-- ---- the answers

record GoesOn (text : List ℕ) : Type 0 where
  file : PlainFile
  formula : IsFormulaFile text file
  goes_on : GoesOnForEver (length file.variables) (models file) []

goes_on_text : (text : List ℕ) (limits : Limits) (outcome : Outcome) → outcome.status ≡ Valid → OnText text Only (IsBudgeted limits Only IsStuckReport) outcome → GoesOn text
goes_on_text text limits outcome valid (Refused refusal is e) = absurd (no_refusal refusal Only outcome e valid)
goes_on_text text limits outcome valid (Read file is (OverBudget over first e)) = absurd (no_refusal (Budget over) Only outcome e valid)
goes_on_text text limits outcome valid (Read file is (WithinBudget within report)) =
    let none = valid_is_none report.least (status_is outcome (stuck_outcome report.least) report.says valid) in
    record { file = file; formula = is; goes_on = report.goes_on.0 none [] (record { widths = All-nil (λ letter. length letter ≡ length file.variables); prefixes = λ size some within. absurd (omega arith) }) }

refused_answers : (refusal : Refusal) (outcome : Outcome) → outcome ≡ refused refusal Only → IsTrue (is_answer outcome.status) → ⊥
refused_answers refusal outcome e answers = no_refusal_answers refusal (ap (λ (o : Outcome). is_answer o.status) (sym e) ∙ answers)

realisable : (limits : Limits) (file : PlainFile) (outcome : Outcome) → GoesOnForEver (length file.variables) (models file) [] → IsTrue (is_answer outcome.status)
    → IsSynthesised 0 limits file outcome → outcome.status ≡ Valid
realisable limits file outcome goes_on answers (Undivided not e) = absurd (refused_answers (Formula Outputs) outcome e answers)
realisable limits file outcome goes_on answers (Divided fits (OverBudget over first e)) = absurd (refused_answers (Budget over) outcome e answers)
realisable limits file outcome goes_on answers (Divided fits (WithinBudget within (Realisable says status message))) = status
realisable limits file outcome goes_on answers (Divided fits (WithinBudget within (Unrealisable says status message))) =
    let all : length file.variables - 0 ≡ length file.variables = omega arith in
    let environment = environment_of (automaton_of says.table) (input_at 0 says.strategy.moves.items) in
    absurd (not_beaten (length file.variables) (models file) goes_on.letters goes_on.keeps environment says.strategy.bound
    (subst (λ m. Beats 0 m (models file) environment says.strategy.bound) all says.beats))

module _ (one_tree : SpellsOne) where
  realisable_text : (text : List ℕ) (limits : Limits) (outcome : Outcome) → GoesOn text → IsTrue (is_answer outcome.status) → OnText text Only (IsSynthesised 0 limits) outcome
      → outcome.status ≡ Valid
  realisable_text text limits outcome goes answers (Refused refusal is e) = absurd (refused_answers refusal outcome e answers)
  realisable_text text limits outcome goes answers (Read file is synthesised) =
      let same : goes.file ≡ file = one_file one_tree text goes.file file goes.formula is in
      realisable limits file outcome (subst (λ (f : PlainFile). GoesOnForEver (length f.variables) (models f) []) same goes.goes_on) answers synthesised

  pub never_stuck_is_realisable : NeverStuckIsRealisable
  never_stuck_is_realisable text never name limits held outcome there right answers =
      realisable_text text limits outcome
      (goes_on_text text never.limits never.outcome never.valid
      (subst (λ (found : Option (List ℕ)). IsSomeAnd found (λ text. OnText text Only (IsBudgeted never.limits Only IsStuckReport) never.outcome)) never.there never.right)) answers
      (subst (λ (found : Option (List ℕ)). IsSomeAnd found (λ text. OnText text Only (IsSynthesised 0 limits) outcome)) there right)
