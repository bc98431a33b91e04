-- What is said of an automaton is so of each set whose canonical automaton it is.
use Rattle.std.proofs.Common.{◌≡◌, ℕ, Option, None, Some, length, refl, sym, subst, ◌∙◌}
use Rattle.std.specs.Prelude.{is_none, is_some}
use Rattle.dcv_word.specs.Word.{WordValue}
use Rattle.dcv_language.specs.Language.{Language, HaveSameBehaviours}
use Rattle.dcv_language.specs.Laws.{VerdictOfSameBehaviours}
use Rattle.dcv_language.specs.Table.{table_accepts}
use Rattle.dcv_language.specs.Verdict.{IsVerdict}
use Rattle.dcv_dfa.specs.Auto.{IsAuto, table_of_states}
use Rattle.dcv_dfa.specs.Laws.{TableHasTheStates, TableAcceptsAsTheStates}
use Rattle.dcv_dfa.specs.Raw.{RawValue, IsRaw, raw_accepts}
use Rattle.dcv_build.specs.Budget.{IsAutomatonOf}
use Rattle.dcv_print.specs.Verdict.{letters_of, seen_verdict}
use Rattle.dcv_print.specs.declared.verdict_lines.Verdict.{Verdict as CodeVerdict}
use Rattle.dcv_sweep.specs.declared.findings.Judgement.{Judgement}
use Rattle.dcv_sweep.specs.Findings.{IsJudgement}

some_letters : (word : Option WordValue) → is_some word ≡ is_some (letters_of word)
some_letters None = refl
some_letters (Some word) = refl

-- what an automaton accepts are the behaviours of each set whose canonical automaton it is
same_as_set : TableAcceptsAsTheStates → (auto : RawValue) → IsRaw auto → IsAuto auto → (k : ℕ) (L : Language) → IsAutomatonOf k L auto → HaveSameBehaviours k (raw_accepts auto) L
same_as_set accept auto raw is k L of word b =
    sym (subst (λ k. HaveSameBehaviours k (table_accepts (table_of_states auto)) (raw_accepts auto)) of.slots (accept auto raw is.start) word b) ∙ of.canonical.exact word b

pub judged : TableAcceptsAsTheStates → TableHasTheStates → VerdictOfSameBehaviours → (auto : RawValue) → IsRaw auto → IsAuto auto
    → (verdict : CodeVerdict) → IsVerdict auto.arena.slots (raw_accepts auto) (seen_verdict verdict)
    → (judgement : Judgement) → judgement.valid ≡ is_none (seen_verdict verdict).counterexample → judgement.satisfiable ≡ is_some verdict.example → judgement.states ≡ length auto.rows
    → (k : ℕ) (L : Language) → IsAutomatonOf k L auto → IsJudgement k L judgement
judged accept have move auto raw is verdict said judgement valid satisfiable states k L of = record {
  verdict = seen_verdict verdict;
  is_verdict =
      move k (raw_accepts auto) L (seen_verdict verdict) (same_as_set accept auto raw is k L of)
      (subst (λ k. IsVerdict k (raw_accepts auto) (seen_verdict verdict)) of.slots said);
  valid_is = valid;
  satisfiable_is = satisfiable ∙ some_letters verdict.example;
  table = table_of_states auto;
  access = of.access;
  canonical = of.canonical;
  states_are = states ∙ sym (have auto);
}
