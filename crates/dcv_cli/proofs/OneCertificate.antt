-- One outcome at most is right where it is asked what the words of an automaton's text show.
use Rattle.dcv_cli.proofs.Common.{◌≡◌, ℕ, List, Option, None, Some, sym, ap, ◌∙◌, subst, arith, IsSomeAnd, AutomatonFile, OneFile}
use Rattle.dcv_cli.proofs.Common.{OneAnswer, line, Refusal, Syntax, StatusAutomaton, IsRefusedAutomaton, HasNoForm, BreaksARule}
use Rattle.dcv_cli.proofs.Common.{IsAutomatonText, OnAutomaton, IsCertificate, answer_words, status_of_answer, Outcome, refused}
use Rattle.dcv_cli.proofs.Common.{status_of, Only}
use Rattle.dcv_automaton_lines.proofs.OneFault.{one_place, no_fault_of_form}
use Rattle.dcv_automaton_read.proofs.GoodTexts.{one_broken, broken_or_good}
use Rattle.dcv_cli.specs.declared.refusal.Refusal.TheVariants.{Automaton}
use Rattle.dcv_cli.specs.declared.faults.AutomatonFault.TheVariants.{Table}
use Rattle.dcv_cli.specs.AutomatonFile.{TooLong, Refused, Read}

pub same_outcome : (one other : Outcome) → one.status ≡ other.status → one.out ≡ other.out → one.err ≡ other.err → one ≡ other
same_outcome one other status out err = λ i. record { status = status i; out = out i; err = err i }

-- ---- one refusal

module _ (one_file : OneFile) where
  one_refusal : (text : List ℕ) (r s : Refusal) → IsRefusedAutomaton text r → IsRefusedAutomaton text s → r ≡ s
  one_refusal text r s (TooLong long e) (TooLong long' e') = e ∙ sym e'
  one_refusal text r s (TooLong long e) (HasNoForm short at fault e') = absurd (omega arith)
  one_refusal text r s (TooLong long e) (BreaksARule short file form at fault e') = absurd (omega arith)
  one_refusal text r s (HasNoForm short at fault e) (TooLong long e') = absurd (omega arith)
  one_refusal text r s (HasNoForm short at fault e) (HasNoForm short' other fault' e') =
      e ∙ ap (λ place. Automaton (Syntax place)) (one_place text at other fault fault') ∙ sym e'
  one_refusal text r s (HasNoForm short at fault e) (BreaksARule short' file form other fault' e') = absurd (no_fault_of_form text file at form fault)
  one_refusal text r s (BreaksARule short file form at fault e) (TooLong long e') = absurd (omega arith)
  one_refusal text r s (BreaksARule short file form at fault e) (HasNoForm short' other fault' e') = absurd (no_fault_of_form text file other form fault')
  one_refusal text r s (BreaksARule short f form at fault e) (BreaksARule short' g form' other fault' e') =
      e ∙ ap (λ place. Automaton (Table place)) (one_broken one_file text f g at other form form' fault fault') ∙ sym e'

  pub refused_or_read : (text : List ℕ) (refusal : Refusal) (file : AutomatonFile) → IsRefusedAutomaton text refusal → IsAutomatonText text file → ⊥
  refused_or_read text refusal file (TooLong long e) is = let fits = is.fits in omega arith
  refused_or_read text refusal file (HasNoForm short at fault e) is = no_fault_of_form text file at is.form fault
  refused_or_read text refusal file (BreaksARule short other form at fault e) is = broken_or_good one_file text other file at form is.form fault is.good

  pub one_on_automaton : (text : List ℕ) (RightFor : AutomatonFile → Outcome → Type 0)
      → ((file : AutomatonFile) (a b : Outcome) → RightFor file a → RightFor file b → a ≡ b)
      → (a b : Outcome) → OnAutomaton text RightFor a → OnAutomaton text RightFor b → a ≡ b
  one_on_automaton text RightFor one a b (Refused r is e) (Refused s is' e') = e ∙ ap (λ r. refused r Only) (one_refusal text r s is is') ∙ sym e'
  one_on_automaton text RightFor one a b (Refused r is e) (Read file is' right) = absurd (refused_or_read text r file is is')
  one_on_automaton text RightFor one a b (Read file is right) (Refused s is' e') = absurd (refused_or_read text s file is' is)
  one_on_automaton text RightFor one a b (Read f is right) (Read g is' right') =
      one f a b right (subst (λ (file : AutomatonFile). RightFor file b) (one_file text g f is'.form is.form) right')

  module _ (one_answer : OneAnswer) where
    one_certificate : (file : AutomatonFile) (a b : Outcome) → IsCertificate file a → IsCertificate file b → a ≡ b
    one_certificate file a b p q =
        let same : p.answer ≡ q.answer = one_answer file p.answer q.answer p.is q.is in
        same_outcome a b (p.status ∙ ap status_of_answer same ∙ sym q.status) (p.says ∙ ap (λ answer. line (answer_words file.states answer)) same ∙ sym q.says)
        (p.no_message ∙ sym q.no_message)

    pub one_held_certificate : (text : Option (List ℕ)) (a b : Outcome) → IsSomeAnd text (λ bytes. OnAutomaton bytes IsCertificate a)
        → IsSomeAnd text (λ bytes. OnAutomaton bytes IsCertificate b) → a ≡ b
    one_held_certificate None a b p q = absurd p
    one_held_certificate (Some text) a b p q = one_on_automaton text IsCertificate one_certificate a b p q

-- a refusal of a text has one status
pub refuses_as_automaton : (text : List ℕ) (refusal : Refusal) → IsRefusedAutomaton text refusal → status_of refusal ≡ StatusAutomaton
refuses_as_automaton text refusal (TooLong long e) = ap status_of e
refuses_as_automaton text refusal (HasNoForm short at fault e) = ap status_of e
refuses_as_automaton text refusal (BreaksARule short file form at fault e) = ap status_of e

-- ---- no step is over the limits
