-- One outcome at most, and some, is right for a replay of files that are held.
use Rattle.dcv_cli.proofs.Common.{◌≡◌, ◌⊎◌, inl, inr, refl, ℕ, ◌≤◌, List, [], length, Option, None, Some, sym, ap, ◌∙◌}
use Rattle.dcv_cli.proofs.Common.{subst, arith, IsSomeAnd, Subset, InLustre, InC, InTables, ObsFault}
use Rattle.dcv_cli.proofs.Common.{OneTraceVerdict as OneVerdict, SomeVerdict, OneTextOfAnswers as OneText, GoodLinesAreAnswered, Observer}
use Rattle.dcv_cli.proofs.Common.{width_of, AreAnswers, good_letters, Refusal, Only, IsFaultIn, IsRefusedObserver, IsObserverText}
use Rattle.dcv_cli.proofs.Common.{OnObserver, Outcome, refused, most_observer_bytes, refusal_of_observer, IsReplay, fault_of_trace}
use Rattle.dcv_cli.proofs.Common.{status_of_trace, message_of_trace}
use Rattle.std.proofs.lemmas.Bool.{cases_lt}
use Rattle.dcv_c.specs.Laws as c
use Rattle.dcv_c.specs.Placed.{unit_of}
use Rattle.dcv_lustre.specs.Laws as lustre
use Rattle.dcv_lustre.specs.Placed.{node_of}
use Rattle.dcv_replay.specs.Observer.{Lustre, C, Tables}
use Rattle.dcv_tables_read.specs.Laws as tables
use Rattle.dcv_replay.specs.TraceText.{Verdict}
use Rattle.dcv_cli.specs.declared.refusal.Refusal.TheVariants.{Observer as ObserverRefusal}
use Rattle.dcv_cli.specs.declared.faults.ObserverFault.TheVariants.{Length}
use Rattle.dcv_cli.specs.ObserverFile.{IsObserverIn, TooLong, Faulty, Refused, Read}
use Rattle.dcv_cli.proofs.OneCertificate.{same_outcome}
use Rattle.dcv_cli.proofs.Replays.{keeps_the_rules}

-- what is known of the texts of each subset
pub record AreSubsets : Type 0 where
  pub one_node : lustre.SpellsOne
  pub one_node_fault : lustre.OneFault
  pub no_node_fault : lustre.NoFaultWhereRead
  pub one_unit : c.SpellsOne
  pub one_unit_fault : c.OneFault
  pub no_unit_fault : c.NoFaultWhereRead
  pub one_tables : tables.SpellsOne
  pub one_tables_fault : tables.OneFault
  pub no_tables_fault : tables.NoFaultWhereRead

module _ (subsets : AreSubsets) where
  one_observer : (subset : Subset) (text : List ℕ) (one other : Observer) → IsObserverIn subset text one → IsObserverIn subset text other → one ≡ other
  one_observer InLustre text (Lustre node) (Lustre other) is is' =
      ap Lustre (sym is.is ∙ ap node_of (subsets.one_node text is.placed is'.placed is.spelled is'.spelled) ∙ is'.is)
  one_observer InLustre text (Lustre node) (C other) is is' = absurd is'
  one_observer InLustre text (Lustre node) (Tables other) is is' = absurd is'
  one_observer InLustre text (C unit) other is is' = absurd is
  one_observer InLustre text (Tables unit) other is is' = absurd is
  one_observer InC text (C unit) (C other) is is' = ap C (sym is.is ∙ ap unit_of (subsets.one_unit text is.placed is'.placed is.spelled is'.spelled) ∙ is'.is)
  one_observer InC text (C unit) (Lustre other) is is' = absurd is'
  one_observer InC text (C unit) (Tables other) is is' = absurd is'
  one_observer InC text (Lustre node) other is is' = absurd is
  one_observer InC text (Tables unit) other is is' = absurd is
  one_observer InTables text (Tables unit) (Tables other) is is' = ap Tables (subsets.one_tables text unit other is.form is'.form)
  one_observer InTables text (Tables unit) (Lustre other) is is' = absurd is'
  one_observer InTables text (Tables unit) (C other) is is' = absurd is'
  one_observer InTables text (Lustre node) other is is' = absurd is
  one_observer InTables text (C unit) other is is' = absurd is

  one_fault_in : (subset : Subset) (text : List ℕ) (fault other : ObsFault) → IsFaultIn subset text fault → IsFaultIn subset text other → fault ≡ other
  one_fault_in InLustre text fault other has has' = subsets.one_node_fault text fault other has has'
  one_fault_in InC text fault other has has' = subsets.one_unit_fault text fault other has has'
  one_fault_in InTables text fault other has has' = subsets.one_tables_fault text fault other has has'

  fault_or_observer : (subset : Subset) (text : List ℕ) (fault : ObsFault) (observer : Observer) → IsFaultIn subset text fault → IsObserverIn subset text observer → ⊥
  fault_or_observer InLustre text fault (Lustre node) has is = subsets.no_node_fault text node fault is has
  fault_or_observer InLustre text fault (C unit) has is = is
  fault_or_observer InLustre text fault (Tables unit) has is = is
  fault_or_observer InC text fault (Lustre node) has is = is
  fault_or_observer InC text fault (C unit) has is = subsets.no_unit_fault text unit fault is has
  fault_or_observer InC text fault (Tables unit) has is = is
  fault_or_observer InTables text fault (Lustre node) has is = is
  fault_or_observer InTables text fault (C unit) has is = is
  fault_or_observer InTables text fault (Tables unit) has is = subsets.no_tables_fault text unit fault is has

  one_refusal : (subset : Subset) (text : List ℕ) (r s : Refusal) → IsRefusedObserver subset text r → IsRefusedObserver subset text s → r ≡ s
  one_refusal subset text r s (TooLong long e) (TooLong long' e') = e ∙ sym e'
  one_refusal subset text r s (TooLong long e) (Faulty short fault has e') = absurd (omega arith)
  one_refusal subset text r s (Faulty short fault has e) (TooLong long e') = absurd (omega arith)
  one_refusal subset text r s (Faulty short fault has e) (Faulty short' other has' e') =
      e ∙ ap refusal_of_observer (one_fault_in subset text fault other has has') ∙ sym e'

  refused_or_read : (subset : Subset) (text : List ℕ) (refusal : Refusal) (observer : Observer) → IsRefusedObserver subset text refusal → IsObserverText subset text observer → ⊥
  refused_or_read subset text refusal observer (TooLong long e) is = let fits = is.fits in omega arith
  refused_or_read subset text refusal observer (Faulty short fault has e) is = fault_or_observer subset text fault observer has is.read

  one_on_observer : (subset : Subset) (text : List ℕ) (RightFor : Observer → Outcome → Type 0)
      → ((observer : Observer) (a b : Outcome) → RightFor observer a → RightFor observer b → a ≡ b)
      → (a b : Outcome) → OnObserver subset text RightFor a → OnObserver subset text RightFor b → a ≡ b
  one_on_observer subset text RightFor one a b (Refused r is e) (Refused s is' e') = e ∙ ap (λ r. refused r Only) (one_refusal subset text r s is is') ∙ sym e'
  one_on_observer subset text RightFor one a b (Refused r is e) (Read observer is' right) = absurd (refused_or_read subset text r observer is is')
  one_on_observer subset text RightFor one a b (Read observer is right) (Refused s is' e') = absurd (refused_or_read subset text s observer is' is)
  one_on_observer subset text RightFor one a b (Read observer is right) (Read other is' right') =
      one observer a b right (subst (λ (o : Observer). RightFor o b) (one_observer subset text other observer is'.read is.read) right')

  module _ (one_verdict : OneVerdict) (one_text : OneText) where
    one_replay : (observer : Observer) (trace : List ℕ) (a b : Outcome) → IsReplay observer trace a → IsReplay observer trace b → a ≡ b
    one_replay observer trace a b p q =
        let same : q.verdict ≡ p.verdict = one_verdict (width_of observer) trace q.verdict p.verdict q.is_verdict p.is_verdict in
        let answers = subst (λ (verdict : Verdict). AreAnswers observer [] (good_letters verdict) b.out) same q.answers in
        same_outcome a b (p.status ∙ ap (λ verdict. status_of_trace (fault_of_trace verdict)) (sym same) ∙ sym q.status)
        (one_text observer [] (good_letters p.verdict) a.out b.out p.answers answers)
        (p.message ∙ ap (λ verdict. message_of_trace (fault_of_trace verdict)) (sym same) ∙ sym q.message)

    one_on_trace : (trace : Option (List ℕ)) (observer : Observer) (a b : Outcome) → IsSomeAnd trace (λ text. IsReplay observer text a)
        → IsSomeAnd trace (λ text. IsReplay observer text b) → a ≡ b
    one_on_trace None observer a b p q = absurd p
    one_on_trace (Some trace) observer a b p q = one_replay observer trace a b p q

    pub one_held_replay : (subset : Subset) (text trace : Option (List ℕ)) (a b : Outcome)
        → IsSomeAnd text (λ bytes. OnObserver subset bytes (λ one outcome. IsSomeAnd trace (λ t. IsReplay one t outcome)) a)
        → IsSomeAnd text (λ bytes. OnObserver subset bytes (λ one outcome. IsSomeAnd trace (λ t. IsReplay one t outcome)) b) → a ≡ b
    one_held_replay subset None trace a b p q = absurd p
    one_held_replay subset (Some text) trace a b p q =
        one_on_observer subset text (λ one outcome. IsSomeAnd trace (λ t. IsReplay one t outcome)) (λ observer. one_on_trace trace observer) a b p q

-- ---- some outcome

module _ (some_node : lustre.SomeReading) (some_unit : c.SomeReading) (some_tables : tables.SomeReading) (rules : tables.ReadUnitsKeepTheRules) (some_verdict : SomeVerdict) (answered : GoodLinesAreAnswered) where
  some_reading : (subset : Subset) (text : List ℕ) → ((fault : ObsFault) × IsFaultIn subset text fault) ⊎ ((observer : Observer) × IsObserverIn subset text observer)
  some_reading InLustre text = elim (some_node text) [ inl fault ↦ inl fault | inr read ↦ inr (Lustre read.0, read.1) ]
  some_reading InC text = elim (some_unit text) [ inl fault ↦ inl fault | inr read ↦ inr (C read.0, read.1) ]
  some_reading InTables text = elim (some_tables text) [ inl fault ↦ inl fault | inr read ↦ inr (Tables read.0, read.1) ]

  some_on_trace : (subset : Subset) (text trace : List ℕ) (observer : Observer) → IsObserverText subset text observer → (outcome : Outcome) × IsReplay observer trace outcome
  some_on_trace subset text trace observer is =
      let verdict = some_verdict (width_of observer) trace in
      let answers = answered observer (keeps_the_rules rules subset text observer is) trace verdict.0 verdict.1 in (
        record { status = status_of_trace (fault_of_trace verdict.0); out = answers.0; err = message_of_trace (fault_of_trace verdict.0) },
        record { verdict = verdict.0; is_verdict = verdict.1; answers = answers.1; status = refl; message = refl },
      )

  abbrev Comes : Subset → List ℕ → List ℕ → Type 0
  Comes subset text trace = (outcome : Outcome) × OnObserver subset text (λ one. IsReplay one trace) outcome

  some_on_short : (subset : Subset) (text trace : List ℕ) → length text ≤ most_observer_bytes → Comes subset text trace
  some_on_short subset text trace short = elim (some_reading subset text) [
    | inl fault ↦ (refused (refusal_of_observer fault.0) Only, Refused (refusal_of_observer fault.0) (Faulty short fault.0 fault.1 refl) refl)
    | inr read ↦
        let is : IsObserverText subset text read.0 = record { fits = short; read = read.1 } in
        let found = some_on_trace subset text trace read.0 is in
        (found.0, Read read.0 is found.1)
  ]

  pub some_replay : (subset : Subset) (text trace : List ℕ) → (outcome : Outcome) × OnObserver subset text (λ one. IsReplay one trace) outcome
  some_replay subset text trace = elim (cases_lt most_observer_bytes (length text)) [
    | inl long ↦ (refused (ObserverRefusal Length) Only, Refused (ObserverRefusal Length) (TooLong long refl) refl)
    | inr short ↦ some_on_short subset text trace short
  ]
