-- A text has one fault, or is that of an automaton: it has the form, and its file keeps the rules.
use Rattle.std.proofs.Common.{◌≡◌, ◌⊎◌, ℕ, List, Option, Some, None, inl, inr, refl, sym, ap, ◌∙◌, Err}
use Rattle.dcv_automaton_text.specs.File.{AutomatonFile}
use Rattle.dcv_automaton_text.specs.Form.{HasForm}
use Rattle.dcv_automaton_text.specs.Laws.{OneFile}
use Rattle.dcv_automaton_text.specs.Rules.{IsGood, IsTableFault, first_broken, judged_words}
use Rattle.dcv_automaton_lines.specs.Laws.{FormOrFault, NoFaultOfForm, OneSyntaxFault}
use Rattle.dcv_automaton_lines.proofs.OneFault.{no_fault_of_form}
use Rattle.dcv_automaton_read.specs.declared.faults.AutoFault.{AutoFault}
use Rattle.dcv_automaton_read.specs.declared.faults.AutoFault.TheVariants.{Syntax, Table, Memory}
use Rattle.dcv_automaton_read.specs.Laws.{GoodTextsAreRead, SomeReading, NoFaultWhereRead, OneFault}
use Rattle.dcv_automaton_read.specs.Read.{IsFaultOf, HasFault}

module _ (one_file : OneFile) where
  -- ---- the faults of files of one text

  pub one_broken : (text : List ℕ) (f g : AutomatonFile) (at other : ℕ) → HasForm text f → HasForm text g → IsTableFault f at → IsTableFault g other → at ≡ other
  one_broken text f g at other form form' fault fault' =
      let same : f ≡ g = one_file text f g form form' in
      let there : Some at ≡ Some other = sym fault ∙ ap (λ file. first_broken 0 (judged_words file)) same ∙ fault' in
      cc

  pub broken_or_good : (text : List ℕ) (f g : AutomatonFile) (at : ℕ) → HasForm text f → HasForm text g → IsTableFault f at → IsGood g → ⊥
  broken_or_good text f g at form form' fault good =
      let same : f ≡ g = one_file text f g form form' in
      let wrong : Some at ≡ None = sym fault ∙ ap (λ file. first_broken 0 (judged_words file)) same ∙ good in
      cc

  -- ---- a text that is read

  pub no_fault_where_read : NoFaultWhereRead
  no_fault_where_read text file (Syntax at) form good fault = no_fault_of_form text file at form fault
  no_fault_where_read text file (Table at) form good fault = broken_or_good text fault.file file at fault.form form fault.fault good
  no_fault_where_read text file Memory form good fault = fault

  pub good_texts_are_read : GoodTextsAreRead
  good_texts_are_read text file form good = record { no_fault = no_fault; no_other = λ other is. one_file text other file is form }
    where
      no_fault : (fault : AutoFault) → IsFaultOf {Whole = AutomatonFile} text (Err fault) → fault ≡ Memory
      no_fault (Syntax at) fault = absurd (no_fault_where_read text file (Syntax at) form good fault)
      no_fault (Table at) fault = absurd (no_fault_where_read text file (Table at) form good fault)
      no_fault Memory fault = refl

  -- ---- a text at fault

  pub one_fault : OneSyntaxFault → NoFaultOfForm → OneFault
  one_fault one none text (Syntax at) (Syntax other) is its = ap Syntax (one text at other is its)
  one_fault one none text (Syntax at) (Table other) is its = absurd (none text its.file at its.form is)
  one_fault one none text (Syntax at) Memory is its = absurd its
  one_fault one none text (Table at) (Syntax other) is its = absurd (none text is.file other is.form its)
  one_fault one none text (Table at) (Table other) is its = ap Table (one_broken text is.file its.file at other is.form its.form is.fault its.fault)
  one_fault one none text (Table at) Memory is its = absurd its
  one_fault one none text Memory other is its = absurd is

-- ---- either

pub some_reading : FormOrFault → SomeReading
some_reading form_or_fault text = elim (form_or_fault text) [
  | inl (at, fault) ↦ inl (Syntax at, fault)
  | inr (file, form) ↦ by file form (first_broken 0 (judged_words file)) refl
]
  where
    by : (file : AutomatonFile) → HasForm text file → (broken : Option ℕ) → first_broken 0 (judged_words file) ≡ broken
        → ((fault : AutoFault) × HasFault text fault) ⊎ ((file : AutomatonFile) × HasForm text file × IsGood file)
    by file form None is = inr (file, form, is)
    by file form (Some at) is = inl (Table at, record { file = file; form = form; fault = is })
