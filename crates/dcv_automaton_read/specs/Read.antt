-- What the reader answers.
--     HasTableFault text at      the text has the form, and its file has this table fault
--     HasFault text fault        the text has this fault; running out of memory is none
--     IsFaultOf text answer      where the answer is a fault, it is that of the text
use Rattle.std.specs.Prelude.{ℕ, List, Result, Ok, Err}
use Rattle.dcv_automaton_text.specs.File.{AutomatonFile}
use Rattle.dcv_automaton_text.specs.Form.{HasForm, IsSyntaxFault}
use Rattle.dcv_automaton_text.specs.Rules.{IsTableFault}
use Rattle.dcv_automaton_read.specs.declared.faults.AutoFault.{AutoFault}
use Rattle.dcv_automaton_read.specs.declared.faults.AutoFault.TheVariants.{Syntax, Table, Memory}

pub record HasTableFault (text : List ℕ) (at : ℕ) : Type 0 where
  pub file : AutomatonFile
  pub form : HasForm text file
  pub fault : IsTableFault file at

abbrev pub HasFault : List ℕ → AutoFault → Type 0
HasFault text (Syntax at) = IsSyntaxFault text at
HasFault text (Table at) = HasTableFault text at
HasFault text Memory = ⊥

-- where memory ran out, nothing is said
abbrev pub IsFaultOf : {Whole : Type 0} → List ℕ → Result Whole AutoFault → Type 0
IsFaultOf text (Ok whole) = Unit {0}
IsFaultOf text (Err (Syntax at)) = IsSyntaxFault text at
IsFaultOf text (Err (Table at)) = HasTableFault text at
IsFaultOf text (Err Memory) = Unit {0}
