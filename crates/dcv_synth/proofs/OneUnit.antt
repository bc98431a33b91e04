-- Controllers that do the same have one unit.
use Rattle.std.proofs.Common.{◌≡◌, ℕ, List, refl, sym, ◌∙◌}
use Rattle.dcv_language.specs.Limits.{number_bound}
use Rattle.dcv_dfa.specs.NodeLines.{lines_of_rows}
use Rattle.dcv_dfa.specs.Laws.{SameRowsHaveOneListOfLines}
use Rattle.dcv_synth.specs.Control.{RowsValue, AreRowsBelow}
use Rattle.dcv_synth.specs.Units.{unit_of_lines}
use Rattle.dcv_synth.specs.Laws.{AreTheSameRows, SameControlsHaveOneUnit}

module _ (law : SameRowsHaveOneListOfLines) where
  same_lines : (n bound : ℕ) (states others : List ℕ) (one other : RowsValue) → AreRowsBelow bound states one → AreRowsBelow bound others other
      → one.arena.slots ≡ n → other.arena.slots ≡ n → AreTheSameRows n one other → lines_of_rows one.arena one.rows ≡ lines_of_rows other.arena other.rows
  same_lines n bound states others one other a b slots also same =
      law one.arena other.arena one.rows other.rows a.are.arena b.are.arena a.are.refs b.are.refs (slots ∙ sym also) same.count
      (λ place letter within width. same.values place letter within (width ∙ slots))

  pub same_controls_have_one_unit : SameControlsHaveOneUnit
  same_controls_have_one_unit names one other a b slots same =
      let n = one.next.arena.slots in
      let next = same_lines n number_bound one.states other.states one.next other.next a.next b.next refl (sym slots) same.next in
      let output = same_lines n 256 one.states other.states one.output other.output a.output b.output a.inputs (b.inputs ∙ sym slots) same.output in
      λ i. unit_of_lines (record { names = names; states = same.states i; next = next i; output = output i })
