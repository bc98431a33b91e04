-- What the lines of a controller have to be for its unit.
--     AreGoodLines slots number lines     the lines of nodes from this number on: their variables and their children are there
--     AreGoodUnitLines all                so are both kinds, and the rows
use Rattle.std.proofs.Common.{◌≡◌, ℕ, suc, ◌+◌, ◌<◌, ◌≤◌, List, [], ◌∷◌, length, Some, refl, subst, arith}
use Rattle.std.specs.Prelude.{slice_get}
use Rattle.std.specs.List.{All, AllPairs}
use Rattle.dcv_language.specs.Limits.{most_nodes, number_bound}
use Rattle.dcv_automaton_text.specs.Rules.{AreNames}
use Rattle.dcv_dfa.specs.declared.node_lines.NodeLine.{NodeLine}
use Rattle.dcv_dfa.specs.NodeLines.{NodeLinesValue, IsBelow, AreReducedRows}
use Rattle.dcv_automaton_file.specs.File.{Fits}
use Rattle.dcv_synth.specs.Units.{ControlLines}

abbrev pub AreGoodLines : ℕ → ℕ → List NodeLine → Type 0
AreGoodLines slots number [] = Unit {0}
AreGoodLines slots number (line ∷ lines) = Fits slots number line × AreGoodLines slots (number + 1) lines

pub record AreGoodRows (slots states : ℕ) (all : NodeLinesValue) : Type 0 where
  pub lines : AreGoodLines slots 0 all.lines
  pub few : length all.lines ≤ most_nodes
  pub count : length all.rows ≡ states
  pub rows : All (IsBelow number_bound (length all.lines)) all.rows

pub record AreGoodUnitLines (all : ControlLines) : Type 0 where
  pub names : AreNames all.names
  pub states : All (λ state. state < number_bound) all.states
  pub in_order : AllPairs (λ (one other : ℕ). one < other) all.states
  pub next : AreGoodRows (length all.names) (length all.states) all.next
  pub output : AreGoodRows (length all.names) (length all.states) all.output

good_from : (slots number : ℕ) (lines : List NodeLine) → ((k : ℕ) (line : NodeLine) → slice_get lines k ≡ Some line → Fits slots (number + k) line)
    → AreGoodLines slots number lines
good_from slots number [] each = tt
good_from slots number (line ∷ lines) each = (
  subst (λ n. Fits slots n line) (let here : number + 0 ≡ number = omega arith in here) (each 0 line refl),
  good_from slots (number + 1) lines (λ k other at.
      subst (λ n. Fits slots n other) (let same : number + suc k ≡ number + 1 + k = omega arith in same) (each (suc k) other at)),
)

pub good_rows : (slots states : ℕ) (all : NodeLinesValue) → length all.lines ≤ most_nodes → AreReducedRows slots number_bound states all → AreGoodRows slots states all
good_rows slots states all few reduced =
    record {
      lines = good_from slots 0 all.lines (λ k line at.
          let is = reduced.lines k line at in
          let same : k ≡ 0 + k = omega arith in
          subst (λ n. Fits slots n line) same (record { slot = is.slot; hi = is.hi_below; lo = is.lo_below }));
      few = few;
      count = reduced.count;
      rows = reduced.rows;
    }
