use Rattle.std.proofs.Common.{length, ap, subst, ◌∙◌}
use Rattle.std.proofs.lemmas.Result.{IfOk-weaker}
use Rattle.dcv_dfa.specs.NodeLines.{NodeLinesValue, lines_of_rows}
use Rattle.dcv_dfa.specs.Raw.{RawValue, IsRaw}
use Rattle.dcv_dfa.proofs.Reduced.{count_of_lines}
use Rattle.dcv_dfa.proofs.auto.Auto.node_lines.Goals as goal

pub returns-clause-count : goal.returns-clause-count
returns-clause-count c =
    let raw = c.args.self.now in
    let same = c.raw-raw.ensures.raw in
    IfOk-weaker c.of.result _ _ (λ (all : NodeLinesValue) exact.
    ap (λ (all : NodeLinesValue). length all.lines) exact
    ∙ (λ i. length (lines_of_rows ((c.arena.ensures.arena ∙ ap (λ (raw : RawValue). raw.arena) same) i) ((c.rows.ensures.rows ∙ ap (λ (raw : RawValue). raw.rows) same) i)).lines)
    ∙ count_of_lines raw (subst IsRaw same c.rows.ensures.raw) c.raw-raw.ensures.auto.nodes) c.of.ensures.exact
