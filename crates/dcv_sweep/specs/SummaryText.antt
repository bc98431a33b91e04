-- The lines that say a summary, each a heading and a number.
use Rattle.std.specs.Prelude.{ℕ, List, ◌++◌, codes}
use Rattle.std.specs.Fmt.{decimal}
use Rattle.dcv_language.specs.VerdictText.{line}
use Rattle.dcv_sweep.specs.declared.summary.Summary.{Summary}

abbrev pub summary_text : Summary → List ℕ
summary_text summary =
    line (codes "formulas " ++ decimal summary.formulas)
    ++ line (codes "valid " ++ decimal summary.valid)
    ++ line (codes "satisfiable " ++ decimal summary.satisfiable)
    ++ line (codes "over " ++ decimal summary.over)
    ++ line (codes "states " ++ decimal summary.states)
