use Rattle.std.proofs.Common.{◌∙◌, ap, List}
use Rattle.std.specs.List.{list_all}
use Rattle.dcv_observer.specs.Naming.{is_among}
use Rattle.dcv_observer.proofs.Rows.{all_rows}
use Rattle.dcv_c_read.specs.declared.scope.Declaration.{Declaration}
use Rattle.dcv_c_read.specs.Scope.{Frame, seen_row, IsRow}
use Rattle.dcv_c_read.proofs.scope.Scope.all_known.Goals as goal

pub returns : goal.returns
returns c = λ (frame : Frame) knows.
    c.are_known.ensures ∙ ap (λ (names : List Declaration). list_all (λ (name : Declaration). name.known) names) c.deref.ensures.value
    ∙ all_rows seen_row (IsRow frame.lefts frame.known) (λ name. name.known) (is_among frame.known) (λ n name item is. is.is_known) 0 frame.placed c.args.self.now.names.items knows.are_rows
