use Rattle.std.proofs.Common.{◌≡◌, ◌∷◌, [], ◌++◌, ℕ, Bool, List, Option, map, not, length, ap, ◌∙◌, sym, arith}
use Rattle.std.proofs.lemmas.List.{map_push, length-map}
use Rattle.dcv_lexer.specs.Cuts.{Token}
use Rattle.dcv_c_read.specs.Scope.{Frame, seen_row}
use Rattle.dcv_observer.proofs.Judging.{kept}
use Rattle.dcv_observer.proofs.Declaring.{was_new}
use Rattle.dcv_c_read.proofs.Declaring.{is_new, name_declared}
use Rattle.dcv_c_read.proofs.scope.Scope.declare.Goals as goal

pub returns : goal.returns
returns c = λ (frame : Frame) knows (whole : Option ℕ) (words : List Token) (keeps : List Bool) left.
    let items = c.args.self.now.names.items in
    let name = c.args.word.now.bytes.now in
    let new = was_new c.in_ok-declare.field-0 c.args.self.now.declared c.declare.new.self name c.if-not-branch.false c.in_ok-declare.ensures.new c.in_ok-declare.ensures.names in
    let no_function = sym c.contains.ensures ∙ c.if-contains.false in (
      name_declared frame _ _ _ knows name c.args.is_left new.0 new.1
          (ap (map seen_row) c.in_ok-push.ensures.items ∙ map_push seen_row items _
          ∙ ap (λ (place : ℕ). map seen_row items ++ record { place = place; is_left = c.args.is_left; is_known = not c.args.is_left } ∷ [])
          (let e : c.len-place.result ≡ length items = omega (arith, c.len-place.ensures, c.args.self.now.names.ok.0) in e ∙ sym (length-map items seen_row))),
      kept (is_new frame _ _ _ knows name no_function new.0) left,
    )
