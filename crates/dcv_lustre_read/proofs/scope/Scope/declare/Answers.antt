use Rattle.std.proofs.Common.{◌≡◌, ◌∷◌, [], ◌++◌, ℕ, Bool, List, Option, map, length, ap, ◌∙◌, sym, arith, length-append}
use Rattle.std.proofs.lemmas.List.{map_push, length-map}
use Rattle.dcv_lexer.specs.Cuts.{Token}
use Rattle.dcv_observer.specs.Conditions.{Names as PlainNames}
use Rattle.dcv_lustre.specs.Seen.{seen_kind}
use Rattle.dcv_lustre.specs.Tree.{Node as PlainNode}
use Rattle.dcv_lustre_read.specs.Scope.{Told, seen_row}
use Rattle.dcv_observer.proofs.Declaring.{was_new}
use Rattle.dcv_lustre_read.proofs.Declaring.{declared_then}
use Rattle.dcv_lustre_read.proofs.scope.Scope.declare.Goals as goal

pub returns : goal.returns
returns c = λ (node : PlainNode) (whole : Option ℕ) (others : List Token) (others_keep : List Bool) (word : List ℕ) (words : List Token) (later : PlainNames) (told : List Told) d within.
    let items = c.args.self.now.names.items in
    let new = was_new c.in_ok-declare.field-0 c.args.self.now.declared c.declare.new.self c.args.name.now c.if-not-branch.false c.in_ok-declare.ensures.new c.in_ok-declare.ensures.names in (
      declared_then node whole others others_keep c.args.self.now.declared (map seen_row items) c.args.name.now word c.args.at
          (seen_kind c.args.kind) c.args.known words later told d within new.0 new.1
          (ap (map seen_row) c.in_ok-push.ensures.items ∙ map_push seen_row items _
          ∙ ap (λ place. map seen_row items ++ record { place = place; kind = seen_kind c.args.kind; is_known = c.args.known } ∷ [])
          (let e : c.len-place.result ≡ length items = omega (arith, c.len-place.ensures, c.args.self.now.names.ok.0) in e ∙ sym (length-map items seen_row))),
      ap length new.1 ∙ omega (arith, length-append c.args.self.now.declared (c.args.name.now ∷ [])),
    )
