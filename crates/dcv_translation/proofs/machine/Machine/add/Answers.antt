use Rattle.std.proofs.Common.{◌++◌, ◌∷◌, [], true, false, map, sym, ap, ◌∙◌, append-nil}
use Rattle.std.proofs.lemmas.List.{map-append}
use Rattle.dcv_translation.proofs.Running.{parts_where}
use Rattle.dcv_translation.proofs.machine.Machine.add.Goals as goal

pub returns-then-not-has_part-clause-parts : goal.returns-then-not-has_part-clause-parts
returns-then-not-has_part-clause-parts g c =
    let parts = map g.T.Translation.meaning c.args.self.now.parts.items in
    let none = parts_where g.T.Translation.scheme c.args.class (g.T.Translation.seen c.args.token) c.has_part.result false c.has_part.ensures c.if-not-has_part.true in
    sym (append-nil parts) ∙ ap (λ more. parts ++ more) (sym none)

pub returns-clause-parts : goal.returns-clause-parts
returns-clause-parts g c =
    let meaning = g.T.Translation.meaning in
    let parts = c.args.self.now.parts.items in
    let one = parts_where g.T.Translation.scheme c.args.class (g.T.Translation.seen c.args.token) c.has_part.result true c.has_part.ensures c.if-not-has_part.false in
    ap (map meaning) (c.push_reserved.ensures.items ∙ ap (λ all. all ++ c.token.result ∷ []) c.in_ok-reserve.ensures.items)
    ∙ map-append meaning parts (c.token.result ∷ [])
    ∙ ap (λ part. map meaning parts ++ part ∷ []) c.token.ensures
    ∙ ap (λ more. map meaning parts ++ more) (sym one)
