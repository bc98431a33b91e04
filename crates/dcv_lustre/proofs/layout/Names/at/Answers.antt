use Rattle.std.proofs.Common.{◌≡◌, ℕ, suc, ◌+◌, ◌-◌, ◌<◌, List, [], ◌∷◌, length, map, get_or, sym, ap, ◌∙◌, arith}
use Rattle.std.proofs.lemmas.List.{length-map, get_or-map, get_or-append-add}
use Rattle.dcv_lustre.specs.declared.node.Local.{Local as CodeLocal}
use Rattle.dcv_lustre.specs.Meaning.{ok}
use Rattle.dcv_lustre.specs.Tree.{Local}
use Rattle.dcv_lustre.specs.Seen.{Names, name_at, seen_local, all_names}
use Rattle.dcv_lustre.proofs.layout.Names.at.Goals as goal

-- a local stands after the inputs and the output
local_at : (inputs : Names) (locals : List CodeLocal) (place : ℕ) (d : CodeLocal) → place < length locals
    → name_at (all_names inputs locals) (length inputs + suc place) ≡ (get_or locals place d).name
local_at inputs locals place d within =
    get_or-append-add inputs (ok ∷ map (λ (local : Local). local.name) (map seen_local locals)) (suc place) []
    ∙ get_or-map (λ (local : Local). local.name) (map seen_local locals) place (seen_local d) [] (omega (arith, length-map locals seen_local))
    ∙ ap (λ (local : Local). local.name) (get_or-map seen_local locals place d (seen_local d) within)

pub returns-then-behind-self : goal.returns-then-behind-self
returns-then-behind-self c =
    let inputs = c.self.inside.inputs.now in
    let locals = c.self.inside.locals.now in
    let place = c.args.place - length inputs - 1 in
    let there : length inputs + suc place ≡ c.args.place = omega (arith, c.if-place-inputs.false, c.if-place-inputs-2.false) in
    c.as_bytes-then-behind-self.ensures
    ∙ sym (local_at inputs locals place c.index-self-behind.result c.if-behind-self.true)
    ∙ ap (name_at (all_names inputs locals)) there ∙ ap (λ (names : Names). name_at names c.args.place) c.self.view_is
