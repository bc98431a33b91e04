use Rattle.std.proofs.Common.{◌≡◌, ◌∙◌, ◌<◌, ap, sym, subst, arith, refl, IfSome}
use Rattle.dcv_automaton_read.specs.File.{suffix_from}
use Rattle.dcv_certify.specs.Links.{parent, parent_at}
use Rattle.dcv_certify.proofs.Linking.{parents_are_earlier}
use Rattle.dcv_certify.proofs.SuffixWords.{read_suffix, length_read_suffixes}
use Rattle.dcv_certify.proofs.links.parent_of.Goals as goal
use Rattle.dcv_certify.proofs.links.parent_of.Goals.{After-parent}

pub bounds-suffixes-place : goal.bounds-suffixes-place
bounds-suffixes-place c =
    omega (arith, c.requires, length_read_suffixes c.args.file.now c.keeps_the_rules.ensures c.suffixes-suffixes.result.now c.suffixes-suffixes.ensures)

is : (c : After-parent) → c.parent.result ≡ parent_at c.args.file.now c.args.place
is c =
    let file = c.args.file.now in
    let good = c.keeps_the_rules.ensures in
    let read = c.suffixes-suffixes.result.now in
    c.parent.ensures ∙ ap (λ suffix. parent (suffix_from suffix)) c.index-suffixes-place.is
    ∙ ap parent (read_suffix file good read c.index-suffixes-place.result c.suffixes-suffixes.ensures c.args.place
    (omega (arith, c.requires, length_read_suffixes file good read c.suffixes-suffixes.ensures)))

pub returns-clause-parent : goal.returns-clause-parent
returns-clause-parent c = is c

pub returns-clause-earlier : goal.returns-clause-earlier
returns-clause-earlier c =
    subst (λ result. IfSome result (λ from. from < c.args.place)) (sym (is c)) (parents_are_earlier c.args.file.now c.keeps_the_rules.ensures c.args.place (parent_at c.args.file.now c.args.place) refl)
