use Rattle.std.proofs.Common.{map, refl, ap, ◌∙◌}
use Rattle.dcv_automaton_lines.specs.declared.lines.AccessLine.{AccessLine}
use Rattle.dcv_automaton_lines.specs.declared.lines.SuffixLine.{SuffixLine}
use Rattle.dcv_automaton_lines.specs.Seen.{access_of, suffix_of}
use Rattle.dcv_automaton_read.specs.File.{row_of, counts_in}
use Rattle.dcv_automaton_read.specs.Seen.{texts_of}
use Rattle.dcv_automaton_read.proofs.Remade.{narrow_access_lines, narrow_suffix_lines, remade, is_kept}
use Rattle.dcv_automaton_read.proofs.building.built.Goals as goal

pub access_words-requires : goal.access_words-requires
access_words-requires c = narrow_access_lines c.args.lines.now c.requires.good c.deref-3.result.now c.deref-3.ensures.value

pub suffix_words-requires : goal.suffix_words-requires
suffix_words-requires c = narrow_suffix_lines c.args.lines.now c.requires.good c.deref-4.result.now c.deref-4.ensures.value

pub new-requires : goal.new-requires
new-requires c =
    is_kept c.args.lines.now c.requires.good c.in_ok-names.names.items c.args.nodes.keys c.in_ok-rows.rows.items c.in_ok-access.access.items c.in_ok-suffixes.suffixes.items (counts_in c.in_ok-steps.steps)
    (c.in_ok-names.ensures ∙ ap texts_of c.deref.ensures.value) c.requires.nodes (c.in_ok-rows.ensures ∙ ap (map row_of) c.deref-2.ensures.value)
    (c.in_ok-access.ensures ∙ ap (map (λ (line : AccessLine). access_of line.access)) c.deref-3.ensures.value)
    (c.in_ok-suffixes.ensures ∙ ap (map (λ (line : SuffixLine). suffix_of line.suffix)) c.deref-4.ensures.value) c.in_ok-steps.ensures c.args.lines.now.front.now _ refl c.requires.front

pub returns : goal.returns
returns c =
    c.new.ensures
    ∙ remade c.args.lines.now c.requires.good c.in_ok-names.names.items c.args.nodes.keys c.in_ok-rows.rows.items c.in_ok-access.access.items c.in_ok-suffixes.suffixes.items (counts_in c.in_ok-steps.steps)
    (c.in_ok-names.ensures ∙ ap texts_of c.deref.ensures.value) c.requires.nodes (c.in_ok-rows.ensures ∙ ap (map row_of) c.deref-2.ensures.value)
    (c.in_ok-access.ensures ∙ ap (map (λ (line : AccessLine). access_of line.access)) c.deref-3.ensures.value)
    (c.in_ok-suffixes.ensures ∙ ap (map (λ (line : SuffixLine). suffix_of line.suffix)) c.deref-4.ensures.value) c.in_ok-steps.ensures
