use Rattle.std.specs.Prelude.{slice_index_or}
use Rattle.std.proofs.Common.{◌≡◌, ◌∙◌, length, map, sym, ap, subst, arith}
use Rattle.dcv_dfa.specs.Raw.{raw_value, IsRaw, raw_accepts}
use Rattle.dcv_automaton_text.proofs.GoodFiles.{good_file}
use Rattle.dcv_automaton_read.specs.Walk.{IsEarlier}
use Rattle.dcv_automaton_read.specs.declared.file.Row.{Row}
use Rattle.dcv_certify.specs.Built.{ref_at, AreNodes, StandFor}
use Rattle.dcv_certify.proofs.Building.{are_nodes}
use Rattle.dcv_certify.proofs.BuiltSets.{count_of_rows, rows_are_earlier, is_made, accepts_same}
use Rattle.dcv_certify.proofs.built.automaton_of.Goals as goal
use Rattle.dcv_certify.proofs.built.automaton_of.Goals.{In_ok-flags}

pub overflow_cast-names : goal.overflow_cast-names
overflow_cast-names c = omega (arith, (good_file c.args.file.now c.keeps_the_rules.ensures).names, ap length c.names.ensures)

pub refs_of-requires : goal.refs_of-requires
refs_of-requires c = subst (λ width. AreNodes width c.nodes.result.now) (sym (ap length c.names.ensures)) (are_nodes c.args.file.now c.nodes.result.now c.nodes.ensures)

pub rows_of-requires : goal.rows_of-requires
rows_of-requires c i d within =
    let file = c.args.file.now in
    let rows = c.rows-states.result.now in
    let count : length c.nodes.result.now ≡ length c.deref.result.now = sym c.in_ok-built.ensures.size ∙ sym (ap length c.deref.ensures.value) in
    subst (λ count. IsEarlier count (slice_index_or rows i d).next) count
    (rows_are_earlier file c.nodes.result.now c.nodes.ensures rows c.rows-states.ensures (c.good_files_are_tables.ensures.table file c.keeps_the_rules.ensures)
    (count_of_rows file rows c.rows-states.ensures) i d within)

made_is : (c : In_ok-flags) → raw_value c.in_ok-built.built.arena c.in_ok-rows.rows.items c.in_ok-flags.flags.items 0 ≡ raw_value c.in_ok-built.built.arena
    (map (λ (row : Row). ref_at c.in_ok-built.built.refs.items row.next) c.rows-states.result.now) (map (λ (row : Row). row.accepting) c.rows-states.result.now) 0
made_is c =
    let rows = c.in_ok-rows.ensures ∙ ap (λ refs. map (λ (row : Row). ref_at refs row.next) c.rows-states.result.now) c.deref.ensures.value in
    λ i. raw_value c.in_ok-built.built.arena (rows i) (c.in_ok-flags.ensures i) 0

stand : (c : In_ok-flags) → StandFor (length c.args.file.now.names) c.nodes.result.now c.in_ok-built.built.arena c.in_ok-built.built.refs.items
stand c = subst (λ width. StandFor width c.nodes.result.now c.in_ok-built.built.arena c.in_ok-built.built.refs.items) (ap length c.names.ensures) c.in_ok-built.ensures

pub new-requires : goal.new-requires
new-requires c =
    let file = c.args.file.now in
    let rows = c.rows-states.result.now in
    subst IsRaw (sym (made_is c))
    (is_made file c.nodes.result.now c.nodes.ensures rows c.rows-states.ensures (c.good_files_are_tables.ensures.table file c.keeps_the_rules.ensures)
    (count_of_rows file rows c.rows-states.ensures) c.letters_of_width_are_all.ensures.place c.in_ok-built.built.arena c.in_ok-built.built.refs.items (stand c))

pub returns-clause-accepts : goal.returns-clause-accepts
returns-clause-accepts c word is =
    let file = c.args.file.now in
    let rows = c.rows-states.result.now in
    let here = (goal.at.returns-clause-accepts c).In_ok-flags in
    ap (λ raw. raw_accepts raw word) (c.new.ensures ∙ made_is here)
    ∙ accepts_same file c.nodes.result.now c.nodes.ensures rows c.rows-states.ensures (c.good_files_are_tables.ensures.table file c.keeps_the_rules.ensures)
    (count_of_rows file rows c.rows-states.ensures) c.letters_of_width_are_all.ensures.place c.in_ok-built.built.arena c.in_ok-built.built.refs.items (stand here) word is
