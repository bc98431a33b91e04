use Rattle.std.proofs.Common.{◌≡◌, ◌∷◌, [], List, length, map, sym, subst, arith}
use Rattle.std.specs.Prelude.{slice_index_or, IfOk}
use Rattle.dcv_word.specs.Behaviour.{Word}
use Rattle.dcv_automaton_read.specs.File.{suffix_from}
use Rattle.dcv_language.specs.declared.certificate.Suffix.{Suffix}
use Rattle.dcv_language.specs.declared.certificate.Suffix.TheVariants.{Then}
use Rattle.dcv_automaton_text.specs.Meaning.{table_of, suffix_word_of}
use Rattle.dcv_certify.specs.Columns.{IsColumn, IsColumnBefore, GoesOnFromColumn, with_start}
use Rattle.dcv_certify.specs.Split.{bit_at}
use Rattle.dcv_certify.specs.Steps.{LeadTo}
use Rattle.dcv_certify.proofs.Bits.{if_ok_more, behind_is}
use Rattle.dcv_certify.proofs.Stepping.{states_below}
use Rattle.dcv_certify.proofs.columns.column.Goals as goal

pub behind-requires-clause-some : goal.behind-requires-clause-some
behind-requires-clause-some c =
    let leads = subst (LeadTo (table_of c.args.file.now) c.in-Then.letter) (sym c.next_at.ensures) c.in_ok-place-in-Then.ensures.leads in
    omega (arith, leads.count, (c.good_files_are_tables.ensures.table c.args.file.now c.keeps_the_rules.ensures).nonempty)

pub behind-requires-clause-states : goal.behind-requires-clause-states
behind-requires-clause-states c =
    let leads = subst (LeadTo (table_of c.args.file.now) c.in-Then.letter) (sym c.next_at.ensures) c.in_ok-place-in-Then.ensures.leads in
    let goes = subst (λ (suffix : Suffix). GoesOnFromColumn c.args.file.now c.args.from.now (suffix_from suffix)) c.in-Then.is c.requires.goes_on in
    states_below (length c.args.file.now.names) (table_of c.args.file.now) c.in-Then.letter c.next_at.result.now (length c.args.from.now)
    (c.good_files_are_tables.ensures.table c.args.file.now c.keeps_the_rules.ensures) leads (omega (arith, goes.0))

pub returns-in_ok-place-in-Then-clause-column : goal.returns-in_ok-place-in-Then-clause-column
returns-in_ok-place-in-Then-clause-column c =
    let table = table_of c.args.file.now in
    let is_table = c.good_files_are_tables.ensures.table c.args.file.now c.keeps_the_rules.ensures in
    let leads = subst (LeadTo table c.in-Then.letter) (sym c.next_at.ensures) c.in_ok-place-in-Then.ensures.leads in
    subst (λ (suffix : Suffix). IfOk c.behind.result (λ column. (words : List Word) → IsColumnBefore table words c.args.from.now (suffix_from suffix)
    → IsColumn table (suffix_word_of words (suffix_from suffix)) column.items))
    (sym c.in-Then.is)
    (if_ok_more c.behind.result (λ column. column.items ≡ with_start (map (bit_at c.args.from.now) c.next_at.result.now))
    (λ column. (words : List Word) → IsColumnBefore table words c.args.from.now (suffix_from (Then c.in-Then.letter c.in-Then.field-1))
    → IsColumn table (c.in-Then.letter ∷ slice_index_or words c.in-Then.field-1 []) column.items)
    (λ column made words is. subst (IsColumn table (c.in-Then.letter ∷ slice_index_or words c.in-Then.field-1 [])) (sym made)
    (behind_is (length c.args.file.now.names) table is_table c.in-Then.letter (slice_index_or words c.in-Then.field-1 []) c.args.from.now c.next_at.result.now leads is))
    c.behind.ensures)
