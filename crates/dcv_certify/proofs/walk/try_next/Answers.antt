use Rattle.std.proofs.Common.{◌≡◌, ◌∙◌, ◌<◌, ◌∷◌, ◌++◌, [], List, None, Bool, length, ap, sym, subst, subst₂, arith}
use Rattle.std.proofs.lemmas.List.{get_or_default}
use Rattle.dcv_automaton_text.specs.Meaning.{table_of, suffix_words_of}
use Rattle.dcv_automaton_text.proofs.GoodTables.{table_has_the_files_states}
use Rattle.dcv_certify.specs.Columns.{IsColumn, IsColumnBefore}
use Rattle.dcv_certify.specs.Links.{suffix_at, link_at}
use Rattle.dcv_certify.specs.Split.{IsSplit}
use Rattle.dcv_certify.specs.Walk.{waiting, work_left, IsFirstBelow, suffix_word, IsUntried, IsWalk}
use Rattle.dcv_certify.proofs.Numbering.{entries_few, few_entries}
use Rattle.dcv_certify.proofs.Walks.{at_is, goes_on_read, made_of, walked, less_left}
use Rattle.dcv_certify.proofs.walk.try_next.Goals as goal
use Rattle.dcv_certify.proofs.walk.try_next.Goals.{After-index-suffixes-place, In_ok-column, After-wait-2}

-- the suffix is one, and the column is that of the one that it goes on from
before : (c : After-index-suffixes-place) → IsUntried c.args.file.now c.args.at
before c = at_is c.args.file.now c.keeps_the_rules.ensures c.args.links.now.first.items c.args.links.now.next.items c.requires.links c.args.left.now.items c.args.at c.args.numbers.now.items c.requires.walk

has : (c : After-index-suffixes-place) → IsColumnBefore (table_of c.args.file.now) (suffix_words_of c.args.file.now) c.deref.result.now (suffix_at c.args.file.now c.args.at.place)
has c = subst (λ column. IsColumnBefore (table_of c.args.file.now) (suffix_words_of c.args.file.now) column (suffix_at c.args.file.now c.args.at.place)) (sym c.deref.ensures.value) (before c).1

pub column-requires-clause-goes_on : goal.column-requires-clause-goes_on
column-requires-clause-goes_on c =
    let here = (goal.at.column-requires-clause-goes_on c).After-index-suffixes-place in
    goes_on_read c.args.file.now c.keeps_the_rules.ensures c.suffixes.result.now c.suffixes.ensures c.index-suffixes-place.result c.args.at.place (before here).0 c.index-suffixes-place.is
    c.deref.result.now (has here)

-- the column of this suffix
made : (c : In_ok-column) → After-index-suffixes-place → IsColumn (table_of c.args.file.now) (suffix_word c.args.file.now c.args.at.place) c.in_ok-column.column.items
made c here =
    made_of c.args.file.now c.keeps_the_rules.ensures c.suffixes.result.now c.suffixes.ensures c.index-suffixes-place.result c.args.at.place
    (at_is c.args.file.now c.keeps_the_rules.ensures c.args.links.now.first.items c.args.links.now.next.items c.requires.links c.args.left.now.items c.args.at c.args.numbers.now.items c.requires.walk).0
    c.index-suffixes-place.is c.deref.result.now
    (subst (λ column. IsColumnBefore (table_of c.args.file.now) (suffix_words_of c.args.file.now) column (suffix_at c.args.file.now c.args.at.place)) (sym c.deref.ensures.value)
    (at_is c.args.file.now c.keeps_the_rules.ensures c.args.links.now.first.items c.args.links.now.next.items c.requires.links c.args.left.now.items c.args.at c.args.numbers.now.items c.requires.walk).1)
    c.in_ok-column.column.items (λ words known. c.in_ok-column.ensures.column words known)

pub split_all-requires-clause-count : goal.split_all-requires-clause-count
split_all-requires-clause-count c =
    let column = made (goal.at.split_all-requires-clause-count c).In_ok-column (goal.at.split_all-requires-clause-count c).After-index-suffixes-place in
    omega (
      arith,
      column.count,
      c.requires.walk.numbering.count,
      entries_few c.args.file.now,
      table_has_the_files_states c.args.file.now c.keeps_the_rules.ensures,
      ap length c.deref-2.ensures.value,
    )

pub split_all-requires-clause-few : goal.split_all-requires-clause-few
split_all-requires-clause-few c =
    omega (arith, few_entries c.args.file.now c.keeps_the_rules.ensures, c.requires.walk.numbering.count)

pub first_below-below-requires : goal.first_below-below-requires
first_below-below-requires c =
    let column = made (goal.at.first_below-below-requires c).In_ok-column (goal.at.first_below-below-requires c).After-index-suffixes-place in
    omega (arith, column.count, ap length c.deref-3.ensures.value)

-- what is to be tried then
then : (c : After-wait-2) → c.args.at.place < length c.args.file.now.suffix_lines → c.wait-2.new.left.items ≡ waiting c.wait.new.left.items c.in_ok-column.column c.first_below-below.result
    → c.wait-2.new.left.items ≡ waiting (waiting c.args.left.now.items c.args.at.column (link_at c.args.links.now.next.items c.args.at.place)) c.in_ok-column.column c.first_below-below.result
then c within is =
    let next : c.index.result.now ≡ link_at c.args.links.now.next.items c.args.at.place =
    c.index.ensures ∙ get_or_default c.args.links.now.next.items c.args.at.place c.index.result.now None (omega (arith, within, c.requires.links.next_count)) in
    is ∙ ap (λ left. waiting left c.in_ok-column.column c.first_below-below.result) c.in_ok-wait.ensures
    ∙ ap (λ link. waiting (waiting c.args.left.now.items c.args.at.column link) c.in_ok-column.column c.first_below-below.result) next

-- the first suffix below it, unless that tells no states apart
below : (c : After-wait-2) → c.args.at.place < length c.args.file.now.suffix_lines → IsFirstBelow c.in_ok-column.column.items (link_at c.args.links.now.first.items c.args.at.place) c.first_below-below.result
below c within =
    let first : c.index-2.result.now ≡ link_at c.args.links.now.first.items c.args.at.place =
    c.index-2.ensures ∙ get_or_default c.args.links.now.first.items c.args.at.place c.index-2.result.now None (omega (arith, within, c.requires.links.count)) in
    subst₂ (λ column link. IsFirstBelow column link c.first_below-below.result) c.deref-3.ensures.value first c.first_below-below.ensures

pub returns-clause-walk : goal.returns-clause-walk
returns-clause-walk c =
    let file = c.args.file.now in
    let good = c.keeps_the_rules.ensures in
    let here = (goal.at.returns-clause-walk c).After-index-suffixes-place in
    let end = (goal.at.returns-clause-walk c).After-wait-2 in
    let column = made (goal.at.returns-clause-walk c).In_ok-column here in
    let split : IsSplit c.args.numbers.now.items c.in_ok-column.column.items c.split_all.new.numbers.items =
    subst (λ (column : List Bool). IsSplit c.args.numbers.now.items column c.split_all.new.numbers.items) c.deref-2.ensures.value c.in_ok-splits.ensures in
    subst (λ left. IsWalk file c.args.links.now.first.items c.args.links.now.next.items left c.split_all.new.numbers.items)
    (sym (then end (before here).0 c.in_ok-wait-2.ensures))
    (walked file good c.args.links.now.first.items c.args.links.now.next.items c.requires.links (c.good_files_are_tables.ensures.table file good) c.args.left.now.items c.args.at
    c.in_ok-column.column c.first_below-below.result c.args.numbers.now.items c.split_all.new.numbers.items (below end (before here).0) c.requires.walk column split)

pub returns-clause-shorter : goal.returns-clause-shorter
returns-clause-shorter c =
    let file = c.args.file.now in
    let here = (goal.at.returns-clause-shorter c).After-index-suffixes-place in
    let end = (goal.at.returns-clause-shorter c).After-wait-2 in
    subst (λ left. work_left file c.args.links.now.next.items left < work_left file c.args.links.now.next.items (c.args.left.now.items ++ c.args.at ∷ []))
    (sym (then end (before here).0 c.in_ok-wait-2.ensures))
    (less_left file c.keeps_the_rules.ensures c.args.links.now.first.items c.args.links.now.next.items c.requires.links c.args.left.now.items c.args.at c.in_ok-column.column
    c.first_below-below.result (below end (before here).0) (before here).0)
