use Rattle.dcv_language.proofs.Words.{WordLaws}
use Rattle.dcv_language.proofs.OneTable.{one_canonical_table}
use Rattle.dcv_language.proofs.laws.one_canonical_table.Goals as goal

pub returns : goal.returns
returns c =
    let laws : WordLaws = record {
      total = c.words_are_in_order.ensures.total;
      same = c.words_are_in_order.ensures.same;
      shorter = c.words_are_in_order.ensures.shorter;
      front = c.word_order_is_kept.ensures.front;
      end = c.word_order_is_kept.ensures.end;
      ends = c.word_order_is_kept.ensures.ends;
    } in
    one_canonical_table laws c.letters_are_numbers.ensures.width c.letters_are_numbers.ensures.bits
