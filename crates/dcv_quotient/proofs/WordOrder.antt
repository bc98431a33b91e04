-- The order of words, as one record of what dcv_word proves of it.
use Rattle.dcv_word.proofs.Orders.{shortlex_total, words_Equal, shortlex-shorter, shortlex-front, shortlex-end, shortlex-ends}
use Rattle.dcv_language.proofs.Words.{WordLaws}

pub word_laws : WordLaws
word_laws = record {
  total = shortlex_total;
  same = words_Equal;
  shorter = shortlex-shorter;
  front = shortlex-front;
  end = shortlex-end;
  ends = shortlex-ends;
}
