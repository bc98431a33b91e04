use Rattle.dcv_language.proofs.Words.{WordLaws, later_words_go_on_later, later_letters_go_on_later}
use Rattle.dcv_language.proofs.Searches.{front_of_least_is_least, search_finds_all, found_words_are_least, search_finds_all_before, found_words_are_least_before}
use Rattle.dcv_language.proofs.laws.breadth_first_is_least.Goals as goal

pub returns : goal.returns
returns c =
    let laws : WordLaws = record {
      total = c.words_are_in_order.ensures.total;
      same = c.words_are_in_order.ensures.same;
      shorter = c.words_are_in_order.ensures.shorter;
      front = c.word_order_is_kept.ensures.front;
      end = c.word_order_is_kept.ensures.end;
      ends = c.word_order_is_kept.ensures.ends;
    } in
    record {
      front = front_of_least_is_least laws;
      all = search_finds_all laws;
      least = found_words_are_least laws;
      all_before = search_finds_all_before laws;
      least_before = found_words_are_least_before laws;
      later_words = later_words_go_on_later laws;
      later_letters = later_letters_go_on_later laws;
    }
