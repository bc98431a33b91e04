-- Numbers of entries, split by the column of one suffix after another.
use Rattle.std.proofs.Common.{◌≡◌, inl, inr, ℕ, ◌+◌, ◌<◌, ◌≤◌, Bool, true, false, if◌then◌else◌, List, [], length, replicate, ap, sym, ◌∙◌, subst, arith}
use Rattle.std.proofs.lemmas.Bool.{cases_lt, cases_order}
use Rattle.std.proofs.lemmas.List.{get_or_default, get_or_past, get_or-replicate, length-replicate}
use Rattle.dcv_automaton_text.specs.File.{AutomatonFile}
use Rattle.dcv_automaton_text.specs.Meaning.{table_of, suffix_words_of}
use Rattle.dcv_automaton_text.specs.Rules.{IsGood}
use Rattle.dcv_automaton_text.proofs.GoodFiles.{good_file}
use Rattle.dcv_certify.specs.Alike.{bit, has_no_letters, entries_of}
use Rattle.dcv_certify.specs.Joined.{AreAllOwn}
use Rattle.dcv_certify.specs.Numbers.{AreNumbersOf}
use Rattle.dcv_certify.specs.Split.{number_at, bit_at, IsSplit}
use Rattle.dcv_certify.specs.Walk.{suffix_word, IsKnown, IsNumbering}
use Rattle.dcv_certify.proofs.SuffixWords.{count_suffix_words}

pub entries_few : (file : AutomatonFile) → entries_of file ≤ file.states + 1
entries_few file = by (has_no_letters file)
  where
    by : (b : Bool) → file.states + (if b then 1 else 0) ≤ file.states + 1
    by true = omega arith
    by false = omega arith

pub few_entries : (file : AutomatonFile) → IsGood file → entries_of file < 32002
few_entries file good = let few = (good_file file good).few in omega (arith, entries_few file)

-- ---- one suffix more

module _ (file : AutomatonFile) (old new : List ℕ) (column : List Bool) (is : IsNumbering file old) (split : IsSplit old column new) where
  was : (entry : ℕ) → entry < length new → entry < length old
  was entry within = omega (arith, split.count)

  not_before : (one other : ℕ) → one < length new → other < length new → number_at old one ≡ number_at old other → bit_at column one ≡ bit_at column other
      → ¬ (number_at new one < number_at new other)
  not_before one other within there class same less =
      (split.each other (was other there)).none_before (number_at new one) less ((split.each one (was one within)).same_class ∙ class) ((split.each one (was one within)).same_bit ∙ same)

  joined_by : (one other : ℕ) → one < length new → other < length new → number_at old one ≡ number_at old other → bit_at column one ≡ bit_at column other
      → number_at new one ≡ number_at new other
  joined_by one other within there class same =
      elim (cases_order (number_at new one) (number_at new other)) [
        | inl are ↦ are
        | inr (inl before) ↦ absurd (not_before one other within there class same before)
        | inr (inr after) ↦ absurd (not_before other one there within (sym class) (sym same) after)
      ]

  -- what was known still is
  pub known_still : (place : ℕ) → IsKnown file old place → IsKnown file new place
  known_still place known one other within there same =
      known one other (was one within) (was other there)
      (sym (split.each one (was one within)).same_class ∙ ap (number_at old) same ∙ (split.each other (was other there)).same_class)

  module _ (place : ℕ) (within_file : place < length file.suffix_lines)
      (bits : (entry : ℕ) → entry < length old → bit_at column entry ≡ bit (table_of file) entry (suffix_word file place)) where
    pub known_now : IsKnown file new place
    known_now one other within there same =
        sym (bits one (was one within))
        ∙ (sym (split.each one (was one within)).same_bit ∙ ap (bit_at column) same ∙ (split.each other (was other there)).same_bit)
        ∙ bits other (was other there)

    pub split_more : IsNumbering file new
    split_more = record {
      count = split.count ∙ is.count;
      own = record {
        no_later = λ entry within. (split.each entry (was entry within)).no_later;
        own = λ entry within.
            let least = split.each entry (was entry within) in
            joined_by (number_at new entry) entry (omega (arith, least.no_later, within)) within least.same_class least.same_bit;
      };
      joined = λ one other within there alike.
          joined_by one other within there (is.joined one other (was one within) (was other there) alike)
          (bits one (was one within) ∙ alike place [] (omega (arith, within_file, count_suffix_words file)) ∙ sym (bits other (was other there)));
    }

-- ---- at first, and at the end

abbrev pub noughts : ℕ → List ℕ
noughts count = replicate count 0

length-noughts : (count : ℕ) → length (noughts count) ≡ count
length-noughts count = length-replicate count 0

pub all_joined : (file : AutomatonFile) (numbers : List ℕ) → numbers ≡ noughts (entries_of file) → IsNumbering file numbers
all_joined file numbers are = record {
  count = ap length are ∙ length-noughts (entries_of file);
  own = record {
    no_later = λ entry within. omega (arith, zeros entry);
    own = λ entry within. zeros (number_at numbers entry) ∙ sym (zeros entry);
  };
  joined = λ one other within there alike. zeros one ∙ sym (zeros other);
}
  where
    at : (count entry : ℕ) → number_at (noughts count) entry ≡ 0
    at count entry =
        elim (cases_lt entry count) [
          | inl less ↦ get_or-replicate count entry 0 0 less
          | inr past ↦ get_or_past (noughts count) entry 0 (omega (arith, past, length-noughts count))
        ]

    zeros : (entry : ℕ) → number_at numbers entry ≡ 0
    zeros entry = ap (λ (all : List ℕ). number_at all entry) are ∙ at (entries_of file) entry

module _ (file : AutomatonFile) (numbers : List ℕ) (is : IsNumbering file numbers) where
  pub all_known : ((place : ℕ) → place < length file.suffix_lines → IsKnown file numbers place) → AreNumbersOf file numbers
  all_known known = record {
    count = is.count;
    least = record {
      each = λ entry within.
          let number = number_at numbers entry in
          let no_later = is.own.no_later entry within in
          let inside : number < length numbers = omega (arith, no_later, within) in
          record {
            no_later = no_later;
            alike = λ i d h.
                subst (λ word. bit (table_of file) number word ≡ bit (table_of file) entry word) (get_or_default (suffix_words_of file) i [] d h)
                (known i (omega (arith, h, count_suffix_words file)) number entry inside within (is.own.own entry within));
            none_before = λ other before alike.
                absurd (let there : other < length numbers = omega (arith, before, inside) in
                omega (arith, is.joined other entry there within alike, is.own.no_later other there, before));
          };
    };
  }

  -- where nothing is left to be told apart
  pub own_numbers : AreAllOwn numbers → AreNumbersOf file numbers
  own_numbers own =
      all_known (λ place within_file one other within there same.
      ap (λ entry. bit (table_of file) entry (suffix_word file place)) (sym (own one within) ∙ same ∙ own other there))
