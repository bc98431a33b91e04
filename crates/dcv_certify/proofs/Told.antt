-- Which states the suffixes tell apart, by the numbers of their entries.
use Rattle.std.proofs.Common.{◌≡◌, ◌≢◌, ◌⊎◌, inl, inr, ℕ, zero, suc, ◌+◌, ◌<◌, ◌≤◌, Bool, true, false, not, if◌then◌else◌, List, [], ◌∷◌, ◌++◌, length, take, fold, get_or, All, refl, ap, sym, ◌∙◌, subst, arith}
use Rattle.std.specs.Cmp.{unsigned_Decides}
use Rattle.std.proofs.lemmas.List.{length-append, take_all, get_or_default, get_or_past}
use Rattle.std.proofs.lemmas.List.Sums.{fold_more}
use Rattle.std.proofs.lemmas.List.Elements.{All-push, All-nil}
use Rattle.dcv_word.specs.Behaviour.{Word, IsBehaviour}
use Rattle.dcv_language.specs.Automaton.{state_from, accepts_from}
use Rattle.dcv_language.specs.Table.{Table, automaton_of, table_accepts}
use Rattle.dcv_language.proofs.Behaviours.{Widths, Widths-append, Widths-cons, one_letter}
use Rattle.dcv_automaton_text.specs.File.{Access, EmptyAccess, StartAccess, AfterAccess, Suffix, EmptySuffix, ThenSuffix, SuffixLine, AutomatonFile}
use Rattle.dcv_automaton_text.specs.Meaning.{table_of, access_words_of, suffix_word_of, suffix_words_of}
use Rattle.dcv_automaton_text.specs.Rules.{keeps_how_access, IsGood}
use Rattle.dcv_automaton_text.proofs.AccessLines.{IsWordOf}
use Rattle.dcv_certify.proofs.GoodLines.{count_of_words}
use Rattle.dcv_automaton_text.proofs.GoodFiles.{good_file}
use Rattle.dcv_automaton_text.proofs.GoodTables.{table_has_the_files_states}
use Rattle.dcv_automaton_text.proofs.Kept.{AreKept}
use Rattle.dcv_certify.specs.Certified.{set_of, word_at, HasGoodWords, AreTold}
use Rattle.dcv_certify.specs.Alike.{bit, has_no_letters, AreAlike}
use Rattle.dcv_certify.specs.Split.{number_at}
use Rattle.dcv_certify.specs.Links.{suffix_at}
use Rattle.dcv_certify.specs.Numbers.{AreNumbersOf}
use Rattle.dcv_certify.proofs.Alikes.{same_number, alike_by_number}
use Rattle.dcv_certify.proofs.Bits.{bit_of_state, last_behind, last_empty}
use Rattle.dcv_certify.proofs.Landings.{access_at, spelled_at, kept_at, earlier, width, empty_word, no_letters}
use Rattle.dcv_certify.proofs.SuffixWords.{with_suffix, words_upto, GoesOnFrom, no_line, suffix_goes_on}

from-append : (table : Table) (state : ℕ) (u w : Word) → state_from (automaton_of table) state (u ++ w) ≡ state_from (automaton_of table) (state_from (automaton_of table) state u) w
from-append table state [] w = refl
from-append table state (a ∷ u) w = from-append table ((automaton_of table).next state a) u w

accepted_from : (table : Table) (word : Word) → 0 < length word → table_accepts table word ≡ accepts_from (automaton_of table) 0 word
accepted_from table [] some = absurd (omega arith)
accepted_from table (letter ∷ word) some = refl

-- some place where two tests differ, or none
record DifferAt (table : Table) (suffixes : List Word) (one other : ℕ) : Type 0 where
  place : ℕ
  within : place < length suffixes
  differ : bit table one (get_or suffixes place []) ≢ bit table other (get_or suffixes place [])

differ_or_alike : (table : Table) (suffixes : List Word) (one other : ℕ) → DifferAt table suffixes one other ⊎ AreAlike table suffixes one other
differ_or_alike table [] one other = inr (λ i d h. absurd (omega (arith, h)))
differ_or_alike table (word ∷ suffixes) one other =
    by (bit table one word) (bit table other word) refl refl (differ_or_alike table suffixes one other)
  where
    rest : DifferAt table suffixes one other → DifferAt table (word ∷ suffixes) one other
    rest at = record { place = suc at.place; within = omega (arith, at.within); differ = at.differ }

    alike : bit table one word ≡ bit table other word → AreAlike table suffixes one other → AreAlike table (word ∷ suffixes) one other
    alike e are zero d h = e
    alike e are (suc i) d h = are i d (omega (arith, h))

    same : bit table one word ≡ bit table other word → DifferAt table suffixes one other ⊎ AreAlike table suffixes one other → DifferAt table (word ∷ suffixes) one other ⊎ AreAlike table (word ∷ suffixes) one other
    same e (inl at) = inl (rest at)
    same e (inr are) = inr (alike e are)

    by : (a b : Bool) → bit table one word ≡ a → bit table other word ≡ b → DifferAt table suffixes one other ⊎ AreAlike table suffixes one other
        → DifferAt table (word ∷ suffixes) one other ⊎ AreAlike table (word ∷ suffixes) one other
    by true true e f more = same (e ∙ sym f) more
    by false false e f more = same (e ∙ sym f) more
    by true false e f more = inl (record { place = 0; within = omega arith; differ = λ g. absurd (let wrong : true ≡ false = sym e ∙ g ∙ f in cc) })
    by false true e f more = inl (record { place = 0; within = omega arith; differ = λ g. absurd (let wrong : false ≡ true = sym e ∙ g ∙ f in cc) })

module _ (file : AutomatonFile) (good : IsGood file) where
  abbrev k : ℕ
  k = length file.names

  -- ---- widths

  access_widths : (fuel state : ℕ) → state < fuel → 0 < state → state < file.states → Widths k (word_at file state)
  access_widths zero state fits some within = absurd (omega (arith, fits))
  access_widths (suc fuel) state fits some within =
      by (access_at file state) (spelled_at file good state within) (kept_at file good state within)
      (λ before less later. access_widths fuel before (omega (arith, fits, less)) later (omega (arith, less, within)))
    where
      by : (access : Access) → IsWordOf (access_words_of file) access (word_at file state) → AreKept (keeps_how_access file state access)
          → ((before : ℕ) → before < state → 0 < before → Widths k (word_at file before)) → Widths k (word_at file state)
      by EmptyAccess is kept more = subst (Widths k) (sym is) (All-nil (λ (letter : List Bool). length letter ≡ k))
      by (StartAccess letter) is kept more = subst (Widths k) (sym is) (one_letter k letter (width file good letter kept.1.0))
      by (AfterAccess before letter) is kept more =
          subst (Widths k) (sym is.word_is)
          (Widths-append k (word_at file before) (letter ∷ []) (more before (earlier file good state before kept.0 some) is.not_start) (one_letter k letter (width file good letter kept.1.0)))

  word_widths : (state : ℕ) → state < file.states → Widths k (word_at file state)
  word_widths zero within = by (access_at file 0) (spelled_at file good 0 within) (kept_at file good 0 within)
    where
      by : (access : Access) → IsWordOf (access_words_of file) access (word_at file 0) → AreKept (keeps_how_access file 0 access) → Widths k (word_at file 0)
      by EmptyAccess is kept = subst (Widths k) (sym is) (All-nil (λ (letter : List Bool). length letter ≡ k))
      by (StartAccess letter) is kept = subst (Widths k) (sym is) (one_letter k letter (width file good letter kept.1.0))
      by (AfterAccess before letter) is kept =
          let there : before < file.states = omega (arith, is.is_state, count_of_words file (good_file file good)) in
          subst (Widths k) (sym is.word_is)
          (Widths-append k (word_at file before) (letter ∷ []) (access_widths (suc before) before (omega arith) is.not_start there) (one_letter k letter (width file good letter kept.1.0)))
  word_widths (suc state) within = access_widths (suc (suc state)) (suc state) (omega arith) (omega arith) within

  suffix_widths_upto : (place : ℕ) → place ≤ length file.suffix_lines → (All (Widths k) (words_upto file place)) × (length (words_upto file place) ≡ place)
  suffix_widths_upto zero within = (All-nil (Widths k), refl)
  suffix_widths_upto (suc place) within =
      let before = suffix_widths_upto place (omega arith) in
      let words = words_upto file place in
      let word = suffix_word_of words (suffix_at file place) in
      let next : place + 1 ≡ suc place = omega arith in
      let more : words_upto file (suc place) ≡ words ++ word ∷ [] = ap (words_upto file) (sym next) ∙ fold_more with_suffix [] file.suffix_lines place no_line (omega arith) in (
        subst (All (Widths k)) (sym more) (All-push (Widths k) words word before.0 (by (suffix_at file place) (suffix_goes_on file good place (omega arith)) before.0 before.1)),
        ap length more ∙ omega (arith, length-append words (word ∷ []), before.1),
      )
    where
      by : (suffix : Suffix) → GoesOnFrom file place suffix → All (Widths k) (words_upto file place) → length (words_upto file place) ≡ place → Widths k (suffix_word_of (words_upto file place) suffix)
      by EmptySuffix goes all count = All-nil (λ (letter : List Bool). length letter ≡ k)
      by (ThenSuffix letter from) goes all count =
          Widths-cons k letter (get_or (words_upto file place) from []) goes.1 (all from [] (omega (arith, goes.0, count)))

  suffix_widths : All (Widths k) (suffix_words_of file)
  unfolding suffix_words_of
  suffix_widths =
      let all : take (length file.suffix_lines) file.suffix_lines ≡ file.suffix_lines = take_all (length file.suffix_lines) file.suffix_lines (omega arith) in
      subst (λ (lines : List SuffixLine). All (Widths k) (fold with_suffix [] lines)) all (suffix_widths_upto (length file.suffix_lines) (omega arith)).0

  -- ---- told, by bits

  size_is : length (table_of file) ≡ file.states
  size_is = table_has_the_files_states file good

  module _ (words_good : HasGoodWords file) where
    -- what a word that goes on from the access word of a state is
    accepted_at : (state : ℕ) (suffix : Word) → state < file.states → 0 < length (word_at file state ++ suffix)
        → set_of file (word_at file state ++ suffix) ≡ bit (table_of file) state suffix
    accepted_at state suffix within some =
        let table = table_of file in
        let there : state < length table = omega (arith, within, size_is) in
        accepted_from table (word_at file state ++ suffix) some
        ∙ ap (automaton_of table).accepting (from-append table 0 (word_at file state) suffix)
        ∙ ap (λ s. accepts_from (automaton_of table) s suffix) (words_good state within)
        ∙ sym (bit_of_state table state suffix there)

    behaves : (state : ℕ) (suffix : Word) → state < file.states → Widths k suffix → 0 < length (word_at file state ++ suffix) → IsBehaviour k (word_at file state ++ suffix)
    behaves state suffix within widths some = record { nonempty = some; widths = Widths-append k (word_at file state) suffix (word_widths state within) widths }

    -- a listed suffix by which they differ
    told_by : (first second place : ℕ) → first < file.states → second < file.states → place < length (suffix_words_of file)
        → 0 < length (word_at file first ++ get_or (suffix_words_of file) place []) → 0 < length (word_at file second ++ get_or (suffix_words_of file) place [])
        → bit (table_of file) first (get_or (suffix_words_of file) place []) ≢ bit (table_of file) second (get_or (suffix_words_of file) place [])
        → AreTold file first second
    told_by first second place one two within some more differ =
        let suffix = get_or (suffix_words_of file) place [] in
        let widths = suffix_widths place [] within in
        record {
          suffix = suffix;
          listed = (place, (within, get_or_default (suffix_words_of file) place [] suffix within));
          tells = record {
            first_goes_on = behaves first suffix one widths some;
            second_goes_on = behaves second suffix two widths more;
            differ = λ e. differ (sym (accepted_at first suffix one some) ∙ e ∙ accepted_at second suffix two more);
          };
        }

    -- the bits of told states differ at some suffix, by which both words go on
    record ToldAt (first second : ℕ) : Type 0 where
      place : ℕ
      inside : place < length (suffix_words_of file)
      some : 0 < length (word_at file first ++ get_or (suffix_words_of file) place [])
      differ : bit (table_of file) first (get_or (suffix_words_of file) place []) ≢ bit (table_of file) second (get_or (suffix_words_of file) place [])

    told_at : (first second : ℕ) → first < file.states → second < file.states → AreTold file first second → ToldAt first second
    told_at first second one two told =
        let place = told.listed.0 in
        let same : told.suffix ≡ get_or (suffix_words_of file) place [] = told.listed.1.1 ∙ get_or_default (suffix_words_of file) place told.suffix [] told.listed.1.0 in
        let some : 0 < length (word_at file first ++ get_or (suffix_words_of file) place []) = subst (λ w. 0 < length (word_at file first ++ w)) same told.tells.first_goes_on.nonempty in
        let more : 0 < length (word_at file second ++ get_or (suffix_words_of file) place []) = subst (λ w. 0 < length (word_at file second ++ w)) same told.tells.second_goes_on.nonempty in
        record {
          place = place;
          inside = told.listed.1.0;
          some = some;
          differ = λ e. told.tells.differ
              (ap (λ w. set_of file (word_at file first ++ w)) same ∙ accepted_at first (get_or (suffix_words_of file) place []) one some ∙ e
              ∙ sym (accepted_at second (get_or (suffix_words_of file) place []) two more) ∙ sym (ap (λ w. set_of file (word_at file second ++ w)) same));
        }

    -- ---- by numbers

    -- the number of a state is that of another, or that of the start with its other flag is
    abbrev pub Joined : List ℕ → ℕ → ℕ → Type 0
    Joined numbers first second =
        (number_at numbers first ≡ number_at numbers second)
        ⊎ ((first ≡ 0) × (number_at numbers file.states ≡ number_at numbers second))

    module _ (numbers : List ℕ) (are : AreNumbersOf file numbers) where
      alike_of : (one other : ℕ) → one < length numbers → other < length numbers → number_at numbers one ≡ number_at numbers other → AreAlike (table_of file) (suffix_words_of file) one other
      alike_of one other within its same = alike_by_number (table_of file) (suffix_words_of file) numbers are.least one other within its same

      number_of_alike : (one other : ℕ) → one < length numbers → other < length numbers → AreAlike (table_of file) (suffix_words_of file) one other → number_at numbers one ≡ number_at numbers other
      number_of_alike one other within its alike = same_number (table_of file) (suffix_words_of file) numbers are.least one other within its alike

      is_entry : (state : ℕ) → state < file.states → state < length numbers
      is_entry state within = omega (arith, within, are.count)

      -- the start stands a second time where its word is empty
      stands_twice : word_at file 0 ≡ [] → file.states < length numbers
      stands_twice empty =
          let count : length numbers ≡ file.states + 1 = are.count ∙ ap (λ (b : Bool). file.states + (if b then 1 else 0)) (no_letters file good empty) in
          omega arith

      -- and else it has its own number there, that of itself
      stands_once : has_no_letters file ≡ false → number_at numbers file.states ≡ number_at numbers 0
      stands_once e =
          let count : length numbers ≡ file.states + 0 = are.count ∙ ap (λ (b : Bool). file.states + (if b then 1 else 0)) e in
          let first : number_at numbers 0 ≤ 0 = (are.least.each 0 (is_entry 0 (good_file file good).some)).no_later in
          let past : number_at numbers file.states ≡ 0 = get_or_past numbers file.states 0 (omega arith) in
          omega arith

      -- of a suffix with a letter, the other flag says the same
      other_flag : (suffix : Word) → 0 < length suffix → bit (table_of file) file.states suffix ≡ bit (table_of file) 0 suffix
      other_flag [] some = absurd (omega arith)
      other_flag (letter ∷ word) some =
          ap (λ n. bit (table_of file) n (letter ∷ word)) (sym size_is) ∙ last_behind (table_of file) letter word (let n = size_is in let some_states = (good_file file good).some in omega arith)

      same_not_told : (first second : ℕ) → first < second → second < file.states → number_at numbers first ≡ number_at numbers second → ¬ AreTold file first second
      same_not_told first second before within same told =
          let at = told_at first second (omega arith) within told in
          at.differ (alike_of first second (is_entry first (omega arith)) (is_entry second within) same at.place [] at.inside)

      pub joined_not_told : (first second : ℕ) → first < second → second < file.states → Joined numbers first second → ¬ AreTold file first second
      joined_not_told first second before within (inl same) = same_not_told first second before within same
      joined_not_told first second before within (inr (start, same)) = by (has_no_letters file) refl
        where
          by : (b : Bool) → has_no_letters file ≡ b → ¬ AreTold file first second
          by false e = same_not_told first second before within (ap (number_at numbers) start ∙ sym (stands_once e) ∙ same)
          by true e = λ told.
              let empty = empty_word file good e in
              let at = told_at first second (omega arith) within told in
              let suffix = get_or (suffix_words_of file) at.place [] in
              let letters : 0 < length suffix = subst (λ w. 0 < length (w ++ suffix)) (ap (word_at file) start ∙ empty) at.some in
              at.differ
              (ap (λ n. bit (table_of file) n suffix) start ∙ sym (other_flag suffix letters)
              ∙ alike_of file.states second (stands_twice empty) (is_entry second within) same at.place [] at.inside)

      longer : (state : ℕ) (suffix : Word) → 0 < length (word_at file state) → 0 < length (word_at file state ++ suffix)
      longer state suffix some = omega (arith, some, length-append (word_at file state) suffix)

      longer_suffix : (state : ℕ) (suffix : Word) → 0 < length suffix → 0 < length (word_at file state ++ suffix)
      longer_suffix state suffix some = omega (arith, some, length-append (word_at file state) suffix)

      -- the word of a state after the start has a letter
      some_letters : (state : ℕ) → 0 < state → state < file.states → 0 < length (word_at file state)
      some_letters state later within = by (access_at file state) (spelled_at file good state within) (kept_at file good state within)
        where
          by : (access : Access) → IsWordOf (access_words_of file) access (word_at file state) → AreKept (keeps_how_access file state access) → 0 < length (word_at file state)
          by EmptyAccess is kept = absurd (let zero_is = (unsigned_Decides state 0).0 kept.0 in omega arith)
          by (StartAccess letter) is kept = omega (arith, ap length is)
          by (AfterAccess before letter) is kept = omega (arith, ap length is.word_is, length-append (word_at file before) (letter ∷ []))

      -- where both words have letters, any suffix by which they differ tells them apart
      told_where_some : (first second : ℕ) → first < second → second < file.states → 0 < length (word_at file first) → ¬ AreAlike (table_of file) (suffix_words_of file) first second → AreTold file first second
      told_where_some first second before within some apart =
          by (differ_or_alike (table_of file) (suffix_words_of file) first second)
        where
          by : DifferAt (table_of file) (suffix_words_of file) first second ⊎ AreAlike (table_of file) (suffix_words_of file) first second → AreTold file first second
          by (inr alike) = absurd (apart alike)
          by (inl at) =
              told_by first second at.place (omega arith) within at.within
              (longer first (get_or (suffix_words_of file) at.place []) some)
              (longer second (get_or (suffix_words_of file) at.place []) (some_letters second (omega arith) within)) at.differ

      told_from_start : (second : ℕ) → 0 < second → second < file.states
          → ¬ AreAlike (table_of file) (suffix_words_of file) 0 second → ¬ AreAlike (table_of file) (suffix_words_of file) file.states second → AreTold file 0 second
      told_from_start second later within apart other_apart =
          by (differ_or_alike (table_of file) (suffix_words_of file) 0 second) (differ_or_alike (table_of file) (suffix_words_of file) file.states second)
        where
          at_letters : (place : ℕ) → place < length (suffix_words_of file) → 0 < length (get_or (suffix_words_of file) place [])
              → bit (table_of file) 0 (get_or (suffix_words_of file) place []) ≢ bit (table_of file) second (get_or (suffix_words_of file) place []) → AreTold file 0 second
          at_letters place inside some differ =
              told_by 0 second place (omega arith) within inside (longer_suffix 0 (get_or (suffix_words_of file) place []) some)
              (longer_suffix second (get_or (suffix_words_of file) place []) some) differ

          both_flags : (a b : Bool) → a ≢ b → not a ≢ b → ⊥
          both_flags true true f g = f refl
          both_flags true false f g = g refl
          both_flags false true f g = g refl
          both_flags false false f g = f refl

          last_flag : bit (table_of file) file.states [] ≡ not (bit (table_of file) 0 [])
          last_flag = ap (λ n. bit (table_of file) n []) (sym size_is) ∙ last_empty (table_of file) (let n = size_is in omega arith)

          second_case : (word : Word) → (0 < length word → AreTold file 0 second) → bit (table_of file) 0 [] ≢ bit (table_of file) second []
              → bit (table_of file) file.states word ≢ bit (table_of file) second word → AreTold file 0 second
          second_case [] go one two = absurd (both_flags (bit (table_of file) 0 []) (bit (table_of file) second []) one (λ e. two (last_flag ∙ e)))
          second_case (letter ∷ word) go one two = go (omega arith)

          first_case : (word : Word) → (0 < length word → AreTold file 0 second) → bit (table_of file) 0 word ≢ bit (table_of file) second word
              → (bit (table_of file) 0 [] ≢ bit (table_of file) second [] → AreTold file 0 second) → AreTold file 0 second
          first_case [] go one more = more one
          first_case (letter ∷ word) go one more = go (omega arith)

          by : DifferAt (table_of file) (suffix_words_of file) 0 second ⊎ AreAlike (table_of file) (suffix_words_of file) 0 second
              → DifferAt (table_of file) (suffix_words_of file) file.states second ⊎ AreAlike (table_of file) (suffix_words_of file) file.states second → AreTold file 0 second
          by (inr alike) other = absurd (apart alike)
          by (inl at) (inr alike) = absurd (other_apart alike)
          by (inl at) (inl last) =
              let one = get_or (suffix_words_of file) at.place [] in
              let two = get_or (suffix_words_of file) last.place [] in
              first_case one (λ some. at_letters at.place at.within some at.differ) at.differ
              (λ flags. second_case two (λ some. at_letters last.place last.within some (λ e. last.differ (other_flag two some ∙ e))) flags last.differ)

      pub told_by_numbers : (first second : ℕ) → first < second → second < file.states → ¬ Joined numbers first second → AreTold file first second
      told_by_numbers first second before within apart = by (word_at file first) refl first refl
        where
          not_alike : ¬ AreAlike (table_of file) (suffix_words_of file) first second
          not_alike alike = apart (inl (number_of_alike first second (is_entry first (omega arith)) (is_entry second within) alike))

          by : (word : Word) → word_at file first ≡ word → (state : ℕ) → first ≡ state → AreTold file first second
          by (letter ∷ word) e state is = told_where_some first second before within (omega (arith, ap length e)) not_alike
          by [] e zero is =
              subst (λ n. AreTold file n second) (sym is)
              (told_from_start second (omega arith) within
              (subst (λ n. ¬ AreAlike (table_of file) (suffix_words_of file) n second) is not_alike)
              (λ alike. apart (inr (is, number_of_alike file.states second (stands_twice (sym (ap (word_at file) is) ∙ e)) (is_entry second within) alike))))
          by [] e (suc state) is = absurd (omega (arith, ap length e, some_letters first (omega (arith, is)) (omega arith)))
