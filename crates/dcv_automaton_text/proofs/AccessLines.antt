-- The access words of a file: how they are spelled is determined by the words, and there is one for each state. A word is empty, or one letter,
-- or that of another state and a letter.
use Rattle.std.proofs.Common.{◌≡◌, ◌≢◌, ℕ, zero, suc, ◌+◌, ◌<◌, Bool, true, false, ◌&&◌, ◌||◌, List, [], ◌∷◌, ◌++◌, length, map, drop, fold, get_or, inl, inr, refl, sym, ap, ◌∙◌, subst, arith}
use Rattle.std.specs.Prelude.{nat_eq, nat_lt}
use Rattle.std.specs.Cmp.{unsigned_Decides}
use Rattle.std.specs.List.{AllPairs}
use Rattle.std.proofs.lemmas.Bool.{cases_order, ltb-true}
use Rattle.std.proofs.lemmas.List.{length-append, length-map, get_or-map, get_or_append_left, get_or_push}
use Rattle.dcv_word.specs.Behaviour.{Word}
use Rattle.dcv_language.specs.Laws.{CertifiedIsMinimal}
use Rattle.dcv_automaton_text.specs.File.{Access, EmptyAccess, StartAccess, AfterAccess, AccessLine, AutomatonFile}
use Rattle.dcv_automaton_text.specs.Laws.{WordsShowFewestStates}
use Rattle.dcv_automaton_text.specs.Meaning.{access_word_of, access_words_from, access_words_of, suffix_words_of}
use Rattle.dcv_automaton_text.specs.Rules.{goes_before, keeps_how_access}
use Rattle.dcv_automaton_text.proofs.GoodFiles.{IsGoodFile, good_file}
use Rattle.dcv_automaton_text.proofs.Kept.{both, AreKept}

-- ---- what a line says of a word, given the words of all states

pub record IsAfter (words : List Word) (before : ℕ) (letter : List Bool) (word : Word) : Type 0 where
  pub word_is : word ≡ get_or words before [] ++ letter ∷ []
  pub not_start : 0 < before
  pub is_state : before < length words

abbrev pub IsWordOf : List Word → Access → Word → Type 0
IsWordOf words EmptyAccess word = word ≡ []
IsWordOf words (StartAccess letter) word = word ≡ letter ∷ []
IsWordOf words (AfterAccess before letter) word = IsAfter words before letter word

-- ---- one spelling

length-longer : (word : Word) (letter : List Bool) → length (word ++ letter ∷ []) ≡ suc (length word)
length-longer word letter = omega (arith, length-append word (letter ∷ []))

same_front : (one other : Word) (a b : List Bool) → one ++ a ∷ [] ≡ other ++ b ∷ [] → (one ≡ other) × (a ≡ b)
same_front [] [] a b same = (refl, cc)
same_front [] (letter ∷ other) a b same = absurd (let size = ap length same in let longer = length-longer other b in omega arith)
same_front (letter ∷ one) [] a b same = absurd (let size = ap length same in let longer = length-longer one a in omega arith)
same_front (first ∷ one) (letter ∷ other) a b same =
    let head : first ≡ letter = cc in
    let tail : one ++ a ∷ [] ≡ other ++ b ∷ [] = cc in
    let rest = same_front one other a b tail in
    (λ i. head i ∷ rest.0 i, rest.1)

module _ (words : List Word) (some : (state : ℕ) → 0 < state → state < length words → 0 < length (get_or words state [])) (differ : AllPairs ◌≢◌ words) where
  one_state : (one other : ℕ) → one < length words → other < length words → get_or words one [] ≡ get_or words other [] → one ≡ other
  one_state one other within other_within same =
      elim (cases_order one other) [
        | inl equal ↦ equal
        | inr (inl before) ↦ absurd (differ one other [] before other_within same)
        | inr (inr after) ↦ absurd (differ other one [] after within (sym same))
      ]

  -- a word after another has two letters or more
  size_after : (before : ℕ) (letter : List Bool) (word : Word) → IsAfter words before letter word → 1 < length word
  size_after before letter word is = omega (arith, ap length is.word_is, length-longer (get_or words before []) letter, some before is.not_start is.is_state)

  pub one_access : (one other : Access) (word : Word) → IsWordOf words one word → IsWordOf words other word → one ≡ other
  one_access EmptyAccess EmptyAccess word is its = refl
  one_access EmptyAccess (StartAccess letter) word is its = absurd (omega (arith, ap length is, ap length its))
  one_access EmptyAccess (AfterAccess before letter) word is its = absurd (omega (arith, ap length is, size_after before letter word its))
  one_access (StartAccess letter) EmptyAccess word is its = absurd (omega (arith, ap length is, ap length its))
  one_access (StartAccess a) (StartAccess b) word is its = ap StartAccess (same_front [] [] a b (sym is ∙ its)).1
  one_access (StartAccess a) (AfterAccess before b) word is its = absurd (omega (arith, ap length is, size_after before b word its))
  one_access (AfterAccess before letter) EmptyAccess word is its = absurd (omega (arith, ap length its, size_after before letter word is))
  one_access (AfterAccess before a) (StartAccess b) word is its = absurd (omega (arith, ap length its, size_after before a word is))
  one_access (AfterAccess one a) (AfterAccess other b) word is its =
      let parts = same_front (get_or words one []) (get_or words other []) a b (sym is.word_is ∙ its.word_is) in
      let states = one_state one other is.is_state its.is_state parts.0 in
      λ i. AfterAccess (states i) (parts.1 i)

-- ---- the words that lines spell

abbrev spelled : List Word → Access → List Word
spelled words access = words ++ access_word_of words access ∷ []

length-spelled : (words : List Word) (access : Access) → length (spelled words access) ≡ suc (length words)
length-spelled words access = omega (arith, length-append words (access_word_of words access ∷ []))

length-all : (others : List Access) (words : List Word) → length (fold spelled words others) ≡ length words + length others
length-all [] words = omega arith
length-all (one ∷ others) words = omega (arith, length-all others (spelled words one), length-spelled words one)

-- the words that there were stay
stays : (others : List Access) (words : List Word) (k : ℕ) → k < length words → get_or (fold spelled words others) k [] ≡ get_or words k []
stays [] words k within = refl
stays (one ∷ others) words k within =
    stays others (spelled words one) k (omega (arith, length-spelled words one)) ∙ get_or_append_left words (access_word_of words one ∷ []) [] k within

-- the word at a place is spelled by the earlier ones
record MadeAt (found : List Word) (place : ℕ) (access : Access) : Type 0 where
  earlier : List Word
  same : (j : ℕ) → j < place → get_or earlier j [] ≡ get_or found j []
  is : get_or found place [] ≡ access_word_of earlier access

made_from : (others : List Access) (words : List Word) (k : ℕ) (d : Access) → k < length others → MadeAt (fold spelled words others) (length words + k) (get_or others k d)
made_from [] words k d within = absurd (omega arith)
made_from (one ∷ others) words zero d within =
    let found = fold spelled words (one ∷ others) in
    let here : length words ≡ length words + 0 = omega arith in
    subst (λ place. MadeAt found place one) here (record {
      earlier = words;
      same = λ j before. sym (stays (one ∷ others) words j before);
      is = stays others (spelled words one) (length words) (omega (arith, length-spelled words one)) ∙ get_or_push words (access_word_of words one) [] (length words) refl;
    })
made_from (one ∷ others) words (suc k) d within =
    let next : length (spelled words one) + k ≡ length words + suc k = omega (arith, length-spelled words one) in
    subst (λ place. MadeAt (fold spelled words (one ∷ others)) place (get_or others k d)) next (made_from others (spelled words one) k d (omega arith))

-- ---- the words of a file

abbrev found_of : List Access → List Word
found_of others = fold spelled ([] ∷ []) others

length-behind : (words : List Word) → 0 < length words → suc (length (drop 1 words)) ≡ length words
length-behind [] some = absurd (omega arith)
length-behind (word ∷ words) some = refl

behind_first : (words : List Word) (k : ℕ) → get_or (drop 1 words) k [] ≡ get_or words (suc k) []
behind_first [] k = refl
behind_first (word ∷ words) k = refl

-- a letter after the same word
after_is : (words earlier : List Word) (word : Word) (before : ℕ) (letter : List Bool) → word ≡ get_or earlier before [] ++ letter ∷ [] → get_or earlier before [] ≡ get_or words before []
    → 0 < before → before < length words → IsAfter words before letter word
after_is words earlier word before letter is same later within = record { word_is = is ∙ ap (λ word. word ++ letter ∷ []) same; not_start = later; is_state = within }

module _ (file : AutomatonFile) where
  is_earlier : (place before : ℕ) → (nat_eq place 0 || nat_lt before place) ≡ true → 0 < place → before < place
  is_earlier place before kept some = by (nat_eq place 0) refl kept
    where
      by : (first : Bool) → nat_eq place 0 ≡ first → (first || nat_lt before place) ≡ true → before < place
      by true e kept = absurd (let zero_is = (unsigned_Decides place 0).0 e in omega arith)
      by false e kept = ltb-true before place kept

  pub record GoesBefore (place before : ℕ) : Type 0 where
    pub not_start : 0 < before
    pub is_state : before < file.states
    pub in_order : 0 < place → before < place

  pub goes : (place before : ℕ) → goes_before file place before ≡ true → GoesBefore place before
  goes place before kept =
      let parts = both (nat_lt 0 before && nat_lt before file.states) (nat_eq place 0 || nat_lt before place) kept in
      let states = both (nat_lt 0 before) (nat_lt before file.states) parts.0 in
      record { not_start = ltb-true 0 before states.0; is_state = ltb-true before file.states states.1; in_order = is_earlier place before parts.1 }

  -- of the states after the start
  later_word : (words found : List Word) (place : ℕ) (access : Access) → length words ≡ file.states → ((j : ℕ) → 0 < j → get_or words j [] ≡ get_or found j []) → 0 < place
      → AreKept (keeps_how_access file place access) → MadeAt found place access → IsWordOf words access (get_or words place [])
  later_word words found place EmptyAccess size same later kept made = absurd (let first = (unsigned_Decides place 0).0 kept.0 in omega arith)
  later_word words found place (StartAccess letter) size same later kept made = same place later ∙ made.is
  later_word words found place (AfterAccess before letter) size same later kept made =
      let is = goes place before kept.0 in
      after_is words made.earlier (get_or words place []) before letter (same place later ∙ made.is) (made.same before (is.in_order later) ∙ sym (same before is.not_start)) is.not_start (omega (arith, is.is_state))

  -- of the start
  first_word : (words found : List Word) (access : Access) → length words ≡ file.states → ((j : ℕ) → 0 < j → get_or words j [] ≡ get_or found j [])
      → AreKept (keeps_how_access file 0 access) → get_or words 0 [] ≡ access_word_of found access → IsWordOf words access (get_or words 0 [])
  first_word words found EmptyAccess size same kept is = is
  first_word words found (StartAccess letter) size same kept is = is
  first_word words found (AfterAccess before letter) size same kept is =
      let goes_on = goes 0 before kept.0 in
      after_is words found (get_or words 0 []) before letter is (sym (same before goes_on.not_start)) goes_on.not_start (omega (arith, goes_on.is_state))

  all_spelled : (accesses : List Access) (words : List Word) → words ≡ access_words_from accesses → length accesses ≡ file.states
      → ((k : ℕ) (d : Access) → k < length accesses → AreKept (keeps_how_access file k (get_or accesses k d)))
      → (k : ℕ) (d : Access) → k < length accesses → IsWordOf words (get_or accesses k d) (get_or words k [])
  all_spelled [] words are size kept k d within = absurd (omega arith)
  all_spelled (start ∷ others) words are size kept k d within = by k within
    where
      size_of_words : length words ≡ file.states
      size_of_words = omega (arith, ap length are, length-all others ([] ∷ []), length-behind (found_of others) (omega (arith, length-all others ([] ∷ []))))

      same : (j : ℕ) → 0 < j → get_or words j [] ≡ get_or (found_of others) j []
      same zero later = absurd (omega arith)
      same (suc j) later = ap (λ words. get_or words (suc j) []) are ∙ behind_first (found_of others) j

      by : (k : ℕ) → k < length (start ∷ others) → IsWordOf words (get_or (start ∷ others) k d) (get_or words k [])
      by zero within = first_word words (found_of others) start size_of_words same (kept 0 start (omega arith)) (ap (λ words. get_or words 0 []) are)
      by (suc k) within =
          let place : 1 + k ≡ suc k = omega arith in
          later_word words (found_of others) (suc k) (get_or others k d) size_of_words same (omega arith) (kept (suc k) d within)
          (subst (λ place. MadeAt (found_of others) place (get_or others k d)) place (made_from others ([] ∷ []) k d (omega arith)))

-- each line of a file that keeps the rules spells its word
pub lines_spell : (file : AutomatonFile) → IsGoodFile file → (k : ℕ) (d : AccessLine) → k < length file.access_lines
    → IsWordOf (access_words_of file) (get_or file.access_lines k d).access (get_or (access_words_of file) k [])
unfolding access_words_of
lines_spell file is k d within =
    let access = λ (line : AccessLine). line.access in
    let all = map access file.access_lines in
    let size = length-map file.access_lines access in
    let count = is.words in
    let at = λ (k : ℕ). λ (e : Access). λ (within : k < length file.access_lines). get_or-map access file.access_lines k d e within in
    subst (λ access. IsWordOf (access_words_of file) access (get_or (access_words_of file) k [])) (at k d.access within)
    (all_spelled file all (access_words_of file) refl (omega arith)
    (λ j e below.
    let here : j < length file.access_lines = omega arith in
    subst (λ access. AreKept (keeps_how_access file j access)) (sym (at j e here)) (is.access j d here).how)
    k d.access (omega arith))

-- a file has as many access words as states
length-words_from : (accesses : List Access) → 0 < length accesses → length (access_words_from accesses) ≡ length accesses
length-words_from [] some = absurd (omega arith)
length-words_from (start ∷ others) some = omega (arith, length-all others ([] ∷ []), length-behind (found_of others) (omega (arith, length-all others ([] ∷ []))))

count_of_words : (file : AutomatonFile) → IsGoodFile file → length (access_words_of file) ≡ file.states
unfolding access_words_of
count_of_words file is =
    let access = λ (line : AccessLine). line.access in
    let size = length-map file.access_lines access in
    let count = is.words in
    let some = is.some in
    length-words_from (map access file.access_lines) (omega arith) ∙ (let all : length (map access file.access_lines) ≡ file.states = omega arith in all)

-- so where suffixes tell them all apart, each table automaton has as many states or more
pub words_show_fewest_states : CertifiedIsMinimal → WordsShowFewestStates
words_show_fewest_states minimal k L file table is certificate a_table exact =
    let least = minimal k L (access_words_of file) (suffix_words_of file) table certificate a_table exact in
    omega (arith, count_of_words file (good_file file is))
