-- The lines of access words and suffixes that are printed of an automaton keep the table rules.
use Rattle.std.proofs.Common.{◌≡◌, ℕ, zero, suc, ◌+◌, ◌<◌, Bool, true, false, ◌&&◌, ◌||◌, List, [], ◌∷◌, ◌++◌, length, map, take, drop, fold, get_or, Some, refl, sym, ap, ◌∙◌, subst, arith}
use Rattle.std.specs.Prelude.{nat_eq, nat_lt}
use Rattle.std.specs.Cmp.{unsigned_Decides}
use Rattle.std.specs.List.{All, enumerate_from}
use Rattle.std.proofs.lemmas.Bool.{lt-ltb, le-leb}
use Rattle.std.proofs.lemmas.List.{length-map, length-take, append_assoc}
use Rattle.std.proofs.lemmas.List.FromFn.{length-enumerate_from}
use Rattle.std.proofs.lemmas.List.Sums.{fold-append}
use Rattle.std.proofs.lemmas.Option.{slice_get-get_or}
use Rattle.dcv_word.specs.Behaviour.{Word, IsBehaviour}
use Rattle.dcv_language.specs.Canonical.{access_word, IsStart, IsCanonical}
use Rattle.dcv_language.specs.Certificate.{GrowsFrom, GrowsInTurn, IsCertificate}
use Rattle.dcv_language.specs.Language.{Language}
use Rattle.dcv_language.specs.Table.{Table}
use Rattle.dcv_language.specs.declared.count.Count.{Count}
use Rattle.dcv_dfa.specs.Auto.{table_of_states}
use Rattle.dcv_dfa.specs.NodeLines.{node_lines_of}
use Rattle.dcv_dfa.specs.Raw.{RawValue, raw_accepts}
use Rattle.dcv_dfa.proofs.States.{table_has_the_states}
use Rattle.dcv_language.specs.declared.certificate.Access.{Access as CodeAccess}
use Rattle.dcv_language.specs.declared.certificate.Access.TheVariants.{Empty as NoLetters, Start, After}
use Rattle.dcv_language.specs.declared.certificate.Suffix.{Suffix as CodeSuffix}
use Rattle.dcv_language.specs.declared.certificate.Suffix.TheVariants.{Empty, Then}
use Rattle.dcv_certificate.specs.Proof.{suffix_word, suffix_words, IsSpelled, IsProof}
use Rattle.dcv_automaton_text.specs.Rules.{has_width, has_all_states, has_all_access, keeps_access, keeps_how_access, keeps_suffix, keeps_how_suffix}
use Rattle.dcv_automaton_text.proofs.Kept.{AreKept, both_true}
use Rattle.dcv_print.specs.Printed.{state_line, access_line, suffix_line, printed_file, file_of}
use Rattle.dcv_automaton_read.specs.File.{access_from, suffix_from}
use Rattle.dcv_print.proofs.PrintedNodes.{same_number}

-- ---- access words

some_start : (k : ℕ) (L : Language) (table : Table) (word : Word) → IsStart k L table word → 0 < length word → IsBehaviour k word
some_start k L table [] is some = absurd (omega arith)
some_start k L table (letter ∷ letters) is some = is.least.behaviour

module _ (k : ℕ) (L : Language) (table : Table) (words : List Word) (canonical : IsCanonical k L table words) where
  -- an access word is a behaviour, but for that of a start that stands alone
  behaves : (state : ℕ) → state < length words → 0 < length (access_word words state) → IsBehaviour k (access_word words state)
  behaves zero within some = some_start k L table (access_word words 0) canonical.start some
  behaves (suc state) within some = (canonical.least (suc state) (omega arith) (omega (arith, canonical.words))).behaviour

  no_letters_at_start : (state : ℕ) → state < length words → access_word words state ≡ [] → nat_eq state 0 ≡ true
  no_letters_at_start zero within none = refl
  no_letters_at_start (suc state) within none =
      let some = (canonical.least (suc state) (omega arith) (omega (arith, canonical.words))).behaviour.nonempty in
      absurd (let size : length (access_word words (suc state)) ≡ 0 = ap length none in omega arith)

  -- the last letter of a word has the width
  last_width : (front : Word) (letter : List Bool) → All (λ letter. length letter ≡ k) (front ++ letter ∷ []) → length letter ≡ k
  last_width [] letter widths = widths 0 letter (omega arith)
  last_width (first ∷ front) letter widths = last_width front letter (λ i d within. widths (suc i) d (omega arith))

  ends_with_width : (state : ℕ) (front : Word) (letter : List Bool) → state < length words → access_word words state ≡ front ++ letter ∷ [] → length letter ≡ k
  ends_with_width state front letter within same =
      let some : 0 < length (access_word words state) = subst (λ word. 0 < length word) (sym same) (is_some front) in
      last_width front letter (subst (λ word. All (λ letter. length letter ≡ k) word) same (behaves state within some).widths)
    where
      is_some : (front : Word) → 0 < length (front ++ letter ∷ [])
      is_some [] = omega arith
      is_some (first ∷ front) = omega arith

earlier_or_start : (state before : ℕ) → (0 < state → before < state) → (nat_eq state 0 || nat_lt before state) ≡ true
earlier_or_start zero before in_order = refl
earlier_or_start (suc state) before in_order =
    ap (λ is_earlier. nat_eq (suc state) 0 || is_earlier) (lt-ltb before (suc state) (in_order (omega arith))) ∙ or_true (nat_eq (suc state) 0)
  where
    or_true : (b : Bool) → (b || true) ≡ true
    or_true true = refl
    or_true false = refl

-- ---- suffixes

abbrev grown : List Word → CodeSuffix → List Word
grown earlier suffix = earlier ++ suffix_word earlier suffix ∷ []

record IsLonger (before after : List Word) : Type 0 where
  more : List Word
  is : after ≡ before ++ more

only_added : (suffixes : List CodeSuffix) (earlier : List Word) → IsLonger earlier (fold grown earlier suffixes)
only_added [] earlier = record { more = []; is = sym (append_nil earlier) }
  where
    append_nil : (words : List Word) → words ++ [] ≡ words
    append_nil [] = refl
    append_nil (word ∷ words) = ap (λ rest. word ∷ rest) (append_nil words)
only_added (suffix ∷ suffixes) earlier =
    let rest = only_added suffixes (grown earlier suffix) in
    record { more = suffix_word earlier suffix ∷ rest.more; is = rest.is ∙ append_assoc earlier (suffix_word earlier suffix ∷ []) rest.more }

split_at : {X : Type 0} (xs : List X) (k : ℕ) (d : X) → k < length xs → xs ≡ take k xs ++ get_or xs k d ∷ drop (suc k) xs
split_at [] k d within = absurd (omega arith)
split_at (x ∷ xs) zero d within = refl
split_at (x ∷ xs) (suc k) d within = ap (λ rest. x ∷ rest) (split_at xs k d (omega arith))

length-grown : (suffixes : List CodeSuffix) (earlier : List Word) → length (fold grown earlier suffixes) ≡ length earlier + length suffixes
length-grown [] earlier = omega arith
length-grown (suffix ∷ suffixes) earlier = omega (arith, length-grown suffixes (grown earlier suffix), longer earlier)
  where
    longer : (words : List Word) → length (words ++ suffix_word earlier suffix ∷ []) ≡ length words + 1
    longer [] = refl
    longer (word ∷ words) = omega (arith, longer words)

pub length-suffix_words : (suffixes : List CodeSuffix) → length (suffix_words suffixes) ≡ length suffixes
unfolding suffix_words
length-suffix_words suffixes = omega (arith, length-grown suffixes [])

behind_some : (k : ℕ) (earlier : List Word) (suffix : Word) → 0 < length earlier → GrowsInTurn k earlier suffix → GrowsFrom k earlier suffix
behind_some k [] suffix some grows = absurd (omega arith)
behind_some k (first ∷ others) suffix some grows = grows

-- the suffix at a later place goes on from an earlier one
pub later_grows : (k : ℕ) (L : Language) (words : List Word) (suffixes : List CodeSuffix) (place : ℕ) (d : CodeSuffix) → IsCertificate k L words (suffix_words suffixes)
    → 0 < place → place < length suffixes → GrowsFrom k (suffix_words (take place suffixes)) (suffix_word (suffix_words (take place suffixes)) (get_or suffixes place d))
unfolding suffix_words
later_grows k L words suffixes place d certificate later within =
    let one = get_or suffixes place d in
    let before = take place suffixes in
    let earlier = suffix_words before in
    let rest = drop (suc place) suffixes in
    let more = only_added rest (grown earlier one) in
    let split : suffix_words suffixes ≡ earlier ++ suffix_word earlier one ∷ more.more =
    ap suffix_words (split_at suffixes place d within) ∙ fold-append grown [] before (one ∷ rest) ∙ more.is ∙ append_assoc earlier (suffix_word earlier one ∷ []) more.more in
    behind_some k earlier (suffix_word earlier one) (omega (arith, length-grown before [], length-take place suffixes))
    (certificate.each earlier more.more (suffix_word earlier one) split).grows

-- ---- lines

module _ (raw : RawValue) (names : List (List ℕ)) (access : List CodeAccess) (suffixes : List CodeSuffix) (counts : List Count) (proof : IsProof raw access suffixes) (slots : length names ≡ raw.arena.slots)
    (rows : length (node_lines_of raw).rows ≡ length raw.rows) where
  pub count_of_words : length proof.words ≡ length raw.rows
  count_of_words = proof.canonical.words ∙ table_has_the_states raw

  pub count_of_access : length access ≡ length raw.rows
  count_of_access = proof.spelled.count ∙ count_of_words

  all_states : has_all_states (printed_file raw names access suffixes counts) ≡ true
  unfolding file_of
  all_states =
      let numbered = enumerate_from 0 (node_lines_of raw).rows in
      le-leb (length raw.rows) (length (map (state_line raw) numbered)) (omega (arith, length-map numbered (state_line raw), length-enumerate_from 0 (node_lines_of raw).rows))

  pub all_access : has_all_access (printed_file raw names access suffixes counts) ≡ true
  unfolding file_of
  all_access =
      let numbered = enumerate_from 0 access in
      both_true (has_all_states (printed_file raw names access suffixes counts)) _ all_states
      (le-leb (length raw.rows) (length (map access_line numbered)) (omega (arith, length-map numbered access_line, length-enumerate_from 0 access, count_of_access)))

  width_kept : (letter : List Bool) → length letter ≡ raw.arena.slots → has_width (printed_file raw names access suffixes counts) letter ≡ true
  unfolding file_of
  width_kept letter same = (unsigned_Decides (length letter) (length names)).1 (same ∙ sym slots)

  how_kept : (state : ℕ) (one : CodeAccess) → state < length proof.words → IsSpelled proof.words state one → AreKept (keeps_how_access (printed_file raw names access suffixes counts) state (access_from one))
  unfolding file_of
  how_kept state NoLetters within is = (no_letters_at_start raw.arena.slots (raw_accepts raw) (table_of_states raw) proof.words proof.canonical state within is, tt)
  how_kept state (Start letter) within is =
      (refl, (width_kept letter (ends_with_width raw.arena.slots (raw_accepts raw) (table_of_states raw) proof.words proof.canonical state [] letter within is), tt))
  how_kept state (After before letter) within is =
      let states = count_of_words in
      let ends = ends_with_width raw.arena.slots (raw_accepts raw) (table_of_states raw) proof.words proof.canonical state (access_word proof.words before) letter within is.word in
      let is_state : before < length raw.rows = let below = is.is_state in omega arith in (
        both_true (nat_lt 0 before && nat_lt before (length raw.rows)) _ (both_true (nat_lt 0 before) _ (lt-ltb 0 before is.not_start) (lt-ltb before (length raw.rows) is_state)) (earlier_or_start state before is.in_order),
        (width_kept letter ends, tt),
      )

  pub access_kept : (k : ℕ) → k < length access → AreKept (keeps_access (printed_file raw names access suffixes counts) k (access_line (k, get_or access k NoLetters)))
  unfolding file_of
  access_kept k within =
      let one = get_or access k NoLetters in (
        both_true (has_all_states (printed_file raw names access suffixes counts)) _ all_states (lt-ltb k (length raw.rows) (omega (arith, count_of_access))),
        (same_number k, how_kept k one (omega (arith, count_of_access, count_of_words)) (proof.spelled.each k one (slice_get-get_or access k NoLetters within))),
      )

  how_suffix_kept : (place : ℕ) (one : CodeSuffix) → (0 < place → GrowsFrom raw.arena.slots (suffix_words (take place suffixes)) (suffix_word (suffix_words (take place suffixes)) one))
      → ((from : ℕ) (letter : List Bool) → one ≡ Then letter from → from < place) → AreKept (keeps_how_suffix (printed_file raw names access suffixes counts) place (suffix_from one))
  unfolding file_of
  how_suffix_kept zero Empty grows earlier = (refl, tt)
  how_suffix_kept zero (Then letter from) grows earlier = absurd (let wrong = earlier from letter refl in omega arith)
  how_suffix_kept (suc place) Empty grows earlier = absurd (let wrong = (grows (omega arith)).grown in cc)
  how_suffix_kept (suc place) (Then letter from) grows earlier =
      let is = grows (omega arith) in
      let grown = is.grown in
      let first : letter ≡ is.letter = cc in (
        both_true (nat_lt 0 (suc place)) _ (lt-ltb 0 (suc place) (omega arith)) (width_kept letter (ap length first ∙ is.width)),
        (lt-ltb from (suc place) (earlier from letter refl), tt),
      )

  pub suffix_kept : (k : ℕ) → k < length suffixes → AreKept (keeps_suffix (printed_file raw names access suffixes counts) k (suffix_line (k, get_or suffixes k Empty)))
  unfolding file_of
  suffix_kept k within =
      let one = get_or suffixes k Empty in (
        all_access,
        (
          same_number k,
          how_suffix_kept k one (λ later. later_grows raw.arena.slots (raw_accepts raw) proof.words suffixes k Empty proof.certificate later within)
              (λ from letter same. proof.earlier k from letter (slice_get-get_or suffixes k Empty within ∙ ap Some same)),
        ),
      )
