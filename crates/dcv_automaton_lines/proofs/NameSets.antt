-- The names of the line of variables: where a text is stuck in them, and how they are read one after another.
use Rattle.std.proofs.Common.{◌≡◌, ℕ, zero, suc, ◌<◌, Bool, true, false, not, get_or, List, [], ◌∷◌, ◌++◌, ◌⊎◌, inl, inr, length, refl, sym, ap, ◌∙◌, subst, arith}
use Rattle.std.specs.Prelude.{codes, if◌then◌else◌}
use Rattle.std.specs.List.{All}
use Rattle.std.proofs.lemmas.List.{append_assoc, length-append}
use Rattle.std.proofs.lemmas.List.Elements.{All-push}
use Rattle.dcv_automaton_text.specs.Form.{is_visible, IsNameWord}
use Rattle.dcv_automaton_lines.specs.Pieces.{AreVisible, IsNoFurther, IsStuckIn}
use Rattle.dcv_automaton_lines.specs.Parts.{NameWord, Words, LastWord, NextWord, words_then}
use Rattle.dcv_automaton_lines.specs.Stops.{IsEnd}
use Rattle.dcv_automaton_lines.proofs.Pieces.{cut_by, not_within, Leads, HasNoLonger, stuck_after}
use Rattle.dcv_automaton_lines.proofs.WordSets.{name_words, name_is, end_is_invisible, AtFront}

-- ---- stuck in a name

record FirstName (text : List ℕ) : Type 0 where
  word : List ℕ
  back : List ℕ
  end : ℕ
  is_end : IsEnd end
  name : NameWord word
  whole : text ≡ word ++ end ∷ back

first_name : (text : List ℕ) → Words text → FirstName text
first_name text (LastWord _ word name whole) = record { word = word; back = []; end = 10; is_end = inr refl; name = name; whole = whole }
first_name text (NextWord _ word more name rest whole) = record { word = word; back = more; end = 32; is_end = inl refl; name = name; whole = whole }

abbrev pub AreNamesOver : List ℕ → List ℕ → Type 0
AreNamesOver front = AtFront (λ b. (is_visible b ≡ false) × ((front ≡ []) ⊎ (IsEnd b → ⊥)))

no_name_more : (front left : List ℕ) → AreVisible front → AreNamesOver front left → IsNoFurther Words front left
no_name_more front [] seen over = λ text more words same.
    let first = first_name text words in
    not_within is_visible front first.word (first.back ++ more) first.end seen (end_is_invisible first.end first.is_end)
    (sym (append_assoc first.word (first.end ∷ first.back) more) ∙ ap (λ t. t ++ more) (sym first.whole) ∙ same)
no_name_more front (b ∷ left) seen over = λ text more other words same.
    let first = first_name text words in
    let read = cut_by is_visible first.word front (first.back ++ more) other first.end b (name_words.visible first.word first.name) seen (end_is_invisible first.end first.is_end) over.0
    (sym (append_assoc first.word (first.end ∷ first.back) more) ∙ ap (λ t. t ++ more) (sym first.whole) ∙ same) in
    elim over.1 [
      | inl none ↦ let empty : length first.word ≡ 0 = ap length (read.same ∙ none) in no_empty first.word first.name empty
      | inr differs ↦ differs (subst IsEnd read.ends first.is_end)
    ]
  where
    no_empty : (word : List ℕ) → NameWord word → length word ≡ 0 → ⊥
    no_empty [] name none = let wrong : false ≡ true = name.is in cc
    no_empty (c ∷ word) name none = omega arith

pub names_stuck : (text front left : List ℕ) → text ≡ front ++ left → AreVisible front → AreNamesOver front left → IsStuckIn Words text left
names_stuck text [] left cut seen over =
    record { front = []; cut = cut; viable = record { more = codes "p\n"; member = LastWord (codes "p\n") (codes "p") (record { is = refl }) refl }; stuck = no_name_more [] left seen over }
names_stuck text (b ∷ front) left cut seen over =
    record {
      front = b ∷ front;
      cut = cut;
      viable = record { more = 10 ∷ []; member = LastWord ((b ∷ front) ++ 10 ∷ []) (b ∷ front) (record { is = name_is (b ∷ front) seen (omega arith) }) refl };
      stuck = no_name_more (b ∷ front) left seen over;
    }

-- ---- after a name

not_both_ends : (a b : ℕ) → a ≡ 10 → b ≡ 32 → a ≡ b → ⊥
not_both_ends a b is_ten is_space same = omega arith

leads_name : (word : List ℕ) → NameWord word → Leads Words (word ++ 32 ∷ []) Words
leads_name word name =
    record {
      into = λ rest words. NextWord ((word ++ 32 ∷ []) ++ rest) word rest name words (append_assoc word (32 ∷ []) rest);
      from = λ text more rest words same. behind text more rest words same;
    }
  where
    behind : (text more rest : List ℕ) → Words text → text ++ more ≡ (word ++ 32 ∷ []) ++ rest → (back : List ℕ) × (Words back × (text ≡ (word ++ 32 ∷ []) ++ back))
    behind text more rest (LastWord _ other other_name whole) same =
        let read = cut_by is_visible other word more rest 10 32 (name_words.visible other other_name) (name_words.visible word name) refl refl
        (sym (append_assoc other (10 ∷ []) more) ∙ ap (λ t. t ++ more) (sym whole) ∙ same ∙ append_assoc word (32 ∷ []) rest) in
        absurd (not_both_ends 10 32 refl refl read.ends)
    behind text more rest (NextWord _ other back other_name words whole) same =
        let read = cut_by is_visible other word (back ++ more) rest 32 32 (name_words.visible other other_name) (name_words.visible word name) refl refl
        (sym (append_assoc other (32 ∷ back) more) ∙ ap (λ t. t ++ more) (sym whole) ∙ same ∙ append_assoc word (32 ∷ []) rest) in
        (back, (words, whole ∙ ap (λ w. w ++ 32 ∷ back) read.same ∙ sym (append_assoc word (32 ∷ []) back)))

pub stuck_behind_name : (word : List ℕ) {text rest left : List ℕ} → IsNameWord word → text ≡ word ++ 32 ∷ rest → IsStuckIn Words rest left → IsStuckIn Words text left
stuck_behind_name word {rest = rest} name whole stuck =
    stuck_after (leads_name word (record { is = name })) (whole ∙ sym (append_assoc word (32 ∷ []) rest)) stuck

names_same : (one other rest other_rest : List ℕ) → Words one → Words other → one ++ rest ≡ other ++ other_rest → one ≡ other
names_same one other rest other_rest (LastWord _ a a_is a_whole) (LastWord _ b b_is b_whole) same =
    let read = cut_by is_visible a b rest other_rest 10 10 (name_words.visible a a_is) (name_words.visible b b_is) refl refl
    (sym (append_assoc a (10 ∷ []) rest) ∙ ap (λ t. t ++ rest) (sym a_whole) ∙ same ∙ ap (λ t. t ++ other_rest) b_whole ∙ append_assoc b (10 ∷ []) other_rest) in
    a_whole ∙ ap (λ w. w ++ 10 ∷ []) read.same ∙ sym b_whole
names_same one other rest other_rest (LastWord _ a a_is a_whole) (NextWord _ b more b_is words b_whole) same =
    let read = cut_by is_visible a b rest (more ++ other_rest) 10 32 (name_words.visible a a_is) (name_words.visible b b_is) refl refl
    (sym (append_assoc a (10 ∷ []) rest) ∙ ap (λ t. t ++ rest) (sym a_whole) ∙ same ∙ ap (λ t. t ++ other_rest) b_whole ∙ append_assoc b (32 ∷ more) other_rest) in
    absurd (not_both_ends 10 32 refl refl read.ends)
names_same one other rest other_rest (NextWord _ a more a_is words a_whole) (LastWord _ b b_is b_whole) same =
    let read = cut_by is_visible a b (more ++ rest) other_rest 32 10 (name_words.visible a a_is) (name_words.visible b b_is) refl refl
    (sym (append_assoc a (32 ∷ more) rest) ∙ ap (λ t. t ++ rest) (sym a_whole) ∙ same ∙ ap (λ t. t ++ other_rest) b_whole ∙ append_assoc b (10 ∷ []) other_rest) in
    absurd (not_both_ends 10 32 refl refl (sym read.ends))
names_same one other rest other_rest (NextWord _ a more a_is words a_whole) (NextWord _ b b_more b_is b_words b_whole) same =
    let read = cut_by is_visible a b (more ++ rest) (b_more ++ other_rest) 32 32 (name_words.visible a a_is) (name_words.visible b b_is) refl refl
    (sym (append_assoc a (32 ∷ more) rest) ∙ ap (λ t. t ++ rest) (sym a_whole) ∙ same ∙ ap (λ t. t ++ other_rest) b_whole ∙ append_assoc b (32 ∷ b_more) other_rest) in
    let behind = names_same more b_more rest other_rest words b_words read.rests in
    a_whole ∙ (λ i. read.same i ++ 32 ∷ behind i) ∙ sym b_whole

pub no_longer_names : HasNoLonger Words
no_longer_names = record { same = names_same }

-- ---- names one after another

-- names with a space after each, and then a rest
abbrev pub spaced : List (List ℕ) → List ℕ → List ℕ
spaced [] rest = rest
spaced (word ∷ words) rest = word ++ 32 ∷ spaced words rest

-- names that were read, whether more follow or not
abbrev pub read_so_far : Bool → List (List ℕ) → List ℕ → List ℕ
read_so_far true words rest = spaced words rest
read_so_far false words rest = words_then words rest

spaced_more : (words : List (List ℕ)) (word rest : List ℕ) → spaced words (word ++ 32 ∷ rest) ≡ spaced (words ++ word ∷ []) rest
spaced_more [] word rest = refl
spaced_more (first ∷ words) word rest = ap (λ r. first ++ 32 ∷ r) (spaced_more words word rest)

spaced_last : (words : List (List ℕ)) (word rest : List ℕ) → spaced words (word ++ 10 ∷ rest) ≡ words_then (words ++ word ∷ []) rest
spaced_last [] word rest = refl
spaced_last (first ∷ []) word rest = refl
spaced_last (first ∷ next ∷ words) word rest = ap (λ r. first ++ 32 ∷ r) (spaced_last (next ∷ words) word rest)

pub one_name_more : (last : Bool) (words : List (List ℕ)) (word rest : List ℕ) → spaced words (word ++ (if last then 10 else 32) ∷ rest) ≡ read_so_far (not last) (words ++ word ∷ []) rest
one_name_more true words word rest = spaced_last words word rest
one_name_more false words word rest = spaced_more words word rest

pub record NameStep (open_now : Bool) (words : List (List ℕ)) (text behind : List ℕ) : Type 0 where
  pub form : All IsNameWord words
  pub some : 0 < length words
  pub spelled : text ≡ read_so_far open_now words behind
  pub fault : open_now ≡ true → (left : List ℕ) → IsStuckIn Words behind left → IsStuckIn Words text left

not_last : (last : Bool) → not last ≡ true → last ≡ false
not_last true is = absurd (let wrong : false ≡ true = is in cc)
not_last false is = refl

pub name_step : (was_open last : Bool) (words more : List (List ℕ)) (word text rest behind : List ℕ) → was_open ≡ true → more ≡ words ++ word ∷ [] → IsNameWord word
    → rest ≡ word ++ (if last then 10 else 32) ∷ behind → All IsNameWord words → text ≡ read_so_far was_open words rest
    → (was_open ≡ true → (left : List ℕ) → IsStuckIn Words rest left → IsStuckIn Words text left) → NameStep (not last) more text behind
name_step was_open last words more word text rest behind opened are is next all spelled fault =
    record {
      form = subst (All IsNameWord) (sym are) (All-push IsNameWord words word all is);
      some = (let sizes = length-append words (word ∷ []) in let e : length more ≡ length (words ++ word ∷ []) = ap length are in omega arith);
      spelled = spelled ∙ ap (λ b. read_so_far b words rest) opened ∙ ap (spaced words) next ∙ one_name_more last words word behind ∙ ap (λ w. read_so_far (not last) w behind) (sym are);
      fault = λ still left stuck. fault opened left
          (stuck_behind_name word is (next ∙ ap (λ b. word ++ (if b then 10 else 32) ∷ behind) (not_last last still)) stuck);
    }

-- ---- names as texts

pub words_are : (words : List (List ℕ)) → All IsNameWord words → 0 < length words → Words (words_then words [])
words_are [] all some = absurd (omega arith)
words_are (word ∷ []) all some = LastWord (words_then (word ∷ []) []) word (record { is = all 0 [] (omega arith) }) refl
words_are (word ∷ next ∷ words) all some =
    NextWord (words_then (word ∷ next ∷ words) []) word (words_then (next ∷ words) []) (record { is = all 0 [] (omega arith) })
    (words_are (next ∷ words) (λ k d l. all (suc k) d (omega arith)) (omega arith)) refl

-- the words of a text of names
pub record TheWords (text : List ℕ) : Type 0 where
  pub words : List (List ℕ)
  pub some : 0 < length words
  pub each : All IsNameWord words
  pub whole : (rest : List ℕ) → text ++ rest ≡ words_then words rest

all_before : (word : List ℕ) (words : List (List ℕ)) → IsNameWord word → All IsNameWord words → All IsNameWord (word ∷ words)
all_before word words is all = λ k. at k
  where
    at : (k : ℕ) (d : List ℕ) → k < length (word ∷ words) → IsNameWord (get_or (word ∷ words) k d)
    at zero d l = is
    at (suc k) d l = all k d (omega arith)

then_more : (word : List ℕ) (words : List (List ℕ)) → 0 < length words → (rest : List ℕ) → words_then (word ∷ words) rest ≡ word ++ 32 ∷ words_then words rest
then_more word [] some rest = absurd (omega arith)
then_more word (next ∷ words) some rest = refl

pub the_words : (text : List ℕ) → Words text → TheWords text
the_words text (LastWord _ word name whole) =
    record {
      words = word ∷ [];
      some = omega arith;
      each = all_before word [] name.is (λ k d l. absurd (omega arith));
      whole = λ rest. ap (λ t. t ++ rest) whole ∙ append_assoc word (10 ∷ []) rest;
    }
the_words text (NextWord _ word more name words whole) =
    let behind = the_words more words in
    record {
      words = word ∷ behind.words;
      some = omega arith;
      each = all_before word behind.words name.is behind.each;
      whole = λ rest. ap (λ t. t ++ rest) whole ∙ append_assoc word (32 ∷ more) rest ∙ ap (λ r. word ++ 32 ∷ r) (behind.whole rest)
          ∙ sym (then_more word behind.words behind.some rest);
    }

-- ---- exits
