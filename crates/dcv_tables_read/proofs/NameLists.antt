-- Where a text is stuck in a name, or in the names of the parameters.
use Rattle.std.proofs.Common.{◌≡◌, ℕ, zero, suc, ◌+◌, ◌-◌, ◌<◌, ◌≤◌, true, false, inl, inr, List, [], ◌∷◌, ◌++◌, length, take, refl, sym, ap, ◌∙◌, subst, arith}
use Rattle.std.specs.Prelude.{codes, slice_index_or}
use Rattle.std.specs.List.{All, list_all}
use Rattle.std.proofs.lemmas.Bool.{cases_lt}
use Rattle.std.proofs.lemmas.List.{append_assoc, length-append, length-take-le}
use Rattle.std.proofs.lemmas.List.Elements.{All-nil, All-cons, All-push, All-head, All-tail}
use Rattle.dcv_tokens.specs.Tokens.{is_word_byte}
use Rattle.dcv_automaton_lines.specs.Pieces.{Exactly, IsNoFurther, IsStuckIn}
use Rattle.dcv_automaton_lines.proofs.Pieces.{append_none, cut_by, not_within, both}
use Rattle.dcv_automaton_lines.proofs.WordSets.{AtFront}
use Rattle.dcv_automaton_lines.proofs.LineSets.{Some}
use Rattle.dcv_tables_read.specs.Form.{IsNameWord}
use Rattle.dcv_tables_read.specs.Parts.{Spellings, IsUnique, StopsNames, NameSet, NamesOf, AreNames, after_name, names_text}
use Rattle.dcv_tables_read.proofs.Chain.{same_behind, stuck_same, stuck_first, stuck_next}

-- ---- the letters, digits and `_` at the front

abbrev pub IsAfterWord : List ℕ → Type 0
IsAfterWord = AtFront (λ b. is_word_byte b ≡ false)

-- ---- a name and what ends it

abbrev spelled_with : List ℕ → List ℕ → List ℕ
spelled_with behind name = name ++ behind

-- of a name and another front, each before a byte that is none of a name
same_names : (name other behind back rest : List ℕ) → list_all is_word_byte name ≡ true → list_all is_word_byte other ≡ true → StopsNames behind
    → (b : ℕ) → is_word_byte b ≡ false → (name ++ behind) ++ back ≡ other ++ b ∷ rest → (name ≡ other) × (behind ++ back ≡ b ∷ rest)
same_names name other [] back rest name_is other_is ends b stops same = absurd ends
same_names name other (e ∷ behind) back rest name_is other_is ends b stops same =
    let read = cut_by is_word_byte name other (behind ++ back) rest e b name_is other_is ends stops (sym (append_assoc name (e ∷ behind) back) ∙ same) in
    (read.same, λ i. read.ends i ∷ read.rests i)

pub unique_name : (behind : List ℕ) → StopsNames behind → IsUnique IsNameWord (spelled_with behind)
unique_name [] ends x y a b x_is y_is same = absurd ends
unique_name (e ∷ behind) ends x y a b x_is y_is same =
    (same_names x y (e ∷ behind) a (behind ++ b) x_is.bytes y_is.bytes ends e ends (same ∙ append_assoc y (e ∷ behind) b)).0

pub p_is : IsNameWord (codes "p")
p_is = record { some = omega arith; bytes = refl }

no_name : (name behind other : List ℕ) → IsNameWord name → (name ++ behind) ++ other ≡ [] → ⊥
no_name [] behind other is same = let some = is.some in omega (arith, some)
no_name (b ∷ name) behind other is same = cc

no_first : (name behind other rest : List ℕ) (b : ℕ) → IsNameWord name → is_word_byte b ≡ false → (name ++ behind) ++ other ≡ b ∷ rest → ⊥
no_first [] behind other rest b is stops same = let some = is.some in omega (arith, some)
no_first (c ∷ name) behind other rest b is stops same =
    let first : c ≡ b = cc in
    let wrong : true ≡ false = sym (both (is_word_byte c) (list_all is_word_byte name) is.bytes).0 ∙ ap is_word_byte first ∙ stops in cc

pub word_is : (size : ℕ) (text : List ℕ) → (size ≡ 0 → ⊥) → size ≤ length text → list_all is_word_byte (take size text) ≡ true → IsNameWord (take size text)
word_is size text some within bytes =
    let long = length-take-le size text within in
    record { some = positive size some long; bytes = bytes }
  where
    positive : (size : ℕ) → (size ≡ 0 → ⊥) → {length : ℕ} → length ≡ size → 0 < length
    positive zero some is = absurd (some refl)
    positive (suc size) some is = omega (arith, is)

pub stuck_at_once : (behind text : List ℕ) → IsAfterWord text → IsStuckIn (NameSet behind) text text
stuck_at_once behind text stops =
    record {
      front = [];
      cut = refl;
      viable = record { more = codes "p" ++ behind; member = record { item = codes "p"; valid_item = p_is; is = refl } };
      stuck = none text stops;
    }
  where
    none : (text : List ℕ) → IsAfterWord text → IsNoFurther (NameSet behind) [] text
    none [] stops = λ t more is same. no_name is.item behind more is.valid_item (ap (λ t. t ++ more) (sym is.is) ∙ same)
    none (b ∷ left) stops = λ t more other is same. no_first is.item behind more other b is.valid_item stops (ap (λ t. t ++ more) (sym is.is) ∙ same)

pub no_name_stuck : (behind text : List ℕ) (size : ℕ) → size ≡ 0 → (size < length text → is_word_byte (slice_index_or text size 0) ≡ false) → IsStuckIn (NameSet behind) text text
no_name_stuck behind text size nil ends = stuck_at_once behind text (at_front text (subst (λ n. n < length text → is_word_byte (slice_index_or text n 0) ≡ false) nil ends))
  where
    at_front : (text : List ℕ) → (0 < length text → is_word_byte (slice_index_or text 0 0) ≡ false) → IsAfterWord text
    at_front [] ends = tt
    at_front (b ∷ text) ends = ends (omega arith)

-- after the name the text is stuck in what ends it
pub name_end_stuck : (behind word rest left text : List ℕ) → StopsNames behind → IsNameWord word → IsAfterWord rest → text ≡ word ++ rest → IsStuckIn (Exactly behind) rest left
    → IsStuckIn (NameSet behind) text left
name_end_stuck behind word rest left text ends word_is after whole stuck =
    record {
      front = word ++ stuck.front;
      cut = whole ∙ ap (λ t. word ++ t) stuck.cut ∙ sym (append_assoc word stuck.front left);
      viable = record {
        more = stuck.viable.more;
        member = record { item = word; valid_item = word_is; is = append_assoc word stuck.front stuck.viable.more ∙ ap (λ t. word ++ t) stuck.viable.member.is };
      };
      stuck = none stuck.front left (subst IsAfterWord stuck.cut after) stuck.stuck;
    }
  where
    -- the same after a front that is not empty, or with the next byte
    first_of : (front left other : List ℕ) (b : ℕ) → IsAfterWord (front ++ b ∷ left) → IsAfterWord (front ++ b ∷ other)
    first_of [] left other b after = after
    first_of (c ∷ front) left other b after = after

    cut : (name back : List ℕ) (goes : List ℕ) → IsNameWord name → IsAfterWord goes → (name ++ behind) ++ back ≡ word ++ goes → behind ++ back ≡ goes
    cut name back [] name_is after same = absurd (never behind ends (same ∙ append_none word))
      where
        never : (behind : List ℕ) → StopsNames behind → (name ++ behind) ++ back ≡ word → ⊥
        never [] ends same = ends
        never (e ∷ behind) ends same = not_within is_word_byte word name (behind ++ back) e word_is.bytes ends (sym (append_assoc name (e ∷ behind) back) ∙ same)
    cut name back (b ∷ goes) name_is after same = (same_names name word behind back goes name_is.bytes word_is.bytes ends b after same).1

    none : (front left : List ℕ) → IsAfterWord (front ++ left) → IsNoFurther (Exactly behind) front left → IsNoFurther (NameSet behind) (word ++ front) left
    none front [] after stuck = λ t more is same.
        stuck behind more (record { is = refl })
        (cut is.item more front is.valid_item (subst IsAfterWord (append_none front) after) (ap (λ t. t ++ more) (sym is.is) ∙ same))
    none front (b ∷ left) after stuck = λ t more other is same.
        stuck behind more other (record { is = refl })
        (cut is.item more (front ++ b ∷ other) is.valid_item (first_of front left other b after)
        (ap (λ t. t ++ more) (sym is.is) ∙ same ∙ append_assoc word front (b ∷ other)))

-- ---- so many names

pub stops : (more : ℕ) → StopsNames (after_name more)
stops zero = refl
stops (suc more) = refl

abbrev with_end : ℕ → List ℕ → List ℕ
with_end more name = name ++ after_name more

pub unique_next : (more : ℕ) → IsUnique IsNameWord (with_end more)
unique_next more = unique_name (after_name more) (stops more)

pub some_names : (count : ℕ) → Some (NamesOf count)
some_names zero = record { text = []; is = record { is = refl } }
some_names (suc count) =
    let next = some_names count in
    record { text = with_end count (codes "p") ++ next.text; is = record { item = codes "p"; valid_item = p_is; back = next.text; back_is = next.is; whole = refl } }

pub unique_names : (count : ℕ) → IsUnique (AreNames count) names_text
unique_names count [] [] a b x_is y_is same = refl
unique_names count [] (y ∷ ys) a b x_is y_is same = absurd (let none : 0 ≡ suc (length ys) = x_is.many ∙ sym y_is.many in omega arith)
unique_names count (x ∷ xs) [] a b x_is y_is same = absurd (let none : suc (length xs) ≡ 0 = x_is.many ∙ sym y_is.many in omega arith)
unique_names count (x ∷ xs) (y ∷ ys) a b x_is y_is same =
    let sizes : suc (length xs) ≡ suc (length ys) = x_is.many ∙ sym y_is.many in
    let size : length ys ≡ length xs = omega arith in
    let here = sym (append_assoc (with_end (length xs) x) (names_text xs) a) ∙ same ∙ append_assoc (with_end (length ys) y) (names_text ys) b
    ∙ ap (λ n. with_end n y ++ (names_text ys ++ b)) size in
    let first = unique_next (length xs) x y (names_text xs ++ a) (names_text ys ++ b) (All-head IsNameWord x xs x_is.each) (All-head IsNameWord y ys y_is.each) here in
    let rest = unique_names (length xs) xs ys a b (record { many = refl; each = All-tail IsNameWord x xs x_is.each })
    (record { many = size; each = All-tail IsNameWord y ys y_is.each })
    (same_behind (with_end (length xs) x) (with_end (length xs) y) (ap (with_end (length xs)) first) here) in
    λ i. first i ∷ rest i

pub names_from : (count : ℕ) (text : List ℕ) → NamesOf count text → Spellings (AreNames count) names_text text
names_from zero text is = record { item = []; valid_item = record { many = refl; each = All-nil IsNameWord }; is = is.is }
names_from (suc count) text is =
    let rest = names_from count is.back is.back_is in
    record {
      item = is.item ∷ rest.item;
      valid_item = record { many = ap suc rest.valid_item.many; each = All-cons IsNameWord is.item rest.item is.valid_item rest.valid_item.each };
      is = is.whole ∙ ap (λ t. with_end count is.item ++ t) rest.is ∙ ap (λ n. with_end n is.item ++ names_text rest.item) (sym rest.valid_item.many);
    }

names_into : (names : List (List ℕ)) → All IsNameWord names → NamesOf (length names) (names_text names)
names_into [] each = record { is = refl }
names_into (name ∷ names) each =
    record {
      item = name;
      valid_item = All-head IsNameWord name names each;
      back = names_text names;
      back_is = names_into names (All-tail IsNameWord name names each);
      whole = refl;
    }

pub names_stuck : (count : ℕ) {text left : List ℕ} → IsStuckIn (NamesOf count) text left → IsStuckIn (Spellings (AreNames count) names_text) text left
names_stuck count stuck =
    stuck_same (names_from count)
    (λ text is. subst (NamesOf count) (sym is.is) (subst (λ n. NamesOf n (names_text is.item)) is.valid_item.many (names_into is.item is.valid_item.each)))
    stuck

-- ---- what was read so far

pub record NamesSoFar (count : ℕ) (text rest : List ℕ) (names : List (List ℕ)) : Type 0 where
  pub within : length names ≤ count
  pub words : All IsNameWord names
  pub spelled : (more : List (List ℕ)) (behind : List ℕ) → length more ≡ count - length names → rest ≡ names_text more ++ behind → text ≡ names_text (names ++ more) ++ behind
  pub fault : (left : List ℕ) → IsStuckIn (NamesOf (count - length names)) rest left → IsStuckIn (NamesOf count) text left

pub no_names : (count : ℕ) (text : List ℕ) {names : List (List ℕ)} → names ≡ [] → NamesSoFar count text text names
no_names count text none = subst (λ (names : List (List ℕ)). NamesSoFar count text text names) (sym none)
    (record {
      within = omega arith;
      words = All-nil IsNameWord;
      spelled = λ more behind size is. is;
      fault = λ left stuck. subst (λ n. IsStuckIn (NamesOf n) text left) (let all : count - length {A = List ℕ} [] ≡ count = omega arith in all) stuck;
    })

module _ {count : ℕ} {text rest : List ℕ} {names : List (List ℕ)} (so_far : NamesSoFar count text rest names) where
  one_more : (more : ℕ) → more ≡ count - length names - 1 → length names < count → count - length names ≡ suc more
  one_more more is some = omega (arith, is, some)

  in_more : (more : ℕ) → count - length names ≡ suc more → {left : List ℕ} → IsStuckIn (NamesOf (suc more)) rest left → IsStuckIn (NamesOf (count - length names)) rest left
  in_more more is {left = left} stuck = subst (λ n. IsStuckIn (NamesOf n) rest left) (sym is) stuck

  pub name_stuck : length names < count → (more : ℕ) → more ≡ count - length names - 1 → {end : List ℕ} → end ≡ after_name more → {left : List ℕ} → IsStuckIn (NameSet end) rest left
      → IsStuckIn (NamesOf count) text left
  name_stuck some more is ends {left = left} stuck =
      so_far.fault left (in_more more (one_more more is some) (stuck_first (λ _ _. some_names more) (subst (λ (end : List ℕ). IsStuckIn (NameSet end) rest left) ends stuck)))

  pub name_read : length names < count → (more : ℕ) → more ≡ count - length names - 1 → {end : List ℕ} → end ≡ after_name more → (name : List ℕ) → IsNameWord name
      → {behind : List ℕ} {grown : List (List ℕ)} → rest ≡ (name ++ end) ++ behind → grown ≡ names ++ name ∷ [] → NamesSoFar count text behind grown
  name_read some more is ends name name_is {behind = behind} whole grown =
      let sizes : length (names ++ name ∷ []) ≡ length names + 1 = length-append names (name ∷ []) in
      let left_is : count - length (names ++ name ∷ []) ≡ more = omega (arith, some, sizes, is) in
      let read : rest ≡ with_end more name ++ behind = whole ∙ ap (λ end. (name ++ end) ++ behind) ends in
      subst (λ (names : List (List ℕ)). NamesSoFar count text behind names) (sym grown)
      (record {
        within = omega (arith, some, sizes);
        words = All-push IsNameWord names name so_far.words name_is;
        spelled = λ later end size next.
            let many = size ∙ left_is in
            so_far.spelled (name ∷ later) end (ap suc many ∙ sym (one_more more is some))
            (read ∙ ap (λ t. with_end more name ++ t) next ∙ sym (append_assoc (with_end more name) (names_text later) end)
            ∙ ap (λ n. (with_end n name ++ names_text later) ++ end) (sym many))
            ∙ ap (λ all. names_text all ++ end) (sym (append_assoc names (name ∷ []) later));
        fault = λ left stuck. so_far.fault left
            (in_more more (one_more more is some) (stuck_next (unique_next more) name name_is read
            (subst (λ n. IsStuckIn (NamesOf n) behind left) left_is stuck)));
      })

  pub names_read : (length names < count → ⊥) → AreNames count names
  names_read none = let within = so_far.within in record { many = equal within none; each = so_far.words }
    where
      equal : length names ≤ count → (length names < count → ⊥) → length names ≡ count
      equal within none = elim (cases_lt (length names) count) [ inl less ↦ absurd (none less) | inr most ↦ omega (arith, within, most) ]

  pub names_spelled : (length names < count → ⊥) → text ≡ names_text names ++ rest
  names_spelled none =
      let all = names_read none in
      let many = all.many in
      so_far.spelled [] rest (omega (arith, many)) refl ∙ ap (λ names. names_text names ++ rest) (append_nothing names)
    where
      append_nothing : (xs : List (List ℕ)) → xs ++ [] ≡ xs
      append_nothing [] = refl
      append_nothing (x ∷ xs) = ap (λ rest. x ∷ rest) (append_nothing xs)
