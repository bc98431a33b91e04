-- Where a text is stuck in the lines of an array, and what is read of them.
use Rattle.std.proofs.Common.{◌≡◌, ℕ, zero, suc, ◌+◌, ◌-◌, ◌<◌, ◌≤◌, inl, inr, List, [], ◌∷◌, ◌++◌, length, refl, sym, ap, ◌∙◌, subst, arith}
use Rattle.std.specs.Prelude.{codes}
use Rattle.std.specs.Fmt.{decimal}
use Rattle.std.specs.List.{All}
use Rattle.std.proofs.lemmas.Fmt.{decimal_digit}
use Rattle.std.proofs.lemmas.Bool.{cases_lt}
use Rattle.std.proofs.lemmas.List.{append_assoc, length-append}
use Rattle.std.proofs.lemmas.List.Elements.{All-nil, All-cons, All-push, All-head, All-tail}
use Rattle.dcv_automaton_text.specs.Form.{IsNumber}
use Rattle.dcv_automaton_lines.specs.Pieces.{Exactly, Either, IsStuckIn}
use Rattle.dcv_automaton_lines.proofs.Pieces.{append_none, stuck_in_first, stuck_in_second}
use Rattle.dcv_automaton_lines.proofs.WordSets.{exactly_away}
use Rattle.dcv_automaton_lines.proofs.LineSets.{Some}
use Rattle.dcv_tables_read.specs.declared.entries.Entry.{Entry}
use Rattle.dcv_tables_read.specs.declared.entries.Entry.TheVariants.{Number, Answer}
use Rattle.dcv_tables_read.specs.Parts.{Spellings, IsUnique, ended, IsEntry, EntrySet, line_text, LineSet, LinesOf, AreEntries, lines_text}
use Rattle.dcv_tables_read.proofs.Chain.{same_behind, stuck_same, stuck_first, stuck_next, lead_first, lead_next, tail_first, tail_next, stuck_spelled, unique_lead, unique_tail, unique_same}
use Rattle.dcv_tables_read.proofs.Numbers.{unique_ended}

-- ---- one number

entry_is_number : (entry : Entry) (number : ℕ) → IsEntry entry number → IsNumber number
entry_is_number Number number is = is
entry_is_number Answer number is = omega arith

pub some_entry : (entry : Entry) → IsEntry entry 0
some_entry Number = omega arith
some_entry Answer = omega arith

pub unique_entry : (entry : Entry) → IsUnique (IsEntry entry) (ended 44)
unique_entry entry x y a b x_is y_is same = unique_ended 44 refl x y a b (entry_is_number entry x x_is) (entry_is_number entry y y_is) same

-- ---- its line

-- with the two bytes before it
abbrev pub led : ℕ → List ℕ
led number = codes "  " ++ ended 44 number

pub line_is : (number : ℕ) → led number ++ codes "\n" ≡ line_text number
line_is number = ap (λ t. codes "  " ++ t) (append_assoc (decimal number) (44 ∷ []) (codes "\n"))

pub unique_led : (entry : Entry) → IsUnique (IsEntry entry) led
unique_led entry = unique_lead (ended 44) (codes "  ") (unique_entry entry)

pub unique_line : (entry : Entry) → IsUnique (IsEntry entry) line_text
unique_line entry = unique_same line_is (unique_tail led (λ _. codes "\n") (unique_led entry))

led_stuck : (entry : Entry) {text left : List ℕ} → IsStuckIn (Spellings (IsEntry entry) led) text left → IsStuckIn (LineSet entry) text left
led_stuck entry stuck = stuck_spelled line_is (tail_first led (λ _. codes "\n") stuck)

pub in_lead : (entry : Entry) {text left : List ℕ} → IsStuckIn (Exactly (codes "  ")) text left → IsStuckIn (LineSet entry) text left
in_lead entry stuck = led_stuck entry (lead_first (ended 44) (codes "  ") 0 (some_entry entry) stuck)

pub in_number : (entry : Entry) {text rest left : List ℕ} → text ≡ codes "  " ++ rest → IsStuckIn (EntrySet entry) rest left → IsStuckIn (LineSet entry) text left
in_number entry whole stuck = led_stuck entry (lead_next (ended 44) (codes "  ") whole stuck)

pub in_feed : (entry : Entry) (number : ℕ) → IsEntry entry number → {text rest back left : List ℕ} → text ≡ codes "  " ++ rest → rest ≡ ended 44 number ++ back
    → IsStuckIn (Exactly (codes "\n")) back left → IsStuckIn (LineSet entry) text left
in_feed entry number is whole next stuck =
    stuck_spelled line_is (tail_next led (λ _. codes "\n") (unique_led entry) number is (whole ∙ ap (λ t. codes "  " ++ t) next) stuck)

-- ---- so many lines

pub some_lines : (entry : Entry) (count : ℕ) → Some (LinesOf entry count)
some_lines entry zero = record { text = []; is = record { is = refl } }
some_lines entry (suc count) =
    let next = some_lines entry count in
    record { text = line_text 0 ++ next.text; is = record { item = 0; valid_item = some_entry entry; back = next.text; back_is = next.is; whole = refl } }

-- where there is a line more
pub in_line : (entry : Entry) (count more : ℕ) → count ≡ suc more → {text left : List ℕ} → IsStuckIn (LineSet entry) text left → IsStuckIn (LinesOf entry count) text left
in_line entry count more is {text = text} {left = left} stuck =
    subst (λ n. IsStuckIn (LinesOf entry n) text left) (sym is) (stuck_first (λ _ _. some_lines entry more) stuck)

pub behind_line : (entry : Entry) (count more : ℕ) → count ≡ suc more → (number : ℕ) → IsEntry entry number → {text rest left : List ℕ} → text ≡ line_text number ++ rest
    → IsStuckIn (LinesOf entry more) rest left → IsStuckIn (LinesOf entry count) text left
behind_line entry count more is number number_is {text = text} {left = left} whole stuck =
    subst (λ n. IsStuckIn (LinesOf entry n) text left) (sym is) (stuck_next (unique_line entry) number number_is whole stuck)

pub lines_more : (numbers : List ℕ) (number : ℕ) → lines_text (numbers ++ number ∷ []) ≡ lines_text numbers ++ line_text number
lines_more [] number = append_none (line_text number)
lines_more (first ∷ numbers) number =
    ap (λ t. line_text first ++ t) (lines_more numbers number) ∙ sym (append_assoc (line_text first) (lines_text numbers) (line_text number))

pub unique_lines : (entry : Entry) (count : ℕ) → IsUnique (AreEntries entry count) lines_text
unique_lines entry count [] [] a b x_is y_is same = refl
unique_lines entry count [] (y ∷ ys) a b x_is y_is same = absurd (let none : 0 ≡ suc (length ys) = x_is.many ∙ sym y_is.many in omega arith)
unique_lines entry count (x ∷ xs) [] a b x_is y_is same = absurd (let none : suc (length xs) ≡ 0 = x_is.many ∙ sym y_is.many in omega arith)
unique_lines entry count (x ∷ xs) (y ∷ ys) a b x_is y_is same =
    let here = sym (append_assoc (line_text x) (lines_text xs) a) ∙ same ∙ append_assoc (line_text y) (lines_text ys) b in
    let first = unique_line entry x y (lines_text xs ++ a) (lines_text ys ++ b) (All-head (IsEntry entry) x xs x_is.each) (All-head (IsEntry entry) y ys y_is.each) here in
    let sizes : suc (length xs) ≡ suc (length ys) = x_is.many ∙ sym y_is.many in
    let rest = unique_lines entry (length xs) xs ys a b (record { many = refl; each = All-tail (IsEntry entry) x xs x_is.each })
    (record { many = omega arith; each = All-tail (IsEntry entry) y ys y_is.each })
    (same_behind (line_text x) (line_text y) (ap line_text first) here) in
    λ i. first i ∷ rest i

pub lines_from : (entry : Entry) (count : ℕ) (text : List ℕ) → LinesOf entry count text → Spellings (AreEntries entry count) lines_text text
lines_from entry zero text is = record { item = []; valid_item = record { many = refl; each = All-nil (IsEntry entry) }; is = is.is }
lines_from entry (suc count) text is =
    let rest = lines_from entry count is.back is.back_is in
    record {
      item = is.item ∷ rest.item;
      valid_item = record { many = ap suc rest.valid_item.many; each = All-cons (IsEntry entry) is.item rest.item is.valid_item rest.valid_item.each };
      is = is.whole ∙ ap (λ t. line_text is.item ++ t) rest.is;
    }

lines_into : (entry : Entry) (numbers : List ℕ) → All (IsEntry entry) numbers → LinesOf entry (length numbers) (lines_text numbers)
lines_into entry [] each = record { is = refl }
lines_into entry (number ∷ numbers) each =
    record {
      item = number;
      valid_item = All-head (IsEntry entry) number numbers each;
      back = lines_text numbers;
      back_is = lines_into entry numbers (All-tail (IsEntry entry) number numbers each);
      whole = refl;
    }

pub lines_stuck : (entry : Entry) (count : ℕ) {text left : List ℕ} → IsStuckIn (LinesOf entry count) text left → IsStuckIn (Spellings (AreEntries entry count) lines_text) text left
lines_stuck entry count stuck =
    stuck_same (lines_from entry count)
    (λ text is. subst (LinesOf entry count) (sym is.is) (subst (λ n. LinesOf entry n (lines_text is.item)) is.valid_item.many (lines_into entry is.item is.valid_item.each)))
    stuck

-- what was read so far
pub record LinesSoFar (entry : Entry) (count : ℕ) (text rest numbers : List ℕ) : Type 0 where
  pub within : length numbers ≤ count
  pub small : All (IsEntry entry) numbers
  pub spelled : text ≡ lines_text numbers ++ rest
  pub fault : (left : List ℕ) → IsStuckIn (LinesOf entry (count - length numbers)) rest left → IsStuckIn (LinesOf entry count) text left

pub no_lines : (entry : Entry) (count : ℕ) (text : List ℕ) {numbers : List ℕ} → numbers ≡ [] → LinesSoFar entry count text text numbers
no_lines entry count text none = subst (λ (numbers : List ℕ). LinesSoFar entry count text text numbers) (sym none)
    (record {
      within = omega arith;
      small = All-nil (IsEntry entry);
      spelled = refl;
      fault = λ left stuck. subst (λ n. IsStuckIn (LinesOf entry n) text left) (let all : count - length {A = ℕ} [] ≡ count = omega arith in all) stuck;
    })

module _ {entry : Entry} {count : ℕ} {text rest numbers : List ℕ} (so_far : LinesSoFar entry count text rest numbers) where
  pub line_stuck : length numbers < count → {left : List ℕ} → IsStuckIn (LineSet entry) rest left → IsStuckIn (LinesOf entry count) text left
  line_stuck some {left = left} stuck = so_far.fault left (in_line entry (count - length numbers) (count - suc (length numbers)) (omega (arith, some)) stuck)

  pub line_read : length numbers < count → (number : ℕ) → IsEntry entry number → {behind more : List ℕ} → rest ≡ line_text number ++ behind → more ≡ numbers ++ number ∷ []
      → LinesSoFar entry count text behind more
  line_read some number is {behind = behind} whole grown =
      let sizes : length (numbers ++ number ∷ []) ≡ length numbers + 1 = length-append numbers (number ∷ []) in
      subst (λ (more : List ℕ). LinesSoFar entry count text behind more) (sym grown)
      (record {
        within = omega (arith, some, sizes);
        small = All-push (IsEntry entry) numbers number so_far.small is;
        spelled = so_far.spelled ∙ ap (λ t. lines_text numbers ++ t) whole ∙ sym (append_assoc (lines_text numbers) (line_text number) behind)
            ∙ ap (λ t. t ++ behind) (sym (lines_more numbers number));
        fault = λ left stuck. so_far.fault left
            (behind_line entry (count - length numbers) (count - length (numbers ++ number ∷ [])) (omega (arith, some, sizes)) number is whole stuck);
      })

  pub lines_read : (length numbers < count → ⊥) → AreEntries entry count numbers
  lines_read none = let within = so_far.within in record { many = equal within none; each = so_far.small }
    where
      equal : length numbers ≤ count → (length numbers < count → ⊥) → length numbers ≡ count
      equal within none = elim (cases_lt (length numbers) count) [ inl less ↦ absurd (none less) | inr most ↦ omega (arith, within, most) ]

-- ---- 0 or 1

pub one_is : decimal 1 ≡ codes "1"
one_is = decimal_digit 1 (omega arith)

pub nil_is : decimal 0 ≡ codes "0"
nil_is = decimal_digit 0 (omega arith)

pub one_read : {text rest : List ℕ} → text ≡ codes "1," ++ rest → text ≡ ended 44 1 ++ rest
one_read {rest = rest} whole = whole ∙ ap (λ d. (d ++ 44 ∷ []) ++ rest) (sym one_is)

pub nil_read : {text rest : List ℕ} → text ≡ codes "0," ++ rest → text ≡ ended 44 0 ++ rest
nil_read {rest = rest} whole = whole ∙ ap (λ d. (d ++ 44 ∷ []) ++ rest) (sym nil_is)

answer_of : (number : ℕ) → number < 2 → (text : List ℕ) → text ≡ ended 44 number → Either (Exactly (codes "0,")) (Exactly (codes "1,")) text
answer_of zero small text is = record { which = inl (record { is = is ∙ ap (λ d. d ++ 44 ∷ []) nil_is }) }
answer_of (suc zero) small text is = record { which = inr (record { is = is ∙ ap (λ d. d ++ 44 ∷ []) one_is }) }
answer_of (suc (suc number)) small text is = absurd (omega arith)

pub answer_stuck : {text left : List ℕ} → IsStuckIn (Either (Exactly (codes "0,")) (Exactly (codes "1,"))) text left → IsStuckIn (EntrySet Answer) text left
answer_stuck stuck =
    stuck_same
    (λ text is. elim is.which [
      | inl zero_is ↦ record { item = 0; valid_item = omega arith; is = zero_is.is ∙ ap (λ d. d ++ 44 ∷ []) (sym nil_is) }
      | inr one ↦ record { item = 1; valid_item = omega arith; is = one.is ∙ ap (λ d. d ++ 44 ∷ []) (sym one_is) }
    ])
    (λ text is. answer_of is.item is.valid_item text is.is)
    stuck

pub in_one : {text left : List ℕ} → (more : List ℕ) → text ≡ 49 ∷ more → IsStuckIn (Exactly (codes "1,")) text left → IsStuckIn (EntrySet Answer) text left
in_one {text = text} more begins stuck =
    answer_stuck (stuck_in_second stuck (exactly_away 48 (codes ",") text
    (λ b rest is same. let first : 49 ≡ b = (let e : 49 ∷ more ≡ b ∷ rest = sym begins ∙ is in cc) in omega (arith, first, same))))

pub in_nil : {text left : List ℕ} → ((b : ℕ) (more : List ℕ) → text ≡ b ∷ more → b ≡ 49 → ⊥) → IsStuckIn (Exactly (codes "0,")) text left → IsStuckIn (EntrySet Answer) text left
in_nil {text = text} other stuck = answer_stuck (stuck_in_first stuck (exactly_away 49 (codes ",") text other))
