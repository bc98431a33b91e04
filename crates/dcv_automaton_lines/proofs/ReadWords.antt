-- What is read from the front of a text of an automaton: a text of a set, or the place where the text is stuck in it.
--     Reads P text        the text begins with one of the set, or is stuck in it
--     reads_..            so it is with each text
use Rattle.std.proofs.Common.{◌≡◌, ℕ, zero, suc, ◌+◌, ◌*◌, ◌-◌, ◌<◌, ◌≤◌, Bool, true, false, List, [], ◌∷◌, ◌++◌, ◌⊎◌, inl, inr, length, refl, sym, ap, ◌∙◌, subst, arith}
use Rattle.std.specs.Prelude.{codes}
use Rattle.std.specs.Char.{is_ascii_digit}
use Rattle.std.specs.List.{list_all}
use Rattle.std.proofs.lemmas.Bool.{cases_eq, cases_lt}
use Rattle.std.proofs.lemmas.Fmt.{decimal_nonempty}
use Rattle.std.proofs.lemmas.List.{append_assoc, length-append}
use Rattle.dcv_automaton_text.specs.Form.{is_visible, IsNameWord}
use Rattle.dcv_automaton_lines.specs.Pieces.{AreVisible, Exactly, Nothing, Followed, Either, IsStuckIn}
use Rattle.dcv_automaton_lines.specs.Parts.{NumberWord, NodeWord, TargetWord, AnswerWord, NameWord, LetterWord, Words, LastWord, NextWord}
use Rattle.dcv_automaton_lines.specs.Seen.{letter_of}
use Rattle.dcv_automaton_lines.specs.Stops.{IsEnd, IsNumberEnd, is_binary}
use Rattle.dcv_automaton_lines.proofs.Pieces.{HasWords, Leads, stuck_after, leads_followed}
use Rattle.dcv_automaton_lines.proofs.WordSets.{AtFront, IsBeginning, NoDigit, SomeDigits, number_stuck, number_grows, leads_same, first_stuck, exactly_away, leads_node, node_away, some_node, leads_state, leads_target_node, target_away, some_target, accept_stuck, reject_stuck, name_is, name_stuck, letter_is, letter_stuck, dash_stuck}
use Rattle.dcv_automaton_lines.proofs.LineSets.{Some, within, exactly}
use Rattle.dcv_automaton_lines.proofs.NameSets.{names_stuck, stuck_behind_name}
use Rattle.dcv_automaton_lines.proofs.KindSets.{first_further, second_further}

pub data Reads (P : List ℕ → Type 0) (text : List ℕ) : Type 0 where
  Ended : (front back : List ℕ) → P front → text ≡ front ++ back → Reads P text
  StuckAt : (left : List ℕ) → IsStuckIn P text left → Reads P text

-- ---- one after another, and one of two

pub reads_after : {P : List ℕ → Type 0} {Q : List ℕ → Type 0} {f text rest : List ℕ} → Leads P f Q → text ≡ f ++ rest → Reads Q rest → Reads P text
reads_after {f = f} leads whole (Ended front back is same) =
    Ended (f ++ front) back (leads.into front is) (whole ∙ ap (λ r. f ++ r) same ∙ sym (append_assoc f front back))
reads_after leads whole (StuckAt left stuck) = StuckAt left (stuck_after leads whole stuck)

pub reads_followed : {P : List ℕ → Type 0} {Q : List ℕ → Type 0} (end : ℕ) → HasWords P → is_visible end ≡ false → Some Q → (text : List ℕ)
    → Reads (Followed P end Nothing) text → ((rest : List ℕ) → Reads Q rest) → Reads (Followed P end Q) text
reads_followed end words ends some text (Ended front back is same) next =
    reads_after (leads_followed words end ends is.word is.word_is) (same ∙ ap (λ f. f ++ back) (is.whole ∙ ap (λ b. is.word ++ end ∷ b) is.back_is.is)) (next back)
reads_followed end words ends some text (StuckAt left stuck) next = StuckAt left (within some stuck)

-- of two places the further one
pub reads_either : {P : List ℕ → Type 0} {Q : List ℕ → Type 0} (text : List ℕ) → Reads P text → Reads Q text → Reads (Either P Q) text
reads_either text (Ended front back is same) other = Ended front back (record { which = inl is }) same
reads_either text (StuckAt left stuck) (Ended front back is same) = Ended front back (record { which = inr is }) same
reads_either text (StuckAt left one) (StuckAt other two) = elim (cases_lt (length other) (length left)) [
  | inl shorter ↦ StuckAt other (second_further one two (omega arith))
  | inr longer ↦ StuckAt left (first_further one two (omega arith))
]

-- ---- one word

leads_byte : (b : ℕ) (word : List ℕ) → Leads (Exactly (b ∷ word)) (b ∷ []) (Exactly word)
leads_byte b word = record { into = λ rest is. record { is = ap (λ w. b ∷ w) is.is }; from = λ text more rest is same. (word, (exactly word, is.is)) }

next_byte : (b c : ℕ) (word text : List ℕ) → ((c ≡ b) ⊎ (c ≡ b → ⊥)) → Reads (Exactly word) text → Reads (Exactly (b ∷ word)) (c ∷ text)
next_byte b c word text (inl same) rest = reads_after (leads_byte b word) (λ i. same i ∷ text) rest
next_byte b c word text (inr other) rest =
    StuckAt (c ∷ text) (first_stuck (Exactly (b ∷ word)) (c ∷ text) (b ∷ word) (exactly (b ∷ word))
    (exactly_away b word (c ∷ text) (λ d more same e. other (let first : c ≡ d = cc in first ∙ e))))

pub reads_exactly : (word text : List ℕ) → Reads (Exactly word) text
reads_exactly [] text = Ended [] text (exactly []) refl
reads_exactly (b ∷ word) [] =
    StuckAt [] (first_stuck (Exactly (b ∷ word)) [] (b ∷ word) (exactly (b ∷ word)) (exactly_away b word [] (λ d more same e. let wrong : [] ≡ d ∷ more = same in cc)))
reads_exactly (b ∷ word) (c ∷ text) = next_byte b c word text (cases_eq c b) (reads_exactly word text)

leads_literal : (word : List ℕ) (end : ℕ) → Leads (Followed (Exactly word) end Nothing) [] (Exactly (word ++ end ∷ []))
leads_literal word end =
    leads_same
    (λ text is. record { word = word; back = []; word_is = exactly word; back_is = record { is = refl }; whole = is.is })
    (λ text is. record { is = is.whole ∙ ap (λ w. w ++ end ∷ is.back) is.word_is.is ∙ ap (λ back. word ++ end ∷ back) is.back_is.is })

pub reads_literal : (word : List ℕ) (end : ℕ) (text : List ℕ) → Reads (Followed (Exactly word) end Nothing) text
reads_literal word end text = reads_after (leads_literal word end) refl (reads_exactly (word ++ end ∷ []) text)

-- ---- a word of a set with its end

ended : {P : List ℕ → Type 0} (end : ℕ) (text word back : List ℕ) → P word → text ≡ word ++ end ∷ back → Reads (Followed P end Nothing) text
ended end text word back is whole =
    Ended (word ++ end ∷ []) back (record { word = word; back = []; word_is = is; back_is = record { is = refl }; whole = refl }) (whole ∙ sym (append_assoc word (end ∷ []) back))

-- ---- numbers

decide : (b : Bool) → (b ≡ true) ⊎ (b ≡ false)
decide true = inl refl
decide false = inr refl

small_or_over : (number : ℕ) → ((0 < number) × (number ≤ 999999)) ⊎ ((number ≡ 0) ⊎ (999999 < number))
small_or_over zero = inr (inl refl)
small_or_over (suc number) = elim (cases_lt 999999 (suc number)) [ inl large ↦ inr (inr large) | inr small ↦ inl (omega arith, omega arith) ]

module _ (end : ℕ) (is_end : IsNumberEnd end) (text : List ℕ) where
  abbrev Number : Type 0
  Number = Reads (Followed NumberWord end Nothing) text

  next_digit : (b : ℕ) (left digits : List ℕ) (number : ℕ) → text ≡ digits ++ b ∷ left → IsBeginning digits number → (IsBeginning (digits ++ b ∷ []) (10 * number + (b - 48)) → Number) → Number
  next_digit b left digits number cut (NoDigit none nil) grown = elim (decide (is_ascii_digit b)) [
    | inl digit ↦ grown (number_grows digits number b (NoDigit none nil) digit (inl none))
    | inr other ↦ StuckAt (b ∷ left) (number_stuck text digits (b ∷ left) number end is_end cut (NoDigit none nil)
        ((λ some. absurd (let sizes : length digits ≡ 0 = ap length none in omega arith)), inl other))
  ]
  next_digit b left digits number cut (SomeDigits written small) grown =
      let some : 0 < length digits = subst (λ (d : List ℕ). 0 < length d) (sym written) (decimal_nonempty number (omega arith)) in
      elim (cases_eq b end) [
        | inl ends ↦ ended end text digits left (record { number = number; small = small; is = written }) (cut ∙ ap (λ b. digits ++ b ∷ left) ends)
        | inr differs ↦ elim (decide (is_ascii_digit b)) [
          | inr other ↦ StuckAt (b ∷ left) (number_stuck text digits (b ∷ left) number end is_end cut (SomeDigits written small) ((λ more. differs), inl other))
          | inl digit ↦ elim (small_or_over number) [
            | inl range ↦ grown (number_grows digits number b (SomeDigits written small) digit (inr range))
            | inr over ↦ StuckAt (b ∷ left) (number_stuck text digits (b ∷ left) number end is_end cut (SomeDigits written small) ((λ more. differs), inr (some, over)))
          ]
        ]
      ]

  number_from : (left digits : List ℕ) (number : ℕ) → text ≡ digits ++ left → IsBeginning digits number → Number
  number_from [] digits number cut begins = StuckAt [] (number_stuck text digits [] number end is_end cut begins tt)
  number_from (b ∷ left) digits number cut begins =
      next_digit b left digits number cut begins
      (λ grown. number_from left (digits ++ b ∷ []) (10 * number + (b - 48)) (cut ∙ sym (append_assoc digits (b ∷ []) left)) grown)

  pub reads_number : Number
  reads_number = number_from text [] 0 refl (NoDigit refl refl)

-- ---- names of nodes, and targets

other_first : (b c : ℕ) (text : List ℕ) → (b ≡ c → ⊥) → (d : ℕ) (more : List ℕ) → b ∷ text ≡ d ∷ more → d ≡ c → ⊥
other_first b c text other d more same e = other (let first : b ≡ d = cc in first ∙ e)

none_first : (c d : ℕ) (more : List ℕ) → [] ≡ d ∷ more → d ≡ c → ⊥
none_first c d more same e = cc

pub reads_node : (end : ℕ) → IsNumberEnd end → (text : List ℕ) → Reads (Followed NodeWord end Nothing) text
reads_node end is_end [] = StuckAt [] (first_stuck (Followed NodeWord end Nothing) [] _ (some_node end) (node_away end [] (none_first 110)))
reads_node end is_end (b ∷ text) = elim (cases_eq b 110) [
  | inl same ↦ reads_after (leads_node end) (λ i. same i ∷ text) (reads_number end is_end text)
  | inr other ↦ StuckAt (b ∷ text) (first_stuck (Followed NodeWord end Nothing) (b ∷ text) _ (some_node end) (node_away end (b ∷ text) (other_first b 110 text other)))
]

pub reads_target : (end : ℕ) → IsNumberEnd end → (text : List ℕ) → Reads (Followed TargetWord end Nothing) text
reads_target end is_end [] =
    StuckAt [] (first_stuck (Followed TargetWord end Nothing) [] _ (some_target end) (target_away end [] (λ d more same e. let wrong : [] ≡ d ∷ more = same in cc)))
reads_target end is_end (b ∷ text) = elim (cases_eq b 116) [
  | inl same ↦ reads_after (leads_state end) (λ i. same i ∷ text) (reads_number end is_end text)
  | inr no_state ↦ elim (cases_eq b 110) [
    | inl same ↦ reads_after (leads_target_node end) (λ i. same i ∷ text) (reads_number end is_end text)
    | inr no_node ↦ StuckAt (b ∷ text) (first_stuck (Followed TargetWord end Nothing) (b ∷ text) _ (some_target end)
        (target_away end (b ∷ text) (λ d more same. λ which. elim which [ inl state ↦ other_first b 116 text no_state d more same state | inr node ↦ other_first b 110 text no_node d more same node ])))
  ]
]

-- ---- `accept` and `reject`

accept_or_stuck : (text : List ℕ) → ((b : ℕ) (more : List ℕ) → text ≡ b ∷ more → b ≡ 114 → ⊥) → Reads (Exactly (codes "accept ")) text → Reads (Followed AnswerWord 32 Nothing) text
accept_or_stuck text other (Ended front back is same) = ended 32 text (codes "accept") back (record { accepting = true; is = refl }) (same ∙ ap (λ f. f ++ back) is.is)
accept_or_stuck text other (StuckAt left stuck) = StuckAt left (accept_stuck stuck other)

reject_or_stuck : (text : List ℕ) → ((b : ℕ) (more : List ℕ) → text ≡ b ∷ more → b ≡ 97 → ⊥) → Reads (Exactly (codes "reject ")) text → Reads (Followed AnswerWord 32 Nothing) text
reject_or_stuck text other (Ended front back is same) = ended 32 text (codes "reject") back (record { accepting = false; is = refl }) (same ∙ ap (λ f. f ++ back) is.is)
reject_or_stuck text other (StuckAt left stuck) = StuckAt left (reject_stuck stuck other)

pub reads_answer : (text : List ℕ) → Reads (Followed AnswerWord 32 Nothing) text
reads_answer [] = reject_or_stuck [] (none_first 97) (reads_exactly (codes "reject ") [])
reads_answer (b ∷ text) = elim (cases_eq b 97) [
  | inl same ↦ accept_or_stuck (b ∷ text) (other_first b 114 text (λ e. not_both same e)) (reads_exactly (codes "accept ") (b ∷ text))
  | inr other ↦ reject_or_stuck (b ∷ text) (other_first b 97 text other) (reads_exactly (codes "reject ") (b ∷ text))
]
  where
    not_both : b ≡ 97 → b ≡ 114 → ⊥
    not_both one two = omega arith

-- ---- names and letters

-- the front whose bytes pass a test, and what is left after it
record Split (test : ℕ → Bool) (text : List ℕ) : Type 0 where
  front : List ℕ
  left : List ℕ
  passes : list_all test front ≡ true
  ends : AtFront (λ b. test b ≡ false) left
  whole : text ≡ front ++ left

split : (test : ℕ → Bool) (text : List ℕ) → Split test text
split test [] = record { front = []; left = []; passes = refl; ends = tt; whole = refl }
split test (b ∷ text) = by (test b) refl (split test text)
  where
    by : (passed : Bool) → test b ≡ passed → Split test text → Split test (b ∷ text)
    by true is rest = record { front = b ∷ rest.front; left = rest.left; passes = rw (is, rest.passes) refl; ends = rest.ends; whole = ap (λ t. b ∷ t) rest.whole }
    by false is rest = record { front = []; left = b ∷ text; passes = refl; ends = is; whole = refl }

module _ (end : ℕ) (is_end : IsEnd end) (text : List ℕ) where
  name_by : (front left : List ℕ) → AreVisible front → AtFront (λ b. is_visible b ≡ false) left → text ≡ front ++ left → Reads (Followed NameWord end Nothing) text
  name_by front [] seen ends whole = StuckAt [] (name_stuck text front [] end is_end whole seen tt)
  name_by [] (b ∷ left) seen ends whole = StuckAt (b ∷ left) (name_stuck text [] (b ∷ left) end is_end whole seen (ends, inl refl))
  name_by (c ∷ front) (b ∷ left) seen ends whole = elim (cases_eq b end) [
    | inl same ↦ ended end text (c ∷ front) left (record { is = name_is (c ∷ front) seen (omega arith) }) (whole ∙ ap (λ b. (c ∷ front) ++ b ∷ left) same)
    | inr other ↦ StuckAt (b ∷ left) (name_stuck text (c ∷ front) (b ∷ left) end is_end whole seen (ends, inr other))
  ]

  pub reads_name : Reads (Followed NameWord end Nothing) text
  reads_name = let parts = split is_visible text in name_by parts.front parts.left parts.passes parts.ends parts.whole

  digits_by : ((b : ℕ) (more : List ℕ) → text ≡ b ∷ more → b ≡ 45 → ⊥) → (front left : List ℕ) → list_all is_binary front ≡ true → AtFront (λ b. is_binary b ≡ false) left
      → text ≡ front ++ left → Reads (Followed LetterWord end Nothing) text
  digits_by other front [] seen ends whole = StuckAt [] (letter_stuck text front [] end is_end whole seen tt)
  digits_by other [] (b ∷ left) seen ends whole = StuckAt (b ∷ left) (letter_stuck text [] (b ∷ left) end is_end whole seen (ends, inl (refl, other b left whole)))
  digits_by other (c ∷ front) (b ∷ left) seen ends whole = elim (cases_eq b end) [
    | inl same ↦ ended end text (c ∷ front) left (record { letter = letter_of (c ∷ front); is = sym (letter_is (c ∷ front) seen (omega arith)) })
        (whole ∙ ap (λ b. (c ∷ front) ++ b ∷ left) same)
    | inr differs ↦ StuckAt (b ∷ left) (letter_stuck text (c ∷ front) (b ∷ left) end is_end whole seen (ends, inr (omega arith, differs)))
  ]

  dash_by : (left : List ℕ) → text ≡ 45 ∷ left → Reads (Followed LetterWord end Nothing) text
  dash_by [] whole = StuckAt [] (dash_stuck text [] end is_end whole tt)
  dash_by (b ∷ left) whole = elim (cases_eq b end) [
    | inl same ↦ ended end text (codes "-") left (record { letter = []; is = refl }) (whole ∙ ap (λ b. 45 ∷ b ∷ left) same)
    | inr other ↦ StuckAt (b ∷ left) (dash_stuck text (b ∷ left) end is_end whole other)
  ]

pub reads_letter : (end : ℕ) → IsEnd end → (text : List ℕ) → Reads (Followed LetterWord end Nothing) text
reads_letter end is_end [] = digits_by end is_end [] (none_first 45) [] [] refl tt refl
reads_letter end is_end (b ∷ text) = elim (cases_eq b 45) [
  | inl same ↦ dash_by end is_end (b ∷ text) text (λ i. same i ∷ text)
  | inr other ↦ let parts = split is_binary (b ∷ text) in
      digits_by end is_end (b ∷ text) (other_first b 45 text other) parts.front parts.left parts.passes parts.ends parts.whole
]

-- ---- the names of the line of variables

next_name : (text name rest : List ℕ) → IsNameWord name → text ≡ name ++ 32 ∷ rest → Reads Words rest → Reads Words text
next_name text name rest is whole (Ended more back words same) =
    Ended (name ++ 32 ∷ more) back (NextWord (name ++ 32 ∷ more) name more (record { is = is }) words refl)
    (whole ∙ ap (λ r. name ++ 32 ∷ r) same ∙ sym (append_assoc name (32 ∷ more) back))
next_name text name rest is whole (StuckAt left stuck) = StuckAt left (stuck_behind_name name is whole stuck)

names_by : (text front left : List ℕ) → AreVisible front → AtFront (λ b. is_visible b ≡ false) left → text ≡ front ++ left
    → ((rest : List ℕ) → text ≡ front ++ 32 ∷ rest → Reads Words rest) → Reads Words text
names_by text front [] seen ends whole next = StuckAt [] (names_stuck text front [] whole seen tt)
names_by text [] (b ∷ left) seen ends whole next = StuckAt (b ∷ left) (names_stuck text [] (b ∷ left) whole seen (ends, inl refl))
names_by text (c ∷ front) (b ∷ left) seen ends whole next =
    let is = name_is (c ∷ front) seen (omega arith) in
    elim (cases_eq b 32) [
      | inl space ↦
          let split_here : text ≡ (c ∷ front) ++ 32 ∷ left = whole ∙ ap (λ b. (c ∷ front) ++ b ∷ left) space in
          next_name text (c ∷ front) left is split_here (next left split_here)
      | inr no_space ↦ elim (cases_eq b 10) [
        | inl feed ↦ Ended ((c ∷ front) ++ 10 ∷ []) left (LastWord ((c ∷ front) ++ 10 ∷ []) (c ∷ front) (record { is = is }) refl)
            (whole ∙ ap (λ b. (c ∷ front) ++ b ∷ left) feed ∙ sym (append_assoc (c ∷ front) (10 ∷ []) left))
        | inr no_feed ↦ StuckAt (b ∷ left) (names_stuck text (c ∷ front) (b ∷ left) whole seen
            (ends, inr (λ end. elim end [ inl space ↦ no_space space | inr feed ↦ no_feed feed ])))
      ]
    ]

words_within : (most : ℕ) (text : List ℕ) → length text ≤ most → Reads Words text
words_within zero text fits = names_by text [] text refl (none text fits) refl (λ rest same. absurd (too_long rest same))
  where
    none : (text : List ℕ) → length text ≤ 0 → AtFront (λ b. is_visible b ≡ false) text
    none [] fits = tt
    none (b ∷ text) fits = absurd (omega arith)

    too_long : (rest : List ℕ) → text ≡ 32 ∷ rest → ⊥
    too_long rest same = let sizes : length text ≡ suc (length rest) = ap length same in omega arith
words_within (suc most) text fits =
    let parts = split is_visible text in
    names_by text parts.front parts.left parts.passes parts.ends parts.whole (λ rest same. words_within most rest (shorter parts.front rest same))
  where
    shorter : (front rest : List ℕ) → text ≡ front ++ 32 ∷ rest → length rest ≤ most
    shorter front rest same =
        let sizes : length text ≡ length (front ++ 32 ∷ rest) = ap length same in
        let parts = length-append front (32 ∷ rest) in
        omega arith

pub reads_words : (text : List ℕ) → Reads Words text
reads_words text = words_within (length text) text (omega arith)
