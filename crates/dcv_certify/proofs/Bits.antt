-- Columns of bits, one entry after another.
use Rattle.std.proofs.Common.{◌≡◌, ◌⊎◌, inl, inr, ℕ, ◌+◌, ◌<◌, ◌≤◌, Bool, true, false, not, if◌then◌else◌, List, [], ◌∷◌, ◌++◌, length, map, take, set, get_or, suc, refl, ap, sym, ◌∙◌, arith}
use Rattle.std.specs.Prelude.{nat_lt, Result, Ok, Err, IfOk}
use Rattle.std.proofs.lemmas.Bool.{cases_lt, lt-ltb, le-ltb}
use Rattle.std.proofs.lemmas.List.{length-append, length-map, length-set, get_or-map, get_or-take, get_or_default, take_all, get_or_push, get_or_append_left}
use Rattle.std.proofs.lemmas.Grind.{take-set_at}
use Rattle.dcv_word.specs.Behaviour.{Word}
use Rattle.dcv_language.specs.Automaton.{accepts_from}
use Rattle.dcv_language.specs.Table.{Table, IsTable, next_in, automaton_of}
use Rattle.dcv_language.proofs.Bounds.{next-below}
use Rattle.dcv_certify.specs.Alike.{turned_bit, bit}
use Rattle.dcv_certify.specs.Split.{bit_at}
use Rattle.dcv_certify.specs.Columns.{IsColumn, with_start}
use Rattle.dcv_certify.specs.Steps.{LeadTo}

pub record IsColumnSoFar (table : Table) (word : Word) (column : List Bool) (count : ℕ) : Type 0 where
  pub count_is : length column ≡ count
  pub bits : (entry : ℕ) → entry < count → bit_at column entry ≡ bit table entry word

module _ (table : Table) where
  -- of a state, and of the start with its other flag
  pub bit_of_state : (entry : ℕ) (word : Word) → entry < length table → bit table entry word ≡ accepts_from (automaton_of table) entry word
  bit_of_state entry word within = by (nat_lt entry (length table)) (lt-ltb entry (length table) within)
    where
      by : (b : Bool) → b ≡ true → (if b then accepts_from (automaton_of table) entry word else turned_bit table word) ≡ accepts_from (automaton_of table) entry word
      by true e = refl
      by false e = absurd cc

  pub bit_of_last : (word : Word) → bit table (length table) word ≡ turned_bit table word
  bit_of_last word = by (nat_lt (length table) (length table)) (le-ltb (length table) (length table) (omega arith))
    where
      by : (b : Bool) → b ≡ false → (if b then accepts_from (automaton_of table) (length table) word else turned_bit table word) ≡ turned_bit table word
      by true e = absurd cc
      by false e = refl

  pub bit_behind : (entry : ℕ) (letter : List Bool) (word : Word) → entry < length table → next_in table entry letter < length table
      → bit table entry (letter ∷ word) ≡ bit table (next_in table entry letter) word
  bit_behind entry letter word within next = bit_of_state entry (letter ∷ word) within ∙ sym (bit_of_state (next_in table entry letter) word next)

  pub last_behind : (letter : List Bool) (word : Word) → 0 < length table → bit table (length table) (letter ∷ word) ≡ bit table 0 (letter ∷ word)
  last_behind letter word some = bit_of_last (letter ∷ word) ∙ sym (bit_of_state 0 (letter ∷ word) some)

  pub last_empty : 0 < length table → bit table (length table) [] ≡ not (bit table 0 [])
  last_empty some = bit_of_last [] ∙ sym (ap not (bit_of_state 0 [] some))

  module _ (word : Word) where
    pub column_first : (column : List Bool) → column ≡ [] → IsColumnSoFar table word column 0
    column_first column is = record { count_is = ap length is; bits = λ entry within. absurd (omega (arith, within)) }

    pub column_more : (column : List Bool) (count : ℕ) (b : Bool) → IsColumnSoFar table word column count → b ≡ bit table count word → IsColumnSoFar table word (column ++ b ∷ []) (count + 1)
    column_more column count b so_far is = record {
      count_is = omega (arith, length-append column (b ∷ []), so_far.count_is);
      bits = λ entry within. by entry (cases_lt entry count) within;
    }
      where
        by : (entry : ℕ) → (entry < count) ⊎ (count ≤ entry) → entry < count + 1 → get_or (column ++ b ∷ []) entry false ≡ bit table entry word
        by entry (inl less) within = get_or_append_left column (b ∷ []) false entry (omega (arith, so_far.count_is)) ∙ so_far.bits entry less
        by entry (inr more) within =
            let same : count ≡ entry = omega arith in
            get_or_push column b false entry (so_far.count_is ∙ same) ∙ is ∙ ap (λ n. bit table n word) same

    pub column_done : (column : List Bool) (b : Bool) → IsColumnSoFar table word column (length table) → b ≡ bit table (length table) word → IsColumn table word (column ++ b ∷ [])
    column_done column b so_far is =
        let all = column_more column (length table) b so_far is in
        record { count = omega (arith, all.count_is); bits = λ entry within. all.bits entry (omega (arith, within)) }

-- of a letter before a suffix that has this column
module _ (width : ℕ) (table : Table) (is_table : IsTable width table) (letter : List Bool) (word : Word) (from : List Bool) (next : List ℕ) (leads : LeadTo table letter next)
    (made : IsColumn table word from) where
  abbrev bits : List Bool
  bits = map (bit_at from) next

  length_bits : length bits ≡ length table
  length_bits = length-map next (bit_at from) ∙ leads.count

  bit_of_next : (entry : ℕ) → entry < length table → bit_at bits entry ≡ bit table entry (letter ∷ word)
  bit_of_next entry within =
      get_or-map (bit_at from) next entry 0 false (omega (arith, leads.count))
      ∙ ap (bit_at from) (leads.each entry within)
      ∙ made.bits (next_in table entry letter) (omega (arith, next-below width table is_table entry letter within))
      ∙ sym (bit_behind table entry letter word within (next-below width table is_table entry letter within))

  pub behind_is : IsColumn table (letter ∷ word) (with_start bits)
  behind_is =
      column_done table (letter ∷ word) bits (bit_at bits 0) (record { count_is = length_bits; bits = bit_of_next })
      (bit_of_next 0 is_table.nonempty ∙ sym (last_behind table letter word is_table.nonempty))

pub with_last : (column bits : List Bool) (count place : ℕ) (b : Bool) → length column ≡ suc count → take place column ≡ bits → place ≡ count → 0 < count → b ≡ get_or column 0 b
    → set column count b ≡ with_start bits
with_last column bits count place b size before at some read =
    let all : take (suc count) (set column count b) ≡ set column count b = take_all (suc count) (set column count b) (omega (arith, length-set column count b, size)) in
    let first : b ≡ get_or bits 0 false = read ∙ get_or_default column 0 b false (omega (arith, size)) ∙ sym (get_or-take place column 0 false (omega (arith, some, at))) ∙ ap (λ bits. get_or bits 0 false) before in
    sym all ∙ take-set_at column count (suc count) b (omega arith) (omega (arith, size)) ∙ ap (λ count. take count column ++ b ∷ []) (sym at) ∙ ap (λ bits. bits ++ b ∷ []) before
    ∙ ap (λ b. bits ++ b ∷ []) first

pub flags_done : (table : Table) (column : List Bool) (b : Bool) → 0 < length table → IsColumnSoFar table [] column (length table) → b ≡ not (bit_at column 0) → IsColumn table [] (column ++ b ∷ [])
flags_done table column b some so_far read =
    column_done table [] column b so_far (read ∙ ap not (so_far.bits 0 some) ∙ sym (last_empty table some))

pub if_ok_more : {T E : Type 0} (result : Result T E) (P Q : T → Type 0) → ((x : T) → P x → Q x) → IfOk result P → IfOk result Q
if_ok_more (Ok x) P Q more is = more x is
if_ok_more (Err e) P Q more is = tt
