-- The first of a text's faults, from what is found of each kind.
use Rattle.std.proofs.Common.{◌≡◌, ℕ, zero, suc, ◌+◌, ◌<◌, ◌≤◌, Bool, nat_le, cond, List, ◌⊎◌, find, Option, Some, None, inl, inr, refl, sym, ap, ◌∙◌, subst, arith}
use Rattle.std.specs.Prelude.{IsSomeAnd}
use Rattle.std.proofs.lemmas.Bool.{cases_Bool, leb-true, leb-false}
use Rattle.dcv_tokens.specs.Tokens.{Token, tokens_from, IsTokenized}
use Rattle.dcv_tokens.specs.Limits.{is_long, is_large}
use Rattle.dcv_tokens.proofs.Cuts.{cut_is_unique}
use Rattle.dcv_sentence.specs.declared.faults.ReadFault.{ReadFault}
use Rattle.dcv_sentence.specs.declared.faults.ReadFault.TheVariants.{Byte, Name, Number, Syntax, Nest, Memory}
use Rattle.dcv_sentence.specs.Faults.{StandsAmong, HasFault, offset_of, rank_of, offset_at, IsNotAfter, IsFirstFault, earlier_of}
use Rattle.dcv_sentence.specs.Scanning.{IsNotedAmong, IsFirstIfAny}
use Rattle.dcv_sentence.proofs.Depths.{one_too_deep}
use Rattle.dcv_sentence.proofs.FaultKinds.{one_misplaced}

-- ---- one fault

abbrev fault_from : ℕ → ℕ → ReadFault
fault_from zero at = Byte at
fault_from (suc zero) at = Name at
fault_from (suc (suc zero)) at = Number at
fault_from (suc (suc (suc zero))) at = Syntax at
fault_from (suc (suc (suc (suc zero)))) at = Nest at
fault_from (suc (suc (suc (suc (suc rank))))) at = Memory

fault_is : (fault : ReadFault) → fault_from (rank_of fault) (offset_of fault) ≡ fault
fault_is (Byte at) = refl
fault_is (Name at) = refl
fault_is (Number at) = refl
fault_is (Syntax at) = refl
fault_is (Nest at) = refl
fault_is Memory = refl

same_fault : (fault other : ReadFault) → offset_of fault ≡ offset_of other → rank_of fault ≡ rank_of other → fault ≡ other
same_fault fault other at rank =
    sym (fault_is fault) ∙ ap (λ (n : ℕ). fault_from n (offset_of fault)) rank ∙ ap (λ (n : ℕ). fault_from (rank_of other) n) at ∙ fault_is other

both_first : (fault other : ReadFault) → IsNotAfter fault other → IsNotAfter other fault → fault ≡ other
both_first fault other before after = elim before [
  | inl less ↦ elim after [
    | inl more ↦ absurd (omega arith)
    | inr same ↦ absurd (omega (arith, same.0))
  ]
  | inr same ↦ elim after [
    | inl more ↦ absurd (omega (arith, same.0))
    | inr other_same ↦ same_fault fault other same.0 (omega (arith, same.1, other_same.1))
  ]
]

pub fault_is_unique : (text : List ℕ) (fault other : ReadFault) → IsFirstFault text fault → IsFirstFault text other → fault ≡ other
fault_is_unique text fault other is is_other = both_first fault other (is.first other is_other.has) (is_other.first fault is.has)

-- ---- the one cut of a text

pub stands_among : (text : List ℕ) (tokens : List Token) (rest : List ℕ) (fault : ReadFault) → IsTokenized text tokens rest → HasFault text fault → StandsAmong text tokens rest fault
stands_among text tokens rest fault is has =
    let other = has.2 in
    let same = cut_is_unique text has.1 rest other.pieces is.pieces other.cut is.cut in
    let tokens_same : has.0 ≡ tokens = other.among ∙ ap (tokens_from 0) same.0 ∙ sym is.among in
    subst (λ (r : List ℕ). StandsAmong text tokens r fault) same.1
    (subst (λ (t : List Token). StandsAmong text t has.1 fault) tokens_same has.3)

-- ---- the kinds of faults

-- the faults of a kind are those of a rank, one at each offset
record IsKind (kind : ℕ → ReadFault) (rank : ℕ) : Type 0 where
  rank_is : (at : ℕ) → rank_of (kind at) ≡ rank
  offset_is : (at : ℕ) → offset_of (kind at) ≡ at
  only : (fault : ReadFault) → rank_of fault ≡ rank → fault ≡ kind (offset_of fault)

only_by_rank : (rank : ℕ) (fault : ReadFault) → rank_of fault ≡ rank → fault ≡ fault_from rank (offset_of fault)
only_by_rank rank fault is = sym (fault_is fault) ∙ ap (λ (n : ℕ). fault_from n (offset_of fault)) is

bytes : IsKind Byte 0
bytes = record { rank_is = λ at. refl; offset_is = λ at. refl; only = only_by_rank 0 }

names : IsKind Name 1
names = record { rank_is = λ at. refl; offset_is = λ at. refl; only = only_by_rank 1 }

numbers : IsKind Number 2
numbers = record { rank_is = λ at. refl; offset_is = λ at. refl; only = only_by_rank 2 }

misplaced_tokens : IsKind Syntax 3
misplaced_tokens = record { rank_is = λ at. refl; offset_is = λ at. refl; only = only_by_rank 3 }

nestings : IsKind Nest 4
nestings = record { rank_is = λ at. refl; offset_is = λ at. refl; only = only_by_rank 4 }

-- ---- one fault of a kind

one_start : (found : Option Token) (at other : ℕ) → IsSomeAnd found (λ token. at ≡ token.start) → IsSomeAnd found (λ token. other ≡ token.start) → at ≡ other
one_start None at other there there_too = absurd there
one_start (Some token) at other there there_too = there ∙ sym there_too

module _ (text : List ℕ) (tokens : List Token) (rest : List ℕ) where
  one_byte : (at other : ℕ) → StandsAmong text tokens rest (Byte at) → StandsAmong text tokens rest (Byte other) → at ≡ other
  one_byte at other stands stands_too = omega (arith, stands.1, stands_too.1)

  one_name : (at other : ℕ) → StandsAmong text tokens rest (Name at) → StandsAmong text tokens rest (Name other) → at ≡ other
  one_name at other stands stands_too = one_start (find is_long tokens) at other stands stands_too

  one_number : (at other : ℕ) → StandsAmong text tokens rest (Number at) → StandsAmong text tokens rest (Number other) → at ≡ other
  one_number at other stands stands_too = one_start (find is_large tokens) at other stands stands_too

  one_syntax : (at other : ℕ) → StandsAmong text tokens rest (Syntax at) → StandsAmong text tokens rest (Syntax other) → at ≡ other
  one_syntax at other stands stands_too =
      let same = one_misplaced tokens rest stands_too.0 stands.0 stands_too.1.fault stands.1 in
      stands.2 ∙ ap (offset_at text tokens) same ∙ sym stands_too.2

  one_nest : (at other : ℕ) → StandsAmong text tokens rest (Nest at) → StandsAmong text tokens rest (Nest other) → at ≡ other
  one_nest at other stands stands_too =
      let same = one_too_deep tokens stands.0 stands_too.0 stands.1 stands_too.1 in
      stands.2 ∙ ap (offset_at text tokens) same ∙ sym stands_too.2

-- ---- the first fault of the first kinds

-- the first of the faults below a rank, if there are any
abbrev IsFirstBelow : List ℕ → List Token → List ℕ → ℕ → Option ReadFault → Type 0
IsFirstBelow text tokens rest rank None = (fault : ReadFault) → rank_of fault < rank → StandsAmong text tokens rest fault → ⊥
IsFirstBelow text tokens rest rank (Some first) =
    (rank_of first < rank) × StandsAmong text tokens rest first × ((fault : ReadFault) → rank_of fault < rank → StandsAmong text tokens rest fault → IsNotAfter first fault)

below_or_of : (rank : ℕ) (fault : ReadFault) → rank_of fault < rank + 1 → (rank_of fault < rank) ⊎ (rank_of fault ≡ rank)
below_or_of rank fault low = elim (cases_Bool (nat_le rank (rank_of fault))) [
  | inl high ↦ let least = leb-true rank (rank_of fault) high in inr (omega arith)
  | inr below ↦ inl (leb-false rank (rank_of fault) below)
]

-- a chosen fault, whichever way it is chosen
chosen : (P : Option ReadFault → Type 0) (left right : ReadFault) → (offset_of left ≤ offset_of right → P (Some left)) → (offset_of right < offset_of left → P (Some right)) → P (earlier_of (Some left) (Some right))
chosen P left right to_left to_right = elim (cases_Bool (nat_le (offset_of left) (offset_of right))) [
  | inl low ↦ subst (λ (b : Bool). P (cond b (Some left) (Some right))) (sym low) (to_left (leb-true (offset_of left) (offset_of right) low))
  | inr high ↦ subst (λ (b : Bool). P (cond b (Some left) (Some right))) (sym high) (to_right (leb-false (offset_of left) (offset_of right) high))
]

not_after_last : (first fault : ReadFault) → offset_of first ≤ offset_of fault → rank_of first ≤ rank_of fault → IsNotAfter first fault
not_after_last first fault low rank = elim (cases_Bool (nat_le (offset_of fault) (offset_of first))) [
  | inl high ↦ let same : offset_of first ≡ offset_of fault = omega (arith, leb-true (offset_of fault) (offset_of first) high) in inr (same, rank)
  | inr less ↦ inl (leb-false (offset_of fault) (offset_of first) less)
]

-- what is before a fault that is not after another is before that one
before_all : (first noted fault : ReadFault) → offset_of noted < offset_of first → IsNotAfter first fault → IsNotAfter noted fault
before_all first noted fault high after = elim after [ inl less ↦ inl (omega arith) | inr same ↦ inl (omega (arith, same.0)) ]

module _ (text : List ℕ) (tokens : List Token) (rest : List ℕ) (kind : ℕ → ReadFault) (rank : ℕ) (of_kind : IsKind kind rank) (single : (at other : ℕ) → StandsAmong text tokens rest (kind at) → StandsAmong text tokens rest (kind other) → at ≡ other) where
  -- a fault of the kind, told by its offset
  stands_there : (fault : ReadFault) → rank_of fault ≡ rank → StandsAmong text tokens rest fault → StandsAmong text tokens rest (kind (offset_of fault))
  stands_there fault is stands = subst (StandsAmong text tokens rest) (of_kind.only fault is) stands

  -- where a fault of the kind is noted, each of it is at that offset
  same_offset : (noted fault : ReadFault) (at : ℕ) → noted ≡ kind at → StandsAmong text tokens rest (kind at) → rank_of fault ≡ rank → StandsAmong text tokens rest fault → offset_of noted ≡ offset_of fault
  same_offset noted fault at is stands of_rank stands_too =
      ap offset_of is ∙ of_kind.offset_is at ∙ single at (offset_of fault) stands (stands_there fault of_rank stands_too)

  noted_rank : (noted : ReadFault) (at : ℕ) → noted ≡ kind at → rank_of noted ≡ rank
  noted_rank noted at is = ap rank_of is ∙ of_kind.rank_is at

  first_with : (first noted : Option ReadFault) → IsFirstBelow text tokens rest rank first → IsNotedAmong text tokens rest kind noted → IsFirstBelow text tokens rest (rank + 1) (earlier_of first noted)
  first_with None None none none_of_kind = λ fault low stands. elim (below_or_of rank fault low) [
    | inl below ↦ none fault below stands
    | inr of_rank ↦ none_of_kind (offset_of fault) (stands_there fault of_rank stands)
  ]
  first_with None (Some noted) none is = (
    omega (arith, noted_rank noted is.0 is.1),
    subst (StandsAmong text tokens rest) (sym is.1) is.2,
    λ fault low stands. elim (below_or_of rank fault low) [
      | inl below ↦ absurd (none fault below stands)
      | inr of_rank ↦ inr (same_offset noted fault is.0 is.1 is.2 of_rank stands, omega (arith, noted_rank noted is.0 is.1))
    ],
  )
  first_with (Some first) None is none_of_kind = (
    omega (arith, is.0),
    is.1,
    λ fault low stands. elim (below_or_of rank fault low) [
      | inl below ↦ is.2 fault below stands
      | inr of_rank ↦ absurd (none_of_kind (offset_of fault) (stands_there fault of_rank stands))
    ],
  )
  first_with (Some first) (Some noted) is is_noted = chosen (IsFirstBelow text tokens rest (rank + 1)) first noted
      (λ low. (
        omega (arith, is.0),
        is.1,
        λ fault below stands. elim (below_or_of rank fault below) [
          | inl lower ↦ is.2 fault lower stands
          | inr of_rank ↦ not_after_last first fault (omega (arith, low, same_offset noted fault is_noted.0 is_noted.1 is_noted.2 of_rank stands)) (omega (arith, is.0))
        ],
      ))
      (λ high. (
        omega (arith, noted_rank noted is_noted.0 is_noted.1),
        subst (StandsAmong text tokens rest) (sym is_noted.1) is_noted.2,
        λ fault below stands. elim (below_or_of rank fault below) [
          | inl lower ↦ before_all first noted fault high (is.2 fault lower stands)
          | inr of_rank ↦ inr (same_offset noted fault is_noted.0 is_noted.1 is_noted.2 of_rank stands, omega (arith, noted_rank noted is_noted.0 is_noted.1))
        ],
      ))

-- ---- all kinds

stands_ranked : (text : List ℕ) (tokens : List Token) (rest : List ℕ) (fault : ReadFault) → StandsAmong text tokens rest fault → rank_of fault < 5
stands_ranked text tokens rest (Byte at) stands = omega arith
stands_ranked text tokens rest (Name at) stands = omega arith
stands_ranked text tokens rest (Number at) stands = omega arith
stands_ranked text tokens rest (Syntax at) stands = omega arith
stands_ranked text tokens rest (Nest at) stands = omega arith
stands_ranked text tokens rest Memory stands = absurd stands

first_is_first : (text : List ℕ) (tokens : List Token) (rest : List ℕ) (found : Option ReadFault) → IsTokenized text tokens rest → IsFirstBelow text tokens rest 5 found → IsFirstIfAny text found
first_is_first text tokens rest None scanned none = λ fault has.
    let stands = stands_among text tokens rest fault scanned has in
    none fault (stands_ranked text tokens rest fault stands) stands
first_is_first text tokens rest (Some first) scanned is = record {
  has = (tokens, rest, scanned, is.1);
  first = λ fault has.
      let stands = stands_among text tokens rest fault scanned has in
      is.2 fault (stands_ranked text tokens rest fault stands) stands;
}

none_below : (text : List ℕ) (tokens : List Token) (rest : List ℕ) → IsFirstBelow text tokens rest 0 None
none_below text tokens rest fault low stands = absurd (omega (arith, low))

pub first_of_all : (text : List ℕ) (tokens : List Token) (rest : List ℕ) (byte name number syntax nest : Option ReadFault) → IsTokenized text tokens rest → IsNotedAmong text tokens rest Byte byte → IsNotedAmong text tokens rest Name name → IsNotedAmong text tokens rest Number number → IsNotedAmong text tokens rest Syntax syntax → IsNotedAmong text tokens rest Nest nest → IsFirstIfAny text (earlier_of (earlier_of (earlier_of (earlier_of byte name) number) syntax) nest)
first_of_all text tokens rest byte name number syntax nest scanned noted_byte noted_name noted_number noted_syntax noted_nest =
    let first = first_with text tokens rest Byte 0 bytes (one_byte text tokens rest) None byte (none_below text tokens rest) noted_byte in
    let second = first_with text tokens rest Name 1 names (one_name text tokens rest) byte name first noted_name in
    let third = first_with text tokens rest Number 2 numbers (one_number text tokens rest) (earlier_of byte name) number second noted_number in
    let fourth = first_with text tokens rest Syntax 3 misplaced_tokens (one_syntax text tokens rest) (earlier_of (earlier_of byte name) number) syntax third noted_syntax in
    let fifth = first_with text tokens rest Nest 4 nestings (one_nest text tokens rest) (earlier_of (earlier_of (earlier_of byte name) number) syntax) nest fourth noted_nest in
    first_is_first text tokens rest (earlier_of (earlier_of (earlier_of (earlier_of byte name) number) syntax) nest) scanned fifth
