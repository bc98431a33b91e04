-- Ones, counted for each block, after one state more.
use Rattle.std.proofs.Common.{◌≡◌, ◌≢◌, inl, inr, ℕ, ◌<◌, ◌+◌, ◌==◌, ◌&&◌, if◌then◌else◌, Bool, true, false, List, length, All, Contains, refl, ap, sym, subst, ◌∙◌, arith}
use Rattle.std.specs.Cmp.{nat_eq_equiv}
use Rattle.std.proofs.lemmas.Bool.{cases_eq, cases_Bool, true≢false, eqb-true, eq-eqb, ne_eqb}
use Rattle.std.proofs.lemmas.List.Elements.{All-weaker, All-contains_itself}
use Rattle.std.proofs.lemmas.Map.Views.{Contains-from_any, list_any-from_Contains}
use Rattle.dcv_refinement.specs.Members.{block_of}
use Rattle.dcv_certificate.specs.declared.ones.Ones.{Ones}
use Rattle.dcv_certificate.specs.Separation.{count_below}
use Rattle.dcv_certificate.specs.Ones.{is_one, ones_in, AreNoOnes, IsOneMore, AreCounted}
use Rattle.dcv_certificate.proofs.Counting.{one_if, count_same, count_change, count_none}
use Rattle.dcv_certificate.proofs.Truths.{or_right, or_neither, or_other, and_left, and_first, and_second}

one_unless : (b : Bool) → (if b then 0 else 1) + one_if b ≡ 1
one_unless true = refl
one_unless false = refl

pub counted_none : (blocks : List ℕ) (ones : Ones) → AreNoOnes ones → AreCounted blocks ones
counted_none blocks ones empty = record {
  states_are = λ state is. absurd (true≢false (sym is ∙ empty.none state));
  numbers = λ block. empty.no_counts block ∙ sym (count_none (length blocks) (λ state. (block_of blocks state == block) && is_one ones state)
      (λ state h. and_second (block_of blocks state == block) (is_one ones state) (empty.none state)));
  listed = λ block some. absurd (omega (arith, some, empty.no_counts block));
  only = empty.no_blocks;
}

module _ (blocks : List ℕ) (old new : Ones) (state : ℕ) (within : state < length blocks) (more : IsOneMore old state (block_of blocks state) new) (was : AreCounted blocks old) where
  abbrev block : ℕ
  block = block_of blocks state

  others_stay : (other : ℕ) → other ≢ state → is_one new other ≡ is_one old other
  others_stay other ne = more.states_are other ∙ or_neither (is_one old other) (state == other) (ne_eqb state other (λ e. ne (sym e)))

  is_there : is_one new state ≡ true
  is_there = more.states_are state ∙ or_right (is_one old state) (state == state) (eq-eqb state state refl)

  numbers_then : (one : ℕ) → ones_in new one ≡ count_below (length blocks) (λ n. (block_of blocks n == one) && is_one new n)
  numbers_then one = elim (cases_eq one block) [
    | inl e ↦
        let now = λ (n : ℕ). (block_of blocks n == block) && is_one new n in
        let before = λ (n : ℕ). (block_of blocks n == block) && is_one old n in
        let change : count_below (length blocks) now + one_if (before state) ≡ count_below (length blocks) before + one_if (now state) =
        count_change (length blocks) now before state within (λ n ne. ap (λ there. (block_of blocks n == block) && there) (others_stay n ne)) in
        let here : one_if (now state) ≡ 1 = ap one_if (and_left (block == block) (is_one new state) (eq-eqb block block refl) ∙ is_there) in
        let there : one_if (before state) ≡ one_if (is_one old state) = ap one_if (and_left (block == block) (is_one old state) (eq-eqb block block refl)) in
        let same : ones_in new block ≡ count_below (length blocks) now = omega (arith, change, here, there, more.here, one_unless (is_one old state), was.numbers block) in
        subst (λ one. ones_in new one ≡ count_below (length blocks) (λ n. (block_of blocks n == one) && is_one new n)) (sym e) same
    | inr ne ↦
        more.others one ne ∙ was.numbers one
        ∙ count_same (length blocks) (λ n. (block_of blocks n == one) && is_one old n) (λ n. (block_of blocks n == one) && is_one new n) (λ n h. elim (cases_eq n state) [
          | inl e ↦
              let other : (block_of blocks n == one) ≡ false = ne_eqb (block_of blocks n) one (λ f. ne (sym f ∙ ap (block_of blocks) e)) in
              and_first (block_of blocks n == one) (is_one old n) other ∙ sym (and_first (block_of blocks n == one) (is_one new n) other)
          | inr differ ↦ ap (λ there. (block_of blocks n == one) && there) (sym (others_stay n differ))
        ])
  ]

  pub counted_more : AreCounted blocks new
  counted_more = record {
    states_are = λ other is. elim (cases_Bool (is_one old other)) [
      | inl before ↦ was.states_are other before
      | inr fresh ↦ let same = eqb-true state other (or_other (is_one old other) (state == other) fresh (sym (more.states_are other) ∙ is)) in subst (λ n. n < length blocks) same within
    ];
    numbers = numbers_then;
    listed = more.listed was.listed;
    only = more.only was.only;
  }

-- the keys are the ones
pub every_one : (ones : Ones) (state : ℕ) → is_one ones state ≡ true → Contains ones.states.keys state
every_one ones state is = Contains-from_any eqb-true state ones.states.keys is

pub ones_below : (ones : Ones) (bound : ℕ) → ((state : ℕ) → is_one ones state ≡ true → state < bound) → All (λ state. state < bound) ones.states.keys
ones_below ones bound below =
    All-weaker (Contains ones.states.keys) (λ state. state < bound) (λ state c. below state (list_any-from_Contains nat_eq_equiv state ones.states.keys c)) ones.states.keys (All-contains_itself ones.states.keys)
