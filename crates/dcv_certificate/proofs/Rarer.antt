-- The smaller parts of the blocks: of the candidates those that are on the smaller side.
use Rattle.std.proofs.Common.{◌≡◌, ◌≢◌, ℕ, ◌<◌, ◌≤◌, ◌/◌, ◌==◌, ◌&&◌, leb, Bool, true, false, not, List, [], ◌∷◌, length, get_or, All, inl, inr, Contains, refl, ap, sym, ◌∙◌, arith}
use Rattle.std.specs.Bool.{beq}
use Rattle.std.proofs.lemmas.Bool.{cases_Bool, true≢false, eqb-true, eq-eqb}
use Rattle.std.proofs.lemmas.List.Elements.{All-contains}
use Rattle.dcv_dfa.specs.Raw.{RawValue}
use Rattle.dcv_refinement.specs.Members.{block_of}
use Rattle.dcv_certificate.specs.declared.ones.Ones.{Ones}
use Rattle.dcv_certificate.specs.Separation.{TellAlike, AreTogether, has, count_below}
use Rattle.dcv_certificate.specs.Marks.{SplitsSome, IsSplitOff}
use Rattle.dcv_certificate.specs.Tallies.{AreSizes}
use Rattle.dcv_certificate.specs.Ones.{is_one, ones_in, AreCounted, are_few_in, AreCandidates, AreRarer}
use Rattle.dcv_certificate.proofs.Counting.{more_pass, count_some, count_none}
use Rattle.dcv_certificate.proofs.Having.{has_contained}
use Rattle.dcv_certificate.proofs.Truths.{and_left, and_second, and_parts}

beq_cancel : (a b side : Bool) → beq a side ≡ beq b side → a ≡ b
beq_cancel true true side e = refl
beq_cancel false false side e = refl
beq_cancel true false true e = absurd (true≢false e)
beq_cancel true false false e = absurd (true≢false (sym e))
beq_cancel false true true e = absurd (true≢false (sym e))
beq_cancel false true false e = absurd (true≢false e)

beq_is : (a side : Bool) → beq a side ≡ true → a ≡ side
beq_is true true e = refl
beq_is true false e = absurd (true≢false (sym e))
beq_is false true e = absurd (true≢false (sym e))
beq_is false false e = refl

beq_not : (a side : Bool) → a ≡ not side → beq a side ≡ false
beq_not true true e = absurd (true≢false e)
beq_not true false e = refl
beq_not false true e = refl
beq_not false false e = absurd (true≢false (sym e))

pub few_is : (count half : ℕ) → leb count half ≡ true → count ≤ half
few_is count half e = grind (arith, e)

pub many_is : (count half : ℕ) → leb count half ≡ false → half < count
many_is count half e = grind (arith, e)

-- a one of this block
abbrev pub in_block_is : List ℕ → Ones → ℕ → ℕ → Bool
in_block_is blocks ones block state = (block_of blocks state == block) && is_one ones state

pub is_in_block : (blocks : List ℕ) (ones : Ones) (block state : ℕ) → in_block_is blocks ones block state ≡ true → (block_of blocks state ≡ block) × (is_one ones state ≡ true)
is_in_block blocks ones block state e =
    let both = and_parts (block_of blocks state == block) (is_one ones state) e in
    (eqb-true (block_of blocks state) block both.0, both.1)

module _ (raw : RawValue) (blocks sizes : List ℕ) (count : ℕ) (ones : Ones) (test : ℕ → Bool) (candidates part : List ℕ) (each : length blocks ≡ length raw.rows)
    (are : (state : ℕ) → is_one ones state ≡ test state) (low : All (λ block. block < count) blocks) (s : AreSizes blocks count sizes) (counted : AreCounted blocks ones)
    (all : AreCandidates blocks sizes ones candidates) (rarer : AreRarer blocks sizes ones candidates part) (members : All (λ state. state < length blocks) part) where
  abbrev side : ℕ → Bool
  side state = are_few_in sizes ones (block_of blocks state)

  -- a state on the smaller side of its block is a candidate
  is_candidate : (state : ℕ) → state < length blocks → (one few : Bool) → is_one ones state ≡ one → side state ≡ few → beq one few ≡ true → has candidates state ≡ true
  is_candidate state h true true is few e = has_contained candidates state (all.every_one state is)
  is_candidate state h true false is few e = absurd (true≢false (sym e))
  is_candidate state h false true is few e = absurd (true≢false (sym e))
  is_candidate state h false false is few e = has_contained candidates state (all.others state h few)

  in_part : (state : ℕ) → state < length blocks → has part state ≡ beq (test state) (side state)
  in_part state h =
      rarer state ∙ elim (cases_Bool (beq (is_one ones state) (side state))) [
        | inl is ↦ and_left (has candidates state) (beq (is_one ones state) (side state)) (is_candidate state h (is_one ones state) (side state) refl refl is)
        | inr isnt ↦ and_second (has candidates state) (beq (is_one ones state) (side state)) isnt ∙ sym isnt
      ] ∙ ap (λ one. beq one (side state)) (are state)

  alike : (first second : ℕ) → AreTogether raw blocks first second → TellAlike test (has part) first second
  alike first second t =
      let one = in_part first (omega (arith, each, t.first_is)) in
      let other = in_part second (omega (arith, each, t.second_is)) ∙ ap (λ block. beq (test second) (are_few_in sizes ones block)) (sym t.same) in (
        (λ e. one ∙ ap (λ truth. beq truth (side first)) e ∙ sym other),
        (λ e. beq_cancel (test first) (test second) (side first) (sym one ∙ e ∙ other)),
      )

  record HasOther (state : ℕ) : Type 0 where
    pub other : ℕ
    pub is_state : other < length blocks
    pub in_block : block_of blocks other ≡ block_of blocks state
    pub not_one : is_one ones other ≡ not (side state)

  -- a state in the part has another in its block that is not
  has_other : (state : ℕ) → state < length blocks → (few : Bool) → side state ≡ few → is_one ones state ≡ few → HasOther state
  has_other state h true few is =
      let block = block_of blocks state in
      let here : 0 < ones_in ones block =
      omega (arith, counted.numbers block, count_some (length blocks) (in_block_is blocks ones block) state h (and_left (block == block) (is_one ones state) (eq-eqb block block refl) ∙ is)) in
      let half : ones_in ones block ≤ get_or sizes block 0 / 2 = few_is (ones_in ones block) (get_or sizes block 0 / 2) few in
      let less : count_below (length blocks) (in_block_is blocks ones block) < count_below (length blocks) (λ n. block_of blocks n == block) = omega (arith, counted.numbers block, s.are block (low state 0 h)) in
      let one = more_pass (length blocks) (in_block_is blocks ones block) (λ n. block_of blocks n == block) less in
      record {
        other = one.number;
        is_state = one.below;
        in_block = eqb-true (block_of blocks one.number) block one.other;
        not_one = sym (and_left (block_of blocks one.number == block) (is_one ones one.number) one.other) ∙ one.one ∙ sym (ap not few);
      }
  has_other state h false few is =
      let block = block_of blocks state in
      let many : get_or sizes block 0 / 2 < ones_in ones block = many_is (ones_in ones block) (get_or sizes block 0 / 2) few in
      let some : count_below (length blocks) (λ n. false) < count_below (length blocks) (in_block_is blocks ones block) =
      omega (arith, counted.numbers block, count_none (length blocks) (λ n. false) (λ n l. refl)) in
      let one = more_pass (length blocks) (λ n. false) (in_block_is blocks ones block) some in
      let both = is_in_block blocks ones block one.number one.other in
      record {
        other = one.number;
        is_state = one.below;
        in_block = both.0;
        not_one = both.1 ∙ sym (ap not few);
      }

  first_in : (part : List ℕ) → part ≢ [] → (one : ℕ) × Contains part one
  first_in [] some = absurd (some refl)
  first_in (one ∷ part) some = (one, (0, omega arith, refl))

  some : part ≢ [] → SplitsSome raw blocks part
  some nonempty =
      let (first, there) = first_in part nonempty in
      let within : first < length blocks = All-contains (λ state. state < length blocks) part first members there in
      let has_it = has_contained part first there in
      let is : is_one ones first ≡ side first = are first ∙ beq_is (test first) (side first) (sym (in_part first within) ∙ has_it) in
      let one = has_other first within (side first) refl is in
      let same_side : side one.other ≡ side first = ap (are_few_in sizes ones) one.in_block in
      let isnt : has part one.other ≡ false =
      in_part one.other one.is_state ∙ beq_not (test one.other) (side one.other) (sym (are one.other) ∙ one.not_one ∙ ap not (sym same_side)) in
      record {
        first = first;
        second = one.other;
        together = record { first_is = omega (arith, each, within); second_is = omega (arith, each, one.is_state); same = sym one.in_block };
        differ = λ e. true≢false (sym has_it ∙ e ∙ isnt);
      }

  pub is_split_off : IsSplitOff raw blocks test part
  is_split_off = record { alike = alike; some = some }
