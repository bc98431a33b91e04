-- Candidates, while the blocks in which ones are not few are listed.
use Rattle.std.proofs.Common.{◌≡◌, ◌⊎◌, inl, inr, ℕ, ◌<◌, ◌+◌, ◌/◌, true, false, List, ◌++◌, length, get_or, take, All, Contains, refl, sym, subst, ◌∙◌, arith}
use Rattle.std.proofs.lemmas.Bool.{true≢false}
use Rattle.std.proofs.lemmas.List.Elements.{All-more, All-weaker, All-contains, All-append, Contains-append_left, Contains-append_right}
use Rattle.dcv_refinement.specs.Members.{IsMended, HaveTheirOwn, block_of}
use Rattle.dcv_refinement.proofs.MemberFacts.{block_mended}
use Rattle.dcv_refinement.proofs.MarkFacts.{all_from_contains}
use Rattle.dcv_certificate.specs.declared.ones.Ones.{Ones}
use Rattle.dcv_certificate.specs.Separation.{count_below}
use Rattle.dcv_certificate.specs.Ones.{is_one, ones_in, AreCounted, are_few_in, AreCandidates}
use Rattle.dcv_certificate.proofs.Counting.{count_none, more_pass}
use Rattle.dcv_certificate.proofs.Rarer.{many_is, in_block_is, is_in_block}

-- all states of the block are among these
abbrev pub IsListed : List ℕ → List ℕ → ℕ → Type 0
IsListed blocks states block = (state : ℕ) → state < length blocks → block_of blocks state ≡ block → Contains states state

-- the states of a list that was mended are added to others
module _ (blocks : List ℕ) (block : ℕ) (old new : ℕ → List ℕ) (is : IsMended blocks block old new) (own : HaveTheirOwn blocks old) (states more : List ℕ) (grown : more ≡ states ++ new block) where
  pub added_below : All (λ state. state < length blocks) states → All (λ state. state < length blocks) more
  added_below was =
      subst (All (λ state. state < length blocks)) (sym grown)
      (All-append (λ state. state < length blocks) states (new block) was
      (all_from_contains (λ state. state < length blocks) (new block) (λ state there. ((block_mended blocks old new block is own state).0 there).0)))

  pub added_grows : (state : ℕ) → Contains states state → Contains more state
  added_grows state there = subst (λ more. Contains more state) (sym grown) (Contains-append_left states (new block) state there)

  pub added_listed : IsListed blocks more block
  added_listed state h same = subst (λ more. Contains more state) (sym grown) (Contains-append_right states (new block) state ((block_mended blocks old new block is own state).1 (h, same)))

-- ones are few in the block, or its states are listed
abbrev pub IsSettled : List ℕ → List ℕ → Ones → List ℕ → ℕ → Type 0
IsSettled blocks sizes ones states block = (are_few_in sizes ones block ≡ true) ⊎ IsListed blocks states block

pub settled_kept : (blocks sizes : List ℕ) (ones : Ones) (states more : List ℕ) → ((state : ℕ) → Contains states state → Contains more state) → (block : ℕ)
    → IsSettled blocks sizes ones states block → IsSettled blocks sizes ones more block
settled_kept blocks sizes ones states more grows block (inl few) = inl few
settled_kept blocks sizes ones states more grows block (inr listed) = inr (λ state h same. grows state (listed state h same))

pub settled_more : (blocks sizes : List ℕ) (ones : Ones) (states more : List ℕ) (listed : List ℕ) (place : ℕ) → place < length listed → ((state : ℕ) → Contains states state → Contains more state)
    → All (IsSettled blocks sizes ones states) (take place listed) → IsSettled blocks sizes ones more (get_or listed place 0) → All (IsSettled blocks sizes ones more) (take (place + 1) listed)
settled_more blocks sizes ones states more listed place within grows was own =
    All-more (IsSettled blocks sizes ones more) listed place 0 within
    (All-weaker (IsSettled blocks sizes ones states) (IsSettled blocks sizes ones more) (settled_kept blocks sizes ones states more grows) (take place listed) was) own

-- a block that has ones is that of a state
pub block_below : (blocks : List ℕ) (ones : Ones) (count block : ℕ) → AreCounted blocks ones → All (λ block. block < count) blocks → 0 < ones_in ones block → block < count
block_below blocks ones count block counted low some =
    let more : count_below (length blocks) (λ n. false) < count_below (length blocks) (in_block_is blocks ones block) =
    omega (arith, some, counted.numbers block, count_none (length blocks) (λ n. false) (λ n l. refl)) in
    let one = more_pass (length blocks) (λ n. false) (in_block_is blocks ones block) more in
    subst (λ block. block < count) (is_in_block blocks ones block one.number one.other).0 (low one.number 0 one.below)

-- and so is each block that is listed
pub listed_below : (blocks : List ℕ) (ones : Ones) (count : ℕ) (listed : List ℕ) (place : ℕ) → AreCounted blocks ones → All (λ block. block < count) blocks → listed ≡ ones.blocks.items
    → place < length listed → get_or listed place 0 < count
listed_below blocks ones count listed place counted low is within =
    let some = subst (All (λ block. 0 < ones_in ones block)) (sym is) counted.only in
    block_below blocks ones count (get_or listed place 0) counted low (some place 0 within)

pub all_settled : (blocks sizes : List ℕ) (ones : Ones) (states : List ℕ) → AreCounted blocks ones → ((state : ℕ) → is_one ones state ≡ true → Contains states state)
    → All (IsSettled blocks sizes ones states) ones.blocks.items → AreCandidates blocks sizes ones states
all_settled blocks sizes ones states counted each settled = record {
  every_one = each;
  others = λ state h many.
      let block = block_of blocks state in
      let half = many_is (ones_in ones block) (get_or sizes block 0 / 2) many in
      let there = counted.listed block (omega (arith, half)) in
      by state h many (All-contains (IsSettled blocks sizes ones states) ones.blocks.items block settled there);
}
  where
    by : (state : ℕ) → state < length blocks → are_few_in sizes ones (block_of blocks state) ≡ false → IsSettled blocks sizes ones states (block_of blocks state) → Contains states state
    by state h many (inl few) = absurd (true≢false (sym few ∙ many))
    by state h many (inr listed) = listed state h refl
