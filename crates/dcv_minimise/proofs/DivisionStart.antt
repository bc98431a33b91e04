-- The division before any listed state is settled, and one more state that is.
use Rattle.std.proofs.Common.{◌≡◌, ℕ, ◌<◌, ◌+◌, List, [], length, take, get_or, sym, subst, ap, ◌∙◌, arith}
use Rattle.std.specs.List.{All}
use Rattle.std.proofs.lemmas.List.{get_or_default}
use Rattle.std.proofs.lemmas.List.Elements.{All-nil, All-more, All-take}
use Rattle.std.proofs.lemmas.Option.{none-some}
use Rattle.dcv_arena.specs.Arena.{ArenaValue}
use Rattle.dcv_dfa.specs.Raw.{RawValue}
use Rattle.dcv_refinement.specs.Members.{block_of}
use Rattle.dcv_minimise.specs.Rounds.{IsState, IsWitnessed}
use Rattle.dcv_minimise.specs.Division.{IsGrouped, IsMove, IsDividing, IsSettled}
use Rattle.dcv_minimise.specs.declared.refine.division.Move.{Move}
use Rattle.dcv_minimise.specs.declared.refine.division.Part.{Part}

-- the witnesses are of different blocks
grouped_start : (raw : RawValue) (blocks witness : List ℕ) → IsWitnessed raw blocks witness → IsGrouped raw blocks (length witness) witness
grouped_start raw blocks witness is = record {
  each = is.each;
  numbers = is.numbers;
  many = omega arith;
  states = λ k d within.
      let inside : get_or witness k 0 < length raw.rows = is.states k within in
      omega (arith, inside, get_or_default witness k d 0 within);
  own = is.own;
  apart = λ i j d before within alike.
      let first : i < length witness = omega arith in
      let equal : block_of blocks (get_or witness i 0) ≡ block_of blocks (get_or witness j 0) =
      ap (block_of blocks) (sym (get_or_default witness i d 0 first)) ∙ alike.block ∙ ap (block_of blocks) (get_or_default witness j d 0 within) in
      omega (arith, equal, is.own i first, is.own j within);
}

pub dividing_start : (raw : RawValue) (blocks witness : List ℕ) (scratch : ArenaValue) (parts : List Part) (moves : List Move) → IsWitnessed raw blocks witness → parts ≡ [] → moves ≡ []
    → IsDividing raw blocks (length witness) scratch witness parts moves
dividing_start raw blocks witness scratch parts moves is no_parts no_moves =
    subst (λ parts. IsDividing raw blocks (length witness) scratch witness parts moves) (sym no_parts)
    (subst (IsDividing raw blocks (length witness) scratch witness []) (sym no_moves) (record {
      grouped = grouped_start raw blocks witness is;
      size = omega arith;
      each_part = λ place part at. absurd (none-some part at);
      each_move = All-nil (IsMove raw blocks (length witness) witness);
    }))

-- one more listed state is settled, and the others still are
module _ (raw : RawValue) (blocks witness more : List ℕ) (moves new_moves : List Move) (listed : List ℕ) (place : ℕ) (within : place < length listed) (states : All (IsState raw) listed) where
  pub settled_more : All (IsSettled raw blocks witness moves) (take place listed)
      → ((other : ℕ) → IsState raw other → IsSettled raw blocks witness moves other → IsSettled raw blocks more new_moves other)
      → IsSettled raw blocks more new_moves (get_or listed place 0) → All (IsSettled raw blocks more new_moves) (take (place + 1) listed)
  settled_more was kept here =
      All-more (IsSettled raw blocks more new_moves) listed place 0 within
      (λ k d inside. kept (get_or (take place listed) k d) (All-take (IsState raw) place listed states k d inside) (was k d inside)) here
