-- A division of the blocks, once its moves are made, is a round of refinement.
use Rattle.std.proofs.Common.{◌≡◌, ℕ, ◌<◌, List, length, map, get_or, ◌⊎◌, inl, inr, Contains, sym, ap, subst, ◌∙◌, arith}
use Rattle.std.specs.List.{All}
use Rattle.std.proofs.lemmas.Bool.{cases_order}
use Rattle.std.proofs.lemmas.List.{length-map}
use Rattle.std.proofs.lemmas.List.Elements.{All-contains, All-map}
use Rattle.dcv_arena.proofs.Members.{Contains-map}
use Rattle.dcv_dfa.specs.Raw.{RawValue}
use Rattle.dcv_refinement.specs.Members.{block_of}
use Rattle.dcv_minimise.specs.Rounds.{IsState, HaveOneRow, AreAlike, IsRound, HaveStayed, IsWitnessed, witness_of}
use Rattle.dcv_minimise.specs.Division.{move_to, IsMove, IsSettled, HasMoved, IsDivision}
use Rattle.dcv_minimise.specs.declared.refine.division.Move.{Move}
use Rattle.dcv_minimise.proofs.Alike.{alike_turned, alike_through}

-- the state is alike to the witness of this number
record GoesWith (raw : RawValue) (old more : List ℕ) (number state : ℕ) : Type 0 where
  is_number : number < length more
  alike : AreAlike raw old state (get_or more number 0)

abbrev pub AreOthersAlike : RawValue → List ℕ → List ℕ → List ℕ → Type 0
AreOthersAlike raw old witness listed = (state : ℕ) → IsState raw state → Contains listed state ⊎ HaveOneRow raw old state (witness_of old witness state)

module _ (raw : RawValue) (old new witness more listed : List ℕ) (moves : List Move) (was : IsWitnessed raw old witness) (others : AreOthersAlike raw old witness listed)
    (division : IsDivision raw old witness more listed moves) (size : length new ≡ length old) (moved : (state : ℕ) → state < length old → HasMoved moves old new state) where
  -- with the row of the witness of its block, the state stays
  with_row : (state : ℕ) → IsState raw state → HaveOneRow raw old state (witness_of old more state) → GoesWith raw old more (block_of old state) state
  with_row state inside row = record {
    is_number = omega (arith, was.numbers state inside, division.grouped.many);
    alike = record { block = sym (division.grouped.own (block_of old state) (was.numbers state inside)); row = row };
  }

  unless_moved : (state : ℕ) → IsState raw state → ((number : ℕ) → ¬ Contains moves (move_to state number)) → GoesWith raw old more (block_of old state) state
  unless_moved state inside none = elim (others state inside) [
    | inl listed_there ↦ elim (All-contains (IsSettled raw old more moves) listed state division.settled listed_there) [
      | inl row ↦ with_row state inside row
      | inr one ↦ absurd (none one.0 one.1)
    ]
    | inr row ↦ with_row state inside (subst (HaveOneRow raw old state) (sym (division.firsts (block_of old state) (was.numbers state inside))) row)
  ]

  goes : (state : ℕ) → IsState raw state → GoesWith raw old more (block_of new state) state
  goes state inside = elim (moved state (omega (arith, was.each, inside))) [
    | inl one ↦
        let move = All-contains (IsMove raw old (length witness) more) moves (move_to state (block_of new state)) division.each_move one in
        record { is_number = move.number; alike = move.alike }
    | inr same ↦ subst (λ number. GoesWith raw old more number state) (sym same.0) (unless_moved state inside same.1)
  ]

  -- witnesses that are alike are one
  one_number : (first second : ℕ) → first < length more → second < length more → AreAlike raw old (get_or more first 0) (get_or more second 0) → first ≡ second
  one_number first second f s alike = elim (cases_order first second) [
    | inl same ↦ same
    | inr (inl before) ↦ absurd (division.grouped.apart first second 0 before s alike)
    | inr (inr behind) ↦ absurd (division.grouped.apart second first 0 behind f (alike_turned raw old (get_or more first 0) (get_or more second 0) alike))
  ]

  pub is_round : IsRound raw old new
  is_round = record {
    divides = λ first second f s same.
        let one = goes first f in
        let other = subst (λ number. GoesWith raw old more number second) (sym same) (goes second s) in
        alike_through raw old first (get_or more (block_of new first) 0) second one.alike (alike_turned raw old second (get_or more (block_of new first) 0) other.alike);
    joins = λ first second f s alike.
        let one = goes first f in
        let other = goes second s in
        one_number (block_of new first) (block_of new second) one.is_number other.is_number
        (alike_through raw old (get_or more (block_of new first) 0) first (get_or more (block_of new second) 0)
        (alike_turned raw old first (get_or more (block_of new first) 0) one.alike)
        (alike_through raw old first second (get_or more (block_of new second) 0) alike other.alike));
  }

  pub is_witnessed : IsWitnessed raw new more
  is_witnessed = record {
    each = size ∙ was.each;
    numbers = λ state inside. (goes state inside).is_number;
    states = λ block within. division.grouped.states block 0 within;
    own = λ block within.
        let one = goes (get_or more block 0) (division.grouped.states block 0 within) in
        sym (one_number block (block_of new (get_or more block 0)) within one.is_number one.alike);
  }

  pub have_stayed : (states : List ℕ) → states ≡ map (λ move. move.state) moves → HaveStayed raw old new states
  have_stayed states are state inside not_moved = elim (moved state (omega (arith, was.each, inside))) [
    | inl one ↦ absurd (not_moved (subst (λ states. Contains states state) (sym are) (Contains-map (λ move. move.state) moves (move_to state (block_of new state)) one)))
    | inr same ↦ same.0
  ]

  pub more_witnesses : (states : List ℕ) → states ≡ map (λ move. move.state) moves → 0 < length states → length witness < length more
  more_witnesses states are some =
      let count : length states ≡ length moves = ap length are ∙ length-map moves (λ move. move.state) in
      let move = division.each_move 0 (move_to 0 0) (omega arith) in
      omega (arith, move.new, move.number)

  pub moved_states : (states : List ℕ) → states ≡ map (λ move. move.state) moves → All (IsState raw) states
  moved_states states are = subst (All (IsState raw)) (sym are) (All-map (IsState raw) (λ move. move.state) moves (λ k d within. (division.each_move k d within).is_state))
