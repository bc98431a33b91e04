-- One more state is settled: it goes with the witness of its block, or moves to a part that is there, or to a new one.
use Rattle.std.proofs.Common.{◌≡◌, ◌≢◌, ℕ, ◌<◌, ◌+◌, ◌-◌, List, [], ◌∷◌, ◌++◌, length, get_or, Some, slice_get, inl, inr, Contains, refl, sym, ap, subst, ◌∙◌, arith}
use Rattle.std.proofs.lemmas.Bool.{cases_lt}
use Rattle.std.proofs.lemmas.List.{get_or_append_left, get_or_push, get_or_default, length_push}
use Rattle.std.proofs.lemmas.List.Elements.{All-push, All-weaker, Contains-push, Contains-append_left}
use Rattle.std.proofs.lemmas.List.Quantifiers.{all_pairs_push}
use Rattle.std.proofs.lemmas.Option.{slice_get_within, slice_get-get_or}
use Rattle.dcv_arena.specs.Arena.{ArenaValue, IsArena, KeepsRefs}
use Rattle.dcv_dfa.specs.Raw.{RawValue}
use Rattle.dcv_refinement.specs.Members.{block_of}
use Rattle.dcv_minimise.specs.Rounds.{IsState, HaveOneRow, AreAlike, witness_of}
use Rattle.dcv_minimise.specs.Division.{move_to, IsGrouped, IsPart, IsMove, IsDividing, IsSettled, HasNumber}
use Rattle.dcv_minimise.specs.declared.refine.division.Move.{Move}
use Rattle.dcv_minimise.specs.declared.refine.division.Part.{Part}
use Rattle.dcv_minimise.proofs.Places.{pushed_cases}
use Rattle.dcv_minimise.proofs.WitnessFacts.{alike_itself}
use Rattle.dcv_minimise.proofs.Alike.{row_turned}
use Rattle.dcv_minimise.proofs.KeyFacts.{same_row, one_key, key_kept}

-- what settling a state leaves
pub record Settles (raw : RawValue) (blocks : List ℕ) (count : ℕ) (scratch : ArenaValue) (witness more : List ℕ) (new_parts : List Part) (moves new_moves : List Move) (state : ℕ) : Type 0 where
  pub dividing : IsDividing raw blocks count scratch more new_parts new_moves
  pub settled : IsSettled raw blocks more new_moves state
  pub kept : (other : ℕ) → IsState raw other → IsSettled raw blocks witness moves other → IsSettled raw blocks more new_moves other
  pub firsts : (block : ℕ) → block < count → get_or more block 0 ≡ get_or witness block 0

module _ (raw : RawValue) (blocks : List ℕ) (count : ℕ) (scratch : ArenaValue) (witness : List ℕ) (parts : List Part) (moves : List Move) (is : IsDividing raw blocks count scratch witness parts moves) where
  pub dividing_kept : (new : ArenaValue) → KeepsRefs scratch new → IsDividing raw blocks count new witness parts moves
  dividing_kept new kept = record {
    grouped = is.grouped;
    size = is.size;
    each_part = λ place part at.
        let was = is.each_part place part at in
        record { block = was.block; key = key_kept raw blocks scratch new (get_or witness (count + place) 0) part.key kept was.key };
    each_move = is.each_move;
  }

  -- ---- a part that is there

  module _ (state : ℕ) (inside : IsState raw state) (part : Part) (own : IsPart raw blocks scratch state part) where
    alike_there : (place : ℕ) → slice_get parts place ≡ Some part → AreAlike raw blocks state (get_or witness (count + place) 0)
    alike_there place at =
        let other = is.each_part place part at in
        record { block = sym own.block ∙ other.block; row = same_row raw blocks scratch state (get_or witness (count + place) 0) part.key own.key other.key }

    move_there : (place : ℕ) → slice_get parts place ≡ Some part → IsMove raw blocks count witness (move_to state (count + place))
    move_there place at = record {
      is_state = inside;
      new = omega arith;
      number = omega (arith, is.size, slice_get_within parts place part at);
      alike = alike_there place at;
    }

    settles_there : (place : ℕ) → slice_get parts place ≡ Some part → Settles raw blocks count scratch witness witness parts moves (moves ++ move_to state (count + place) ∷ []) state
    settles_there place at = record {
      dividing = record {
        grouped = is.grouped;
        size = is.size;
        each_part = is.each_part;
        each_move = All-push (IsMove raw blocks count witness) moves (move_to state (count + place)) is.each_move (move_there place at);
      };
      settled = inr (count + place, Contains-push moves (move_to state (count + place)));
      kept = λ other there was. still (moves ++ move_to state (count + place) ∷ []) other was (λ number c. Contains-append_left moves (move_to state (count + place) ∷ []) (move_to other number) c);
      firsts = λ block within. refl;
    }
      where
        still : (new_moves : List Move) (other : ℕ) → IsSettled raw blocks witness moves other → ((number : ℕ) → Contains moves (move_to other number) → Contains new_moves (move_to other number))
            → IsSettled raw blocks witness new_moves other
        still new_moves other (inl row) more = inl row
        still new_moves other (inr one) more = inr (one.0, more one.0 one.1)

    -- ---- a new part

    module _ (arena : IsArena scratch) (slots : scratch.slots ≡ raw.arena.slots) (other : ¬ HaveOneRow raw blocks state (witness_of blocks witness state)) (absent : (place : ℕ) → slice_get parts place ≢ Some part) where
      abbrev more : List ℕ
      more = witness ++ state ∷ []

      abbrev number : ℕ
      number = count + length parts

      at_front : (place : ℕ) → place < length witness → get_or more place 0 ≡ get_or witness place 0
      at_front place within = get_or_append_left witness (state ∷ []) 0 place within

      at_end : get_or more number 0 ≡ state
      at_end = get_or_push witness state 0 number is.size

      -- it is not alike to a witness of a block that was there
      not_before : (k : ℕ) → k < count → ¬ AreAlike raw blocks (get_or witness k 0) state
      not_before k within alike =
          let same : k ≡ block_of blocks state = sym (is.grouped.own k within) ∙ alike.block in
          other (row_turned raw blocks (witness_of blocks witness state) state (subst (λ k. HaveOneRow raw blocks (get_or witness k 0) state) same alike.row))

      same_part : (place : ℕ) (one : Part) → slice_get parts place ≡ Some one → AreAlike raw blocks (get_or witness (count + place) 0) state → one ≡ part
      same_part place one at alike =
          let was = is.each_part place one at in
          let block : one.block ≡ part.block = was.block ∙ alike.block ∙ sym own.block in
          let key : one.key ≡ part.key = one_key raw blocks scratch arena slots (get_or witness (count + place) 0) state one.key part.key was.key own.key alike.row in
          λ i. record { block = block i; key = key i }

      -- nor to that of a new part
      not_behind : (place : ℕ) → place < length parts → ¬ AreAlike raw blocks (get_or witness (count + place) 0) state
      not_behind place within alike =
          let at = slice_get-get_or parts place part within in
          absent place (at ∙ ap Some (same_part place (get_or parts place part) at alike))

      not_alike : (k d : ℕ) → k < length witness → ¬ AreAlike raw blocks (get_or witness k d) state
      not_alike k d within alike =
          let here = subst (λ one. AreAlike raw blocks one state) (get_or_default witness k d 0 within) alike in
          elim (cases_lt k count) [
            | inl before ↦ not_before k before here
            | inr behind ↦
                let k_is : k ≡ count + (k - count) = omega arith in
                not_behind (k - count) (omega (arith, is.size)) (subst (λ k. AreAlike raw blocks (get_or witness k 0) state) k_is here)
          ]

      grouped_added : IsGrouped raw blocks count more
      grouped_added = record {
        each = is.grouped.each;
        numbers = is.grouped.numbers;
        many = omega (arith, length_push witness state, is.grouped.many);
        states = All-push (IsState raw) witness state is.grouped.states inside;
        own = λ block within. ap (block_of blocks) (at_front block (omega (arith, is.grouped.many, within))) ∙ is.grouped.own block within;
        apart = all_pairs_push (λ first second. ¬ AreAlike raw blocks first second) witness state is.grouped.apart not_alike;
      }

      parts_added : (place : ℕ) (one : Part) → slice_get (parts ++ part ∷ []) place ≡ Some one → IsPart raw blocks scratch (get_or more (count + place) 0) one
      parts_added place one at = elim (pushed_cases parts part place one at) [
        | inl before ↦
            let within = slice_get_within parts place one before in
            subst (λ state. IsPart raw blocks scratch state one) (sym (at_front (count + place) (omega (arith, within, is.size)))) (is.each_part place one before)
        | inr last ↦
            let end : get_or more (count + place) 0 ≡ state = ap (λ place. get_or more (count + place) 0) last.0 ∙ at_end in
            subst (λ state. IsPart raw blocks scratch state one) (sym end) (subst (IsPart raw blocks scratch state) last.1 own)
      ]

      move_kept : (move : Move) → IsMove raw blocks count witness move → IsMove raw blocks count more move
      move_kept move was = record {
        is_state = was.is_state;
        new = was.new;
        number = omega (arith, was.number, length_push witness state);
        alike = subst (AreAlike raw blocks move.state) (sym (at_front move.number was.number)) was.alike;
      }

      move_added : IsMove raw blocks count more (move_to state number)
      move_added = record {
        is_state = inside;
        new = omega arith;
        number = omega (arith, is.size, length_push witness state);
        alike = alike_itself raw blocks state (get_or more number 0) (sym at_end);
      }

      abbrev new_moves : List Move
      new_moves = moves ++ move_to state number ∷ []

      kept_added : (one : ℕ) → IsState raw one → IsSettled raw blocks witness moves one → IsSettled raw blocks more new_moves one
      kept_added one there (inl row) =
          inl (subst (HaveOneRow raw blocks one) (sym (at_front (block_of blocks one) (omega (arith, is.grouped.numbers one there, is.grouped.many)))) row)
      kept_added one there (inr moved) = inr (moved.0, Contains-append_left moves (move_to state number ∷ []) (move_to one moved.0) moved.1)

      settles_added : Settles raw blocks count scratch witness more (parts ++ part ∷ []) moves new_moves state
      settles_added = record {
        dividing = record {
          grouped = grouped_added;
          size = omega (arith, is.size, length_push witness state, length_push parts part);
          each_part = parts_added;
          each_move = All-push (IsMove raw blocks count more) moves (move_to state number) (All-weaker (IsMove raw blocks count witness) (IsMove raw blocks count more) move_kept moves is.each_move) move_added;
        };
        settled = inr (number, Contains-push moves (move_to state number));
        kept = kept_added;
        firsts = λ block within. at_front block (omega (arith, is.grouped.many, within));
      }

    -- ---- either

    pub settles : IsArena scratch → scratch.slots ≡ raw.arena.slots → ¬ HaveOneRow raw blocks state (witness_of blocks witness state)
        → (new_parts : List Part) (new_witness : List ℕ) (number : ℕ) → HasNumber count parts new_parts witness new_witness part state number
        → Settles raw blocks count scratch witness new_witness new_parts moves (moves ++ move_to state number ∷ []) state
    settles arena slots other new_parts new_witness number (inl there) =
        subst (λ new_witness. Settles raw blocks count scratch witness new_witness new_parts moves (moves ++ move_to state number ∷ []) state) (sym there.witness)
        (subst (λ new_parts. Settles raw blocks count scratch witness witness new_parts moves (moves ++ move_to state number ∷ []) state) (sym there.parts)
        (subst (λ number. Settles raw blocks count scratch witness witness parts moves (moves ++ move_to state number ∷ []) state) (sym there.number_is) (settles_there there.place there.at)))
    settles arena slots other new_parts new_witness number (inr added) =
        subst (λ new_witness. Settles raw blocks count scratch witness new_witness new_parts moves (moves ++ move_to state number ∷ []) state) (sym added.witness)
        (subst (λ new_parts. Settles raw blocks count scratch witness (witness ++ state ∷ []) new_parts moves (moves ++ move_to state number ∷ []) state) (sym added.parts)
        (subst (λ number. Settles raw blocks count scratch witness (witness ++ state ∷ []) (parts ++ part ∷ []) moves (moves ++ move_to state number ∷ []) state) (sym added.number_is)
        (settles_added arena slots other added.absent)))
