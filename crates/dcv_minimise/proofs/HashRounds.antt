-- Blocks that are split by hashes stay told apart.
use Rattle.std.proofs.Common.{◌≡◌, ◌≢◌, ℕ, List, length, inl, inr, sym, ap, ◌∙◌, Some, slice_get, arith}
use Rattle.std.proofs.lemmas.Bool.{cases_eq}
use Rattle.std.proofs.lemmas.Option.{slice_get_within, same_Some}
use Rattle.dcv_arena.specs.declared.nodes.Ref.TheVariants.{Leaf}
use Rattle.dcv_language.specs.Folding.{AreApartFrom}
use Rattle.dcv_dfa.specs.Raw.{RawValue, IsRaw, row_of, next_in, automaton_of}
use Rattle.dcv_refinement.specs.Members.{block_of}
use Rattle.dcv_minimise.specs.Rounds.{IsState, AreAlike, IsWitnessed, IsTold}
use Rattle.dcv_minimise.specs.Hashes.{AreHashes, alike_of, AreDivided, Splits}
use Rattle.dcv_minimise.specs.declared.refine.hashes.Alike.{Alike}
use Rattle.dcv_minimise.proofs.Letters.{differ_or_agree}
use Rattle.dcv_minimise.proofs.RoundFacts.{next_state, apart_before}
use Rattle.dcv_minimise.proofs.HashFacts.{one_hash}

module _ (raw : RawValue) (is : IsRaw raw) (old new : List ℕ) (splits : Splits raw old new) where
  apart_by_row : (first second : ℕ) → IsTold raw old → IsState raw first → IsState raw second → block_of new first ≢ block_of new second → block_of old first ≡ block_of old second
      → AreApartFrom raw.arena.slots (automaton_of raw) first second
  apart_by_row first second told f s differ same =
      elim (differ_or_agree raw.arena.slots (λ letter. block_of old (next_in raw first letter)) (λ letter. block_of old (next_in raw second letter))) [
        | inl one ↦
            apart_before raw first second one.0 one.1
            (told.apart (next_in raw first one.0) (next_in raw second one.0) (next_state raw is first one.0 f one.1) (next_state raw is second one.0 s one.1) one.2)
        | inr agree ↦ absurd (differ (splits.joins first second f s (record { block = same; row = record { leads = agree } })))
      ]

  pub told_split : IsTold raw old → IsTold raw new
  told_split told = record {
    flags = λ first second f s same. told.flags first second f s (splits.within first second f s same);
    apart = λ first second f s differ.
        elim (cases_eq (block_of old first) (block_of old second)) [
          | inl same ↦ apart_by_row first second told f s differ same
          | inr before ↦ told.apart first second f s before
        ];
  }

-- ---- all states in their blocks

module _ (raw : RawValue) (is : IsRaw raw) (old hashes : List ℕ) (parts : List Alike) (new witness : List ℕ)
    (are : AreDivided Alike (alike_of raw old hashes) (length raw.rows) parts new witness) where
  pub divided_witnessed : IsWitnessed raw new witness
  divided_witnessed = record {
    each = are.each;
    numbers = λ state inside. omega (arith, are.size, slice_get_within parts (block_of new state) (alike_of raw old hashes state) (are.own_parts state inside));
    states = are.states;
    own = are.own;
  }

  module _ (all : length hashes ≡ length raw.arena.nodes) (hashed : AreHashes raw.arena old hashes) where
    one_part : (first second : ℕ) → IsState raw first → IsState raw second → AreAlike raw old first second → alike_of raw old hashes first ≡ alike_of raw old hashes second
    one_part first second f s alike =
        let hash = one_hash raw.arena is.arena.reduced old hashes all hashed (row_of raw first) (row_of raw second) (is.rows first (Leaf 0) f) (is.rows second (Leaf 0) s) alike.row.leads in
        λ i. record { block = alike.block i; hash = hash i }

    pub divided_splits : Splits raw old new
    divided_splits = record {
      within = λ first second f s same.
          let one = same_Some (alike_of raw old hashes first) (alike_of raw old hashes second) (sym (are.own_parts first f) ∙ ap (slice_get parts) same ∙ are.own_parts second s) in
          ap (λ part. part.block) one;
      joins = λ first second f s alike.
          are.once (block_of new first) (block_of new second) (alike_of raw old hashes second)
          (are.own_parts first f ∙ ap Some (one_part first second f s alike)) (are.own_parts second s);
    }
