-- What a round keeps: two blocks stay apart, one block has one flag, and what a round does not move leads where it did.
use Rattle.std.proofs.Common.{◌≡◌, ◌≢◌, ℕ, ◌<◌, ◌≤◌, Bool, List, [], ◌∷◌, length, get_or, inl, inr, Contains, sym, ap, subst, ◌∙◌, arith}
use Rattle.std.proofs.lemmas.Bool.{cases_eq}
use Rattle.std.proofs.lemmas.List.Elements.{All-cons}
use Rattle.dcv_arena.specs.declared.nodes.Ref.TheVariants.{Leaf}
use Rattle.dcv_language.specs.Folding.{AreApartFrom}
use Rattle.dcv_dfa.specs.Raw.{RawValue, IsRaw, next_in, automaton_of}
use Rattle.dcv_refinement.specs.Members.{block_of}
use Rattle.dcv_minimise.specs.Partition.{IsPartition}
use Rattle.dcv_minimise.specs.Rounds.{IsState, IsRound, HaveStayed, IsWitnessed, IsTold, IsStableBut, IsRefined}
use Rattle.dcv_minimise.proofs.Letters.{differ_or_agree}
use Rattle.dcv_minimise.proofs.WitnessFacts.{few_blocks, own_witness}

-- a letter leads from states to states
pub next_state : (raw : RawValue) → IsRaw raw → (state : ℕ) (letter : List Bool) → IsState raw state → length letter ≡ raw.arena.slots → IsState raw (next_in raw state letter)
next_state raw is state letter inside size = is.numbers state (Leaf 0) inside letter size

-- states are apart where a letter leads to states that are
pub apart_before : (raw : RawValue) (first second : ℕ) (letter : List Bool) → length letter ≡ raw.arena.slots
    → AreApartFrom raw.arena.slots (automaton_of raw) (next_in raw first letter) (next_in raw second letter) → AreApartFrom raw.arena.slots (automaton_of raw) first second
apart_before raw first second letter size later = record {
  suffix = letter ∷ later.suffix;
  widths = All-cons (λ letter. length letter ≡ raw.arena.slots) letter later.suffix size later.widths;
  differ = later.differ;
}

module _ (raw : RawValue) (is : IsRaw raw) (old new : List ℕ) (round : IsRound raw old new) where
  apart_by_row : (first second : ℕ) → IsTold raw old → IsState raw first → IsState raw second → block_of new first ≢ block_of new second → block_of old first ≡ block_of old second
      → AreApartFrom raw.arena.slots (automaton_of raw) first second
  apart_by_row first second told f s differ same =
      elim (differ_or_agree raw.arena.slots (λ letter. block_of old (next_in raw first letter)) (λ letter. block_of old (next_in raw second letter))) [
        | inl one ↦
            apart_before raw first second one.0 one.1
            (told.apart (next_in raw first one.0) (next_in raw second one.0) (next_state raw is first one.0 f one.1) (next_state raw is second one.0 s one.1) one.2)
        | inr agree ↦ absurd (differ (round.joins first second f s (record { block = same; row = record { leads = agree } })))
      ]

  pub told_on : IsTold raw old → IsTold raw new
  told_on told = record {
    flags = λ first second f s same. told.flags first second f s (round.divides first second f s same).block;
    apart = λ first second f s differ.
        elim (cases_eq (block_of old first) (block_of old second)) [
          | inl same ↦ apart_by_row first second told f s differ same
          | inr before ↦ told.apart first second f s before
        ];
  }

  pub stable_but_moved : (moved : List ℕ) → HaveStayed raw old new moved → IsStableBut raw new moved
  stable_but_moved moved stayed first second letter f s size same first_stays second_stays =
      stayed (next_in raw first letter) (next_state raw is first letter f size) first_stays
      ∙ (round.divides first second f s same).row.leads letter size
      ∙ sym (stayed (next_in raw second letter) (next_state raw is second letter s size) second_stays)

  pub refined_on : (witness more before moved : List ℕ) → IsRefined raw old witness before → IsWitnessed raw new more → HaveStayed raw old new moved → IsRefined raw new more moved
  refined_on witness more before moved was witnessed stayed = record {
    witnessed = witnessed;
    told = told_on was.told;
    stable = stable_but_moved moved stayed;
  }

none_listed : (state : ℕ) → ¬ Contains [] state
none_listed state c = absurd (omega (arith, c.1))

-- where nothing moved the blocks are what is sought
pub is_partition : (raw : RawValue) (blocks witness moved : List ℕ) → moved ≡ [] → IsRefined raw blocks witness moved → IsPartition raw blocks
is_partition raw blocks witness moved none is =
    let stable = subst (IsStableBut raw blocks) none is.stable in
    record {
      each = is.witnessed.each;
      numbers = λ state inside. omega (arith, is.witnessed.numbers state inside, few_blocks raw blocks witness is.witnessed);
      flags = is.told.flags;
      steps = λ first second letter f s same size. stable first second letter f s size same (none_listed (next_in raw first letter)) (none_listed (next_in raw second letter));
      apart = is.told.apart;
    }

-- where there are as many blocks as states, no block has two
pub is_partition_alone : (raw : RawValue) (blocks witness : List ℕ) → length raw.rows ≤ length witness → IsWitnessed raw blocks witness → IsTold raw blocks → IsPartition raw blocks
is_partition_alone raw blocks witness many is told = record {
  each = is.each;
  numbers = λ state inside. omega (arith, is.numbers state inside, few_blocks raw blocks witness is);
  flags = told.flags;
  steps = λ first second letter f s same size.
      let one : first ≡ second =
      own_witness raw blocks witness is first f many ∙ ap (λ block. get_or witness block 0) same ∙ sym (own_witness raw blocks witness is second s many) in
      ap (λ state. block_of blocks (next_in raw state letter)) one;
  apart = told.apart;
}

-- where all states outside block 0 moved, the others go on to block 0
pub stable_at_start : (raw : RawValue) → IsRaw raw → (blocks moved : List ℕ) → length blocks ≡ length raw.rows
    → ((state : ℕ) → state < length blocks → block_of blocks state ≢ 0 → Contains moved state) → IsStableBut raw blocks moved
stable_at_start raw is blocks moved size all first second letter f s wide same first_stays second_stays =
    first_block (next_in raw first letter) (next_state raw is first letter f wide) first_stays
    ∙ sym (first_block (next_in raw second letter) (next_state raw is second letter s wide) second_stays)
  where
    first_block : (state : ℕ) → IsState raw state → ¬ Contains moved state → block_of blocks state ≡ 0
    first_block state inside stays = elim (cases_eq (block_of blocks state) 0) [
      | inl zero_there ↦ zero_there
      | inr other ↦ absurd (stays (all state (omega (arith, size, inside)) other))
    ]
