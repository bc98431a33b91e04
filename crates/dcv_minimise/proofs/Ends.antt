-- What the folding's steps give, from one to the next.
use Rattle.std.proofs.Common.{◌≡◌, ℕ, ◌<◌, Bool, List, length, refl, subst, arith}
use Rattle.std.specs.List.{All}
use Rattle.std.proofs.lemmas.List.{get_or_default}
use Rattle.std.proofs.lemmas.List.Elements.{All-weaker}
use Rattle.dcv_arena.specs.Arena.{ArenaValue}
use Rattle.dcv_arena.specs.declared.nodes.Ref.{Ref}
use Rattle.dcv_dfa.specs.Raw.{RawValue, IsRaw, raw_value, automaton_of}
use Rattle.dcv_dfa.specs.Auto.{IsAutoWith}
use Rattle.dcv_reach.specs.Reached.{states_of, words_of, IsReached}
use Rattle.dcv_reach.specs.declared.reached.Found.{Found}
use Rattle.dcv_minimise.specs.Minimal.{IsMinimalOf}
use Rattle.dcv_minimise.specs.Partition.{IsPartition}
use Rattle.dcv_minimise.specs.Classes.{AreKept, IsKeptList}
use Rattle.dcv_minimise.specs.Folded.{HasKeptRows, flags_of, IsFolded}
use Rattle.dcv_minimise.proofs.LeastWords.{by_found, listed_inside}
use Rattle.dcv_minimise.proofs.Numberings.{HasNumbering, kept_numbering}
use Rattle.dcv_minimise.proofs.Fewest.{kept_no_more, new_is_raw, auto_with, minimal}

module _ (raw : RawValue) (is : IsRaw raw) (blocks : List ℕ) (partition : IsPartition raw blocks) where
  pub blocks_inside : All (λ block. block < length blocks) blocks
  blocks_inside state d within =
      let here : state < length raw.rows = omega (arith, partition.each) in
      let below = partition.numbers state here in
      omega (arith, below, partition.each, get_or_default blocks state d 0 within)

  module _ (found : List Found) (reached : IsReached raw.arena.slots (automaton_of raw) found) where
    pub found_inside : All (λ state. state < length raw.rows) (states_of found)
    found_inside place d within =
        subst (λ state. state < length raw.rows) (get_or_default (states_of found) place 0 d within)
        (listed_inside raw is (states_of found) (words_of found) (by_found raw.arena.slots (automaton_of raw) found reached) place within)

    module _ (kept : List ℕ) (alone : Bool) (are : AreKept raw blocks (states_of found) kept alone) where
      numbering : HasNumbering raw blocks (states_of found) (words_of found) kept alone
      numbering = kept_numbering raw is blocks (states_of found) (words_of found) (by_found raw.arena.slots (automaton_of raw) found reached) partition kept alone are

      pub kept_list : IsKeptList raw blocks kept
      kept_list =
          let by = numbering.is in
          record {
            some = by.some;
            bound = omega (arith, kept_no_more raw is blocks partition kept by.some by.inside by.apart, is.states);
            inside = by.inside;
            inside_blocks = All-weaker (λ state. state < length raw.rows) (λ state. state < length blocks) (λ state within. omega (arith, partition.each)) kept by.inside;
            apart = by.apart;
          }

-- what is true of the automaton that is made of the kept states
pub record IsMade (raw : RawValue) (alone : Bool) (new : RawValue) : Type 0 where
  pub is_raw : IsRaw new
  pub auto : IsAutoWith new alone
  pub minimal : IsMinimalOf raw new

-- of its rows and flags
pub made : (raw : RawValue) (is : IsRaw raw) (blocks : List ℕ) (partition : IsPartition raw blocks) (found given_found : List Found) (reached : IsReached raw.arena.slots (automaton_of raw) found)
    (kept given_kept : List ℕ) (alone : Bool) (arena : ArenaValue) (rows : List Ref) (accepting : List Bool)
    → given_found ≡ found → given_kept ≡ kept → AreKept raw blocks (states_of given_found) kept alone → HasKeptRows raw blocks given_kept arena rows → accepting ≡ flags_of raw kept alone
    → IsMade raw alone (raw_value arena rows accepting 0)
made raw is blocks partition found given_found reached kept given_kept alone arena rows accepting is_found is_kept given_are given_rows flags =
    let new = raw_value arena rows accepting 0 in
    let are = subst (λ found. AreKept raw blocks (states_of found) kept alone) is_found given_are in
    let has = subst (λ states. HasKeptRows raw blocks states arena rows) is_kept given_rows in
    let numbers = has.numbers in
    let folded : IsFolded raw kept numbers alone new = record { start = refl; count = has.count; rows = has.has; flags = flags } in
    let by = by_found raw.arena.slots (automaton_of raw) found reached in
    let numbered = kept_numbering raw is blocks (states_of found) (words_of found) by partition kept alone are in
    let order = numbered.is in
    record {
      is_raw = new_is_raw raw is blocks partition kept order.some order.inside order.apart numbers has.are alone new folded;
      auto = auto_with raw is blocks (states_of found) (words_of found) by partition kept numbered.access alone order numbers has.are new folded;
      minimal = minimal raw is blocks (states_of found) (words_of found) by partition kept numbered.access alone order numbers has.are new folded;
    }
