-- What a ref became is made of what its children became.
use Rattle.std.proofs.Common.{◌≡◌, ℕ, suc, ◌+◌, ◌-◌, ◌<◌, ◌≤◌, ltb, Bool, true, false, cond, List, [], ◌∷◌, ◌++◌, length, map, get_or, Option, Some, None, refl, ap, sym, ◌∙◌, subst, arith}
use Rattle.std.proofs.lemmas.Bool.{true≢false, ltb-true, ltb-false}
use Rattle.std.proofs.lemmas.List.{get_or_append_left, get_or_push, length-map}
use Rattle.std.proofs.lemmas.List.Elements.{All-get_or, All-from_get_or}
use Rattle.std.proofs.lemmas.Option.{slice_get-map, slice_get_within, get_or_from_slice_get, slice_get-get_or}
use Rattle.std.specs.Option.{option_map}
use Rattle.std.specs.Prelude.{slice_get}
use Rattle.std.specs.List.{All}
use Rattle.dcv_dfa.specs.Raw.{RawValue, IsRaw, row_of}
use Rattle.dcv_language.specs.Operations.{some_track}
use Rattle.dcv_arena.specs.Arena.{ArenaValue, IsBefore, IsRef, KeepsRefs, level_of, value_of}
use Rattle.dcv_arena.specs.declared.nodes.Ref.{Ref}
use Rattle.dcv_arena.specs.declared.nodes.Ref.TheVariants.{Leaf, Place}
use Rattle.dcv_synth.specs.Answered.{won_at, leads_in, IsAnswerBehind, IsAnswer, answer_at}
use Rattle.dcv_synth.specs.Merged.{part_of, behind, told, IsMerged, AreMerged, AreAllMerged, merged_at, merged_row}
use Rattle.dcv_synth.specs.declared.answers.Answer.{Answer}
use Rattle.dcv_synth.specs.declared.merging.Part.{Part}
use Rattle.dcv_synth.specs.declared.merging.Part.TheVariants.{Next, Output}
use Rattle.dcv_synth.proofs.Answering.{leaf_answer}
use Rattle.dcv_synth.proofs.Forced.{IsNode}

module _ (part : Part) (m : ℕ) (old : ArenaValue) (win : List Bool) where
  -- below the inputs
  pub leaf_merged : (new : ArenaValue) (root : Ref) (answer : Option Answer) → new.slots + m ≡ old.slots → new.slots ≤ level_of old root → IsAnswer old win root answer
      → IsMerged part m old win new root (Leaf (part_of part answer))
  leaf_merged new root answer slots level is = record {
    is_ref = tt;
    level = λ slot below within. within;
    value = λ input width some. by part answer input (is input m (omega (arith, width, slots)) (omega (arith, width, level))) some;
  }
    where
      by : (one : Part) (found : Option Answer) (input : List Bool) → IsAnswerBehind old win root input m found → some_track m (leads_in old win root input) ≡ true
          → part_of one found ≡ told one m win (behind old root input)
      by one None input none some = absurd (true≢false (sym some ∙ none))
      by Next (Some found) input least some = sym least.next
      by Output (Some found) input least some = sym least.output

  pub merged_kept : (before new : ArenaValue) (root ref : Ref) → KeepsRefs before new → IsMerged part m old win before root ref → IsMerged part m old win new root ref
  merged_kept before new root ref kept is = record {
    is_ref = kept.refs ref is.is_ref;
    level = λ slot below within.
        let levels = kept.levels ref is.is_ref in
        let same = kept.slots in
        let there = is.level slot below (omega (arith, within, same)) in
        omega (arith, there, levels);
    value = λ input width some. kept.values ref input is.is_ref ∙ is.value input (width ∙ kept.slots) some;
  }

  -- a node of an input, in an arena that has its children
  pub node_merged : (before new : ArenaValue) (place slot : ℕ) (lo hi lo_ref hi_ref node : Ref) → IsNode old place slot lo hi → slot < new.slots → KeepsRefs before new
      → IsMerged part m old win before lo lo_ref → IsMerged part m old win before hi hi_ref → IsRef new node → slot ≤ level_of new node
      → ((letter : List Bool) → value_of new node letter ≡ cond (get_or letter slot false) (value_of before hi_ref letter) (value_of before lo_ref letter))
      → IsMerged part m old win new (Place place) node
  node_merged before new place slot lo hi lo_ref hi_ref node is inner kept low high is_ref level value = record {
    is_ref = is_ref;
    level = λ other below within. omega (arith, below, level, is.slot_is);
    value = λ input width some. value input ∙ by input width some (get_or input slot false) refl;
  }
    where
      side : (input : List Bool) (b : Bool) → length input ≡ new.slots → get_or input slot false ≡ b
          → ◌≡◌ {A = List Bool → ℕ} (behind old (Place place) input) (behind old (cond b hi lo) input)
      side input b width at = λ i rest. one rest b at i
        where
          one : (rest : List Bool) (b : Bool) → get_or input slot false ≡ b → behind old (Place place) input rest ≡ behind old (cond b hi lo) input rest
          one rest b at =
              is.value (input ++ rest)
              ∙ ap (λ x. cond x (value_of old hi (input ++ rest)) (value_of old lo (input ++ rest))) (get_or_append_left input rest false slot (omega (arith, inner, width)) ∙ at)
              ∙ chosen b
            where
              chosen : (b : Bool) → cond b (value_of old hi (input ++ rest)) (value_of old lo (input ++ rest)) ≡ value_of old (cond b hi lo) (input ++ rest)
              chosen true = refl
              chosen false = refl

      by : (input : List Bool) → length input ≡ new.slots → some_track m (leads_in old win (Place place) input) ≡ true → (b : Bool) → get_or input slot false ≡ b
          → cond b (value_of before hi_ref input) (value_of before lo_ref input) ≡ told part m win (behind old (Place place) input)
      by input width some true at =
          let same = side input true width at in
          high.value input (width ∙ kept.slots) ((λ i. some_track m (λ rest. won_at win (sym same i rest))) ∙ some) ∙ ap (told part m win) (sym same)
      by input width some false at =
          let same = side input false width at in
          low.value input (width ∙ kept.slots) ((λ i. some_track m (λ rest. won_at win (sym same i rest))) ∙ some) ∙ ap (told part m win) (sym same)

  -- ---- lists

  pub ref_merged : (new : ArenaValue) (answers : List (Option Answer)) (merged : List Ref) (root : Ref) → new.slots + m ≡ old.slots → AreMerged part m old win new merged
      → IsBefore (length merged) root → IsMerged part m old win new root (merged_at part win answers merged root)
  ref_merged new answers merged (Leaf state) slots are before = leaf_merged new (Leaf state) (answer_at win answers (Leaf state)) slots (omega (arith, slots)) (leaf_answer old win answers state)
  ref_merged new answers merged (Place place) slots are before = are place before

  pub merged_longer : (merged : List Ref) (ref : Ref) → length (merged ++ ref ∷ []) ≡ suc (length merged)
  merged_longer [] ref = refl
  merged_longer (x ∷ merged) ref = ap suc (merged_longer merged ref)

  pub merged_more : (before new : ArenaValue) (merged more : List Ref) (place : ℕ) (ref : Ref) → KeepsRefs before new → AreMerged part m old win before merged
      → length merged ≡ place → more ≡ merged ++ ref ∷ [] → IsMerged part m old win new (Place place) ref → AreMerged part m old win new more
  merged_more before new merged more place ref kept are count grown here =
      subst (AreMerged part m old win new) (sym grown) (λ other within. by other within (ltb other (length merged)) refl)
    where
      by : (other : ℕ) → other < length (merged ++ ref ∷ []) → (b : Bool) → ltb other (length merged) ≡ b
          → IsMerged part m old win new (Place other) (get_or (merged ++ ref ∷ []) other (Leaf 0))
      by other within true e =
          let earlier = ltb-true other (length merged) e in
          subst (IsMerged part m old win new (Place other)) (sym (get_or_append_left merged (ref ∷ []) (Leaf 0) other earlier))
          (merged_kept before new (Place other) (get_or merged other (Leaf 0)) kept (are other earlier))
      by other within false e =
          let same : length merged ≡ other = omega (arith, within, merged_longer merged ref, ltb-false other (length merged) e) in
          subst (λ one. IsMerged part m old win new (Place other) one) (sym (get_or_push merged ref (Leaf 0) other same))
          (subst (λ at. IsMerged part m old win new (Place at) ref) (sym count ∙ same) here)

  -- ---- the rows of states

  module _ (raw : RawValue) (raw_is : IsRaw raw) (new : ArenaValue) (answers : List (Option Answer)) (merged : List Ref) (states : List ℕ) (rows : List Ref)
      (same : raw.arena ≡ old) (slots : new.slots + m ≡ old.slots) (are : AreMerged part m old win new merged) (places : length merged ≡ length old.nodes)
      (within : All (λ state. state < length raw.rows) states) (rows_are : rows ≡ map (merged_row part raw win answers merged) states) where
    row_is : (place state : ℕ) → slice_get states place ≡ Some state → IsMerged part m old win new (row_of raw state) (merged_at part win answers merged (row_of raw state))
    row_is place state at =
        let inside : state < length raw.rows = subst (λ s. s < length raw.rows) (get_or_from_slice_get states place state 0 at)
        (All-get_or (λ s. s < length raw.rows) states place 0 (slice_get_within states place state at) within) in
        ref_merged new answers merged (row_of raw state) slots are
        (subst (λ count. IsBefore count (row_of raw state)) (ap (λ (arena : ArenaValue). length arena.nodes) same ∙ sym places)
        (All-get_or (IsRef raw.arena) raw.rows state (Leaf 0) inside raw_is.rows))

    row_at : (place state : ℕ) → slice_get states place ≡ Some state → get_or rows place (Leaf 0) ≡ merged_at part win answers merged (row_of raw state)
    row_at place state at =
        ap (λ xs. get_or xs place (Leaf 0)) rows_are
        ∙ get_or_from_slice_get (map f states) place (f state) (Leaf 0) (slice_get-map f states place ∙ ap (option_map f) at)
      where
        f : ℕ → Ref
        f state = merged_at part win answers merged (row_of raw state)

    are_rows_merged : (place state : ℕ) → slice_get states place ≡ Some state → IsMerged part m old win new (row_of raw state) (get_or rows place (Leaf 0))
    are_rows_merged place state at = subst (IsMerged part m old win new (row_of raw state)) (sym (row_at place state at)) (row_is place state at)

    pub are_rows_refs : All (IsRef new) rows
    are_rows_refs =
        All-from_get_or (IsRef new) rows (Leaf 0)
        (λ place inside.
        let there : place < length states = omega (arith, inside, ap length rows_are, length-map states (merged_row part raw win answers merged)) in
        (are_rows_merged place (get_or states place 0) (slice_get-get_or states place 0 there)).is_ref)

    pub all_rows_merged : AreAllMerged part raw win states (record { arena = new; rows = rows })
    all_rows_merged place state at =
        let count : m ≡ raw.arena.slots - new.slots = omega (arith, slots, ap (λ (arena : ArenaValue). arena.slots) same) in
        subst (λ (parts : ℕ × ArenaValue). IsMerged part parts.0 parts.1 win new (row_of raw state) (get_or rows place (Leaf 0))) (λ i. (count i, sym same i))
        (are_rows_merged place state at)
