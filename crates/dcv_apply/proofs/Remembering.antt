-- A memo while an arena and a merge grow, and while entries come and go.
use Rattle.std.proofs.Common.{◌≡◌, ℕ, Bool, List, inl, inr, sym, ap, subst, ◌∙◌}
use Rattle.dcv_arena.specs.Arena.{ArenaValue, IsRef, value_of, KeepsRefs}
use Rattle.dcv_arena.specs.declared.nodes.Ref.{Ref}
use Rattle.dcv_arena.specs.Pointwise.{MeansMerged}
use Rattle.dcv_apply.specs.Memo.{EntryValue, MemoValue, HoldsRound, KeepsOthers}
use Rattle.dcv_apply.specs.Remembered.{Adds, KeepsEntries}

module _ (numbers : List (ℕ × Ref) → List Bool → List ℕ) (round : ℕ) where
  -- what the merge gives for operands it gives later too, and refs mean what they meant
  pub holds_grown : (gives more : List ℕ → ℕ → Type 0) (old new : ArenaValue) (memo : MemoValue)
      → ((list : List ℕ) (number : ℕ) → gives list number → more list number) → KeepsRefs old new
      → HoldsRound gives numbers old round memo → HoldsRound more numbers new round memo
  holds_grown gives more old new memo known kept holds one there same =
      let held = holds one there same in (
        kept.refs one.root held.0,
        λ letter size. subst (more (numbers one.operands letter)) (sym (kept.values one.root letter held.0))
            (known (numbers one.operands letter) (value_of old one.root letter) (held.1 letter (size ∙ kept.slots))),
      )

  pub holds_known : (gives more : List ℕ → ℕ → Type 0) (arena : ArenaValue) (memo : MemoValue)
      → ((list : List ℕ) (number : ℕ) → gives list number → more list number)
      → HoldsRound gives numbers arena round memo → HoldsRound more numbers arena round memo
  holds_known gives more arena memo known holds one there same =
      let held = holds one there same in (held.0, λ letter size. known (numbers one.operands letter) (value_of arena one.root letter) (held.1 letter size))

  pub holds_less : (gives : List ℕ → ℕ → Type 0) (arena : ArenaValue) (old new : MemoValue) → KeepsEntries old new
      → HoldsRound gives numbers arena round old → HoldsRound gives numbers arena round new
  holds_less gives arena old new less holds one there same = holds one (less one there) same

  pub holds_more : (gives : List ℕ → ℕ → Type 0) (arena : ArenaValue) (old new : MemoValue) (added : EntryValue) → Adds added old new
      → IsRef arena added.root → MeansMerged gives (numbers added.operands) arena added.root
      → HoldsRound gives numbers arena round old → HoldsRound gives numbers arena round new
  holds_more gives arena old new added adds is merged holds one there same = elim (adds one there) [
    | inl before ↦ holds one before same
    | inr e ↦ subst (λ one. IsRef arena one.root × MeansMerged gives (numbers one.operands) arena one.root) (sym e) (is, merged)
  ]

pub others_in_turn : (round : ℕ) (first second third : MemoValue) → KeepsOthers round first second → KeepsOthers round second third → KeepsOthers round first third
others_in_turn round first second third early late one there other = early one (late one there other) other

pub others_less : (round : ℕ) (old new : MemoValue) → KeepsEntries old new → KeepsOthers round old new
others_less round old new less one there other = less one there

pub others_more : (round : ℕ) (old new : MemoValue) (added : EntryValue) → Adds added old new → added.round ≡ round → KeepsOthers round old new
others_more round old new added adds own one there other = elim (adds one there) [
  | inl before ↦ before
  | inr e ↦ absurd (other (ap (λ one. one.round) e ∙ own))
]
