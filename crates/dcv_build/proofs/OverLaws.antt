-- One step at most is over the limits, and none where all are within.
use Rattle.std.proofs.Common.{◌≡◌, ℕ, zero, suc, ◌<◌, List, [], ◌∷◌, length, get_or, Some, slice_get, inl, inr, refl, arith}
use Rattle.std.proofs.lemmas.Bool.{cases_order}
use Rattle.std.proofs.lemmas.Option.{slice_get-get_or, slice_get_within}
use Rattle.dcv_language.specs.Laws.{OneCanonicalTable}
use Rattle.dcv_language.specs.Table.{Table}
use Rattle.dcv_core.specs.Core.{CoreTree}
use Rattle.dcv_core.specs.Holds.{words_of}
use Rattle.dcv_core.specs.Laws.{StepsAreOperations}
use Rattle.dcv_core.specs.Steps.{PlainStep, steps_of}
use Rattle.dcv_explore.specs.declared.explorer.Limits.{Limits}
use Rattle.dcv_explore.specs.Budget.{Kind, Exceeds}
use Rattle.dcv_explore.proofs.Budgets.{within_excludes_exceeding}
use Rattle.dcv_build.specs.Budget.{row_at, IsDone, IsOver}
use Rattle.dcv_build.specs.Laws.{OneStepIsOver, WithinExcludesOver}
use Rattle.dcv_build.proofs.SameRows.{table_at, row_over}

pub some_at : {X : Type 0} (xs : List X) (place : ℕ) → place < length xs → (x : X) × (slice_get xs place ≡ Some x)
some_at [] place within = absurd (omega arith)
some_at (x ∷ xs) zero within = (x, refl)
some_at (x ∷ xs) (suc place) within = some_at xs place (omega arith)

module _ (one_canonical : OneCanonicalTable) (steps : List PlainStep) (limits : Limits) where
  -- two lists of canonical tables have the same ones
  pub done_alike : (one other : List Table) → IsDone steps limits one → IsDone steps limits other → (number : ℕ) → number < length one → number < length other
      → table_at one number ≡ table_at other number
  done_alike one other here there number in_one in_other =
      let step = some_at steps number (omega (arith, here.no_more)) in
      let first = here.each number step.0 (get_or one number []) step.1 (slice_get-get_or one number [] in_one) in
      let second = there.each number step.0 (get_or other number []) step.1 (slice_get-get_or other number [] in_other) in
      (one_canonical step.0.slots (words_of step.0.core) (get_or one number []) (get_or other number []) first.access second.access first.canonical second.canonical).0

module _ (one_canonical : OneCanonicalTable) (operations : StepsAreOperations) (k : ℕ) (core : CoreTree) (limits : Limits) where
  -- a step that is over is not done elsewhere
  over_is_not_done : (kind : Kind) (number : ℕ) → IsOver (steps_of k core) limits kind number → (tables : List Table) → IsDone (steps_of k core) limits tables
      → number < length tables → ⊥
  over_is_not_done kind number over tables done further =
      let table = get_or tables number [] in
      let elsewhere = done.each number over.step table over.is_there (slice_get-get_or tables number [] further) in
      let same = λ (earlier : ℕ) (before : earlier < number).
      done_alike one_canonical (steps_of k core) limits over.tables tables over.done done earlier (omega (arith, over.before)) (omega arith) in
      within_excludes_exceeding (row_at over.step tables) limits kind elsewhere.within
      (row_over (steps_of k core) number over.step over.tables tables same (λ row. Exceeds kind row limits) over.step.op
      (operations k core number over.step over.is_there) over.exceeds)

pub one_step_is_over : OneCanonicalTable → StepsAreOperations → OneStepIsOver
one_step_is_over one_canonical operations k core limits kind other_kind number other here there = elim (cases_order number other) [
  | inl same ↦ same
  | inr (inl before) ↦ absurd (over_is_not_done one_canonical operations k core limits kind number here there.tables there.done (omega (arith, there.before)))
  | inr (inr behind) ↦ absurd (over_is_not_done one_canonical operations k core limits other_kind other there here.tables here.done (omega (arith, here.before)))
]

pub within_excludes_over : OneCanonicalTable → StepsAreOperations → WithinExcludesOver
within_excludes_over one_canonical operations k core limits kind number within over =
    over_is_not_done one_canonical operations k core limits kind number over within.tables within.done
    (let inside = slice_get_within (steps_of k core) number over.step over.is_there in omega (arith, within.all))
