-- A row has one count of states and one of nodes, so a core has one list of counts.
use Rattle.std.proofs.Common.{◌≡◌, inl, inr, ℕ, ◌<◌, ◌≤◌, List, length, get_or, Some, slice_get, sym, ◌∙◌, arith}
use Rattle.std.proofs.lemmas.Bool.{cases_lt}
use Rattle.std.proofs.lemmas.List.{ext_get_or}
use Rattle.std.proofs.lemmas.Option.{slice_get-get_or}
use Rattle.dcv_language.specs.declared.count.Count.{Count}
use Rattle.dcv_language.specs.Laws.{OneCanonicalTable}
use Rattle.dcv_core.specs.Core.{CoreTree}
use Rattle.dcv_core.specs.Laws.{StepsAreOperations}
use Rattle.dcv_core.specs.Steps.{PlainStep, steps_of}
use Rattle.dcv_explore.specs.declared.explorer.Limits.{Limits}
use Rattle.dcv_explore.specs.Budget.{Row, IsWithin, TooManyStates, TooManyNodes}
use Rattle.dcv_explore.proofs.Budgets.{within_excludes_exceeding}
use Rattle.dcv_build.specs.Budget.{row_at}
use Rattle.dcv_build.specs.Counts.{HasAllCounts, AreCounts}
use Rattle.dcv_build.specs.Laws.{OneListOfCounts}
use Rattle.dcv_build.proofs.OverLaws.{some_at, done_alike}
use Rattle.dcv_build.proofs.SameRows.{row_over}

-- ---- of a row

module _ (row : Row) (states nodes other_states other_nodes : ℕ) (is : HasAllCounts row.machine row.parts states nodes) (its : HasAllCounts row.machine row.parts other_states other_nodes) where
  -- the counts themselves are limits that the row is within
  abbrev own : Limits
  own = record { states = states; nodes = nodes }

  within : IsWithin row own
  within = record { states = states; nodes = is.of_rows; counts = is.counts; states_within = omega arith; nodes_within = omega (arith, is.nodes_are) }

  no_more_states : other_states ≤ states
  no_more_states = elim (cases_lt states other_states) [
    | inl fewer ↦ absurd (within_excludes_exceeding row own TooManyStates within
        (record { list = its.counts.list; are_reached = its.counts.all.are_reached; more = omega (arith, fewer, its.counts.states_are) }))
    | inr few ↦ few
  ]

  no_more_nodes : other_nodes ≤ nodes
  no_more_nodes = elim (cases_lt nodes other_nodes) [
    | inl fewer ↦ absurd (within_excludes_exceeding row own TooManyNodes within (record {
      list = its.counts.list;
      are_reached = its.counts.all.are_reached;
      more = λ number numbering. omega (arith, fewer, its.nodes_are, its.counts.nodes_are number numbering);
    }))
    | inr few ↦ few
  ]

one_count : (row : Row) (states nodes other_states other_nodes : ℕ) → HasAllCounts row.machine row.parts states nodes → HasAllCounts row.machine row.parts other_states other_nodes
    → (states ≡ other_states) × (nodes ≡ other_nodes)
one_count row states nodes other_states other_nodes is its = (
  omega (arith, no_more_states row states nodes other_states other_nodes is its, no_more_states row other_states other_nodes states nodes its is),
  omega (arith, no_more_nodes row states nodes other_states other_nodes is its, no_more_nodes row other_states other_nodes states nodes its is),
)

-- ---- of a core

module _ (one_canonical : OneCanonicalTable) (operations : StepsAreOperations) (k : ℕ) (core : CoreTree) (limits : Limits) (counts others : List Count)
    (are : AreCounts (steps_of k core) limits counts) (its : AreCounts (steps_of k core) limits others) where
  same_at : (number : ℕ) (step : PlainStep) (one other : Count) → number < length counts → slice_get (steps_of k core) number ≡ Some step
      → slice_get counts number ≡ Some one → slice_get others number ≡ Some other → one ≡ other
  same_at number step one other within there at also =
      let here = are.each number step one there at in
      let elsewhere = its.each number step other there also in
      let tables = λ (earlier : ℕ) (before : earlier < number).
      done_alike one_canonical (steps_of k core) limits are.tables its.tables are.done its.done earlier
      (omega (arith, before, within, are.all, are.one_each)) (omega (arith, before, within, are.one_each, its.all)) in
      let moved = row_over (steps_of k core) number step are.tables its.tables tables (λ row. HasAllCounts row.machine row.parts one.states one.nodes) step.op
      (operations k core number step there) here.counts in
      let same = one_count (row_at step its.tables) one.states one.nodes other.states other.nodes moved elsewhere.counts in
      λ i. record { at = (here.place ∙ sym elsewhere.place) i; states = same.0 i; nodes = same.1 i }

  one_list : counts ≡ others
  one_list =
      let nothing : Count = record { at = 0; states = 0; nodes = 0 } in
      ext_get_or nothing counts others (are.one_each ∙ sym its.one_each) (λ place within.
      let step = some_at (steps_of k core) place (omega (arith, within, are.one_each)) in
      same_at place step.0 (get_or counts place nothing) (get_or others place nothing) within step.1
      (slice_get-get_or counts place nothing within) (slice_get-get_or others place nothing (omega (arith, within, are.one_each, its.one_each))))

pub one_list_of_counts : OneCanonicalTable → StepsAreOperations → OneListOfCounts
one_list_of_counts one_canonical operations k core limits counts others are its = one_list one_canonical operations k core limits counts others are its
