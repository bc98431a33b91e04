-- What there is of lists of functions, and of cores.
use Rattle.std.specs.Prelude.{◌≡◌, ◌⊎◌, ℕ, ◌^◌, ◌<◌, ◌≤◌, List, length, All}
use Rattle.dcv_word.specs.Behaviour.{Word}
use Rattle.dcv_language.specs.declared.count.Count.{Count}
use Rattle.dcv_language.specs.Canonical.{IsCanonical}
use Rattle.dcv_language.specs.Table.{Table}
use Rattle.dcv_arena.specs.Arena.{ArenaValue}
use Rattle.dcv_arena.specs.Diagram.{node_count}
use Rattle.dcv_arena.specs.declared.nodes.Ref.{Ref}
use Rattle.dcv_core.specs.Core.{CoreTree}
use Rattle.dcv_core.specs.Holds.{words_of}
use Rattle.dcv_core.specs.Steps.{steps_of}
use Rattle.dcv_explore.specs.declared.explorer.Limits.{Limits}
use Rattle.dcv_explore.specs.Budget.{Kind}
use Rattle.dcv_build.specs.Budget.{IsWithinBudget, IsOver}
use Rattle.dcv_build.specs.Counts.{AreCounts}
use Rattle.dcv_quotient.specs.Diagrams.{AreDiagramsOf}

-- functions that are given by tables have diagrams
abbrev pub SomeDiagrams : Type 0
SomeDiagrams = (slots : ℕ) (tables : List (List ℕ)) → slots ≤ 32 → All (λ table. length table ≡ 2 ^ slots) tables → node_count slots tables < 2 ^ 32
    → (arena : ArenaValue) × (refs : List Ref) × AreDiagramsOf slots tables arena refs

-- all steps of a core are within the limits, or one is the first that is over them
abbrev pub SomeBudget : Type 0
SomeBudget = (k : ℕ) (tree : CoreTree) (limits : Limits)
    → IsWithinBudget (steps_of k tree) limits ⊎ ((kind : Kind) × ((number : ℕ) × IsOver (steps_of k tree) limits kind number))

-- where all are within, each step takes so much
abbrev pub SomeCounts : Type 0
SomeCounts = (k : ℕ) (tree : CoreTree) (limits : Limits) → IsWithinBudget (steps_of k tree) limits → (counts : List Count) × AreCounts (steps_of k tree) limits counts

-- and the core's words have a canonical table
abbrev pub SomeTable : Type 0
SomeTable = (k : ℕ) (tree : CoreTree) (limits : Limits) → IsWithinBudget (steps_of k tree) limits
    → (table : Table) × ((access : List Word) × IsCanonical k (words_of tree) table access)
