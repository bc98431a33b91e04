-- A build from its first step to its last.
use Rattle.std.proofs.Common.{◌≡◌, ℕ, ◌<◌, ◌≤◌, Bool, List, [], ◌∷◌, ◌++◌, length, Result, Ok, Err, IsErrAnd, refl, sym, subst, ◌∙◌}
use Rattle.std.proofs.lemmas.List.Elements.{All-nil}
use Rattle.dcv_language.specs.declared.count.Count.{Count}
use Rattle.dcv_core.specs.Core.{CoreTree}
use Rattle.dcv_core.specs.Holds.{words_of}
use Rattle.dcv_core.specs.Steps.{PlainCore, steps_of}
use Rattle.dcv_dfa.specs.Raw.{RawValue, raw_accepts}
use Rattle.dcv_language.specs.Language.{Language}
use Rattle.dcv_dfa.specs.Auto.{count_of_nodes}
use Rattle.dcv_word.specs.Behaviour.{IsBehaviour}
use Rattle.dcv_explore.specs.declared.explorer.Limits.{Limits}
use Rattle.dcv_explore.specs.Verdict.{HaveSameVerdict}
use Rattle.dcv_shelf.specs.Shelf.{ShelfTable, table_of_auto}
use Rattle.dcv_build.specs.declared.builder.Built.{Built}
use Rattle.dcv_build.specs.declared.building.Building.{Building}
use Rattle.dcv_build.specs.declared.faults.BuildFault.{BuildFault}
use Rattle.dcv_build.specs.Asked.{tables_at, AreThere}
use Rattle.dcv_build.specs.Budget.{IsWithinBudget, IsFaultOver, IsAutomatonOf, accepted_by, HasVerdictOfSet, Builds}
use Rattle.dcv_build.specs.Building.{HasBuilt, IsBuilding, IsGoal, IsVerdictGoal}
use Rattle.dcv_build.specs.Counts.{AreCounts}
use Rattle.dcv_build.specs.Given.{IsCoreOf, IsCore}
use Rattle.dcv_build.proofs.SameVerdicts.{same_verdict_after}
use Rattle.dcv_build.proofs.Waiting.{none_built, goal_is, goal_within, goal_counts, goal_states, goal_nodes}

pub fresh_building : (core : PlainCore) (new : Building) → new.known.tables ≡ [] → new.waiting.items ≡ [] → new.counts.items ≡ [] → IsBuilding core 0 new
fresh_building core new tables waiting counts = record {
  there = subst (AreThere new.known.tables) (sym waiting) (All-nil (λ n. n < length new.known.tables));
  built = λ tree is.
      let steps = steps_of core.declared tree in
      subst (λ (w : List ℕ). HasBuilt steps new.known.limits 0 (tables_at new.known.tables w) new.counts.items) (sym waiting)
      (subst (HasBuilt steps new.known.limits 0 []) (sym counts) (none_built steps new.known.limits));
}

module _ (core : PlainCore) (limits : Limits) (auto : RawValue) (counts : List Count) (is : IsGoal core limits (length core.steps) auto counts) (tree : CoreTree) (of_core : IsCoreOf tree core) where
  abbrev waits : List ShelfTable
  waits = is.rest ++ table_of_auto auto ∷ []

  pub built_is : IsAutomatonOf core.declared (words_of tree) auto
  built_is = goal_is core limits (length core.steps) waits counts is.built refl is.rest auto refl tree of_core

  pub built_within : IsWithinBudget (steps_of core.declared tree) limits
  built_within = goal_within core limits (length core.steps) waits counts is.built refl is.rest auto refl tree of_core

  pub built_counts : AreCounts (steps_of core.declared tree) limits counts
  built_counts = goal_counts core limits (length core.steps) waits counts is.built refl is.rest auto refl tree of_core

  pub built_states : length auto.rows ≤ limits.states
  built_states = goal_states core limits (length core.steps) waits counts is.built refl is.rest auto refl tree of_core

  pub built_nodes : count_of_nodes auto ≤ limits.nodes
  built_nodes = goal_nodes core limits (length core.steps) waits counts is.built refl is.rest auto refl tree of_core

pub builds : (core : PlainCore) (limits : Limits) (built : Built) (counts : List Count) → IsCore core → IsGoal core limits (length core.steps) built.auto counts
    → Builds core limits (λ words (built : Built). IsAutomatonOf core.declared words built.auto) (λ built. length built.auto.rows) (λ built. count_of_nodes built.auto) (Ok built)
builds core limits built counts known is = record {
  is = built_is core limits built.auto counts is;
  few_states = built_states core limits built.auto counts is known.tree known.is;
  few_nodes = built_nodes core limits built.auto counts is known.tree known.is;
  within = built_within core limits built.auto counts is;
  over = λ tree is. tt;
}

-- a fault that is handed on names the step
pub builds_none : {T : Type 0} {core : PlainCore} {limits : Limits} {IsOf : Language → T → Type 0} {states nodes : T → ℕ} (result : Result T BuildFault) (own : BuildFault)
    → ((tree : CoreTree) → IsCoreOf tree core → IsFaultOver (steps_of core.declared tree) limits own) → IsErrAnd result (λ given. given ≡ own) → Builds core limits IsOf states nodes result
builds_none (Ok value) own over same = absurd same
builds_none {core} {limits} (Err given) own over same = record {
  is = λ tree is. tt;
  few_states = tt;
  few_nodes = tt;
  within = λ tree is. tt;
  over = λ tree is. subst (IsFaultOver (steps_of core.declared tree) limits) (sym same) (over tree is);
}

-- ---- what is built for a verdict

module _ (core : PlainCore) (limits : Limits) (raw : RawValue) (complemented : Bool) (is : IsVerdictGoal core limits (length core.steps) raw complemented) (tree : CoreTree) (of_core : IsCoreOf tree core) where
  pub verdict_is : HasVerdictOfSet core.declared (words_of tree) raw complemented
  verdict_is =
      let auto = is.auto in
      let own = is.auto_is in
      let of = built_is core limits auto is.counts is.goal tree of_core in
      let slots : auto.arena.slots ≡ core.declared = of.slots in
      record {
        slots = is.slots ∙ slots;
        verdict = same_verdict_after core.declared (accepted_by raw complemented) (raw_accepts auto) (words_of tree)
            (subst (λ k. HaveSameVerdict k (accepted_by raw complemented) (raw_accepts auto)) slots is.verdict)
            (λ word b. sym (own.canonical.exact word (subst (λ k. IsBehaviour k word) (sym slots) b)) ∙ of.canonical.exact word b);
      }

  pub verdict_within : IsWithinBudget (steps_of core.declared tree) limits
  verdict_within = built_within core limits is.auto is.counts is.goal tree of_core
