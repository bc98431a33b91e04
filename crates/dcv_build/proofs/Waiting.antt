-- How many tables wait: none before the first step, those of its operands before each, and that of the whole after the last.
use Rattle.std.proofs.Common.{◌≡◌, ℕ, suc, ◌+◌, ◌<◌, ◌≤◌, List, [], ◌∷◌, ◌++◌, length, reverse, Some, slice_get, refl, sym, ap, subst, ◌∙◌, arith}
use Rattle.std.proofs.lemmas.List.{length-reverse, length-map}
use Rattle.dcv_language.specs.declared.count.Count.{Count}
use Rattle.dcv_language.specs.Canonical.{IsCanonical}
use Rattle.dcv_language.specs.Language.{Language}
use Rattle.dcv_language.specs.Table.{Table}
use Rattle.dcv_core.specs.Core.{CoreTree}
use Rattle.dcv_core.specs.Holds.{words_of}
use Rattle.dcv_core.specs.Steps.{PlainStep, PlainCore, CoreStep, without_core, steps_before, steps_of}
use Rattle.dcv_core.specs.StepWords.{TakesTwo}
use Rattle.dcv_core.proofs.StepList.{last_step_is_core, some_same}
use Rattle.dcv_dfa.specs.Raw.{RawValue}
use Rattle.dcv_dfa.specs.Auto.{count_of_nodes}
use Rattle.dcv_dfa.proofs.States.{table_has_the_states}
use Rattle.dcv_explore.specs.declared.explorer.Limits.{Limits}
use Rattle.dcv_shelf.specs.Shelf.{ShelfTable, table_of_auto, nodes_of_table}
use Rattle.dcv_build.specs.Budget.{IsWithinBudget, IsAutomatonOf}
use Rattle.dcv_build.specs.Building.{AreWaiting, HasBuilt, ForTree}
use Rattle.dcv_build.specs.Counts.{AreCounts}
use Rattle.dcv_build.specs.Given.{IsCoreOf}
use Rattle.dcv_build.specs.Settled.{IsOwn}
use Rattle.dcv_build.proofs.Progress.{newest_first}
use Rattle.dcv_build.proofs.ShelfTables.{nodes_by_table}

-- ---- before the first step

pub none_built : (steps : List PlainStep) (limits : Limits) → HasBuilt steps limits 0 [] []
none_built steps limits = record {
  tables = [];
  count = refl;
  done = record { no_more = omega arith; each = λ number step table there at. absurd cc };
  waits = refl;
  one_each = refl;
  each = λ number step count there at. absurd cc;
}

-- ---- before a step

module _ (steps : List PlainStep) (limits : Limits) (tables : List Table) where
  some_waits : (waiting : List ShelfTable) (n : ℕ) → AreWaiting steps limits tables n waiting → 0 < n → 0 < length waiting
  some_waits [] n waits some = absurd (omega (arith, waits, some))
  some_waits (one ∷ others) n waits some = omega arith

  -- the second operand's own steps do not begin at 0
  two_wait : (waiting : List ShelfTable) (n d before : ℕ) (second : PlainStep) → AreWaiting steps limits tables n waiting → suc d ≡ n → slice_get steps d ≡ Some second
      → suc before + steps_before second.core ≡ d → 1 < length waiting
  two_wait [] n d before second waits last there apart = absurd (omega (arith, waits, last))
  two_wait (one ∷ []) n d before second waits last there apart =
      let newest = waits.1 in
      let place : newest.number ≡ d = omega (arith, newest.last, last) in
      let same = ap (λ (s : PlainStep). steps_before s.core) (some_same newest.step second (sym newest.is_there ∙ ap (slice_get steps) place ∙ there)) in
      absurd (omega (arith, newest.begins, place, same, apart, waits.2))
  two_wait (one ∷ other ∷ others) n d before second waits last there apart = omega arith

module _ (steps : List PlainStep) (limits : Limits) (n : ℕ) (waiting : List ShelfTable) (counts : List Count) (built : HasBuilt steps limits n waiting counts) where
  pub one_is_there : 0 < n → 0 < length waiting
  one_is_there some = omega (arith, length-reverse waiting, some_waits steps limits built.tables (reverse waiting) n built.waits some)

  pub two_are_there : (step : PlainStep) (c d : ℕ) (operation : Language → Language → Language) → TakesTwo steps n step c d operation → 1 < length waiting
  two_are_there step c d operation takes =
      omega (
        arith,
        length-reverse waiting,
        two_wait steps limits built.tables (reverse waiting) n d c takes.second_step built.waits takes.second_is_before takes.second_is_there takes.first_is_before,
      )

-- ---- after the last step

module _ (k : ℕ) (tree : CoreTree) (limits : Limits) (n : ℕ) (rest : List ShelfTable) (one : ShelfTable) (counts : List Count)
    (built : HasBuilt (steps_of k tree) limits n (rest ++ one ∷ []) counts) (all : n ≡ length (steps_of k tree)) where
  waits : AreWaiting (steps_of k tree) limits built.tables n (one ∷ reverse rest)
  waits = subst (AreWaiting (steps_of k tree) limits built.tables n) (newest_first rest one) built.waits

  within_budget : IsWithinBudget (steps_of k tree) limits
  within_budget = record { tables = built.tables; done = built.done; all = built.count ∙ all }

  counts_are : AreCounts (steps_of k tree) limits counts
  counts_are = record { tables = built.tables; done = built.done; all = built.count ∙ all; one_each = built.one_each ∙ all; each = built.each }

  own_facts : IsOwn limits one
  own_facts = waits.1.own

  automaton_of_goal : (auto : RawValue) → table_of_auto auto ≡ one → IsAutomatonOf k (words_of tree) auto
  automaton_of_goal auto same_table =
      let newest = waits.1 in
      let last = last_step_is_core k tree in
      let place : newest.number ≡ steps_before tree = omega (arith, newest.last, all, last.2) in
      let same : newest.step ≡ last.0 = some_same newest.step last.0 (sym newest.is_there ∙ ap (slice_get (steps_of k tree)) place ∙ last.1) in
      let core = ap (λ (s : PlainStep). s.core) same ∙ last.3 in
      let slots = ap (λ (s : PlainStep). s.slots) same ∙ last.4 in
      let is = built.done.each newest.number newest.step one.table newest.is_there newest.table in
      record {
        slots = ap (λ (t : ShelfTable). t.slots) same_table ∙ newest.slots ∙ slots;
        access = is.access;
        canonical = subst (λ (t : ShelfTable). IsCanonical k (words_of tree) t.table is.access) (sym same_table)
            (subst (λ j. IsCanonical j (words_of tree) one.table is.access) slots
            (subst (λ (c : CoreTree). IsCanonical newest.step.slots (words_of c) one.table is.access) core is.canonical));
      }

-- the automaton of a table has as many states and nodes as the table
pub few_states : (limits : Limits) (one : ShelfTable) (auto : RawValue) → IsOwn limits one → table_of_auto auto ≡ one → length auto.rows ≤ limits.states
few_states limits one auto own same =
    let tables = ap (λ (t : ShelfTable). length t.table) (same ∙ sym own.table) in
    omega (arith, own.states, tables, table_has_the_states auto, table_has_the_states own.auto)

pub few_nodes : (limits : Limits) (one : ShelfTable) (auto : RawValue) → IsOwn limits one → table_of_auto auto ≡ one → count_of_nodes auto ≤ limits.nodes
few_nodes limits one auto own same =
    let tables = ap nodes_of_table (same ∙ sym own.table) in
    omega (arith, own.nodes, tables, nodes_by_table auto, nodes_by_table own.auto)

-- ---- of a core

pub all_steps : (core : PlainCore) (tree : CoreTree) → IsCoreOf tree core → length core.steps ≡ length (steps_of core.declared tree)
all_steps core tree is = ap (length {A = CoreStep}) is ∙ length-map (steps_of core.declared tree) without_core

module _ (core : PlainCore) (limits : Limits) (n : ℕ) (waiting : List ShelfTable) (counts : List Count) (built : ForTree core (λ steps. HasBuilt steps limits n waiting counts)) (all : n ≡ length core.steps) where
  module _ (rest : List ShelfTable) (auto : RawValue) (same : waiting ≡ rest ++ table_of_auto auto ∷ []) (tree : CoreTree) (is : IsCoreOf tree core) where
    ends : HasBuilt (steps_of core.declared tree) limits n (rest ++ table_of_auto auto ∷ []) counts
    ends = subst (λ (w : List ShelfTable). HasBuilt (steps_of core.declared tree) limits n w counts) same (built tree is)

    to_end : n ≡ length (steps_of core.declared tree)
    to_end = all ∙ all_steps core tree is

    pub goal_is : IsAutomatonOf core.declared (words_of tree) auto
    goal_is = automaton_of_goal core.declared tree limits n rest (table_of_auto auto) counts ends to_end auto refl

    pub goal_within : IsWithinBudget (steps_of core.declared tree) limits
    goal_within = within_budget core.declared tree limits n rest (table_of_auto auto) counts ends to_end

    pub goal_counts : AreCounts (steps_of core.declared tree) limits counts
    goal_counts = counts_are core.declared tree limits n rest (table_of_auto auto) counts ends to_end

    own : IsOwn limits (table_of_auto auto)
    own = own_facts core.declared tree limits n rest (table_of_auto auto) counts ends to_end

    pub goal_states : length auto.rows ≤ limits.states
    goal_states = few_states limits (table_of_auto auto) auto own refl

    pub goal_nodes : count_of_nodes auto ≤ limits.nodes
    goal_nodes = few_nodes limits (table_of_auto auto) auto own refl
