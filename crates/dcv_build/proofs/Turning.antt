-- The automaton of a goal under its complements, and its first steps: a canonical one is turned, and of one that is built for a verdict it is known whether it is.
use Rattle.std.proofs.Common.{◌≡◌, ◌⊎◌, ℕ, ◌+◌, ◌<◌, Bool, true, false, not, List, [], ◌∷◌, ◌++◌, length, Option, None, Some, slice_get, Result, Ok, Err, IfOk, inl, inr, refl, sym, ap, subst, ◌∙◌, arith}
use Rattle.std.specs.Option.{option_map}
use Rattle.std.proofs.Math.Nat.{eq-or-lt_of_le}
use Rattle.dcv_language.specs.declared.count.Count.{Count}
use Rattle.dcv_language.specs.Automaton.{WorkingMachine}
use Rattle.dcv_language.specs.Language.{Language, outside}
use Rattle.dcv_language.specs.Laws.{OneCanonicalTable}
use Rattle.dcv_word.specs.Behaviour.{Word}
use Rattle.dcv_core.specs.Steps.{PlainOp, OpNot, CoreStep, PlainCore, steps_of}
use Rattle.dcv_core.specs.StepWords.{IsOperation}
use Rattle.dcv_core.proofs.StepList.{steps_are_operations, last_step_is_core}
use Rattle.dcv_atoms.specs.Laws.{MachineAcceptsStep as MachineAcceptsAtomStep}
use Rattle.dcv_dfa.specs.Raw.{RawValue, raw_accepts}
use Rattle.dcv_dfa.specs.Auto.{count_of_nodes}
use Rattle.dcv_dfa.proofs.States.{table_has_the_states}
use Rattle.dcv_explore.specs.declared.explorer.Limits.{Limits}
use Rattle.dcv_explore.specs.Verdict.{HaveSameVerdict}
use Rattle.dcv_shelf.specs.Shelf.{ShelfTable, table_of_auto, IsComplement}
use Rattle.dcv_build.specs.declared.faults.BuildFault.{BuildFault}
use Rattle.dcv_build.specs.declared.settling.Explored.{Explored}
use Rattle.dcv_build.specs.Budget.{accepted_by}
use Rattle.dcv_build.specs.Building.{HasBuilt, IsNext, MakesNext, Makes, ForTree, IsGoal, IsExploredGoal, IsVerdictGoal, DecidesStep, IsNoted}
use Rattle.dcv_build.specs.Given.{IsCore}
use Rattle.dcv_build.specs.Settled.{Decides}
use Rattle.dcv_build.specs.Tasks.{Here, IsNoComplement, TurnFrom}
use Rattle.dcv_build.proofs.AtSteps.{not_next}
use Rattle.dcv_build.proofs.Moves.{noted}
use Rattle.dcv_build.proofs.Negation.{other, other_is_raw, other_is_auto, other_accepts, is_complement}
use Rattle.dcv_build.proofs.Operands.{step_at}
use Rattle.dcv_build.proofs.Progress.{Leads}
use Rattle.dcv_build.proofs.SameVerdicts.{same_verdict_after, same_verdict_outside}
use Rattle.dcv_build.proofs.ShelfTables.{nodes_by_table}
use Rattle.dcv_build.proofs.Waiting.{all_steps}

pub turned_goal : MachineAcceptsAtomStep → OneCanonicalTable → (core : PlainCore) (limits : Limits) (n d states nodes : ℕ) (auto other : RawValue) (counts new : List Count)
    → IsGoal core limits n auto counts → Here core n (OpNot d) → IsComplement (table_of_auto auto) (table_of_auto other)
    → states ≡ length auto.rows → nodes ≡ count_of_nodes auto → IsNoted core n states nodes counts new → IsGoal core limits (n + 1) other new
turned_goal atoms one_canonical core limits n d states nodes auto other counts new was here complement states_are nodes_are noted = record {
  rest = was.rest;
  built = λ tree is.
      let found = step_at core tree n (OpNot d) is here in
      let next = not_next core.declared tree limits n was.rest (table_of_auto auto) counts (was.built tree is) found.0 found.1 atoms one_canonical d found.2 (table_of_auto other) complement
      states nodes (omega (arith, states_are, table_has_the_states auto)) (nodes_are ∙ nodes_by_table auto) in
      subst (HasBuilt (steps_of core.declared tree) limits (n + 1) (was.rest ++ table_of_auto other ∷ [])) (sym noted.added) (next noted.count (noted.is tree is));
}

-- ---- the last operator

some_steps : (core : PlainCore) → IsCore core → 0 < length core.steps
some_steps core known =
    let last = last_step_is_core core.declared known.tree in
    omega (arith, last.2, all_steps core known.tree known.is)

-- the first step is no complement, since its operand would stand before it
first_is_none : (core : PlainCore) → IsCore core → IsNoComplement core 0
first_is_none core known d here =
    let found = step_at core known.tree 0 (OpNot d) known.is here in
    let takes = subst (IsOperation (steps_of core.declared known.tree) 0 found.0) found.2 (steps_are_operations core.declared known.tree 0 found.0 found.1) in
    absurd (omega (arith, takes.is_before))

pub last_of_all : (core : PlainCore) → IsCore core → (0 < length core.steps) × IsNoComplement core 0
last_of_all core known = (some_steps core known, first_is_none core known)

-- one step more is a complement
pub more_turn : (core : PlainCore) (n d : ℕ) → Here core n (OpNot d) → TurnFrom core (n + 1) → TurnFrom core n
more_turn core n d here behind number from within = pick (eq-or-lt_of_le from)
  where
    pick : (n ≡ number) ⊎ (n < number) → (d : ℕ) × Here core number (OpNot d)
    pick (inl same) = (d, subst (λ place. Here core place (OpNot d)) same here)
    pick (inr more) = behind number (omega (arith, more)) within

-- ---- its automaton

next_goal : (core : PlainCore) (limits : Limits) (n states nodes : ℕ) (waiting : List ShelfTable) (counts new : List Count) (auto : RawValue)
    → ForTree core (λ steps. IsNext steps limits n waiting counts (table_of_auto auto) states nodes) → IsNoted core n states nodes counts new → IsGoal core limits (n + 1) auto new
next_goal core limits n states nodes waiting counts new auto next noted = record {
  rest = waiting;
  built = λ tree is.
      subst (HasBuilt (steps_of core.declared tree) limits (n + 1) (waiting ++ table_of_auto auto ∷ [])) (sym noted.added) (next tree is noted.count (noted.is tree is));
}

pub made_goal : (core : PlainCore) (limits : Limits) (n : ℕ) (waiting : List ShelfTable) (counts new : List Count) (result : Result Explored BuildFault) (explored : Explored) → result ≡ Ok explored
    → ForTree core (λ steps. Makes steps limits n waiting counts result) → IsNoted core n explored.states explored.nodes counts new
    → IsExploredGoal core limits (n + 1) explored.raw new
made_goal core limits n waiting counts new result explored is_ok makes noted =
    let next : ForTree core (λ steps. MakesNext steps limits n waiting counts explored) = λ tree is.
    subst (λ (r : Result Explored BuildFault). IfOk r (MakesNext (steps_of core.declared tree) limits n waiting counts)) is_ok (makes tree is).built in
    λ auto least. next_goal core limits n explored.states explored.nodes waiting counts new auto (λ tree is. next tree is auto least) noted

-- ---- what is built for a verdict

-- a complement more
turned_twice : (b : Bool) → not (not b) ≡ b
turned_twice true = refl
turned_twice false = refl

accepted_turned : (raw : RawValue) (complemented : Bool) (word : Word) → accepted_by raw (not complemented) word ≡ not (accepted_by raw complemented word)
accepted_turned raw true word = sym (turned_twice (raw_accepts raw word))
accepted_turned raw false word = refl

-- the count of a step that is there
some_count : (core : PlainCore) (n states nodes : ℕ) (op : PlainOp) (counts : List Count) → Here core n op → (new : List Count) × IsNoted core n states nodes counts new
some_count core n states nodes op counts here = by (slice_get core.steps n) refl here
  where
    by : (found : Option CoreStep) → slice_get core.steps n ≡ found → option_map (λ (s : CoreStep). s.op) found ≡ Some op → (new : List Count) × IsNoted core n states nodes counts new
    by None at is = absurd cc
    by (Some step) at is =
        let count : Count = record { at = step.span.start; states = states; nodes = nodes } in
        (counts ++ count ∷ [], noted core n step.span (ap (option_map (λ (s : CoreStep). s.span)) at) states nodes counts (counts ++ count ∷ []) count refl refl refl refl)

module _ (core : PlainCore) (limits : Limits) (n : ℕ) (waiting : List ShelfTable) (counts : List Count) {S : Type 0} (machine : WorkingMachine S) (parts : ℕ)
    (leads : ForTree core (λ steps. Leads steps limits n waiting counts machine parts)) (op : PlainOp) (here : Here core n op) where
  pub decides_step : (result : Result Explored BuildFault) → Decides machine parts limits n result → DecidesStep core limits n result
  decides_step (Ok explored) decides =
      let is = decides.built in
      let (new, noted) = some_count core n is.row_states is.row_nodes op counts here in
      record {
        goal = record {
          auto = is.auto;
          raw_is = is.raw_is;
          auto_is = is.auto_is;
          slots = is.slots;
          verdict = is.verdict;
          counts = new;
          goal = next_goal core limits n is.row_states is.row_nodes waiting counts new is.auto
              (λ tree of. (leads tree of).next (table_of_auto is.auto) is.row_states is.row_nodes is.built) noted;
          states = is.states;
          nodes = is.nodes;
        };
        over = λ tree is. tt;
      }
  decides_step (Err fault) decides = record { goal = tt; over = λ tree is. (leads tree is).over fault decides.over }

pub turned_verdict_goal : MachineAcceptsAtomStep → OneCanonicalTable → (core : PlainCore) (limits : Limits) (n d : ℕ) (raw : RawValue) (complemented : Bool) → Here core n (OpNot d)
    → IsVerdictGoal core limits n raw complemented → IsVerdictGoal core limits (n + 1) raw (not complemented)
turned_verdict_goal atoms one_canonical core limits n d raw complemented here was =
    let auto = was.auto in
    let own = was.auto_is in
    let (new, noted) = some_count core n (length auto.rows) (count_of_nodes auto) (OpNot d) was.counts here in
    let turned : HaveSameVerdict auto.arena.slots (accepted_by raw (not complemented)) (outside (raw_accepts auto)) =
    subst (λ (L : Language). HaveSameVerdict auto.arena.slots L (outside (raw_accepts auto))) (λ i word. sym (accepted_turned raw complemented word) i)
    (same_verdict_outside auto.arena.slots (accepted_by raw complemented) (raw_accepts auto) was.verdict) in
    record {
      auto = other auto was.raw_is own;
      raw_is = other_is_raw auto was.raw_is own;
      auto_is = other_is_auto auto was.raw_is own;
      slots = was.slots;
      verdict = same_verdict_after auto.arena.slots (accepted_by raw (not complemented)) (outside (raw_accepts auto)) (raw_accepts (other auto was.raw_is own)) turned
          (λ word b. sym (other_accepts auto was.raw_is own word b));
      counts = new;
      goal = turned_goal atoms one_canonical core limits n d (length auto.rows) (count_of_nodes auto) auto (other auto was.raw_is own) was.counts new was.goal here
          (is_complement auto was.raw_is own) refl refl noted;
      states = was.states;
      nodes = was.nodes;
    }
