-- What is found where a controller is asked for is right for the sets whose automaton it is, and for the file.
use Rattle.dcv_cli.proofs.Common.{◌≡◌, ◌≢◌, ℕ, ◌+◌, ◌-◌, ◌≤◌, List, length, refl, sym, ap, subst, arith, take, IsTrue, nat_le}
use Rattle.dcv_cli.proofs.Common.{length-take, PlainFile, Name, models, Language, table_accepts, automaton_of as table_automaton, AreNames, Table, Word, IsCanonical}
use Rattle.dcv_cli.proofs.Common.{IsPlainName, RawValue, IsRaw, table_of_states, Limits, IsAutomatonOf, TextIsReadBack, text_of, CUnit}
use Rattle.dcv_cli.proofs.Common.{ControlValue, IsControlOf, controller_by, Wins, ControlsWin, StrategiesBeat, WinsOverSameBehaviours}
use Rattle.dcv_cli.proofs.Common.{BeatsOverSameBehaviours, input_at, IsUnrealisable, environment_of, controller_in, Strategy, WithinBudget}
use Rattle.dcv_cli.proofs.Common.{IsBuilt, Built, is_answer, can_be_divided, controller_text, strategy_text, SaysController}
use Rattle.dcv_cli.proofs.Common.{SaysStrategy, IsSynthesis, IsSynthesised, Divided, status_of_synthesis}
use Rattle.std.proofs.lemmas.Bool.{and_parts, leb-true}
use Rattle.std.proofs.lemmas.List.{get_or-take, take-map}
use Rattle.std.proofs.lemmas.List.Elements.{All-take}
use Rattle.dcv_automaton_file.specs.File.{texts_of}
use Rattle.dcv_dfa.specs.Raw.{automaton_of}
use Rattle.dcv_c.specs.Faults.{IsReadAs}
use Rattle.dcv_c.specs.Form.{IsSpellable}
use Rattle.dcv_c.specs.Rules.{IsWellNamed}
use Rattle.dcv_synth.specs.Control.{lines_of, unit_of}
use Rattle.dcv_synth.specs.Laws.{ControlsHaveLeastLines, ControlsOfLikeAutomata, HasUnit, StrategiesOfLikeAutomata, TablesGoOnAlike}
use Rattle.dcv_synth.specs.SameSteps.{GoOnAlike}
use Rattle.dcv_cli.specs.Synthesised.{synthesised}
use Rattle.dcv_cli.specs.declared.synth.Synthesis.{Synthesis}
use Rattle.dcv_cli.specs.declared.synth.Synthesis.TheVariants.{Controller as FoundController, Strategy as FoundStrategy}

-- ---- how the variables are divided

pub record AreDivided (inputs variables : ℕ) : Type 0 where
  pub some : inputs ≤ variables
  pub few : variables ≤ inputs + 8

pub divided : (inputs variables : ℕ) → IsTrue (can_be_divided inputs variables) → AreDivided inputs variables
divided inputs variables is =
    let both = and_parts (nat_le inputs variables) (nat_le variables (inputs + 8)) is in
    record { some = leb-true inputs variables both.0; few = leb-true variables (inputs + 8) both.1 }

-- ---- the names of the inputs

pub some_names : (n : ℕ) (names : List (List ℕ)) → AreNames names → AreNames (take n names)
some_names n names are = record {
  count = omega (arith, are.count, length-take n names);
  each = All-take IsPlainName n names are.each;
  differ = λ i j d before within.
      let few = length-take n names in
      subst (λ (pair : List ℕ × List ℕ). pair.0 ≢ pair.1)
      (λ k. (sym (get_or-take n names i d (omega (arith, before, within, few))) k, sym (get_or-take n names j d (omega (arith, within, few))) k))
      (are.differ i j d before (omega (arith, within, few)));
}

pub texts_of_some : (n : ℕ) (names : List Name) → take n (texts_of names) ≡ texts_of (take n names)
texts_of_some n names = take-map (λ (name : Name). name.text) n names

pub names_of_inputs : (n : ℕ) (names : List Name) → AreNames (texts_of names) → AreNames (texts_of (take n names))
names_of_inputs n names are = subst AreNames (texts_of_some n names) (some_names n (texts_of names) are)

-- ---- of a canonical table

module _ (n m : ℕ) (L : Language) (table : Table) (access : List Word) (canonical : IsCanonical (n + m) L table access) where
  pub says_controller_of : ControlsWin → ControlsHaveLeastLines → WinsOverSameBehaviours → TextIsReadBack → (names : List (List ℕ)) (control : ControlValue) (unit : CUnit) → HasUnit names control
      → IsControlOf n m (table_automaton table) control → unit ≡ unit_of names control → IsSpellable unit → IsWellNamed unit
      → (Wins n m L (controller_by m control) → Wins n m L (controller_in m unit)) → SaysController n m L names (controller_text (text_of unit))
  says_controller_of win lines over back names control unit has least same form named carries =
      let won = over n m (table_accepts table) L (controller_by m control) canonical.exact (win n m (table_automaton table) control refl least) in
      record {
        table = table;
        access = access;
        canonical = canonical;
        lines = lines_of names control;
        least = lines names n m (table_automaton table) control has least;
        says = ap (λ (one : CUnit). controller_text (text_of one)) same;
        read = subst (λ (one : CUnit). IsReadAs (text_of one) one) same (back unit form named);
        wins = subst (λ (one : CUnit). Wins n m L (controller_in m one)) same (carries won);
      }

  pub says_strategy_of : StrategiesBeat → BeatsOverSameBehaviours → (strategy : Strategy) → IsUnrealisable n m (table_automaton table) strategy
      → SaysStrategy n m L (strategy_text strategy)
  says_strategy_of beat over strategy least = record {
    table = table;
    access = access;
    canonical = canonical;
    strategy = strategy;
    least = least;
    says = refl;
    beats = over n m (table_accepts table) L (environment_of (table_automaton table) (input_at n strategy.moves.items)) strategy.bound canonical.exact
        (beat n m (table_automaton table) strategy least);
  }

-- ---- of an automaton

-- the automaton of a set, whose letters are inputs and outputs
pub record IsOfSet (n m : ℕ) (L : Language) (raw : RawValue) : Type 0 where
  pub raw_is : IsRaw raw
  pub start : raw.start ≡ 0
  pub of : IsAutomatonOf (n + m) L raw

module _ (tables : TablesGoOnAlike) (n m : ℕ) (L : Language) (raw : RawValue) (is : IsOfSet n m L raw) where
  alike : GoOnAlike (n + m) (automaton_of raw) (table_automaton (table_of_states raw))
  alike = subst (λ k. GoOnAlike k (automaton_of raw) (table_automaton (table_of_states raw))) is.of.slots (tables raw is.raw_is is.start)

  pub says_controller : ControlsOfLikeAutomata → ControlsWin → ControlsHaveLeastLines → WinsOverSameBehaviours → TextIsReadBack → (names : List (List ℕ)) (control : ControlValue) (unit : CUnit)
      → HasUnit names control
      → IsControlOf n m (automaton_of raw) control → unit ≡ unit_of names control → IsSpellable unit → IsWellNamed unit
      → ((m : ℕ) (L : Language) → Wins control.next.arena.slots m L (controller_by m control) → Wins control.next.arena.slots m L (controller_in m unit))
      → SaysController n m L names (controller_text (text_of unit))
  says_controller controls win lines over back names control unit has control_is same form named carries =
      says_controller_of n m L (table_of_states raw) is.of.access is.of.canonical win lines over back names control unit has
      (controls n m (automaton_of raw) (table_automaton (table_of_states raw)) control alike control_is) same form named
      (subst (λ k. Wins k m L (controller_by m control) → Wins k m L (controller_in m unit)) control_is.next.slots (carries m L))

  pub says_strategy : StrategiesOfLikeAutomata → StrategiesBeat → BeatsOverSameBehaviours → (strategy : Strategy) → IsUnrealisable n m (automaton_of raw) strategy
      → SaysStrategy n m L (strategy_text strategy)
  says_strategy strategies beat over strategy unrealisable =
      says_strategy_of n m L (table_of_states raw) is.of.access is.of.canonical beat over strategy
      (strategies n m (automaton_of raw) (table_automaton (table_of_states raw)) strategy alike unrealisable)

-- of the automaton of a set over so many variables
pub of_set : (n k : ℕ) (L : Language) (raw : RawValue) → IsRaw raw → raw.start ≡ 0 → n ≤ k → IsAutomatonOf k L raw → IsOfSet n (k - n) L raw
of_set n k L raw raw_is start within of =
    let same : k ≡ n + (k - n) = omega (arith, within) in
    record { raw_is = raw_is; start = start; of = subst (λ count. IsAutomatonOf count L raw) same of }

-- ---- of the file

pub answers_found : (found : Synthesis) → IsTrue (is_answer (status_of_synthesis found))
answers_found (FoundController unit) = refl
answers_found (FoundStrategy strategy) = refl

-- what is found of its automaton
pub found_of_file : (inputs : ℕ) (limits : Limits) (file : PlainFile) (names : List Name) (built : Built) (found : Synthesis) → names ≡ file.variables → IsBuilt file limits built
    → IsTrue (can_be_divided inputs (length names))
    → ((k : ℕ) (L : Language) → IsAutomatonOf k L built.auto → IsSynthesis inputs (k - inputs) L (take inputs (texts_of names)) (synthesised found))
    → IsSynthesised inputs limits file (synthesised found)
found_of_file inputs limits file names built found same is fits each =
    Divided (subst (λ (names : List Name). IsTrue (can_be_divided inputs (length names))) same fits)
    (WithinBudget is.within
    (subst (λ (names : List Name). IsSynthesis inputs (length file.variables - inputs) (models file) (take inputs (texts_of names)) (synthesised found)) same
    (each (length file.variables) (models file) is.automaton)))
