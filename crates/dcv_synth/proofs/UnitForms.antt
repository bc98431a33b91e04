-- The unit of a controller has a text: its names are names of the subset, and its numbers are small enough.
use Rattle.std.proofs.Common.{ℕ, zero, suc, ◌+◌, ◌<◌, ◌≤◌, List, [], ◌∷◌, ◌++◌, length, map, get_or, refl, arith, decimal}
use Rattle.std.specs.List.{All, AllByRecursion, enumerate_from, range_with_len}
use Rattle.std.proofs.lemmas.Bool.{and_parts}
use Rattle.std.proofs.lemmas.List.Elements.{recursion_from_All}
use Rattle.std.proofs.lemmas.Fmt.{length-decimal-le}
use Rattle.dcv_language.specs.Limits.{most_nodes, number_bound}
use Rattle.dcv_automaton_text.specs.Rules.{IsPlainName}
use Rattle.dcv_automaton_text.proofs.Words.{digits_are}
use Rattle.dcv_language.specs.declared.child.Child.{Child}
use Rattle.dcv_language.specs.declared.child.Child.TheVariants.{State, Node}
use Rattle.dcv_dfa.specs.declared.node_lines.NodeLine.{NodeLine}
use Rattle.dcv_dfa.specs.NodeLines.{IsBelow}
use Rattle.dcv_observer.proofs.Naming.{Name}
use Rattle.dcv_c.specs.Classes.{lexicon}
use Rattle.dcv_c.specs.Form.{IsName, IsItem, IsStatement, IsSpellable}
use Rattle.dcv_c.specs.Observer.{node_name}
use Rattle.dcv_c.proofs.ObserverForms.{plain_word, state_is, next_is, parameter_is, digits_are_word_bytes, node_is, parameters_are, behind}
use Rattle.dcv_synth.specs.Units.{ControlLines, output_name, output_node_name, reset_name, step_name, input_name, names_of_nodes, target, choice, choices}
use Rattle.dcv_synth.specs.Units.{all_state_choices, last_statement, unit_of_lines}
use Rattle.dcv_synth.proofs.UnitLines.{AreGoodLines, AreGoodUnitLines}

-- ---- names

output_is : IsName output_name
unfolding lexicon
output_is = refl

reset_is : IsName reset_name
unfolding lexicon
reset_is = refl

step_is : IsName step_name
unfolding lexicon
step_is = refl

output_node_is : (n : ℕ) → n < most_nodes → IsName (output_node_name n)
unfolding lexicon
output_node_is n small =
    plain_word (output_node_name n) (digits_are_word_bytes (decimal n) (digits_are n (omega arith)))
    (omega (arith, length-decimal-le 7 n (omega arith) (omega arith) (omega arith)))
    refl

input_is : (names : List Name) (slot : ℕ) → All IsPlainName names → slot < length names → IsName (input_name names slot)
input_is names slot are below =
    let is = are slot [] below in
    parameter_is (get_or names slot []) (and_parts _ _ is.form).0 is.short

-- ---- statements

module _ (name : ℕ → Name) (is : (k : ℕ) → k < most_nodes → IsName (name k)) where
  names_are : (first count : ℕ) → first + count ≤ most_nodes → AllByRecursion IsName (map name (range_with_len first count))
  names_are first zero few = tt
  names_are first (suc count) few = (is first (omega (arith, few)), names_are (first + 1) count (omega (arith, few)))

  target_is : (nodes : ℕ) (child : Child) → nodes ≤ most_nodes → IsBelow number_bound nodes child → IsItem (target name child)
  target_is nodes (State number) few below = omega (arith, below)
  target_is nodes (Node number) few below = is number (omega (arith, below, few))

  module _ (names : List Name) (are : All IsPlainName names) where
    choices_are : (number : ℕ) (lines : List NodeLine) → number + length lines ≤ most_nodes → AreGoodLines (length names) number lines
        → AllByRecursion IsStatement (map (choice name names) (enumerate_from number lines))
    choices_are number [] few good = tt
    choices_are number (line ∷ lines) few good =
        let below : number ≤ most_nodes = omega (arith, few) in (
          (
            is number (omega (arith, few)),
            (input_is names line.slot are good.0.slot, target_is number line.hi below good.0.hi, target_is number line.lo below good.0.lo),
          ),
          choices_are (number + 1) lines (omega (arith, few)) good.1,
        )

rows_are : (firsts seconds : ℕ) → firsts ≤ most_nodes → seconds ≤ most_nodes → (states : List ℕ) (nexts outputs : List Child)
    → AllByRecursion (λ state. state < number_bound) states → AllByRecursion (IsBelow number_bound firsts) nexts → AllByRecursion (IsBelow number_bound seconds) outputs
    → AllByRecursion IsStatement (all_state_choices states nexts outputs)
rows_are firsts seconds few also [] nexts outputs below next output = tt
rows_are firsts seconds few also (state ∷ states) [] outputs below next output = tt
rows_are firsts seconds few also (state ∷ states) (n ∷ nexts) [] below next output = tt
rows_are firsts seconds few also (state ∷ states) (n ∷ nexts) (o ∷ outputs) below next output = (
  ((state_is, omega (arith, below.0)), next_is, target_is node_name node_is firsts n few next.0),
  (
    ((state_is, omega (arith, below.0)), output_is, target_is output_node_name output_node_is seconds o also output.0),
    rows_are firsts seconds few also states nexts outputs below.1 next.1 output.1,
  ),
)

joined_are : (names more : List Name) → AllByRecursion IsName names → AllByRecursion IsName more → AllByRecursion IsName (names ++ more)
joined_are [] more one other = other
joined_are (n ∷ names) more one other = (one.0, joined_are names more one.1 other)

pub unit_is_spellable : (all : ControlLines) → AreGoodUnitLines all → IsSpellable (unit_of_lines all)
unfolding unit_of_lines
unit_is_spellable all good =
    let names = all.names in
    let firsts = length all.next.lines in
    let seconds = length all.output.lines in
    let are = good.names.each in
    let first = choices_are node_name node_is names are 0 all.next.lines (omega (arith, good.next.few)) good.next.lines in
    let second = choices_are output_node_name output_node_is names are 0 all.output.lines (omega (arith, good.output.few)) good.output.lines in
    let rows = rows_are firsts seconds good.next.few good.output.few all.states all.next.rows all.output.rows
    (recursion_from_All (λ (state : ℕ). state < number_bound) all.states good.states)
    (recursion_from_All (IsBelow number_bound firsts) all.next.rows good.next.rows)
    (recursion_from_All (IsBelow number_bound seconds) all.output.rows good.output.rows) in
    record {
      some_static = omega arith;
      statics = (state_is, tt);
      reset = reset_is;
      assignments = (record { name = state_is; number = omega arith }, tt);
      step = step_is;
      parameters = parameters_are names (recursion_from_All IsPlainName names are);
      locals = (
        next_is,
        (
          output_is,
          joined_are (names_of_nodes node_name firsts) (names_of_nodes output_node_name seconds)
              (names_are node_name node_is 0 firsts (omega (arith, good.next.few))) (names_are output_node_name output_node_is 0 seconds (omega (arith, good.output.few))),
        ),
      );
      statements = (
        (next_is, omega arith),
        (
          (output_is, omega arith),
          behind (choices node_name names all.next.lines)
              (choices output_node_name names all.output.lines ++ (all_state_choices all.states all.next.rows all.output.rows ++ last_statement ∷ [])) first
              (behind (choices output_node_name names all.output.lines) (all_state_choices all.states all.next.rows all.output.rows ++ last_statement ∷ []) second
              (behind (all_state_choices all.states all.next.rows all.output.rows) (last_statement ∷ []) rows ((state_is, next_is), tt))),
        ),
      );
      returned = output_is;
    }
