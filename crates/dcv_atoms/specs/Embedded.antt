-- Machines whose states are kept in a type of more states.
--     embedded kept found machine     the same machine over what its states are kept as
use Rattle.dcv_language.specs.Automaton.{WorkingMachine}

-- `kept` is what a state is kept as, and `found` finds the state again
abbrev pub embedded : {S T : Type 0} → (S → T) → (T → S) → WorkingMachine S → WorkingMachine T
embedded kept found machine = record {
  slots = machine.slots;
  automaton = record {
    start = kept machine.start;
    next = λ state letter. kept (machine.next (found state) letter);
    accepting = λ state. machine.accepting (found state);
  };
}
