use Rattle.dcv_cli.proofs.Common.{puts_same}
use Rattle.dcv_cli.proofs.refusal.Refusal.put.Goals as goal

pub returns-in-Formula : goal.returns-in-Formula
returns-in-Formula g c = rw c.in-Formula.is (puts_same _ _ _ _ c.put.ensures c.words.ensures)

pub returns-in-Automaton : goal.returns-in-Automaton
returns-in-Automaton g c = rw c.in-Automaton.is (puts_same _ _ _ _ c.put-in-Automaton.ensures c.words-in-Automaton.ensures)

pub returns-in-Observer : goal.returns-in-Observer
returns-in-Observer g c = rw c.in-Observer.is (puts_same _ _ _ _ c.put-in-Observer.ensures c.words-in-Observer.ensures)

pub returns-in-Trace : goal.returns-in-Trace
returns-in-Trace g c = rw c.in-Trace.is (puts_same _ _ _ _ c.put-in-Trace.ensures c.words-in-Trace.ensures)

pub returns-in-Write : goal.returns-in-Write
returns-in-Write g c = rw c.in-Write.is c.put_fault-in-Write.ensures

pub returns-in-Memory : goal.returns-in-Memory
returns-in-Memory g c = rw c.in-Memory.is c.put_fault-in-Memory.ensures

pub returns-in-Tuples : goal.returns-in-Tuples
returns-in-Tuples g c = rw c.in-Tuples.is c.put_tuples.ensures
