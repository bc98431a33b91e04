-- What the printed observer of a set of behaviours is: the text of the observer of a file that says the set's canonical automaton. The file's
-- words of access, its suffixes and what its steps took do not matter to an observer.
--     SaysNode k L names text      so it is of the set over k variables, which have these names, in the subset of Lustre
--     SaysUnit k L names text      the same in the subset of C
--     SaysTables k L names text    the same in constant tables of C
use Rattle.std.specs.Prelude.{◌≡◌, ℕ, List}
use Rattle.dcv_language.specs.Language.{Language}
use Rattle.dcv_automaton_text.specs.File.{AutomatonFile}
use Rattle.dcv_c.specs.Faults.{IsReadAs as IsReadAsUnit}
use Rattle.dcv_c.specs.Laws.{Observes as ObservesByUnit}
use Rattle.dcv_c.specs.Layout as c
use Rattle.dcv_c.specs.Observer.{observer_of as unit_of}
use Rattle.dcv_c_tables.specs.Laws.{Observes as ObservesByTables}
use Rattle.dcv_c_tables.specs.Layout as tables
use Rattle.dcv_c_tables.specs.Observer.{tables_of}
use Rattle.dcv_lustre.specs.Faults.{IsReadAs as IsReadAsNode}
use Rattle.dcv_lustre.specs.Laws.{Observes as ObservesByNode}
use Rattle.dcv_lustre.specs.Layout as lustre
use Rattle.dcv_lustre.specs.Observer.{observer_of as node_of}
use Rattle.dcv_print.specs.Automaton.{IsAutomatonOf}

pub record SaysNode (k : ℕ) (L : Language) (names : List (List ℕ)) (text : List ℕ) : Type 0 where
  pub file : AutomatonFile
  pub of : IsAutomatonOf k L names file
  pub says : text ≡ lustre.text_of (node_of file)
  -- So it is a sentence of the subset, which keeps the rules of names, and of the behaviours over k variables the node accepts, by the
  -- meaning of the subset, exactly those of the set.
  pub read : IsReadAsNode text (node_of file)
  pub observes : ObservesByNode k (node_of file) L

pub record SaysUnit (k : ℕ) (L : Language) (names : List (List ℕ)) (text : List ℕ) : Type 0 where
  pub file : AutomatonFile
  pub of : IsAutomatonOf k L names file
  pub says : text ≡ c.text_of (unit_of file)
  -- so it is a sentence of that subset, and accepts by the meaning of that
  pub read : IsReadAsUnit text (unit_of file)
  pub observes : ObservesByUnit k (unit_of file) L

pub record SaysTables (k : ℕ) (L : Language) (names : List (List ℕ)) (text : List ℕ) : Type 0 where
  pub file : AutomatonFile
  pub of : IsAutomatonOf k L names file
  pub says : text ≡ tables.text_of (tables_of file)
  -- and accepts by the meaning of tables, in which each step ends, reads nothing beyond an array, and looks at each variable once at most
  pub observes : ObservesByTables k (tables_of file) L
