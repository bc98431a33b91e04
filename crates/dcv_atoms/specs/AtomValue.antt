-- What contracts see of an atom.
--     AtomValue        the form, the diagrams of its proposition and its slot, and the classes of letters: the arena, and the refs of the letters in
--                      which each of both is true
--     IsAtomValue      what is true of every atom
use Rattle.std.specs.Prelude.{◌≡◌, length}
use Rattle.dcv_arena.specs.Arena.{ArenaValue, IsArena}
use Rattle.dcv_arena.specs.declared.nodes.Ref.{Ref}
use Rattle.dcv_core.specs.Core.{PlainBasic}
use Rattle.dcv_explore.specs.Classes.{ClassesValue, AreClassesOf}
use Rattle.dcv_atoms.specs.AtomRows.{test_of, slot_test_of}
use Rattle.dcv_atoms.specs.Functions.{Means}
use Rattle.dcv_atoms.specs.Numbers.{HasRoom}
use Rattle.dcv_atoms.specs.Parts.{atom_nodes}
use Rattle.dcv_atoms.specs.Columns.{column_of}

pub record AtomValue : Type 0 where
  pub form : PlainBasic
  pub arena : ArenaValue
  pub root : Ref
  pub slot : Ref
  pub classes : ClassesValue

abbrev pub atom_value : PlainBasic → ArenaValue → (root slot : Ref) → ClassesValue → AtomValue
atom_value form arena root slot classes = record { form = form; arena = arena; root = root; slot = slot; classes = classes }

pub record IsAtomValue (atom : AtomValue) : Type 0 where
  pub arena : IsArena atom.arena
  pub means : Means atom.arena atom.root atom.arena.slots (test_of atom.form)
  pub slot_means : Means atom.arena atom.slot atom.arena.slots (slot_test_of atom.form)
  pub columns : AreClassesOf atom.classes atom.arena.slots (column_of atom.form)
  pub nodes : length atom.arena.nodes ≡ atom_nodes atom.arena.slots atom.form
  pub room : HasRoom atom.form
