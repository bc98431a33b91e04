-- The names of the nodes of a file's observer.
use Rattle.std.proofs.Common.{◌≡◌, ℕ, ◌+◌, List, [], ◌∷◌, map, refl}
use Rattle.dcv_automaton_text.specs.File.{NodeLine}
use Rattle.dcv_automaton_file.proofs.ObservedFiles.{GoodLines}
use Rattle.dcv_observer.proofs.Naming.{Name}
use Rattle.dcv_observer.proofs.ObserverNames.{node_names}
use Rattle.dcv_c.specs.Observer.{node_name, node_local}

pub names_of_locals : (names : List Name) (most number : ℕ) (lines : List NodeLine) → GoodLines names most number lines → map node_local lines ≡ node_names number lines
names_of_locals names most number [] good = refl
names_of_locals names most number (line ∷ lines) good = λ i. node_name (good.0.number_is i) ∷ names_of_locals names most (number + 1) lines good.1 i
