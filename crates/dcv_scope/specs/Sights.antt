-- For private functions and proofs: what the walk over the names has in sight, in the words of `Names`.
use Rattle.std.specs.Prelude.{List, [], ◌∷◌, ◌++◌, Option, Some, None, map, ℕ}
use denote.Bor.{Bor}
use Rattle.std.specs.Option.{option_or}
use Rattle.dcv_syntax.specs.declared.names.Name.{Name}
use Rattle.dcv_syntax.specs.declared.files.Macro.{Macro}
use Rattle.dcv_syntax.specs.Views.{plain_macro}
use Rattle.dcv_scope.specs.declared.faults.ScopeFault.{ScopeFault}
use Rattle.dcv_scope.specs.declared.naming.Sight.{Sight}
use Rattle.dcv_scope.specs.Names.{InSight, Signature, macro_in_sight, texts, first_fault, occurrences_in_macro}

abbrev pub texts_of : List (Bor Name) → List (List ℕ)
texts_of = map (λ (n : Bor Name). n.now.text)

abbrev pub defining_of : Option (Bor Name) → List (List ℕ)
defining_of None = []
defining_of (Some n) = n.now.text ∷ []

abbrev pub signatures_of : List Macro → List (List ℕ × Signature)
signatures_of = map (λ (m : Macro). macro_in_sight (plain_macro m))

-- what the walk has in sight
abbrev pub in_sight_of : Sight → InSight
in_sight_of sight = record {
  variables = texts_of sight.variables.items;
  macros = signatures_of sight.macros.now;
  defining = defining_of sight.defining;
}

-- the first fault of a list, each of whose members has this
abbrev pub first_of : {X : Type 0} → (X → Option ScopeFault) → List X → Option ScopeFault
first_of f [] = None
first_of f (x ∷ xs) = option_or (f x) (first_of f xs)

-- these variables and macros alone
abbrev pub top_sight : List Name → List Macro → InSight
top_sight variables macros = record { variables = texts variables; macros = signatures_of macros; defining = [] }

-- the first fault of the macros after some others
abbrev pub faults_of_macros : List Name → List Macro → List Macro → Option ScopeFault
faults_of_macros variables earlier [] = None
faults_of_macros variables earlier (m ∷ macros) =
    option_or (first_fault (occurrences_in_macro (top_sight variables earlier) (plain_macro m))) (faults_of_macros variables (earlier ++ m ∷ []) macros)
