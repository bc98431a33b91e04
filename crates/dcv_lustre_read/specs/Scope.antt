-- What is known of the names of a node at a place in its text.
--     IsDeclaring node whole ..     while names are declared: those so far, and those that come
--     Knows node earlier ..         once all are: with the names on the left of earlier equations
use Rattle.std.specs.Prelude.{◌≡◌, ℕ, ◌+◌, ◌<◌, Bool, true, false, ◌||◌, nat_le, nat_lt, List, [], ◌∷◌, ◌++◌, Option, Some, None, length, map}
use Rattle.std.specs.List.{enumerate_from}
use Rattle.dcv_lexer.specs.Cuts.{Token}
use Rattle.dcv_observer.specs.Conditions.{Names, name_at}
use Rattle.dcv_observer.specs.Naming.{is_among, AreDistinct}
use Rattle.dcv_lustre.specs.Seen.{seen_kind}
use Rattle.dcv_lustre.specs.Tree.{Kind, OfTruth, Right, Delayed, Chosen, Tested, Equation, Local, Node}
use Rattle.dcv_lustre.specs.Meaning.{names_of}
use Rattle.dcv_lustre.specs.Rules.{most_inputs, is_same_kind, lefts_of, declared, keeps_declared, kind_of}
use Rattle.dcv_lustre_read.specs.declared.scope.Declaration.{Declaration}
use Rattle.dcv_observer.specs.Judged.{IsLeft}
use Rattle.dcv_observer.specs.Rows.{AreRows}

-- ---- while names are declared

-- the kind of a name, and whether it is an input
abbrev pub Told : Type 0
Told = Kind × Bool

abbrev pub told_inputs : Names → List Told
told_inputs inputs = map (λ input. (OfTruth, true)) inputs

abbrev pub told_locals : List Local → List Told
told_locals locals = map (λ (local : Local). (local.kind, false)) locals

abbrev pub told_of : Node → List Told
told_of node = told_inputs node.inputs ++ ((OfTruth, false) ∷ told_locals node.locals)

pub record Row : Type 0 where
  pub place : ℕ
  pub kind : Kind
  pub is_known : Bool

abbrev pub seen_row : Declaration → Row
seen_row name = record { place = name.place; kind = seen_kind name.kind; is_known = name.known }

abbrev pub rows_from : ℕ → List Told → List Row
rows_from place [] = []
rows_from place (told ∷ more) = record { place = place; kind = told.0; is_known = told.1 } ∷ rows_from (place + 1) more

abbrev pub keeps_from : Node → ℕ → Names → List Bool
keeps_from node place names = map (λ numbered. keeps_declared node numbered.0 numbered.1) (enumerate_from place names)

-- whether an input may stand at a place among the declared names
abbrev pub is_within : Node → ℕ → Bool
is_within node place = nat_le place most_inputs || nat_lt (length node.inputs) place

-- what is declared, and what is to come: words of the node, their names, and what is told of them; and after these other words
pub record IsDeclaring (node : Node) (whole : Option ℕ) (others : List Token) (others_keep : List Bool) (names : Names) (rows : List Row)
    (words : List Token) (later : Names) (told : List Told) : Type 0 where
  pub all : names ++ later ≡ declared node
  pub distinct : AreDistinct names
  pub told_all : rows ++ rows_from (length rows) told ≡ rows_from 0 (told_of node)
  pub numbered : length names ≡ length rows + 1
  pub left : IsLeft whole (words ++ others) (keeps_from node (length names) later ++ others_keep)

-- ---- once all are declared

pub record IsRow (node : Node) (earlier : Names) (place : ℕ) (name : List ℕ) (row : Row) : Type 0 where
  pub is_at : row.place ≡ place
  pub kind : row.kind ≡ kind_of node name
  pub is_known : row.is_known ≡ is_among (node.inputs ++ earlier) name

pub record Knows (node : Node) (earlier : Names) (names : Names) (rows : List Row) : Type 0 where
  pub all : names ≡ declared node
  pub distinct : AreDistinct names
  pub are_rows : AreRows (IsRow node earlier) 0 (names_of node) rows

-- the row of a name
pub record IsFoundAs (node : Node) (earlier : Names) (name : List ℕ) (row : Row) : Type 0 where
  pub within : row.place < length (names_of node)
  pub is : name_at (names_of node) row.place ≡ name
  pub among : is_among (names_of node) name ≡ true
  pub kind : row.kind ≡ kind_of node name
  pub is_known : row.is_known ≡ is_among (node.inputs ++ earlier) name

abbrev pub IsFound : Node → Names → List ℕ → Option Declaration → Type 0
IsFound node earlier name None = is_among (names_of node) name ≡ false
IsFound node earlier name (Some found) = IsFoundAs node earlier name (seen_row found)

-- whether a name of a kind may stand on the left of an equation
abbrev pub fits_form : Kind → Right → Bool
fits_form kind (Delayed first source) = true
fits_form kind (Chosen arms otherwise) = true
fits_form kind (Tested tests) = is_same_kind OfTruth kind

-- the name is known from now on
abbrev pub as_known : Row → Row
as_known row = record { place = row.place; kind = row.kind; is_known = true }

-- after all equations
pub record KnowsAll (node : Node) (equations : List Equation) (names : Names) (rows : List Row) : Type 0 where
  pub earlier : Names
  pub knows : Knows node earlier names rows
  pub are_lefts : (name : List ℕ) → is_among earlier name ≡ is_among (lefts_of equations) name
