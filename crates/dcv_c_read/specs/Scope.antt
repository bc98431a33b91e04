-- What is known of the names of a unit at a place in its text.
--     Frame                          the names that are declared so far, by what may be done with them
--     Knows frame scope              what the code keeps tells of them
--     IsNamed placed name place      the name with a place
use Rattle.std.specs.Prelude.{◌≡◌, ℕ, ◌<◌, Bool, true, false, not, ◌||◌, List, [], ◌∷◌, ◌++◌, Option, Some, None, length, map}
use Rattle.dcv_observer.specs.Conditions.{Names, name_at}
use Rattle.dcv_observer.specs.Naming.{is_among, AreDistinct}
use Rattle.dcv_c.specs.Tree.{CUnit}
use Rattle.dcv_lexer.specs.Cuts.{Token}
use Rattle.dcv_c.specs.Rules.{keeps_apart, keeps_parameters, keeps_returned}
use Rattle.dcv_c_read.specs.declared.scope.Declaration.{Declaration}
use Rattle.dcv_c_read.specs.declared.scope.Scope.{Scope}
use Rattle.dcv_observer.specs.Judged.{IsLeft}
use Rattle.dcv_observer.specs.Rows.{AreRows}

-- ---- the names so far

pub record Frame : Type 0 where
  -- all, in the order of the text
  pub earlier : Names
  -- those of functions
  pub functions : Names
  -- and the others, by their places
  pub placed : Names
  -- of these the statics and locals
  pub lefts : Names
  -- those that are assigned, and parameters
  pub known : Names

abbrev pub no_names : Frame
no_names = record { earlier = []; functions = []; placed = []; lefts = []; known = [] }

abbrev pub with_function : List ℕ → Frame → Frame
with_function name frame =
    record {
      earlier = frame.earlier ++ name ∷ [];
      functions = frame.functions ++ name ∷ [];
      placed = frame.placed;
      lefts = frame.lefts;
      known = frame.known;
    }

abbrev pub added : Bool → Names → Names → Names
added true more names = names ++ more
added false more names = names

-- names with places: statics or locals, to which numbers may be assigned, or parameters, which are known
abbrev pub with_names : Bool → Names → Frame → Frame
with_names are_left names frame =
    record {
      earlier = frame.earlier ++ names;
      functions = frame.functions;
      placed = frame.placed ++ names;
      lefts = added are_left names frame.lefts;
      known = added (not are_left) names frame.known;
    }

-- whether each of them keeps its rule, where the first is at a place
abbrev pub keeps_names : Bool → Names → ℕ → Names → List Bool
keeps_names true earlier place names = keeps_apart earlier names
keeps_names false earlier place names = keeps_parameters earlier place names

-- these are known
abbrev pub with_known : Names → Frame → Frame
with_known known frame =
    record { earlier = frame.earlier; functions = frame.functions; placed = frame.placed; lefts = frame.lefts; known = known }

-- the statics of a unit
abbrev pub of_statics : Names → Frame
of_statics statics = with_names true statics no_names

-- after the function that sets them
abbrev pub behind_reset : CUnit → Frame
behind_reset unit = with_known unit.statics (with_function unit.reset (of_statics unit.statics))

-- where the statements of a step begin
abbrev pub behind_locals : CUnit → Frame
behind_locals unit = with_names true unit.locals (with_names false unit.parameters (with_function unit.step (behind_reset unit)))

-- ---- what the code keeps

pub record Row : Type 0 where
  pub place : ℕ
  pub is_left : Bool
  pub is_known : Bool

abbrev pub seen_row : Declaration → Row
seen_row name = record { place = name.place; is_left = name.is_left; is_known = name.known }

pub record IsRow (lefts known : Names) (place : ℕ) (name : List ℕ) (row : Row) : Type 0 where
  pub is_at : row.place ≡ place
  pub is_left : row.is_left ≡ is_among lefts name
  pub is_known : row.is_known ≡ is_among known name

pub record KnowsNames (frame : Frame) (functions declared : Names) (rows : List Row) : Type 0 where
  pub functions_are : functions ≡ frame.functions
  pub declared_are : declared ≡ frame.placed
  pub all : (name : List ℕ) → is_among frame.earlier name ≡ (is_among frame.functions name || is_among frame.placed name)
  pub distinct : AreDistinct frame.placed
  pub lefts_among : (name : List ℕ) → is_among frame.lefts name ≡ true → is_among frame.placed name ≡ true
  pub known_among : (name : List ℕ) → is_among frame.known name ≡ true → is_among frame.placed name ≡ true
  pub are_rows : AreRows (IsRow frame.lefts frame.known) 0 frame.placed rows

abbrev pub Knows : Frame → Scope → Type 0
Knows frame scope = KnowsNames frame scope.functions scope.declared (map seen_row scope.names.items)

-- ---- one name

pub record IsNamed (placed : Names) (name : List ℕ) (place : ℕ) : Type 0 where
  pub within : place < length placed
  pub is : name_at placed place ≡ name

pub record IsFoundAs (frame : Frame) (name : List ℕ) (row : Row) : Type 0 where
  pub named : IsNamed frame.placed name row.place
  pub is_left : row.is_left ≡ is_among frame.lefts name
  pub is_known : row.is_known ≡ is_among frame.known name

abbrev pub IsFound : Frame → List ℕ → Option Declaration → Type 0
IsFound frame name None = is_among frame.placed name ≡ false
IsFound frame name (Some found) = IsFoundAs frame name (seen_row found)

-- the name is known from now on
abbrev pub as_known : Row → Row
as_known row = record { place = row.place; is_left = row.is_left; is_known = true }

-- after assignments of these names, where none was known before
pub record KnowsAssigned (frame : Frame) (assigned : Names) (scope : Scope) : Type 0 where
  pub known : Names
  pub knows : Knows (with_known known frame) scope
  pub are_assigned : (name : List ℕ) → is_among known name ≡ is_among assigned name

-- after the statements of a step: some more names are known, and what it returns is left
pub record KnowsMore (unit : CUnit) (frame : Frame) (whole : Option ℕ) (words : List Token) (scope : Scope) : Type 0 where
  pub known : Names
  pub knows : Knows (with_known known frame) scope
  pub left : IsLeft whole words (keeps_returned known unit.returned)
