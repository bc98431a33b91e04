-- The definitions on worked units, by computing.
use Rattle.std.proofs.Common.{◌≡◌, ℕ, ◌+◌, true, false, List, [], ◌∷◌, ◌++◌, None, refl, codes}
use Rattle.std.specs.Fmt.{digits}
use Rattle.dcv_lexer.specs.Cuts.{Token}
use Rattle.dcv_language.specs.declared.child.Child.TheVariants.{State, Node}
use Rattle.dcv_automaton_text.specs.File.{AutomatonFile, StartAccess, EmptySuffix}
use Rattle.dcv_c.specs.Tree.{CUnit, Statement, Assign, When, Plain, Chosen, Constant, Named, Holds, Equals, Returned, Read, Tested}
use Rattle.dcv_c.specs.Placed.{PlacedUnit, PlacedAssign, PlacedPlain, PlacedReturned, PlacedFixed, PlacedRead, PlacedAssignment, unit_of}
use Rattle.dcv_c.specs.Meaning.{unit_accepts, returned_number, returned_after, zeros}
use Rattle.dcv_c.specs.Rules.{judged, words_of, IsNamesFault, IsWellNamed}
use Rattle.dcv_c.specs.Layout.{layout_of, text_of}
use Rattle.dcv_c.specs.Observer.{observer_of}

-- ---- files of automata

-- no variables, and one state that never accepts
nothing_file : AutomatonFile
nothing_file =
    record {
      names = [];
      states = 1;
      node_lines = [];
      state_lines = record { number = 0; accepting = false; row = State 0 } ∷ [];
      access_lines = record { number = 0; access = StartAccess [] } ∷ [];
      suffix_lines = record { number = 0; suffix = EmptySuffix } ∷ [];
      steps = None;
    }

nothing_text : text_of (observer_of nothing_file)
    ≡ codes "static int st;\n\nvoid observer_reset(void)\n{\n  st = 0;\n}\n\nint observer_step(void)\n{\n  int nx;\n\n"
    ++ codes "  nx = 0;\n  if (st == 0) nx = 0;\n  st = nx;\n  return 0;\n}\n"
unfolding nothing_file observer_of text_of layout_of digits
nothing_text = refl

-- a variable that is true throughout
throughout_file : AutomatonFile
throughout_file =
    record {
      names = codes "p" ∷ [];
      states = 2;
      node_lines = record { number = 0; name = codes "p"; hi = State 0; lo = State 1 } ∷ [];
      state_lines = record { number = 0; accepting = true; row = Node 0 } ∷ record { number = 1; accepting = false; row = State 1 } ∷ [];
      access_lines = record { number = 0; access = StartAccess (true ∷ []) } ∷ record { number = 1; access = StartAccess (false ∷ []) } ∷ [];
      suffix_lines = record { number = 0; suffix = EmptySuffix } ∷ [];
      steps = None;
    }

throughout_text : text_of (observer_of throughout_file)
    ≡ codes "static int st;\n\nvoid observer_reset(void)\n{\n  st = 0;\n}\n\nint observer_step(int v_p)\n{\n  int nx;\n  int n0;\n\n"
    ++ codes "  nx = 0;\n  n0 = v_p ? 0 : 1;\n  if (st == 0) nx = n0;\n  if (st == 1) nx = 1;\n  st = nx;\n  return nx == 0;\n}\n"
unfolding throughout_file observer_of text_of layout_of digits
throughout_text = refl

throughout_is_well_named : IsWellNamed (observer_of throughout_file)
unfolding throughout_file observer_of judged digits
throughout_is_well_named = refl

throughout_accepts : unit_accepts (observer_of throughout_file) ((true ∷ []) ∷ (true ∷ []) ∷ []) ≡ true
unfolding throughout_file observer_of digits
throughout_accepts = refl

throughout_rejects : unit_accepts (observer_of throughout_file) ((true ∷ []) ∷ (false ∷ []) ∷ (true ∷ []) ∷ []) ≡ false
unfolding throughout_file observer_of digits
throughout_rejects = refl

-- where the first state accepts, and another, after two variables
two_text : text_of (observer_of (record {
  names = codes "p" ∷ codes "q" ∷ [];
  states = 3;
  node_lines = record { number = 0; name = codes "q"; hi = State 1; lo = State 2 } ∷ record { number = 1; name = codes "p"; hi = Node 0; lo = State 0 } ∷ [];
  state_lines =
      record { number = 0; accepting = true; row = Node 1 } ∷ record { number = 1; accepting = false; row = State 1 }
      ∷ record { number = 2; accepting = true; row = Node 0 } ∷ [];
  access_lines = [];
  suffix_lines = [];
  steps = None;
}))
    ≡ codes "static int st;\n\nvoid observer_reset(void)\n{\n  st = 0;\n}\n\nint observer_step(int v_p, int v_q)\n{\n  int nx;\n  int n0;\n  int n1;\n\n"
    ++ codes "  nx = 0;\n  n0 = v_q ? 1 : 2;\n  n1 = v_p ? n0 : 0;\n  if (st == 0) nx = n1;\n  if (st == 1) nx = 1;\n  if (st == 2) nx = n0;\n  st = nx;\n"
    ++ codes "  return nx == 0 || nx == 2;\n}\n"
unfolding observer_of text_of layout_of digits
two_text = refl

-- ---- `static int s; void r(void) { s = 0; } int f(int a) { int x; .. return ..; }`

abbrev unit_returning : Returned → List Statement → CUnit
unit_returning returned statements =
    record {
      statics = codes "s" ∷ [];
      reset = codes "r";
      assignments = record { name = codes "s"; number = 0 } ∷ [];
      step = codes "f";
      parameters = codes "a" ∷ [];
      locals = codes "x" ∷ [];
      statements = statements;
      returned = returned;
    }

-- where `x == 1` is returned
abbrev unit_with : List Statement → CUnit
unit_with statements = unit_returning (Tested (record { name = codes "x"; number = 1 } ∷ [])) statements

-- `x = s; s = a;`: what the variable was at the step before
abbrev delayed : CUnit
delayed = unit_with (Assign (codes "x") (Plain (Named (codes "s"))) ∷ Assign (codes "s") (Plain (Named (codes "a"))) ∷ [])

delayed_is_well_named : IsWellNamed delayed
unfolding judged
delayed_is_well_named = refl

was_true : unit_accepts delayed ((true ∷ []) ∷ (false ∷ []) ∷ []) ≡ true
was_true = refl

was_false : unit_accepts delayed ((false ∷ []) ∷ (true ∷ []) ∷ []) ≡ false
was_false = refl

-- what is stored is there at the next step, and what is not is not: without `s = a;` the store stays
never_stored : unit_accepts (unit_with (Assign (codes "x") (Plain (Named (codes "s"))) ∷ [])) ((true ∷ []) ∷ (false ∷ []) ∷ []) ≡ false
never_stored = refl

-- `if (a) x = 1;` alone: a local keeps no number from the step before
kept_by_none : unit_accepts (unit_with (When (Holds (codes "a")) (codes "x") (Constant 1) ∷ [])) ((true ∷ []) ∷ (false ∷ []) ∷ []) ≡ false
kept_by_none = refl

-- `x = a ? 1 : 0;`: the first item is taken where the condition holds
first_item : unit_accepts (unit_with (Assign (codes "x") (Chosen (Holds (codes "a")) (Constant 1) (Constant 0)) ∷ [])) ((true ∷ []) ∷ []) ≡ true
first_item = refl

second_item : unit_accepts (unit_with (Assign (codes "x") (Chosen (Holds (codes "a")) (Constant 1) (Constant 0)) ∷ [])) ((false ∷ []) ∷ []) ≡ false
second_item = refl

-- `x = 0; if (a) x = 2; if (a == 1) x = 1;`: the step goes on after an `if` whose condition holds
goes_on : unit_accepts (unit_with (
    Assign (codes "x") (Plain (Constant 0)) ∷ When (Holds (codes "a")) (codes "x") (Constant 2) ∷ When (Equals (codes "a") 1) (codes "x") (Constant 1) ∷ []
    )) ((true ∷ []) ∷ []) ≡ true
goes_on = refl

-- a bare condition holds of each number but 0: `x = 0; s = 7; if (s) x = 1;`
other_than_zero : unit_accepts (unit_with (
    Assign (codes "x") (Plain (Constant 0)) ∷ Assign (codes "s") (Plain (Constant 7)) ∷ When (Holds (codes "s")) (codes "x") (Constant 1) ∷ []
    )) ((true ∷ []) ∷ []) ≡ true
other_than_zero = refl

-- two tests that pass are returned as 1
no_count : returned_number zeros (Tested (record { name = codes "x"; number = 0 } ∷ record { name = codes "y"; number = 0 } ∷ [])) ≡ 1
no_count = refl

-- a name alone is returned as its number once the statements are made, and any other number than 0 accepts: `s = 5; if (a) s = 0; return s;`
abbrev counts : CUnit
counts = unit_returning (Read (codes "s")) (Assign (codes "s") (Plain (Constant 5)) ∷ When (Holds (codes "a")) (codes "s") (Constant 0) ∷ [])

counts_is_well_named : IsWellNamed counts
unfolding judged
counts_is_well_named = refl

returns_five : returned_after counts ((true ∷ []) ∷ (false ∷ []) ∷ []) ≡ 5
returns_five = refl

five_accepts : unit_accepts counts ((true ∷ []) ∷ (false ∷ []) ∷ []) ≡ true
five_accepts = refl

returns_none : returned_after counts ((false ∷ []) ∷ (true ∷ []) ∷ []) ≡ 0
returns_none = refl

none_rejects : unit_accepts counts ((false ∷ []) ∷ (true ∷ []) ∷ []) ≡ false
none_rejects = refl

-- ---- faults of names

abbrev token : ℕ → List ℕ → Token
token start bytes = record { bytes = bytes; start = start }

-- `static int s; void r(void) { ASSIGNMENTS } int f(int a) { int LOCAL; LEFT = ITEM; return RETURNED; }`
abbrev placed_returning : PlacedReturned → List PlacedAssignment → ℕ → List ℕ → List ℕ → List ℕ → PlacedUnit
placed_returning returned assignments brace local left item =
    record {
      statics = token 11 (codes "s") ∷ [];
      reset = token 19 (codes "r");
      assignments = assignments;
      reset_end = token brace (codes "}");
      step = token 60 (codes "f");
      parameters = token 66 (codes "a") ∷ [];
      locals = token 75 local ∷ [];
      statements = PlacedAssign (token 78 left) (PlacedPlain (token 82 item)) ∷ [];
      returned = returned;
    }

-- where 0 is returned
abbrev placed_with : List PlacedAssignment → ℕ → List ℕ → List ℕ → List ℕ → PlacedUnit
placed_with assignments brace local left item = placed_returning (PlacedFixed (token 92 (codes "0"))) assignments brace local left item

abbrev sets : ℕ → List ℕ → PlacedAssignment
sets start name = record { name = token start name; number = token (start + 4) (codes "0") }

-- where the static is set once
abbrev placed_so : List ℕ → List ℕ → List ℕ → PlacedUnit
placed_so local left item = placed_with (sets 29 (codes "s") ∷ []) 36 local left item

copies : IsWellNamed (unit_of (placed_so (codes "x") (codes "x") (codes "a")))
unfolding judged
copies = refl

-- a static that is not set: at the brace
not_set : IsNamesFault (placed_with [] 29 (codes "x") (codes "x") (codes "a")) 29
unfolding judged words_of
not_set = refl

-- a static that is set twice: at the second
set_twice : IsNamesFault (placed_with (sets 29 (codes "s") ∷ sets 36 (codes "s") ∷ []) 43 (codes "x") (codes "x") (codes "a")) 36
unfolding judged words_of
set_twice = refl

-- what is set is no static
sets_another : IsNamesFault (placed_with (sets 29 (codes "a") ∷ []) 36 (codes "x") (codes "x") (codes "a")) 29
unfolding judged words_of
sets_another = refl

-- a local with the name of a function
declared_twice : IsNamesFault (placed_so (codes "r") (codes "r") (codes "a")) 75
unfolding judged words_of
declared_twice = refl

-- what is assigned is no static and no local
assigns_a_parameter : IsNamesFault (placed_so (codes "x") (codes "a") (codes "s")) 78
unfolding judged words_of
assigns_a_parameter = refl

-- a local that is read before it is assigned
reads_itself : IsNamesFault (placed_so (codes "x") (codes "x") (codes "x")) 82
unfolding judged words_of
reads_itself = refl

-- the name of a function is no number
reads_a_function : IsNamesFault (placed_so (codes "x") (codes "x") (codes "f")) 82
unfolding judged words_of
reads_a_function = refl

-- `s = a; return NAME;`
abbrev placed_reading : List ℕ → PlacedUnit
placed_reading name =
    placed_returning (PlacedRead (token 92 name)) (sets 29 (codes "s") ∷ []) 36 (codes "x") (codes "s") (codes "a")

returns_a_static : IsWellNamed (unit_of (placed_reading (codes "s")))
unfolding judged
returns_a_static = refl

returns_a_parameter : IsWellNamed (unit_of (placed_reading (codes "a")))
unfolding judged
returns_a_parameter = refl

-- a local that no statement assigns
returns_an_unassigned : IsNamesFault (placed_reading (codes "x")) 92
unfolding judged words_of
returns_an_unassigned = refl

-- a name that is not declared
returns_an_unknown : IsNamesFault (placed_reading (codes "y")) 92
unfolding judged words_of
returns_an_unknown = refl
