-- The definitions on worked nodes, by computing.
use Rattle.std.proofs.Common.{◌≡◌, ℕ, true, false, List, [], ◌∷◌, ◌++◌, None, refl, codes}
use Rattle.std.specs.Fmt.{digits}
use Rattle.dcv_lexer.specs.Cuts.{Token}
use Rattle.dcv_tokens.specs.Tokens.{reserved_words}
use Rattle.dcv_language.specs.declared.child.Child.TheVariants.{State, Node as AtNode}
use Rattle.dcv_automaton_text.specs.File.{AutomatonFile, StartAccess, EmptySuffix}
use Rattle.dcv_automaton_text.specs.Rules.{IsGood, judged_words}
use Rattle.dcv_lustre.specs.Tree.{Node}
use Rattle.dcv_lustre.specs.Placed.{PlacedNode, PlacedChosen, node_of}
use Rattle.dcv_lustre.specs.Rules.{judged, words_of, IsNamesFault, IsWellNamed}
use Rattle.dcv_lustre.specs.Layout.{text_of}
use Rattle.dcv_lustre.specs.Observer.{observer_of}

-- ---- files of automata

-- no variables, and one state that accepts
every_file : AutomatonFile
every_file =
    record {
      names = [];
      states = 1;
      node_lines = [];
      state_lines = record { number = 0; accepting = true; row = State 0 } ∷ [];
      access_lines = record { number = 0; access = StartAccess [] } ∷ [];
      suffix_lines = [];
      steps = None;
    }

every_is_good : IsGood every_file
unfolding every_file judged_words digits
every_is_good = refl

every_text : text_of (observer_of every_file)
    ≡ codes "node observer(tick: bool) returns (ok: bool);\nvar\n  st: int;\n  nx: int;\n"
    ++ codes "let\n  st = 0 -> pre nx;\n  nx = 0;\n  ok = (nx = 0);\ntel\n"
unfolding every_file observer_of text_of digits
every_text = refl

-- a variable that is true throughout
throughout_file : AutomatonFile
throughout_file =
    record {
      names = codes "p" ∷ [];
      states = 2;
      node_lines = record { number = 0; name = codes "p"; hi = State 0; lo = State 1 } ∷ [];
      state_lines = record { number = 0; accepting = true; row = AtNode 0 } ∷ record { number = 1; accepting = false; row = State 1 } ∷ [];
      access_lines = record { number = 0; access = StartAccess (true ∷ []) } ∷ record { number = 1; access = StartAccess (false ∷ []) } ∷ [];
      suffix_lines = record { number = 0; suffix = EmptySuffix } ∷ [];
      steps = None;
    }

throughout_is_good : IsGood throughout_file
unfolding throughout_file judged_words digits reserved_words
throughout_is_good = refl

throughout_text : text_of (observer_of throughout_file)
    ≡ codes "node observer(v_p: bool) returns (ok: bool);\nvar\n  st: int;\n  nx: int;\n  n0: int;\n"
    ++ codes "let\n  st = 0 -> pre nx;\n  n0 = if v_p then 0 else 1;\n  nx = if st = 0 then n0 else 1;\n  ok = (nx = 0);\ntel\n"
unfolding throughout_file observer_of text_of digits
throughout_text = refl

-- no state accepts, and three states after two variables
never_text : text_of (observer_of (record {
  names = codes "p" ∷ codes "q" ∷ [];
  states = 3;
  node_lines = record { number = 0; name = codes "q"; hi = State 1; lo = State 2 } ∷ record { number = 1; name = codes "p"; hi = AtNode 0; lo = State 0 } ∷ [];
  state_lines =
      record { number = 0; accepting = false; row = AtNode 1 } ∷ record { number = 1; accepting = false; row = State 1 }
      ∷ record { number = 2; accepting = false; row = AtNode 0 } ∷ [];
  access_lines = [];
  suffix_lines = [];
  steps = None;
}))
    ≡ codes "node observer(v_p: bool; v_q: bool) returns (ok: bool);\nvar\n  st: int;\n  nx: int;\n  n0: int;\n  n1: int;\n"
    ++ codes "let\n  st = 0 -> pre nx;\n  n0 = if v_q then 1 else 2;\n  n1 = if v_p then n0 else 0;\n"
    ++ codes "  nx = if st = 0 then n1 else if st = 1 then 1 else n0;\n  ok = false;\ntel\n"
unfolding observer_of text_of digits
never_text = refl

-- ---- `node f(a: bool) returns (ok: bool); let ok = ..; tel`

token : ℕ → List ℕ → Token
token start bytes = record { bytes = bytes; start = start }

with_right : List ℕ → PlacedNode
with_right item =
    record {
      name = record { bytes = codes "f"; start = 5 };
      inputs = record { bytes = codes "a"; start = 7 } ∷ [];
      output = record { bytes = codes "ok"; start = 25 };
      locals = [];
      equations = record { left = record { bytes = codes "ok"; start = 40 }; right = PlacedChosen [] (record { bytes = item; start = 45 }) } ∷ [];
      tel = record { bytes = codes "tel"; start = 48 };
    }

unknown_name : IsNamesFault (with_right (codes "b")) 45
unfolding with_right judged words_of
unknown_name = refl

number_for_a_truth : IsNamesFault (with_right (codes "1")) 45
unfolding with_right judged words_of
number_for_a_truth = refl

itself : IsNamesFault (with_right (codes "ok")) 45
unfolding with_right judged words_of
itself = refl

copy : Node
copy = node_of (with_right (codes "a"))

copy_is_well_named : IsWellNamed copy
unfolding copy with_right judged
copy_is_well_named = refl
