-- Texts and their files, by hand.
use Rattle.std.proofs.Common.{◌≡◌, true, false, List, [], ◌∷◌, ◌++◌, None, Some, refl}
use Rattle.std.specs.Prelude.{codes}
use Rattle.std.specs.Fmt.{digits}
use Rattle.dcv_tokens.specs.Tokens.{reserved_words}
use Rattle.dcv_language.specs.declared.child.Child.TheVariants.{State, Node}
use Rattle.dcv_automaton_text.specs.File.{NodeLine, StateLine, EmptyAccess, StartAccess, AfterAccess, AccessLine, EmptySuffix, ThenSuffix, SuffixLine, StepLine, AutomatonFile}
use Rattle.dcv_automaton_text.specs.Spelled.{lines_of, spelled}
use Rattle.dcv_automaton_text.specs.Rules.{judged_words, IsGood, IsTableFault}
use Rattle.dcv_automaton_text.specs.Numbering.{visits_of, numbered_nodes, IsNumbered}
use Rattle.dcv_automaton_text.specs.Versions.{second_version}
use Rattle.dcv_automaton_text.specs.Meaning.{states_at, table_of, access_words_of, suffix_words_of}

-- ---- the words of one letter, in which the variable is true

nodes_of_point : List NodeLine
nodes_of_point = record { number = 0; name = codes "p"; hi = State 2; lo = State 1 } ∷ []

states_of_point : List StateLine
states_of_point =
    record { number = 0; accepting = false; row = Node 0 }
    ∷ record { number = 1; accepting = false; row = State 1 }
    ∷ record { number = 2; accepting = true; row = State 1 } ∷ []

access_of_point : List AccessLine
access_of_point =
    record { number = 0; access = EmptyAccess }
    ∷ record { number = 1; access = StartAccess (false ∷ []) }
    ∷ record { number = 2; access = StartAccess (true ∷ []) } ∷ []

suffixes_of_point : List SuffixLine
suffixes_of_point = record { number = 0; suffix = EmptySuffix } ∷ record { number = 1; suffix = ThenSuffix (true ∷ []) 0 } ∷ []

point : AutomatonFile
point =
    record {
      names = codes "p" ∷ [];
      states = 3;
      node_lines = nodes_of_point;
      state_lines = states_of_point;
      access_lines = access_of_point;
      suffix_lines = suffixes_of_point;
      steps = None;
    }

point_text : spelled point
    ≡ codes "automaton 1\nvariables p\nstates 3\n"
    ++ codes "node n0 p ? t2 : t1\n"
    ++ codes "state 0 reject n0\nstate 1 reject t1\nstate 2 accept t1\n"
    ++ codes "access 0 empty\naccess 1 start 0\naccess 2 start 1\n"
    ++ codes "suffix 0 empty\nsuffix 1 1 0\n"
    ++ codes "end\n"
unfolding point nodes_of_point states_of_point access_of_point suffixes_of_point spelled lines_of digits
point_text = refl

point_is_good : IsGood point
unfolding point nodes_of_point states_of_point access_of_point suffixes_of_point judged_words reserved_words digits
point_is_good = refl

point_table : table_of point
    ≡ record { accepting = false; row = 1 ∷ 2 ∷ [] } ∷ record { accepting = false; row = 1 ∷ 1 ∷ [] } ∷ record { accepting = true; row = 1 ∷ 1 ∷ [] } ∷ []
unfolding point nodes_of_point states_of_point table_of states_at
point_table = refl

point_access : access_words_of point ≡ [] ∷ ((false ∷ []) ∷ []) ∷ ((true ∷ []) ∷ []) ∷ []
unfolding point access_of_point access_words_of
point_access = refl

point_suffixes : suffix_words_of point ≡ [] ∷ ((true ∷ []) ∷ []) ∷ []
unfolding point suffixes_of_point suffix_words_of
point_suffixes = refl

point_is_numbered : IsNumbered point
unfolding point nodes_of_point states_of_point visits_of numbered_nodes
point_is_numbered = refl

-- ---- the child where the variable is false gets its number first, and a node that has one gets no other

nodes_of_agreement : List NodeLine
nodes_of_agreement =
    record { number = 0; name = codes "q"; hi = State 0; lo = State 1 }
    ∷ record { number = 1; name = codes "q"; hi = State 1; lo = State 0 }
    ∷ record { number = 2; name = codes "p"; hi = Node 1; lo = Node 0 } ∷ []

agreement : AutomatonFile
agreement =
    record {
      names = codes "p" ∷ codes "q" ∷ [];
      states = 2;
      node_lines = nodes_of_agreement;
      state_lines = record { number = 0; accepting = false; row = Node 2 } ∷ record { number = 1; accepting = true; row = Node 2 } ∷ [];
      access_lines = record { number = 0; access = StartAccess (false ∷ true ∷ []) } ∷ record { number = 1; access = StartAccess (false ∷ false ∷ []) } ∷ [];
      suffix_lines = record { number = 0; suffix = EmptySuffix } ∷ [];
      steps = None;
    }

agreement_is_numbered : IsNumbered agreement
unfolding agreement nodes_of_agreement visits_of numbered_nodes
agreement_is_numbered = refl

-- where the other child stands first, the first two get each other's numbers
exchanged_numbers : numbered_nodes (record agreement {
  node_lines = record { number = 0; name = codes "q"; hi = State 1; lo = State 0 }
      ∷ record { number = 1; name = codes "q"; hi = State 0; lo = State 1 }
      ∷ record { number = 2; name = codes "p"; hi = Node 0; lo = Node 1 } ∷ [];
}) ≡ 1 ∷ 0 ∷ 2 ∷ []
unfolding agreement visits_of numbered_nodes
exchanged_numbers = refl

-- ---- no variables, and one state

all : AutomatonFile
all =
    record {
      names = [];
      states = 1;
      node_lines = [];
      state_lines = record { number = 0; accepting = true; row = State 0 } ∷ [];
      access_lines = record { number = 0; access = StartAccess [] } ∷ [];
      suffix_lines = [];
      steps = None;
    }

all_text : spelled all ≡ codes "automaton 1\nvariables -\nstates 1\nstate 0 accept t0\naccess 0 start -\nend\n"
unfolding all spelled lines_of digits
all_text = refl

all_is_good : IsGood all
unfolding all judged_words
all_is_good = refl

-- ---- the word of the start goes on from that of a later state

turned : List AccessLine
turned = record { number = 0; access = AfterAccess 2 (true ∷ []) } ∷ record { number = 1; access = StartAccess (false ∷ []) } ∷ record { number = 2; access = AfterAccess 1 (true ∷ []) } ∷ []

turned_words : access_words_of (record point { access_lines = turned })
    ≡ ((false ∷ []) ∷ (true ∷ []) ∷ (true ∷ []) ∷ []) ∷ ((false ∷ []) ∷ []) ∷ ((false ∷ []) ∷ (true ∷ []) ∷ []) ∷ []
unfolding point turned access_words_of
turned_words = refl

turned_is_good : IsGood (record point { access_lines = turned })
unfolding point turned nodes_of_point states_of_point suffixes_of_point judged_words reserved_words digits
turned_is_good = refl

-- ---- version 2

-- of the three steps of `<p> && pt`: what is in brackets, `pt`, and both together
steps_of_both : List StepLine
steps_of_both =
    record { number = 0; at = 13; states = 3; nodes = 2 }
    ∷ record { number = 1; at = 20; states = 3; nodes = 1 }
    ∷ record { number = 2; at = 13; states = 3; nodes = 1 } ∷ []

second_point : AutomatonFile
second_point = record point { steps = Some (record { count = 3; lines = steps_of_both }) }

second_text : spelled second_point
    ≡ codes "automaton 2\nvariables p\nstates 3\n"
    ++ codes "node n0 p ? t2 : t1\n"
    ++ codes "state 0 reject n0\nstate 1 reject t1\nstate 2 accept t1\n"
    ++ codes "access 0 empty\naccess 1 start 0\naccess 2 start 1\n"
    ++ codes "suffix 0 empty\nsuffix 1 1 0\n"
    ++ codes "steps 3\nstep 0 at 13 states 3 nodes 2\nstep 1 at 20 states 3 nodes 1\nstep 2 at 13 states 3 nodes 1\n"
    ++ codes "end\n"
unfolding point second_point steps_of_both nodes_of_point states_of_point access_of_point suffixes_of_point spelled lines_of digits
second_text = refl

second_is_good : IsGood second_point
unfolding point second_point steps_of_both nodes_of_point states_of_point access_of_point suffixes_of_point judged_words reserved_words digits
second_is_good = refl

-- a file of no steps has a step part all the same
no_steps_text : spelled (second_version all) ≡ codes "automaton 2\nvariables -\nstates 1\nstate 0 accept t0\naccess 0 start -\nsteps 0\nend\n"
unfolding all spelled lines_of digits
no_steps_text = refl

-- ---- broken rules

-- the first step has the number 1: at the number
step_numbered_from_one :
    IsTableFault (record all { steps = Some (record { count = 1; lines = record { number = 1; at = 6; states = 1; nodes = 0 } ∷ [] }) }) 81
unfolding all judged_words digits
step_numbered_from_one = refl

-- a step is missing: at `end`
step_missing : IsTableFault (record all { steps = Some (record { count = 1; lines = [] }) }) 76
unfolding all judged_words digits
step_missing = refl

-- there is one too many: at its first word
step_too_many : IsTableFault (record all { steps = Some (record { count = 0; lines = record { number = 0; at = 6; states = 1; nodes = 0 } ∷ [] }) }) 76
unfolding all judged_words digits
step_too_many = refl

-- a step without states: at their number
step_without_states : IsTableFault (record all { steps = Some (record { count = 1; lines = record { number = 0; at = 6; states = 0; nodes = 0 } ∷ [] }) }) 95
unfolding all judged_words digits
step_without_states = refl

-- access words are missing, before the steps: at `steps`
access_missing_before_steps : IsTableFault (record all { access_lines = []; steps = Some (record { count = 0; lines = [] }) }) 51
unfolding all judged_words digits
access_missing_before_steps = refl

-- equal children: at the second
equal_children : IsTableFault (record point { node_lines = record { number = 0; name = codes "p"; hi = State 2; lo = State 2 } ∷ [] }) 50
unfolding point states_of_point access_of_point suffixes_of_point judged_words reserved_words digits
equal_children = refl

-- a state is missing: at the first word of the access lines
state_missing : IsTableFault (record point { state_lines = record { number = 0; accepting = false; row = Node 0 } ∷ [] }) 71
unfolding point nodes_of_point access_of_point suffixes_of_point judged_words reserved_words digits
state_missing = refl

-- access words are missing, and there is no suffix: at `end`
access_missing : IsTableFault (record all { access_lines = [] }) 51
unfolding all judged_words digits
access_missing = refl

-- a name that stands twice: at the second
names_twice : IsTableFault (record all { names = codes "p" ∷ codes "q" ∷ codes "p" ∷ [] }) 26
unfolding all judged_words reserved_words digits
names_twice = refl
