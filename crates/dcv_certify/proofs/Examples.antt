-- Worked examples: what is said of small texts, by computing. The first is that of the words of one letter, in which the variable is true.
use Rattle.std.proofs.Common.{◌≡◌, Bool, true, false, List, [], ◌∷◌, None, refl}
use Rattle.std.specs.Prelude.{codes}
use Rattle.dcv_language.specs.declared.child.Child.TheVariants.{State, Node}
use Rattle.dcv_automaton_text.specs.File.{Access as AccessWord, EmptyAccess, StartAccess, EmptySuffix, ThenSuffix, SuffixLine, AutomatonFile}
use Rattle.dcv_automaton_text.specs.Meaning.{states_at, table_of, access_words_of}
use Rattle.dcv_certify.specs.Certified.{set_of, landed}

abbrev O : List Bool
O = false ∷ []

abbrev I : List Bool
I = true ∷ []

-- with these access words for states 0, 1, 2, and these suffixes
text_of : AccessWord → AccessWord → List SuffixLine → AutomatonFile
text_of start first suffixes =
    record {
      names = codes "p" ∷ [];
      states = 3;
      node_lines = record { number = 0; name = codes "p"; hi = State 2; lo = State 1 } ∷ [];
      state_lines =
          record { number = 0; accepting = false; row = Node 0 }
          ∷ record { number = 1; accepting = false; row = State 1 }
          ∷ record { number = 2; accepting = true; row = State 1 } ∷ [];
      access_lines =
          record { number = 0; access = start }
          ∷ record { number = 1; access = first }
          ∷ record { number = 2; access = StartAccess I } ∷ [];
      suffix_lines = suffixes;
      steps = None;
    }

empty_then_1 : List SuffixLine
empty_then_1 = record { number = 0; suffix = EmptySuffix } ∷ record { number = 1; suffix = ThenSuffix I 0 } ∷ []

empty_alone : List SuffixLine
empty_alone = record { number = 0; suffix = EmptySuffix } ∷ []

point : AutomatonFile
point = text_of EmptyAccess (StartAccess O) empty_then_1

landed_in_point : (landed point 0 ≡ 0) × (landed point 1 ≡ 1) × (landed point 2 ≡ 2)
unfolding point text_of table_of states_at access_words_of
landed_in_point = (refl, refl, refl)

-- `1` and `0 1`, `1 1`: the suffix `1` tells the empty word from both, the empty one `0` from `1`
accepted_in_point : (set_of point (I ∷ []) ≡ true) × (set_of point (O ∷ I ∷ []) ≡ false) × (set_of point (I ∷ I ∷ []) ≡ false) × (set_of point (O ∷ []) ≡ false)
unfolding point text_of table_of states_at
accepted_in_point = (refl, refl, refl, refl)

-- where the access word of state 1 is `1`, it leads to state 2
astray_in_other : landed (text_of EmptyAccess (StartAccess I) empty_then_1) 1 ≡ 2
unfolding text_of table_of states_at access_words_of
astray_in_other = refl
