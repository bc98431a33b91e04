-- What a text says of a set: no two texts say the same, but for the suffixes of an automaton and what the steps took, and it is said of each
-- set with the same behaviours.
use Rattle.dcv_cli.proofs.Common.{◌≡◌, ◌⊎◌, ℕ, List, [], ◌++◌, Some, inl, inr, refl, sym, ap, ◌∙◌, codes, append_assoc, IsTrue}
use Rattle.dcv_cli.proofs.Common.{append-nil, Language, HaveSameBehaviours, Verdict, verdict_text, AutomatonFile}
use Rattle.dcv_cli.proofs.Common.{Count, step_part_of, OneAutomaton, AutomatonOfSameBehaviours, NodeOfSameBehaviours}
use Rattle.dcv_cli.proofs.Common.{UnitOfSameBehaviours, TablesOfSameBehaviours, OneNode, OneUnit, OneTables, all_text, Kind, Check, Automaton, Lustre, C, Tables, All, SaysAutomaton, Says}
use Rattle.dcv_cli.proofs.Common.{SaysAll}
use Rattle.dcv_automaton_text.specs.Spelled.{spelled}
use Rattle.dcv_print.specs.Automaton.{IsAutomatonOf, AreSameUpToAccess, AreSameButForSuffixes, AreSpelledBy, DifferInSuffixes, AgreeUpToAccess}
use Rattle.dcv_cli.specs.Outcome.{has_automaton}

-- ---- all in one

-- what stands before the automaton, and after it
abbrev before_automaton : List ℕ → List ℕ
before_automaton verdict = codes "--- verdict\n" ++ (verdict ++ codes "--- automaton\n")

abbrev behind_automaton : List ℕ → List ℕ → List ℕ
behind_automaton node unit = codes "--- lustre\n" ++ (node ++ (codes "--- c\n" ++ unit))

around_automaton : (verdict automaton node unit : List ℕ) → all_text verdict automaton node unit ≡ before_automaton verdict ++ (automaton ++ behind_automaton node unit)
around_automaton verdict automaton node unit =
    ap (λ text. codes "--- verdict\n" ++ text) (sym (append_assoc verdict (codes "--- automaton\n") (automaton ++ behind_automaton node unit)))

-- ---- one text

module _ (one_automaton : OneAutomaton) (one_node : OneNode) (one_unit : OneUnit) (one_tables : OneTables) (k : ℕ) (L : Language) (names : List (List ℕ)) where
  -- where the files of two automata are alike, whose steps took so much
  module _ (counts others : List Count) (Alike : AutomatonFile → AutomatonFile → Type 0)
      (alike : (f g : AutomatonFile) → IsAutomatonOf k L names f → IsAutomatonOf k L names g → f.steps ≡ Some (step_part_of counts)
      → g.steps ≡ Some (step_part_of others) → Alike f g) where
    in_all : (v u : Verdict) (one other : List ℕ) → v ≡ u → SaysAll k L names counts v one → SaysAll k L names others u other → AreSpelledBy Alike one other
    in_all v u one other same says says' =
        let first = says.says_automaton in
        let second = says'.says_automaton in
        let around = around_automaton (verdict_text v) says.automaton says.node says.unit in
        let its_around = around_automaton (verdict_text u) says'.automaton says'.node says'.unit in
        let verdicts = ap before_automaton (ap verdict_text (sym same)) in
        let behind : behind_automaton says'.node says'.unit ≡ behind_automaton says.node says.unit =
        λ i. behind_automaton (one_node k L names says'.node says.node says'.says_node says.says_node i) (one_unit k L names says'.unit says.unit says'.says_unit says.says_unit i) in
        record {
          before = before_automaton (verdict_text v);
          behind = behind_automaton says.node says.unit;
          one_file = first.automaton;
          other_file = second.automaton;
          one_is = says.says ∙ around ∙ ap (λ text. before_automaton (verdict_text v) ++ (text ++ behind_automaton says.node says.unit)) first.says;
          other_is = says'.says ∙ its_around ∙ (λ i. verdicts i ++ (second.says i ++ behind i));
          same = alike first.automaton second.automaton first.is second.is first.steps second.steps;
        }

    alone : (one other : List ℕ) → SaysAutomaton k L names counts one → SaysAutomaton k L names others other → AreSpelledBy Alike one other
    alone one other says says' = record {
      before = [];
      behind = [];
      one_file = says.automaton;
      other_file = says'.automaton;
      one_is = says.says ∙ sym (append-nil (spelled says.automaton));
      other_is = says'.says ∙ sym (append-nil (spelled says'.automaton));
      same = alike says.automaton says'.automaton says.is says'.is says.steps says'.steps;
    }

    texts_alike : (v u : Verdict) (one other : List ℕ) (kind : Kind) → v ≡ u → Says kind k L names counts v one → Says kind k L names others u other
        → (one ≡ other) ⊎ (IsTrue (has_automaton kind) × AreSpelledBy Alike one other)
    texts_alike v u one other Check same says says' = inl (says ∙ ap verdict_text same ∙ sym says')
    texts_alike v u one other Automaton same says says' = inr (refl, alone one other says says')
    texts_alike v u one other Lustre same says says' = inl (one_node k L names one other says says')
    texts_alike v u one other C same says says' = inl (one_unit k L names one other says says')
    texts_alike v u one other Tables same says says' = inl (one_tables k L names one other says says')
    texts_alike v u one other All same says says' = inr (refl, in_all v u one other same says says')

  -- with the same counts
  pub one_text : (v u : Verdict) (counts others : List Count) (one other : List ℕ) (kind : Kind) → v ≡ u → counts ≡ others → Says kind k L names counts v one
      → Says kind k L names others u other → (one ≡ other) ⊎ (IsTrue (has_automaton kind) × DifferInSuffixes one other)
  one_text v u counts others one other kind same alike says says' =
      texts_alike counts others AreSameButForSuffixes
      (λ f g is is' steps steps'. record { up_to_access = one_automaton k L names f g is is'; steps = steps ∙ ap (λ counts. Some (step_part_of counts)) alike ∙ sym steps' })
      v u one other kind same says says'

  -- with any
  pub one_meaning : (v u : Verdict) (counts others : List Count) (one other : List ℕ) (kind : Kind) → v ≡ u → Says kind k L names counts v one
      → Says kind k L names others u other → (one ≡ other) ⊎ (IsTrue (has_automaton kind) × AgreeUpToAccess one other)
  one_meaning v u counts others one other kind same says says' =
      texts_alike counts others AreSameUpToAccess (λ f g is is' steps steps'. one_automaton k L names f g is is')
      v u one other kind same says says'

-- ---- sets with the same behaviours

module _ (move : AutomatonOfSameBehaviours) (move_node : NodeOfSameBehaviours) (move_unit : UnitOfSameBehaviours) (move_tables : TablesOfSameBehaviours)
    (k : ℕ) (L M : Language) (names : List (List ℕ)) (counts : List Count) (same : HaveSameBehaviours k L M) where
  automaton_of_same : (text : List ℕ) → SaysAutomaton k L names counts text → SaysAutomaton k M names counts text
  automaton_of_same text says = record { automaton = says.automaton; is = move k L M names says.automaton same says.is; steps = says.steps; says = says.says }

  pub says_of_same : (v : Verdict) (text : List ℕ) (kind : Kind) → Says kind k L names counts v text → Says kind k M names counts v text
  says_of_same v text Check says = says
  says_of_same v text Automaton says = automaton_of_same text says
  says_of_same v text Lustre says = move_node k L M names text same says
  says_of_same v text C says = move_unit k L M names text same says
  says_of_same v text Tables says = move_tables k L M names text same says
  says_of_same v text All says = record {
    automaton = says.automaton;
    node = says.node;
    unit = says.unit;
    says_automaton = automaton_of_same says.automaton says.says_automaton;
    says_node = move_node k L M names says.node same says.says_node;
    says_unit = move_unit k L M names says.unit same says.says_unit;
    says = says.says;
  }
