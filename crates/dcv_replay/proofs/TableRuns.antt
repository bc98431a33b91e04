-- A replay of tables follows them: it keeps their state, and answers as they do.
use Rattle.std.proofs.Common.{◌≡◌, ◌↔◌, ℕ, Bool, true, false, cond, not, nat_eq, IsTrue, List, [], ◌∷◌, length, refl, sym, ap, subst, ◌∙◌, arith}
use Rattle.dcv_word.specs.Behaviour.{Word, IsBehaviour}
use Rattle.dcv_language.specs.Automaton.{state_from}
use Rattle.dcv_c_tables.specs.Unit.{Tables}
use Rattle.dcv_c_tables.specs.Meaning.{TablesState, state_by, stepped, automaton_of_tables, tables_accept}
use Rattle.dcv_c_tables.specs.Rules.{IsTables}
use Rattle.dcv_replay.specs.Program.{Program, Walks, ReplayValue, IsReplay, number_in, accepting, accepts_at, after_letter, after_word, rest_of}
use Rattle.dcv_replay.specs.Observer.{Tables as InTables, Follows}

abbrev pub nameless : Tables → Tables
nameless tables = record { parameters = []; nodes = tables.nodes; states = tables.states }

module _ (tables : Tables) where
  abbrev program : Program
  program = record { width = length tables.parameters; steps = Walks (nameless tables) }

  pub record Agrees (at : TablesState) (store : List ℕ) : Type 0 where
    pub state : number_in store 0 ≡ at.state
    pub answer : accepts_at program.steps store ≡ not (nat_eq at.returned 0)

  returned_is : (accepts : Bool) → accepts ≡ not (nat_eq (cond accepts 1 0) 0)
  returned_is true = refl
  returned_is false = refl

  one_step : (letter : List Bool) (at : TablesState) (store : List ℕ) → number_in store 0 ≡ at.state → Agrees (stepped tables at.state letter) (after_letter program store letter)
  one_step letter at store same = record {
    state = ap (λ n. state_by tables letter n) same;
    answer = ap (λ n. accepting tables (state_by tables letter n)) same ∙ returned_is (accepting tables (state_by tables letter at.state));
  }

  steps : (word : Word) (letter : List Bool) (at : TablesState) (store : List ℕ) → number_in store 0 ≡ at.state
      → Agrees (state_from (automaton_of_tables tables) at (letter ∷ word)) (after_word program store (letter ∷ word))
  steps [] letter at store same = one_step letter at store same
  steps (next ∷ word) letter at store same =
      steps word next (stepped tables at.state letter) (after_letter program store letter) (one_step letter at store same).state

  kept : (word : Word) (at : TablesState) (store : List ℕ) → number_in store 0 ≡ at.state
      → number_in (after_word program store word) 0 ≡ (state_from (automaton_of_tables tables) at word).state
  kept [] at store same = same
  kept (letter ∷ word) at store same = (steps word letter at store same).state

  abbrev pub replay : ReplayValue
  replay = record { program = program; store = 0 ∷ [] }

  -- what holds of the replay holds of one with the same parts
  pub same_parts : (P : ReplayValue → Type 0) (width : ℕ) (store : List ℕ) → width ≡ length tables.parameters → store ≡ 0 ∷ [] → P replay
      → P (record { program = record { width = width; steps = Walks (nameless tables) }; store = store })
  same_parts P width store w s fact = subst P (λ i. record { program = record { width = sym w i; steps = Walks (nameless tables) }; store = sym s i }) fact

  pub follows_tables : Follows (InTables tables) [] replay
  follows_tables = record {
    width = refl;
    store = λ more wide. kept more (automaton_of_tables tables).start (0 ∷ []) refl;
    answers = λ more behaviour. accepted more behaviour;
  } where
    accepted : (more : Word) → IsBehaviour (length tables.parameters) more
        → IsTrue (rest_of replay more) ↔ IsTrue (tables_accept tables more)
    accepted [] behaviour = absurd (omega (arith, behaviour.nonempty))
    accepted (letter ∷ word) behaviour =
        let is = (steps word letter (automaton_of_tables tables).start (0 ∷ []) refl).answer in
        ((λ (yes : IsTrue _). subst IsTrue is yes), (λ (yes : IsTrue _). subst IsTrue (sym is) yes))

  pub is_replay_of_tables : IsTables tables → IsReplay replay
  is_replay_of_tables rules = record {
    width = omega (arith, rules.few_parameters);
    steps = record {
      walk = record { names = tables.parameters; count = refl; rules = rules };
      one = refl;
      state = rules.some_states;
    };
  }
