-- The row of a step is within limits, or there is too much of something; and what it accepts has a canonical table where it is within.
--     within_or_exceeds row limits     one of the two is so
--     table_of_row row limits          where it is within there is the table
use Rattle.std.proofs.Common.{◌≡◌, ◌≢◌, ◌⊎◌, inl, inr, ℕ, ◌+◌, ◌≤◌, Bool, true, false, nat_eq, if◌then◌else◌, List, [], ◌∷◌, length, map, get_or, Contains, refl, sym, ap, ◌∙◌, subst, arith}
use Rattle.std.proofs.lemmas.Bool.{cases_eq, cases_lt, eqb-true, eq-eqb}
use Rattle.std.proofs.lemmas.Simd.{map-map}
use Rattle.dcv_word.specs.Behaviour.{Word}
use Rattle.dcv_word.specs.Letter.{letters_of_width}
use Rattle.dcv_arena.specs.Diagram.{node_count}
use Rattle.dcv_arena.proofs.Renumbered.{renumbered_no_more}
use Rattle.dcv_arena.proofs.Tables.{same_table}
use Rattle.dcv_language.specs.Automaton.{WorkingMachine, IsReached, accepts}
use Rattle.dcv_language.specs.Canonical.{IsCanonical}
use Rattle.dcv_language.specs.Table.{Table}
use Rattle.dcv_language.proofs.Ascending.{Member, Member-at, place_of, pairs_from_Ascends, Ascends-from_pairs}
use Rattle.dcv_language.proofs.Runs.{next_is_reached}
use Rattle.dcv_language.proofs.Words.{WordLaws}
use Rattle.dcv_explore.specs.declared.explorer.Limits.{Limits}
use Rattle.dcv_explore.specs.Budget.{FitsIn, Kind, TooManyStates, TooManyNodes, Passes, Row, IsWithin, Exceeds}
use Rattle.dcv_explore.specs.Reached.{AreReached, HasAllReached, IsNumbering, row_table, row_nodes}
use Rattle.dcv_quotient.proofs.Reaching.{AreFound, AllFound, FewFound, found_or_more}
use Rattle.dcv_quotient.proofs.SomeTables.{some_canonical}

-- ---- lists of states, as the clauses say them

module _ {X : Type 0} where
  pub contains_member : (xs : List X) (x : X) → Member x xs → Contains xs x
  contains_member xs x there = let (place, within, is) = place_of xs x there in (place, within, sym (is x))

  pub member_contained : (xs : List X) (x : X) → Contains xs x → Member x xs
  member_contained xs x there = subst (λ (y : X). Member y xs) there.2 (Member-at xs there.0 x there.1)

module _ {S : Type 0} (machine : WorkingMachine S) where
  pub are_reached : (list : List S) → AreFound machine list → AreReached machine list
  are_reached list found = record {
    reached = λ place default within. found.reached (get_or list place default) (Member-at list place default within);
    once = pairs_from_Ascends (λ first second. first ≢ second) list found.once;
  }

  pub has_all : (list : List S) → AllFound machine list → HasAllReached machine list
  has_all list all = record { are_reached = are_reached list all.found; all = λ state reached. contains_member list state (all.all state reached) }

  pub all_found : (list : List S) → HasAllReached machine list → AllFound machine list
  all_found list all = record {
    found = record {
      reached = λ state there. let (place, within, is) = place_of list state there in subst (IsReached machine) (sym (is state)) (all.are_reached.reached place state within);
      once = Ascends-from_pairs (λ first second. first ≢ second) list all.are_reached.once;
    };
    all = λ state reached. member_contained list state (all.all state reached);
  }

  -- ---- numbers of states

  -- the other number of the state of the list with this one
  renumber : (from to : S → ℕ) → List S → ℕ → ℕ
  renumber from to [] n = 0
  renumber from to (state ∷ list) n = if nat_eq (from state) n then to state else renumber from to list n

  renumber_is : (from to : S → ℕ) (list : List S) → ((state other : S) → Member state list → Member other list → from state ≡ from other → state ≡ other) → (state : S) → Member state list
      → renumber from to list (from state) ≡ to state
  unfolding renumber
  renumber_is from to [] apart state there = absurd there
  renumber_is from to (first ∷ list) apart state there =
      by (nat_eq (from first) (from state)) refl there (renumber_is from to list (λ one other one_there other_there. apart one other (inr one_there) (inr other_there)) state)
    where
      by : (test : Bool) → nat_eq (from first) (from state) ≡ test → Member state (first ∷ list) → (Member state list → renumber from to list (from state) ≡ to state)
          → (if nat_eq (from first) (from state) then to first else renumber from to list (from state)) ≡ to state
      by true is there rest = rw is (ap to (apart first state (inl refl) there (eqb-true (from first) (from state) is)))
      by false is (inl same) rest = absurd (let wrong : true ≡ false = sym (eq-eqb (from first) (from state) (ap from (sym same))) ∙ is in cc)
      by false is (inr later) rest = rw is (rest later)

  module _ (list : List S) (all : AllFound machine list) (from to : S → ℕ) (numbering : IsNumbering machine from) where
    abbrev other_number : ℕ → ℕ
    other_number = renumber from to list

    is_other : (state : S) → IsReached machine state → other_number (from state) ≡ to state
    is_other state reached =
        renumber_is from to list (λ one another there other_there same. numbering one another (all.found.reached one there) (all.found.reached another other_there) same) state (all.all state reached)

    row_renumbered : (state : S) → IsReached machine state → row_table machine to state ≡ map other_number (row_table machine from state)
    row_renumbered state reached =
        same_table machine.slots (λ letter. to (machine.next state letter)) (λ letter. other_number (from (machine.next state letter)))
        (λ letter width. sym (is_other (machine.next state letter) (next_is_reached machine state letter width reached)))
        ∙ sym (map-map other_number (λ letter. from (machine.next state letter)) (letters_of_width machine.slots))

    rows_renumbered : (states : List S) → ((state : S) → Member state states → IsReached machine state) → map (row_table machine to) states ≡ map (map other_number) (map (row_table machine from) states)
    rows_renumbered [] reached = refl
    rows_renumbered (state ∷ states) reached =
        let first = row_renumbered state (reached state (inl refl)) in
        let rest = rows_renumbered states (λ other later. reached other (inr later)) in
        λ i. first i ∷ rest i

    no_more_nodes : row_nodes machine to list ≤ row_nodes machine from list
    no_more_nodes =
        let rows = map (row_table machine from) list in
        let same : row_nodes machine to list ≡ node_count machine.slots (map (map other_number) rows) = ap (node_count machine.slots) (rows_renumbered list all.found.reached) in
        omega (arith, same, renumbered_no_more other_number machine.slots rows)

  -- whatever the numbers are, there are as many nodes
  same_nodes : (list : List S) → AllFound machine list → (one other : S → ℕ) → IsNumbering machine one → IsNumbering machine other → row_nodes machine one list ≡ row_nodes machine other list
  same_nodes list all one other is are =
      let few = no_more_nodes list all other one are in
      let many = no_more_nodes list all one other is in
      omega arith

  module _ (number : S → ℕ) (apart : (first second : S) → number first ≡ number second → first ≡ second) where
    pub same_or_not : (a b : S) → (a ≡ b) ⊎ (a ≡ b → ⊥)
    same_or_not a b = elim (cases_eq (number a) (number b)) [ inl same ↦ inl (apart a b same) | inr other ↦ inr (λ same. other (ap number same)) ]

    is_numbering : IsNumbering machine number
    is_numbering = λ first second here there same. apart first second same

    by_nodes : (parts : ℕ) (limits : Limits) → FewFound machine same_or_not limits.states → FitsIn machine parts limits ⊎ ((kind : Kind) × Passes kind machine parts limits)
    by_nodes parts limits few = elim (cases_lt limits.nodes (parts + row_nodes machine number few.list)) [
      | inl more ↦ inr (
        TooManyNodes,
        record {
          list = few.list;
          are_reached = are_reached few.list few.all.found;
          more = λ other is. let same = same_nodes few.list few.all number other is_numbering is in omega arith;
        },
      )
      | inr within ↦ inl (record {
        states = length few.list;
        nodes = row_nodes machine number few.list;
        counts = record {
          list = few.list;
          all = has_all few.list few.all;
          states_are = refl;
          nodes_are = λ other is. same_nodes few.list few.all other number is is_numbering;
        };
        states_within = few.few;
        nodes_within = within;
      })
    ]

    pub fits_or_passes : (parts : ℕ) (limits : Limits) → FitsIn machine parts limits ⊎ ((kind : Kind) × Passes kind machine parts limits)
    fits_or_passes parts limits = elim (found_or_more machine same_or_not limits.states) [
      | inl few ↦ by_nodes parts limits few
      | inr more ↦ inr (TooManyStates, record { list = more.list; are_reached = are_reached more.list more.found; more = more.more })
    ]

    pub table_where_fits : WordLaws → (parts : ℕ) (limits : Limits) → FitsIn machine parts limits → (table : Table) × ((access : List Word) × IsCanonical machine.slots (accepts machine.automaton) table access)
    table_where_fits laws parts limits fits = some_canonical machine laws same_or_not fits.counts.list (all_found fits.counts.list fits.counts.all)

pub within_or_exceeds : (row : Row) (limits : Limits) → IsWithin row limits ⊎ ((kind : Kind) × Exceeds kind row limits)
within_or_exceeds row limits = fits_or_passes row.machine row.number row.apart row.parts limits

pub table_of_row : WordLaws → (row : Row) (limits : Limits) → IsWithin row limits → (table : Table) × ((access : List Word) × IsCanonical row.machine.slots (accepts row.machine.automaton) table access)
table_of_row laws row limits within = table_where_fits row.machine row.number row.apart laws row.parts limits within
