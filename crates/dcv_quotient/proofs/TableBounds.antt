-- A canonical table has no more states than the machine whose words it accepts, and its rows have no more nodes than the machine's.
--     IsTableWithin k limits table      the table's states and its rows' nodes are within the limits
--     within_of_row                     so it is with the table of a row that is within them
use Rattle.std.proofs.Common.{◌≡◌, ◌≢◌, ◌⊎◌, inl, inr, ℕ, ◌<◌, ◌≤◌, ◌^◌, Bool, true, false, nat_eq, Some, slice_get, if◌then◌else◌, List, [], ◌∷◌, ◌++◌, length, length-append, map, Contains, refl, sym, ap, ◌∙◌, subst, arith}
use Rattle.std.specs.List.{flat_map}
use Rattle.std.proofs.lemmas.Bool.{cases_eq, eqb-true, eq-eqb}
use Rattle.std.proofs.lemmas.List.{same_lists, length-map, get_or-map}
use Rattle.std.proofs.lemmas.List.Elements.{All-nil}
use Rattle.std.proofs.lemmas.Option.{slice_get-get_or, slice_get_within, get_or_from_slice_get}
use Rattle.std.proofs.lemmas.Simd.{map-map}
use Rattle.dcv_word.specs.Behaviour.{Word, IsBehaviour}
use Rattle.dcv_word.specs.Letter.{bits_of, letters_of_width}
use Rattle.dcv_word.proofs.AllLetters.{letters_of_width-once, letters_of_width-place}
use Rattle.dcv_arena.specs.Diagram.{node_count}
use Rattle.dcv_arena.proofs.Members.{Contains-map, Contains-map_cases, Contains-flat_map, Contains-flat_map_cases}
use Rattle.dcv_arena.proofs.Renumbered.{renumbered_no_more, tables_no_more}
use Rattle.dcv_arena.proofs.Tables.{same_table}
use Rattle.dcv_language.specs.Apart.{AreApart}
use Rattle.dcv_language.specs.Automaton.{WorkingMachine, accepts_from, accepts}
use Rattle.dcv_language.specs.Canonical.{access_word, IsCanonical}
use Rattle.dcv_language.specs.Table.{TableState, Table, no_state, row_of, next_in, automaton_of, leads_to}
use Rattle.dcv_language.proofs.Ascending.{Member, Ascends, Member-at, place_of, Ascends-from_pairs}
use Rattle.dcv_language.proofs.Behaviours.{Widths, Widths-rest, Widths-append, one_letter, goes_on}
use Rattle.dcv_language.proofs.Bounds.{leads_to-below}
use Rattle.dcv_language.proofs.Canonicals.{access_least, access_leads, access_apart}
use Rattle.dcv_language.proofs.Runs.{state_from-append, accepts_on}
use Rattle.dcv_explore.specs.declared.explorer.Limits.{Limits}
use Rattle.dcv_explore.specs.Budget.{Row, IsWithin}
use Rattle.dcv_explore.specs.Reached.{row_table, row_nodes}
use Rattle.dcv_quotient.proofs.Reaching.{AllFound, without, one_fewer, others_stay}
use Rattle.dcv_quotient.proofs.WordClasses.{st, st_more, reached_by, apart_not_alike}
use Rattle.dcv_quotient.proofs.SomeAutomata.{rows_of}
use Rattle.dcv_quotient.proofs.SomeDiagrams.{as_table-reading}
use Rattle.dcv_quotient.proofs.RowLimits.{contains_member, member_contained, all_found}

-- ---- lists whose members are all among others

module _ {X : Type 0} where
  distinct_no_more : (xs ys : List X) → Ascends (λ first second. first ≢ second) xs → ((x : X) → Member x xs → Member x ys) → length xs ≤ length ys
  distinct_no_more [] ys once among = omega arith
  distinct_no_more (x ∷ xs) ys once among =
      let there = among x (inl refl) in
      let sizes = one_fewer x ys there in
      let rest = distinct_no_more xs (without x ys there) once.1 (λ other later.
      others_stay x ys there other (among other (inr later)) (λ same. once.0 other later (sym same))) in
      omega arith

module _ {X Y : Type 0} (f : X → Y) where
  Member-map_cases : (xs : List X) (y : Y) → Member y (map f xs) → (x : X) × (Member x xs × (y ≡ f x))
  Member-map_cases [] y there = absurd there
  Member-map_cases (x ∷ xs) y (inl same) = (x, (inl refl, same))
  Member-map_cases (x ∷ xs) y (inr later) = let found = Member-map_cases xs y later in (found.0, (inr found.1.0, found.1.1))

  distinct_images : (R : X → X → Type 0) → ((x y : X) → R x y → f x ≢ f y) → (xs : List X) → Ascends R xs → Ascends (λ first second. first ≢ second) (map f xs)
  distinct_images R differ [] order = tt
  distinct_images R differ (x ∷ xs) order = (
    (λ y later same. let found = Member-map_cases xs y later in differ x found.0 (order.0 found.0 found.1.0) (same ∙ found.1.1)),
    distinct_images R differ xs order.1,
  )

module _ {S : Type 0} (machine : WorkingMachine S) (table : Table) (access : List Word) (canonical : IsCanonical machine.slots (accepts machine.automaton) table access) where
  abbrev k : ℕ
  k = machine.slots

  -- ---- where words lead in the table

  leads_home : (state : ℕ) → state < length table → leads_to table (access_word access state) ≡ state
  leads_home state within = access_leads k (accepts machine.automaton) table access canonical state within

  leads_more : (word : Word) (letter : List Bool) → leads_to table (word ++ letter ∷ []) ≡ next_in table (leads_to table word) letter
  leads_more word letter = state_from-append (automaton_of table) 0 word (letter ∷ [])

  leads_below : (word : Word) → leads_to table word < length table
  leads_below word = leads_to-below k table canonical.states word

  -- whether the access word of its state goes on into the set is told by the machine's state
  told_by : (word suffix : Word) → IsBehaviour k word → IsBehaviour k (access_word access (leads_to table word) ++ suffix)
      → accepts machine.automaton (access_word access (leads_to table word) ++ suffix) ≡ accepts_from machine.automaton (st machine word) suffix
  told_by word suffix behaves goes =
      let least = access_word access (leads_to table word) in
      let further = goes_on k word suffix behaves (Widths-rest k least suffix goes.widths) in
      sym (canonical.exact (least ++ suffix) goes)
      ∙ accepts_on (automaton_of table) least suffix goes.nonempty
      ∙ ap (λ state. accepts_from (automaton_of table) state suffix) (leads_home (leads_to table word) (leads_below word))
      ∙ sym (accepts_on (automaton_of table) word suffix further.nonempty)
      ∙ canonical.exact (word ++ suffix) further
      ∙ accepts_on machine.automaton word suffix further.nonempty

  -- behaviours that lead to one state of the machine lead to one state of the table
  leads_alike : (u v : Word) → IsBehaviour k u → IsBehaviour k v → st machine u ≡ st machine v → leads_to table u ≡ leads_to table v
  leads_alike u v one other same = elim (cases_eq (leads_to table u) (leads_to table v)) [
    | inl is ↦ is
    | inr differ ↦
        let apart = access_apart k (accepts machine.automaton) table access canonical (leads_to table u) (leads_to table v) (leads_below u) (leads_below v) differ in
        absurd (apart.tells.differ (told_by u apart.suffix one apart.tells.first_goes_on
        ∙ ap (λ (state : S). accepts_from machine.automaton state apart.suffix) same
        ∙ sym (told_by v apart.suffix other apart.tells.second_goes_on)))
  ]

  -- ---- rows

  row_size : (state : ℕ) → state < length table → length (row_of table state) ≡ 2 ^ k
  row_size state within = canonical.states.rows state no_state within

  row_is : (state : ℕ) → state < length table → row_of table state ≡ map (λ letter. leads_to table (access_word access state ++ letter ∷ [])) (letters_of_width k)
  row_is state within =
      sym (as_table-reading k (row_of table state) (row_size state within))
      ∙ same_table k (next_in table state) (λ letter. leads_to table (access_word access state ++ letter ∷ []))
      (λ letter width. sym (leads_more (access_word access state) letter ∙ ap (λ from. next_in table from letter) (leads_home state within)))

  -- ---- the access words

  empty_or_some : (word : Word) → (word ≡ []) ⊎ (word ≢ [])
  empty_or_some [] = inl refl
  empty_or_some (letter ∷ word) = inr (λ none. absurd (let wrong : (letter ∷ word) ≡ [] = none in cc))

  access_widths : (state : ℕ) → state < length table → Widths k (access_word access state)
  access_widths state within = elim (empty_or_some (access_word access state)) [
    | inl none ↦ subst (λ (word : Word). Widths k word) (sym none) (All-nil (λ (letter : List Bool). length letter ≡ k))
    | inr some ↦ (access_least k (accepts machine.automaton) table access canonical state within some).behaviour.widths
  ]

  widths_of_member : (word : Word) → Member word access → Widths k word
  widths_of_member word there =
      let (state, within, is) = place_of access word there in
      let words = canonical.words in
      subst (λ (w : Word). Widths k w) (sym (is [])) (access_widths state (omega arith))

  goes_one_on : (word : Word) (letter : List Bool) → Widths k word → length letter ≡ k → IsBehaviour k (word ++ letter ∷ [])
  goes_one_on word letter widths width = record {
    nonempty = omega (arith, length-append word (letter ∷ []));
    widths = Widths-append k word (letter ∷ []) widths (one_letter k letter width);
  }

  words_apart : (u v : Word) → AreApart k (accepts machine.automaton) u v → st machine u ≢ st machine v
  words_apart u v apart same = apart_not_alike machine u v apart (λ word widths. ap (λ (state : S). accepts_from machine.automaton state word) same)

  abbrev states_of_words : List S
  states_of_words = map (st machine) access

  module _ (list : List S) (all : AllFound machine list) where
    reached_in : (state : S) → Member state states_of_words → Member state list
    reached_in state there =
        let (word, (among, is)) = Member-map_cases (st machine) access state there in
        subst (λ (s : S). Member s list) (sym is) (all.all (st machine word) (reached_by machine word (widths_of_member word among)))

    no_more_states : length table ≤ length list
    no_more_states =
        let few = distinct_no_more states_of_words list
        (distinct_images (st machine) (AreApart k (accepts machine.automaton)) words_apart access
        (Ascends-from_pairs (AreApart k (accepts machine.automaton)) access canonical.apart)) reached_in in
        let words = canonical.words in
        let images = length-map access (st machine) in
        omega arith

    -- ---- the rows' nodes

    module _ (number : S → ℕ) (apart : (first second : S) → number first ≡ number second → first ≡ second) where
      words_on : List Word
      words_on = flat_map (λ word. map (λ letter. word ++ letter ∷ []) (letters_of_width k)) access

      -- where the first of these words leads that has this number
      lookup : List Word → ℕ → ℕ
      lookup [] n = 0
      lookup (word ∷ words) n = if nat_eq (number (st machine word)) n then leads_to table word else lookup words n

      lookup_is : (words : List Word) → ((word : Word) → Member word words → IsBehaviour k word) → (word : Word) → Member word words
          → lookup words (number (st machine word)) ≡ leads_to table word
      unfolding lookup
      lookup_is [] behave word there = absurd there
      lookup_is (first ∷ words) behave word there =
          by (nat_eq (number (st machine first)) (number (st machine word))) refl there (lookup_is words (λ other later. behave other (inr later)) word)
        where
          by : (test : Bool) → nat_eq (number (st machine first)) (number (st machine word)) ≡ test → Member word (first ∷ words)
              → (Member word words → lookup words (number (st machine word)) ≡ leads_to table word)
              → (if nat_eq (number (st machine first)) (number (st machine word)) then leads_to table first else lookup words (number (st machine word))) ≡ leads_to table word
          by true is here rest =
              let same = apart (st machine first) (st machine word) (eqb-true (number (st machine first)) (number (st machine word)) is) in
              rw is (leads_alike first word (behave first (inl refl)) (behave word here) same)
          by false is (inl same) rest =
              absurd (let wrong : true ≡ false = sym (eq-eqb (number (st machine first)) (number (st machine word)) (ap (λ (w : Word). number (st machine w)) (sym same))) ∙ is in cc)
          by false is (inr later) rest = rw is (rest later)

      abbrev number_after : ℕ → ℕ
      number_after = lookup words_on

      letter_there : (letter : List Bool) → length letter ≡ k → Contains (letters_of_width k) letter
      letter_there letter width =
          let at : slice_get (letters_of_width k) (bits_of letter) ≡ Some letter =
          ap (λ n. slice_get (letters_of_width n) (bits_of letter)) (sym width) ∙ letters_of_width-place letter in
          (bits_of letter, slice_get_within (letters_of_width k) (bits_of letter) letter at, get_or_from_slice_get (letters_of_width k) (bits_of letter) letter letter at)

      goes_on_among : (word : Word) → Member word access → (letter : List Bool) → length letter ≡ k → Member (word ++ letter ∷ []) words_on
      unfolding words_on
      goes_on_among word there letter width =
          member_contained words_on (word ++ letter ∷ [])
          (Contains-flat_map (λ (w : Word). map (λ (l : List Bool). w ++ l ∷ []) (letters_of_width k)) access word (word ++ letter ∷ []) (contains_member access word there)
          (Contains-map (λ (l : List Bool). word ++ l ∷ []) (letters_of_width k) letter (letter_there letter width)))

      on_is_behaviour : (word : Word) → Member word words_on → IsBehaviour k word
      unfolding words_on
      on_is_behaviour word there =
          let (front, among, goes) =
          Contains-flat_map_cases (λ (w : Word). map (λ (l : List Bool). w ++ l ∷ []) (letters_of_width k)) access word (contains_member words_on word there) in
          let (letter, has, is) = Contains-map_cases (λ (l : List Bool). front ++ l ∷ []) (letters_of_width k) word goes in
          subst (λ (w : Word). IsBehaviour k w) is (goes_one_on front letter (widths_of_member front (member_contained access front among)) (width_of letter has))
        where
          width_of : (letter : List Bool) → Contains (letters_of_width k) letter → length letter ≡ k
          width_of letter (place, within, is) =
              (letters_of_width-once k place letter (slice_get-get_or (letters_of_width k) place letter within ∙ ap (λ (l : List Bool). Some l) is)).0

      after_is : (word : Word) → Member word access → (letter : List Bool) → length letter ≡ k
          → leads_to table (word ++ letter ∷ []) ≡ number_after (number (machine.next (st machine word) letter))
      after_is word there letter width =
          sym (lookup_is words_on on_is_behaviour (word ++ letter ∷ []) (goes_on_among word there letter width))
          ∙ ap (λ (state : S). number_after (number state)) (st_more machine word letter)

      row_renumbered : (word : Word) → Member word access
          → map (λ letter. leads_to table (word ++ letter ∷ [])) (letters_of_width k) ≡ map number_after (row_table machine number (st machine word))
      row_renumbered word there =
          same_table k (λ letter. leads_to table (word ++ letter ∷ [])) (λ letter. number_after (number (machine.next (st machine word) letter))) (after_is word there)
          ∙ sym (map-map number_after (λ letter. number (machine.next (st machine word) letter)) (letters_of_width k))

      abbrev own_rows : List (List ℕ)
      own_rows = map (row_table machine number) states_of_words

      abbrev row_of_word : Word → List ℕ
      row_of_word word = map number_after (row_table machine number (st machine word))

      row_at_state : (state : ℕ) → state < length table → row_of table state ≡ row_of_word (access_word access state)
      row_at_state state within =
          let words = canonical.words in
          row_is state within ∙ row_renumbered (access_word access state) (Member-at access state [] (omega arith))

      rows_of_words : rows_of table ≡ map row_of_word access
      rows_of_words =
          let words = canonical.words in
          let row : TableState → List ℕ = λ (state : TableState). state.row in
          let size = length-map table row in
          same_lists (map row table) (map row_of_word access) (size ∙ sym words ∙ sym (length-map access row_of_word))
          (λ state default within.
          let there : state < length table = omega arith in
          let word_there : state < length access = omega arith in
          get_or-map row table state no_state default there ∙ row_at_state state there ∙ sym (get_or-map row_of_word access state [] default word_there))

      rows_are : rows_of table ≡ map (map number_after) own_rows
      rows_are =
          rows_of_words
          ∙ sym (map-map (λ (state : S). map number_after (row_table machine number state)) (st machine) access)
          ∙ sym (map-map (map number_after) (row_table machine number) states_of_words)

      among_rows : (row : List ℕ) → Contains own_rows row → Contains (map (row_table machine number) list) row
      among_rows row there =
          let (state, has, is) = Contains-map_cases (row_table machine number) states_of_words row there in
          subst (λ (r : List ℕ). Contains (map (row_table machine number) list) r) is
          (Contains-map (row_table machine number) list state (contains_member list state (reached_in state (member_contained states_of_words state has))))

      no_more_nodes : node_count k (rows_of table) ≤ row_nodes machine number list
      no_more_nodes =
          let same = ap (node_count k) rows_are in
          let renumbered = renumbered_no_more number_after k own_rows in
          let among = tables_no_more k own_rows (map (row_table machine number) list) among_rows in
          omega arith

-- ---- limits

pub record IsTableWithin (k : ℕ) (limits : Limits) (table : Table) : Type 0 where
  pub states : length table ≤ limits.states
  pub nodes : node_count k (rows_of table) ≤ limits.nodes

pub within_of_row : (row : Row) (limits : Limits) → IsWithin row limits → (table : Table) (access : List Word)
    → IsCanonical row.machine.slots (accepts row.machine.automaton) table access → IsTableWithin row.machine.slots limits table
within_of_row row limits within table access canonical =
    let all = all_found row.machine within.counts.list within.counts.all in
    let states = no_more_states row.machine table access canonical within.counts.list all in
    let nodes = no_more_nodes row.machine table access canonical within.counts.list all row.number row.apart in
    let count = within.counts.nodes_are row.number (λ first second here there same. row.apart first second same) in
    let size = within.counts.states_are in
    record {
      states = let most = within.states_within in omega arith;
      nodes = let most = within.nodes_within in omega arith;
    }
