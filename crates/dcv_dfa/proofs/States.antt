-- The table of a raw automaton has its flags and steps, so a word leads to one state in both.
use Rattle.std.proofs.Common.{◌≡◌, ℕ, ◌^◌, ◌<◌, Bool, List, [], ◌∷◌, length, get_or, All, refl, ap, sym, ◌∙◌, subst, arith}
use Rattle.std.proofs.lemmas.List.{length-map}
use Rattle.std.proofs.lemmas.List.Elements.{All-map, All-weaker}
use Rattle.std.proofs.lemmas.List.FromFn.{length-map-range_with_len, get_or-map-range_with_len}
use Rattle.std.proofs.lemmas.Option.{get_or_from_slice_get, slice_get-get_or}
use Rattle.dcv_word.specs.Behaviour.{Word}
use Rattle.dcv_word.specs.Letter.{bits_of, letters_of_width}
use Rattle.dcv_word.proofs.AllLetters.{length-letters_of_width, letters_of_width-once}
use Rattle.dcv_arena.specs.Arena.{value_of, table_of}
use Rattle.dcv_arena.specs.declared.nodes.Ref.TheVariants.{Leaf}
use Rattle.dcv_arena.proofs.Tables.{table_of-at}
use Rattle.dcv_language.specs.Automaton.{state_from}
use Rattle.dcv_language.specs.Table.{TableState, no_state, automaton_of as table_automaton}
use Rattle.dcv_language.proofs.Behaviours.{Widths, Widths-head, Widths-tail}
use Rattle.dcv_language.proofs.Runs.{accepts_by_state}
use Rattle.dcv_dfa.specs.Raw.{RawValue, IsRaw, LeadsBelow, row_of, next_in, automaton_of}
use Rattle.dcv_dfa.specs.Auto.{state_of, table_of_states}
use Rattle.dcv_dfa.specs.Laws.{TableHasTheStates, TableHasTheFlags, TableHasTheSteps, StatesMakeATable, TableLeadsAsTheStates, TableAcceptsAsTheStates}

pub table_has_the_states : TableHasTheStates
unfolding table_of_states
table_has_the_states raw = length-map-range_with_len (state_of raw) 0 (length raw.rows)

-- the state with this number
pub state-at : (raw : RawValue) (state : ℕ) (d : TableState) → state < length raw.rows → get_or (table_of_states raw) state d ≡ state_of raw state
unfolding table_of_states
state-at raw state d below = get_or-map-range_with_len (state_of raw) 0 (length raw.rows) state state d below (omega arith)

pub table_has_the_flags : TableHasTheFlags
table_has_the_flags raw state below = ap (λ (at : TableState). at.accepting) (state-at raw state no_state below)

-- a row has the number of each letter at the letter's own number
pub table_has_the_steps : TableHasTheSteps
table_has_the_steps raw state letter below width =
    ap (λ (at : TableState). get_or at.row (bits_of letter) 0) (state-at raw state no_state below)
    ∙ get_or_from_slice_get (table_of raw.arena (row_of raw state)) (bits_of letter) (next_in raw state letter) 0 (table_of-at raw.arena (row_of raw state) letter width)

-- ---- rows

-- the letters of a width have that width
letters_widths : (width : ℕ) → Widths width (letters_of_width width)
letters_widths width i d h =
    let letters = letters_of_width width in
    (letters_of_width-once width i (get_or letters i d) (slice_get-get_or letters i d h)).0

module _ (raw : RawValue) (is : IsRaw raw) where
  -- each letter leads from a state to a state
  pub leads_below : (state : ℕ) → state < length raw.rows → LeadsBelow raw.arena (length raw.rows) (row_of raw state)
  leads_below state below = is.numbers state (Leaf 0) below

  row_is_long : (state : ℕ) → state < length raw.rows → length (state_of raw state).row ≡ 2 ^ raw.arena.slots
  unfolding table_of
  row_is_long state below =
      length-map (letters_of_width raw.arena.slots) (value_of raw.arena (row_of raw state)) ∙ length-letters_of_width raw.arena.slots

  row_is_below : (state : ℕ) → state < length raw.rows → All (λ number. number < length raw.rows) (state_of raw state).row
  unfolding table_of
  row_is_below state below =
      let letters = letters_of_width raw.arena.slots in
      All-map (λ number. number < length raw.rows) (value_of raw.arena (row_of raw state)) letters
      (All-weaker (λ (letter : List Bool). length letter ≡ raw.arena.slots) (λ letter. value_of raw.arena (row_of raw state) letter < length raw.rows)
      (leads_below state below) letters (letters_widths raw.arena.slots))

pub states_make_a_table : StatesMakeATable
states_make_a_table raw is =
    let count = table_has_the_states raw in
    record {
      nonempty = omega (arith, count, is.start);
      rows = λ state d below.
          let within : state < length raw.rows = omega (arith, count) in
          ap (λ (at : TableState). length at.row) (state-at raw state d within) ∙ row_is_long raw is state within;
      numbers = λ state d below.
          let within : state < length raw.rows = omega (arith, count) in
          subst (λ (at : TableState). All (λ number. number < length (table_of_states raw)) at.row) (sym (state-at raw state d within))
          (subst (λ n. All (λ number. number < n) (state_of raw state).row) (sym count) (row_is_below raw is state within));
    }

-- ---- words

module _ (raw : RawValue) (is : IsRaw raw) where
  -- a word leads from a state to a state
  pub stays_below : (state : ℕ) (word : Word) → state < length raw.rows → Widths raw.arena.slots word → state_from (automaton_of raw) state word < length raw.rows
  stays_below state [] below widths = below
  stays_below state (letter ∷ word) below widths =
      stays_below (next_in raw state letter) word (leads_below raw is state below letter (Widths-head raw.arena.slots letter word widths)) (Widths-tail raw.arena.slots letter word widths)

  -- and in the table to the same
  leads_from : (state : ℕ) (word : Word) → state < length raw.rows → Widths raw.arena.slots word
      → state_from (table_automaton (table_of_states raw)) state word ≡ state_from (automaton_of raw) state word
  leads_from state [] below widths = refl
  leads_from state (letter ∷ word) below widths =
      let width = Widths-head raw.arena.slots letter word widths in
      ap (λ next. state_from (table_automaton (table_of_states raw)) next word) (table_has_the_steps raw state letter below width)
      ∙ leads_from (next_in raw state letter) word (leads_below raw is state below letter width) (Widths-tail raw.arena.slots letter word widths)

pub table_leads_as_the_states : TableLeadsAsTheStates
table_leads_as_the_states raw word is start widths =
    ap (λ first. state_from (table_automaton (table_of_states raw)) first word) (sym start)
    ∙ leads_from raw is raw.start word is.start widths

pub table_accepts_as_the_states : TableAcceptsAsTheStates
table_accepts_as_the_states raw is start word b =
    let table = table_of_states raw in
    accepts_by_state (table_automaton table) word b.nonempty
    ∙ ap (table_automaton table).accepting (table_leads_as_the_states raw word is start b.widths)
    ∙ table_has_the_flags raw (state_from (automaton_of raw) raw.start word) (stays_below raw is raw.start word is.start b.widths)
    ∙ sym (accepts_by_state (automaton_of raw) word b.nonempty)
