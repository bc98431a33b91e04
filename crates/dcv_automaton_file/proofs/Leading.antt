-- Where a file's table leads, and which states it has accept, by the file's lines.
use Rattle.std.proofs.Common.{◌≡◌, ℕ, zero, suc, ◌+◌, ◌<◌, Bool, true, false, cond, ◌||◌, nat_eq, List, [], ◌∷◌, ◌++◌, length, map, fold, get_or, Some, refl}
use Rattle.std.proofs.Common.{ap, subst, ◌∙◌, arith}
use Rattle.std.specs.Prelude.{slice_get}
use Rattle.std.specs.List.{list_any, filter}
use Rattle.std.proofs.lemmas.List.{length_push, get_or-map, get_or_default}
use Rattle.std.proofs.lemmas.Option.{slice_get_within, get_or_from_slice_get}
use Rattle.dcv_word.specs.Letter.{bits_of, letters_of_width}
use Rattle.dcv_word.specs.Laws.{LetterStandsAtItsBits}
use Rattle.dcv_language.specs.Table.{no_state, next_in, is_accepting}
use Rattle.dcv_language.specs.declared.child.Child.{Child}
use Rattle.dcv_automaton_text.specs.File.{NodeLine, StateLine, AutomatonFile}
use Rattle.dcv_automaton_text.specs.Meaning.{state_at, states_at, state_of, table_of}
use Rattle.dcv_automaton_text.specs.Rules.{slot_of}
use Rattle.dcv_automaton_text.proofs.GoodTables.{no_line, state-at}
use Rattle.dcv_automaton_file.proofs.ObservedFiles.{GoodRows, no_row}

-- a state for each line of a node
pub states_count : (names : List (List ℕ)) (letter : List Bool) (lines : List NodeLine) (states : List ℕ)
    → length (fold (λ states (line : NodeLine). states ++ state_at states (cond (get_or letter (slot_of names line.name) false) line.hi line.lo) ∷ []) states lines)
    ≡ length states + length lines
states_count names letter [] states = omega arith
states_count names letter (line ∷ lines) states =
    let next = state_at states (cond (get_or letter (slot_of names line.name) false) line.hi line.lo) in
    states_count names letter lines (states ++ next ∷ []) ∙ omega (arith, length_push states next)

module _ (file : AutomatonFile) (stands : LetterStandsAtItsBits) where
  abbrev pub row_at : ℕ → Child
  row_at state = (get_or file.state_lines state no_row).row

  state_there : (state : ℕ) → state < length file.state_lines → get_or (table_of file) state no_state ≡ state_of file (get_or file.state_lines state no_row)
  state_there state within = state-at file state no_state within ∙ ap (state_of file) (get_or_default file.state_lines state no_line no_row within)

  -- the table leads as the lines do
  pub table_leads : (state : ℕ) (letter : List Bool) → state < length file.state_lines → length letter ≡ length file.names
      → next_in (table_of file) state letter ≡ state_at (states_at file.names letter file.node_lines) (row_at state)
  table_leads state letter within width =
      let value = λ (one : List Bool). state_at (states_at file.names one file.node_lines) (row_at state) in
      let letters = letters_of_width (length file.names) in
      let there = subst (λ size. slice_get (letters_of_width size) (bits_of letter) ≡ Some letter) width (stands letter) in
      ap (λ state. get_or state.row (bits_of letter) 0) (state_there state within)
      ∙ get_or-map value letters (bits_of letter) letter 0 (slice_get_within letters (bits_of letter) letter there)
      ∙ ap value (get_or_from_slice_get letters (bits_of letter) letter letter there)

  pub table_accepts_at : (state : ℕ) → state < length file.state_lines → is_accepting (table_of file) state ≡ (get_or file.state_lines state no_row).accepting
  table_accepts_at state within = ap (λ state. state.accepting) (state_there state within)

-- ---- which state is one of those that accept

pub same_number : (n : ℕ) → nat_eq n n ≡ true
same_number n = grind arith

pub other_number : (n m : ℕ) → (n ≡ m → ⊥) → nat_eq n m ≡ false
other_number n m differ = grind (arith, differ)

module _ (next : ℕ) where
  abbrev pub is_next : StateLine → Bool
  is_next line = nat_eq next line.number

  abbrev accepts : List StateLine → Bool
  accepts lines = list_any is_next (filter (λ (line : StateLine). line.accepting) lines)

  -- one line more: it is asked where it accepts
  one_more : (line : StateLine) (lines : List StateLine) → accepts (line ∷ lines) ≡ cond line.accepting (nat_eq next line.number || accepts lines) (accepts lines)
  one_more line lines = by line.accepting
    where
      by : (b : Bool) → list_any is_next (cond b (line ∷ filter (λ (line : StateLine). line.accepting) lines) (filter (λ (line : StateLine). line.accepting) lines))
          ≡ cond b (nat_eq next line.number || accepts lines) (accepts lines)
      by true = refl
      by false = refl

  skipped : (line : StateLine) (lines : List StateLine) → (next ≡ line.number → ⊥) → accepts (line ∷ lines) ≡ accepts lines
  skipped line lines differ =
      one_more line lines ∙ ap (λ same. cond line.accepting (same || accepts lines) (accepts lines)) (other_number next line.number differ) ∙ either line.accepting
    where
      either : (b : Bool) → cond b (accepts lines) (accepts lines) ≡ accepts lines
      either true = refl
      either false = refl

  none_accepts : (most nodes : ℕ) (lines : List StateLine) (first : ℕ) → GoodRows most nodes first lines → next < first → accepts lines ≡ false
  none_accepts most nodes [] first good before_it = refl
  none_accepts most nodes (line ∷ lines) first good before_it =
      let number = good.0.number_is in
      skipped line lines (λ same. omega (arith, same, number)) ∙ none_accepts most nodes lines (first + 1) good.1 (omega arith)

  accepts_from : (most nodes : ℕ) (lines : List StateLine) (first place : ℕ) → GoodRows most nodes first lines → next ≡ first + place
      → accepts lines ≡ (get_or lines place no_row).accepting
  accepts_from most nodes [] first place good is = refl
  accepts_from most nodes (line ∷ lines) first zero good is =
      let same : next ≡ line.number = omega (arith, is, good.0.number_is) in
      let none = none_accepts most nodes lines (first + 1) good.1 (omega (arith, is)) in
      one_more line lines
      ∙ (λ i. cond line.accepting (nat_eq (same i) line.number || none i) (none i))
      ∙ ap (λ b. cond line.accepting (b || false) false) (same_number line.number)
      ∙ itself line.accepting
    where
      itself : (b : Bool) → cond b true false ≡ b
      itself true = refl
      itself false = refl
  accepts_from most nodes (line ∷ lines) first (suc place) good is =
      let number = good.0.number_is in
      skipped line lines (λ same. omega (arith, is, same, number)) ∙ accepts_from most nodes lines (first + 1) place good.1 (omega (arith, is))

  -- where the lines that accept are asked by a test for this number, one passes where the state's line accepts
  pub passes_where_accepting : {X : Type 0} (passes : X → Bool) (say : StateLine → X) → ((line : StateLine) → passes (say line) ≡ nat_eq next line.number)
      → (most nodes : ℕ) (lines : List StateLine) → GoodRows most nodes 0 lines
      → list_any passes (map say (filter (λ (line : StateLine). line.accepting) lines)) ≡ (get_or lines next no_row).accepting
  passes_where_accepting passes say is most nodes lines good =
      asked (filter (λ (line : StateLine). line.accepting) lines) ∙ accepts_from most nodes lines 0 next good (let e : next ≡ 0 + next = omega arith in e)
    where
      asked : (lines : List StateLine) → list_any passes (map say lines) ≡ list_any is_next lines
      asked [] = refl
      asked (line ∷ lines) = let more = asked lines in λ i. is line i || more i
