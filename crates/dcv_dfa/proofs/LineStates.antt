-- The lines stand for the states that the rows' functions have.
use Rattle.std.proofs.Common.{◌≡◌, ℕ, zero, suc, ◌+◌, ◌<◌, ◌≤◌, Bool, true, false, cond, List, [], ◌∷◌, ◌++◌, length, map, take, fold, get_or, refl, sym, ap, subst, ◌∙◌, arith}
use Rattle.std.proofs.lemmas.List.{length-map, get_or-map, get_or-take, take_all, take_more}
use Rattle.std.proofs.lemmas.List.Elements.{Contains-get_or}
use Rattle.std.proofs.lemmas.List.Sums.{fold-append}
use Rattle.std.proofs.lemmas.Option.{slice_get-get_or}
use Rattle.dcv_arena.specs.Arena.{ArenaValue, IsReduced, level_of, value_of}
use Rattle.dcv_arena.specs.declared.nodes.Ref.{Ref}
use Rattle.dcv_arena.specs.declared.nodes.Ref.TheVariants.{Leaf, Place}
use Rattle.dcv_arena.proofs.Refs.{value_of-leaf}
use Rattle.dcv_language.specs.declared.child.Child.{Child}
use Rattle.dcv_language.specs.declared.child.Child.TheVariants.{State}
use Rattle.dcv_dfa.specs.declared.node_lines.NodeLine.{NodeLine}
use Rattle.dcv_dfa.specs.NodeLines.{lo_of, hi_of, numbered, number_of, child_of, line_of, state_at, states_at}
use Rattle.dcv_dfa.specs.Laws.{LinesHaveTheNumbersOfTheRows, LinesLeadAsTheRows}
use Rattle.dcv_dfa.proofs.Numberings.{HasNumber, IsNumbering, has_child, there_numbered, rows_numbered}
use Rattle.dcv_dfa.proofs.Reduced.{number_below, number_within, number_at}
use Rattle.dcv_dfa.proofs.Visits.{has_children}

-- one line more
abbrev step : List Bool → List ℕ → NodeLine → List ℕ
step letter states line = states ++ state_at states (cond (get_or letter line.slot false) line.hi line.lo) ∷ []

take-more : {X : Type 0} (xs : List X) (n : ℕ) (d : X) → n < length xs → take (suc n) xs ≡ take n xs ++ get_or xs n d ∷ []
take-more xs n d below =
    let next : suc n ≡ n + 1 = omega arith in
    ap (λ count. take count xs) next ∙ take_more xs n d below

module _ (arena : ArenaValue) (is : IsReduced arena) (places : List ℕ) (numbering : IsNumbering arena places) (letter : List Bool) where
  abbrev value : Ref → ℕ
  value ref = value_of arena ref letter

  abbrev value_at : ℕ → ℕ
  value_at place = value (Place place)

  abbrev values : List ℕ
  values = map value_at places

  abbrev line : ℕ → NodeLine
  line = line_of arena places

  -- a child stands for what its ref has, where its number has come
  child_stands : (count : ℕ) (ref : Ref) → HasNumber (take count places) ref → HasNumber places ref → state_at (take count values) (child_of places ref) ≡ value ref
  child_stands count (Leaf state) early has = sym (value_of-leaf arena is state letter)
  child_stands count (Place place) early has =
      let number = number_of places place in
      let before : number < count = number_below places count place (there_numbered (take count places) place early) in
      let within : number < length places = number_within places place has in
      get_or-take count values number 0 before
      ∙ get_or-map value_at places number 0 0 within
      ∙ ap value_at (number_at places place has)

  -- of two children that of the letter's value
  chosen : (side : Bool) (states : List ℕ) (hi lo : Child) → state_at states (cond side hi lo) ≡ cond side (state_at states hi) (state_at states lo)
  chosen true states hi lo = refl
  chosen false states hi lo = refl

  line_stands : (count : ℕ) → count < length places → state_at (take count values) (cond (get_or letter (line (get_or places count 0)).slot false) (line (get_or places count 0)).hi (line (get_or places count 0)).lo) ≡ value_at (get_or places count 0)
  line_stands count below =
      let place = get_or places count 0 in
      let at = slice_get-get_or places count 0 below in
      let facts = has_children arena is place (numbering.within count 0 below) in
      let has = has_child arena places numbering place (Contains-get_or places count 0 below) in
      let side = get_or letter (level_of arena (Place place)) false in
      let hi = child_stands count (hi_of arena place) (numbering.hi_first count place at) has.1 in
      let lo = child_stands count (lo_of arena place) (numbering.lo_first count place at) has.0 in
      chosen side (take count values) (child_of places (hi_of arena place)) (child_of places (lo_of arena place))
      ∙ (λ i. cond side (hi i) (lo i))
      ∙ sym (facts.value letter)

  stand_within : (count : ℕ) → count ≤ length places → fold (step letter) [] (take count (map line places)) ≡ take count values
  stand_within zero within = refl
  stand_within (suc count) within =
      let lines = map line places in
      let place = get_or places count 0 in
      let d = line place in
      let size = length-map places line in
      let size' = length-map places value_at in
      ap (fold (step letter) []) (take-more lines count d (omega arith) ∙ ap (λ last. take count lines ++ last ∷ []) (get_or-map line places count 0 d (omega arith)))
      ∙ fold-append (step letter) [] (take count lines) (d ∷ [])
      ∙ ap (λ states. step letter states d) (stand_within count (omega arith))
      ∙ ap (λ state. take count values ++ state ∷ []) (line_stands count (omega arith) ∙ sym (get_or-map value_at places count 0 0 (omega arith)))
      ∙ sym (take-more values count 0 (omega arith))

  pub lines_stand : states_at letter (map line places) ≡ values
  unfolding states_at
  lines_stand =
      let count = length places in
      ap (fold (step letter) []) (sym (take_all count (map line places) (omega (arith, length-map places line))))
      ∙ stand_within count (omega arith)
      ∙ take_all count values (omega (arith, length-map places value_at))

  -- and so do the rows
  pub row_stands : (ref : Ref) → HasNumber places ref → state_at values (child_of places ref) ≡ value ref
  row_stands ref has =
      let count = length places in
      ap (λ states. state_at states (child_of places ref)) (sym (take_all count values (omega (arith, length-map places value_at))))
      ∙ child_stands count ref (subst (λ all. HasNumber all ref) (sym (take_all count places (omega arith))) has) has

pub lines_have_the_numbers_of_the_rows : LinesHaveTheNumbersOfTheRows
lines_have_the_numbers_of_the_rows arena rows place letter is ones below =
    let reduced = is.reduced in
    let places = numbered arena rows in
    let facts = rows_numbered arena reduced rows ones in
    let row = get_or rows place (Leaf 0) in
    let values = map (λ place. value_of arena (Place place) letter) places in
    ap (λ states. state_at states (get_or (map (child_of places) rows) place (State 0))) (lines_stand arena reduced places facts.0 letter)
    ∙ ap (state_at values) (get_or-map (child_of places) rows place (Leaf 0) (State 0) below)
    ∙ row_stands arena reduced places facts.0 letter row (facts.1 place (Leaf 0) below)

pub lines_lead_as_the_rows : LinesLeadAsTheRows
lines_lead_as_the_rows raw state letter is below = lines_have_the_numbers_of_the_rows raw.arena raw.rows state letter is.arena is.rows below
