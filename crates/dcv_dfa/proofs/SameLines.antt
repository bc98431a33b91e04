-- Automata with one table have the same node lines, in whatever order their arenas have the nodes.
use Rattle.std.proofs.Common.{◌≡◌, ℕ, zero, suc, ◌+◌, ◌<◌, ◌≤◌, Bool, true, false, cond, not, ◌||◌, nat_eq, List, [], ◌∷◌, ◌++◌, length, map, fold, set, replicate, get_or, inl, inr, refl, sym, ap, subst, ◌∙◌, arith}
use Rattle.std.specs.Bool.{one_answer}
use Rattle.std.specs.Cmp.{unsigned_Decides}
use Rattle.std.specs.List.{AllZip}
use Rattle.std.proofs.lemmas.Bool.{cases_order}
use Rattle.std.proofs.lemmas.List.{length-set, length-replicate, get_or_default}
use Rattle.std.proofs.lemmas.List.Elements.{AllZip-push}
use Rattle.dcv_word.specs.Letter.{letters_of_width}
use Rattle.dcv_arena.specs.Arena.{ArenaValue, IsReduced, IsRef, level_of, value_of, table_of}
use Rattle.dcv_arena.specs.declared.nodes.Ref.{Ref}
use Rattle.dcv_arena.specs.declared.nodes.Ref.TheVariants.{Leaf, Place}
use Rattle.dcv_arena.proofs.Refs.{rank, rank_before, is_ref, level_of-le, value_of-leaf, fixed_later, same_ref, own_slot_matters}
use Rattle.dcv_arena.proofs.Tables.{same_values}
use Rattle.dcv_language.specs.Table.{TableState}
use Rattle.dcv_language.specs.declared.child.Child.TheVariants.{State, Node}
use Rattle.dcv_dfa.specs.Raw.{RawValue, row_of}
use Rattle.dcv_dfa.specs.Auto.{state_of, table_of_states}
use Rattle.dcv_dfa.specs.NodeLines.{lo_of, hi_of, is_numbered, visit, numbered, number_of, child_of, line_of, lines_and_rows}
use Rattle.dcv_dfa.specs.Laws.{SameRowsHaveOneListOfLines, OneTableHasOneListOfLines}
use Rattle.dcv_dfa.proofs.States.{table_has_the_states, state-at}
use Rattle.dcv_dfa.proofs.Visits.{has_children, visit-node}

-- ---- lists place by place

map-same : {A B C : Type 0} (R : A → B → Type 0) (f : A → C) (g : B → C) → ((x : A) (y : B) → R x y → f x ≡ g y)
    → (xs : List A) (ys : List B) → AllZip R xs ys → map f xs ≡ map g ys
map-same R f g same [] [] zip = refl
map-same R f g same [] (y ∷ ys) zip = absurd zip
map-same R f g same (x ∷ xs) [] zip = absurd zip
map-same R f g same (x ∷ xs) (y ∷ ys) zip = λ i. same x y zip.0 i ∷ map-same R f g same xs ys zip.1 i

zip_from : (R : Ref → Ref → Type 0) (xs ys : List Ref) → length xs ≡ length ys
    → ((i : ℕ) (d e : Ref) → i < length xs → R (get_or xs i d) (get_or ys i e)) → AllZip R xs ys
zip_from R [] [] size each = tt
zip_from R [] (y ∷ ys) size each = absurd (omega arith)
zip_from R (x ∷ xs) [] size each = absurd (omega arith)
zip_from R (x ∷ xs) (y ∷ ys) size each = (each 0 x y (omega arith), zip_from R xs ys (omega arith) (λ i d e below. each (suc i) d e (omega arith)))

-- ---- refs of two arenas

-- one number at each letter
abbrev SameFunction : ArenaValue → ArenaValue → Ref → Ref → Type 0
SameFunction first second root other = (letter : List Bool) → length letter ≡ first.slots → value_of first root letter ≡ value_of second other letter

-- what depends on a slot has no later level
not_before : (first second : ArenaValue) → IsReduced first → IsReduced second → first.slots ≡ second.slots → (root other : Ref) → IsRef first root → IsRef second other
    → SameFunction first second root other → level_of first root < level_of second other → ⊥
not_before first second is is' slots root other one one' same before =
    let level = level_of first root in
    own_slot_matters first is root one (omega (arith, level_of-le second is' other one')) (λ letter size.
    same (set letter level false) (length-set letter level false ∙ size)
    ∙ sym (fixed_later second is' other level one' before false letter)
    ∙ fixed_later second is' other level one' before true letter
    ∙ sym (same (set letter level true) (length-set letter level true ∙ size)))

-- two refs that are there, with one function
record AreSame (first second : ArenaValue) (root other : Ref) : Type 0 where
  pub one : IsRef first root
  pub two : IsRef second other
  pub same : SameFunction first second root other

abbrev SamePlaces : ArenaValue → ArenaValue → ℕ → ℕ → Type 0
SamePlaces first second place other = AreSame first second (Place place) (Place other)

module _ (first second : ArenaValue) (is : IsReduced first) (is' : IsReduced second) (slots : first.slots ≡ second.slots) where
  same_level : (root other : Ref) → AreSame first second root other → level_of first root ≡ level_of second other
  same_level root other s =
      elim (cases_order (level_of first root) (level_of second other)) [
        | inl equal ↦ equal
        | inr (inl before) ↦ absurd (not_before first second is is' slots root other s.one s.two s.same before)
        | inr (inr after) ↦ absurd (not_before second first is' is (sym slots) other root s.two s.one (λ letter size. sym (s.same letter (size ∙ sym slots))) after)
      ]

  same_leaf : (number other : ℕ) → AreSame first second (Leaf number) (Leaf other) → number ≡ other
  same_leaf number other s =
      let letter = replicate first.slots false in
      sym (value_of-leaf first is number letter) ∙ s.same letter (length-replicate first.slots false) ∙ value_of-leaf second is' other letter

  leaf_is_no_place : (number place : ℕ) → AreSame first second (Leaf number) (Place place) → ⊥
  leaf_is_no_place number place s =
      omega (arith, same_level (Leaf number) (Place place) s, (has_children second is' place s.two).slot, slots)

  place_is_no_leaf : (place number : ℕ) → AreSame first second (Place place) (Leaf number) → ⊥
  place_is_no_leaf place number s =
      omega (arith, same_level (Place place) (Leaf number) s, (has_children first is place s.one).slot, slots)

  -- nodes with one function have children with one function
  same_lo : (place other : ℕ) → SamePlaces first second place other → AreSame first second (lo_of first place) (lo_of second other)
  same_lo place other s =
      let facts = has_children first is place s.one in
      let facts' = has_children second is' other s.two in
      let slot = level_of first (Place place) in
      record {
        one = is_ref first is place (lo_of first place) s.one facts.lo_before;
        two = is_ref second is' other (lo_of second other) s.two facts'.lo_before;
        same = λ letter size.
            facts.lo_value letter size
            ∙ s.same (set letter slot false) (length-set letter slot false ∙ size)
            ∙ ap (λ slot. value_of second (Place other) (set letter slot false)) (same_level (Place place) (Place other) s)
            ∙ sym (facts'.lo_value letter (size ∙ slots));
      }

  same_hi : (place other : ℕ) → SamePlaces first second place other → AreSame first second (hi_of first place) (hi_of second other)
  same_hi place other s =
      let facts = has_children first is place s.one in
      let facts' = has_children second is' other s.two in
      let slot = level_of first (Place place) in
      record {
        one = is_ref first is place (hi_of first place) s.one facts.hi_before;
        two = is_ref second is' other (hi_of second other) s.two facts'.hi_before;
        same = λ letter size.
            facts.hi_value letter size
            ∙ s.same (set letter slot true) (length-set letter slot true ∙ size)
            ∙ ap (λ slot. value_of second (Place other) (set letter slot true)) (same_level (Place place) (Place other) s)
            ∙ sym (facts'.hi_value letter (size ∙ slots));
      }

  -- ---- numbers

  same_place : (place other its : ℕ) (at : ℕ) → SamePlaces first second place other → SamePlaces first second its at → nat_eq place its ≡ nat_eq other at
  same_place place other its at s t =
      one_answer (nat_eq place its) (nat_eq other at) (unsigned_Decides place its)
      (λ e. back ((unsigned_Decides other at).0 e), λ e. (unsigned_Decides other at).1 (there e))
    where
      there : place ≡ its → other ≡ at
      there e =
          let one : Place other ≡ Place at = same_ref second is' (Place other) (Place at) s.two t.two (λ letter size.
          sym (s.same letter (size ∙ sym slots)) ∙ ap (λ p. value_of first (Place p) letter) e ∙ t.same letter (size ∙ sym slots)) in
          cc

      back : other ≡ at → place ≡ its
      back e =
          let one : Place place ≡ Place its = same_ref first is (Place place) (Place its) s.one t.one (λ letter size.
          s.same letter size ∙ ap (λ p. value_of second (Place p) letter) e ∙ sym (t.same letter size)) in
          cc

  same_numbered : (places others : List ℕ) (place other : ℕ) → AllZip (SamePlaces first second) places others → SamePlaces first second place other
      → is_numbered places place ≡ is_numbered others other
  same_numbered [] [] place other zip s = refl
  same_numbered [] (y ∷ others) place other zip s = absurd zip
  same_numbered (x ∷ places) [] place other zip s = absurd zip
  same_numbered (x ∷ places) (y ∷ others) place other zip s =
      let rest = same_numbered places others place other zip.1 s in
      λ i. same_place place other x y s zip.0 i || rest i

  same_number : (places others : List ℕ) (place other : ℕ) → AllZip (SamePlaces first second) places others → SamePlaces first second place other
      → number_of places place ≡ number_of others other
  same_number [] [] place other zip s = refl
  same_number [] (y ∷ others) place other zip s = absurd zip
  same_number (x ∷ places) [] place other zip s = absurd zip
  same_number (x ∷ places) (y ∷ others) place other zip s =
      let rest = same_number places others place other zip.1 s in
      λ i. cond (not (same_place place other x y s zip.0 i)) (1 + rest i) 0

  -- ---- visits

  same_visits : (count : ℕ) (root other : Ref) → AreSame first second root other → rank root ≤ count → (places others : List ℕ)
      → AllZip (SamePlaces first second) places others → AllZip (SamePlaces first second) (visit first places root) (visit second others other)
  same_visits count (Leaf number) (Leaf other) s h places others zip = zip
  same_visits count (Leaf number) (Place other) s h places others zip = absurd (leaf_is_no_place number other s)
  same_visits count (Place place) (Leaf other) s h places others zip = absurd (place_is_no_leaf place other s)
  same_visits zero (Place place) (Place other) s h places others zip = absurd (omega arith)
  same_visits (suc count) (Place place) (Place other) s h places others zip =
      let facts = has_children first is place s.one in
      let lo = lo_of first place in
      let hi = hi_of first place in
      let lo' = lo_of second other in
      let hi' = hi_of second other in
      let middle = visit first places lo in
      let middle' = visit second others lo' in
      let new = visit first middle hi in
      let new' = visit second middle' hi' in
      let lower = same_visits count lo lo' (same_lo place other s) (omega (arith, rank_before place lo facts.lo_before)) places others zip in
      let upper = same_visits count hi hi' (same_hi place other s) (omega (arith, rank_before place hi facts.hi_before)) middle middle' lower in
      let pushed = AllZip-push (SamePlaces first second) new new' place other upper s in
      let by : (found : Bool) → AllZip (SamePlaces first second) (cond found places (new ++ place ∷ [])) (cond found others (new' ++ other ∷ [])) = elim [ true ↦ zip | false ↦ pushed ] in
      subst (λ all. AllZip (SamePlaces first second) all (visit second others (Place other))) (sym (visit-node first is place s.one places))
      (subst (AllZip (SamePlaces first second) (cond (is_numbered places place) places (new ++ place ∷ []))) (sym (visit-node second is' other s.two others))
      (subst (λ found. AllZip (SamePlaces first second) (cond (is_numbered places place) places (new ++ place ∷ [])) (cond found others (new' ++ other ∷ []))) (same_numbered places others place other zip s)
      (by (is_numbered places place))))

  same_numberings : (rows others : List Ref) → AllZip (AreSame first second) rows others → (places their : List ℕ) → AllZip (SamePlaces first second) places their
      → AllZip (SamePlaces first second) (fold (visit first) places rows) (fold (visit second) their others)
  same_numberings [] [] all places their zip = zip
  same_numberings [] (y ∷ others) all places their zip = absurd all
  same_numberings (x ∷ rows) [] all places their zip = absurd all
  same_numberings (x ∷ rows) (y ∷ others) all places their zip =
      same_numberings rows others all.1 (visit first places x) (visit second their y) (same_visits (rank x) x y all.0 (omega arith) places their zip)

  -- ---- lines

  module _ (places others : List ℕ) (zip : AllZip (SamePlaces first second) places others) where
    same_child : (root other : Ref) → AreSame first second root other → child_of places root ≡ child_of others other
    same_child (Leaf number) (Leaf other) s = ap State (same_leaf number other s)
    same_child (Leaf number) (Place other) s = absurd (leaf_is_no_place number other s)
    same_child (Place place) (Leaf other) s = absurd (place_is_no_leaf place other s)
    same_child (Place place) (Place other) s = ap Node (same_number places others place other zip s)

    same_line : (place other : ℕ) → SamePlaces first second place other → line_of first places place ≡ line_of second others other
    same_line place other s =
        let slot = same_level (Place place) (Place other) s in
        let lo = same_child (lo_of first place) (lo_of second other) (same_lo place other s) in
        let hi = same_child (hi_of first place) (hi_of second other) (same_hi place other s) in
        λ i. record { slot = slot i; hi = hi i; lo = lo i }

-- ---- rows

pub same_rows_have_one_list_of_lines : SameRowsHaveOneListOfLines
same_rows_have_one_list_of_lines first second rows others is is' ones others_are slots size same =
    let reduced = is.reduced in
    let reduced' = is'.reduced in
    let zip_of_rows = zip_from (AreSame first second) rows others size (λ place d e below.
    let below' : place < length others = omega arith in
    record {
      one = ones place d below;
      two = others_are place e below';
      same = λ letter width.
          ap (λ row. value_of first row letter) (get_or_default rows place d (Leaf 0) below)
          ∙ same place letter below width
          ∙ sym (ap (λ row. value_of second row letter) (get_or_default others place e (Leaf 0) below'));
    }) in
    let places = numbered first rows in
    let their = numbered second others in
    let zip = same_numberings first second reduced reduced' slots rows others zip_of_rows [] [] tt in
    let lines = map-same (SamePlaces first second) (line_of first places) (line_of second their) (same_line first second reduced reduced' slots places their zip) places their zip in
    let children = map-same (AreSame first second) (child_of places) (child_of their) (same_child first second reduced reduced' slots places their zip) rows others zip_of_rows in
    λ i. lines_and_rows (lines i) (children i)

-- ---- automata

same_row : (one other : RawValue) → one.arena.slots ≡ other.arena.slots → table_of_states one ≡ table_of_states other → (state : ℕ) → state < length one.rows → state < length other.rows
    → SameFunction one.arena other.arena (row_of one state) (row_of other state)
unfolding table_of
same_row one other slots same state below below' =
    let d = state_of one state in
    same_values one.arena.slots (value_of one.arena (row_of one state)) (value_of other.arena (row_of other state))
    (ap (λ (at : TableState). at.row) (sym (state-at one state d below) ∙ ap (λ table. get_or table state d) same ∙ state-at other state d below')
    ∙ (λ i. map (value_of other.arena (row_of other state)) (letters_of_width (sym slots i))))

pub one_table_has_one_list_of_lines : OneTableHasOneListOfLines
one_table_has_one_list_of_lines one other is is' slots same =
    let size : length one.rows ≡ length other.rows = sym (table_has_the_states one) ∙ ap length same ∙ table_has_the_states other in
    same_rows_have_one_list_of_lines one.arena other.arena one.rows other.rows is.arena is'.arena is.rows is'.rows slots size
    (λ state letter below width. same_row one other slots same state below (omega arith) letter width)
