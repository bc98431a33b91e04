-- Rows and their halves: the letters of one slot more are those with false there, and then those with true.
use Rattle.std.proofs.Common.{◌≡◌, ℕ, suc, ◌+◌, ◌-◌, ◌/◌, ◌^◌, ◌<◌, Bool, true, false, cond, List, [], ◌∷◌, ◌++◌, length, map, take, drop, get_or, refl, sym, ap, subst, ◌∙◌, arith}
use Rattle.std.proofs.lemmas.List.{append_assoc, length-append, length-take-le, length-drop, get_or-append_right}
use Rattle.std.proofs.lemmas.List.Elements.{All-take, All-drop}
use Rattle.dcv_word.specs.Letter.{letters_of_width}
use Rattle.dcv_arena.specs.Arena.{ArenaValue, IsRef, value_of, table_of, KeepsRefs}
use Rattle.dcv_arena.specs.declared.nodes.Ref.{Ref}
use Rattle.dcv_arena.proofs.Tables.{table-suc, same_table}
use Rattle.dcv_tables.specs.Rows.{IsRow, HasRow}

one_slot_less : (slots slot : ℕ) → slot < slots → slots - slot ≡ suc (slots - (slot + 1))
one_slot_less slots slot within = omega (arith, within)

half : (slots slot : ℕ) (numbers : List ℕ) → slot < slots → length numbers ≡ 2 ^ (slots - slot) → length numbers / 2 ≡ 2 ^ (slots - (slot + 1))
half slots slot numbers within size =
    let all : length numbers ≡ 2 ^ suc (slots - (slot + 1)) = size ∙ ap (λ n. 2 ^ n) (one_slot_less slots slot within) in
    omega (arith, all)

pub front_is_row : (slots slot bound : ℕ) (numbers front : List ℕ) → slot < slots → front ≡ take (length numbers / 2) numbers → IsRow (slots - slot) bound numbers
    → IsRow (slots - (slot + 1)) bound front
front_is_row slots slot bound numbers front within is row =
    subst (IsRow (slots - (slot + 1)) bound) (sym is) (
      length-take-le (length numbers / 2) numbers (omega arith) ∙ half slots slot numbers within row.0,
      All-take (λ number. number < bound) (length numbers / 2) numbers row.1,
    )

pub back_is_row : (slots slot bound : ℕ) (numbers back : List ℕ) → slot < slots → back ≡ drop (length numbers / 2) numbers → IsRow (slots - slot) bound numbers
    → IsRow (slots - (slot + 1)) bound back
back_is_row slots slot bound numbers back within is row =
    let all : length numbers ≡ 2 ^ suc (slots - (slot + 1)) = row.0 ∙ ap (λ n. 2 ^ n) (one_slot_less slots slot within) in
    let middle = half slots slot numbers within row.0 in
    subst (IsRow (slots - (slot + 1)) bound) (sym is) (
      omega (arith, length-drop (length numbers / 2) numbers, all, middle),
      All-drop (λ number. number < bound) (length numbers / 2) numbers row.1,
    )

-- on one side of the slot the node is a ref that has these numbers from the next slot on
side : (arena new : ArenaValue) (slot : ℕ) (numbers : List ℕ) (root node : Ref) (value : Bool) → new.slots ≡ arena.slots → HasRow arena (slot + 1) numbers root
    → ((letter : List Bool) → get_or letter slot false ≡ value → value_of new node letter ≡ value_of arena root letter)
    → (front : List Bool) → length front ≡ slot
    → map (λ values. value_of new node (front ++ value ∷ values)) (letters_of_width (new.slots - (slot + 1))) ≡ numbers
side arena new slot numbers root node value same row there front size =
    let longer = front ++ value ∷ [] in
    let at_end : slot - length front ≡ 0 = omega (arith, size) in
    same_table (new.slots - (slot + 1)) (λ values. value_of new node (front ++ value ∷ values)) (λ values. value_of arena root (longer ++ values))
    (λ values width.
    there (front ++ value ∷ values)
    (get_or-append_right front (value ∷ values) (length front) slot false refl (omega (arith, size)) ∙ ap (λ place. get_or (value ∷ values) place false) at_end)
    ∙ ap (value_of arena root) (sym (append_assoc front (value ∷ []) values)))
    ∙ (λ i. map (λ values. value_of arena root (longer ++ values)) (letters_of_width (same i - (slot + 1))))
    ∙ row longer (omega (arith, length-append front (value ∷ []), size))

-- a node has the numbers of both sides, one after the other
pub row_of_node : (one two new : ArenaValue) (slot : ℕ) (front back : List ℕ) (lo hi node : Ref) → slot < new.slots → KeepsRefs one two → new.slots ≡ two.slots
    → IsRef one lo → HasRow one (slot + 1) front lo → HasRow two (slot + 1) back hi
    → ((letter : List Bool) → value_of new node letter ≡ cond (get_or letter slot false) (value_of two hi letter) (value_of two lo letter))
    → HasRow new slot (front ++ back) node
row_of_node one two new slot front back lo hi node within kept same is_ref low high value prefix size =
    let f = λ (values : List Bool). value_of new node (prefix ++ values) in
    let width = new.slots - (slot + 1) in
    (λ i. map f (letters_of_width (one_slot_less new.slots slot within i)))
    ∙ table-suc f width
    ∙ (λ i.
    side one new slot front lo node false (same ∙ kept.slots) low
    (λ letter at. value letter ∙ ap (λ side. cond side (value_of two hi letter) (value_of two lo letter)) at ∙ kept.values lo letter is_ref) prefix size i
    ++ side two new slot back hi node true same high
    (λ letter at. value letter ∙ ap (λ side. cond side (value_of two hi letter) (value_of two lo letter)) at) prefix size i)

-- where no slot stands before, they are the numbers at all letters
pub table_of_row : (arena : ArenaValue) (numbers : List ℕ) (root : Ref) → HasRow arena 0 numbers root → table_of arena root ≡ numbers
unfolding table_of
table_of_row arena numbers root row =
    let all : arena.slots ≡ arena.slots - 0 = omega arith in
    (λ i. map (value_of arena root) (letters_of_width (all i))) ∙ row [] refl
