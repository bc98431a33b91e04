-- Parities of one slot more.
use Rattle.std.proofs.Common.{◌≡◌, ℕ, zero, suc, ◌+◌, ◌-◌, ◌%◌, ◌==◌, ◌<◌, Bool, true, false, ◌&&◌, cond, List, ◌∷◌, length, filter, get_or, refl, sym, ap, ◌∙◌, arith}
use Rattle.std.specs.List.{range_with_len}
use Rattle.dcv_tables.specs.Parity.{counts, parity_number}

by_rest : (rest next even odd : ℕ) → rest < 2 → next ≡ 1 - rest → cond (next == 0) even odd ≡ cond (rest == 0) odd even
by_rest zero next even odd small is = ap (λ n. cond (n == 0) even odd) is
by_rest (suc zero) next even odd small is = ap (λ n. cond (n == 0) even odd) is
by_rest (suc (suc rest)) next even odd small is = absurd (omega arith)

by_flag : (flag : Bool) (slot : ℕ) (rest : List ℕ) (even odd : ℕ) → cond (length (cond flag (slot ∷ rest) rest) % 2 == 0) even odd
    ≡ cond flag (cond (length rest % 2 == 0) odd even) (cond (length rest % 2 == 0) even odd)
by_flag true slot rest even odd = by_rest (length rest % 2) (suc (length rest) % 2) even odd (omega arith) (omega arith)
by_flag false slot rest even odd = refl

first_slot : (each even odd slot : ℕ) (slots : List ℕ) (letter : List Bool) → parity_number each even odd (slot ∷ slots) letter
    ≡ cond (counts each slot && get_or letter slot false) (parity_number each odd even slots letter) (parity_number each even odd slots letter)
first_slot each even odd slot slots letter =
    by_flag (counts each slot && get_or letter slot false) slot (filter (λ slot. counts each slot && get_or letter slot false) slots) even odd

-- so it is from this slot on, by what it is from the next slot on
pub one_slot_more : (each even odd slot next slots value same other : ℕ) (counted : Bool) (letter : List Bool) → next ≡ slot + 1 → slot < slots → counted ≡ counts each slot
    → same ≡ parity_number each even odd (range_with_len next (slots - next)) letter → other ≡ parity_number each odd even (range_with_len next (slots - next)) letter
    → value ≡ cond (counted && get_or letter slot false) other same → value ≡ parity_number each even odd (range_with_len slot (slots - slot)) letter
one_slot_more each even odd slot next slots value same other counted letter above within is same_is other_is value_is =
    let more : slots - slot ≡ suc (slots - (slot + 1)) = omega (arith, within) in
    let rest = λ (next : ℕ). range_with_len next (slots - next) in
    value_is
    ∙ (λ i. cond (is i && get_or letter slot false) (other_is i) (same_is i))
    ∙ (λ i. cond (counts each slot && get_or letter slot false) (parity_number each odd even (rest (above i)) letter) (parity_number each even odd (rest (above i)) letter))
    ∙ sym (first_slot each even odd slot (rest (slot + 1)) letter)
    ∙ sym (ap (λ count. parity_number each even odd (range_with_len slot count) letter) more)
