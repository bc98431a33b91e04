-- Sets of states as bits: which states have a bit, and that an ascending list is what its bits are read as.
use Rattle.std.proofs.Common.{◌≡◌, ◌≢◌, inl, inr, ◌⊎◌, ⊎_elim, ℕ, zero, suc, ◌+◌, ◌-◌, ◌*◌, ◌/◌, ◌%◌, ◌^◌, ◌<◌, ◌≤◌, Bool, true, false, cond, if◌then◌else◌, eqb, ◌||◌, ◌==◌, List, [], ◌∷◌, ◌++◌, length, get_or, replicate, take, drop, AllPairs, bit_or, refl, ap, sym, ◌∙◌, subst, length-drop, arith}
use Rattle.std.proofs.lemmas.Bool.{eqb-true, eqb-false, true≢false}
use Rattle.std.proofs.lemmas.List.{length-replicate, length-set, get_or-set_same, get_or-set_other, take_all, append-nil, nil_from_length}
use Rattle.std.proofs.lemmas.List.Elements.{All-nil, All-cons, All-append, All-head, All-tail, All-from_get_or}
use Rattle.std.proofs.lemmas.Nat.Bits.{bit_at_or, bit_at-pow_same, bit_at-pow_other, bit_at-zero, bit_at-lt}
use Rattle.std.specs.Int.{bit_at}
use Rattle.std.specs.List.{All, fold, list_any}
use Rattle.dcv_language.specs.StateSet.{set_of}
use Rattle.dcv_language.proofs.Ascending.{Member, Ascends, Member-from_IsAmong, IsAmong-from_Member, Ascends-from_pairs, pairs_from_Ascends, place_of}
use Rattle.dcv_language.proofs.Sets.{set_is_one, set_ascends}
use Rattle.dcv_sets.proofs.SameSets.{Member-append, Member-append_left, Member-append_right, tested, listed}
use Rattle.dcv_sets.specs.Bits.{has_state, with_state, bits_of, states_below, states_in, width_of, is_dense, kept, states_kept, IsKept}

-- ---- one bit

module _ (words : List ℕ) (state : ℕ) (within : state / 32 < length words) where
  abbrev word : ℕ
  word = get_or words (state / 32) 0

  abbrev bit : ℕ
  bit = 2 ^ (state % 32)

  at_place : get_or (with_state words state) (state / 32) 0 ≡ bit_or word bit
  at_place = get_or-set_same words (state / 32) (bit_or word bit) 0 within

  own_bit : has_state (with_state words state) state ≡ true
  own_bit =
      let is : bit_at (bit_or word bit) (state % 32) ≡ 1 = omega (arith, bit_at_or word bit (state % 32), bit_at-pow_same (state % 32), bit_at-lt word (state % 32)) in
      ap (λ w. bit_at w (state % 32) == 1) at_place ∙ ap (λ n. n == 1) is

  other_bit : (z : ℕ) → z / 32 ≡ state / 32 → z % 32 ≢ state % 32 → has_state (with_state words state) z ≡ has_state words z
  other_bit z place apart =
      let is : bit_at (bit_or word bit) (z % 32) ≡ bit_at word (z % 32) = omega (arith, bit_at_or word bit (z % 32), bit_at-pow_other (state % 32) (z % 32) apart) in
      ap (λ at. bit_at (get_or (with_state words state) at 0) (z % 32) == 1) place
      ∙ ap (λ w. bit_at w (z % 32) == 1) at_place
      ∙ ap (λ n. n == 1) is
      ∙ ap (λ at. bit_at (get_or words at 0) (z % 32) == 1) (sym place)

  other_word : (z : ℕ) → z / 32 ≢ state / 32 → has_state (with_state words state) z ≡ has_state words z
  other_word z apart = ap (λ w. bit_at w (z % 32) == 1) (get_or-set_other words (state / 32) (z / 32) (bit_or word bit) 0 apart)

  other : (z : ℕ) (place : Bool) → (place ≡ true → z / 32 ≡ state / 32) → (place ≡ false → z / 32 ≢ state / 32) → z ≢ state → has_state (with_state words state) z ≡ has_state words z
  other z true same apart not_it = other_bit z (same refl) (λ bits. not_it (omega (arith, same refl, bits)))
  other z false same apart not_it = other_word z (apart refl)

  of_state : (z : ℕ) (it : Bool) → (it ≡ true → z ≡ state) → (it ≡ false → z ≢ state) → has_state (with_state words state) z ≡ (it || has_state words z)
  of_state z true same apart = ap (has_state (with_state words state)) (same refl) ∙ own_bit
  of_state z false same apart = other z (eqb (z / 32) (state / 32)) (eqb-true (z / 32) (state / 32)) (eqb-false (z / 32) (state / 32)) (apart refl)

  pub has-with_state : (z : ℕ) → has_state (with_state words state) z ≡ (eqb z state || has_state words z)
  has-with_state z = of_state z (eqb z state) (eqb-true z state) (eqb-false z state)

-- ---- bits of listed states

exchanged : (a b c : Bool) → (a || (b || c)) ≡ ((b || a) || c)
exchanged true true c = refl
exchanged true false c = refl
exchanged false true c = refl
exchanged false false c = refl

or_false : (a : Bool) → (a || false) ≡ a
or_false true = refl
or_false false = refl

abbrev pub Fit : ℕ → List ℕ → Type 0
Fit width states = All (λ (state : ℕ). state / 32 < width) states

pub has-added : (z : ℕ) (states words : List ℕ) → Fit (length words) states → has_state (fold with_state words states) z ≡ (list_any (eqb z) states || has_state words z)
has-added z [] words fit = refl
has-added z (state ∷ states) words fit =
    let within = All-head (λ (state : ℕ). state / 32 < length words) state states fit in
    let others = All-tail (λ (state : ℕ). state / 32 < length words) state states fit in
    let same = length-set words (state / 32) (bit_or (get_or words (state / 32) 0) (2 ^ (state % 32))) in
    has-added z states (with_state words state) (subst (λ n. Fit n states) (sym same) others)
    ∙ ap (λ b. list_any (eqb z) states || b) (has-with_state words state within z)
    ∙ exchanged (list_any (eqb z) states) (eqb z state) (has_state words z)

pub length-added : (states words : List ℕ) → length (fold with_state words states) ≡ length words
length-added [] words = refl
length-added (state ∷ states) words = length-added states (with_state words state) ∙ length-set words (state / 32) (bit_or (get_or words (state / 32) 0) (2 ^ (state % 32)))

abbrev no_bits : ℕ → List ℕ
no_bits n = replicate n 0

zeros : (n i : ℕ) → get_or (no_bits n) i 0 ≡ 0
zeros zero i = refl
zeros (suc n) zero = refl
zeros (suc n) (suc i) = zeros n i

has-zeros : (n z : ℕ) → has_state (no_bits n) z ≡ false
has-zeros n z = ap (λ w. bit_at w (z % 32) == 1) (zeros n (z / 32)) ∙ ap (λ b. b == 1) (bit_at-zero (z % 32))

pub has-bits_of : (width z : ℕ) (states : List ℕ) → Fit width states → has_state (bits_of width states) z ≡ list_any (eqb z) states
has-bits_of width z states fit =
    has-added z states (replicate width 0) (subst (λ n. Fit n states) (sym (length-replicate width 0)) fit)
    ∙ ap (λ b. list_any (eqb z) states || b) (has-zeros width z) ∙ or_false (list_any (eqb z) states)

pub length-bits_of : (width : ℕ) (states : List ℕ) → length (bits_of width states) ≡ width
length-bits_of width states = length-added states (replicate width 0) ∙ length-replicate width 0

-- ---- the numbers that have something

last_or_before : (z count : ℕ) (it : Bool) → (it ≡ true → z ≡ count) → (it ≡ false → z ≢ count) → z < suc count → (z ≡ count) ⊎ (z < count)
last_or_before z count true same apart within = inl (same refl)
last_or_before z count false same apart within = inr (omega (arith, within, apart refl))

abbrev Below : ℕ → ℕ → Type 0
Below x y = x < y

ascends_front : (xs : List ℕ) (last : ℕ) → Ascends Below (xs ++ last ∷ []) → Ascends Below xs
ascends_front [] last a = tt
ascends_front (x ∷ xs) last a = ((λ y m. a.0 y (Member-append_left y xs (last ∷ []) m)), ascends_front xs last a.1)

ascends_to : (xs : List ℕ) (last : ℕ) → Ascends Below xs → ((y : ℕ) → Member y xs → y < last) → Ascends Below (xs ++ last ∷ [])
ascends_to [] last a below = ((λ y m. absurd m), tt)
ascends_to (x ∷ xs) last a below = (
  (λ y m. ⊎_elim (a.0 y) (λ end. ⊎_elim (λ e. subst (λ n. x < n) (sym e) (below x (inl refl))) (λ none. absurd none) end) (Member-append y xs (last ∷ []) m)),
  ascends_to xs last a.1 (λ y m. below y (inr m)),
)

module _ (has : ℕ → Bool) where
  from_one_more : (z count : ℕ) (it : Bool) → has count ≡ it → (Member z (states_below has count) → (z < count) × (has z ≡ true))
      → Member z (cond it (states_below has count ++ count ∷ []) (states_below has count)) → (z < suc count) × (has z ≡ true)
  from_one_more z count true is before m =
      ⊎_elim (λ here. (omega (arith, (before here).0), (before here).1))
      (λ last. ⊎_elim (λ e. (omega (arith, e), ap has e ∙ is)) (λ none. absurd none) last)
      (Member-append z (states_below has count) (count ∷ []) m)
  from_one_more z count false is before m = (omega (arith, (before m).0), (before m).1)

  pub from_below : (z count : ℕ) → Member z (states_below has count) → (z < count) × (has z ≡ true)
  from_below z zero m = absurd m
  from_below z (suc count) m = from_one_more z count (has count) refl (from_below z count) m

  to_one_more : (z count : ℕ) (it : Bool) → has count ≡ it → (z < count → Member z (states_below has count)) → z < suc count → has z ≡ true → (z ≡ count) ⊎ (z < count)
      → Member z (cond it (states_below has count ++ count ∷ []) (states_below has count))
  to_one_more z count true is before within e (inl same) = Member-append_right z (states_below has count) (count ∷ []) (inl same)
  to_one_more z count true is before within e (inr less) = Member-append_left z (states_below has count) (count ∷ []) (before less)
  to_one_more z count false is before within e (inl same) = absurd (true≢false (sym e ∙ ap has same ∙ is))
  to_one_more z count false is before within e (inr less) = before less

  pub to_below : (z count : ℕ) → z < count → has z ≡ true → Member z (states_below has count)
  to_below z zero within e = absurd (omega (arith, within))
  to_below z (suc count) within e =
      to_one_more z count (has count) refl (λ less. to_below z count less e) within e (last_or_before z count (eqb z count) (eqb-true z count) (eqb-false z count) within)

  one_more_below : (count : ℕ) (it : Bool) → Ascends Below (states_below has count) → Ascends Below (cond it (states_below has count ++ count ∷ []) (states_below has count))
  one_more_below count true a = ascends_to (states_below has count) count a (λ y m. (from_below y count m).0)
  one_more_below count false a = a

  pub below_ascend : (count : ℕ) → Ascends Below (states_below has count)
  below_ascend zero = tt
  below_ascend (suc count) = one_more_below count (has count) (below_ascend count)

-- ---- what bits are read as

pub in_ascend : (words : List ℕ) → AllPairs Below (states_in words)
in_ascend words = pairs_from_Ascends Below (states_in words) (below_ascend (has_state words) (32 * length words))

member_fits : (width z : ℕ) (states : List ℕ) → Fit width states → Member z states → z / 32 < width
member_fits width z states fit m =
    let place = place_of states z m in
    subst (λ n. n / 32 < width) (sym (place.2 0)) (fit place.0 0 place.1)

pub read_back : (width : ℕ) (states : List ℕ) → Fit width states → AllPairs Below states → states_in (bits_of width states) ≡ states
read_back width states fit pairs =
    let words = bits_of width states in
    let has = has_state words in
    set_is_one (states_in words) states (in_ascend words) (λ z. (
      (λ among. IsAmong-from_Member states z (listed z states (sym (has-bits_of width z states fit) ∙ (from_below has z (32 * length words) (Member-from_IsAmong (states_in words) z among)).1))),
      (λ among. let m = Member-from_IsAmong states z among in
          let within = member_fits width z states fit m in
          IsAmong-from_Member (states_in words) z (to_below has z (32 * length words) (omega (arith, within, length-bits_of width states)) (has-bits_of width z states fit ∙ tested z states m))),
    ))
    ∙ sym (set_is_one states states pairs (λ z. ((λ here. here), (λ here. here))))

up_to_last : (states : List ℕ) → AllPairs Below states → (i : ℕ) → i < length states → (last : Bool) → (last ≡ true → i ≡ length states - 1) → (last ≡ false → i ≢ length states - 1)
    → get_or states i 0 ≤ get_or states (length states - 1) 0
up_to_last states pairs i within true same apart = subst (λ n. get_or states i 0 ≤ get_or states n 0) (same refl) (omega arith)
up_to_last states pairs i within false same apart =
    let below : get_or states i 0 < get_or states (length states - 1) 0 = pairs i (length states - 1) 0 (omega (arith, within, apart refl)) (omega (arith, within)) in
    omega (arith, below)

pub ascending_fit : (states : List ℕ) → AllPairs Below states → Fit (width_of states) states
ascending_fit states pairs = All-from_get_or (λ (state : ℕ). state / 32 < width_of states) states 0 (λ i within.
    let last = length states - 1 in
    let no_more = up_to_last states pairs i within (eqb i last) (eqb-true i last) (eqb-false i last) in
    let fits : get_or states i 0 / 32 < get_or states last 0 / 32 + 1 = omega (arith, no_more) in fits)

-- all of them have what each that is listed has
pub state_has : (P : ℕ → Type 0) (words : List ℕ) (state : ℕ) → state < 32 * length words → has_state words state ≡ true → All P (states_in words) → P state
state_has P words state within e all =
    let place = place_of (states_in words) state (to_below (has_state words) state (32 * length words) within e) in
    subst P (sym (place.2 0)) (all place.0 0 place.1)

or_true : (a b : Bool) → b ≡ true → (a || b) ≡ true
or_true true b e = refl
or_true false b e = e

some_member : (p : ℕ → Bool) (z : ℕ) (states : List ℕ) → Member z states → p z ≡ true → list_any p states ≡ true
some_member p z [] m e = absurd m
some_member p z (state ∷ states) (inl same) e = ap (λ b. b || list_any p states) (ap p (sym same) ∙ e)
some_member p z (state ∷ states) (inr m) e = or_true (p state) (list_any p states) (some_member p z states m e)

pub some_state : (p : ℕ → Bool) (words : List ℕ) (state : ℕ) → state < 32 * length words → has_state words state ≡ true → p state ≡ true → list_any p (states_in words) ≡ true
some_state p words state within e accepts = some_member p state (states_in words) (to_below (has_state words) state (32 * length words) within e) accepts

next_number : (state : ℕ) → suc state ≡ state + 1
next_number state = omega arith

-- one number more
pub one_more_in : (has : ℕ → Bool) (state : ℕ) → has state ≡ true → states_below has state ++ state ∷ [] ≡ states_below has (state + 1)
one_more_in has state e =
    sym (ap (λ it. cond it (states_below has state ++ state ∷ []) (states_below has state)) e) ∙ ap (states_below has) (next_number state)

-- what a row's states have, with one more
pub more_have : (P : ℕ → Type 0) (states : List ℕ) (state : ℕ) → All P states → P state → All P (states ++ state ∷ [])
more_have P states state all one = All-append P states (state ∷ []) all (All-cons P state [] one (All-nil P))

-- words that were lent out and written back have the bits of the states that were added
pub written_back : (width : ℕ) (states : List ℕ) {fresh lent added : List ℕ} → fresh ≡ replicate width 0 → lent ≡ fresh → added ≡ fold with_state lent states
    → take (length fresh) (added ++ drop (length added) fresh) ≡ bits_of width states
written_back width states {fresh} {lent} {added} clear same is =
    let as_long : length added ≡ length fresh = ap length is ∙ length-added states lent ∙ ap length same in
    let none_after : drop (length added) fresh ≡ [] = nil_from_length (drop (length added) fresh) (omega (arith, length-drop (length added) fresh, as_long)) in
    ap (λ after. take (length fresh) (added ++ after)) none_after ∙ ap (take (length fresh)) (append-nil added) ∙ take_all (length fresh) added (omega (arith, as_long))
    ∙ is ∙ ap (λ words. fold with_state words states) (same ∙ clear)

pub fits_kept : {states given measured : List ℕ} {width : ℕ} → AllPairs Below states → given ≡ states → measured ≡ states → width ≡ width_of measured → Fit width given
fits_kept {states} {given} {measured} {width} pairs same as_well is =
    let fit : Fit width states = subst (λ n. Fit n states) (sym (is ∙ ap width_of as_well)) (ascending_fit states pairs) in
    subst (λ (listed : List ℕ). Fit width listed) (sym same) fit

-- ---- the form in which a set is kept

abbrev pub kept_if : Bool → List ℕ → List ℕ
kept_if dense states = if dense then bits_of (width_of states) states else states

unpacked : (dense : Bool) (states : List ℕ) → AllPairs Below states → states_kept dense (kept_if dense states) ≡ states
unpacked true states pairs = read_back (width_of states) states (ascending_fit states pairs) pairs
unpacked false states pairs = refl

pub states_are : {dense : Bool} {held : List ℕ} (states : List ℕ) → AllPairs Below states → dense ≡ is_dense states → held ≡ kept states → states_kept dense held ≡ states
states_are {dense} {held} states pairs form one =
    ap (states_kept dense) one ∙ ap (λ d. states_kept d (kept states)) form ∙ unpacked (is_dense states) states pairs

pub is_kept : {dense : Bool} {held : List ℕ} (states : List ℕ) → AllPairs Below states → dense ≡ is_dense states → held ≡ kept states → (dense ≡ true → length held ≤ 2 ^ 27) → IsKept dense held
is_kept states pairs form one width =
    let same = sym (states_are states pairs form one) in
    record { form = form ∙ ap is_dense same; one = one ∙ ap kept same; ascends = subst (λ states. AllPairs Below states) same pairs; width = width }

pub set_ascending : {xs : List ℕ} (states : List ℕ) → xs ≡ set_of states → AllPairs Below xs
set_ascending states is = subst (λ (listed : List ℕ). AllPairs Below listed) (sym is) (set_ascends states)

-- without its last state, a list ascends, too
pub front_ascends : (others : List ℕ) (last : ℕ) → AllPairs Below (others ++ last ∷ []) → AllPairs Below others
front_ascends others last pairs = pairs_from_Ascends Below others (ascends_front others last (Ascends-from_pairs Below (others ++ last ∷ []) pairs))

-- what is left of a set's list without its last state ascends
pub popped_ascends : {held of states : List ℕ} (others : List ℕ) (last : ℕ) → AllPairs Below held → held ≡ of → states ≡ of → states ≡ others ++ last ∷ [] → AllPairs Below others
popped_ascends {held} {of} {states} others last pairs is same popped =
    front_ascends others last (subst (λ (listed : List ℕ). AllPairs Below listed) (is ∙ sym same ∙ popped) pairs)
