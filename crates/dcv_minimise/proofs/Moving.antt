-- A list whose element at one place is moved to the front.
--     IsMoved place number class     what stands at `number` in the new list stood at `class` in the old one
use Rattle.std.proofs.Common.{◌≡◌, ◌≢◌, ℕ, zero, suc, ◌+◌, ◌<◌, List, [], ◌∷◌, length, get_or, drop, remove, ⊎_elim, refl, ap, sym, ◌∙◌, subst, arith}
use Rattle.std.proofs.lemmas.Bool.{cases_lt, cases_order}
use Rattle.std.proofs.lemmas.List.{get_or_default}
use Rattle.std.proofs.lemmas.List.Edits.{length-remove, get_or-remove_below, get_or-remove_above}

-- after the first element
pub behind_first : {X : Type 0} (xs : List X) (place : ℕ) (d : X) → get_or (drop 1 xs) place d ≡ get_or xs (suc place) d
behind_first [] place d = refl
behind_first (x ∷ xs) place d = refl

pub data IsMoved (place number class : ℕ) : Type 0 where
  Moved : number ≡ 0 → class ≡ place → IsMoved place number class
  Earlier : number ≡ suc class → class < place → IsMoved place number class
  Later : number ≡ class → place < class → IsMoved place number class

-- where it stood, and where it stands
pub record HasClass (place count number : ℕ) : Type 0 where
  pub class : ℕ
  pub within : class < count
  pub is : IsMoved place number class

pub record HasNumberOf (place count class : ℕ) : Type 0 where
  pub number : ℕ
  pub within : number < count
  pub is : IsMoved place number class

pub class_of : (place count number : ℕ) → place < count → number < count → HasClass place count number
class_of place count zero inside within = record { class = place; within = inside; is = Moved refl refl }
class_of place count (suc number) inside within = ⊎_elim
    (λ less. record { class = number; within = omega arith; is = Earlier refl less })
    (λ more. record { class = suc number; within = within; is = Later refl (omega arith) })
    (cases_lt number place)

pub number_of : (place count class : ℕ) → place < count → class < count → HasNumberOf place count class
number_of place count class inside within = ⊎_elim
    (λ same. record { number = 0; within = omega arith; is = Moved refl same })
    (λ s. ⊎_elim
    (λ less. record { number = suc class; within = omega arith; is = Earlier refl less })
    (λ more. record { number = class; within = within; is = Later refl more }) s)
    (cases_order class place)

-- the moved list keeps the order of the others, and has each once
pub moved_ascends : (place a b x y : ℕ) → IsMoved place a x → IsMoved place b y → 0 < a → a < b → x < y
moved_ascends place a b x y (Moved e f) second some less = absurd (omega arith)
moved_ascends place a b x y (Earlier e f) (Moved g h) some less = absurd (omega arith)
moved_ascends place a b x y (Earlier e f) (Earlier g h) some less = omega arith
moved_ascends place a b x y (Earlier e f) (Later g h) some less = omega arith
moved_ascends place a b x y (Later e f) (Moved g h) some less = absurd (omega arith)
moved_ascends place a b x y (Later e f) (Earlier g h) some less = omega arith
moved_ascends place a b x y (Later e f) (Later g h) some less = omega arith

pub moved_differ : (place a b x y : ℕ) → IsMoved place a x → IsMoved place b y → a < b → x ≢ y
moved_differ place a b x y (Moved e f) (Moved g h) less = λ same. omega arith
moved_differ place a b x y (Moved e f) (Earlier g h) less = λ same. omega arith
moved_differ place a b x y (Moved e f) (Later g h) less = λ same. omega arith
moved_differ place a b x y (Earlier e f) (Moved g h) less = λ same. omega arith
moved_differ place a b x y (Earlier e f) (Earlier g h) less = λ same. omega arith
moved_differ place a b x y (Earlier e f) (Later g h) less = λ same. omega arith
moved_differ place a b x y (Later e f) (Moved g h) less = λ same. omega arith
moved_differ place a b x y (Later e f) (Earlier g h) less = λ same. omega arith
moved_differ place a b x y (Later e f) (Later g h) less = λ same. omega arith

-- a later number is not that of the moved element
pub moved_other : (place number class : ℕ) → IsMoved place number class → 0 < number → class ≢ place
moved_other place number class (Moved e f) some = λ same. omega arith
moved_other place number class (Earlier e f) some = λ same. omega arith
moved_other place number class (Later e f) some = λ same. omega arith

module _ {X : Type 0} (xs : List X) (place : ℕ) (default : X) (inside : place < length xs) where
  -- the list with the element at the place in front
  abbrev pub moved : List X
  moved = get_or xs place default ∷ remove xs place

  pub length-moved : length moved ≡ length xs
  length-moved = omega (arith, length-remove xs place inside)

  pub get_or-moved : (number class : ℕ) (d : X) → IsMoved place number class → get_or moved number d ≡ get_or xs class d
  get_or-moved number class d (Moved e f) =
      subst (λ n. get_or moved n d ≡ get_or xs class d) (sym e)
      (subst (λ n. get_or xs place default ≡ get_or xs n d) (sym f) (get_or_default xs place default d inside))
  get_or-moved number class d (Earlier e f) =
      subst (λ n. get_or moved n d ≡ get_or xs class d) (sym e) (get_or-remove_below xs place d class f inside)
  get_or-moved number class d (Later e f) = behind number class e f
    where
      behind : (number class : ℕ) → number ≡ class → place < class → get_or moved number d ≡ get_or xs class d
      behind number zero e f = absurd (omega arith)
      behind number (suc c) e f =
          let next : c + 1 ≡ suc c = omega arith in
          subst (λ n. get_or moved n d ≡ get_or xs (suc c) d) (sym e)
          (get_or-remove_above xs place d c (omega arith) inside ∙ ap (λ n. get_or xs n d) next)
