-- The answer of a node is the first of those of its children.
use Rattle.std.proofs.Common.{◌≡◌, ℕ, zero, suc, ◌+◌, ◌-◌, ◌*◌, ◌^◌, ◌<◌, ◌≤◌, ltb, Bool, true, false, ◌||◌, cond, List, [], ◌∷◌, ◌++◌, length, get_or, Option, Some, None, IfSome, refl, ap, sym, ◌∙◌, subst, arith}
use Rattle.std.proofs.lemmas.Bool.{ltb-true, ltb-false, or_left, or_right, or_from}
use Rattle.std.proofs.lemmas.List.{get_or_append_left, get_or_push}
use Rattle.std.proofs.Math.Nat.{pow-le-pow_right}
use Rattle.dcv_word.specs.Letter.{bits_of}
use Rattle.dcv_word.proofs.Bits.{bits_of-lt}
use Rattle.dcv_language.specs.Operations.{some_track}
use Rattle.dcv_arena.specs.Arena.{ArenaValue, IsBefore, level_of, value_of}
use Rattle.dcv_arena.specs.declared.nodes.Ref.{Ref}
use Rattle.dcv_arena.specs.declared.nodes.Ref.TheVariants.{Leaf, Place}
use Rattle.dcv_synth.specs.Tracks.{least_track}
use Rattle.dcv_synth.specs.Answered.{won_at, leads_in, IsLeast, IsAnswerBehind, IsAnswer, first_of, answer_at, AreAnswers}
use Rattle.dcv_synth.specs.declared.answers.Answer.{Answer}
use Rattle.dcv_synth.proofs.Tracks.{least-length}
use Rattle.dcv_synth.proofs.Forced.{IsNode, length-push, push-append, value-at}

-- after a front that goes on by a value, the root's rests are those of a ref that has its numbers there
pub record IsSide (arena : ArenaValue) (win : List Bool) (root side : Ref) (front : List Bool) (value : Bool) : Type 0 where
  pub same : (rest : List Bool) → value_of arena root (front ++ value ∷ rest) ≡ value_of arena side ((front ++ value ∷ []) ++ rest)

module _ (arena : ArenaValue) (win : List Bool) (root lo hi : Ref) (front : List Bool) (count : ℕ)
    (low : IsSide arena win root lo front false) (high : IsSide arena win root hi front true) where
  abbrev below : List Bool → Bool
  below = leads_in arena win lo (front ++ false ∷ [])

  abbrev above : List Bool → Bool
  above = leads_in arena win hi (front ++ true ∷ [])

  abbrev whole : List Bool → Bool
  whole = leads_in arena win root front

  below_is : ◌≡◌ {A = List Bool → Bool} (λ rest. whole (false ∷ rest)) below
  below_is = λ i rest. won_at win (low.same rest i)

  above_is : ◌≡◌ {A = List Bool → Bool} (λ rest. whole (true ∷ rest)) above
  above_is = λ i rest. won_at win (high.same rest i)

  some_is : some_track (suc count) whole ≡ (some_track count below || some_track count above)
  some_is = λ i. some_track count (below_is i) || some_track count (above_is i)

  least_is : least_track (suc count) whole ≡ cond (some_track count below) (false ∷ least_track count below) (true ∷ least_track count above)
  least_is = λ i. cond (some_track count (below_is i)) (false ∷ least_track count (below_is i)) (true ∷ least_track count (above_is i))

  -- the side of false has an answer
  pub answered_low : (answer : Answer) → IsLeast arena win lo (front ++ false ∷ []) count answer → IsLeast arena win root front (suc count) answer
  answered_low answer is =
      let least : least_track (suc count) whole ≡ false ∷ least_track count below =
      least_is ∙ ap (λ b. cond b (false ∷ least_track count below) (true ∷ least_track count above)) is.some in
      let zeros : bits_of (false ∷ least_track count below) ≡ bits_of (least_track count below) = omega arith in
      record {
        some = some_is ∙ or_left (some_track count below) (some_track count above) is.some;
        output = ap bits_of least ∙ zeros ∙ is.output;
        next = ap (λ rest. value_of arena root (front ++ rest)) least ∙ low.same (least_track count below) ∙ is.next;
      }

  -- only the side of true has
  pub answered_high : (answer : Answer) (weight : ℕ) → weight ≡ 2 ^ count → some_track count below ≡ false → IsLeast arena win hi (front ++ true ∷ []) count answer
      → IsLeast arena win root front (suc count) (record { output = answer.output + weight; next = answer.next })
  answered_high answer weight at none is =
      let least : least_track (suc count) whole ≡ true ∷ least_track count above =
      least_is ∙ ap (λ b. cond b (false ∷ least_track count below) (true ∷ least_track count above)) none in
      let size = least-length count above in
      let first : bits_of (true ∷ least_track count above) ≡ 2 ^ count + bits_of (least_track count above) = ap (λ n. 2 ^ n + bits_of (least_track count above)) size in
      let output = is.output in
      record {
        some = some_is ∙ or_right (some_track count below) (some_track count above) is.some;
        output = ap bits_of least ∙ first ∙ omega (arith, output, at);
        next = ap (λ rest. value_of arena root (front ++ rest)) least ∙ high.same (least_track count above) ∙ is.next;
      }

  pub answered_none : some_track count below ≡ false → some_track count above ≡ false → some_track (suc count) whole ≡ false
  answered_none none other = some_is ∙ or_from (some_track count below) (some_track count above) none other

-- ---- a node

module _ (arena : ArenaValue) (win : List Bool) (place slot : ℕ) (lo hi : Ref) (a b : Option Answer) (weight : ℕ)
    (node : IsNode arena place slot lo hi) (lo_is : IsAnswer arena win lo a) (hi_is : IsAnswer arena win hi b) (weighs : weight ≡ 2 ^ (arena.slots - 1 - slot)) where
  child : (front : List Bool) (value : Bool) → slot ≡ length front → IsSide arena win (Place place) (cond value hi lo) front value
  child front value at = record { same = λ rest. by value rest }
    where
      by : (value : Bool) (rest : List Bool) → value_of arena (Place place) (front ++ value ∷ rest) ≡ value_of arena (cond value hi lo) ((front ++ value ∷ []) ++ rest)
      by false rest =
          node.value (front ++ false ∷ rest)
          ∙ ap (λ x. cond x (value_of arena hi (front ++ false ∷ rest)) (value_of arena lo (front ++ false ∷ rest)))
          (ap (λ s. get_or (front ++ false ∷ rest) s false) at ∙ value-at front false rest)
          ∙ ap (value_of arena lo) (sym (push-append front false rest))
      by true rest =
          node.value (front ++ true ∷ rest)
          ∙ ap (λ x. cond x (value_of arena hi (front ++ true ∷ rest)) (value_of arena lo (front ++ true ∷ rest)))
          (ap (λ s. get_or (front ++ true ∷ rest) s false) at ∙ value-at front true rest)
          ∙ ap (value_of arena hi) (sym (push-append front true rest))

  itself : (front : List Bool) (value : Bool) → IsSide arena win (Place place) (Place place) front value
  itself front value = record { same = λ rest. ap (value_of arena (Place place)) (sym (push-append front value rest)) }

  at_slot : (front : List Bool) (count : ℕ) → length front + suc count ≡ arena.slots → slot ≡ length front
      → IsAnswerBehind arena win (Place place) front (suc count) (first_of a b weight)
  at_slot front count size at =
      by a b
      (lo_is (front ++ false ∷ []) count (omega (arith, size, length-push front false)) (omega (arith, at, length-push front false, node.lo_level)))
      (hi_is (front ++ true ∷ []) count (omega (arith, size, length-push front true)) (omega (arith, at, length-push front true, node.hi_level)))
    where
      by : (x y : Option Answer) → IsAnswerBehind arena win lo (front ++ false ∷ []) count x → IsAnswerBehind arena win hi (front ++ true ∷ []) count y
          → IsAnswerBehind arena win (Place place) front (suc count) (first_of x y weight)
      by (Some x) y low high = answered_low arena win (Place place) lo hi front count (child front false at) (child front true at) x low
      by None (Some y) low high =
          let worth : arena.slots - 1 - slot ≡ count = omega (arith, size, at) in
          answered_high arena win (Place place) lo hi front count (child front false at) (child front true at) y weight (weighs ∙ ap (λ n. 2 ^ n) worth) low high
      by None None low high = answered_none arena win (Place place) lo hi front count (child front false at) (child front true at) low high

  answer_behind : (before : ℕ) (front : List Bool) (count : ℕ) → length front + count ≡ arena.slots → length front + before ≡ slot
      → IsAnswerBehind arena win (Place place) front count (first_of a b weight)
  answer_behind before front zero size at = absurd (omega (arith, node.inner))
  answer_behind zero front (suc count) size at = at_slot front count size (omega arith)
  answer_behind (suc before) front (suc count) size at =
      by (first_of a b weight) (λ value. answer_behind before (front ++ value ∷ []) count (omega (arith, length-push front value)) (omega (arith, length-push front value)))
    where
      by : (x : Option Answer) → ((value : Bool) → IsAnswerBehind arena win (Place place) (front ++ value ∷ []) count x)
          → IsAnswerBehind arena win (Place place) front (suc count) x
      by (Some x) go = answered_low arena win (Place place) (Place place) (Place place) front count (itself front false) (itself front true) x (go false)
      by None go = answered_none arena win (Place place) (Place place) (Place place) front count (itself front false) (itself front true) (go false) (go true)

  pub node_answer : IsAnswer arena win (Place place) (first_of a b weight)
  node_answer front count size level = answer_behind (slot - length front) front count size (omega (arith, level, node.slot_is))

-- ---- a leaf

some-always : (count : ℕ) (b : Bool) → some_track count (λ rest. b) ≡ b
some-always zero b = refl
some-always (suc count) b = (λ i. some-always count b i || some-always count b i) ∙ same b
  where
    same : (x : Bool) → (x || x) ≡ x
    same true = refl
    same false = refl

least-always : (count : ℕ) → bits_of (least_track count (λ rest. true)) ≡ 0
least-always zero = refl
least-always (suc count) =
    let first : least_track (suc count) (λ rest. true) ≡ false ∷ least_track count (λ rest. true) =
    ap (λ b. cond b (false ∷ least_track count (λ rest. true)) (true ∷ least_track count (λ rest. true))) (some-always count true) in
    let rest = least-always count in
    ap bits_of first ∙ omega (arith, rest)

pub leaf_answer : (arena : ArenaValue) (win : List Bool) (answers : List (Option Answer)) (state : ℕ) → IsAnswer arena win (Leaf state) (answer_at win answers (Leaf state))
leaf_answer arena win answers state front count size level = by (won_at win state) refl
  where
    by : (b : Bool) → won_at win state ≡ b → IsAnswerBehind arena win (Leaf state) front count (cond b (Some (record { output = 0; next = state })) None)
    by true e = record {
      some = some-always count (won_at win state) ∙ e;
      output = (λ i. bits_of (least_track count (λ rest. e i))) ∙ least-always count;
      next = refl;
    }
    by false e = some-always count (won_at win state) ∙ e

-- an answer's number is below what the slot above counts
abbrev zeros : (count : ℕ) → List Bool
zeros zero = []
zeros (suc count) = false ∷ zeros count

length-zeros : (count : ℕ) → length (zeros count) ≡ count
length-zeros zero = refl
length-zeros (suc count) = ap suc (length-zeros count)

pub answer_fits : (arena : ArenaValue) (win : List Bool) (root : Ref) (slot : ℕ) (answer : Option Answer) (weight : ℕ) → arena.slots ≤ 32 → slot < arena.slots
    → slot < level_of arena root → weight ≡ 2 ^ (arena.slots - 1 - slot) → IsAnswer arena win root answer → IfSome answer (λ a. a.output + weight < 2 ^ 32)
answer_fits arena win root slot None weight few inner level at is = tt
answer_fits arena win root slot (Some answer) weight few inner level at is =
    let rest = arena.slots - 1 - slot in
    let front = zeros (suc slot) in
    let size = length-zeros (suc slot) in
    let found = is front rest (omega (arith, size, inner)) (omega (arith, size, level)) in
    let least = least_track rest (leads_in arena win root front) in
    let small = bits_of-lt least in
    let wide : 2 ^ length least ≡ 2 ^ rest = ap (λ n. 2 ^ n) (least-length rest (leads_in arena win root front)) in
    let output = found.output in
    let below : suc rest ≤ 32 = omega (arith, few, inner) in
    let double : 2 ^ suc rest ≤ 2 ^ 32 = pow-le-pow_right (omega arith) below in
    let twice : 2 ^ suc rest ≡ 2 * 2 ^ rest = omega arith in
    omega (arith, small, wide, output, at, double, twice)

-- ---- lists

pub ref_answer : (arena : ArenaValue) (win : List Bool) (answers : List (Option Answer)) (root : Ref) → AreAnswers arena win answers → IsBefore (length answers) root
    → IsAnswer arena win root (answer_at win answers root)
ref_answer arena win answers (Leaf state) are before = leaf_answer arena win answers state
ref_answer arena win answers (Place place) are before = are place before

pub no_answers : (arena : ArenaValue) (win : List Bool) (answers : List (Option Answer)) → answers ≡ [] → AreAnswers arena win answers
no_answers arena win answers none place within = absurd (omega (arith, within, ap length none))

pub answers_more : (arena : ArenaValue) (win : List Bool) (answers : List (Option Answer)) (place : ℕ) (is : Option Answer) → AreAnswers arena win answers → length answers ≡ place
    → IsAnswer arena win (Place place) is → AreAnswers arena win (answers ++ is ∷ [])
answers_more arena win answers place is are count here other within = by (ltb other (length answers)) refl
  where
    longer : (xs : List (Option Answer)) → length (xs ++ is ∷ []) ≡ suc (length xs)
    longer [] = refl
    longer (x ∷ xs) = ap suc (longer xs)

    by : (b : Bool) → ltb other (length answers) ≡ b → IsAnswer arena win (Place other) (get_or (answers ++ is ∷ []) other None)
    by true e =
        let earlier = ltb-true other (length answers) e in
        subst (IsAnswer arena win (Place other)) (sym (get_or_append_left answers (is ∷ []) None other earlier)) (are other earlier)
    by false e =
        let same : length answers ≡ other = omega (arith, within, longer answers, ltb-false other (length answers) e) in
        subst (λ answer. IsAnswer arena win (Place other) answer) (sym (get_or_push answers is None other same))
        (subst (λ at. IsAnswer arena win (Place at) is) (sym count ∙ same) here)

pub answers_longer : (answers : List (Option Answer)) (is : Option Answer) → length (answers ++ is ∷ []) ≡ suc (length answers)
answers_longer [] is = refl
answers_longer (x ∷ answers) is = ap suc (answers_longer answers is)
