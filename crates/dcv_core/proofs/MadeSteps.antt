-- The steps of an operator are made by those of its operands and one more.
use Rattle.std.proofs.Common.{◌≡◌, ℕ, suc, ◌+◌, true, List, [], ◌∷◌, ◌++◌, Result, Ok, Err, IfOk, length, map, refl, sym, ap, subst, ◌∙◌, arith}
use Rattle.std.proofs.Common.{length-append, max}
use Rattle.std.proofs.lemmas.List.{map-append, append_assoc, length-map}
use Rattle.dcv_syntax.specs.declared.names.Span.{Span}
use Rattle.dcv_syntax.specs.declared.propositions.Connective.{Connective}
use Rattle.dcv_core.specs.Core.{BasicConstant, CoreTree, CoreAtom, CoreNot, CoreJoined, CoreChop, CoreStar, CoreExists}
use Rattle.dcv_core.specs.Steps.{PlainOp, OpAtom, OpNot, OpJoined, OpChop, OpStar, OpExists, steps_before, own_step, steps_from}
use Rattle.dcv_core.specs.Steps.{CoreStep, without_core, PlainCore, Pushed, Made, HasRoom, IsChoppedRound, nesting}
use Rattle.dcv_core.proofs.StepList.{steps_from-length}

-- what follows of a result, where there is one
pub then_ok : {X E : Type 0} {P Q : X → Type 0} (r : Result X E) → IfOk r P → ((x : X) → P x → Q x) → IfOk r Q
then_ok (Ok x) h f = f x h
then_ok (Err e) h f = tt

abbrev added_steps : ℕ → ℕ → CoreTree → List CoreStep
added_steps n k core = map without_core (steps_from n k core)

added-length : (core : CoreTree) (n k : ℕ) → length (added_steps n k core) ≡ suc (steps_before core)
added-length core n k = length-map (steps_from n k core) without_core ∙ steps_from-length core n k

-- how many steps there are then
pub made_length : {old new : PlainCore} {k last : ℕ} {core : CoreTree} → Made old k core new last → length new.steps ≡ suc (length old.steps + steps_before core)
made_length {old} {new} {k} {last} {core} made =
    let of : length new.steps ≡ length (old.steps ++ added_steps (length old.steps) k core) = ap (λ (c : PlainCore). length c.steps) made.added in
    omega (arith, of, length-append old.steps (added_steps (length old.steps) k core), added-length core (length old.steps) k)

pub pushed_length : {old new : PlainCore} {op : PlainOp} {span : Span} {k last : ℕ} → Pushed old op span k new last → length new.steps ≡ suc (length old.steps)
pushed_length {old} {new} {op} {span} {k} pushed =
    let step : CoreStep = record { op = op; span = span; slots = k } in
    let of : length new.steps ≡ length (old.steps ++ step ∷ []) = ap (λ (c : PlainCore). length c.steps) pushed.added in
    omega (arith, of, length-append old.steps (step ∷ []))

-- ---- operators of one operand

pub record IsOne (make : CoreTree → Span → CoreTree) (op : ℕ → PlainOp) (deeper : ℕ → ℕ) : Type 0 where
  pub steps : (n k : ℕ) (d : CoreTree) (span : Span) → steps_from n k (make d span) ≡ steps_from n (deeper k) d ++ own_step (op (n + steps_before d)) span k (make d span) ∷ []
  pub before : (d : CoreTree) (span : Span) → steps_before (make d span) ≡ suc (steps_before d)

pub not_is_one : IsOne CoreNot OpNot (λ k. k)
not_is_one = record { steps = λ n k d span. refl; before = λ d span. refl }

pub star_is_one : IsOne CoreStar OpStar (λ k. k)
star_is_one = record { steps = λ n k d span. refl; before = λ d span. refl }

pub exists_is_one : IsOne CoreExists OpExists (λ k. k + 1)
exists_is_one = record { steps = λ n k d span. refl; before = λ d span. refl }

module _ {make : CoreTree → Span → CoreTree} {op : ℕ → PlainOp} {deeper : ℕ → ℕ} (is : IsOne make op deeper) where
  pub made_one : {old middle new : PlainCore} {k operand last : ℕ} {d : CoreTree} {span : Span} → Made old (deeper k) d middle operand → Pushed middle (op operand) span k new last
      → Made old k (make d span) new last
  made_one {old} {middle} {new} {k} {operand} {last} {d} {span} made pushed =
      let n = length old.steps in
      let xs = steps_from n (deeper k) d in
      let step : ℕ → CoreStep = λ number. record { op = op number; span = span; slots = k } in
      let lists : (old.steps ++ map without_core xs) ++ step operand ∷ [] ≡ old.steps ++ added_steps n k (make d span) =
      ap (λ number. (old.steps ++ map without_core xs) ++ step number ∷ []) made.place
      ∙ append_assoc old.steps (map without_core xs) (step (n + steps_before d) ∷ [])
      ∙ ap (λ ys. old.steps ++ ys) (sym (map-append without_core xs (own_step (op (n + steps_before d)) span k (make d span) ∷ [])))
      ∙ ap (λ ys. old.steps ++ map without_core ys) (sym (is.steps n k d span)) in
      record {
        added = pushed.added ∙ ap (λ (c : PlainCore). record c { steps = c.steps ++ step operand ∷ [] }) made.added ∙ ap (λ steps. record old { steps = steps }) lists;
        place = omega (arith, pushed.place, made_length made, is.before d span);
      }

-- ---- operators of two operands

pub record IsTwo (make : CoreTree → CoreTree → Span → CoreTree) (op : ℕ → ℕ → PlainOp) : Type 0 where
  pub steps : (n k : ℕ) (c d : CoreTree) (span : Span) → steps_from n k (make c d span)
      ≡ (steps_from n k c ++ steps_from (suc (n + steps_before c)) k d) ++ own_step (op (n + steps_before c) (suc (n + steps_before c) + steps_before d)) span k (make c d span) ∷ []
  pub before : (c d : CoreTree) (span : Span) → steps_before (make c d span) ≡ suc (suc (steps_before c + steps_before d))
  pub nested : (c d : CoreTree) (span : Span) → nesting (make c d span) ≡ max (nesting c) (nesting d)

pub joined_is_two : (connective : Connective) → IsTwo (CoreJoined connective) (OpJoined connective)
joined_is_two connective = record { steps = λ n k c d span. refl; before = λ c d span. refl; nested = λ c d span. refl }

pub chop_is_two : IsTwo CoreChop OpChop
chop_is_two = record { steps = λ n k c d span. refl; before = λ c d span. refl; nested = λ c d span. refl }

module _ {make : CoreTree → CoreTree → Span → CoreTree} {op : ℕ → ℕ → PlainOp} (is : IsTwo make op) where
  pub made_two : {old one two new : PlainCore} {k first second last : ℕ} {c d : CoreTree} {span : Span} → Made old k c one first → Made one k d two second
      → Pushed two (op first second) span k new last → Made old k (make c d span) new last
  made_two {old} {one} {two} {new} {k} {first} {second} {last} {c} {d} {span} made_c made_d pushed =
      let n = length old.steps in
      let xs = steps_from n k c in
      let ys = steps_from (suc (n + steps_before c)) k d in
      let step : ℕ → ℕ → CoreStep = λ i j. record { op = op i j; span = span; slots = k } in
      let next : length one.steps ≡ suc (n + steps_before c) = made_length made_c in
      let second_is : second ≡ suc (n + steps_before c) + steps_before d = omega (arith, made_d.place, next) in
      let one_is : one.steps ≡ old.steps ++ map without_core xs = ap (λ (p : PlainCore). p.steps) made_c.added in
      let two_is : two.steps ≡ old.steps ++ map without_core (xs ++ ys) =
      ap (λ (p : PlainCore). p.steps) made_d.added
      ∙ ap (λ m. one.steps ++ added_steps m k d) next
      ∙ ap (λ zs. zs ++ map without_core ys) one_is
      ∙ append_assoc old.steps (map without_core xs) (map without_core ys)
      ∙ ap (λ zs. old.steps ++ zs) (sym (map-append without_core xs ys)) in
      let declared : two.declared ≡ old.declared = ap (λ (p : PlainCore). p.declared) made_d.added ∙ ap (λ (p : PlainCore). p.declared) made_c.added in
      let lists : two.steps ++ step first second ∷ [] ≡ old.steps ++ added_steps n k (make c d span) =
      ap (λ zs. zs ++ step first second ∷ []) two_is
      ∙ (λ i. (old.steps ++ map without_core (xs ++ ys)) ++ step (made_c.place i) (second_is i) ∷ [])
      ∙ append_assoc old.steps (map without_core (xs ++ ys)) (step (n + steps_before c) (suc (n + steps_before c) + steps_before d) ∷ [])
      ∙ ap (λ zs. old.steps ++ zs)
      (sym (map-append without_core (xs ++ ys) (own_step (op (n + steps_before c) (suc (n + steps_before c) + steps_before d)) span k (make c d span) ∷ [])))
      ∙ ap (λ zs. old.steps ++ map without_core zs) (sym (is.steps n k c d span)) in
      record {
        added = pushed.added ∙ (λ i. record { declared = declared i; steps = lists i });
        place = omega (arith, pushed.place, made_length made_d, next, is.before c d span);
      }

-- ---- `true ^ D ^ true`

-- the three steps one after another
pub chopped_round : {old one two new : PlainCore} {before part first second last k : ℕ} {span : Span} → Pushed old (OpChop before part) span k one first
    → Made one k (CoreAtom (BasicConstant true) span) two second → Pushed two (OpChop first second) span k new last → IsChoppedRound old before part span k new last
chopped_round {old} {one} {two} {new} {before} {part} {first} {second} {last} {k} {span} pushed made again =
    let a : CoreStep = record { op = OpChop before part; span = span; slots = k } in
    let b : CoreStep = record { op = OpAtom (BasicConstant true); span = span; slots = k } in
    let c : ℕ → ℕ → CoreStep = λ i j. record { op = OpChop i j; span = span; slots = k } in
    let first_is : first ≡ length old.steps = pushed.place in
    let second_is : second ≡ suc (length old.steps) = omega (arith, made.place, pushed_length pushed) in
    let one_is : one.steps ≡ old.steps ++ a ∷ [] = ap (λ (p : PlainCore). p.steps) pushed.added in
    let two_is : two.steps ≡ one.steps ++ b ∷ [] = ap (λ (p : PlainCore). p.steps) made.added in
    let declared : two.declared ≡ old.declared = ap (λ (p : PlainCore). p.declared) made.added ∙ ap (λ (p : PlainCore). p.declared) pushed.added in
    let lists : two.steps ++ c first second ∷ [] ≡ old.steps ++ a ∷ b ∷ c (length old.steps) (suc (length old.steps)) ∷ [] =
    ap (λ zs. zs ++ c first second ∷ []) (two_is ∙ ap (λ zs. zs ++ b ∷ []) one_is ∙ append_assoc old.steps (a ∷ []) (b ∷ []))
    ∙ (λ i. (old.steps ++ a ∷ b ∷ []) ++ c (first_is i) (second_is i) ∷ [])
    ∙ append_assoc old.steps (a ∷ b ∷ []) (c (length old.steps) (suc (length old.steps)) ∷ []) in
    record {
      added = again.added ∙ (λ i. record { declared = declared i; steps = lists i });
      place = omega (arith, again.place, made_length made, pushed_length pushed);
    }

-- what they make after `true` and D
pub made_round : {old one two new : PlainCore} {k before part last : ℕ} {c d : CoreTree} {span : Span} → Made old k c one before → Made one k d two part
    → IsChoppedRound two before part span k new last → Made old k (CoreChop (CoreChop c d span) (CoreAtom (BasicConstant true) span) span) new last
made_round {old} {one} {two} {new} {k} {before} {part} {last} {c} {d} {span} made_c made_d round =
    let a : CoreStep = record { op = OpChop before part; span = span; slots = k } in
    let b : CoreStep = record { op = OpAtom (BasicConstant true); span = span; slots = k } in
    let n = length two.steps in
    let three : PlainCore = record two { steps = two.steps ++ a ∷ [] } in
    let four : PlainCore = record two { steps = (two.steps ++ a ∷ []) ++ b ∷ [] } in
    let three_length : length three.steps ≡ suc n = omega (arith, length-append two.steps (a ∷ [])) in
    let four_length : length four.steps ≡ suc (suc n) = omega (arith, length-append three.steps (b ∷ []), three_length) in
    let e : CoreStep = record { op = OpChop n (suc n); span = span; slots = k } in
    let joined : Made old k (CoreChop c d span) three n = made_two chop_is_two made_c made_d (record { added = refl; place = refl }) in
    let atom : Made three k (CoreAtom (BasicConstant true) span) four (suc n) = record { added = refl; place = omega (arith, three_length) } in
    let lists : two.steps ++ a ∷ b ∷ e ∷ [] ≡ four.steps ++ e ∷ [] =
    sym (append_assoc two.steps (a ∷ b ∷ []) (e ∷ [])) ∙ ap (λ zs. zs ++ e ∷ []) (sym (append_assoc two.steps (a ∷ []) (b ∷ []))) in
    made_two chop_is_two joined atom
    (record { added = round.added ∙ ap (λ steps. record two { steps = steps }) lists; place = omega (arith, round.place, four_length) })

-- ---- the same tree under another name

pub room_same : {old : PlainCore} {k j : ℕ} {x y : CoreTree} → HasRoom old k x → k ≡ j → x ≡ y → HasRoom old j y
room_same {old} {k} {j} {x} {y} room slots same = record {
  enough_steps = omega (arith, room.enough_steps, ap steps_before same);
  enough_slots = omega (arith, room.enough_slots, slots, ap nesting same);
}

pub made_same : {old new : PlainCore} {k j last : ℕ} {x y : CoreTree} → Made old k x new last → k ≡ j → x ≡ y → Made old j y new last
made_same {old} {new} {k} {j} {last} {x} {y} made slots same =
    subst (λ (core : CoreTree). Made old j core new last) same (subst (λ (n : ℕ). Made old n x new last) slots made)
