-- What is drawn, and the steps that it adds.
use Rattle.std.proofs.Common.{◌≡◌, ℕ, zero, suc, ◌+◌, ◌-◌, ◌*◌, ◌≤◌, ◌==◌, Bool, true, false, Option, Some, None, Result, Ok, Err, IfOk, if◌then◌else◌, [], ◌++◌, length, map, refl, ap, subst, ◌∙◌, arith}
use Rattle.dcv_syntax.specs.declared.names.Span.{Span}
use Rattle.dcv_syntax.specs.declared.propositions.Connective.{Connective}
use Rattle.dcv_core.specs.Core.{CoreTree}
use Rattle.dcv_core.specs.Steps.{PlainOp, steps_before, steps_from, steps_of, without_core, PlainCore, Pushed}
use Rattle.dcv_core.proofs.MadeSteps.{made_length, IsOne, made_one, IsTwo, made_two, joined_is_two, chop_is_two}
use Rattle.dcv_sweep.specs.Draw.{next_draw, drawn}
use Rattle.dcv_sweep.specs.DrawnCores.{Drawn, nowhere, over_one, over_two, operation_of, drawn_core, drawn_formula}
use Rattle.dcv_sweep.specs.Making.{join_of, join_op, Adds, most_steps}

-- ---- how many steps there are at most

abbrev IsSmall : ℕ → Drawn CoreTree → Type 0
IsSmall most tree = suc (steps_before tree.made) ≤ most

abbrev AreSmall : ℕ → (ℕ → ℕ → Drawn CoreTree) → Type 0
AreSmall most operand = (slots state : ℕ) → IsSmall most (operand slots state)

-- of each kind
choose : (most : ℕ) (b : Bool) (x y : Drawn CoreTree) → IsSmall most x → IsSmall most y → IsSmall most (if b then x else y)
choose most true x y first second = first
choose most false x y first second = second

operation_small : (kind most : ℕ) (operand : ℕ → ℕ → Drawn CoreTree) (slots state : ℕ) → AreSmall most operand → IsSmall (suc (2 * most)) (operation_of kind operand slots state)
operation_small kind most operand slots state small =
    let one = small slots state in
    let two = small slots (operand slots state).after in
    let deeper = small (slots + 1) state in
    choose _ (kind == 0) _ _ (omega arith)
    (choose _ (kind == 1) _ _ (omega (arith, one))
    (choose _ (kind == 2) _ _ (omega (arith, one, two))
    (choose _ (kind == 3) _ _ (omega (arith, one, two))
    (choose _ (kind == 4) _ _ (omega (arith, one, two))
    (choose _ (kind == 5) _ _ (omega (arith, one))
    (choose _ (kind == 6) _ _ (omega (arith, deeper)) (omega (arith, one, two))))))))

drawn_small : (depth slots state : ℕ) → IsSmall (most_steps depth) (drawn_core depth slots state)
drawn_small zero slots state = omega arith
drawn_small (suc depth) slots state = operation_small (drawn 8 (next_draw state)) (most_steps depth) (drawn_core depth) slots (next_draw state) (drawn_small depth)

-- how many steps there are then
pub drawn_length : (depth slots state : ℕ) {old new : PlainCore} {after last : ℕ} → Adds old slots (drawn_core depth slots state) new after last
    → length new.steps ≤ length old.steps + most_steps depth
drawn_length depth slots state adds = omega (arith, made_length adds.made, drawn_small depth slots state)

-- a depth that is not 0
pub one_deeper : (depth slots state : ℕ) → ¬ (depth ≡ 0)
    → operation_of (drawn 8 (next_draw state)) (drawn_core (depth - 1)) slots (next_draw state) ≡ drawn_core depth slots state
one_deeper zero slots state some = absurd (some refl)
one_deeper (suc depth) slots state some =
    let less : suc depth - 1 ≡ depth = omega arith in
    ap (λ d. operation_of (drawn 8 (next_draw state)) (drawn_core d) slots (next_draw state)) less

pub most_one_deeper : (depth : ℕ) → ¬ (depth ≡ 0) → most_steps depth ≡ suc (2 * most_steps (depth - 1))
most_one_deeper zero some = absurd (some refl)
most_one_deeper (suc depth) some =
    let less : depth ≡ suc depth - 1 = omega arith in
    ap (λ d. suc (2 * most_steps d)) less

-- ---- steps

pub adds_one : {make : CoreTree → Span → CoreTree} {op : ℕ → PlainOp} {deeper : ℕ → ℕ} → IsOne make op deeper
    → {old middle new : PlainCore} {slots operand after last : ℕ} {tree : Drawn CoreTree}
    → Adds old (deeper slots) tree middle after operand → Pushed middle (op operand) nowhere slots new last → Adds old slots (over_one make tree) new after last
adds_one is adds pushed = record { made = made_one is adds.made pushed; state_is = adds.state_is }

join_is_two : (join : Option Connective) → IsTwo (join_of join) (join_op join)
join_is_two (Some connective) = joined_is_two connective
join_is_two None = chop_is_two

pub adds_two : {E : Type 0} (r : Result ℕ E) (join : Option Connective) (old one two new : PlainCore) (slots depth first second state middle after : ℕ) (op : PlainOp)
    → Adds old slots (drawn_core depth slots state) one middle first → Adds one slots (drawn_core depth slots middle) two after second
    → op ≡ join_op join first second → IfOk r (Pushed two op nowhere slots new)
    → IfOk r (Adds old slots (over_two (join_of join) (drawn_core depth slots) state) new after)
adds_two (Ok last) join old one two new slots depth first second state middle after op adds_first adds_second joins pushed =
    let later : Adds one slots (drawn_core depth slots (drawn_core depth slots state).after) two after second =
    subst (λ s. Adds one slots (drawn_core depth slots s) two after second) adds_first.state_is adds_second in
    record {
      made = made_two (join_is_two join) adds_first.made later.made (subst (λ o. Pushed two o nowhere slots new last) joins pushed);
      state_is = later.state_is;
    }
adds_two (Err e) join old one two new slots depth first second state middle after op adds_first adds_second joins pushed = tt

-- the same under another name
pub adds_same : {old new : PlainCore} {slots after last : ℕ} {x y : Drawn CoreTree} → x ≡ y → Adds old slots x new after last → Adds old slots y new after last
adds_same {old} {new} {slots} {after} {last} same adds = subst (λ tree. Adds old slots tree new after last) same adds

-- ---- the whole formula

pub steps_of_formula : (state : ℕ) {old new : PlainCore} {after last : ℕ} → old ≡ record { declared = 3; steps = [] } → Adds old 3 (drawn_core 3 3 state) new after last
    → (new.declared ≡ 3) × (new.steps ≡ map without_core (steps_of 3 (drawn_formula state).made)) × (after ≡ (drawn_formula state).after)
unfolding drawn_formula
steps_of_formula state {old} {new} empty adds =
    let tree = (drawn_core 3 3 state).made in
    let none : length old.steps ≡ 0 = ap (λ (c : PlainCore). length c.steps) empty in
    let made : new ≡ record old { steps = old.steps ++ map without_core (steps_from (length old.steps) 3 tree) } = adds.made.added in (
      ap (λ (c : PlainCore). c.declared) made ∙ ap (λ (c : PlainCore). c.declared) empty,
      ap (λ (c : PlainCore). c.steps) made ∙ (λ i. (empty i).steps ++ map without_core (steps_from (none i) 3 tree)),
      adds.state_is,
    )
