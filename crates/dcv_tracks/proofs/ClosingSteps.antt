-- The steps that close a goal's shifts are those of the closed tree.
use Rattle.std.proofs.Common.{◌≡◌, ℕ, suc, ◌+◌, ◌-◌, ◌<◌, List, [], ◌∷◌, ◌++◌, length, map, sym, ap, ◌∙◌, arith, length-append}
use Rattle.std.proofs.lemmas.List.{map-append, append_assoc, length-map}
use Rattle.dcv_syntax.specs.declared.propositions.Connective.TheVariants.{And}
use Rattle.dcv_core.specs.Core.{PlainBasic, CoreTree, CoreAtom, CoreJoined, CoreExists}
use Rattle.dcv_core.specs.Steps.{OpAtom, OpJoined, OpExists, PlainStep, CoreStep, without_core, steps_before, steps_from, steps_of, PlainCore, Pushed}
use Rattle.dcv_core.proofs.StepList.{steps_from-length}
use Rattle.dcv_tracks.specs.Shifting.{Shift, placed_core, shift_basic, closed_from, closed}
use Rattle.dcv_tracks.specs.ShiftSteps.{with_steps, placed_step, closed_step, closed_steps}
use Rattle.dcv_tracks.proofs.PlacedSteps.{placed_steps}

-- three steps, one after another
three_more : (xs : List PlainStep) (a b c : PlainStep) → map without_core (((xs ++ a ∷ []) ++ b ∷ []) ++ c ∷ [])
    ≡ map without_core xs ++ without_core a ∷ without_core b ∷ without_core c ∷ []
three_more xs a b c =
    ap (map without_core) (append_assoc (xs ++ a ∷ []) (b ∷ []) (c ∷ []) ∙ append_assoc xs (a ∷ []) (b ∷ c ∷ []))
    ∙ map-append without_core xs (a ∷ b ∷ c ∷ [])

module _ (k : ℕ) (all : List Shift) where
  one_closed : (slot : ℕ) (shift : Shift) (inner : CoreTree) (steps : List CoreStep) → map without_core (steps_from 0 (slot + 1) inner) ≡ steps
      → map without_core (steps_from 0 slot (CoreExists (CoreJoined And inner (CoreAtom (shift_basic k all shift slot) shift.span) shift.span) shift.span)) ≡ closed_step k all slot shift steps
  one_closed slot shift inner steps same =
      let size : length steps ≡ suc (steps_before inner) =
      ap length (sym same) ∙ length-map (steps_from 0 (slot + 1) inner) without_core ∙ steps_from-length inner 0 (slot + 1) in
      let atom : CoreStep = record { op = OpAtom (shift_basic k all shift slot); span = shift.span; slots = slot + 1 } in
      let both : ℕ → ℕ → CoreStep = λ first second. record { op = OpJoined And first second; span = shift.span; slots = slot + 1 } in
      let some : ℕ → CoreStep = λ operand. record { op = OpExists operand; span = shift.span; slots = slot } in
      let first : 0 + steps_before inner ≡ length steps - 1 = omega (arith, size) in
      let second : suc (0 + steps_before inner) + 0 ≡ length steps = omega (arith, size) in
      let third : 0 + suc (suc (steps_before inner + 0)) ≡ length steps + 1 = omega (arith, size) in
      three_more (steps_from 0 (slot + 1) inner) _ _ _
      ∙ (λ i. same i ++ atom ∷ both (first i) (second i) ∷ some (third i) ∷ [])

  pub closed_tree : (shifts : List Shift) (slot : ℕ) (core : CoreTree)
      → map without_core (steps_from 0 slot (closed_from k all slot shifts core)) ≡ closed_steps k all slot shifts (map without_core (steps_from 0 (slot + length shifts) core))
  closed_tree [] slot core = ap (λ m. map without_core (steps_from 0 m core)) (omega arith)
  closed_tree (shift ∷ shifts) slot core =
      let inner = closed_from k all (suc slot) shifts core in
      let next : slot + 1 ≡ suc slot = omega arith in
      let deeper : suc slot + length shifts ≡ slot + suc (length shifts) = omega arith in
      one_closed slot shift inner _
      (ap (λ m. map without_core (steps_from 0 m inner)) next
      ∙ closed_tree shifts (suc slot) core
      ∙ ap (λ m. closed_steps k all (suc slot) shifts (map without_core (steps_from 0 m core))) deeper)

-- ---- the steps that the code adds

pub slot_closed : (k : ℕ) (all : List Shift) (slot over : ℕ) (shift : Shift) (basic : PlainBasic) (goal track both last : ℕ) (old one two new : PlainCore)
    → basic ≡ shift_basic k all shift slot → goal ≡ length old.steps - 1 → over ≡ slot + 1
    → Pushed old (OpAtom basic) shift.span over one track → Pushed one (OpJoined And goal track) shift.span over two both → Pushed two (OpExists both) shift.span slot new last
    → new ≡ with_steps old (closed_step k all slot shift old.steps)
slot_closed k all slot over shift basic goal track both last old one two new basic_is goal_is over_is first second third =
    let a : PlainBasic → ℕ → CoreStep = λ basic over. record { op = OpAtom basic; span = shift.span; slots = over } in
    let b : ℕ → ℕ → ℕ → CoreStep = λ goal track over. record { op = OpJoined And goal track; span = shift.span; slots = over } in
    let c : ℕ → CoreStep = λ both. record { op = OpExists both; span = shift.span; slots = slot } in
    let one_is : one.steps ≡ old.steps ++ a basic over ∷ [] = ap (λ (core : PlainCore). core.steps) first.added in
    let two_is : two.steps ≡ one.steps ++ b goal track over ∷ [] = ap (λ (core : PlainCore). core.steps) second.added in
    let declared : two.declared ≡ old.declared = ap (λ (core : PlainCore). core.declared) second.added ∙ ap (λ (core : PlainCore). core.declared) first.added in
    let both_is : both ≡ length old.steps + 1 = omega (arith, second.place, ap length one_is, length-append old.steps (a basic over ∷ [])) in
    let lists : two.steps ++ c both ∷ [] ≡ closed_step k all slot shift old.steps =
    ap (λ steps. steps ++ c both ∷ []) (two_is ∙ ap (λ steps. steps ++ b goal track over ∷ []) one_is ∙ append_assoc old.steps (a basic over ∷ []) (b goal track over ∷ []))
    ∙ append_assoc old.steps (a basic over ∷ b goal track over ∷ []) (c both ∷ [])
    ∙ (λ i. old.steps ++ a (basic_is i) (over_is i) ∷ b (goal_is i) (first.place i) (over_is i) ∷ c (both_is i) ∷ []) in
    third.added ∙ (λ i. record { declared = declared i; steps = lists i })

-- the steps of the goal with slots in place of its shifts, and those that close them
pub goal_closed : (k g d : ℕ) (all : List Shift) (goal new : List CoreStep) (tree : CoreTree) → k ≡ g → d ≡ g → goal ≡ map without_core (steps_of g tree)
    → new ≡ closed_steps k all k all (map (placed_step k all) goal) → new ≡ map without_core (steps_of d (closed g all (placed_core g all tree)))
goal_closed k g d all goal new tree same declared of is =
    is
    ∙ (λ i. closed_steps (same i) all (same i) all (map (placed_step (same i) all) (of i)))
    ∙ ap (closed_steps g all g all) (sym (placed_steps g all tree 0 g))
    ∙ sym (closed_tree g all all g (placed_core g all tree))
    ∙ ap (λ m. map without_core (steps_of m (closed g all (placed_core g all tree)))) (sym declared)

-- a tree has a step
pub some_steps : (k : ℕ) (goal : List CoreStep) (tree : CoreTree) → goal ≡ map without_core (steps_of k tree) → 0 < length goal
some_steps k goal tree of = omega (arith, ap length of, length-map (steps_of k tree) without_core, steps_from-length tree 0 k)

-- one shift more is closed
pub next_closed : (k : ℕ) (all : List Shift) (p place : ℕ) (shift : Shift) (shifts rest : List Shift) (steps : List CoreStep) → suc p ≡ place → shifts ≡ shift ∷ rest
    → closed_step k all (k + p) shift (closed_steps k all (k + place) rest steps) ≡ closed_steps k all (k + p) shifts steps
next_closed k all p place shift shifts rest steps next is =
    let slot : k + place ≡ suc (k + p) = omega (arith, next) in
    ap (λ slot. closed_step k all (k + p) shift (closed_steps k all slot rest steps)) slot ∙ ap (λ shifts. closed_steps k all (k + p) shifts steps) (sym is)

pub closed_step-length : (k : ℕ) (all : List Shift) (slot : ℕ) (shift : Shift) (steps : List CoreStep) → length (closed_step k all slot shift steps) ≡ length steps + 3
closed_step-length k all slot shift steps = length-append steps _
