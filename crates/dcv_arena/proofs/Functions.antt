-- The functions of the nodes: what each node adds, and that the functions of the earlier ones stay.
use Rattle.std.proofs.Common.{◌≡◌, ℕ, zero, suc, ◌+◌, ◌<◌, Bool, false, cond, List, [], ◌∷◌, ◌++◌, length, take, drop, fold, Some, slice_get, get_or, refl, sym, ap, ◌∙◌, arith}
use Rattle.std.proofs.lemmas.List.{length-append, get_or_append_left, get_or_push, length-take-le, take-append-drop}
use Rattle.std.proofs.lemmas.List.Sums.{fold-append}
use Rattle.std.proofs.lemmas.Option.{slice_get_within}
use Rattle.dcv_arena.specs.Arena.{function_at, function_of, functions_of, IsBefore}
use Rattle.dcv_arena.specs.declared.nodes.Ref.{Ref}
use Rattle.dcv_arena.specs.declared.nodes.Ref.TheVariants.{Leaf, Place}
use Rattle.dcv_arena.specs.declared.nodes.Node.{Node}

abbrev Function : Type 0
Function = List Bool → ℕ

-- the functions after one more node
abbrev step : List Function → Node → List Function
step functions node = functions ++ function_of functions node ∷ []

abbrev nothing : Function
nothing letter = 0

length-step : (functions : List Function) (node : Node) → length (step functions node) ≡ suc (length functions)
length-step functions node = omega (arith, length-append functions (function_of functions node ∷ []))

length-steps : (functions : List Function) (nodes : List Node) → length (fold step functions nodes) ≡ length functions + length nodes
length-steps functions [] = omega arith
length-steps functions (node ∷ nodes) = omega (arith, length-steps (step functions node) nodes, length-step functions node)

-- the functions that there were stay
kept : (functions : List Function) (nodes : List Node) (place : ℕ) → place < length functions
    → get_or (fold step functions nodes) place nothing ≡ get_or functions place nothing
kept functions [] place h = refl
kept functions (node ∷ nodes) place h =
    kept (step functions node) nodes place (omega (arith, length-step functions node))
    ∙ get_or_append_left functions (function_of functions node ∷ []) nothing place h

-- a node's function is made of those before it
made : (functions : List Function) (nodes : List Node) (place : ℕ) (node : Node) → slice_get nodes place ≡ Some node
    → get_or (fold step functions nodes) (length functions + place) nothing ≡ function_of (fold step functions (take place nodes)) node
made functions [] place node e = cc
made functions (first ∷ nodes) zero node e =
    let same : first ≡ node = cc in
    kept (step functions first) nodes (length functions + 0) (omega (arith, length-step functions first))
    ∙ get_or_push functions (function_of functions first) nothing (length functions + 0) (omega arith)
    ∙ ap (function_of functions) same
made functions (first ∷ nodes) (suc place) node e =
    ap (λ at. get_or (fold step (step functions first) nodes) at nothing) (omega (arith, length-step functions first))
    ∙ made (step functions first) nodes place node e

-- ---- at an arena's nodes

pub length-functions_of : (nodes : List Node) → length (functions_of nodes) ≡ length nodes
unfolding functions_of
length-functions_of nodes = omega (arith, length-steps [] nodes)

pub function_at-append : (nodes more : List Node) (ref : Ref) → IsBefore (length nodes) ref → function_at (functions_of (nodes ++ more)) ref ≡ function_at (functions_of nodes) ref
unfolding functions_of
function_at-append nodes more (Leaf number) h = refl
function_at-append nodes more (Place place) h =
    ap (λ functions. get_or functions place nothing) (fold-append step [] nodes more)
    ∙ kept (functions_of nodes) more place (omega (arith, length-functions_of nodes))

function_at-take : (nodes : List Node) (place : ℕ) (ref : Ref) → place < length nodes → IsBefore place ref → function_at (functions_of (take place nodes)) ref ≡ function_at (functions_of nodes) ref
function_at-take nodes place (Leaf number) within h = refl
function_at-take nodes place (Place earlier) within h =
    let count = length-take-le place nodes (omega arith) in
    sym (function_at-append (take place nodes) (drop place nodes) (Place earlier) (omega arith))
    ∙ ap (λ all. function_at (functions_of all) (Place earlier)) (take-append-drop place nodes)

-- a node's function goes to its child's by the letter's value in its slot
pub function_at-place : (nodes : List Node) (place : ℕ) (node : Node) → slice_get nodes place ≡ Some node → IsBefore place node.lo → IsBefore place node.hi → (letter : List Bool)
    → function_at (functions_of nodes) (Place place) letter ≡ cond (get_or letter node.slot false) (function_at (functions_of nodes) node.hi letter) (function_at (functions_of nodes) node.lo letter)
unfolding functions_of
function_at-place nodes place node e lo hi letter =
    let within = slice_get_within nodes place node e in
    let at : get_or (functions_of nodes) place nothing ≡ function_of (functions_of (take place nodes)) node =
    ap (λ at. get_or (functions_of nodes) at nothing) (omega arith) ∙ made [] nodes place node e in
    (λ i. at i letter)
    ∙ (λ i. cond (get_or letter node.slot false) (function_at-take nodes place node.hi within hi i letter) (function_at-take nodes place node.lo within lo i letter))
