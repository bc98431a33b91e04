-- A ref by its parts: whether it is a leaf, and its number or place.
--     is_leaf ref               whether it is a leaf
--     number_of ref             the leaf's number, or the node's place
--     ref_of is_leaf number     the ref of which these are the parts
--     word_of ref               the ref as one number, for its hash
--     code_of node              the node as one number, for its hash
use Rattle.std.specs.Prelude.{◌≡◌, ◌+◌, ◌*◌, ◌^◌, ℕ, Bool, true, false, cond, refl}
use Rattle.dcv_arena.specs.declared.nodes.Node.{Node}
use Rattle.dcv_arena.specs.declared.nodes.Ref.{Ref}
use Rattle.dcv_arena.specs.declared.nodes.Ref.TheVariants.{Leaf, Place}

abbrev pub is_leaf : Ref → Bool
is_leaf (Leaf number) = true
is_leaf (Place place) = false

abbrev pub number_of : Ref → ℕ
number_of (Leaf number) = number
number_of (Place place) = place

abbrev pub ref_of : Bool → ℕ → Ref
ref_of true number = Leaf number
ref_of false number = Place number

pub is_leaf-ref_of : (leaf : Bool) (number : ℕ) → is_leaf (ref_of leaf number) ≡ leaf
is_leaf-ref_of true number = refl
is_leaf-ref_of false number = refl

pub number_of-ref_of : (leaf : Bool) (number : ℕ) → number_of (ref_of leaf number) ≡ number
number_of-ref_of true number = refl
number_of-ref_of false number = refl

abbrev pub word_of : Ref → ℕ
word_of (Leaf number) = number * 2 + 1
word_of (Place place) = place * 2

abbrev pub code_of : Node → ℕ
code_of node = number_of node.lo + number_of node.hi * 2 ^ 32 + (node.slot * 4 + cond (is_leaf node.lo) 1 0 + cond (is_leaf node.hi) 2 0) * 2 ^ 64
