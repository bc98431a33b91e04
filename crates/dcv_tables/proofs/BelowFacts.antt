-- Functions whose numbers are below a bound: an arena that grows keeps them, and a node of two is one more.
use Rattle.std.proofs.Common.{◌≡◌, ℕ, ◌+◌, ◌<◌, ◌≤◌, Bool, true, false, List, [], ◌∷◌, ◌++◌, cond, get_or, arith}
use Rattle.std.specs.List.{All}
use Rattle.std.proofs.lemmas.List.Elements.{All-push, All-same}
use Rattle.dcv_arena.specs.Arena.{ArenaValue, IsRef, level_of, value_of, KeepsRefs}
use Rattle.dcv_arena.specs.declared.nodes.Ref.{Ref}
use Rattle.dcv_tables.specs.Below.{IsBelow}

pub one_of_two : (side : Bool) (number hi lo bound : ℕ) → number ≡ cond side hi lo → hi < bound → lo < bound → number < bound
one_of_two true number hi lo bound e h l = omega arith
one_of_two false number hi lo bound e h l = omega arith

-- an arena that grows keeps such functions
pub kept_below : (old new : ArenaValue) (bound slot : ℕ) (root : Ref) → KeepsRefs old new → IsBelow old bound slot root → IsBelow new bound slot root
kept_below old new bound slot root kept before = record {
  is_ref = kept.refs root before.is_ref;
  level = omega (arith, kept.levels root before.is_ref, before.level);
  below = λ letter. omega (arith, kept.values root letter before.is_ref, before.below letter);
}

-- and one more such function stands after those that there were
pub one_row_more : (old new : ArenaValue) (bound : ℕ) (rows more : List Ref) (row : Ref) → KeepsRefs old new → All (IsBelow old bound 0) rows → IsBelow new bound 0 row
    → more ≡ rows ++ row ∷ [] → All (IsBelow new bound 0) more
one_row_more old new bound rows more row kept each last e =
    let each_kept : All (IsBelow new bound 0) rows = λ k d h. kept_below old new bound 0 (get_or rows k d) kept (each k d h) in
    All-same (IsBelow new bound 0) more (rows ++ row ∷ []) e (All-push (IsBelow new bound 0) rows row each_kept last)

pub node_below : (old new : ArenaValue) (bound slot : ℕ) (lo hi node : Ref) → IsBelow old bound (slot + 1) lo → IsBelow old bound (slot + 1) hi
    → IsRef new node → slot ≤ level_of new node
    → ((letter : List Bool) → value_of new node letter ≡ cond (get_or letter slot false) (value_of old hi letter) (value_of old lo letter))
    → IsBelow new bound slot node
node_below old new bound slot lo hi node low high is_ref level value = record {
  is_ref = is_ref;
  level = level;
  below = λ letter. one_of_two (get_or letter slot false) (value_of new node letter) (value_of old hi letter) (value_of old lo letter) bound (value letter) (high.below letter) (low.below letter);
}
