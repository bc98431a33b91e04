-- Functions whose nodes are among others' have no more.
use Rattle.std.proofs.Common.{◌≡◌, ◌≢◌, ℕ, Bool, true, false, cond, ◌||◌, List, [], ◌∷◌, nat_eq, Contains, refl, sym, ap, subst, ◌∙◌, arith}
use Rattle.std.specs.Bool.{Decides}
use Rattle.std.specs.Cmp.{IsEquivalence, decided, unsigned_Decides}
use Rattle.std.specs.Cmp.Lexicographic.{pointwise, pointwise_decides}
use Rattle.std.specs.List.{AllPairs}
use Rattle.std.specs.Set.{is_member, unique_keys}
use Rattle.std.proofs.lemmas.Bool.{false≢true}
use Rattle.std.proofs.lemmas.Bool.Decides.{Decides-and}
use Rattle.std.proofs.lemmas.List.Elements.{All-contains_itself, All-weaker}
use Rattle.std.proofs.lemmas.List.Kept.{AllPairs-cons}
use Rattle.std.proofs.lemmas.Map.Made.{length-le_from_is_member, is_member-Decides, IsDistinct-from_AllPairs}
use Rattle.dcv_arena.specs.Diagram.{nodes_of_all, is_same_node}
use Rattle.dcv_arena.specs.Laws.{FewerNodesAreNoMore}

-- the test of two nodes decides whether they are the same
pub same_node : (a b : ℕ × List ℕ) → Decides (is_same_node a b) (a ≡ b)
same_node a b =
    let parts = Decides-and (nat_eq a.0 b.0) (pointwise nat_eq a.1 b.1) (unsigned_Decides a.0 b.0) (pointwise_decides unsigned_Decides a.1 b.1) in
    (λ t. let p = parts.0 t in λ i. (p.0 i, p.1 i), λ e. parts.1 (ap (λ node. node.0) e, ap (λ node. node.1) e))

pub node_laws : IsEquivalence is_same_node
node_laws = decided is_same_node same_node

-- a list without repeats, and which has the same nodes
pub record IsOnce (nodes once : List (ℕ × List ℕ)) : Type 0 where
  pub apart : AllPairs (λ a b. a ≢ b) once
  pub members : (q : ℕ × List ℕ) → is_member is_same_node once q ≡ is_member is_same_node nodes q

-- one more node goes in unless it is there
once_more : (node : ℕ × List ℕ) (nodes once : List (ℕ × List ℕ)) (found : Bool) → is_member is_same_node nodes node ≡ found → IsOnce nodes once
    → IsOnce (node ∷ nodes) (cond found once (node ∷ once))
once_more node nodes once true e is = record {
  apart = is.apart;
  members = λ q. is.members q ∙ by q (is_same_node q node) refl;
}
  where
    by : (q : ℕ × List ℕ) (same : Bool) → is_same_node q node ≡ same → is_member is_same_node nodes q ≡ (same || is_member is_same_node nodes q)
    by q true t = ap (is_member is_same_node nodes) ((same_node q node).0 t) ∙ e
    by q false t = refl
once_more node nodes once false e is = record {
  apart = AllPairs-cons (λ a b. a ≢ b) node once
      (All-weaker (Contains once) (λ other. node ≢ other) (λ other c same. false≢true
      (sym (is.members node ∙ e) ∙ (is_member-Decides same_node once node).1 (subst (Contains once) (sym same) c))) once (All-contains_itself once))
      is.apart;
  members = λ q. ap (λ found. is_same_node q node || found) (is.members q);
}

-- the list that `node_count` counts by
pub each_once : (nodes : List (ℕ × List ℕ)) → IsOnce nodes (unique_keys is_same_node nodes)
each_once [] = record { apart = λ i j d before within. absurd (omega arith); members = λ q. refl }
each_once (node ∷ nodes) = once_more node nodes (unique_keys is_same_node nodes) (is_member is_same_node nodes node) refl (each_once nodes)

pub fewer_nodes : FewerNodesAreNoMore
fewer_nodes slots few many among =
    let few_nodes = nodes_of_all slots few in
    let many_nodes = nodes_of_all slots many in
    let few_once = each_once few_nodes in
    let many_once = each_once many_nodes in
    length-le_from_is_member node_laws (unique_keys is_same_node few_nodes) (unique_keys is_same_node many_nodes)
    (IsDistinct-from_AllPairs same_node (unique_keys is_same_node few_nodes) few_once.apart)
    (λ q found.
    let one = (is_member-Decides same_node few_nodes q).0 (sym (few_once.members q) ∙ found) in
    many_once.members q ∙ (is_member-Decides same_node many_nodes q).1 (among q one))
