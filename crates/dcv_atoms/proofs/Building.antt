-- Arenas of parts as they grow: one proposition more, several in turn, and how many nodes there are in the end.
use Rattle.std.proofs.Common.{◌≡◌, ℕ, suc, ◌<◌, ◌≤◌, Bool, List, [], ◌∷◌, ◌++◌, length, map, Contains, ◌⊎◌, inl, inr, refl, ap, sym, subst, ◌∙◌, arith}
use Rattle.std.specs.List.{All}
use Rattle.std.proofs.lemmas.List.{append-nil, append_assoc, map-append}
use Rattle.std.proofs.lemmas.List.Elements.{All-nil, All-push, All-weaker, Contains-append_left, Contains-append_right, Contains-append_cases}
use Rattle.dcv_arena.specs.Arena.{ArenaValue, IsArena, IsRef, value_of, table_of, places, KeepsRefs, AddsOnlyNodesOf, HasOnlyNodesOf, count_with}
use Rattle.dcv_arena.specs.Diagram.{as_table, nodes_of, nodes_of_all, node_count}
use Rattle.dcv_arena.specs.declared.nodes.Ref.{Ref}
use Rattle.dcv_arena.proofs.Counts.{of_roots-listed, places_are_refs, count_exact}
use Rattle.dcv_arena.proofs.Fewer.{fewer_nodes}
use Rattle.dcv_arena.proofs.Growth.{keeps_all}
use Rattle.dcv_arena.proofs.Members.{Contains-flat_map, Contains-flat_map_cases}
use Rattle.dcv_arena.proofs.Roots.{no_nodes, one_more, kept_in_turn}
use Rattle.dcv_arena.proofs.Tables.{same_table}
use Rattle.dcv_core.specs.Core.{PlainTruth}
use Rattle.dcv_core.specs.Holds.{truth_holds}
use Rattle.dcv_atoms.specs.Parts.{number_at, part_nodes}
use Rattle.dcv_atoms.specs.Functions.{Means}
use Rattle.dcv_atoms.specs.Built.{truth_table, HasParts, Builds, Exceeds, Leads}

map_same : {X Y : Type 0} (f g : X → Y) (xs : List X) → All (λ x. f x ≡ g x) xs → map f xs ≡ map g xs
map_same f g [] all = refl
map_same f g (x ∷ xs) all =
    let first : f x ≡ g x = all 0 x (omega arith) in
    let rest = map_same f g xs (λ k d within. all (suc k) d (omega (arith, within))) in
    λ i. first i ∷ rest i

-- ---- more tables have no fewer nodes

module _ (slots : ℕ) (few more : List (List ℕ)) where
  nodes_among : (node : ℕ × List ℕ) → Contains (nodes_of_all slots few) node → Contains (nodes_of_all slots (few ++ more)) node
  nodes_among node there =
      let by_table = Contains-flat_map_cases (nodes_of slots) few node there in
      Contains-flat_map (nodes_of slots) (few ++ more) by_table.0 node (Contains-append_left few more by_table.0 by_table.1) by_table.2

  nodes_behind : (node : ℕ × List ℕ) → Contains (nodes_of_all slots more) node → Contains (nodes_of_all slots (few ++ more)) node
  nodes_behind node there =
      let by_table = Contains-flat_map_cases (nodes_of slots) more node there in
      Contains-flat_map (nodes_of slots) (few ++ more) by_table.0 node (Contains-append_right few more by_table.0 by_table.1) by_table.2

  nodes_in_either : (node : ℕ × List ℕ) → Contains (nodes_of_all slots (few ++ more)) node → Contains (nodes_of_all slots few) node ⊎ Contains (nodes_of_all slots more) node
  nodes_in_either node there =
      let by_table = Contains-flat_map_cases (nodes_of slots) (few ++ more) node there in
      elim (Contains-append_cases few more by_table.0 by_table.1) [
        | inl first ↦ inl (Contains-flat_map (nodes_of slots) few by_table.0 node first by_table.2)
        | inr last ↦ inr (Contains-flat_map (nodes_of slots) more by_table.0 node last by_table.2)
      ]

-- one function more than the roots' has no more nodes with all of the arena's than with theirs
count_with_roots : (arena : ArenaValue) (roots : List Ref) (function : List Bool → ℕ) → IsArena arena → All (IsRef arena) roots → HasOnlyNodesOf arena roots
    → count_with arena function ≤ node_count arena.slots (map (table_of arena) roots ++ as_table arena.slots function ∷ [])
count_with_roots arena roots function is all only =
    let table = as_table arena.slots function in
    let own = map (table_of arena) (places arena) in
    let theirs = map (table_of arena) roots in
    fewer_nodes arena.slots (own ++ table ∷ []) (theirs ++ table ∷ [])
    (λ node there. elim (nodes_in_either arena.slots own (table ∷ []) node there) [
      | inl of_place ↦ nodes_among arena.slots theirs (table ∷ []) node (only node (of_roots-listed arena is.reduced (places arena) (places_are_refs arena is.reduced) node of_place))
      | inr of_table ↦ nodes_behind arena.slots theirs (table ∷ []) node of_table
    ])

-- ---- one proposition

-- the table of a ref that is 1 where a proposition holds
table_is : (arena : ArenaValue) (root : Ref) (slots : ℕ) (p : PlainTruth) → Means arena root slots (truth_holds p) → table_of arena root ≡ truth_table arena.slots p
unfolding table_of
table_is arena root slots p means = same_table arena.slots (value_of arena root) (number_at p) (λ letter size. means.value letter (size ∙ means.slots_are))

pub builds_one : (old new : ArenaValue) (root : Ref) (p : PlainTruth) → KeepsRefs old new → AddsOnlyNodesOf old new root → Means new root old.slots (truth_holds p)
    → Builds old new (p ∷ [])
builds_one old new root p kept adds means = record {
  kept = kept;
  parts = λ before has.
      let earlier : map (table_of new) has.roots ≡ map (truth_table new.slots) before =
      map_same (table_of new) (table_of old) has.roots (All-weaker (IsRef old) (λ ref. table_of new ref ≡ table_of old ref) kept.tables has.roots has.refs)
      ∙ has.tables
      ∙ (λ i. map (truth_table (sym kept.slots i)) before) in
      let own = table_is new root old.slots p means in
      record {
        roots = has.roots ++ root ∷ [];
        refs = All-push (IsRef new) has.roots root (All-weaker (IsRef old) (IsRef new) kept.refs has.roots has.refs) means.is_ref;
        tables = map-append (table_of new) has.roots (root ∷ []) ∙ (λ i. earlier i ++ own i ∷ []) ∙ sym (map-append (truth_table new.slots) before (p ∷ []));
        only = one_more old new has.roots root kept has.refs has.only adds;
      };
}

-- one that is there already
pub builds_there : (arena : ArenaValue) (root : Ref) (p : PlainTruth) → Means arena root arena.slots (truth_holds p) → Builds arena arena (p ∷ [])
builds_there arena root p means = builds_one arena arena root p (keeps_all arena) (λ node there. inl there) means

pub exceeds_one : (old : ArenaValue) (p : PlainTruth) (limit : ℕ) → IsArena old → limit ≡ old.limit → limit < count_with old (number_at p) → Exceeds old (p ∷ []) limit
exceeds_one old p limit is own more = record {
  own = own;
  more = λ before has.
      let counted = count_with_roots old has.roots (number_at p) is has.refs has.only in
      let same : map (table_of old) has.roots ++ truth_table old.slots p ∷ [] ≡ map (truth_table old.slots) (before ++ p ∷ []) =
      (λ i. has.tables i ++ truth_table old.slots p ∷ []) ∙ sym (map-append (truth_table old.slots) before (p ∷ [])) in
      omega (arith, more, counted, ap (node_count old.slots) same);
}

-- ---- several in turn

pub builds_nothing : (arena : ArenaValue) → Builds arena arena []
builds_nothing arena = record { kept = keeps_all arena; parts = λ before has. subst (HasParts arena) (sym (append-nil before)) has }

pub builds_in_turn : (old middle new : ArenaValue) (first second : List PlainTruth) → Builds old middle first → Builds middle new second → Builds old new (first ++ second)
builds_in_turn old middle new first second early late = record {
  kept = kept_in_turn old middle new early.kept late.kept;
  parts = λ before has. subst (HasParts new) (append_assoc before first second) (late.parts (before ++ first) (early.parts before has));
}

-- more propositions have no fewer nodes
no_fewer : (slots : ℕ) (few more : List PlainTruth) → part_nodes slots few ≤ part_nodes slots (few ++ more)
no_fewer slots few more =
    let table = truth_table slots in
    let no_more = fewer_nodes slots (map table few) (map table few ++ map table more) (nodes_among slots (map table few) (map table more)) in
    omega (arith, no_more, ap (node_count slots) (map-append table few more))

pub exceeds_more : (old : ArenaValue) (few more : List PlainTruth) (limit : ℕ) → Exceeds old few limit → Exceeds old (few ++ more) limit
exceeds_more old few more limit exceeds = record {
  own = exceeds.own;
  more = λ before has.
      omega (arith, exceeds.more before has, no_fewer old.slots (before ++ few) more, ap (part_nodes old.slots) (append_assoc before few more));
}

pub exceeds_after : (old middle : ArenaValue) (first second : List PlainTruth) (limit : ℕ) → Builds old middle first → Exceeds middle second limit → Exceeds old (first ++ second) limit
exceeds_after old middle first second limit built exceeds = record {
  own = exceeds.own ∙ built.kept.limit;
  more = λ before has.
      let passed = exceeds.more (before ++ first) (built.parts before has) in
      subst (λ (listed : List PlainTruth). limit < part_nodes old.slots listed) (append_assoc before first second)
      (subst (λ slots. limit < part_nodes slots ((before ++ first) ++ second)) built.kept.slots passed);
}

-- ---- on the way through a list

pub leads_on : (old here there : ArenaValue) (first left listed : List PlainTruth) → Leads old here (first ++ left) listed → Builds here there first → Leads old there left listed
leads_on old here there first left listed leads built = record {
  kept = kept_in_turn old here there leads.kept built.kept;
  builds = λ new rest. leads.builds new (builds_in_turn here there new first left built rest);
  exceeds = λ limit more. leads.exceeds limit (exceeds_after here there first left limit built more);
}

pub leads_over : (old here : ArenaValue) (first left listed : List PlainTruth) (limit : ℕ) → Leads old here (first ++ left) listed → Exceeds here first limit → Exceeds old listed limit
leads_over old here first left listed limit leads more = leads.exceeds limit (exceeds_more here first left limit more)

-- ---- all of them

pub has_none : (arena : ArenaValue) → arena.nodes ≡ [] → HasParts arena []
has_none arena none = record { roots = []; refs = All-nil (IsRef arena); tables = refl; only = no_nodes arena none }

pub counted : (empty new : ArenaValue) (listed : List PlainTruth) → empty.nodes ≡ [] → IsArena new → Builds empty new listed → length new.nodes ≡ part_nodes empty.slots listed
counted empty new listed none is built =
    let has = built.parts [] (has_none empty none) in
    count_exact new is.reduced has.roots has.refs has.only ∙ ap (node_count new.slots) has.tables ∙ (λ i. part_nodes (built.kept.slots i) listed)

pub exceeds_all : (empty : ArenaValue) (listed : List PlainTruth) (limit : ℕ) → empty.nodes ≡ [] → Exceeds empty listed limit → limit < part_nodes empty.slots listed
exceeds_all empty listed limit none exceeds = exceeds.more [] (has_none empty none)
