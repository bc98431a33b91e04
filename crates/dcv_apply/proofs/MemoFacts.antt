-- What is remembered, by the entries of the maps and of the cache: what is found was there, and what is put is all that comes.
use Rattle.std.proofs.Common.{◌≡◌, ℕ, Bool, true, List, [], map, ◌++◌, Option, None, Some, IfSome, Result, Ok, Err, OnOk, OnErr, Contains, ◌⊎◌, inl, inr, refl, nat_eq, ◌&&◌, sym, ap, subst, ◌∙◌}
use Rattle.std.specs.Bool.{Decides}
use Rattle.std.specs.Cmp.{unsigned_Decides}
use Rattle.std.specs.Cmp.Lexicographic.{pointwise, pointwise_decides}
use Rattle.std.specs.Map.{lookup}
use Rattle.std.proofs.lemmas.Bool.{false≢true}
use Rattle.std.proofs.lemmas.Bool.Decides.{Decides-and}
use Rattle.std.proofs.lemmas.List.Elements.{Contains-append_left, Contains-append_right, Contains-append_cases}
use Rattle.indexmap.specs.IndexMap.{insert_entry}
use Rattle.lru.specs.LruCache.{LruCache, lru_cache, promoted, put_entries}
use Rattle.lru.proofs.CallerLemmas.{Contains-lookup, Contains-promoted, Contains-put_entries}
use Rattle.dcv_arena.specs.declared.nodes.Ref.{Ref}
use Rattle.dcv_arena.specs.contracts.nodes.RefPartialEq.TheImpl.{eq-value as ref_eq}
use Rattle.dcv_arena.proofs.Members.{Contains-map, Contains-map_cases}
use Rattle.dcv_arena.proofs.Same.{same_refs}
use Rattle.dcv_apply.specs.Memo.{EntryValue, MemoValue}
use Rattle.dcv_apply.proofs.Insertions.{insert_cases}
use Rattle.dcv_apply.specs.Remembered.{entry, entry_of, entry_of_pair, Adds, KeepsEntries}
use Rattle.dcv_apply.specs.declared.keys.Key.{Key}
use Rattle.dcv_apply.specs.declared.keys.Pair.{Pair}
use Rattle.dcv_apply.specs.declared.operands.Kind.{Kind}
use Rattle.dcv_apply.specs.declared.operands.Kind.TheVariants as kind
use Rattle.dcv_apply.specs.contracts.operands.KindPartialEq.TheImpl.{eq-value as kind_eq}
use Rattle.dcv_apply.specs.contracts.keys.KeyPartialEq.TheImpl.{eq-value as key_eq}
use Rattle.dcv_apply.specs.contracts.keys.PairPartialEq.TheImpl.{eq-value as pair_eq}

-- ---- equal keys make the same entry with a ref

abbrev operand_eq : ℕ × Ref → ℕ × Ref → Bool
operand_eq a b = nat_eq a.0 b.0 && ref_eq.it a.1 b.1

same_operand : (a b : ℕ × Ref) → Decides (operand_eq a b) (a ≡ b)
same_operand a b =
    let parts = Decides-and (nat_eq a.0 b.0) (ref_eq.it a.1 b.1) (unsigned_Decides a.0 b.0) (same_refs a.1 b.1) in
    (λ t. let p = parts.0 t in λ i. (p.0 i, p.1 i), λ e. parts.1 (ap (λ operand. operand.0) e, ap (λ operand. operand.1) e))

pub same_entry : (a b : Key) (root : Ref) → key_eq.it a b ≡ true → entry_of (a, root) ≡ entry_of (b, root)
same_entry a b root t =
    let items = pointwise_decides same_operand a.operands.items b.operands.items in
    let parts = Decides-and (nat_eq a.round b.round) (pointwise operand_eq a.operands.items b.operands.items) (unsigned_Decides a.round b.round) items in
    let same = ((Decides-and (nat_eq a.digest b.digest) _ (unsigned_Decides a.digest b.digest) parts).0 t).1 in
    λ i. entry (same.0 i) (same.1 i) root

same_kind : (a b : Kind) → Decides (kind_eq.it a b) (a ≡ b)
same_kind kind.Leaf kind.Leaf = (λ t. refl, λ e. refl)
same_kind kind.Leaf kind.First = (λ t. absurd (false≢true t), λ e. cc)
same_kind kind.Leaf kind.Second = (λ t. absurd (false≢true t), λ e. cc)
same_kind kind.First kind.Leaf = (λ t. absurd (false≢true t), λ e. cc)
same_kind kind.First kind.First = (λ t. refl, λ e. refl)
same_kind kind.First kind.Second = (λ t. absurd (false≢true t), λ e. cc)
same_kind kind.Second kind.Leaf = (λ t. absurd (false≢true t), λ e. cc)
same_kind kind.Second kind.First = (λ t. absurd (false≢true t), λ e. cc)
same_kind kind.Second kind.Second = (λ t. refl, λ e. refl)

pub same_pair : (a b : Pair) (root : Ref) → pair_eq.it a b ≡ true → entry_of_pair (a, root) ≡ entry_of_pair (b, root)
same_pair a b root t =
    let kinds = Decides-and (kind_eq.it a.one_kind b.one_kind) (kind_eq.it a.other_kind b.other_kind) (same_kind a.one_kind b.one_kind) (same_kind a.other_kind b.other_kind) in
    let others = Decides-and (nat_eq a.other b.other) _ (unsigned_Decides a.other b.other) kinds in
    let ones = Decides-and (nat_eq a.one b.one) _ (unsigned_Decides a.one b.one) others in
    let (round, (one, (other, (one_kind, other_kind)))) = (Decides-and (nat_eq a.round b.round) _ (unsigned_Decides a.round b.round) ones).0 t in
    λ i. entry_of_pair (record { round = round i; one = one i; other = other i; one_kind = one_kind i; other_kind = other_kind i }, root)

-- ---- the entries of a map or a cache, for any form of its keys

module _ {K : Type 0} (equal : K → K → Bool) (as_entry : K × Ref → EntryValue)
    (same : (a b : K) (root : Ref) → equal a b ≡ true → as_entry (a, root) ≡ as_entry (b, root)) where
  found_there : (pairs : List (K × Ref)) (key : K) (root : Ref) → lookup (equal key) pairs ≡ Some root → Contains (map as_entry pairs) (as_entry (key, root))
  found_there pairs key root e =
      let there = Contains-lookup (equal key) pairs root e in
      subst (Contains (map as_entry pairs)) (sym (same key there.0 root there.2)) (Contains-map as_entry pairs (there.0, root) there.1)

  pub found_if : (pairs : List (K × Ref)) (key : K) (found : Option Ref) → found ≡ lookup (equal key) pairs
      → IfSome found (λ root. Contains (map as_entry pairs) (as_entry (key, root)))
  found_if pairs key None e = tt
  found_if pairs key (Some root) e = found_there pairs key root (sym e)

  pub promoted_were : (pairs : List (K × Ref)) (key : K) (one : EntryValue) → Contains (map as_entry (promoted (equal key) pairs)) one → Contains (map as_entry pairs) one
  promoted_were pairs key one c =
      let from = Contains-map_cases as_entry (promoted (equal key) pairs) one c in
      subst (Contains (map as_entry pairs)) from.2 (Contains-map as_entry pairs from.0 (Contains-promoted (equal key) pairs from.0 from.1))

  -- what is put under a key, or under one that is equal to it, makes the key's entry
  put_entry : (key : K) (root : Ref) (pair : K × Ref) → pair.1 ≡ root → (pair.0 ≡ key) ⊎ (equal key pair.0 ≡ true) → as_entry pair ≡ as_entry (key, root)
  put_entry key root pair value (inl e) = λ i. as_entry (e i, value i)
  put_entry key root pair value (inr t) = ap (λ root. as_entry (pair.0, root)) value ∙ sym (same key pair.0 root t)

  -- entries stay where pairs do
  stays : (old new : List (K × Ref)) (key : K) (root : Ref)
      → ((pair : K × Ref) → Contains new pair → Contains old pair ⊎ (as_entry pair ≡ as_entry (key, root)))
      → (one : EntryValue) → Contains (map as_entry new) one → Contains (map as_entry old) one ⊎ (one ≡ as_entry (key, root))
  stays old new key root cases one c =
      let from = Contains-map_cases as_entry new one c in
      elim (cases from.0 from.1) [
        | inl was ↦ inl (subst (Contains (map as_entry old)) from.2 (Contains-map as_entry old from.0 was))
        | inr own ↦ inr (sym from.2 ∙ own)
      ]

  put_adds : (cache : LruCache K Ref) (key : K) (root : Ref) (one : EntryValue) → Contains (map as_entry (put_entries equal cache key root)) one
      → Contains (map as_entry cache.entries) one ⊎ (one ≡ as_entry (key, root))
  put_adds cache key root = stays cache.entries (put_entries equal cache key root) key root (λ pair there. elim (Contains-put_entries equal cache key root pair there) [
    | inl was ↦ inl was
    | inr own ↦ inr (elim own.1 [
      | inl e ↦ put_entry key root pair own.0 (inl e)
      | inr t ↦ put_entry key root pair own.0 (inr t.2)
    ])
  ])

  insert_adds : (entries : List (K × Ref)) (key : K) (root : Ref) (one : EntryValue) → Contains (map as_entry (insert_entry equal entries key root)) one
      → Contains (map as_entry entries) one ⊎ (one ≡ as_entry (key, root))
  insert_adds entries key root = stays entries (insert_entry equal entries key root) key root (λ pair there. elim (insert_cases equal key root entries pair there) [
    | inl was ↦ inl was
    | inr own ↦ inr (put_entry key root pair own.0 own.1)
  ])

  pub put_result : {X E : Type 0} (result : Result X E) (old new : LruCache K Ref) (key : K) (root : Ref)
      → OnOk result (new ≡ lru_cache (put_entries equal old key root) old.cap) → OnErr result (new ≡ old)
      → (one : EntryValue) → Contains (map as_entry new.entries) one → Contains (map as_entry old.entries) one ⊎ (one ≡ as_entry (key, root))
  put_result (Ok x) old new key root is unchanged one c = put_adds old key root one (subst (λ cache. Contains (map as_entry cache.entries) one) is c)
  put_result (Err e) old new key root is unchanged one c = inl (subst (λ cache. Contains (map as_entry cache.entries) one) unchanged c)

  pub insert_result : {X E : Type 0} (result : Result X E) (old new : List (K × Ref)) (key : K) (root : Ref)
      → OnOk result (new ≡ insert_entry equal old key root) → OnErr result (new ≡ old)
      → (one : EntryValue) → Contains (map as_entry new) one → Contains (map as_entry old) one ⊎ (one ≡ as_entry (key, root))
  insert_result (Ok x) old new key root is unchanged one c = insert_adds old key root one (subst (λ entries. Contains (map as_entry entries) one) is c)
  insert_result (Err e) old new key root is unchanged one c = inl (subst (λ entries. Contains (map as_entry entries) one) unchanged c)

-- where a list has what it had, and one thing more at most, so have the entries of it
pub added_entries : {X : Type 0} (as_entry : X → EntryValue) (old new : List X) (added : X)
    → ((one : X) → Contains new one → Contains old one ⊎ (one ≡ added))
    → (one : EntryValue) → Contains (map as_entry new) one → Contains (map as_entry old) one ⊎ (one ≡ as_entry added)
added_entries as_entry old new added cases one c =
    let from = Contains-map_cases as_entry new one c in
    elim (cases from.0 from.1) [
      | inl was ↦ inl (subst (Contains (map as_entry old)) from.2 (Contains-map as_entry old from.0 was))
      | inr own ↦ inr (sym from.2 ∙ ap as_entry own)
    ]

-- ---- the entries of one collection and then those of others

pub found_in : (first later : List EntryValue) (operands : Ref → EntryValue) (found : Option Ref)
    → IfSome found (λ root. Contains first (operands root)) ⊎ IfSome found (λ root. Contains later (operands root))
    → IfSome found (λ root. Contains (first ++ later) (operands root))
found_in first later operands None there = tt
found_in first later operands (Some root) (inl there) = Contains-append_left first later (operands root) there
found_in first later operands (Some root) (inr there) = Contains-append_right first later (operands root) there

-- where each part has only what it had, and what is added, so have both
pub parts_add : (first later first_new later_new : List EntryValue) (Added : EntryValue → Type 0)
    → ((one : EntryValue) → Contains first_new one → Contains first one ⊎ Added one)
    → ((one : EntryValue) → Contains later_new one → Contains later one ⊎ Added one)
    → (one : EntryValue) → Contains (first_new ++ later_new) one → Contains (first ++ later) one ⊎ Added one
parts_add first later first_new later_new Added in_first in_later one c = elim (Contains-append_cases first_new later_new one c) [
  | inl there ↦ elim (in_first one there) [
    | inl was ↦ inl (Contains-append_left first later one was)
    | inr own ↦ inr own
  ]
  | inr there ↦ elim (in_later one there) [
    | inl was ↦ inl (Contains-append_right first later one was)
    | inr own ↦ inr own
  ]
]

pub parts_keep : (first later later_new : List EntryValue) → ((one : EntryValue) → Contains later_new one → Contains later one)
    → (one : EntryValue) → Contains (first ++ later_new) one → Contains (first ++ later) one
parts_keep first later later_new kept one c = elim (Contains-append_cases first later_new one c) [
  | inl there ↦ Contains-append_left first later one there
  | inr there ↦ Contains-append_right first later one (kept one there)
]

-- what is kept, and then added to
pub kept_adds : (added : EntryValue) (first second third : MemoValue) → KeepsEntries first second → Adds added second third → Adds added first third
kept_adds added first second third kept adds one there = elim (adds one there) [
  | inl was ↦ inl (kept one was)
  | inr own ↦ inr own
]

-- the older of two parts is forgotten, and the younger stands in its place
pub parts_turn : (young old rest : List EntryValue) (one : EntryValue) → Contains ([] ++ (young ++ rest)) one → Contains (young ++ (old ++ rest)) one
parts_turn young old rest one c = elim (Contains-append_cases young rest one c) [
  | inl there ↦ Contains-append_left young (old ++ rest) one there
  | inr there ↦ Contains-append_right young (old ++ rest) one (Contains-append_right old rest one there)
]
