-- Listing the states of a block, and putting states into the lists of their blocks.
use Rattle.std.proofs.Common.{◌≡◌, ◌↔◌, ℕ, ◌<◌, ◌≤◌, List, [], ◌∷◌, ◌++◌, length, get_or, ◌⊎◌, inl, inr, Contains, sym, ap, subst, ◌∙◌, arith}
use Rattle.std.specs.List.{All}
use Rattle.std.proofs.lemmas.List.{get_or_default}
use Rattle.std.proofs.lemmas.List.Elements.{All-contains, Contains-get_or, Contains-push_cases, Contains-append_left, Contains-append_right, Contains-append_cases}
use Rattle.dcv_refinement.specs.SparseSet.{with_number}
use Rattle.dcv_refinement.specs.Members.{block_of}
use Rattle.dcv_minimise.specs.Rounds.{witness_of}
use Rattle.dcv_minimise.specs.Listing.{IsListed, IsAlone, IsSingle, IsListing, IsBlockAdded, IsBlockListed, LooksAt}
use Rattle.dcv_refinement.proofs.MarkFacts.{inserted_only, all_from_contains}

pub block_added : (own : List ℕ) (block : ℕ) (states full new_states new_full : List ℕ) → new_states ≡ states ++ own → new_full ≡ with_number full block
    → IsBlockAdded own block states full new_states new_full
block_added own block states full new_states new_full more inserted =
    let all : All (Contains new_states) own =
    λ k d within. subst (λ list. Contains list (get_or own k d)) (sym more) (Contains-append_right states own (get_or own k d) (Contains-get_or own k d within)) in
    record {
      grows = λ state c. subst (λ list. Contains list state) (sym more) (Contains-append_left states own state c);
      only = λ state c. Contains-append_cases states own state (subst (λ list. Contains list state) more c);
      full_only = λ one c. elim (inserted_only full block new_full inserted one c) [
        | inl before ↦ inl before
        | inr here ↦ inr (sym here, all)
      ];
      all = inr all;
    }

-- a list that has the states of a block, and no others
module _ (blocks : List ℕ) (block : ℕ) (own : List ℕ) (is : (state : ℕ) → Contains own state ↔ ((state < length blocks) × (block_of blocks state ≡ block))) where
  single : length own ≤ 1 → IsSingle blocks block
  single few first second f s first_is second_is =
      let one = (is first).1 (f, first_is) in
      let other = (is second).1 (s, second_is) in
      let same : one.0 ≡ other.0 = omega (arith, one.1, other.1, few) in
      sym one.2 ∙ get_or_default own one.0 first second one.1 ∙ ap (λ place. get_or own place second) same ∙ other.2

  listed_by : (new_states : List ℕ) → All (Contains new_states) own → IsListed blocks new_states block
  listed_by new_states listed state within same = All-contains (Contains new_states) own state listed ((is state).1 (within, same))

  pub block_listed : (states full new_states new_full : List ℕ) → IsBlockAdded own block states full new_states new_full → IsBlockListed blocks block states full new_states new_full
  block_listed states full new_states new_full added = record {
    more = record {
      grows = added.grows;
      only = λ state c. elim (added.only state c) [
        | inl before ↦ inl before
        | inr here ↦ inr ((is state).0 here).0
      ];
      full_only = λ one c. elim (added.full_only one c) [
        | inl before ↦ inl before
        | inr here ↦ inr (subst (IsListed blocks new_states) (sym here.0) (listed_by new_states here.1))
      ];
    };
    all = elim added.all [
      | inl few ↦ inl (single few)
      | inr listed ↦ inr (listed_by new_states listed)
    ];
  }

-- ---- one looked-at state more

module _ (blocks witness done states full : List ℕ) (state : ℕ) (new_states new_full : List ℕ) (was : IsListing blocks witness done states full)
    (looks : LooksAt blocks witness state states full new_states new_full) where
  still_listed : (block : ℕ) → IsListed blocks states block → IsListed blocks new_states block
  still_listed block listed one within is = looks.more.grows one (listed one within is)

  pub listing_more : IsListing blocks witness (done ++ state ∷ []) new_states new_full
  listing_more = record {
    states = all_from_contains (λ state. state < length blocks) new_states (λ one c. elim (looks.more.only one c) [
      | inl before ↦ All-contains (λ state. state < length blocks) states one was.states before
      | inr inside ↦ inside
    ]);
    each_looked = λ one c. elim (Contains-push_cases done state one c) [
      | inl before ↦ elim (was.each_looked one before) [
        | inl there ↦ inl (looks.more.grows one there)
        | inr alone ↦ inr alone
      ]
      | inr here ↦ subst (λ one. Contains new_states one ⊎ IsAlone blocks witness (block_of blocks one)) here looks.looked
    ];
    each_witness = λ one c same. elim (Contains-push_cases done state one c) [
      | inl before ↦ elim (was.each_witness one before same) [
        | inl listed ↦ inl (still_listed (block_of blocks one) listed)
        | inr alone ↦ inr alone
      ]
      | inr here ↦
          subst (λ one. IsListed blocks new_states (block_of blocks one) ⊎ IsAlone blocks witness (block_of blocks one)) here
          (looks.as_witness (subst (λ one. one ≡ witness_of blocks witness one) (sym here) same))
    ];
    each_full = λ block c. elim (looks.more.full_only block c) [
      | inl before ↦ still_listed block (was.each_full block before)
      | inr listed ↦ listed
    ];
  }
