-- A state that a round does not list goes with the witness of its block.
use Rattle.std.proofs.Common.{◌≡◌, ℕ, List, length, eqb, get_or, ◌⊎◌, inl, inr, Contains, refl, sym, ap, subst, ◌∙◌, arith}
use Rattle.std.specs.Cmp.{nat_eq_equiv}
use Rattle.std.specs.List.{list_any}
use Rattle.std.proofs.lemmas.Bool.{cases_Bool, false≢true, eqb-true}
use Rattle.std.proofs.lemmas.Map.Views.{Contains-from_any, list_any-from_Contains}
use Rattle.dcv_dfa.specs.Raw.{RawValue, IsRaw}
use Rattle.dcv_refinement.specs.Members.{block_of}
use Rattle.dcv_minimise.specs.Rounds.{IsState, HaveOneRow, IsWitnessed, IsStableBut, LeadTo, witness_of}
use Rattle.dcv_minimise.specs.Listing.{IsListed, IsAlone, IsListing, IsChosen}
use Rattle.dcv_minimise.proofs.WitnessFacts.{alike_itself}

-- a number is in a list, or not
pub is_in : (xs : List ℕ) (x : ℕ) → Contains xs x ⊎ ¬ Contains xs x
is_in xs x = elim (cases_Bool (list_any (eqb x) xs)) [
  | inl found ↦ inl (Contains-from_any eqb-true x xs found)
  | inr none ↦ inr (λ c. false≢true (sym none ∙ list_any-from_Contains nat_eq_equiv x xs c))
]

module _ (raw : RawValue) (is : IsRaw raw) (blocks witness moved looked listed full : List ℕ) (witnessed : IsWitnessed raw blocks witness) (stable : IsStableBut raw blocks moved)
    (lead : LeadTo raw moved looked) (listing : IsListing blocks witness looked listed full) where
  itself : (state : ℕ) → state ≡ witness_of blocks witness state → HaveOneRow raw blocks state (witness_of blocks witness state)
  itself state same = (alike_itself raw blocks state (witness_of blocks witness state) same).row

  -- neither it nor the witness leads to a state that moved
  still : (state : ℕ) → IsState raw state → ¬ Contains looked state → ¬ Contains looked (witness_of blocks witness state) → HaveOneRow raw blocks state (witness_of blocks witness state)
  still state inside state_not witness_not =
      let block = block_of blocks state in
      let there = witnessed.numbers state inside in
      let witness_inside = witnessed.states block there in
      record {
        leads = λ letter size.
            stable state (witness_of blocks witness state) letter inside witness_inside size (sym (witnessed.own block there))
            (λ c. state_not (lead state letter inside size c)) (λ c. witness_not (lead (witness_of blocks witness state) letter witness_inside size c));
      }

  listed_or_alone : (state : ℕ) → IsState raw state → Contains listed state ⊎ IsAlone blocks witness (block_of blocks state) → Contains listed state ⊎ HaveOneRow raw blocks state (witness_of blocks witness state)
  listed_or_alone state inside (inl there) = inl there
  listed_or_alone state inside (inr alone) = inr (itself state (alone state (omega (arith, witnessed.each, inside)) refl))

  by_witness : (state : ℕ) → IsState raw state → IsListed blocks listed (block_of blocks (witness_of blocks witness state)) ⊎ IsAlone blocks witness (block_of blocks (witness_of blocks witness state))
      → Contains listed state ⊎ HaveOneRow raw blocks state (witness_of blocks witness state)
  by_witness state inside either =
      let own = witnessed.own (block_of blocks state) (witnessed.numbers state inside) in
      elim either [
        | inl all ↦ inl (all state (omega (arith, witnessed.each, inside)) (sym own))
        | inr alone ↦ inr (itself state (subst (λ block. state ≡ get_or witness block 0) own (alone state (omega (arith, witnessed.each, inside)) (sym own))))
      ]

  -- the witness of the witness's block is the witness
  own_witness : (state : ℕ) → IsState raw state → witness_of blocks witness state ≡ witness_of blocks witness (witness_of blocks witness state)
  own_witness state inside = ap (λ block. get_or witness block 0) (sym (witnessed.own (block_of blocks state) (witnessed.numbers state inside)))

  pub others_go : (state : ℕ) → IsState raw state → Contains listed state ⊎ HaveOneRow raw blocks state (witness_of blocks witness state)
  others_go state inside = elim (is_in looked state) [
    | inl there ↦ listed_or_alone state inside (listing.each_looked state there)
    | inr state_not ↦ elim (is_in looked (witness_of blocks witness state)) [
      | inl there ↦ by_witness state inside (listing.each_witness (witness_of blocks witness state) there (own_witness state inside))
      | inr witness_not ↦ inr (still state inside state_not witness_not)
    ]
  ]

-- ---- other witnesses

module _ (raw : RawValue) (blocks old new listed full : List ℕ) (was : IsWitnessed raw blocks old) (size : length new ≡ length old) (chosen : IsChosen blocks full old new) where
  pub chosen_witnessed : IsWitnessed raw blocks new
  chosen_witnessed = record {
    each = was.each;
    numbers = λ state inside. omega (arith, size, was.numbers state inside);
    states = λ block within. elim (chosen block (omega (arith, size, within))) [
      | inl same ↦ omega (arith, same, was.states block (omega (arith, size, within)))
      | inr other ↦ omega (arith, other.1.0, was.each)
    ];
    own = λ block within. elim (chosen block (omega (arith, size, within))) [
      | inl same ↦ ap (block_of blocks) same ∙ was.own block (omega (arith, size, within))
      | inr other ↦ other.1.1
    ];
  }

  pub chosen_others : ((block : ℕ) → Contains full block → IsListed blocks listed block)
      → ((state : ℕ) → IsState raw state → Contains listed state ⊎ HaveOneRow raw blocks state (witness_of blocks old state))
      → (state : ℕ) → IsState raw state → Contains listed state ⊎ HaveOneRow raw blocks state (witness_of blocks new state)
  chosen_others all others state inside = elim (chosen (block_of blocks state) (was.numbers state inside)) [
    | inl same ↦ elim (others state inside) [
      | inl there ↦ inl there
      | inr row ↦ inr (subst (HaveOneRow raw blocks state) (sym same) row)
    ]
    | inr other ↦ inl (all (block_of blocks state) other.0 state (omega (arith, was.each, inside)) refl)
  ]
