-- Lists whose entries stand in one list, each with the one before it in its own.
use Rattle.std.proofs.Common.{◌≡◌, ◌≢◌, ℕ, zero, suc, ◌<◌, ◌≤◌, ◌+◌, List, [], ◌∷◌, ◌++◌, length, get_or, set, ◌⊎◌, inl, inr, Contains, refl, sym, ap, subst, ◌∙◌, arith}
use Rattle.std.proofs.lemmas.Bool.{cases_lt, cases_eq}
use Rattle.std.proofs.lemmas.List.{get_or-set_same, get_or-set_other, get_or_append_left, length_push, length-set}
use Rattle.std.proofs.Math.Seq.{get_or-append_seam}
use Rattle.dcv_refinement.specs.Lists.{entry, entry_at, chain_in, chain, AreEarlier}
use Rattle.dcv_refinement.specs.declared.lists.Entry.{Entry}

none_past : (xs : List ℕ) (i : ℕ) → length xs ≤ i → get_or xs i 0 ≡ 0
none_past [] i behind = refl
none_past (x ∷ xs) zero behind = absurd (omega (arith, behind))
none_past (x ∷ xs) (suc i) behind = none_past xs i (omega (arith, behind))

nothing : (entries : List Entry) (steps : ℕ) → chain_in steps entries 0 ≡ []
nothing entries zero = refl
nothing entries (suc steps) = refl

-- steps that are enough find the whole list
enough : (entries : List Entry) → AreEarlier entries → (steps more last : ℕ) → last ≤ steps → last ≤ more → last ≤ length entries → chain_in steps entries last ≡ chain_in more entries last
enough entries are steps more zero a b within = nothing entries steps ∙ sym (nothing entries more)
enough entries are zero more (suc place) a b within = absurd (omega (arith, a))
enough entries are (suc steps) zero (suc place) a b within = absurd (omega (arith, b))
enough entries are (suc steps) (suc more) (suc place) a b within =
    let before : (entry_at entries place).earlier ≤ place = are place (omega (arith, within)) in
    ap (λ rest. (entry_at entries place).number ∷ rest) (enough entries are steps more (entry_at entries place).earlier (omega (arith, before, a)) (omega (arith, before, b)) (omega (arith, before, within)))

-- from an entry back
pub back : (entries : List Entry) → AreEarlier entries → (last place : ℕ) → last ≡ place + 1 → place < length entries
    → chain entries last ≡ (entry_at entries place).number ∷ chain entries (entry_at entries place).earlier
back entries are zero place e within = absurd (omega (arith, e))
back entries are (suc one) place e within =
    let same : one ≡ place = omega (arith, e) in
    let before : (entry_at entries place).earlier ≤ place = are place within in
    let after : (entry_at entries place).earlier ≤ one = omega (arith, same, before) in
    ap (λ at. (entry_at entries at).number ∷ chain_in one entries (entry_at entries at).earlier) same
    ∙ ap (λ rest. (entry_at entries place).number ∷ rest)
    (enough entries are one (entry_at entries place).earlier (entry_at entries place).earlier after (omega arith) (omega (arith, before, within)))

-- ---- one more entry

longer : (entries : List Entry) (one : Entry) → AreEarlier entries → (steps last : ℕ) → last ≤ length entries → chain_in steps (entries ++ one ∷ []) last ≡ chain_in steps entries last
longer entries one are zero last within = refl
longer entries one are (suc steps) zero within = refl
longer entries one are (suc steps) (suc place) within =
    let same : entry_at (entries ++ one ∷ []) place ≡ entry_at entries place = get_or_append_left entries (one ∷ []) (entry 0 0) place (omega (arith, within)) in
    let before : (entry_at entries place).earlier ≤ place = are place (omega (arith, within)) in
    ap (λ (it : Entry). it.number ∷ chain_in steps (entries ++ one ∷ []) it.earlier) same
    ∙ ap (λ rest. (entry_at entries place).number ∷ rest) (longer entries one are steps (entry_at entries place).earlier (omega (arith, before, within)))

module _ (entries : List Entry) (are : AreEarlier entries) (number earlier : ℕ) (known : earlier ≤ length entries) where
  abbrev more : List Entry
  more = entries ++ entry number earlier ∷ []

  at_end : entry_at more (length entries) ≡ entry number earlier
  at_end = get_or-append_seam entries (entry number earlier) [] (entry 0 0)

  size : length more ≡ length entries + 1
  size = length_push entries (entry number earlier)

  pub are_more : AreEarlier more
  are_more place within = elim (cases_lt place (length entries)) [
    | inl before ↦
        let same : entry_at more place ≡ entry_at entries place = get_or_append_left entries (entry number earlier ∷ []) (entry 0 0) place before in
        subst (λ (it : Entry). it.earlier ≤ place) (sym same) (are place before)
    | inr behind ↦
        let last : length entries ≡ place = omega (arith, within, behind, size) in
        subst (λ place. (entry_at more place).earlier ≤ place) last (subst (λ (it : Entry). it.earlier ≤ length entries) (sym at_end) known)
  ]

  pub kept_chain : (last : ℕ) → last ≤ length entries → chain more last ≡ chain entries last
  kept_chain last within = longer entries (entry number earlier) are last last within

  pub new_chain : chain more (length entries + 1) ≡ number ∷ chain entries earlier
  new_chain =
      back more are_more (length entries + 1) (length entries) refl (omega (arith, size))
      ∙ ap (λ (it : Entry). it.number ∷ chain more it.earlier) at_end
      ∙ ap (λ rest. number ∷ rest) (kept_chain earlier known)

  -- ---- among the last entries of lists

  module _ (lasts : List ℕ) (at : ℕ) (is : get_or lasts at 0 ≡ earlier) (within : (one : ℕ) → get_or lasts one 0 ≤ length entries) where
    abbrev new : List ℕ
    new = set lasts at (length entries + 1)

    pub lasts_within : (one : ℕ) → get_or new one 0 ≤ length more
    lasts_within one = elim (cases_eq one at) [
      | inl same ↦ elim (cases_lt at (length lasts)) [
        | inl there ↦
            let is_new : get_or new at 0 ≡ length entries + 1 = get_or-set_same lasts at (length entries + 1) 0 there in
            subst (λ one. get_or new one 0 ≤ length more) (sym same) (omega (arith, is_new, size))
        | inr none ↦
            let gone : get_or new at 0 ≡ 0 = none_past new at (omega (arith, none, length-set lasts at (length entries + 1))) in
            subst (λ one. get_or new one 0 ≤ length more) (sym same) (omega (arith, gone))
      ]
      | inr other ↦
          let still : get_or new one 0 ≡ get_or lasts one 0 = get_or-set_other lasts at one (length entries + 1) 0 other in
          omega (arith, still, within one, size)
    ]

    other_list : (one : ℕ) → one ≢ at → chain more (get_or new one 0) ≡ chain entries (get_or lasts one 0)
    other_list one other = ap (chain more) (get_or-set_other lasts at one (length entries + 1) 0 other) ∙ kept_chain (get_or lasts one 0) (within one)

    this_list : at < length lasts → chain more (get_or new at 0) ≡ number ∷ chain entries (get_or lasts at 0)
    this_list there = ap (chain more) (get_or-set_same lasts at (length entries + 1) 0 there) ∙ new_chain ∙ ap (λ last. number ∷ chain entries last) (sym is)

    no_list : length lasts ≤ at → chain more (get_or new at 0) ≡ chain entries (get_or lasts at 0)
    no_list none = ap (λ lasts. chain more (get_or lasts at 0)) (set_past lasts at none) ∙ kept_chain (get_or lasts at 0) (within at)
      where
        set_past : (xs : List ℕ) (i : ℕ) → length xs ≤ i → set xs i (length entries + 1) ≡ xs
        set_past [] i behind = refl
        set_past (x ∷ xs) zero behind = absurd (omega (arith, behind))
        set_past (x ∷ xs) (suc i) behind = ap (λ rest. x ∷ rest) (set_past xs i (omega (arith, behind)))

    pub linked_keeps : (one x : ℕ) → Contains (chain entries (get_or lasts one 0)) x → Contains (chain more (get_or new one 0)) x
    linked_keeps one x c = elim (cases_eq one at) [
      | inl same ↦ subst (λ one. Contains (chain more (get_or new one 0)) x) (sym same)
          (here (subst (λ one. Contains (chain entries (get_or lasts one 0)) x) same c))
      | inr other ↦ subst (λ list. Contains list x) (sym (other_list one other)) c
    ]
      where
        here : Contains (chain entries (get_or lasts at 0)) x → Contains (chain more (get_or new at 0)) x
        here c = elim (cases_lt at (length lasts)) [
          | inl there ↦ subst (λ list. Contains list x) (sym (this_list there)) (suc c.0, omega (arith, c.1), c.2)
          | inr none ↦ subst (λ list. Contains list x) (sym (no_list none)) c
        ]

    pub linked_has : at < length lasts → Contains (chain more (get_or new at 0)) number
    linked_has there = subst (λ list. Contains list number) (sym (this_list there)) (0, omega arith, refl)

    pub linked_only : (one x : ℕ) → Contains (chain more (get_or new one 0)) x → Contains (chain entries (get_or lasts one 0)) x ⊎ ((one ≡ at) × (x ≡ number))
    linked_only one x c = elim (cases_eq one at) [
      | inl same ↦ elim (here (subst (λ one. Contains (chain more (get_or new one 0)) x) same c)) [
        | inl before ↦ inl (subst (λ one. Contains (chain entries (get_or lasts one 0)) x) (sym same) before)
        | inr is_number ↦ inr (same, is_number)
      ]
      | inr other ↦ inl (subst (λ list. Contains list x) (other_list one other) c)
    ]
      where
        first : (rest : List ℕ) → Contains (number ∷ rest) x → Contains rest x ⊎ (x ≡ number)
        first rest (zero, inside, is) = inr (sym is)
        first rest (suc k, inside, is) = inl (k, omega (arith, inside), is)

        here : Contains (chain more (get_or new at 0)) x → Contains (chain entries (get_or lasts at 0)) x ⊎ (x ≡ number)
        here c = elim (cases_lt at (length lasts)) [
          | inl there ↦ first (chain entries (get_or lasts at 0)) (subst (λ list. Contains list x) (this_list there) c)
          | inr none ↦ inl (subst (λ list. Contains list x) (no_list none) c)
        ]

-- ---- the lists of one sort, of which one gets a number, and those of the other

pub record GetsNumber (entries : List Entry) (lasts : List ℕ) (at number : ℕ) (new_entries : List Entry) (new_lasts : List ℕ) : Type 0 where
  pub earlier : AreEarlier new_entries
  pub within : (one : ℕ) → get_or new_lasts one 0 ≤ length new_entries
  pub size : length new_lasts ≡ length lasts
  pub keeps : (one x : ℕ) → Contains (chain entries (get_or lasts one 0)) x → Contains (chain new_entries (get_or new_lasts one 0)) x
  pub has : at < length lasts → Contains (chain new_entries (get_or new_lasts at 0)) number
  pub only : (one x : ℕ) → Contains (chain new_entries (get_or new_lasts one 0)) x → Contains (chain entries (get_or lasts one 0)) x ⊎ ((one ≡ at) × (x ≡ number))

pub record StaysSame (entries : List Entry) (lasts : List ℕ) (new_entries : List Entry) (new_lasts : List ℕ) : Type 0 where
  pub within : (one : ℕ) → get_or new_lasts one 0 ≤ length new_entries
  pub size : length new_lasts ≡ length lasts
  pub same : (one : ℕ) → chain new_entries (get_or new_lasts one 0) ≡ chain entries (get_or lasts one 0)

module _ (entries : List Entry) (are : AreEarlier entries) (lasts : List ℕ) (at number : ℕ) (within : (one : ℕ) → get_or lasts one 0 ≤ length entries) where
  abbrev earlier : ℕ
  earlier = get_or lasts at 0

  abbrev longer_by_one : List Entry
  longer_by_one = entries ++ entry number earlier ∷ []

  pub gets_number : (new_entries : List Entry) (new_lasts : List ℕ) → new_entries ≡ longer_by_one → new_lasts ≡ set lasts at (length entries + 1)
      → GetsNumber entries lasts at number new_entries new_lasts
  gets_number new_entries new_lasts links ends = subst (λ (both : List Entry × List ℕ). GetsNumber entries lasts at number both.0 both.1) (λ i. (sym links i, sym ends i)) (record {
    earlier = are_more entries are number earlier (within at);
    within = lasts_within entries are number earlier (within at) lasts at refl within;
    size = length-set lasts at (length entries + 1);
    keeps = linked_keeps entries are number earlier (within at) lasts at refl within;
    has = linked_has entries are number earlier (within at) lasts at refl within;
    only = linked_only entries are number earlier (within at) lasts at refl within;
  })

  pub stays_same : (others : List ℕ) → ((one : ℕ) → get_or others one 0 ≤ length entries) → (new_entries : List Entry) (new_others : List ℕ) → new_entries ≡ longer_by_one
      → new_others ≡ others → StaysSame entries others new_entries new_others
  stays_same others known new_entries new_others links kept = subst (λ (both : List Entry × List ℕ). StaysSame entries others both.0 both.1) (λ i. (sym links i, sym kept i)) (record {
    within = λ one. omega (arith, known one, length_push entries (entry number earlier));
    size = refl;
    same = λ one. kept_chain entries are number earlier (within at) (get_or others one 0) (known one);
  })

-- where something is listed, there is a list
pub last_within : (entries : List Entry) (lasts : List ℕ) (at x : ℕ) → Contains (chain entries (get_or lasts at 0)) x → at < length lasts
last_within entries lasts at x c = elim (cases_lt at (length lasts)) [
  | inl there ↦ there
  | inr none ↦ absurd (let gone = subst (λ last. Contains (chain entries last) x) (none_past lasts at none) c in omega (arith, gone.1))
]
