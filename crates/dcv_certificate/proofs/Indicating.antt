-- The functions that have 1 where letters lead into a part, made from those of the two sides of a node, and the marks that they give.
use Rattle.std.proofs.Common.{◌≡◌, ◌≢◌, ℕ, ◌<◌, ◌≤◌, ◌+◌, ◌==◌, ◌||◌, ◌&&◌, if◌then◌else◌, Bool, true, false, cond, nat_eq, List, [], ◌∷◌, ◌++◌, length, get_or, take, All, Contains, Option, Some, None, is_some, inl, inr, refl, ap, sym, subst, ◌∙◌, arith}
use Rattle.std.proofs.lemmas.Bool.{cases_Bool, cases_eq, true≢false, eq-eqb, ne_eqb}
use Rattle.std.specs.Cmp.{nat_eq_equiv}
use Rattle.std.proofs.lemmas.List.Elements.{All-contains}
use Rattle.std.proofs.lemmas.Map.Views.{list_any-from_Contains}
use Rattle.std.proofs.lemmas.Option.{same_Some}
use Rattle.dcv_refinement.specs.SparseSet.{has as is_among}
use Rattle.dcv_arena.specs.Arena.{ArenaValue, IsRef, level_of, value_of, KeepsRefs}
use Rattle.dcv_arena.specs.declared.nodes.Ref.{Ref}
use Rattle.dcv_arena.specs.declared.nodes.Ref.TheVariants.{Leaf, Place}
use Rattle.dcv_refinement.specs.Leads.{row_at, index_of, LeadsInto, IsRowInto}
use Rattle.dcv_refinement.proofs.Fitted.{leads_at}
use Rattle.dcv_dfa.specs.Raw.{RawValue, next_in}
use Rattle.dcv_certificate.specs.declared.indicators.Part.{Part}
use Rattle.dcv_certificate.specs.Separation.{has, count_below, AreVertices}
use Rattle.dcv_certificate.specs.Marks.{marked, IsMarkFrom}
use Rattle.dcv_certificate.specs.Indicators.{part_of, leads, IsIndicator, Became, KeepsEarlier, IsMarkedAbove, AreIndicators}
use Rattle.dcv_certificate.proofs.Counting.{one_if, count_lt, count_change}
use Rattle.dcv_certificate.proofs.Sizing.{count-le}
use Rattle.dcv_certificate.proofs.Walking.{marked_kept, marked_push, one_or_not}
use Rattle.dcv_certificate.proofs.Moving.{has_more_same, has_more_other}
use Rattle.dcv_certificate.proofs.Having.{has_contained, contained}
use Rattle.dcv_certificate.proofs.Truths.{or_neither, and_left, and_first, and_second}

pub indicator_kept : (part : Part) (old new : ArenaValue) (root mark : Ref) → KeepsRefs old new → IsIndicator part old root mark → IsIndicator part new root mark
indicator_kept part old new root mark kept is = record {
  is_ref = kept.refs mark is.is_ref;
  level = omega (arith, is.level, kept.levels mark is.is_ref);
  value = λ letter. kept.values mark letter is.is_ref ∙ is.value letter;
}

pub became_kept : (part : Part) (old new : ArenaValue) (at : ℕ → Option Ref) → KeepsRefs old new → Became part old at → Became part new at
became_kept part old new at kept was place mark is = indicator_kept part old new (Place place) mark kept (was place mark is)

pub became_more : (part : Part) (scratch : ArenaValue) (at new_at : ℕ → Option Ref) (place : ℕ) (mark : Ref) → ((other : ℕ) → new_at other ≡ cond (nat_eq place other) (Some mark) (at other))
    → IsIndicator part scratch (Place place) mark → Became part scratch at → Became part scratch new_at
became_more part scratch at new_at place mark is own was other found e = elim (cases_eq place other) [
  | inl same ↦
      let here : Some mark ≡ Some found = sym (is other ∙ ap (λ (test : Bool). cond test (Some mark) (at other)) (eq-eqb place other same)) ∙ e in
      subst (λ place. IsIndicator part scratch (Place place) found) same (subst (IsIndicator part scratch (Place place)) (same_Some mark found here) own)
  | inr ne ↦ was other found (sym (is other ∙ ap (λ (test : Bool). cond test (Some mark) (at other)) (ne_eqb place other ne)) ∙ e)
]

-- a node became nothing while what comes next at its sides did
pub fresh_still : (part : Part) (place : ℕ) (lo hi : Ref) (old one two : ℕ → Option Ref) → old place ≡ None → KeepsEarlier part lo old one → KeepsEarlier part hi one two
    → level_of part.arena.now (Place place) < level_of part.arena.now lo → level_of part.arena.now (Place place) < level_of part.arena.now hi → two place ≡ None
fresh_still part place lo hi old one two fresh low high before_lo before_hi = high place before_hi ∙ low place before_lo ∙ fresh

-- one place more became something
module _ (nodes place : ℕ) (within : place < nodes) (at : ℕ → Option Ref) (fresh : at place ≡ None) where
  pub not_all : count_below nodes (λ place. is_some (at place)) < nodes
  not_all =
      let all = count_lt nodes (λ place. is_some (at place)) (λ place. true) (λ place h is. refl) place within (ap is_some fresh) refl in
      omega (arith, all, count-le nodes (λ place. true))

  pub one_place_more : (new_at : ℕ → Option Ref) (mark : Ref) → ((other : ℕ) → new_at other ≡ cond (nat_eq place other) (Some mark) (at other))
      → count_below nodes (λ place. is_some (at place)) + 1 ≡ count_below nodes (λ place. is_some (new_at place))
  one_place_more new_at mark is =
      let here : new_at place ≡ Some mark = is place ∙ ap (λ (test : Bool). cond test (Some mark) (at place)) (eq-eqb place place refl) in
      let others : (other : ℕ) → other ≢ place → is_some (at other) ≡ is_some (new_at other) = λ other ne.
      sym (ap is_some (is other ∙ ap (λ (test : Bool). cond test (Some mark) (at other)) (ne_eqb place other (λ e. ne (sym e))))) in
      let change = count_change nodes (λ place. is_some (at place)) (λ place. is_some (new_at place)) place within others in
      omega (arith, change, ap (λ at. one_if (is_some at)) here, ap (λ at. one_if (is_some at)) fresh)

-- a node goes by its slot to the indicators of its two sides
pub indicator_of_node : (part : Part) (old new : ArenaValue) (root lo hi mark low high : Ref) (slot : ℕ) → slot ≡ level_of part.arena.now root
    → ((letter : List Bool) → value_of part.arena.now root letter ≡ (if get_or letter slot false then value_of part.arena.now hi letter else value_of part.arena.now lo letter))
    → IsIndicator part old lo low → IsIndicator part old hi high → IsRef new mark → slot ≤ level_of new mark
    → ((letter : List Bool) → value_of new mark letter ≡ (if get_or letter slot false then value_of old high letter else value_of old low letter)) → IsIndicator part new root mark
indicator_of_node part old new root lo hi mark low high slot at splits low_is high_is is_ref level value = record {
  is_ref = is_ref;
  level = omega (arith, at, level);
  value = λ letter. by letter (get_or letter slot false) refl;
}
  where
    by : (letter : List Bool) (side : Bool) → get_or letter slot false ≡ side → value_of new mark letter ≡ (if leads part root letter then 1 else 0)
    by letter true e =
        let goes : value_of part.arena.now root letter ≡ value_of part.arena.now hi letter =
        splits letter ∙ ap (λ (side : Bool). if side then value_of part.arena.now hi letter else value_of part.arena.now lo letter) e in
        value letter ∙ ap (λ (side : Bool). if side then value_of old high letter else value_of old low letter) e ∙ high_is.value letter
        ∙ sym (ap (λ number. (if part_of part number then 1 else 0)) goes)
    by letter false e =
        let goes : value_of part.arena.now root letter ≡ value_of part.arena.now lo letter =
        splits letter ∙ ap (λ (side : Bool). if side then value_of part.arena.now hi letter else value_of part.arena.now lo letter) e in
        value letter ∙ ap (λ (side : Bool). if side then value_of old high letter else value_of old low letter) e ∙ low_is.value letter
        ∙ sym (ap (λ number. (if part_of part number then 1 else 0)) goes)

-- a node that is not marked leads nowhere
pub leads_nowhere : (part : Part) (place : ℕ) (found : Bool) → IsMarkedAbove part → IsRef part.arena.now (Place place) → found ≡ is_among part.above.now place → found ≡ false
    → (letter : List Bool) → leads part (Place place) letter ≡ false
leads_nowhere part place found above is_ref is none letter = elim (cases_Bool (leads part (Place place) letter)) [
  | inl goes ↦ absurd (true≢false (sym (above place letter is_ref goes) ∙ sym is ∙ none))
  | inr nowhere ↦ nowhere
]

-- a function that leads nowhere into the part
pub indicator_nowhere : (part : Part) (scratch : ArenaValue) (root : Ref) → level_of part.arena.now root ≤ scratch.slots
    → ((letter : List Bool) → leads part root letter ≡ false) → IsIndicator part scratch root (Leaf 0)
indicator_nowhere part scratch root level none = record {
  is_ref = tt;
  level = level;
  value = λ letter. sym (ap (λ (truth : Bool). if truth then 1 else 0) (none letter));
}

-- ---- the marks of some states, one after another

-- both have it, or one
and_again : (a b : Bool) → ((a && b) || b) ≡ b
and_again true true = refl
and_again true false = refl
and_again false b = refl

pub one_indicator_more : (part : Part) (rows : List Ref) (looked : List ℕ) (place : ℕ) (old new : ArenaValue) (states : ℕ) (marks : List (ℕ × Ref)) (mark : Ref) → KeepsRefs old new
    → All (IsMarkFrom old states 0) marks → place < length looked → AreIndicators part rows (take place looked) old marks → IsIndicator part new (row_at rows (get_or looked place 0)) mark
    → AreIndicators part rows (take (place + 1) looked) new (marks ++ (get_or looked place 0, mark) ∷ [])
one_indicator_more part rows looked place old new states marks mark kept refs within was is state letter =
    let one = get_or looked place 0 in
    let before : marked new marks letter state ≡ (has (take place looked) state && leads part (row_at rows state) letter) =
    marked_kept old new kept states 0 marks letter state refs ∙ was state letter in
    marked_push new marks one mark letter state ∙ elim (cases_eq one state) [
      | inl e ↦
          let value : (value_of new mark letter == 1) ≡ leads part (row_at rows state) letter =
          one_or_not (leads part (row_at rows state) letter) (value_of new mark letter) (is.value letter ∙ ap (λ state. (if leads part (row_at rows state) letter then 1 else 0)) e) in
          (λ i. before i || (and_left (one == state) (value_of new mark letter == 1) (eq-eqb one state e) ∙ value) i)
          ∙ and_again (has (take place looked) state) (leads part (row_at rows state) letter)
          ∙ sym (and_left (has (take (place + 1) looked) state) (leads part (row_at rows state) letter) (has_more_same looked place state within e))
      | inr ne ↦
          or_neither (marked new marks letter state) ((one == state) && (value_of new mark letter == 1)) (and_first (one == state) (value_of new mark letter == 1) (ne_eqb one state ne))
          ∙ before ∙ ap (λ there. there && leads part (row_at rows state) letter) (sym (has_more_other looked place state within ne))
    ]

-- ---- all marks of a suffix

module _ (raw : RawValue) (v : AreVertices raw) (states : List ℕ) (inside : All (λ state. state < length raw.rows) states)
    (above looked : List ℕ) (all_above : (place : ℕ) → LeadsInto (index_of raw.arena raw.rows) states (Place place) → Contains above place)
    (all_looked : (row : ℕ) → IsRowInto (index_of raw.arena raw.rows) states row → Contains looked row) (part : Part) (arena : part.arena.now ≡ raw.arena)
    (is : (state : ℕ) → part_of part state ≡ has states state) (above_is : part.above.now ≡ above) where
  leads_is : (ref : Ref) (letter : List Bool) → leads part ref letter ≡ has states (value_of raw.arena ref letter)
  leads_is ref letter = ap (λ (arena : ArenaValue). part_of part (value_of arena ref letter)) arena ∙ is (value_of raw.arena ref letter)

  pub marked_above : IsMarkedAbove part
  marked_above place letter is_ref goes =
      let value = value_of raw.arena (Place place) letter in
      let there = contained states value (sym (leads_is (Place place) letter) ∙ goes) in
      let ref : IsRef raw.arena (Place place) = subst (λ (arena : ArenaValue). IsRef arena (Place place)) arena is_ref in
      let found : Contains above place =
      all_above place (leads_at (index_of raw.arena raw.rows) states (Place place) letter v.arena ref (All-contains (λ state. state < length raw.rows) states value inside there) there) in
      list_any-from_Contains nat_eq_equiv place part.above.now (subst (λ keys. Contains keys place) (sym above_is) found)

  pub all_marked : (scratch : ArenaValue) (marks : List (ℕ × Ref)) → AreIndicators part raw.rows looked scratch marks → (state : ℕ) (letter : List Bool) → state < length raw.rows
      → marked scratch marks letter state ≡ has states (next_in raw state letter)
  all_marked scratch marks are state letter below =
      let next = next_in raw state letter in
      let goes = leads_is (row_at raw.rows state) letter in
      are state letter ∙ elim (cases_Bool (has states next)) [
        | inl is_there ↦
            let there = contained states next is_there in
            let ref = v.rows state (Leaf 0) below in
            let in_rows = All-contains (λ state. state < length raw.rows) states next inside there in
            let into : LeadsInto (index_of raw.arena raw.rows) states (row_at raw.rows state) =
            leads_at (index_of raw.arena raw.rows) states (row_at raw.rows state) letter v.arena ref in_rows there in
            let seen = all_looked state (record { below = below; leads = into }) in
            and_left (has looked state) (leads part (row_at raw.rows state) letter) (has_contained looked state seen) ∙ goes
        | inr isnt ↦ and_second (has looked state) (leads part (row_at raw.rows state) letter) (goes ∙ isnt) ∙ sym isnt
      ]
