-- The table of the complement, and that the complement of a canonical automaton is canonical.
use Rattle.std.proofs.Common.{◌≡◌, ℕ, zero, suc, ◌<◌, Bool, true, false, not, cond, List, [], ◌∷◌, length, get_or, ◌++◌, refl, ap, sym, ◌∙◌, subst, arith}
use Rattle.std.proofs.lemmas.List.{length-map, get_or-map, same_lists}
use Rattle.dcv_word.specs.Behaviour.{Word}
use Rattle.dcv_language.specs.Language.{HaveSameBehaviours, outside}
use Rattle.dcv_language.specs.Table.{TableState, Table}
use Rattle.dcv_language.specs.Canonical.{IsCanonical}
use Rattle.dcv_language.specs.Complement.{stands_alone, flipped, complement}
use Rattle.dcv_language.specs.Laws.{OneCanonicalTable, ComplementIsCanonical, CanonicalForSameBehaviours}
use Rattle.dcv_dfa.specs.Raw.{RawValue, IsRaw, raw_accepts}
use Rattle.dcv_dfa.specs.Auto.{IsAuto, IsAutoWith, state_of, table_of_states, turned, complement_of}
use Rattle.dcv_dfa.specs.Laws.{TableOfComplement, OneListOfAccessWords}
use Rattle.dcv_dfa.proofs.States.{table_has_the_states, state-at, table_accepts_as_the_states}

-- ---- flags

pub length-turned : (alone : Bool) (flags : List Bool) → length (turned alone flags) ≡ length flags
length-turned alone [] = refl
length-turned alone (start ∷ others) = ap suc (length-map others not)

-- the flag of a state: turned, but for a start that stands alone
abbrev turned_at : Bool → ℕ → Bool → Bool
turned_at alone zero flag = cond alone flag (not flag)
turned_at alone (suc state) flag = not flag

flag-turned : (alone : Bool) (flags : List Bool) (state : ℕ) → state < length flags → get_or (turned alone flags) state false ≡ turned_at alone state (get_or flags state false)
flag-turned alone [] state below = absurd (omega arith)
flag-turned alone (start ∷ others) zero below = refl
flag-turned alone (start ∷ others) (suc state) below = get_or-map not others state false false (omega arith)

-- ---- the table

length-complement : (access : List Word) (table : Table) → length (complement access table) ≡ length table
length-complement access [] = refl
length-complement access (start ∷ others) = ap suc (length-map others flipped)

-- a state of the complement
abbrev complemented : Bool → ℕ → TableState → TableState
complemented alone zero state = cond alone state (flipped state)
complemented alone (suc number) state = flipped state

state-complement : (access : List Word) (table : Table) (number : ℕ) (d : TableState) → number < length table
    → get_or (complement access table) number d ≡ complemented (stands_alone access) number (get_or table number d)
state-complement access [] number d below = absurd (omega arith)
state-complement access (start ∷ others) zero d below = refl
state-complement access (start ∷ others) (suc number) d below = get_or-map flipped others number d d (omega arith)

-- a state whose flag is turned
state-turned : (alone : Bool) (number : ℕ) (state : TableState)
    → record { accepting = turned_at alone number state.accepting; row = state.row } ≡ complemented alone number state
state-turned true zero state = refl
state-turned false zero state = refl
state-turned alone (suc number) state = refl

pub table_of_complement : TableOfComplement
table_of_complement raw access flags =
    let alone = stands_alone access in
    let other = complement_of alone raw in
    let count = table_has_the_states raw in
    same_lists (table_of_states other) (complement access (table_of_states raw))
    (table_has_the_states other ∙ sym count ∙ sym (length-complement access (table_of_states raw)))
    (λ number d below.
    let within : number < length raw.rows = omega (arith, table_has_the_states other) in
    let flag = flag-turned alone raw.accepting number (omega (arith, flags)) in
    state-at other number d within
    ∙ ap (λ accepting. record (state_of raw number) { accepting = accepting }) flag
    ∙ state-turned alone number (state_of raw number)
    ∙ ap (complemented alone number) (sym (state-at raw number d within))
    ∙ sym (state-complement access (table_of_states raw) number d (omega (arith, count))))

-- ---- canonical automata

pub one_list_of_access_words : OneCanonicalTable → OneListOfAccessWords
one_list_of_access_words law raw one other =
    let table = table_of_states raw in
    (law raw.arena.slots (raw_accepts raw) table table one.access other.access one.canonical other.canonical).1

pub complement_is_raw : (alone : Bool) (raw : RawValue) → IsRaw raw → IsRaw (complement_of alone raw)
complement_is_raw alone raw is = record {
  arena = is.arena;
  rows = is.rows;
  flags = length-turned alone raw.accepting ∙ is.flags;
  start = is.start;
  numbers = is.numbers;
  states = is.states;
}

module _ (keeps : ComplementIsCanonical) (moves : CanonicalForSameBehaviours) (raw : RawValue) (is : IsRaw raw) (auto : IsAuto raw) where
  abbrev other : RawValue
  other = complement_of (stands_alone auto.access) raw

  -- for the words that the raw automaton does not accept
  canonical_outside : IsCanonical raw.arena.slots (outside (raw_accepts raw)) (table_of_states other) auto.access
  canonical_outside =
      subst (λ table. IsCanonical raw.arena.slots (outside (raw_accepts raw)) table auto.access) (sym (table_of_complement raw auto.access is.flags))
      (keeps raw.arena.slots (raw_accepts raw) (table_of_states raw) auto.access auto.canonical)

  -- which are those that the complement accepts
  complement_accepts : HaveSameBehaviours raw.arena.slots (raw_accepts other) (outside (raw_accepts raw))
  complement_accepts word b =
      sym (table_accepts_as_the_states other (complement_is_raw (stands_alone auto.access) raw is) auto.start word b)
      ∙ canonical_outside.exact word b

  complement_is_auto : IsAutoWith other (stands_alone auto.access)
  complement_is_auto = record {
    auto = record {
      start = auto.start;
      access = auto.access;
      canonical = moves raw.arena.slots (outside (raw_accepts raw)) (raw_accepts other) (table_of_states other) auto.access
          (λ word b. sym (complement_accepts word b)) canonical_outside;
      nodes = auto.nodes;
    };
    alone = refl;
  }

-- the same of a canonical automaton that knows how its start stands
module _ (keeps : ComplementIsCanonical) (moves : CanonicalForSameBehaviours) (raw : RawValue) (alone : Bool) (is : IsRaw raw) (its : IsAutoWith raw alone) where
  pub still_auto : IsAutoWith (complement_of alone raw) alone
  still_auto = subst (λ b. IsAutoWith (complement_of b raw) b) (sym its.alone) (complement_is_auto keeps moves raw is its.auto)

  pub accepts_outside : HaveSameBehaviours raw.arena.slots (raw_accepts (complement_of alone raw)) (outside (raw_accepts raw))
  accepts_outside =
      subst (λ b. HaveSameBehaviours raw.arena.slots (raw_accepts (complement_of b raw)) (outside (raw_accepts raw))) (sym its.alone)
      (complement_accepts keeps moves raw is its.auto)

  pub turned_by_access : OneListOfAccessWords → (one : IsAuto raw) → complement_of alone raw ≡ complement_of (stands_alone one.access) raw
  turned_by_access law one = ap (λ b. complement_of b raw) (its.alone ∙ ap stands_alone (law raw its.auto one))
