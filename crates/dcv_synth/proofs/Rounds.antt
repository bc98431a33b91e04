-- From round to round: the first, and what the next looks at.
use Rattle.std.proofs.Common.{◌≡◌, ◌↔◌, ℕ, zero, suc, ◌+◌, ◌-◌, ◌<◌, ltb, Bool, true, false, not, ◌||◌, nat_eq, List, [], ◌∷◌, ◌++◌, length, take, drop, replicate, get_or, Option, Some, None, Contains, refl, ap, sym, ◌∙◌, subst, arith}
use Rattle.std.specs.Cmp.{unsigned_Decides}
use Rattle.std.specs.List.{All, list_any, range_with_len}
use Rattle.std.proofs.lemmas.Bool.{false≢true, ltb-true, ltb-false, or_left, or_right}
use Rattle.std.proofs.lemmas.List.{get_or_past, get_or_default, append-nil, take_all, same_lists, length-replicate, get_or-replicate}
use Rattle.std.proofs.Math.ListN.{drop_of_length-le}
use Rattle.std.proofs.lemmas.List.Elements.{Contains-get_or}
use Rattle.std.proofs.lemmas.List.FromFn.{get_or-map-range_with_len, length-map-range_with_len}
use Rattle.std.proofs.lemmas.Map.Made.{is_member-Decides}
use Rattle.dcv_language.specs.Automaton.{Automaton}
use Rattle.dcv_language.specs.Operations.{some_track}
use Rattle.dcv_arena.specs.Arena.{ArenaValue, IsArena, IsRef, value_of}
use Rattle.dcv_arena.specs.declared.nodes.Ref.{Ref}
use Rattle.dcv_arena.specs.declared.nodes.Ref.TheVariants.{Leaf, Place}
use Rattle.dcv_dfa.specs.Raw.{RawValue, IsRaw, automaton_of, row_of}
use Rattle.dcv_refinement.specs.Leads.{IndexedRows, index_of, LeadsInto, IsRowInto}
use Rattle.dcv_refinement.proofs.Fitted.{leads_at}
use Rattle.dcv_synth.specs.Tracks.{each_track}
use Rattle.dcv_synth.specs.Winning.{is_lost, is_beaten, IsWin, is_held}
use Rattle.dcv_synth.specs.Forced.{lost_at, HasLost, IsApart}
use Rattle.dcv_synth.specs.Ranked.{rank_at, AreRanked, win_by, IsRankedWithin, AreRankedWithin, lost_within, AreNew, AreUnranked, IsStanding}
use Rattle.dcv_synth.specs.declared.forcing.Forcing.{Forcing}
use Rattle.dcv_synth.specs.declared.ranks.Ranked.{Ranked}
use Rattle.dcv_synth.proofs.Ranking.{or_none, count_kept}
use Rattle.dcv_synth.proofs.RankEnds.{stays_lost, fewer, all_ranked, all_won, all_held}
use Rattle.dcv_synth.proofs.RowRanks.{lost_at_state, accepting_within}

-- ---- the first

-- what copies of none are
pub only_none : (P : Option Ranked → Type 0) → ((ranked : Ranked) → P (Some ranked) → ⊥) → (entry : Option Ranked) → P entry → entry ≡ None
only_none P never None is = refl
only_none P never (Some ranked) is = absurd (never ranked is)

pub none_ranked : (n m : ℕ) (automaton : Automaton ℕ) (states : ℕ) → AreRankedWithin n m automaton states 0 (replicate states None)
none_ranked n m automaton states = record {
  count = length-replicate states None;
  each = λ state within. subst (IsRankedWithin n m automaton 0 state) (sym (get_or-replicate states state None None within)) refl;
}

length_of : (count first : ℕ) → length (range_with_len first count) ≡ count
length_of zero first = refl
length_of (suc count) first = ap suc (length_of count (first + 1))

range_at : (count first k d : ℕ) → k < count → get_or (range_with_len first count) k d ≡ first + k
range_at zero first k d below = absurd (omega (arith, below))
range_at (suc count) first zero d below = omega arith
range_at (suc count) first (suc k) d below = omega (arith, range_at count (first + 1) k d (omega (arith, below)))

pub all_looked : (n m : ℕ) (automaton : Automaton ℕ) (states bound : ℕ) → AreUnranked n m automaton states bound (range_with_len 0 states)
all_looked n m automaton states bound state within absent =
    absurd (absent (state, omega (arith, within, length_of states 0), range_at states 0 state state within ∙ (let e : 0 + state ≡ state = omega arith in e)))

pub all_within : (states : ℕ) → All (λ state. state < states) (range_with_len 0 states)
all_within states k d below = omega (arith, range_at states 0 k d (omega (arith, below, length_of states 0)), below, length_of states 0)

-- ---- the next

module _ (n : ℕ) (raw : RawValue) (bound : ℕ) (beaten : List ℕ) (new : AreNew n (raw.arena.slots - n) (automaton_of raw) bound beaten) (is : IsRaw raw) where
  abbrev m : ℕ
  m = raw.arena.slots - n

  -- those that are new are lost too
  pub lost_next : (old lost : List Bool) → HasLost old beaten lost → old ≡ lost_within n m (automaton_of raw) (length raw.rows) bound
      → lost ≡ lost_within n m (automaton_of raw) (length raw.rows) (suc bound)
  lost_next old lost has old_is =
      same_lists lost (lost_within n m (automaton_of raw) (length raw.rows) (suc bound)) (has.count ∙ count) (λ state d within.
      let below : state < length raw.rows = omega (arith, within, has.count, ap length old_is, length-map-range_with_len (lost_in bound) 0 (length raw.rows)) in
      get_or_default lost state d true within
      ∙ has.each state
      ∙ ap (λ list. lost_at list state || list_any (nat_eq state) beaten) old_is
      ∙ ap (λ b. b || list_any (nat_eq state) beaten) (lost_at_state n m raw bound state is.flags)
      ∙ by state (list_any (nat_eq state) beaten) refl
      ∙ sym (get_or-map-range_with_len (lost_in (suc bound)) 0 (length raw.rows) state state d below (omega arith)))
    where
      lost_in : ℕ → ℕ → Bool
      lost_in b = is_lost (automaton_of raw) (is_beaten n m (automaton_of raw) b)

      count : length old ≡ length (lost_within n m (automaton_of raw) (length raw.rows) (suc bound))
      count = ap length old_is ∙ length-map-range_with_len (lost_in bound) 0 (length raw.rows) ∙ sym (length-map-range_with_len (lost_in (suc bound)) 0 (length raw.rows))

      by : (state : ℕ) (b : Bool) → list_any (nat_eq state) beaten ≡ b → (lost_in bound state || b) ≡ lost_in (suc bound) state
      by state true e =
          let is_new = (new state).0 ((is_member-Decides unsigned_Decides beaten state).0 e) in
          or_right (lost_in bound state) true refl ∙ sym (or_right (not ((automaton_of raw).accepting state)) (is_beaten n m (automaton_of raw) (suc bound) state) is_new.beaten)
      by state false e =
          or_none (lost_in bound state)
          ∙ sym (stays_lost n raw bound beaten new state (λ there. false≢true (sym e ∙ (is_member-Decides unsigned_Decides beaten state).1 there)))

  -- a row that leads to none of them is not beaten by one letter more
  pub unlooked : (looked : List ℕ) → ((row : ℕ) → Contains looked row ↔ IsRowInto (index_of raw.arena raw.rows) beaten row)
      → AreUnranked n m (automaton_of raw) (length raw.rows) (suc bound) looked
  unlooked looked finds state within absent =
      λ i. some_track n (λ input. each_track m (λ output. same (input ++ output) i))
    where
      lost_in : ℕ → ℕ → Bool
      lost_in b = is_lost (automaton_of raw) (is_beaten n m (automaton_of raw) b)

      row : Ref
      row = row_of raw state

      row_is : IsRef raw.arena row
      row_is = is.rows state (Leaf 0) within

      same : (letter : List Bool) → lost_in (suc bound) (value_of raw.arena row letter) ≡ lost_in bound (value_of raw.arena row letter)
      same letter = by (ltb (value_of raw.arena row letter) (length raw.rows)) refl
        where
          next : ℕ
          next = value_of raw.arena row letter

          by : (b : Bool) → ltb next (length raw.rows) ≡ b → lost_in (suc bound) next ≡ lost_in bound next
          by true e =
              stays_lost n raw bound beaten new next (λ there.
              absent ((finds state).1 (record { below = within; leads = leads_at (index_of raw.arena raw.rows) beaten row letter is.arena row_is (ltb-true next (length raw.rows) e) there })))
          by false e =
              let rejects : not ((automaton_of raw).accepting next) ≡ true =
              ap not (get_or_past raw.accepting next false (omega (arith, ltb-false next (length raw.rows) e, is.flags))) in
              or_left (not ((automaton_of raw).accepting next)) (is_beaten n m (automaton_of raw) (suc bound) next) rejects
              ∙ sym (or_left (not ((automaton_of raw).accepting next)) (is_beaten n m (automaton_of raw) bound next) rejects)

-- a place that is not marked leads to none of them
pub apart_places : (arena : ArenaValue) (index : IndexedRows) (beaten marked : List ℕ) (count : ℕ) → IsArena arena → index.arena ≡ arena → length index.rows ≡ count
    → ((place : ℕ) → Contains marked place ↔ LeadsInto index beaten (Place place)) → (place : ℕ) → place < length arena.nodes → ¬ Contains marked place → IsApart arena count beaten place
apart_places arena index beaten marked count is same size finds place within absent letter below there =
    absent ((finds place).1 (subst (λ (of : ArenaValue). LeadsInto (index_of of index.rows) beaten (Place place)) (sym same)
    (leads_at (index_of arena index.rows) beaten (Place place) letter is within (omega (arith, below, size)) there)))

pub marked_within : (arena : ArenaValue) (index : IndexedRows) (beaten marked : List ℕ) → index.arena ≡ arena
    → ((place : ℕ) → Contains marked place ↔ LeadsInto index beaten (Place place)) → All (λ place. place < length arena.nodes) marked
marked_within arena index beaten marked same finds k d below =
    let place = get_or marked k d in
    let leads = (finds place).0 (Contains-get_or marked k d below) in
    subst (λ (of : ArenaValue). place < length of.nodes) same leads.is_ref

-- a vector that was written to as a slice has the slice
pub written_back : {X : Type 0} (new old : List X) (len : ℕ) → length new ≡ length old → len ≡ length old → take len (new ++ drop (length new) old) ≡ new
written_back new old len same is =
    ap (λ rest. take len (new ++ rest)) (drop_of_length-le old (omega (arith, same))) ∙ ap (take len) (append-nil new) ∙ take_all len new (omega (arith, same, is))

-- ---- the end

pub some_new : (beaten : List ℕ) → (nat_eq (length beaten) 0 ≡ false) → Contains beaten (get_or beaten 0 0)
some_new [] e = absurd (false≢true (sym e ∙ (unsigned_Decides 0 0).1 refl))
some_new (state ∷ beaten) e = (0, omega arith, refl)

pub none_new : (beaten : List ℕ) → (nat_eq (length beaten) 0 ≡ true) → (state : ℕ) → ¬ Contains beaten state
none_new [] e state there = omega (arith, there.1)
none_new (one ∷ beaten) e state there = omega (arith, (unsigned_Decides (length (one ∷ beaten)) 0).0 e)

-- where some state is new, fewer are kept in the next round
pub fewer_next : (raw : RawValue) (bound : ℕ) (old new : Forcing) (old_ranks new_ranks : List (Option Ranked)) (old_beaten new_beaten : List ℕ)
    → IsStanding raw bound old old_ranks old_beaten → IsStanding raw (suc bound) new new_ranks new_beaten → new.inputs ≡ old.inputs → nat_eq (length old_beaten) 0 ≡ false
    → count_kept new.lost.items < count_kept old.lost.items
fewer_next raw bound old new old_ranks new_ranks old_beaten new_beaten is next inputs some =
    let state = get_or old_beaten 0 0 in
    let there = some_new old_beaten some in
    let within = accepting_within raw state is.forced.raw_is.flags ((is.beaten_are state).0 there).accepts in
    subst (λ (lists : List Bool × List Bool). count_kept lists.0 < count_kept lists.1)
    (λ i. (
      sym (next.forced.lost ∙ ap (λ k. lost_within k (raw.arena.slots - k) (automaton_of raw) (length raw.rows) (suc bound)) inputs) i,
      sym is.forced.lost i,
    ))
    (fewer old.inputs raw bound old_beaten is.beaten_are state within there)

module _ (n : ℕ) (raw : RawValue) (bound : ℕ) (forcing : Forcing) (ranks : List (Option Ranked)) (beaten : List ℕ)
    (is : IsStanding raw bound forcing ranks beaten) (inputs : forcing.inputs ≡ n) (none : nat_eq (length beaten) 0 ≡ true) where
  new_are : AreNew n (raw.arena.slots - n) (automaton_of raw) bound beaten
  new_are = subst (λ k. AreNew k (raw.arena.slots - k) (automaton_of raw) bound beaten) inputs is.beaten_are

  ranks_are : AreRankedWithin n (raw.arena.slots - n) (automaton_of raw) (length raw.rows) (suc bound) ranks
  ranks_are = subst (λ k. AreRankedWithin k (raw.arena.slots - k) (automaton_of raw) (length raw.rows) (suc bound) ranks) inputs is.ranks_are

  pub rounds_rank : AreRanked n (raw.arena.slots - n) (automaton_of raw) (length raw.rows) ranks
  rounds_rank = all_ranked n raw bound beaten new_are is.forced.raw_is ranks ranks_are (none_new beaten none)

  pub rounds_win : IsWin n (raw.arena.slots - n) (automaton_of raw) (win_by (automaton_of raw) ranks)
  rounds_win = all_won n raw bound beaten new_are is.forced.raw_is ranks ranks_are (none_new beaten none)

  pub rounds_hold : (state : ℕ) → state < length raw.rows → rank_at ranks state ≡ None → is_held n (raw.arena.slots - n) (automaton_of raw) (win_by (automaton_of raw) ranks) state ≡ true
  rounds_hold = all_held n raw bound beaten new_are is.forced.raw_is ranks ranks_are (none_new beaten none)
