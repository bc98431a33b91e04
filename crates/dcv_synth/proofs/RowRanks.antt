-- What is forced from a state's row on is that the state is beaten.
use Rattle.std.proofs.Common.{◌≡◌, ℕ, suc, ◌+◌, ◌-◌, ◌<◌, ◌≤◌, ltb, Bool, true, false, not, List, [], ◌∷◌, ◌++◌, length, map, Option, Some, None, is_some, slice_get, inl, inr, refl, ap, sym, ◌∙◌, subst, arith}
use Rattle.std.specs.List.{range_with_len}
use Rattle.std.proofs.lemmas.Bool.{true≢false, ltb-true, ltb-false, or_left}
use Rattle.std.proofs.lemmas.List.{get_or_past, map-id}
use Rattle.std.proofs.lemmas.List.FromFn.{get_or-map-range_with_len, length-map-range_with_len, map-range_with_len_more}
use Rattle.std.proofs.lemmas.Option.{get_or_from_slice_get}
use Rattle.dcv_language.specs.Automaton.{Automaton}
use Rattle.dcv_language.specs.Operations.{some_track}
use Rattle.dcv_arena.specs.Arena.{IsRef, value_of}
use Rattle.dcv_arena.specs.declared.nodes.Ref.{Ref}
use Rattle.dcv_arena.specs.declared.nodes.Ref.TheVariants.{Leaf}
use Rattle.dcv_dfa.specs.Raw.{RawValue, IsRaw, automaton_of, row_of}
use Rattle.dcv_synth.specs.Tracks.{each_track, least_track}
use Rattle.dcv_synth.specs.Winning.{is_lost, is_beaten, IsRank, move_of}
use Rattle.dcv_synth.specs.Forced.{lost_at, forced_at, AreAllForced, loses}
use Rattle.dcv_synth.specs.Ranked.{IsRankedWithin, lost_within, HasForced, IsDecided}
use Rattle.dcv_synth.specs.declared.forcing.Forcing.{Forcing}
use Rattle.dcv_synth.specs.declared.ranks.Ranked.{Ranked}
use Rattle.dcv_synth.proofs.Forced.{forced_ref, forced_tracks}
use Rattle.dcv_synth.proofs.Ranking.{beaten-more, unbeaten-before}

-- a number that is no state is lost, since it does not accept
pub lost_at_state : (n m : ℕ) (raw : RawValue) (bound state : ℕ) → length raw.accepting ≡ length raw.rows
    → lost_at (lost_within n m (automaton_of raw) (length raw.rows) bound) state ≡ is_lost (automaton_of raw) (is_beaten n m (automaton_of raw) bound) state
lost_at_state n m raw bound state flags = by (ltb state (length raw.rows)) refl
  where
    f : ℕ → Bool
    f = is_lost (automaton_of raw) (is_beaten n m (automaton_of raw) bound)

    by : (b : Bool) → ltb state (length raw.rows) ≡ b → lost_at (map f (range_with_len 0 (length raw.rows))) state ≡ f state
    by true e = get_or-map-range_with_len f 0 (length raw.rows) state state true (ltb-true state (length raw.rows) e) (omega arith)
    by false e =
        let past = ltb-false state (length raw.rows) e in
        get_or_past (map f (range_with_len 0 (length raw.rows))) state true (omega (arith, past, length-map-range_with_len f 0 (length raw.rows)))
        ∙ sym (or_left (not ((automaton_of raw).accepting state)) (is_beaten n m (automaton_of raw) bound state)
        (ap not (get_or_past raw.accepting state false (omega (arith, past, flags)))))

pub accepting_within : (raw : RawValue) (state : ℕ) → length raw.accepting ≡ length raw.rows → (automaton_of raw).accepting state ≡ true → state < length raw.rows
accepting_within raw state flags accepts = by (ltb state (length raw.rows)) refl
  where
    by : (b : Bool) → ltb state (length raw.rows) ≡ b → state < length raw.rows
    by true e = ltb-true state (length raw.rows) e
    by false e = absurd (true≢false (sym accepts ∙ get_or_past raw.accepting state false (omega (arith, ltb-false state (length raw.rows) e, flags))))

module _ (raw : RawValue) (bound : ℕ) (forcing : Forcing) (has : HasForced raw bound forcing) (state : ℕ) (row : Ref)
    (at : slice_get raw.rows state ≡ Some row) (is_ref : IsRef raw.arena row) where
  abbrev m : ℕ
  m = raw.arena.slots - forcing.inputs

  lost_is : (number : ℕ) → lost_at forcing.lost.items number ≡ is_lost (automaton_of raw) (is_beaten forcing.inputs m (automaton_of raw) bound) number
  lost_is number = ap (λ lost. lost_at lost number) has.lost ∙ lost_at_state forcing.inputs m raw bound number has.raw_is.flags

  row_is : row_of raw state ≡ row
  row_is = get_or_from_slice_get raw.rows state row (Leaf 0) at

  pub row_forced : forced_at forcing.lost.items forcing.forced.items row ≡ is_beaten forcing.inputs m (automaton_of raw) (suc bound) state
  row_forced =
      let whole : forcing.inputs + m ≡ raw.arena.slots = omega (arith, has.inputs) in
      let forced = forced_ref forcing.inputs raw.arena forcing.lost.items forcing.forced.items (length raw.arena.nodes) row has.each.each is_ref in
      sym (forced [] raw.arena.slots (omega arith) (omega arith))
      ∙ forced_tracks forcing.inputs 0 forcing.inputs m raw.arena.slots (λ values. lost_at forcing.lost.items (value_of raw.arena row values)) (omega arith) whole
      ∙ (λ i. some_track forcing.inputs (λ input. each_track m (λ output. lost_is (value_of raw.arena row (input ++ output)) i)))
      ∙ (λ i. some_track forcing.inputs (λ input. each_track m (λ output.
      is_lost (automaton_of raw) (is_beaten forcing.inputs m (automaton_of raw) bound) (value_of raw.arena (sym row_is i) (input ++ output)))))

  pub row_move : least_track forcing.inputs (loses (forcing.arena.now.slots - forcing.inputs) forcing.arena.now forcing.lost.items row)
      ≡ move_of forcing.inputs m (automaton_of raw) (suc bound) state
  row_move =
      (λ i. least_track forcing.inputs (loses ((has.arena i).slots - forcing.inputs) (has.arena i) forcing.lost.items row))
      ∙ (λ i. least_track forcing.inputs (λ input. each_track m (λ output. lost_is (value_of raw.arena row (input ++ output)) i)))
      ∙ (λ i. least_track forcing.inputs (λ input. each_track m (λ output.
      is_lost (automaton_of raw) (is_beaten forcing.inputs m (automaton_of raw) bound) (value_of raw.arena (sym row_is i) (input ++ output)))))

-- ---- one more rank

module _ (n m : ℕ) (automaton : Automaton ℕ) (bound state : ℕ) where
  -- a state without an entry has no rank up to the bound
  pub not_yet : (entry : Option Ranked) → is_some entry ≡ false → IsDecided n m automaton bound state entry → is_beaten n m automaton bound state ≡ false
  not_yet None e (inl later) = unbeaten-before n m automaton (suc bound) bound state (omega arith) later
  not_yet None e (inr now) = now
  not_yet (Some ranked) e is = absurd (true≢false e)

  pub not_later : (entry : Option Ranked) → is_some entry ≡ false → is_beaten n m automaton (suc bound) state ≡ false → IsRankedWithin n m automaton (suc bound) state entry
  not_later None e none = none
  not_later (Some ranked) e none = absurd (true≢false e)

  -- an entry stays
  pub kept : (entry : Option Ranked) → is_some entry ≡ true → IsDecided n m automaton bound state entry → IsRankedWithin n m automaton (suc bound) state entry
  kept None e is = absurd (true≢false (sym e))
  kept (Some ranked) e (inl later) = later
  kept (Some ranked) e (inr now) = (beaten-more n m automaton bound state now.0, now.1)

  pub new_rank : is_beaten n m automaton bound state ≡ false → is_beaten n m automaton (suc bound) state ≡ true → IsRank n m automaton state (suc bound)
  new_rank before e = record { beaten = e; least = λ other less. unbeaten-before n m automaton bound other state (omega (arith, less)) before }

-- ---- lists that get one more entry

pub lost_more : (n m : ℕ) (automaton : Automaton ℕ) (states bound : ℕ) (lost more : List Bool) (is : Bool) → lost ≡ lost_within n m automaton states bound
    → more ≡ lost ++ is ∷ [] → is ≡ is_lost automaton (is_beaten n m automaton bound) states → more ≡ lost_within n m automaton (states + 1) bound
lost_more n m automaton states bound lost more is so grown here =
    grown ∙ (λ i. so i ++ here i ∷ []) ∙ sym (map-range_with_len_more (is_lost automaton (is_beaten n m automaton bound)) 0 states states (omega arith))

pub range_more : (first count next : ℕ) → first + count ≡ next → range_with_len first (count + 1) ≡ range_with_len first count ++ next ∷ []
range_more first count next e = sym (map-id (range_with_len first (count + 1))) ∙ map-range_with_len_more (λ n. n) first count next e ∙ ap (λ list. list ++ next ∷ []) (map-id (range_with_len first count))

-- ---- what is forced

pub has_forced : (n : ℕ) (raw : RawValue) (bound : ℕ) (lost : List Bool) (forcing : Forcing) → IsRaw raw → n ≤ raw.arena.slots
    → forcing.arena.now ≡ raw.arena → forcing.inputs ≡ n → forcing.lost.items ≡ lost
    → lost ≡ lost_within n (raw.arena.slots - n) (automaton_of raw) (length raw.rows) bound → AreAllForced n raw.arena lost forcing.forced.items → HasForced raw bound forcing
has_forced n raw bound lost forcing raw_is few arena inputs same lost_is each = record {
  raw_is = raw_is;
  inputs = subst (λ k. k ≤ raw.arena.slots) (sym inputs) few;
  arena = arena;
  lost = same ∙ lost_is ∙ ap (λ k. lost_within k (raw.arena.slots - k) (automaton_of raw) (length raw.rows) bound) (sym inputs);
  each = subst (λ (parts : ℕ × List Bool). AreAllForced parts.0 raw.arena parts.1 forcing.forced.items) (λ i. (sym inputs i, sym same i)) each;
}
