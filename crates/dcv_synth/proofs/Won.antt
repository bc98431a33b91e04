-- The list of the states of Win has those that accept and have no rank.
use Rattle.std.proofs.Common.{◌≡◌, ◌+◌, ℕ, ltb, Bool, true, false, List, [], ◌∷◌, ◌++◌, length, map, Option, refl, ap, sym, ◌∙◌, arith}
use Rattle.std.specs.List.{range_with_len}
use Rattle.std.specs.Prelude.{is_none, ◌&&◌}
use Rattle.std.proofs.lemmas.Bool.{ltb-true, ltb-false}
use Rattle.std.proofs.lemmas.List.{get_or_past}
use Rattle.std.proofs.lemmas.List.FromFn.{get_or-map-range_with_len, length-map-range_with_len, map-range_with_len_more}
use Rattle.dcv_dfa.specs.Raw.{RawValue, automaton_of}
use Rattle.dcv_synth.specs.Answered.{won_at}
use Rattle.dcv_synth.specs.Ranked.{rank_at, win_by}
use Rattle.dcv_synth.specs.declared.ranks.Ranked.{Ranked}

pub won_by_list : (raw : RawValue) (ranks : List (Option Ranked)) (win : List Bool) (state : ℕ) → length raw.accepting ≡ length raw.rows
    → win ≡ map (win_by (automaton_of raw) ranks) (range_with_len 0 (length raw.rows)) → won_at win state ≡ win_by (automaton_of raw) ranks state
won_by_list raw ranks win state flags is = ap (λ list. won_at list state) is ∙ by (ltb state (length raw.rows)) refl
  where
    f : ℕ → Bool
    f = win_by (automaton_of raw) ranks

    by : (b : Bool) → ltb state (length raw.rows) ≡ b → won_at (map f (range_with_len 0 (length raw.rows))) state ≡ f state
    by true e = get_or-map-range_with_len f 0 (length raw.rows) state state false (ltb-true state (length raw.rows) e) (omega arith)
    by false e =
        let past = ltb-false state (length raw.rows) e in
        get_or_past (map f (range_with_len 0 (length raw.rows))) state false (omega (arith, past, length-map-range_with_len f 0 (length raw.rows)))
        ∙ ap (λ b. b && is_none (rank_at ranks state)) (sym (get_or_past raw.accepting state false (omega (arith, past, flags))))

pub won_more : (f : ℕ → Bool) (states : ℕ) (win more : List Bool) (is : Bool) → win ≡ map f (range_with_len 0 states) → more ≡ win ++ is ∷ [] → is ≡ f states
    → more ≡ map f (range_with_len 0 (states + 1))
won_more f states win more is so grown here = grown ∙ (λ i. so i ++ here i ∷ []) ∙ sym (map-range_with_len_more f 0 states states (omega arith))
