-- The way down to the least inputs that force a lost state.
use Rattle.std.proofs.Common.{◌≡◌, ℕ, zero, suc, ◌+◌, ◌<◌, ◌≤◌, Bool, true, false, not, cond, List, [], ◌∷◌, ◌++◌, length, take, set, get_or, refl, ap, sym, ◌∙◌, arith, length-take, length-set}
use Rattle.std.proofs.Math.Seq.{take-suc-set}
use Rattle.std.proofs.lemmas.List.{append_assoc, append-nil}
use Rattle.dcv_language.specs.Operations.{some_track}
use Rattle.dcv_arena.specs.Arena.{ArenaValue, IsRef, level_of, value_of}
use Rattle.dcv_arena.specs.declared.nodes.Ref.{Ref}
use Rattle.dcv_synth.specs.Tracks.{each_track, least_track}
use Rattle.dcv_synth.specs.Forced.{lost_at, IsForced, loses}
use Rattle.dcv_synth.proofs.Forced.{forced_tracks, length-push, push-append, value-at}

-- so many slots were gone through, with these inputs, from the root to the ref
pub record IsDescent (n m : ℕ) (arena : ArenaValue) (lost : List Bool) (root : Ref) (slot : ℕ) (input : List Bool) (current : Ref) : Type 0 where
  pub width : length input ≡ n
  pub is_ref : IsRef arena current
  pub level : slot ≤ level_of arena current
  pub value : (values : List Bool) → value_of arena current (take slot input ++ values) ≡ value_of arena root (take slot input ++ values)
  pub least : (rest : ℕ) → slot + rest ≡ n
      → least_track n (loses m arena lost root) ≡ take slot input ++ least_track rest (λ others. loses m arena lost root (take slot input ++ others))

take-all : (input : List Bool) (n : ℕ) → length input ≡ n → take n input ≡ input
take-all [] zero h = refl
take-all [] (suc n) h = refl
take-all (x ∷ input) zero h = absurd (omega arith)
take-all (x ∷ input) (suc n) h = ap (λ l. x ∷ l) (take-all input n (omega arith))

pub descent_ends : (n m : ℕ) (arena : ArenaValue) (lost : List Bool) (root : Ref) (slot : ℕ) (input : List Bool) (current : Ref) → slot ≡ n
    → IsDescent n m arena lost root slot input current → input ≡ least_track n (loses m arena lost root)
descent_ends n m arena lost root slot input current done down =
    sym (down.least 0 (omega arith) ∙ append-nil (take slot input) ∙ take-all input slot (down.width ∙ sym done))

module _ (n m : ℕ) (arena : ArenaValue) (lost : List Bool) (root : Ref) (slot : ℕ) (input : List Bool) (current lo hi : Ref) (low : Bool)
    (down : IsDescent n m arena lost root slot input current) (sizes : n + m ≡ arena.slots) (more : slot < n)
    (lo_ref : IsRef arena lo) (hi_ref : IsRef arena hi) (lo_level : slot < level_of arena lo) (hi_level : slot < level_of arena hi)
    (value : (letter : List Bool) → value_of arena current letter ≡ cond (get_or letter slot false) (value_of arena hi letter) (value_of arena lo letter))
    (is : IsForced n arena lost lo low) where
  abbrev front : List Bool
  front = take slot input

  front_size : length front ≡ slot
  front_size = omega (arith, down.width, more, length-take slot input)

  -- the side of a value has the root's numbers after the front that goes on by it
  side_value : (b : Bool) (values : List Bool) → value_of arena (cond b hi lo) (front ++ b ∷ values) ≡ value_of arena root (front ++ b ∷ values)
  side_value b values =
      by b ∙ sym (value (front ++ b ∷ values) ∙ ap (λ x. cond x (value_of arena hi (front ++ b ∷ values)) (value_of arena lo (front ++ b ∷ values))) here)
      ∙ down.value (b ∷ values)
    where
      here : get_or (front ++ b ∷ values) slot false ≡ b
      here = ap (λ s. get_or (front ++ b ∷ values) s false) (sym front_size) ∙ value-at front b values

      by : (x : Bool) → value_of arena (cond x hi lo) (front ++ b ∷ values) ≡ cond x (value_of arena hi (front ++ b ∷ values)) (value_of arena lo (front ++ b ∷ values))
      by true = refl
      by false = refl

  wanted : List Bool → Bool
  wanted = loses m arena lost root

  some_low : (rest : ℕ) → suc slot + rest ≡ n → some_track rest (λ others. loses m arena lost root (front ++ false ∷ others)) ≡ low
  some_low rest all =
      (λ i. some_track rest (λ others. each_track m (λ output. lost_at lost (same others output i))))
      ∙ sym (forced_tracks n (length (front ++ false ∷ [])) rest m (rest + m) (λ values. lost_at lost (value_of arena lo ((front ++ false ∷ []) ++ values)))
      (omega (arith, length-push front false, front_size)) refl)
      ∙ is (front ++ false ∷ []) (rest + m) (omega (arith, length-push front false, front_size)) (omega (arith, length-push front false, front_size, lo_level))
    where
      same : (others output : List Bool) → value_of arena root ((front ++ false ∷ others) ++ output) ≡ value_of arena lo ((front ++ false ∷ []) ++ (others ++ output))
      same others output =
          ap (value_of arena root) (append_assoc front (false ∷ others) output)
          ∙ sym (side_value false (others ++ output))
          ∙ ap (value_of arena lo) (sym (push-append front false (others ++ output)))

  abbrev after : List Bool
  after = set input slot (not low)

  front_after : take (suc slot) after ≡ front ++ not low ∷ []
  front_after = take-suc-set input slot (not low) (omega (arith, down.width, more))

  goes_on : (b : Bool) → ◌≡◌ {A = List Bool → Bool} (λ others. loses m arena lost root (front ++ b ∷ others)) (λ others. loses m arena lost root ((front ++ b ∷ []) ++ others))
  goes_on b = λ i others. loses m arena lost root (sym (push-append front b others) i)

  least_after : (rest : ℕ) → suc slot + rest ≡ n
      → least_track n (loses m arena lost root) ≡ (front ++ not low ∷ []) ++ least_track rest (λ others. loses m arena lost root ((front ++ not low ∷ []) ++ others))
  least_after rest all = down.least (suc rest) (omega arith) ∙ by low (some_low rest all)
    where
      by : (b : Bool) → some_track rest (λ others. loses m arena lost root (front ++ false ∷ others)) ≡ b
          → front ++ least_track (suc rest) (λ others. loses m arena lost root (front ++ others))
          ≡ (front ++ not b ∷ []) ++ least_track rest (λ others. loses m arena lost root ((front ++ not b ∷ []) ++ others))
      by b e =
          ap (λ x. front ++ cond x (false ∷ least_track rest (λ others. loses m arena lost root (front ++ false ∷ others)))
          (true ∷ least_track rest (λ others. loses m arena lost root (front ++ true ∷ others)))) e
          ∙ side b
        where
          side : (x : Bool) → front ++ cond x (false ∷ least_track rest (λ others. loses m arena lost root (front ++ false ∷ others)))
              (true ∷ least_track rest (λ others. loses m arena lost root (front ++ true ∷ others)))
              ≡ (front ++ not x ∷ []) ++ least_track rest (λ others. loses m arena lost root ((front ++ not x ∷ []) ++ others))
          side true = ap (λ l. front ++ false ∷ l) (ap (least_track rest) (goes_on false)) ∙ sym (push-append front false _)
          side false = ap (λ l. front ++ true ∷ l) (ap (least_track rest) (goes_on true)) ∙ sym (push-append front true _)

  next : Ref
  next = cond low lo hi

  pub descent_goes_on : IsDescent n m arena lost root (suc slot) (set input slot (not low)) (cond low lo hi)
  descent_goes_on = record {
    width = length-set input slot (not low) ∙ down.width;
    is_ref = ref_by low;
    level = level_by low;
    value = λ values. ap (λ f. value_of arena (cond low lo hi) (f ++ values)) front_after
        ∙ ap (value_of arena (cond low lo hi)) (push-append front (not low) values)
        ∙ by low values
        ∙ sym (ap (λ f. value_of arena root (f ++ values)) front_after ∙ ap (value_of arena root) (push-append front (not low) values));
    least = λ rest all. least_after rest all
        ∙ sym (ap (λ f. f ++ least_track rest (λ others. loses m arena lost root (f ++ others))) front_after);
  }
    where
      ref_by : (x : Bool) → IsRef arena (cond x lo hi)
      ref_by true = lo_ref
      ref_by false = hi_ref

      level_by : (x : Bool) → suc slot ≤ level_of arena (cond x lo hi)
      level_by true = omega (arith, lo_level)
      level_by false = omega (arith, hi_level)

      by : (x : Bool) (values : List Bool) → value_of arena (cond x lo hi) (front ++ not x ∷ values) ≡ value_of arena root (front ++ not x ∷ values)
      by true values = side_value false values
      by false values = side_value true values
