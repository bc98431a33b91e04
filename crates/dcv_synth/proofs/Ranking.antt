-- What a round adds to the states that are lost and to the ranks.
use Rattle.std.proofs.Common.{◌≡◌, ◌⊎◌, inl, inr, ⊎_elim, ℕ, zero, suc, ◌+◌, ◌-◌, ◌<◌, ◌≤◌, Bool, true, false, not, ◌||◌, List, [], ◌∷◌, length, map, refl, ap, sym, ◌∙◌, arith}
use Rattle.std.proofs.lemmas.Bool.{true≢false}
use Rattle.dcv_language.specs.Automaton.{Automaton}
use Rattle.dcv_language.specs.Operations.{some_track}
use Rattle.dcv_synth.specs.Tracks.{each_track, least_track}
use Rattle.dcv_synth.specs.Winning.{leads, is_lost, is_losing, is_beaten}
use Rattle.dcv_synth.specs.Laws.{BeatsNoMore}
use Rattle.dcv_synth.proofs.Tracks.{each-at, each-from, some-from, least-length, least-has}

some-more : (n : ℕ) (p q : List Bool → Bool) → ((track : List Bool) → p track ≡ true → q track ≡ true) → some_track n p ≡ true → some_track n q ≡ true
some-more n p q more e = some-from n q (least_track n p) (least-length n p) (more (least_track n p) (least-has n p e))

each-more : (n : ℕ) (p q : List Bool → Bool) → ((track : List Bool) → p track ≡ true → q track ≡ true) → each_track n p ≡ true → each_track n q ≡ true
each-more n p q more e = each-from n q (λ track width. more track (each-at n p e track width))

module _ (n m : ℕ) (automaton : Automaton ℕ) where
  abbrev beaten : ℕ → ℕ → Bool
  beaten = is_beaten n m automaton

  pub lost-more : (p q : ℕ → Bool) → ((state : ℕ) → p state ≡ true → q state ≡ true) → (state : ℕ) → is_lost automaton p state ≡ true → is_lost automaton q state ≡ true
  lost-more p q more state = by (not (automaton.accepting state)) (p state) (q state) (more state)
    where
      by : (x a b : Bool) → (a ≡ true → b ≡ true) → (x || a) ≡ true → (x || b) ≡ true
      by true a b f e = refl
      by false a b f e = f e

  -- what is beaten is beaten within one letter more
  pub beaten-more : (bound state : ℕ) → beaten bound state ≡ true → beaten (suc bound) state ≡ true
  beaten-more zero state e = absurd (true≢false (sym e))
  beaten-more (suc bound) state e =
      some-more n (is_losing m automaton (beaten bound) state) (is_losing m automaton (beaten (suc bound)) state)
      (λ input. each-more m (λ output. is_lost automaton (beaten bound) (leads automaton state input output))
      (λ output. is_lost automaton (beaten (suc bound)) (leads automaton state input output))
      (λ output. lost-more (beaten bound) (beaten (suc bound)) (beaten-more bound) (leads automaton state input output))) e

  beaten-after : (bound more state : ℕ) → beaten bound state ≡ true → beaten (more + bound) state ≡ true
  beaten-after bound zero state e =
      let same : 0 + bound ≡ bound = omega arith in
      ap (λ b. beaten b state) same ∙ e
  beaten-after bound (suc more) state e =
      let next : suc (more + bound) ≡ suc more + bound = omega arith in
      ap (λ b. beaten b state) (sym next) ∙ beaten-more (more + bound) state (beaten-after bound more state e)

  -- what is not beaten within a bound is not beaten within a smaller one
  pub unbeaten-before : (bound other state : ℕ) → other ≤ bound → beaten bound state ≡ false → beaten other state ≡ false
  unbeaten-before bound other state less e = by (beaten other state) refl
    where
      same : (bound - other) + other ≡ bound
      same = omega (arith, less)

      by : (b : Bool) → beaten other state ≡ b → beaten other state ≡ false
      by false is = is
      by true is = absurd (true≢false (sym (sym (ap (λ b. beaten b state) same) ∙ beaten-after other (bound - other) state is) ∙ e))

  -- ---- the end: one letter more beats no further state

  module _ (bound : ℕ) (stays : (state : ℕ) → is_lost automaton (beaten (suc bound)) state ≡ is_lost automaton (beaten bound) state) where
    pub beats_no_more : BeatsNoMore n m automaton bound
    beats_no_more state accepting = by (automaton.accepting state) (beaten (suc bound) state) (beaten bound state) accepting (stays state)
      where
        by : (x a b : Bool) → x ≡ true → (not x || a) ≡ (not x || b) → a ≡ b
        by true a b h e = e
        by false a b h e = absurd (true≢false (sym h))

    one_more : (state : ℕ) → beaten (suc (suc bound)) state ≡ beaten (suc bound) state
    one_more state = λ i. some_track n (λ input. each_track m (λ output. stays (leads automaton state input output) i))

    lost_stays : (more state : ℕ) → beaten (more + suc bound) state ≡ beaten (suc bound) state
    lost_stays zero state = let same : 0 + suc bound ≡ suc bound = omega arith in ap (λ b. beaten b state) same
    lost_stays (suc more) state =
        let next : suc more + suc bound ≡ suc (more + suc bound) = omega arith in
        ap (λ b. beaten b state) next
        ∙ (λ i. some_track n (λ input. each_track m (λ output. is_lost automaton (λ s. lost_stays more s i) (leads automaton state input output))))
        ∙ one_more state

    pub never : (state : ℕ) → beaten (suc bound) state ≡ false → (other : ℕ) → beaten other state ≡ false
    never state e other =
        unbeaten-before (other + suc bound) other state (omega arith) (lost_stays other state ∙ e)

-- ---- how many are not lost

abbrev pub count_kept : List Bool → ℕ
count_kept [] = 0
count_kept (true ∷ lost) = count_kept lost
count_kept (false ∷ lost) = suc (count_kept lost)

pub kept_within : (lost : List Bool) → count_kept lost ≤ length lost
kept_within [] = omega arith
kept_within (true ∷ lost) = let rest = kept_within lost in omega (arith, rest)
kept_within (false ∷ lost) = let rest = kept_within lost in omega (arith, rest)

-- where more are lost the lists are the same, or fewer are kept
pub fewer_kept : (f g : ℕ → Bool) → ((state : ℕ) → f state ≡ true → g state ≡ true) → (states : List ℕ)
    → (map g states ≡ map f states) ⊎ (count_kept (map g states) < count_kept (map f states))
fewer_kept f g more [] = inl refl
fewer_kept f g more (state ∷ states) = by (f state) (g state) (more state) (fewer_kept f g more states)
  where
    by : (a b : Bool) → (a ≡ true → b ≡ true) → (map g states ≡ map f states) ⊎ (count_kept (map g states) < count_kept (map f states))
        → (b ∷ map g states ≡ a ∷ map f states) ⊎ (count_kept (b ∷ map g states) < count_kept (a ∷ map f states))
    by true true h rest = ⊎_elim (λ e. inl (ap (λ l. true ∷ l) e)) (λ less. inr less) rest
    by true false h rest = absurd (true≢false (sym (h refl)))
    by false false h rest = ⊎_elim (λ e. inl (ap (λ l. false ∷ l) e)) (λ less. inr (omega (arith, less))) rest
    by false true h rest = inr (⊎_elim (λ e. let same = ap count_kept e in omega (arith, same)) (λ less. omega (arith, less)) rest)

pub or_none : (a : Bool) → (a || false) ≡ a
or_none true = refl
or_none false = refl
