-- Members of lists of states, found by a test.
use Rattle.std.proofs.Common.{◌≡◌, ℕ, zero, suc, ◌<◌, ◌≤◌, ◌==◌, true, false, List, [], ◌∷◌, All, inl, inr, Contains, sym, ◌∙◌, arith}
use Rattle.std.proofs.lemmas.Bool.{cases_lt, cases_Bool, true≢false, eqb-true, eq-eqb}
use Rattle.std.proofs.lemmas.List.Elements.{All-weaker, All-contains_itself}
use Rattle.dcv_certificate.specs.Separation.{has}
use Rattle.dcv_certificate.proofs.Truths.{or_left, or_right, or_other}

pub has_contained : (states : List ℕ) (state : ℕ) → Contains states state → has states state ≡ true
has_contained [] state c = absurd (omega (arith, c.1))
has_contained (one ∷ states) state (zero, h, e) = or_left (one == state) (has states state) (eq-eqb one state e)
has_contained (one ∷ states) state (suc i, h, e) = or_right (one == state) (has states state) (has_contained states state (i, omega (arith, h), e))

pub contained : (states : List ℕ) (state : ℕ) → has states state ≡ true → Contains states state
contained [] state e = absurd (true≢false (sym e))
contained (one ∷ states) state e = elim (cases_Bool (one == state)) [
  | inl here ↦ (zero, omega arith, eqb-true one state here)
  | inr other ↦
      let rest = contained states state (or_other (one == state) (has states state) other e) in
      (suc rest.0, omega (arith, rest.1), rest.2)
]

pub has_below : (states : List ℕ) (bound : ℕ) → ((state : ℕ) → bound ≤ state → has states state ≡ false) → All (λ state. state < bound) states
has_below states bound none = All-weaker (Contains states) (λ state. state < bound) (λ state c. elim (cases_lt state bound) [
  | inl h ↦ h
  | inr h ↦ absurd (true≢false (sym (has_contained states state c) ∙ none state h))
]) states (All-contains_itself states)
