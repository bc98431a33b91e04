-- Searches over lists of truths.
use Rattle.std.proofs.Common.{◌≡◌, ℕ, zero, suc, Bool, true, false, ◌||◌, List, [], ◌∷◌, length, refl, ap, sym, ◌∙◌, arith}
use Rattle.std.specs.Prelude.{if◌then◌else◌}
use Rattle.std.proofs.lemmas.Bool.{true≢false, and_parts, and_from, or_from, or_left, or_right}
use Rattle.dcv_language.specs.Operations.{some_track}
use Rattle.dcv_synth.specs.Tracks.{each_track, least_track}

pub each-at : (n : ℕ) (p : List Bool → Bool) → each_track n p ≡ true → (track : List Bool) → length track ≡ n → p track ≡ true
each-at zero p e [] h = e
each-at zero p e (b ∷ track) h = absurd (omega arith)
each-at (suc n) p e [] h = absurd (omega arith)
each-at (suc n) p e (false ∷ track) h = each-at n (λ t. p (false ∷ t)) (and_parts (each_track n (λ t. p (false ∷ t))) (each_track n (λ t. p (true ∷ t))) e).0 track (omega arith)
each-at (suc n) p e (true ∷ track) h = each-at n (λ t. p (true ∷ t)) (and_parts (each_track n (λ t. p (false ∷ t))) (each_track n (λ t. p (true ∷ t))) e).1 track (omega arith)

pub each-from : (n : ℕ) (p : List Bool → Bool) → ((track : List Bool) → length track ≡ n → p track ≡ true) → each_track n p ≡ true
each-from zero p h = h [] refl
each-from (suc n) p h =
    and_from (each_track n (λ t. p (false ∷ t))) (each_track n (λ t. p (true ∷ t)))
    (each-from n (λ t. p (false ∷ t)) (λ t e. h (false ∷ t) (ap suc e)))
    (each-from n (λ t. p (true ∷ t)) (λ t e. h (true ∷ t) (ap suc e)))

-- one that has not p
pub each-not : (n : ℕ) (p : List Bool → Bool) (track : List Bool) → length track ≡ n → p track ≡ false → each_track n p ≡ false
each-not n p track h e = by (each_track n p) refl
  where
    by : (b : Bool) → each_track n p ≡ b → each_track n p ≡ false
    by true is = absurd (true≢false (sym (each-at n p is track h) ∙ e))
    by false is = is

pub some-from : (n : ℕ) (p : List Bool → Bool) (track : List Bool) → length track ≡ n → p track ≡ true → some_track n p ≡ true
some-from zero p [] h e = e
some-from zero p (b ∷ track) h e = absurd (omega arith)
some-from (suc n) p [] h e = absurd (omega arith)
some-from (suc n) p (false ∷ track) h e =
    or_left (some_track n (λ t. p (false ∷ t))) (some_track n (λ t. p (true ∷ t))) (some-from n (λ t. p (false ∷ t)) track (omega arith) e)
some-from (suc n) p (true ∷ track) h e =
    or_right (some_track n (λ t. p (false ∷ t))) (some_track n (λ t. p (true ∷ t))) (some-from n (λ t. p (true ∷ t)) track (omega arith) e)

pub some-none : (n : ℕ) (p : List Bool → Bool) → ((track : List Bool) → length track ≡ n → p track ≡ false) → some_track n p ≡ false
some-none zero p h = h [] refl
some-none (suc n) p h =
    or_from (some_track n (λ t. p (false ∷ t))) (some_track n (λ t. p (true ∷ t)))
    (some-none n (λ t. p (false ∷ t)) (λ t e. h (false ∷ t) (ap suc e)))
    (some-none n (λ t. p (true ∷ t)) (λ t e. h (true ∷ t) (ap suc e)))

pub none-at : (n : ℕ) (p : List Bool → Bool) → some_track n p ≡ false → (track : List Bool) → length track ≡ n → p track ≡ false
none-at n p none track h = by (p track) refl
  where
    by : (b : Bool) → p track ≡ b → p track ≡ false
    by true is = absurd (true≢false (sym (some-from n p track h is) ∙ none))
    by false is = is

-- ---- the least

pub least-length : (n : ℕ) (p : List Bool → Bool) → length (least_track n p) ≡ n
least-length zero p = refl
least-length (suc n) p = by (some_track n (λ t. p (false ∷ t))) (least-length n (λ t. p (false ∷ t))) (least-length n (λ t. p (true ∷ t)))
  where
    by : (b : Bool) → length (least_track n (λ t. p (false ∷ t))) ≡ n → length (least_track n (λ t. p (true ∷ t))) ≡ n
        → length (if b then false ∷ least_track n (λ t. p (false ∷ t)) else true ∷ least_track n (λ t. p (true ∷ t))) ≡ suc n
    by true lo hi = ap suc lo
    by false lo hi = ap suc hi

pub least-has : (n : ℕ) (p : List Bool → Bool) → some_track n p ≡ true → p (least_track n p) ≡ true
least-has zero p e = e
least-has (suc n) p e = by (some_track n (λ t. p (false ∷ t))) refl e (least-has n (λ t. p (false ∷ t))) (least-has n (λ t. p (true ∷ t)))
  where
    by : (b : Bool) → some_track n (λ t. p (false ∷ t)) ≡ b → (b || some_track n (λ t. p (true ∷ t))) ≡ true
        → (some_track n (λ t. p (false ∷ t)) ≡ true → p (false ∷ least_track n (λ t. p (false ∷ t))) ≡ true)
        → (some_track n (λ t. p (true ∷ t)) ≡ true → p (true ∷ least_track n (λ t. p (true ∷ t))) ≡ true)
        → p (if b then false ∷ least_track n (λ t. p (false ∷ t)) else true ∷ least_track n (λ t. p (true ∷ t))) ≡ true
    by true is h low high = low is
    by false is h low high = high h
