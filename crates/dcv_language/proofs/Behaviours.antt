-- Parts of behaviours are behaviours, and searches over words.
use Rattle.std.proofs.Common.{◌≡◌, ℕ, zero, suc, ◌<◌, Bool, true, false, ◌||◌, List, [], ◌∷◌, ◌++◌, length, take, drop, All, refl, ap, arith, length-append, length-take, length-drop}
use Rattle.std.proofs.lemmas.List.Elements.{All-append, All-take, All-drop, All-nil}
use Rattle.dcv_word.specs.Behaviour.{Word, IsBehaviour}
use Rattle.dcv_language.specs.Operations.{some_below, some_track, with_track}

abbrev pub Widths : ℕ → Word → Type 0
Widths k word = All (λ (letter : List Bool). length letter ≡ k) word

pub one_letter : (k : ℕ) (letter : List Bool) → length letter ≡ k → Widths k (letter ∷ [])
one_letter k letter e zero d h = e
one_letter k letter e (suc i) d h = absurd (omega arith)

pub Widths-cons : (k : ℕ) (letter : List Bool) (letters : Word) → length letter ≡ k → Widths k letters → Widths k (letter ∷ letters)
Widths-cons k letter letters e w zero d h = e
Widths-cons k letter letters e w (suc i) d h = w i d (omega arith)

pub Widths-head : (k : ℕ) (letter : List Bool) (letters : Word) → Widths k (letter ∷ letters) → length letter ≡ k
Widths-head k letter letters w = w 0 [] (omega arith)

pub Widths-tail : (k : ℕ) (letter : List Bool) (letters : Word) → Widths k (letter ∷ letters) → Widths k letters
Widths-tail k letter letters w = λ i d h. w (suc i) d (omega arith)

pub Widths-append : (k : ℕ) (u v : Word) → Widths k u → Widths k v → Widths k (u ++ v)
Widths-append k u v = All-append (λ (letter : List Bool). length letter ≡ k) u v

pub Widths-front : (k : ℕ) (u v : Word) → Widths k (u ++ v) → Widths k u
Widths-front k [] v w = All-nil (λ (letter : List Bool). length letter ≡ k)
Widths-front k (a ∷ u) v w = Widths-cons k a u (Widths-head k a (u ++ v) w) (Widths-front k u v (Widths-tail k a (u ++ v) w))

pub Widths-rest : (k : ℕ) (u v : Word) → Widths k (u ++ v) → Widths k v
Widths-rest k [] v w = w
Widths-rest k (a ∷ u) v w = Widths-rest k u v (Widths-tail k a (u ++ v) w)

pub behaviour : (k : ℕ) (letter : List Bool) (letters : Word) → Widths k (letter ∷ letters) → IsBehaviour k (letter ∷ letters)
behaviour k letter letters w = record { nonempty = omega arith; widths = w }

pub single : (k : ℕ) (letter : List Bool) → length letter ≡ k → IsBehaviour k (letter ∷ [])
single k letter e = behaviour k letter [] (one_letter k letter e)

-- a behaviour that goes on is one
pub goes_on : (k : ℕ) (u v : Word) → IsBehaviour k u → Widths k v → IsBehaviour k (u ++ v)
goes_on k u v b w = record { nonempty = omega (arith, b.nonempty, length-append u v); widths = Widths-append k u v b.widths w }

-- ---- parts at a cut

pub front_part : (k : ℕ) (word : Word) (m : ℕ) → Widths k word → m < length word → IsBehaviour k (take (suc m) word)
front_part k word m w h = record {
  nonempty = omega (arith, length-take (suc m) word);
  widths = All-take (λ (letter : List Bool). length letter ≡ k) (suc m) word w;
}

pub rest_part : (k : ℕ) (word : Word) (m : ℕ) → Widths k word → m < length word → IsBehaviour k (drop m word)
rest_part k word m w h = record {
  nonempty = omega (arith, length-drop m word);
  widths = All-drop (λ (letter : List Bool). length letter ≡ k) m word w;
}

-- ---- searches

pub some_below-same : (n : ℕ) (p q : ℕ → Bool) → ((m : ℕ) → m < n → p m ≡ q m) → some_below n p ≡ some_below n q
some_below-same zero p q h = refl
some_below-same (suc n) p q h =
    let rest = some_below-same n (λ m. p (suc m)) (λ m. q (suc m)) (λ m lt. h (suc m) (omega arith)) in
    λ i. h 0 (omega arith) i || rest i

pub some_track-same : (n : ℕ) (p q : List Bool → Bool) → ((track : List Bool) → length track ≡ n → p track ≡ q track) → some_track n p ≡ some_track n q
some_track-same zero p q h = h [] refl
some_track-same (suc n) p q h =
    let one = some_track-same n (λ track. p (false ∷ track)) (λ track. q (false ∷ track)) (λ track e. h (false ∷ track) (ap suc e)) in
    let two = some_track-same n (λ track. p (true ∷ track)) (λ track. q (true ∷ track)) (λ track e. h (true ∷ track) (ap suc e)) in
    λ i. one i || two i

pub with_track-widths : (k : ℕ) (word : Word) (track : List Bool) → Widths k word → Widths (suc k) (with_track word track)
with_track-widths k [] track w = All-nil (λ (letter : List Bool). length letter ≡ suc k)
with_track-widths k (letter ∷ letters) [] w = All-nil (λ (letter : List Bool). length letter ≡ suc k)
with_track-widths k (letter ∷ letters) (truth ∷ track) w =
    Widths-cons (suc k) (letter ++ truth ∷ []) (with_track letters track)
    (omega (arith, length-append letter (truth ∷ []), Widths-head k letter letters w))
    (with_track-widths k letters track (Widths-tail k letter letters w))
