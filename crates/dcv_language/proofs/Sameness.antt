-- The operations on sets keep sameness: whether a behaviour is in the result is asked of behaviours alone.
use Rattle.std.proofs.Common.{◌≡◌, ℕ, zero, suc, ◌<◌, Bool, not, ◌||◌, ◌&&◌, List, [], ◌∷◌, ◌++◌, length, take, drop, refl, ap, arith}
use Rattle.dcv_word.specs.Behaviour.{Word, IsBehaviour}
use Rattle.dcv_language.specs.Language.{Language, HaveSameBehaviours}
use Rattle.dcv_language.specs.Operations.{iff, chop, star_within, with_track}
use Rattle.dcv_language.specs.Laws.{OutsideKeepsSameness, IntersectionKeepsSameness, UnionKeepsSameness, AgreementKeepsSameness, ChopKeepsSameness, StarKeepsSameness, ProjectionKeepsSameness}
use Rattle.dcv_language.proofs.Behaviours.{Widths, Widths-head, Widths-tail, Widths-cons, behaviour, front_part, rest_part, some_below-same, some_track-same, with_track-widths}

pub outside_same : OutsideKeepsSameness
outside_same k L M same word b = ap not (same word b)

pub intersection_same : IntersectionKeepsSameness
intersection_same k L L' M M' one two word b = λ i. one word b i && two word b i

pub union_same : UnionKeepsSameness
union_same k L L' M M' one two word b = λ i. one word b i || two word b i

pub agreement_same : AgreementKeepsSameness
agreement_same k L L' M M' one two word b = λ i. iff (one word b i) (two word b i)

-- a chop asks of the first set the fronts of a word, and of the second the rests
pub chop-parts : (L L' M M' : Language) (word : Word)
    → ((m : ℕ) → m < length word → L (take (suc m) word) ≡ L' (take (suc m) word))
    → ((m : ℕ) → m < length word → M (drop m word) ≡ M' (drop m word))
    → chop L M word ≡ chop L' M' word
chop-parts L L' M M' word fronts rests =
    some_below-same (length word) (λ m. L (take (suc m) word) && M (drop m word)) (λ m. L' (take (suc m) word) && M' (drop m word))
    (λ m h i. fronts m h i && rests m h i)

pub chop_same : ChopKeepsSameness
chop_same k L L' M M' one two word b =
    chop-parts L L' M M' word
    (λ m h. one (take (suc m) word) (front_part k word m b.widths h))
    (λ m h. two (drop m word) (rest_part k word m b.widths h))

star_within_same : (n k : ℕ) (L M : Language) → HaveSameBehaviours k L M → (word : Word) → Widths k word → star_within n L word ≡ star_within n M word
star_within_same n k L M same [] w = refl
star_within_same n k L M same (a ∷ []) w = refl
star_within_same zero k L M same (a ∷ b ∷ word) w = refl
star_within_same (suc n) k L M same (a ∷ b ∷ word) w =
    let inner : Widths k (b ∷ word) = Widths-tail k a (b ∷ word) w in
    chop-parts (λ front. L (a ∷ front)) (λ front. M (a ∷ front)) (star_within n L) (star_within n M) (b ∷ word)
    (λ m h. same (a ∷ take (suc m) (b ∷ word))
    (behaviour k a (take (suc m) (b ∷ word)) (Widths-cons k a (take (suc m) (b ∷ word)) (Widths-head k a (b ∷ word) w) (front_part k (b ∷ word) m inner h).widths)))
    (λ m h. star_within_same n k L M same (drop m (b ∷ word)) (rest_part k (b ∷ word) m inner h).widths)

pub star_same : StarKeepsSameness
star_same k L M same word b = star_within_same (length word) k L M same word b.widths

with_track_behaves : (k : ℕ) (word : Word) (track : List Bool) → IsBehaviour k word → length track ≡ length word → IsBehaviour (suc k) (with_track word track)
with_track_behaves k [] track b e = absurd (omega (arith, b.nonempty))
with_track_behaves k (a ∷ word) [] b e = absurd (omega arith)
with_track_behaves k (a ∷ word) (truth ∷ track) b e =
    behaviour (suc k) (a ++ truth ∷ []) (with_track word track) (with_track-widths k (a ∷ word) (truth ∷ track) b.widths)

pub projection_same : ProjectionKeepsSameness
projection_same k L M same word b =
    some_track-same (length word) (λ track. L (with_track word track)) (λ track. M (with_track word track))
    (λ track e. same (with_track word track) (with_track_behaves k word track b e))
