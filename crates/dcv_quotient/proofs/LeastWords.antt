-- Where something holds of a behaviour, and can be decided, there is a least behaviour of which it holds.
use Rattle.std.proofs.Common.{◌≡◌, ◌⊎◌, inl, inr, ℕ, zero, suc, ◌≤◌, Bool, true, false, List, [], ◌∷◌, ◌++◌, length, map, refl, ap, subst, arith}
use Rattle.std.proofs.lemmas.Bool.{cases_eq, cases_lt}
use Rattle.std.proofs.lemmas.List.Elements.{All-nil}
use Rattle.dcv_word.specs.Behaviour.{Word, IsBehaviour}
use Rattle.dcv_language.specs.Least.{IsLeastWhere}
use Rattle.dcv_language.proofs.Ascending.{Member}
use Rattle.dcv_language.proofs.Behaviours.{Widths, Widths-cons, Widths-head, Widths-tail}
use Rattle.dcv_language.proofs.Words.{WordLaws, Before, cases_words, asymmetric, before_chain, irreflexive}
use Rattle.dcv_quotient.proofs.ToldApart.{in_front, in_back}

-- ---- all words of a length

letters : ℕ → List (List Bool)
letters zero = [] ∷ []
letters (suc k) = map (λ letter. false ∷ letter) (letters k) ++ map (λ letter. true ∷ letter) (letters k)

mapped : {X Y : Type 0} (f : X → Y) (x : X) (xs : List X) → Member x xs → Member (f x) (map f xs)
mapped f x [] there = absurd there
mapped f x (y ∷ xs) (inl same) = inl (ap f same)
mapped f x (y ∷ xs) (inr later) = inr (mapped f x xs later)

among_letters : (k : ℕ) (letter : List Bool) → length letter ≡ k → Member letter (letters k)
unfolding letters
among_letters zero [] width = inl refl
among_letters zero (value ∷ letter) width = absurd (omega arith)
among_letters (suc k) [] width = absurd (omega arith)
among_letters (suc k) (false ∷ letter) width =
    in_front (false ∷ letter) (map (λ l. false ∷ l) (letters k)) (map (λ l. true ∷ l) (letters k)) (mapped (λ (l : List Bool). false ∷ l) letter (letters k) (among_letters k letter (omega arith)))
among_letters (suc k) (true ∷ letter) width =
    in_back (true ∷ letter) (map (λ l. false ∷ l) (letters k)) (map (λ l. true ∷ l) (letters k)) (mapped (λ (l : List Bool). true ∷ l) letter (letters k) (among_letters k letter (omega arith)))

-- each letter in front of each word
in_front_of : List (List Bool) → List Word → List Word
in_front_of [] words = []
in_front_of (letter ∷ letters) words = map (λ word. letter ∷ word) words ++ in_front_of letters words

among_longer : (letter : List Bool) (word : Word) (letters : List (List Bool)) (words : List Word) → Member letter letters → Member word words → Member (letter ∷ word) (in_front_of letters words)
unfolding in_front_of
among_longer letter word [] words there other = absurd there
among_longer letter word (one ∷ letters) words (inl same) other =
    in_front (letter ∷ word) (map (λ w. one ∷ w) words) (in_front_of letters words)
    (subst (λ (head : List Bool). Member (letter ∷ word) (map (λ w. head ∷ w) words)) same (mapped (λ (w : Word). letter ∷ w) word words other))
among_longer letter word (one ∷ letters) words (inr later) other = in_back (letter ∷ word) (map (λ w. one ∷ w) words) (in_front_of letters words) (among_longer letter word letters words later other)

words_of : ℕ → ℕ → List Word
words_of k zero = [] ∷ []
words_of k (suc n) = in_front_of (letters k) (words_of k n)

among_words : (k n : ℕ) (word : Word) → length word ≡ n → Widths k word → Member word (words_of k n)
unfolding words_of
among_words k zero [] size widths = inl refl
among_words k zero (letter ∷ word) size widths = absurd (omega arith)
among_words k (suc n) [] size widths = absurd (omega arith)
among_words k (suc n) (letter ∷ word) size widths =
    among_longer letter word (letters k) (words_of k n) (among_letters k letter (Widths-head k letter word widths)) (among_words k n word (omega arith) (Widths-tail k letter word widths))

words_upto : ℕ → ℕ → List Word
words_upto k zero = words_of k 0
words_upto k (suc n) = words_of k (suc n) ++ words_upto k n

among_upto : (k n : ℕ) (word : Word) → length word ≤ n → Widths k word → Member word (words_upto k n)
unfolding words_upto
among_upto k zero word fits widths = among_words k 0 word (omega arith) widths
among_upto k (suc n) word fits widths = elim (cases_lt n (length word)) [
  | inl long ↦ in_front word (words_of k (suc n)) (words_upto k n) (among_words k (suc n) word (omega arith) widths)
  | inr short ↦ in_back word (words_of k (suc n)) (words_upto k n) (among_upto k n word (omega arith) widths)
]

-- ---- the least of a list

module _ (laws : WordLaws) (P : Word → Type 0) where
  pub record LeastIn (xs : List Word) : Type 0 where
    pub word : Word
    pub there : Member word xs
    pub holds : P word
    pub least : (other : Word) → Member other xs → P other → Before other word → ⊥

  pub least_or_none : (xs : List Word) → ((word : Word) → Member word xs → P word ⊎ (P word → ⊥)) → LeastIn xs ⊎ ((word : Word) → Member word xs → P word → ⊥)
  least_or_none [] decide = inr (λ word there holds. there)
  least_or_none (x ∷ xs) decide = by (decide x (inl refl)) (least_or_none xs (λ word later. decide word (inr later)))
    where
      older : (rest : LeastIn xs) → (P x → Before x rest.word → ⊥) → LeastIn (x ∷ xs)
      older rest not_before = record {
        word = rest.word;
        there = inr rest.there;
        holds = rest.holds;
        least = λ other there holds before. elim there [
          | inl same ↦ not_before (subst P same holds) (subst (λ (w : Word). Before w rest.word) same before)
          | inr later ↦ rest.least other later holds before
        ];
      }

      newer : P x → ((other : Word) → Member other xs → P other → Before other x → ⊥) → LeastIn (x ∷ xs)
      newer holds least = record {
        word = x;
        there = inl refl;
        holds = holds;
        least = λ other there other_holds before. elim there [
          | inl same ↦ irreflexive laws x (subst (λ (w : Word). Before w x) same before)
          | inr later ↦ least other later other_holds before
        ];
      }

      both : P x → (rest : LeastIn xs) → (Before x rest.word ⊎ ((x ≡ rest.word) ⊎ Before rest.word x)) → LeastIn (x ∷ xs)
      both holds rest (inl before) = newer holds (λ other later other_holds sooner. rest.least other later other_holds (before_chain laws other x rest.word sooner before))
      both holds rest (inr (inl same)) = newer holds (λ other later other_holds sooner. rest.least other later other_holds (subst (λ (w : Word). Before other w) same sooner))
      both holds rest (inr (inr after)) = older rest (λ again before. asymmetric laws x rest.word before after)

      by : (P x ⊎ (P x → ⊥)) → (LeastIn xs ⊎ ((word : Word) → Member word xs → P word → ⊥)) → LeastIn (x ∷ xs) ⊎ ((word : Word) → Member word (x ∷ xs) → P word → ⊥)
      by (inl holds) (inl rest) = inl (both holds rest (cases_words laws x rest.word))
      by (inl holds) (inr none) = inl (newer holds (λ other later other_holds before. none other later other_holds))
      by (inr fails) (inl rest) = inl (older rest (λ holds before. fails holds))
      by (inr fails) (inr none) = inr (λ word there holds. elim there [ inl same ↦ fails (subst P same holds) | inr later ↦ none word later holds ])

-- ---- behaviours

pub width_or_not : (k : ℕ) (word : Word) → Widths k word ⊎ (Widths k word → ⊥)
width_or_not k [] = inl (All-nil (λ (letter : List Bool). length letter ≡ k))
width_or_not k (letter ∷ word) = by (cases_eq (length letter) k) (width_or_not k word)
  where
    by : ((length letter ≡ k) ⊎ (length letter ≡ k → ⊥)) → (Widths k word ⊎ (Widths k word → ⊥)) → Widths k (letter ∷ word) ⊎ (Widths k (letter ∷ word) → ⊥)
    by (inl is) (inl are) = inl (Widths-cons k letter word is are)
    by (inl is) (inr not) = inr (λ all. not (Widths-tail k letter word all))
    by (inr not) rest = inr (λ all. not (Widths-head k letter word all))

pub behaviour_or_not : (k : ℕ) (word : Word) → IsBehaviour k word ⊎ (IsBehaviour k word → ⊥)
behaviour_or_not k [] = inr (λ is. let some = is.nonempty in omega arith)
behaviour_or_not k (letter ∷ word) = elim (width_or_not k (letter ∷ word)) [
  | inl widths ↦ inl (record { nonempty = omega arith; widths = widths })
  | inr not ↦ inr (λ is. not is.widths)
]

module _ (laws : WordLaws) (k : ℕ) (P : Word → Type 0) (decide : (word : Word) → IsBehaviour k word → P word ⊎ (P word → ⊥)) where
  -- a behaviour of which it holds
  record IsOne (word : Word) : Type 0 where
    behaves : IsBehaviour k word
    holds : P word

  one_or_not : (word : Word) → IsOne word ⊎ (IsOne word → ⊥)
  one_or_not word = elim (behaviour_or_not k word) [
    | inr not ↦ inr (λ one. not one.behaves)
    | inl behaves ↦ elim (decide word behaves) [
      | inl holds ↦ inl (record { behaves = behaves; holds = holds })
      | inr fails ↦ inr (λ one. fails one.holds)
    ]
  ]

  no_sooner : (word : Word) (least : LeastIn laws IsOne (words_upto k (length word))) → length least.word ≤ length word → (other : Word) → IsBehaviour k other → P other → Before other least.word → ⊥
  no_sooner word least short other behaves holds before = elim (cases_lt (length word) (length other)) [
    | inl long ↦ asymmetric laws other least.word before (laws.shorter least.word other (omega arith))
    | inr within ↦ least.least other (among_upto k (length word) other (omega arith) behaves.widths) (record { behaves = behaves; holds = holds }) before
  ]

  -- the least among those that are no longer than one
  pub least_where : (word : Word) → IsBehaviour k word → P word → (least : Word) × IsLeastWhere k P least
  least_where word behaves holds = elim (least_or_none laws IsOne (words_upto k (length word)) (λ other there. one_or_not other)) [
    | inr none ↦ absurd (none word (among_upto k (length word) word (omega arith) behaves.widths) (record { behaves = behaves; holds = holds }))
    | inl least ↦ (
      least.word,
      record {
        behaviour = least.holds.behaves;
        member = least.holds.holds;
        least = no_sooner word least (short least);
      },
    )
  ]
    where
      short : (least : LeastIn laws IsOne (words_upto k (length word))) → length least.word ≤ length word
      short least = elim (cases_lt (length word) (length least.word)) [
        | inl long ↦ absurd (least.least word (among_upto k (length word) word (omega arith) behaves.widths) (record { behaves = behaves; holds = holds }) (laws.shorter word least.word long))
        | inr within ↦ within
      ]
