-- Each file of the form has an answer: what is asked of its words can be decided.
use Rattle.dcv_cli.proofs.Common.{◌≡◌, ◌⊎◌, inl, inr, ℕ, zero, suc, ◌<◌, ◌≤◌, List, length, sym, subst, arith, cases_lt, Word, Language}
use Rattle.dcv_cli.proofs.Common.{AutomatonFile, HasGoodWords, IsCertified, Answer, Minimal, Access, Pair}
use Rattle.std.proofs.lemmas.Bool.{cases_eq}
use Rattle.dcv_language.specs.Certificate.{AreToldBy}
use Rattle.dcv_language.proofs.Ascending.{Member-from_IsAmong}
use Rattle.dcv_automaton_text.specs.Meaning.{suffix_words_of}
use Rattle.dcv_quotient.proofs.ToldWords.{told_or_not, told_by}
use Rattle.dcv_certify.specs.Certified.{set_of, word_at, landed, AreTold, IsPair, IsNoLaterPair, IsFirstPair}

-- ---- numbers below a bound

-- the first number below the bound of which it is not so
record IsFirstNot (P : ℕ → Type 0) (bound : ℕ) : Type 0 where
  at : ℕ
  within : at < bound
  fails : P at → ⊥
  before : (k : ℕ) → k < at → P k

one_more : (P : ℕ → Type 0) (n : ℕ) → (P n ⊎ (P n → ⊥)) → (((k : ℕ) → k < n → P k) ⊎ IsFirstNot P n) → ((k : ℕ) → k < suc n → P k) ⊎ IsFirstNot P (suc n)
one_more P n here (inr first) = inr (record { at = first.at; within = (let within = first.within in omega arith); fails = first.fails; before = first.before })
one_more P n (inl holds) (inl all) = inl (λ k less. elim (cases_lt k n) [ inl below ↦ all k below | inr above ↦ subst P (let same : n ≡ k = omega arith in same) holds ])
one_more P n (inr fails) (inl all) = inr (record { at = n; within = omega arith; fails = fails; before = all })

-- it is so of all, or there is a first of which it is not
all_or_first : (P : ℕ → Type 0) → ((k : ℕ) → P k ⊎ (P k → ⊥)) → (n : ℕ) → ((k : ℕ) → k < n → P k) ⊎ IsFirstNot P n
all_or_first P decide zero = inl (λ k less. absurd (omega arith))
all_or_first P decide (suc n) = one_more P n (decide n) (all_or_first P decide n)

-- ---- words that are told apart

told_by_or_not : (k : ℕ) (L : Language) (first second : Word) (suffixes : List Word)
    → AreToldBy k L suffixes first second ⊎ (AreToldBy k L suffixes first second → ⊥)
told_by_or_not k L first second suffixes = elim (told_or_not k L first second suffixes) [
  | inl told ↦ inl (told_by k L first second suffixes told)
  | inr none ↦ inr (λ told. none (record { suffix = told.suffix; there = Member-from_IsAmong suffixes told.suffix told.listed; tells = told.tells }))
]

-- ---- the answer of a file

module _ (file : AutomatonFile) where
  -- all states after this one are told apart from it
  abbrev ToldBehind : ℕ → Type 0
  ToldBehind first = (second : ℕ) → first < second → second < file.states → AreTold file first second

  -- of a second state before this one
  abbrev ToldIf : ℕ → ℕ → Type 0
  ToldIf first second = first < second → AreTold file first second

  told_if_or_not : (first second : ℕ) → ToldIf first second ⊎ (ToldIf first second → ⊥)
  told_if_or_not first second = elim (cases_lt first second) [
    | inr above ↦ inl (λ less. absurd (omega arith))
    | inl less ↦ elim (told_by_or_not (length file.names) (set_of file) (word_at file first) (word_at file second) (suffix_words_of file)) [
      | inl told ↦ inl (λ again. told)
      | inr none ↦ inr (λ told. none (told less))
    ]
  ]

  behind_or_not : (first : ℕ) → ToldBehind first ⊎ (ToldBehind first → ⊥)
  behind_or_not first = elim (all_or_first (ToldIf first) (told_if_or_not first) file.states) [
    | inl all ↦ inl (λ second less within. all second within less)
    | inr failing ↦ inr (λ told. failing.fails (λ less. told failing.at less failing.within))
  ]

  first_pair : (first second : ℕ) → second < file.states → (ToldIf first second → ⊥) → ((k : ℕ) → k < second → ToldIf first k) → ((k : ℕ) → k < first → ToldBehind k) → IsFirstPair file first second
  first_pair first second within fails before earlier =
      let order : first < second = elim (cases_lt first second) [ inl less ↦ less | inr above ↦ absurd (fails (λ less. absurd (omega arith))) ] in
      record {
        pair = record { in_order = order; is_state = within; not_told = λ told. fails (λ less. told) };
        least = λ other another pair. no_later other another pair (cases_lt first other) (cases_lt other first) (cases_lt another second);
      }
    where
      no_later : (other another : ℕ) → IsPair file other another → ((first < other) ⊎ (other ≤ first)) → ((other < first) ⊎ (first ≤ other)) → ((another < second) ⊎ (second ≤ another))
          → IsNoLaterPair first second other another
      no_later other another pair (inl after) which sooner = inl after
      no_later other another pair (inr upto) (inl sooner) which = absurd (pair.not_told (earlier other sooner another pair.in_order pair.is_state))
      no_later other another pair (inr upto) (inr from) (inr later) = let same : first ≡ other = omega arith in inr (same, later)
      no_later other another pair (inr upto) (inr from) (inl sooner) =
          let same : first ≡ other = omega arith in
          let less : first < another = subst (λ state. state < another) (sym same) pair.in_order in
          absurd (pair.not_told (subst (λ state. AreTold file state another) same (before another sooner less)))

  answer_by_pairs : HasGoodWords file → (answer : Answer) × IsCertified file answer
  answer_by_pairs good = elim (all_or_first ToldBehind behind_or_not file.states) [
    | inl all ↦ (Minimal, (good, λ first second order within. all first (omega arith) second order within))
    | inr failing ↦ elim (all_or_first (ToldIf failing.at) (told_if_or_not failing.at) file.states) [
      | inl all ↦ absurd (failing.fails (λ second less within. all second within less))
      | inr second ↦ (Pair failing.at second.at, (good, first_pair failing.at second.at second.within second.fails second.before failing.before))
    ]
  ]

  pub some_answer : (answer : Answer) × IsCertified file answer
  some_answer = elim (all_or_first (λ state. landed file state ≡ state) (λ state. cases_eq (landed file state) state) file.states) [
    | inl all ↦ answer_by_pairs all
    | inr first ↦ (Access first.at, record { is_state = first.within; astray = first.fails; before = first.before })
  ]
