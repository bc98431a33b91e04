-- A set of behaviours with a canonical table has a verdict.
use Rattle.std.proofs.Common.{◌≡◌, ◌⊎◌, inl, inr, ℕ, ◌<◌, Bool, true, false, not, List, [], length, Option, None, Some, refl, sym, ap, ◌∙◌, arith}
use Rattle.std.specs.Prelude.{IsTrue}
use Rattle.dcv_word.specs.Behaviour.{Word, IsBehaviour}
use Rattle.dcv_language.specs.Canonical.{access_word, IsCanonical}
use Rattle.dcv_language.specs.Complement.{complement}
use Rattle.dcv_language.specs.Language.{Language, outside, HasNone}
use Rattle.dcv_language.specs.Laws.{ComplementIsCanonical}
use Rattle.dcv_language.specs.Least.{IsLeastWhere}
use Rattle.dcv_language.specs.Table.{Table, leads_to, automaton_of}
use Rattle.dcv_language.specs.Verdict.{IsLeastOf, Verdict, IsVerdict}
use Rattle.dcv_language.proofs.Ascending.{Member, Member-at}
use Rattle.dcv_language.proofs.Canonicals.{entered_least}
use Rattle.dcv_language.proofs.Bounds.{leads_to-below}
use Rattle.dcv_language.proofs.Runs.{accepts_by_state}
use Rattle.dcv_language.proofs.Words.{WordLaws}
use Rattle.dcv_quotient.proofs.Reaching.{SomeMember, each_member_or}
use Rattle.dcv_quotient.proofs.ToldApart.{same_truth}
use Rattle.dcv_quotient.proofs.LeastWords.{behaviour_or_not, least_where}

module _ (laws : WordLaws) (k : ℕ) (L : Language) (table : Table) (access : List Word) (canonical : IsCanonical k L table access) where
  -- no behaviour of the set, if it is one
  abbrev NotIn : Word → Type 0
  NotIn word = IsBehaviour k word → L word ≡ false

  not_in_or : (word : Word) → NotIn word ⊎ (NotIn word → ⊥)
  not_in_or word = elim (behaviour_or_not k word) [
    | inr none ↦ inl (λ behaves. absurd (none behaves))
    | inl behaves ↦ elim (same_truth (L word) false) [
      | inl is ↦ inl (λ again. is)
      | inr is ↦ inr (λ none. is (none behaves))
    ]
  ]

  -- two behaviours that lead to one state are both in the set or neither
  same_in : (u v : Word) → IsBehaviour k u → IsBehaviour k v → leads_to table u ≡ leads_to table v → L u ≡ L v
  same_in u v one other same =
      sym (canonical.exact u one) ∙ accepts_by_state (automaton_of table) u one.nonempty ∙ ap (automaton_of table).accepting same
      ∙ sym (accepts_by_state (automaton_of table) v other.nonempty) ∙ canonical.exact v other

  state_below : (word : Word) → IsBehaviour k word → leads_to table word < length access
  state_below word behaves = let below = leads_to-below k table canonical.states word in let words = canonical.words in omega arith

  none_of_all : ((word : Word) → Member word access → NotIn word) → HasNone k L
  none_of_all none word behaves =
      let state = leads_to table word in
      let least = entered_least k L table access canonical word behaves in
      let out : L word ≡ false = same_in word (access_word access state) behaves least.behaviour (sym least.member)
      ∙ none (access_word access state) (Member-at access state [] (state_below word behaves)) least.behaviour in
      ap not out

  true_of : (b : Bool) → (b ≡ false → ⊥) → IsTrue b
  true_of true other = refl
  true_of false other = absurd (other refl)

  truth_or_not : (b : Bool) → IsTrue b ⊎ (IsTrue b → ⊥)
  truth_or_not b = same_truth b true

  one_of_some : SomeMember NotIn access → (word : Word) × IsLeastWhere k (λ word. IsTrue (L word)) word
  one_of_some some = elim (behaviour_or_not k some.one) [
    | inr none ↦ absurd (some.fails (λ behaves. absurd (none behaves)))
    | inl behaves ↦ least_where laws k (λ word. IsTrue (L word)) (λ word again. truth_or_not (L word)) some.one behaves (true_of (L some.one) (λ is. some.fails (λ again. is)))
  ]

  pub some_least : (least : Option Word) × IsLeastOf k L least
  some_least = elim (each_member_or NotIn access (λ word there. not_in_or word)) [
    | inl none ↦ (None, none_of_all none)
    | inr some ↦ let found = one_of_some some in (Some found.0, found.1)
  ]

pub some_verdict : WordLaws → ComplementIsCanonical → (k : ℕ) (L : Language) (table : Table) (access : List Word) → IsCanonical k L table access → (verdict : Verdict) × IsVerdict k L verdict
some_verdict laws outside_is k L table access canonical =
    let example = some_least laws k L table access canonical in
    let counterexample = some_least laws k (outside L) (complement access table) access (outside_is k L table access canonical) in
    (record { counterexample = counterexample.0; example = example.0 }, record { counterexample = counterexample.1; example = example.1 })
