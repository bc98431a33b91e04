-- What is said of a set: its names, and what is found of it.
use Rattle.dcv_cli.proofs.Common.{◌≡◌, ◌<◌, ◌≤◌, ℕ, List, [], ◌∷◌, length, take, map, flat_map, ap, refl, subst, arith, Word, Language, RawValue, raw_accepts}
use Rattle.dcv_cli.proofs.Common.{Option}
use Rattle.std.proofs.Common.{take_all}
use Rattle.dcv_automaton_text.specs.Spelled.{name_words}
use Rattle.dcv_print.specs.Pushed.{spaced}
use Rattle.dcv_together.specs.Answers.{Answer, Least, IsPossible, IsStuckOf, IsFollowingFirst}
use Rattle.dcv_cli.specs.FileSet.{FewFollowing, FewTuples, IsDecidedFollowing, IsDecidedTogether, following_outcome, set_outcome}

-- the names, each after a space
pub names_spaced : (names : List (List ℕ)) (n : ℕ) → length names ≤ n → 0 < length names → flat_map (λ (name : List ℕ). 32 ∷ name) (take n names) ≡ spaced (name_words names)
names_spaced [] n past some = absurd (omega (arith, some))
names_spaced (name ∷ names) n past some = ap (flat_map (λ (name : List ℕ). 32 ∷ name)) (take_all n (name ∷ names) past)

-- ---- answers

module _ (tuples k : ℕ) (names : List (List ℕ)) (raws : List RawValue) (width : k ≡ length names) where
  abbrev Ls : List Language
  Ls = map raw_accepts raws

  -- of the automata that a call was given, which are these
  moved : (P : ℕ → ℕ → List Language → Answer → Type 0) (given : List RawValue) (answer other : Answer) → given ≡ raws → P tuples k (map raw_accepts given) answer → answer ≡ other
      → P tuples (length names) Ls other
  moved P given answer other same is e =
      subst (λ n. P tuples n Ls other) width (subst (P tuples k Ls) e (subst (λ (raws : List RawValue). P tuples k (map raw_accepts raws) answer) same is))

  pub decided : (given others : List RawValue) (one other : Answer) (example stuck : Option Word) → given ≡ raws → others ≡ raws
      → IsPossible tuples k (map raw_accepts given) one → one ≡ Least example → IsStuckOf tuples k (map raw_accepts others) other → other ≡ Least stuck
      → IsDecidedTogether tuples names Ls (set_outcome names example stuck)
  decided given others one other example stuck same same' is e is' e' =
      FewTuples example stuck (moved IsPossible given one (Least example) same is e) (moved IsStuckOf others other (Least stuck) same' is' e') refl

  pub followed : (given : List RawValue) (one : Answer) (least : Option Word) → given ≡ raws → IsFollowingFirst tuples k (map raw_accepts given) one → one ≡ Least least
      → IsDecidedFollowing tuples names Ls (following_outcome names least)
  followed given one least same is e = FewFollowing least (moved IsFollowingFirst given one (Least least) same is e) refl
