-- Sets are told apart by the first bytes of their texts.
use Rattle.std.proofs.Common.{◌≡◌, ℕ, Bool, true, false, ◌||◌, List, [], ◌∷◌, ◌++◌, inl, inr, refl, sym, ap, ◌∙◌, arith}
use Rattle.std.specs.Prelude.{nat_eq}
use Rattle.dcv_automaton_lines.specs.Pieces.{Exactly, Followed, Either}
use Rattle.dcv_automaton_lines.proofs.Pieces.{IsAway}

-- each text begins with a byte that passes the test
pub record Opens (P : List ℕ → Type 0) (test : ℕ → Bool) : Type 0 where
  pub some : P [] → ⊥
  pub first : (b : ℕ) (rest : List ℕ) → P (b ∷ rest) → test b ≡ true

pub opens_followed : {P : List ℕ → Type 0} {test : ℕ → Bool} (Q : List ℕ → Type 0) (end : ℕ) → Opens P test → Opens (Followed P end Q) test
opens_followed {P = P} {test = test} Q end opens =
    record { some = λ parts. none parts.word parts.back parts.word_is parts.whole; first = λ b rest parts. begin parts.word b rest parts.back parts.word_is parts.whole }
  where
    none : (word back : List ℕ) → P word → [] ≡ word ++ end ∷ back → ⊥
    none [] back is same = cc
    none (c ∷ word) back is same = cc

    begin : (word : List ℕ) (b : ℕ) (rest back : List ℕ) → P word → b ∷ rest ≡ word ++ end ∷ back → test b ≡ true
    begin [] b rest back is same = absurd (opens.some is)
    begin (c ∷ word) b rest back is same = let e : b ≡ c = cc in ap test e ∙ opens.first c word is

pub opens_either : {P : List ℕ → Type 0} {Q : List ℕ → Type 0} {test : ℕ → Bool} {other : ℕ → Bool} → Opens P test → Opens Q other → Opens (Either P Q) (λ b. test b || other b)
opens_either {test = test} {other = other} p q =
    record {
      some = λ is. elim is.which [ inl one ↦ p.some one | inr two ↦ q.some two ];
      first = λ b rest is. elim is.which [ inl one ↦ ap (λ t. t || other b) (p.first b rest one) | inr two ↦ ap (λ t. test b || t) (q.first b rest two) ∙ or_true (test b) ];
    }
  where
    or_true : (t : Bool) → (t || true) ≡ true
    or_true true = refl
    or_true false = refl

same_byte : (a b : ℕ) → nat_eq a b ≡ true → a ≡ b
same_byte a b is = grind (arith, is)

pub opens_exactly : (b : ℕ) (word : List ℕ) → Opens (Exactly (b ∷ word)) (nat_eq b)
opens_exactly b word =
    record {
      some = λ is. let wrong : [] ≡ b ∷ word = is.is in cc;
      first = λ c rest is. let whole : c ∷ rest ≡ b ∷ word = is.is in let e : c ≡ b = cc in ap (nat_eq b) e ∙ same b;
    }
  where
    same : (b : ℕ) → nat_eq b b ≡ true
    same b = grind arith

pub away_by : {P : List ℕ → Type 0} {test : ℕ → Bool} (text : List ℕ) → Opens P test → ((b : ℕ) (more : List ℕ) → text ≡ b ∷ more → test b ≡ false) → IsAway P text
away_by {test = test} text opens fails =
    record {
      differs = λ b rest more is same. let wrong : true ≡ false = sym (opens.first b rest is) ∙ fails b more same in cc;
      some = opens.some;
    }

pub apart_by : {P : List ℕ → Type 0} {Q : List ℕ → Type 0} {test : ℕ → Bool} {other : ℕ → Bool} → Opens P test → Opens Q other → ((b : ℕ) → test b ≡ true → other b ≡ true → ⊥)
    → (one two rest other_rest : List ℕ) → P one → Q two → one ++ rest ≡ two ++ other_rest → ⊥
apart_by {test = test} {other = other} p q never [] two rest other_rest is are same = p.some is
apart_by {test = test} {other = other} p q never (b ∷ one) [] rest other_rest is are same = q.some are
apart_by {test = test} {other = other} p q never (b ∷ one) (c ∷ two) rest other_rest is are same =
    let e : b ≡ c = cc in
    never b (p.first b one is) (ap other e ∙ q.first c two are)

-- a byte that fails the other test
pub not_both_tests : (first : ℕ) (other : ℕ → Bool) → other first ≡ false → (b : ℕ) → nat_eq first b ≡ true → other b ≡ true → ⊥
not_both_tests first other fails b is passes =
    let e = same_byte first b is in
    let wrong : true ≡ false = sym passes ∙ ap other (sym e) ∙ fails in cc
