-- A file keeps the table rules where each word of each line does. Here is one direction; `GoodFiles` goes the other way.
use Rattle.std.proofs.Common.{◌≡◌, ℕ, suc, ◌+◌, ◌<◌, Bool, true, false, ◌&&◌, List, [], ◌∷◌, ◌++◌, length, get_or, None, refl, ◌∙◌, subst, arith}
use Rattle.std.specs.List.{list_all, flat_map, enumerate_from, zip}
use Rattle.std.proofs.lemmas.List.Folds.{list_all-append}
use Rattle.dcv_automaton_text.specs.Rules.{judged, first_broken}

-- each of the tests is true
abbrev pub AreKept : List Bool → Type 0
AreKept [] = Unit {0}
AreKept (kept ∷ more) = (kept ≡ true) × AreKept more

abbrev pub keeps : List ℕ × Bool → Bool
keeps word = word.1

pub record AllKeep (words : List (List ℕ × Bool)) : Type 0 where
  pub all : list_all keeps words ≡ true

pub none_kept : AllKeep []
none_kept = record { all = refl }

pub both : (a b : Bool) → (a && b) ≡ true → (a ≡ true) × (b ≡ true)
both true b h = (refl, h)
both false b h = absurd cc

pub both_true : (a b : Bool) → a ≡ true → b ≡ true → (a && b) ≡ true
both_true a b first second = (λ i. first i && second i) ∙ refl

pub kept_words : (words : List (List ℕ)) (kept : List Bool) → AreKept kept → AllKeep (zip words kept)
kept_words [] kept is = none_kept
kept_words (word ∷ words) [] is = none_kept
kept_words (word ∷ words) (one ∷ kept) is = record { all = both_true one (list_all keeps (zip words kept)) is.0 (kept_words words kept is.1).all }

pub in_turn : {words more : List (List ℕ × Bool)} → AllKeep words → AllKeep more → AllKeep (words ++ more)
in_turn {words} {more} first second = record { all = list_all-append keeps words more ∙ both_true (list_all keeps words) (list_all keeps more) first.all second.all }

kept_lines : {Line : Type 0} (words : Line → List (List ℕ)) (kept : ℕ → Line → List Bool) (lines : List Line) (first : ℕ)
    → ((k : ℕ) (d : Line) → k < length lines → AreKept (kept (first + k) (get_or lines k d))) → AllKeep (flat_map (λ numbered. zip (words numbered.1) (kept numbered.0 numbered.1)) (enumerate_from first lines))
kept_lines words kept [] first each = none_kept
kept_lines words kept (line ∷ lines) first each =
    let here : first + 0 ≡ first = omega arith in
    let rest = kept_lines words kept lines (first + 1) (λ k d within.
    subst (λ at. AreKept (kept at (get_or lines k d))) (let same : first + suc k ≡ (first + 1) + k = omega arith in same) (each (suc k) d (omega arith))) in
    in_turn
    (kept_words (words line) (kept first line) (subst (λ at. AreKept (kept at line)) here (each 0 line (omega arith)))) rest

-- the lines of one kind keep the rules
pub kind_kept : {Line : Type 0} (words : Line → List (List ℕ)) (kept : ℕ → Line → List Bool) (lines : List Line)
    → ((k : ℕ) (d : Line) → k < length lines → AreKept (kept k (get_or lines k d))) → AllKeep (judged words kept lines)
kind_kept words kept lines each =
    kept_lines words kept lines 0 (λ k d within. subst (λ at. AreKept (kept at (get_or lines k d))) (let same : k ≡ 0 + k = omega arith in same) (each k d within))

unbroken : (words : List (List ℕ × Bool)) (at : ℕ) → list_all keeps words ≡ true → first_broken at words ≡ None
unbroken [] at all = refl
unbroken ((word, true) ∷ words) at all = unbroken words (at + length word + 1) all
unbroken ((word, false) ∷ words) at all = absurd (let wrong : false ≡ true = all in cc)

-- no word breaks a rule where each keeps them
pub none_broken : (words : List (List ℕ × Bool)) (at : ℕ) → AllKeep words → first_broken at words ≡ None
none_broken words at all = unbroken words at all.all
