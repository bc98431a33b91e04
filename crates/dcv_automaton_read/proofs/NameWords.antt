-- The words of the variables' line.
use Rattle.std.proofs.Common.{◌≡◌, ◌==◌, ℕ, zero, suc, ◌+◌, ◌<◌, ◌≤◌, Bool, true, false, List, [], ◌∷◌, length, map, take, Result, refl, sym, ap, ◌∙◌, subst, arith}
use Rattle.std.specs.Borrow.{Bor}
use Rattle.std.specs.List.{enumerate_from, zip}
use Rattle.std.proofs.lemmas.List.{length-take-le, take-map}
use Rattle.dcv_automaton_text.specs.Rules.{keeps_name}
use Rattle.dcv_automaton_read.specs.declared.faults.Stop.{Stop}
use Rattle.dcv_automaton_read.specs.Judged.{first_word, first_false, IsJudged}
use Rattle.dcv_automaton_read.specs.Parts.{judged_lines, judged_names}
use Rattle.dcv_automaton_read.specs.Seen.{texts_of}

-- a name as the words of a line
abbrev pub one_word : List ℕ → List (List ℕ)
one_word name = name ∷ []

abbrev pub keeps_word : List (List ℕ) → ℕ → List ℕ → List Bool
keeps_word names place name = keeps_name names place name ∷ []

words_of : (names rest : List (List ℕ)) (place : ℕ)
    → zip rest (map (λ numbered. keeps_name names numbered.0 numbered.1) (enumerate_from place rest)) ≡ judged_lines one_word (keeps_word names) place rest
words_of names [] place = refl
words_of names (name ∷ rest) place = ap (λ more. (name, keeps_name names place name) ∷ more) (words_of names rest (place + 1))

pub names_as_lines : (names : List (List ℕ)) → 0 < length names → judged_names names ≡ judged_lines one_word (keeps_word names) 0 names
names_as_lines [] some = absurd (omega arith)
names_as_lines (name ∷ names) some = words_of (name ∷ names) (name ∷ names) 0

pub name_flag : (names : List (Bor (List ℕ))) (place : ℕ) (name : List ℕ) (kept : Bool) → place ≤ length names
    → ((all : List (List ℕ)) → texts_of (take place names) ≡ take (length (take place names)) all → kept ≡ keeps_name all (length (take place names)) name)
    → kept ≡ keeps_name (texts_of names) place name
name_flag names place name kept below told =
    let count = length-take-le place names below in
    told (texts_of names) (sym (take-map (λ (one : Bor (List ℕ)). one.now) place names) ∙ ap (λ n. take n (texts_of names)) (sym count))
    ∙ ap (λ n. keeps_name (texts_of names) n name) count

-- names that are kept are few
pub kept_are_few : (names : List (List ℕ)) (place : ℕ) (name : List ℕ) → keeps_name names place name ≡ true → place < 16
kept_are_few names place name kept = grind (arith, kept)

-- the flag of a name, judged
pub word_judged : (names : List (List ℕ)) (place number end : ℕ) (name : List ℕ) (kept : Bool) (answer : Result ℕ Stop) → kept ≡ keeps_name names place name
    → IsJudged (first_false number (kept ∷ [])) end answer → IsJudged (first_word number (zip (one_word name) (keeps_word names place name))) end answer
word_judged names place number end name kept answer same judged = subst (λ one. IsJudged (first_false number (one ∷ [])) end answer) same judged

pub some_there : (count : ℕ) (empty : Bool) → empty ≡ (count == 0) → empty ≡ false → 0 < count
some_there zero empty is not_empty = absurd (let wrong : true ≡ false = sym is ∙ not_empty in cc)
some_there (suc count) empty is not_empty = omega arith
