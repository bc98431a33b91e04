-- Words are judged in turn, line by line.
use Rattle.std.proofs.Common.{◌≡◌, ℕ, suc, ◌+◌, ◌<◌, ◌≤◌, Bool, true, false, List, [], ◌∷◌, ◌++◌, length, map, drop, get_or, Option, None, Some, Result, Ok, Err, refl, sym, ap, ◌∙◌, subst, arith}
use Rattle.std.specs.List.{zip}
use Rattle.std.proofs.lemmas.List.{length-append, length-map, get_or-map, drop_all}
use Rattle.std.specs.Result.{IsErrAnd}
use Rattle.std.proofs.lemmas.Result.{err_from_is_err_and}
use Rattle.std.proofs.Math.Seq.{drop-cons}
use Rattle.dcv_automaton_read.specs.declared.faults.Stop.{Stop}
use Rattle.dcv_automaton_read.specs.declared.faults.Stop.TheVariants.{Word, OutOfMemory}
use Rattle.dcv_automaton_read.specs.Judged.{first_word, IsJudged, IsJudgedWhole}
use Rattle.dcv_automaton_read.specs.Parts.{judged_lines}

-- ---- words after others

pub none_before : (a b : List (List ℕ × Bool)) (at : ℕ) → first_word at a ≡ None → first_word at (a ++ b) ≡ first_word (at + length a) b
none_before [] b at none = let same : at ≡ at + 0 = omega arith in ap (λ n. first_word n b) same
none_before ((word, true) ∷ a) b at none =
    let same : at + 1 + length a ≡ at + suc (length a) = omega arith in
    none_before a b (at + 1) none ∙ ap (λ n. first_word n b) same
none_before ((word, false) ∷ a) b at none = absurd cc

pub some_before : (a b : List (List ℕ × Bool)) (at number : ℕ) → first_word at a ≡ Some number → first_word at (a ++ b) ≡ Some number
some_before [] b at number some = absurd cc
some_before ((word, true) ∷ a) b at number some = some_before a b (at + 1) number some
some_before ((word, false) ∷ a) b at number some = some

-- the first words keep the rules, and then the others are judged
pub in_turn : (a b : List (List ℕ × Bool)) (at next end : ℕ) (answer : Result ℕ Stop) → first_word at a ≡ None → next ≡ at + length a
    → IsJudged (first_word next b) (next + length b) answer → end ≡ at + length (a ++ b) → IsJudged (first_word at (a ++ b)) end answer
in_turn a b at next end (Ok number) none counted then_it ends =
    (none_before a b at none ∙ ap (λ n. first_word n b) (sym counted) ∙ then_it.0, omega (arith, then_it.1, length-append a b))
in_turn a b at next end (Err (Word number)) none counted then_it ends = none_before a b at none ∙ ap (λ n. first_word n b) (sym counted) ∙ then_it
in_turn a b at next end (Err OutOfMemory) none counted then_it ends = tt

-- the first words stop
pub stops : (a b : List (List ℕ × Bool)) (at end other : ℕ) (stop : Stop) → IsJudged (first_word at a) end (Err stop) → IsJudged (first_word at (a ++ b)) other (Err stop)
stops a b at end other (Word number) some = some_before a b at number some
stops a b at end other OutOfMemory some = tt

-- the same of a whole
pub whole_in_turn : {Whole : Type 0} (a b : List (List ℕ × Bool)) (at next : ℕ) (answer : Result Whole Stop) → IsJudged (first_word at a) (at + length a) (Ok next)
    → IsJudgedWhole (first_word next b) answer → IsJudgedWhole (first_word at (a ++ b)) answer
whole_in_turn a b at next answer first rest =
    subst (λ found. IsJudgedWhole found answer) (sym (none_before a b at first.0 ∙ ap (λ n. first_word n b) (sym first.1))) rest

pub whole_stops : {Whole : Type 0} (a b : List (List ℕ × Bool)) (at end : ℕ) (stop : Stop) (answer : Result Whole Stop) → IsErrAnd answer (λ e. e ≡ stop)
    → IsJudged (first_word at a) end (Err stop) → IsJudgedWhole (first_word at (a ++ b)) answer
whole_stops {Whole} a b at end stop answer exits judged =
    let p = err_from_is_err_and answer exits in
    rw (p.1, p.2) (stopped stop judged)
  where
    stopped : (stop : Stop) → IsJudged (first_word at a) end (Err stop) → IsJudgedWhole {Whole = Whole} (first_word at (a ++ b)) (Err stop)
    stopped (Word number) some = some_before a b at number some
    stopped OutOfMemory some = tt

-- ---- lines

-- what is left of the lines decides
pub record IsLeft {Line : Type 0} (words : Line → List (List ℕ)) (keeps : ℕ → Line → List Bool) (xs : List Line) (from place number : ℕ) : Type 0 where
  pub same : first_word from (judged_lines words keeps 0 xs) ≡ first_word number (judged_lines words keeps place (drop place xs))
  pub counted : from + length (judged_lines words keeps 0 xs) ≡ number + length (judged_lines words keeps place (drop place xs))

module _ {Line : Type 0} (words : Line → List (List ℕ)) (keeps : ℕ → Line → List Bool) (xs : List Line) (from place number : ℕ) where
  pub at_start : IsLeft words keeps xs from 0 from
  at_start = record { same = refl; counted = refl }

  -- the line at the place, and those after it
  abbrev this : Line → List (List ℕ × Bool)
  this x = zip (words x) (keeps place x)

  rest_is : (x : Line) → place < length xs → get_or xs place x ≡ x → judged_lines words keeps place (drop place xs) ≡ this x ++ judged_lines words keeps (place + 1) (drop (place + 1) xs)
  rest_is x below is =
      let next : suc place ≡ place + 1 = omega arith in
      ap (judged_lines words keeps place) (drop-cons xs place x below)
      ∙ (λ i. this (is i) ++ judged_lines words keeps (place + 1) (drop (next i) xs))

  pub one_more : (x : Line) (next : ℕ) → place < length xs → get_or xs place x ≡ x → IsLeft words keeps xs from place number
      → first_word number (zip (words x) (keeps place x)) ≡ None → next ≡ number + length (zip (words x) (keeps place x)) → IsLeft words keeps xs from (place + 1) next
  one_more x next below is left none counted =
      let rest = judged_lines words keeps (place + 1) (drop (place + 1) xs) in
      let split = rest_is x below is in
      record {
        same = left.same ∙ ap (first_word number) split ∙ none_before (this x) rest number none ∙ ap (λ n. first_word n rest) (sym counted);
        counted = omega (arith, left.counted, ap length split, length-append (this x) rest, counted);
      }

  pub stops_here : (x : Line) (end other : ℕ) (stop : Stop) → place < length xs → get_or xs place x ≡ x → IsLeft words keeps xs from place number
      → IsJudged (first_word number (zip (words x) (keeps place x))) end (Err stop) → IsJudged (first_word from (judged_lines words keeps 0 xs)) other (Err stop)
  stops_here x end other (Word at) below is left some =
      left.same ∙ ap (first_word number) (rest_is x below is) ∙ some_before (this x) (judged_lines words keeps (place + 1) (drop (place + 1) xs)) number at some
  stops_here x end other OutOfMemory below is left some = tt

  pub all_kept : length xs ≤ place → IsLeft words keeps xs from place number → IsJudged (first_word from (judged_lines words keeps 0 xs)) (from + length (judged_lines words keeps 0 xs)) (Ok number)
  all_kept all left =
      let none = ap (judged_lines words keeps place) (drop_all place xs all) in
      (left.same ∙ ap (first_word number) none, omega (arith, left.counted, ap length none))

-- ---- exits

-- what a call answers where it stops is handed on
pub handed_on : (found : Option ℕ) (end : ℕ) (stop : Stop) (answer : Result ℕ Stop) → IsErrAnd answer (λ e. e ≡ stop) → IsJudged found end (Err stop) → IsJudged found end answer
handed_on found end stop answer exits stopped =
    let p = err_from_is_err_and answer exits in
    rw (p.1, p.2) stopped

-- ---- lines of the code

-- the line of an element, given as the code reads it
module _ {Code Line : Type 0} (f : Code → Line) (words : Line → List (List ℕ)) (keeps : ℕ → Line → List Bool) (items given : List Code) (nothing : Code) (from place number : ℕ) (same : given ≡ items) where
  abbrev line : Line
  line = f (get_or given place nothing)

  there : place < length given → get_or (map f items) place line ≡ line
  there below = ap (λ xs. get_or (map f xs) place line) (sym same) ∙ get_or-map f given place nothing line below

  within : place < length given → place < length (map f items)
  within below = omega (arith, below, length-map items f, ap length same)

  pub more_of : (next : ℕ) → place < length given → IsLeft words keeps (map f items) from place number
      → IsJudged (first_word number (zip (words (f (get_or given place nothing))) (keeps place (f (get_or given place nothing)))))
      (number + length (zip (words (f (get_or given place nothing))) (keeps place (f (get_or given place nothing))))) (Ok next)
      → IsLeft words keeps (map f items) from (place + 1) next
  more_of next below left judged = one_more words keeps (map f items) from place number line next (within below) (there below) left judged.0 judged.1

  pub stop_of : (end other : ℕ) (stop : Stop) (answer : Result ℕ Stop) → place < length given → IsLeft words keeps (map f items) from place number → IsErrAnd answer (λ e. e ≡ stop)
      → IsJudged (first_word number (zip (words (f (get_or given place nothing))) (keeps place (f (get_or given place nothing))))) end (Err stop)
      → IsJudged (first_word from (judged_lines words keeps 0 (map f items))) other answer
  stop_of end other stop answer below left exits judged =
      handed_on (first_word from (judged_lines words keeps 0 (map f items))) other stop answer exits
      (stops_here words keeps (map f items) from place number line end other stop (within below) (there below) left judged)

  pub all_of : length given ≤ place → IsLeft words keeps (map f items) from place number
      → IsJudged (first_word from (judged_lines words keeps 0 (map f items))) (from + length (judged_lines words keeps 0 (map f items))) (Ok number)
  all_of all left = all_kept words keeps (map f items) from place number (omega (arith, all, length-map items f, ap length same)) left
