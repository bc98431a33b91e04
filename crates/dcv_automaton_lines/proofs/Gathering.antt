-- Lines are gathered one after another: what one line more does to what was read.
use Rattle.std.proofs.Common.{◌≡◌, ℕ, suc, ◌<◌, ◌≤◌, Bool, true, false, drop, inl, inr, List, [], ◌∷◌, ◌++◌, length, map, refl, sym, ap, ◌∙◌, subst, arith}
use Rattle.std.specs.Prelude.{codes, Result, Ok, Err}
use Rattle.std.specs.Fmt.{decimal}
use Rattle.dcv_word.specs.TraceLine.{trace_line}
use Rattle.std.specs.List.{flat_map, join_with_byte}
use Rattle.std.specs.Result.{IsErrAnd}
use Rattle.std.proofs.lemmas.Bool.{cases_lt}
use Rattle.dcv_automaton_lines.proofs.Pieces.{fault_after}
use Rattle.dcv_automaton_lines.proofs.KindSets.{rank_small, leads_tail, stuck_in_line}
use Rattle.dcv_automaton_lines.proofs.LineSets.{number_of, node_of, target_of, answer_of, name_of, letter_from, exactly}
use Rattle.std.proofs.lemmas.List.{append_assoc, length-append}
use Rattle.std.proofs.lemmas.List.Elements.{All-push}
use Rattle.dcv_automaton_text.specs.File.{Access, EmptyAccess, StartAccess, AfterAccess, Suffix, EmptySuffix, ThenSuffix, AutomatonFile}
use Rattle.dcv_automaton_text.specs.Form.{IsNodeLine, IsStateLine, IsAccess, IsAccessLine, IsSuffix, IsSuffixLine}
use Rattle.dcv_automaton_text.specs.Spelled.{node_word, target_word, answer_word, node_words, state_words, how_access, access_words, how_suffix, suffix_words, spelled_line}
use Rattle.dcv_automaton_lines.specs.Pieces.{Nothing, Followed, IsStuckIn, IsFaultAt}
use Rattle.dcv_automaton_lines.specs.Parts.{rank, closing_word, closing_end, words_then, LineOf, AnyLine, Tail, After, Closed, AccessHow, AccessBody, SuffixHow, SuffixBody}
use Rattle.dcv_automaton_lines.specs.Stops.{IsFaultBy, IsStopAt}
use Rattle.dcv_automaton_lines.specs.Gathered.{PlainLine, OfNode, OfState, OfAccess, OfSuffix, OfClosing, kind_of, line_then, IsLine, added, section_words, closed_by, IsOpen, HasLines}
use Rattle.dcv_automaton_lines.specs.declared.sections.Kind.{Kind}
use Rattle.dcv_automaton_lines.specs.declared.sections.Kind.TheVariants.{Node, State, Access as AccessKind, Suffix as SuffixKind, Closing}
use Rattle.dcv_automaton_lines.specs.declared.version.Version.{Version}
use Rattle.dcv_automaton_lines.specs.declared.stop.Stuck.{Stuck}
use Rattle.dcv_automaton_lines.specs.declared.stop.Stop.{Stop}
use Rattle.dcv_automaton_lines.specs.declared.stop.Stop.TheVariants.{Syntax, Memory}

-- ---- lines in bytes

line_before : (words : List (List ℕ)) (rest : List ℕ) → spelled_line words ++ rest ≡ join_with_byte 32 words ++ 10 ∷ rest
line_before words rest = append_assoc (join_with_byte 32 words) (10 ∷ []) rest

words_joined : (word : List ℕ) (words : List (List ℕ)) (rest : List ℕ) → join_with_byte 32 (word ∷ words) ++ 10 ∷ rest ≡ words_then (word ∷ words) rest
words_joined word [] rest = refl
words_joined word (next ∷ words) rest =
    append_assoc word (32 ∷ join_with_byte 32 (next ∷ words)) (10 ∷ rest) ∙ ap (λ r. word ++ 32 ∷ r) (words_joined next words rest)

pub words_spelled : (word : List ℕ) (words : List (List ℕ)) (rest : List ℕ) → spelled_line (word ∷ words) ++ rest ≡ words_then (word ∷ words) rest
words_spelled word words rest = line_before (word ∷ words) rest ∙ words_joined word words rest

pub some_then : (words : List (List ℕ)) → 0 < length words → (rest : List ℕ) → spelled_line words ++ rest ≡ words_then words rest
some_then [] some rest = absurd (omega arith)
some_then (word ∷ words) some rest = words_spelled word words rest

pub one_line : (lines : List (List (List ℕ))) (words : List (List ℕ)) → 0 < length words → (rest : List ℕ)
    → flat_map spelled_line (lines ++ words ∷ []) ++ rest ≡ flat_map spelled_line lines ++ words_then words rest
one_line [] words some rest = append_assoc (spelled_line words) [] rest ∙ some_then words some rest
one_line (first ∷ lines) words some rest =
    append_assoc (spelled_line first) (flat_map spelled_line (lines ++ words ∷ [])) rest ∙ ap (λ r. spelled_line first ++ r) (one_line lines words some rest)
    ∙ sym (append_assoc (spelled_line first) (flat_map spelled_line lines) (words_then words rest))

words_longer : (word : List ℕ) (words : List (List ℕ)) (rest : List ℕ) → length rest < length (words_then (word ∷ words) rest)
words_longer word [] rest = let sizes = length-append word (10 ∷ rest) in omega arith
words_longer word (next ∷ words) rest =
    let sizes = length-append word (32 ∷ words_then (next ∷ words) rest) in
    let more = words_longer next words rest in omega arith

some_longer : (words : List (List ℕ)) → 0 < length words → (rest : List ℕ) → length rest < length (words_then words rest)
some_longer [] some rest = absurd (omega arith)
some_longer (word ∷ words) some rest = words_longer word words rest

closing_longer : (word : List ℕ) (end : ℕ) (rest : List ℕ) → length rest < length (word ++ end ∷ rest)
closing_longer word end rest = let sizes = length-append word (end ∷ rest) in omega arith

line_longer : (version : Version) (line : PlainLine) (rest : List ℕ) → length rest < length (line_then version line rest)
line_longer version (OfNode line) rest = some_longer (node_words line) (omega arith) rest
line_longer version (OfState line) rest = some_longer (state_words line) (omega arith) rest
line_longer version (OfAccess line) rest = some_longer (access_words line) (omega arith) rest
line_longer version (OfSuffix line) rest = some_longer (suffix_words line) (omega arith) rest
line_longer version OfClosing rest = closing_longer (closing_word version) (closing_end version) rest

pub shorter : (version : Version) (line : PlainLine) (text rest : List ℕ) → text ≡ line_then version line rest → length rest < length text
shorter version line text rest same = subst (λ (t : List ℕ). length rest < length t) (sym same) (line_longer version line rest)

-- ---- one line more

module _ {W : Type 0} where
  pub none_more : (xs : List W) → xs ++ [] ≡ xs
  none_more [] = refl
  none_more (x ∷ xs) = ap (λ rest. x ∷ rest) (none_more xs)

  pub in_turn : (xs ys zs : List W) → (xs ++ ys) ++ zs ≡ xs ++ (ys ++ zs)
  in_turn [] ys zs = refl
  in_turn (x ∷ xs) ys zs = ap (λ rest. x ∷ rest) (in_turn xs ys zs)

  fourth_more : (a b c d : List W) (w : W) → a ++ (b ++ (c ++ (d ++ w ∷ []))) ≡ (a ++ (b ++ (c ++ d))) ++ w ∷ []
  fourth_more a b c d w =
      ap (λ r. a ++ (b ++ r)) (sym (in_turn c d (w ∷ []))) ∙ ap (λ r. a ++ r) (sym (in_turn b (c ++ d) (w ∷ []))) ∙ sym (in_turn a (b ++ (c ++ d)) (w ∷ []))

  third_more : (a b c d : List W) (w : W) → d ≡ [] → a ++ (b ++ ((c ++ w ∷ []) ++ d)) ≡ (a ++ (b ++ (c ++ d))) ++ w ∷ []
  third_more a b c d w none =
      ap (λ d. a ++ (b ++ ((c ++ w ∷ []) ++ d))) none ∙ ap (λ r. a ++ (b ++ r)) (in_turn c (w ∷ []) []) ∙ fourth_more a b c [] w ∙ ap (λ d. (a ++ (b ++ (c ++ d))) ++ w ∷ []) (sym none)

  second_more : (a b c d : List W) (w : W) → c ≡ [] → d ≡ [] → a ++ ((b ++ w ∷ []) ++ (c ++ d)) ≡ (a ++ (b ++ (c ++ d))) ++ w ∷ []
  second_more a b c d w no_c no_d =
      ap (λ c. a ++ ((b ++ w ∷ []) ++ (c ++ d))) no_c ∙ ap (λ r. a ++ r) (in_turn b (w ∷ []) d) ∙ third_more a b [] d w no_d ∙ ap (λ c. (a ++ (b ++ (c ++ d))) ++ w ∷ []) (sym no_c)

  first_more : (a b c d : List W) (w : W) → b ≡ [] → c ≡ [] → d ≡ [] → (a ++ w ∷ []) ++ (b ++ (c ++ d)) ≡ (a ++ (b ++ (c ++ d))) ++ w ∷ []
  first_more a b c d w no_b no_c no_d =
      ap (λ b. (a ++ w ∷ []) ++ (b ++ (c ++ d))) no_b ∙ in_turn a (w ∷ []) (c ++ d) ∙ second_more a [] c d w no_c no_d ∙ ap (λ b. (a ++ (b ++ (c ++ d))) ++ w ∷ []) (sym no_b)

pub map_more : {A : Type 0} {B : Type 0} (f : A → B) (xs : List A) (x : A) → map f (xs ++ x ∷ []) ≡ map f xs ++ f x ∷ []
map_more f [] x = refl
map_more f (y ∷ xs) x = ap (λ rest. f y ∷ rest) (map_more f xs x)

pub closed_none : (version : Version) (kind : Kind) → rank kind ≤ 3 → (rest : List ℕ) → closed_by version kind rest ≡ rest
closed_none version Node small rest = refl
closed_none version State small rest = refl
closed_none version AccessKind small rest = refl
closed_none version SuffixKind small rest = refl
closed_none version Closing small rest = absurd (omega arith)

-- the words of a line; the word that closes the sections is none of theirs
abbrev pub line_words : PlainLine → List (List (List ℕ))
line_words (OfNode line) = node_words line ∷ []
line_words (OfState line) = state_words line ∷ []
line_words (OfAccess line) = access_words line ∷ []
line_words (OfSuffix line) = suffix_words line ∷ []
line_words OfClosing = []

pub record Grown (first : Kind) (file : AutomatonFile) (line : PlainLine) : Type 0 where
  pub words : section_words (added file line) ≡ section_words file ++ line_words line
  pub open_on : IsOpen (kind_of line) (added file line)
  pub lines : HasLines (added file line)
  pub names : (added file line).names ≡ file.names
  pub states : (added file line).states ≡ file.states

module _ (first : Kind) (file : AutomatonFile) (begun : IsOpen first file) (lines : HasLines file) where
  pub grown : (line : PlainLine) → rank first ≤ rank (kind_of line) → IsLine line → Grown first file line
  grown (OfNode line) later is =
      let no_b = begun.no_states (omega arith) in
      let no_c = begun.no_access (omega arith) in
      let no_d = begun.no_suffixes (omega arith) in
      record {
        words = ap (λ a. a ++ (map state_words file.state_lines ++ (map access_words file.access_lines ++ map suffix_words file.suffix_lines))) (map_more node_words file.node_lines line)
            ∙ first_more (map node_words file.node_lines) (map state_words file.state_lines) (map access_words file.access_lines) (map suffix_words file.suffix_lines) (node_words line)
            (ap (map state_words) no_b) (ap (map access_words) no_c) (ap (map suffix_words) no_d);
        open_on = record { no_states = λ _. no_b; no_access = λ _. no_c; no_suffixes = λ _. no_d };
        lines = record { node_lines = All-push IsNodeLine file.node_lines line lines.node_lines is; state_lines = lines.state_lines; access_lines = lines.access_lines; suffix_lines = lines.suffix_lines };
        names = refl;
        states = refl;
      }
  grown (OfState line) later is =
      let no_c = begun.no_access (omega arith) in
      let no_d = begun.no_suffixes (omega arith) in
      record {
        words = ap (λ b. map node_words file.node_lines ++ (b ++ (map access_words file.access_lines ++ map suffix_words file.suffix_lines))) (map_more state_words file.state_lines line)
            ∙ second_more (map node_words file.node_lines) (map state_words file.state_lines) (map access_words file.access_lines) (map suffix_words file.suffix_lines) (state_words line)
            (ap (map access_words) no_c) (ap (map suffix_words) no_d);
        open_on = record { no_states = λ low. absurd (omega (arith, low)); no_access = λ _. no_c; no_suffixes = λ _. no_d };
        lines = record { node_lines = lines.node_lines; state_lines = All-push IsStateLine file.state_lines line lines.state_lines is; access_lines = lines.access_lines; suffix_lines = lines.suffix_lines };
        names = refl;
        states = refl;
      }
  grown (OfAccess line) later is =
      let no_d = begun.no_suffixes (omega arith) in
      record {
        words = ap (λ c. map node_words file.node_lines ++ (map state_words file.state_lines ++ (c ++ map suffix_words file.suffix_lines))) (map_more access_words file.access_lines line)
            ∙ third_more (map node_words file.node_lines) (map state_words file.state_lines) (map access_words file.access_lines) (map suffix_words file.suffix_lines) (access_words line)
            (ap (map suffix_words) no_d);
        open_on = record { no_states = λ low. absurd (omega (arith, low)); no_access = λ low. absurd (omega (arith, low)); no_suffixes = λ _. no_d };
        lines = record { node_lines = lines.node_lines; state_lines = lines.state_lines; access_lines = All-push IsAccessLine file.access_lines line lines.access_lines is; suffix_lines = lines.suffix_lines };
        names = refl;
        states = refl;
      }
  grown (OfSuffix line) later is =
      record {
        words = ap (λ d. map node_words file.node_lines ++ (map state_words file.state_lines ++ (map access_words file.access_lines ++ d))) (map_more suffix_words file.suffix_lines line)
            ∙ fourth_more (map node_words file.node_lines) (map state_words file.state_lines) (map access_words file.access_lines) (map suffix_words file.suffix_lines) (suffix_words line);
        open_on = record { no_states = λ low. absurd (omega (arith, low)); no_access = λ low. absurd (omega (arith, low)); no_suffixes = λ low. absurd (omega (arith, low)) };
        lines = record { node_lines = lines.node_lines; state_lines = lines.state_lines; access_lines = lines.access_lines; suffix_lines = All-push IsSuffixLine file.suffix_lines line lines.suffix_lines is };
        names = refl;
        states = refl;
      }
  grown OfClosing later is =
      record {
        words = sym (none_more (section_words file));
        open_on = record { no_states = λ low. absurd (omega (arith, low)); no_access = λ low. absurd (omega (arith, low)); no_suffixes = λ low. absurd (omega (arith, low)) };
        lines = lines;
        names = refl;
        states = refl;
      }

-- the text of a line after those before it
pub line_more : (version : Version) (lines : List (List (List ℕ))) (line : PlainLine) (rest : List ℕ)
    → flat_map spelled_line lines ++ line_then version line rest ≡ flat_map spelled_line (lines ++ line_words line) ++ closed_by version (kind_of line) rest
line_more version lines (OfNode line) rest = sym (one_line lines (node_words line) (omega arith) rest)
line_more version lines (OfState line) rest = sym (one_line lines (state_words line) (omega arith) rest)
line_more version lines (OfAccess line) rest = sym (one_line lines (access_words line) (omega arith) rest)
line_more version lines (OfSuffix line) rest = sym (one_line lines (suffix_words line) (omega arith) rest)
line_more version lines OfClosing rest = ap (λ lines. flat_map spelled_line lines ++ (closing_word version ++ closing_end version ∷ rest)) (sym (none_more lines))

pub spelled_on : (version : Version) (first : Kind) (file : AutomatonFile) (line : PlainLine) → rank first ≤ 3 → Grown first file line → (text rest behind : List ℕ)
    → text ≡ flat_map spelled_line (section_words file) ++ closed_by version first rest → rest ≡ line_then version line behind
    → text ≡ flat_map spelled_line (section_words (added file line)) ++ closed_by version (kind_of line) behind
spelled_on version first file line small grow text rest behind was is =
    was ∙ ap (λ r. flat_map spelled_line (section_words file) ++ r) (closed_none version first small rest ∙ is) ∙ line_more version (section_words file) line behind
    ∙ ap (λ words. flat_map spelled_line words ++ closed_by version (kind_of line) behind) (sym grow.words)

pub map_length : {A : Type 0} {B : Type 0} (f : A → B) (xs : List A) → length (map f xs) ≡ length xs
map_length f [] = refl
map_length f (x ∷ xs) = ap suc (map_length f xs)

-- ---- a line read

pub then_back : (words : List (List ℕ)) (rest : List ℕ) → words_then words rest ≡ words_then words [] ++ rest
then_back [] rest = refl
then_back (word ∷ []) rest = sym (append_assoc word (10 ∷ []) rest)
then_back (word ∷ next ∷ words) rest =
    ap (λ r. word ++ 32 ∷ r) (then_back (next ∷ words) rest) ∙ sym (append_assoc word (32 ∷ words_then (next ∷ words) []) rest)

pub ended : {P : List ℕ → Type 0} (end : ℕ) (word : List ℕ) → P word → Followed P end Nothing (word ++ end ∷ [])
ended end word is = record { word = word; back = []; word_is = is; back_is = record { is = refl }; whole = refl }

pub more_words : {P : List ℕ → Type 0} {Q : List ℕ → Type 0} (end : ℕ) (word back : List ℕ) → P word → Q back → Followed P end Q (word ++ end ∷ back)
more_words end word back is next = record { word = word; back = back; word_is = is; back_is = next; whole = refl }

pub followed_is : {P : List ℕ → Type 0} {Q : List ℕ → Type 0} {end : ℕ} {text : List ℕ} (parts : Followed P end Q text) (word back : List ℕ) → parts.word ≡ word → parts.back ≡ back
    → text ≡ word ++ end ∷ back
followed_is {end = end} parts word back words backs = parts.whole ∙ (λ i. words i ++ end ∷ backs i)

how_access_is : (access : Access) → IsAccess access → AccessHow (words_then (how_access access) [])
how_access_is EmptyAccess is = record { which = inl (ended 10 (codes "empty") (exactly (codes "empty"))) }
how_access_is (StartAccess letter) is =
    record { which = inr (record { which = inl (more_words 32 (codes "start") (trace_line letter ++ 10 ∷ []) (exactly (codes "start")) (ended 10 (trace_line letter) (letter_from _ letter refl))) }) }
how_access_is (AfterAccess state letter) is =
    record { which = inr (record { which = inr (more_words 32 (decimal state) (trace_line letter ++ 10 ∷ []) (number_of state is) (ended 10 (trace_line letter) (letter_from _ letter refl))) }) }

how_suffix_is : (suffix : Suffix) → IsSuffix suffix → SuffixHow (words_then (how_suffix suffix) [])
how_suffix_is EmptySuffix is = record { which = inl (ended 10 (codes "empty") (exactly (codes "empty"))) }
how_suffix_is (ThenSuffix letter suffix) is =
    record { which = inr (more_words 32 (trace_line letter) (decimal suffix ++ 10 ∷ []) (letter_from _ letter refl) (ended 10 (decimal suffix) (number_of suffix is))) }

pub access_then : (number : ℕ) (access : Access) → words_then (decimal number ∷ how_access access) [] ≡ decimal number ++ 32 ∷ words_then (how_access access) []
access_then number EmptyAccess = refl
access_then number (StartAccess letter) = refl
access_then number (AfterAccess state letter) = refl

pub suffix_then : (number : ℕ) (suffix : Suffix) → words_then (decimal number ∷ how_suffix suffix) [] ≡ decimal number ++ 32 ∷ words_then (how_suffix suffix) []
suffix_then number EmptySuffix = refl
suffix_then number (ThenSuffix letter suffix) = refl

pub line_is : (version : Version) (line : PlainLine) → IsLine line → LineOf version (kind_of line) (line_then version line [])
line_is version (OfNode line) is =
    record {
      body = words_then (drop 1 (node_words line)) [];
      whole = refl;
      body_is =
          more_words 32 (node_word line.number) _ (node_of line.number is.number) (more_words 32 line.name _ (name_of line.name is.name)
          (more_words 32 (codes "?") _ (exactly (codes "?")) (more_words 32 (target_word line.hi) _ (target_of line.hi is.hi)
          (more_words 32 (codes ":") _ (exactly (codes ":")) (ended 10 (target_word line.lo) (target_of line.lo is.lo))))));
    }
line_is version (OfState line) is =
    record {
      body = words_then (drop 1 (state_words line)) [];
      whole = refl;
      body_is =
          more_words 32 (decimal line.number) _ (number_of line.number is.number) (more_words 32 (answer_word line.accepting) _ (answer_of line.accepting)
          (ended 10 (target_word line.row) (target_of line.row is.row)));
    }
line_is version (OfAccess line) is =
    record {
      body = words_then (drop 1 (access_words line)) [];
      whole = refl;
      body_is =
          subst AccessBody (sym (access_then line.number line.access))
          (more_words 32 (decimal line.number) (words_then (how_access line.access) []) (number_of line.number is.number) (how_access_is line.access is.access));
    }
line_is version (OfSuffix line) is =
    record {
      body = words_then (drop 1 (suffix_words line)) [];
      whole = refl;
      body_is =
          subst SuffixBody (sym (suffix_then line.number line.suffix))
          (more_words 32 (decimal line.number) (words_then (how_suffix line.suffix) []) (number_of line.number is.number) (how_suffix_is line.suffix is.suffix));
    }
line_is version OfClosing is = record { body = []; whole = refl; body_is = record { is = refl } }

pub line_back : (version : Version) (line : PlainLine) (rest : List ℕ) → line_then version line rest ≡ line_then version line [] ++ rest
line_back version (OfNode line) rest = then_back (node_words line) rest
line_back version (OfState line) rest = then_back (state_words line) rest
line_back version (OfAccess line) rest = then_back (access_words line) rest
line_back version (OfSuffix line) rest = then_back (suffix_words line) rest
line_back version OfClosing rest = sym (append_assoc (closing_word version) (closing_end version ∷ []) rest)

fault_same : (version : Version) (first : Kind) → rank first ≤ 3 → (rest left : List ℕ) → IsFaultAt (Tail version first) rest left → IsFaultAt (After version first) rest left
fault_same version Node small rest left fault = fault
fault_same version State small rest left fault = fault
fault_same version AccessKind small rest left fault = fault
fault_same version SuffixKind small rest left fault = fault
fault_same version Closing small rest left fault = absurd (omega arith)

pub before_closing : (first : Kind) (test : Bool) → (rank first ≡ 4 → test ≡ true) → test ≡ false → rank first ≤ 3
before_closing first test holds fails =
    elim (cases_lt 3 (rank first)) [
      | inl above ↦ let most = rank_small first in let wrong : true ≡ false = sym (holds (omega arith)) ∙ fails in absurd cc
      | inr small ↦ small
    ]

pub fault_here : (version : Version) (first : Kind) → rank first ≤ 3 → (rest left : List ℕ) → IsStuckIn (AnyLine version first) rest left → IsFaultAt (After version first) rest left
fault_here version first small rest left stuck = fault_same version first small rest left (stuck_in_line version first stuck)

pub record SectionStep (version : Version) (kind : Kind) (file new : AutomatonFile) (text behind : List ℕ) : Type 0 where
  pub names : new.names ≡ file.names
  pub states : new.states ≡ file.states
  pub begun : IsOpen kind new
  pub form : HasLines new
  pub spelled : text ≡ flat_map spelled_line (section_words new) ++ closed_by version kind behind
  pub fault : (left : List ℕ) → IsFaultAt (After version kind) behind left → IsFaultAt (Tail version Node) text left

section_added : (version : Version) (first : Kind) (file : AutomatonFile) (line : PlainLine) (text rest behind : List ℕ) → rank first ≤ 3
    → rank first ≤ rank (kind_of line) → IsLine line → IsOpen first file → HasLines file
    → text ≡ flat_map spelled_line (section_words file) ++ closed_by version first rest → rest ≡ line_then version line behind
    → ((left : List ℕ) → IsFaultAt (After version first) rest left → IsFaultAt (Tail version Node) text left) → SectionStep version (kind_of line) file (added file line) text behind
section_added version first file line text rest behind small later is begun lines spelled next fault =
    let grow = grown first file begun lines line later is in
    record {
      names = grow.names;
      states = grow.states;
      begun = grow.open_on;
      form = grow.lines;
      spelled = spelled_on version first file line small grow text rest behind spelled next;
      fault = λ left here. fault left (fault_same version first small rest left
          (fault_after (leads_tail version first (kind_of line) (line_then version line []) later (line_is version line is)) (next ∙ line_back version line behind) here));
    }

pub section_step : (version : Version) (first kind : Kind) (file new : AutomatonFile) (line : PlainLine) (text rest behind : List ℕ) → rank first ≤ 3 → kind ≡ kind_of line
    → new ≡ added file line → rank first ≤ rank (kind_of line) → IsLine line → IsOpen first file → HasLines file
    → text ≡ flat_map spelled_line (section_words file) ++ closed_by version first rest → rest ≡ line_then version line behind
    → ((left : List ℕ) → IsFaultAt (After version first) rest left → IsFaultAt (Tail version Node) text left) → SectionStep version kind file new text behind
section_step version first kind file new line text rest behind small kinds news later is begun lines spelled next fault =
    subst (λ (k : Kind). SectionStep version k file new text behind) (sym kinds) (subst (λ (f : AutomatonFile). SectionStep version (kind_of line) file f text behind) (sym news)
    (section_added version first file line text rest behind small later is begun lines spelled next fault))

-- what the sections are once the closing word was read
pub closed_spelled : (version : Version) (kind : Kind) → rank kind ≡ 4 → (rest : List ℕ) → closed_by version kind rest ≡ closing_word version ++ closing_end version ∷ rest
closed_spelled version Node last rest = absurd (omega arith)
closed_spelled version State last rest = absurd (omega arith)
closed_spelled version AccessKind last rest = absurd (omega arith)
closed_spelled version SuffixKind last rest = absurd (omega arith)
closed_spelled version Closing last rest = refl

pub closed_fault : (version : Version) (kind : Kind) → rank kind ≡ 4 → (rest left : List ℕ) → IsFaultAt (Closed version) rest left → IsFaultAt (After version kind) rest left
closed_fault version Node last rest left fault = absurd (omega arith)
closed_fault version State last rest left fault = absurd (omega arith)
closed_fault version AccessKind last rest left fault = absurd (omega arith)
closed_fault version SuffixKind last rest left fault = absurd (omega arith)
closed_fault version Closing last rest left fault = fault

-- ---- exits

pub stops : {T : Type 0} (P : List ℕ → Type 0) (text : List ℕ) (result : Result T Stop) (stuck : Stuck) → IsErrAnd result (λ e. e ≡ Syntax stuck) → IsFaultAt P text stuck.left.now
    → IsStopAt P text result
stops P text (Ok read) stuck is here = absurd is
stops P text (Err (Syntax other)) stuck is here = subst (λ (e : Stuck). IsFaultAt P text e.left.now) (sym (let same : other ≡ stuck = cc in same)) here
stops P text (Err Memory) stuck is here = tt

pub no_memory : {T : Type 0} (P : List ℕ → Type 0) (text : List ℕ) (result : Result T Stop) → IsErrAnd result (λ e. e ≡ Memory) → IsStopAt P text result
no_memory P text (Ok read) is = tt
no_memory P text (Err (Syntax other)) is = absurd (let wrong : Syntax other ≡ Memory = is in cc)
no_memory P text (Err Memory) is = tt

pub stop_passes : {T : Type 0} (P Q : List ℕ → Type 0) (text rest : List ℕ) (result : Result T Stop) (stop : Stop) → IsErrAnd result (λ e. e ≡ stop)
    → ((left : List ℕ) → IsFaultAt Q rest left → IsFaultAt P text left) → IsFaultBy Q rest stop → IsStopAt P text result
stop_passes P Q text rest result (Syntax stuck) is over here = stops P text result stuck is (over stuck.left.now here)
stop_passes P Q text rest result Memory is over here = no_memory P text result is
