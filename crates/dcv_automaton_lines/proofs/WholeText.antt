-- The whole text: a file of the form is one of its parts, and the other way round.
use Rattle.std.proofs.Common.{◌≡◌, ◌≢◌, ℕ, zero, suc, ◌+◌, ◌-◌, ◌<◌, ◌≤◌, List, [], ◌∷◌, ◌++◌, ◌⊎◌, inl, inr, length, map, take, refl, sym, ap, ◌∙◌, subst, arith, get_or}
use Rattle.std.specs.Prelude.{codes, Option, None, Some as SomePart, IfSome, Result}
use Rattle.std.specs.Result.{IsErrAnd}
use Rattle.dcv_automaton_lines.specs.declared.stop.Stop.{Stop}
use Rattle.dcv_automaton_lines.specs.declared.stop.Stop.TheVariants.{Syntax, Memory}
use Rattle.dcv_automaton_lines.specs.Stops.{IsStuckBy, IsStopAt}
use Rattle.std.specs.Fmt.{decimal}
use Rattle.std.specs.List.{All, flat_map}
use Rattle.std.proofs.lemmas.Bool.{cases_eq}
use Rattle.std.proofs.lemmas.List.{append_assoc, length-append, take_at}
use Rattle.std.proofs.lemmas.List.Concat.{flat_map-append}
use Rattle.dcv_word.specs.TraceLine.{trace_line}
use Rattle.dcv_automaton_text.specs.File.{NodeLine, StateLine, Access, EmptyAccess, StartAccess, AfterAccess, AccessLine, Suffix, EmptySuffix, ThenSuffix, SuffixLine, StepPart, AutomatonFile}
use Rattle.dcv_automaton_text.specs.Form.{IsNumber, IsNameWord, IsAccess, IsSuffix, IsStepPart, HasForm, IsViable, IsSyntaxFault}
use Rattle.dcv_automaton_text.specs.Spelled.{node_words, state_words, how_access, access_words, how_suffix, suffix_words, name_words, version_word, head_lines, front_lines, step_part, end_lines, lines_of, spelled_line, spelled, spelled_front}
use Rattle.dcv_automaton_lines.specs.Pieces.{Begins, IsNoFurther, Exactly, Nothing, Followed, Either, IsStuckIn, IsFrontOnly, IsFaultAt}
use Rattle.dcv_automaton_lines.specs.Parts.{NumberWord, rank, closing_word, closing_end, version_at, LineOf, Tail, Last, More, Closed, Words, Named, Counted, Stated, title, Title, Whole, words_then, AccessHow, SuffixHow}
use Rattle.dcv_automaton_lines.specs.Gathered.{PlainLine, OfNode, OfState, OfAccess, OfSuffix, kind_of, line_then, IsLine, added, section_words, IsOpen, HasLines}
use Rattle.dcv_automaton_lines.specs.declared.sections.Kind.{Kind}
use Rattle.dcv_automaton_lines.specs.declared.sections.Kind.TheVariants.{Node, State, Access as AccessKind, Suffix as SuffixKind, Closing}
use Rattle.dcv_automaton_lines.specs.declared.version.Version.{Version}
use Rattle.dcv_automaton_lines.specs.declared.version.Version.TheVariants.{First, Second}
use Rattle.dcv_automaton_lines.proofs.Pieces.{append_none, Leads, stuck_after, fault_after, stuck_is_fault, leads_followed}
use Rattle.dcv_automaton_lines.proofs.WordSets.{number_words, exact_words, stuck_exactly, leads_same}
use Rattle.dcv_automaton_lines.proofs.LineSets.{Some, within, number_of, exactly}
use Rattle.dcv_automaton_lines.proofs.NameSets.{no_longer_names, words_are, the_words}
use Rattle.dcv_automaton_lines.proofs.KindSets.{first_further, second_further, closing_line, some_tail}
use Rattle.dcv_automaton_lines.proofs.StepLines.{alone, closed_of_steps, the_closed}
use Rattle.dcv_automaton_lines.proofs.Gathering.{stops, no_memory, words_spelled, then_back, line_is, line_back, line_more, closed_none, followed_is, access_then, suffix_then, in_turn, grown}

-- ---- how a file is spelled

-- what a file says after its names, and then a rest
abbrev pub behind_names : AutomatonFile → List ℕ → List ℕ
behind_names file rest = codes "states" ++ 32 ∷ (decimal file.states ++ 10 ∷ (flat_map spelled_line (section_words file) ++ rest))

names_some : (names : List (List ℕ)) → 0 < length (name_words names)
names_some [] = omega arith
names_some (name ∷ names) = omega arith

variables_then : (words : List (List ℕ)) → 0 < length words → (rest : List ℕ) → spelled_line (codes "variables" ∷ words) ++ rest ≡ codes "variables" ++ 32 ∷ words_then words rest
variables_then [] some rest = absurd (omega arith)
variables_then (word ∷ words) some rest = words_spelled (codes "variables") (word ∷ words) rest

title_then : (steps : Option StepPart) (names : List (List ℕ)) (rest : List ℕ)
    → spelled_line (codes "automaton" ∷ version_word steps ∷ []) ++ (spelled_line (codes "variables" ∷ name_words names) ++ rest)
    ≡ title (version_at steps) ++ words_then (name_words names) rest
title_then None names rest = ap (λ r. codes "automaton 1\n" ++ r) (variables_then (name_words names) (names_some names) rest)
title_then (SomePart part) names rest = ap (λ r. codes "automaton 2\n" ++ r) (variables_then (name_words names) (names_some names) rest)

three_before : (a b c d rest : List ℕ) → (a ++ (b ++ (c ++ d))) ++ rest ≡ a ++ (b ++ (c ++ (d ++ rest)))
three_before a b c d rest =
    append_assoc a (b ++ (c ++ d)) rest ∙ ap (λ r. a ++ r) (append_assoc b (c ++ d) rest) ∙ ap (λ r. a ++ (b ++ r)) (append_assoc c d rest)

pub front_then : (file : AutomatonFile) (rest : List ℕ)
    → spelled_front file ++ rest ≡ title (version_at file.steps) ++ words_then (name_words file.names) (behind_names file rest)
unfolding spelled_front front_lines
front_then file rest =
    let automaton = spelled_line (codes "automaton" ∷ version_word file.steps ∷ []) in
    let variables = spelled_line (codes "variables" ∷ name_words file.names) in
    let states = spelled_line (codes "states" ∷ decimal file.states ∷ []) in
    let lines = flat_map spelled_line (section_words file) in
    three_before automaton variables states lines rest
    ∙ ap (λ r. automaton ++ (variables ++ r)) (words_spelled (codes "states") (decimal file.states ∷ []) (lines ++ rest)) ∙ title_then file.steps file.names (behind_names file rest)

sections_joined : (file : AutomatonFile) (rest : List (List (List ℕ)))
    → map node_words file.node_lines ++ (map state_words file.state_lines ++ (map access_words file.access_lines ++ (map suffix_words file.suffix_lines ++ rest)))
    ≡ section_words file ++ rest
sections_joined file rest =
    let n = map node_words file.node_lines in
    let s = map state_words file.state_lines in
    let a = map access_words file.access_lines in
    let u = map suffix_words file.suffix_lines in
    ap (λ r. n ++ (s ++ r)) (sym (in_turn a u rest)) ∙ ap (λ r. n ++ r) (sym (in_turn s (a ++ u) rest)) ∙ sym (in_turn n (s ++ (a ++ u)) rest)

-- the lines before the step part, and then the others
pub spelled_is : (file : AutomatonFile) → spelled file ≡ spelled_front file ++ flat_map spelled_line (step_part file.steps ++ end_lines)
unfolding spelled lines_of spelled_front front_lines
spelled_is file =
    let others = step_part file.steps ++ end_lines in
    ap (λ lines. flat_map spelled_line (head_lines file ++ lines)) (sections_joined file others) ∙ flat_map-append spelled_line (head_lines file ++ section_words file) others

-- ---- from a file to its parts

module _ (version : Version) where
  later_tail : (first kind : Kind) → rank first ≤ rank kind → (text : List ℕ) → Tail version kind text → Tail version first text
  later_tail first kind later text (Last _ _ front back last closed whole) = Last first text front back last closed whole
  later_tail first kind later text (More _ other _ front back behind small line tail whole) = More first other text front back (omega arith) small line tail whole

  -- lines of one kind before what follows
  tail_of : {Line : Type 0} (plain : Line → PlainLine) (words : Line → List (List ℕ)) (kind : Kind) → rank kind ≤ 3 → ((line : Line) → kind_of (plain line) ≡ kind)
      → ((line : Line) → spelled_line (words line) ≡ line_then version (plain line) []) → (lines : List Line) → All (λ line. IsLine (plain line)) lines
      → (rest : List ℕ) → Tail version kind rest → Tail version kind (flat_map spelled_line (map words lines) ++ rest)
  tail_of plain words kind small kinds same [] all rest tail = tail
  tail_of plain words kind small kinds same (line ∷ lines) all rest tail =
      let said = spelled_line (words line) in
      let is : LineOf version kind (line_then version (plain line) []) =
      subst (λ (k : Kind). LineOf version k (line_then version (plain line) [])) (kinds line) (line_is version (plain line) (all 0 line (omega arith))) in
      let whole : LineOf version kind said = subst (LineOf version kind) (sym (same line)) is in
      let more = flat_map spelled_line (map words lines) in
      More kind kind ((said ++ more) ++ rest) said (more ++ rest) (omega arith) small whole
      (tail_of plain words kind small kinds same lines (λ k d l. all (suc k) d (omega arith)) rest tail) (append_assoc said more rest)

  in_four : (n s a u : List (List (List ℕ))) (rest : List ℕ)
      → flat_map spelled_line n ++ (flat_map spelled_line s ++ (flat_map spelled_line a ++ (flat_map spelled_line u ++ rest))) ≡ flat_map spelled_line (n ++ (s ++ (a ++ u))) ++ rest
  in_four n s a u rest =
      let f = flat_map spelled_line in
      sym (ap (λ t. t ++ rest) (flat_map-append spelled_line n (s ++ (a ++ u)) ∙ ap (λ r. f n ++ r) (flat_map-append spelled_line s (a ++ u) ∙ ap (λ r. f s ++ r) (flat_map-append spelled_line a u)))
      ∙ three_before (f n) (f s) (f a) (f u) rest)

  tail_is : (file : AutomatonFile) → HasLines file → (back : List ℕ) → Closed version back
      → Tail version Node (flat_map spelled_line (section_words file) ++ (closing_word version ++ closing_end version ∷ back))
  tail_is file has back closed =
      let end = closing_word version ++ closing_end version ∷ back in
      let last : Tail version SuffixKind end =
      Last SuffixKind end (closing_word version ++ closing_end version ∷ []) back (closing_line version) closed (sym (append_assoc (closing_word version) (closing_end version ∷ []) back)) in
      let suffixes = tail_of OfSuffix suffix_words SuffixKind (omega arith) (λ line. refl) (λ line. alone (suffix_words line) (omega arith)) file.suffix_lines has.suffix_lines end last in
      let access = tail_of OfAccess access_words AccessKind (omega arith) (λ line. refl) (λ line. alone (access_words line) (omega arith)) file.access_lines has.access_lines _
      (later_tail AccessKind SuffixKind (omega arith) _ suffixes) in
      let states = tail_of OfState state_words State (omega arith) (λ line. refl) (λ line. alone (state_words line) (omega arith)) file.state_lines has.state_lines _
      (later_tail State AccessKind (omega arith) _ access) in
      let nodes = tail_of OfNode node_words Node (omega arith) (λ line. refl) (λ line. alone (node_words line) (omega arith)) file.node_lines has.node_lines _
      (later_tail Node State (omega arith) _ states) in
      subst (Tail version Node) (in_four (map node_words file.node_lines) (map state_words file.state_lines) (map access_words file.access_lines) (map suffix_words file.suffix_lines) end) nodes

names_words : (names : List (List ℕ)) → All IsNameWord names → All IsNameWord (name_words names)
names_words [] all = λ k d l. alone k d l
  where
    alone : (k : ℕ) (d : List ℕ) → k < 1 → IsNameWord (get_or (codes "-" ∷ []) k d)
    alone zero d l = refl
    alone (suc k) d l = absurd (omega arith)
names_words (name ∷ names) all = all

pub names_text : (names : List (List ℕ)) → All IsNameWord names → Words (words_then (name_words names) [])
names_text names all = words_are (name_words names) (names_words names all) (names_some names)

pub parts_of : (text : List ℕ) (file : AutomatonFile) → HasForm text file → Whole text
parts_of text file form =
    let good = form.spellable in
    let has : HasLines file = record { node_lines = good.node_lines; state_lines = good.state_lines; access_lines = good.access_lines; suffix_lines = good.suffix_lines } in
    let version = version_at file.steps in
    let closed = closed_of_steps file.steps good.steps in
    let rest = closing_word version ++ closing_end version ∷ closed.back in
    let lines = flat_map spelled_line (section_words file) ++ rest in
    record {
      version = version;
      back = words_then (name_words file.names) (behind_names file rest);
      whole = form.spelled ∙ spelled_is file ∙ ap (λ r. spelled_front file ++ r) closed.whole ∙ front_then file rest;
      back_is = record {
        names = words_then (name_words file.names) [];
        back = behind_names file rest;
        names_are = names_text file.names good.names;
        whole = then_back (name_words file.names) (behind_names file rest);
        back_is = record {
          word = codes "states";
          back = decimal file.states ++ 10 ∷ lines;
          word_is = exactly (codes "states");
          whole = refl;
          back_is = record { word = decimal file.states; back = lines; word_is = number_of file.states good.states; whole = refl; back_is = tail_is version file has closed.back closed.back_is };
        };
      };
    }

-- ---- from the parts to a file

-- a line of a kind
record TheLine (version : Version) (kind : Kind) (text : List ℕ) : Type 0 where
  line : PlainLine
  kinds : kind_of line ≡ kind
  is : IsLine line
  whole : text ≡ line_then version line []

record TheAccess (text : List ℕ) : Type 0 where
  access : Access
  is : IsAccess access
  whole : text ≡ words_then (how_access access) []

record TheSuffix (text : List ℕ) : Type 0 where
  suffix : Suffix
  is : IsSuffix suffix
  whole : text ≡ words_then (how_suffix suffix) []

the_access : (text : List ℕ) → AccessHow text → TheAccess text
the_access text how =
    elim how.which [
      | inl none ↦ record { access = EmptyAccess; is = tt; whole = followed_is none (codes "empty") [] none.word_is.is none.back_is.is }
      | inr some ↦ elim some.which [
        | inl start ↦ record {
          access = StartAccess start.back_is.word_is.letter;
          is = tt;
          whole =
              followed_is start (codes "start") _ start.word_is.is (followed_is start.back_is (trace_line start.back_is.word_is.letter) [] start.back_is.word_is.is start.back_is.back_is.is);
        }
        | inr after ↦ record {
          access = AfterAccess after.word_is.number after.back_is.word_is.letter;
          is = after.word_is.small;
          whole =
              followed_is after (decimal after.word_is.number) _ after.word_is.is
              (followed_is after.back_is (trace_line after.back_is.word_is.letter) [] after.back_is.word_is.is after.back_is.back_is.is);
        }
      ]
    ]

the_suffix : (text : List ℕ) → SuffixHow text → TheSuffix text
the_suffix text how =
    elim how.which [
      | inl none ↦ record { suffix = EmptySuffix; is = tt; whole = followed_is none (codes "empty") [] none.word_is.is none.back_is.is }
      | inr some ↦ record {
        suffix = ThenSuffix some.word_is.letter some.back_is.word_is.number;
        is = some.back_is.word_is.small;
        whole =
            followed_is some (trace_line some.word_is.letter) _ some.word_is.is
            (followed_is some.back_is (decimal some.back_is.word_is.number) [] some.back_is.word_is.is some.back_is.back_is.is);
      }
    ]

the_line : (version : Version) (kind : Kind) → rank kind ≤ 3 → (text : List ℕ) → LineOf version kind text → TheLine version kind text
the_line version Node small text line =
    let a = line.body_is in
    let b = a.back_is in
    let c = b.back_is in
    let d = c.back_is in
    let e = d.back_is in
    let f = e.back_is in
    let plain : NodeLine = record { number = a.word_is.number; name = b.word; hi = d.word_is.target; lo = f.word_is.target } in
    record {
      line = OfNode plain;
      kinds = refl;
      is = record { number = a.word_is.small; name = b.word_is.is; hi = d.word_is.small; lo = f.word_is.small };
      whole = line.whole ∙ ap (λ r. codes "node" ++ 32 ∷ r)
          (followed_is a _ _ a.word_is.is (followed_is b b.word _ refl (followed_is c (codes "?") _ c.word_is.is (followed_is d _ _ d.word_is.is (followed_is e (codes ":") _ e.word_is.is
          (followed_is f _ [] f.word_is.is f.back_is.is))))));
    }
the_line version State small text line =
    let a = line.body_is in
    let b = a.back_is in
    let c = b.back_is in
    let plain : StateLine = record { number = a.word_is.number; accepting = b.word_is.accepting; row = c.word_is.target } in
    record {
      line = OfState plain;
      kinds = refl;
      is = record { number = a.word_is.small; row = c.word_is.small };
      whole = line.whole ∙ ap (λ r. codes "state" ++ 32 ∷ r) (followed_is a _ _ a.word_is.is (followed_is b _ _ b.word_is.is (followed_is c _ [] c.word_is.is c.back_is.is)));
    }
the_line version AccessKind small text line =
    let a = line.body_is in
    let how = the_access a.back a.back_is in
    let plain : AccessLine = record { number = a.word_is.number; access = how.access } in
    record {
      line = OfAccess plain;
      kinds = refl;
      is = record { number = a.word_is.small; access = how.is };
      whole = line.whole ∙ ap (λ r. codes "access" ++ 32 ∷ r) (followed_is a (decimal a.word_is.number) (words_then (how_access how.access) []) a.word_is.is how.whole ∙ sym (access_then a.word_is.number how.access));
    }
the_line version SuffixKind small text line =
    let a = line.body_is in
    let how = the_suffix a.back a.back_is in
    let plain : SuffixLine = record { number = a.word_is.number; suffix = how.suffix } in
    record {
      line = OfSuffix plain;
      kinds = refl;
      is = record { number = a.word_is.small; suffix = how.is };
      whole = line.whole ∙ ap (λ r. codes "suffix" ++ 32 ∷ r) (followed_is a (decimal a.word_is.number) (words_then (how_suffix how.suffix) []) a.word_is.is how.whole ∙ sym (suffix_then a.word_is.number how.suffix));
    }
the_line version Closing small text line = absurd (omega arith)

-- what a file becomes by the lines of a text
record Completed (version : Version) (file : AutomatonFile) (text : List ℕ) : Type 0 where
  new : AutomatonFile
  names : new.names ≡ file.names
  states : new.states ≡ file.states
  form : HasLines new
  back : List ℕ
  closed : Closed version back
  whole : flat_map spelled_line (section_words file) ++ text ≡ flat_map spelled_line (section_words new) ++ (closing_word version ++ closing_end version ∷ back)

completed : (version : Version) (first : Kind) (text : List ℕ) → Tail version first text → (file : AutomatonFile) → IsOpen first file → HasLines file → Completed version file text
completed version first text (Last _ _ front back last closed whole) file begun has =
    record {
      new = file;
      names = refl;
      states = refl;
      form = has;
      back = back;
      closed = closed;
      whole = ap (λ t. flat_map spelled_line (section_words file) ++ t) (whole ∙ ap (λ f. f ++ back) (last.whole ∙ ap (λ b. closing_word version ++ closing_end version ∷ b) last.body_is.is)
          ∙ append_assoc (closing_word version) (closing_end version ∷ []) back);
    }
completed version first text (More _ kind _ front back later kind_small line tail whole) file begun has =
    let the = the_line version kind kind_small front line in
    let rest_later : rank first ≤ rank (kind_of the.line) = subst (λ (k : Kind). rank first ≤ rank k) (sym the.kinds) later in
    let line_small : rank (kind_of the.line) ≤ 3 = subst (λ (k : Kind). rank k ≤ 3) (sym the.kinds) kind_small in
    let grow = grown first file begun has the.line rest_later the.is in
    let more = completed version kind back tail (added file the.line) (subst (λ (k : Kind). IsOpen k (added file the.line)) the.kinds grow.open_on) grow.lines in
    record {
      new = more.new;
      names = more.names ∙ grow.names;
      states = more.states ∙ grow.states;
      form = more.form;
      back = more.back;
      closed = more.closed;
      whole = ap (λ t. flat_map spelled_line (section_words file) ++ t) (whole ∙ ap (λ f. f ++ back) the.whole ∙ sym (line_back version the.line back))
          ∙ line_more version (section_words file) the.line back
          ∙ (λ i. flat_map spelled_line (sym grow.words i) ++ closed_none version (kind_of the.line) line_small back i) ∙ more.whole;
    }

-- ---- names

record TheNames (words : List (List ℕ)) : Type 0 where
  names : List (List ℕ)
  form : All IsNameWord names
  not_a_dash : names ≢ codes "-" ∷ []
  same : name_words names ≡ words

the_names : (words : List (List ℕ)) → 0 < length words → All IsNameWord words → TheNames words
the_names [] some all = absurd (omega arith)
the_names (word ∷ next ∷ words) some all =
    record { names = word ∷ next ∷ words; form = all; not_a_dash = λ same. let sizes : suc (suc (length words)) ≡ 1 = ap length same in omega arith; same = refl }
the_names (word ∷ []) some all = elim (dash_or_not word) [
  | inl dash ↦ record { names = []; form = λ k d l. absurd (omega arith); not_a_dash = λ same. let sizes : ◌≡◌ {A = ℕ} 0 1 = ap length same in omega arith; same = λ i. sym dash i ∷ [] }
  | inr other ↦ record { names = word ∷ []; form = all; not_a_dash = λ same. other (ap (λ w. get_or w 0 []) same); same = refl }
]
  where
    dash_or_not : (word : List ℕ) → (word ≡ codes "-") ⊎ (word ≡ codes "-" → ⊥)
    dash_or_not [] = inr (λ same. let wrong : [] ≡ codes "-" = same in cc)
    dash_or_not (b ∷ c ∷ word) = inr (λ same. let sizes : suc (suc (length word)) ≡ 1 = ap length same in omega arith)
    dash_or_not (b ∷ []) = elim (cases_eq b 45) [ inl dash ↦ inl (λ i. dash i ∷ []) | inr other ↦ inr (λ same. other (ap (λ w. get_or w 0 0) same)) ]

-- ---- a file of the parts

record Filed (text : List ℕ) : Type 0 where
  file : AutomatonFile
  form : HasForm text file

no_file : List (List ℕ) → ℕ → AutomatonFile
no_file names states = record { names = names; states = states; node_lines = []; state_lines = []; access_lines = []; suffix_lines = []; steps = None }

no_lines : (names : List (List ℕ)) (states : ℕ) → HasLines (no_file names states)
unfolding no_file
no_lines names states =
    record { node_lines = λ k d l. absurd (omega arith); state_lines = λ k d l. absurd (omega arith); access_lines = λ k d l. absurd (omega arith); suffix_lines = λ k d l. absurd (omega arith) }

filed : (text : List ℕ) → Whole text → Filed text
unfolding no_file
filed text parts =
    let named = parts.back_is in
    let stated = named.back_is in
    let counted = stated.back_is in
    let number = counted.word_is in
    let words = the_words named.names named.names_are in
    let the = the_names words.words words.some words.each in
    let all = completed parts.version Node counted.back counted.back_is (no_file the.names number.number)
    (record { no_states = λ low. refl; no_access = λ low. refl; no_suffixes = λ low. refl }) (no_lines the.names number.number) in
    let closed = the_closed parts.version all.back all.closed in
    let file : AutomatonFile = record all.new { steps = closed.steps } in
    let rest = flat_map spelled_line (step_part closed.steps ++ end_lines) in
    let lines : counted.back ≡ flat_map spelled_line (section_words file) ++ rest = all.whole ∙ ap (λ r. flat_map spelled_line (section_words all.new) ++ r) closed.whole in
    record {
      file = file;
      form = record {
        spellable = record {
          names = subst (All IsNameWord) (sym all.names) the.form;
          not_a_dash = λ same. the.not_a_dash (sym all.names ∙ same);
          states = subst IsNumber (sym all.states) number.small;
          node_lines = all.form.node_lines;
          state_lines = all.form.state_lines;
          access_lines = all.form.access_lines;
          suffix_lines = all.form.suffix_lines;
          steps = closed.is;
        };
        spelled = parts.whole ∙ (λ i. title (sym closed.versions i) ++ (named.whole ∙ words.whole named.back ∙ ap (λ w. words_then w named.back) (sym the.same)
            ∙ (λ i. words_then (name_words (sym all.names i)) named.back)
            ∙ ap (words_then (name_words file.names)) (followed_is stated (codes "states") _ stated.word_is.is
            (followed_is counted (decimal file.states) _ (number.is ∙ ap decimal (sym all.states)) lines))) i)
            ∙ sym (front_then file rest) ∙ sym (spelled_is file);
      };
    }

-- ---- faults

not_same_byte : ◌≡◌ {A = ℕ} 49 50 → ⊥
not_same_byte same = omega arith

title_same : (a b : Version) (rest other : List ℕ) → title a ++ rest ≡ title b ++ other → a ≡ b
title_same First First rest other same = refl
title_same Second Second rest other same = refl
title_same First Second rest other same = absurd (not_same_byte (ap (λ t. get_or t 10 0) same))
title_same Second First rest other same = absurd (not_same_byte (sym (ap (λ t. get_or t 10 0) same)))

pub leads_title : (version : Version) → Leads Whole (title version) (Named (Stated version))
leads_title version =
    record {
      into = λ rest named. record { version = version; back = rest; back_is = named; whole = refl };
      from = λ text more rest parts same.
          let one = title_same parts.version version (parts.back ++ more) rest (sym (append_assoc (title parts.version) parts.back more) ∙ ap (λ t. t ++ more) (sym parts.whole) ∙ same) in
          (parts.back, (subst (λ (v : Version). Named (Stated v) parts.back) one parts.back_is, parts.whole ∙ ap (λ v. title v ++ parts.back) one));
    }

pub leads_named : (version : Version) (names : List ℕ) → Words names → Leads (Named (Stated version)) names (Stated version)
leads_named version names are =
    record {
      into = λ rest stated. record { names = names; back = rest; names_are = are; back_is = stated; whole = refl };
      from = λ text more rest parts same.
          let one = no_longer_names.same parts.names names (parts.back ++ more) rest parts.names_are are
          (sym (append_assoc parts.names parts.back more) ∙ ap (λ t. t ++ more) (sym parts.whole) ∙ same) in
          (parts.back, (parts.back_is, parts.whole ∙ ap (λ n. n ++ parts.back) one));
    }

-- the text begins a text of the form up to what is left of it, and no further
pub syntax_fault : (text left : List ℕ) → IsFaultAt Whole text left → (length left ≤ length text) × IsSyntaxFault text (length text - length left)
syntax_fault text left fault =
    let sizes : length text ≡ length (fault.front ++ left) = ap length fault.cut in
    let parts = length-append fault.front left in
    let at : length text - length left ≡ length fault.front = omega arith in
    (omega arith, subst (IsSyntaxFault text) (sym at) (at_front left fault.cut fault.fault))
  where
    viable_of : (t : List ℕ) → IsViable t → Begins Whole t
    viable_of t is = record { more = is.more; member = parts_of (t ++ is.more) is.file is.form }

    of_viable : (t : List ℕ) → Begins Whole t → IsViable t
    of_viable t is = let f = filed (t ++ is.more) is.member in record { more = is.more; file = f.file; form = f.form }

    taken : (left : List ℕ) → text ≡ fault.front ++ left → take (length fault.front) text ≡ fault.front
    taken left cut = ap (take (length fault.front)) cut ∙ take_at fault.front left (length fault.front) refl

    at_front : (left : List ℕ) → text ≡ fault.front ++ left → IsFrontOnly Whole fault.front left → IsSyntaxFault text (length fault.front)
    at_front [] cut none =
        let same : text ≡ fault.front = cut ∙ append_none fault.front in
        record {
          viable = subst IsViable (sym (taken [] cut)) (of_viable fault.front fault.viable);
          fault = inr (ap length (sym same), λ file form. none (parts_of fault.front file (subst (λ (t : List ℕ). HasForm t file) same form)));
        }
    at_front (b ∷ left) cut none =
        let sizes : length text ≡ length (fault.front ++ b ∷ left) = ap length cut in
        let parts = length-append fault.front (b ∷ left) in
        let one = length-append fault.front (b ∷ []) in
        let next : take (length fault.front + 1) text ≡ fault.front ++ b ∷ [] =
        ap (take (length fault.front + 1)) (cut ∙ sym (append_assoc fault.front (b ∷ []) left)) ∙ take_at (fault.front ++ b ∷ []) left (length fault.front + 1) (omega arith) in
        record {
          viable = subst IsViable (sym (taken (b ∷ left) cut)) (of_viable fault.front fault.viable);
          fault = inl (
            omega arith,
            λ viable. let begins = viable_of (fault.front ++ b ∷ []) (subst IsViable next viable) in
                none begins.more (subst Whole (append_assoc fault.front (b ∷ []) begins.more) begins.member),
          );
        }

-- ---- stuck in the head

pub leads_titles : Leads Title [] (Either (Exactly (title First)) (Exactly (title Second)))
leads_titles =
    leads_same
    (λ text is. elim is.which [ inl one ↦ record { version = First; whole = one.is } | inr two ↦ record { version = Second; whole = two.is } ])
    (λ text is. by is.version is.whole)
  where
    by : {text : List ℕ} (version : Version) → text ≡ title version → Either (Exactly (title First)) (Exactly (title Second)) text
    by First whole = record { which = inl (record { is = whole }) }
    by Second whole = record { which = inr (record { is = whole }) }

pub stuck_in_first_title : {text left other : List ℕ} → IsStuckIn (Exactly (title First)) text left → IsStuckIn (Exactly (title Second)) text other → length left ≤ length other
    → IsStuckIn Title text left
stuck_in_first_title one two shorter = stuck_after leads_titles refl (first_further one two shorter)

pub stuck_in_second_title : {text left other : List ℕ} → IsStuckIn (Exactly (title First)) text other → IsStuckIn (Exactly (title Second)) text left → length left ≤ length other
    → IsStuckIn Title text left
stuck_in_second_title one two shorter = stuck_after leads_titles refl (second_further one two shorter)

module _ (version : Version) where
  some_counted : Some (Counted version)
  some_counted =
      let rest = some_tail version Node in
      record { text = decimal 0 ++ 10 ∷ rest.text; is = record { word = decimal 0; back = rest.text; word_is = number_of 0 (omega arith); back_is = rest.is; whole = refl } }

  some_stated : Some (Stated version)
  some_stated =
      record { text = codes "states" ++ 32 ∷ some_counted.text; is = record { word = codes "states"; back = some_counted.text; word_is = exactly (codes "states"); back_is = some_counted.is; whole = refl } }

  some_named : Some (Named (Stated version))
  some_named =
      record { text = codes "-\n" ++ some_stated.text; is = record { names = codes "-\n"; back = some_stated.text; names_are = names_text [] (λ k d l. absurd (omega arith)); back_is = some_stated.is; whole = refl } }

none_in_title : (front left : List ℕ) → IsNoFurther Title front left → IsNoFurther Whole front left
none_in_title front [] none = λ text more parts same.
    none (title parts.version) (parts.back ++ more) (record { version = parts.version; whole = refl })
    (sym (append_assoc (title parts.version) parts.back more) ∙ ap (λ t. t ++ more) (sym parts.whole) ∙ same)
none_in_title front (b ∷ left) none = λ text more other parts same.
    none (title parts.version) (parts.back ++ more) other (record { version = parts.version; whole = refl })
    (sym (append_assoc (title parts.version) parts.back more) ∙ ap (λ t. t ++ more) (sym parts.whole) ∙ same)

pub fault_in_title : (text left : List ℕ) → IsStuckIn Title text left → IsFaultAt Whole text left
fault_in_title text left stuck =
    let begun = stuck.viable.member in
    let some = some_named begun.version in
    stuck_is_fault (record {
      front = stuck.front;
      cut = stuck.cut;
      viable = record {
        more = stuck.viable.more ++ some.text;
        member = record {
          version = begun.version;
          back = some.text;
          back_is = some.is;
          whole = sym (append_assoc stuck.front stuck.viable.more some.text) ∙ ap (λ t. t ++ some.text) begun.whole;
        };
      };
      stuck = none_in_title stuck.front left stuck.stuck;
    })

module _ (version : Version) where
  none_in_names : (front left : List ℕ) → IsNoFurther Words front left → IsNoFurther (Named (Stated version)) front left
  none_in_names front [] none = λ text more parts same.
      none parts.names (parts.back ++ more) parts.names_are (sym (append_assoc parts.names parts.back more) ∙ ap (λ t. t ++ more) (sym parts.whole) ∙ same)
  none_in_names front (b ∷ left) none = λ text more other parts same.
      none parts.names (parts.back ++ more) other parts.names_are (sym (append_assoc parts.names parts.back more) ∙ ap (λ t. t ++ more) (sym parts.whole) ∙ same)

  stuck_in_names : (text left : List ℕ) → IsStuckIn Words text left → IsStuckIn (Named (Stated version)) text left
  stuck_in_names text left stuck =
      let some = some_stated version in
      record {
        front = stuck.front;
        cut = stuck.cut;
        viable = record {
          more = stuck.viable.more ++ some.text;
          member = record {
            names = stuck.front ++ stuck.viable.more;
            back = some.text;
            names_are = stuck.viable.member;
            back_is = some.is;
            whole = sym (append_assoc stuck.front stuck.viable.more some.text);
          };
        };
        stuck = none_in_names stuck.front left stuck.stuck;
      }

  pub fault_in_names : (text named left : List ℕ) → text ≡ title version ++ named → IsStuckIn Words named left → IsFaultAt Whole text left
  fault_in_names text named left is stuck = fault_after (leads_title version) is (stuck_is_fault (stuck_in_names named left stuck))

-- after the names
module _ (version : Version) (text named stated : List ℕ) (names : List (List ℕ)) (is : text ≡ title version ++ named) (form : All IsNameWord names) (listed : named ≡ words_then (name_words names) stated) where
  pub fault_behind_names : (left : List ℕ) → IsFaultAt (Stated version) stated left → IsFaultAt Whole text left
  fault_behind_names left fault =
      fault_after (leads_title version) is
      (fault_after (leads_named version (words_then (name_words names) []) (names_text names form)) (listed ∙ then_back (name_words names) stated) fault)

  pub fault_in_states : (left : List ℕ) → IsStuckIn (Exactly (codes "states ")) stated left → IsFaultAt Whole text left
  fault_in_states left stuck = fault_behind_names left (stuck_is_fault (within (some_counted version) (stuck_exactly (codes "states ") (codes "states") 32 refl stuck)))

  pub fault_behind_states : (counted left : List ℕ) → stated ≡ codes "states " ++ counted → IsFaultAt (Counted version) counted left → IsFaultAt Whole text left
  fault_behind_states counted left after fault =
      fault_behind_names left (fault_after (leads_followed (exact_words (codes "states") refl) 32 refl (codes "states") (exactly (codes "states"))) after fault)

  pub fault_in_number : (counted left : List ℕ) → stated ≡ codes "states " ++ counted → IsStuckIn (Followed NumberWord 10 Nothing) counted left → IsFaultAt Whole text left
  fault_in_number counted left after stuck = fault_behind_states counted left after (stuck_is_fault (within (some_tail version Node) stuck))

  pub fault_behind_number : (counted rest : List ℕ) (states : ℕ) → IsNumber states → stated ≡ codes "states " ++ counted → counted ≡ decimal states ++ 10 ∷ rest
      → (left : List ℕ) → IsFaultAt (Tail version Node) rest left → IsFaultAt Whole text left
  fault_behind_number counted rest states small after number left fault =
      fault_behind_states counted left after (fault_after (leads_followed number_words 10 refl (decimal states) (number_of states small))
      (number ∙ sym (append_assoc (decimal states) (10 ∷ []) rest)) fault)

  -- what stands before the step part of what was read
  pub front_is : (counted rest back : List ℕ) (file : AutomatonFile) → stated ≡ codes "states " ++ counted → counted ≡ decimal file.states ++ 10 ∷ rest → names ≡ file.names
      → rest ≡ flat_map spelled_line (section_words file) ++ back → version_at file.steps ≡ version → text ≡ spelled_front file ++ back
  front_is counted rest back file after number same spelled_on versions =
      is ∙ (λ i. title (sym versions i) ++ (listed ∙ (λ i. words_then (name_words (same i)) stated) ∙ ap (words_then (name_words file.names))
      (after ∙ ap (λ t. codes "states " ++ t) (number ∙ ap (λ t. decimal file.states ++ 10 ∷ t) spelled_on))) i) ∙ sym (front_then file back)

  pub before_is : (counted rest back closing : List ℕ) (file : AutomatonFile) → stated ≡ codes "states " ++ counted → counted ≡ decimal file.states ++ 10 ∷ rest → names ≡ file.names
      → rest ≡ flat_map spelled_line (section_words file) ++ (closing_word version ++ closing_end version ∷ back) → closing ≡ closing_word version ++ closing_end version ∷ []
      → version_at file.steps ≡ version → text ≡ spelled_front file ++ (closing ++ back)
  before_is counted rest back closing file after number same spelled_on closes versions =
      front_is counted rest (closing_word version ++ closing_end version ∷ back) file after number same spelled_on versions
      ∙ ap (λ c. spelled_front file ++ c) (sym (ap (λ c. c ++ back) closes ∙ append_assoc (closing_word version) (closing_end version ∷ []) back))

  -- the file of what was read
  pub form_is : (counted rest back : List ℕ) (file : AutomatonFile) → IsNumber file.states → stated ≡ codes "states " ++ counted → counted ≡ decimal file.states ++ 10 ∷ rest
      → names ≡ file.names → file.names ≢ codes "-" ∷ [] → HasLines file → IfSome file.steps IsStepPart
      → rest ≡ flat_map spelled_line (section_words file) ++ (closing_word version ++ closing_end version ∷ back) → version_at file.steps ≡ version
      → closing_word version ++ closing_end version ∷ back ≡ flat_map spelled_line (step_part file.steps ++ end_lines) → HasForm text file
  form_is counted rest back file small after number same not_a_dash has steps spelled_on versions closed =
      record {
        spellable = record {
          names = subst (All IsNameWord) same form;
          not_a_dash = not_a_dash;
          states = small;
          node_lines = has.node_lines;
          state_lines = has.state_lines;
          access_lines = has.access_lines;
          suffix_lines = has.suffix_lines;
          steps = steps;
        };
        spelled = front_is counted rest (closing_word version ++ closing_end version ∷ back) file after number same spelled_on versions ∙ ap (λ r. spelled_front file ++ r) closed
            ∙ sym (spelled_is file);
      }

-- there is room for the word that closes the sections, whatever steps stand after it
abbrev pub some_steps : Version → Option StepPart
some_steps First = None
some_steps Second = SomePart (record { count = 0; lines = [] })

pub some_version : (version : Version) → version_at (some_steps version) ≡ version
some_version First = refl
some_version Second = refl

pub room_is : (text front closing back : List ℕ) → text ≡ front ++ (closing ++ back) → length closing + length back ≤ length text
room_is text front closing back same =
    let sizes : length text ≡ length (front ++ (closing ++ back)) = ap length same in
    let parts = length-append front (closing ++ back) in
    let others = length-append closing back in
    omega arith

-- ---- exits

pub stuck_passes : {T : Type 0} (P Q : List ℕ → Type 0) (text rest : List ℕ) (result : Result T Stop) (stop : Stop) → IsErrAnd result (λ e. e ≡ stop)
    → ((left : List ℕ) → IsStuckIn Q rest left → IsFaultAt P text left) → IsStuckBy Q rest stop → IsStopAt P text result
stuck_passes P Q text rest result (Syntax stuck) is over here = stops P text result stuck is (over stuck.left.now here)
stuck_passes P Q text rest result Memory is over here = no_memory P text result is
