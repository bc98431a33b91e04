-- What is put of the lines of an automaton, one more at a time.
use Rattle.std.proofs.Common.{◌≡◌, ℕ, ◌+◌, ◌<◌, Bool, true, false, ◌||◌, if◌then◌else◌, cond, List, [], ◌∷◌, ◌++◌, length, map, take, get_or, refl, sym, ap, ◌∙◌, arith}
use Rattle.std.specs.List.{range_with_len, enumerate_from, flat_map, join_by}
use Rattle.std.proofs.lemmas.Grind.{flat_map-append}
use Rattle.std.proofs.lemmas.List.{append_assoc, append-nil, map_push}
use Rattle.std.proofs.lemmas.List.Folds.{flat_map-map}
use Rattle.dcv_dfa.specs.declared.node_lines.NodeLine.{NodeLine as CodeLine}
use Rattle.dcv_automaton_text.specs.File.{NodeLine}
use Rattle.dcv_automaton_file.specs.File.{node_line}
use Rattle.dcv_automaton_file.specs.declared.lines.Listing.{Listing}
use Rattle.dcv_automaton_file.specs.Lines.{in_turn, one_listed, listed_by, listed}
use Rattle.dcv_automaton_file.proofs.Rows.{range_more, numbered_more}

-- one number more
pub number_more : (f : ℕ → List ℕ) (k : ℕ) → flat_map f (range_with_len 0 (k + 1)) ≡ flat_map f (range_with_len 0 k) ++ f k
number_more f k =
    ap (flat_map f) (range_more 0 k) ∙ flat_map-append f (range_with_len 0 k) ((0 + k) ∷ [])
    ∙ ap (λ last. flat_map f (range_with_len 0 k) ++ last) (append-nil (f (0 + k)))
    ∙ (let here : 0 + k ≡ k = omega arith in ap (λ n. flat_map f (range_with_len 0 k) ++ f n) here)

-- the lines of what has numbers
abbrev pub lines_text : {X Y : Type 0} → (Y → List ℕ) → (ℕ × X → Y) → List X → List ℕ
lines_text f line xs = flat_map f (map line (enumerate_from 0 xs))

pub line_more : {X Y : Type 0} (f : Y → List ℕ) (line : ℕ × X → Y) (xs : List X) (k : ℕ) (d : X) → k < length xs
    → lines_text f line (take (k + 1) xs) ≡ lines_text f line (take k xs) ++ f (line (k, get_or xs k d))
line_more f line xs k d within =
    let before = enumerate_from 0 (take k xs) in
    let x = get_or xs k d in
    ap (λ ns. flat_map f (map line ns)) (numbered_more xs k d within)
    ∙ ap (flat_map f) (map_push line before (k, x))
    ∙ flat_map-append f (map line before) (line (k, x) ∷ [])
    ∙ ap (λ last. lines_text f line (take k xs) ++ last) (append-nil (f (line (k, x))))

-- ---- lists with something between every two

abbrev pub has_some : {X : Type 0} → List X → Bool
has_some [] = false
has_some (x ∷ xs) = true

pub some_further : (texts : List (List ℕ)) (more some : Bool) (text : List ℕ) → some ≡ has_some texts → (more || some) ≡ has_some (texts ++ cond more (text ∷ []) [])
some_further texts true some text is = there texts
  where
    there : (texts : List (List ℕ)) → true ≡ has_some (texts ++ text ∷ [])
    there [] = refl
    there (first ∷ texts) = refl
some_further texts false some text is = is ∙ ap has_some (sym (append-nil texts))

module _ (listing : Listing) where
  abbrev pub joined : List (List ℕ) → List ℕ
  joined texts = join_by (one_listed listing) listing.between.now texts

  -- a text after others
  text_more : (texts : List (List ℕ)) (text : List ℕ)
      → joined (texts ++ text ∷ []) ≡ joined texts ++ ((if has_some texts then listing.between.now else []) ++ one_listed listing text)
  text_more [] text = append-nil (one_listed listing text)
  text_more (first ∷ texts) text =
      let after = λ (text : List ℕ). listing.between.now ++ one_listed listing text in
      ap (λ more. one_listed listing first ++ more)
      (flat_map-append after texts (text ∷ []) ∙ ap (λ last. flat_map after texts ++ last) (append-nil (after text)))
      ∙ sym (append_assoc (one_listed listing first) (flat_map after texts) (after text))

  -- a text after others, if it is there
  pub texts_further : (texts : List (List ℕ)) (more some : Bool) (text : List ℕ) → some ≡ has_some texts
      → joined (texts ++ cond more (text ∷ []) [])
      ≡ joined texts ++ (if more then (if some then listing.between.now else []) ++ one_listed listing text else [])
  texts_further texts true some text is =
      text_more texts text ∙ ap (λ b. joined texts ++ ((if b then listing.between.now else []) ++ one_listed listing text)) (sym is)
  texts_further texts false some text is = ap joined (append-nil texts) ∙ sym (append-nil (joined texts))

  pub texts_end : (texts : List (List ℕ)) (some : Bool) → some ≡ has_some texts → joined texts ++ (if some then [] else in_turn listing.none.now) ≡ listed listing texts
  texts_end [] some is = ap (λ b. if b then [] else in_turn listing.none.now) is
  texts_end (text ∷ texts) some is = ap (λ b. joined (text ∷ texts) ++ (if b then [] else in_turn listing.none.now)) is ∙ append-nil (joined (text ∷ texts))

-- ---- the same lines in other words

-- of a list of texts that is not empty
pub listed_names : {Y : Type 0} (before after between none : List ℕ) (see : List ℕ → Y) (f : Y → List ℕ) → ((text : List ℕ) → before ++ (text ++ after) ≡ f (see text))
    → (text : List ℕ) (texts : List (List ℕ)) → listed_by before after between none (text ∷ texts) ≡ join_by f between (map see (text ∷ texts))
listed_names before after between none see f one text texts =
    (λ i. one text i ++ flat_map (λ text. between ++ one text i) texts)
    ∙ ap (λ more. f (see text) ++ more) (sym (flat_map-map (λ y. between ++ f y) see texts))

pub listed_seen : {X Y : Type 0} (before after between none : List ℕ) (text : X → List ℕ) (see : X → Y) (f : Y → List ℕ)
    → ((x : X) → before ++ (text x ++ after) ≡ f (see x)) → (x : X) (xs : List X)
    → listed_by before after between none (map text (x ∷ xs)) ≡ join_by f between (map see (x ∷ xs))
listed_seen before after between none text see f one x xs =
    ap (λ more. (before ++ (text x ++ after)) ++ more) (flat_map-map (λ text. between ++ (before ++ (text ++ after))) text xs)
    ∙ (λ i. one x i ++ flat_map (λ x. between ++ one x i) xs)
    ∙ ap (λ more. f (see x) ++ more) (sym (flat_map-map (λ y. between ++ f y) see xs))

pub lines_seen : {X Y : Type 0} (f : X → List ℕ) (see : X → Y) (g : Y → List ℕ) → ((x : X) → f x ≡ g (see x)) → (xs : List X) → flat_map f xs ≡ flat_map g (map see xs)
lines_seen f see g one xs = (λ i. flat_map (λ x. one x i) xs) ∙ sym (flat_map-map g see xs)

-- the numbers of nodes are those of their lines
pub numbers_seen : (f : ℕ → List ℕ) (names : List (List ℕ)) (first : ℕ) (lines : List CodeLine)
    → flat_map f (range_with_len first (length lines)) ≡ flat_map (λ (line : NodeLine). f line.number) (map (node_line names) (enumerate_from first lines))
numbers_seen f names first [] = refl
numbers_seen f names first (line ∷ lines) = ap (λ more. f first ++ more) (numbers_seen f names (first + 1) lines)
