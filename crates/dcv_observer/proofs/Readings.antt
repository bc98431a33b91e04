-- Each text has one fault, or is read as a tree of its subset.
--     one_part           a text stands for one part at most
--     IsSubset subset    what is needed of a subset
--     one_fault, some_reading, no_fault_where_read
use Rattle.std.proofs.Common.{◌≡◌, ℕ, Bool, true, false, not, find, ◌⊎◌, List, [], ◌∷◌, length, map, Option, Some, None, inl, inr, refl, sym, ap, ◌∙◌, subst, arith}
use Rattle.std.specs.Prelude.{option_map}
use Rattle.std.specs.List.{list_all, zip}
use Rattle.std.proofs.lemmas.Bool.{false≢true}
use Rattle.dcv_grammar.specs.declared.grammar.Symbol.TheVariants.{Rule}
use Rattle.dcv_grammar.specs.Grammar.{IsSentence}
use Rattle.dcv_grammar.specs.Predictive.{IsPredictive}
use Rattle.dcv_grammar.specs.Trees.{Nodes, AreTrees, IsTree}
use Rattle.dcv_grammar.proofs.SentenceTrees as laws
use Rattle.dcv_grammar.proofs.TreeLaws.{derives_leaves, trees_derived}
use Rattle.dcv_lexer.specs.Cuts.{Token}
use Rattle.dcv_observer.specs.declared.fault.ObsFault.{ObsFault}
use Rattle.dcv_observer.specs.declared.fault.ObsFault.TheVariants.{Syntax, Names, Memory}
use Rattle.dcv_observer.specs.Items.{token_class, IsSentenceText, IsSyntaxFault, IsSyntaxVerdict}
use Rattle.dcv_observer.specs.Scheme.{Scheme, parts_of, StandsFor}
use Rattle.dcv_observer.specs.Subsets.{Subset, first_broken, IsWellNamed, Spells, HasFault, IsReadAs}
use Rattle.dcv_observer.proofs.Cutting.{one_list}
use Rattle.dcv_observer.proofs.Faults.{some_found, one_found}

-- ---- what a text stands for

module _ {Part : Type 0} (scheme : Scheme Part) where
  -- a text that stands for a part is a sentence
  sentence : (text : List ℕ) (part : Part) → StandsFor scheme text part → IsSentenceText scheme.lexicon scheme.grammar text
  sentence text part stands = (
    stands.items,
    stands.has,
    subst (λ items. IsSentence scheme.grammar (map (token_class scheme.lexicon) items)) stands.is.whole
        (derives_leaves scheme.grammar (token_class scheme.lexicon) _ stands.tree stands.is.derived),
  )

  pub one_part : IsPredictive scheme.grammar → (text : List ℕ) (part other : Part) → StandsFor scheme text part → StandsFor scheme text other → part ≡ other
  one_part predictive text part other stands also =
      let same : stands.items ≡ also.items = one_list scheme.lexicon text stands.items also.items stands.has also.has in
      let second : IsTree scheme.grammar (token_class scheme.lexicon) stands.items also.tree =
      subst (λ items. IsTree scheme.grammar (token_class scheme.lexicon) items also.tree) (sym same) also.is in
      let tree : stands.tree ≡ also.tree = laws.one_tree scheme.grammar (token_class scheme.lexicon) predictive stands.items stands.tree also.tree stands.is second in
      let both : part ∷ [] ≡ other ∷ [] = sym stands.stands ∙ ap (parts_of scheme) tree ∙ also.stands in
      cc

  -- so it has no syntax fault
  no_syntax_fault : (text : List ℕ) (part : Part) (at : ℕ) → StandsFor scheme text part → IsSyntaxFault scheme.lexicon scheme.grammar text at → ⊥
  no_syntax_fault text part at stands fault =
      let never : None ≡ Some at = one_found scheme.lexicon scheme.grammar text None (Some at) (sentence text part stands) fault in
      absurd cc

  one_syntax_fault : (text : List ℕ) (at other : ℕ) → IsSyntaxFault scheme.lexicon scheme.grammar text at → IsSyntaxFault scheme.lexicon scheme.grammar text other
      → at ≡ other
  one_syntax_fault text at other f g =
      let same : Some at ≡ Some other = one_found scheme.lexicon scheme.grammar text (Some at) (Some other) f g in
      cc

-- ---- words that keep the rules

all_keep : (words : List Token) (keeps : List Bool) → length words ≡ length keeps → find (λ judged. not judged.1) (zip words keeps) ≡ None
    → list_all (λ keeps. keeps) keeps ≡ true
all_keep [] [] same none = refl
all_keep [] (keep ∷ keeps) same none = absurd (omega arith)
all_keep (word ∷ words) [] same none = refl
all_keep (word ∷ words) (true ∷ keeps) same none = all_keep words keeps (omega arith) none
all_keep (word ∷ words) (false ∷ keeps) same none = absurd (let never : Some (word, false) ≡ None = none in cc)

none_found : (words : List Token) (keeps : List Bool) → list_all (λ keeps. keeps) keeps ≡ true → find (λ judged. not judged.1) (zip words keeps) ≡ None
none_found [] keeps all = refl
none_found (word ∷ words) [] all = refl
none_found (word ∷ words) (true ∷ keeps) all = none_found words keeps all
none_found (word ∷ words) (false ∷ keeps) all = absurd (false≢true all)

no_offset : (found : Option (Token × Bool)) → option_map (λ judged. judged.0.start) found ≡ None → found ≡ None
no_offset None none = refl
no_offset (Some judged) none = absurd (let never : Some judged.0.start ≡ None = none in cc)

-- ---- subsets

pub record IsSubset {Part Placed Tree : Type 0} (subset : Subset Part Placed Tree) : Type 0 where
  pub predictive : IsPredictive subset.scheme.grammar
  -- a part is that of one placed tree
  pub one : (placed other : Placed) → subset.whole placed ≡ subset.whole other → placed ≡ other
  -- each derivation tree stands for a placed one
  pub stands : (tree : Nodes Token) → AreTrees subset.scheme.grammar (token_class subset.scheme.lexicon) (Rule subset.scheme.grammar.start ∷ []) tree
      → (placed : Placed) × (parts_of subset.scheme tree ≡ subset.whole placed ∷ [])
  -- each word has its judgement, so no judgement is lost
  pub as_many : (placed : Placed) → length (subset.words_of placed) ≡ length (subset.judged (subset.tree_of placed))

module _ {Part Placed Tree : Type 0} {subset : Subset Part Placed Tree} (is : IsSubset subset) where
  pub spells_one : (text : List ℕ) (placed other : Placed) → Spells subset text placed → Spells subset text other → placed ≡ other
  spells_one text placed other spells also =
      is.one placed other (one_part subset.scheme is.predictive text (subset.whole placed) (subset.whole other) spells also)

  abbrev broken : Placed → Option ℕ
  broken placed = first_broken (subset.words_of placed) (subset.judged (subset.tree_of placed))

  pub well_named_if_unbroken : (placed : Placed) → broken placed ≡ None → IsWellNamed subset (subset.tree_of placed)
  well_named_if_unbroken placed none =
      let words = subset.words_of placed in
      let keeps = subset.judged (subset.tree_of placed) in
      all_keep words keeps (is.as_many placed) (no_offset (find (λ judged. not judged.1) (zip words keeps)) none)

  pub unbroken_if_well_named : (placed : Placed) → IsWellNamed subset (subset.tree_of placed) → broken placed ≡ None
  unbroken_if_well_named placed well =
      ap (option_map (λ judged. judged.0.start)) (none_found (subset.words_of placed) (subset.judged (subset.tree_of placed)) well)

  -- ---- one fault

  one_names_fault : (text : List ℕ) (at other : ℕ) → HasFault subset text (Names at) → HasFault subset text (Names other) → at ≡ other
  one_names_fault text at other f g =
      let same = spells_one text f.0 g.0 f.1 g.1 in
      let both : Some at ≡ Some other = sym f.2 ∙ ap broken same ∙ g.2 in
      cc

  pub one_fault : (text : List ℕ) (fault other : ObsFault) → HasFault subset text fault → HasFault subset text other → fault ≡ other
  one_fault text (Syntax at) (Syntax other) f g = ap (λ at. Syntax at) (one_syntax_fault subset.scheme text at other f g)
  one_fault text (Syntax at) (Names other) f g = absurd (no_syntax_fault subset.scheme text (subset.whole g.0) at g.1 f)
  one_fault text (Syntax at) Memory f g = absurd g
  one_fault text (Names at) (Syntax other) f g = absurd (no_syntax_fault subset.scheme text (subset.whole f.0) other f.1 g)
  one_fault text (Names at) (Names other) f g = ap (λ at. Names at) (one_names_fault text at other f g)
  one_fault text (Names at) Memory f g = absurd g
  one_fault text Memory other f g = absurd f

  -- ---- readings

  abbrev Reading : List ℕ → Type 0
  Reading text = ((fault : ObsFault) × HasFault subset text fault) ⊎ ((tree : Tree) × IsReadAs subset text tree)

  spelled_reading : (text : List ℕ) (placed : Placed) → Spells subset text placed → Reading text
  spelled_reading text placed spells = by (broken placed) refl
    where
      by : (found : Option ℕ) → broken placed ≡ found → Reading text
      by (Some at) is = inl (Names at, (placed, spells, is))
      by None none = inr (subset.tree_of placed, record { placed = placed; spelled = spells; is = refl; well_named = well_named_if_unbroken placed none })

  pub some_reading : (text : List ℕ) → Reading text
  some_reading text =
      let (verdict, found) = some_found subset.scheme.lexicon subset.scheme.grammar text is.predictive in
      by verdict found
    where
      by : (verdict : Option ℕ) → IsSyntaxVerdict subset.scheme.lexicon subset.scheme.grammar text verdict → Reading text
      by (Some at) fault = inl (Syntax at, fault)
      by None (items, has, whole) =
          let (tree, are, leaves_are) = trees_derived subset.scheme.grammar (token_class subset.scheme.lexicon) whole items refl in
          let (placed, stands) = is.stands tree are in
          spelled_reading text placed (record { items = items; has = has; tree = tree; is = record { derived = are; whole = leaves_are }; stands = stands })

  pub no_fault_where_read : (text : List ℕ) (tree : Tree) (fault : ObsFault) → IsReadAs subset text tree → HasFault subset text fault → ⊥
  no_fault_where_read text tree (Syntax at) read fault = no_syntax_fault subset.scheme text (subset.whole read.placed) at read.spelled fault
  no_fault_where_read text tree (Names at) read fault =
      let same = spells_one text fault.0 read.placed fault.1 read.spelled in
      let well = subst (IsWellNamed subset) (sym (ap subset.tree_of same ∙ read.is)) read.well_named in
      let never : None ≡ Some at = sym (unbroken_if_well_named fault.0 well) ∙ fault.2 in
      absurd cc
  no_fault_where_read text tree Memory read fault = fault
