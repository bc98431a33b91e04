-- A walk over the suffixes: each is known once it was tried, and waits before.
use Rattle.std.proofs.Common.{◌≡◌, ◌⊎◌, inl, inr, ⊎_elim, ℕ, zero, suc, ◌+◌, ◌-◌, ◌*◌, ◌<◌, ◌≤◌, ◌==◌, Bool, true, false, if◌then◌else◌, List, [], ◌∷◌, ◌++◌, length, map, get_or, Vec, Option, None, Some, refl, ap, sym, ◌∙◌, subst, arith}
use Rattle.std.specs.declared.alloc.Global.{Global}
use Rattle.std.specs.List.{AllByRecursion}
use Rattle.std.specs.Cmp.{unsigned_Decides}
use Rattle.std.proofs.lemmas.Bool.{cases_lt}
use Rattle.std.proofs.Math.Nat.{mul-le-mul_right, suc-mul}
use Rattle.dcv_word.specs.Behaviour.{Word}
use Rattle.dcv_language.specs.Table.{Table, IsTable, next_in}
use Rattle.dcv_language.proofs.Bounds.{next-below}
use Rattle.dcv_automaton_text.specs.File.{Suffix, EmptySuffix, ThenSuffix, AutomatonFile}
use Rattle.dcv_language.specs.declared.certificate.Suffix.{Suffix as ReadSuffix}
use Rattle.dcv_automaton_read.specs.File.{suffix_from, suffixes_of}
use Rattle.dcv_automaton_text.specs.Meaning.{table_of, suffix_word_of, suffix_words_of}
use Rattle.dcv_automaton_text.specs.Rules.{IsGood}
use Rattle.dcv_automaton_text.proofs.GoodTables.{table_has_the_files_states}
use Rattle.dcv_certify.specs.declared.walk.Untried.{Untried}
use Rattle.dcv_certify.specs.Columns.{IsColumn, GoesOnFromColumn, IsColumnBefore}
use Rattle.dcv_certify.specs.Links.{suffix_at, parent, parent_at, link_at, root_of, Below, Here, Beside, Under, AreLinks}
use Rattle.dcv_certify.specs.Numbers.{AreNumbersOf}
use Rattle.dcv_certify.specs.Alike.{bit, entries_of}
use Rattle.dcv_certify.specs.Split.{bit_at, IsSplit}
use Rattle.dcv_certify.specs.Walk.{waiting, IsSteady, IsFirstBelow, depth_of, left_beside, rank_of, weight, work_left, suffix_word, IsKnown, Waits, IsUntried, IsNumbering, IsWalk}
use Rattle.dcv_certify.proofs.Bits.{bit_behind, last_behind}
use Rattle.dcv_certify.proofs.Linking.{none_is_none, none_below, parent_is_earlier, some_is_one}
use Rattle.dcv_certify.proofs.Numbering.{known_still, known_now, split_more, all_known, entries_few}
use Rattle.dcv_certify.proofs.SuffixWords.{GoesOnFrom, suffix_goes_on, read_suffix, length_read_suffixes, word_is}

positive : (count : ℕ) → (count == 0) ≡ false → 0 < count
positive count some =
    elim (cases_lt 0 count) [
      | inl less ↦ less
      | inr none ↦ absurd (let is : (count == 0) ≡ true = (unsigned_Decides count 0).1 (omega (arith, none)) in let wrong : true ≡ false = sym is ∙ some in cc)
    ]

first_is : (column : List Bool) (first below : Option ℕ) → IsFirstBelow column first below → (child : ℕ) → below ≡ Some child → first ≡ Some child
first_is column first below (inl same) child link = sym same ∙ link
first_is column first below (inr none) child link = absurd (none_is_none child (sym none.0 ∙ link))

-- ---- less is left with each suffix

weight_some : (rank : ℕ) → 1 ≤ weight rank
weight_some zero = omega arith
weight_some (suc rank) = omega (arith, weight_some rank)

weight_more : (less more : ℕ) → less ≤ more → weight less ≤ weight more
weight_more zero more fits = weight_some more
weight_more (suc less) zero fits = absurd (omega (arith, fits))
weight_more (suc less) (suc more) fits = omega (arith, weight_more less more (omega (arith, fits)))

two_less : (one other rank : ℕ) → one < rank → other < rank → weight one + weight other < weight rank
two_less one other zero first second = absurd (omega (arith, first))
two_less one other (suc rank) first second =
    omega (arith, weight_more one rank (omega (arith, first)), weight_more other rank (omega (arith, second)), weight_some rank)

one_less : (one rank : ℕ) → one < rank → weight one < weight rank
one_less one rank first = omega (arith, two_less one one rank first first)

left_less : (left place : ℕ) (link : Option ℕ) → left_beside (left - place) link ≤ left
left_less left place None = omega arith
left_less left place (Some other) = omega arith

module _ (file : AutomatonFile) (good : IsGood file) (first next : List (Option ℕ)) (are : AreLinks file first next) where
  depth_fits : (place : ℕ) → (from : Option ℕ) → parent_at file place ≡ from → depth_of from ≤ place
  depth_fits place None is = omega arith
  depth_fits place (Some from) is = omega (arith, (parent_is_earlier file good place from is).1)

  less_under : (place child : ℕ) → place < length file.suffix_lines → link_at first place ≡ Some child → rank_of file next child < rank_of file next place
  less_under place child within link =
      let count = length file.suffix_lines in
      let deeper : depth_of (parent_at file child) ≡ suc place = ap depth_of (are.goes_on place child link) in
      let depth = depth_fits place (parent_at file place) refl in
      let least = left_less count child (link_at next child) in
      let more : suc (count - depth_of (parent_at file child)) * (count + 1) ≤ (count - depth_of (parent_at file place)) * (count + 1) =
      mul-le-mul_right (count + 1) (omega (arith, deeper, depth, within)) in
      let apart : suc (count - depth_of (parent_at file child)) * (count + 1) ≡ (count - depth_of (parent_at file child)) * (count + 1) + (count + 1) = suc-mul (count - depth_of (parent_at file child)) (count + 1) in
      omega (arith, more, apart, least)

  less_beside : (place other : ℕ) → place < length file.suffix_lines → link_at next place ≡ Some other → rank_of file next other < rank_of file next place
  less_beside place other within link =
      let count = length file.suffix_lines in
      let one = are.goes_on_too place other link in
      let same : depth_of (parent_at file other) ≡ depth_of (parent_at file place) = ap depth_of (one.2 ∙ sym one.1) in
      let here : left_beside (count - place) (link_at next place) ≡ count - place = ap (left_beside (count - place)) link in
      let there = parent_is_earlier file good other one.0 one.2 in
      let less : left_beside (count - other) (link_at next other) < count - place =
      ⊎_elim (λ later. by (link_at next other) later within there.0) (λ none. omega (arith, ap (left_beside (count - other)) none, within)) (are.in_order place other link) in
      let parts : (count - depth_of (parent_at file other)) * (count + 1) ≡ (count - depth_of (parent_at file place)) * (count + 1) = ap (λ depth. (count - depth) * (count + 1)) same in
      omega (arith, parts, here, less)
    where
      by : (link : Option ℕ) → place < other → place < length file.suffix_lines → other < length file.suffix_lines → left_beside (length file.suffix_lines - other) link < length file.suffix_lines - place
      by None later within there = omega (arith, within)
      by (Some another) later within there = omega (arith, later, within, there)

  abbrev weight_of : Option ℕ → ℕ
  weight_of None = 0
  weight_of (Some place) = weight (rank_of file next place)

  work_more : (left : List Untried) (at : Untried) → work_left file next (left ++ at ∷ []) ≡ work_left file next left + weight (rank_of file next at.place)
  work_more [] at = omega arith
  work_more (one ∷ left) at = omega (arith, work_more left at)

  work_waiting : (left : List Untried) (column : Vec Bool Global) (link : Option ℕ) → work_left file next (waiting left column link) ≡ work_left file next left + weight_of link
  work_waiting left column None = omega arith
  work_waiting left column (Some place) = work_more left (record { column = column; place = place })

  pub less_left : (left : List Untried) (at : Untried) (column : Vec Bool Global) (below : Option ℕ) → IsFirstBelow column.items (link_at first at.place) below → at.place < length file.suffix_lines
      → work_left file next (waiting (waiting left at.column (link_at next at.place)) column below) < work_left file next (left ++ at ∷ [])
  less_left left at column below is within =
      omega (
        arith,
        work_waiting (waiting left at.column (link_at next at.place)) column below,
        work_waiting left at.column (link_at next at.place),
        work_more left at,
        by (link_at next at.place) below (λ other link. less_beside at.place other within link) (λ child link. less_under at.place child within (first_is column.items (link_at first at.place) below is child link)),
      )
    where
      by : (beside under : Option ℕ) → ((other : ℕ) → beside ≡ Some other → rank_of file next other < rank_of file next at.place)
          → ((child : ℕ) → under ≡ Some child → rank_of file next child < rank_of file next at.place) → weight_of beside + weight_of under < weight (rank_of file next at.place)
      by None None besides unders = omega (arith, weight_some (rank_of file next at.place))
      by (Some other) None besides unders = omega (arith, one_less (rank_of file next other) (rank_of file next at.place) (besides other refl))
      by None (Some child) besides unders = omega (arith, one_less (rank_of file next child) (rank_of file next at.place) (unders child refl))
      by (Some other) (Some child) besides unders = two_less (rank_of file next other) (rank_of file next child) (rank_of file next at.place) (besides other refl) (unders child refl)

-- ---- what waits

module _ (first next : List (Option ℕ)) (place : ℕ) where
  waits_in : (left : List Untried) (at : Untried) → Waits first next (left ++ at ∷ []) place → Waits first next left place ⊎ Below first next (Some at.place) place
  waits_in [] at (inl below) = inr below
  waits_in [] at (inr waits) = elim waits [ ]
  waits_in (one ∷ left) at (inl below) = inl (inl below)
  waits_in (one ∷ left) at (inr waits) = ⊎_elim (λ more. inl (inr more)) (λ below. inr below) (waits_in left at waits)

  waits_more : (left : List Untried) (at : Untried) → Waits first next left place → Waits first next (left ++ at ∷ []) place
  waits_more [] at waits = elim waits [ ]
  waits_more (one ∷ left) at (inl below) = inl below
  waits_more (one ∷ left) at (inr waits) = inr (waits_more left at waits)

  waits_last : (left : List Untried) (at : Untried) → Below first next (Some at.place) place → Waits first next (left ++ at ∷ []) place
  waits_last [] at below = inl below
  waits_last (one ∷ left) at below = inr (waits_last left at below)

  still_waits : (left : List Untried) (column : Vec Bool Global) (link : Option ℕ) → Waits first next left place → Waits first next (waiting left column link) place
  still_waits left column None waits = waits
  still_waits left column (Some one) waits = waits_more left (record { column = column; place = one }) waits

  now_waits : (left : List Untried) (column : Vec Bool Global) (link : Option ℕ) → Below first next link place → Waits first next (waiting left column link) place
  now_waits left column None below = absurd (none_below first next None place refl below)
  now_waits left column (Some one) below = waits_last left (record { column = column; place = one }) below

-- ---- columns

module _ (file : AutomatonFile) where
  all_in : (left : List Untried) (at : Untried) → AllByRecursion (IsUntried file) (left ++ at ∷ []) → AllByRecursion (IsUntried file) left × IsUntried file at
  all_in [] at all = (tt, all.0)
  all_in (one ∷ left) at all = let rest = all_in left at all.1 in ((all.0, rest.0), rest.1)

  all_more : (left : List Untried) (at : Untried) → AllByRecursion (IsUntried file) left → IsUntried file at → AllByRecursion (IsUntried file) (left ++ at ∷ [])
  all_more [] at all is = (is, tt)
  all_more (one ∷ left) at all is = (all.0, all_more left at all.1 is)

  all_waiting : (left : List Untried) (column : Vec Bool Global) (link : Option ℕ) → AllByRecursion (IsUntried file) left
      → ((place : ℕ) → link ≡ Some place → IsUntried file (record { column = column; place = place })) → AllByRecursion (IsUntried file) (waiting left column link)
  all_waiting left column None all is = all
  all_waiting left column (Some place) all is = all_more left (record { column = column; place = place }) all (is place refl)

column_from : (table : Table) (words : List Word) (column : List Bool) (suffix : Suffix) (from : ℕ) → parent suffix ≡ Some from → IsColumnBefore table words column suffix
    → IsColumn table (get_or words from []) column
column_from table words column EmptySuffix from is has = absurd (none_is_none from is)
column_from table words column (ThenSuffix letter other) from is has = subst (λ n. IsColumn table (get_or words n []) column) (some_is_one other from is) has

column_before : (table : Table) (words : List Word) (column : List Bool) (suffix : Suffix) (from : ℕ) → parent suffix ≡ Some from → IsColumn table (get_or words from []) column
    → IsColumnBefore table words column suffix
column_before table words column EmptySuffix from is has = tt
column_before table words column (ThenSuffix letter other) from is has = subst (λ n. IsColumn table (get_or words n []) column) (sym (some_is_one other from is)) has

pub goes_on_from_column : (file : AutomatonFile) (place : ℕ) (words : List Word) (column : List Bool) (suffix : Suffix) → GoesOnFrom file place suffix
    → IsColumnBefore (table_of file) words column suffix → GoesOnFromColumn file column suffix
goes_on_from_column file place words column EmptySuffix goes has = tt
goes_on_from_column file place words column (ThenSuffix letter from) goes has = (has.count, goes.1)

module _ (file : AutomatonFile) (good : IsGood file) (read : List ReadSuffix) (same : map suffix_from read ≡ suffixes_of file) (suffix : ReadSuffix) (place : ℕ)
    (within : place < length file.suffix_lines) (is : suffix ≡ get_or read place suffix) (from : List Bool)
    (has : IsColumnBefore (table_of file) (suffix_words_of file) from (suffix_at file place)) where
  here : suffix_from suffix ≡ suffix_at file place
  here = ap suffix_from is ∙ read_suffix file good read suffix same place (omega (arith, within, length_read_suffixes file good read same))

  pub goes_on_read : GoesOnFromColumn file from (suffix_from suffix)
  goes_on_read =
      subst (GoesOnFromColumn file from) (sym here)
      (goes_on_from_column file place (suffix_words_of file) from (suffix_at file place) (suffix_goes_on file good place within) has)

  pub made_of : (column : List Bool)
      → ((words : List Word) → IsColumnBefore (table_of file) words from (suffix_from suffix) → IsColumn (table_of file) (suffix_word_of words (suffix_from suffix)) column)
      → IsColumn (table_of file) (suffix_word file place) column
  made_of column made =
      let table = table_of file in
      let words = suffix_words_of file in
      subst (λ word. IsColumn table word column) (sym (word_is file good place within))
      (subst (λ suffix. IsColumn table (suffix_word_of words suffix) column) here (made words (subst (IsColumnBefore table words from) (sym here) has)))

-- ---- where a suffix tells no states apart

module _ (file : AutomatonFile) (good : IsGood file) (first next : List (Option ℕ)) (are : AreLinks file first next) (is_table : IsTable (length file.names) (table_of file)) where
  abbrev table : Table
  table = table_of file

  abbrev IsSteadyWord : Word → Type 0
  IsSteadyWord word = (entry : ℕ) → entry < length table → bit table entry word ≡ bit table 0 word

  some_states : 0 < length table
  some_states = is_table.nonempty

  steady_word : (place : ℕ) (column : List Bool) → IsColumn table (suffix_word file place) column → IsSteady column → IsSteadyWord (suffix_word file place)
  steady_word place column made steady entry within =
      sym (made.bits entry (omega (arith, within))) ∙ steady entry (omega (arith, made.count, within)) ∙ made.bits 0 (omega arith)

  steady_more : (letter : List Bool) (word : Word) → IsSteadyWord word → IsSteadyWord (letter ∷ word)
  steady_more letter word steady entry within = of entry within ∙ sym (of 0 some_states)
    where
      of : (entry : ℕ) → entry < length table → bit table entry (letter ∷ word) ≡ bit table 0 word
      of entry within =
          let next = next-below (length file.names) table is_table entry letter within in
          bit_behind table entry letter word within next ∙ steady (next_in table entry letter) next

  known_of : (numbers : List ℕ) → length numbers ≡ entries_of file → (letter : List Bool) (word : Word) → IsSteadyWord (letter ∷ word) → (one : ℕ) → one < length numbers
      → bit table one (letter ∷ word) ≡ bit table 0 (letter ∷ word)
  known_of numbers count letter word steady one within =
      elim (cases_lt one (length table)) [
        | inl less ↦ steady one less
        | inr past ↦
            let last : length table ≡ one = omega (arith, past, within, count, entries_few file, table_has_the_files_states file good) in
            ap (λ n. bit table n (letter ∷ word)) (sym last) ∙ last_behind table letter word some_states
      ]

  step_below : (from place : ℕ) → parent_at file place ≡ Some from → IsSteadyWord (suffix_word file from) → (letter : List Bool) × (suffix_word file place ≡ letter ∷ suffix_word file from)
  step_below from place has steady = of (suffix_at file place) has (word_is file good place (parent_is_earlier file good place from has).0)
    where
      of : (suffix : Suffix) → parent suffix ≡ Some from → suffix_word file place ≡ suffix_word_of (suffix_words_of file) suffix → (letter : List Bool) × (suffix_word file place ≡ letter ∷ suffix_word file from)
      of EmptySuffix is word = absurd (none_is_none from is)
      of (ThenSuffix letter other) is word = (letter, word ∙ ap (λ n. letter ∷ suffix_word file n) (some_is_one other from is))

  known_below : (numbers : List ℕ) → length numbers ≡ entries_of file → (from : ℕ) → IsSteadyWord (suffix_word file from) → (start : Option ℕ) (place : ℕ) → Below first next start place
      → ((child : ℕ) → start ≡ Some child → parent_at file child ≡ Some from) → IsKnown file numbers place
  known_below numbers count from steady start place (Here _ _ is) goes =
      let word = step_below from place (goes place is) steady in
      let longer = steady_more word.0 (suffix_word file from) steady in
      λ one other within there same. subst (λ word. bit table one word ≡ bit table other word) (sym word.1)
      (known_of numbers count word.0 (suffix_word file from) longer one within ∙ sym (known_of numbers count word.0 (suffix_word file from) longer other there))
  known_below numbers count from steady start place (Beside _ one _ met is) goes =
      known_below numbers count from steady (link_at next one) place met
      (λ child link. let both = are.goes_on_too one child link in both.2 ∙ sym both.1 ∙ goes one is)
  known_below numbers count from steady start place (Under _ one _ met is) goes =
      let word = step_below from one (goes one is) steady in
      known_below numbers count one (subst IsSteadyWord (sym word.1) (steady_more word.0 (suffix_word file from) steady)) (link_at first one) place met (are.goes_on one)

-- ---- the walk

module _ (file : AutomatonFile) (good : IsGood file) (first next : List (Option ℕ)) (are : AreLinks file first next) where
  pub at_is : (left : List Untried) (at : Untried) (numbers : List ℕ) → IsWalk file first next (left ++ at ∷ []) numbers → IsUntried file at
  at_is left at numbers walk = (all_in file left at walk.columns).1

  pub walked : IsTable (length file.names) (table_of file) → (left : List Untried) (at : Untried) (column : Vec Bool Global) (below : Option ℕ) (old new : List ℕ) → IsFirstBelow column.items (link_at first at.place) below → IsWalk file first next (left ++ at ∷ []) old
      → IsColumn (table_of file) (suffix_word file at.place) column.items → IsSplit old column.items new
      → IsWalk file first next (waiting (waiting left at.column (link_at next at.place)) column below) new
  walked is_table left at column below old new first_below walk made split = record {
    numbering = split_more file old new column.items walk.numbering split at.place (at_is left at old walk).0 bits;
    columns =
        all_waiting file (waiting left at.column (link_at next at.place)) column below
        (all_waiting file left at.column (link_at next at.place) (all_in file left at walk.columns).0 beside) under;
    each = λ place within. ⊎_elim (λ known. inl (known_still file old new column.items walk.numbering split place known)) (λ waits. after place (waits_in first next place left at waits)) (walk.each place within);
  }
    where
      words : List Word
      words = suffix_words_of file

      bits : (entry : ℕ) → entry < length old → bit_at column.items entry ≡ bit (table_of file) entry (suffix_word file at.place)
      bits entry within = made.bits entry (omega (arith, within, walk.numbering.count, entries_few file, table_has_the_files_states file good))

      beside : (place : ℕ) → link_at next at.place ≡ Some place → IsUntried file (record { column = at.column; place = place })
      beside place link =
          let one = are.goes_on_too at.place place link in (
            (parent_is_earlier file good place one.0 one.2).0,
            column_before (table_of file) words at.column.items (suffix_at file place) one.0 one.2
                (column_from (table_of file) words at.column.items (suffix_at file at.place) one.0 one.1 (at_is left at old walk).1),
          )

      under : (place : ℕ) → below ≡ Some place → IsUntried file (record { column = column; place = place })
      under place link =
          let from = are.goes_on at.place place (first_is column.items (link_at first at.place) below first_below place link) in
          ((parent_is_earlier file good place at.place from).0, column_before (table_of file) words column.items (suffix_at file place) at.place from made)

      more : List Untried
      more = waiting left at.column (link_at next at.place)

      -- those below it wait, or tell nothing apart
      under_one : (place : ℕ) → IsFirstBelow column.items (link_at first at.place) below → Below first next (link_at first at.place) place
          → IsKnown file new place ⊎ Waits first next (waiting more column below) place
      under_one place (inl same) met = inr (now_waits first next place more column below (subst (λ link. Below first next link place) (sym same) met))
      under_one place (inr none) met =
          inl (known_below file good first next are is_table new (split.count ∙ walk.numbering.count) at.place (steady_word file good first next are is_table at.place column.items made none.1) (link_at first at.place) place met (λ child link. are.goes_on at.place child link))

      now : (place : ℕ) → (start : Option ℕ) → start ≡ Some at.place → Below first next start place → IsKnown file new place ⊎ Waits first next (waiting more column below) place
      now place start at_place (Here _ _ is) =
          inl (subst (IsKnown file new) (some_is_one at.place place (sym at_place ∙ is))
          (known_now file old new column.items walk.numbering split at.place (at_is left at old walk).0 bits))
      now place start at_place (Beside _ one _ beside_it is) =
          inr (still_waits first next place more column below (now_waits first next place left at.column (link_at next at.place)
          (subst (λ n. Below first next (link_at next n) place) (some_is_one one at.place (sym is ∙ at_place)) beside_it)))
      now place start at_place (Under _ one _ under_it is) =
          under_one place first_below (subst (λ n. Below first next (link_at first n) place) (some_is_one one at.place (sym is ∙ at_place)) under_it)

      after : (place : ℕ) → Waits first next left place ⊎ Below first next (Some at.place) place → IsKnown file new place ⊎ Waits first next (waiting more column below) place
      after place (inl waits) = inr (still_waits first next place more column below (still_waits first next place left at.column (link_at next at.place) waits))
      after place (inr met) = now place (Some at.place) refl met

  pub walk_begins : (left : List Untried) (column : Vec Bool Global) (numbers : List ℕ) → left ≡ waiting [] column (root_of file) → IsNumbering file numbers → IsWalk file first next left numbers
  walk_begins left column numbers is numbering =
      subst (λ left. IsWalk file first next left numbers) (sym is) (by (length file.suffix_lines == 0) refl)
    where
      by : (none : Bool) → (length file.suffix_lines == 0) ≡ none → IsWalk file first next (waiting [] column (if none then None else Some 0)) numbers
      by true none = record {
        numbering = numbering;
        columns = tt;
        each = λ place within. absurd (omega (arith, within, (unsigned_Decides (length file.suffix_lines) 0).0 none));
      }
      by false some =
          let within = positive (length file.suffix_lines) some in
          record {
            numbering = numbering;
            columns = ((within, root (suffix_at file 0) (suffix_goes_on file good 0 within)), tt);
            each = λ place inside. inr (inl (are.all place inside));
          }
        where
          root : (suffix : Suffix) → GoesOnFrom file 0 suffix → IsColumnBefore (table_of file) (suffix_words_of file) column.items suffix
          root EmptySuffix goes = tt
          root (ThenSuffix letter from) goes = absurd (omega (arith, goes.0))

  pub walk_ends : (left : List Untried) (numbers : List ℕ) → length left ≡ 0 → IsWalk file first next left numbers → AreNumbersOf file numbers
  walk_ends [] numbers none walk = all_known file numbers walk.numbering (λ place within. ⊎_elim (λ known. known) (λ waits. elim waits [ ]) (walk.each place within))
  walk_ends (at ∷ left) numbers none walk = absurd (omega (arith, none))
