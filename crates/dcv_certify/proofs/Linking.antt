-- Links between the suffixes of a file, made from the last suffix to the first.
use Rattle.std.proofs.Common.{◌≡◌, ◌≢◌, ◌⊎◌, inl, inr, ⊎_elim, ℕ, zero, suc, ◌+◌, ◌<◌, ◌≤◌, Bool, true, false, if◌then◌else◌, List, [], ◌∷◌, ◌++◌, length, map, flat_map, set, replicate, Option, None, Some, refl, ap, sym, ◌∙◌, subst, arith}
use Rattle.std.specs.List.{join_with_byte}
use Rattle.std.specs.Str.{byte}
use Rattle.std.specs.Cmp.{unsigned_Decides}
use Rattle.std.specs.Prelude.{IfSome}
use Rattle.std.proofs.lemmas.Bool.{cases_lt, cases_order}
use Rattle.std.proofs.lemmas.List.{get_or_past, get_or-replicate, length-replicate, get_or-set_same, get_or-set_other, length-set, length-append, length-map}
use Rattle.dcv_automaton_text.specs.File.{Suffix, EmptySuffix, ThenSuffix, AutomatonFile}
use Rattle.dcv_automaton_text.specs.Rules.{IsGood}
use Rattle.dcv_automaton_text.specs.Spelled.{spelled_line, spelled_front, front_lines, head_lines, node_words, state_words, access_words, suffix_words}
use Rattle.dcv_certify.specs.Links.{suffix_at, parent, parent_at, link_at, leads_to, light_parent, light_parent_at, HaveOneParent, Below, Here, Beside, Under, AreHeaviest, AreLinks}
use Rattle.dcv_certify.proofs.SuffixWords.{GoesOnFrom, no_line, suffix_goes_on}

abbrev pub nothing : Option ℕ
nothing = None

pub none_is_none : (place : ℕ) → nothing ≢ Some place
none_is_none place wrong = cc

pub no_link : (count place : ℕ) → link_at (replicate count nothing) place ≡ None
no_link count place =
    elim (cases_lt place count) [
      | inl less ↦ get_or-replicate count place nothing nothing less
      | inr past ↦ get_or_past (replicate count nothing) place nothing (omega (arith, past, length-replicate count nothing))
    ]

pub some_is_one : (one other : ℕ) → Some one ≡ Some other → one ≡ other
some_is_one one other is = cc

-- a suffix that goes on from another is one, and comes after that
pub parent_is_earlier : (file : AutomatonFile) → IsGood file → (place from : ℕ) → parent_at file place ≡ Some from → (place < length file.suffix_lines) × (from < place)
parent_is_earlier file good place from is =
    elim (cases_lt place (length file.suffix_lines)) [
      | inl less ↦ (less, by (suffix_at file place) (suffix_goes_on file good place less) is)
      | inr past ↦ absurd (none_is_none from (sym (ap (λ line. parent line.suffix) (get_or_past file.suffix_lines place no_line past)) ∙ is))
    ]
  where
    by : (suffix : Suffix) → GoesOnFrom file place suffix → parent suffix ≡ Some from → from < place
    by EmptySuffix goes is = absurd (none_is_none from is)
    by (ThenSuffix letter other) goes is = omega (arith, goes.0, some_is_one other from is)

pub parents_are_earlier : (file : AutomatonFile) → IsGood file → (place : ℕ) (start : Option ℕ) → parent_at file place ≡ start → IfSome start (λ from. from < place)
parents_are_earlier file good place None is = tt
parents_are_earlier file good place (Some from) is = (parent_is_earlier file good place from is).1

-- ---- links so far

abbrev pub IsHeaviest : List (Option ℕ) → ℕ → Type 0
IsHeaviest heaviest place = (from : ℕ) × (link_at heaviest from ≡ Some place)

pub record LinkedSoFar (file : AutomatonFile) (heaviest : List (Option ℕ)) (count : ℕ) (first next : List (Option ℕ)) : Type 0 where
  pub size : length first ≡ length file.suffix_lines
  pub next_size : length next ≡ length file.suffix_lines
  pub goes_on : (place child : ℕ) → link_at first place ≡ Some child → parent_at file child ≡ Some place
  pub late : (place child : ℕ) → link_at first place ≡ Some child → (count ≤ child) ⊎ (link_at heaviest place ≡ Some child)
  pub goes_on_too : (place other : ℕ) → link_at next place ≡ Some other → HaveOneParent file place other
  pub in_order : (place other : ℕ) → link_at next place ≡ Some other → (place < other) ⊎ IsHeaviest heaviest other
  pub none_yet : (place : ℕ) → place < count → link_at next place ≡ None
  pub last : (place heavy : ℕ) → link_at heaviest place ≡ Some heavy → link_at next heavy ≡ None
  pub met : (place from : ℕ) → parent_at file place ≡ Some from → (count ≤ place) ⊎ (link_at heaviest from ≡ Some place) → Below first next (link_at first from) place

same_or_not : (one other : ℕ) → (one ≡ other) ⊎ (one ≢ other)
same_or_not one other =
    elim (cases_order one other) [
      | inl is ↦ inl is
      | inr (inl less) ↦ inr (λ is. omega (arith, is, less))
      | inr (inr more) ↦ inr (λ is. omega (arith, is, more))
    ]

pub none_below : (first next : List (Option ℕ)) (from : Option ℕ) (place : ℕ) → from ≡ None → ¬ Below first next from place
none_below first next from place none (Here _ _ is) = none_is_none place (sym none ∙ is)
none_below first next from place none (Beside _ one _ more is) = none_is_none one (sym none ∙ is)
none_below first next from place none (Under _ one _ more is) = none_is_none one (sym none ∙ is)

module _ (file : AutomatonFile) (good : IsGood file) (heaviest : List (Option ℕ)) (are : AreHeaviest file heaviest) where
  pub first_links : (first next : List (Option ℕ)) → first ≡ heaviest → next ≡ replicate (length file.suffix_lines) nothing → LinkedSoFar file heaviest (length file.suffix_lines) first next
  first_links first next is none = record {
    size = ap length is ∙ are.count;
    next_size = ap length none ∙ length-replicate (length file.suffix_lines) nothing;
    goes_on = λ place child link. are.goes_on place child (sym (same place) ∙ link);
    late = λ place child link. inr (sym (same place) ∙ link);
    goes_on_too = λ place other link. absurd (none_is_none other (sym (no place) ∙ link));
    in_order = λ place other link. absurd (none_is_none other (sym (no place) ∙ link));
    none_yet = λ place within. no place;
    last = λ place heavy link. no heavy;
    met = λ place from has.
        ⊎_elim (λ past. absurd (omega (arith, past, (parent_is_earlier file good place from has).0))) (λ link. Here (link_at first from) place (same from ∙ link));
  }
    where
      same : (place : ℕ) → link_at first place ≡ link_at heaviest place
      same place = ap (λ links. link_at links place) is

      no : (place : ℕ) → link_at next place ≡ None
      no place = ap (λ links. link_at links place) none ∙ no_link (length file.suffix_lines) place

  module _ (count : ℕ) (first next : List (Option ℕ)) (so_far : LinkedSoFar file heaviest (count + 1) first next) where
    -- one that now comes first of those that go on from the same one
    module _ (from : ℕ) (has : parent_at file count ≡ Some from) (light : link_at heaviest from ≢ Some count) where
      abbrev more_first : List (Option ℕ)
      more_first = set first from (Some count)

      abbrev more_next : List (Option ℕ)
      more_next = set next count (link_at first from)

      inside : (count < length file.suffix_lines) × (from < count)
      inside = parent_is_earlier file good count from has

      first_now : link_at more_first from ≡ Some count
      first_now = get_or-set_same first from (Some count) nothing (omega (arith, inside.0, inside.1, so_far.size))

      first_else : (place : ℕ) → place ≢ from → link_at more_first place ≡ link_at first place
      first_else place differ = get_or-set_other first from place (Some count) nothing differ

      next_now : link_at more_next count ≡ link_at first from
      next_now = get_or-set_same next count (link_at first from) nothing (omega (arith, inside.0, so_far.next_size))

      next_else : (place : ℕ) → place ≢ count → link_at more_next place ≡ link_at next place
      next_else place differ = get_or-set_other next count place (link_at first from) nothing differ

      -- what was met still is
      still : (start : Option ℕ) (place : ℕ) → Below first next start place → Below more_first more_next start place
      still start place (Here _ _ is) = Here start place is
      still start place (Beside _ one _ more is) =
          elim (same_or_not one count) [
            | inl same ↦ absurd (none_below first next (link_at next one) place (subst (λ n. link_at next n ≡ None) (sym same) (so_far.none_yet count (omega arith))) more)
            | inr differ ↦ Beside start one place (subst (λ link. Below more_first more_next link place) (sym (next_else one differ)) (still (link_at next one) place more)) is
          ]
      still start place (Under _ one _ more is) =
          elim (same_or_not one from) [
            | inl same ↦ Under start one place (subst (λ n. Below more_first more_next (link_at more_first n) place) (sym same)
                (after_it place (subst (λ n. Below more_first more_next (link_at first n) place) same (still (link_at first one) place more)))) is
            | inr differ ↦ Under start one place (subst (λ link. Below more_first more_next link place) (sym (first_else one differ)) (still (link_at first one) place more)) is
          ]
        where
          after_it : (place : ℕ) → Below more_first more_next (link_at first from) place → Below more_first more_next (link_at more_first from) place
          after_it place below = Beside (link_at more_first from) count place (subst (λ link. Below more_first more_next link place) (sym next_now) below) first_now

      pub links_more : LinkedSoFar file heaviest count more_first more_next
      links_more = record {
        size = length-set first from (Some count) ∙ so_far.size;
        next_size = length-set next count (link_at first from) ∙ so_far.next_size;
        goes_on = λ place child link.
            elim (same_or_not place from) [
              | inl same ↦
                  let it : count ≡ child = some_is_one count child (sym first_now ∙ ap (link_at more_first) (sym same) ∙ link) in
                  subst (λ n. parent_at file n ≡ Some place) it (has ∙ ap (λ n. Some n) (sym same))
              | inr differ ↦ so_far.goes_on place child (sym (first_else place differ) ∙ link)
            ];
        late = λ place child link.
            elim (same_or_not place from) [
              | inl same ↦ inl (omega (arith, some_is_one count child (sym first_now ∙ ap (link_at more_first) (sym same) ∙ link)))
              | inr differ ↦ ⊎_elim (λ past. inl (omega arith)) (λ heavy. inr heavy) (so_far.late place child (sym (first_else place differ) ∙ link))
            ];
        goes_on_too = λ place other link.
            elim (same_or_not place count) [
              | inl same ↦ (from, ap (parent_at file) same ∙ has, so_far.goes_on from other (sym next_now ∙ ap (link_at more_next) (sym same) ∙ link))
              | inr differ ↦ so_far.goes_on_too place other (sym (next_else place differ) ∙ link)
            ];
        in_order = λ place other link.
            elim (same_or_not place count) [
              | inl same ↦
                  ⊎_elim (λ past. inl (omega (arith, past, same))) (λ heavy. inr (from, heavy))
                  (so_far.late from other (sym next_now ∙ ap (link_at more_next) (sym same) ∙ link))
              | inr differ ↦ so_far.in_order place other (sym (next_else place differ) ∙ link)
            ];
        none_yet = λ place before. next_else place (λ is. omega (arith, is, before)) ∙ so_far.none_yet place (omega arith);
        last = λ place heavy link.
            next_else heavy (λ is.
            let it : parent_at file count ≡ Some place = ap (parent_at file) (sym is) ∙ are.goes_on place heavy link in
            light (ap (link_at heaviest) (some_is_one from place (sym has ∙ it)) ∙ link ∙ ap (λ n. Some n) is))
            ∙ so_far.last place heavy link;
        met = λ place start its how. by place start its how (same_or_not place count) (same_or_not start from);
      }
        where
          was : (place start : ℕ) → place ≢ count → (count ≤ place) ⊎ (link_at heaviest start ≡ Some place) → (count + 1 ≤ place) ⊎ (link_at heaviest start ≡ Some place)
          was place start differ (inl past) =
              elim (cases_order count place) [
                | inl is ↦ absurd (differ (sym is))
                | inr (inl less) ↦ inl (omega arith)
                | inr (inr more) ↦ absurd (omega (arith, past, more))
              ]
          was place start differ (inr heavy) = inr heavy

          by : (place start : ℕ) → parent_at file place ≡ Some start → (count ≤ place) ⊎ (link_at heaviest start ≡ Some place) → (place ≡ count) ⊎ (place ≢ count) → (start ≡ from) ⊎ (start ≢ from)
              → Below more_first more_next (link_at more_first start) place
          by place start its how (inl same) or =
              let here : start ≡ from = some_is_one start from (sym its ∙ ap (parent_at file) same ∙ has) in
              Here (link_at more_first start) place (ap (link_at more_first) here ∙ first_now ∙ ap (λ n. Some n) (sym same))
          by place start its how (inr differ) (inl here) =
              let old = subst (λ n. Below more_first more_next (link_at first n) place) here (still (link_at first start) place (so_far.met place start its (was place start differ how))) in
              Beside (link_at more_first start) count place (subst (λ link. Below more_first more_next link place) (sym next_now) old) (ap (link_at more_first) here ∙ first_now)
          by place start its how (inr differ) (inr away) =
              subst (λ link. Below more_first more_next link place) (sym (first_else start away)) (still (link_at first start) place (so_far.met place start its (was place start differ how)))

  -- what is met from a suffix that is met is met
  met_on : (first next : List (Option ℕ)) (start : Option ℕ) (one place : ℕ) → Below first next start one → Below first next (link_at first one) place → Below first next start place
  met_on first next start one place (Here _ _ is) below = Under start one place below is
  met_on first next start one place (Beside _ other _ more is) below = Beside start other place (met_on first next (link_at next other) one place more below) is
  met_on first next start one place (Under _ other _ more is) below = Under start other place (met_on first next (link_at first other) one place more below) is

  leads_there : (link : Option ℕ) (place : ℕ) → link ≡ Some place → leads_to link place ≡ true
  leads_there link place is = ap (λ link. leads_to link place) is ∙ (unsigned_Decides place place).1 refl

  pub light_is : (place from : ℕ) → light_parent_at file heaviest place ≡ Some from → (parent_at file place ≡ Some from) × (link_at heaviest from ≢ Some place)
  light_is place from is = by (parent_at file place) refl is
    where
      by : (start : Option ℕ) → parent_at file place ≡ start → light_parent heaviest place start ≡ Some from → (parent_at file place ≡ Some from) × (link_at heaviest from ≢ Some place)
      by None has is = absurd (none_is_none from is)
      by (Some start) has is = of (leads_to (link_at heaviest start) place) refl is
        where
          of : (test : Bool) → leads_to (link_at heaviest start) place ≡ test → (if test then None else Some start) ≡ Some from → (parent_at file place ≡ Some from) × (link_at heaviest from ≢ Some place)
          of true tested is = absurd (none_is_none from is)
          of false tested is =
              let same = some_is_one start from is in (
                has ∙ is,
                λ leads. let wrong : true ≡ false = sym (leads_there (link_at heaviest start) place (ap (link_at heaviest) same ∙ leads)) ∙ tested in cc,
              )

  pub all_linked : (first next : List (Option ℕ)) → LinkedSoFar file heaviest 0 first next → AreLinks file first next
  all_linked first next so_far = record {
    count = so_far.size;
    next_count = so_far.next_size;
    goes_on = so_far.goes_on;
    goes_on_too = so_far.goes_on_too;
    in_order = λ place other link. ⊎_elim (λ less. inl less) (λ heavy. inr (so_far.last heavy.0 other heavy.1)) (so_far.in_order place other link);
    all = λ place within. met (place + 1) place (omega arith) within (suffix_at file place) refl (suffix_goes_on file good place within);
  }
    where
      met : (fuel place : ℕ) → place < fuel → place < length file.suffix_lines → (suffix : Suffix) → suffix_at file place ≡ suffix → GoesOnFrom file place suffix → Below first next (Some 0) place
      met zero place fits within suffix is goes = absurd (omega (arith, fits))
      met (suc fuel) place fits within EmptySuffix is goes = Here (Some 0) place (ap (λ n. Some n) (sym goes))
      met (suc fuel) place fits within (ThenSuffix letter from) is goes =
          let there : from < length file.suffix_lines = omega (arith, goes.0, within) in
          met_on first next (Some 0) from place
          (met fuel from (omega (arith, goes.0, fits)) there (suffix_at file from) refl (suffix_goes_on file good from there))
          (so_far.met place from (ap parent is) (inl (omega arith)))

-- ---- places are few

lines_are_spelled : (lines : List (List (List ℕ))) → length lines ≤ length (flat_map spelled_line lines)
lines_are_spelled [] = omega arith
lines_are_spelled (words ∷ lines) =
    omega (
      arith,
      lines_are_spelled lines,
      length-append (spelled_line words) (flat_map spelled_line lines),
      length-append (join_with_byte (byte " ") words) (10 ∷ []),
    )

pub few_places : (file : AutomatonFile) → length file.suffix_lines ≤ length (spelled_front file)
unfolding spelled_front front_lines
few_places file =
    let last = map suffix_words file.suffix_lines in
    let third = map access_words file.access_lines in
    let second = map state_words file.state_lines in
    let first = map node_words file.node_lines in
    omega (
      arith,
      lines_are_spelled (front_lines file),
      length-map file.suffix_lines suffix_words,
      length-append third last,
      length-append second (third ++ last),
      length-append first (second ++ (third ++ last)),
      length-append (head_lines file) (first ++ (second ++ (third ++ last))),
    )
