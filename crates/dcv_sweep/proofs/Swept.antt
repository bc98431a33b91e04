-- One formula more, drawn and counted after those before it.
use Rattle.std.proofs.Common.{◌≡◌, ℕ, zero, suc, ◌+◌, ◌*◌, ◌^◌, ◌≤◌, ◌<◌, Bool, cond, List, [], ◌∷◌, ◌++◌, length, refl, sym, ap, subst, ◌∙◌, arith, length-append}
use Rattle.std.specs.List.{AllZip}
use Rattle.std.specs.Prelude.{sum_by}
use Rattle.std.proofs.lemmas.List.Sums.{sum_by-append, count_by-le-length}
use Rattle.dcv_core.specs.Core.{CoreTree}
use Rattle.dcv_explore.specs.declared.explorer.Limits.{Limits}
use Rattle.dcv_sweep.specs.DrawnCores.{Drawn, drawn_formula, drawn_formulas}
use Rattle.dcv_sweep.specs.declared.findings.Finding.{Finding}
use Rattle.dcv_sweep.specs.declared.summary.Summary.{Summary}
use Rattle.dcv_sweep.specs.Counting.{counted, HasRoom, IsOneMore, IsSweptUpTo}
use Rattle.dcv_sweep.specs.Findings.{IsFinding, is_over, is_valid, is_satisfiable, states_of, summary_of, IsSummary}

-- ---- the formulas

abbrev behind : Drawn (List CoreTree) → Drawn (List CoreTree)
behind others =
    let last = drawn_formula others.after in
    record { made = others.made ++ last.made ∷ []; after = last.after }

drawn_more : (count seed : ℕ) → drawn_formulas (suc count) seed ≡ behind (drawn_formulas count seed)
unfolding drawn_formulas
drawn_more zero seed = refl
drawn_more (suc count) seed =
    let first = drawn_formula seed in
    ap (λ (others : Drawn (List CoreTree)). record { made = first.made ∷ others.made; after = others.after }) (drawn_more count first.after)

drawn_count : (count seed : ℕ) → length (drawn_formulas count seed).made ≡ count
unfolding drawn_formulas
drawn_count zero seed = refl
drawn_count (suc count) seed = ap suc (drawn_count count (drawn_formula seed).after)

-- ---- what is found of each

zip_more : {A B : Type 0} (R : A → B → Type 0) (xs : List A) (ys : List B) (x : A) (y : B) → AllZip R xs ys → R x y → AllZip R (xs ++ x ∷ []) (ys ++ y ∷ [])
zip_more R [] [] x y all last = (last, tt)
zip_more R [] (b ∷ ys) x y all last = absurd all
zip_more R (a ∷ xs) [] x y all last = absurd all
zip_more R (a ∷ xs) (b ∷ ys) x y all last = (all.0, zip_more R xs ys x y all.1 last)

zip_length : {A B : Type 0} (R : A → B → Type 0) (xs : List A) (ys : List B) → AllZip R xs ys → length xs ≡ length ys
zip_length R [] [] all = refl
zip_length R [] (b ∷ ys) all = absurd all
zip_length R (a ∷ xs) [] all = absurd all
zip_length R (a ∷ xs) (b ∷ ys) all = ap suc (zip_length R xs ys all.1)

-- ---- the counts

sum_more : (f : Finding → ℕ) (findings : List Finding) (last : Finding) → sum_by f (findings ++ last ∷ []) ≡ sum_by f findings + f last
sum_more f findings last = let one : 0 + f last ≡ f last = omega arith in sum_by-append f findings (last ∷ []) ∙ ap (λ n. sum_by f findings + n) one

counted_behind : (findings : List Finding) (last : Finding) → counted (summary_of findings) last ≡ summary_of (findings ++ last ∷ [])
counted_behind findings last =
    let formulas : length findings + 1 ≡ length (findings ++ last ∷ []) = omega (arith, length-append findings (last ∷ [])) in
    let test = λ (p : Finding → Bool). sum_more (λ finding. cond (p finding) 1 0) findings last in
    λ i. record {
      formulas = formulas i;
      valid = sym (test is_valid) i;
      satisfiable = sym (test is_satisfiable) i;
      over = sym (test is_over) i;
      states = sym (sum_more states_of findings last) i;
    }

-- ---- the loop

pub swept_none : (limits : Limits) (seed state : ℕ) (summary : Summary) → state ≡ seed
    → summary ≡ record { formulas = 0; valid = 0; satisfiable = 0; over = 0; states = 0 } → IsSweptUpTo limits seed 0 state summary
unfolding drawn_formulas
swept_none limits seed state summary begins none = record { findings = []; found = tt; counts = none; states = omega (arith, ap (λ (s : Summary). s.states) none); goes_on = begins }

module _ (limits : Limits) (seed count state : ℕ) (summary : Summary) (swept : IsSweptUpTo limits seed count state summary) where
  formulas_are : summary.formulas ≡ count
  formulas_are =
      ap (λ (s : Summary). s.formulas) swept.counts
      ∙ sym (zip_length (IsFinding limits 3) (drawn_formulas count seed).made swept.findings swept.found)
      ∙ drawn_count count seed

  pub has_room : count + 1 < 2 ^ 32 → HasRoom summary
  has_room within =
      let of = ap (λ (s : Summary). s.formulas) swept.counts in
      let valid = ap (λ (s : Summary). s.valid) swept.counts in
      let satisfiable = ap (λ (s : Summary). s.satisfiable) swept.counts in
      let over = ap (λ (s : Summary). s.over) swept.counts in
      record {
        valid = omega (arith, of, valid, count_by-le-length is_valid swept.findings);
        satisfiable = omega (arith, of, satisfiable, count_by-le-length is_satisfiable swept.findings);
        over = omega (arith, of, over, count_by-le-length is_over swept.findings);
        states = omega (arith, formulas_are, swept.states);
        one_more = omega (arith, formulas_are, within);
      }

  pub is_summary : (whole : ℕ) → count ≡ whole → IsSummary limits seed whole summary
  is_summary whole same = subst (λ n. IsSummary limits seed n summary) same (record { findings = swept.findings; found = swept.found; counted = swept.counts })

  module _ (after : ℕ) (grown : Summary) (more : IsOneMore limits state summary after grown) where
    last_found : IsFinding limits 3 (drawn_formula (drawn_formulas count seed).after).made more.finding
    last_found = subst (λ s. IsFinding limits 3 (drawn_formula s).made more.finding) swept.goes_on more.is

    states_then : grown.states ≤ suc count * 4294967296
    states_then = let of = ap (λ (s : Summary). s.states) more.grows in omega (arith, of, swept.states, more.few)

    swept_to : IsSweptUpTo limits seed (suc count) after grown
    swept_to = record {
      findings = swept.findings ++ more.finding ∷ [];
      found =
          subst (λ (drawn : Drawn (List CoreTree)). AllZip (IsFinding limits 3) drawn.made (swept.findings ++ more.finding ∷ [])) (sym (drawn_more count seed))
          (zip_more (IsFinding limits 3) (drawn_formulas count seed).made swept.findings _ more.finding swept.found last_found);
      counts = more.grows ∙ ap (λ s. counted s more.finding) swept.counts ∙ counted_behind swept.findings more.finding;
      states = states_then;
      goes_on = more.goes_on ∙ ap (λ s. (drawn_formula s).after) swept.goes_on ∙ sym (ap (λ (drawn : Drawn (List CoreTree)). drawn.after) (drawn_more count seed));
    }

    pub swept_more : IsSweptUpTo limits seed (count + 1) after grown
    swept_more = let next : suc count ≡ count + 1 = omega arith in subst (λ n. IsSweptUpTo limits seed n after grown) next swept_to
