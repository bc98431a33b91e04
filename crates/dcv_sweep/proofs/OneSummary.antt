-- There is one finding for a formula, and so one summary for a seed.
use Rattle.std.proofs.Common.{◌≡◌, ℕ, List, [], ◌∷◌, refl, sym, ap, ◌∙◌}
use Rattle.std.specs.List.{AllZip}
use Rattle.std.specs.Prelude.{length, is_none, is_some}
use Rattle.dcv_language.specs.Language.{Language}
use Rattle.dcv_language.specs.Laws.{OneVerdict, OneCanonicalTable}
use Rattle.dcv_core.specs.Core.{CoreTree}
use Rattle.dcv_core.specs.Holds.{words_of}
use Rattle.dcv_explore.specs.declared.explorer.Limits.{Limits}
use Rattle.dcv_build.specs.Laws.{WithinExcludesOver}
use Rattle.dcv_sweep.specs.DrawnCores.{drawn_formulas}
use Rattle.dcv_sweep.specs.declared.findings.Finding.{Finding}
use Rattle.dcv_sweep.specs.declared.findings.Finding.TheVariants.{Over, Within}
use Rattle.dcv_sweep.specs.declared.findings.Judgement.{Judgement}
use Rattle.dcv_sweep.specs.Findings.{IsJudgement, IsFinding, summary_of}
use Rattle.dcv_sweep.specs.Laws.{OneSummary}

one_judgement : OneVerdict → OneCanonicalTable → (k : ℕ) (L : Language) (one other : Judgement) → IsJudgement k L one → IsJudgement k L other → one ≡ other
one_judgement verdicts tables k L one other here there =
    let verdict = verdicts k L here.verdict there.verdict here.is_verdict there.is_verdict in
    let table = (tables k L here.table there.table here.access there.access here.canonical there.canonical).0 in
    let valid = here.valid_is ∙ (λ i. is_none (verdict i).counterexample) ∙ sym there.valid_is in
    let satisfiable = here.satisfiable_is ∙ (λ i. is_some (verdict i).example) ∙ sym there.satisfiable_is in
    let states = here.states_are ∙ ap length table ∙ sym there.states_are in
    λ i. record { valid = valid i; satisfiable = satisfiable i; states = states i }

one_finding : WithinExcludesOver → OneVerdict → OneCanonicalTable → (limits : Limits) (k : ℕ) (tree : CoreTree) (one other : Finding)
    → IsFinding limits k tree one → IsFinding limits k tree other → one ≡ other
one_finding excludes verdicts tables limits k tree Over Over here there = refl
one_finding excludes verdicts tables limits k tree Over (Within other) here there = absurd (excludes k tree limits here.kind here.number there.0 here.is_over)
one_finding excludes verdicts tables limits k tree (Within one) Over here there = absurd (excludes k tree limits there.kind there.number here.0 there.is_over)
one_finding excludes verdicts tables limits k tree (Within one) (Within other) here there = ap Within (one_judgement verdicts tables k (words_of tree) one other here.1 there.1)

-- at each place there is one
one_list : {A B : Type 0} (R : A → B → Type 0) → ((x : A) (y z : B) → R x y → R x z → y ≡ z) → (xs : List A) (ys zs : List B) → AllZip R xs ys → AllZip R xs zs → ys ≡ zs
one_list R one [] [] [] here there = refl
one_list R one [] [] (z ∷ zs) here there = absurd there
one_list R one [] (y ∷ ys) zs here there = absurd here
one_list R one (x ∷ xs) [] zs here there = absurd here
one_list R one (x ∷ xs) (y ∷ ys) [] here there = absurd there
one_list R one (x ∷ xs) (y ∷ ys) (z ∷ zs) here there =
    let first = one x y z here.0 there.0 in
    let others = one_list R one xs ys zs here.1 there.1 in
    λ i. first i ∷ others i

pub one_summary : WithinExcludesOver → OneVerdict → OneCanonicalTable → OneSummary
one_summary excludes verdicts tables limits seed count one other here there =
    let findings = one_list (IsFinding limits 3) (one_finding excludes verdicts tables limits 3) (drawn_formulas count seed).made here.findings there.findings here.found there.found in
    here.counted ∙ ap summary_of findings ∙ sym there.counted
