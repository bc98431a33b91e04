-- A set has one verdict, so the text of one says each.
use Rattle.std.proofs.Common.{◌≡◌, ℕ, List, ap, ◌∙◌}
use Rattle.dcv_language.specs.Language.{Language}
use Rattle.dcv_language.specs.Laws.{OneVerdict}
use Rattle.dcv_language.specs.Verdict.{Verdict, IsVerdict}
use Rattle.dcv_language.specs.VerdictText.{verdict_text}
use Rattle.dcv_print.specs.Said.{SaysEachVerdict}

pub says_each : OneVerdict → (k : ℕ) (L : Language) (one : Verdict) (text : List ℕ) → IsVerdict k L one → text ≡ verdict_text one
    → SaysEachVerdict k L text
says_each one_verdict k L one text is says other other_is = says ∙ ap verdict_text (one_verdict k L one other is other_is)
