-- What is told on the messages.
use Rattle.dcv_cli.proofs.Common.{ℕ, List, Option, Result, Ok, Err, length, sym, ◌∙◌, subst, arith, take-length, OnOk, OnErr, ⊤, true≢false}
use Rattle.dcv_cli.proofs.Common.{RisesIf, Appends, AppendsStrictPrefix, strict_is_prefix, Failed, Tells}
use Rattle.dcv_cli.proofs.Common.{◌≡◌, ◌++◌, codes, append_assoc, refl, line, message_of, Which, Only, First, Second, ap, decimal}
use Rattle.std.specs.Prelude.{is_err}
use Rattle.dcv_cli.specs.Refusal.{words_of, ended, end_of}
use Rattle.dcv_cli.specs.declared.refused.Refused.{Refused}
use Rattle.dcv_cli.specs.declared.refused.Which.TheVariants.{Number}

-- a message that was written, or a front of it where a write failed
pub tells : (message : List ℕ) (old new : Option (List ℕ)) (before after : ℕ) (result : Result ⊤ Failed) → OnOk result (Appends old new message)
    → OnErr result (AppendsStrictPrefix old new message) → RisesIf (is_err result) before after → Tells message old new before after
tells message old new before after (Ok done) whole front count =
    record { front = (length message, omega arith, subst (λ (bytes : List ℕ). Appends old new bytes) (sym (take-length message)) whole); whole = λ none. whole }
tells message old new before after (Err failed) whole front count =
    record { front = strict_is_prefix old new message front; whole = λ none. absurd (true≢false (sym count.risen ∙ none)) }

-- a line, by its words and its end
pub ends_line : (refused : Refused) → words_of refused.refusal ++ end_of refused.which ≡ message_of refused
ends_line refused = by refused.which (words_of refused.refusal)
  where
    by : (which : Which) (words : List ℕ) → words ++ end_of which ≡ line (ended which words)
    by Only words = refl
    by First words = sym (append_assoc words (codes " in first") (codes "\n"))
    by Second words = sym (append_assoc words (codes " in second") (codes "\n"))
    by (Number number) words =
        sym (append_assoc words (codes " in file " ++ decimal number) (codes "\n") ∙ ap (λ ending. words ++ ending) (append_assoc (codes " in file ") (decimal number) (codes "\n")))
