-- What stands after the sections: the lines of steps, and where a text is stuck in them.
use Rattle.std.proofs.Common.{◌≡◌, ℕ, List, [], ◌∷◌, ◌++◌, inl, inr, refl, sym, ap, ◌∙◌, subst, arith}
use Rattle.std.specs.Prelude.{codes}
use Rattle.std.specs.Fmt.{decimal}
use Rattle.std.proofs.lemmas.List.{append_assoc}
use Rattle.dcv_automaton_lines.specs.Pieces.{Nothing, Either, IsNoFurther, IsStuckIn, IsFrontOnly, IsFaultAt}
use Rattle.dcv_automaton_lines.specs.Parts.{EndLine, WholeStep, StepTail, NoStep, NextStep, Closed}
use Rattle.dcv_automaton_lines.specs.declared.version.Version.{Version}
use Rattle.dcv_automaton_lines.specs.declared.version.Version.TheVariants.{First, Second}
use Rattle.dcv_automaton_lines.proofs.Pieces.{append_none, Leads}
use Rattle.dcv_automaton_lines.proofs.LineSets.{Some, some_nothing, no_longer_step, end_and_step_differ, number_of, exactly}

-- ---- some text of each set

end_tail : StepTail (codes "end\n")
end_tail = NoStep (codes "end\n") (exactly (codes "end\n"))

pub some_step_tail : Some StepTail
some_step_tail = record { text = codes "end\n"; is = end_tail }

pub some_closed : (version : Version) → Some (Closed version)
some_closed First = some_nothing
some_closed Second =
    record { text = decimal 0 ++ 10 ∷ codes "end\n"; is = record { word = decimal 0; back = codes "end\n"; word_is = number_of 0 (omega arith); back_is = end_tail; whole = refl } }

-- ---- after a line

module _ (front : List ℕ) (line : WholeStep front) where
  behind_step : (text more rest : List ℕ) → StepTail text → text ++ more ≡ front ++ rest → (back : List ℕ) × (StepTail back × (text ≡ front ++ back))
  behind_step text more rest (NoStep _ end) same = absurd (end_and_step_differ text front more rest end line same)
  behind_step text more rest (NextStep _ other back other_line tail whole) same =
      let one = no_longer_step.same other front (back ++ more) rest other_line line (sym (append_assoc other back more) ∙ ap (λ t. t ++ more) (sym whole) ∙ same) in
      (back, (tail, whole ∙ ap (λ f. f ++ back) one))

  pub leads_step : Leads StepTail front StepTail
  leads_step = record { into = λ rest tail. NextStep (front ++ rest) front rest line tail refl; from = behind_step }

behind_end : (text more rest : List ℕ) → StepTail text → text ++ more ≡ codes "end\n" ++ rest → (back : List ℕ) × (Nothing back × (text ≡ codes "end\n" ++ back))
behind_end text more rest (NoStep _ end) same = ([], (record { is = refl }, end.is))
behind_end text more rest (NextStep _ other back line tail whole) same =
    absurd (end_and_step_differ (codes "end\n") other rest (back ++ more) (exactly (codes "end\n")) line
    (sym same ∙ ap (λ t. t ++ more) whole ∙ append_assoc other back more))

pub leads_end : Leads StepTail (codes "end\n") Nothing
leads_end = record { into = λ rest none. subst StepTail (ap (λ r. codes "end\n" ++ r) (sym none.is)) end_tail; from = behind_end }

-- ---- stuck in a line

-- what follows begins with the line of a step or the last line
record FirstOf (text : List ℕ) : Type 0 where
  line : List ℕ
  back : List ℕ
  line_is : Either EndLine WholeStep line
  whole : text ≡ line ++ back

first_of : (text : List ℕ) → StepTail text → FirstOf text
first_of text (NoStep _ end) = record { line = text; back = []; line_is = record { which = inl end }; whole = sym (append_none text) }
first_of text (NextStep _ front back line tail whole) = record { line = front; back = back; line_is = record { which = inr line }; whole = whole }

only_in_step : (front left : List ℕ) → IsNoFurther (Either EndLine WholeStep) front left → IsFrontOnly StepTail front left
only_in_step front [] none = λ tail. let begin = first_of front tail in none begin.line begin.back begin.line_is (sym begin.whole)
only_in_step front (b ∷ left) none = λ other tail.
    let begin = first_of (front ++ b ∷ other) tail in none begin.line begin.back other begin.line_is (sym begin.whole)

some_behind : (line : List ℕ) → Either EndLine WholeStep line → Some (λ back. StepTail (line ++ back))
some_behind line is = elim is.which [
  | inl end ↦ record { text = []; is = NoStep (line ++ []) (record { is = append_none line ∙ end.is }) }
  | inr step ↦ record { text = codes "end\n"; is = NextStep (line ++ codes "end\n") line (codes "end\n") step end_tail refl }
]

pub stuck_in_step : {text left : List ℕ} → IsStuckIn (Either EndLine WholeStep) text left → IsFaultAt StepTail text left
stuck_in_step {left = left} stuck =
    let after = some_behind (stuck.front ++ stuck.viable.more) stuck.viable.member in
    record {
      front = stuck.front;
      cut = stuck.cut;
      viable = record { more = stuck.viable.more ++ after.text; member = subst StepTail (append_assoc stuck.front stuck.viable.more after.text) after.is };
      fault = only_in_step stuck.front left stuck.stuck;
    }
