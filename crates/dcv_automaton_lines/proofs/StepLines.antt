-- The lines of steps are read one after another, and a step part stands for what follows the sections.
use Rattle.std.proofs.Common.{◌≡◌, ℕ, zero, suc, ◌<◌, List, [], ◌∷◌, ◌++◌, length, map, drop, get_or, refl, sym, ap, ◌∙◌, subst, arith}
use Rattle.std.specs.Prelude.{codes, slice_index_or, Option, None, Some, IfSome}
use Rattle.std.specs.Fmt.{decimal}
use Rattle.std.specs.List.{All, flat_map}
use Rattle.std.proofs.lemmas.List.{append_assoc}
use Rattle.std.proofs.lemmas.List.Elements.{All-push}
use Rattle.dcv_automaton_text.specs.File.{StepLine, StepPart}
use Rattle.dcv_automaton_text.specs.Form.{IsNumber, IsStepLine, IsStepPart}
use Rattle.dcv_automaton_text.specs.Spelled.{step_words, step_part, end_lines, spelled_line}
use Rattle.dcv_automaton_lines.specs.Pieces.{Exactly, Nothing, Followed, IsStuckIn, IsFaultAt}
use Rattle.dcv_automaton_lines.specs.Parts.{NumberWord, StepBody, EndLine, WholeStep, StepTail, NoStep, NextStep, Closed, closing_word, closing_end, version_at, words_then}
use Rattle.dcv_automaton_lines.specs.Seen.{step_line_of}
use Rattle.dcv_automaton_lines.specs.declared.lines.StepLine.{StepLine as CodeLine}
use Rattle.dcv_automaton_lines.specs.declared.version.Version.{Version}
use Rattle.dcv_automaton_lines.specs.declared.version.Version.TheVariants.{First, Second}
use Rattle.dcv_automaton_lines.proofs.Pieces.{append_none, fault_after, stuck_behind, stuck_in_first, stuck_in_second, stuck_is_fault, leads_followed}
use Rattle.dcv_automaton_lines.proofs.WordSets.{stuck_exactly, number_words, exact_words}
use Rattle.dcv_automaton_lines.proofs.LineSets.{within, some_step_body, number_of, exactly, away_from_step, away_from_end}
use Rattle.dcv_automaton_lines.proofs.StepSets.{some_step_tail, leads_step, leads_end, stuck_in_step}
use Rattle.dcv_automaton_lines.proofs.Gathering.{map_more, one_line, some_then, words_spelled, then_back, ended, more_words, followed_is}

-- ---- the text of a line

step_is : (line : StepLine) → IsStepLine line → WholeStep (words_then (step_words line) [])
step_is line is =
    more_words 32 (codes "step") _ (exactly (codes "step")) (more_words 32 (decimal line.number) _ (number_of line.number is.number)
    (more_words 32 (codes "at") _ (exactly (codes "at")) (more_words 32 (decimal line.at) _ (number_of line.at is.at)
    (more_words 32 (codes "states") _ (exactly (codes "states")) (more_words 32 (decimal line.states) _ (number_of line.states is.states)
    (more_words 32 (codes "nodes") _ (exactly (codes "nodes")) (ended 10 (decimal line.nodes) (number_of line.nodes is.nodes))))))))

-- ---- one line more

pub record StepsStep (lines : List StepLine) (text behind : List ℕ) : Type 0 where
  pub form : All IsStepLine lines
  pub spelled : text ≡ flat_map spelled_line (map step_words lines) ++ behind
  pub fault : (left : List ℕ) → IsFaultAt StepTail behind left → IsFaultAt StepTail text left

step_added : (lines : List StepLine) (line : StepLine) (text rest body behind : List ℕ) → IsStepLine line → All IsStepLine lines
    → text ≡ flat_map spelled_line (map step_words lines) ++ rest → rest ≡ codes "step " ++ body → body ≡ words_then (drop 1 (step_words line)) behind
    → ((left : List ℕ) → IsFaultAt StepTail rest left → IsFaultAt StepTail text left) → StepsStep (lines ++ line ∷ []) text behind
step_added lines line text rest body behind is all spelled next said fault =
    let whole : rest ≡ words_then (step_words line) behind = next ∙ ap (λ b. codes "step " ++ b) said in
    record {
      form = All-push IsStepLine lines line all is;
      spelled = spelled ∙ ap (λ r. flat_map spelled_line (map step_words lines) ++ r) whole ∙ sym (one_line (map step_words lines) (step_words line) (omega arith) behind)
          ∙ ap (λ words. flat_map spelled_line words ++ behind) (sym (map_more step_words lines line));
      fault = λ left here. fault left (fault_after (leads_step (words_then (step_words line) []) (step_is line is)) (whole ∙ then_back (step_words line) behind) here);
    }

pub steps_step : (lines new : List CodeLine) (line : CodeLine) (text rest body behind : List ℕ) → new ≡ lines ++ line ∷ [] → IsStepLine (step_line_of line)
    → All IsStepLine (map step_line_of lines) → text ≡ flat_map spelled_line (map step_words (map step_line_of lines)) ++ rest → rest ≡ codes "step " ++ body
    → body ≡ words_then (drop 1 (step_words (step_line_of line))) behind
    → ((left : List ℕ) → IsFaultAt StepTail rest left → IsFaultAt StepTail text left) → StepsStep (map step_line_of new) text behind
steps_step lines new line text rest body behind news is all spelled next said fault =
    subst (λ (lines : List StepLine). StepsStep lines text behind) (sym (ap (map step_line_of) news ∙ map_more step_line_of lines line))
    (step_added (map step_line_of lines) (step_line_of line) text rest body behind is all spelled next said fault)

-- ---- stuck in a line

module _ (text : List ℕ) (begins : (0 < length text) × (slice_index_or text 0 0 ≡ 115)) where
  pub fault_in_step : (left : List ℕ) → IsStuckIn (Exactly (codes "step ")) text left → IsFaultAt StepTail text left
  fault_in_step left stuck = stuck_in_step (stuck_in_second (within some_step_body (stuck_exactly (codes "step ") (codes "step") 32 refl stuck)) (away_from_end text begins))

  pub fault_in_body : (body left : List ℕ) → text ≡ codes "step " ++ body → IsStuckIn StepBody body left → IsFaultAt StepTail text left
  fault_in_body body left whole stuck =
      stuck_in_step (stuck_in_second (stuck_behind (exact_words (codes "step") refl) 32 refl (exactly (codes "step")) whole stuck) (away_from_end text begins))

pub fault_in_end : (text left : List ℕ) → ((0 < length text) × (slice_index_or text 0 0 ≡ 115) → ⊥) → IsStuckIn EndLine text left → IsFaultAt StepTail text left
fault_in_end text left never stuck = stuck_in_step (stuck_in_first stuck (away_from_step text never))

pub fault_behind_end : (text behind : List ℕ) → text ≡ codes "end\n" ++ behind → (left : List ℕ) → IsFaultAt Nothing behind left → IsFaultAt StepTail text left
fault_behind_end text behind whole left fault = fault_after leads_end whole fault

-- ---- the step part

module _ (version : Version) (is : version ≡ Second) (text : List ℕ) where
  of_second : (left : List ℕ) → IsFaultAt (Closed Second) text left → IsFaultAt (Closed version) text left
  of_second left fault = subst (λ (v : Version). IsFaultAt (Closed v) text left) (sym is) fault

  pub fault_in_count : (left : List ℕ) → IsStuckIn (Followed NumberWord 10 Nothing) text left → IsFaultAt (Closed version) text left
  fault_in_count left stuck = of_second left (stuck_is_fault (within some_step_tail stuck))

  pub fault_behind_count : (rest : List ℕ) (count : ℕ) → IsNumber count → text ≡ decimal count ++ 10 ∷ rest → (left : List ℕ) → IsFaultAt StepTail rest left
      → IsFaultAt (Closed version) text left
  fault_behind_count rest count small whole left fault =
      of_second left (fault_after (leads_followed number_words 10 refl (decimal count) (number_of count small)) (whole ∙ sym (append_assoc (decimal count) (10 ∷ []) rest)) fault)

-- the text after the sections, from the word that closes them on
pub record ClosedBy (version : Version) (text : List ℕ) : Type 0 where
  pub back : List ℕ
  pub back_is : Closed version back
  pub whole : text ≡ closing_word version ++ closing_end version ∷ back

pub alone : (words : List (List ℕ)) → 0 < length words → spelled_line words ≡ words_then words []
alone words some = sym (append_none (spelled_line words)) ∙ some_then words some []

tail_of_steps : (lines : List StepLine) → All IsStepLine lines → StepTail (flat_map spelled_line (map step_words lines ++ end_lines))
tail_of_steps [] all = NoStep (codes "end\n") (exactly (codes "end\n"))
tail_of_steps (line ∷ lines) all =
    let is : WholeStep (words_then (step_words line) []) = step_is line (all 0 line (omega arith)) in
    let more = flat_map spelled_line (map step_words lines ++ end_lines) in
    NextStep (spelled_line (step_words line) ++ more) (spelled_line (step_words line)) more (subst WholeStep (sym (alone (step_words line) (omega arith))) is)
    (tail_of_steps lines (λ k d l. all (suc k) d (omega arith))) refl

pub closed_of_steps : (steps : Option StepPart) → IfSome steps IsStepPart → ClosedBy (version_at steps) (flat_map spelled_line (step_part steps ++ end_lines))
closed_of_steps None is = record { back = []; back_is = record { is = refl }; whole = refl }
closed_of_steps (Some part) is =
    let lines = flat_map spelled_line (map step_words part.lines ++ end_lines) in
    record {
      back = decimal part.count ++ 10 ∷ lines;
      back_is = record { word = decimal part.count; back = lines; word_is = number_of part.count is.count; back_is = tail_of_steps part.lines is.lines; whole = refl };
      whole = words_spelled (codes "steps") (decimal part.count ∷ []) lines;
    }

record TheSteps (text : List ℕ) : Type 0 where
  lines : List StepLine
  form : All IsStepLine lines
  whole : text ≡ flat_map spelled_line (map step_words lines ++ end_lines)

record TheStep (text : List ℕ) : Type 0 where
  line : StepLine
  form : IsStepLine line
  whole : text ≡ words_then (step_words line) []

the_step : (text : List ℕ) → WholeStep text → TheStep text
the_step text step =
    let a = step.back_is in
    let b = a.back_is in
    let c = b.back_is in
    let d = c.back_is in
    let e = d.back_is in
    let f = e.back_is in
    let g = f.back_is in
    let plain : StepLine = record { number = a.word_is.number; at = c.word_is.number; states = e.word_is.number; nodes = g.word_is.number } in
    record {
      line = plain;
      form = record { number = a.word_is.small; at = c.word_is.small; states = e.word_is.small; nodes = g.word_is.small };
      whole = followed_is step (codes "step") _ step.word_is.is (followed_is a _ _ a.word_is.is (followed_is b (codes "at") _ b.word_is.is (followed_is c _ _ c.word_is.is
          (followed_is d (codes "states") _ d.word_is.is (followed_is e _ _ e.word_is.is (followed_is f (codes "nodes") _ f.word_is.is (followed_is g _ [] g.word_is.is g.back_is.is)))))));
    }

all_with : (line : StepLine) (lines : List StepLine) → IsStepLine line → All IsStepLine lines → All IsStepLine (line ∷ lines)
all_with line lines is all = λ k. at_place k
  where
    at_place : (k : ℕ) (d : StepLine) → k < length (line ∷ lines) → IsStepLine (get_or (line ∷ lines) k d)
    at_place zero d l = is
    at_place (suc k) d l = all k d (omega arith)

the_steps : (text : List ℕ) → StepTail text → TheSteps text
the_steps text (NoStep _ end) = record { lines = []; form = λ k d l. absurd (omega arith); whole = end.is }
the_steps text (NextStep _ front back step tail whole) =
    let first = the_step front step in
    let rest = the_steps back tail in
    record {
      lines = first.line ∷ rest.lines;
      form = all_with first.line rest.lines first.form rest.form;
      whole = whole ∙ (λ i. (first.whole ∙ sym (alone (step_words first.line) (omega arith))) i ++ rest.whole i);
    }

-- the step part of what stands after the sections
pub record TheClosed (version : Version) (back : List ℕ) : Type 0 where
  pub steps : Option StepPart
  pub is : IfSome steps IsStepPart
  pub versions : version_at steps ≡ version
  pub whole : closing_word version ++ closing_end version ∷ back ≡ flat_map spelled_line (step_part steps ++ end_lines)

pub the_closed : (version : Version) (back : List ℕ) → Closed version back → TheClosed version back
the_closed First back none = record { steps = None; is = tt; versions = refl; whole = ap (λ b. codes "end" ++ 10 ∷ b) none.is }
the_closed Second back counted =
    let number = counted.word_is in
    let the = the_steps counted.back counted.back_is in
    let part : StepPart = record { count = number.number; lines = the.lines } in
    record {
      steps = Some part;
      is = record { count = number.small; lines = the.form };
      versions = refl;
      whole = ap (λ b. codes "steps" ++ 32 ∷ b) (followed_is counted (decimal number.number) _ number.is the.whole)
          ∙ sym (words_spelled (codes "steps") (decimal number.number ∷ []) (flat_map spelled_line (map step_words the.lines ++ end_lines)));
    }
