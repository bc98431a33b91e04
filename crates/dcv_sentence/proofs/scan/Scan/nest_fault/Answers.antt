use Rattle.std.proofs.Common.{◌≡◌, ℕ, ◌+◌, ◌<◌, ◌∙◌, map, take, get_or, length, refl, sym, ap, arith}
use Rattle.dcv_tokens.specs.Reading.{seen}
use Rattle.dcv_sentence.specs.Faults.{depth}
use Rattle.dcv_sentence.proofs.Depths.{deeper, depth-more, deeper-begins, deeper-nests, deeper-same, too_deep, within-more}
use Rattle.dcv_sentence.proofs.FaultKinds.{start_at}
use Rattle.dcv_sentence.proofs.scan.Scan.nest_fault.Goals as goal
use Rattle.dcv_sentence.proofs.scan.Scan.nest_fault.Goals.{then-begins_part, else-begins_part+then-nests, else-begins_part+else-nests}

pub returns-then-depth-gt-DEEPEST : goal.returns-then-depth-gt-DEEPEST
returns-then-depth-gt-DEEPEST c =
    let self = c.args.self.now in
    let tokens = map seen self.tokens.items in
    let place = c.loop-token.token-index in
    let token = c.token-item.result in
    let inside : place < length self.tokens.items = omega (arith, ap length c.deref-token-items.ensures.value) in
    let is = c.token-item.is ∙ ap (λ items. get_or items place token) c.deref-token-items.ensures.value in
    let now : c.if-begins_part.depth ≡ deeper c.loop-token.depth (seen token) = elim c.if-begins_part.branch [
      | then-begins_part w ↦ w.depth-is ∙ sym (deeper-begins c.loop-token.depth (seen token) (sym c.begins_part.ensures ∙ w.if-begins_part.true))
      | else-begins_part+then-nests w ↦ w.depth-is ∙ sym (deeper-nests c.loop-token.depth (seen token) (sym c.begins_part.ensures ∙ w.if-begins_part.false) (sym w.nests.ensures ∙ w.if-nests.true))
      | else-begins_part+else-nests w ↦ w.depth-is ∙ sym (deeper-same c.loop-token.depth (seen token) (sym c.begins_part.ensures ∙ w.if-begins_part.false) (sym w.nests.ensures ∙ w.if-nests.false))
    ] in
    let more : depth (take (place + 1) tokens) ≡ c.if-begins_part.depth = depth-more self.tokens.items place token inside is ∙ sym (now ∙ ap (λ (n : ℕ). deeper n (seen token)) c.loop-token.invariant.current) in (
      token.start,
      refl,
      (
        place,
        too_deep tokens place c.loop-token.invariant.within (omega arith),
        ap (λ t. t.start) is ∙ start_at self.text.now self.tokens.items place token inside,
      ),
    )

pub loop-token-preserved : goal.loop-token-preserved
loop-token-preserved c =
    let self = c.args.self.now in
    let tokens = map seen self.tokens.items in
    let place = c.loop-token.token-index in
    let token = c.token-item.result in
    let inside : place < length self.tokens.items = omega (arith, ap length c.deref-token-items.ensures.value) in
    let is = c.token-item.is ∙ ap (λ items. get_or items place token) c.deref-token-items.ensures.value in
    let now : c.if-begins_part.depth ≡ deeper c.loop-token.depth (seen token) = elim c.if-begins_part.branch [
      | then-begins_part w ↦ w.depth-is ∙ sym (deeper-begins c.loop-token.depth (seen token) (sym c.begins_part.ensures ∙ w.if-begins_part.true))
      | else-begins_part+then-nests w ↦ w.depth-is ∙ sym (deeper-nests c.loop-token.depth (seen token) (sym c.begins_part.ensures ∙ w.if-begins_part.false) (sym w.nests.ensures ∙ w.if-nests.true))
      | else-begins_part+else-nests w ↦ w.depth-is ∙ sym (deeper-same c.loop-token.depth (seen token) (sym c.begins_part.ensures ∙ w.if-begins_part.false) (sym w.nests.ensures ∙ w.if-nests.false))
    ] in
    let more : depth (take (place + 1) tokens) ≡ c.if-begins_part.depth = depth-more self.tokens.items place token inside is ∙ sym (now ∙ ap (λ (n : ℕ). deeper n (seen token)) c.loop-token.invariant.current) in
    record { current = sym more; within = within-more tokens place c.loop-token.invariant.within (omega arith) }
