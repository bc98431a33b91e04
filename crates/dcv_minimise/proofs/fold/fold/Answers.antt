use Rattle.std.proofs.Common.{sym, subst, ◌∙◌}
use Rattle.dcv_dfa.specs.Raw.{RawValue, raw_value, automaton_of}
use Rattle.dcv_dfa.specs.Auto.{IsAutoWith}
use Rattle.dcv_reach.specs.Reached.{IsReached}
use Rattle.dcv_minimise.specs.Minimal.{IsMinimalOf}
use Rattle.dcv_minimise.proofs.Ends.{IsMade, made}
use Rattle.dcv_minimise.proofs.fold.fold.Goals as goal
use Rattle.dcv_minimise.proofs.fold.fold.Goals.{In_ok-new}

pub keep-requires-clause-reached : goal.keep-requires-clause-reached
keep-requires-clause-reached c = subst (IsReached c.args.raw.arena.slots (automaton_of c.args.raw)) (sym c.found.ensures.found) c.requires.reached

-- what is true of the rows and flags, once they are there
is_made : (c : In_ok-new) → IsMade c.args.raw c.in_ok-kept.kept.alone (raw_value c.in_ok-new.new.arena c.in_ok-new.new.rows.items c.in_ok-accepting.accepting.items 0)
is_made c =
    let kept = c.in_ok-kept in
    let new = c.in_ok-new in
    made c.args.raw new.ensures.raw c.args.blocks.now c.requires.partition c.args.reached.now.found c.found.result.now c.requires.reached kept.kept.states.items c.deref.result.now kept.kept.alone new.new.arena
    new.new.rows.items c.in_ok-accepting.accepting.items c.found.ensures.found c.deref.ensures.value kept.ensures.kept new.ensures.rows c.in_ok-accepting.ensures

pub new-folded-requires : goal.new-folded-requires
new-folded-requires c = (is_made (goal.at.new-folded-requires c).In_ok-new).is_raw

pub new-requires : goal.new-requires
new-requires c = subst (λ (auto : RawValue). IsAutoWith auto c.in_ok-kept.kept.alone) (sym c.new-folded.ensures) (is_made (goal.at.new-requires c).In_ok-new).auto

pub returns : goal.returns
returns c = subst (IsMinimalOf c.args.raw) (sym (c.new.ensures ∙ c.new-folded.ensures)) (is_made (goal.at.returns c).In_ok-new).minimal
