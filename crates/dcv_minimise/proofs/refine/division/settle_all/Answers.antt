use Rattle.std.proofs.Common.{subst, ◌∙◌, arith, refl}
use Rattle.std.specs.List.{All}
use Rattle.std.proofs.lemmas.List.{take_all, length-map}
use Rattle.std.proofs.lemmas.List.Elements.{All-nil, All-weaker}
use Rattle.dcv_minimise.specs.Keys.{IsKeyed, states_in}
use Rattle.dcv_minimise.specs.declared.refine.keys.Keyed.{Keyed}
use Rattle.dcv_minimise.proofs.KeyFacts.{key_kept, all_states, this_state}
use Rattle.dcv_minimise.specs.Division.{IsDividing, IsSettled}
use Rattle.dcv_minimise.proofs.DivisionStart.{dividing_start, settled_more}
use Rattle.dcv_minimise.proofs.refine.division.settle_all.Goals as goal

pub loop-keyed-init : goal.loop-keyed-init
loop-keyed-init c =
    let raw = c.args.raw.now in
    let witness = c.args.witness.now in
    record {
      keys = c.requires.keys;
      keyed = c.requires.listed;
      dividing = dividing_start raw c.args.blocks.now witness.items c.args.keys.renumbering.own c.new.result.keys c.new-2.result.items c.requires.witnessed c.new.ensures.empty c.new-2.ensures.items;
      settled = All-nil (IsSettled raw c.args.blocks.now witness.items c.new-2.result.items);
      firsts = λ block within. refl;
      count = c.len.ensures ∙ witness.ok.0;
    }

pub loop-keyed-preserved : goal.loop-keyed-preserved
loop-keyed-preserved c =
    let raw = c.args.raw.now in
    let was = c.loop-keyed.invariant in
    let all = c.in_ok-settle.ensures in
    let count = was.count in
    let listed = c.args.listed.now in
    record {
      keys = all.keys;
      keyed = All-weaker (IsKeyed raw c.args.blocks.now c.loop-keyed.division.keys.renumbering.own) (IsKeyed raw c.args.blocks.now c.settle.new.self.keys.renumbering.own)
          (λ keyed is. record { is_state = is.is_state; is_key = key_kept raw c.args.blocks.now c.loop-keyed.division.keys.renumbering.own c.settle.new.self.keys.renumbering.own keyed.state keyed.key all.refs is.is_key })
          c.args.listed.now was.keyed;
      dividing = subst (λ count. IsDividing raw c.args.blocks.now count c.settle.new.self.keys.renumbering.own c.settle.new.witness.items c.settle.new.self.parts.keys c.settle.new.self.moves.items) count all.dividing;
      settled = settled_more raw c.args.blocks.now c.loop-keyed.witness.items c.settle.new.witness.items c.loop-keyed.division.moves.items c.settle.new.self.moves.items
          (states_in listed) c.loop-keyed.keyed-index (omega (arith, c.loop-keyed-test.true, length-map listed (λ (keyed : Keyed). keyed.state)))
          (all_states raw c.args.blocks.now c.args.keys.renumbering.own listed c.requires.listed) was.settled all.kept
          (subst (IsSettled raw c.args.blocks.now c.settle.new.witness.items c.settle.new.self.moves.items) (this_state listed c.loop-keyed.keyed-index _ c.loop-keyed-test.true) all.settled);
      firsts = λ block within. all.firsts block (omega (arith, count, within)) ∙ was.firsts block within;
      count = all.count ∙ count;
    }

pub returns : goal.returns
returns c =
    let was = c.loop-keyed.invariant in
    record {
      grouped = was.dividing.grouped;
      firsts = was.firsts;
      settled = subst (All (IsSettled c.args.raw.now c.args.blocks.now c.loop-keyed.witness.items c.loop-keyed.division.moves.items))
          (take_all c.loop-keyed.keyed-index (states_in c.args.listed.now) (omega (arith, c.loop-keyed-test.false, length-map c.args.listed.now (λ (keyed : Keyed). keyed.state)))) was.settled;
      each_move = was.dividing.each_move;
    }
