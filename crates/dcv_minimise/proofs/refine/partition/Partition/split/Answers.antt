use Rattle.std.proofs.Common.{◌≡◌, ◌<◌, ℕ, List, length, map, take, drop, ◌++◌, ap, sym, subst, ◌∙◌, arith}
use Rattle.dcv_minimise.specs.Rounds.{IsRound, IsWitnessed, HaveStayed}
use Rattle.dcv_minimise.specs.Division.{HasMoved, IsDivided}
use Rattle.dcv_minimise.specs.declared.refine.division.Move.{Move}
use Rattle.dcv_minimise.proofs.Pushed.{written_back}
use Rattle.dcv_minimise.proofs.MemberFacts.{chosen_witnessed, chosen_others}
use Rattle.dcv_minimise.proofs.DivisionFacts.{AreOthersAlike, is_round, is_witnessed, have_stayed, more_witnesses, moved_states}
use Rattle.dcv_minimise.proofs.refine.partition.Partition.split.Goals as goal
use Rattle.dcv_minimise.proofs.refine.partition.Partition.split.Goals.{After-drop-moves-2}

-- the blocks as they are written back
blocks_now : After-drop-moves-2 → List ℕ
blocks_now c = take c.args.self.now.blocks.len (c.apply.new.blocks ++ drop (length c.apply.new.blocks) c.args.self.now.blocks.items)

divided : (c : After-drop-moves-2) → IsDivided c.args.raw.now c.args.self.now.blocks.items c.args.listed.now.full c.args.self.now.witness.items c.divide.new.witness.items c.args.listed.now.states.items
    c.in_ok-moves.moves.items
divided c =
    subst (λ blocks. IsDivided c.args.raw.now blocks c.args.listed.now.full c.args.self.now.witness.items c.divide.new.witness.items c.args.listed.now.states.items c.in_ok-moves.moves.items)
    c.deref.ensures.value c.in_ok-moves.ensures

-- the same with the witnesses that were chosen
was : (c : After-drop-moves-2) → IsWitnessed c.args.raw.now c.args.self.now.blocks.items (divided c).chosen
was c =
    let d = divided c in
    chosen_witnessed c.args.raw.now c.args.self.now.blocks.items c.args.self.now.witness.items d.chosen c.args.listed.now.states.items c.args.listed.now.full c.requires.witnessed d.size d.is_chosen

others : (c : After-drop-moves-2) → AreOthersAlike c.args.raw.now c.args.self.now.blocks.items (divided c).chosen c.args.listed.now.states.items
others c =
    let d = divided c in
    chosen_others c.args.raw.now c.args.self.now.blocks.items c.args.self.now.witness.items d.chosen c.args.listed.now.states.items c.args.listed.now.full c.requires.witnessed d.size d.is_chosen
    c.requires.full c.requires.others

same_size : (c : After-drop-moves-2) → length c.apply.new.blocks ≡ length c.args.self.now.blocks.items
same_size c = omega (arith, c.apply.auto.blocks, ap length c.deref_mut.ensures.value)

moved : (c : After-drop-moves-2) (state : ℕ) → state < length c.args.self.now.blocks.items → HasMoved c.in_ok-moves.moves.items c.args.self.now.blocks.items c.apply.new.blocks state
moved c state within =
    let old = c.deref_mut.ensures.value in
    let here : state < length c.deref_mut.result.now = omega (arith, ap length old, within) in
    subst (λ moves. HasMoved moves c.args.self.now.blocks.items c.apply.new.blocks state) c.deref-3.ensures.value
    (subst (λ blocks. HasMoved c.deref-3.result.now blocks c.apply.new.blocks state) old (c.apply.ensures state here))

written : (c : After-drop-moves-2) → c.apply.new.blocks ≡ blocks_now c
unfolding blocks_now
written c = sym (written_back c.apply.new.blocks c.args.self.now.blocks.items c.args.self.now.blocks.len (same_size c) c.args.self.now.blocks.ok.0)

states : (c : After-drop-moves-2) → c.in_ok-moved.moved.items ≡ map (λ move. move.state) c.in_ok-moves.moves.items
states c = c.in_ok-moved.ensures ∙ ap (map (λ (move : Move). move.state)) c.deref-2.ensures.value

pub returns-clause-round : goal.returns-clause-round
unfolding blocks_now
returns-clause-round c =
    subst (IsRound c.args.raw.now c.args.self.now.blocks.items) (written c)
    (is_round c.args.raw.now c.args.self.now.blocks.items c.apply.new.blocks (divided c).chosen c.divide.new.witness.items c.args.listed.now.states.items c.in_ok-moves.moves.items
    (was c) (others c) (divided c).division (same_size c) (moved c))

pub returns-clause-witnessed : goal.returns-clause-witnessed
unfolding blocks_now
returns-clause-witnessed c =
    subst (λ blocks. IsWitnessed c.args.raw.now blocks c.divide.new.witness.items) (written c)
    (is_witnessed c.args.raw.now c.args.self.now.blocks.items c.apply.new.blocks (divided c).chosen c.divide.new.witness.items c.args.listed.now.states.items c.in_ok-moves.moves.items
    (was c) (others c) (divided c).division (same_size c) (moved c))

pub returns-clause-stayed : goal.returns-clause-stayed
unfolding blocks_now
returns-clause-stayed c =
    subst (λ blocks. HaveStayed c.args.raw.now c.args.self.now.blocks.items blocks c.in_ok-moved.moved.items) (written c)
    (have_stayed c.args.raw.now c.args.self.now.blocks.items c.apply.new.blocks (divided c).chosen c.divide.new.witness.items c.args.listed.now.states.items c.in_ok-moves.moves.items
    (was c) (others c) (divided c).division (same_size c) (moved c) c.in_ok-moved.moved.items (states c))

pub returns-clause-more : goal.returns-clause-more
returns-clause-more c some =
    omega (
      arith,
      (divided c).size,
      more_witnesses c.args.raw.now c.args.self.now.blocks.items c.apply.new.blocks (divided c).chosen c.divide.new.witness.items c.args.listed.now.states.items c.in_ok-moves.moves.items
          (was c) (others c) (divided c).division (same_size c) (moved c) c.in_ok-moved.moved.items (states c) some,
    )

pub returns-clause-states : goal.returns-clause-states
returns-clause-states c =
    moved_states c.args.raw.now c.args.self.now.blocks.items c.apply.new.blocks (divided c).chosen c.divide.new.witness.items c.args.listed.now.states.items c.in_ok-moves.moves.items
    (was c) (others c) (divided c).division (same_size c) (moved c) c.in_ok-moved.moved.items (states c)
