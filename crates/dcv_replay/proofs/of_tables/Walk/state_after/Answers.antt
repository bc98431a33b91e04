use Rattle.std.proofs.Common.{ℕ, ◌<◌, sym, subst, arith}
use Rattle.std.proofs.lemmas.List.{length-map}
use Rattle.dcv_c_tables.specs.Meaning.{state_by}
use Rattle.dcv_tables_read.specs.Seen.{seen_state}
use Rattle.dcv_replay.specs.Seen.{seen_walk}
use Rattle.dcv_replay.proofs.TableSteps.{IsOnWay, node_there, next_below, goes_on, arrived}
use Rattle.dcv_replay.proofs.of_tables.Walk.state_after.Goals as goal

pub next_place-place-requires : goal.next_place-place-requires
next_place-place-requires c = node_there c.requires.walk c.args.letter.now c.loop-place.invariant (omega (arith, c.loop-place-test.true, c.len.ensures, length-map c.args.self.now.states.items seen_state))

pub loop-place-smaller : goal.loop-place-smaller
loop-place-smaller c =
    subst (λ (n : ℕ). n < c.loop-place.place) (sym c.next_place-place.ensures) (next_below c.requires.walk c.args.letter.now c.loop-place.invariant (omega (arith, c.loop-place-test.true, c.len.ensures, length-map c.args.self.now.states.items seen_state)))

pub loop-place-preserved : goal.loop-place-preserved
loop-place-preserved c =
    subst (λ (n : ℕ). IsOnWay (seen_walk c.args.self.now) c.args.letter.now (state_by (seen_walk c.args.self.now) c.args.letter.now c.args.state) n)
    (sym c.next_place-place.ensures) (goes_on c.requires.walk c.args.letter.now c.loop-place.invariant (omega (arith, c.loop-place-test.true, c.len.ensures, length-map c.args.self.now.states.items seen_state)))

pub returns-clause-next : goal.returns-clause-next
returns-clause-next c = arrived c.requires.walk c.args.letter.now c.loop-place.invariant (omega (arith, c.loop-place-test.false, c.len.ensures, length-map c.args.self.now.states.items seen_state))
