use Rattle.std.proofs.Common.{◌≡◌, ◌+◌, ap, subst, drop, suc, arith}
use Rattle.std.specs.List.{flat_map}
use Rattle.std.proofs.lemmas.List.{drop_all}
use Rattle.std.proofs.Math.Seq.{drop-cons}
use Rattle.dcv_automaton_lines.proofs.WordSets.{passes}
use Rattle.dcv_tables_read.proofs.Chain.{ReadSoFar, none_read, part_stuck, part_read, all_read}
use Rattle.dcv_tables_read.proofs.words.pieces.Goals as goal

pub loop-piece-init : goal.loop-piece-init
loop-piece-init c = none_read _ _

pub returns-in_err-rest-clause-fault : goal.returns-in_err-rest-clause-fault
returns-in_err-rest-clause-fault c =
    passes _ _ _ c.in_err-rest.field-0.0 c.from_residual.ensures.1
    (part_stuck c.loop-piece.invariant _ (flat_map (λ piece. piece.now) (drop (suc c.loop-piece.piece-index) c.args.pieces.now))
    (ap (flat_map (λ piece. piece.now)) (drop-cons c.args.pieces.now c.loop-piece.piece-index _ c.loop-piece-test.true)) c.in_err-rest.ensures.fault)

pub loop-piece-preserved : goal.loop-piece-preserved
loop-piece-preserved c =
    subst (λ n. ReadSoFar (flat_map (λ piece. piece.now) c.args.pieces.now) c.args.text.now (flat_map (λ piece. piece.now) (drop n c.args.pieces.now)) c.in_ok-rest.rest.now)
    (let next : suc c.loop-piece.piece-index ≡ c.loop-piece.piece-index + 1 = omega arith in next)
    (part_read c.loop-piece.invariant _ (flat_map (λ piece. piece.now) (drop (suc c.loop-piece.piece-index) c.args.pieces.now))
    (ap (flat_map (λ piece. piece.now)) (drop-cons c.args.pieces.now c.loop-piece.piece-index _ c.loop-piece-test.true)) c.in_ok-rest.ensures.ok)

pub returns-clause-ok : goal.returns-clause-ok
returns-clause-ok c =
    all_read c.loop-piece.invariant (ap (flat_map (λ piece. piece.now)) (drop_all c.loop-piece.piece-index c.args.pieces.now (let past = c.loop-piece-test.false in omega (arith, past))))
