use Rattle.std.proofs.Common.{◌+◌, ◌-◌, List, ℕ, sym, subst, arith}
use Rattle.dcv_arena.proofs.Roots.{kept_in_turn}
use Rattle.dcv_tables.specs.Rows.{IsRow, HasRow}
use Rattle.dcv_tables.proofs.BelowFacts.{node_below, kept_below}
use Rattle.dcv_tables.proofs.RowFacts.{front_is_row, back_is_row, row_of_node}
use Rattle.dcv_tables.proofs.diagrams.+part.Goals as goal

pub returns-clause-below : goal.returns-clause-below
returns-clause-below t c =
    node_below c.part-2.new.arena c.node.new.self c.args.bound c.args.slot c.in_ok-lo.lo c.in_ok-hi.hi c.in_ok-node.node
    (kept_below c.part.new.arena c.part-2.new.arena c.args.bound (c.args.slot + 1) c.in_ok-lo.lo c.part-2.ensures.kept c.in_ok-lo.ensures.below)
    c.in_ok-hi.ensures.below c.in_ok-node.ensures.is_ref c.in_ok-node.ensures.level c.in_ok-node.ensures.value

pub returns-clause-row : goal.returns-clause-row
returns-clause-row t c =
    subst (λ (numbers : List ℕ). HasRow c.node.new.self c.args.slot numbers c.in_ok-node.node) (sym c.split_at.ensures.by_index.0)
    (row_of_node c.part.new.arena c.part-2.new.arena c.node.new.self c.args.slot c.split_at.result.0.now c.split_at.result.1.now c.in_ok-lo.lo c.in_ok-hi.hi c.in_ok-node.node
    (omega (arith, c.if-slot-slots.false, c.slots.ensures.slots, c.requires.slot, c.node.ensures.kept.slots, c.part-2.ensures.kept.slots, c.part.ensures.kept.slots)) c.part-2.ensures.kept c.node.ensures.kept.slots c.in_ok-lo.ensures.below.is_ref c.in_ok-lo.ensures.row c.in_ok-hi.ensures.row c.in_ok-node.ensures.value)

pub returns-clause-kept : goal.returns-clause-kept
returns-clause-kept t c =
    kept_in_turn c.args.arena.now c.part.new.arena c.node.new.self c.part.ensures.kept
    (kept_in_turn c.part.new.arena c.part-2.new.arena c.node.new.self c.part-2.ensures.kept c.node.ensures.kept)

pub part-requires : goal.part-requires
part-requires t c = (
  omega (arith, c.if-slot-slots.false, c.slots.ensures.slots, c.requires.slot),
  (
    omega (arith, c.if-slot-slots.false, c.slots.ensures.slots, c.requires.slot),
    (
      front_is_row c.args.arena.now.slots c.args.slot c.args.bound c.args.numbers.now c.split_at.result.0.now
          (omega (arith, c.if-slot-slots.false, c.slots.ensures.slots, c.requires.slot)) c.split_at.ensures.front c.requires.numbers,
      c.requires.arena,
    ),
  ),
)

pub part-requires-2 : goal.part-requires-2
part-requires-2 t c =
    let same = c.part.ensures.kept.slots in (
      omega (arith, c.if-slot-slots.false, c.slots.ensures.slots, c.requires.slot, same),
      (
        omega (arith, c.if-slot-slots.false, c.slots.ensures.slots, c.requires.slot, same),
        (
          subst (λ (slots : ℕ). IsRow (slots - (c.args.slot + 1)) c.args.bound c.split_at.result.1.now) (sym same)
              (back_is_row c.args.arena.now.slots c.args.slot c.args.bound c.args.numbers.now c.split_at.result.1.now
              (omega (arith, c.if-slot-slots.false, c.slots.ensures.slots, c.requires.slot)) c.split_at.ensures.back c.requires.numbers),
          c.part.ensures.arena,
        ),
      ),
    )
