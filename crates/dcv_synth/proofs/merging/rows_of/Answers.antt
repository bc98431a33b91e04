use Rattle.std.proofs.Common.{◌≡◌, ℕ, length, ◌-◌, ◌+◌, sym, ap, subst, ◌∙◌, arith}
use Rattle.dcv_arena.specs.Arena.{ArenaValue}
use Rattle.dcv_synth.specs.Merged.{AreMerged, AreAllMerged}
use Rattle.dcv_arena.proofs.Counts.{count_exact}
use Rattle.dcv_synth.proofs.Merges.{are_rows_refs, all_rows_merged}
use Rattle.dcv_synth.proofs.merging.rows_of.Goals as goal
use Rattle.dcv_synth.proofs.merging.rows_of.Goals.{In_ok-rows}

module _ (c : In_ok-rows) where
  abbrev old : ArenaValue
  old = c.args.answers.now.arena.now

  abbrev m : ℕ
  m = old.slots - c.new-arena.result.slots

  slots : c.merge.new.arena.slots + m ≡ old.slots
  slots =
      let same = c.merge.ensures.slots in
      let inputs = c.new-arena.ensures.slots in
      let given = ap (λ (arena : ArenaValue). arena.slots) c.requires.arena in
      omega (arith, same, inputs, given, c.requires.inputs)

  are : AreMerged c.args.part m old c.args.answers.now.win.now c.merge.new.arena c.deref.result.now
  are = subst (AreMerged c.args.part m old c.args.answers.now.win.now c.merge.new.arena) (sym c.deref.ensures.value) c.in_ok-merged.ensures.merged

  places : length c.deref.result.now ≡ length old.nodes
  places = ap length c.deref.ensures.value ∙ c.in_ok-merged.ensures.count

pub merge-requires-clause-room : goal.merge-requires-clause-room
merge-requires-clause-room c =
    let raw = c.states-states.ensures.raw in
    let auto = c.args.auto.now in
    let own = count_exact auto.arena raw.arena.reduced auto.rows raw.rows c.slots-slots.ensures.auto.nodes in
    let same = ap (λ (arena : ArenaValue). length arena.nodes) c.requires.arena in
    omega (arith, own, same, c.nodes.ensures, c.new-arena.ensures.limit)

pub new-requires : goal.new-requires
new-requires c = record {
  arena = c.slots-inputs.ensures.arena;
  refs = are_rows_refs c.args.part (m c) (old c) c.args.answers.now.win.now c.args.auto.now c.states-states.ensures.raw c.merge.new.arena c.args.answers.now.answers.items c.deref.result.now
      c.args.states.now c.in_ok-rows.rows.items (sym c.requires.arena) (slots c) (are c) (places c) c.requires.states c.in_ok-rows.ensures;
}

pub returns-clause-merged : goal.returns-clause-merged
returns-clause-merged c =
    let here = (goal.at.returns-clause-merged c).In_ok-rows in
    subst (AreAllMerged c.args.part c.args.auto.now c.args.answers.now.win.now c.args.states.now) (sym c.new.ensures)
    (all_rows_merged c.args.part (m here) (old here) c.args.answers.now.win.now c.args.auto.now c.states-states.ensures.raw c.merge.new.arena c.args.answers.now.answers.items c.deref.result.now
    c.args.states.now c.in_ok-rows.rows.items (sym c.requires.arena) (slots here) (are here) (places here) c.requires.states c.in_ok-rows.ensures)
