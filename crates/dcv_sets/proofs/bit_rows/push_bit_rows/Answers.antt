use Rattle.std.proofs.Common.{◌<◌, ◌++◌, ◌∷◌, [], ◌∙◌, ℕ, List, ap, sym, subst}
use Rattle.std.proofs.lemmas.List.{map-append, append_assoc}
use Rattle.std.specs.List.{All}
use Rattle.dcv_arena.specs.declared.nodes.Ref.{Ref}
use Rattle.dcv_sets.specs.Bits.{has_state, states_below}
use Rattle.dcv_sets.specs.Rows.{rows_of, IsRowOf}
use Rattle.dcv_sets.proofs.SetBits.{state_has, one_more_in, more_have}
use Rattle.dcv_sets.proofs.bit_rows.push_bit_rows.Goals as goal

pub row-requires : goal.row-requires
row-requires g c =
    state_has (λ state. state < g.T.Table.states c.args.table.now) c.args.words.now c.loop-state.state c.loop-state-test.true (sym c.has_bit.ensures ∙ c.if-not-has_bit.false) c.requires.states

pub loop-state-preserved : goal.loop-state-preserved
loop-state-preserved g c =
    let table = c.args.table.now in
    let state = c.loop-state.state in
    let has = has_state c.args.words.now in
    let before = states_below has state in
    let row_at = g.T.Table.row_at table in
    let IsRow = IsRowOf (g.T.Table.automaton table) (g.T.Table.slots table) (g.T.Table.arena table) in
    let one_more = one_more_in has state (sym c.has_bit.ensures ∙ c.if-not-has_bit.false) in
    let old = c.args.to.now in
    let is_row = subst (λ (row : Ref). IsRow state row) c.row.ensures.row (record { is_ref = c.row.ensures.is_ref; steps = c.row.ensures.steps }) in
    record {
      added = c.in_ok-push.ensures.ok ∙ ap (λ to. to ++ (c.args.place, c.row.result) ∷ []) c.loop-state.invariant.added
          ∙ append_assoc old (rows_of c.args.place row_at before) ((c.args.place, c.row.result) ∷ [])
          ∙ ap (λ (row : Ref). old ++ (rows_of c.args.place row_at before ++ (c.args.place, row) ∷ [])) (c.row.ensures.row)
          ∙ ap (λ (rows : List (ℕ × Ref)). old ++ rows) (sym (map-append (λ (n : ℕ). (c.args.place, row_at n)) before (state ∷ [])))
          ∙ ap (λ states. old ++ rows_of c.args.place row_at states) one_more;
      rows = subst (λ (states : List ℕ). All (λ n. IsRow n (row_at n)) states) one_more (more_have (λ n. IsRow n (row_at n)) before state c.loop-state.invariant.rows is_row);
    }
