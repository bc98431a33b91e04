use Rattle.std.proofs.Common.{◌≡◌, ℕ, ◌+◌, ◌-◌, ◌<◌, ◌≤◌, Bool, true, List, length, sym, ap, subst, ◌∙◌, arith}
use Rattle.std.specs.List.{All, filter, range_with_len}
use Rattle.dcv_dfa.specs.Raw.{RawValue, automaton_of}
use Rattle.dcv_synth.specs.Winning.{IsWin, is_held}
use Rattle.dcv_synth.specs.Ranked.{win_by}
use Rattle.dcv_synth.specs.Answered.{won_at}
use Rattle.dcv_synth.specs.Merged.{AreAllMerged}
use Rattle.dcv_synth.specs.declared.merging.Part.TheVariants.{Next, Output}
use Rattle.dcv_dfa.specs.Auto.{count_of_nodes}
use Rattle.dcv_synth.specs.Listing.{starts_or_wins}
use Rattle.dcv_synth.proofs.Keeping.{kept_below}
use Rattle.dcv_synth.proofs.Controlled.{is_control_of}
use Rattle.dcv_synth.proofs.ControlBounds.{is_control}
use Rattle.dcv_synth.specs.Control.{ControlValue, IsControl, IsControlOf}
use Rattle.dcv_synth.proofs.controlling.control.Goals as goal
use Rattle.dcv_synth.proofs.controlling.control.Goals.{In_ok-output}

pub rows_of-requires-clause-states : goal.rows_of-requires-clause-states
rows_of-requires-clause-states c =
    let rows = length c.args.auto.now.rows in
    subst (All (λ state. state < rows)) (sym (c.deref-3.ensures.value ∙ c.in_ok-states.ensures)) (kept_below (starts_or_wins c.args.auto.now.start c.deref.result.now) rows)

pub rows_of-requires-2-clause-states : goal.rows_of-requires-2-clause-states
rows_of-requires-2-clause-states c =
    let rows = length c.args.auto.now.rows in
    subst (All (λ state. state < rows)) (sym (c.deref-4.ensures.value ∙ c.in_ok-states.ensures)) (kept_below (starts_or_wins c.args.auto.now.start c.deref.result.now) rows)

pub returns-clause-next_nodes : goal.returns-clause-next_nodes
returns-clause-next_nodes c =
    subst (λ (control : ControlValue). length control.next.arena.nodes ≤ count_of_nodes c.args.auto.now) (sym c.new-2.ensures) c.in_ok-next.ensures.nodes

pub returns-clause-output_nodes : goal.returns-clause-output_nodes
returns-clause-output_nodes c =
    subst (λ (control : ControlValue). length control.output.arena.nodes ≤ count_of_nodes c.args.auto.now) (sym c.new-2.ensures) c.in_ok-output.ensures.nodes

-- ---- the controller

module _ (c : In_ok-output) where
  abbrev raw : RawValue
  raw = c.args.auto.now

  abbrev n : ℕ
  n = c.args.inputs

  abbrev m : ℕ
  m = raw.arena.slots - n

  abbrev made : ControlValue
  made = record { states = c.in_ok-states.states.items; next = c.in_ok-next.next; output = c.in_ok-output.output }

  is_of : IsControlOf n m (automaton_of raw) made
  is_of =
      let win = c.in_ok-win.win.items in
      let same : ◌≡◌ {A = ℕ → Bool} (won_at win) (win_by (automaton_of raw) c.args.ranks.now) = λ i state. c.in_ok-win.ensures state i in
      let states_are : made.states ≡ filter (starts_or_wins raw.start win) (range_with_len 0 (length raw.rows)) =
      c.in_ok-states.ensures ∙ ap (λ w. filter (starts_or_wins raw.start w) (range_with_len 0 (length raw.rows))) c.deref.ensures.value in
      let won : c.in_ok-answers.answers.win.now ≡ win = c.in_ok-answers.ensures.win ∙ c.deref-2.ensures.value in
      let next_are : AreAllMerged Next raw win made.states made.next =
      subst (λ (parts : List Bool × List ℕ). AreAllMerged Next raw parts.0 parts.1 made.next) (λ i. (won i, c.deref-3.ensures.value i)) c.in_ok-next.ensures.merged in
      let output_are : AreAllMerged Output raw win made.states made.output =
      subst (λ (parts : List Bool × List ℕ). AreAllMerged Output raw parts.0 parts.1 made.output) (λ i. (won i, c.deref-4.ensures.value i)) c.in_ok-output.ensures.merged in
      is_control_of raw c.states-states.ensures.raw n win made.states (subst (IsWin n m (automaton_of raw)) (sym same) c.requires.win)
      (subst (λ (w : ℕ → Bool). is_held n m (automaton_of raw) w raw.start ≡ true) (sym same) c.requires.held) states_are made.next made.output
      c.in_ok-next.ensures.slots (c.in_ok-next.ensures.count ∙ ap length c.deref-3.ensures.value) next_are
      c.in_ok-output.ensures.slots (c.in_ok-output.ensures.count ∙ ap length c.deref-4.ensures.value) output_are

  is_one : IsControl made
  is_one =
      let slots : raw.arena.slots ≡ n + m = omega (arith, c.requires.inputs) in
      let below : All (λ state. state < length raw.rows) made.states =
      subst (All (λ state. state < length raw.rows)) (sym c.in_ok-states.ensures) (kept_below (starts_or_wins raw.start c.deref.result.now) (length raw.rows)) in
      is_control raw c.states-states.ensures.raw n m slots (omega (arith, c.requires.inputs, c.requires.outputs)) c.requires.few made is_of below
      c.in_ok-next.ensures.are c.in_ok-output.ensures.are

pub new-requires-2 : goal.new-requires-2
new-requires-2 c = is_one (goal.at.new-requires-2 c).In_ok-output

pub returns-clause-control : goal.returns-clause-control
returns-clause-control c =
    let raw = c.args.auto.now in
    subst (IsControlOf c.args.inputs (raw.arena.slots - c.args.inputs) (automaton_of raw)) (sym c.new-2.ensures) (is_of (goal.at.returns-clause-control c).In_ok-output)
