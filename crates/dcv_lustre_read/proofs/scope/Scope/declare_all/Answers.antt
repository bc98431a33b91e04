use Rattle.std.proofs.Common.{◌≡◌, ◌<◌, length, map, ap, sym, ◌∙◌, arith}
use Rattle.dcv_lustre.specs.Placed.{local_of}
use Rattle.dcv_lustre_read.specs.Contents.{words_behind, keeps_behind}
use Rattle.dcv_lustre_read.specs.Scope.{seen_row, IsDeclaring}
use Rattle.dcv_lustre_read.specs.Seen.{seen_node, seen_local}
use Rattle.dcv_observer.proofs.Judging.{leads_on}
use Rattle.dcv_lustre_read.proofs.Inputs.{behind_inputs}
use Rattle.dcv_lustre_read.proofs.Declared.{node_at, whole_at, output_words, output_names, output_told}
use Rattle.dcv_lustre_read.proofs.Declared.{at_inputs, inputs_are, inputs_size, at_locals, declared_knows}
use Rattle.dcv_lustre_read.proofs.scope.Scope.declare_all.Goals as goal
use Rattle.dcv_lustre_read.proofs.scope.Scope.declare_all.Goals.{In_ok-inputs}

pub returns-in_err-inputs : goal.returns-in_err-inputs
returns-in_err-inputs c =
    let placed = c.args.placed.now in
    leads_on (whole_at placed) _ c.from_residual.result c.in_err-inputs.field-0.0 c.from_residual.ensures.1
    (c.in_err-inputs.ensures (node_at placed) (whole_at placed) (words_behind (seen_node placed)) (keeps_behind (node_at placed)) (output_words placed) (output_names placed) (output_told placed)
    (at_inputs placed c.deref.ensures.value c.requires.declared c.requires.names) (ap length c.requires.declared) (inputs_are placed c.deref.ensures.value))

-- once the inputs are declared
inputs_declared : (c : In_ok-inputs) → (c.in_ok-inputs.inputs.items ≡ (node_at c.args.placed.now).inputs)
    × IsDeclaring (node_at c.args.placed.now) (whole_at c.args.placed.now) (words_behind (seen_node c.args.placed.now)) (keeps_behind (node_at c.args.placed.now))
    c.inputs.new.self.declared (map seen_row c.inputs.new.self.names.items) (output_words c.args.placed.now) (output_names c.args.placed.now) (output_told c.args.placed.now)
    × (length (node_at c.args.placed.now).inputs < length c.inputs.new.self.declared)
inputs_declared c =
    let placed = c.args.placed.now in
    let told = c.in_ok-inputs.ensures (node_at placed) (whole_at placed) (words_behind (seen_node placed)) (keeps_behind (node_at placed)) (output_words placed) (output_names placed) (output_told placed)
    (at_inputs placed c.deref.ensures.value c.requires.declared c.requires.names) (ap length c.requires.declared) (inputs_are placed c.deref.ensures.value) in
    let size = inputs_size placed c.deref.ensures.value in
    (told.0 ∙ sym (inputs_are placed c.deref.ensures.value), told.1, omega (arith, told.2, size))

pub returns-in_err-declare : goal.returns-in_err-declare
returns-in_err-declare c =
    let (texts, inputs, behind) = inputs_declared (goal.at.returns-in_err-declare c).In_ok-inputs in
    leads_on (whole_at c.args.placed.now) _ c.from_residual-in_err-declare.result c.in_err-declare.field-0.0 c.from_residual-in_err-declare.ensures.1
    (c.in_err-declare.ensures (node_at c.args.placed.now) _ _ _ c.args.placed.now.output.bytes.now _ _ _ inputs (behind_inputs (node_at c.args.placed.now) _ behind))

pub returns-in_err-locals : goal.returns-in_err-locals
returns-in_err-locals c =
    let placed = c.args.placed.now in
    let (texts, inputs, behind) = inputs_declared (goal.at.returns-in_err-locals c).In_ok-inputs in
    let output = c.in_ok-declare.ensures (node_at placed) _ _ _ placed.output.bytes.now _ _ _ inputs (behind_inputs (node_at placed) _ behind) in
    let later : length (node_at placed).inputs < length c.declare.new.self.declared = omega (arith, output.1, behind) in
    leads_on (whole_at placed) _ c.from_residual-in_err-locals.result c.in_err-locals.field-0.0 c.from_residual-in_err-locals.ensures.1
    (c.in_err-locals.ensures (node_at placed) _ _ _ (at_locals placed c.deref-2.ensures.value output.0) later)

pub returns : goal.returns
returns c =
    let placed = c.args.placed.now in
    let (texts, inputs, behind) = inputs_declared (goal.at.returns c).In_ok-inputs in
    let output = c.in_ok-declare.ensures (node_at placed) _ _ _ placed.output.bytes.now _ _ _ inputs (behind_inputs (node_at placed) _ behind) in
    let later : length (node_at placed).inputs < length c.declare.new.self.declared = omega (arith, output.1, behind) in
    let locals = c.in_ok-locals.ensures (node_at placed) _ _ _ (at_locals placed c.deref-2.ensures.value output.0) later in
    let knows = declared_knows locals.1 in
    record {
      inputs_are = texts;
      locals_are = locals.0 ∙ ap (λ items. map local_of (map seen_local items)) c.deref-2.ensures.value;
      knows = knows.0;
      left = knows.1;
    }
