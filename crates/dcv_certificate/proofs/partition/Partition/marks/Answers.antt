use Rattle.std.proofs.Common.{◌≡◌, ℕ, List, Vec, Global, Contains, [], sym, ap, subst, ◌∙◌}
use Rattle.std.proofs.lemmas.List.{get_or-map}
use Rattle.std.proofs.lemmas.Result.{IfOk-weaker}
use Rattle.dcv_arena.specs.declared.nodes.Ref.{Ref}
use Rattle.dcv_arena.specs.declared.nodes.Ref.TheVariants.{Place}
use Rattle.dcv_refinement.specs.Leads.{IndexedRows, index_of, LeadsInto, IsRowInto}
use Rattle.dcv_certificate.specs.Separation.{has, part_at}
use Rattle.dcv_certificate.specs.Partition.{raw_in, parts_in}
use Rattle.dcv_certificate.specs.Indicators.{part_of, AreIndicators}
use Rattle.dcv_certificate.proofs.Indicating.{marked_above, all_marked}
use Rattle.dcv_certificate.proofs.partition.Partition.marks.Goals as goal
use Rattle.dcv_certificate.proofs.partition.Partition.marks.Goals.{In_ok-part}

module _ (c : In_ok-part) where
  abbrev states : List ℕ
  states = part_at (parts_in c.args.self.now) c.args.place

  leaves_are : c.index-leaves.result.now.items ≡ states
  leaves_are =
      ap (λ (part : Vec ℕ Global). part.items) c.index-leaves.ensures
      ∙ sym (get_or-map (λ (part : Vec ℕ Global). part.items) c.args.self.now.parts.items c.args.place c.index-leaves.result.now [] c.requires.place)

  abbrev rows_of : IndexedRows
  rows_of = index_of (raw_in c.args.self.now).arena (raw_in c.args.self.now).rows

  all_above : (place : ℕ) → LeadsInto rows_of states (Place place) → Contains c.above.new.found.nodes place
  all_above place =
      subst (λ (seen : IndexedRows × List ℕ). LeadsInto seen.0 seen.1 (Place place) → Contains c.above.new.found.nodes place)
      (λ i. (c.requires.index i, (c.deref.ensures.value ∙ leaves_are) i)) (c.in_ok-above.ensures.nodes place).1

  all_looked : (row : ℕ) → IsRowInto rows_of states row → Contains c.above.new.found.rows.items row
  all_looked row =
      subst (λ (seen : IndexedRows × List ℕ). IsRowInto seen.0 seen.1 row → Contains c.above.new.found.rows.items row)
      (λ i. (c.requires.index i, (c.deref.ensures.value ∙ leaves_are) i)) (c.in_ok-above.ensures.rows row).1

  part_is : (state : ℕ) → part_of c.in_ok-part.part state ≡ has states state
  part_is state = c.in_ok-part.ensures.states state ∙ ap (λ states. has states state) (c.deref-2.ensures.value ∙ leaves_are)

pub marks-requires-clause-above : goal.marks-requires-clause-above
marks-requires-clause-above c =
    let before = (goal.at.marks-requires-clause-above c).In_ok-part in
    marked_above (raw_in c.args.self.now) c.requires.vertices (states before) c.requires.states
    c.above.new.found.nodes c.above.new.found.rows.items (all_above before) (all_looked before) c.in_ok-part.part c.in_ok-part.ensures.arena (part_is before) c.in_ok-part.ensures.above

pub returns-clause-marked : goal.returns-clause-marked
returns-clause-marked c =
    let before = (goal.at.returns-clause-marked c).In_ok-part in
    let raw = raw_in c.args.self.now in
    let part = c.in_ok-part.part in
    let looked = c.above.new.found.rows.items in
    let scratch = c.marks.new.scratch in
    IfOk-weaker c.marks.result (λ (marks : Vec (ℕ × Ref) Global). AreIndicators part c.deref-3.result.now c.deref-4.result.now scratch marks.items) _
    (λ marks are state letter below width.
    all_marked raw c.requires.vertices (states before) c.requires.states c.above.new.found.nodes looked (all_above before) (all_looked before)
    part c.in_ok-part.ensures.arena (part_is before) c.in_ok-part.ensures.above scratch marks.items
    (subst (λ rows. AreIndicators part rows looked scratch marks.items) c.deref-3.ensures.value
    (subst (λ looked. AreIndicators part c.deref-3.result.now looked scratch marks.items) c.deref-4.ensures.value are)) state letter below)
    c.marks.ensures.marked
