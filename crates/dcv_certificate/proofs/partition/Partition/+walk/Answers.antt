use Rattle.std.proofs.Common.{◌<◌, ◌+◌, Bool, true, false, List, length, set, All, sym, ap, subst, ◌∙◌, rules, arith}
use Rattle.std.proofs.lemmas.List.{length-set}
use Rattle.dcv_dfa.specs.Raw.{RawValue}
use Rattle.dcv_certificate.specs.Separation.{AreVertices, word_at}
use Rattle.dcv_certificate.specs.Partition.{raw_in, listed_in, Separates, GoesOn}
use Rattle.dcv_certificate.specs.Marks.{IsMarkFrom, AreTold, AreDone}
use Rattle.dcv_certificate.proofs.Listing.{length-suffix_words}
use Rattle.dcv_certificate.proofs.Separating.{on_ok_two}
use Rattle.dcv_certificate.proofs.Walking.{told_side, told_finer, done_sides}
use Rattle.dcv_certificate.proofs.partition.Partition.+walk.Goals as goal

pub is_mixed-requires-clause-states : goal.is_mixed-requires-clause-states
is_mixed-requires-clause-states t c = λ i d h. omega (arith, (c.requires.marks i d h).is_state, c.requires.separates.separation.are_blocks.each)

pub walk-requires : goal.walk-requires
walk-requires t c =
    let self = c.args.self.now in
    let raw = raw_in self in
    let blocks = self.blocks.items in
    let word = word_at (listed_in self) c.args.from in
    let arena = c.args.scratch.now in
    let slot = c.args.slot in
    let within : slot < length c.args.front = omega (arith, c.requires.front, c.requires.slot) in
    let side : AreTold raw blocks word arena (slot + 1) c.with.result c.deref.result.now =
    subst (λ front. AreTold raw blocks word arena (slot + 1) front c.deref.result.now) (sym c.with.ensures)
    (subst (AreTold raw blocks word arena (slot + 1) (set c.args.front slot false)) (sym c.deref.ensures.value)
    (told_side raw blocks word arena slot c.args.front false c.args.marks.now c.in_ok-lo.lo.items within c.requires.told c.in_ok-lo.ensures.marked)) in (
      search rules,
      (
        c.requires.vertices,
        (
          c.requires.slots,
          (
            omega (arith, ap (λ (letter : List Bool). length letter) c.with.ensures, length-set c.args.front slot false, c.requires.front),
            (
              omega (arith, c.requires.slot, within, c.requires.front),
              (
                subst (All (IsMarkFrom arena (length raw.rows) (slot + 1))) (sym c.deref.ensures.value) c.in_ok-lo.ensures.marks,
                (c.requires.from, (c.requires.separates, side)),
              ),
            ),
          ),
        ),
      ),
    )

pub walk-requires-2 : goal.walk-requires-2
walk-requires-2 t c =
    let self = c.args.self.now in
    let raw = raw_in self in
    let new = c.walk.new.self in
    let arena = c.args.scratch.now in
    let slot = c.args.slot in
    let done = c.in_ok-walk.ensures in
    let word = word_at (listed_in new) c.args.from in
    let within : slot < length c.args.front = omega (arith, c.requires.front, c.requires.slot) in
    let there : c.args.from < length (listed_in self) = omega (arith, c.requires.from, length-suffix_words self.suffixes.items) in
    let still : c.args.from < length new.suffixes.items = omega (arith, there, done.goes_on.more, length-suffix_words new.suffixes.items) in
    let told : AreTold raw new.blocks.items word arena slot c.args.front c.args.marks.now =
    told_finer raw (listed_in self) (listed_in new) self.blocks.items new.blocks.items c.args.from arena slot c.args.front c.args.marks.now there done.goes_on c.requires.told in
    let side : AreTold (raw_in new) new.blocks.items word arena (slot + 1) c.with-2.result c.deref-2.result.now =
    subst (λ raw. AreTold raw new.blocks.items word arena (slot + 1) c.with-2.result c.deref-2.result.now) (sym done.vertices)
    (subst (λ front. AreTold raw new.blocks.items word arena (slot + 1) front c.deref-2.result.now) (sym c.with-2.ensures)
    (subst (AreTold raw new.blocks.items word arena (slot + 1) (set c.args.front slot true)) (sym c.deref-2.ensures.value)
    (told_side raw new.blocks.items word arena slot c.args.front true c.args.marks.now c.in_ok-hi.hi.items within told c.in_ok-hi.ensures.marked))) in
    let refs : All (IsMarkFrom arena (length (raw_in new).rows) (slot + 1)) c.deref-2.result.now =
    subst (λ (raw : RawValue). All (IsMarkFrom arena (length raw.rows) (slot + 1)) c.deref-2.result.now) (sym done.vertices)
    (subst (All (IsMarkFrom arena (length raw.rows) (slot + 1))) (sym c.deref-2.ensures.value) c.in_ok-hi.ensures.marks) in (
      search rules,
      (
        subst AreVertices (sym done.vertices) c.requires.vertices,
        (
          c.requires.slots ∙ ap (λ (raw : RawValue). raw.arena.slots) (sym done.vertices),
          (
            omega (arith, ap (λ (letter : List Bool). length letter) c.with-2.ensures, length-set c.args.front slot true, c.requires.front),
            (omega (arith, c.requires.slot, within, c.requires.front), (refs, (still, (subst (λ raw. Separates raw new) (sym done.vertices) done.separates, side)))),
          ),
        ),
      ),
    )

pub returns-clause-done : goal.returns-clause-done
returns-clause-done t c =
    let self = c.args.self.now in
    let raw = raw_in self in
    let middle = c.walk.new.self in
    let new = c.walk-2.new.self in
    let slot = c.args.slot in
    let done = c.in_ok-walk.ensures in
    let within : slot < length c.args.front = omega (arith, c.requires.front, c.requires.slot) in
    let there : c.args.from < length (listed_in self) = omega (arith, c.requires.from, length-suffix_words self.suffixes.items) in
    let lo : AreDone raw middle.blocks.items (word_at (listed_in self) c.args.from) (slot + 1) (set c.args.front slot false) =
    subst (AreDone raw middle.blocks.items (word_at (listed_in self) c.args.from) (slot + 1)) c.with.ensures done.done in
    on_ok_two c.walk-2.result
    (GoesOn (raw_in middle) middle new) (AreDone (raw_in middle) new.blocks.items (word_at (listed_in middle) c.args.from) (slot + 1) c.with-2.result)
    (AreDone raw new.blocks.items (word_at (listed_in self) c.args.from) slot c.args.front)
    (λ goes hi.
    let goes_here : GoesOn raw middle new = subst (λ raw. GoesOn raw middle new) done.vertices goes in
    let hi_here : AreDone raw new.blocks.items (word_at (listed_in middle) c.args.from) (slot + 1) (set c.args.front slot true) =
    subst (AreDone raw new.blocks.items (word_at (listed_in middle) c.args.from) (slot + 1)) c.with-2.ensures
    (subst (λ raw. AreDone raw new.blocks.items (word_at (listed_in middle) c.args.from) (slot + 1) c.with-2.result) done.vertices hi) in
    done_sides raw (listed_in self) (listed_in middle) (listed_in new) middle.blocks.items new.blocks.items c.args.from slot c.args.front within
    (done.goes_on.words c.args.from there) goes_here.finer lo hi_here)
    c.walk-2.ensures.goes_on c.walk-2.ensures.done
