use Rattle.std.proofs.Common.{◌<◌, ℕ, Vec, Global, All, Result, Ok, Err, IfOk, length, ap, subst}
use Rattle.dcv_certificate.specs.Partition.{raw_in}
use Rattle.dcv_certificate.specs.Marks.{marked}
use Rattle.dcv_certificate.specs.Ones.{AreRarer}
use Rattle.dcv_certificate.proofs.Rarer.{is_split_off}
use Rattle.dcv_certificate.proofs.partition.Partition.part.Goals as goal

-- two facts of one success
both : {X E : Type 0} (result : Result X E) (P Q R : X → Type 0) → ((x : X) → P x → Q x → R x) → IfOk result P → IfOk result Q → IfOk result R
both (Ok x) P Q R f p q = f x p q
both (Err e) P Q R f p q = tt

pub returns-clause-part : goal.returns-clause-part
returns-clause-part c =
    let self = c.args.self.now in
    let blocks = self.blocks.items in
    let sizes = self.sizes.items in
    let ones = c.in_ok-ones.ones in
    let candidates = c.in_ok-candidates.candidates.items in
    let kept = c.candidates.ensures.kept in
    let new = c.candidates.new.self in
    let same_blocks = ap (λ (blocks : Vec ℕ Global). blocks.items) kept.blocks in
    let same_sizes = ap (λ (sizes : Vec ℕ Global). sizes.items) kept.sizes in
    both c.rarer.result (λ (part : Vec ℕ Global). AreRarer new.blocks.items new.sizes.items ones c.deref.result.now part.items)
    (λ (part : Vec ℕ Global). All (λ state. state < length new.blocks.items) part.items) _
    (λ part rarer members.
    is_split_off (raw_in self) blocks sizes self.count ones (marked c.args.scratch.now c.args.marks.now c.args.letter) candidates part.items c.requires.each c.in_ok-ones.ensures.states
    c.requires.numbers c.requires.sizes c.in_ok-ones.ensures.counted c.in_ok-candidates.ensures.all
    (subst (λ blocks. AreRarer blocks sizes ones candidates part.items) same_blocks
    (subst (λ sizes. AreRarer new.blocks.items sizes ones candidates part.items) same_sizes
    (subst (λ candidates. AreRarer new.blocks.items new.sizes.items ones candidates part.items) c.deref.ensures.value rarer)))
    (subst (λ blocks. All (λ state. state < length blocks) part.items) same_blocks members))
    c.rarer.ensures.part c.rarer.ensures.members
