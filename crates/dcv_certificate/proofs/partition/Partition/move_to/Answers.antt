use Rattle.std.proofs.Common.{◌≡◌, ◌<◌, ◌≤◌, ◌+◌, ◌-◌, ◌++◌, ◌∷◌, [], Bool, cond, ℕ, List, length, get_or, set, sym, ap, subst, ◌∙◌, arith}
use Rattle.std.proofs.lemmas.Bool.{eq-eqb, ne_eqb}
use Rattle.std.proofs.lemmas.List.{get_or_default, length-set}
use Rattle.dcv_certificate.specs.declared.partition.Partition.{Partition}
use Rattle.dcv_certificate.specs.Tallies.{AreSizes, count_up}
use Rattle.dcv_refinement.specs.Members.{list_of, HaveTheirOwn, block_of}
use Rattle.dcv_refinement.proofs.MemberFacts.{own_put}
use Rattle.dcv_certificate.proofs.Shifting.{sizes_grown, size_some, fewer, shifted, size_fits, sizes_shifted}
use Rattle.dcv_certificate.proofs.partition.Partition.move_to.Goals as goal
use Rattle.dcv_certificate.proofs.partition.Partition.move_to.Goals.{Joined-block-len, then-block-len+in_ok-push, else-block-len}

module _ (c : Joined-block-len) where
  abbrev blocks : List ℕ
  blocks = c.args.self.now.blocks.items

  abbrev many : ℕ
  many = length c.args.self.now.sizes.items

  abbrev count : ℕ
  count = count_up many c.args.block

  at_end : c.args.block ≡ c.len.result → count ≡ many + 1
  at_end e = ap (λ (last : Bool). cond last (many + 1) many) (eq-eqb c.args.block many (e ∙ c.len.ensures ∙ c.args.self.now.sizes.ok.0))

  not_end : ¬ (c.args.block ≡ c.len.result) → count ≡ many
  not_end ne = ap (λ (last : Bool). cond last (many + 1) many) (ne_eqb c.args.block many (λ e. ne (e ∙ sym (c.len.ensures ∙ c.args.self.now.sizes.ok.0))))

  mid_blocks : c.if-block-len.self.blocks.items ≡ blocks
  mid_blocks = elim c.if-block-len.branch [
    | then-block-len+in_ok-push w ↦ ap (λ (self : Partition). self.blocks.items) w.self-is
    | else-block-len w ↦ ap (λ (self : Partition). self.blocks.items) w.self-is
  ]

  mid_sizes : AreSizes blocks count c.if-block-len.self.sizes.items
  mid_sizes = elim c.if-block-len.branch [
    | then-block-len+in_ok-push w ↦
        subst (λ (self : Partition). AreSizes blocks count self.sizes.items) (sym w.self-is)
        (subst (λ sizes. AreSizes blocks count sizes) (sym w.in_ok-push.ensures.items)
        (subst (λ count. AreSizes blocks count (c.args.self.now.sizes.items ++ 0 ∷ [])) (sym (at_end w.if-block-len.true)) (sizes_grown blocks c.args.self.now.sizes.items c.requires.numbers c.requires.sizes)))
    | else-block-len w ↦
        subst (λ (self : Partition). AreSizes blocks count self.sizes.items) (sym w.self-is)
        (subst (λ count. AreSizes blocks count c.args.self.now.sizes.items) (sym (not_end w.if-block-len.false)) c.requires.sizes)
  ]

  mid_members : HaveTheirOwn blocks (list_of c.if-block-len.self.members)
  mid_members = elim c.if-block-len.branch [
    | then-block-len+in_ok-push w ↦ subst (λ (self : Partition). HaveTheirOwn blocks (list_of self.members)) (sym w.self-is) c.requires.members
    | else-block-len w ↦ subst (λ (self : Partition). HaveTheirOwn blocks (list_of self.members)) (sym w.self-is) c.requires.members
  ]

  below : c.args.block < count
  below = elim c.if-block-len.branch [
    | then-block-len+in_ok-push w ↦ omega (arith, at_end w.if-block-len.true, w.if-block-len.true, c.len.ensures, c.args.self.now.sizes.ok.0)
    | else-block-len w ↦ omega (arith, not_end w.if-block-len.false, w.if-block-len.false, c.len.ensures, c.args.self.now.sizes.ok.0, c.requires.block)
  ]

  no_fewer : many ≤ count
  no_fewer = elim c.if-block-len.branch [
    | then-block-len+in_ok-push w ↦ omega (arith, at_end w.if-block-len.true)
    | else-block-len w ↦ omega (arith, not_end w.if-block-len.false)
  ]

  old_is : c.index-old.result.now ≡ block_of blocks c.args.state
  old_is = c.index-old.ensures ∙ get_or_default blocks c.args.state c.index-old.result.now 0 c.requires.state

  low : block_of blocks c.args.state < count
  low = omega (arith, c.requires.numbers c.args.state 0 c.requires.state, no_fewer)

  -- what is read of the size of a list at a place
  read : (sizes : List ℕ) (result : ℕ) → length sizes ≡ count → result ≡ get_or sizes c.index-old.result.now result → result ≡ get_or sizes (block_of blocks c.args.state) 0
  read sizes result size is =
      is ∙ get_or_default sizes c.index-old.result.now result 0 (omega (arith, size, old_is, low)) ∙ ap (λ block. get_or sizes block 0) old_is

pub overflow_sub-index_mut : goal.overflow_sub-index_mut
overflow_sub-index_mut c =
    let j = (goal.at.overflow_sub-index_mut c).Joined-block-len in
    let sizes = c.if-block-len.self.sizes.items in
    let is = read j sizes c.index_mut.result.now (mid_sizes j).each c.index_mut.ensures.value in
    omega (arith, is, size_some (blocks j) sizes (count j) c.args.state (mid_sizes j) c.requires.state (low j))

-- the second number that is read
module _ (c : Joined-block-len) (first second : ℕ) (first_is : first ≡ get_or c.if-block-len.self.sizes.items (block_of (blocks c) c.args.state) 0)
    (second_is : second ≡ get_or (set c.if-block-len.self.sizes.items c.index-old.result.now (first - 1)) c.args.block second) where
  abbrev sizes : List ℕ
  sizes = c.if-block-len.self.sizes.items

  abbrev less : List ℕ
  less = fewer (blocks c) sizes (count c) c.args.state c.args.block (mid_sizes c) c.requires.state (low c) (below c)

  read_second : second ≡ get_or less c.args.block 0
  read_second =
      second_is
      ∙ get_or_default (set sizes c.index-old.result.now (first - 1)) c.args.block second 0 (omega (arith, length-set sizes c.index-old.result.now (first - 1), (mid_sizes c).each, below c))
      ∙ (λ i. get_or (set sizes (old_is c i) (first_is i - 1)) c.args.block 0)

  second_fits : second ≤ length (blocks c)
  second_fits = omega (arith, read_second, size_fits (blocks c) sizes (count c) c.args.state c.args.block (mid_sizes c) c.requires.state (low c) (below c))

  written : set (set sizes c.index-old.result.now (first - 1)) c.args.block (second + 1)
      ≡ shifted (blocks c) sizes (count c) c.args.state c.args.block (mid_sizes c) c.requires.state (low c) (below c)
  written = λ i. set (set sizes (old_is c i) (first_is i - 1)) c.args.block (read_second i + 1)

pub overflow_add-index_mut : goal.overflow_add-index_mut
overflow_add-index_mut c =
    let j = (goal.at.overflow_add-index_mut c).Joined-block-len in
    let first = read j c.if-block-len.self.sizes.items c.index_mut.result.now (mid_sizes j).each c.index_mut.ensures.value in
    let fits = second_fits j c.index_mut.result.now c.index_mut-2.result.now first c.index_mut-2.ensures.value in
    let old = c.args.self.now.blocks in
    omega (arith, fits, old.ok.0, old.ok.1, old.small)

pub returns-clause-sizes : goal.returns-clause-sizes
returns-clause-sizes c =
    let j = (goal.at.returns-clause-sizes c).Joined-block-len in
    let mid = c.if-block-len.self in
    let first = read j mid.sizes.items c.index_mut.result.now (mid_sizes j).each c.index_mut.ensures.value in
    subst (λ blocks. AreSizes (set blocks c.args.state c.args.block) (count j) (set (set mid.sizes.items c.index-old.result.now (c.index_mut.result.now - 1)) c.args.block (c.index_mut-2.result.now + 1)))
    (sym (mid_blocks j))
    (subst (AreSizes (set (blocks j) c.args.state c.args.block) (count j)) (sym (written j c.index_mut.result.now c.index_mut-2.result.now first c.index_mut-2.ensures.value))
    (sizes_shifted (blocks j) mid.sizes.items (count j) c.args.state c.args.block (mid_sizes j) c.requires.state (low j) (below j)))

pub returns-clause-members : goal.returns-clause-members
returns-clause-members c =
    let j = (goal.at.returns-clause-members c).Joined-block-len in
    let mid = c.if-block-len.self in
    subst (λ blocks. HaveTheirOwn (set blocks c.args.state c.args.block) (list_of c.put.new.self)) (sym (mid_blocks j))
    (own_put (blocks j) (list_of mid.members) (list_of c.put.new.self) c.args.block c.args.state c.requires.state c.in_ok-put.ensures.put (mid_members j))
