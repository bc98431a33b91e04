use Rattle.std.proofs.Common.{◌≡◌, ◌+◌, length, sym, subst, ◌∙◌, arith}
use Rattle.dcv_certificate.specs.Vertices.{raw_of}
use Rattle.dcv_certificate.specs.Separation.{AreVertices, AreFinished}
use Rattle.dcv_certificate.specs.Partition.{listed_in, Separates, HasFinished, GoesOn}
use Rattle.dcv_certificate.proofs.Listing.{length-suffix_words}
use Rattle.dcv_certificate.proofs.certificate.separating.Goals as goal
use Rattle.dcv_certificate.proofs.certificate.separating.Goals.{In_ok-go_on_from}

pub loop-place-init : goal.loop-place-init
loop-place-init c = record {
  same = c.in_ok-partition.ensures.vertices;
  place = omega arith;
  separates = c.in_ok-partition.ensures.separates;
  finished = λ place first second letter below t width. absurd (omega arith);
}

pub go_on_from-requires-clause-vertices : goal.go_on_from-requires-clause-vertices
go_on_from-requires-clause-vertices c = subst AreVertices (sym c.loop-place.invariant.same) c.requires

pub go_on_from-requires-clause-separates : goal.go_on_from-requires-clause-separates
go_on_from-requires-clause-separates c = subst (λ raw. Separates raw c.loop-place.partition) (sym c.loop-place.invariant.same) c.loop-place.invariant.separates

pub go_on_from-requires-clause-finished : goal.go_on_from-requires-clause-finished
go_on_from-requires-clause-finished c = subst (λ raw. HasFinished raw c.loop-place.partition c.loop-place.place) (sym c.loop-place.invariant.same) c.loop-place.invariant.finished

goes : (c : In_ok-go_on_from) → GoesOn (raw_of c.args.vertices.now) c.loop-place.partition c.go_on_from.new.self
goes c = subst (λ raw. GoesOn raw c.loop-place.partition c.go_on_from.new.self) c.loop-place.invariant.same c.in_ok-go_on_from.ensures.goes_on

pub loop-place-smaller : goal.loop-place-smaller
loop-place-smaller c =
    let old = c.loop-place.partition in
    let new = c.go_on_from.new.self in
    omega (arith, (goes c).fewer, c.loop-place-test.true, c.len.ensures, length-suffix_words old.suffixes.items, length-suffix_words new.suffixes.items)

pub loop-place-preserved : goal.loop-place-preserved
loop-place-preserved c =
    let old = c.loop-place.partition in
    let new = c.go_on_from.new.self in
    let same = c.loop-place.invariant.same in
    record {
      same = c.in_ok-go_on_from.ensures.vertices ∙ same;
      place = omega (arith, (goes c).more, c.loop-place-test.true, c.len.ensures, length-suffix_words old.suffixes.items, length-suffix_words new.suffixes.items);
      separates = subst (λ raw. Separates raw new) same c.in_ok-go_on_from.ensures.separates;
      finished = subst (λ raw. HasFinished raw new (c.loop-place.place + 1)) same c.in_ok-go_on_from.ensures.finished;
    }

pub returns-clause-earlier : goal.returns-clause-earlier
returns-clause-earlier c = c.loop-place.invariant.separates.separation.earlier

pub returns-clause-separated : goal.returns-clause-separated
returns-clause-separated c =
    let raw = raw_of c.args.vertices.now in
    let partition = c.loop-place.partition in
    let was = c.loop-place.invariant in
    let all : c.loop-place.place ≡ length (listed_in partition) = omega (arith, c.loop-place-test.false, c.len.ensures, was.place, length-suffix_words partition.suffixes.items) in
    record {
      block_numbers = partition.blocks.items;
      are_listed = was.separates.separation.are_listed;
      are_blocks = was.separates.separation.are_blocks;
      are_finished = subst (AreFinished raw (listed_in partition) partition.blocks.items) all was.finished;
    }
