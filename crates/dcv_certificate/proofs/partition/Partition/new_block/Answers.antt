use Rattle.std.proofs.Common.{◌≡◌, ◌+◌, arith}
use Rattle.std.proofs.lemmas.Result.{IfOk-weaker}
use Rattle.dcv_certificate.specs.Partition.{IsMovedTo}
use Rattle.dcv_certificate.proofs.Counting.{one_if_le}
use Rattle.dcv_certificate.proofs.Moving.{moved_behind}
use Rattle.dcv_certificate.proofs.partition.Partition.new_block.Goals as goal

pub number_behind-requires : goal.number_behind-requires
number_behind-requires c =
    let ok = c.in_ok-place.ensures in
    omega (arith, c.requires, ok.within, ok.len, one_if_le c.in_ok-place.field-0-1)

pub returns : goal.returns
returns c =
    let count = c.args.self.now.count in
    let block = c.args.block in
    let old = c.args.left.now.keys in
    let new = c.insert_full.new.self.keys in
    let ok = c.in_ok-place.ensures in
    let place = c.in_ok-place.place in
    record {
      moved = IfOk-weaker c.number_behind.result (λ number. number ≡ count + place) (IsMovedTo count old new block)
          (λ number is. moved_behind count block place number ok.stored.0 old new (omega arith) ok.keys ok.unique ok.stored.1 ok.stored.2 is) c.number_behind.ensures;
    }
