use Rattle.dcv_sentence.specs.Scanning.{tokens_in}
use Rattle.dcv_sentence.proofs.FirstFault.{first_of_all}
use Rattle.dcv_sentence.proofs.scan.Scan.first_fault.Goals as goal

pub returns : goal.returns
returns c =
    let scan = c.args.self.now in
    let byte = c.byte_fault.result in
    let name = c.name_fault.result in
    let number = c.number_fault.result in
    let syntax = c.in_ok-syntax_fault.field-0 in
    let nest = c.nest_fault.result in
    rw (c.earlier_of.ensures, c.earlier_of-fault-3.ensures, c.earlier_of-fault-2.ensures, c.earlier_of-fault.ensures)
    (first_of_all scan.text.now (tokens_in scan) scan.rest.now byte name number syntax nest c.requires.scanned c.byte_fault.ensures c.name_fault.ensures c.number_fault.ensures c.in_ok-syntax_fault.ensures c.nest_fault.ensures)
