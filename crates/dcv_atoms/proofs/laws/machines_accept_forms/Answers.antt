use Rattle.dcv_atoms.proofs.Accepting.{accepts_form}
use Rattle.dcv_atoms.proofs.laws.machines_accept_forms.Goals as goal

pub returns : goal.returns
returns c =
    let brackets = c.brackets_accept.ensures in
    let measures = c.measures_accept.ensures in
    let settle = c.comparisons_settle.ensures in
    accepts_form (record {
      constant = brackets.constant;
      point = brackets.point;
      run = brackets.run;
      every = brackets.every;
      unit = brackets.unit;
      slen = measures.slen;
      scount = measures.scount;
      sdur = measures.sdur;
      back = c.shifts_accept.ensures.back;
      fore = c.shifts_accept.ensures.fore;
    }) (record {
      equal = settle.equal;
      less = settle.less;
      at_most = settle.at_most;
      greater = settle.greater;
      at_least = settle.at_least;
    })
