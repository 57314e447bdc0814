use Rattle.std.proofs.Common.{rules}
use Rattle.lbk_notation.proofs.Answered.{answered_found, answered_only, answered_fault}
use Rattle.lbk_notation.proofs.line_reading.read_line.Goals as goal

pub returns : goal.returns
returns c = record {
  long = search rules;
  found = answered_found c.args.form c.args.bytes.now c.read_bytes.result c.read_bytes.ensures.line;
  only = answered_only c.args.form c.args.bytes.now c.read_bytes.result c.read_bytes.ensures.line;
  fault = answered_fault c.args.form c.args.bytes.now c.read_bytes.result c.if-bytes-gt-LONGEST.false c.read_bytes.ensures.fault;
}
