use Rattle.lbk_cmd.proofs.ReadingBack.{ReadsOn-end, ReadsOn-readable, ReadsOn-step}
use Rattle.lbk_cmd.proofs.broken.read_lines.Goals as goal

pub read_shown-requires : goal.read_shown-requires
read_shown-requires c =
    ReadsOn-readable c.args.text.now c.loop-line.rest.now c.loop-line.lines.items c.loop-line.invariant c.in-Some.line.now c.in-Some.behind.now
    c.in-Some.ensures.some.0 c.in-Some.ensures.some.1 c.requires

pub loop-line-preserved : goal.loop-line-preserved
loop-line-preserved c =
    ReadsOn-step c.args.text.now c.loop-line.rest.now c.loop-line.lines.items c.loop-line.invariant c.in-Some.line.now c.in-Some.behind.now
    c.in_ok-read_shown.field-0 c.push.new.self.items c.in-Some.ensures.some.0 c.in-Some.ensures.some.1 c.in_ok-read_shown.ensures
    c.in_ok-push.ensures.items

pub returns : goal.returns
returns c =
    ReadsOn-end c.args.text.now c.loop-line.rest.now c.loop-line.lines.items c.loop-line.invariant c.in_default.ensures.none
