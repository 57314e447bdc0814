use Rattle.lbk_passage.specs.Marks.{scalars_of}
use Rattle.lbk_cmd.specs.Show.{verdicts_of}
use Rattle.lbk_cmd.proofs.ReadingBack.{one_more}
use Rattle.lbk_cmd.proofs.broken.read_shown.Goals as goal

pub returns-in-Ok-Some : goal.returns-in-Ok-Some
returns-in-Ok-Some c = λ ms is readable.
    (let same = c.in-Ok-Some.ensures.same (scalars_of ms) (verdicts_of ms) is (one_more ms) readable.scalars in
    let read = c.in-Ok-Some.field-0-is in
    cc)

pub unreachable-requires : goal.unreachable-requires
unreachable-requires c =
    let ms = c.requires.0 in
    let same = c.in-Ok-None.ensures.same (scalars_of ms) (verdicts_of ms) c.requires.1 (one_more ms) c.requires.2.scalars in
    let none = c.in-Ok-None.field-0-is in
    cc

pub unreachable-requires-in-Err-LineTooLong : goal.unreachable-requires-in-Err-LineTooLong
unreachable-requires-in-Err-LineTooLong c =
    let ms = c.requires.0 in
    let memory = c.in-Err-LineTooLong.ensures.fault (scalars_of ms) (verdicts_of ms) c.requires.1 (one_more ms) c.requires.2.scalars c.requires.2.few in
    let fault = c.in-Err-LineTooLong.field-0-is in
    cc

pub unreachable-requires-in-Err-Bad : goal.unreachable-requires-in-Err-Bad
unreachable-requires-in-Err-Bad c =
    let ms = c.requires.0 in
    let memory = c.in-Err-Bad.ensures.fault (scalars_of ms) (verdicts_of ms) c.requires.1 (one_more ms) c.requires.2.scalars c.requires.2.few in
    let fault = c.in-Err-Bad.field-0-is in
    cc
