-- A run over a reader that tells its bytes.
use Rattle.std.proofs.Common.{ℕ, Bool, List, Option, Result, Ok, Err, OnOk, IfSome, IsTrue, IsUtf8, chars, subst}
use Rattle.std.specs.Io.KnownBytes.{Appends, IsAtEnd}
use Rattle.std.proofs.KnownBytes.{Consumes-whole}
use Rattle.lbk_feed.specs.Devices.{Reads}
use Rattle.lbk_feed.specs.Runs.{Ran}
use Rattle.lbk_cmd.specs.Run.{Engine, IsRun, IsWhole, by_passage, is_failed_read, passages_by, written_by}
use Rattle.lbk_cmd.specs.declared.faults.CmdFault.{CmdFault}

pub known_whole : (X : Type 0) (e : Engine) (from to : Reads) (has_ended : Bool) (answer : Result X CmdFault) (u u' w w' : Option (List ℕ))
    → Ran (is_failed_read answer) u u' w w' (IsRun (by_passage e) from to has_ended answer) → OnOk answer (IsTrue has_ended × IsAtEnd u')
    → OnOk answer (IfSome u (λ input. IsUtf8 input × Appends w w' (written_by e (passages_by (by_passage e) (chars input)))))
known_whole X e from to has_ended (Ok x) u u' w w' ran ended =
    let whole : IsWhole (by_passage e) ran.read ran.out = ran.so.comes in
    Consumes-whole u u' ran.read (λ input. IsUtf8 input × Appends w w' (written_by e (passages_by (by_passage e) (chars input)))) ran.took ended.1
    (whole.utf8, subst (Appends w w') whole.is ran.put)
known_whole X e from to has_ended (Err why) u u' w w' ran ended = tt
