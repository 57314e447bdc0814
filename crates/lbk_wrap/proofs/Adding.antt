-- What was appended leaves what was there.
use Rattle.std.proofs.Common.{◌≡◌, ℕ, List, ◌++◌, length, take, ap, ◌∙◌}
use Rattle.std.proofs.Math.Seq.{take-append_seam}
use Rattle.std.specs.Prelude.{OnErr, OnOk, Result, Ok, Err}
use Rattle.lbk_feed.specs.Appended.{HasPut}
use Rattle.lbk_passage.specs.Adding.{Adds}

pub adds-by : {X Y : Type 0} (result : Result X Y) (old new bytes : List ℕ) → OnOk result (new ≡ old ++ bytes)
    → OnErr result (HasPut old new bytes) → Adds old new bytes result
adds-by (Ok x) old new bytes same put =
    record { all = same; kept = ap (take (length old)) same ∙ take-append_seam old bytes }
adds-by (Err e) old new bytes same put =
    record { all = tt; kept = ap (take (length old)) put.is ∙ take-append_seam old (take put.count bytes) }
