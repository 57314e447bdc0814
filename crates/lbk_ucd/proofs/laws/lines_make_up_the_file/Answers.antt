use Rattle.std.proofs.Common.{◌==◌}
use Rattle.std.proofs.lemmas.List.Splits.{join_with_byte-slice_split}
use Rattle.lbk_ucd.specs.File.{without_mark}
use Rattle.lbk_ucd.proofs.LawLemmas.{split_lacks}
use Rattle.lbk_ucd.proofs.laws.lines_make_up_the_file.Goals as goal

pub returns-clause-joined : goal.returns-clause-joined
returns-clause-joined c = λ bytes. join_with_byte-slice_split 10 (without_mark bytes)

pub returns-clause-apart : goal.returns-clause-apart
returns-clause-apart c = λ bytes. split_lacks (λ byte. byte == 10) (without_mark bytes)
