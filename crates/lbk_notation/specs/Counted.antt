-- The counts after one more result.
use Rattle.std.specs.Prelude.{◌+◌}
use Rattle.lbk_notation.specs.declared.findings.Finding.{Finding}
use Rattle.lbk_notation.specs.declared.findings.Finding.TheVariants.{NoLine, Replayed, Bad, Long}
use Rattle.lbk_notation.specs.declared.findings.Outcome.TheVariants.{Agree, Differ}
use Rattle.lbk_notation.specs.declared.findings.Report.{Report}

abbrev pub counted : Report → Finding → Report
counted report NoLine = report
counted report (Replayed Agree) = record report { lines = report.lines + 1; agreed = report.agreed + 1 }
counted report (Replayed (Differ _ _ _)) = record report { lines = report.lines + 1; differed = report.differed + 1 }
counted report (Bad _) = record report { lines = report.lines + 1; refused = report.refused + 1 }
counted report Long = record report { lines = report.lines + 1; refused = report.refused + 1 }
