use Rattle.std.proofs.Common.{◌≡◌, drop, map}
use Rattle.lbk_cmd.specs.Acts.{RunsReady}
use Rattle.lbk_cmd.specs.Devices.{devices_of}
use Rattle.lbk_cmd.specs.Operands.{ReadsTexts, Standing, standing}
use Rattle.lbk_cmd.specs.declared.ending.Ending.TheVariants.{Done}
use Rattle.lbk_cmd.proofs.performing.perform.Given as goal

-- what reads the texts that are left, from here, reads all, from the beginning
abbrev pub invariant-loop-name : goal.invariant-loop-name
invariant-loop-name g l = record {
  reads : (after : Standing)
      → ReadsTexts g.T.File.Source (g.T.Opens.contents l.fn.texts) (RunsReady l.ready)
      (map (λ name. name.now) (drop l.name-index l.names))
      (standing (devices_of g.R.Source g.W.Sink l.reader l.writer) (g.T.Texts.refused l.texts) l.so_far) after
      → ReadsTexts g.T.File.Source (g.T.Opens.contents l.fn.texts) (RunsReady l.ready)
      (map (λ name. name.now) l.names)
      (standing (devices_of g.R.Source g.W.Sink l.fn.reader l.fn.writer) (g.T.Texts.refused l.fn.texts) Done) after;
  contents : g.T.Opens.contents l.texts ≡ g.T.Opens.contents l.fn.texts;
}
