use Rattle.lbk_cmd.proofs.Alone.{performs_by_reader}
use Rattle.lbk_cmd.proofs.laws.one_run_without_texts.Goals as goal

pub returns : goal.returns
returns g c = performs_by_reader g.T.File.Source (g.T.Opens.contents c.args.texts.now)
