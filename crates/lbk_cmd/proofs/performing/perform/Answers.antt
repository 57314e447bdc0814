use Rattle.std.proofs.Common.{◌≡◌, ◌∙◌, rules, sym, refl, arith}
use Rattle.lbk_cmd.specs.Acts.{RunsReady}
use Rattle.lbk_cmd.specs.Devices.{devices_of}
use Rattle.lbk_cmd.specs.Operands.{standing}
use Rattle.lbk_cmd.proofs.Over.{all_read, last_read, next_read, reader_read, texts_read}
use Rattle.lbk_cmd.proofs.performing.perform.Goals as goal

pub returns-then-is_empty : goal.returns-then-is_empty
returns-then-is_empty g c =
    let same : c.as_slice-names.result.now ≡ c.args.ready.now.texts.items = search rules in
    record {
      runs = reader_read g.T.File.Source (g.T.Opens.contents c.args.texts.now) (RunsReady c.args.ready.now)
          c.as_slice-names.result.now c.args.ready.now.texts.items _ _ same
          (sym c.is_empty.ensures ∙ c.if-is_empty.true) c.perform_titled.ensures refl;
      contents = refl;
    }

pub loop-name-init : goal.loop-name-init
loop-name-init g c = record { reads = λ after reads. reads; contents = refl }

pub returns-then-is_last : goal.returns-then-is_last
returns-then-is_last g c =
    let same : c.as_slice-names.result.now ≡ c.args.ready.now.texts.items = search rules in
    record {
      runs = texts_read g.T.File.Source _ _ c.as_slice-names.result.now c.args.ready.now.texts.items _ _ same (sym c.is_empty.ensures ∙ c.if-is_empty.false)
          (c.loop-name.invariant.reads _ (last_read g.T.File.Source (g.T.Opens.contents c.args.texts.now)
          (RunsReady c.args.ready.now)
          c.as_slice-names.result.now c.loop-name.name-index _ c.loop-name-test.true
          (standing (devices_of g.R.Source g.W.Sink c.loop-name.reader c.loop-name.writer)
          (g.T.Texts.refused c.loop-name.texts) c.loop-name.so_far)
          (devices_of g.R.Source g.W.Sink c.perform_named-ending.new.reader c.perform_named-ending.new.writer)
          c.perform_named-ending.result
          (g.T.Opens.contents c.loop-name.texts) c.loop-name.invariant.contents c.perform_named-ending.ensures
          (sym c.if-is_last.true ∙ c.is_last.ensures)));
      contents = c.loop-name.invariant.contents;
    }

pub loop-name-preserved : goal.loop-name-preserved
loop-name-preserved g c = record {
  reads = λ after further.
      c.loop-name.invariant.reads after (next_read g.T.File.Source (g.T.Opens.contents c.args.texts.now)
      (RunsReady c.args.ready.now)
      c.as_slice-names.result.now c.loop-name.name-index _ c.loop-name-test.true
      (standing (devices_of g.R.Source g.W.Sink c.loop-name.reader c.loop-name.writer) (g.T.Texts.refused c.loop-name.texts) c.loop-name.so_far)
      (devices_of g.R.Source g.W.Sink c.perform_named-ending.new.reader c.perform_named-ending.new.writer) c.perform_named-ending.result
      (g.T.Opens.contents c.loop-name.texts) c.loop-name.invariant.contents c.perform_named-ending.ensures
      (sym c.if-is_last.false ∙ c.is_last.ensures) (g.T.Texts.refused c.report.new.texts) c.and-so_far.result
      c.report.ensures.refused c.and-so_far.ensures after further);
  contents = c.report.ensures.contents ∙ c.loop-name.invariant.contents;
}

pub returns : goal.returns
returns g c =
    let same : c.as_slice-names.result.now ≡ c.args.ready.now.texts.items = search rules in
    record {
      runs = texts_read g.T.File.Source _ _ c.as_slice-names.result.now c.args.ready.now.texts.items _ _ same (sym c.is_empty.ensures ∙ c.if-is_empty.false)
          (c.loop-name.invariant.reads _ (all_read g.T.File.Source (g.T.Opens.contents c.args.texts.now)
          (RunsReady c.args.ready.now)
          c.as_slice-names.result.now c.loop-name.name-index _ (omega arith)));
      contents = c.loop-name.invariant.contents;
    }
