use Rattle.std.proofs.Common.{rules, sym, subst, ◌∙◌}
use Rattle.bstr.specs.Utf8.{pieces}
use Rattle.lbk_bytes.proofs.PartLemmas.{part-onward}
use Rattle.lbk_units.proofs.PositionLemmas.{pieces-part}
use Rattle.lbk_streams.specs.Stands.{Streams}
use Rattle.lbk_c.proofs.FeedLemmas.{feeds-next}
use Rattle.lbk_c.proofs.streaming.lbk_feed.Goals as goal

pub returns : goal.returns
returns c =
    let said = c.feed.ensures in
    record {
      over = search rules;
      start = said.start;
      part = λ cell profile goes_on at text flat short starts.
          subst (λ l. Streams cell c.args.table.now.kinds c.args.table.now.pairs c.args.stream.now text l)
          (pieces-part goes_on profile cell at (pieces text) ∙ sym (part-onward goes_on profile cell at text))
          (said.part cell profile goes_on at text flat short starts);
      next = feeds-next _ _ _ _ _ _ _ _ _ _ _ _ said.front said.rest said.settled said.seen;
      cut = said.cut;
      end = said.end;
    }
