use Rattle.std.proofs.Common.{◌++◌, take, sym, ap, ◌∙◌, refl}
use Rattle.lbk_passage.proofs.Texts.{IsLent-used, bytes-used, bytes-gathered}
use Rattle.lbk_passage.proofs.paragraph.Paragraph.lend.Goals as goal

pub returns : goal.returns
returns c =
    let p = c.args.self.now in
    let none = sym (bytes-gathered p c.requires.gathered) ∙ c.requires.fresh in
    record {
      lends = c.ready-ready.ensures.lends;
      moves = record {
        feed = c.advance.ensures.used;
        text = bytes-used p.feed c.advance.new.self c.args.len c.requires.place c.advance.ensures.used _ none
            ∙ ap (λ l. l ++ take c.args.len p.feed.ready) (sym c.requires.fresh);
        limit = refl;
        held = refl;
        spent = refl;
      };
      end_is = refl;
      is_held = refl;
    }

pub invariant_of-self-clause-behind : goal.invariant_of-self-clause-behind
invariant_of-self-clause-behind c =
    let p = c.args.self.now in
    IsLent-used p.feed c.advance.new.self c.args.len c.requires.place c.advance.ensures.used p.limit c.requires.few c.ready-ready.ensures.lends.text
