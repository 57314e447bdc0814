use Rattle.std.proofs.Common.{◌++◌, take, IsCharBoundary, string_bytes, not, is_ok, if◌then◌else◌, refl, sym, ap, subst, ◌∙◌}
use Rattle.lbk_passage.specs.Lent.{IsLent}
use Rattle.lbk_passage.proofs.Taking.{pushed}
use Rattle.lbk_passage.proofs.Texts.{IsLent-none, bytes-gathered, gathered-bytes}
use Rattle.lbk_passage.proofs.paragraph.Paragraph.move_up.Goals as goal

pub range-requires-clause-end_boundary : goal.range-requires-clause-end_boundary
range-requires-clause-end_boundary c = subst (λ l. IsCharBoundary l c.args.len) (sym c.ready-ready.ensures.ready) c.requires.place

pub returns-clause-moves : goal.returns-clause-moves
returns-clause-moves c = record {
  feed = c.advance.ensures.used;
  text = gathered-bytes _ _ _ c.requires.gathered
      ∙ pushed c.push_str.result _ _ c.ready-ready.result.now _ c.args.len
      (c.is_err.ensures.negation ∙ ap not c.if-is_err.false)
      (c.push_str.ensures.bytes ∙ ap (λ l. if is_ok c.push_str.result then string_bytes c.args.self.now.text ++ l else string_bytes c.args.self.now.text) c.range.ensures.value)
      c.ready-ready.ensures.ready
      ∙ ap (λ l. l ++ take c.args.len c.args.self.now.feed.ready) (sym (bytes-gathered c.args.self.now c.requires.gathered));
  limit = refl;
  held = refl;
  spent = refl;
}

pub invariant_of-self-clause-behind : goal.invariant_of-self-clause-behind
invariant_of-self-clause-behind c =
    subst (λ n. IsLent n c.args.self.now.limit c.advance.new.self) (sym c.requires.gathered) (IsLent-none c.args.self.now.limit c.advance.new.self)
