use Rattle.std.proofs.Common.{◌<◌, true, false, refl, length, get_or, [], arith, ap, sym, ◌∙◌, below_more}
use Rattle.std.proofs.lemmas.Bool.{false≢true}
use Rattle.std.proofs.lemmas.List.{get_or_read, get_or_default}
use Rattle.lbk_uax14.proofs.PagesLemmas.{digest_at, digests_length, page_Decides}
use Rattle.lbk_uax14.proofs.pages.kept.Kept.find.Goals as goal
use Rattle.lbk_uax14.proofs.pages.kept.Kept.find.Goals.{else-known-digest-via-then-known-digest+else-eq, else-known-digest-via-else-known-digest}

pub returns-then-eq : goal.returns-then-eq
returns-then-eq c =
    let kept = c.args.self.now in
    let below : c.loop-number.number < length kept.pages.items =
    omega (arith, digests_length _ _ kept.digested, ap length c.deref-known-items.ensures.value) in
    let same = (page_Decides _ _ true c.if-eq.ensures).0 refl in
    (below, sym (get_or_read kept.pages.items _ _ below c.index.ensures []) ∙ same)

pub loop-number-preserved : goal.loop-number-preserved
loop-number-preserved c = below_more _ _ c.loop-number.invariant (λ same.
    let kept = c.args.self.now in
    let n = c.loop-number.number in
    let below : n < length kept.pages.items =
    omega (arith, digests_length _ _ kept.digested, ap length c.deref-known-items.ensures.value) in
    elim c.else-known-digest.branch [
      | else-known-digest-via-then-known-digest+else-eq w ↦
          false≢true ((page_Decides _ _ false w.if-eq.ensures).1 (get_or_read kept.pages.items n _ below w.index.ensures [] ∙ same))
      | else-known-digest-via-else-known-digest w ↦
          w.if-known-digest.false
          (ap (λ all. get_or all n 0) c.deref-known-items.ensures.value
          ∙ digest_at kept.pages.items kept.digests.items n c.args.found.now.page.now kept.digested below same
          ∙ sym c.args.found.now.digested)
    ])

pub returns : goal.returns
returns c = λ k d l e.
    let kept = c.args.self.now in
    c.loop-number.invariant k
    (omega (arith, digests_length _ _ kept.digested, ap length c.deref-known-items.ensures.value))
    (get_or_default kept.pages.items k [] d l ∙ e)
