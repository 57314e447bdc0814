use Rattle.std.proofs.Common.{◌≡◌, ◌+◌, ◌-◌, ◌≤◌, Bool, true, false, cond, List, ◌++◌, get_or, drop, take, refl, sym, ap, ap₂, subst, ◌∙◌, arith}
use Rattle.std.specs.Bool.{if◌then◌else◌}
use Rattle.std.proofs.Math.ListN.{set}
use Rattle.std.proofs.lemmas.List.{length-set}
use mir.Val.{bool_byte}
use Rattle.lbk_rules.specs.declared.Kind.{Kind}
use Rattle.lbk_rules.specs.declared.Kind.TheVariants.{May, Must}
use Rattle.lbk_rules.specs.declared.Rule.{Rule}
use Rattle.lbk_rules.specs.Breaks.{is_no}
use Rattle.lbk_bytes.specs.Order.{no_break}
use Rattle.lbk_bytes.specs.Shown.{given_in, shown}
use Rattle.lbk_bytes.proofs.ShownLemmas.{shown-raw}
use Rattle.lbk_passage.specs.Cuts.{AreRising, cut_on, musts}
use Rattle.lbk_passage.specs.Passages.{is_must}
use Rattle.lbk_passage.specs.declared.passage.Segment.{Segment}
use Rattle.lbk_passage.proofs.CutLemmas.{cut-step, may_kind, must_kind, musts-step, next-given, rising-step}
use Rattle.lbk_passage.proofs.segments.cut_passages.Goals as goal
use Rattle.lbk_passage.proofs.segments.cut_passages.Goals.{then-must, else-must, then-must-2, else-must-2}

pub overflow_sub-end : goal.overflow_sub-end
overflow_sub-end c =
    let l = c.loop-k in
    let next = next-given c.args.block.now c.args.count l.k (omega (arith, c.requires.room, c.told-block)) c.loop-k-test.true in
    (subst (AreRising l.base 4294967296) next l.invariant.rising).0

pub overflow_cast-end : goal.overflow_cast-end
overflow_cast-end c =
    let l = c.loop-k in
    let next = next-given c.args.block.now c.args.count l.k (omega (arith, c.requires.room, c.told-block)) c.loop-k-test.true in
    let rising = subst (AreRising l.base 4294967296) next l.invariant.rising in
    omega (arith, rising.1)

pub loop-k-preserved : goal.loop-k-preserved
loop-k-preserved c =
    let l = c.loop-k in
    let block = c.args.block.now in
    let raw = get_or block l.k no_break in
    let b = shown raw in
    let rest = drop (l.k + 1) (given_in block c.args.count) in
    let next = next-given block c.args.count l.k (omega (arith, c.requires.room, c.told-block)) c.loop-k-test.true in
    let known = c.requires.breaks l.k c.loop-k-test.true in
    let same : b ≡ known.0 = ap shown known.1 ∙ shown-raw known.0 in
    let must : c.must_end_at-must.result ≡ is_must b.kind = c.must_end_at-must.ensures known.0 known.1 ∙ ap (λ x. is_must x.kind) (sym same) in
    let shows : c.break_of-found.result ≡ b = c.break_of-found.ensures known.0 known.1 ∙ sym same in
    let some : is_no b.kind ≡ false = ap (λ x. is_no x.kind) same ∙ known.2 in
    let by : Bool → Kind = λ m. if m then Must else May in
    let kind : c.kind_by-segment.result ≡ b.kind =
    c.kind_by-segment.ensures ∙ ap by must ∙ elim (is_must b.kind) as (λ m. is_must b.kind ≡ m → by m ≡ b.kind)
    [ true ↦ λ is. sym (must_kind b.kind is) | false ↦ λ is. sym (may_kind b.kind is some) ] refl in
    let start : c.if-must.start ≡ cond (is_must b.kind) 0 (raw.at - l.base) =
    elim c.if-must.branch [
      | then-must w ↦ w.start-is ∙ ap (λ m. cond m 0 (raw.at - l.base)) (sym w.if-must.true ∙ must)
      | else-must w ↦ w.start-is ∙ ap (λ m. cond m 0 (raw.at - l.base)) (sym w.if-must.false ∙ must)
    ] in
    let base : c.if-must-2.base ≡ cond (is_must b.kind) raw.at l.base =
    elim c.if-must-2.branch [
      | then-must-2 w ↦ w.base-is ∙ ap (λ m. cond m raw.at l.base) (sym w.if-must-2.true ∙ must)
      | else-must-2 w ↦ w.base-is ∙ ap (λ m. cond m raw.at l.base) (sym w.if-must-2.false ∙ must)
    ] in
    let piece : Kind → Rule → Segment = λ k r. record { start = l.start; end = raw.at - l.base; kind = k; rule = r } in
    let front : Segment → List Segment = λ x. take (l.k + 1) (set l.segments l.k x) in
    let noted : c.from-ends_count.result ≡ cond (is_must b.kind) 1 0 =
    c.from-ends_count.ensures ∙ ap bool_byte must
    ∙ elim (is_must b.kind) as (λ m. bool_byte m ≡ cond m 1 0) [ true ↦ refl | false ↦ refl ] in
    let most : cond (is_must b.kind) 1 0 ≤ 1 = elim (is_must b.kind) as (λ m. cond m 1 0 ≤ 1) [ true ↦ omega arith | false ↦ omega arith ] in
    record {
      rising = subst (λ n. AreRising n 4294967296 rest) (sym base) (rising-step l.base 4294967296 b rest (subst (AreRising l.base 4294967296) next l.invariant.rising));
      cut =
          ap (λ k. front (piece k c.break_of-found.result.rule) ++ cut_on c.if-must-2.base c.if-must.start rest) kind
          ∙ ap (λ r. front (piece b.kind r) ++ cut_on c.if-must-2.base c.if-must.start rest) (ap (λ x. x.rule) shows)
          ∙ ap₂ (λ n s. front (piece b.kind b.rule) ++ cut_on n s rest) base start
          ∙ cut-step l.base l.start b rest l.segments l.k _ (omega (arith, c.requires.room, c.loop-k-test.true, l.invariant.long.0))
          (ap (λ bs. take l.k l.segments ++ cut_on l.base l.start bs) (sym next) ∙ l.invariant.cut);
      ends =
          ap (λ n. take (l.ends_count + n) (set l.ends l.ends_count l.k) ++ musts (l.k + 1) rest) noted
          ∙ musts-step l.k l.ends_count b rest l.ends _ (omega (arith, l.invariant.few, c.requires.room, c.loop-k-test.true, l.invariant.long.1))
          (ap (λ bs. take l.ends_count l.ends ++ musts l.k bs) (sym next) ∙ l.invariant.ends);
      few = omega (arith, l.invariant.few, noted, most);
      long = (length-set l.segments l.k _ ∙ l.invariant.long.0, length-set l.ends l.ends_count l.k ∙ l.invariant.long.1);
    }
