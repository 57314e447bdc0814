use Rattle.std.proofs.Common.{◌||◌, None, refl, ap, ◌∙◌, arith, length}
use Rattle.lbk_values.specs.declared.profile.Profile.TheVariants.{First}
use Rattle.lbk_passage.proofs.Looking.{looked_line, still_open, whole_line}
use Rattle.lbk_passage.proofs.Taking.{Takes-moves, Takes-told}
use Rattle.lbk_passage.proofs.Texts.{IsLent-none}
use Rattle.lbk_passage.proofs.paragraph.Paragraph.look_ahead.Goals as goal

pub invariant_of-self-clause-behind : goal.invariant_of-self-clause-behind
invariant_of-self-clause-behind g c = IsLent-none c.args.self.now.limit c.args.self.now.feed

pub returns-clause-state : goal.returns-clause-state
returns-clause-state g c = λ cell profile.
    let by = g.C.CellSource.cell_of c.args.known.now.cells.now in
    let fresh = ap (λ b. b || c.args.self.now.is_spent) c.if-self.false ∙ c.if-self-2.false in
    let takes = Takes-moves by None _ _ c.reach-reach.result refl c.reach-reach.ensures.lends c.reach-reach.ensures.reaches c.hold.ensures.moves in
    rw c.hold.ensures.is_held (looked_line cell profile c.args.self.now fresh _ c.clear.ensures.bytes refl refl refl by _ c.reach-reach.result takes)

pub returns-clause-whole : goal.returns-clause-whole
returns-clause-whole g c = λ held.
    let by = g.C.CellSource.cell_of c.args.known.now.cells.now in
    let fresh = ap (λ b. b || c.args.self.now.is_spent) c.if-self.false ∙ c.if-self-2.false in
    let takes = Takes-moves by None _ _ c.reach-reach.result refl c.reach-reach.ensures.lends c.reach-reach.ensures.reaches c.hold.ensures.moves in
    whole_line by First c.args.self.now fresh _ c.clear.ensures.bytes refl refl refl by _ c.reach-reach.result takes
    c.hold.new.self.end c.in-LineEnds.is (c.hold.ensures.end_is ∙ c.end_before.ensures)

pub returns-in-Some-clause-state : goal.returns-in-Some-clause-state
returns-in-Some-clause-state g c = λ cell profile.
    let by = g.C.CellSource.cell_of c.args.known.now.cells.now in
    let told = rw c.in-Some.is at c.requires.told in
    let takes = Takes-told by c.args.self.now _ _ c.in-Some.told told refl refl (ap length c.clear.ensures.bytes) c.lend.ensures.lends c.lend.ensures.moves in
    rw c.lend.ensures.is_held (looked_line cell profile c.args.self.now told.fresh _ c.clear.ensures.bytes refl refl refl by _ told.reach takes)

pub returns-in-Some-clause-whole : goal.returns-in-Some-clause-whole
returns-in-Some-clause-whole g c = λ held.
    let by = g.C.CellSource.cell_of c.args.known.now.cells.now in
    let told = rw c.in-Some.is at c.requires.told in
    let takes = Takes-told by c.args.self.now _ _ c.in-Some.told told refl refl (ap length c.clear.ensures.bytes) c.lend.ensures.lends c.lend.ensures.moves in
    whole_line by First c.args.self.now told.fresh _ c.clear.ensures.bytes refl refl refl by _ told.reach takes
    c.lend.new.self.end told.stop (c.lend.ensures.end_is ∙ told.end)

pub returns-in_default-stop-clause-remains : goal.returns-in_default-stop-clause-remains
returns-in_default-stop-clause-remains g c = λ none profile.
    let fresh = ap (λ b. b || c.args.self.now.is_spent) c.if-self.false ∙ c.if-self-2.false in
    still_open (g.C.CellSource.cell_of c.args.known.now.cells.now) profile c.args.self.now fresh _ (omega (arith, c.clear.ensures.len)) c.reach-reach.result
    c.reach-reach.ensures.lends c.reach-reach.ensures.front c.reach-reach.ensures.reaches c.in_default-stop.not-LineEnds
