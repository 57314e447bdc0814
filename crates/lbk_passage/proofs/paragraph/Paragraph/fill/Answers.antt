use Rattle.std.proofs.Common.{◌||◌, None, Ok, Err, length, refl, sym, ap, ◌∙◌, arith, inr}
use Rattle.std.proofs.lemmas.Bool.{false≢true}
use Rattle.std.proofs.lemmas.Result.{err_from_is_err_and}
use Rattle.lbk_passage.specs.State.{state_with}
use Rattle.lbk_values.specs.declared.profile.Profile.TheVariants.{First}
use Rattle.lbk_passage.proofs.Gathered.{Gathers-told, ready_nil}
use Rattle.lbk_passage.proofs.Looking.{whole_line}
use Rattle.lbk_passage.proofs.Settling.{ok_err}
use Rattle.lbk_passage.proofs.Taking.{Takes-told}
use Rattle.lbk_passage.proofs.Filling.{held_done, whole_done, Fills-spent, Fills-held, Fills-gathered, Fills-ok, ends_by_fault}
use Rattle.lbk_passage.proofs.Booleans.{or-true}
use Rattle.lbk_passage.proofs.Texts.{IsLent-none}
use Rattle.lbk_passage.proofs.paragraph.Paragraph.fill.Goals as goal

pub invariant_of-self-clause-behind : goal.invariant_of-self-clause-behind
invariant_of-self-clause-behind g c = IsLent-none c.args.self.now.limit c.args.self.now.feed

pub returns-then-self-clause-fills : goal.returns-then-self-clause-fills
returns-then-self-clause-fills g c = λ profile. Fills-spent (g.C.CellSource.cell_of c.args.known.now.cells.now) profile c.args.self.now _ _ _ c.if-self.true

pub returns-then-self-2-clause-fills : goal.returns-then-self-2-clause-fills
returns-then-self-2-clause-fills g c =
    λ profile. Fills-held (g.C.CellSource.cell_of c.args.known.now.cells.now) profile c.args.self.now _ _ _ c.if-self-2.true c.if-self.false (c.requires.whole c.if-self-2.true)

pub returns-in_err-end-clause-fills : goal.returns-in_err-end-clause-fills
returns-in_err-end-clause-fills g c = λ profile.
    let cell = g.C.CellSource.cell_of c.args.known.now.cells.now in
    let old = c.args.self.now in
    let new = c.gather.new.self in
    let p = err_from_is_err_and c.from_residual.result c.from_residual.ensures.1 in
    let was = c.in_err-end.was ∙ ap Err (sym p.2) in
    let gathers = rw was at c.gather.ensures.gathers in
    let stops = gathers.stops profile in
    let ends = ends_by_fault (state_with cell profile new) p.0 stops in
    rw p.1 (Fills-gathered cell profile old _ _ _ _ new new _ _ _ (Err p.0) (ap (λ b. b || old.is_spent) c.if-self-2.false ∙ c.if-self.false) refl refl
    gathers refl refl refl refl (ap (λ b. new.is_held || b) (gathers.spent ∙ ends) ∙ or-true new.is_held) c.if-self.false (inr stops))

pub returns-clause-fills : goal.returns-clause-fills
returns-clause-fills g c = λ profile.
    let cell = g.C.CellSource.cell_of c.args.known.now.cells.now in
    let old = c.args.self.now in
    let new = c.gather.new.self in
    let gathers = rw c.in_ok-end.was at c.gather.ensures.gathers in
    Fills-ok cell profile old _ _ _ _ new _ _ _ _ c.in_ok-end.end (ap (λ b. b || old.is_spent) c.if-self-2.false ∙ c.if-self.false) refl refl
    gathers refl refl refl refl refl c.if-self.false

pub returns-then-self-clause-again : goal.returns-then-self-clause-again
returns-then-self-clause-again g c = λ profile done unspent. absurd (false≢true (sym unspent ∙ c.if-self.true))

pub returns-then-self-2-clause-again : goal.returns-then-self-2-clause-again
returns-then-self-2-clause-again g c = λ profile done unspent.
    ap Ok (whole_done (g.C.CellSource.cell_of c.args.known.now.cells.now) profile c.args.self.now (ap (λ b. b || c.args.self.now.is_spent) c.if-self-2.true)
    (c.requires.whole c.if-self-2.true) done)

pub returns-in_err-end-clause-again : goal.returns-in_err-end-clause-again
returns-in_err-end-clause-again g c = λ profile done unspent.
    let fresh = ap (λ b. b || c.args.self.now.is_spent) c.if-self-2.false ∙ c.if-self.false in
    absurd (ok_err c.gather.result None _ (c.gather.ensures.reads_on.again done.at_end (held_done (g.C.CellSource.cell_of c.args.known.now.cells.now) profile c.args.self.now fresh done)) c.in_err-end.was)

pub returns-clause-again : goal.returns-clause-again
returns-clause-again g c = λ profile done unspent.
    let fresh = ap (λ b. b || c.args.self.now.is_spent) c.if-self-2.false ∙ c.if-self.false in
    sym c.in_ok-end.was ∙ c.gather.ensures.reads_on.again done.at_end (held_done (g.C.CellSource.cell_of c.args.known.now.cells.now) profile c.args.self.now fresh done)

pub lend-requires-clause-place : goal.lend-requires-clause-place
lend-requires-clause-place g c = (rw c.in-Some.is at c.requires.told).boundary

pub returns-in-Some-clause-fills : goal.returns-in-Some-clause-fills
returns-in-Some-clause-fills g c = λ profile.
    let cell = g.C.CellSource.cell_of c.args.known.now.cells.now in
    let old = c.args.self.now in
    let told = rw c.in-Some.is at c.requires.told in
    let takes = Takes-told cell old _ _ c.in-Some.told told refl refl (ap length c.clear.ensures.bytes) c.lend.ensures.lends c.lend.ensures.moves in
    let gathers = Gathers-told cell _ _ _ _ _ told.reach takes c.clear.ensures.bytes c.if-self-2.false c.if-self.false told.some
    c.lend.new.self.end told.stop (c.lend.ensures.end_is ∙ told.end) in
    Fills-ok cell profile old _ _ _ _ _ c.lend.new.self _ _ _ c.lend.new.self.end told.fresh refl refl
    gathers refl refl refl refl c.lend.ensures.is_held c.if-self.false

pub returns-in-Some-clause-whole : goal.returns-in-Some-clause-whole
returns-in-Some-clause-whole g c = λ held.
    let cell = g.C.CellSource.cell_of c.args.known.now.cells.now in
    let told = rw c.in-Some.is at c.requires.told in
    let takes = Takes-told cell c.args.self.now _ _ c.in-Some.told told refl refl (ap length c.clear.ensures.bytes) c.lend.ensures.lends c.lend.ensures.moves in
    whole_line cell First c.args.self.now told.fresh _ c.clear.ensures.bytes refl refl refl cell _ told.reach takes
    c.lend.new.self.end told.stop (c.lend.ensures.end_is ∙ told.end)

pub returns-in-Some-clause-again : goal.returns-in-Some-clause-again
returns-in-Some-clause-again g c = λ profile done unspent.
    let told = rw c.in-Some.is at c.requires.told in
    let none = held_done (g.C.CellSource.cell_of c.args.known.now.cells.now) profile c.args.self.now told.fresh done in
    let empty = ready_nil c.args.self.now.feed.ready _ (sym c.lend.ensures.lends.first ∙ none) in
    absurd (omega (arith, ap length empty, told.some))
