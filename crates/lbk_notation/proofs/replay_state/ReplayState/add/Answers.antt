use Rattle.std.proofs.Common.{refl, sym, ◌∙◌, arith}
use Rattle.lbk_notation.proofs.ReplayStateLemmas.{Stands-add, Holds-long, Holds-passed, Holds-mark, Holds-more}
use Rattle.lbk_notation.proofs.replay_state.ReplayState.add.Goals as goal

pub returns-then-self-clause-stands : goal.returns-then-self-clause-stands
returns-then-self-clause-stands c = λ cell form profile used out stands.
    let held = rw c.if-self.true at stands.held in
    Stands-add cell form profile _ _ used out c.args.byte c.requires.within_line refl refl refl (rw c.if-self.true (Holds-long used c.args.self.now.line.items c.args.byte c.requires.within_line held)) stands

pub returns-then-len-eq-LONGEST-clause-stands : goal.returns-then-len-eq-LONGEST-clause-stands
returns-then-len-eq-LONGEST-clause-stands c = λ cell form profile used out stands.
    let held = rw c.if-self.false at stands.held in
    Stands-add cell form profile _ _ used out c.args.byte c.requires.within_line refl refl refl (Holds-passed used c.args.self.now.line.items c.clear.new.self.items c.args.byte c.requires.within_line held.0 (omega (arith, c.len.ensures, c.if-len-eq-LONGEST.true))) stands

pub returns-then-holds_mark-clause-stands : goal.returns-then-holds_mark-clause-stands
returns-then-holds_mark-clause-stands c = λ cell form profile used out stands.
    let held = rw c.if-self.false at stands.held in
    let found = c.if-holds_mark.ensures.yes in
    Stands-add cell form profile _ _ used out c.args.byte c.requires.within_line refl refl refl
    (rw (c.if-self.false, c.clear-then-holds_mark.ensures.items)
    (Holds-mark used c.args.self.now.line.items c.args.byte c.requires.within_line held.0
    (omega (arith, found.0, stands.taken)) (sym c.in_ok-push.ensures.items ∙ found.1))) stands

pub returns-clause-stands : goal.returns-clause-stands
returns-clause-stands c = λ cell form profile used out stands.
    let held = rw c.if-self.false at stands.held in
    let apart = c.if-holds_mark.ensures.no in
    Stands-add cell form profile _ _ used out c.args.byte c.requires.within_line refl refl refl
    (rw (c.if-self.false, c.in_ok-push.ensures.items)
    (Holds-more used c.args.self.now.line.items c.args.byte c.requires.within_line held.0
    (omega (arith, c.args.self.now.short, c.len.ensures, c.if-len-eq-LONGEST.false)) (λ count mark. apart (omega (arith, stands.taken)) (c.in_ok-push.ensures.items ∙ mark)))) stands
