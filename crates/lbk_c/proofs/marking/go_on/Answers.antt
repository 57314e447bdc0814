use Rattle.std.proofs.Common.{◌+◌, ◌-◌, ◌*◌, ◌≡◌, ◌||◌, [], length, min, refl, sym, ap, subst, ◌∙◌, arith}
use Rattle.lbk_bytes.specs.Bytes.{end_in}
use Rattle.lbk_bytes.specs.Reached.{Reached, onward_to}
use Rattle.lbk_bytes.specs.Marks.{is_marked, stands_among}
use Rattle.lbk_calls.specs.State.{goes_on, plain}
use Rattle.lbk_calls.specs.declared.interface.State.{State}
use Rattle.lbk_calls.specs.Coming.{from_state}
use Rattle.lbk_calls.proofs.UnitsComingLemmas.{of-units}
use Rattle.lbk_c.proofs.MarkLemmas.{Marks-ended, Marks-full}
use Rattle.lbk_c.proofs.marking.go_on.Goals as goal

pub returns-then-words-left-clause-marks : goal.returns-then-words-left-clause-marks
returns-then-words-left-clause-marks g c = λ cell to_come flat start.
    let fill = c.fill_marks-here in
    let here = fill.result in
    let old = c.args.state.now in
    let text = c.args.text.now in
    let words = c.args.words.now in
    let end = end_in (goes_on old.profile) in
    let state : State = record { at = here.at; row = c.number_at-state.result; profile = old.profile; ended = old.ended } in
    let stop = min (length text) (old.at + 64 * length words) in
    Marks-full (goes_on old.profile) c.args.profile cell text to_come old.at stop here (plain state) fill.new.words
    (fill.ensures.marked cell (record { breaks = to_come; end = end }) flat
    (subst (λ n. Reached c.args.profile cell text (record { breaks = to_come; end = end }) (record { count = 0; row = n; at = old.at }) []) (sym (c.place_by.ensures.same start.knows.0))
    (of-units (onward_to end) c.args.profile cell text to_come (from_state (plain old)) [] start)))
    (omega arith) (omega (arith, fill.ensures.stops)) fill.ensures.within.2 refl (c.number_at-state.ensures.same start.knows.0) c.requires.unended

pub returns-clause-marks : goal.returns-clause-marks
returns-clause-marks g c = λ cell to_come flat start.
    let fill = c.fill_marks-here in
    let here = fill.result in
    let old = c.args.state.now in
    let text = c.args.text.now in
    let words = c.args.words.now in
    let put = c.mark_end in
    let end = end_in (goes_on old.profile) in
    let state : State = record { at = here.at; row = c.number_at-state.result; profile = old.profile; ended = 1 } in
    let stop = min (length text) (old.at + 64 * length words) in
    let ends : here.at ≡ length text = omega (arith, fill.ensures.stops, fill.ensures.within.2) in
    Marks-ended (goes_on old.profile) c.args.profile cell text to_come old.at stop here (plain state) fill.new.words put.new.words
    (fill.ensures.marked cell (record { breaks = to_come; end = end }) flat
    (subst (λ n. Reached c.args.profile cell text (record { breaks = to_come; end = end }) (record { count = 0; row = n; at = old.at }) []) (sym (c.place_by.ensures.same start.knows.0))
    (of-units (onward_to end) c.args.profile cell text to_come (from_state (plain old)) [] start)))
    (omega arith) (omega arith) ends c.requires.within (omega arith)
    (λ taken knows some i.
    put.ensures.marked c.args.profile cell taken old.at knows some i
    ∙ ap (λ g. is_marked fill.new.words i || stands_among (old.at + i) (end_in g c.args.profile cell taken (old.at + (length text - old.at)))) c.goes_on.ensures
    ∙ ap (λ n. is_marked fill.new.words i || stands_among (old.at + i) (end_in (goes_on old.profile) c.args.profile cell taken n)) (let e : old.at + (length text - old.at) ≡ length text = omega arith in e))
    refl refl
