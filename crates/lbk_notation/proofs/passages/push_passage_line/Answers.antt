use Rattle.std.proofs.Common.{◌≡◌, ◌≤◌, ◌++◌, ◌∷◌, length, arith, append_assoc, length-append, refl}
use Rattle.std.specs.Str.{chars}
use Rattle.lbk_notation.specs.Shown.{passage_line, written_labels}
use Rattle.lbk_feed.proofs.Appended.{HasPut-before, HasPut-within, on_err, refused-within}
use Rattle.lbk_notation.proofs.passages.push_passage_line.Goals as goal

pub returns-in_err-push_kinds-clause-refused : goal.returns-in_err-push_kinds-clause-refused
returns-in_err-push_kinds-clause-refused c =
    on_err _ (HasPut-within c.args.out.now.items c.args.out.now.items _ _ (9 ∷ 35 ∷ written_labels c.args.verdicts.now) _
    c.in_err-push_kinds.ensures.refused refl (omega arith))

pub returns-in_err-extend_from_slice-clause-refused : goal.returns-in_err-extend_from_slice-clause-refused
returns-in_err-extend_from_slice-clause-refused c =
    let old = c.args.out.now.items in
    let new = c.extend_from_slice.new.self.items in
    let later = 9 ∷ 35 ∷ written_labels c.args.verdicts.now in
    let whole : new ++ later ≡ old ++ passage_line (chars c.args.text.now) c.args.verdicts.now =
    rw (c.in_err-extend_from_slice.ensures.items, c.in_ok-push_kinds.ensures.text) (simp append_assoc) in
    let longer : length old ≤ length new = rw (c.in_err-extend_from_slice.ensures.items, c.in_ok-push_kinds.ensures.text, length-append) (omega arith) in
    on_err _ (HasPut-before old new _ later whole longer)

pub returns-clause-refused : goal.returns-clause-refused
returns-clause-refused c =
    let old = c.args.out.now.items in
    let middle = c.extend_from_slice.new.self.items in
    let labels = written_labels c.args.verdicts.now in
    let whole : middle ++ labels ≡ old ++ passage_line (chars c.args.text.now) c.args.verdicts.now =
    rw (c.in_ok-extend_from_slice.ensures.items, c.in_ok-push_kinds.ensures.text) (simp append_assoc) in
    let longer : length old ≤ length middle =
    rw (c.in_ok-extend_from_slice.ensures.items, c.in_ok-push_kinds.ensures.text, length-append, length-append) (omega arith) in
    refused-within c.push_labels.result old middle c.push_labels.new.out.items labels _ c.push_labels.ensures.refused whole longer
