use Rattle.std.proofs.Common.{◌≡◌, ◌⊎◌, ◌+◌, ◌<◌, ◌≤◌, ℕ, List, [], length, take, true, sym, ap, ◌∙◌, ⊎_elim, arith, inl, length-take-le}
use Rattle.lbk_feed.specs.Text.{longest_text}
use Rattle.lbk_feed.specs.declared.judge.Stop.TheVariants.{Faulty}
use Rattle.lbk_feed.specs.Block.{items}
use Rattle.lbk_feed.specs.Intake.{view_of}
use Rattle.lbk_feed.proofs.Judged.{ready_held, stop-nil}
use Rattle.lbk_feed.proofs.Standing.{not_utf8_faulty, not_utf8_cut, too_long}
use Rattle.lbk_feed.proofs.intake.Intake.fault.Goals as goal

-- nothing is ready
none_ready : (held : List ℕ) (len : ℕ) → len ≡ 0 → take len held ≡ []
none_ready held len none = ap (λ n. take n held) none

pub returns-then-self-gt0-clause-none : goal.returns-then-self-gt0-clause-none
unfolding view_of
returns-then-self-gt0-clause-none c =
    let i = c.args.self.now in
    inl (omega (arith, length-take-le i.ready_len (items i.block) (ready_held _ _ _ _ _ i.judged)))

pub returns-then-is_faulty-clause-lies : goal.returns-then-is_faulty-clause-lies
unfolding view_of
returns-then-is_faulty-clause-lies c =
    let i = c.args.self.now in
    let none : i.ready_len ≡ 0 = omega arith in
    (none_ready _ _ none, not_utf8_faulty _ _ _ _ _ i.judged none (c.is_faulty.ensures.yes c.if-is_faulty.true) i.is_ended)

pub returns-then-len-self-clause-lies : goal.returns-then-len-self-clause-lies
unfolding view_of
returns-then-len-self-clause-lies c =
    let i = c.args.self.now in
    let none : i.ready_len ≡ 0 = omega arith in
    let over : longest_text < i.given + length (items i.block) = omega (arith, i.judged.within) in
    (none_ready _ _ none, too_long _ _ _ _ _ i.judged (c.is_faulty.ensures.no c.if-is_faulty.false) over)

pub returns-then-len-gt0-clause-lies : goal.returns-then-len-gt0-clause-lies
unfolding view_of
returns-then-len-gt0-clause-lies c =
    let i = c.args.self.now in
    let none : i.ready_len ≡ 0 = omega arith in
    let fine = c.is_faulty.ensures.no c.if-is_faulty.false in
    let within : i.given + length (items i.block) ≤ longest_text = omega (arith, i.judged.within) in
    let some : 0 < length (items i.block) = omega arith in
    let ended : i.is_ended ≡ true =
    ⊎_elim (λ (ready : 0 < i.ready_len). absurd (omega arith))
    (λ (other : (i.stop ≡ Faulty) ⊎ ((longest_text < i.given + length (items i.block)) ⊎ (i.is_ended ≡ true))).
    ⊎_elim (λ (faulty : i.stop ≡ Faulty). absurd (fine faulty))
    (λ (last : (longest_text < i.given + length (items i.block)) ⊎ (i.is_ended ≡ true)).
    ⊎_elim (λ (over : longest_text < i.given + length (items i.block)). absurd (omega arith)) (λ (is : i.is_ended ≡ true). is) last)
    other)
    c.requires in
    (none_ready _ _ none, not_utf8_cut _ _ _ _ _ i.judged none fine within some i.is_ended ended)

pub returns-then-is_faulty-clause-nothing : goal.returns-then-is_faulty-clause-nothing
unfolding view_of
returns-then-is_faulty-clause-nothing c none =
    let i = c.args.self.now in
    absurd (let other = sym (stop-nil _ _ _ _ _ i.judged none) ∙ c.is_faulty.ensures.yes c.if-is_faulty.true in cc)

pub returns-then-len-self-clause-nothing : goal.returns-then-len-self-clause-nothing
unfolding view_of
returns-then-len-self-clause-nothing c none = absurd (omega (arith, ap length none))

pub returns-then-len-gt0-clause-nothing : goal.returns-then-len-gt0-clause-nothing
unfolding view_of
returns-then-len-gt0-clause-nothing c none = absurd (omega (arith, ap length none))
