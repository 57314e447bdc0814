-- What a call leaves, from what its reads brought and what was wrong with the bytes.
use Rattle.std.proofs.Common.{◌≡◌, ◌⊎◌, ℕ, ◌+◌, ◌<◌, ◌≤◌, Bool, true, false, ◌||◌, List, [], ◌++◌, length, Option, None, Some, IfSome, IfNone, is_some, Result, Ok, Err, OnOk, IfErr, is_err, refl, sym, ap, ◌∙◌, arith, inl, inr, length-append, append_assoc, append-nil}
use Rattle.std.specs.Io.KnownBytes.{Consumes, Keeps, prepend_known}
use Rattle.lbk_feed.specs.Text.{longest_text}
use Rattle.lbk_feed.specs.declared.faults.FeedFault.{FeedFault}
use Rattle.lbk_feed.specs.declared.faults.FeedFault.TheVariants.{Read, NotUtf8, TextTooLong, Spent}
use Rattle.lbk_feed.specs.Devices.{KeepsIfTold, Reads}
use Rattle.lbk_feed.specs.View.{View, IsFront, LendsFront, LiesIn, IsOfText, IsIdle, fault_of, ahead, KeepsAhead, BeginsWith, IsStill, AreDue, Steps, Pays}
use Rattle.lbk_feed.specs.Intake.{Draws, DrawsAndFails, KeepsAfter}
use Rattle.lbk_feed.proofs.Standing.{few_held}

-- what `finish` found, by the fault of its answer
pub record Finds (v : View) (fault : Option FeedFault) : Type 0 where
  pub text : IfSome fault IsOfText
  pub lies : IfSome fault (λ e. (v.ready ≡ []) × LiesIn e v)
  pub found : IfNone fault ((0 < length v.ready) ⊎ ((v.held ≡ []) × (v.is_ended ≡ true)))

pub Finds-of : (v : View) (r : Result (Unit {0}) FeedFault) → IfErr r IsOfText → IfErr r (λ e. (v.ready ≡ []) × LiesIn e v)
    → OnOk r ((0 < length v.ready) ⊎ ((v.held ≡ []) × (v.is_ended ≡ true))) → Finds v (fault_of r)
Finds-of v (Ok x) text lies found = record { text = tt; lies = tt; found = found }
Finds-of v (Err e) text lies found = record { text = text; lies = lies; found = tt }

LiesIn-spent : (e : FeedFault) (v : View) (s : Bool) → LiesIn e v → LiesIn e (record v { is_spent = s })
LiesIn-spent Read v s lies = lies
LiesIn-spent (NotUtf8 at) v s lies = lies
LiesIn-spent TextTooLong v s lies = lies
LiesIn-spent Spent v s lies = lies

lies-spent : (fault : Option FeedFault) (v : View) (s : Bool) → IfSome fault (λ e. (v.ready ≡ []) × LiesIn e v)
    → IfSome fault (λ e. (v.ready ≡ []) × LiesIn e (record v { is_spent = s }))
lies-spent None v s lies = lies
lies-spent (Some e) v s lies = (lies.0, LiesIn-spent e v s lies.1)

LendsFront-spent : (v : View) (s : Bool) → LendsFront v → LendsFront (record v { is_spent = s })
LendsFront-spent v s lends = record { text = lends.text; rest = lends.rest; first = lends.first; few = lends.few }

spent_is : (old : Bool) (fault : Option FeedFault) → old ≡ false → is_some fault ≡ (old || is_some fault)
spent_is old fault fresh = ap (λ b. b || is_some fault) (sym fresh)

pub is_some-fault_of : {T : Type 0} (r : Result T FeedFault) → is_err r ≡ is_some (fault_of r)
is_some-fault_of (Ok x) = refl
is_some-fault_of (Err e) = refl

Keeps-refl : (a : Option (List ℕ)) → Keeps a a
Keeps-refl None = tt
Keeps-refl (Some x) = refl

KeepsAhead-refl : (fault : Option FeedFault) (a : Option (List ℕ)) → KeepsAhead fault a a
KeepsAhead-refl None a = Keeps-refl a
KeepsAhead-refl (Some Read) None = tt
KeepsAhead-refl (Some Read) (Some xs) = refl
KeepsAhead-refl (Some (NotUtf8 at)) a = Keeps-refl a
KeepsAhead-refl (Some TextTooLong) a = Keeps-refl a
KeepsAhead-refl (Some Spent) a = Keeps-refl a

KeepsAhead-text : (fault : Option FeedFault) (a b : Option (List ℕ)) → IfSome fault IsOfText → Keeps a b → KeepsAhead fault a b
KeepsAhead-text None a b text keeps = keeps
KeepsAhead-text (Some Read) a b text keeps = absurd text
KeepsAhead-text (Some (NotUtf8 at)) a b text keeps = keeps
KeepsAhead-text (Some TextTooLong) a b text keeps = keeps
KeepsAhead-text (Some Spent) a b text keeps = keeps

BeginsWith-held : (held : List ℕ) (unread : Option (List ℕ)) → BeginsWith held (prepend_known held unread)
BeginsWith-held held None = tt
BeginsWith-held held (Some xs) = (xs, refl)

-- no read was made
pub Steps-still : (v : View) (unread : Option (List ℕ)) (fault : Option FeedFault) → v.is_spent ≡ false → IsFront v → LendsFront v → Finds v fault
    → Steps v (record v { is_spent = is_some fault }) unread unread fault
Steps-still v unread fault fresh front lends finds = record {
  given = refl;
  ahead_kept = KeepsAhead-refl fault (ahead v unread);
  begins = BeginsWith-held v.held unread;
  got = [];
  grown = sym (append-nil v.held);
  front = front;
  lends = LendsFront-spent v (is_some fault) lends;
  found = finds.found;
  lies = lies-spent fault v (is_some fault) finds.lies;
  spent = spent_is v.is_spent fault fresh;
  same = λ idle. (refl, refl, refl);
}

-- a fault was answered before
pub Steps-spent : (v : View) (unread : Option (List ℕ)) → v.is_spent ≡ true → v.ready ≡ [] → IsFront v → LendsFront v → Steps v v unread unread (Some Spent)
Steps-spent v unread spent none front lends = record {
  given = refl;
  ahead_kept = Keeps-refl (ahead v unread);
  begins = BeginsWith-held v.held unread;
  got = [];
  grown = sym (append-nil v.held);
  front = front;
  lends = lends;
  found = tt;
  lies = (none, tt);
  spent = spent ∙ ap (λ b. b || true) (sym spent);
  same = λ idle. (refl, refl, refl);
}

-- the bytes ahead after reads
moved : (old new got : List ℕ) (before after : Option (List ℕ)) → new ≡ old ++ got → Consumes before after got
    → Keeps (prepend_known old before) (prepend_known new after)
moved old new got None after grown taken = tt
moved old new got (Some xs) None grown taken = absurd taken
moved old new got (Some xs) (Some ys) grown taken = ap (λ l. l ++ ys) grown ∙ append_assoc old got ys ∙ ap (λ l. old ++ l) (sym taken)

begun : (old new got : List ℕ) (before : Option (List ℕ)) → new ≡ old ++ got → BeginsWith got before → BeginsWith new (prepend_known old before)
begun old new got None grown front = tt
begun old new got (Some xs) grown front =
    (front.0, ap (λ l. old ++ l) front.1 ∙ sym (append_assoc old got front.0) ∙ ap (λ l. l ++ front.0) (sym grown))

taken-front : (got : List ℕ) (before after : Option (List ℕ)) → Consumes before after got → BeginsWith got before
taken-front got None after taken = tt
taken-front got (Some xs) None taken = absurd taken
taken-front got (Some xs) (Some ys) taken = (ys, taken)

told : (old new got : List ℕ) (before after : Option (List ℕ)) → new ≡ old ++ got → KeepsAfter got before after
    → KeepsIfTold (prepend_known old before) (prepend_known new after)
told old new got None after grown kept = tt
told old new got (Some xs) None grown kept = tt
told old new got (Some xs) (Some ys) grown kept = ap (λ l. l ++ ys) grown ∙ append_assoc old got ys ∙ ap (λ l. old ++ l) kept

due-few : (given : ℕ) (held held' : List ℕ) (from to : Reads) → AreDue given held held' from to → to.count + length held ≤ from.count + 4
due-few given held held' from to due = omega (arith, due.each_gave, few_held given (held ++ due.seen) due.went_on, length-append held due.seen)

due-within : (given : ℕ) (held held' : List ℕ) (from to : Reads) → AreDue given held held' from to → to.count + (given + length held) ≤ from.count + (longest_text + 1)
due-within given held held' from to due = omega (arith, due.each_gave, due.went_on.within, length-append held due.seen)

-- no read was made
pub Pays-still : (v : View) (s : Bool) (reads : Reads) → Pays v (record v { is_spent = s }) reads reads
Pays-still v s reads = record {
  all = λ some. omega arith;
  but_one = omega arith;
  due = inl (refl, refl);
  few = λ more. absurd (omega arith);
  within = λ more. absurd (omega arith);
}

counted-few : (given : ℕ) (held held' : List ℕ) (from to : Reads) → IsStill held held' from to ⊎ AreDue given held held' from to → from.count < to.count
    → to.count + length held ≤ from.count + 4
counted-few given held held' from to (inl none) more = absurd (let same = ap (λ r. r.count) none.1 in omega (arith, same))
counted-few given held held' from to (inr due) more = due-few given held held' from to due

counted-within : (given : ℕ) (held held' : List ℕ) (from to : Reads) → IsStill held held' from to ⊎ AreDue given held held' from to → from.count < to.count
    → to.count + (given + length held) ≤ from.count + (longest_text + 1)
counted-within given held held' from to (inl none) more = absurd (let same = ap (λ r. r.count) none.1 in omega (arith, same))
counted-within given held held' from to (inr due) more = due-within given held held' from to due

module _ (old mid : View) (before after : Option (List ℕ)) (from to : Reads) where
  pub Steps-drawn : (fault : Option FeedFault) → Draws old mid before after from to → old.is_spent ≡ false → ¬ (IsIdle old) → IsFront mid → LendsFront mid → Finds mid fault
      → Steps old (record mid { is_spent = is_some fault }) before after fault
  Steps-drawn fault drawn fresh due front lends finds = record {
    given = drawn.given;
    ahead_kept = KeepsAhead-text fault _ _ finds.text (moved old.held mid.held drawn.got before after drawn.grown drawn.taken);
    begins = begun old.held mid.held drawn.got before drawn.grown (taken-front drawn.got before after drawn.taken);
    got = drawn.got;
    grown = drawn.grown;
    front = front;
    lends = LendsFront-spent mid (is_some fault) lends;
    found = finds.found;
    lies = lies-spent fault mid (is_some fault) finds.lies;
    spent = spent_is old.is_spent fault fresh;
    same = λ idle. absurd (due idle);
  }

  pub Pays-drawn : (s : Bool) → Draws old mid before after from to → Pays old (record mid { is_spent = s }) from to
  Pays-drawn s drawn =
      let long = ap length drawn.grown ∙ length-append old.held drawn.got in
      record {
        all = λ some. by mid.is_ended refl some;
        but_one = omega (arith, long, drawn.but_one_gave);
        due = drawn.due;
        few = counted-few _ _ _ _ _ drawn.due;
        within = counted-within _ _ _ _ _ drawn.due;
      }
    where
      by : (b : Bool) → mid.is_ended ≡ b → 0 < length mid.ready → to.count + length old.held ≤ from.count + length mid.held
      by true is some = absurd (omega (arith, drawn.none_ready is))
      by false is some = omega (arith, drawn.each_gave is, ap length drawn.grown, length-append old.held drawn.got)

  pub Steps-failed : DrawsAndFails old mid before after from to → old.is_spent ≡ false → ¬ (IsIdle old) → mid.ready ≡ [] → IsFront mid → LendsFront mid
      → Steps old (record mid { is_spent = true }) before after (Some Read)
  Steps-failed drawn fresh due none front lends = record {
    given = drawn.given;
    ahead_kept = told old.held mid.held drawn.got before after drawn.grown drawn.told;
    begins = begun old.held mid.held drawn.got before drawn.grown drawn.front;
    got = drawn.got;
    grown = drawn.grown;
    front = front;
    lends = LendsFront-spent mid true lends;
    found = tt;
    lies = (none, drawn.goes_on);
    spent = spent_is old.is_spent (Some Read) fresh;
    same = λ idle. absurd (due idle);
  }

  pub Pays-failed : DrawsAndFails old mid before after from to → Pays old (record mid { is_spent = true }) from to
  Pays-failed drawn = record {
    all = λ some. absurd (omega (arith, drawn.none_ready));
    but_one = omega (arith, ap length drawn.grown, length-append old.held drawn.got, drawn.but_one_gave);
    due = inr drawn.due;
    few = λ more. due-few _ _ _ _ _ drawn.due;
    within = λ more. due-within _ _ _ _ _ drawn.due;
  }
