-- What one read brings, and several in turn.
use Rattle.std.proofs.Common.{◌≡◌, ◌⊎◌, ℕ, ◌+◌, ◌<◌, ◌≤◌, Bool, true, false, List, [], ◌∷◌, ◌++◌, length, Option, refl, sym, ap, subst, ◌∙◌, arith, inl, inr, ⊎_elim, length-append, append_assoc, append-nil, eqb}
use Rattle.std.proofs.lemmas.Bool.{eqb-true, eqb-false}
use Rattle.lbk_feed.specs.Devices.{Reads, count_up, KeepsIfTold}
use Rattle.lbk_feed.specs.Block.{Gives}
use Rattle.lbk_feed.specs.View.{View, CanGoOn, IsStill, AreDue}
use Rattle.lbk_feed.specs.Intake.{Draws, DrawsAndFails}
use Rattle.lbk_feed.proofs.Taking.{Consumes-nil, Consumes-trans, BeginsWith-none, BeginsWith-after, KeepsAfter-none, KeepsAfter-after}

pub no_bytes : (bs : List ℕ) → length bs ≡ 0 → bs ≡ []
no_bytes [] none = refl
no_bytes (x ∷ xs) none = absurd (omega arith)

-- a read that gave nothing left the bytes held as they were
pub Gives-none : (old new : List ℕ) (before after : Option (List ℕ)) (n : ℕ) → Gives old new before after n → n ≡ 0 → new ≡ old
Gives-none old new before after n gives none =
    gives.held ∙ ap (λ l. old ++ l) (no_bytes gives.got (gives.count ∙ none)) ∙ append-nil old

pub Gives-some : (old new : List ℕ) (before after : Option (List ℕ)) (n : ℕ) → Gives old new before after n → (eqb n 0 ≡ true) ⊎ (length old < length new)
Gives-some old new before after n gives = by (eqb n 0) refl
  where
    by : (b : Bool) → eqb n 0 ≡ b → (eqb n 0 ≡ true) ⊎ (length old < length new)
    by true is = inl is
    by false is = let some = eqb-false n 0 is in inr (omega (arith, gives.count, ap length gives.held, length-append old gives.got))

-- a first read
AreDue-one : (given : ℕ) (held held' got : List ℕ) (from to : Reads) → held' ≡ held ++ got → CanGoOn given held → length got ≡ to.gave → to.count ≤ from.count + 1
    → AreDue given held held' from to
AreDue-one given held held' got from to grown goes_on gave count = record {
  seen = [];
  last = got;
  grown = grown ∙ ap (λ l. l ++ got) (sym (append-nil held));
  went_on = subst (λ l. CanGoOn given l) (sym (append-nil held)) goes_on;
  is_last = gave;
  each_gave = omega arith;
}

-- reads after others that gave `got`, at least a byte each
AreDue-later : (given given' : ℕ) (a b c got : List ℕ) (from mid to : Reads) → given' ≡ given → b ≡ a ++ got → mid.count ≤ from.count + length got
    → AreDue given' b c mid to → AreDue given a c from to
AreDue-later given given' a b c got from mid to same grown gave later =
    let moved : b ++ later.seen ≡ a ++ (got ++ later.seen) = ap (λ l. l ++ later.seen) grown ∙ append_assoc a got later.seen in
    record {
      seen = got ++ later.seen;
      last = later.last;
      grown = later.grown ∙ ap (λ l. l ++ later.last) moved;
      went_on = subst (λ n. CanGoOn n (a ++ (got ++ later.seen))) same (subst (λ l. CanGoOn given' l) moved later.went_on);
      is_last = later.is_last;
      each_gave = omega (arith, later.each_gave, length-append got later.seen);
    }

-- no read more
AreDue-still : (given : ℕ) (a b c : List ℕ) (from mid to : Reads) → IsStill b c mid to → AreDue given a b from mid → AreDue given a c from to
AreDue-still given a b c from mid to still due =
    subst (λ r. AreDue given a c from r) (sym still.1) (subst (λ l. AreDue given a l from mid) (sym still.0) due)

pub Draws-one : (old new : View) (before after : Option (List ℕ)) (from to : Reads) (n : ℕ) → Gives old.held new.held before after n
    → new.given ≡ old.given → new.is_spent ≡ old.is_spent → new.is_ended ≡ eqb n 0 → (n ≡ 0 → length new.ready ≡ 0)
    → to.count ≡ count_up from.count → to.gave ≡ n → CanGoOn old.given old.held → Draws old new before after from to
Draws-one old new before after from to n gives given spent ended ready count gave goes_on = record {
  got = gives.got;
  grown = gives.held;
  taken = gives.taken;
  given = given;
  spent = spent;
  at_end = λ is. gives.at_end (eqb-true n 0 (sym ended ∙ is));
  none_ready = λ is. ready (eqb-true n 0 (sym ended ∙ is));
  each_gave = λ is. let some = eqb-false n 0 (sym ended ∙ is) in omega (arith, gives.count);
  but_one_gave = omega arith;
  due = inr (AreDue-one old.given old.held new.held gives.got from to gives.held goes_on (gives.count ∙ sym gave) (omega arith));
}

-- a read that failed
pub Draws-failed : (old new : View) (before after : Option (List ℕ)) (from to : Reads) → new.held ≡ old.held → KeepsIfTold before after
    → new.given ≡ old.given → new.is_spent ≡ old.is_spent → new.is_ended ≡ false → length new.ready ≡ 0
    → to.count ≡ count_up from.count → to.gave ≡ 0 → CanGoOn old.given old.held → DrawsAndFails old new before after from to
Draws-failed old new before after from to same told given spent open_end ready count gave goes_on =
    let grown : new.held ≡ old.held ++ [] = same ∙ sym (append-nil old.held) in
    record {
      got = [];
      grown = grown;
      front = BeginsWith-none before;
      told = KeepsAfter-none before after told;
      given = given;
      spent = spent;
      open_end = open_end;
      none_ready = ready;
      but_one_gave = omega arith;
      goes_on = subst (λ n. CanGoOn n new.held) (sym given) (subst (λ l. CanGoOn old.given l) (sym same) goes_on);
      due = AreDue-one old.given old.held new.held [] from to grown goes_on (sym gave) (omega arith);
    }

pub Draws-nil : (v : View) (unread : Option (List ℕ)) (count : Reads) → v.is_ended ≡ false → Draws v v unread unread count count
Draws-nil v unread count fresh = record {
  got = [];
  grown = sym (append-nil v.held);
  taken = Consumes-nil unread;
  given = refl;
  spent = refl;
  at_end = λ is. absurd (let other = sym is ∙ fresh in cc);
  none_ready = λ is. absurd (let other = sym is ∙ fresh in cc);
  each_gave = λ is. omega arith;
  but_one_gave = omega arith;
  due = inl (refl, refl);
}

grown-more : (a b c got more : List ℕ) → b ≡ a ++ got → c ≡ b ++ more → c ≡ a ++ (got ++ more)
grown-more a b c got more first second = second ∙ ap (λ l. l ++ more) first ∙ append_assoc a got more

-- reads, and then others
module _ (a b c : View) (before between after : Option (List ℕ)) (from mid to : Reads) (fresh : b.is_ended ≡ false) (first : Draws a b before between from mid) where
  gave : mid.count ≤ from.count + length first.got
  gave = first.each_gave fresh

  later : AreDue b.given b.held c.held mid to → AreDue a.given a.held c.held from to
  later = AreDue-later a.given b.given a.held b.held c.held first.got from mid to first.given first.grown gave

  still : IsStill b.held c.held mid to → IsStill a.held b.held from mid ⊎ AreDue a.given a.held b.held from mid
      → IsStill a.held c.held from to ⊎ AreDue a.given a.held c.held from to
  still none (inl before) = inl (none.0 ∙ before.0, none.1 ∙ before.1)
  still none (inr due) = inr (AreDue-still a.given a.held b.held c.held from mid to none due)

  pub Draws-more : Draws b c between after mid to → Draws a c before after from to
  Draws-more second = record {
    got = first.got ++ second.got;
    grown = grown-more a.held b.held c.held first.got second.got first.grown second.grown;
    taken = Consumes-trans before between after first.got second.got first.taken second.taken;
    given = second.given ∙ first.given;
    spent = second.spent ∙ first.spent;
    at_end = second.at_end;
    none_ready = second.none_ready;
    each_gave = λ is. omega (arith, second.each_gave is, gave, length-append first.got second.got);
    but_one_gave = omega (arith, second.but_one_gave, gave, length-append first.got second.got);
    due = ⊎_elim (λ none. still none first.due) (λ due. inr (later due)) second.due;
  }

  pub Draws-fails : DrawsAndFails b c between after mid to → DrawsAndFails a c before after from to
  Draws-fails second = record {
    got = first.got ++ second.got;
    grown = grown-more a.held b.held c.held first.got second.got first.grown second.grown;
    front = BeginsWith-after before between first.got second.got first.taken second.front;
    told = KeepsAfter-after before between after first.got second.got first.taken second.told;
    given = second.given ∙ first.given;
    spent = second.spent ∙ first.spent;
    open_end = second.open_end;
    none_ready = second.none_ready;
    but_one_gave = omega (arith, second.but_one_gave, gave, length-append first.got second.got);
    goes_on = second.goes_on;
    due = later second.due;
  }
