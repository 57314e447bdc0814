-- What was read while a paragraph is gathered: one step of the feed more.
use Rattle.std.proofs.Common.{◌≡◌, ◌⊎◌, ℕ, ◌+◌, ◌<◌, ◌≤◌, true, List, [], ◌++◌, length, Option, None, Some, option_map, chars, IsUtf8, refl, sym, ap, subst, ◌∙◌, arith, inl, inr, ⊎_elim, length-append, append_assoc, append-nil}
use Rattle.std.proofs.lemmas.Bool.{cases_lt}
use Rattle.std.specs.Io.KnownBytes.{prepend_known, Keeps}
use Rattle.lbk_feed.specs.declared.faults.FeedFault.{FeedFault}
use Rattle.lbk_feed.specs.declared.faults.FeedFault.TheVariants as feed_fault
use Rattle.lbk_feed.specs.Devices.{KeepsIfTold, Reads}
use Rattle.lbk_feed.specs.View.{View, AreDue, BeginsWith, CanGoOn, IsStill, Steps, Pays}
use Rattle.lbk_feed.specs.View as feed
use Rattle.lbk_rules.specs.declared.Cell.{Cell}
use Rattle.lbk_passage.specs.Faults.{passage_fault}
use Rattle.lbk_passage.specs.Stays.{stays}
use Rattle.lbk_passage.specs.Next.{KeepsAhead}
use Rattle.lbk_passage.specs.Gathering.{HasRead, WasOpen}

pub Keeps-refl : (a : Option (List ℕ)) → Keeps a a
Keeps-refl None = tt
Keeps-refl (Some x) = refl

pub BeginsWith-held : (held : List ℕ) (unread : Option (List ℕ)) → BeginsWith held (prepend_known held unread)
BeginsWith-held held None = tt
BeginsWith-held held (Some xs) = (xs, refl)

-- nothing was read
pub HasRead-none : (cell : ℕ → Cell) (limit : ℕ) (old : View) (unread : Option (List ℕ)) (reads : Reads)
    → HasRead cell limit old old.held unread unread reads reads None
HasRead-none cell limit old unread reads = record {
  got = [];
  grown = sym (append-nil old.held);
  ahead_kept = Keeps-refl (prepend_known old.held unread);
  begins = BeginsWith-held old.held unread;
  but_one = omega arith;
  within = λ less. absurd (omega arith);
  due = inl (refl, refl);
}

-- what is kept behind a text that the feed gave up
told : (text a b : List ℕ) (ys zs : List ℕ) → b ++ zs ≡ a ++ ys → (text ++ b) ++ zs ≡ (text ++ a) ++ ys
told text a b ys zs e = append_assoc text b zs ∙ ap (λ l. text ++ l) e ∙ sym (append_assoc text a ys)

kept : (first : Option (List ℕ)) (text a b : List ℕ) (u v : Option (List ℕ)) → Keeps first (prepend_known (text ++ a) u)
    → Keeps (prepend_known a u) (prepend_known b v) → Keeps first (prepend_known (text ++ b) v)
kept None text a b u v k l = tt
kept (Some xs) text a b None v k l = absurd k
kept (Some xs) text a b (Some ys) None k l = absurd l
kept (Some xs) text a b (Some ys) (Some zs) k l = told text a b ys zs l ∙ k

kept_if_told : (first : Option (List ℕ)) (text a b : List ℕ) (u v : Option (List ℕ)) → Keeps first (prepend_known (text ++ a) u)
    → KeepsIfTold (prepend_known a u) (prepend_known b v) → KeepsIfTold first (prepend_known (text ++ b) v)
kept_if_told None text a b u v k l = tt
kept_if_told (Some xs) text a b None v k l = absurd k
kept_if_told (Some xs) text a b (Some ys) None k l = tt
kept_if_told (Some xs) text a b (Some ys) (Some zs) k l = told text a b ys zs l ∙ k

kept_ahead : (fault : Option FeedFault) (first : Option (List ℕ)) (text a b : List ℕ) (u v : Option (List ℕ)) → Keeps first (prepend_known (text ++ a) u)
    → feed.KeepsAhead fault (prepend_known a u) (prepend_known b v) → KeepsAhead (option_map passage_fault fault) first (prepend_known (text ++ b) v)
kept_ahead None first text a b u v k l = kept first text a b u v k l
kept_ahead (Some feed_fault.Read) first text a b u v k l = kept_if_told first text a b u v k l
kept_ahead (Some (feed_fault.NotUtf8 at)) first text a b u v k l = kept first text a b u v k l
kept_ahead (Some feed_fault.TextTooLong) first text a b u v k l = kept first text a b u v k l
kept_ahead (Some feed_fault.Spent) first text a b u v k l = kept first text a b u v k l

begun : (first : Option (List ℕ)) (text a b : List ℕ) (u : Option (List ℕ)) → Keeps first (prepend_known (text ++ a) u)
    → BeginsWith b (prepend_known a u) → BeginsWith (text ++ b) first
begun None text a b u k l = tt
begun (Some xs) text a b None k l = absurd k
begun (Some xs) text a b (Some ys) k l =
    (l.0, sym k ∙ append_assoc text a ys ∙ ap (λ r. text ++ r) l.1 ∙ sym (append_assoc text b l.0))

module _ (cell : ℕ → Cell) (limit : ℕ) (old : View) (text : List ℕ) (now next : View) (unread u v : Option (List ℕ)) (from reads reads' : Reads)
    (fault : Option FeedFault) where
  module _ (utf8 : IsUtf8 text) (none_ends : stays cell None (chars text) ≡ true) (short : length text ≤ limit)
      (read : HasRead cell limit old (text ++ now.held) unread u from reads None) (each : reads.count + length old.held ≤ from.count + length (text ++ now.held))
      (given : now.given ≡ old.given + length text) (steps : Steps now next u v fault) (pays : Pays now next reads reads') where
    grown : text ++ next.held ≡ (text ++ now.held) ++ steps.got
    grown = ap (λ l. text ++ l) steps.grown ∙ sym (append_assoc text now.held steps.got)

    open_before : AreDue now.given now.held next.held reads reads' → WasOpen cell limit old (text ++ next.held) from reads'
    open_before due =
        record {
          text = text;
          utf8 = utf8;
          none_ends = none_ends;
          within = short;
          rest = now.held ++ due.seen;
          last = due.last;
          bytes = ap (λ l. text ++ l) due.grown;
          goes_on = subst (λ n. CanGoOn n (now.held ++ due.seen)) given due.went_on;
          is_last = due.is_last;
          holds = omega (arith, length-append text now.held, length-append now.held due.seen, ap length read.grown, length-append old.held read.got);
          each_gave = omega (arith, length-append text now.held, length-append now.held due.seen, each, due.each_gave);
        }

    -- no read more
    same_before : IsStill now.held next.held reads reads' → IsStill old.held (text ++ now.held) from reads ⊎ WasOpen cell limit old (text ++ now.held) from reads
        → IsStill old.held (text ++ next.held) from reads' ⊎ WasOpen cell limit old (text ++ next.held) from reads'
    same_before none (inl before) = inl (ap (λ l. text ++ l) none.0 ∙ before.0, none.1 ∙ before.1)
    same_before none (inr o) =
        inr (subst (λ r. WasOpen cell limit old (text ++ next.held) from r) (sym none.1)
        (subst (λ l. WasOpen cell limit old (text ++ l) from reads) (sym none.0) o))

    -- a step of the feed more
    pub HasRead-step : HasRead cell limit old (text ++ next.held) unread v from reads' (option_map passage_fault fault)
    HasRead-step =
        let long = length-append text now.held in
        let longer = length-append text next.held in
        record {
          got = read.got ++ steps.got;
          grown = grown ∙ ap (λ l. l ++ steps.got) read.grown ∙ append_assoc old.held read.got steps.got;
          ahead_kept = kept_ahead fault (prepend_known old.held unread) text now.held next.held u v read.ahead_kept steps.ahead_kept;
          begins = begun (prepend_known old.held unread) text now.held next.held u read.ahead_kept steps.begins;
          but_one = omega (arith, long, longer, each, pays.but_one);
          within = λ less. ⊎_elim
              (λ (more : reads.count < reads'.count). omega (arith, long, each, given, pays.within more))
              (λ (none : reads'.count ≤ reads.count). let before : from.count < reads.count = omega arith in omega (arith, read.within before))
              (cases_lt reads.count reads'.count);
          due = ⊎_elim (λ none. same_before none read.due) (λ due. inr (open_before due)) pays.due;
        }

  pub few-step : reads.count ≤ from.count + (length text + 4) → reads.count + length old.held ≤ from.count + length (text ++ now.held)
      → Pays now next reads reads' → reads'.count ≤ from.count + (length text + 4)
  few-step few each pays =
      let long = length-append text now.held in
      ⊎_elim (λ (more : reads.count < reads'.count). omega (arith, long, each, pays.few more)) (λ (none : reads'.count ≤ reads.count). omega (arith, few))
      (cases_lt reads.count reads'.count)

  pub each-step : reads.count + length old.held ≤ from.count + length (text ++ now.held) → 0 < length next.ready → Pays now next reads reads'
      → reads'.count + length old.held ≤ from.count + length (text ++ next.held)
  each-step each some pays = omega (arith, length-append text now.held, length-append text next.held, each, pays.all some)
