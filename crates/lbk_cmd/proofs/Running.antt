-- A run of an engine, from passage to passage.
use Rattle.std.proofs.Common.{◌≡◌, ℕ, ◌+◌, ◌<◌, ◌≤◌, Bool, true, false, ◌||◌, List, [], ◌∷◌, ◌++◌, length, Option, Some, Ok, IsUtf8, encode_utf8, encode_utf8_all, refl, sym, ap, ap₂, subst, ◌∙◌, arith, ⊎_elim, length-append, append_assoc, append-nil}
use Rattle.std.specs.List.{AllByRecursion, flat_map}
use Rattle.std.proofs.lemmas.Grind.{flat_map-append}
use Rattle.std.proofs.lemmas.Str.{IsUtf8-append, IsUtf8-nil, encodes-append, encode_same, length-encode, len_utf8_bounds}
use Rattle.lbk_feed.specs.Devices.{Reads}
use Rattle.lbk_feed.specs.Text.{longest_text}
use Rattle.lbk_passage.specs.Marks.{Marked, scalars_of, text_of}
use Rattle.lbk_passage.specs.Passages.{passages}
use Rattle.lbk_passage.specs.State.{State, new_state}
use Rattle.lbk_passage.specs.Next.{AfterNext, GoesOn, IsLast, IsPassage, Lends}
use Rattle.lbk_passage.specs.declared.passage.Passage.{Passage}
use Rattle.lbk_cmd.specs.Texts.{lines_from}
use Rattle.lbk_cmd.specs.Run.{Engine, Writing, by_passage, passages_by, written_by, AreWithin}

pub some_bytes : (c : ℕ) → 1 ≤ length (encode_utf8 c)
some_bytes c = let bounds = len_utf8_bounds c in omega (arith, length-encode c, bounds.0)

-- the bytes of a passage are some
pub some_bytes_of : (ms : List Marked) → 0 < length ms → 1 ≤ length (text_of ms)
some_bytes_of [] some = absurd (omega (arith, some))
some_bytes_of (m ∷ ms) some =
    let bounds = len_utf8_bounds m.scalar in
    omega (arith, length-encode m.scalar, bounds.0, length-append (encode_utf8 m.scalar) (text_of ms))

lines_from-snoc : (lines : ℕ → List Marked → List ℕ) (start : ℕ) (given : List (List Marked)) (ms : List Marked)
    → lines_from lines start (given ++ ms ∷ []) ≡ lines_from lines start given ++ lines (start + length (encode_utf8_all (flat_map scalars_of given))) ms
lines_from-snoc lines start [] ms =
    append-nil (lines start ms) ∙ ap (λ n. lines n ms) (let e : start ≡ start + 0 = omega arith in e)
lines_from-snoc lines start (m ∷ given) ms =
    let long = ap length (encodes-append (scalars_of m) (flat_map scalars_of given))
    ∙ length-append (text_of m) (encode_utf8_all (flat_map scalars_of given)) in
    let place : start + length (text_of m) + length (encode_utf8_all (flat_map scalars_of given)) ≡ start + length (encode_utf8_all (flat_map scalars_of (m ∷ given))) =
    omega (arith, long) in
    ap (λ l. lines start m ++ l) (lines_from-snoc lines (start + length (text_of m)) given ms
    ∙ ap (λ n. lines_from lines (start + length (text_of m)) given ++ lines n ms) place)
    ∙ sym (append_assoc (lines start m) (lines_from lines (start + length (text_of m)) given) (lines (start + length (encode_utf8_all (flat_map scalars_of (m ∷ given)))) ms))

all-snoc : {X : Type 0} (P : X → Type 0) (xs : List X) (x : X) → AllByRecursion P xs → P x → AllByRecursion P (xs ++ x ∷ [])
all-snoc P [] x all is = (is, tt)
all-snoc P (y ∷ ys) x all is = (all.0, all-snoc P ys x all.1 is)

first_of : (ms : List Marked) → 0 < length ms → (c : ℕ) × (cs : List ℕ) × (scalars_of ms ≡ c ∷ cs)
first_of [] some = absurd (omega (arith, some))
first_of (m ∷ ms) some = (m.scalar, scalars_of ms, refl)

-- whatever was written of the passages that are settled, more of it is all that is written of them
abbrev pub Finishes : Writing → Type 0
Finishes e = (given : List (List Marked)) (out : List ℕ) → e.Settled given out → (later : List ℕ) × e.Whole given (out ++ later)

pub lines_finish : (e : Engine) → Finishes (by_passage e)
lines_finish e given out is = ([], append-nil out ∙ is)

module _ (e : Writing) where
  -- what stands behind the passages given: none was given, a scalar follows that is held, or the text ended
  pub data Stands (s : State) (scalars : List ℕ) (given : List (List Marked)) : Type 0 where
    fresh : scalars ≡ [] → given ≡ [] → Stands s scalars given
    goes_on : (next : ℕ) (rest : List ℕ) → s.held ≡ encode_utf8 next ++ rest → IsUtf8 (encode_utf8 next)
        → length (encode_utf8_all scalars) + length (encode_utf8 next) ≤ longest_text
        → ((more : List ℕ) → passages_by e (scalars ++ next ∷ more) ≡ given ++ passages_by e (next ∷ more)) → Stands s scalars given
    ended : s.held ≡ [] → s.is_ended ≡ true → passages_by e scalars ≡ given → Stands s scalars given

  -- what a segmenter gave of the bytes read, and what was written of it
  pub record Standing (s : State) (bytes out : List ℕ) : Type 0 where
    pub scalars : List ℕ
    pub given : List (List Marked)
    pub cell : s.cell ≡ e.cell
    pub profile : s.profile ≡ e.profile
    pub limit : s.limit ≡ e.limit
    pub unspent : s.is_spent ≡ false
    pub utf8 : IsUtf8 (encode_utf8_all scalars)
    pub bytes_are : bytes ≡ encode_utf8_all scalars ++ s.held
    pub start : s.start ≡ length (encode_utf8_all scalars)
    pub few : s.start ≤ longest_text
    pub joined : flat_map scalars_of given ≡ scalars
    pub within : AreWithin e given
    pub is : e.Settled given out
    pub stands : Stands s scalars given

  -- before any call
  pub Standing-new : (s : State) → s ≡ new_state e.cell e.profile e.limit → e.Settled [] [] → Standing s [] []
  Standing-new s is none_settled = record {
    scalars = [];
    given = [];
    cell = ap (λ (t : State). t.cell) is;
    profile = ap (λ (t : State). t.profile) is;
    limit = ap (λ (t : State). t.limit) is;
    unspent = ap (λ (t : State). t.is_spent) is;
    utf8 = IsUtf8-nil;
    bytes_are = sym (ap (λ (t : State). t.held) is);
    start = ap (λ (t : State). t.start) is;
    few = let none = ap (λ (t : State). t.start) is in omega (arith, none);
    joined = refl;
    within = tt;
    is = none_settled;
    stands = fresh refl refl;
  }

  pub Standing-new-given : (s : State) (is : s ≡ new_state e.cell e.profile e.limit) (none_settled : e.Settled [] []) → (Standing-new s is none_settled).given ≡ []
  unfolding Standing-new
  Standing-new-given s is none_settled = refl

  -- the same of equal text, whether the next passage was found already or not
  abbrev pub Standing-as : (s : State) (is_settled : Bool) (bytes out out' : List ℕ) → out' ≡ out → Standing s bytes out
      → Standing (record s { is_settled = is_settled }) bytes out'
  Standing-as s is_settled bytes out out' same st = record {
    scalars = st.scalars;
    given = st.given;
    cell = st.cell;
    profile = st.profile;
    limit = st.limit;
    unspent = st.unspent;
    utf8 = st.utf8;
    bytes_are = st.bytes_are;
    start = st.start;
    few = st.few;
    joined = st.joined;
    within = st.within;
    is = subst (e.Settled st.given) (sym same) st.is;
    stands = by st.stands;
  }
    where
      by : Stands s st.scalars st.given → Stands (record s { is_settled = is_settled }) st.scalars st.given
      by (fresh no_scalars no_given) = fresh no_scalars no_given
      by (goes_on next rest held utf8 near first) = goes_on next rest held utf8 near first
      by (ended held at_end given) = ended held at_end given

  unfoldable pub Standing-same : (s : State) (bytes out out' : List ℕ) → out' ≡ out → Standing s bytes out → Standing s bytes out'
  Standing-same s bytes out out' same st = Standing-as s s.is_settled bytes out out' same st

  unfoldable pub Standing-settled : (s : State) (is_settled : Bool) (bytes out : List ℕ) → Standing s bytes out → Standing (record s { is_settled = is_settled }) bytes out
  Standing-settled s is_settled bytes out st = Standing-as s is_settled bytes out out refl st

  module _ (s : State) (bytes out : List ℕ) (st : Standing s bytes out) where
    -- a passage of more text begins behind those given
    pub onward : (all got : List ℕ) → all ≡ s.held ++ got → (s.is_ended ≡ true → all ≡ s.held) → (c : ℕ) (ys cs : List ℕ) → all ≡ encode_utf8 c ++ ys
        → passages_by e (st.scalars ++ c ∷ cs) ≡ st.given ++ passages_by e (c ∷ cs)
    onward all got grown quiet c ys cs begins = by st.stands
      where
        by : Stands s st.scalars st.given → passages_by e (st.scalars ++ c ∷ cs) ≡ st.given ++ passages_by e (c ∷ cs)
        by (fresh none no_given) =
            ap (λ l. passages_by e (l ++ c ∷ cs)) none ∙ ap (λ l. l ++ passages_by e (c ∷ cs)) (sym no_given)
        by (goes_on next rest held utf8 near first) =
            let same = encode_same c next ys (rest ++ got)
            (sym begins ∙ grown ∙ ap (λ l. l ++ got) held ∙ append_assoc (encode_utf8 next) rest got) in
            ap (λ x. passages_by e (st.scalars ++ x ∷ cs)) same.0 ∙ first cs ∙ ap (λ x. st.given ++ passages_by e (x ∷ cs)) (sym same.0)
        by (ended held at_end whole) =
            let none = ap length (sym begins ∙ quiet at_end ∙ held) in
            let some = some_bytes c in
            absurd (omega (arith, none, some, length-append (encode_utf8 c) ys))

    module _ (t : State) (u v : Option (List ℕ)) (e1 e2 : Bool) (r1 r2 : Reads) where
      -- a passage was given
      module _ (p : Passage) (a : AfterNext s t u v e1 e2 r1 r2 (Ok (Some p))) where
        lent : Lends s t p
        lent = a.answer

        pub given_now : List Marked
        given_now = lent.marks

        text_is : p.text.now ≡ text_of given_now
        unfolding given_now lent
        text_is = lent.passage.text

        by_engine : (scalars : List ℕ) → passages t.profile t.cell scalars ≡ passages_by e scalars
        by_engine scalars = ap₂ (λ profile cell. passages profile cell scalars) (a.alike.profile ∙ st.profile) (a.alike.cell ∙ st.cell)

        bytes_now : bytes ++ a.got ≡ encode_utf8_all (st.scalars ++ scalars_of given_now) ++ t.held
        bytes_now =
            ap (λ l. l ++ a.got) st.bytes_are ∙ append_assoc (encode_utf8_all st.scalars) s.held a.got
            ∙ ap (λ l. encode_utf8_all st.scalars ++ l) (sym a.grown ∙ ap (λ l. l ++ t.held) text_is)
            ∙ sym (append_assoc (encode_utf8_all st.scalars) (text_of given_now) t.held)
            ∙ ap (λ l. l ++ t.held) (sym (encodes-append st.scalars (scalars_of given_now)))

        long : length (encode_utf8_all (st.scalars ++ scalars_of given_now)) ≡ length (encode_utf8_all st.scalars) + length p.text.now
        long = ap length (encodes-append st.scalars (scalars_of given_now)) ∙ length-append (encode_utf8_all st.scalars) (text_of given_now)
            ∙ ap (λ l. length (encode_utf8_all st.scalars) + length l) (sym text_is)

        behind_given : (more : List ℕ) → passages_by e (st.scalars ++ (scalars_of given_now ++ more)) ≡ st.given ++ passages_by e (scalars_of given_now ++ more)
        unfolding given_now lent
        behind_given more =
            let first = first_of lent.marks lent.passage.some in
            let begins : p.text.now ++ t.held ≡ encode_utf8 first.0 ++ (encode_utf8_all first.1 ++ t.held) =
            ap (λ l. l ++ t.held) (lent.passage.text ∙ ap encode_utf8_all first.2) ∙ append_assoc (encode_utf8 first.0) (encode_utf8_all first.1) t.held in
            ap (λ l. passages_by e (st.scalars ++ (l ++ more))) first.2
            ∙ onward (p.text.now ++ t.held) a.got a.grown (λ h. (a.quiet h).0) first.0 (encode_utf8_all first.1 ++ t.held) (first.1 ++ more) begins
            ∙ ap (λ l. st.given ++ passages_by e (l ++ more)) (sym first.2)

        stands_now : Stands t (st.scalars ++ scalars_of given_now) (st.given ++ given_now ∷ [])
        unfolding given_now lent
        stands_now = ⊎_elim
            (λ (h : GoesOn t lent.marks t.held).
            goes_on h.next h.rest h.bytes h.scalar
            (let near = lent.near h.next h.rest h.bytes in omega (arith, near, long, st.start))
            (λ more.
            ap (passages_by e) (append_assoc st.scalars (scalars_of lent.marks) (h.next ∷ more)) ∙ behind_given (h.next ∷ more)
            ∙ ap (λ l. st.given ++ l) (sym (by_engine (scalars_of lent.marks ++ h.next ∷ more)) ∙ h.first more
            ∙ ap (λ l. lent.marks ∷ l) (by_engine (h.next ∷ more)))
            ∙ sym (append_assoc st.given (lent.marks ∷ []) (passages_by e (h.next ∷ more)))))
            (λ (h : IsLast t lent.marks t.held).
            ended h.none h.at_end
            (ap (λ l. passages_by e (st.scalars ++ l)) (sym (append-nil (scalars_of lent.marks))) ∙ behind_given []
            ∙ ap (λ l. st.given ++ passages_by e l) (append-nil (scalars_of lent.marks))
            ∙ ap (λ l. st.given ++ l) (sym (by_engine (scalars_of lent.marks)) ∙ h.first)))
            lent.comes.follows

        pub Standing-next : (line : List ℕ) → e.Settled (st.given ++ given_now ∷ []) (out ++ line) → Standing t (bytes ++ a.got) (out ++ line)
        unfolding given_now lent
        Standing-next line next = record {
          scalars = st.scalars ++ scalars_of lent.marks;
          given = st.given ++ lent.marks ∷ [];
          cell = a.alike.cell ∙ st.cell;
          profile = a.alike.profile ∙ st.profile;
          limit = a.alike.limit ∙ st.limit;
          unspent = a.spent ∙ ap (λ b. b || false) st.unspent;
          utf8 = subst IsUtf8 (sym (encodes-append st.scalars (scalars_of lent.marks)))
              (IsUtf8-append (encode_utf8_all st.scalars) (text_of lent.marks) st.utf8 (subst IsUtf8 lent.passage.text lent.passage.utf8));
          bytes_are = bytes_now;
          start = omega (arith, a.start, long, st.start);
          few = omega (arith, a.start, lent.counted);
          joined = flat_map-append scalars_of st.given (lent.marks ∷ []) ∙ ap₂ (λ l m. l ++ m) st.joined (append-nil (scalars_of lent.marks));
          within = all-snoc (λ ms. length (text_of ms) ≤ e.limit) st.given lent.marks st.within
              (let short = lent.comes.within in omega (arith, short, a.alike.limit, st.limit));
          is = next;
          stands = stands_now;
        }

        pub Standing-next-given : (line : List ℕ) (next : e.Settled (st.given ++ given_now ∷ []) (out ++ line)) → (Standing-next line next).given ≡ st.given ++ given_now ∷ []
        unfolding Standing-next given_now lent
        Standing-next-given line next = refl

        -- the marks of the passage are those that an engine writes by
        pub passage_now : IsPassage s given_now p
        unfolding given_now lent
        passage_now = lent.passage

        pub start_now : p.start ≡ s.start
        unfolding lent
        start_now = lent.start

-- the lines of a passage more
pub lined : (e : Engine) (s : State) (bytes out : List ℕ) (st : Standing (by_passage e) s bytes out) (ms : List Marked)
    → out ++ e.lines s.start ms ≡ written_by e (st.given ++ ms ∷ [])
lined e s bytes out st ms =
    ap (λ l. l ++ e.lines s.start ms) st.is
    ∙ ap (λ n. written_by e st.given ++ e.lines n ms)
    (st.start ∙ ap (λ l. length (encode_utf8_all l)) (sym st.joined)
    ∙ (let e0 : length (encode_utf8_all (flat_map scalars_of st.given)) ≡ 0 + length (encode_utf8_all (flat_map scalars_of st.given)) = omega arith in e0))
    ∙ sym (lines_from-snoc e.lines 0 st.given ms)
