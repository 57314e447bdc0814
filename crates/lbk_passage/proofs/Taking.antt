-- What the text and the feed are once scalars went from the one to the other.
use Rattle.std.proofs.Common.{◌≡◌, ℕ, ◌+◌, ◌-◌, ◌<◌, true, ◌&&◌, List, [], ◌∷◌, ◌++◌, length, take, drop, None, Option, Result, is_ok, if◌then◌else◌, encode_utf8, encode_utf8_all, string_len, IsUtf8, IsCharBoundary, chars, refl, sym, ap, subst, ◌∙◌, arith, length-append, append_assoc}
use Rattle.std.specs.List.{slice_range}
use Rattle.std.proofs.Math.Utf8.{scalars}
use Rattle.std.proofs.Math.Seq.{take-append_seam, drop-append_seam}
use Rattle.std.proofs.lemmas.Str.{scalars-chars, chars-encodes, encodes-chars, encodes-append, chars-append, IsCharBoundary-at_seam}
use Rattle.lbk_feed.specs.View.{LendsFront}
use Rattle.lbk_rules.specs.declared.Class.{Class}
use Rattle.lbk_rules.specs.declared.Cell.{Cell}
use Rattle.lbk_passage.specs.Ahead.{IsTold}
use Rattle.lbk_passage.specs.Gathering.{Reaches, Moves, Takes, StopsBefore}
use Rattle.lbk_passage.specs.State.{bytes_in}
use Rattle.lbk_passage.specs.declared.paragraph.Paragraph.{Paragraph}
use Rattle.lbk_passage.specs.declared.paragraph.Told.{Told}
use Rattle.lbk_passage.specs.declared.reach.Reach.{Reach}
use Rattle.lbk_passage.specs.declared.reach.ReachEnd.{ReachEnd}
use Rattle.lbk_passage.specs.declared.reach.ReachEnd.TheVariants.{PieceEnds, LineEnds, NoRoom}
use Rattle.lbk_passage.proofs.Booleans.{both-left, both-right}
use Rattle.lbk_passage.proofs.Texts.{IsUtf8-bytes_in, bytes-within, len-gathered}

-- the scalars of a list, and of its two parts
pub scalars-left : (xs ys : List ℕ) → scalars (xs ++ ys) ≡ true → scalars xs ≡ true
scalars-left [] ys all = refl
scalars-left (x ∷ xs) ys all =
    ap (λ b. b && scalars xs) (both-left _ (scalars (xs ++ ys)) all) ∙ scalars-left xs ys (both-right _ _ all)

pub scalars-right : (xs ys : List ℕ) → scalars (xs ++ ys) ≡ true → scalars ys ≡ true
scalars-right [] ys all = all
scalars-right (x ∷ xs) ys all = scalars-right xs ys (both-right _ (scalars (xs ++ ys)) all)

pub IsUtf8-scalars : (xs : List ℕ) → scalars xs ≡ true → IsUtf8 (encode_utf8_all xs)
IsUtf8-scalars xs all = (xs, (all, refl))

module _ (cell : ℕ → Cell) (last : Option Class) (piece : List ℕ) (room : ℕ) (r : Reach) (utf8 : IsUtf8 piece) (reaches : Reaches cell last piece room r) where
  all_scalars : scalars (reaches.taken ++ reaches.rest) ≡ true
  all_scalars = ap scalars (sym reaches.all) ∙ scalars-chars piece utf8

  parts : piece ≡ encode_utf8_all reaches.taken ++ encode_utf8_all reaches.rest
  parts = sym (encodes-chars piece utf8) ∙ ap encode_utf8_all reaches.all ∙ encodes-append reaches.taken reaches.rest

  pub boundary : IsCharBoundary piece r.len
  boundary = subst (IsCharBoundary piece) (sym reaches.len)
      (IsCharBoundary-at_seam piece (encode_utf8_all reaches.taken) (encode_utf8_all reaches.rest) parts
      (IsUtf8-scalars reaches.rest (scalars-right reaches.taken reaches.rest all_scalars)))

  front : take r.len piece ≡ encode_utf8_all reaches.taken
  front =
      ap (λ n. take n piece) reaches.len ∙ ap (take (length (encode_utf8_all reaches.taken))) parts
      ∙ take-append_seam (encode_utf8_all reaches.taken) (encode_utf8_all reaches.rest)

  back : (behind : List ℕ) → drop r.len (piece ++ behind) ≡ encode_utf8_all reaches.rest ++ behind
  back behind =
      ap (λ n. drop n (piece ++ behind)) reaches.len
      ∙ ap (drop (length (encode_utf8_all reaches.taken))) (ap (λ l. l ++ behind) parts ∙ append_assoc (encode_utf8_all reaches.taken) (encode_utf8_all reaches.rest) behind)
      ∙ drop-append_seam (encode_utf8_all reaches.taken) (encode_utf8_all reaches.rest ++ behind)

  back_alone : drop r.len piece ≡ encode_utf8_all reaches.rest
  back_alone =
      ap (λ n. drop n piece) reaches.len ∙ ap (drop (length (encode_utf8_all reaches.taken))) parts
      ∙ drop-append_seam (encode_utf8_all reaches.taken) (encode_utf8_all reaches.rest)

StopsBefore-room : (cell : ℕ → Cell) (last : Option Class) (len room len' room' : ℕ) (stop : ReachEnd) (rest : List ℕ)
    → ((n : ℕ) → room < len + n → room' < len' + n) → StopsBefore cell last len room stop rest → StopsBefore cell last len' room' stop rest
StopsBefore-room cell last len room len' room' PieceEnds rest more stops = stops
StopsBefore-room cell last len room len' room' LineEnds rest more stops = stops
StopsBefore-room cell last len room len' room' NoRoom rest more stops = (stops.0, stops.1, stops.2, stops.3, more (length (encode_utf8 stops.0)) stops.4)

Takes-by : (cell : ℕ → Cell) (last : Option Class) (old new : Paragraph) (r : Reach) → LendsFront old.feed
    → Reaches cell last old.feed.ready (old.limit - length (bytes_in old)) r → Moves old new r.len → Takes cell last old new r
Takes-by cell last old new r lends reaches moves =
    let room = old.limit - length (bytes_in old) in
    let all = all_scalars cell last old.feed.ready room r lends.text reaches in
    let text_is : bytes_in new ≡ bytes_in old ++ encode_utf8_all reaches.taken =
    moves.text ∙ ap (λ l. bytes_in old ++ l) (front cell last old.feed.ready room r lends.text reaches) in
    let held_is : new.feed.held ≡ encode_utf8_all reaches.rest ++ lends.rest =
    ap (λ f. f.held) moves.feed ∙ ap (drop r.len) lends.first ∙ back cell last old.feed.ready room r lends.text reaches lends.rest in
    let long = ap length text_is ∙ length-append (bytes_in old) (encode_utf8_all reaches.taken) in
    let kept = bytes-within old in
    record {
      taken = reaches.taken;
      rest = reaches.rest;
      behind = lends.rest;
      was_ready = reaches.all;
      is_ready = ap (λ f. chars f.ready) moves.feed ∙ ap chars (back_alone cell last old.feed.ready room r lends.text reaches)
          ∙ chars-encodes reaches.rest (scalars-right reaches.taken reaches.rest all);
      utf8 = subst IsUtf8 (sym (ap (λ f. f.ready) moves.feed ∙ back_alone cell last old.feed.ready room r lends.text reaches))
          (IsUtf8-scalars reaches.rest (scalars-right reaches.taken reaches.rest all));
      front = held_is ∙ ap (λ l. l ++ lends.rest) (sym (ap (λ f. f.ready) moves.feed ∙ back_alone cell last old.feed.ready room r lends.text reaches));
      few = omega (
        arith,
        ap (λ f. f.given) moves.feed,
        reaches.len,
        ap length (parts cell last old.feed.ready room r lends.text reaches),
        length-append (encode_utf8_all reaches.taken) (encode_utf8_all reaches.rest),
        lends.few,
        ap (λ f. length f.ready) moves.feed ∙ ap length (back_alone cell last old.feed.ready room r lends.text reaches),
      );
      was_held = lends.first ∙ ap (λ l. l ++ lends.rest) (parts cell last old.feed.ready room r lends.text reaches)
          ∙ append_assoc (encode_utf8_all reaches.taken) (encode_utf8_all reaches.rest) lends.rest ∙ ap (λ l. encode_utf8_all reaches.taken ++ l) (sym held_is);
      is_held = held_is;
      text = text_is;
      scalars = ap chars text_is ∙ chars-append (bytes_in old) (encode_utf8_all reaches.taken) (IsUtf8-bytes_in old)
          ∙ ap (λ l. chars (bytes_in old) ++ l) (chars-encodes reaches.taken (scalars-left reaches.taken reaches.rest all));
      given = ap (λ f. f.given) moves.feed ∙ ap (λ n. old.feed.given + n) reaches.len;
      ended = ap (λ f. f.is_ended) moves.feed;
      feed_spent = ap (λ f. f.is_spent) moves.feed;
      limit = moves.limit;
      same_held = moves.held;
      same_spent = moves.spent;
      none_ends = reaches.none_ends;
      last_is = reaches.last_is;
      stop = StopsBefore-room cell r.last r.len room (length (bytes_in new)) old.limit r.stop reaches.rest
          (λ n h. omega (arith, long, reaches.len, kept, reaches.within)) reaches.stop;
    }

-- the same where what was gathered is a string
pub Takes-moves : (cell : ℕ → Cell) (last : Option Class) (old new : Paragraph) (r : Reach) → old.lent ≡ 0 → LendsFront old.feed
    → Reaches cell last old.feed.ready (old.limit - string_len old.text) r → Moves old new r.len → Takes cell last old new r
Takes-moves cell last old new r gathered lends reaches moves =
    Takes-by cell last old new r lends
    (subst (λ n. Reaches cell last old.feed.ready (old.limit - n) r) (sym (len-gathered old gathered)) reaches) moves

-- the paragraph that was told went to the text, of which nothing was gathered
pub Takes-told : (cell : ℕ → Cell) (old mid new : Paragraph) (told : Told) (is : IsTold cell old told) → mid.feed ≡ old.feed → mid.limit ≡ old.limit
    → length (bytes_in mid) ≡ 0 → LendsFront mid.feed → Moves mid new told.len → Takes cell None mid new is.reach
Takes-told cell old mid new told is feed_is limit_is none lends moves =
    let room : old.limit ≡ mid.limit - length (bytes_in mid) = omega (arith, limit_is, none) in
    Takes-by cell None mid new is.reach lends
    (subst (λ f. Reaches cell None f.ready (mid.limit - length (bytes_in mid)) is.reach) (sym feed_is)
    (subst (λ n. Reaches cell None old.feed.ready n is.reach) room is.reaches))
    (subst (Moves mid new) is.len moves)

-- what a string is after a push that did not fail
pub pushed : {E : Type 0} (r : Result (Unit {0}) E) (old new piece ready : List ℕ) (len : ℕ) → is_ok r ≡ true
    → new ≡ (if is_ok r then old ++ slice_range piece 0 len else old) → piece ≡ ready → new ≡ old ++ take len ready
pushed r old new piece ready len ok is same =
    let whole : len - 0 ≡ len = omega arith in
    is ∙ ap (λ b. if b then old ++ slice_range piece 0 len else old) ok
    ∙ ap (λ l. old ++ take (len - 0) l) same ∙ ap (λ n. old ++ take n ready) whole
