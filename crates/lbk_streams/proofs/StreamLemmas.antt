-- The breaks of a stream from its start on, and some of them given.
use Rattle.std.proofs.Common.{◌≡◌, ℕ, zero, suc, ◌==◌, ◌+◌, ◌^◌, ◌<◌, ◌≤◌, Bool, true, false, cond, ◌⊎◌, inl, inr, ⊎_elim, Some, None, List, [], ◌∷◌, ◌++◌, length, map, drop, take, refl, sym, ap, subst, ◌∙◌, arith, lit<}
use Rattle.std.specs.List.{AllByRecursion}
use Rattle.std.proofs.lemmas.Bool.{cases_lt}
use Rattle.std.proofs.lemmas.List.{take_at}
use Rattle.std.proofs.Math.Seq.{drop-append_seam, drop-length, take-length}
use Rattle.bstr.specs.Utf8.{Decoded, or_replacement}
use Rattle.lbk_rules.specs.declared.Break.{Break}
use Rattle.lbk_rules.specs.declared.Cell.{Cell}
use Rattle.lbk_values.specs.declared.profile.Profile.{Profile}
use Rattle.lbk_values.specs.declared.profile.Profile.TheVariants.{First, Second}
use Rattle.lbk_rules.specs.declared.Verdict.{Verdict}
use Rattle.lbk_rules.specs.Breaks.{break_by, is_no}
use Rattle.lbk_rules.specs.Ends.{end_after, ends_line}
use Rattle.lbk_rules.specs.Verdict.{verdict_between_in}
use Rattle.lbk_rules.proofs.ParagraphLemmas.{or-true}
use Rattle.lbk_rules.specs.declared.neighbours.Neighbours.{Neighbours}
use Rattle.lbk_rules.specs.FlatTable.{IsFlatBy, KnowsTaken}
use Rattle.lbk_rules.specs.Rows.{verdict_shown}
use Rattle.lbk_rules.proofs.FlatLemmas.{left-start}
use Rattle.lbk_streams.specs.declared.stream.Feeding.{Feeding}
use Rattle.lbk_streams.specs.declared.stream.StreamPosition.{StreamPosition}
use Rattle.lbk_streams.specs.declared.stream.Stream.{Stream}
use Rattle.lbk_bytes.specs.Bytes.{end_in, with_break}
use Rattle.lbk_bytes.specs.Reached.{onward_to, scalars_of}
use Rattle.lbk_bytes.specs.Profiles.{goes_on, plain_number, profile_numbered}
use Rattle.lbk_streams.specs.Stands.{Ahead, Feeds, Stands, StreamsIn, ahead, front_of, listed, onward_of}
use Rattle.lbk_streams.specs.Streams.{AreUnsettledIn, cut_units, late_break, part_stream, place_of}

-- the start of a stream, or of a part of one
pub Streams-part : {A : Type 0} (pieces_of : List A → List Decoded) (carried : List ℕ → List A) (cell : ℕ → Cell) (kinds : List ℕ) (pairs : Neighbours) (goes_on : Bool) (profile : Profile) (at : ℕ) (text : List A) (stream : Stream) (to_come : List Break)
    → IsFlatBy kinds pairs cell → at + length text < 2 ^ 64 → stream ≡ part_stream goes_on profile at
    → to_come ≡ onward_to (end_in goes_on) profile cell [] at (pieces_of text)
    → StreamsIn pieces_of carried cell kinds pairs stream text to_come
Streams-part pieces_of carried cell kinds pairs part profile at text stream to_come flat short starts whole =
    subst (λ s. StreamsIn pieces_of carried cell kinds pairs s text to_come) (sym starts) (flagged part profile whole)
  where
    begun : (goes_on : Bool) (profile : Profile) → to_come ≡ onward_to (end_in goes_on) profile cell [] at (pieces_of text)
        → Stands profile cell (place_of (part_stream goes_on profile at)) (pieces_of text) (record { breaks = to_come; goes_on = goes_on }) []
    begun goes_on profile whole = record {
      taken = [];
      knows = ((refl, lit< tt), left-start);
      some = λ more. absurd (omega arith);
      waits = λ more. absurd (omega arith);
      joined = whole;
    }

    named : (goes_on : Bool) (profile : Profile) → profile_numbered (plain_number (part_stream goes_on profile at).profile) ≡ Some profile
    named true First = refl
    named true Second = refl
    named false First = refl
    named false Second = refl

    same : (part : Bool) (profile : Profile) → goes_on (part_stream part profile at).profile ≡ part
    same true First = refl
    same true Second = refl
    same false First = refl
    same false Second = refl

    flagged : (part : Bool) (profile : Profile) → to_come ≡ onward_to (end_in part) profile cell [] at (pieces_of text)
        → StreamsIn pieces_of carried cell kinds pairs (part_stream part profile at) text to_come
    flagged part profile whole = record {
      profile = profile;
      named = named part profile;
      flat = flat;
      goes_on = λ _.
          subst (λ b. Stands profile cell (place_of (part_stream part profile at)) (pieces_of text) (record { breaks = to_come; goes_on = b }) []) (sym (same part profile))
          (begun part profile whole);
      fits = λ _. short;
      none_come = λ more. absurd (omega arith);
    }

-- of the breaks to come these were given, and the others come
pub Stands-rest : (profile : Profile) (cell : ℕ → Cell) (place : StreamPosition) (ps : List Decoded) (all : Ahead) (given : List Break) (count : ℕ)
    → length given ≡ count → Stands profile cell place ps all given
    → (given ≡ take count all.breaks) × Stands profile cell place ps (record { breaks = drop count all.breaks; goes_on = all.goes_on }) []
Stands-rest profile cell place ps all given count many s =
    let more = late_break cell place ps ++ onward_of all profile cell s.taken place.at ps in (
      sym (ap (take count) s.joined ∙ take_at given more count many),
      record {
        taken = s.taken;
        knows = s.knows;
        some = s.some;
        waits = s.waits;
        joined = ap (drop count) s.joined ∙ ap (λ n. drop n (given ++ more)) (sym many) ∙ drop-append_seam given more;
      },
    )

-- the breaks from a unit on stand there or behind
with_break-onward : (least at : ℕ) (verdict : Verdict) (more : List Break) → least ≤ at → AllByRecursion (λ found. least ≤ found.at) more
    → AllByRecursion (λ found. least ≤ found.at) (with_break at verdict more)
with_break-onward least at verdict more high all =
    elim (is_no verdict.kind) as (λ b. AllByRecursion (λ found. least ≤ found.at) (cond b more (break_by at verdict ∷ more)))
    [ true ↦ all | false ↦ (high, all) ]

end-onward : (goes_on : Bool) (profile : Profile) (cell : ℕ → Cell) (taken : List ℕ) (least at : ℕ) → least ≤ at
    → AllByRecursion (λ found. least ≤ found.at) (end_in goes_on profile cell taken at)
end-onward false profile cell taken least at high = with_break-onward least at (verdict_between_in profile (map cell taken) []) [] high tt
end-onward true profile cell [] least at high = tt
end-onward true profile cell (c ∷ []) least at high =
    elim (ends_line (cell c).class) as (λ b. AllByRecursion (λ found. least ≤ found.at) (cond b (break_by at (end_after (cell c).class) ∷ []) []))
    [ true ↦ (high, tt) | false ↦ tt ]
end-onward true profile cell (c ∷ d ∷ ds) least at high = end-onward true profile cell (d ∷ ds) least at high

pub onward-onward : (all : Ahead) (profile : Profile) (cell : ℕ → Cell) (taken : List ℕ) (least at : ℕ) (ps : List Decoded) → least ≤ at
    → AllByRecursion (λ found. least ≤ found.at) (onward_of all profile cell taken at ps)
onward-onward all profile cell taken least at [] high = end-onward all.goes_on profile cell taken least at high
onward-onward all profile cell taken least at (p ∷ ps) high =
    with_break-onward least at (verdict_between_in profile (map cell taken) (map cell (scalars_of (p ∷ ps))))
    (onward_of all profile cell (taken ++ or_replacement p.char ∷ []) (at + p.size) ps) high
    (onward-onward all profile cell (taken ++ or_replacement p.char ∷ []) least (at + p.size) ps (omega arith))

-- at the end a quotation is closed
late-end : (cell : ℕ → Cell) (place : StreamPosition) → late_break cell place [] ≡ []
late-end cell place = ap (λ b. cond b [] (with_break place.held_at (verdict_shown place.held_code) [])) (or-true (place.held_code == 0))

-- where nothing is left, the end comes
pub Stands-end : (profile : Profile) (cell : ℕ → Cell) (place : StreamPosition) (ps : List Decoded) (all : Ahead) (given : List Break)
    → ps ≡ [] → (s : Stands profile cell place ps all given) → all.breaks ≡ given ++ end_in all.goes_on profile cell s.taken place.at
Stands-end profile cell place ps all given none_left s =
    let at = place.at in
    let none_late : late_break cell place ps ≡ [] = ap (late_break cell place) none_left ∙ late-end cell place in
    s.joined ∙ ap (λ l. given ++ (l ++ onward_of all profile cell s.taken at ps)) none_late
    ∙ ap (λ l. given ++ onward_of all profile cell s.taken at l) none_left

-- Between the calls

named-one : (p q : Profile) (stream : Stream) → profile_numbered (plain_number stream.profile) ≡ Some p → profile_numbered (plain_number stream.profile) ≡ Some q → p ≡ q
named-one p q stream is also = cc

module _ {A : Type 0} (pieces_of : List A → List Decoded) (carried : List ℕ → List A) (profile : Profile) (cell : ℕ → Cell) where
  -- where a call begins on a stream from which breaks may come
  pub Feeds-streams : (kinds : List ℕ) (pairs : Neighbours) (old : Stream) (piece more : List A) (to_come given : List Break) (start : Feeding A)
      → profile_numbered (plain_number old.profile) ≡ Some profile → old.ended ≡ 0
      → start.place ≡ place_of old → front_of start.cut ≡ cut_units carried old → start.taken ≡ 0 → start.cut.size ≡ length (cut_units carried old) → given ≡ []
      → (s : StreamsIn pieces_of carried cell kinds pairs old (piece ++ more) to_come)
      → Feeds pieces_of profile cell (old.at + length (cut_units carried old)) piece more start (ahead old.profile to_come) given
  Feeds-streams kinds pairs old piece more to_come given start named unended place_same cut_same none size nothing s =
      let same : s.profile ≡ profile = named-one s.profile profile old s.named named in
      let all = ahead old.profile to_come in
      let begins : cut_units carried old ++ (piece ++ more) ≡ front_of start.cut ++ (drop start.taken piece ++ more) =
      ap (λ l. l ++ (piece ++ more)) (sym cut_same) ∙ ap (λ n. front_of start.cut ++ (drop n piece ++ more)) (sym none) in
      let at : start.place.at ≡ old.at = ap (λ (p : StreamPosition). p.at) place_same in
      record {
        stands =
            subst (λ l. Stands profile cell start.place (pieces_of l) all given) begins
            (subst (λ g. Stands profile cell start.place (pieces_of (cut_units carried old ++ (piece ++ more))) all g) (sym nothing)
            (subst (λ p. Stands profile cell p (pieces_of (cut_units carried old ++ (piece ++ more))) all []) (sym place_same)
            (subst (λ p. Stands p cell (place_of old) (pieces_of (cut_units carried old ++ (piece ++ more))) all []) same (s.goes_on unended))));
        fits = (let fits = s.fits unended in let long = ap length begins in omega arith);
        seen = omega arith;
      }

  -- the others come from where it ends
  pub Streams-next : (kinds : List ℕ) (pairs : Neighbours) (base : ℕ) (old new : Stream) (piece more : List A) (to_come given : List Break)
      (here : Feeding A) (count : ℕ)
      → profile_numbered (plain_number old.profile) ≡ Some profile → old.ended ≡ 0 → IsFlatBy kinds pairs cell
      → place_of new ≡ here.place → cut_units carried new ≡ front_of here.cut → new.profile ≡ old.profile → new.ended ≡ old.ended
      → length given ≡ count → Feeds pieces_of profile cell base piece more here (ahead old.profile to_come) given
      → StreamsIn pieces_of carried cell kinds pairs new (drop here.taken piece ++ more) (drop count to_come)
  Streams-next kinds pairs base old new piece more to_come given here count named unended flat place_same cut_same kept ended_same many f =
      let units = drop here.taken piece ++ more in
      record {
        profile = profile;
        named = ap (λ n. profile_numbered (plain_number n)) kept ∙ named;
        flat = flat;
        goes_on = λ _.
            subst (λ n. Stands profile cell (place_of new) (pieces_of (cut_units carried new ++ units)) (ahead n (drop count to_come)) []) (sym kept)
            (subst (λ p. Stands profile cell p (pieces_of (cut_units carried new ++ units)) (ahead old.profile (drop count to_come)) []) (sym place_same)
            (subst (λ l. Stands profile cell here.place (pieces_of (l ++ units)) (ahead old.profile (drop count to_come)) []) (sym cut_same)
            (Stands-rest profile cell here.place (pieces_of (front_of here.cut ++ units)) (ahead old.profile to_come) given count many f.stands).1));
        fits = λ _. (
            let at = ap (λ (p : StreamPosition). p.at) place_same in
            let long = ap (λ l. length (l ++ units)) cut_same in
            let fits = f.fits in
            omega arith);
        none_come = λ ended. absurd (omega arith);
      }

  -- the breaks that a call gave are the first of those to come
  pub Feeds-front : (number base : ℕ) (piece more : List A) (to_come given : List Break) (here : Feeding A) (count : ℕ)
      → length given ≡ count → Feeds pieces_of profile cell base piece more here (ahead number to_come) given → given ≡ take count to_come
  Feeds-front number base piece more to_come given here count many f =
      (Stands-rest profile cell here.place (pieces_of (front_of here.cut ++ (drop here.taken piece ++ more))) (ahead number to_come) given count many f.stands).0

  -- what a call leaves that was not full
  pub Feeds-unsettled : (could_go_on : List A → Bool) (number base : ℕ) (new : Stream) (piece more : List A) (to_come given : List Break) (here : Feeding A) (count : ℕ)
      → place_of new ≡ here.place → cut_units carried new ≡ front_of here.cut
      → (here.cut.size ≡ 0) ⊎ (could_go_on (front_of here.cut) ≡ true) → here.taken ≡ length piece
      → length given ≡ count → Feeds pieces_of profile cell base piece more here (ahead number to_come) given
      → AreUnsettledIn pieces_of carried could_go_on cell new more (drop count to_come)
  Feeds-unsettled could_go_on number base new piece more to_come given here count place_same cut_same unfinished all many f =
      let units = front_of here.cut ++ (drop here.taken piece ++ more) in
      let s = (Stands-rest profile cell here.place (pieces_of units) (ahead number to_come) given count many f.stands).1 in
      let at : new.at ≡ here.place.at = ap (λ (p : StreamPosition). p.at) place_same in
      let rest : drop here.taken piece ++ more ≡ more = ap (λ n. drop n piece ++ more) all ∙ ap (λ l. l ++ more) (drop-length piece) in
      let same : units ≡ cut_units carried new ++ more = ap (λ l. front_of here.cut ++ l) rest ∙ ap (λ l. l ++ more) (sym cut_same) in
      let later = onward_of (ahead number to_come) profile cell s.taken here.place.at (pieces_of units) in
      record {
        cut =
            ⊎_elim (λ (none : here.cut.size ≡ 0). inl (cut_same ∙ ap (λ n. take n (listed here.cut.units)) none))
            (λ (goes : could_go_on (front_of here.cut) ≡ true). inr (ap could_go_on cut_same ∙ goes)) unfinished;
        later = later;
        onward = onward-onward (ahead number to_come) profile cell s.taken new.at here.place.at (pieces_of units) (omega arith);
        joined = s.joined ∙ ap (λ p. late_break cell p (pieces_of units) ++ later) (sym place_same) ∙ ap (λ l. late_break cell (place_of new) (pieces_of l) ++ later) same;
        waits = λ held.
            let code : new.held_code ≡ here.place.held_code = ap (λ (p : StreamPosition). p.held_code) place_same in
            let held_same : new.held_at ≡ here.place.held_at = ap (λ (p : StreamPosition). p.held_at) place_same in
            let w = s.waits (omega arith) in
            (omega (arith, w.before), ap (λ n. is_no (verdict_shown n).kind) code ∙ w.breaks);
      }

  -- after the last piece, all were given
  pub Feeds-ended : (number base : ℕ) (piece : List A) (to_come given after : List Break) (here : Feeding A)
      → pieces_of [] ≡ [] → here.cut.size ≡ 0 → here.taken ≡ length piece
      → ((taken : List ℕ) → KnowsTaken cell here.place.row taken → (0 < here.place.row → 0 < length taken)
      → after ≡ given ++ end_in (goes_on number) profile cell taken here.place.at)
      → Feeds pieces_of profile cell base piece [] here (ahead number to_come) given → to_come ≡ after
  Feeds-ended number base piece to_come given after here ends none all end f =
      let units = front_of here.cut ++ (drop here.taken piece ++ []) in
      let nothing : units ≡ [] =
      ap (λ n. take n (listed here.cut.units) ++ (drop here.taken piece ++ [])) none ∙ ap (λ n. drop n piece ++ []) all ∙ ap (λ l. l ++ []) (drop-length piece) in
      Stands-end profile cell here.place (pieces_of units) (ahead number to_come) given (ap pieces_of nothing ∙ ends) f.stands ∙ sym (end f.stands.taken f.stands.knows f.stands.some)

  pub Streams-end : (kinds : List ℕ) (pairs : Neighbours) (old new : Stream) (units : List A) (to_come after : List Break) (count : ℕ)
      → profile_numbered (plain_number old.profile) ≡ Some profile → IsFlatBy kinds pairs cell → new.profile ≡ old.profile → new.ended ≡ 1
      → to_come ≡ after → length after ≡ count → StreamsIn pieces_of carried cell kinds pairs new units (drop count to_come)
  Streams-end kinds pairs old new units to_come after count named flat kept ended all many = record {
    profile = profile;
    named = ap (λ n. profile_numbered (plain_number n)) kept ∙ named;
    flat = flat;
    goes_on = λ unended. absurd (omega arith);
    fits = λ unended. absurd (omega arith);
    none_come = λ _. ap (drop count) all ∙ ap (λ n. drop n after) (sym many) ∙ drop-length after;
  }

-- from a stream that has ended nothing comes
pub ended-none : {A : Type 0} (pieces_of : List A → List Decoded) (carried : List ℕ → List A) (cell : ℕ → Cell) (kinds : List ℕ) (pairs : Neighbours) (old : Stream) (more : List A) (to_come : List Break)
    → (0 < old.ended) ⊎ (profile_numbered (plain_number old.profile) ≡ None) → StreamsIn pieces_of carried cell kinds pairs old more to_come → (to_come ≡ []) × (0 < old.ended)
ended-none pieces_of carried cell kinds pairs old more to_come (inl ended) s = (s.none_come ended, ended)
ended-none pieces_of carried cell kinds pairs old more to_come (inr unnamed) s = absurd (let unknown : ⊥ = (let named = s.named in cc) in unknown)

-- what has ended goes on as it is, whatever follows
pub ended-stays : {A : Type 0} (pieces_of : List A → List Decoded) (carried : List ℕ → List A) (cell : ℕ → Cell) (kinds : List ℕ) (pairs : Neighbours) (old : Stream) (more other : List A) (to_come : List Break)
    → (0 < old.ended) ⊎ (profile_numbered (plain_number old.profile) ≡ None) → StreamsIn pieces_of carried cell kinds pairs old more to_come → StreamsIn pieces_of carried cell kinds pairs old other to_come
ended-stays pieces_of carried cell kinds pairs old more other to_come spent s =
    let none = ended-none pieces_of carried cell kinds pairs old more to_come spent s in
    record {
      profile = s.profile;
      named = s.named;
      flat = s.flat;
      goes_on = λ unended. absurd (let ended = none.1 in omega arith);
      fits = λ unended. absurd (let ended = none.1 in omega arith);
      none_come = λ _. none.0;
    }

-- the numbers that name no profile
pub unnamed-high : (number : ℕ) → profile_numbered (plain_number number) ≡ None → 3 < number
unnamed-high zero none = absurd (let unknown : ⊥ = cc in unknown)
unnamed-high (suc zero) none = absurd (let unknown : ⊥ = cc in unknown)
unnamed-high (suc (suc zero)) none = absurd (let unknown : ⊥ = cc in unknown)
unnamed-high (suc (suc (suc zero))) none = absurd (let unknown : ⊥ = cc in unknown)
unnamed-high (suc (suc (suc (suc n)))) none = omega arith

-- what the last call gives
pub record IsClosed {A : Type 0} (pieces_of : List A → List Decoded) (carried : List ℕ → List A) (cell : ℕ → Cell) (kinds : List ℕ) (pairs : Neighbours) (new : Stream) (units : List A) (to_come after : List Break) (count room : ℕ) : Type 0 where
  pub front : after ≡ take count to_come
  pub rest : StreamsIn pieces_of carried cell kinds pairs new units (drop count to_come)
  pub end : count < room → count ≡ length to_come

-- how the call ends: with a full block, or with the end of the stream
pub record Closes {A : Type 0} (carried : List ℕ → List A) (profile : Profile) (cell : ℕ → Cell) (old new : Stream) (done : Feeding A) (piece : List A) (given after : List Break) (count room : ℕ) : Type 0 where
  pub within : done.count ≤ room
  pub many : length given ≡ done.count
  pub counted : length after ≡ count
  pub kept : new.profile ≡ old.profile
  pub full : done.count ≡ room
      → (after ≡ given) × (place_of new ≡ done.place) × (cut_units carried new ≡ front_of done.cut) × (new.ended ≡ old.ended)
  pub taken : done.count < room → done.taken ≡ length piece
  pub cut : done.count < room → done.cut.size ≡ 0
  pub ended : done.count < room → new.ended ≡ 1
  pub end : done.count < room → (taken : List ℕ) → KnowsTaken cell done.place.row taken → (0 < done.place.row → 0 < length taken)
      → after ≡ given ++ end_in (goes_on old.profile) profile cell taken done.place.at

pub Feeds-closed : {A : Type 0} (pieces_of : List A → List Decoded) (carried : List ℕ → List A) (profile : Profile) (cell : ℕ → Cell) (kinds : List ℕ) (pairs : Neighbours) (base : ℕ) (old new : Stream) (piece : List A) (to_come given after : List Break)
    (done : Feeding A) (count room : ℕ)
    → pieces_of [] ≡ [] → profile_numbered (plain_number old.profile) ≡ Some profile → old.ended ≡ 0 → IsFlatBy kinds pairs cell → Closes carried profile cell old new done piece given after count room
    → Feeds pieces_of profile cell base piece [] done (ahead old.profile to_come) given
    → IsClosed pieces_of carried cell kinds pairs new (drop done.taken piece ++ []) to_come after count room
Feeds-closed pieces_of carried profile cell kinds pairs base old new piece to_come given after done count room ends named unended flat x f =
    ⊎_elim
    (λ (free : done.count < room).
    let all : to_come ≡ after =
    Feeds-ended pieces_of carried profile cell old.profile base piece to_come given after done ends (x.cut free) (x.taken free) (x.end free) f in
    record {
      front = sym (ap (take count) all ∙ ap (λ n. take n after) (sym x.counted) ∙ take-length after);
      rest = Streams-end pieces_of carried profile cell kinds pairs old new (drop done.taken piece ++ []) to_come after count named flat x.kept (x.ended free) all x.counted;
      end = λ _. sym x.counted ∙ ap length (sym all);
    })
    (λ (no_room : room ≤ done.count).
    let within = x.within in
    let full = x.full (omega arith) in
    let same : count ≡ done.count = sym x.counted ∙ ap length full.0 ∙ x.many in
    let many : length given ≡ count = x.many ∙ sym same in
    record {
      front = full.0 ∙ Feeds-front pieces_of carried profile cell old.profile base piece [] to_come given done count many f;
      rest =
          Streams-next pieces_of carried profile cell kinds pairs base old new piece [] to_come given done count named unended flat full.1 full.2 x.kept full.3 many f;
      end = λ free. absurd (omega arith);
    })
    (cases_lt done.count room)
