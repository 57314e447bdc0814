-- What is gathered after each line of a file: the rows and defaults of the lines so far.
use Rattle.std.proofs.Common.{◌≡◌, ℕ, suc, ◌==◌, nat_eq, ◌+◌, ◌-◌, ◌<◌, ◌≤◌, ◌||◌, Bool, true, false, cond, nat_lt, List, [], ◌∷◌, ◌++◌, length, get_or, take, drop, Option, Some, None, IsSome, sym, ap, refl, ◌∙◌, arith, inl, inr, ◌⊎◌, length-drop, append-nil}
use Rattle.std.specs.List.{filter_map, list_any, cons_option, starts_with}
use Rattle.std.specs.Option.{option_map, option_to_list}
use Rattle.std.proofs.lemmas.Bool.{cases_lt}
use Rattle.std.proofs.lemmas.List.{take_all, take_more, drop_more}
use Rattle.std.proofs.lemmas.List.Elements.{filter_map-append}
use Rattle.std.proofs.lemmas.List.Splits.{length-slice_split}
use Rattle.std.proofs.lemmas.List.Sums.{count_by-le-length}
use Rattle.lbk_ucd.specs.declared.ranges.Row.{Row}
use Rattle.lbk_ucd.specs.declared.gathered.Gathered.{Gathered}
use Rattle.lbk_ucd.specs.declared.faults.UcdCause.{UcdCause}
use Rattle.lbk_ucd.specs.declared.faults.UcdCause.TheVariants.{Overlap, Range, LineTooLong}
use Rattle.lbk_ucd.specs.PropertyLine.{Entry, Meaning, nothing, row, default, meaning_of}
use Rattle.lbk_ucd.specs.Rows.{shares, value_at}
use Rattle.lbk_ucd.specs.File.{Format, named, row_meant, row_in, default_in, rows_in, defaults_in, cause_of_room, cause_of_value, cause_of_entry, cause_of_meaning, cause_beside, cause_after, cause_at, lines_of, without_mark, property_of, IsLawful, IsLawfulBefore, IsGrowth, IsRefusal}
use Rattle.lbk_ucd.specs.Reading.{Adds, IsAnswered, count_of}

one_kept : {X : Type 0} (o : Option X) → cons_option o [] ≡ option_to_list o
one_kept None = refl
one_kept (Some x) = refl

-- the line at an index, where what is left begins with it
record IsNext (lines : List (List ℕ)) (k : ℕ) (line : List ℕ) (after : List (List ℕ)) : Type 0 where
  within : k < length lines
  is : get_or lines k [] ≡ line
  left : drop (k + 1) lines ≡ after
  taken : take (k + 1) lines ≡ take k lines ++ line ∷ []

next_line : (lines : List (List ℕ)) (k : ℕ) (line : List ℕ) (after : List (List ℕ)) → drop k lines ≡ line ∷ after → IsNext lines k line after
next_line lines k line after split =
    let lengths : length lines - k ≡ suc (length after) = sym (length-drop k lines) ∙ ap length split in
    let within : k < length lines = omega arith in
    let more : get_or lines k [] ∷ drop (k + 1) lines ≡ line ∷ after = sym (drop_more lines k [] within) ∙ split in
    let is : get_or lines k [] ≡ line = cc in
    record {
      within = within;
      is = is;
      left = cc;
      taken = take_more lines k [] within ∙ ap (λ l. take k lines ++ l ∷ []) is;
    }

-- where no lines are left, each was taken in
ended : (lines : List (List ℕ)) (k : ℕ) → drop k lines ≡ [] → length lines ≤ k
ended lines k none =
    let lengths : length lines - k ≡ 0 = sym (length-drop k lines) ∙ ap length none in
    omega arith

-- a file has at most one line more than bytes
pub few_lines : (bytes : List ℕ) → length (lines_of bytes) ≤ length bytes + 1
few_lines bytes =
    let text = without_mark bytes in
    omega (arith, length-slice_split (λ byte. byte == 10) text, count_by-le-length (λ byte. byte == 10) text, shorter (starts_with nat_eq bytes (239 ∷ 187 ∷ 191 ∷ [])))
  where
    shorter : (marked : Bool) → length (cond marked (drop 3 bytes) bytes) ≤ length bytes
    shorter true = omega (arith, length-drop 3 bytes)
    shorter false = omega arith

module _ {V : Type 0} where
  -- a kept row of a line without a cause shares no code with those kept
  apart_value : (format : Format V) (rows : List (Row V)) (count : ℕ) (entry : Entry) (value : Option V) (kept : Row V)
      → cause_of_value format rows count entry value ≡ None
      → option_map (λ v. let made : Row V = record { first = entry.first; last = entry.last; value = v } in made) value ≡ Some kept
      → list_any (shares kept.first kept.last) rows ≡ false
  apart_value format rows count entry None kept none is = cc
  apart_value format rows count entry (Some value) kept none is =
      rw (sym (some_inside is)) (go (list_any (shares entry.first entry.last) rows) refl none)
    where
      some_inside : {A : Type 0} {x y : A} → Some x ≡ Some y → x ≡ y
      some_inside same = cc

      go : (meets : Bool) → list_any (shares entry.first entry.last) rows ≡ meets → cond meets (Some Overlap) (cause_of_room count) ≡ None → list_any (shares entry.first entry.last) rows ≡ false
      go true meets found = cc
      go false meets found = meets

  apart_meaning : (format : Format V) (rows : List (Row V)) (count : ℕ) (meaning : Option Meaning) (kept : Row V)
      → cause_of_meaning format rows count meaning ≡ None → row_meant format meaning ≡ Some kept
      → list_any (shares kept.first kept.last) rows ≡ false
  unfolding cause_of_entry
  apart_meaning format rows count None kept none is = cc
  apart_meaning format rows count (Some nothing) kept none is = cc
  apart_meaning format rows count (Some (default entry)) kept none is = cc
  apart_meaning format rows count (Some (row entry)) kept none is = go (nat_lt entry.last entry.first || nat_lt 0x10FFFF entry.last) none
    where
      go : (outside : Bool) → cond outside (Some Range) (cause_of_value format rows count entry (named format.names entry.name)) ≡ None
          → list_any (shares kept.first kept.last) rows ≡ false
      go true found = cc
      go false found = apart_value format rows count entry (named format.names entry.name) kept found is

  pub apart_line : (format : Format V) (rows : List (Row V)) (count : ℕ) (line : List ℕ) (kept : Row V)
      → cause_beside format rows count line ≡ None → row_in format line ≡ Some kept
      → list_any (shares kept.first kept.last) rows ≡ false
  unfolding cause_beside
  apart_line format rows count line kept none is = go (nat_lt 1024 (length line)) none
    where
      go : (long : Bool) → cond long (Some LineTooLong) (cause_of_meaning format rows count (meaning_of format.defaults line)) ≡ None
          → list_any (shares kept.first kept.last) rows ≡ false
      go true found = cc
      go false found = apart_meaning format rows count (meaning_of format.defaults line) kept found is

  -- what is gathered after some lines
  pub record Keeps (format : Format V) (lines : List (List ℕ)) (gathered : Gathered V) : Type 0 where
    pub rows : gathered.rows.items ≡ rows_in format lines
    pub defaults : gathered.defaults.items ≡ defaults_in format lines
    pub unlisted : gathered.unlisted ≡ format.unlisted

  -- the first cause of the next line
  pub cause_next : (format : Format V) (lines : List (List ℕ)) (gathered : Gathered V) (line : List ℕ) → Keeps format lines gathered
      → cause_after format lines line ≡ cause_beside format gathered.rows.items (count_of gathered) line
  cause_next format lines gathered line keeps = rw (keeps.rows, keeps.defaults) refl

  -- what one more line gives stands behind what the others gave
  given_more : (given : List ℕ → Option (Row V)) (lines : List (List ℕ)) (line : List ℕ)
      → filter_map given (lines ++ line ∷ []) ≡ filter_map given lines ++ option_to_list (given line)
  given_more given lines line = filter_map-append given lines (line ∷ []) ∙ ap (λ more. filter_map given lines ++ more) (one_kept (given line))

  -- one more line
  pub keeps_more : (format : Format V) (lines : List (List ℕ)) (line : List ℕ) (old new : Gathered V) → Keeps format lines old
      → Adds (row_in format line) (default_in format line) old new → Keeps format (lines ++ line ∷ []) new
  keeps_more format lines line old new keeps adds = record {
    rows = adds.rows ∙ (ap (λ rows. rows ++ option_to_list (row_in format line)) keeps.rows ∙ sym (given_more (row_in format) lines line));
    defaults = adds.defaults ∙ (ap (λ defaults. defaults ++ option_to_list (default_in format line)) keeps.defaults ∙ sym (given_more (default_in format) lines line));
    unlisted = adds.unlisted ∙ keeps.unlisted;
  }

  -- a line that made the count greater gave a row or a default
  pub gives_more : (one other : Option (Row V)) (old new : Gathered V) → Adds one other old new → count_of old < count_of new
      → IsSome one ⊎ IsSome other
  gives_more (Some _) other old new adds more = inl refl
  gives_more None (Some _) old new adds more = inr refl
  gives_more None None old new adds more =
      let rows = ap length (adds.rows ∙ append-nil old.rows.items) in
      let defaults = ap length (adds.defaults ∙ append-nil old.defaults.items) in
      absurd (omega arith)

  -- the number of the last line that gave something, where one did
  abbrev pub IsGrown : Format V → List ℕ → Gathered V → ℕ → Type 0
  IsGrown format bytes gathered grown = (count_of gathered ≡ 0) ⊎ IsGrowth format bytes grown

  -- a look-up in what is gathered
  pub same_value : (format : Format V) (lines : List (List ℕ)) (gathered : Gathered V) (code : ℕ) → Keeps format lines gathered
      → value_at gathered.rows.items gathered.defaults.items gathered.unlisted code ≡ value_at (rows_in format lines) (defaults_in format lines) format.unlisted code
  same_value format lines gathered code keeps = rw (keeps.rows, keeps.defaults, keeps.unlisted) refl

  -- one more line without a cause
  pub lawful_more : (format : Format V) (lines : List (List ℕ)) (k : ℕ) → IsLawfulBefore format lines k → cause_at format lines k ≡ None
      → IsLawfulBefore format lines (k + 1)
  lawful_more format lines k before here earlier lt =
      elim (cases_lt earlier k) [
        | inl less ↦ before earlier less
        | inr not_less ↦ let same : earlier ≡ k = omega arith in rw same here
      ]

  module _ (format : Format V) (bytes : List ℕ) (k : ℕ) (line : List ℕ) (after : List (List ℕ)) (gathered : Gathered V)
      (next : drop k (lines_of bytes) ≡ line ∷ after)
      (before : IsLawfulBefore format (lines_of bytes) k)
      (keeps : Keeps format (take k (lines_of bytes)) gathered) where
    cause_here : cause_at format (lines_of bytes) k ≡ cause_beside format gathered.rows.items (count_of gathered) line
    cause_here =
        let n = next_line (lines_of bytes) k line after next in
        ap (cause_after format (take k (lines_of bytes))) n.is ∙ cause_next format (take k (lines_of bytes)) gathered line keeps

    -- what holds after the line, if it has no cause
    pub next_within : k < length (lines_of bytes)
    next_within = (next_line (lines_of bytes) k line after next).within

    pub next_left : drop (k + 1) (lines_of bytes) ≡ after
    next_left = (next_line (lines_of bytes) k line after next).left

    pub next_lawful : cause_beside format gathered.rows.items (count_of gathered) line ≡ None → IsLawfulBefore format (lines_of bytes) (k + 1)
    next_lawful none = lawful_more format (lines_of bytes) k before (cause_here ∙ none)

    pub next_keeps : (new : Gathered V) → Adds (row_in format line) (default_in format line) gathered new → Keeps format (take (k + 1) (lines_of bytes)) new
    next_keeps new adds =
        rw (next_line (lines_of bytes) k line after next).taken (keeps_more format (take k (lines_of bytes)) line gathered new keeps adds)

    -- the line is one where the tables grow, if it made the count greater
    pub next_growth : (new : Gathered V) → length bytes ≤ 8388608 → cause_beside format gathered.rows.items (count_of gathered) line ≡ None
        → Adds (row_in format line) (default_in format line) gathered new → count_of gathered < count_of new → IsGrowth format bytes (k + 1)
    next_growth new short none adds more =
        let n = next_line (lines_of bytes) k line after next in
        record {
          short = short;
          index = k;
          within = n.within;
          counted = refl;
          gives = rw n.is (gives_more (row_in format line) (default_in format line) gathered new adds more);
          before = next_lawful none;
        }

    -- the line is where the file is refused
    pub refused : (cause : UcdCause) → length bytes ≤ 8388608
        → IsAnswered (cause_beside format gathered.rows.items (count_of gathered) line) (row_in format line) (default_in format line) cause
        → IsRefusal format bytes (k + 1) cause
    refused cause short answered =
        let n = next_line (lines_of bytes) k line after next in
        elim answered [
          | inl found ↦ inl (inr (record {
            short = short;
            index = k;
            within = n.within;
            counted = refl;
            here = cause_here ∙ found;
            before = before;
          }))
          | inr m ↦ inr (
            m.0,
            record {
              short = short;
              index = k;
              within = n.within;
              counted = refl;
              gives = rw n.is m.2;
              before = next_lawful m.1;
            },
          )
        ]

  -- the first k lines are taken in, and these lines are left
  pub record IsReadTo (format : Format V) (bytes : List ℕ) (k : ℕ) (left : List (List ℕ)) (gathered : Gathered V) (grown : ℕ) : Type 0 where
    pub left_is : drop k (lines_of bytes) ≡ left
    pub counted : k ≤ length (lines_of bytes)
    pub lawful : IsLawfulBefore format (lines_of bytes) k
    pub keeps : Keeps format (take k (lines_of bytes)) gathered
    pub grows : IsGrown format bytes gathered grown

  -- one more line
  pub read_more : {format : Format V} {bytes : List ℕ} {k : ℕ} {line : List ℕ} {after : List (List ℕ)} {old new : Gathered V} {grown grows : ℕ}
      → IsReadTo format bytes k (line ∷ after) old grown
      → cause_beside format old.rows.items (count_of old) line ≡ None
      → Adds (row_in format line) (default_in format line) old new
      → IsGrown format bytes new grows
      → IsReadTo format bytes (k + 1) after new grows
  read_more {format} {bytes} {k} {line} {after} {old} {new} to none adds grew =
      let within = next_within format bytes k line after old to.left_is to.lawful to.keeps in
      record {
        left_is = next_left format bytes k line after old to.left_is to.lawful to.keeps;
        counted = omega arith;
        lawful = next_lawful format bytes k line after old to.left_is to.lawful to.keeps none;
        keeps = next_keeps format bytes k line after old to.left_is to.lawful to.keeps new adds;
        grows = grew;
      }

  -- the last line that gave something stays, where this one gave nothing
  pub grown_before : (format : Format V) (bytes : List ℕ) (old new : Gathered V) (grown : ℕ) → count_of new ≤ count_of old
      → IsGrown format bytes old grown → IsGrown format bytes new grown
  grown_before format bytes old new grown few (inl none) = inl (omega arith)
  grown_before format bytes old new grown few (inr growth) = inr growth

  -- a file of which all lines are taken in
  pub read_all : (format : Format V) (bytes : List ℕ) (k : ℕ) (gathered : Gathered V) (grown : ℕ) → length bytes ≤ 8388608
      → IsReadTo format bytes k [] gathered grown → IsLawful format bytes
  read_all format bytes k gathered grown short to =
      let all = ended (lines_of bytes) k to.left_is in
      record { short = short; lines = λ earlier lt. to.lawful earlier (omega arith) }

  pub read_value : (format : Format V) (bytes : List ℕ) (k : ℕ) (gathered : Gathered V) (grown code : ℕ) → IsReadTo format bytes k [] gathered grown
      → value_at gathered.rows.items gathered.defaults.items gathered.unlisted code ≡ property_of format bytes code
  unfolding property_of
  read_value format bytes k gathered grown code to =
      let whole : take k (lines_of bytes) ≡ lines_of bytes = take_all k (lines_of bytes) (ended (lines_of bytes) k to.left_is) in
      same_value format (lines_of bytes) gathered code (rw whole at to.keeps)
