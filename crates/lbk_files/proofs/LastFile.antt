-- One of the four files is not loaded, by a store whose loads change nothing that it tells.
use Rattle.std.proofs.Common.{◌≡◌, ◌∙◌, ◌+◌, ◌<◌, ◌≤◌, ℕ, Result, Ok, Err, Vec}
use Rattle.std.proofs.Common.{inl, inr, refl, subst, sym, ap, arith}
use Rattle.std.specs.Prelude.{⊤}
use Rattle.std.specs.Result.{IsErrAnd}
use Rattle.lbk_feed.specs.Devices.{count_up}
use Rattle.lbk_ucd.specs.declared.which.Which.{Which}
use Rattle.lbk_ucd.specs.declared.which.Which.TheVariants.{LineBreak, EastAsianWidth, Category, Emoji}
use Rattle.lbk_rules.specs.declared.pages.CellPages.{CellPages}
use Rattle.lbk_files.specs.Store.{IsUnreadable, LoadCounts, counts_of}
use Rattle.lbk_files.specs.FileFault.{CanLoad, FourFiles, IsFileFault, IsFirst, IsLoaded, IsUnlikeItsClaim, Told}
use Rattle.lbk_files.specs.FileFault.{LoadsTo, loads_to}
use Rattle.lbk_files.specs.Named.{IsOneFault}
use Rattle.lbk_files.specs.Places.{LoadsOne, files_at, refused_by, told_at}
use Rattle.lbk_files.specs.Taking.{ReadsFiles}
use Rattle.lbk_files.specs.declared.faults.CellsFault.{CellsFault}
use Rattle.lbk_files.specs.declared.faults.CellsFault.TheVariants.{Load, Claim, Tables, Memory}
use Rattle.lbk_files.specs.declared.places.Place.{Place}
use Rattle.lbk_files.specs.declared.places.Places.{Places}
use Rattle.lbk_files.specs.declared.store.Store.{Ghosts as StoreMembers}

abbrev place_in : Places → Which → Place
place_in places LineBreak = places.line_break
place_in places EastAsianWidth = places.east_asian
place_in places Category = places.category
place_in places Emoji = places.emoji

-- the files before this one can be loaded
abbrev AreBefore : FourFiles → Which → Type 0
AreBefore four LineBreak = ⊤
AreBefore four EastAsianWidth = CanLoad LineBreak four.line_break
AreBefore four Category = CanLoad LineBreak four.line_break × CanLoad EastAsianWidth four.east_asian
AreBefore four Emoji = CanLoad LineBreak four.line_break × CanLoad EastAsianWidth four.east_asian
    × CanLoad Category four.category

-- how many loads were made before that of a file
abbrev made_before : Which → ℕ → ℕ
made_before LineBreak made = made
made_before EastAsianWidth made = loads_to LineBreak made
made_before Category made = loads_to EastAsianWidth made
made_before Emoji made = loads_to Category made

one_more : (which : Which) (made : ℕ) → count_up (made_before which made) ≡ loads_to which made
one_more LineBreak made = refl
one_more EastAsianWidth made = refl
one_more Category made = refl
one_more Emoji made = refl

at_most : (n : ℕ) → count_up n ≤ n + 1
at_most n = omega arith

four_loads : (which : Which) (made : ℕ) → loads_to which made ≤ made + 4
four_loads LineBreak made = omega (arith, at_most made)
four_loads EastAsianWidth made = omega (arith, at_most made, at_most (count_up made))
four_loads Category made = omega (arith, at_most made, at_most (count_up made), at_most (count_up (count_up made)))
four_loads Emoji made = omega (
  arith,
  at_most made,
  at_most (count_up made),
  at_most (count_up (count_up made)),
  at_most (count_up (count_up (count_up made))),
)

-- no other fault counts as want of memory
only_memory : (n : ℕ) (fault : CellsFault) → n < refused_by n fault → fault ≡ Memory
only_memory n (Load which) more = absurd (omega (arith, more))
only_memory n (Claim which cause) more = absurd (omega (arith, more))
only_memory n (Tables fault) more = absurd (omega (arith, more))
only_memory n Memory more = refl

is_err : (answer : Result CellPages CellsFault) (fault : CellsFault) → IsErrAnd answer (λ other. other ≡ fault)
    → answer ≡ Err fault
is_err (Ok pages) fault handed = absurd handed
is_err (Err other) fault handed = ap Err handed

not_loaded : (four : FourFiles) (which : Which) (told : Told) (before after : LoadCounts) (fault : CellsFault)
    → ((Is : Told → Type 0) → Is told → IsFirst four which Is) → IsOneFault which told fault
    → after.refused ≡ refused_by before.refused fault
    → LoadsTo which before after → IsFileFault four before after fault
not_loaded four which told before after (Load other) first (same, unreadable) refused made =
    rw same (first (λ file. IsUnreadable file.contents) unreadable, made)
not_loaded four which told before after (Claim other cause) first (same, unlike) refused made =
    rw same (first (IsUnlikeItsClaim which cause) unlike, made)
not_loaded four which told before after (Tables other) first fault refused made = absurd fault
not_loaded four which told before after Memory first fault refused made =
    inr (inl (which, first (λ file. ⊤) tt, made, refused))

module _ {S : Type 0} (store : StoreMembers S) (places : Places) (old : S) where
  abbrev four : FourFiles
  four = files_at (store.file old) places

  abbrev file_in : Which → Told
  file_in which = told_at (store.file old) (place_in places which)

  -- the store, after the loads of the files before this one
  pub record SoFar (which : Which) (now : S) : Type 0 where
    pub loaded : AreBefore four which
    pub files : store.file now ≡ store.file old
    pub made : store.load_count now ≡ made_before which (store.load_count old)
    pub refused : store.refusal_count now ≡ store.refusal_count old

  pub none_yet : SoFar LineBreak old
  none_yet = record { loaded = tt; files = refl; made = refl; refused = refl }

  one_loaded : {Z : Type 0} (which next : Which) (now new : S) (bytes : Vec ℕ Z)
      → (AreBefore four which → CanLoad which (file_in which) → AreBefore four next)
      → ((n : ℕ) → made_before next n ≡ loads_to which n)
      → SoFar which now → LoadsOne store now new which (told_at (store.file now) (place_in places which)) (Ok bytes)
      → SoFar next new
  one_loaded which next now new bytes goes_on counts so_far loads = record {
    loaded = goes_on so_far.loaded (
      bytes.items,
      subst (λ f. IsLoaded which (told_at f (place_in places which)) bytes.items) so_far.files loads.loaded,
    );
    files = loads.files ∙ so_far.files;
    made = loads.loads ∙ ap count_up so_far.made ∙ one_more which _ ∙ sym (counts _);
    refused = loads.refusals ∙ so_far.refused;
  }

  -- the loads of the first file, of the first two, of the first three
  pub first_loaded : {Z : Type 0} (one : S) (a : Vec ℕ Z)
      → LoadsOne store old one LineBreak (told_at (store.file old) places.line_break) (Ok a) → SoFar EastAsianWidth one
  first_loaded one a first =
      one_loaded LineBreak EastAsianWidth old one a (λ none at. at) (λ n. refl) none_yet first

  pub second_loaded : {Z : Type 0} (one two : S) (a b : Vec ℕ Z)
      → LoadsOne store old one LineBreak (told_at (store.file old) places.line_break) (Ok a)
      → LoadsOne store one two EastAsianWidth (told_at (store.file one) places.east_asian) (Ok b) → SoFar Category two
  second_loaded one two a b first second =
      one_loaded EastAsianWidth Category one two b (λ before at. (before, at)) (λ n. refl) (first_loaded one a first) second

  pub third_loaded : {Z : Type 0} (one two three : S) (a b d : Vec ℕ Z)
      → LoadsOne store old one LineBreak (told_at (store.file old) places.line_break) (Ok a)
      → LoadsOne store one two EastAsianWidth (told_at (store.file one) places.east_asian) (Ok b)
      → LoadsOne store two three Category (told_at (store.file two) places.category) (Ok d) → SoFar Emoji three
  third_loaded one two three a b d first second third =
      one_loaded Category Emoji two three d (λ before at. (before.0, before.1, at)) (λ n. refl)
      (second_loaded one two a b first second) third

  first : (which : Which) (Is : Told → Type 0) → AreBefore four which → Is (file_in which) → IsFirst four which Is
  first LineBreak Is before is = is
  first EastAsianWidth Is before is = (before, is)
  first Category Is before is = (before.0, before.1, is)
  first Emoji Is before is = (before.0, before.1, before.2, is)

  -- this one is not loaded
  pub fails : {Z : Type 0} (which : Which) (now new : S) (answer : Result CellPages CellsFault) (fault : CellsFault)
      → IsErrAnd answer (λ other. other ≡ fault) → SoFar which now
      → LoadsOne {Z = Z} store now new which (told_at (store.file now) (place_in places which)) (Err fault)
      → ReadsFiles store old new four answer
  fails which now new answer fault handed so_far loads =
      let is = is_err answer fault handed in
      let made : store.load_count new ≡ loads_to which (store.load_count old) =
      loads.loads ∙ ap count_up so_far.made ∙ one_more which _ in
      let refused : store.refusal_count new ≡ refused_by (store.refusal_count old) fault =
      loads.refusals ∙ ap (λ n. refused_by n fault) so_far.refused in
      subst (ReadsFiles store old new four) (sym is) (record {
        loaded = not_loaded four which (file_in which) (counts_of (store.load_count old) (store.refusal_count old))
            (counts_of (store.load_count new) (store.refusal_count new)) fault
            (λ Is is. first which Is so_far.loaded is)
            (subst (λ f. IsOneFault which (told_at f (place_in places which)) fault) so_far.files loads.loaded) refused made;
        takes = record {
          refused = λ more. ap Err (only_memory (store.refusal_count old) fault (omega (arith, more, refused)));
          loads = omega (arith, made, four_loads which (store.load_count old));
          files = loads.files ∙ so_far.files;
        };
        all = tt;
      })
