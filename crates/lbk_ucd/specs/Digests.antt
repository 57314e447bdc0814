-- The digests of the property files that Unicode 15.0.0 published.
use Rattle.std.specs.Prelude.{◌≡◌, ℕ, ◌≤◌, ◌==◌, ◌&&◌, Bool, List, [], ◌∷◌, length, slice_index, if◌then◌else◌}
use Rattle.sha2.specs.Sha256.{sha256}
use Rattle.lbk_ucd.specs.File.{longest_file}
use Rattle.lbk_ucd.specs.declared.tables.Files.{Files}
use Rattle.lbk_ucd.specs.declared.which.Which.{Which}
use Rattle.lbk_ucd.specs.declared.which.Which.TheVariants.{LineBreak, EastAsianWidth, Category, Emoji}

-- the SHA-256 digest of each file, with line ends LF
abbrev pub digest_of : Which → List ℕ
digest_of LineBreak =
    0x01 ∷ 0x2b ∷ 0xca ∷ 0x86 ∷ 0x8e ∷ 0x2c ∷ 0x4e ∷ 0x59 ∷ 0xa5 ∷ 0xa1 ∷ 0x0a ∷ 0x75 ∷ 0x46 ∷ 0xba ∷ 0xf0 ∷ 0xc6
    ∷ 0xfb ∷ 0x1b ∷ 0x2e ∷ 0xf4 ∷ 0x58 ∷ 0xc2 ∷ 0x77 ∷ 0xf0 ∷ 0x54 ∷ 0x91 ∷ 0x5c ∷ 0x8a ∷ 0x49 ∷ 0xd2 ∷ 0x92 ∷ 0xbf ∷ []
digest_of EastAsianWidth =
    0x74 ∷ 0x3e ∷ 0x7b ∷ 0xc4 ∷ 0x35 ∷ 0xc0 ∷ 0x4a ∷ 0xb1 ∷ 0xa8 ∷ 0x45 ∷ 0x97 ∷ 0x10 ∷ 0xb1 ∷ 0xc3 ∷ 0xca ∷ 0xd5
    ∷ 0x6e ∷ 0xed ∷ 0xce ∷ 0xd5 ∷ 0xb8 ∷ 0x06 ∷ 0xb4 ∷ 0x65 ∷ 0x9b ∷ 0x6e ∷ 0x69 ∷ 0xb8 ∷ 0x5d ∷ 0x0a ∷ 0xdf ∷ 0x2a ∷ []
digest_of Category =
    0xfe ∷ 0x29 ∷ 0xa4 ∷ 0x5c ∷ 0x08 ∷ 0x82 ∷ 0x50 ∷ 0x0e ∷ 0x59 ∷ 0x11 ∷ 0x40 ∷ 0xaa ∷ 0xa5 ∷ 0xc4 ∷ 0xf5 ∷ 0x06
    ∷ 0x7e ∷ 0x6a ∷ 0x5d ∷ 0x74 ∷ 0x68 ∷ 0x06 ∷ 0x14 ∷ 0x8a ∷ 0xf3 ∷ 0x44 ∷ 0x00 ∷ 0xc4 ∷ 0x8b ∷ 0x9c ∷ 0x06 ∷ 0xf9 ∷ []
digest_of Emoji =
    0x29 ∷ 0x07 ∷ 0x1d ∷ 0xba ∷ 0x22 ∷ 0xc7 ∷ 0x2c ∷ 0x27 ∷ 0x78 ∷ 0x3a ∷ 0x73 ∷ 0x01 ∷ 0x6a ∷ 0xfb ∷ 0x8f ∷ 0xfa
    ∷ 0xeb ∷ 0x02 ∷ 0x58 ∷ 0x66 ∷ 0x74 ∷ 0x07 ∷ 0x91 ∷ 0xf9 ∷ 0xc2 ∷ 0xd0 ∷ 0xb5 ∷ 0x5c ∷ 0xc4 ∷ 0x5a ∷ 0x34 ∷ 0x70 ∷ []

-- a byte is a CR (13), and an LF (10) follows
abbrev pub is_before_feed : ℕ → List ℕ → Bool
is_before_feed byte rest = (byte == 13) && (slice_index rest 0 == 10)

-- a text with each CR LF replaced by LF
abbrev pub with_line_feeds : List ℕ → List ℕ
with_line_feeds [] = []
with_line_feeds (byte ∷ rest) = if is_before_feed byte rest then with_line_feeds rest else byte ∷ with_line_feeds rest

-- a file is the published one, except for its line ends; none of 15.0.0 is longer than a file may be
pub record IsPublished (which : Which) (bytes : List ℕ) : Type 0 where
  pub size : length bytes ≤ longest_file
  pub digest : sha256 (with_line_feeds bytes) ≡ digest_of which

-- all four are the published ones
pub record ArePublished (files : Files) : Type 0 where
  pub line_break : IsPublished LineBreak files.line_break.now
  pub east_asian : IsPublished EastAsianWidth files.east_asian.now
  pub category : IsPublished Category files.category.now
  pub emoji : IsPublished Emoji files.emoji.now

-- this file is not the published one, and those before it are
abbrev pub IsFirstUnpublished : Files → Which → Type 0
IsFirstUnpublished files LineBreak = ¬ (IsPublished LineBreak files.line_break.now)
IsFirstUnpublished files EastAsianWidth = IsPublished LineBreak files.line_break.now
    × (¬ (IsPublished EastAsianWidth files.east_asian.now))
IsFirstUnpublished files Category = IsPublished LineBreak files.line_break.now
    × IsPublished EastAsianWidth files.east_asian.now
    × (¬ (IsPublished Category files.category.now))
IsFirstUnpublished files Emoji = IsPublished LineBreak files.line_break.now
    × IsPublished EastAsianWidth files.east_asian.now
    × IsPublished Category files.category.now × (¬ (IsPublished Emoji files.emoji.now))
