-- Texts of bounded length.
use Rattle.std.specs.Prelude.{◌≡◌, ◌≤◌, ℕ, List, length}

-- what is said are these words, in at most so many bytes
pub record SaysWithin (most : ℕ) (words said : List ℕ) : Type 0 where
  pub text : said ≡ words
  pub short : length said ≤ most
