-- The passages of a text: its cutting after each position where a line must end (UAX #14, section 6.1, rules LB3
-- to LB5).
use Rattle.std.specs.Prelude.{ℕ, Bool, true, false, List, [], ◌∷◌, if◌then◌else◌}
use Rattle.lbk_rules.specs.declared.Cell.{Cell}
use Rattle.lbk_rules.specs.declared.Kind.{Kind}
use Rattle.lbk_rules.specs.declared.Kind.TheVariants.{No, May, Must}
use Rattle.lbk_values.specs.declared.profile.Profile.{Profile}
use Rattle.lbk_rules.specs.Marks.{Marked, marks}

abbrev pub is_must : Kind → Bool
is_must No = false
is_must May = false
is_must Must = true

-- an element put in front of the first part
abbrev pub join_first : {A : Type 0} → A → List (List A) → List (List A)
join_first x [] = (x ∷ []) ∷ []
join_first x (part ∷ parts) = (x ∷ part) ∷ parts

-- a list cut after each element that ends a part; no part is empty
abbrev pub cut_after : {A : Type 0} → (A → Bool) → List A → List (List A)
cut_after ends [] = []
cut_after ends (x ∷ xs) = if ends x then (x ∷ []) ∷ cut_after ends xs else join_first x (cut_after ends xs)

abbrev pub ends_passage : Marked → Bool
ends_passage m = is_must m.after.kind

-- the passages of a text, each as its marks: the last one's verdict is the passage's end
unfoldable pub passages : Profile → (ℕ → Cell) → List ℕ → List (List Marked)
passages profile cell text = cut_after ends_passage (marks profile cell text)
