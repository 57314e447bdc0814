-- What the rules ask about the two sides of a position. A side is read outwards from the position, so the left one is
-- reversed, with its nearest cell or unit first.
use Rattle.std.specs.Prelude.{Bool, true, false, ◌&&◌, ◌||◌, if◌then◌else◌, not, List, [], ◌∷◌}
use Rattle.lbk_uax14.specs.declared.classes.Class.{Class}
use Rattle.lbk_uax14.specs.declared.classes.Class.TheVariants.{Space}
use Rattle.lbk_uax14.specs.declared.classes.Quote.{Quote}
use Rattle.lbk_uax14.specs.declared.classes.Quote.TheVariants.{Initial, Final}
use Rattle.lbk_uax14.specs.declared.cells.Cell.{Cell}
use Rattle.lbk_uax14.specs.Classes.{Set, SP, RI, QU, opens_after, closes_before}

abbrev pub is_initial : Quote → Bool
is_initial Initial = true
is_initial _ = false

abbrev pub is_final : Quote → Bool
is_final Final = true
is_final _ = false

abbrev pub Side : Type 0
Side = List Cell

-- a condition on the left and the right side
abbrev pub Condition : Type 0
Condition = Side → Side → Bool

-- this side is empty
abbrev pub is_nothing : Side → Bool
is_nothing [] = true
is_nothing (_ ∷ _) = false

-- the nearest is in this set
abbrev pub at : Set → Side → Bool
at set [] = false
at set (cell ∷ _) = set cell.class

-- the second nearest is in this set
abbrev pub behind : Set → Side → Bool
behind set [] = false
behind set (_ ∷ side) = at set side

-- the class of the nearest that is no space, or SP if there is none
unfoldable pub before_spaces : Side → Class
before_spaces [] = Space
before_spaces (cell ∷ side) = if SP cell.class then before_spaces side else cell.class

-- after any number of spaces comes one in this set, which has no space: 'X SP*' of the left side
abbrev pub past_spaces : Set → Side → Bool
past_spaces set side = set (before_spaces side)

-- the longest run of indicators that begins here has odd length
unfoldable pub at_odd_run : Side → Bool
at_odd_run [] = false
at_odd_run (cell ∷ side) = RI cell.class && not (at_odd_run side)

-- the nearest is in this set and not wide
abbrev pub at_narrow : Set → Side → Bool
at_narrow set [] = false
at_narrow set (cell ∷ _) = set cell.class && not cell.wide

-- the nearest is an unassigned pictograph
abbrev pub at_pictograph : Side → Bool
at_pictograph [] = false
at_pictograph (cell ∷ _) = cell.pict_cn

-- a quotation mark that opens, one that closes
abbrev pub opening : Cell → Bool
opening cell = QU cell.class && is_initial cell.quote

abbrev pub closing : Cell → Bool
closing cell = QU cell.class && is_final cell.quote

-- before an opening mark is nothing, or a class that leaves it open · after a closing mark is nothing, or a class that
-- leaves it closed
abbrev pub leaves_open : Side → Bool
leaves_open side = is_nothing side || at opens_after side

abbrev pub leaves_closed : Side → Bool
leaves_closed side = is_nothing side || at closes_before side

-- after any number of spaces comes an opening mark, with something that leaves it open
unfoldable pub opens_quotation : Side → Bool
opens_quotation [] = false
opens_quotation (cell ∷ side) =
    if SP cell.class then opens_quotation side else opening cell && leaves_open side

-- a closing mark comes, with something that leaves it closed
abbrev pub closes_quotation : Side → Bool
closes_quotation [] = false
closes_quotation (cell ∷ side) = closing cell && leaves_closed side

-- X on the left · Y on the right · both · X and any number of spaces on the left, and Y on the right
abbrev pub on_left : Set → Condition
on_left x left right = at x left

abbrev pub on_right : Set → Condition
on_right y left right = at y right

abbrev pub between : Set → Set → Condition
between x y left right = at x left && at y right

abbrev pub over_spaces : Set → Set → Condition
over_spaces x y left right = past_spaces x left && at y right

-- anything on both sides
abbrev pub everywhere : Condition
everywhere left right = true
