-- Where scalars begin.
use Rattle.std.proofs.Common.{◌≡◌, ◌⊎◌, ℕ, zero, suc, ◌+◌, ◌-◌, ◌<◌, ◌≤◌, List, [], ◌∷◌, ◌++◌, leb, length, drop, refl, sym, ap, subst, ◌∙◌, ⊎_elim, arith}
use Rattle.std.proofs.lemmas.Bool.{cases_lt, cond-false, cond-true, le-leb, lt-leb}
use Rattle.std.proofs.lemmas.List.{length-append}
use Rattle.std.proofs.Math.Seq.{drop-length}
use Rattle.bstr.proofs.lemmas.PieceLemmas.{pieces-nil}
use Rattle.bstr.specs.Utf8.{Decoded, code_of_2, decoded, pieces}
use Rattle.lbk_rules.specs.Letters.{StandsForAll}
use Rattle.lbk_rules.specs.declared.Cell.{Cell}
use Rattle.lbk_rules.specs.declared.steps.Step.{Step}
use Rattle.lbk_rules.specs.declared.neighbours.Neighbours.{Neighbours}
use Rattle.lbk_values.specs.declared.profile.Profile.{Profile}
use Rattle.lbk_bytes.specs.Blocks.{IsBlock, byte_at, end_at}
use Rattle.lbk_bytes.specs.Marks.{boundary_among, boundary_from}
use Rattle.lbk_bytes.proofs.AnyPieceLemmas.{ReadsAs, as-read}
use Rattle.lbk_bytes.proofs.BlockScalarLemmas.{ascii-reads, begins-or, end-high, end-low, two-reads}
use Rattle.lbk_bytes.proofs.CutLemmas.{reads-more}
use Rattle.lbk_bytes.proofs.PieceLemmas.{Reads, piece-within, pieces-on}

among-here : (place at : ℕ) (ps : List Decoded) → place ≤ at → boundary_among place at ps ≡ at
among-here place at [] past = refl
among-here place at (p ∷ ps) past = cond-true (leb place at) at (boundary_among place (at + p.size) ps) (le-leb place at past)

-- a boundary behind the place looked for is the first of those behind it
pub boundary-here : (text : List ℕ) (at place : ℕ) → place ≤ at → boundary_from text at place ≡ at
boundary-here text at place past = among-here place at (pieces (drop at text)) past

-- behind a scalar that begins before a place the first boundary from that place on is the same
pub boundary-step : (text : List ℕ) (at there place : ℕ) → at < length text → at < place → there ≡ at + (decoded (drop at text)).size
    → boundary_from text there place ≡ boundary_from text at place
boundary-step text at there place inside before moved =
    let p = decoded (drop at text) in
    let next = at + p.size in
    ap (λ n. boundary_from text n place) moved
    ∙ sym (cond-false (leb place at) at (boundary_from text next place) (lt-leb place at before))
    ∙ sym (ap (boundary_among place at) (pieces-on text at inside))

-- behind all scalars stands the end of the text
boundary-last : (text : List ℕ) (at place : ℕ) → at ≡ length text → boundary_from text at place ≡ length text
boundary-last text at place ends =
    ap (λ n. boundary_from text n place) ends ∙ ap (boundary_among place (length text)) (ap pieces (drop-length text) ∙ pieces-nil)

boundary-within : (text : List ℕ) (n at place : ℕ) → at ≤ length text → length text ≤ at + n → length text ≤ place → boundary_from text at place ≡ length text
boundary-within text zero at place within few past = boundary-last text at place (omega arith)
boundary-within text (suc n) at place within few past =
    ⊎_elim
    (λ (inside : at < length text).
    let size = (decoded (drop at text)).size in
    let bounds = piece-within text at inside in
    sym (boundary-step text at (at + size) place inside (omega arith) refl)
    ∙ boundary-within text n (at + size) place (omega (arith, bounds.1)) (omega (arith, bounds.0)) past)
    (λ (ends : length text ≤ at). boundary-last text at place (omega arith))
    (cases_lt at (length text))

pub boundary-end : (text : List ℕ) (at place : ℕ) → at ≤ length text → length text ≤ place → boundary_from text at place ≡ length text
boundary-end text at place within past = boundary-within text (length text) at place within (omega arith) past

pub boundary-read-as : (text : List ℕ) (at code size place : ℕ) → at < length text → at < place → ReadsAs text at code size
    → boundary_from text (at + size) place ≡ boundary_from text at place
boundary-read-as text at code size place inside before r = boundary-step text at (at + size) place inside before (ap (λ n. at + n) r.is_size)

pub boundary-read : (text : List ℕ) (at code size place : ℕ) → at < length text → at < place → Reads text at code size
    → boundary_from text (at + size) place ≡ boundary_from text at place
boundary-read text at code size place inside before r = boundary-read-as text at code size place inside before (as-read text at code size r)

-- the bytes of a block that its sets tell
pub block-boundary : (profile : Profile) (cell : ℕ → Cell) (text more : List ℕ) (steps : List (List Step)) (kinds : List ℕ) (pairs : Neighbours) (at taken n place : ℕ)
    → at + taken ≤ length text → IsBlock profile cell steps kinds pairs text at 0 taken → byte_at text (at - 1) < 192 → at + taken ≤ place → n ≤ taken
    → boundary_from (text ++ more) (end_at text (at + n)) place ≡ boundary_from (text ++ more) at place
block-boundary profile cell text more steps kinds pairs at taken zero place room block low few inside =
    let same : at ≡ at + 0 = omega arith in
    ap (λ m. boundary_from (text ++ more) m place) (ap (end_at text) (sym same) ∙ end-low text at low)
block-boundary profile cell text more steps kinds pairs at taken (suc n) place room block low few inside =
    let whole = text ++ more in
    let here = at + n in
    let byte = byte_at text here in
    let told = block.told n (omega arith) (omega arith) in
    let within : here < length text = omega arith in
    let longer : here < length whole = omega (arith, length-append text more) in
    let next : here + 1 ≡ at + suc n = omega arith in
    let back : here ≡ here + 1 - 1 = omega arith in
    let earlier = block-boundary profile cell text more steps kinds pairs at taken n place room block low few (omega arith) in
    let on : (end : ℕ) → end_at text (here + 1) ≡ end → boundary_from whole end place ≡ boundary_from whole (end_at text here) place
    → boundary_from whole (end_at text (at + suc n)) place ≡ boundary_from whole at place =
    λ end ends step. ap (λ m. boundary_from whole m place) (ap (end_at text) (sym next) ∙ ends) ∙ step ∙ earlier in
    ⊎_elim
    (λ (begins : (byte < 128) ⊎ (192 ≤ byte)).
    let before = told.settled begins in
    let stands = sym (ap (λ m. boundary_from whole m place) (end-low text here before.0)) in
    ⊎_elim
    (λ (one : byte < 128).
    on (here + 1) (end-low text (here + 1) (subst (λ m. byte_at text m < 192) back (omega arith)))
    (boundary-read whole here byte 1 place longer (omega arith) (reads-more text more here byte 1 within (ascii-reads text here within one)) ∙ stands))
    (λ (all : StandsForAll kinds pairs.rows pairs.sets byte).
    let range = all.begins in
    let high : 192 ≤ byte = omega arith in
    let code = code_of_2 byte (byte_at text (here + 1)) in
    let two : here + 1 + 1 ≡ here + 2 = omega arith in
    on (here + 2) (end-high text (here + 1) (subst (λ m. 192 ≤ byte_at text m) back high) ∙ two)
    (boundary-read whole here code 2 place longer (omega arith) (reads-more text more here code 2 within (two-reads text here within range.0 range.1 (told.goes_on high))) ∙ stands))
    before.1.begins)
    (λ (last : (128 ≤ byte) × (byte < 192)).
    let quiet = told.quiet last.0 last.1 in
    on (here + 1) (end-low text (here + 1) (subst (λ m. byte_at text m < 192) back last.1))
    (ap (λ m. boundary_from whole m place) (sym (end-high text here quiet.0))))
    (begins-or byte)
