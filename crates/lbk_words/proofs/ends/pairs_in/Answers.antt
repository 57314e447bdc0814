use Rattle.std.proofs.Common.{◌≡◌, ℕ, ◌-◌, ◌*◌, ◌%◌, ◌^◌, ◌<◌, false, ◌&&◌, ◌||◌, ◌==◌, bit_and, get_or, ap, ap₂, ◌∙◌, sym, arith}
use Rattle.std.proofs.lemmas.Bool.{lt-ltb}
use Rattle.lbk_masks.proofs.BitLemmas.{set-and, set-none, set-or}
use Rattle.lbk_masks.specs.Sets.{is_set}
use Rattle.lbk_words.proofs.EdgeLemmas.{set-before}
use Rattle.lbk_words.proofs.ends.pairs_in.Goals as goal

-- which bytes follow one of some, and are of others
behind : (firsts seconds i : ℕ) → 0 < i → i < 64 → is_set (bit_and (firsts * 2 ^ 1 % 2 ^ 64) seconds) i ≡ (is_set firsts (i - 1) && is_set seconds i)
behind firsts seconds i some few =
    set-and (firsts * 2 ^ 1 % 2 ^ 64) seconds i
    ∙ ap (λ b. b && is_set seconds i) (set-before firsts i few ∙ ap (λ b. b && is_set firsts (i - 1)) (lt-ltb 0 i some))

-- pairs of spaces
spaced : (byte : ℕ → ℕ) (spaces i : ℕ) → 0 < i → i < 64 → ((j : ℕ) → j < 64 → is_set spaces j ≡ (byte j == 32))
    → is_set (bit_and (spaces * 2 ^ 1 % 2 ^ 64) spaces) i ≡ (byte (i - 1) == 32 && byte i == 32)
spaced byte spaces i some few are = behind spaces spaces i some few ∙ ap₂ (λ a b. a && b) (are (i - 1) (omega arith)) (are i few)

pub returns-then-returns-eq0 : goal.returns-then-returns-eq0
returns-then-returns-eq0 c = λ i some few.
    let byte : ℕ → ℕ = λ j. get_or c.args.bytes.now j 0 in
    let none : (byte (i - 1) == 13) ≡ false = sym (c.equal-returns.ensures (i - 1) (omega arith)) ∙ ap (λ n. is_set n (i - 1)) c.if-returns-eq0.true ∙ set-none (i - 1) in
    spaced byte c.equal-spaces.result i some few c.equal-spaces.ensures
    ∙ ap (λ b. (b && byte i == 10) || (byte (i - 1) == 32 && byte i == 32)) (sym none)

pub returns : goal.returns
returns c = λ i some few.
    let byte : ℕ → ℕ = λ j. get_or c.args.bytes.now j 0 in
    let spaces = c.equal-spaces.result in
    let returns = c.equal-returns.result in
    let feeds = c.equal.result in
    set-or (bit_and (returns * 2 ^ 1 % 2 ^ 64) feeds) (bit_and (spaces * 2 ^ 1 % 2 ^ 64) spaces) i
    ∙ ap₂ (λ a b. a || b)
    (behind returns feeds i some few ∙ ap₂ (λ a b. a && b) (c.equal-returns.ensures (i - 1) (omega arith)) (c.equal.ensures i few))
    (spaced byte spaces i some few c.equal-spaces.ensures)
