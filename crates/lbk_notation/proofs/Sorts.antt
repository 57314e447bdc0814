-- What a byte can be, and which byte that is.
use Rattle.std.proofs.Common.{◌≡◌, ◌≢◌, ℕ, zero, suc, ◌-◌, ◌<◌, true, leb, nat_eq, ◌&&◌, IsTrue, refl, arith}
use Rattle.std.proofs.lemmas.Bool.{cond_both, eqb-true, eqb-false}
use Rattle.std.proofs.lemmas.Bool.Decides.{nat_tests}
use Rattle.lbk_notation.specs.declared.reader.Sort.{Sort}
use Rattle.lbk_notation.specs.declared.reader.Sort.TheVariants.{Space, Digit, Lead, Times, Division, Exclamation, Return, Hash, LineFeed, Other}
use Rattle.lbk_notation.specs.Grammar.{is_space, digit_byte}
use Rattle.lbk_notation.specs.Run.{sort_of}

-- the bytes of a sort
abbrev pub Sorted : ℕ → Sort → Type 0
Sorted byte Space = IsTrue (is_space byte)
Sorted byte (Digit digit) = (digit < 16) × (byte ≡ digit_byte digit)
Sorted byte Lead = byte ≡ 0xC3
Sorted byte Times = byte ≡ 0x97
Sorted byte Division = byte ≡ 0xB7
Sorted byte Exclamation = byte ≡ 33
Sorted byte Return = byte ≡ 13
Sorted byte Hash = byte ≡ 35
Sorted byte LineFeed = byte ≡ 10
Sorted byte Other = byte ≢ 10

numeral : (byte : ℕ) → (leb 48 byte && leb byte 57) ≡ true → (byte - 48 < 16) × (byte ≡ digit_byte (byte - 48))
numeral byte e = grind (arith, nat_tests)

capital : (byte : ℕ) → (leb 65 byte && leb byte 70) ≡ true → (byte - 55 < 16) × (byte ≡ digit_byte (byte - 55))
capital byte e = grind (arith, nat_tests)

pub sorted : (byte : ℕ) → Sorted byte (sort_of byte)
unfolding sort_of
sorted byte =
    cond_both (is_space byte) Space _ (Sorted byte) (λ e. e) (λ _.
    cond_both (leb 48 byte && leb byte 57) (Digit (byte - 48)) _ (Sorted byte) (numeral byte) (λ _.
    cond_both (leb 65 byte && leb byte 70) (Digit (byte - 55)) _ (Sorted byte) (capital byte) (λ _.
    cond_both (nat_eq byte 0xC3) Lead _ (Sorted byte) (eqb-true byte 0xC3) (λ _.
    cond_both (nat_eq byte 0x97) Times _ (Sorted byte) (eqb-true byte 0x97) (λ _.
    cond_both (nat_eq byte 0xB7) Division _ (Sorted byte) (eqb-true byte 0xB7) (λ _.
    cond_both (nat_eq byte 33) Exclamation _ (Sorted byte) (eqb-true byte 33) (λ _.
    cond_both (nat_eq byte 13) Return _ (Sorted byte) (eqb-true byte 13) (λ _.
    cond_both (nat_eq byte 35) Hash _ (Sorted byte) (eqb-true byte 35) (λ _.
    cond_both (nat_eq byte 10) LineFeed Other (Sorted byte) (eqb-true byte 10) (eqb-false byte 10))))))))))

pub sort-space : (byte : ℕ) → IsTrue (is_space byte) → sort_of byte ≡ Space
unfolding sort_of
sort-space byte space = rw space refl

pub sort-digit : (digit : ℕ) → digit < 16 → sort_of (digit_byte digit) ≡ Digit digit
unfolding sort_of
sort-digit zero small = refl
sort-digit (suc zero) small = refl
sort-digit (suc (suc zero)) small = refl
sort-digit (suc (suc (suc zero))) small = refl
sort-digit (suc (suc (suc (suc zero)))) small = refl
sort-digit (suc (suc (suc (suc (suc zero))))) small = refl
sort-digit (suc (suc (suc (suc (suc (suc zero)))))) small = refl
sort-digit (suc (suc (suc (suc (suc (suc (suc zero))))))) small = refl
sort-digit (suc (suc (suc (suc (suc (suc (suc (suc zero)))))))) small = refl
sort-digit (suc (suc (suc (suc (suc (suc (suc (suc (suc zero))))))))) small = refl
sort-digit (suc (suc (suc (suc (suc (suc (suc (suc (suc (suc zero)))))))))) small = refl
sort-digit (suc (suc (suc (suc (suc (suc (suc (suc (suc (suc (suc zero))))))))))) small = refl
sort-digit (suc (suc (suc (suc (suc (suc (suc (suc (suc (suc (suc (suc zero)))))))))))) small = refl
sort-digit (suc (suc (suc (suc (suc (suc (suc (suc (suc (suc (suc (suc (suc zero))))))))))))) small = refl
sort-digit (suc (suc (suc (suc (suc (suc (suc (suc (suc (suc (suc (suc (suc (suc zero)))))))))))))) small = refl
sort-digit (suc (suc (suc (suc (suc (suc (suc (suc (suc (suc (suc (suc (suc (suc (suc zero))))))))))))))) small = refl
sort-digit (suc (suc (suc (suc (suc (suc (suc (suc (suc (suc (suc (suc (suc (suc (suc (suc more)))))))))))))))) small = absurd (omega arith)

-- a sort of one byte, of each of those that a rule of the reader names
pub record SignSorts : Type 0 where
  pub lead : sort_of 0xC3 ≡ Lead
  pub times : sort_of 0x97 ≡ Times
  pub division : sort_of 0xB7 ≡ Division
  pub exclamation : sort_of 33 ≡ Exclamation
  pub returns : sort_of 13 ≡ Return
  pub hash : sort_of 35 ≡ Hash

pub sign-sorts : SignSorts
unfolding sort_of
sign-sorts = record { lead = refl; times = refl; division = refl; exclamation = refl; returns = refl; hash = refl }

-- a byte that is no LF is of another sort
pub sort-no-line-feed : (byte : ℕ) → sort_of byte ≡ LineFeed → byte ≡ 10
sort-no-line-feed byte e = go (sort_of byte) (sorted byte) e
  where
    go : (s : Sort) → Sorted byte s → s ≡ LineFeed → byte ≡ 10
    go LineFeed is e = is
    go _ is e = cc
