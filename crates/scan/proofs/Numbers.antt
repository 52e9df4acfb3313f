-- A number read digit by digit.
use Rattle.std.proofs.Common.{◌≡◌, ℕ, ◌+◌, ◌-◌, ◌*◌, ◌<◌, ◌≤◌, true, false, List, [], ◌∷◌, length, get_or, drop, None, sym, ap, ◌∙◌, arith}
use Rattle.std.specs.List.{list_all}
use Rattle.std.proofs.lemmas.List.{at_drop_more, at_drop_all}
use Rattle.std.proofs.lemmas.Bool.Decides.{nat_tests}
use Rattle.scan.specs.declared.bytes.Kind.TheVariants.{Digit}
use Rattle.scan.specs.Bytes.{is_of}
use Rattle.scan.specs.Parts.{is_digits, number_in, value_after}

-- a value grows with each digit
pub grows : (v : ℕ) (ds : List ℕ) → v ≤ value_after v ds
grows v [] = omega arith
grows v (d ∷ ds) = omega (arith, grows (v * 10 + (d - 48)) ds)

module _ (low high : ℕ) (w : List ℕ) where
  pub no_digits : is_digits w ≡ false → None ≡ number_in low high w
  unfolding number_in
  no_digits e = grind (arith, nat_tests)

  pub empty : length w ≡ 0 → None ≡ number_in low high w
  empty e = no_digits (grind (arith, nat_tests))

  pub too_high : high < value_after 0 w → None ≡ number_in low high w
  unfolding number_in
  too_high e = grind (arith, nat_tests)

  module _ (i v : ℕ) (is : value_after v (drop i w) ≡ value_after 0 w) (digits : list_all (is_of Digit) (drop i w) ≡ list_all (is_of Digit) w) where
    -- a byte that is no digit
    pub no_digit : i < length w → (48 ≤ get_or w i 0 → get_or w i 0 ≤ 57 → ⊥) → None ≡ number_in low high w
    no_digit h n =
        let e = at_drop_more (list_all (is_of Digit)) w i 0 h in
        no_digits (grind (arith, nat_tests))

    -- a value above the limit stays above it
    pub over : (d : ℕ) → i < length w → d ≡ get_or w i 0 - 48 → high < v * 10 + d → None ≡ number_in low high w
    over d h e o =
        let step = ap (λ x. value_after (v * 10 + x) (drop (i + 1) w)) e ∙ sym (at_drop_more (value_after v) w i 0 h) in
        too_high (omega (arith, step, grows (v * 10 + d) (drop (i + 1) w)))

    -- the digits are read
    pub all_read : length w ≤ i → (0 < length w) → (is_digits w ≡ true) × (v ≡ value_after 0 w)
    all_read h n =
        let e = at_drop_all (value_after v) w i h in
        let k = at_drop_all (list_all (is_of Digit)) w i h in
        (grind (arith, nat_tests), omega arith)
