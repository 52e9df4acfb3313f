-- No two stations have one number.
use Rattle.std.proofs.Common.{◌≡◌, ℕ, zero, suc, ◌+◌, ◌*◌, ◌^◌, ◌<◌, length, get_or, sym, ◌∙◌, arith}
use Rattle.std.proofs.lemmas.List.{ext_get_or}
use Rattle.fdb.specs.Address.{address_number, Apart}

-- a number of several digits has one last digit, and one rest
last_byte : (a b x y : ℕ) → x < 256 → y < 256 → a * 256 + x ≡ b * 256 + y → (a ≡ b) × (x ≡ y)
last_byte a b x y p q e = (omega arith, omega arith)

-- a number of six bytes has one byte at each place
six : (a b c d e f a' b' c' d' e' f' : ℕ) → b < 256 → c < 256 → d < 256 → e < 256 → f < 256 → b' < 256 → c' < 256 → d' < 256 → e' < 256 → f' < 256 →
    a * 2 ^ 40 + b * 2 ^ 32 + c * 2 ^ 24 + d * 2 ^ 16 + e * 2 ^ 8 + f ≡ a' * 2 ^ 40 + b' * 2 ^ 32 + c' * 2 ^ 24 + d' * 2 ^ 16 + e' * 2 ^ 8 + f' →
    (a ≡ a') × (b ≡ b') × (c ≡ c') × (d ≡ d') × (e ≡ e') × (f ≡ f')
six a b c d e f a' b' c' d' e' f' lb lc ld le lf lb' lc' ld' le' lf' q =
    let qf = last_byte (a * 2 ^ 32 + b * 2 ^ 24 + c * 2 ^ 16 + d * 2 ^ 8 + e) (a' * 2 ^ 32 + b' * 2 ^ 24 + c' * 2 ^ 16 + d' * 2 ^ 8 + e') f f' lf lf' (omega arith) in
    let qe = last_byte (a * 2 ^ 24 + b * 2 ^ 16 + c * 2 ^ 8 + d) (a' * 2 ^ 24 + b' * 2 ^ 16 + c' * 2 ^ 8 + d') e e' le le' (omega arith) in
    let qd = last_byte (a * 2 ^ 16 + b * 2 ^ 8 + c) (a' * 2 ^ 16 + b' * 2 ^ 8 + c') d d' ld ld' (omega arith) in
    let qc = last_byte (a * 2 ^ 8 + b) (a' * 2 ^ 8 + b') c c' lc lc' (omega arith) in
    let qb = last_byte a a' b b' lb lb' (omega arith) in
    (qb.0, qb.1, qc.1, qd.1, qe.1, qf.1)

pub apart : Apart
unfolding address_number
apart a b v w sa sb lv lw e = (ext_get_or 0 a b (sa.0 ∙ sym sb.0) same, omega arith)
  where
    each : (get_or a 0 0 ≡ get_or b 0 0) × (get_or a 1 0 ≡ get_or b 1 0) × (get_or a 2 0 ≡ get_or b 2 0) × (get_or a 3 0 ≡ get_or b 3 0) × (get_or a 4 0 ≡ get_or b 4 0) × (get_or a 5 0 ≡ get_or b 5 0)
    each = six (get_or a 0 0) (get_or a 1 0) (get_or a 2 0) (get_or a 3 0) (get_or a 4 0) (get_or a 5 0) (get_or b 0 0) (get_or b 1 0) (get_or b 2 0) (get_or b 3 0) (get_or b 4 0) (get_or b 5 0)
        (sa.1 1 (omega arith)) (sa.1 2 (omega arith)) (sa.1 3 (omega arith)) (sa.1 4 (omega arith)) (sa.1 5 (omega arith))
        (sb.1 1 (omega arith)) (sb.1 2 (omega arith)) (sb.1 3 (omega arith)) (sb.1 4 (omega arith)) (sb.1 5 (omega arith)) (omega arith)

    same : (i : ℕ) → i < length a → get_or a i 0 ≡ get_or b i 0
    same zero l = each.0
    same (suc zero) l = each.1
    same (suc (suc zero)) l = each.2
    same (suc (suc (suc zero))) l = each.3
    same (suc (suc (suc (suc zero)))) l = each.4
    same (suc (suc (suc (suc (suc zero))))) l = each.5
    same (suc (suc (suc (suc (suc (suc i)))))) l = absurd (omega (arith, sa.0))
