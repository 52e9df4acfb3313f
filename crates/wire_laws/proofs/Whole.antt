-- A message with its sum behind it is whole, and a whole message is one with its sum behind it.
use Rattle.std.proofs.Common.{◌≡◌, ℕ, suc, ◌+◌, ◌-◌, ◌*◌, ◌/◌, ◌%◌, ◌^◌, ◌<◌, ◌≤◌, Bool, true, false, cond, ◌&&◌, eqb, leb, List, [], ◌∷◌, ◌++◌, length, get_or, take, drop, Some, None, Option, sym, refl, ap, ◌∙◌, arith, length-append, length-drop, get_or-append-add, eq-eqb, eqb-true, le-leb, leb-true}
use Rattle.std.proofs.lemmas.List.{take-append-drop, take-append-le, take_all}
use Rattle.crc.specs.Crc.{crc_of}
use Rattle.crc.specs.Burst.{Bytes}
use Rattle.crc.proofs.Windows.{crc_below}
use Rattle.wire.specs.declared.fault.Fault.{Fault}
use Rattle.wire.specs.Bytes.{four, in_four, summed, with_sum, whole}
use Rattle.wire_laws.proofs.Numbers.{four-back, in-four-at, front, take-front}

pub and_both : (a b : Bool) → a ≡ true → b ≡ true → (a && b) ≡ true
and_both a b p q = ap (λ x. x && b) p ∙ q

pub and_first : (a b : Bool) → (a && b) ≡ true → a ≡ true
and_first true b e = refl
and_first false b e = e

pub and_second : (a b : Bool) → (a && b) ≡ true → b ≡ true
and_second true b e = e
and_second false b e = absurd (let z : ◌≡◌ {A = ℕ} 0 1 = cc in omega arith)

-- four bytes behind a string
four-behind : (xs : List ℕ) (n : ℕ) → n < 2 ^ 32 → four (xs ++ in_four n) (length xs) ≡ n
four-behind xs n h =
    let ys = in_four n in
    let a : get_or (xs ++ ys) (length xs) 0 ≡ n / 16777216 % 256 = ap (λ i. get_or (xs ++ ys) i 0) (omega arith) ∙ get_or-append-add xs ys 0 0 in
    let b : get_or (xs ++ ys) (length xs + 1) 0 ≡ n / 65536 % 256 = get_or-append-add xs ys 1 0 in
    let c : get_or (xs ++ ys) (length xs + 2) 0 ≡ n / 256 % 256 = get_or-append-add xs ys 2 0 in
    let d : get_or (xs ++ ys) (length xs + 3) 0 ≡ n % 256 = get_or-append-add xs ys 3 0 in
    (λ i. a i * 16777216 + b i * 65536 + c i * 256 + d i) ∙ four-back n h

length-sum : (b : List ℕ) → length (with_sum b) ≡ length b + 4
length-sum b = length-append b (in_four (crc_of b))

pub sum_fits : (b : List ℕ) → summed (with_sum b) ≡ true
sum_fits b =
    let l : length (with_sum b) ≡ length b + 4 = length-sum b in
    let n : length (with_sum b) - 4 ≡ length b = omega arith in
    let t : take (length b) (with_sum b) ≡ b = take-append-le (length b) b (in_four (crc_of b)) (omega arith) ∙ take_all (length b) b (omega arith) in
    and_both (leb 4 (length (with_sum b))) (eqb (four (with_sum b) (length (with_sum b) - 4)) (crc_of (take (length (with_sum b) - 4) (with_sum b))))
    (le-leb 4 (length (with_sum b)) (omega arith))
    (eq-eqb (four (with_sum b) (length (with_sum b) - 4)) (crc_of (take (length (with_sum b) - 4) (with_sum b)))
    (ap (four (with_sum b)) n ∙ four-behind b (crc_of b) (crc_below b) ∙ sym (ap (λ k. crc_of (take k (with_sum b))) n ∙ ap crc_of t)))

pub is_whole : (kind n : ℕ) (b : List ℕ) → length (with_sum b) ≡ n → get_or (with_sum b) 0 0 ≡ kind → whole kind n (with_sum b) ≡ true
is_whole kind n b l k =
    and_both (eqb (length (with_sum b)) n) (eqb (get_or (with_sum b) 0 0) kind && summed (with_sum b)) (eq-eqb (length (with_sum b)) n l)
    (and_both (eqb (get_or (with_sum b) 0 0) kind) (summed (with_sum b)) (eq-eqb (get_or (with_sum b) 0 0) kind k) (sum_fits b))

-- what stands before the sum
abbrev pub body_of : List ℕ → List ℕ
body_of b = take (length b - 4) b

pub summed-four : (b : List ℕ) → summed b ≡ true → (4 ≤ length b) × (four b (length b - 4) ≡ crc_of (body_of b))
summed-four b e =
    let p = leb 4 (length b) in
    let q = eqb (four b (length b - 4)) (crc_of (body_of b)) in
    (leb-true 4 (length b) (and_first p q e), eqb-true (four b (length b - 4)) (crc_of (body_of b)) (and_second p q e))

-- the places behind one another
four-from : (b : List ℕ) (n : ℕ) → front n 4 b ≡ get_or b n 0 ∷ get_or b (n + 1) 0 ∷ get_or b (n + 2) 0 ∷ get_or b (n + 3) 0 ∷ []
four-from b n =
    let p : suc n ≡ n + 1 = omega arith in
    let q : suc (suc n) ≡ n + 2 = omega arith in
    let r : suc (suc (suc n)) ≡ n + 3 = omega arith in
    λ i. get_or b n 0 ∷ get_or b (p i) 0 ∷ get_or b (q i) 0 ∷ get_or b (r i) 0 ∷ []

pub summed-is : (b : List ℕ) → Bytes b → summed b ≡ true → b ≡ with_sum (body_of b)
summed-is b h e =
    let s = summed-four b e in
    let n = length b - 4 in
    let f : drop n b ≡ in_four (four b n) =
    sym (take_all 4 (drop n b) (simp length-drop (omega arith))) ∙ take-front 4 n b (omega (arith, s.0)) ∙ four-from b n ∙ sym (in-four-at b n h) in
    sym (take-append-drop n b) ∙ ap (λ r. take n b ++ r) (f ∙ ap in_four s.1)

-- a whole message has its length, its kind and its sum
pub whole_is : (kind n : ℕ) (b : List ℕ) → whole kind n b ≡ true → (length b ≡ n) × (get_or b 0 0 ≡ kind) × (summed b ≡ true)
whole_is kind n b e =
    let p = eqb (length b) n in
    let q = eqb (get_or b 0 0) kind in
    let r = and_second p (q && summed b) e in
    (eqb-true (length b) n (and_first p (q && summed b) e), eqb-true (get_or b 0 0) kind (and_first q (summed b) r), and_second q (summed b) r)

-- the first bytes of a whole message, one by one, with the sum behind them, are the message
pub whole-bytes : (kind n : ℕ) (b : List ℕ) → Bytes b → whole kind (n + 4) b ≡ true → with_sum (front 0 n b) ≡ b
whole-bytes kind n b h e =
    let w = whole_is kind (n + 4) b e in
    let k : length b - 4 ≡ n = omega (arith, w.0) in
    ap with_sum (sym (take-front n 0 b (omega (arith, w.0))) ∙ ap (λ j. take j b) (sym k)) ∙ sym (summed-is b h w.2)

-- a message that is not refused passed its test
pub whole_of : (t : Bool) (x : Option Fault) (e : Fault) → cond t x (Some e) ≡ None → t ≡ true
whole_of true x e p = refl
whole_of false x e p = absurd (let z : ◌≡◌ {A = ℕ} 0 1 = cc in omega arith)

pub then_of : (t : Bool) (x : Option Fault) (e : Fault) → cond t x (Some e) ≡ None → x ≡ None
then_of true x e p = p
then_of false x e p = absurd (let z : ◌≡◌ {A = ℕ} 0 1 = cc in omega arith)
