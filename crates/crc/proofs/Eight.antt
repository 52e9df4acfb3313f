-- Eight bytes at a time: what the loop over a string leaves.
use Rattle.std.proofs.Common.{◌≡◌, ℕ, zero, suc, ◌+◌, ◌-◌, ◌*◌, ◌/◌, ◌%◌, ◌^◌, ◌<◌, ◌≤◌, List, [], ◌∷◌, ◌++◌, length, get_or, take, drop, sym, ap, ◌∙◌, subst, arith, drop-cons}
use lib.Bits.{bit_xor}
use Rattle.std.proofs.lemmas.List.{take_rest, get_or-drop}
use Rattle.crc.specs.Burst.{Bytes}
use Rattle.crc.specs.Crc.{after, through}
use Rattle.crc.proofs.Linear.{after-eight, through-append, through-joined, joined}

-- the shifts of a number's eight bytes, from the list of them
pub shifted_eight : (w : ℕ) (bs : List ℕ) → w < 2 ^ 64
    → bs ≡ (w % 256) ∷ (w / 256 % 256) ∷ (w / 65536 % 256) ∷ (w / 16777216 % 256) ∷ (w / 4294967296 % 256) ∷ (w / 1099511627776 % 256)
    ∷ (w / 281474976710656 % 256) ∷ (w / 72057594037927936 % 256) ∷ []
    → bit_xor (bit_xor (bit_xor (bit_xor (bit_xor (bit_xor (bit_xor (after 64 (get_or bs 0 0)) (after 56 (get_or bs 1 0))) (after 48 (get_or bs 2 0)))
    (after 40 (get_or bs 3 0))) (after 32 (get_or bs 4 0))) (after 24 (get_or bs 5 0))) (after 16 (get_or bs 6 0))) (after 8 (get_or bs 7 0))
    ≡ after 64 w
shifted_eight w bs h e =
    subst (λ bs. bit_xor (bit_xor (bit_xor (bit_xor (bit_xor (bit_xor (bit_xor (after 64 (get_or bs 0 0)) (after 56 (get_or bs 1 0))) (after 48 (get_or bs 2 0)))
    (after 40 (get_or bs 3 0))) (after 32 (get_or bs 4 0))) (after 24 (get_or bs 5 0))) (after 16 (get_or bs 6 0))) (after 8 (get_or bs 7 0)) ≡ after 64 w)
    (sym e) (sym (after-eight w h))

abbrev front : ℕ → ℕ → List ℕ → List ℕ
front i zero xs = []
front i (suc n) xs = get_or xs i 0 ∷ front (suc i) n xs

front-drop : (n i : ℕ) (xs : List ℕ) → i + n ≤ length xs → drop i xs ≡ front i n xs ++ drop (i + n) xs
front-drop zero i xs h = ap (λ k. drop k xs) (omega arith)
front-drop (suc n) i xs h =
    drop-cons xs i 0 (omega arith)
    ∙ ap (λ t. get_or xs i 0 ∷ t) (front-drop n (suc i) xs (omega arith) ∙ ap (λ k. front (suc i) n xs ++ drop k xs) (omega arith))

front_bytes : (n i : ℕ) (xs : List ℕ) → ((k : ℕ) → get_or xs k 0 < 256) → Bytes (front i n xs)
front_bytes zero i xs b = tt
front_bytes (suc n) i xs b = (b i, front_bytes n (suc i) xs b)

pub tail_bytes : (xs : List ℕ) → ((k : ℕ) → get_or xs k 0 < 256) → (k : ℕ) → get_or (take (length xs - 8) (drop 8 xs)) k 0 < 256
tail_bytes xs b k =
    rw (take_rest, get_or-drop) (b _)

pub through-eight : (c r f w : ℕ) (xs : List ℕ) → 8 ≤ length xs → ((k : ℕ) → get_or xs k 0 < 256) → f ≡ c
    → w ≡ get_or xs 0 0 + get_or xs 1 0 * 256 + get_or xs 2 0 * 65536 + get_or xs 3 0 * 16777216 + get_or xs 4 0 * 4294967296 + get_or xs 5 0 * 1099511627776
    + get_or xs 6 0 * 281474976710656 + get_or xs 7 0 * 72057594037927936
    → r ≡ after 64 (bit_xor f w)
    → through r (take (length xs - 8) (drop 8 xs)) ≡ through c xs
through-eight c r f w xs h b ef ew er =
    let j : joined (front 0 8 xs) ≡ w = omega arith in
    let e : through c (front 0 8 xs) ≡ r =
    through-joined c (front 0 8 xs) (front_bytes 8 0 xs b) ∙ ap (λ n. after 64 (bit_xor c n)) j ∙ ap (λ n. after 64 (bit_xor n w)) (sym ef) ∙ sym er in
    ap (through r) (take_rest xs 8) ∙ ap (λ n. through n (drop 8 xs)) (sym e) ∙ sym (through-append c (front 0 8 xs) (drop 8 xs))
    ∙ ap (through c) (sym (front-drop 8 0 xs h))
