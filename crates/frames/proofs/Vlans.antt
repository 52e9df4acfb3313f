-- The vlans of settings, of all ports at once.
use Rattle.std.proofs.Common.{◌≡◌, ◌↔◌, ℕ, zero, suc, ◌+◌, ◌*◌, ◌-◌, ◌/◌, ◌<◌, ◌≤◌, Bool, true, false, ◌&&◌, List, [], length, get_or, take, drop, sym, refl, ap, ◌∙◌, subst, inl, inr, arith, le-leb}
use Rattle.std.proofs.lemmas.Bool.{cases_eq}
use Rattle.std.proofs.lemmas.List.{drop-drop, length-drop, length-take-le, get_or-drop, get_or-take, get_or_past}
use Rattle.std.specs.Simd.{first_chunks}
use Rattle.std.specs.Bool.{then_some, IsTrue}
use Rattle.std.specs.List.{EachIndex}
use Rattle.std.specs.Option.{MatchOption}
use Rattle.wire.specs.Bytes.{two}
use Rattle.frames.specs.SettingsBytes.{vlan_in, vlans_can_be, VlansSay}

length_cells : (n : ℕ) (xs : List ℕ) → length (first_chunks 2 n xs) ≡ n
length_cells zero xs = refl
length_cells (suc n) xs = ap suc (length_cells n (drop 2 xs))

cell : (n : ℕ) (xs : List ℕ) (k : ℕ) → k < n → get_or (first_chunks 2 n xs) k [] ≡ take 2 (drop (2 * k) xs)
cell zero xs k h = absurd (omega arith)
cell (suc n) xs zero h = refl
cell (suc n) xs (suc k) h =
    let e : 2 + 2 * k ≡ 2 * suc k = omega arith in
    cell n (drop 2 xs) k (omega arith) ∙ ap (take 2) (drop-drop (2 * k) 2 xs ∙ ap (λ j. drop j xs) e)

-- the vlan in a port's cell
pub vlan_there : (b : List ℕ) (n k : ℕ) → k < n → two (get_or (first_chunks 2 n (take (2 * n) (drop 7 b))) k []) 0 ≡ vlan_in b k
vlan_there b n k h = ap (λ c. two c 0) (cell n (take (2 * n) (drop 7 b)) k h) ∙ (λ i. first i * 256 + byte 1 (omega arith) i) where
  byte : (j : ℕ) → j < 2 → get_or (take 2 (drop (2 * k) (take (2 * n) (drop 7 b)))) j 0 ≡ get_or b (7 + 2 * k + j) 0
  byte j l =
      let e : 7 + (2 * k + j) ≡ 7 + 2 * k + j = omega arith in
      get_or-take 2 _ j 0 l ∙ get_or-drop (2 * k) _ j 0 ∙ get_or-take (2 * n) _ (2 * k + j) 0 (omega arith) ∙ get_or-drop 7 b (2 * k + j) 0
      ∙ ap (λ i. get_or b i 0) e

  first : get_or (take 2 (drop (2 * k) (take (2 * n) (drop 7 b)))) 0 0 ≡ get_or b (7 + 2 * k) 0
  first = byte 0 (omega arith) ∙ ap (λ i. get_or b i 0) (omega arith)

-- and 0 where there is none
pub vlan_none : (b : List ℕ) (n k : ℕ) → n ≤ k → two (get_or (first_chunks 2 n (take (2 * n) (drop 7 b))) k []) 0 ≡ 0
vlan_none b n k h = ap (λ c. two c 0) (get_or_past (first_chunks 2 n (take (2 * n) (drop 7 b))) k [] (omega (arith, length_cells n (take (2 * n) (drop 7 b)))))

-- the cells of n ports, as they are cut from the bytes
pub cells_are : (b : List ℕ) (n : ℕ) (cs : List (List ℕ)) → 7 + 2 * n ≤ length b
    → cs ≡ first_chunks 2 (length (take (7 + 2 * n - 7) (drop 7 b)) / 2) (take (7 + 2 * n - 7) (drop 7 b))
    → (length cs ≡ n) × ((k : ℕ) → k < n → two (get_or cs k []) 0 ≡ vlan_in b k)
cells_are b n cs h e = (ap length are ∙ length_cells n (take (2 * n) (drop 7 b)), λ k l. ap (λ c. two (get_or c k []) 0) are ∙ vlan_there b n k l) where
  cut : 7 + 2 * n - 7 ≡ 2 * n
  cut = omega arith

  long : length (take (2 * n) (drop 7 b)) / 2 ≡ n
  long = omega (arith, length-take-le (2 * n) (drop 7 b) (omega (arith, length-drop 7 b, h)))

  are : cs ≡ first_chunks 2 n (take (2 * n) (drop 7 b))
  are = subst (λ m. cs ≡ first_chunks 2 m (take (2 * n) (drop 7 b))) long (subst (λ m. cs ≡ first_chunks 2 (length (take m (drop 7 b)) / 2) (take m (drop 7 b))) cut e)

each_can_be : (b : List ℕ) (n : ℕ) → ((k : ℕ) → k < n → vlan_in b k ≤ 4094) → vlans_can_be b n ≡ true
unfolding vlans_can_be
each_can_be b zero h = refl
each_can_be b (suc n) h = ap (λ t. t && vlans_can_be b n) (le-leb (vlan_in b n) 4094 (h n (omega arith))) ∙ each_can_be b n (λ k l. h k (omega arith))

pub can_be_each : (b : List ℕ) (n : ℕ) → vlans_can_be b n ≡ true → (k : ℕ) → k < n → vlan_in b k ≤ 4094
unfolding vlans_can_be
can_be_each b zero e k l = absurd (omega arith)
can_be_each b (suc n) e k l =
    let p : vlan_in b n ≤ 4094 = grind (arith, e) in
    let q : vlans_can_be b n ≡ true = grind (arith, e) in
    elim (cases_eq k n) [ inl s ↦ subst (λ j. vlan_in b j ≤ 4094) (sym s) p | inr ne ↦ can_be_each b n q k (omega arith) ]

-- read from the cells, and refused if one can't be
pub vlans_read : (b vs : List ℕ) (n : ℕ) (ok : Bool) → n ≤ 16 → length vs ≡ 16 → ((k : ℕ) → k < n → get_or vs k 0 ≡ vlan_in b k)
    → ((k : ℕ) → k < 16 → (k < n → ⊥) → get_or vs k 0 ≡ 0) → (IsTrue ok ↔ EachIndex (take n vs) (λ k. get_or (take n vs) k 0 ≤ 4094))
    → MatchOption (then_some ok vs) (vlans_can_be b n ≡ false) (λ v. (vlans_can_be b n ≡ true) × VlansSay b n v)
vlans_read b vs n true m l t o d =
    (each_can_be b n (λ k h. subst (λ v. v ≤ 4094) (get_or-take n vs k 0 h ∙ t k h) (d.0 refl k (omega (arith, l, length-take-le n vs (omega (arith, l)))))), record { there = t; others = o })
vlans_read b vs n false m l t o d = go (vlans_can_be b n) refl where
  go : (v : Bool) → vlans_can_be b n ≡ v → vlans_can_be b n ≡ false
  go false e = e
  go true e = let q : false ≡ true = d.1 each in absurd (grind (arith, q)) where
    each : (k : ℕ) → k < length (take n vs) → get_or (take n vs) k 0 ≤ 4094
    each k h =
        let p : k < n = omega (arith, l, length-take-le n vs (omega (arith, l))) in
        subst (λ v. v ≤ 4094) (sym (get_or-take n vs k 0 p ∙ t k p)) (can_be_each b n e k p)
