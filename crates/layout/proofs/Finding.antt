-- Stations found by name or by address.
use Rattle.std.proofs.Common.{◌≡◌, ℕ, suc, ◌+◌, ◌<◌, ◌≤◌, Bool, true, false, cond, not, ◌||◌, ltb, List, [], ◌∷◌, ◌++◌, map, length, get_or, set, codes, Option, Some, None, MatchOption, Ok, Err, Result, MatchResult, Bor, vec_items, vec_len, Vec, refl, sym, ap, ◌∙◌, subst, arith}
use Rattle.std.specs.Result.{result_unwrap_or}
use Rattle.std.specs.Str.{IsUtf8, is_utf8}
use Rattle.std.proofs.lemmas.Str.{IsUtf8-from_is_utf8, is_utf8-from_IsUtf8}
use Rattle.std.specs.List.{prefix_len, position, list_any}
use Rattle.std.proofs.lemmas.Bool.Decides.{nat_tests}
use Rattle.std.specs.declared.alloc.Global.{Global}
use Rattle.std.proofs.lemmas.Bool.{cond-true, cond-false, le-ltb}
use Rattle.scan.specs.declared.parts.PortRef.{PortRef}
use Rattle.script.specs.declared.faults.Expected.TheVariants as expected
use Rattle.wiring.specs.declared.boxes.Node.{Node}
use Rattle.wiring.specs.Boxes.{port_at}
use Rattle.wiring.specs.Rules.{want_access}
use Rattle.std.specs.Str.{bytes_eq}
use Rattle.std.proofs.lemmas.List.{length-map, get_or-map, map-set}
use Rattle.layout.specs.declared.names.Name.{Name}
use Rattle.layout.specs.declared.stations.Station.{Station}
use Rattle.layout.specs.Stations.{Placed, text_of, shown, placed, name_index, address_index, no_station, placed_in, has_name, has_address, station_added, station_moved, put_at}

-- the stations of a list, counted
pub counted : (v : Vec Station Global) → length (placed_in v) ≡ vec_len v
counted v = length-map (vec_items v) placed ∙ sym v.ok.0

-- a test of stations as the clauses see them is one of those of the code
placed-prefix : (q : Placed → Bool) (ss : List Station) → prefix_len q (map placed ss) ≡ prefix_len (λ s. q (placed s)) ss
placed-prefix q [] = refl
placed-prefix q (s ∷ ss) = ap (λ n. cond (q (placed s)) (1 + n) 0) (placed-prefix q ss)

place : (i n l : ℕ) (r : Option ℕ) → l ≡ n → r ≡ cond (ltb i l) (Some i) None → MatchOption r (ltb i l ≡ false) (λ k. (ltb i l ≡ true) × (k ≡ i) × (k < n))
place i n l None s e = grind (arith, nat_tests)
place i n l (Some k) s e = grind (arith, nat_tests)

-- the place that `position` finds
pub found : (n : List ℕ) (v : Vec Station Global) (r : Option ℕ) → r ≡ position (λ s. bytes_eq (text_of s.name) n) (vec_items v) → MatchOption r (has_name n (placed_in v) ≡ false) (λ i. (has_name n (placed_in v) ≡ true) × (i ≡ name_index n (placed_in v)) × (i < vec_len v))
unfolding name_index
found n v r e =
    let q : Placed → Bool = λ s. not (bytes_eq s.name n) in
    place (name_index n (placed_in v)) (vec_len v) (length (placed_in v)) r (counted v)
    (e ∙ (λ i. cond (ltb (sym (placed-prefix q (vec_items v)) i) (sym (length-map (vec_items v) placed) i)) (Some (sym (placed-prefix q (vec_items v)) i)) None))

one_more : (t b : Bool) (p l : ℕ) → b ≡ ltb p l → (t || b) ≡ ltb (cond (not t) (1 + p) 0) (suc l)
one_more true b p l e = grind (arith, nat_tests)
one_more false b p l e = grind (arith, nat_tests)

any_placed : (q : Placed → Bool) (ss : List Station) → list_any (λ s. q (placed s)) ss ≡ ltb (prefix_len (λ s. not (q s)) (map placed ss)) (length (map placed ss))
any_placed q [] = refl
any_placed q (s ∷ ss) = one_more (q (placed s)) _ _ (length (map placed ss)) (any_placed q ss)

-- what `any` finds
pub addressed : (a : List ℕ) (v : Vec Station Global) → list_any (λ s. bytes_eq s.address a) (vec_items v) ≡ has_address a (placed_in v)
unfolding address_index
addressed a v = any_placed (λ s. bytes_eq s.address a) (vec_items v)

module _ (ns : List Node) (ss : List Placed) (n a : List ℕ) (p : PortRef) (short : length n ≤ 16) (name : false ≡ has_name n ss) (address : false ≡ has_address a ss) (access : Ok tt ≡ want_access (port_at ns p)) where
  tried : station_added ns ss n a p ≡ cond (ltb (length ss) 32) (Ok (ss ++ record { name = n; address = a; port = p } ∷ [])) (Err expected.StationRoom)
  tried = rw (le-ltb 16 (length n) short, ← name, ← address, ← access)

  pub full : 32 ≤ length ss → station_added ns ss n a p ≡ Err expected.StationRoom
  full h = tried ∙ cond-false (ltb (length ss) 32) _ _ (le-ltb (length ss) 32 h)

pub moved : (ns : List Node) (v : Vec Station Global) (n : List ℕ) (p : PortRef) (i : ℕ) (s : Station) → has_name n (placed_in v) ≡ true → i ≡ name_index n (placed_in v) → i < vec_len v → Ok tt ≡ want_access (port_at ns p) → s ≡ get_or (vec_items v) i s → station_moved ns (placed_in v) n p ≡ Ok (map placed (set (vec_items v) i (record { name = s.name; address = s.address; port = p })))
moved ns v n p i s has at lt access is =
    let ss : List Placed = placed_in v in
    let low : i < length (vec_items v) = omega (arith, v.ok.0) in
    let here : get_or ss i no_station ≡ placed s = get_or-map placed (vec_items v) i s no_station low ∙ ap placed (sym is) in
    rw (has, ← access) (ap (λ x. Ok x) (
    ap (λ k. set ss k (put_at (get_or ss k no_station) p)) (sym at) ∙ ap (λ q. set ss i (put_at q p)) here ∙ sym (map-set placed (vec_items v) i (record { name = s.name; address = s.address; port = p }))
    ))

-- a name as `fmt` prints it
pub shown_is : {E : Type 0} (n : Name) (bs : List ℕ) (r : Result (Bor (List ℕ)) E) (d : Bor (List ℕ)) (At : E → Type 0) → bs ≡ text_of n → MatchResult r (λ s. (s.now ≡ bs) × IsUtf8 bs) (λ e. ¬ (IsUtf8 bs) × At e) → d.now ≡ codes "?" → (result_unwrap_or r d).now ≡ shown n
shown_is n bs (Ok s) d At e k q = k.0 ∙ e ∙ sym (cond-true (is_utf8 (text_of n)) (text_of n) (codes "?") (is_utf8-from_IsUtf8 (text_of n) (subst IsUtf8 e k.1)))
shown_is n bs (Err x) d At e k q = q ∙ sym (cond-false (is_utf8 (text_of n)) (text_of n) (codes "?") (no (is_utf8 (text_of n)) refl))
  where
    no : (t : Bool) → is_utf8 (text_of n) ≡ t → is_utf8 (text_of n) ≡ false
    no true h = absurd (k.0 (subst IsUtf8 (sym e) (IsUtf8-from_is_utf8 (text_of n) h)))
    no false h = h
