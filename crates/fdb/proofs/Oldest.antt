-- Who was heard before all others, of all stations but one.
use Rattle.std.proofs.Common.{◌≡◌, ◌≢◌, ℕ, suc, ◌<◌, Bool, true, false, not, cond, eqb, List, [], ◌∷◌, get_or, filter, Some, None, Option, MatchOption, IfSome, refl, sym, ap, ◌∙◌, subst, inl, inr, arith}
use Rattle.std.specs.List.{All, Contains}
use Rattle.std.specs.Option.{option_map}
use Rattle.std.specs.Iterator.Runs.{Run, AllItems}
use Rattle.std.proofs.lemmas.Bool.Decides.{nat_tests}
use Rattle.std.proofs.lemmas.Bool.{and_parts, cases_eq}
use Rattle.std.proofs.lemmas.List.{get_or_default}
use Rattle.std.specs.Ordering.{nat_cmp, is_lt, ordering_then}
use Rattle.fdb.specs.declared.entry.Entry.{Entry}
use Rattle.fdb.specs.Entries.{no_entry, above, ascending, find, oldest, longer, earlier}
use Rattle.fdb.proofs.Ordered.{find_at}
use Rattle.fdb.proofs.Found.{find-above, oldest-held, oldest-other}

abbrev pub others : ℕ → Entry → Bool
others keep e = not (eqb e.station keep)

-- x is not before m, by tick, order and station
abbrev pub NotBefore : Entry → Entry → Type 0
NotBefore m x = is_lt (ordering_then (ordering_then (nat_cmp x.tick m.tick) (nat_cmp x.order m.order)) (nat_cmp x.station m.station)) ≡ false

later : (x y : Entry) → NotBefore x y → earlier y x ≡ false
later x y h = grind (arith, nat_tests)

sooner : (m x : Entry) → NotBefore m x → x.station < m.station → earlier m x ≡ true
sooner m x h l = grind (arith, nat_tests)

pub least-oldest : (keep : ℕ) (es : List Entry) (m : Entry) → ascending es ≡ true → find m.station es ≡ Some m → (m.station ≡ keep → ⊥) →
    ((x : Entry) → find x.station es ≡ Some x → (x.station ≡ keep → ⊥) → NotBefore m x) → oldest keep es ≡ Some m
unfolding ascending find oldest
least-oldest keep [] m a f n h = grind arith
least-oldest keep (x ∷ xs) m a f n h =
    elim (cases_eq x.station m.station) [
      | inl e ↦ (let same : m ≡ x = grind (arith, nat_tests, f, e) in first same (oldest keep xs) refl)
      | inr d ↦ (
          let there : find m.station xs ≡ Some m = grind (arith, nat_tests, f, d) in
          let rest = least-oldest keep xs m p.1 there n (λ y q k. h y (up y q) k) in
          elim (cases_eq x.station keep) [
            | inl k ↦ grind (arith, nat_tests, rest, k)
            | inr k ↦ (
                let own : find x.station (x ∷ xs) ≡ Some x = grind (arith, nat_tests) in
                let s = sooner m x (h x own k) (find-above x.station m.station xs m p.0 there) in
                grind (arith, nat_tests, rest, k, s)
                )
          ]
          )
    ]
  where
    p : (above x.station xs ≡ true) × (ascending xs ≡ true)
    p = and_parts (above x.station xs) (ascending xs) a

    up : (y : Entry) → find y.station xs ≡ Some y → find y.station (x ∷ xs) ≡ Some y
    up y q = let l = find-above x.station y.station xs y p.0 q in grind (arith, nat_tests, l, q)

    first : m ≡ x → (z : Option Entry) → oldest keep xs ≡ z → cond (eqb x.station keep) z (longer x z) ≡ Some m
    first same None q = grind (arith, nat_tests, same, n)
    first same (Some y) q =
        let e = later m y (h y (up y (oldest-held keep xs y p.1 q)) (oldest-other keep xs y q)) in
        subst (λ w. cond (eqb w.station keep) (Some y) (longer w (Some y)) ≡ Some m) same (grind (arith, nat_tests, e, n))

-- no other station is left
none-left : (keep : ℕ) (es : List Entry) → filter (others keep) es ≡ [] → oldest keep es ≡ None
unfolding oldest
none-left keep [] n = refl
none-left keep (x ∷ xs) n = grind (arith, nat_tests, none-left keep xs)

-- what holds of all other stations holds of one that is found
found-all : (P : Entry → Type 0) (keep k : ℕ) (es : List Entry) (x : Entry) → All P (filter (others keep) es) → find k es ≡ Some x → (x.station ≡ keep → ⊥) → P x
unfolding find
found-all P keep k [] x a f n = grind arith
found-all P keep k (y ∷ ys) x a f n = go (eqb y.station keep) refl a (found-all P keep k ys x)
  where
    go : (b : Bool) → eqb y.station keep ≡ b → All P (cond (not b) (y ∷ filter (others keep) ys) (filter (others keep) ys)) →
        (All P (filter (others keep) ys) → find k ys ≡ Some x → (x.station ≡ keep → ⊥) → P x) → P x
    go true t a rest = rest a (grind (arith, nat_tests, f, t, n)) n
    go false t a rest = elim (cases_eq y.station k) [
      | inl e ↦ (let same : y ≡ x = grind (arith, nat_tests, f, e) in subst P same (a 0 y (omega arith)))
      | inr d ↦ rest (λ i z l. a (suc i) z (omega arith)) (grind (arith, nat_tests, f, d)) n
    ]

-- what an iterator's run over the other stations says of its least
pub chosen : (keep : ℕ) (es : List Entry) (r : Option Entry) → ascending es ≡ true →
    MatchOption r (filter (others keep) es ≡ []) (λ m. Contains es m × (m.station ≢ keep) × All (NotBefore m) (filter (others keep) es)) → r ≡ oldest keep es
chosen keep es None a h = sym (none-left keep es h)
chosen keep es (Some m) a h =
    let at = h.0 in
    let same : get_or es at.0 no_entry ≡ m = get_or_default es at.0 no_entry m at.1 ∙ at.2 in
    let there = subst (λ e. find m.station es ≡ Some e) same (find_at m.station es a at.0 at.1 (ap (λ e. e.station) same)) in
    sym (least-oldest keep es m a there h.1 (λ x f n. found-all (NotBefore m) keep x.station es x h.2 f n))

-- what holds of each item of a run holds of the list of its items
pub items-all : {S : Type 0} {steps : S → Option Entry → S → Type 0} (p : Run steps) (P : Entry → Type 0) → AllItems p P → All P p.items
items-all p P h k d l = go (p.at k) (p.reads k d (rw p.long l)) (h k)
  where
    go : (o : Option Entry) → option_map (λ y. y) o ≡ Some (get_or p.items k d) → IfSome o P → P (get_or p.items k d)
    go None q t = absurd (grind arith)
    go (Some y) q t = let e : y ≡ get_or p.items k d = grind arith in subst P e t
