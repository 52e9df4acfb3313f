-- The lowest port to each of some neighbours, one neighbour more at a time.
use Rattle.std.proofs.Common.{◌≡◌, ℕ, zero, suc, ◌+◌, ◌<◌, ◌≤◌, Bool, true, false, not, ◌&&◌, ◌||◌, eqb, ltb, List, length, get_or, set, Some, None, Option, sym, refl, ap, ◌∙◌, subst, arith, length-set, get_or-set_other, get_or-set_same, MatchOption}
use native.Mathlib.Decide.{ℕ_discrete, dec_lt}
use Rattle.std.proofs.lemmas.Bool.Decides.{nat_tests}
use Rattle.ports.specs.declared.port.PortId.{PortId}
use Rattle.std.specs.List.{AllWithin, HoldsAt}
use Rattle.ports.specs.declared.port.Port.{Port}
use Rattle.ports.specs.declared.port.Port.TheVariants.{Unused}
use Rattle.ports.specs.Ports.{leads, ports_of, Kind, Idle, ToStations, ToBridge, leads_to, none_below, onward, onward_by}
use Rattle.ports.specs.Flags.{marked}

pub none_below_lem : (port : ℕ → Kind) (c n p : ℕ) → none_below port c n ≡ true → p < n → leads_to (port p) c ≡ false
unfolding none_below
none_below_lem port c zero p e h = absurd (omega arith)
none_below_lem port c (suc n) p e h = elim (ℕ_discrete p n) [
  | yes q ↦ subst (λ i. leads_to (port i) c ≡ false) (sym q) (grind (arith, nat_tests))
  | no k ↦ let e2 : none_below port c n ≡ true = grind (arith, nat_tests) in none_below_lem port c n p e2 (omega arith)
]

-- is it the port by which neighbour c is reached
abbrev pub chosen : (ℕ → Kind) → ℕ → ℕ → Bool
chosen port c p = leads_to (port p) c && none_below port c p

step_by : (H : ℕ → Bool) (port : ℕ → Kind) (c p : ℕ) (k : Kind) →
    onward_by (λ k. ltb k (c + 1) && H k) port p k ≡ ((H c && (leads_to k c && none_below port c p)) || onward_by (λ k. ltb k c && H k) port p k)
step_by H port c p Idle = grind (arith, nat_tests)
step_by H port c p (ToStations v) = grind (arith, nat_tests)
step_by H port c p (ToBridge d up) = elim (ℕ_discrete d c) [
  | yes q ↦ subst (λ d. ((ltb d (c + 1) && H d) && (up && none_below port d p)) ≡ ((H c && ((up && eqb d c) && none_below port c p)) || ((ltb d c && H d) && (up && none_below port d p)))) (sym q) (grind (arith, nat_tests))
  | no k ↦ grind (arith, nat_tests)
]

pub onward-step : (H : ℕ → Bool) (port : ℕ → Kind) (c p : ℕ) →
    onward (λ k. ltb k (c + 1) && H k) port p ≡ ((H c && chosen port c p) || onward (λ k. ltb k c && H k) port p)
onward-step H port c p = step_by H port c p (port p)

-- the flags with that of the lowest port to c set, if there is one
pub mark_chosen : (port : ℕ → Kind) (c : ℕ) (flags : List Bool) (q : Option PortId) → length flags ≡ 16 →
    MatchOption q (none_below port c 16 ≡ true) (λ p. (leads_to (port p.value) c ≡ true) × (none_below port c p.value ≡ true)) →
    (p : ℕ) → p < 16 → get_or (marked flags q) p false ≡ (chosen port c p || get_or flags p false)
mark_chosen port c flags None l e p h = let z : leads_to (port p) c ≡ false = none_below_lem port c 16 p e h in grind (arith, nat_tests)
mark_chosen port c flags (Some i) l e p h = elim (ℕ_discrete p i.value) [
  | yes q ↦ subst (λ n. get_or (set flags i.value true) n false ≡ (chosen port c n || get_or flags n false)) (sym q)
      (let same : get_or (set flags i.value true) i.value false ≡ true = get_or-set_same flags i.value true false (subst (λ n. i.value < n) (sym l) i.ok) in
      grind (arith, nat_tests, e.0, e.1))
  | no k ↦ let other : get_or (set flags i.value true) p false ≡ get_or flags p false = get_or-set_other flags i.value p true false k in
      let not_chosen : chosen port c p ≡ false = apart k in grind (arith, nat_tests)
]
  where
    apart : (p ≡ i.value → ⊥) → chosen port c p ≡ false
    apart k = elim (dec_lt p i.value) [
      | yes lt ↦ let z : leads_to (port p) c ≡ false = none_below_lem port c i.value p e.1 lt in grind (arith, nat_tests)
      | no ge ↦ go ge (none_below port c p) refl
    ]
      where
        go : (p < i.value → ⊥) → (b : Bool) → none_below port c p ≡ b → chosen port c p ≡ false
        go ge false q = grind (arith, nat_tests)
        go ge true q = let z : leads_to (port i.value) c ≡ false = none_below_lem port c p i.value q (omega arith) in absurd (grind (arith, nat_tests, e.0))

-- what the loop over neighbours keeps, at neighbour c: those from c on are left, and the flags are those of the ones below
abbrev pub SortedOut : (ℕ → Bool) → (ℕ → Kind) → ℕ → (ℕ → Bool) → List Bool → Type 0
SortedOut H port c R F =
    (length F ≡ 16) × ((k : ℕ) → k < 128 → R k ≡ (not (ltb k c) && H k)) × ((p : ℕ) → p < 16 → get_or F p false ≡ onward (λ k. ltb k c && H k) port p)

length_marked : (flags : List Bool) (q : Option PortId) → length (marked flags q) ≡ length flags
length_marked flags None = refl
length_marked flags (Some i) = length-set flags i.value true

pub one_more : (H R R' : ℕ → Bool) (port : ℕ → Kind) (c d : ℕ) (F F' : List Bool) (q : Option PortId) → d < 128 → d ≡ c → SortedOut H port c R F → R d ≡ true →
    MatchOption q (none_below port d 16 ≡ true) (λ p. (leads_to (port p.value) d ≡ true) × (none_below port d p.value ≡ true)) →
    F' ≡ marked F q → ((k : ℕ) → k < 128 → R' k ≡ (not (eqb k d) && R k)) → SortedOut H port (c + 1) R' F'
one_more H R R' port c d F F' q lt dc i rc b f r =
    subst (λ d. d < 128 → R d ≡ true → MatchOption q (none_below port d 16 ≡ true) (λ p. (leads_to (port p.value) d ≡ true) × (none_below port d p.value ≡ true)) →
    ((k : ℕ) → k < 128 → R' k ≡ (not (eqb k d) && R k)) → SortedOut H port (c + 1) R' F') (sym dc) go lt rc b r
  where
    go : c < 128 → R c ≡ true → MatchOption q (none_below port c 16 ≡ true) (λ p. (leads_to (port p.value) c ≡ true) × (none_below port c p.value ≡ true)) →
        ((k : ℕ) → k < 128 → R' k ≡ (not (eqb k c) && R k)) → SortedOut H port (c + 1) R' F'
    go lt rc b r = (
      ap length f ∙ (length_marked F q ∙ i.0),
      (λ k h. grind (arith, nat_tests, i.1 k h, r k h)),
      (λ p h. let hc : H c ≡ true = grind (arith, nat_tests, i.1 c lt) in
          let m = mark_chosen port c F q i.0 b p h in
          let o = onward-step H port c p in
          let x : get_or F' p false ≡ get_or (marked F q) p false = ap (λ l. get_or l p false) f in
          x ∙ (m ∙ (ap (λ v. chosen port c p || v) (i.2 p h) ∙ (ap (λ v. (v && chosen port c p) || onward (λ k. ltb k c && H k) port p) (sym hc) ∙ sym o)))),
    )

pub none_more : (H R R' : ℕ → Bool) (port : ℕ → Kind) (c d : ℕ) (F F' : List Bool) → d < 128 → d ≡ c → SortedOut H port c R F → R d ≡ false → F' ≡ F → ((k : ℕ) → R' k ≡ R k) → SortedOut H port (c + 1) R' F'
none_more H R R' port c d F F' lt dc i rd f r = (
  ap length f ∙ i.0,
  (λ k h. other k h (ℕ_discrete k c)),
  (λ p h. let o = onward-step H port c p in
      let x : get_or F' p false ≡ get_or F p false = ap (λ l. get_or l p false) f in
      x ∙ (i.2 p h ∙ (ap (λ v. (v && chosen port c p) || onward (λ k. ltb k c && H k) port p) (sym hc) ∙ sym o))),
)
  where
    hc : H c ≡ false
    hc = let e : R c ≡ false = subst (λ d. R d ≡ false) dc rd in let l : c < 128 = subst (λ d. d < 128) dc lt in grind (arith, nat_tests, i.1 c l)

    other : (k : ℕ) → k < 128 → Dec (k ≡ c) → R' k ≡ (not (ltb k (c + 1)) && H k)
    other k h (yes q) = subst (λ k. k < 128 → R' k ≡ (not (ltb k (c + 1)) && H k)) (sym q) (λ lt. grind (arith, nat_tests, i.1 c lt, r c)) h
    other k h (no n) = grind (arith, nat_tests, i.1 k h, r k)

pub none_below_from : (port : ℕ → Kind) (c n : ℕ) → ((k : ℕ) → 0 ≤ k → k < n → leads_to (port k) c ≡ false) → none_below port c n ≡ true
unfolding none_below
none_below_from port c zero h = refl
none_below_from port c (suc n) h = let e : none_below port c n ≡ true = none_below_from port c n (λ k z l. h k z (omega arith)) in let f : leads_to (port n) c ≡ false = h n (omega arith) (omega arith) in grind (arith, nat_tests)

-- the port of the lowest number that leads there, if one does
pub lowest_from : (ps : List Port) (c : ℕ) (found : Option ℕ) (r : Option PortId) → length ps ≡ 16 →
    MatchOption found (AllWithin (λ p. leads p c ≡ false) ps 0 (length ps)) (λ i. (i < length ps) × HoldsAt (λ p. leads p c ≡ true) ps i × AllWithin (λ p. leads p c ≡ false) ps 0 i) →
    MatchOption found (r ≡ None) (λ i. i < 16 → MatchOption r (16 ≤ i) (λ p. p.value ≡ i)) →
    MatchOption r (none_below (ports_of ps) c 16 ≡ true) (λ p. (leads_to (ports_of ps p.value) c ≡ true) × (none_below (ports_of ps) c p.value ≡ true))
lowest_from ps c None r l f e = rw e (none_below_from (ports_of ps) c 16 (λ k z h. f k Unused z (subst (λ n. k < n) (sym l) h)))
lowest_from ps c (Some i) None l f e = let h : i < 16 = subst (λ n. i < n) l f.0 in absurd (omega (arith, h, e h))
lowest_from ps c (Some i) (Some p) l f e = let h : i < 16 = subst (λ n. i < n) l f.0 in
    subst (λ i. (leads_to (ports_of ps i) c ≡ true) × (none_below (ports_of ps) c i ≡ true)) (sym (e h)) (f.1 Unused, none_below_from (ports_of ps) c i (λ k z m. f.2 k Unused z m))
