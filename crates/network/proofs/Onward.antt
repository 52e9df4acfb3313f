-- The copies that go on by the ports of a bridge's answer are those that go on in the net of the promise.
use Rattle.std.proofs.Common.{◌≡◌, ℕ, zero, suc, ◌<◌, ◌≤◌, Bool, true, false, cond, not, ◌&&◌, ◌||◌, eqb, ltb, List, [], ◌∷◌, get_or, sym, refl, ap, ◌∙◌, subst, inl, inr, arith}
use mathlib.Core.List.Memᴰ
use mathlib.Core.List.{Memᴰ}
use native.Mathlib.Decide.{ℕ_discrete}
use Rattle.std.proofs.lemmas.Bool.Decides.{nat_tests}
use Rattle.std.proofs.lemmas.Bool.{eq-eqb, ne_eqb, lt-ltb, le-ltb, cond_both}
use Rattle.trees.specs.Tree.{Tree, joined}
use Rattle.bridges.specs.Net.{Copy, Here, Behind, not_back, copy_to, floods, toward}
use Rattle.ports.specs.declared.port.Port.{Port}
use Rattle.ports.specs.declared.port.Port.TheVariants.{Unused, Access, Trunk}
use Rattle.ports.specs.Ports.{Kind, Idle, ToStations, ToBridge, kind_of, ports_of, leads_to, none_below, onward_by}
use Rattle.ports.specs.Places.{Place, Nowhere, AtPort, Toward, Came, not_by_port, not_to_bridge}
use Rattle.ports.specs.Outward.{serves, may_go_to, out_by}
use Rattle.network.specs.Network.{Plug, passes, sent_on}
use Rattle.network.specs.Simulation.{where_is}

-- no port leads to a bridge that isn't there
leads-below : (k : Port) (c : ℕ) → 128 ≤ c → leads_to (kind_of k) c ≡ false
leads-below Unused c h = refl
leads-below (Access v) c h = refl
leads-below (Trunk l) c h = let lt = l.neighbour.ok in grind (arith, nat_tests)

pub none_beyond : (ports : List Port) (c n : ℕ) → 128 ≤ c → none_below (ports_of ports) c n ≡ true
unfolding none_below
none_beyond ports c zero h = refl
none_beyond ports c (suc p) h = let l = leads-below (get_or ports p Unused) c h in let i = none_beyond ports c p h in grind (arith, nat_tests)

-- a frame goes on by a port that leads to a neighbour if it may go there, and if no lower port does
by_lowest : (H : ℕ → Bool) (port : ℕ → Kind) (a : Bool) (vlan c p : ℕ) (k : Kind) →
    (((serves k vlan && a) || onward_by H port p k) && leads_to k c) ≡ (H c && (leads_to k c && none_below port c p))
by_lowest H port a vlan c p Idle = grind (arith, nat_tests)
by_lowest H port a vlan c p (ToStations v) = grind (arith, nat_tests)
by_lowest H port a vlan c p (ToBridge d up) = elim (ℕ_discrete d c) [
  | yes q ↦ subst (λ d. ((H d && (up && none_below port d p)) && (up && eqb d c)) ≡ (H c && ((up && eqb d c) && none_below port c p))) (sym q) (grind (arith, nat_tests))
  | no k ↦ grind (arith, nat_tests)
]

by_lowest_only : (H : ℕ → Bool) (port : ℕ → Kind) (c p : ℕ) (k : Kind) → (onward_by H port p k && leads_to k c) ≡ (H c && (leads_to k c && none_below port c p))
by_lowest_only H port c p Idle = grind (arith, nat_tests)
by_lowest_only H port c p (ToStations v) = grind (arith, nat_tests)
by_lowest_only H port c p (ToBridge d up) = by_lowest H port true 0 c p (ToBridge d up)

not-to-stations : (e a : Bool) (vlan c : ℕ) (k : Kind) → ((e && (serves k vlan && a)) && leads_to k c) ≡ false
not-to-stations e a vlan c Idle = grind (arith, nat_tests)
not-to-stations e a vlan c (ToStations v) = grind (arith, nat_tests)
not-to-stations e a vlan c (ToBridge d up) = grind (arith, nat_tests)

-- may it go to a neighbour, by where the station is known to be
abbrev goes_to : ℕ → Tree → Came → Place → ℕ → Bool
goes_to me t came Nowhere c = may_go_to me t came c
goes_to me t came (AtPort i) c = false
goes_to me t came (Toward d) c = eqb d c && may_go_to me t came c

out_leads : (port : ℕ → Kind) (me : ℕ) (t : Tree) (vlan : ℕ) (came : Came) (k : Place) (c p : ℕ) →
    (out_by port me t vlan came k p && leads_to (port p) c) ≡ (goes_to me t came k c && (leads_to (port p) c && none_below port c p))
out_leads port me t vlan came Nowhere c p = by_lowest (may_go_to me t came) port (not_by_port came p) vlan c p (port p)
out_leads port me t vlan came (AtPort i) c p = not-to-stations (eqb i p) (not_by_port came p) vlan c (port p)
out_leads port me t vlan came (Toward d) c p = by_lowest_only (λ c. eqb d c && may_go_to me t came c) port c p (port p)

passes-so : (out : ℕ → Bool) (port : ℕ → Kind) (g : Bool) (c : ℕ) → ((p : ℕ) → (out p && leads_to (port p) c) ≡ (g && (leads_to (port p) c && none_below port c p))) →
    (n : ℕ) → passes out port c n ≡ (g && not (none_below port c n))
unfolding passes none_below
passes-so out port g c h zero = grind (arith, nat_tests)
passes-so out port g c h (suc p) = let e = h p in let i = passes-so out port g c h p in grind (arith, nat_tests)

-- the lists of copies
sent_floods : (out : ℕ → Bool) (port : ℕ → Kind) (t : Tree) (up : ℕ → ℕ → Bool) (x : Copy) →
    ((c : ℕ) → passes out port c 16 ≡ (joined t x.at c && (up x.at c && not_back x.trail c))) → (n : ℕ) → sent_on out port x n ≡ floods n t up x
unfolding sent_on floods
sent_floods out port t up x h zero = refl
sent_floods out port t up x h (suc c) = rw (h c, sent_floods out port t up x h c)

sent_none : (out : ℕ → Bool) (port : ℕ → Kind) (x : Copy) → ((c : ℕ) → passes out port c 16 ≡ false) → (n : ℕ) → sent_on out port x n ≡ []
unfolding sent_on
sent_none out port x h zero = refl
sent_none out port x h (suc c) = rw (h c) (sent_none out port x h c)

sent_one : (out : ℕ → Bool) (port : ℕ → Kind) (x : Copy) (d : ℕ) (g : Bool) → ((c : ℕ) → passes out port c 16 ≡ (eqb d c && g)) →
    (n : ℕ) → sent_on out port x n ≡ cond (ltb d n && g) (copy_to x d ∷ []) []
unfolding sent_on
sent_one out port x d g h zero = rw (le-ltb d 0 (omega arith))
sent_one out port x d g h (suc c) = elim (ℕ_discrete d c) [
  | yes q ↦ rw (h c, eq-eqb d c q, sent_one out port x d g h c, le-ltb d c (omega arith), lt-ltb d (suc c) (omega arith))
      (subst (λ e. cond g (copy_to x e ∷ []) [] ≡ cond g (copy_to x d ∷ []) []) q refl)
  | no k ↦ rw (h c, ne_eqb d c k, sent_one out port x d g h c) (ap (λ v. cond (v && g) (copy_to x d ∷ []) []) (further k))
]
  where
    further : (d ≡ c → ⊥) → ltb d c ≡ ltb d (suc c)
    further k = grind (arith, nat_tests)

-- what goes on by no port
pub sent_refused : (out : ℕ → Bool) (port : ℕ → Kind) (x : Copy) → ((p : ℕ) → out p ≡ false) → (n : ℕ) → sent_on out port x n ≡ []
sent_refused out port x h n = sent_none out port x (λ c. passes-so out port false c (λ p. ap (λ v. v && leads_to (port p) c) (h p)) 16) n

module _ (port : ℕ → Kind) (t : Tree) (up : ℕ → ℕ → Bool) (x : Copy) (vlan : ℕ) (came : Came) (out : ℕ → Bool)
    (back : (c : ℕ) → not_to_bridge came c ≡ not_back x.trail c) (links : (c : ℕ) → not (none_below port c 16) ≡ up x.at c) (beyond : (c : ℕ) → 128 ≤ c → up x.at c ≡ false) where
  passes-by : (k : Place) → ((p : ℕ) → out p ≡ out_by port x.at t vlan came k p) → (c : ℕ) → passes out port c 16 ≡ (goes_to x.at t came k c && up x.at c)
  passes-by k h c = passes-so out port (goes_to x.at t came k c) c (λ p. ap (λ v. v && leads_to (port p) c) (h p) ∙ out_leads port x.at t vlan came k c p) 16 ∙
      ap (λ v. goes_to x.at t came k c && v) (links c)

  may_so : (c : ℕ) → (may_go_to x.at t came c && up x.at c) ≡ (joined t x.at c && (up x.at c && not_back x.trail c))
  may_so c = let b = back c in shuffle (joined t x.at c) (not_to_bridge came c) (not_back x.trail c) (up x.at c) b
    where
      shuffle : (j a b u : Bool) → a ≡ b → ((j && a) && u) ≡ (j && (u && b))
      shuffle j a b u e = grind (arith, nat_tests)

  -- copies go on just as in the net
  pub sent_so : (k : Place) (pl : Plug) → ((p : ℕ) → out p ≡ out_by port x.at t vlan came k p) → sent_on out port x 128 ≡ toward t up x (where_is x.at pl k) 128
  sent_so Nowhere pl h = sent_floods out port t up x (λ c. passes-by Nowhere h c ∙ may_so c) 128
  sent_so (AtPort i) pl h = sent_none out port x (passes-by (AtPort i) h) 128 ∙
      cond_both (eqb pl.bridge x.at && eqb pl.port i) Here (Behind x.at) (λ k. [] ≡ toward t up x k 128) (λ _. refl) (λ _. rw (eq-eqb x.at x.at refl))
  sent_so (Toward d) pl h = sent_one out port x d (joined t x.at d && (up x.at d && not_back x.trail d)) (λ c. passes-by (Toward d) h c ∙ only c) 128 ∙
      ap (λ v. cond v (copy_to x d ∷ []) []) inside
    where
      only : (c : ℕ) → ((eqb d c && may_go_to x.at t came c) && up x.at c) ≡ (eqb d c && (joined t x.at d && (up x.at d && not_back x.trail d)))
      only c = elim (ℕ_discrete d c) [
        | yes q ↦ subst (λ c. ((eqb d c && may_go_to x.at t came c) && up x.at c) ≡ (eqb d c && (joined t x.at d && (up x.at d && not_back x.trail d)))) q (rw (eq-eqb d d refl) (may_so d))
        | no k ↦ rw (ne_eqb d c k)
      ]

      inside : (ltb d 128 && (joined t x.at d && (up x.at d && not_back x.trail d))) ≡ (joined t x.at d && (up x.at d && not_back x.trail d))
      inside = let b = beyond d in grind (arith, nat_tests, b)

-- each copy that goes on is to a bridge, and comes from one
pub sent_mem : (out : ℕ → Bool) (port : ℕ → Kind) (x y : Copy) (n : ℕ) → Memᴰ y (sent_on out port x n) → (c : ℕ) × (c < n) × (y ≡ copy_to x c)
unfolding sent_on
sent_mem out port x y zero m = absurd (Memᴰ.not-nil m)
sent_mem out port x y (suc c) m = cond_both (passes out port c 16) (copy_to x c ∷ sent_on out port x c) (sent_on out port x c) (λ ys. Memᴰ y ys → (d : ℕ) × (d < suc c) × (y ≡ copy_to x d))
    (λ _ m. elim (Memᴰ.cases_cons m) [ inl e ↦ (c, last, e) | inr m' ↦ wider (sent_mem out port x y c m') ]) (λ _ m. wider (sent_mem out port x y c m)) m
  where
    last : c < suc c
    last = omega arith

    wider : (d : ℕ) × (d < c) × (y ≡ copy_to x d) → (d : ℕ) × (d < suc c) × (y ≡ copy_to x d)
    wider h = let lt = h.1 in (h.0, omega arith, h.2)
