-- The message that leaves is the first of all that wait, and of acknowledgements only the newest wait.
use Rattle.std.proofs.Common.{◌≡◌, ℕ, zero, suc, ◌+◌, ◌<◌, ◌≤◌, Bool, true, false, cond, ◌⊎◌, List, [], ◌∷◌, Some, None, Option, sym, refl, ap, ◌∙◌, subst, inl, inr, arith, eq-eqb}
use mathlib.Core.List.Memᴰ
use mathlib.Core.List.{Memᴰ}
use native.Mathlib.Decide.{ℕ_discrete, dec_lt}
use Rattle.std.proofs.lemmas.Bool.Decides.{nat_tests}
use Rattle.pending.specs.Tables.{noted}
use Rattle.pending.specs.Acks.{later, higher}
use Rattle.pending.specs.Waits.{Waits, Message, or_else, lowest}
use Rattle.pending.specs.Words.{at, LowestFirst, NoneLeft, note_all, OnlyNewest, OnlyTheNewest}

apart : {m : Message} {A : Type 0} → ◌≡◌ {A = Option Message} None (Some m) → A
apart e = absurd (grind arith)

either : (x y : Option Message) (m : Message) → or_else x y ≡ Some m → (x ≡ Some m) ⊎ ((x ≡ None) × (y ≡ Some m))
either None y m e = inr (refl, e)
either (Some x) y m e = inl e

neither : (x y : Option Message) → or_else x y ≡ None → (x ≡ None) × (y ≡ None)
neither None y e = (refl, e)
neither (Some x) y e = apart (sym e)

record Found (f : ℕ → Option Message) (k : ℕ) (m : Message) : Type 0 where
  place : ℕ
  low : k ≤ place
  here : f place ≡ Some m
  below : (j : ℕ) → k ≤ j → j < place → f j ≡ None

found : (f : ℕ → Option Message) (k n : ℕ) (m : Message) → lowest f k n ≡ Some m → Found f k m
unfolding lowest
found f k zero m e = apart e
found f k (suc n) m e =
    elim (either (f k) (lowest f (k + 1) n) m e) [
      | inl h ↦ record { place = k; low = omega arith; here = h; below = λ j p q. absurd (omega arith) }
      | inr h ↦ let r = found f (k + 1) n m h.1 in
          record { place = r.place; low = let l = r.low in omega arith; here = r.here; below = λ j p q. elim (ℕ_discrete k j) [ yes s ↦ sym (ap f s) ∙ h.0 | no s ↦ r.below j (omega arith) q ] }
    ]

nowhere : (f : ℕ → Option Message) (k n : ℕ) → lowest f k n ≡ None → (j : ℕ) → k ≤ j → j < k + n → f j ≡ None
unfolding lowest
nowhere f k zero e j p q = absurd (omega arith)
nowhere f k (suc n) e j p q =
    let h = neither (f k) (lowest f (k + 1) n) e in
    elim (ℕ_discrete k j) [ yes s ↦ sym (ap f s) ∙ h.0 | no s ↦ nowhere f (k + 1) n h.1 j (omega arith) (omega arith) ]

-- nothing of a kind below this one waits
abbrev Passed : Waits → ℕ → Type 0
Passed w kind = (k : ℕ) → k < kind → (b : ℕ) → b < 128 → at w k b ≡ None

more : (w : Waits) (kind : ℕ) → Passed w kind → lowest (at w kind) 0 128 ≡ None → Passed w (kind + 1)
more w kind p e k lt b h = elim (ℕ_discrete kind k) [ yes s ↦ subst (λ i. at w i b ≡ None) s (nowhere (at w kind) 0 128 e b (omega arith) (omega arith)) | no s ↦ p k (omega arith) b h ]

abbrev First : Waits → Message → Type 0
First w m = (kind : ℕ) × (bridge : ℕ) × (at w kind bridge ≡ Some m) × ((k b : ℕ) (n : Message) → b < 128 → at w k b ≡ Some n → (kind < k) ⊎ ((kind ≡ k) × (bridge ≤ b)))

chosen : (w : Waits) (kind : ℕ) (m : Message) → Passed w kind → Found (at w kind) 0 m → First w m
chosen w kind m p r = (
  kind,
  r.place,
  r.here,
  λ k b n h e.
      elim (dec_lt k kind) [
        | yes lt ↦ apart (sym (p k lt b h) ∙ e)
        | no ge ↦ elim (ℕ_discrete kind k) [
          | no s ↦ inl (omega arith)
          | yes s ↦ inr (s, elim (dec_lt b r.place) [ yes lt ↦ apart (sym (r.below b (omega arith) lt) ∙ ap (λ i. at w i b) s ∙ e) | no q ↦ omega arith ])
        ]
      ],
)

no_hello : (w : Waits) → at w 0 0 ≡ None → Passed w 1
no_hello w e k lt b h = let z : 0 ≡ k = omega arith in subst (λ i. at w i b ≡ None) z e

pub lowest-first : LowestFirst
lowest-first w m e =
    elim (either (at w 0 0) _ m e) [
      | inl h ↦ chosen w 0 m (λ k lt b _. absurd (omega arith)) (record { place = 0; low = omega arith; here = h; below = λ j _ lt. absurd (omega arith) })
      | inr r1 ↦ let p1 = no_hello w r1.0 in elim (either (lowest (at w 1) 0 128) _ m r1.1) [
        | inl h ↦ chosen w 1 m p1 (found (at w 1) 0 128 m h)
        | inr r2 ↦ let p2 = more w 1 p1 r2.0 in elim (either (lowest (at w 2) 0 128) _ m r2.1) [
          | inl h ↦ chosen w 2 m p2 (found (at w 2) 0 128 m h)
          | inr r3 ↦ let p3 = more w 2 p2 r3.0 in elim (either (lowest (at w 3) 0 128) _ m r3.1) [
            | inl h ↦ chosen w 3 m p3 (found (at w 3) 0 128 m h)
            | inr r4 ↦ chosen w 4 m (more w 3 p3 r4.0) (found (at w 4) 0 128 m r4.1)
          ]
        ]
      ]
    ]

beyond : (w : Waits) (k b : ℕ) → 5 ≤ k → at w k b ≡ None
beyond w zero b h = absurd (omega arith)
beyond w (suc zero) b h = absurd (omega arith)
beyond w (suc (suc zero)) b h = absurd (omega arith)
beyond w (suc (suc (suc zero))) b h = absurd (omega arith)
beyond w (suc (suc (suc (suc zero)))) b h = absurd (omega arith)
beyond w (suc (suc (suc (suc (suc k))))) b h = refl

pub none_left : NoneLeft
none_left w e k b h =
    let r1 = neither (at w 0 0) (or_else (lowest (at w 1) 0 128) (or_else (lowest (at w 2) 0 128) (or_else (lowest (at w 3) 0 128) (lowest (at w 4) 0 128)))) e in
    let r2 = neither (lowest (at w 1) 0 128) (or_else (lowest (at w 2) 0 128) (or_else (lowest (at w 3) 0 128) (lowest (at w 4) 0 128))) r1.1 in
    let r3 = neither (lowest (at w 2) 0 128) (or_else (lowest (at w 3) 0 128) (lowest (at w 4) 0 128)) r2.1 in
    let r4 = neither (lowest (at w 3) 0 128) (lowest (at w 4) 0 128) r3.1 in
    let all : Passed w 5 = more w 4 (more w 3 (more w 2 (more w 1 (no_hello w r1.0) r2.0) r3.0) r4.0) r4.1 in
    elim (dec_lt k 5) [ yes lt ↦ all k lt b h | no ge ↦ beyond w k b (omega arith) ]

-- What "newer" has to be: two that are each not newer than the next are so together, and so are two that are.
record Order {X : Type 0} (newer : X → X → Bool) : Type 0 where
  self : (x : X) → newer x x ≡ false
  up : (x y z : X) → newer x y ≡ true → newer x z ≡ false → newer y z ≡ false
  down : (x y z : X) → newer x y ≡ false → newer y z ≡ false → newer x z ≡ false

record Best {X : Type 0} (newer : X → X → Bool) (t : ℕ → Option X) (b : ℕ) (s : X) (xs : List X) : Type 0 where
  best : X
  waits : note_all newer b xs t b ≡ Some best
  one : Memᴰ best (s ∷ xs)
  none : (y : X) → Memᴰ y (s ∷ xs) → newer y best ≡ false

-- one more comes, where s waits
noted_here : {X : Type 0} (newer : X → X → Bool) (t : ℕ → Option X) (b : ℕ) (s x : X) → t b ≡ Some s → noted newer b x t b ≡ Some (cond (newer x s) x s)
noted_here newer t b s x e = rw (eq-eqb b b refl) (rw e refl)

best : {X : Type 0} (newer : X → X → Bool) → Order newer → (t : ℕ → Option X) (b : ℕ) (s : X) (xs : List X) → t b ≡ Some s → Best newer t b s xs
best newer o t b s [] e = record { best = s; waits = e; one = Memᴰ.head refl; none = λ y m. elim (Memᴰ.cases_cons m) [ inl q ↦ ap (λ z. newer z s) q ∙ o.self s | inr r ↦ absurd (Memᴰ.not-nil r) ] }
best newer o t b s (x ∷ xs) e = go (newer x s) refl (λ s' f. best newer o (noted newer b x t) b s' xs f)
  where
    go : (c : Bool) → newer x s ≡ c → ((s' : _) → noted newer b x t b ≡ Some s' → Best newer (noted newer b x t) b s' xs) → Best newer t b s (x ∷ xs)
    go true q ih =
        let r = ih x (noted_here newer t b s x e ∙ ap (λ c. Some (cond c x s)) q) in
        let newest = r.best in
        record {
          best = newest;
          waits = r.waits;
          one = Memᴰ.tail r.one;
          none = λ y m. elim (Memᴰ.cases_cons m) [
            | inl h ↦ ap (λ z. newer z newest) h ∙ o.up x s newest q (r.none x (Memᴰ.head refl))
            | inr n ↦ r.none y n
          ];
        }
    go false q ih =
        let r = ih s (noted_here newer t b s x e ∙ ap (λ c. Some (cond c x s)) q) in
        let newest = r.best in
        let still : newer s newest ≡ false = r.none s (Memᴰ.head refl) in
        record {
          best = newest;
          waits = r.waits;
          one = elim (Memᴰ.cases_cons r.one) [ inl h ↦ Memᴰ.head h | inr n ↦ Memᴰ.tail (Memᴰ.tail n) ];
          none = λ y m. elim (Memᴰ.cases_cons m) [
            | inl h ↦ ap (λ z. newer z newest) h ∙ still
            | inr n ↦ elim (Memᴰ.cases_cons n) [
              | inl h ↦ ap (λ z. newer z newest) h ∙ o.down x s newest q still
              | inr k ↦ r.none y (Memᴰ.tail k)
            ]
          ];
        }

only_newest : {X : Type 0} (newer : X → X → Bool) → Order newer → OnlyNewest newer
only_newest newer o t b x xs e =
    let r = best newer o (noted newer b x t) b x xs (rw (eq-eqb b b refl) (rw e refl)) in
    (r.best, r.waits, r.one, r.none)

later-order : Order later
later-order = record { self = λ x. grind (arith, nat_tests); up = λ x y z p q. grind (arith, nat_tests); down = λ x y z p q. grind (arith, nat_tests) }

higher-order : Order higher
higher-order = record { self = λ x. grind (arith, nat_tests); up = λ x y z p q. grind (arith, nat_tests); down = λ x y z p q. grind (arith, nat_tests) }

pub only_the_newest : OnlyTheNewest
only_the_newest = (only_newest later later-order, only_newest higher higher-order)
