-- What stays true of a net of bridges by itself: each has its own number, its tables are in order, it has no older tree without a newest one, and copies are under way from a bridge to a bridge.
use Rattle.std.proofs.Common.{◌≡◌, ℕ, suc, ◌<◌, Bool, true, cond, List, ◌∷◌, ◌++◌, Option, sym, refl, subst, inl, inr, arith}
use mathlib.Core.List.Memᴰ
use mathlib.Core.List.{Memᴰ}
use Rattle.trees.specs.Tree.{Tree}
use Rattle.bridges.specs.Net.{Copy, copy_to, without, at}
use Rattle.std.proofs.lemmas.Bool.{cond_both}
use Rattle.bridges.proofs.Changes.{without-mem}
use Rattle.fdb.specs.declared.entry.Location.{Location}
use Rattle.fdb.specs.Entries.{ascending}
use Rattle.fdb.proofs.Ordered.{learned-ascending, ascending-remembered}
use Rattle.ports.specs.declared.port.Port.{Port}
use Rattle.ports.specs.declared.port.Link.{Link}
use Rattle.ports.specs.Ports.{Kind}
use Rattle.ports.specs.Places.{Came, ByPort}
use Rattle.forwarding.specs.State.{State, is_tree, adopted, aged_state, crashed, started, linked}
use Rattle.forwarding.specs.Replies.{Way, Refuse, Newest, Older, none, after, may_link, relinked}
use Rattle.network.specs.Network.{Network, Steps, announces, adopts, links, ages, crashes, plugs, sends, comes, loses, Reached, first, then, sent_on, handled, locate, first_copy, track_of, came_from}
use Rattle.network.proofs.Tests.{by_eq}
use Rattle.network.proofs.Onward.{sent_mem}

pub record Kept (b : ℕ) (s : State) : Type 0 where
  pub numbered : s.number ≡ b
  pub newest-sorted : ascending s.newest.table.entries ≡ true
  pub older-sorted : ascending s.older.table.entries ≡ true
  pub older-last : none s.newest.tree ≡ true → none s.older.tree ≡ true

pub record Flies (x : Copy) : Type 0 where
  pub inside : x.at < 128
  pub last : ℕ
  pub before : List ℕ
  pub is : x.trail ≡ last ∷ before

pub record Steady (n : Network) : Type 0 where
  pub kept : (b : ℕ) → Kept b (n.bridge b)
  pub flies : (x : Copy) → Memᴰ x n.flying → Flies x

kept-started : (b : ℕ) (ports : List Port) → Kept b (started b ports)
unfolding ascending
kept-started b ports = record { numbered = refl; newest-sorted = refl; older-sorted = refl; older-last = λ _. refl }

kept-adopted : (b : ℕ) (t : Tree) (s : State) → Kept b s → Kept b (adopted t s)
unfolding ascending
kept-adopted b t s k = cond_both (is_tree t.number s.newest.tree) s _ (Kept b) (λ _. k)
    (λ _. record { numbered = k.numbered; newest-sorted = refl; older-sorted = k.newest-sorted; older-last = λ e. absurd (grind arith) })

kept-relinked : (b p : ℕ) (l : Option Link) (s : State) → Kept b s → Kept b (relinked p l s)
kept-relinked b p l s k = cond_both (may_link p s) (linked p l s) s (Kept b) (λ _. record { numbered = k.numbered; newest-sorted = k.newest-sorted; older-sorted = k.older-sorted; older-last = k.older-last }) (λ _. k)

kept-aged : (b tick : ℕ) (s : State) → Kept b s → Kept b (aged_state tick s)
kept-aged b tick s k = record {
  numbered = k.numbered;
  newest-sorted = ascending-remembered tick s.newest.table.entries k.newest-sorted;
  older-sorted = ascending-remembered tick s.older.table.entries k.older-sorted;
  older-last = k.older-last;
}

kept-crashed : (b : ℕ) (s : State) → Kept b s → Kept b (crashed s)
unfolding ascending
kept-crashed b s k = record { numbered = k.numbered; newest-sorted = refl; older-sorted = refl; older-last = λ _. refl }

kept-after : (b : ℕ) (way : Way) (l : Location) (from to tick : ℕ) (s : State) → Kept b s → Kept b (after way l from to tick s)
kept-after b (Refuse f) l from to tick s k = k
kept-after b Newest l from to tick s k = record {
  numbered = k.numbered;
  newest-sorted = learned-ascending _ to s.newest.table.entries k.newest-sorted;
  older-sorted = k.older-sorted;
  older-last = k.older-last;
}
kept-after b Older l from to tick s k = record {
  numbered = k.numbered;
  newest-sorted = k.newest-sorted;
  older-sorted = learned-ascending _ to s.older.table.entries k.older-sorted;
  older-last = k.older-last;
}

-- one bridge changes
kept_at : (n : Network) (b : ℕ) (s : State) → Steady n → Kept b s → (c : ℕ) → Kept c (at b s n.bridge c)
kept_at n b s i k c = by_eq c b (λ c v. Kept c (cond v s (n.bridge c))) k (λ _. i.kept c)

-- a frame is handled: the copies that go on come from its bridge
flies-on : (x : Copy) (out : ℕ → Bool) (port : ℕ → Kind) (flying : List Copy) → ((y : Copy) → Memᴰ y flying → Flies y) → (y : Copy) → Memᴰ y (sent_on out port x 128 ++ flying) → Flies y
flies-on x out port flying h y m = elim (Memᴰ.append_cases (sent_on out port x 128) m) [ inl m' ↦ new (sent_mem out port x y 128 m') | inr m' ↦ h y m' ]
  where
    new : (c : ℕ) × (c < 128) × (y ≡ copy_to x c) → Flies y
    new e = subst Flies (sym e.2) (record { inside = e.1; last = x.at; before = x.trail; is = refl })

steady_handled : (n : Network) (way : Way) (came : Came) (x : Copy) (tick : ℕ) (flying : List Copy) (next : ℕ) → Steady n → ((y : Copy) → Memᴰ y flying → Flies y) → Steady (handled n way came x tick flying next)
steady_handled n way came x tick flying next i h = record {
  kept = kept_at n x.at _ i (kept-after x.at way (locate came) x.frame.from x.frame.to tick (n.bridge x.at) (i.kept x.at));
  flies = flies-on x _ _ flying h;
}

steady_step : {n m : Network} → Steady n → Steps n m → Steady m
steady_step i (announces t e) = record { kept = i.kept; flies = i.flies }
steady_step {n} i (adopts b t lt known good) = record { kept = kept_at n b _ i (kept-adopted b t (n.bridge b) (i.kept b)); flies = i.flies }
steady_step {n} i (links b p l lt) = record { kept = kept_at n b _ i (kept-relinked b p l (n.bridge b) (i.kept b)); flies = i.flies }
steady_step {n} i (ages b tick lt) = record { kept = kept_at n b _ i (kept-aged b tick (n.bridge b) (i.kept b)); flies = i.flies }
steady_step {n} i (crashes b lt) = record { kept = kept_at n b _ i (kept-crashed b (n.bridge b) (i.kept b)); flies = i.flies }
steady_step i (plugs q w) = record { kept = i.kept; flies = i.flies }
steady_step {n} i (sends q to tick lt here lq lto same has) = steady_handled n Newest (ByPort (n.plug q).port) (first_copy n (n.plug q).bridge q to) tick n.flying (suc n.next) i i.flies
steady_step {n} i (comes j tick x e) = steady_handled n (track_of (n.bridge x.at) x.frame.tree) (came_from x.trail) x tick (without j n.flying) n.next i (λ y m. i.flies y (without-mem j n.flying m))
steady_step {n} i (loses j) = record { kept = i.kept; flies = λ y m. i.flies y (without-mem j n.flying m) }

pub steady : (ports : ℕ → List Port) {n : Network} → Reached ports n → Steady n
steady ports first = record { kept = λ b. kept-started b (ports b); flies = λ x m. absurd (Memᴰ.not-nil m) }
steady ports (then r s) = steady_step (steady ports r) s
