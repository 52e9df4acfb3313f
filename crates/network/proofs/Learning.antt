-- A bridge forgets stations, for age or for want of room.
use Rattle.std.proofs.Common.{◌≡◌, ℕ, ◌<◌, Bool, true, false, cond, ◌&&◌, List, ◌++◌, is_some, Some, None, Option, sym, refl, ap, ◌∙◌, subst, inl, inr, arith}
use Rattle.std.proofs.lemmas.Bool.Decides.{nat_tests}
use Rattle.std.proofs.lemmas.Bool.{eq-eqb, ne_eqb}
use Rattle.trees.specs.Tree.{is_in}
use Rattle.bridges.specs.Net.{Where, Unknown, World, Found, NoTree, This}
use Rattle.bridges.specs.Fabric.{Event}
use Rattle.fdb.specs.declared.entry.Entry.{Entry}
use Rattle.fdb.specs.Entries.{find}
use Rattle.fdb.specs.Contents.{Contents}
use Rattle.ports.specs.Places.{Place, Nowhere, AtPort, Toward}
use Rattle.forwarding.specs.State.{Slot, State, is_tree, look_in}
use Rattle.network.specs.Network.{Network, Plug}
use Rattle.network.specs.Simulation.{place_in, where_is, Simulates}
use Rattle.network.proofs.Tests.{by_test}
use Rattle.network.proofs.Tables.{look, found, Fades, nowhere, gone, gone-so}
use Rattle.network.proofs.Worlds.{follow, follow-append, relearnt, forgets_in, forgot_in, forgets_so}
use Rattle.network.proofs.Standing.{with_bridge, View, view, whole, homes_stay}

-- a bridge with other tables
abbrev pub with_tables : State → Contents → Contents → State
with_tables s c d = record { number = s.number; ports = s.ports; newest = record { tree = s.newest.tree; table = c }; older = record { tree = s.older.tree; table = d } }

-- what is known along one of two trees
abbrev placed : Bool → Bool → Place → Place → Place
placed m o p r = cond m p (cond o r Nowhere)

placed-fades : (m o : Bool) (p r p' r' : Place) → Fades p p' → Fades r r' → Fades (placed m o p r) (placed m o p' r')
placed-fades true o p r p' r' f g = f
placed-fades false true p r p' r' f g = g
placed-fades false false p r p' r' f g = inl refl

none_forgotten : (m o i j : Bool) (k : Where) → cond (m && (false && i)) Unknown (cond (o && (false && j)) Unknown k) ≡ k
none_forgotten m o i j k = grind (arith, nat_tests)

-- of one station: what is gone is forgotten, and nothing else
forgotten : (m o i j : Bool) (p r new : Place) (b : ℕ) (pl : Plug) (k : Where) → Fades (placed m o p r) new → (i ≡ false → p ≡ Nowhere) → (j ≡ false → r ≡ Nowhere) →
    where_is b pl (placed m o p r) ≡ k → where_is b pl new ≡ cond (m && (nowhere new && i)) Unknown (cond (o && (nowhere new && j)) Unknown k)
forgotten m o i j p r (AtPort a) b pl k (inl e) f g h = ap (where_is b pl) e ∙ (h ∙ sym (none_forgotten m o i j k))
forgotten m o i j p r (AtPort a) b pl k (inr e) f g h = absurd (grind arith)
forgotten m o i j p r (Toward c) b pl k (inl e) f g h = ap (where_is b pl) e ∙ (h ∙ sym (none_forgotten m o i j k))
forgotten m o i j p r (Toward c) b pl k (inr e) f g h = absurd (grind arith)
forgotten m o i j p r Nowhere b pl k e f g h = none m o i j f g h
  where
    none : (m o i j : Bool) → (i ≡ false → p ≡ Nowhere) → (j ≡ false → r ≡ Nowhere) → where_is b pl (placed m o p r) ≡ k →
        Unknown ≡ cond (m && i) Unknown (cond (o && j) Unknown k)
    none true o true j f g h = refl
    none true true false true f g h = refl
    none true true false false f g h = sym (ap (where_is b pl) (f refl)) ∙ h
    none true false false j f g h = sym (ap (where_is b pl) (f refl)) ∙ h
    none false true i true f g h = refl
    none false true i false f g h = sym (ap (where_is b pl) (g refl)) ∙ h
    none false false i j f g h = h

-- the number of a tree
abbrev number_in : Found → ℕ
number_in NoTree = 0
number_in (This t) = t.number

is_number : (t : ℕ) (tree : Found) → is_tree t tree ≡ true → number_in tree ≡ t
is_number t NoTree e = absurd (grind arith)
is_number t (This u) e = grind (arith, nat_tests)

none_found : (q : ℕ) (es : List Entry) → is_some (find q es) ≡ false → look es q ≡ Nowhere
none_found q es h = go (find q es) h
  where
    go : (e : Option Entry) → is_some e ≡ false → found e ≡ Nowhere
    go None h = refl
    go (Some e) h = absurd (grind arith)

-- what a bridge knew, and what it knows now, by tree and station
module _ (s : State) (new : ℕ → ℕ → Place) where
  -- the stations of which nothing is known any more along the tree of a slot
  pub gone_from : Slot → List ℕ
  gone_from slot = gone (new (number_in slot.tree)) slot.table.entries

  gone-test : (slot : Slot) (t q : ℕ) → (is_tree t slot.tree && is_in q (gone_from slot)) ≡ (is_tree t slot.tree && (nowhere (new t q) && is_some (find q slot.table.entries)))
  unfolding gone_from
  gone-test slot t q = by_test (is_tree t slot.tree) (λ v. (v && is_in q (gone_from slot)) ≡ (v && (nowhere (new t q) && is_some (find q slot.table.entries))))
      (λ e. subst (λ k. is_in q (gone_from slot) ≡ (nowhere (new k q) && is_some (find q slot.table.entries))) (is_number t slot.tree e)
      (gone-so (new (number_in slot.tree)) slot.table.entries q)) (λ _. refl)

  -- once those are forgotten, what is known is what the bridge knows now
  pub gone-told : (b : ℕ) (pl : Plug) (k : Where) (t q : ℕ) → Fades (place_in s t q) (new t q) → where_is b pl (place_in s t q) ≡ k →
      where_is b pl (new t q) ≡ cond (is_tree t s.newest.tree && is_in q (gone_from s.newest)) Unknown (cond (is_tree t s.older.tree && is_in q (gone_from s.older)) Unknown k)
  gone-told b pl k t q f h = rw (gone-test s.newest t q, gone-test s.older t q) (forgotten (is_tree t s.newest.tree) (is_tree t s.older.tree) (is_some (find q s.newest.table.entries)) (is_some (find q s.older.table.entries))
      (look_in s.newest q) (look_in s.older q) (new t q) b pl k f (none_found q s.newest.table.entries) (none_found q s.older.table.entries) h)

-- two tables fade
pub tables-fade : (s : State) (c d : Contents) → ((q : ℕ) → Fades (look_in s.newest q) (look c.entries q)) → ((q : ℕ) → Fades (look_in s.older q) (look d.entries q)) →
    (t q : ℕ) → Fades (place_in s t q) (place_in (with_tables s c d) t q)
tables-fade s c d f g t q = placed-fades (is_tree t s.newest.tree) (is_tree t s.older.tree) _ _ _ _ (f q) (g q)

module _ (n : Network) (b : ℕ) (s : State) (c d : Contents) where
  abbrev goes : Slot → List ℕ
  goes slot = gone_from s (place_in (with_tables s c d)) slot

  -- what is forgotten
  forgets : List Event
  forgets = forgets_in b s.newest.tree (goes s.newest) ++ forgets_in b s.older.tree (goes s.older)

  forgets_world : (w : World) → follow forgets w ≡ relearnt (forgot_in b s.newest.tree (goes s.newest) (forgot_in b s.older.tree (goes s.older) w.learned)) w
  unfolding forgets
  forgets_world w = follow-append (forgets_in b s.newest.tree (goes s.newest)) _ w ∙
      (ap (follow (forgets_in b s.newest.tree (goes s.newest))) (forgets_so b s.older.tree (goes s.older) w) ∙
      forgets_so b s.newest.tree (goes s.newest) (relearnt (forgot_in b s.older.tree (goes s.older) w.learned) w))

  -- a bridge's tables fade: it forgets
  pub forgetting : (w : World) → b < 128 → ((q : ℕ) → Fades (look_in s.newest q) (look c.entries q)) → ((q : ℕ) → Fades (look_in s.older q) (look d.entries q)) →
      Simulates (with_bridge n b s) w → (fs : List Event) × Simulates (with_bridge n b (with_tables s c d)) (follow fs w)
  forgetting w lt f g i = (
    forgets,
    subst (λ u. Simulates (with_bridge n b (with_tables s c d)) u) (sym (forgets_world w)) (whole n b (with_tables s c d) _ (record {
      here = record {
        holds_so = v.here.holds_so;
        held_so = v.here.held_so;
        learned_so = λ t q. rw (eq-eqb b b refl) (gone-told s (place_in (with_tables s c d)) b (n.plug q) (w.learned b t q) t q (tables-fade s c d f g t q) (v.here.learned_so t q));
        links_so = v.here.links_so;
      };
      others = λ e l k. record {
        holds_so = (v.others e l k).holds_so;
        held_so = (v.others e l k).held_so;
        learned_so = λ t q. rw (ne_eqb e b k) ((v.others e l k).learned_so t q);
        links_so = (v.others e l k).links_so;
      };
      home_so = λ q. homes_stay n b s (with_tables s c d) (λ p u. refl) q ∙ v.home_so q;
      trees_so = v.trees_so;
      flying_so = v.flying_so;
      got_so = v.got_so;
      next_so = v.next_so;
    })),
  )
    where
      v : View n b s w
      v = view n b s w lt i
