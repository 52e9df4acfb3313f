-- When a tree in bytes is one, and why not.
use Rattle.std.proofs.Common.{◌≡◌, ℕ, zero, suc, ◌+◌, ◌*◌, ◌^◌, ◌<◌, ◌≤◌, Bool, true, false, cond, ◌&&◌, ltb, List, [], ◌∷◌, length, get_or, Some, None, sym, refl, ap, ◌∙◌, subst, arith, le-ltb, lt-ltb}
use Rattle.trees.specs.Tree.{all_below, looks}
use Rattle.trees.specs.Ids.{id_number}
use Rattle.trees.specs.Shapes.{shaped, Named}
use Rattle.trees.specs.Meanings.{Refused}
use Rattle.trees.specs.declared.spanning_tree.Tree.{Tree}
use Rattle.trees.specs.declared.tree_id.TreeId.{TreeId}
use Rattle.trees.specs.declared.shape.TreeFault.{TreeFault}
use Rattle.trees.specs.declared.shape.TreeFault.TheVariants.{NoSuchBridge, NotATree}
use Rattle.wire.specs.declared.fault.Fault.TheVariants as wire
use Rattle.wire.specs.Bytes.{whole}
use Rattle.wire.specs.TreeIds.{TreeIdSays}
use Rattle.wire.specs.Faults.{fault_of}
use Rattle.messages.specs.TreeBytes.{parents_in, depths_in, number_in, tree_fault, TreeSays}
use Rattle.messages.proofs.Columns.{length-row}

all_below_lem : (m : ℕ) (xs : List ℕ) → ((k : ℕ) → k < length xs → get_or xs k 0 < m) → all_below m xs ≡ true
unfolding all_below
all_below_lem m [] h = refl
all_below_lem m (x ∷ xs) h =
    let e : ltb x m ≡ true = lt-ltb x m (h 0 (omega arith)) in
    ap (λ t. t && all_below m xs) e ∙ all_below_lem m xs (λ k l. h (suc k) (omega arith))

some_above : (m : ℕ) (xs : List ℕ) (k : ℕ) → k < length xs → m ≤ get_or xs k 0 → all_below m xs ≡ false
unfolding all_below
some_above m [] k l h = absurd (omega arith)
some_above m (x ∷ xs) zero l h = ap (λ t. t && all_below m xs) (le-ltb x m h)
some_above m (x ∷ xs) (suc k) l h = ap (λ t. ltb x m && t) (some_above m xs k (omega arith) h) ∙ and_false (ltb x m) where
  and_false : (t : Bool) → t && false ≡ false
  and_false true = refl
  and_false false = refl

-- what a reader says at its place, said of the bytes
pub says_here : {t : TreeId} {b c : List ℕ} {i j : ℕ} → b ≡ c → i ≡ j → TreeIdSays b i t → TreeIdSays c j t
says_here {t} {b} {c} {i} {j} e p s = subst (λ k. TreeIdSays c k t) p (subst (λ x. TreeIdSays x i t) e s)

number_is : (b : List ℕ) (t : TreeId) → TreeIdSays b 1 t → id_number t ≡ number_in b
number_is b t s = λ i. (s.seq i * 256 + s.announcer i) * 2 ^ 24 + s.nonce i

-- the tests of a message that is whole, one after the other
by_tests : (b : List ℕ) (p q : Bool) → whole 4 269 b ≡ true → get_or b 5 0 < 128 → all_below 128 (parents_in b) ≡ p
    → looks 128 (shaped (number_in b) (parents_in b) (depths_in b)) ≡ q
    → tree_fault b ≡ cond p (cond q None (Some wire.NotATree)) (Some wire.NotThere)
by_tests b p q w l ep eq =
    (λ i. cond (w i) (cond (lt-ltb (get_or b 5 0) 128 l i && ep i) (cond (eq i) None (Some wire.NotATree)) (Some wire.NotThere)) (Some wire.Malformed))

pub tree_read : (b : List ℕ) (id : TreeId) (t : Tree) → whole 4 269 b ≡ true → get_or b 5 0 < 128 → TreeIdSays b 1 id → t.id ≡ id → t.parent ≡ parents_in b
    → t.depth ≡ depths_in b → (tree_fault b ≡ None) × TreeSays b t
tree_read b id t w l s ei ep ed =
    let si : TreeIdSays b 1 t.id = subst (TreeIdSays b 1) (sym ei) s in
    let n : Named (parents_in b) = subst Named ep t.named in
    let k : looks 128 (shaped (number_in b) (parents_in b) (depths_in b)) ≡ true =
    sym (λ i. looks 128 (shaped (number_is b t.id si i) (ep i) (ed i))) ∙ t.shape in (
      by_tests b true true w l (all_below_lem 128 (parents_in b) (λ j h. n j (subst (λ m. j < m) (length-row b 9 128) h))) k,
      record { id = si; parent = ep; depth = ed },
    )

pub tree_refused : (b : List ℕ) (id : TreeId) (e : TreeFault) → whole 4 269 b ≡ true → get_or b 5 0 < 128 → TreeIdSays b 1 id
    → Refused (id_number id) (parents_in b) (depths_in b) e → tree_fault b ≡ Some (fault_of e)
tree_refused b id NoSuchBridge w l s (k, h, g) =
    by_tests b false (looks 128 (shaped (number_in b) (parents_in b) (depths_in b))) w l
    (some_above 128 (parents_in b) k (subst (λ m. k < m) (sym (length-row b 9 128)) h) g) refl
tree_refused b id NotATree w l s (n, f) =
    by_tests b true false w l (all_below_lem 128 (parents_in b) (λ j h. n j (subst (λ m. j < m) (length-row b 9 128) h)))
    (ap (λ m. looks 128 (shaped m (parents_in b) (depths_in b))) (sym (number_is b id s)) ∙ f)
