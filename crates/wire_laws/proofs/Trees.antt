-- Trees, there and back.
use Rattle.std.proofs.Common.{◌≡◌, ℕ, ◌+◌, ◌-◌, ◌*◌, ◌^◌, ◌<◌, true, List, ◌∷◌, ◌++◌, length, get_or, take, drop, None, sym, refl, ap, ◌∙◌, subst, arith, length-append, length-drop, get_or-append-add}
use mathlib.Core.Bool.{Bool-set}
use Rattle.crc.specs.Burst.{Bytes}
use native.Mathlib.Bridge.{le_prop}
use Rattle.std.proofs.lemmas.List.{get_or_append_left, get_or-drop, get_or-take, length-take-le, ext_get_or}
use Rattle.crc.specs.Crc.{crc_of}
use Rattle.trees.specs.Tree.{looks}
use Rattle.trees.specs.Ids.{id_number}
use Rattle.trees.specs.Shapes.{shaped, Named}
use Rattle.trees.specs.declared.tree_id.TreeId.{TreeId}
use Rattle.trees.specs.declared.spanning_tree.Tree.{Tree}
use Rattle.wire.specs.Bytes.{in_four, whole, with_sum}
use Rattle.wire.specs.TreeIds.{TreeIdSays}
use Rattle.messages.specs.TreeBytes.{parents_in, depths_in, tree_fault, TreeSays, paired, tree_head, tree_bytes}
use Rattle.messages.proofs.Columns.{length-row, get_or-row}
use Rattle.wire.proofs.Rows.{length_pairs, get_or-pairs, pairs_are}
use Rattle.messages.proofs.Grown.{tree_read}
use Rattle.wire_laws.specs.RoundTrips.{RoundTrip, TreeFits}
use Rattle.wire_laws.proofs.Numbers.{three_back, four-back, take-front, take_split}
use Rattle.wire_laws.proofs.TreeNumbers.{one_id, id_bytes}
use Rattle.wire_laws.proofs.Whole.{is_whole, whole_is, whole_of, summed-is}

says_id : (t : Tree) → t.id.seq < 2 ^ 32 → TreeIdSays (tree_bytes t) 1 t.id
says_id t h = record { seq = sym (four-back t.id.seq h); announcer = refl; nonce = sym (three_back t.id.nonce t.id.three_bytes) }

-- the pairs behind the head
cell : (t : Tree) (j : ℕ) → j < 256 → get_or (tree_bytes t) (9 + j) 0 ≡ get_or (paired t.parent t.depth) j 0
cell t j h =
    let ps = paired t.parent t.depth in
    let s = in_four (crc_of (tree_head t.id ++ ps)) in
    let l : length ps ≡ 256 = length_pairs (λ k. get_or t.parent k 0) (λ k. get_or t.depth k 0) 0 128 in
    get_or-append-add (tree_head t.id) (ps ++ s) j 0 ∙ get_or_append_left ps s 0 j (omega arith)

says_parent : (t : Tree) → length t.parent ≡ 128 → t.parent ≡ parents_in (tree_bytes t)
says_parent t l = ext_get_or 0 t.parent (parents_in b) (l ∙ sym (length-row b 9 128)) each where
  b : List ℕ
  b = tree_bytes t

  each : (k : ℕ) → k < length t.parent → get_or t.parent k 0 ≡ get_or (parents_in b) k 0
  each k h =
      let s : k < 128 = omega arith in
      let z : 0 + k ≡ k = omega arith in
      sym (get_or-row b 9 128 k s ∙ cell t (2 * k) (omega arith) ∙ (get_or-pairs (λ k. get_or t.parent k 0) (λ k. get_or t.depth k 0) 0 128 k s).0
      ∙ ap (λ j. get_or t.parent j 0) z)

says_depth : (t : Tree) → length t.depth ≡ 128 → t.depth ≡ depths_in (tree_bytes t)
says_depth t l = ext_get_or 0 t.depth (depths_in b) (l ∙ sym (length-row b 10 128)) each where
  b : List ℕ
  b = tree_bytes t

  each : (k : ℕ) → k < length t.depth → get_or t.depth k 0 ≡ get_or (depths_in b) k 0
  each k h =
      let s : k < 128 = omega arith in
      let z : 0 + k ≡ k = omega arith in
      let p : 10 + 2 * k ≡ 9 + (2 * k + 1) = omega arith in
      sym (get_or-row b 10 128 k s ∙ ap (λ j. get_or b j 0) p ∙ cell t (2 * k + 1) (omega arith)
      ∙ (get_or-pairs (λ k. get_or t.parent k 0) (λ k. get_or t.depth k 0) 0 128 k s).1 ∙ ap (λ j. get_or t.depth j 0) z)

comes_back : (t : Tree) → TreeFits t → (tree_fault (tree_bytes t) ≡ None) × TreeSays (tree_bytes t) t
comes_back t (s, p, d) =
    let ps = paired t.parent t.depth in
    let body = tree_head t.id ++ ps in
    let l : length (tree_bytes t) ≡ 269 =
    length-append body (in_four (crc_of body))
    ∙ (let e = length-append (tree_head t.id) ps in let f = length_pairs (λ k. get_or t.parent k 0) (λ k. get_or t.depth k 0) 0 128 in omega arith) in
    tree_read (tree_bytes t) t.id t (is_whole 4 269 body l refl) t.id.announcer.ok (says_id t s) refl (says_parent t p) (says_depth t d)

same_bytes : (b : List ℕ) (t : Tree) → Bytes b → tree_fault b ≡ None → TreeSays b t → tree_bytes t ≡ b
same_bytes b t h e s =
    let w : whole 4 269 b ≡ true = whole_of (whole 4 269 b) _ _ e in
    let l : length b ≡ 269 = (whole_is 4 269 b w).0 in
    let k : get_or b 0 0 ≡ 4 = (whole_is 4 269 b w).1 in
    let xs = take 256 (drop 9 b) in
    let lx : length xs ≡ 2 * 128 = length-take-le 256 (drop 9 b) (simp length-drop (omega arith)) in
    let head : tree_head t.id ≡ take 9 b = (λ j. sym k j ∷ id_bytes b 1 t.id h s.id j) ∙ sym (take-front 9 0 b (omega arith)) in
    let cells : xs ≡ paired t.parent t.depth =
    pairs_are xs (λ k. get_or t.parent k 0) (λ k. get_or t.depth k 0) 128 lx
    (λ k q. get_or-take 256 (drop 9 b) (2 * k) 0 (omega arith) ∙ get_or-drop 9 b (2 * k) 0 ∙ sym (get_or-row b 9 128 k q) ∙ ap (λ r. get_or r k 0) (sym s.parent))
    (λ k q. get_or-take 256 (drop 9 b) (2 * k + 1) 0 (omega arith) ∙ get_or-drop 9 b (2 * k + 1) 0
    ∙ ap (λ j. get_or b j 0) (let z : 9 + (2 * k + 1) ≡ 10 + 2 * k = omega arith in z) ∙ sym (get_or-row b 10 128 k q)
    ∙ ap (λ r. get_or r k 0) (sym s.depth)) in
    let n : length b - 4 ≡ 265 = omega arith in
    (λ j. with_sum (head j ++ sym cells j))
    ∙ ap with_sum (sym (ap (λ m. take m b) n ∙ take_split 9 256 b (omega arith))) ∙ sym (summed-is b h (whole_is 4 269 b w).2)

-- a tree is its number, parents and depths
same_tree : (s t : Tree) → s.id ≡ t.id → s.parent ≡ t.parent → s.depth ≡ t.depth → s ≡ t
same_tree s t p q r = along t.id t.parent t.depth p q r t.named t.shape
  where
    here : (n : Named s.parent) (l : looks 128 (shaped (id_number s.id) s.parent s.depth) ≡ true)
        → s ≡ record { id = s.id; parent = s.parent; depth = s.depth; named = n; shape = l }
    here n l = λ i. record {
      id = s.id;
      parent = s.parent;
      depth = s.depth;
      named = λ b h. le_prop (s.named b h) (n b h) i;
      shape = Bool-set (looks 128 (shaped (id_number s.id) s.parent s.depth)) true s.shape l i;
    }

    along : (i : TreeId) (ps ds : List ℕ) → s.id ≡ i → s.parent ≡ ps → s.depth ≡ ds → (n : Named ps)
        (l : looks 128 (shaped (id_number i) ps ds) ≡ true) → s ≡ record { id = i; parent = ps; depth = ds; named = n; shape = l }
    along i ps ds a b c =
        subst (λ j. (n : Named ps) (l : looks 128 (shaped (id_number j) ps ds) ≡ true) → s ≡ record { id = j; parent = ps; depth = ds; named = n; shape = l }) a
        (subst (λ v. (n : Named v) (l : looks 128 (shaped (id_number s.id) v ds) ≡ true) → s ≡ record { id = s.id; parent = v; depth = ds; named = n; shape = l }) b
        (subst (λ v. (n : Named s.parent) (l : looks 128 (shaped (id_number s.id) s.parent v) ≡ true)
        → s ≡ record { id = s.id; parent = s.parent; depth = v; named = n; shape = l }) c here))

one_message : (b : List ℕ) (s t : Tree) → TreeSays b s → TreeSays b t → s ≡ t
one_message b s t p q =
    same_tree s t (one_id b 1 s.id t.id p.id q.id) (p.parent ∙ sym q.parent) (p.depth ∙ sym q.depth)

pub trees : RoundTrip Tree TreeFits tree_fault TreeSays tree_bytes
trees = record {
  comes_back = comes_back;
  same_bytes = same_bytes;
  different = λ m n h k e. one_message (tree_bytes m) m n (comes_back m h).1 (subst (λ b. TreeSays b n) (sym e) (comes_back n k).1);
}
