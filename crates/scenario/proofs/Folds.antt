-- A record, used by no other proof: definitions of specs/ by the library's words mean what recursions, and folds from the left, say.
-- First for any tests and numbers, over the numbers below k or over a list; then for each definition, beside the recursion or the fold.
use Rattle.std.proofs.Common.{◌≡◌, ℕ, zero, suc, ◌+◌, ◌==◌, Bool, true, false, cond, ◌&&◌, ◌||◌, List, [], ◌∷◌, ◌++◌, reverse, replicate, set, Some, None, Option, fold, find, sym, refl, ap, ◌∙◌, arith}
use Rattle.std.specs.List.{range_with_len, list_any, list_all, sum_by}
use Rattle.std.specs.Option.{option_or}
use Rattle.std.proofs.lemmas.Grind.{common_steps}
use Rattle.std.proofs.lemmas.List.Folds.{list_any-append, list_all-append, find-append}
use Rattle.std.proofs.lemmas.List.Sums.{sum_by-append}
use mathlib.Core.List.{reverse-cons}
use Rattle.scan.specs.declared.parts.PortRef.{PortRef}
use Rattle.wiring.specs.declared.boxes.Node.{Node}
use Rattle.wiring.specs.Boxes.{number_at}
use Rattle.trees.specs.declared.spanning_tree.Tree as tree
use Rattle.trees.specs.Tree.{Tree}
use Rattle.trees.specs.Ids.{id_number}
use Rattle.trees.specs.Meanings.{meaning}
use Rattle.ports.specs.Ports.{leads_to}
use Rattle.forwarding.specs.declared.bridge.Bridge.{Bridge}
use Rattle.scenario.specs.declared.travel.Step.{Step}
use Rattle.scenario.specs.Boxes.{holds_newest, all_hold}
use Rattle.scenario.specs.Cables.{on_at, link_kind}
use Rattle.scenario.specs.Forest.{latest_with}
use Rattle.scenario.specs.Links.{at_port}
use Rattle.scenario.specs.Plans.{own_row}
use Rattle.scenario.specs.Player.{is_at_rest}
use Rattle.scenario.specs.Resting.{linked, above_in, hangs, all_hang, is_top, tops, rests_along}
use Rattle.scenario.specs.Travel.{went_by}

abbrev loop_any : ℕ → (ℕ → Bool) → Bool
loop_any zero p = false
loop_any (suc k) p = loop_any k p || p k

abbrev loop_all : ℕ → (ℕ → Bool) → Bool
loop_all zero p = true
loop_all (suc k) p = loop_all k p && p k

abbrev loop_sum : ℕ → (ℕ → ℕ) → ℕ
loop_sum zero f = 0
loop_sum (suc k) f = loop_sum k f + f k

range_more : (a k : ℕ) → range_with_len a (suc k) ≡ range_with_len a k ++ (a + k) ∷ []
range_more a zero = ap (λ n. n ∷ []) (let e : a ≡ a + 0 = omega arith in e)
range_more a (suc k) = ap (λ l. a ∷ l) (range_more (a + 1) k) ∙ ap (λ n. a ∷ (range_with_len (a + 1) k ++ n ∷ [])) (let e : (a + 1) + k ≡ a + suc k = omega arith in e)

last_of : (k : ℕ) → range_with_len 0 (suc k) ≡ range_with_len 0 k ++ k ∷ []
last_of k = range_more 0 k ∙ ap (λ n. range_with_len 0 k ++ n ∷ []) (let e : 0 + k ≡ k = omega arith in e)

pub same_any : (k : ℕ) (p : ℕ → Bool) → loop_any k p ≡ list_any p (range_with_len 0 k)
same_any zero p = refl
same_any (suc k) p =
    let whole : list_any p (range_with_len 0 (suc k)) ≡ (list_any p (range_with_len 0 k) || (p k || false)) = ap (list_any p) (last_of k) ∙ list_any-append p (range_with_len 0 k) (k ∷ []) in
    let before = same_any k p in
    grind (arith, common_steps, whole, before)

pub same_all : (k : ℕ) (p : ℕ → Bool) → loop_all k p ≡ list_all p (range_with_len 0 k)
same_all zero p = refl
same_all (suc k) p =
    let whole : list_all p (range_with_len 0 (suc k)) ≡ (list_all p (range_with_len 0 k) && (p k && true)) = ap (list_all p) (last_of k) ∙ list_all-append p (range_with_len 0 k) (k ∷ []) in
    let before = same_all k p in
    grind (arith, common_steps, whole, before)

pub same_sum : (k : ℕ) (f : ℕ → ℕ) → loop_sum k f ≡ sum_by f (range_with_len 0 k)
same_sum zero f = refl
same_sum (suc k) f =
    let whole : sum_by f (range_with_len 0 (suc k)) ≡ sum_by f (range_with_len 0 k) + sum_by f (k ∷ []) = ap (sum_by f) (last_of k) ∙ sum_by-append f (range_with_len 0 k) (k ∷ []) in
    let before = same_sum k f in
    omega (arith, whole, before)

kept_or : {A : Type 0} (o : Option A) (b : Bool) (x : A) (a : Option A) → option_or o (cond b (Some x) a) ≡ option_or (option_or o (cond b (Some x) None)) a
kept_or None true x a = refl
kept_or None false x a = refl
kept_or (Some y) b x a = refl

pub same_last : {A : Type 0} (p : A → Bool) (xs : List A) (a : Option A) → fold (λ b x. cond (p x) (Some x) b) a xs ≡ option_or (find p (reverse xs)) a
same_last p [] a = refl
same_last p (x ∷ xs) a =
    same_last p xs (cond (p x) (Some x) a) ∙ kept_or (find p (reverse xs)) (p x) x a
    ∙ sym (ap (λ o. option_or o a) (ap (find p) (reverse-cons x xs) ∙ find-append p (reverse xs) (x ∷ [])))

pub same_hears : {A : Type 0} (p : A → Bool) (xs : List A) (b : Bool) → fold (λ h x. h || p x) b xs ≡ (b || list_any p xs)
same_hears p [] b = grind (arith, common_steps)
same_hears p (x ∷ xs) b = let rest = same_hears p xs (b || p x) in grind (arith, common_steps, rest)

-- two recursions with the same clauses are one
same_steps : {A : Type 0} (f g : ℕ → A) (h : A → ℕ → A) → f 0 ≡ g 0 → ((k : ℕ) → f (suc k) ≡ h (f k) k) → ((k : ℕ) → g (suc k) ≡ h (g k) k) → (k : ℕ) → f k ≡ g k
same_steps f g h e s t zero = e
same_steps f g h e s t (suc k) = s k ∙ ap (λ a. h a k) (same_steps f g h e s t k) ∙ sym (t k)

-- two folds by the same steps are one
same_folds : {A B : Type 0} (f g : B → A → B) → ((b : B) (x : A) → f b x ≡ g b x) → (xs : List A) (b : B) → fold f b xs ≡ fold g b xs
same_folds f g e [] b = refl
same_folds f g e (x ∷ xs) b = same_folds f g e xs (f b x) ∙ ap (λ c. fold g c xs) (e b x)

-- one test within another is both
both_tests : {A : Type 0} (a b : Bool) (x y : A) → cond a (cond b x y) y ≡ cond (a && b) x y
both_tests true b x y = refl
both_tests false b x y = refl

or_none : {A : Type 0} (o : Option A) → option_or o None ≡ o
or_none None = refl
or_none (Some x) = refl

last_found : {A : Type 0} (p : A → Bool) (xs : List A) → fold (λ b x. cond (p x) (Some x) b) None xs ≡ find p (reverse xs)
last_found p xs = same_last p xs None ∙ or_none (find p (reverse xs))

abbrev linked_loop : ℕ → List Node → ℕ → ℕ → Bool
linked_loop zero ns n c = false
linked_loop (suc p) ns n c = linked_loop p ns n c || leads_to (link_kind ns (at_port n p)) c

pub same_linked : (k : ℕ) (ns : List Node) (n c : ℕ) → linked_loop k ns n c ≡ linked k ns n c
unfolding linked
same_linked k ns n c =
    same_steps (λ k. linked_loop k ns n c) (λ k. loop_any k (λ p. leads_to (link_kind ns (at_port n p)) c)) (λ b p. b || leads_to (link_kind ns (at_port n p)) c) refl (λ k. refl) (λ k. refl) k
    ∙ same_any k (λ p. leads_to (link_kind ns (at_port n p)) c)

abbrev hangs_loop : List Node → Tree → ℕ → Bool
hangs_loop ns t n = cond (on_at ns n) (above_in ns t n == number_at ns n || linked_loop 16 ns n (above_in ns t n)) true

same_hangs : (ns : List Node) (t : Tree) (n : ℕ) → hangs_loop ns t n ≡ hangs ns t n
same_hangs ns t n = ap (λ b. cond (on_at ns n) (above_in ns t n == number_at ns n || b) true) (same_linked 16 ns n (above_in ns t n))

abbrev all_hang_loop : ℕ → List Node → Tree → Bool
all_hang_loop zero ns t = true
all_hang_loop (suc n) ns t = all_hang_loop n ns t && hangs_loop ns t n

pub same_hang : (k : ℕ) (ns : List Node) (t : Tree) → all_hang_loop k ns t ≡ all_hang k ns t
unfolding all_hang
same_hang k ns t =
    same_steps (λ k. all_hang_loop k ns t) (λ k. loop_all k (hangs ns t)) (λ b n. b && hangs ns t n) refl (λ n. ap (λ b. all_hang_loop n ns t && b) (same_hangs ns t n)) (λ n. refl) k
    ∙ same_all k (hangs ns t)

abbrev top_at : List Node → Tree → ℕ → ℕ
top_at ns t n = cond (on_at ns n) (cond (above_in ns t n == number_at ns n) 1 0) 0

abbrev tops_loop : ℕ → List Node → Tree → ℕ
tops_loop zero ns t = 0
tops_loop (suc n) ns t = tops_loop n ns t + top_at ns t n

pub same_tops : (k : ℕ) (ns : List Node) (t : Tree) → tops_loop k ns t ≡ tops k ns t
unfolding tops
same_tops k ns t =
    let one : ℕ → ℕ = λ n. cond (is_top ns t n) 1 0 in
    same_steps (λ k. tops_loop k ns t) (λ k. loop_sum k one) (λ c n. c + one n) refl (λ n. ap (λ c. tops_loop n ns t + c) (both_tests (on_at ns n) (above_in ns t n == number_at ns n) 1 0)) (λ n. refl) k
    ∙ same_sum k one

abbrev all_hold_loop : ℕ → List (Option Bridge) → List Node → ℕ → Bool
all_hold_loop zero bs ns q = true
all_hold_loop (suc n) bs ns q = all_hold_loop n bs ns q && holds_newest bs ns q n

pub same_hold : (k : ℕ) (bs : List (Option Bridge)) (ns : List Node) (q : ℕ) → all_hold_loop k bs ns q ≡ all_hold k bs ns q
unfolding all_hold
same_hold k bs ns q =
    same_steps (λ k. all_hold_loop k bs ns q) (λ k. loop_all k (holds_newest bs ns q)) (λ b n. b && holds_newest bs ns q n) refl (λ n. refl) (λ n. refl) k
    ∙ same_all k (holds_newest bs ns q)

abbrev own_loop : ℕ → List ℕ
own_loop zero = replicate 128 0
own_loop (suc b) = set (own_loop b) b b

pub same_own : own_loop 128 ≡ own_row
unfolding own_row
same_own = refl

abbrev by_seq : ℕ → Option tree.Tree → tree.Tree → Option tree.Tree
by_seq q found t = cond (t.id.seq == q) (Some t) found

pub same_latest : (q : ℕ) (ts : List tree.Tree) → fold (by_seq q) None ts ≡ latest_with q ts
same_latest q ts = last_found (λ t. t.id.seq == q) ts

abbrev rests_along_loop : List Node → Tree → Bool
rests_along_loop ns t = all_hang_loop 6 ns t && tops_loop 6 ns t == 1

same_along : (ns : List Node) (t : Tree) → rests_along_loop ns t ≡ rests_along ns t
same_along ns t = ap (λ b. b && tops_loop 6 ns t == 1) (same_hang 6 ns t) ∙ ap (λ n. all_hang 6 ns t && n == 1) (same_tops 6 ns t)

abbrev rests_by : List (Option Bridge) → List Node → Option tree.Tree → tree.Tree → Option tree.Tree
rests_by bs ns found t = cond (all_hold_loop 6 bs ns (id_number t.id)) (cond (rests_along_loop ns (meaning t)) (Some t) found) found

pub same_rests : (bs : List (Option Bridge)) (ns : List Node) (ts : List tree.Tree) → fold (rests_by bs ns) None ts ≡ find (is_at_rest bs ns) (reverse ts)
same_rests bs ns ts =
    same_folds (rests_by bs ns) (λ found t. cond (is_at_rest bs ns t) (Some t) found) (λ found t.
    both_tests (all_hold_loop 6 bs ns (id_number t.id)) (rests_along_loop ns (meaning t)) (Some t) found
    ∙ ap (λ b. cond (b && rests_along_loop ns (meaning t)) (Some t) found) (same_hold 6 bs ns (id_number t.id))
    ∙ ap (λ b. cond (all_hold 6 bs ns (id_number t.id) && b) (Some t) found) (same_along ns (meaning t))) ts None
    ∙ last_found (is_at_rest bs ns) ts

abbrev hears_by : PortRef → Bool → Step → Bool
hears_by p heard s = heard || went_by p s

pub same_heard : (p : PortRef) (xs : List Step) → fold (hears_by p) false xs ≡ list_any (went_by p) xs
same_heard p xs = same_hears (went_by p) xs false
