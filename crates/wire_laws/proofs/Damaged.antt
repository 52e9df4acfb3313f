-- Damaged and cut messages.
use Rattle.std.proofs.Common.{◌≡◌, ℕ, zero, suc, ◌+◌, ◌-◌, ◌*◌, ◌<◌, Bool, true, false, cond, ◌&&◌, eqb, leb, ◌⊎◌, List, [], ◌∷◌, length, get_or, take, drop, Some, None, Option, sym, refl, ap, ◌∙◌, inl, inr, arith, ne_eqb, eqb-true}
use native.Mathlib.Decide.{dec_lt}
use borrow.Author.Tests.{lt-leb}
use Rattle.std.proofs.lemmas.List.{get_or-drop, get_or-take, length-take-le, length-take}
use Rattle.crc.specs.Crc.{crc_of}
use Rattle.crc.specs.Burst.{Bytes}
use Rattle.crc.proofs.Windows.{burst_told}
use Rattle.wire.specs.declared.fault.Fault.{Fault}
use Rattle.wire.specs.declared.fault.Fault.TheVariants.{Malformed}
use Rattle.wire.specs.Bytes.{four, summed, whole, with_sum}
use Rattle.messages.specs.Acks.{ack_kind, ack_fault, link_state_ack_fault, tree_ack_fault}
use Rattle.frames.specs.ForwardedFrames.{forwarded_fault, header_fault, frame_in, or_else}
use Rattle.messages.specs.Hellos.{hello_fault}
use Rattle.messages.specs.LinkStates.{link_state_fault}
use Rattle.messages.specs.Messages.{kind_of, message_fault}
use Rattle.frames.specs.SettingsBytes.{are_settings}
use Rattle.frames.specs.StationFrames.{station_fault}
use Rattle.messages.specs.TreeBytes.{tree_fault}
use Rattle.wire_laws.specs.Damage.{body_of, BodyDamaged, SumDamaged, DamageTold, CutTold, CutSettingsTold, Told}
use Rattle.wire_laws.proofs.Whole.{and_second, summed-four, summed-is, whole_is, whole_of}

no_second : (t : Bool) → (t && false) ≡ false
no_second true = refl
no_second false = refl

-- what has no right sum is malformed, whatever its kind
unwhole : (k n : ℕ) (b : List ℕ) → summed b ≡ false → whole k n b ≡ false
unwhole k n b e =
    ap (λ s. eqb (length b) n && (eqb (get_or b 0 0) k && s)) e ∙ ap (λ s. eqb (length b) n && s) (no_second (eqb (get_or b 0 0) k)) ∙ no_second (eqb (length b) n)

all_one : {A : Type 0} (t u v w x : Bool) (a b c d e f y : A) → a ≡ y → b ≡ y → c ≡ y → d ≡ y → e ≡ y → f ≡ y
    → cond t a (cond u b (cond v c (cond w d (cond x e f)))) ≡ y
all_one true u v w x a b c d e f y p q r s t z = p
all_one false true v w x a b c d e f y p q r s t z = q
all_one false false true w x a b c d e f y p q r s t z = r
all_one false false false true x a b c d e f y p q r s t z = s
all_one false false false false true a b c d e f y p q r s t z = t
all_one false false false false false a b c d e f y p q r s t z = z

-- a test that failed
failed : (t : Bool) (x : Option Fault) → t ≡ false → cond t x (Some Malformed) ≡ Some Malformed
failed true x e = absurd (let z : ◌≡◌ {A = ℕ} 0 1 = cc in omega arith)
failed false x e = refl

unsummed : (b : List ℕ) → summed b ≡ false → message_fault b ≡ Some Malformed
unsummed b e =
    let k = kind_of b in
    all_one (eqb k 1) (eqb k 2) (eqb k 3) (eqb k 4) (eqb k 5) (forwarded_fault b) (hello_fault b) (link_state_fault b) (tree_fault b) (ack_fault b) (Some Malformed)
    (Some Malformed)
    (ap (λ t. cond t (or_else (station_fault (frame_in b)) (header_fault b)) (Some Malformed)) (ap (λ s. eqb k 1 && s) e ∙ no_second (eqb k 1)))
    (failed (whole 2 14 b) _ (unwhole 2 14 b e)) (failed (whole 3 32 b) _ (unwhole 3 32 b e)) (failed (whole 4 269 b) _ (unwhole 4 269 b e))
    ((λ i. cond (unwhole 5 21 b e i) (link_state_ack_fault b) (cond (unwhole 5 18 b e i) (tree_ack_fault b) (Some Malformed)))) refl

split : (t : Bool) → (t ≡ true) ⊎ (t ≡ false)
split true = inl refl
split false = inr refl

not_both : (e : Fault) → ◌≡◌ {A = Option Fault} (Some e) None → ⊥
not_both e p = let z : ◌≡◌ {A = ℕ} 0 1 = cc in omega arith

is_summed : (b : List ℕ) → message_fault b ≡ None → summed b ≡ true
is_summed b e = elim (split (summed b)) [ inl t ↦ t | inr f ↦ absurd (not_both Malformed (sym (unsummed b f) ∙ e)) ]

front_bytes : (n : ℕ) (b : List ℕ) → Bytes b → Bytes (take n b)
front_bytes zero b h = tt
front_bytes (suc n) [] h = tt
front_bytes (suc n) (x ∷ xs) h = (h.0, front_bytes n xs h.1)

-- the number that the sum says
sum_says : (b : List ℕ) (n : ℕ) → four b n ≡ get_or (drop n b) 0 0 * 16777216 + get_or (drop n b) 1 0 * 65536 + get_or (drop n b) 2 0 * 256 + get_or (drop n b) 3 0
sum_says b n =
    let p : get_or b n 0 ≡ get_or (drop n b) 0 0 = sym (get_or-drop n b 0 0 ∙ ap (λ j. get_or b j 0) (let z : n + 0 ≡ n = omega arith in z)) in
    λ i. p i * 16777216 + sym (get_or-drop n b 1 0) i * 65536 + sym (get_or-drop n b 2 0) i * 256 + sym (get_or-drop n b 3 0) i

damage : DamageTold
damage sent came hs hc ok d ne =
    elim (split (summed came)) [ inr f ↦ unsummed came f | inl t ↦ absurd (ne (same (is_summed sent ok) t d)) ]
  where
    from_bodies : summed sent ≡ true → summed came ≡ true → body_of sent ≡ body_of came → sent ≡ came
    from_bodies s t e = summed-is sent hs s ∙ ap with_sum e ∙ sym (summed-is came hc t)

    same : summed sent ≡ true → summed came ≡ true → BodyDamaged sent came ⊎ SumDamaged sent came → sent ≡ came
    same s t (inl w) =
        let e : crc_of (body_of sent) ≡ crc_of (body_of came) =
        sym (summed-four sent s).1 ∙ sum_says sent (length sent - 4)
        ∙ ap (λ r. get_or r 0 0 * 16777216 + get_or r 1 0 * 65536 + get_or r 2 0 * 256 + get_or r 3 0) w.sum ∙ sym (sum_says came (length came - 4))
        ∙ (summed-four came t).1 in
        from_bodies s t
        (burst_told (body_of sent) (body_of came) (front_bytes (length sent - 4) sent hs) (front_bytes (length came - 4) came hc) w.burst e)
    same s t (inr w) = from_bodies s t w.body

-- another length
wrong_length : (k n : ℕ) (b : List ℕ) → (length b ≡ n → ⊥) → whole k n b ≡ false
wrong_length k n b h = ap (λ t. t && (eqb (get_or b 0 0) k && summed b)) (ne_eqb (length b) n h)

by_kind : (t u v w x : Bool) (a b c d e a' b' c' d' e' : Option Fault)
    → (t ≡ true → a ≡ None → a' ≡ Some Malformed) → (b ≡ None → b' ≡ Some Malformed) → (c ≡ None → c' ≡ Some Malformed) → (d ≡ None → d' ≡ Some Malformed)
    → (e ≡ None → e' ≡ Some Malformed) → cond t a (cond u b (cond v c (cond w d (cond x e (Some Malformed))))) ≡ None
    → cond t a' (cond u b' (cond v c' (cond w d' (cond x e' (Some Malformed))))) ≡ Some Malformed
by_kind true u v w x a b c d e a' b' c' d' e' p q r s t n = p refl n
by_kind false true v w x a b c d e a' b' c' d' e' p q r s t n = q n
by_kind false false true w x a b c d e a' b' c' d' e' p q r s t n = r n
by_kind false false false true x a b c d e a' b' c' d' e' p q r s t n = s n
by_kind false false false false true a b c d e a' b' c' d' e' p q r s t n = t n
by_kind false false false false false a b c d e a' b' c' d' e' p q r s t n = absurd (not_both Malformed n)

-- a message of one length, cut
cut_whole : (k n m : ℕ) (b : List ℕ) (x y : Option Fault) → m < length b → length (take m b) ≡ m → cond (whole k n b) x (Some Malformed) ≡ None
    → cond (whole k n (take m b)) y (Some Malformed) ≡ Some Malformed
cut_whole k n m b x y h l e =
    let w = whole_is k n b (whole_of (whole k n b) _ _ e) in
    ap (λ t. cond t y (Some Malformed)) (wrong_length k n (take m b) (λ q. omega (arith, w.0)))

either_way : (t : Bool) (x : Option Fault) → x ≡ Some Malformed → cond t x (Some Malformed) ≡ Some Malformed
either_way true x e = e
either_way false x e = refl

-- a frame, cut below the least length
cut_frame : (b : List ℕ) (m : ℕ) → length (take m b) ≡ m → m < 31 → forwarded_fault (take m b) ≡ Some Malformed
cut_frame b m l h =
    let c = take m b in
    let s : leb 14 (length (frame_in c)) ≡ false = lt-leb 14 (length (frame_in c)) (omega (arith, length-take (length c - 17) (drop 13 c))) in
    let f : station_fault (frame_in c) ≡ Some Malformed =
    failed (leb 14 (length (frame_in c)) && leb (length (frame_in c)) 1512) _ (ap (λ t. t && leb (length (frame_in c)) 1512) s) in
    either_way (eqb (get_or c 0 0) 1 && summed c) _ (ap (λ x. or_else x (header_fault c)) f)

cut_ack : (b : List ℕ) (m : ℕ) → m < length b → length (take m b) ≡ m → ack_fault b ≡ None → ack_fault (take m b) ≡ Some Malformed
cut_ack b m h l e = elim (split (whole 5 21 b)) [ inl t ↦ of_link_state t | inr f ↦ of_tree f ] where
  c : List ℕ
  c = take m b

  of_link_state : whole 5 21 b ≡ true → ack_fault c ≡ Some Malformed
  of_link_state t =
      let n = (whole_is 5 21 b t).0 in
      let k : ack_kind b ≡ 3 = eqb-true (ack_kind b) 3 (whole_of (eqb (ack_kind b) 3) _ _ (ap (λ u. cond u (link_state_ack_fault b) (cond (whole 5 18 b) (tree_ack_fault b) (Some Malformed))) (sym t) ∙ e)) in
      let w : whole 5 21 c ≡ false = wrong_length 5 21 c (λ q. omega (arith, n)) in
      ap (λ u. cond u (link_state_ack_fault c) (cond (whole 5 18 c) (tree_ack_fault c) (Some Malformed))) w
      ∙ elim (dec_lt 5 m) [
        | yes g ↦ let kc : ack_kind c ≡ 3 = get_or-take m b 5 0 g ∙ k in
            either_way (whole 5 18 c) (tree_ack_fault c) (failed (eqb (ack_kind c) 4) _ (ap (λ j. eqb j 4) kc))
        | no g ↦ failed (whole 5 18 c) (tree_ack_fault c) (wrong_length 5 18 c (λ q. omega arith))
      ]

  of_tree : whole 5 21 b ≡ false → ack_fault c ≡ Some Malformed
  of_tree f =
      let x : cond (whole 5 18 b) (tree_ack_fault b) (Some Malformed) ≡ None =
      ap (λ u. cond u (link_state_ack_fault b) (cond (whole 5 18 b) (tree_ack_fault b) (Some Malformed))) (sym f) ∙ e in
      let n = (whole_is 5 18 b (whole_of (whole 5 18 b) _ _ x)).0 in
      ap (λ u. cond u (link_state_ack_fault c) (cond (whole 5 18 c) (tree_ack_fault c) (Some Malformed))) (wrong_length 5 21 c (λ q. omega (arith, n)))
      ∙ failed (whole 5 18 c) (tree_ack_fault c) (wrong_length 5 18 c (λ q. omega (arith, n)))

cut : CutTold
cut b zero ok h f = refl
cut b (suc m) ok h f =
    let n = suc m in
    let l : length (take n b) ≡ n = length-take-le n b (omega arith) in
    let k : kind_of (take n b) ≡ kind_of b = get_or-take n b 0 0 (omega arith) in
    let c = take n b in
    (λ i. cond (eqb (k i) 1) (forwarded_fault c) (cond (eqb (k i) 2) (hello_fault c) (cond (eqb (k i) 3) (link_state_fault c) (cond (eqb (k i) 4) (tree_fault c) (cond (eqb (k i) 5) (ack_fault c) (Some Malformed))))))
    ∙ by_kind (eqb (kind_of b) 1) (eqb (kind_of b) 2) (eqb (kind_of b) 3) (eqb (kind_of b) 4) (eqb (kind_of b) 5)
    (forwarded_fault b) (hello_fault b) (link_state_fault b) (tree_fault b) (ack_fault b) (forwarded_fault c) (hello_fault c) (link_state_fault c) (tree_fault c) (ack_fault c)
    (λ t e. cut_frame b n l (f (eqb-true (kind_of b) 1 t)))
    (λ e. cut_whole 2 14 n b _ _ h l e) (λ e. cut_whole 3 32 n b _ _ h l e) (λ e. cut_whole 4 269 n b _ _ h l e) (λ e. cut_ack b n h l e) ok

cut_settings : CutSettingsTold
cut_settings b n ok h = failed (are_settings c) _ bad where
  c : List ℕ
  c = take n b

  l : length c ≡ n
  l = length-take-le n b (omega arith)

  size : length b ≡ 7 + 2 * get_or b 6 0
  size =
      let t = and_second (leb 7 (length b)) (eqb (get_or b 0 0) 6 && eqb (length b) (7 + 2 * get_or b 6 0)) (whole_of (are_settings b) _ _ ok) in
      eqb-true (length b) (7 + 2 * get_or b 6 0) (and_second (eqb (get_or b 0 0) 6) (eqb (length b) (7 + 2 * get_or b 6 0)) t)

  bad : are_settings c ≡ false
  bad = elim (dec_lt 6 n) [
    | yes g ↦ let p : get_or c 6 0 ≡ get_or b 6 0 = get_or-take n b 6 0 g in
        ap (λ t. leb 7 (length c) && (eqb (get_or c 0 0) 6 && t)) (ne_eqb (length c) (7 + 2 * get_or c 6 0) (λ q. omega (arith, l, size, p)))
        ∙ ap (λ t. leb 7 (length c) && t) (no_second (eqb (get_or c 0 0) 6)) ∙ no_second (leb 7 (length c))
    | no g ↦ ap (λ t. t && (eqb (get_or c 0 0) 6 && eqb (length c) (7 + 2 * get_or c 6 0))) (lt-leb 7 (length c) (omega (arith, l)))
  ]

pub all_told : Told
all_told = record { damage = damage; cut = cut; cut_settings = cut_settings }
