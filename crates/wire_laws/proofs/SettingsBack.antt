-- Settings, there and back.
use Rattle.std.proofs.Common.{◌≡◌, ℕ, zero, suc, ◌+◌, ◌*◌, ◌/◌, ◌%◌, ◌<◌, ◌≤◌, true, cond, not, ◌&&◌, eqb, leb, List, [], ◌∷◌, ◌++◌, length, get_or, take, drop, Some, None, sym, refl, ap, ◌∙◌, subst, arith, length-append, length-drop, get_or-append-add, lt-ltb, eq-eqb, ne_eqb, eqb-true, le-leb}
use Rattle.crc.specs.Burst.{Bytes}
use Rattle.sets.proofs.Members.{same_id}
use Rattle.wire.specs.declared.fault.Fault.TheVariants.{Malformed, BadSettings}
use native.Mathlib.Bridge.{le_prop}
use native.Mathlib.Decide.{dec_lt}
use Rattle.std.proofs.lemmas.List.{get_or-drop, take-append-drop, ext_get_or}
use Rattle.frames.specs.declared.settings.Settings.{Settings}
use Rattle.wire.specs.Bytes.{four, in_two, in_four}
use Rattle.frames.specs.SettingsBytes.{are_settings, vlan_in, vlans_can_be, can_be, settings_fault, SettingsSay, settings_head, in_twos, settings_bytes}
use Rattle.wire.proofs.Rows.{length_pairs, get_or-pairs, pairs_are}
use Rattle.wire_laws.specs.RoundTrips.{RoundTrip, SettingsFit}
use Rattle.wire_laws.proofs.Numbers.{two_back, four-back, in-two-at, in-four-at, take-front}
use Rattle.wire_laws.proofs.Whole.{and_both, and_first, and_second, whole_of}

high : List ℕ → ℕ → ℕ
high vs k = get_or vs k 0 / 256 % 256

low : List ℕ → ℕ → ℕ
low vs k = get_or vs k 0 % 256

-- the vlan of a port that is there
vlan_back : (m : Settings) (k : ℕ) → k < m.ports → get_or m.vlans k 0 ≤ 4094 → vlan_in (settings_bytes m) k ≡ get_or m.vlans k 0
unfolding high low
vlan_back m k h v =
    let b = settings_bytes m in
    let ps = in_twos m.vlans m.ports in
    let z : 0 + k ≡ k = omega arith in
    let p = get_or-pairs (high m.vlans) (low m.vlans) 0 m.ports k h in
    let e : get_or b (7 + 2 * k) 0 ≡ high m.vlans k = get_or-append-add (settings_head m) ps (2 * k) 0 ∙ p.0 ∙ ap (high m.vlans) z in
    let q : 7 + 2 * k + 1 ≡ 7 + (2 * k + 1) = omega arith in
    let f : get_or b (7 + 2 * k + 1) 0 ≡ low m.vlans k =
    ap (λ j. get_or b j 0) q ∙ get_or-append-add (settings_head m) ps (2 * k + 1) 0 ∙ p.1 ∙ ap (low m.vlans) z in
    (λ i. e i * 256 + f i) ∙ two_back (get_or m.vlans k 0) (omega arith)

says : (m : Settings) → SettingsFit m → SettingsSay (settings_bytes m) m
says m f = record {
  bridge = refl;
  incarnation = sym (four-back m.incarnation f.incarnation);
  ports = refl;
  vlans = record { there = λ k h. sym (vlan_back m k h (f.vlans k h)); others = f.others };
}

can_be_lem : (b : List ℕ) (n : ℕ) → ((k : ℕ) → k < n → vlan_in b k ≤ 4094) → vlans_can_be b n ≡ true
unfolding vlans_can_be
can_be_lem b zero h = refl
can_be_lem b (suc n) h = and_both (leb (vlan_in b n) 4094) (vlans_can_be b n) (le-leb (vlan_in b n) 4094 (h n (omega arith))) (can_be_lem b n (λ k l. h k (omega arith)))

not_refused : (m : Settings) → SettingsFit m → settings_fault (settings_bytes m) ≡ None
unfolding high low
not_refused m f =
    let b = settings_bytes m in
    let l : length b ≡ 7 + 2 * m.ports =
    length-append (settings_head m) (in_twos m.vlans m.ports) ∙ ap (λ n. 7 + n) (length_pairs (high m.vlans) (low m.vlans) 0 m.ports) in
    let i : four b 2 ≡ m.incarnation = four-back m.incarnation f.incarnation in
    let s : are_settings b ≡ true = and_both _ _ (le-leb 7 (length b) (omega arith)) (eq-eqb (length b) (7 + 2 * m.ports) l) in
    let n : not (eqb (four b 2) 0) ≡ true = ap not (ne_eqb (four b 2) 0 (λ q. omega (arith, f.start, sym i ∙ q))) in
    let c : can_be b ≡ true =
    and_both _ _ (lt-ltb m.bridge.value 128 m.bridge.ok)
    (and_both _ _ n (and_both _ _ (le-leb m.ports 16 m.room)
    (can_be_lem b m.ports (λ k h. subst (λ v. v ≤ 4094) (sym (vlan_back m k h (f.vlans k h))) (f.vlans k h))))) in
    λ j. cond (s j) (cond (c j) None (Some BadSettings)) (Some Malformed)

same_bytes : (b : List ℕ) (m : Settings) → Bytes b → settings_fault b ≡ None → SettingsSay b m → settings_bytes m ≡ b
unfolding high low
same_bytes b m h e s =
    let w : are_settings b ≡ true = whole_of (are_settings b) _ _ e in
    let t = and_second (leb 7 (length b)) (eqb (get_or b 0 0) 6 && eqb (length b) (7 + 2 * get_or b 6 0)) w in
    let k : get_or b 0 0 ≡ 6 = eqb-true (get_or b 0 0) 6 (and_first (eqb (get_or b 0 0) 6) (eqb (length b) (7 + 2 * get_or b 6 0)) t) in
    let l : length b ≡ 7 + 2 * get_or b 6 0 =
    eqb-true (length b) (7 + 2 * get_or b 6 0) (and_second (eqb (get_or b 0 0) 6) (eqb (length b) (7 + 2 * get_or b 6 0)) t) in
    let xs = drop 7 b in
    let n = m.ports in
    let en : n ≡ get_or b 6 0 = s.ports in
    let lx : length xs ≡ 2 * n = length-drop 7 b ∙ omega arith in
    let head : settings_head m ≡ take 7 b =
    (λ j. 6 ∷ s.bridge j ∷ (in_four (s.incarnation j) ++ (s.ports j ∷ [])))
    ∙ (λ j. sym k j ∷ get_or b 1 0 ∷ (in-four-at b 2 h j ++ (get_or b 6 0 ∷ []))) ∙ sym (take-front 7 0 b (omega arith)) in
    let there : (j : ℕ) → j < n → in_two (get_or m.vlans j 0) ≡ get_or b (7 + 2 * j) 0 ∷ get_or b (7 + 2 * j + 1) 0 ∷ [] =
    λ j q. ap in_two (s.vlans.there j (subst (λ x. j < x) en q)) ∙ in-two-at b (7 + 2 * j) h in
    let cells : xs ≡ in_twos m.vlans n =
    pairs_are xs (high m.vlans) (low m.vlans) n lx
    (λ j q. get_or-drop 7 b (2 * j) 0 ∙ sym (ap (λ r. get_or r 0 0) (there j q)))
    (λ j q. get_or-drop 7 b (2 * j + 1) 0 ∙ ap (λ i. get_or b i 0) (let z : 7 + (2 * j + 1) ≡ 7 + 2 * j + 1 = omega arith in z)
    ∙ sym (ap (λ r. get_or r 1 0) (there j q))) in
    (λ j. head j ++ sym cells j) ∙ take-append-drop 7 b

-- settings are their bridge, start, ports and vlans
same_settings : (m n : Settings) → m.bridge ≡ n.bridge → m.incarnation ≡ n.incarnation → m.ports ≡ n.ports → m.vlans ≡ n.vlans → m ≡ n
same_settings m n p q r s = along n.ports r n.room ∙ (λ i. record { bridge = p i; incarnation = q i; ports = n.ports; vlans = s i; room = n.room })
  where
    along : (w : ℕ) → m.ports ≡ w → (l : w ≤ 16) → m ≡ record { bridge = m.bridge; incarnation = m.incarnation; ports = w; vlans = m.vlans; room = l }
    along w e =
        subst (λ v. (l : v ≤ 16) → m ≡ record { bridge = m.bridge; incarnation = m.incarnation; ports = v; vlans = m.vlans; room = l }) e
        (λ l. ap (λ x. record { bridge = m.bridge; incarnation = m.incarnation; ports = m.ports; vlans = m.vlans; room = x }) (le_prop m.room l))

one_message : (b : List ℕ) (m n : Settings) → length m.vlans ≡ 16 → length n.vlans ≡ 16 → SettingsSay b m → SettingsSay b n → m ≡ n
one_message b m n lm ln p q =
    same_settings m n (same_id m.bridge n.bridge (p.bridge ∙ sym q.bridge)) (p.incarnation ∙ sym q.incarnation) (p.ports ∙ sym q.ports)
    (ext_get_or 0 m.vlans n.vlans (lm ∙ sym ln) each)
  where
    each : (k : ℕ) → k < length m.vlans → get_or m.vlans k 0 ≡ get_or n.vlans k 0
    each k h =
        elim (dec_lt k (get_or b 6 0)) [
          | yes l ↦ p.vlans.there k l ∙ sym (q.vlans.there k l)
          | no l ↦ p.vlans.others k (omega arith) l ∙ sym (q.vlans.others k (omega arith) l)
        ]

pub settings : RoundTrip Settings SettingsFit settings_fault SettingsSay settings_bytes
settings = record {
  comes_back = λ m f. (not_refused m f, says m f);
  same_bytes = same_bytes;
  different = λ m n h k e. one_message (settings_bytes m) m n h.many k.many (says m h) (subst (λ b. SettingsSay b n) (sym e) (says n k));
}
