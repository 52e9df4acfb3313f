-- The words of a line, one by one.
use Rattle.std.proofs.Common.{◌≡◌, ℕ, suc, ◌+◌, Bool, true, false, not, ◌&&◌, eqb, ◌⊎◌, List, [], ◌∷◌, length, take, drop, Bor, Option, MatchOption, true-eqb, false-eqb, sym, refl, ap, ◌∙◌, subst, inl, inr, one-add, arith}
use Rattle.std.specs.Bool.{then_some}
use Rattle.std.specs.List.{prefix_len, list_all}
use Rattle.std.proofs.lemmas.Bool.Decides.{nat_tests}
use Rattle.std.proofs.lemmas.Bool.{cond-true, cond-false}
use Rattle.scan.specs.declared.bytes.Kind.TheVariants.{Blank, Solid}
use Rattle.scan.specs.Bytes.{blank, is_of}
use Rattle.scan.specs.Words.{words_of, before, skipped, after_of, first_of}

module _ (p : ℕ → Bool) (b : ℕ) (bs : List ℕ) where
  lead_yes : p b ≡ true → prefix_len p (b ∷ bs) ≡ suc (prefix_len p bs)
  lead_yes e = cond-true (p b) (1 + prefix_len p bs) 0 e ∙ one-add _

  lead_no : p b ≡ false → prefix_len p (b ∷ bs) ≡ 0
  lead_no e = cond-false (p b) (1 + prefix_len p bs) 0 e

  drop-yes : p b ≡ true → drop (prefix_len p (b ∷ bs)) (b ∷ bs) ≡ drop (prefix_len p bs) bs
  drop-yes e = ap (λ n. drop n (b ∷ bs)) (lead_yes e)

  drop-no : p b ≡ false → drop (prefix_len p (b ∷ bs)) (b ∷ bs) ≡ b ∷ bs
  drop-no e = ap (λ n. drop n (b ∷ bs)) (lead_no e)

  take-yes : p b ≡ true → take (prefix_len p (b ∷ bs)) (b ∷ bs) ≡ b ∷ take (prefix_len p bs) bs
  take-yes e = ap (λ n. take n (b ∷ bs)) (lead_yes e)

  take_no : p b ≡ false → take (prefix_len p (b ∷ bs)) (b ∷ bs) ≡ []
  take_no e = ap (λ n. take n (b ∷ bs)) (lead_no e)

words_blank : (b : ℕ) (bs : List ℕ) → blank b ≡ true → words_of (b ∷ bs) ≡ words_of bs
unfolding words_of
words_blank b bs e = cond-true (blank b) _ _ e

words_solid : (b : ℕ) (bs : List ℕ) → blank b ≡ false → words_of (b ∷ bs) ≡ before b bs (words_of bs)
unfolding words_of
words_solid b bs e = cond-false (blank b) _ _ e

words_none : words_of [] ≡ []
unfolding words_of
words_none = refl

not-blank : (b : ℕ) (t : Bool) → blank b ≡ t → is_of Solid b ≡ not t
not-blank b t e = ap not e

-- blanks in front are no part of a word
words_skip : (bs : List ℕ) → words_of bs ≡ words_of (skipped bs)
words_skip [] = refl
words_skip (b ∷ bs) = go (blank b) refl (words_skip bs)
  where
    go : (t : Bool) → blank b ≡ t → words_of bs ≡ words_of (skipped bs) → words_of (b ∷ bs) ≡ words_of (skipped (b ∷ bs))
    go true e h = words_blank b bs e ∙ h ∙ ap words_of (sym (drop-yes (is_of Blank) b bs e))
    go false e h = ap words_of (sym (drop-no (is_of Blank) b bs e))

-- a line from its next word on has a word in front
pub skipped-shape : (bs : List ℕ) → (skipped bs ≡ []) ⊎ ((b : ℕ) × (cs : List ℕ) × (skipped bs ≡ b ∷ cs) × (blank b ≡ false))
skipped-shape [] = inl refl
skipped-shape (b ∷ bs) = go (blank b) refl (skipped-shape bs)
  where
    go : (t : Bool) → blank b ≡ t → (skipped bs ≡ []) ⊎ ((b : ℕ) × (cs : List ℕ) × (skipped bs ≡ b ∷ cs) × (blank b ≡ false)) → (skipped (b ∷ bs) ≡ []) ⊎ ((d : ℕ) × (cs : List ℕ) × (skipped (b ∷ bs) ≡ d ∷ cs) × (blank d ≡ false))
    go true e (inl h) = inl (drop-yes (is_of Blank) b bs e ∙ h)
    go true e (inr (d, cs, h, k)) = inr (d, cs, drop-yes (is_of Blank) b bs e ∙ h, k)
    go false e h = inr (b, bs, drop-no (is_of Blank) b bs e, e)

before-blank : (b c : ℕ) (bs : List ℕ) (ws : List (List ℕ)) → blank c ≡ true → before b (c ∷ bs) ws ≡ (b ∷ []) ∷ ws
before-blank b c bs [] e = refl
before-blank b c bs (w ∷ ws) e = cond-true (blank c) _ _ e

before-solid : (b c : ℕ) (bs w : List ℕ) (ws : List (List ℕ)) → blank c ≡ false → before b (c ∷ bs) (w ∷ ws) ≡ (b ∷ w) ∷ ws
before-solid b c bs w ws e = cond-false (blank c) _ _ e

abbrev solid : ℕ → Bool
solid = is_of Solid

words_word : (b : ℕ) (bs : List ℕ) → blank b ≡ false → words_of (b ∷ bs) ≡ take (prefix_len solid (b ∷ bs)) (b ∷ bs) ∷ words_of (drop (prefix_len solid (b ∷ bs)) (b ∷ bs))
words_word b [] e = rw (take-yes solid b [] (not-blank b false e), drop-yes solid b [] (not-blank b false e)) (words_solid b [] e)
words_word b (c ∷ cs) e = rw (take-yes solid b (c ∷ cs) (not-blank b false e), drop-yes solid b (c ∷ cs) (not-blank b false e)) (words_solid b (c ∷ cs) e ∙ go (blank c) refl (words_word c cs))
  where
    go : (t : Bool) → blank c ≡ t → (blank c ≡ false → words_of (c ∷ cs) ≡ take (prefix_len solid (c ∷ cs)) (c ∷ cs) ∷ words_of (drop (prefix_len solid (c ∷ cs)) (c ∷ cs))) → before b (c ∷ cs) (words_of (c ∷ cs)) ≡ (b ∷ take (prefix_len solid (c ∷ cs)) (c ∷ cs)) ∷ words_of (drop (prefix_len solid (c ∷ cs)) (c ∷ cs))
    go true k h = rw (take_no solid c cs (not-blank c true k), drop-no solid c cs (not-blank c true k)) (before-blank b c cs (words_of (c ∷ cs)) k)
    go false k h = ap (λ ws. before b (c ∷ cs) ws) (h k) ∙ before-solid b c cs _ _ k

pub no_word : (bs : List ℕ) → length (first_of bs) ≡ 0 → words_of bs ≡ []
no_word bs e = go (skipped-shape bs)
  where
    go : (skipped bs ≡ []) ⊎ ((b : ℕ) × (cs : List ℕ) × (skipped bs ≡ b ∷ cs) × (blank b ≡ false)) → words_of bs ≡ []
    go (inl h) = words_skip bs ∙ ap words_of h ∙ words_none
    go (inr (b, cs, h, k)) = absurd (
        let z : take (prefix_len solid (skipped bs)) (skipped bs) ≡ b ∷ take (prefix_len solid cs) cs = ap (λ s. take (prefix_len solid s) s) h ∙ take-yes solid b cs (not-blank b false k) in
        omega (arith, ap length z)
        )

pub none_after : (bs : List ℕ) → length (first_of bs) ≡ 0 → words_of (after_of bs) ≡ []
none_after bs e = go (skipped-shape bs)
  where
    go : (skipped bs ≡ []) ⊎ ((b : ℕ) × (cs : List ℕ) × (skipped bs ≡ b ∷ cs) × (blank b ≡ false)) → words_of (after_of bs) ≡ []
    go (inl h) = ap (λ s. words_of (drop (prefix_len solid s) s)) h ∙ words_none
    go (inr (b, cs, h, k)) = absurd (
        let z : take (prefix_len solid (skipped bs)) (skipped bs) ≡ b ∷ take (prefix_len solid cs) cs = ap (λ s. take (prefix_len solid s) s) h ∙ take-yes solid b cs (not-blank b false k) in
        omega (arith, ap length z)
        )

pub next_word : (bs : List ℕ) → (length (first_of bs) ≡ 0 → ⊥) → words_of bs ≡ first_of bs ∷ words_of (after_of bs)
next_word bs e = go (skipped-shape bs)
  where
    go : (skipped bs ≡ []) ⊎ ((b : ℕ) × (cs : List ℕ) × (skipped bs ≡ b ∷ cs) × (blank b ≡ false)) → words_of bs ≡ first_of bs ∷ words_of (after_of bs)
    go (inl h) = absurd (e (ap (λ s. length (take (prefix_len solid s) s)) h))
    go (inr (b, cs, h, k)) = words_skip bs ∙ subst (λ s. words_of s ≡ take (prefix_len solid s) s ∷ words_of (drop (prefix_len solid s) s)) (sym h) (words_word b cs k)

pub cut_word : (bs s : List ℕ) {f r : List ℕ} {n : ℕ} → s ≡ skipped bs → n ≡ prefix_len solid s → f ≡ take n s → r ≡ drop n s → (f ≡ first_of bs) × (r ≡ after_of bs)
cut_word bs s hs hn hf hr = (
  hf ∙ ap (λ m. take m s) hn ∙ ap (λ x. take (prefix_len solid x) x) hs,
  hr ∙ ap (λ m. drop m s) hn ∙ ap (λ x. drop (prefix_len solid x) x) hs,
)

-- what is taken is the first word, where there is one
pub takes : (bs cs : List ℕ) (w : Bor (List ℕ)) (o : Option (Bor (List ℕ))) (b : Bool) → w.now ≡ first_of bs → cs ≡ after_of bs → b ≡ eqb (length w.now) 0 → o ≡ then_some (not b) w → MatchOption o ((words_of bs ≡ []) × (words_of cs ≡ [])) (λ w. words_of bs ≡ w.now ∷ words_of cs)
takes bs cs w o true hw hc e k =
    let none : length (first_of bs) ≡ 0 = sym (ap length hw) ∙ true-eqb _ 0 e in
    subst (λ o. MatchOption o ((words_of bs ≡ []) × (words_of cs ≡ [])) (λ w. words_of bs ≡ w.now ∷ words_of cs)) (sym k) (no_word bs none, ap words_of hc ∙ none_after bs none)
takes bs cs w o false hw hc e k =
    subst (λ o. MatchOption o ((words_of bs ≡ []) × (words_of cs ≡ [])) (λ w. words_of bs ≡ w.now ∷ words_of cs)) (sym k) (next_word bs (λ h. false-eqb _ 0 e (ap length hw ∙ h)) ∙ (λ i. sym hw i ∷ words_of (sym hc i)))

-- all bytes pass where the front that passes is the whole
pub all-leading : (p : ℕ → Bool) (bs : List ℕ) → list_all p bs ≡ eqb (prefix_len p bs) (length bs)
all-leading p [] = refl
all-leading p (b ∷ bs) = go (p b) refl (all-leading p bs)
  where
    go : (t : Bool) → p b ≡ t → list_all p bs ≡ eqb (prefix_len p bs) (length bs) → (p b && list_all p bs) ≡ eqb (prefix_len p (b ∷ bs)) (suc (length bs))
    go true e h = grind (arith, nat_tests, lead_yes p b bs e)
    go false e h = grind (arith, nat_tests, lead_no p b bs e)
