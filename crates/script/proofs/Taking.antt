-- One word taken from those that are left.
use Rattle.std.proofs.Common.{◌≡◌, ℕ, ◌≤◌, Bool, true, false, not, true≢false, ◌&&◌, List, [], ◌∷◌, length, IfSome, IfOk, MatchOption, MatchResult, Some, None, Ok, Err, Option, Result, Bor, refl, sym, ap, ◌∙◌, subst, arith}
use Rattle.std.specs.Prelude.{is_some}
use Rattle.std.specs.Option.{ok_or}
use Rattle.std.specs.Bool.{then_some}
use Rattle.std.proofs.lemmas.Bool.{cond-true, cond-false}
use Rattle.std.proofs.lemmas.Bool.Decides.{nat_tests}
use Rattle.scan.specs.Bytes.{between}
use Rattle.scan.specs.Parts.{is_digits, number_in, value_after}
use Rattle.script.specs.declared.faults.Expected.{Expected}
use Rattle.script.specs.declared.faults.Expected.TheVariants as expected
use Rattle.script.specs.Grammar.{IsPart, part, tail, ended, text_of}

pub tail_none : {ws vs : List (List ℕ)} → ws ≡ [] → vs ≡ [] → vs ≡ tail ws
unfolding tail
tail_none h k = k ∙ ap tail (sym h)

pub tail-some : {ws vs : List (List ℕ)} {w : List ℕ} → ws ≡ w ∷ vs → vs ≡ tail ws
unfolding tail
tail-some h = ap tail (sym h)

-- where no word comes, none was left
pub ending : (ws vs : List (List ℕ)) (n : Option (Bor (List ℕ))) (b : Bool) (o : Option (Unit {0})) (r : Result (Unit {0}) Expected) → MatchOption n ((ws ≡ []) × (vs ≡ [])) (λ w. ws ≡ w.now ∷ vs) → is_some n ≡ not b → o ≡ then_some b tt → r ≡ ok_or o expected.End → MatchResult r (λ _. ended ws ≡ Ok tt) (λ e. ended ws ≡ Err e)
unfolding ended
ending ws vs None true o r h is k q = subst (λ r. MatchResult r (λ _. ended ws ≡ Ok tt) (λ e. ended ws ≡ Err e)) (sym (q ∙ ap (λ o. ok_or o expected.End) k)) (ap ended h.0)
ending ws vs None false o r h is k q = absurd (true≢false (sym is))
ending ws vs (Some w) true o r h is k q = absurd (true≢false is)
ending ws vs (Some w) false o r h is k q = subst (λ r. MatchResult r (λ _. ended ws ≡ Ok tt) (λ e. ended ws ≡ Err e)) (sym (q ∙ ap (λ o. ok_or o expected.End) k)) (ap ended h)

module _ {T : Type 0} (R : Bor (List ℕ) → Option T → Type 0) (e : Expected) where
  -- a word taken and read
  pub taking : (ws vs : List (List ℕ)) (n : Option (Bor (List ℕ))) (o : Option T) (r : Result T Expected) → MatchOption n ((ws ≡ []) × (vs ≡ [])) (λ w. ws ≡ w.now ∷ vs) → MatchOption n (o ≡ None) (λ w. R w o) → r ≡ ok_or o e → IsPart R e ws r × (vs ≡ tail ws)
  taking ws vs None o r h m q = (subst (λ ws. IsPart R e ws r) (sym h.0) (q ∙ ap (λ o. ok_or o e) m), tail_none h.0 h.1)
  taking ws vs (Some w) o r h m q = (subst (λ ws. IsPart R e ws r) (sym h) (w, o, refl, m, q), tail-some h)

  -- what f reads
  pub part-is : (f : List ℕ → Option T) (ws : List (List ℕ)) (r : Result T Expected) → ((b : Bor (List ℕ)) (o : Option T) → R b o → o ≡ f b.now) → IsPart R e ws r → r ≡ part f e ws
  unfolding part
  part-is f [] r reads h = h
  part-is f (w ∷ ws) r reads (b, o, is, met, k) = k ∙ ap (λ o. ok_or o e) (reads b o met ∙ ap f is)

  -- what f reads, where a value of the code stands for v of it
  pub part-means : {A : Type 0} (v : T → A) (f : List ℕ → Option A) (ws : List (List ℕ)) (r : Result T Expected) → ((b : Bor (List ℕ)) (o : Option T) → R b o → MatchOption o (f b.now ≡ None) (λ t. f b.now ≡ Some (v t))) → IsPart R e ws r → MatchResult r (λ t. part f e ws ≡ Ok (v t)) (λ k. part f e ws ≡ Err k)
  unfolding part
  part-means v f [] r reads h = subst (λ r. MatchResult r (λ t. part f e [] ≡ Ok (v t)) (λ k. part f e [] ≡ Err k)) (sym h) refl
  part-means v f (w ∷ ws) r reads (b, o, is, met, k) = subst (λ r. MatchResult r (λ t. part f e (w ∷ ws) ≡ Ok (v t)) (λ k. part f e (w ∷ ws) ≡ Err k)) (sym k) (go o (reads b o met))
    where
      go : (o : Option T) → MatchOption o (f b.now ≡ None) (λ t. f b.now ≡ Some (v t)) → MatchResult (ok_or o e) (λ t. part f e (w ∷ ws) ≡ Ok (v t)) (λ k. part f e (w ∷ ws) ≡ Err k)
      go None h = ap (λ o. ok_or o e) (ap f (sym is) ∙ h)
      go (Some t) h = ap (λ o. ok_or o e) (ap f (sym is) ∙ h)

module _ (low high : ℕ) where
  number_bound : (w : List ℕ) → IfSome (number_in low high w) (λ n. (low ≤ n) × (n ≤ high))
  unfolding number_in
  number_bound w = go (is_digits w && between low high (value_after 0 w)) refl
    where
      go : (b : Bool) → (is_digits w && between low high (value_after 0 w)) ≡ b → IfSome (number_in low high w) (λ n. (low ≤ n) × (n ≤ high))
      go true h = subst (λ o. IfSome o (λ n. (low ≤ n) × (n ≤ high))) (sym (cond-true _ (Some (value_after 0 w)) None h)) (grind (arith, nat_tests), grind (arith, nat_tests))
      go false h = subst (λ o. IfSome o (λ n. (low ≤ n) × (n ≤ high))) (sym (cond-false _ (Some (value_after 0 w)) None h)) tt

  -- a number that is taken lies between the limits
  pub part-bound : (e : Expected) (ws : List (List ℕ)) (r : Result ℕ Expected) → r ≡ part (number_in low high) e ws → IfOk r (λ n. (low ≤ n) × (n ≤ high))
  unfolding part
  part-bound e [] r h = subst (λ r. IfOk r (λ n. (low ≤ n) × (n ≤ high))) (sym h) tt
  part-bound e (w ∷ ws) r h = subst (λ r. IfOk r (λ n. (low ≤ n) × (n ≤ high))) (sym h) (go (number_in low high w) (number_bound w))
    where
      go : (o : Option ℕ) → IfSome o (λ n. (low ≤ n) × (n ≤ high)) → IfOk (ok_or o e) (λ n. (low ≤ n) × (n ≤ high))
      go None h = tt
      go (Some n) h = h

pub text-is : (t : Bor (List ℕ)) (v : List ℕ) (b : Bool) (r : Result (Bor (List ℕ)) Expected) → t.now ≡ v → b ≡ between 2 1500 (length t.now) → r ≡ ok_or (then_some b t) expected.Message → MatchResult r (λ t. text_of v ≡ Ok t.now) (λ e. text_of v ≡ Err e)
unfolding text_of
text-is t v true r h e k = subst (λ r. MatchResult r (λ t. text_of v ≡ Ok t.now) (λ e. text_of v ≡ Err e)) (sym k) (ap text_of (sym h) ∙ cond-true (between 2 1500 (length t.now)) _ _ (sym e))
text-is t v false r h e k = subst (λ r. MatchResult r (λ t. text_of v ≡ Ok t.now) (λ e. text_of v ≡ Err e)) (sym k) (ap text_of (sym h) ∙ cond-false (between 2 1500 (length t.now)) _ _ (sym e))
