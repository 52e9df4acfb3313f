-- What stands in a vector after two parts were appended, with the parts as they are defined.
use Rattle.std.proofs.Common.{◌≡◌, ℕ, Bool, cond, List, ◌++◌, ◌∙◌}
use Rattle.wire.specs.Bytes.{with_sum}

-- with their sum
pub carried : (before : List ℕ) (ok : Bool) {head says rest tells after : List ℕ} → head ≡ says → rest ≡ tells
    → after ≡ cond ok (before ++ with_sum (head ++ rest)) before → after ≡ cond ok (before ++ with_sum (says ++ tells)) before
carried before ok p q e = e ∙ (λ i. cond ok (before ++ with_sum (p i ++ q i)) before)

-- two parts and no sum
pub carried_two : (before : List ℕ) (ok : Bool) {head says rest tells after : List ℕ} → head ≡ says → rest ≡ tells
    → after ≡ cond ok (before ++ (head ++ rest)) before → after ≡ cond ok (before ++ (says ++ tells)) before
carried_two before ok p q e = e ∙ (λ i. cond ok (before ++ (p i ++ q i)) before)
