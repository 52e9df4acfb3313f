-- The frames of a ring: how many, one more at the end, one less in front.
use Rattle.std.proofs.Common.{◌≡◌, ℕ, zero, suc, ◌+◌, ◌-◌, ◌%◌, ◌<◌, Bool, true, false, ◌≢◌, List, [], ◌∷◌, ◌++◌, map, length, get_or, drop, set, IfSome, Some, None, Option, refl, ap, ◌∙◌, add-zero, add-one, arith, get_or-set_other, get_or-set_same, MutBor}
use Rattle.std.proofs.lemmas.List.{set-set, map-set, length-map, get_or-map}
use Rattle.rows.specs.Slot.{frame}
use Rattle.rows.specs.Row.{frames_from}
use Rattle.rows.specs.declared.slot.Slot.{Slot}

pub length-frames : (fs : List (List ℕ)) (h n : ℕ) → length (frames_from fs h n) ≡ n
length-frames fs h zero = refl
length-frames fs h (suc n) = ap suc (length-frames fs (h + 1) n)

frames_last : (fs : List (List ℕ)) (h n : ℕ) → frames_from fs h (suc n) ≡ frames_from fs h n ++ get_or fs ((h + n) % 16) [] ∷ []
frames_last fs h zero = rw add-zero refl
frames_last fs h (suc n) =
    let e : (h + 1) + n ≡ h + suc n = omega arith in
    ap (λ gs. get_or fs (h % 16) [] ∷ gs) (frames_last fs (h + 1) n ∙ ap (λ k. frames_from fs (h + 1) n ++ get_or fs (k % 16) [] ∷ []) e)

-- a place that no waiting frame has may be written
frames_same : (fs : List (List ℕ)) (h n i : ℕ) (f : List ℕ) → ((k : ℕ) → k < n → (h + k) % 16 ≢ i) → frames_from (set fs i f) h n ≡ frames_from fs h n
frames_same fs h zero i f no_one = refl
frames_same fs h (suc n) i f no_one =
    let here : h % 16 ≢ i = λ e. no_one 0 (omega arith) (rw add-zero e) in
    let later : (k : ℕ) → k < n → ((h + 1) + k) % 16 ≢ i = λ k lt e. no_one (k + 1) (omega arith) (omega arith) in
    let same = frames_same fs (h + 1) n i f later in
    let first = get_or-set_other fs i (h % 16) f [] here in
    cc

-- one more frame, written behind the last
pub frames_push : (fs : List (List ℕ)) (h n i : ℕ) (f : List ℕ) → length fs ≡ 16 → n < 16 → i ≡ (h + n) % 16 → frames_from (set fs i f) h (n + 1) ≡ frames_from fs h n ++ f ∷ []
frames_push fs h n i f len room is =
    let within : i < length fs = omega arith in
    let last = frames_last (set fs i f) h n in
    let same = frames_same fs h n i f (λ k lt e. omega arith) in
    let put = get_or-set_same fs i f [] within in
    let one = add-one n in
    cc

-- the place of the first frame may be counted round the ring
pub frames_turn : (fs : List (List ℕ)) (h g n : ℕ) → h % 16 ≡ g % 16 → frames_from fs h n ≡ frames_from fs g n
frames_turn fs h g zero e = refl
frames_turn fs h g (suc n) e =
    let rest = frames_turn fs (h + 1) (g + 1) n (omega arith) in
    cc

-- the first frame, and the others
pub frames_front : (fs : List (List ℕ)) (h n : ℕ) → h < 16 → 0 < n → frames_from fs h n ≡ get_or fs h [] ∷ drop 1 (frames_from fs h n)
frames_front fs h zero lt some = absurd (omega arith)
frames_front fs h (suc n) lt some = let e : h % 16 ≡ h = omega arith in ap (λ k. get_or fs k [] ∷ frames_from fs (h + 1) n) e

-- one less in front
pub frames_pop : (fs : List (List ℕ)) (h n : ℕ) → 0 < n → frames_from fs ((h + 1) % 16) (n - 1) ≡ drop 1 (frames_from fs h n)
frames_pop fs h zero some = absurd (omega arith)
frames_pop fs h (suc n) some =
    let less : suc n - 1 ≡ n = omega arith in
    ap (λ k. frames_from fs ((h + 1) % 16) k) less ∙ frames_turn fs ((h + 1) % 16) (h + 1) n (omega arith)

-- the same over slots, of which one was made empty and then written
pub slots_push : (ss : List Slot) (h n i : ℕ) (a w : Slot) → length ss ≡ 16 → n < 16 → i ≡ (h + n) % 16 → frames_from (map frame (set (set ss i a) i w)) h (n + 1) ≡ frames_from (map frame ss) h n ++ frame w ∷ []
slots_push ss h n i a w len room is =
    let twice = set-set ss i a w in
    let over = map-set frame ss i w in
    let count : length (map frame ss) ≡ 16 = length-map ss frame ∙ len in
    let push = frames_push (map frame ss) h n i (frame w) count room is in
    cc

pub slots_front : (ss : List Slot) (h n : ℕ) (s : Slot) (f : List ℕ) → length ss ≡ 16 → h < 16 → 0 < n → s ≡ get_or ss h s → f ≡ frame s → frames_from (map frame ss) h n ≡ f ∷ drop 1 (frames_from (map frame ss) h n)
slots_front ss h n s f len lt some is fs =
    let within : h < length ss = omega arith in
    let first = get_or-map frame ss h s [] within in
    let front = frames_front (map frame ss) h n lt some in
    cc

-- the place that was made empty is lent empty
pub lent_empty : (r : Option (MutBor Slot)) (ss : List Slot) (i : ℕ) (a : Slot) → i < length ss → frame a ≡ [] → IfSome r (λ x. x.now ≡ get_or (set ss i a) i x.now) → IfSome r (λ x. frame x.now ≡ [])
lent_empty None ss i a lt none is = tt
lent_empty (Some x) ss i a lt none is = ap frame (is ∙ get_or-set_same ss i a x.now lt) ∙ none

-- a row with room always lends
pub never_none : {A : Type 0} (b : Bool) → b ≡ true → b ≡ false → A
never_none b some gone = absurd (grind (arith, some, gone))

-- the ring turned, and one frame fewer counted
pub slots_pop : (ss ts : List Slot) (h g n m : ℕ) → ts ≡ ss → g ≡ (h + 1) % 16 → m ≡ n → 0 < n → frames_from (map frame ts) g (m - 1) ≡ drop 1 (frames_from (map frame ss) h n)
slots_pop ss ts h g n m e f k some = rw (e, f, k) (frames_pop (map frame ss) h n some)
