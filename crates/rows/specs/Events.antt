-- What can happen to a row, and what then waits. A frame is the list of its bytes; the one that came first stands in front.
use Rattle.std.specs.Prelude.{◌≡◌, ℕ, ◌+◌, ◌≤◌, Bool, cond, ◌&&◌, List, [], ◌∷◌, ◌++◌, length, take, drop, nat_le, nat_lt}

pub data Event : Type 0 where
  Comes : List ℕ → Event
  Leaves : Event
  Clears : Event

-- whether there is room for a frame
abbrev pub takes : List ℕ → List (List ℕ) → Bool
takes f ws = nat_le (length f) 1529 && nat_lt (length ws) 16

abbrev pub after : Event → List (List ℕ) → List (List ℕ)
after (Comes f) ws = cond (takes f ws) (ws ++ f ∷ []) ws
after Leaves ws = drop 1 ws
after Clears ws = []

-- Everything that happened to a row since it was empty.
pub record History : Type 0 where
  pub came : List (List ℕ)
  pub left : List (List ℕ)
  pub waits : List (List ℕ)
  pub refused : ℕ
  pub cleared : ℕ

abbrev pub begin : History
begin = record { came = []; left = []; waits = []; refused = 0; cleared = 0 }

unfoldable pub happens : Event → History → History
happens (Comes f) h = record h { came = h.came ++ f ∷ []; waits = after (Comes f) h.waits; refused = cond (takes f h.waits) h.refused (h.refused + 1) }
happens Leaves h = record h { left = h.left ++ take 1 h.waits; waits = after Leaves h.waits }
happens Clears h = record h { waits = after Clears h.waits; cleared = h.cleared + length h.waits }

unfoldable pub history : List Event → History → History
history [] h = h
history (e ∷ es) h = history es (happens e h)

-- xs are some of ys, in the order of ys
pub data Among : List (List ℕ) → List (List ℕ) → Type 0 where
  none : Among [] []
  but : {xs ys : List (List ℕ)} {y : List ℕ} → Among xs ys → Among xs (y ∷ ys)
  too : {xs ys : List (List ℕ)} {y : List ℕ} → Among xs ys → Among (y ∷ xs) (y ∷ ys)

-- What left, followed by what waits, is what came, in that order, but for frames that are missing.
abbrev pub InOrder : Type 0
InOrder = (es : List Event) → Among ((history es begin).left ++ (history es begin).waits) (history es begin).came

-- Nothing is missing but what found no room or was cleared, and nothing is there twice.
abbrev pub Accounted : Type 0
Accounted = (es : List Event) → length (history es begin).came ≡ length (history es begin).left + length (history es begin).waits + (history es begin).refused + (history es begin).cleared

abbrev pub NothingLost : Type 0
NothingLost = (es : List Event) → (history es begin).refused ≡ 0 → (history es begin).cleared ≡ 0 → (history es begin).left ++ (history es begin).waits ≡ (history es begin).came

abbrev pub NeverAbove16 : Type 0
NeverAbove16 = (es : List Event) → length (history es begin).waits ≤ 16
