-- Seven worked cases of a ring of three bridges, as rows of one table: what happened, and what a run of it shows. Assumes
-- nothing.
use Rattle.std.specs.Prelude.{◌≡◌, ℕ, true, false, cond, ◌||◌, List, [], ◌∷◌, ◌==◌}
use Rattle.trees.specs.Tree.{Tree}
use Rattle.bridges.specs.Net.{Where, Unknown, Here, Behind, Rules}
use Rattle.bridges.specs.Fabric.{Event, Send, Arrive, Lose, Believe, Announce, Adopt, Move, Forget, Crash, run}
use Rattle.bridges.specs.Trace.{Hop, Receiver, visits, hops, receivers, known, held, last_answer}

-- what is looked at in a run: a frame, and a station along a tree
pub record Look : Type 0 where
  pub frame : ℕ
  pub tree : ℕ
  pub station : ℕ

-- what is seen of them when it is over
pub record Seen : Type 0 where
  pub visited : List ℕ
  pub used : List Hop
  pub received : List Receiver
  pub knowing : List Where
  pub holding : List (List ℕ)
  pub answered : ℕ

abbrev pub seen : Rules → List Event → Look → Seen
seen r es l = record {
  visited = visits false r es l.frame;
  used = hops false r es l.frame;
  received = receivers l.frame (run false r es).got;
  knowing = known (run false r es) l.tree l.station r.bridges;
  holding = held (run false r es) r.bridges;
  answered = last_answer false r es;
}

-- a row of the table; `letter` is the case, 1 for A
pub record Row : Type 0 where
  pub letter : ℕ
  pub events : List Event
  pub look : Look
  pub expected : Seen

-- events in the order of time, after others
unfoldable pub after : List Event → List Event → List Event
after es [] = es
after es (e ∷ fs) = after (e ∷ es) fs

abbrev pub hop : ℕ → ℕ → Hop
hop a b = record { by = a; to = b }

abbrev pub to : ℕ → ℕ → Receiver
to s b = record { station = s; bridge = b }

-- three bridges; stations 0 and 4 of VLAN 10 and 3 of VLAN 20 at bridge 1, station 1 of VLAN 10 at bridge 2, station 2 of VLAN 10 at bridge 0
abbrev pub ring : Rules
ring = record { bridges = 3; stations = 5; colour = λ s. cond (s == 3) 20 10 }

-- bridges 1 and 2 below 0
abbrev pub tree_of0 : Tree
tree_of0 = record { number = 1; above = λ b. cond (b == 1 || b == 2) 0 b; far = λ b. cond (b == 1 || b == 2) 1 0 }

-- bridge 2 below 1, and 0 by itself
abbrev pub tree_of1 : Tree
tree_of1 = record { number = 2; above = λ b. cond (b == 2) 1 b; far = λ b. cond (b == 2) 1 0 }

-- 1 above 2 and 2 above 1
abbrev pub no_tree : Tree
no_tree = record { number = 3; above = λ b. cond (b == 1) 2 (cond (b == 2) 1 b); far = λ b. 1 }

-- cables and stations
unfoldable pub cabled : List Event
cabled = after [] (
    Believe 0 1 true ∷ Believe 1 0 true ∷ Believe 1 2 true ∷ Believe 2 1 true ∷ Believe 2 0 true ∷ Believe 0 2 true ∷
    Move 0 1 ∷ Move 1 2 ∷ Move 2 0 ∷ Move 3 1 ∷ Move 4 1 ∷ [])

-- and the tree of 0 at all
unfoldable pub laid : List Event
laid = after cabled (Announce tree_of0 ∷ Adopt 0 1 ∷ Adopt 1 1 ∷ Adopt 2 1 ∷ [])

-- station 0 sends to station 1, of which nobody knows, and station 1 replies
unfoldable pub asked : List Event
asked = after laid (Send 0 1 ∷ Arrive 0 ∷ Arrive 0 ∷ Arrive 0 ∷ [])

unfoldable pub replied : List Event
replied = after asked (Send 1 0 ∷ Arrive 0 ∷ Arrive 0 ∷ Arrive 0 ∷ [])

-- bridge 0 falls, and bridge 1, which has the lowest number now, announces its tree
unfoldable pub fallen : List Event
fallen = after replied (Crash 0 ∷ [])

unfoldable pub announced : List Event
announced = after fallen (Believe 1 0 false ∷ Believe 2 0 false ∷ Announce tree_of1 ∷ Adopt 1 2 ∷ [])

-- station 0 moves to bridge 2, and then sends a frame that passes 2 and 0 and is lost on its way to 1
unfoldable pub moved_on : List Event
moved_on = after replied (Move 0 2 ∷ [])

unfoldable pub passed : List Event
passed = after moved_on (Send 0 2 ∷ Arrive 0 ∷ Arrive 0 ∷ Lose 0 ∷ [])

unfoldable pub cases : List Row
cases =
    -- A. the frame goes from 1 by 0 to 2; the link between 1 and 2 isn't used
    record {
      letter = 1;
      events = asked;
      look = record { frame = 1; tree = 1; station = 0 };
      expected = record {
        visited = 1 ∷ 0 ∷ 2 ∷ [];
        used = hop 1 0 ∷ hop 0 2 ∷ [];
        received = to 4 1 ∷ to 2 0 ∷ to 1 2 ∷ [];
        knowing = Behind 1 ∷ Here ∷ Behind 0 ∷ [];
        holding = (1 ∷ []) ∷ (1 ∷ []) ∷ (1 ∷ []) ∷ [];
        answered = 0;
      };
    } ∷
    -- B. the reply goes back the same way, and to nobody else
    record {
      letter = 2;
      events = replied;
      look = record { frame = 2; tree = 1; station = 0 };
      expected = record {
        visited = 2 ∷ 0 ∷ 1 ∷ [];
        used = hop 2 0 ∷ hop 0 1 ∷ [];
        received = to 0 1 ∷ [];
        knowing = Behind 1 ∷ Here ∷ Behind 0 ∷ [];
        holding = (1 ∷ []) ∷ (1 ∷ []) ∷ (1 ∷ []) ∷ [];
        answered = 0;
      };
    } ∷
    -- C. once 0 has fallen a frame along its tree comes no further than 0
    record {
      letter = 3;
      events = after fallen (Send 0 1 ∷ Arrive 0 ∷ Arrive 0 ∷ []);
      look = record { frame = 3; tree = 1; station = 1 };
      expected = record {
        visited = 1 ∷ 0 ∷ [];
        used = hop 1 0 ∷ [];
        received = [];
        knowing = Unknown ∷ Behind 0 ∷ Here ∷ [];
        holding = [] ∷ (1 ∷ []) ∷ (1 ∷ []) ∷ [];
        answered = 3;
      };
    } ∷
    -- and not even there once bridge 1 believes the link down: neither a frame to a station behind 0
    record {
      letter = 3;
      events = after fallen (Believe 1 0 false ∷ Send 0 1 ∷ Arrive 0 ∷ []);
      look = record { frame = 3; tree = 1; station = 1 };
      expected = record {
        visited = 1 ∷ [];
        used = [];
        received = [];
        knowing = Unknown ∷ Behind 0 ∷ Here ∷ [];
        holding = [] ∷ (1 ∷ []) ∷ (1 ∷ []) ∷ [];
        answered = 0;
      };
    } ∷
    -- nor one to a station that it doesn't know;
    record {
      letter = 3;
      events = after fallen (Believe 1 0 false ∷ Send 0 2 ∷ Arrive 0 ∷ []);
      look = record { frame = 3; tree = 1; station = 2 };
      expected = record {
        visited = 1 ∷ [];
        used = [];
        received = to 4 1 ∷ [];
        knowing = Unknown ∷ Unknown ∷ Unknown ∷ [];
        holding = [] ∷ (1 ∷ []) ∷ (1 ∷ []) ∷ [];
        answered = 0;
      };
    } ∷
    -- and a station at 0 sends nothing
    record {
      letter = 3;
      events = after fallen (Send 2 1 ∷ []);
      look = record { frame = 3; tree = 1; station = 1 };
      expected = record {
        visited = [];
        used = [];
        received = [];
        knowing = Unknown ∷ Behind 0 ∷ Here ∷ [];
        holding = [] ∷ (1 ∷ []) ∷ (1 ∷ []) ∷ [];
        answered = 3;
      };
    } ∷
    -- along the tree of 1 the link between 1 and 2 is used
    record {
      letter = 3;
      events = after announced (Adopt 2 2 ∷ Send 0 1 ∷ Arrive 0 ∷ Arrive 0 ∷ []);
      look = record { frame = 3; tree = 2; station = 0 };
      expected = record {
        visited = 1 ∷ 2 ∷ [];
        used = hop 1 2 ∷ [];
        received = to 4 1 ∷ to 1 2 ∷ [];
        knowing = Unknown ∷ Here ∷ Behind 1 ∷ [];
        holding = [] ∷ (2 ∷ 1 ∷ []) ∷ (2 ∷ 1 ∷ []) ∷ [];
        answered = 0;
      };
    } ∷
    -- D. a bridge that has the old tree only drops a frame along the new one
    record {
      letter = 4;
      events = after announced (Send 0 1 ∷ Arrive 0 ∷ Arrive 0 ∷ []);
      look = record { frame = 3; tree = 2; station = 0 };
      expected = record {
        visited = 1 ∷ 2 ∷ [];
        used = hop 1 2 ∷ [];
        received = to 4 1 ∷ [];
        knowing = Unknown ∷ Here ∷ Unknown ∷ [];
        holding = [] ∷ (2 ∷ 1 ∷ []) ∷ (1 ∷ []) ∷ [];
        answered = 4;
      };
    } ∷
    -- E. after a station moved from 1 to 2, bridge 0 sends frames to it towards 1
    record {
      letter = 5;
      events = after moved_on (Send 2 0 ∷ Arrive 0 ∷ Arrive 0 ∷ []);
      look = record { frame = 3; tree = 1; station = 0 };
      expected = record {
        visited = 0 ∷ 1 ∷ [];
        used = hop 0 1 ∷ [];
        received = [];
        knowing = Behind 1 ∷ Here ∷ Behind 0 ∷ [];
        holding = (1 ∷ []) ∷ (1 ∷ []) ∷ (1 ∷ []) ∷ [];
        answered = 0;
      };
    } ∷
    -- until one of its frames has passed bridge 0,
    record {
      letter = 5;
      events = after passed (Send 2 0 ∷ Arrive 0 ∷ Arrive 0 ∷ []);
      look = record { frame = 4; tree = 1; station = 0 };
      expected = record {
        visited = 0 ∷ 2 ∷ [];
        used = hop 0 2 ∷ [];
        received = to 0 2 ∷ [];
        knowing = Behind 2 ∷ Here ∷ Here ∷ [];
        holding = (1 ∷ []) ∷ (1 ∷ []) ∷ (1 ∷ []) ∷ [];
        answered = 0;
      };
    } ∷
    -- while bridge 1, which none has passed, still has it here;
    record {
      letter = 5;
      events = after passed (Send 4 0 ∷ Arrive 0 ∷ []);
      look = record { frame = 4; tree = 1; station = 0 };
      expected = record {
        visited = 1 ∷ [];
        used = [];
        received = [];
        knowing = Behind 2 ∷ Here ∷ Here ∷ [];
        holding = (1 ∷ []) ∷ (1 ∷ []) ∷ (1 ∷ []) ∷ [];
        answered = 0;
      };
    } ∷
    -- or until it is forgotten
    record {
      letter = 5;
      events = after moved_on (Forget 0 1 0 ∷ Forget 2 1 0 ∷ Send 2 0 ∷ Arrive 0 ∷ Arrive 0 ∷ Arrive 0 ∷ []);
      look = record { frame = 3; tree = 1; station = 0 };
      expected = record {
        visited = 0 ∷ 2 ∷ 1 ∷ [];
        used = hop 0 2 ∷ hop 0 1 ∷ [];
        received = to 0 2 ∷ to 1 2 ∷ [];
        knowing = Unknown ∷ Here ∷ Unknown ∷ [];
        holding = (1 ∷ []) ∷ (1 ∷ []) ∷ (1 ∷ []) ∷ [];
        answered = 0;
      };
    } ∷
    -- F. what isn't a tree isn't adopted
    record {
      letter = 6;
      events = after laid (Announce no_tree ∷ Adopt 1 3 ∷ []);
      look = record { frame = 1; tree = 3; station = 0 };
      expected = record {
        visited = [];
        used = [];
        received = [];
        knowing = Unknown ∷ Unknown ∷ Unknown ∷ [];
        holding = (1 ∷ []) ∷ (1 ∷ []) ∷ (1 ∷ []) ∷ [];
        answered = 5;
      };
    } ∷
    -- G. station 3, of another VLAN, isn't handed the frame of station 0 at its own bridge, neither while it is unknown
    record {
      letter = 7;
      events = after laid (Send 0 3 ∷ Arrive 0 ∷ []);
      look = record { frame = 1; tree = 1; station = 3 };
      expected = record {
        visited = 1 ∷ [];
        used = hop 1 0 ∷ [];
        received = to 4 1 ∷ [];
        knowing = Unknown ∷ Unknown ∷ Unknown ∷ [];
        holding = (1 ∷ []) ∷ (1 ∷ []) ∷ (1 ∷ []) ∷ [];
        answered = 0;
      };
    } ∷
    -- nor when it is known to be there
    record {
      letter = 7;
      events = after laid (Send 3 1 ∷ Arrive 0 ∷ Lose 0 ∷ Send 0 3 ∷ Arrive 0 ∷ []);
      look = record { frame = 2; tree = 1; station = 3 };
      expected = record {
        visited = 1 ∷ [];
        used = [];
        received = [];
        knowing = Unknown ∷ Here ∷ Unknown ∷ [];
        holding = (1 ∷ []) ∷ (1 ∷ []) ∷ (1 ∷ []) ∷ [];
        answered = 0;
      };
    } ∷ []

abbrev pub Hold : List Row → Type 0
Hold [] = Unit {0}
Hold (row ∷ rows) = (seen ring row.events row.look ≡ row.expected) × Hold rows

-- every row of the table holds
abbrev pub AllCases : Type 0
AllCases = Hold cases
