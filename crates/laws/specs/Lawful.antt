-- The laws over whole histories, and the form that a public call carries. Assumes nothing.
use Rattle.std.specs.Prelude.{◌≡◌, ℕ, ◌-◌, List, [], ◌∷◌, Some, Option}
use Rattle.sharing.specs.Sharing.{Sharing}
use Rattle.rules.specs.declared.tape.Line.{Line}
use Rattle.rules.specs.declared.terms.Entry.{Entry}
use Rattle.rules.specs.Calls.{Returning}
use Rattle.rules.specs.Model.{Model}
use Rattle.rules.specs.Sides.{other_side}
use Rattle.laws.specs.Accounts.{account}
use Rattle.laws.specs.Balanced.{Balanced}
use Rattle.laws.specs.Facts.{Arrived, arrived, away_price}
use Rattle.laws.specs.Histories.{Call, Told, History, book_of, told_of, longer}
use Rattle.laws.specs.Histories.Call.{enters, returns, resizes, cancels, updates}
use Rattle.laws.specs.Histories.Told.{turned_down, carried_out}
use Rattle.laws.specs.Makers.{GuaranteeAndFloors}
use Rattle.laws.specs.Priority.{PriorityAndPrice}
use Rattle.laws.specs.Scenes.{Scene}
use Rattle.laws.specs.Standing.{Standing, Capped}

-- an order that trades in a call: as it came, what it brings to this call, its least size there, the rule and the tape
pub record Trading : Type 0 where
  pub came : Arrived
  pub brings : ℕ
  pub least : ℕ
  pub rule : Sharing
  pub tape : List Line

abbrev pub scene_of : Trading → ℕ → Option ℕ → List Entry → Scene
scene_of t cap away es = record {
  side = t.came.order.side;
  firm = t.came.order.firm;
  mark = t.came.order.own_firm_mark;
  directed = t.came.order.directed;
  cap = cap;
  brings = t.brings;
  least = t.least;
  away = away;
  standing = es;
  rule = t.rule;
  tape = t.tape;
}

-- a law holds of a call's order, by what was told before the call
pub record HoldsOf (Law : Scene → Type 0) (tick : ℕ) (rs : List Told) (t : Trading) : Type 0 where
  -- there is a list of what stands on the other side, and the order has a cap
  pub entries : List Entry
  pub listed : Standing (other_side t.came.order.side) rs entries
  pub cap : ℕ
  pub capped : Capped tick t.came cap
  -- whatever list it is, and whatever the cap, the law holds
  pub law : (es : List Entry) (limit : ℕ) → Standing (other_side t.came.order.side) rs es → Capped tick t.came limit → Law (scene_of t limit (away_price (other_side t.came.order.side) rs) es)

-- a return is that of an accepted order, which brings what was routed less what was executed away
pub record HoldsOfReturn (Law : Scene → Type 0) (tick : ℕ) (rs : List Told) (rule : Sharing) (c : Returning) (tape : List Line) : Type 0 where
  pub came : Arrived
  pub found : arrived c.id rs ≡ Some came
  pub holds : HoldsOf Law tick rs (record { came = came; brings = (account c.id rs).out - c.executed; least = 0; rule = rule; tape = tape })

abbrev pub HoldsIn : (Scene → Type 0) → ℕ → List Told → Call → List Line → Type 0
HoldsIn Law tick rs (enters rule c) tape = HoldsOf Law tick rs (record { came = record { order = c.order; before = rs }; brings = c.order.size; least = c.order.least; rule = rule.shares; tape = tape })
HoldsIn Law tick rs (returns rule c) tape = HoldsOfReturn Law tick rs rule.shares c tape
HoldsIn Law tick rs (resizes c) tape = tape ≡ []
HoldsIn Law tick rs (cancels c) tape = tape ≡ []
HoldsIn Law tick rs (updates c) tape = tape ≡ []

-- a law holds in each call: a refused call and those that do not trade have no tape
abbrev pub HoldsAt : (Scene → Type 0) → ℕ → List Told → Told → Type 0
HoldsAt Law tick rs (turned_down k r) = Unit {0}
HoldsAt Law tick rs (carried_out k answer tape) = HoldsIn Law tick rs k tape

abbrev pub InEachCall : (Scene → Type 0) → ℕ → List Told → Type 0
InEachCall Law tick [] = Unit {0}
InEachCall Law tick (r ∷ rs) = HoldsAt Law tick rs r × InEachCall Law tick rs

-- the three laws
pub record LawfulHistory (h : History) : Type 0 where
  pub priority : InEachCall PriorityAndPrice h.opening.tick (told_of h)
  pub makers : InEachCall GuaranteeAndFloors h.opening.tick (told_of h)
  pub accounts : Balanced (told_of h) (book_of h)

abbrev pub EveryHistory : Type 0
EveryHistory = (h : History) → LawfulHistory h

-- what a public call carries: for every history that reaches this book, the history longer by this call is lawful
abbrev pub StaysLawful : Model → Call → Type 0
StaysLawful m k = (h : History) → book_of h ≡ m → LawfulHistory (longer k h)

abbrev pub EveryCall : Type 0
EveryCall = (m : Model) (k : Call) → StaysLawful m k
