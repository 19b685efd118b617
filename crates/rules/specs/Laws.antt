-- First laws of the definitions: what one price leaves, and what an order does from price to price. Assumes nothing.
use Rattle.std.specs.Prelude.{◌≡◌, ℕ, ◌+◌, ◌<◌, ◌≤◌, min, Bool, false, cond, not, ◌⊎◌, List, [], ◌∷◌, length, filter, Option, ◌==◌, nat_eq}
use Rattle.std.specs.List.{AllByRecursion}
use Rattle.sharing.specs.Sharing.{Sharing, Lawful}
use Rattle.sharing.specs.Totals.{total, count}
use Rattle.rules.specs.declared.tape.Line.{Line}
use Rattle.rules.specs.declared.tape.Line.TheVariants.{Fill, Cancel, Filled, Rest, Route}
use Rattle.rules.specs.declared.terms.Entry.{Entry}
use Rattle.rules.specs.declared.terms.Routed.{Routed}
use Rattle.rules.specs.Checks.{is_barred}
use Rattle.rules.specs.Level.{size_of, resized, level}
use Rattle.rules.specs.Ranks.{class_of}
use Rattle.rules.specs.Walk.{flat, runs, walk}

-- the contracts of a fill; no other line has any
abbrev pub traded_in : Line → ℕ
traded_in (Fill id firm size price step) = size
traded_in (Cancel id firm size cause) = 0
traded_in (Filled id firm) = 0
traded_in (Rest id firm size price) = 0
traded_in (Route id firm size) = 0

-- of two entries of one class the first is the earlier
abbrev pub ByTime : List Entry → Type 0
ByTime [] = Unit {0}
ByTime (e ∷ es) = AllByRecursion (λ f. class_of e ≡ class_of f → e.time < f.time) es × ByTime es

-- what can stand at a price when an order comes to it
pub record Tradable (balance : ℕ) (run : List Entry) : Type 0 where
  pub few : length run ≤ 256
  pub small : balance < 100000
  pub sized : AllByRecursion (λ e. (1 ≤ e.size) × (e.size ≤ 99999)) run
  pub timed : ByTime run

-- what the entries with an id hold
abbrev pub holding : ℕ → List Entry → ℕ
holding i es = total (λ e. cond (e.id == i) e.size 0) es

-- the contracts of a line that takes some from the entry with an id: a fill, or a cancel
abbrev pub taken_from : ℕ → Line → ℕ
taken_from i (Fill id firm size price step) = cond (id == i) size 0
taken_from i (Cancel id firm size cause) = cond (id == i) size 0
taken_from i (Filled id firm) = 0
taken_from i (Rest id firm size price) = 0
taken_from i (Route id firm size) = 0

-- at one price, whatever the rule: the fills add up to the lesser of the balance and what is not barred, they are what the
-- balance lost, each entry lost what the lines that name it say, so that none gave more than it had, and then the order or the
-- price is exhausted
pub record Exhausts (rule : Sharing) (o : Routed) (at_best : Bool) (balance : ℕ) (run : List Entry) : Type 0 where
  pub adds_up : total traded_in (level rule o at_best balance run).lines ≡ min balance (total size_of (filter (λ e. not (is_barred o.firm o.own_firm_mark e)) run))
  pub pays : (level rule o at_best balance run).balance + total traded_in (level rule o at_best balance run).lines ≡ balance
  pub accounts : (i : ℕ) → holding i (level rule o at_best balance run).run + total (taken_from i) (level rule o at_best balance run).lines ≡ holding i run
  pub ends : ((level rule o at_best balance run).balance ≡ 0) ⊎ ((level rule o at_best balance run).run ≡ [])

abbrev pub OnePrice : Type 0
OnePrice = (rule : Sharing) → Lawful rule → (o : Routed) (at_best : Bool) (balance : ℕ) (run : List Entry) → Tradable balance run → Exhausts rule o at_best balance run

-- a line of the tape that takes contracts from the entry with an id
abbrev pub names : ℕ → Line → Bool
names i (Fill id firm size price step) = id == i
names i (Cancel id firm size cause) = id == i
names i (Filled id firm) = false
names i (Rest id firm size price) = false
names i (Route id firm size) = false

-- fs is what is left of es: some entries are gone, some have fewer contracts but at least one, and nothing else is altered
pub data LeftOf : List Entry → List Entry → Type 0 where
  none : LeftOf [] []
  gone : {e : Entry} {es fs : List Entry} → LeftOf es fs → LeftOf (e ∷ es) fs
  same : {e : Entry} {es fs : List Entry} → LeftOf es fs → LeftOf (e ∷ es) (e ∷ fs)
  fewer : {e : Entry} {es fs : List Entry} (n : ℕ) → 1 ≤ n → n ≤ e.size → LeftOf es fs → LeftOf (e ∷ es) (resized n e ∷ fs)

-- from price to price: the fills are what the balance lost, and each entry lost what the lines that name it say; no entry has
-- more than one line, where no other has its id; and what stands there afterwards is left of what stood there, in its order
pub record Conserves (rule : Sharing) (o : Routed) (national away : Option ℕ) (balance : ℕ) (rs : List (List Entry)) : Type 0 where
  pub pays : (walk rule o national away balance rs).balance + total traded_in (walk rule o national away balance rs).lines ≡ balance
  pub accounts : (i : ℕ) → holding i (walk rule o national away balance rs).run + total (taken_from i) (walk rule o national away balance rs).lines ≡ holding i (flat rs)
  pub once : (i : ℕ) → count (names i) (walk rule o national away balance rs).lines ≤ count (λ e. nat_eq e.id i) (flat rs)
  pub leaves : LeftOf (flat rs) (walk rule o national away balance rs).run

-- the runs of one price are the entries of a side
abbrev pub RunsAreWhole : Type 0
RunsAreWhole = (es : List Entry) → flat (runs es) ≡ es

abbrev pub AllPrices : Type 0
AllPrices = (rule : Sharing) → Lawful rule → (o : Routed) (national away : Option ℕ) (balance : ℕ) (rs : List (List Entry)) → AllByRecursion (Tradable balance) rs → Conserves rule o national away balance rs
