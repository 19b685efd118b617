-- What the records tell once an order has traded and come to its end. Assumes nothing.
use Rattle.std.proofs.Common.{◌≡◌, ℕ, ◌+◌, false, eqb, List, [], ◌∷◌, ◌++◌, is_some, Some, None, Option, sym, refl, ap, ◌∙◌, subst, arith}
use Rattle.std.specs.List.{AllByRecursion}
use Rattle.std.proofs.ByRecursion.{All-append}
use Rattle.std.proofs.lemmas.Bool.{cond-true, cond-false, eq-eqb}
use Rattle.ranked.specs.Ranked.{ahead}
use Rattle.ranked.proofs.Orderly.{all_inserted_into}
use Rattle.sharing.specs.Totals.{one_if, count}
use Rattle.rules.specs.declared.tape.Line.{Line}
use Rattle.rules.specs.declared.terms.Entry.{Entry}
use Rattle.rules.specs.declared.terms.Routed.{Routed}
use Rattle.rules.specs.declared.terms.Side.{Side}
use Rattle.rules.specs.declared.terms.Side.TheVariants.{Buy, Sell}
use Rattle.rules.specs.Laws.{LeftOf}
use Rattle.rules.specs.Level.{resized}
use Rattle.rules.specs.Model.{Model, Counters, entries, away, with_entries, with_out, with_counters, with_last_time, ranked_in}
use Rattle.rules.specs.Ranks.{rank_of, rank_before}
use Rattle.rules.specs.Sides.{other_side}
use Rattle.rules.specs.Sound.{standing_with}
use Rattle.rules.specs.Trade.{Ending, end_line, sized, resting_entry, ended}
use Rattle.rules.specs.Trade.Ending.{is_filled, is_routed, is_cancelled, rests}
use Rattle.rules.proofs.LeftOver.{all_left_of}
use Rattle.laws.specs.Facts.{arrived, Rested, rest_or, rested_in, rested_by, price_by, resting_price, id_of, timed_by, clock, time_by, working_time, away_price}
use Rattle.laws.specs.Histories.{Told}
use Rattle.laws.specs.Standing.{Known}
use Rattle.laws.proofs.Booked.{Plain, side_fresh}
use Rattle.laws.proofs.ById.{others_differ}
use Rattle.laws.proofs.Lists.{all_both}
use Rattle.laws.proofs.Tied.{Comes}

-- a call tells nothing new of an order but its account
pub record Steady (r : Told) (rs : List Told) (i : ℕ) : Type 0 where
  pub came : arrived i (r ∷ rs) ≡ arrived i rs
  pub price : resting_price i (r ∷ rs) ≡ resting_price i rs
  pub time : working_time i (r ∷ rs) ≡ working_time i rs

-- an entry with another size and a working time that the records tell
-- Stays field by field, as does `comes_as`: `record k { .. }` keeps the type of k, which names the older records.
pub known_as : (s : Side) (rs rs' : List Told) (n t : ℕ) (e : Entry) → arrived e.id rs' ≡ arrived e.id rs → resting_price e.id rs' ≡ resting_price e.id rs → working_time e.id rs' ≡ t → Known s rs e → Known s rs' (record e { size = n; time = t })
known_as s rs rs' n t e came price time k = record { came = k.came; found = came ∙ k.found; side = k.side; firm = k.firm; kind = k.kind; market = k.market; mark = k.mark; price = price ∙ k.price; time = time }

pub known_steady : (s : Side) (r : Told) (rs : List Told) (e : Entry) → Steady r rs e.id → Known s rs e → Known s (r ∷ rs) e
known_steady s r rs e steady k = known_as s rs (r ∷ rs) e.size e.time e steady.came steady.price (steady.time ∙ k.time) k

pub known_resized : (s : Side) (rs : List Told) (n : ℕ) (e : Entry) → Known s rs e → Known s rs (resized n e)
known_resized s rs n e k = known_as s rs rs n e.time e refl refl k.time k

-- an order of another size, where nothing new is told of it
abbrev pub comes_as : (tick : ℕ) (rs rs' : List Told) (n : ℕ) (o : Routed) → arrived o.id rs' ≡ arrived o.id rs → Comes tick rs o → Comes tick rs' (sized n o)
comes_as tick rs rs' n o same k = record { came = k.came; found = same ∙ k.found; side = k.side; firm = k.firm; kind = k.kind; market = k.market; mark = k.mark; directed = k.directed; stood = k.stood; listed = k.listed; cap = k.cap }

-- a side with other entries
pub knows_with : (P : Side → Entry → Type 0) (s : Side) (es : List Entry) (m : Model) → AllByRecursion (P s) es → ((t : Side) → AllByRecursion (P t) (entries t m)) → (t : Side) → AllByRecursion (P t) (entries t (with_entries s es m))
knows_with P Buy es m ps knows Buy = ps
knows_with P Buy es m ps knows Sell = knows Sell
knows_with P Sell es m ps knows Buy = knows Buy
knows_with P Sell es m ps knows Sell = ps

-- the rest line is the end line, if that is one
rest_end : (ls : List Line) (l : Line) → AllByRecursion Plain ls → rested_in (ls ++ l ∷ []) ≡ rest_or l None
rest_end [] l plain = refl
rest_end (k ∷ ls) l plain = plain.0.1 (rested_in (ls ++ l ∷ [])) ∙ rest_end ls l plain.1

abbrev rest_of : Routed → Ending → Option Rested
rest_of o is_filled = None
rest_of o is_routed = None
rest_of o (is_cancelled why) = None
rest_of o rests = Some (record { id = o.id; price = o.cap })

rest_line : (o : Routed) (b : ℕ) (e : Ending) → rest_or (end_line o b e) None ≡ rest_of o e
rest_line o b is_filled = refl
rest_line o b is_routed = refl
rest_line o b (is_cancelled why) = refl
rest_line o b rests = refl

-- what a call in which an order trades tells of others, of rests and of away prices
pub record TradeTold (r : Told) (rs : List Told) (own : ℕ) (tape : List Line) : Type 0 where
  pub came : (i : ℕ) → eqb own i ≡ false → arrived i (r ∷ rs) ≡ arrived i rs
  pub rested : rested_by r ≡ rested_in tape
  pub timed : timed_by r rs ≡ id_of (rested_in tape)
  pub away : (s : Side) → away_price s (r ∷ rs) ≡ away_price s rs

price_else : (o : Routed) (e : Ending) (i : ℕ) (p : Option ℕ) → eqb o.id i ≡ false → price_by i (rest_of o e) p ≡ p
price_else o is_filled i p else = refl
price_else o is_routed i p else = refl
price_else o (is_cancelled why) i p else = refl
price_else o rests i p else = cond-false (eqb o.id i) (Some o.cap) p else

time_else : (o : Routed) (e : Ending) (i now t : ℕ) → eqb o.id i ≡ false → time_by i (id_of (rest_of o e)) now t ≡ t
time_else o is_filled i now t else = refl
time_else o is_routed i now t else = refl
time_else o (is_cancelled why) i now t else = refl
time_else o rests i now t else = cond-false (eqb o.id i) now t else

-- the rest of a book whose side has other entries
beside_away : (s : Side) (es : List Entry) (m : Model) (t : Side) → away t (with_entries s es m) ≡ away t m
beside_away Buy es m Buy = refl
beside_away Buy es m Sell = refl
beside_away Sell es m Buy = refl
beside_away Sell es m Sell = refl

pub beside : (s : Side) (es : List Entry) (m : Model) → ((with_entries s es m).out ≡ m.out) × ((with_entries s es m).counters ≡ m.counters) × ((with_entries s es m).opening ≡ m.opening) × ((t : Side) → away t (with_entries s es m) ≡ away t m)
beside Buy es m = (refl, refl, refl, beside_away Buy es m)
beside Sell es m = (refl, refl, refl, beside_away Sell es m)

-- the sides of a book with other counters, and with other orders out
pub recounted : (n : Counters) (m : Model) (t : Side) → (entries t (with_counters n m) ≡ entries t m) × (away t (with_counters n m) ≡ away t m)
recounted n m Buy = (refl, refl)
recounted n m Sell = (refl, refl)

pub given_out : (xs : List Routed) (m : Model) (t : Side) → (entries t (with_out xs m) ≡ entries t m) × (away t (with_out xs m) ≡ away t m)
given_out xs m Buy = (refl, refl)
given_out xs m Sell = (refl, refl)

pub timed_later : (n : ℕ) (m : Model) (t : Side) → (entries t (with_last_time n m) ≡ entries t m) × (away t (with_last_time n m) ≡ away t m)
timed_later n m = recounted (record m.counters { last_time = n }) m

-- what an end leaves
abbrev placed : Routed → ℕ → Model → Model
placed o b m = with_entries o.side (ranked_in o.side (resting_entry o b (m.counters.last_time + 1)) (entries o.side m)) m

opening_ended : (o : Routed) (b : ℕ) (e : Ending) (m : Model) → ((ended o b e m).opening ≡ m.opening) × ((ended o b e m).counters.last_id ≡ m.counters.last_id)
opening_ended o b is_filled m = (refl, refl)
opening_ended o b is_routed m = (refl, refl)
opening_ended o b (is_cancelled why) m = (refl, refl)
opening_ended o b rests m = let same = beside o.side (ranked_in o.side (resting_entry o b (m.counters.last_time + 1)) (entries o.side m)) m in (same.2, ap (λ x. x.last_id) same.1)

away_case : (o : Routed) (b : ℕ) (e : Ending) (m : Model) (s : Side) → away s (ended o b e m) ≡ away s m
away_case o b is_filled m s = refl
away_case o b is_routed m Buy = refl
away_case o b is_routed m Sell = refl
away_case o b (is_cancelled why) m s = refl
away_case o b rests m s = (timed_later (m.counters.last_time + 1) (placed o b m) s).1 ∙ (beside o.side (ranked_in o.side (resting_entry o b (m.counters.last_time + 1)) (entries o.side m)) m).3 s

clock_case : (o : Routed) (b : ℕ) (e : Ending) (m : Model) (n : ℕ) → n ≡ m.counters.last_time → n + one_if (is_some (id_of (rest_of o e))) ≡ (ended o b e m).counters.last_time
clock_case o b is_filled m n same = omega arith
clock_case o b is_routed m n same = omega arith
clock_case o b (is_cancelled why) m n same = omega arith
clock_case o b rests m n same = omega arith

rows_case : (P : Routed → Type 0) (o : Routed) (b : ℕ) (e : Ending) (m : Model) → P (sized b o) → AllByRecursion P m.out → AllByRecursion P (ended o b e m).out
rows_case P o b is_filled m p ps = ps
rows_case P o b is_routed m p ps = All-append P m.out (sized b o ∷ []) ps (p, tt)
rows_case P o b (is_cancelled why) m p ps = ps
rows_case P o b rests m p ps = subst (AllByRecursion P) (sym (beside o.side (ranked_in o.side (resting_entry o b (m.counters.last_time + 1)) (entries o.side m)) m).0) ps

knows_case : (P : Side → Entry → Type 0) (o : Routed) (b : ℕ) (e : Ending) (m : Model) → (e ≡ rests → P o.side (resting_entry o b (m.counters.last_time + 1))) → ((t : Side) → AllByRecursion (P t) (entries t m)) → (t : Side) → AllByRecursion (P t) (entries t (ended o b e m))
knows_case P o b is_filled m p knows t = knows t
knows_case P o b is_routed m p knows Buy = knows Buy
knows_case P o b is_routed m p knows Sell = knows Sell
knows_case P o b (is_cancelled why) m p knows t = knows t
knows_case P o b rests m p knows t =
    subst (AllByRecursion (P t)) (sym (timed_later (m.counters.last_time + 1) (placed o b m) t).0)
    (knows_with P o.side (ranked_in o.side (resting_entry o b (m.counters.last_time + 1)) (entries o.side m)) m
    (all_inserted_into (ahead rank_before (λ _. rank_of) o.side) (P o.side) (resting_entry o b (m.counters.last_time + 1)) (entries o.side m) (p refl) (knows o.side)) knows t)

-- what the records tell after such a call, and what it leaves of the book
pub record After (tick : ℕ) (r : Told) (rs : List Told) (m after : Model) : Type 0 where
  pub opened : after.opening ≡ m.opening
  pub last_id : after.counters.last_id ≡ m.counters.last_id
  pub clock : clock (r ∷ rs) ≡ after.counters.last_time
  pub known : (s : Side) → AllByRecursion (Known s (r ∷ rs)) (entries s after)
  pub rows : AllByRecursion (Comes tick (r ∷ rs)) after.out
  pub away : (s : Side) → away_price s (r ∷ rs) ≡ away s after

module _ (tick : ℕ) (r : Told) (rs : List Told) (o : Routed) (b : ℕ) (e : Ending) (ls : List Line) (run : List Entry) (m : Model)
    (plain : AllByRecursion Plain ls) (less : LeftOf (entries (other_side o.side) m) run) (told : TradeTold r rs o.id (ls ++ end_line o b e ∷ []))
    (comes : Comes tick (r ∷ rs) o) (fresh : standing_with o.id m ≡ 0) where
  abbrev thin : Model
  thin = with_entries (other_side o.side) run m

  rested_as : rested_by r ≡ rest_of o e
  rested_as = told.rested ∙ rest_end ls (end_line o b e) plain ∙ rest_line o b e

  timed_as : timed_by r rs ≡ id_of (rest_of o e)
  timed_as = told.timed ∙ ap id_of (rest_end ls (end_line o b e) plain ∙ rest_line o b e)

  others_steady : (i : ℕ) → eqb o.id i ≡ false → Steady r rs i
  others_steady i else = record {
    came = told.came i else;
    price = ap (λ x. price_by i x (resting_price i rs)) rested_as ∙ price_else o e i (resting_price i rs) else;
    time = ap (λ x. time_by i x (clock (r ∷ rs)) (working_time i rs)) timed_as ∙ time_else o e i (clock (r ∷ rs)) (working_time i rs) else;
  }

  known_on : (s : Side) (es : List Entry) → count (λ x. eqb x.id o.id) es ≡ 0 → AllByRecursion (Known s rs) es → AllByRecursion (Known s (r ∷ rs)) es
  known_on s es none known = all_both (λ x. eqb o.id x.id ≡ false) (Known s rs) (Known s (r ∷ rs)) (λ f differ k. known_steady s r rs f (others_steady f.id differ) k) es (others_differ (λ x. x.id) o.id es none) known

  knows_thin : ((s : Side) → AllByRecursion (Known s rs) (entries s m)) → (s : Side) → AllByRecursion (Known s (r ∷ rs)) (entries s thin)
  knows_thin knows =
      let contra = other_side o.side in
      knows_with (λ s. Known s (r ∷ rs)) contra run m
      (all_left_of (Known contra (r ∷ rs)) (λ n f one le k. known_resized contra (r ∷ rs) n f k) less (known_on contra (entries contra m) (side_fresh contra o.id m fresh) (knows contra)))
      (λ s. known_on s (entries s m) (side_fresh s o.id m fresh) (knows s))

  clock_ended : clock rs ≡ m.counters.last_time → clock (r ∷ rs) ≡ (ended o b e thin).counters.last_time
  clock_ended time = ap (λ x. clock rs + one_if (is_some x)) timed_as ∙ clock_case o b e thin (clock rs) (time ∙ sym (ap (λ x. x.last_time) (beside (other_side o.side) run m).1))

  -- the order where it comes to rest
  known_new : clock rs ≡ m.counters.last_time → e ≡ rests → Known o.side (r ∷ rs) (resting_entry o b (thin.counters.last_time + 1))
  known_new time ends =
      let mine = eq-eqb o.id o.id refl in
      let at : rested_by r ≡ Some (record { id = o.id; price = o.cap }) = rested_as ∙ ap (rest_of o) ends in
      let when : timed_by r rs ≡ Some o.id = timed_as ∙ ap (λ x. id_of (rest_of o x)) ends in
      record {
        came = comes.came;
        found = comes.found;
        side = comes.side;
        firm = comes.firm;
        kind = comes.kind;
        market = comes.market;
        mark = comes.mark;
        price = ap (λ x. price_by o.id x (resting_price o.id rs)) at ∙ cond-true (eqb o.id o.id) (Some o.cap) (resting_price o.id rs) mine;
        time = ap (λ x. time_by o.id x (clock (r ∷ rs)) (working_time o.id rs)) when ∙ cond-true (eqb o.id o.id) (clock (r ∷ rs)) (working_time o.id rs) mine
            ∙ ap (λ x. clock rs + one_if (is_some x)) when ∙ ap (λ n. n + 1) (time ∙ sym (ap (λ x. x.last_time) (beside (other_side o.side) run m).1));
      }

  knows_ended : clock rs ≡ m.counters.last_time → ((s : Side) → AllByRecursion (Known s rs) (entries s m)) → (s : Side) → AllByRecursion (Known s (r ∷ rs)) (entries s (ended o b e thin))
  knows_ended time knows s = knows_case (λ t. Known t (r ∷ rs)) o b e thin (known_new time) (knows_thin knows) s

  rows_ended : AllByRecursion (Comes tick rs) m.out → AllByRecursion (Comes tick (r ∷ rs)) (ended o b e thin).out
  rows_ended rows =
      let none : count (λ x. eqb x.id o.id) m.out ≡ 0 = omega arith in
      rows_case (Comes tick (r ∷ rs)) o b e thin (comes_as tick (r ∷ rs) (r ∷ rs) b o refl comes)
      (subst (AllByRecursion (Comes tick (r ∷ rs))) (sym (beside (other_side o.side) run m).0)
      (all_both (λ x. eqb o.id x.id ≡ false) (Comes tick rs) (Comes tick (r ∷ rs)) (λ x differ k. comes_as tick rs (r ∷ rs) x.size x (told.came x.id differ) k) m.out (others_differ (λ (x : Routed). x.id) o.id m.out none) rows))

  away_ended : ((s : Side) → away_price s rs ≡ away s m) → (s : Side) → away_price s (r ∷ rs) ≡ away s (ended o b e thin)
  away_ended aways s = told.away s ∙ aways s ∙ sym ((beside (other_side o.side) run m).3 s) ∙ sym (away_case o b e thin s)

  pub ended_after : clock rs ≡ m.counters.last_time → ((s : Side) → AllByRecursion (Known s rs) (entries s m)) → AllByRecursion (Comes tick rs) m.out → ((s : Side) → away_price s rs ≡ away s m) → After tick r rs m (ended o b e thin)
  ended_after time known rows aways = record {
    opened = (opening_ended o b e thin).0 ∙ (beside (other_side o.side) run m).2;
    last_id = (opening_ended o b e thin).1 ∙ ap (λ x. x.last_id) (beside (other_side o.side) run m).1;
    clock = clock_ended time;
    known = knows_ended time known;
    rows = rows_ended rows;
    away = away_ended aways;
  }
