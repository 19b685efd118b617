-- What can happen to a sound book leaves it sound. Assumes nothing.
use Rattle.std.proofs.Common.{◌≡◌, ℕ, ◌+◌, ◌<◌, ◌≤◌, Bool, true, eqb, List, [], ◌∷◌, ◌++◌, length, filter, sym, refl, ap, ◌∙◌, arith, length-append}
use Rattle.std.specs.List.{AllByRecursion}
use Rattle.std.proofs.ByRecursion.{All-weaker, All-append, all_kept_by}
use Rattle.std.proofs.lemmas.Bool.Decides.{nat_tests}
use Rattle.ranked.specs.Ranked.{ahead}
use Rattle.ranked.proofs.Orderly.{all_inserted_into, length_inserted_into}
use Rattle.sharing.specs.Totals.{one_if, count}
use Rattle.sharing.specs.Allotted.{total_append}
use Rattle.sharing.specs.Ordered.{total_inserted}
use Rattle.rules.specs.declared.terms.Entry.{Entry}
use Rattle.rules.specs.declared.terms.Routed.{Routed}
use Rattle.rules.specs.declared.terms.Side.{Side}
use Rattle.rules.specs.declared.terms.Side.TheVariants.{Buy, Sell}
use Rattle.rules.specs.Laws.{LeftOf}
use Rattle.rules.specs.Model.{Model, Counters, entries, places, with_entries, with_out, with_counters, with_last_time, ranked_in}
use Rattle.rules.specs.Prices.{is_price}
use Rattle.rules.specs.Ranks.{rank_of, rank_before}
use Rattle.rules.specs.Sound.{GoodEntry, GoodRow, GoodSide, standing_with, Sound}
use Rattle.rules.proofs.Held.{length_kept}
use Rattle.rules.proofs.InRank.{in_rank_left, in_rank_inserted}
use Rattle.rules.proofs.LeftOver.{all_left_of, length_left_of}
use Rattle.rules.proofs.Leaves.{count_left}

abbrev pub has_id : ℕ → Entry → Bool
has_id i e = eqb e.id i

pub good_side : (s : Side) (m : Model) → Sound m → GoodSide m.opening.tick m.counters (places s m) s (entries s m)
good_side Buy m sound = sound.bids
good_side Sell m sound = sound.offers

-- a side that has other entries
pub entries_with : (s : Side) (es : List Entry) (m : Model) → entries s (with_entries s es m) ≡ es
entries_with Buy es m = refl
entries_with Sell es m = refl

pub with_again : (s : Side) (es fs : List Entry) (m : Model) → with_entries s fs (with_entries s es m) ≡ with_entries s fs m
with_again Buy es fs m = refl
with_again Sell es fs m = refl

-- how often an id stands once a side has other entries
pub counts : (s : Side) (es : List Entry) (m : Model) (i : ℕ) → standing_with i (with_entries s es m) + count (has_id i) (entries s m) ≡ standing_with i m + count (has_id i) es
counts Buy es m i = omega arith
counts Sell es m i = omega arith

pub put : (s : Side) (es : List Entry) (m : Model) → Sound m → GoodSide m.opening.tick m.counters (places s m) s es → ((i : ℕ) → standing_with i (with_entries s es m) ≤ 1) → Sound (with_entries s es m)
put Buy es m sound good unique = record { tick = sound.tick; bid_places = sound.bid_places; offer_places = sound.offer_places; bids = good; offers = sound.offers; away_bid = sound.away_bid; away_offer = sound.away_offer; out = sound.out; few_out = sound.few_out; unique = unique; bounded = sound.bounded }
put Sell es m sound good unique = record { tick = sound.tick; bid_places = sound.bid_places; offer_places = sound.offer_places; bids = sound.bids; offers = good; away_bid = sound.away_bid; away_offer = sound.away_offer; out = sound.out; few_out = sound.few_out; unique = unique; bounded = sound.bounded }

-- a side is left with less
pub thinned : (s : Side) (fs : List Entry) (m : Model) → Sound m → LeftOf (entries s m) fs → Sound (with_entries s fs m)
thinned s fs m sound less =
    let g = good_side s m sound in
    put s fs m sound
    (record {
      ranked = in_rank_left s less g.ranked;
      good = all_left_of (GoodEntry m.opening.tick m.counters) (λ n e one le h. record { some = one; size = omega (arith, h.size); price = h.price; id = h.id; time = h.time }) less g.good;
      few = omega (arith, length_left_of less, g.few);
    })
    (λ i. omega (arith, counts s fs m i, count_left (has_id i) (λ n e. refl) less, sound.unique i))

later_entry : (tick : ℕ) (a b : Counters) → a.last_id ≤ b.last_id → a.last_time ≤ b.last_time → (e : Entry) → GoodEntry tick a e → GoodEntry tick b e
later_entry tick a b ids times e h = record { some = h.some; size = h.size; price = h.price; id = omega (arith, h.id); time = omega (arith, h.time) }

later_side : (tick most : ℕ) (s : Side) (a b : Counters) → a.last_id ≤ b.last_id → a.last_time ≤ b.last_time → (es : List Entry) → GoodSide tick a most s es → GoodSide tick b most s es
later_side tick most s a b ids times es g = record { ranked = g.ranked; good = All-weaker (GoodEntry tick a) (GoodEntry tick b) (later_entry tick a b ids times) es g.good; few = g.few }

-- the counters go on
pub recounted : (n : Counters) (m : Model) → Sound m → m.counters.last_id ≤ n.last_id → m.counters.last_time ≤ n.last_time → n.last_time + length m.out ≤ 4000000017 → Sound (with_counters n m)
recounted n m sound ids times bound = record {
  tick = sound.tick;
  bid_places = sound.bid_places;
  offer_places = sound.offer_places;
  bids = later_side m.opening.tick m.opening.bid_places Buy m.counters n ids times m.bids sound.bids;
  offers = later_side m.opening.tick m.opening.offer_places Sell m.counters n ids times m.offers sound.offers;
  away_bid = sound.away_bid;
  away_offer = sound.away_offer;
  out = All-weaker (GoodRow m.opening.tick m.counters) (GoodRow m.opening.tick n) (λ r h. record { some = h.some; size = h.size; price = h.price; id = omega (arith, h.id) }) m.out sound.out;
  few_out = sound.few_out;
  unique = sound.unique;
  bounded = bound;
}

-- an id that stands nowhere may stand once
once_more : (j i n : ℕ) → (j ≡ i → n ≡ 0) → n ≤ 1 → one_if (eqb j i) + n ≤ 1
once_more j i n fresh most = grind (arith, nat_tests, fresh)

-- an entry with the newest time takes its place on a side
inserted_good : (tick most : ℕ) (n : Counters) (s : Side) (e : Entry) (es : List Entry) → GoodSide tick n most s es → 1 ≤ e.size → e.size ≤ 99999 → is_price tick e.price ≡ true → e.id ≤ n.last_id → e.time ≡ n.last_time + 1 → length es < most → GoodSide tick (record n { last_time = n.last_time + 1 }) most s (ranked_in s e es)
inserted_good tick most n s e es g some size price id time room =
    let next = record n { last_time = n.last_time + 1 } in
    let by = ahead rank_before (λ _. rank_of) s in
    record {
      ranked = in_rank_inserted s e es (All-weaker (GoodEntry tick n) (λ f. f.time < e.time) (λ f h. omega (arith, h.time)) es g.good) g.ranked;
      good = all_inserted_into by (GoodEntry tick next) e es (record { some = some; size = size; price = price; id = id; time = omega arith }) (All-weaker (GoodEntry tick n) (GoodEntry tick next) (later_entry tick n next (omega arith) (omega arith)) es g.good);
      few = omega (arith, length_inserted_into by e es);
    }

inserted_count : (s : Side) (e : Entry) (es : List Entry) (i : ℕ) → count (has_id i) (ranked_in s e es) ≡ one_if (eqb e.id i) + count (has_id i) es
inserted_count s e es i = total_inserted (ahead rank_before (λ _. rank_of) s) (λ f. one_if (eqb f.id i)) e es

inserted_unique : (s : Side) (e : Entry) (m : Model) → Sound m → standing_with e.id m ≡ 0 → (i : ℕ) → standing_with i (with_entries s (ranked_in s e (entries s m)) m) ≤ 1
inserted_unique s e m sound fresh i =
    omega (arith, counts s (ranked_in s e (entries s m)) m i, inserted_count s e (entries s m) i, once_more e.id i (standing_with i m) (λ same. ap (λ j. standing_with j m) (sym same) ∙ fresh) (sound.unique i))

-- an entry with a new working time comes to rest
pub rested : (s : Side) (e : Entry) (m : Model) → Sound m → standing_with e.id m ≡ 0 → 1 ≤ e.size → e.size ≤ 99999 → is_price m.opening.tick e.price ≡ true → e.id ≤ m.counters.last_id → e.time ≡ m.counters.last_time + 1 → length (entries s m) < places s m → m.counters.last_time + 1 + length m.out ≤ 4000000017 → Sound (with_last_time (m.counters.last_time + 1) (with_entries s (ranked_in s e (entries s m)) m))
rested Buy e m sound fresh some size price id time room bound =
    let next = record m.counters { last_time = m.counters.last_time + 1 } in
    put Buy (ranked_in Buy e m.bids) (with_counters next m) (recounted next m sound (omega arith) (omega arith) bound)
    (inserted_good m.opening.tick m.opening.bid_places m.counters Buy e m.bids sound.bids some size price id time room)
    (inserted_unique Buy e m sound fresh)
rested Sell e m sound fresh some size price id time room bound =
    let next = record m.counters { last_time = m.counters.last_time + 1 } in
    put Sell (ranked_in Sell e m.offers) (with_counters next m) (recounted next m sound (omega arith) (omega arith) bound)
    (inserted_good m.opening.tick m.opening.offer_places m.counters Sell e m.offers sound.offers some size price id time room)
    (inserted_unique Sell e m sound fresh)

-- an order goes out on a route
pub sent_out : (r : Routed) (m : Model) → Sound m → standing_with r.id m ≡ 0 → GoodRow m.opening.tick m.counters r → length m.out < 16 → m.counters.last_time + 1 + length m.out ≤ 4000000017 → Sound (with_out (m.out ++ r ∷ []) m)
sent_out r m sound fresh good room bound = record {
  tick = sound.tick;
  bid_places = sound.bid_places;
  offer_places = sound.offer_places;
  bids = sound.bids;
  offers = sound.offers;
  away_bid = sound.away_bid;
  away_offer = sound.away_offer;
  out = All-append (GoodRow m.opening.tick m.counters) m.out (r ∷ []) sound.out (good, tt);
  few_out = omega (arith, length-append m.out (r ∷ []));
  unique = λ i. omega (arith, total_append (λ x. one_if (eqb x.id i)) m.out (r ∷ []), once_more r.id i (standing_with i m) (λ same. ap (λ j. standing_with j m) (sym same) ∙ fresh) (sound.unique i));
  bounded = omega (arith, length-append m.out (r ∷ []));
}

-- a filter keeps no more of what a test counts
count_kept : {X : Type 0} (q p : X → Bool) (xs : List X) → count q (filter p xs) ≤ count q xs
count_kept q p [] = omega arith
count_kept q p (x ∷ xs) = grind (arith, nat_tests, count_kept q p xs)

-- rows are given back
pub given_back : (p : Routed → Bool) (m : Model) → Sound m → Sound (with_out (filter p m.out) m)
given_back p m sound = record {
  tick = sound.tick;
  bid_places = sound.bid_places;
  offer_places = sound.offer_places;
  bids = sound.bids;
  offers = sound.offers;
  away_bid = sound.away_bid;
  away_offer = sound.away_offer;
  out = all_kept_by p (GoodRow m.opening.tick m.counters) m.out sound.out;
  few_out = omega (arith, length_kept p m.out, sound.few_out);
  unique = λ i. omega (arith, count_kept (λ r. eqb r.id i) p m.out, sound.unique i);
  bounded = omega (arith, length_kept p m.out, sound.bounded);
}

-- an id above all that were given out stands nowhere
below : {X : Type 0} (id : X → ℕ) (i n : ℕ) → n < i → (xs : List X) → AllByRecursion (λ x. id x ≤ n) xs → count (λ x. eqb (id x) i) xs ≡ 0
below id i n lt [] known = refl
below id i n lt (x ∷ xs) known = grind (arith, nat_tests, known.0, below id i n lt xs known.1)

pub stands_nowhere : (i : ℕ) (m : Model) → Sound m → m.counters.last_id < i → standing_with i m ≡ 0
stands_nowhere i m sound lt =
    let tick = m.opening.tick in
    let n = m.counters in
    omega (
      arith,
      below (λ (e : Entry). e.id) i n.last_id lt m.bids (All-weaker (GoodEntry tick n) (λ e. e.id ≤ n.last_id) (λ e h. h.id) m.bids sound.bids.good),
      below (λ (e : Entry). e.id) i n.last_id lt m.offers (All-weaker (GoodEntry tick n) (λ e. e.id ≤ n.last_id) (λ e h. h.id) m.offers sound.offers.good),
      below (λ (r : Routed). r.id) i n.last_id lt m.out (All-weaker (GoodRow tick n) (λ r. r.id ≤ n.last_id) (λ r h. h.id) m.out sound.out),
    )
