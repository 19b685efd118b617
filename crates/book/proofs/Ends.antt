-- What an order that has traded comes to. Assumes nothing.
use Rattle.std.proofs.Common.{◌≡◌, ℕ, ◌+◌, ◌<◌, ◌≤◌, Bool, true, false, cond, ◌&&◌, eqb, leb, [], ◌∷◌, ◌++◌, length, Option, sym, refl, ap, ◌∙◌, subst, arith}
use Rattle.std.proofs.lemmas.List.{length_push}
use Rattle.std.proofs.lemmas.Bool.Decides.{nat_tests}
use Rattle.std.proofs.lemmas.Bool.{leb-false}
use Rattle.sharing.specs.Sharing.{Sharing}
use Rattle.rules.specs.declared.numbers.Cause.TheVariants.{Immediate, AwayPrice, NoPlaceOnReturn}
use Rattle.rules.specs.declared.tape.Line.{Line}
use Rattle.rules.specs.declared.terms.Routed.{Routed}
use Rattle.rules.specs.declared.terms.Side.{Side}
use Rattle.rules.specs.declared.terms.Side.TheVariants.{Buy, Sell}
use Rattle.rules.specs.Caps.{is_ioc}
use Rattle.rules.specs.Level.{Deal}
use Rattle.rules.specs.Model.{Model, entries, away, places, with_entries}
use Rattle.rules.specs.Outcome.{longer_side}
use Rattle.rules.specs.Sides.{other_side}
use Rattle.rules.specs.Sound.{Sound}
use Rattle.rules.specs.Trade.{Ending, away_in_cap, ending, end_line, ended, ticket_of, sized, traded, finished, trade}
use Rattle.rules.specs.Trade.Ending.{is_filled, is_routed, is_cancelled, rests}
use Rattle.rules.proofs.CallsKeep.{same_book}
use Rattle.rules.proofs.Moves.{good_side}
use Rattle.matching.specs.Tapes.{Writes}
use Rattle.matching.specs.declared.lent.Lent.{Lent}
use Rattle.matching.proofs.Written.{writes_twice}
use Rattle.book.specs.Endings.{routes}
use Rattle.book.specs.Entries.{Does}
use Rattle.book.proofs.Meets.{traded_short}

abbrev stays : Ending → Bool
stays is_filled = false
stays is_routed = false
stays (is_cancelled why) = false
stays rests = true

-- the chain of tests
abbrev first_of : Bool → Bool → Bool → Bool → Bool → Ending
first_of spent near may ioc full = cond spent is_filled (cond (near && may) is_routed (cond ioc (is_cancelled Immediate) (cond near (is_cancelled AwayPrice) (cond full (is_cancelled NoPlaceOnReturn) rests))))

-- only an order that may go out does
may_go : (spent near may ioc full : Bool) → routes (first_of spent near may ioc full) ≡ true → may ≡ true
may_go spent near may ioc full h = grind (arith, nat_tests)

-- only an order for which there is a place rests
has_place : (spent near may ioc full : Bool) → stays (first_of spent near may ioc full) ≡ true → full ≡ false
has_place spent near may ioc full h = grind (arith, nat_tests)

pub routed_may : (o : Routed) (may : Bool) (b : ℕ) (m : Model) (e : Ending) → e ≡ ending o may b m → e ≡ is_routed → may ≡ true
unfolding ending
routed_may o may b m e ends is = may_go (eqb b 0) (away_in_cap o.side o.cap (away (other_side o.side) m)) may (is_ioc o.term) (leb (places o.side m) (length (entries o.side m))) (ap routes (sym ends ∙ is))

pub rests_room : (o : Routed) (may : Bool) (b : ℕ) (m : Model) (e : Ending) → e ≡ ending o may b m → e ≡ rests → length (entries o.side m) < places o.side m
unfolding ending
rests_room o may b m e ends is =
    leb-false (places o.side m) (length (entries o.side m))
    (has_place (eqb b 0) (away_in_cap o.side o.cap (away (other_side o.side) m)) may (is_ioc o.term) (leb (places o.side m) (length (entries o.side m))) (ap stays (sym ends ∙ is)))

places_within : (s : Side) (m : Model) → places s m ≤ longer_side m
places_within Buy m = omega arith
places_within Sell m = omega arith

module _ (rule : Sharing) (o : Routed) (m : Model) where
  abbrev deal : Deal
  deal = traded rule o m

  abbrev left : Model
  left = with_entries (other_side o.side) deal.run m

  -- how the order ends
  abbrev comes_to : Bool → Ending
  comes_to may = ending o may deal.balance left

  -- the lines have places
  pub lines_within : Sound m → length deal.lines ≤ longer_side m
  lines_within sound = omega (arith, traded_short rule o m, (good_side (other_side o.side) m sound).few, places_within (other_side o.side) m)

  -- the book that the trades left
  module _ {m' : Model} (same : m' ≡ left) where
    pub left_out : m'.out ≡ m.out
    left_out = ap (λ k. k.out) same ∙ (same_book o.side deal.run m).2

    -- an end does not look at the size that the order came with
    of_sized : (e : Ending) → (ended (sized deal.balance o) deal.balance e left ≡ ended o deal.balance e left) × (ticket_of (sized deal.balance o) e ≡ ticket_of o e) × (end_line (sized deal.balance o) deal.balance e ≡ end_line o deal.balance e)
    of_sized is_filled = (refl, refl, refl)
    of_sized is_routed = (refl, refl, refl)
    of_sized (is_cancelled why) = (refl, refl, refl)
    of_sized rests = (refl, refl, refl)

    -- what is left of the order comes to its end
    module _ (may : Bool) {l : Routed} {e : Ending} (rest : l ≡ sized deal.balance o) (ends : e ≡ ending l may l.size m') where
      end_is : e ≡ comes_to may
      unfolding ending
      end_is = ends ∙ (λ t. ending (rest t) may (rest t).size (same t))

      pub traded_on : {m'' : Model} {r : Option ℕ} {last : Line} {a b' c' : Lent} → Writes deal.lines a b' → last ≡ end_line l l.size e → Writes (last ∷ []) b' c' → a.lines + length deal.lines + 1 ≤ length a.tape.now
          → m'' ≡ ended l l.size e m' → r ≡ ticket_of l e → Does (trade rule o may m) m'' r a c'
      unfolding trade finished
      traded_on {m''} {r} {last} {a} {b'} {c'} first told end room after out =
          let same_end = of_sized (comes_to may) in
          record {
            book = after ∙ (λ t. ended (rest t) (rest t).size (end_is t) (same t)) ∙ same_end.0;
            ticket = out ∙ (λ t. ticket_of (rest t) (end_is t)) ∙ same_end.1;
            writes = subst (λ x. Writes (deal.lines ++ x ∷ []) a c') (told ∙ (λ t. end_line (rest t) (rest t).size (end_is t)) ∙ same_end.2) (writes_twice first end (omega (arith, room, length_push deal.lines last)));
          }
