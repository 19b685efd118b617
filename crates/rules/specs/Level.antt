-- One price: barred entries go, and then the balance is offered in five steps, Rule 964NYP(j). Assumes nothing.
use Rattle.std.specs.Prelude.{ℕ, ◌-◌, Bool, true, false, cond, not, ◌&&◌, List, [], ◌∷◌, ◌++◌, map, Some, None, filter, Option, ◌==◌, nat_le, nat_lt}
use Rattle.sharing.specs.Rules.{by_time}
use Rattle.sharing.specs.Sharing.{Sharing}
use Rattle.sharing.specs.Totals.{total, count}
use Rattle.sharing.specs.declared.claims.Claim.{Claim}
use Rattle.rules.specs.declared.numbers.Cause.TheVariants.{OwnFirm}
use Rattle.rules.specs.declared.tape.Line.{Line}
use Rattle.rules.specs.declared.tape.Line.TheVariants.{Fill, Cancel}
use Rattle.rules.specs.declared.tape.Step.{Step}
use Rattle.rules.specs.declared.tape.Step.TheVariants.{CustomerMarketOrders, OtherMarketOrders, CustomerLimitOrders, GuaranteedQuotes, OtherInterest}
use Rattle.rules.specs.declared.terms.Entry.{Entry}
use Rattle.rules.specs.declared.terms.Kind.{Kind}
use Rattle.rules.specs.declared.terms.Kind.TheVariants.{Customer, Other, MakerQuote, SpecialistQuote}
use Rattle.rules.specs.declared.terms.Routed.{Routed}
use Rattle.rules.specs.Caps.{is_quote}
use Rattle.rules.specs.Checks.{is_barred}
use Rattle.rules.specs.Guarantee.{group_amount}
use Rattle.rules.specs.Ranks.{class_of}

abbrev pub size_of : Entry → ℕ
size_of e = e.size

-- what an entry claims of an amount
abbrev pub claim_of : Entry → Claim
claim_of e = record { size = e.size; time = e.time; allotment = 0 }

abbrev pub first_or_0 : List ℕ → ℕ
first_or_0 [] = 0
first_or_0 (n ∷ ns) = n

abbrev pub but_first : List ℕ → List ℕ
but_first [] = []
but_first (n ∷ ns) = ns

-- the allotments of the entries that pass the test, in order, and 0 for each other entry
abbrev pub spread : (Entry → Bool) → List ℕ → List Entry → List ℕ
spread test ns [] = []
spread test ns (e ∷ es) = cond (test e) (first_or_0 ns ∷ spread test (but_first ns) es) (0 ∷ spread test ns es)

-- the entry with another size
abbrev pub resized : ℕ → Entry → Entry
resized n e = record e { size = n }

-- what is left of the entries after each gave so much; those with nothing left are gone
abbrev pub left_after : List ℕ → List Entry → List Entry
left_after [] es = es
left_after (n ∷ ns) [] = []
left_after (n ∷ ns) (e ∷ es) = cond (nat_lt n e.size) (resized (e.size - n) e ∷ left_after ns es) (left_after ns es)

-- a line for each entry that gave something
abbrev pub fills : Step → List ℕ → List Entry → List Line
fills k [] es = []
fills k (n ∷ ns) [] = []
fills k (n ∷ ns) (e ∷ es) = cond (nat_lt 0 n) (Fill e.id e.firm n e.price k ∷ fills k ns es) (fills k ns es)

-- where an order stands at a price: its balance, the entries left there, and the lines so far
pub record Deal : Type 0 where
  pub balance : ℕ
  pub run : List Entry
  pub lines : List Line

-- one step: the entries that pass the test share the amount by a rule
unfoldable pub step : Step → (Entry → Bool) → Sharing → ℕ → Deal → Deal
step k test rule amount d = record {
  balance = d.balance - total (λ n. n) (rule.allotments amount (map claim_of (filter test d.run)));
  run = left_after (spread test (rule.allotments amount (map claim_of (filter test d.run))) d.run) d.run;
  lines = d.lines ++ fills k (spread test (rule.allotments amount (map claim_of (filter test d.run))) d.run) d.run;
}

abbrev pub in_class : ℕ → Entry → Bool
in_class k e = class_of e == k

abbrev pub is_specialist : Kind → Bool
is_specialist Customer = false
is_specialist Other = false
is_specialist MakerQuote = false
is_specialist SpecialistQuote = true

-- a quote, which is no Market Order, of the firm that the order is directed to
abbrev pub quote_of : ℕ → Entry → Bool
quote_of firm e = in_class 4 e && (is_quote e.kind && e.firm == firm)

-- a specialist's quote
abbrev pub specialist : Entry → Bool
specialist e = in_class 4 e && is_specialist e.kind

-- the guaranteed group: the directed firm's quotes there or, failing those, all specialist quotes
abbrev pub in_group : Option ℕ → List Entry → Entry → Bool
in_group None es = specialist
in_group (Some firm) es = cond (nat_lt 0 (count (quote_of firm) es)) (quote_of firm) specialist

-- the guarantee acts at the national best price of the arrival, where a balance meets a group
abbrev pub acts : Bool → Option ℕ → Deal → Bool
acts at_best directed d = at_best && (nat_le 1 d.balance && nat_le 1 (total size_of (filter (in_group directed d.run) d.run)))

abbrev pub for_group : Option ℕ → Deal → ℕ
for_group directed d = group_amount d.balance (total size_of (filter (in_group directed d.run) d.run)) (total size_of (filter (in_class 4) d.run))

-- steps 4 and 5: where the guarantee acts, the group has no part in what is left
unfoldable pub makers : Sharing → Bool → Option ℕ → Deal → Deal
makers rule at_best directed d = cond (acts at_best directed d)
    (let group = in_group directed d.run in
    let after = step GuaranteedQuotes group rule (for_group directed d) d in
    step OtherInterest (λ e. in_class 4 e && not (group e)) rule after.balance after)
    (step OtherInterest (in_class 4) rule d.balance d)

-- barred entries are cancelled before the first fill
abbrev pub barred_line : Entry → Line
barred_line e = Cancel e.id e.firm e.size OwnFirm

unfoldable pub unbarred : Routed → ℕ → List Entry → Deal
unbarred o balance run = record {
  balance = balance;
  run = filter (λ e. not (is_barred o.firm o.own_firm_mark e)) run;
  lines = map barred_line (filter (is_barred o.firm o.own_firm_mark) run);
}

-- one step at the whole balance
abbrev pub step_all : Step → (Entry → Bool) → Sharing → Deal → Deal
step_all k test rule d = step k test rule d.balance d

-- all five steps at one price
unfoldable pub level : Sharing → Routed → Bool → ℕ → List Entry → Deal
level rule o at_best balance run =
    makers rule at_best o.directed
    (step_all CustomerLimitOrders (in_class 3) by_time
    (step_all OtherMarketOrders (in_class 2) rule
    (step_all CustomerMarketOrders (in_class 1) by_time
    (unbarred o balance run))))
