-- Barred entries, and terms that clash. Assumes nothing.
use Rattle.std.specs.Prelude.{ℕ, Bool, not, ◌&&◌, ◌||◌, is_some, ◌==◌, nat_lt}
use Rattle.rules.specs.declared.terms.Entry.{Entry}
use Rattle.rules.specs.declared.terms.Order.{Order}
use Rattle.rules.specs.Caps.{is_ioc, is_quote}

-- the entry and the order carry the mark and have one firm
abbrev pub is_barred : ℕ → Bool → Entry → Bool
is_barred firm mark e = (mark && e.own_firm_mark) && e.firm == firm

abbrev pub unpriced : Order → Bool
unpriced o = not (is_some o.price)

-- a Market Order for the moment only
abbrev pub market_ioc : Order → Bool
market_ioc o = unpriced o && is_ioc o.term

-- a least size on a Day order, above the size, or with leave to route
abbrev pub bad_least : Order → Bool
bad_least o = nat_lt 0 o.least && (not (is_ioc o.term) || (nat_lt o.size o.least || o.may_route))

-- a quote that is immediate, unpriced, directed or routable
abbrev pub bad_quote : Order → Bool
bad_quote o = is_quote o.kind && (is_ioc o.term || (unpriced o || (is_some o.directed || o.may_route)))

abbrev pub terms_clash : Order → Bool
terms_clash o = market_ioc o || (bad_least o || bad_quote o)
