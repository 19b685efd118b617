use Rattle.std.proofs.Common.{rules}
use Rattle.rules.specs.declared.terms.Side.TheVariants.{Buy, Sell}
use Rattle.rules.proofs.Runs.{always_tradable}
use Rattle.book.proofs.state.State.meet.Goals as goal

-- a buy order trades the offers, a sell order the bids
pub meet-requires : goal.meet-requires
meet-requires g c = record { tradable = rw (← c.self.view_is) at (always_tradable c.args.self.now c.requires.sound Sell c.args.order.now.size c.requires.size); room = search rules }

pub meet-requires-in-Sell : goal.meet-requires-in-Sell
meet-requires-in-Sell g c = record { tradable = rw (← c.self.view_is) at (always_tradable c.args.self.now c.requires.sound Buy c.args.order.now.size c.requires.size); room = search rules }
