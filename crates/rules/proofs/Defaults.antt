-- What a read beside a list of entries or of orders out would give. Assumes nothing.
use Rattle.std.proofs.Common.{false, None}
use Rattle.rules.specs.declared.terms.Entry.{Entry}
use Rattle.rules.specs.declared.terms.Kind.TheVariants.{Customer}
use Rattle.rules.specs.declared.terms.Routed.{Routed}
use Rattle.rules.specs.declared.terms.Side.TheVariants.{Buy}
use Rattle.rules.specs.declared.terms.Term.TheVariants.{Day}

abbrev pub no_entry : Entry
no_entry = record { id = 0; firm = 0; kind = Customer; market = false; price = 0; size = 0; time = 0; own_firm_mark = false }

abbrev pub no_row : Routed
no_row = record { id = 0; firm = 0; kind = Customer; side = Buy; term = Day; market = false; cap = 0; size = 0; directed = None; own_firm_mark = false }
