use Rattle.std.proofs.Common.{length, ap, ◌∙◌, arith}
use Rattle.matching.specs.Parts.{part_test, step_for, live}
use Rattle.matching.proofs.Stepped.{FromSheet, length_part, from_sheet}
use Rattle.matching.proofs.step.step.Given as given
use Rattle.matching.proofs.step.step.Goals as goal
use Rattle.matching.proofs.step.step.Goals.{After-share-given}

-- what the rule shared stands on the sheet
shared : (g : given.Over) (c : After-share-given g) → FromSheet (step_for c.args.part) (part_test c.args.part) (g.R.Rule.meaning c.args.rule.now) c.args.amount c.args.balance (live c.args.run.now) c.share-given.new.sheet c.share-given.result
shared g c =
    from_sheet (step_for c.args.part) (part_test c.args.part) (g.R.Rule.meaning c.args.rule.now) (g.met.R.Rule.lawful c.args.rule.now) c.args.amount c.args.balance (live c.args.run.now) c.requires.shareable
    c.share-given.new.sheet c.share-given.ensures.shared c.share-given.result c.share-given.ensures.value

pub pay-requires : goal.pay-requires
pay-requires g c =
    let sheet = shared g (goal.at.pay-requires g c).After-share-given in
    record {
      room = record {
        sheet = omega (arith, c.share-given.auto.sheet, c.requires.room.sheet, length_part (part_test c.args.part) c.args.run.now);
        tape = omega (arith, c.requires.room.tape, ap length sheet.lines);
      };
      within = sheet.within;
    }

pub returns : goal.returns
returns g c =
    let sheet = shared g (goal.at.returns g c).After-share-given in
    record {
      left = sheet.left;
      entries = rw sheet.run at c.pay.ensures.run;
      places = c.pay.auto.run;
      writes = let w = c.pay.ensures.writes in rw (← sheet.lines) (record { tape = w.tape; lines = w.lines; sheet = w.sheet ∙ c.share-given.auto.sheet; tape_lender = w.tape_lender; sheet_lender = w.sheet_lender });
    }
