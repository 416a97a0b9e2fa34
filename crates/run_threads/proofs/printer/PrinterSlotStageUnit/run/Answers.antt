use Rattle.std.proofs.Common.{rules}
use Rattle.run_threads.proofs.printer.PrinterSlotStageUnit.run.Goals as goal

pub returns : goal.returns
returns g c =
    let e = c.print_replies-stage.ensures in
    record {
      base = c.in-Some.base;
      had = search rules;
      stage = c.print_replies-stage.result;
      has = search rules;
      spent = search rules;
      printed = e.printed;
      same_base = e.base;
      base_loan = search rules;
      sink_loan = search rules;
      stage_loan = search rules;
    }
