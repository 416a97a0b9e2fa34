use Rattle.run_printing.specs.Worlds.{sink_of}
use Rattle.run_printing.proofs.Running.{has_printed, on_false, on_true, same_loans, was_cut}
use Rattle.run_printing.proofs.stage.print_all.Goals as goal

pub returns-clause-printed : goal.returns-clause-printed
returns-clause-printed g c =
    has_printed _ g.N.RunName.asked.lines g.K.Sink.holds g.K.Sink.faults c.args.world.now c.loop_to_end.new.world c.args.base.now c.loop_to_end.new.base c.requires.world c.loop_to_end.ensures.ran
    c.loop_to_end.result c.requires.base
    (c.a_new_printer_prints.ensures g.N.RunName.asked.lines c.args.world.now.printer.now (sink_of g.K.Sink.holds g.K.Sink.faults c.args.world.now) c.requires.world.printer)
    (on_true c.loop_to_end.result c.loop_to_end.ensures.closed)

pub returns-clause-same_printer : goal.returns-clause-same_printer
returns-clause-same_printer g c =
    (same_loans _ g.N.RunName.asked.lines g.K.Sink.holds g.K.Sink.faults c.args.world.now c.loop_to_end.new.world c.args.base.now c.loop_to_end.new.base c.requires.world c.loop_to_end.ensures.ran).printer

pub returns-clause-same_sink : goal.returns-clause-same_sink
returns-clause-same_sink g c =
    (same_loans _ g.N.RunName.asked.lines g.K.Sink.holds g.K.Sink.faults c.args.world.now c.loop_to_end.new.world c.args.base.now c.loop_to_end.new.base c.requires.world c.loop_to_end.ensures.ran).sink

pub returns-clause-same_tally : goal.returns-clause-same_tally
returns-clause-same_tally g c =
    (same_loans _ g.N.RunName.asked.lines g.K.Sink.holds g.K.Sink.faults c.args.world.now c.loop_to_end.new.world c.args.base.now c.loop_to_end.new.base c.requires.world c.loop_to_end.ensures.ran).tally

pub returns-clause-cut : goal.returns-clause-cut
returns-clause-cut g c =
    on_false c.loop_to_end.result
    (was_cut _ g.N.RunName.asked.lines g.K.Sink.holds g.K.Sink.faults c.args.world.now c.loop_to_end.new.world c.args.base.now c.loop_to_end.new.base c.loop_to_end.result c.requires.world)
    c.loop_to_end.ensures.cut
