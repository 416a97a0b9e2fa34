use Rattle.std.proofs.Common.{take}
use Rattle.fan_base.proofs.Words.{found, is_kept}
use Rattle.fan_base.proofs.word.Word.of_front.Goals as goal

pub invariant_of-result : goal.invariant_of-result
invariant_of-result c =
    is_kept (take c.args.size c.args.bytes.now) c.padded_front.result c.padded_front.ensures c.requires.word

pub returns : goal.returns
returns c = (found (take c.args.size c.args.bytes.now) c.padded_front.result c.padded_front.ensures c.requires.word).0
