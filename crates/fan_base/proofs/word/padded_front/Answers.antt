use Rattle.fan_base.proofs.Lanes.{stored}
use Rattle.fan_base.proofs.word.padded_front.Goals as goal

pub returns : goal.returns
returns c = stored c.args.bytes.now c.args.size c.requires.room c.requires.few
