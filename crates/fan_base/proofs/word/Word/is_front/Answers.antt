use Rattle.fan_base.proofs.Lanes.{front_is_word}
use Rattle.fan_base.proofs.word.Word.is_front.Goals as goal

pub returns-then-size-gt0 : goal.returns-then-size-gt0
returns-then-size-gt0 c = front_is_word c.args.bytes.now c.args.size c.word_lanes.result c.requires.room c.requires.few c.if-size-gt0.true c.word_lanes.ensures
