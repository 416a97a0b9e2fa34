use Rattle.std.proofs.Common.{sym}
use Rattle.reply_order.proofs.OneMore.{taken_as}
use Rattle.reply_order.proofs.orderer.Orderer.next.Goals as goal

pub returns-clause-takes : goal.returns-clause-takes
returns-clause-takes g c = taken_as _ _ c.args.self.now.next c.in_ok-reply.reply (sym c.in_ok-reply.ensures.value) c.in_ok-reply.ensures.entries
