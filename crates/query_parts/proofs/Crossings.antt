-- The part of a query's answer, and what the parts come to, cross threads.
use denote.Param.Send.{IsSend, sendable}
use Rattle.std.proofs.Crossing.{crosses}
use Rattle.query_parts.specs.contracts.merge.Merged as merged
use Rattle.query_parts.specs.contracts.part.PartAnswer as part
use Rattle.query_parts.specs.contracts.ranking.Ranking as ranking

pub PartAnswer-send : IsSend part.the_row
PartAnswer-send = search (crosses, sendable) depth 60 fits 20000

pub Ranking-send : IsSend ranking.the_row
Ranking-send = search (crosses, sendable) depth 60 fits 20000

pub Merged-send : IsSend merged.the_row
Merged-send = search (crosses, sendable) depth 60 fits 20000
