-- What the stages of a run hand on crosses threads.
use denote.RattleType.{RattleType}
use denote.Ref.{NamedLft}
use denote.Param.Send.{IsSend, IsSync, view_send, recorded_send, struct_send, sendable}
use denote.Struct.Declared.{shape}
use Rattle.std.proofs.Crossing.{crosses}
use Rattle.std.proofs.alloc.Global.TheSendSync as global_std
use Rattle.std.proofs.boxed.Box.TheSendSync as box_std
use Rattle.std.proofs.option.Option.TheSendSync as option_std
use Rattle.std.proofs.marker.PhantomData.TheSendSync as phantomdata_std
use Rattle.fan_base.proofs.number.ExecId.TheSendSync as exec_fan_base
use Rattle.fan_base.proofs.outcome.Try.TheSendSync as try_fan_base
use Rattle.fan_base.proofs.word.Word.TheSendSync as word_fan_base
use Rattle.query_grammar.proofs.expr.Expr.TheLaws.TheKnot as knot
use Rattle.query_grammar.specs.contracts.expr.Expr as expr
use Rattle.query_model.specs.contracts.line.Ask as ask
use Rattle.query_parts.proofs.Crossings as crossing_query_parts
use Rattle.core_word.proofs.producer.Producer.TheSendSync as producer_core_word
use Rattle.core_word.proofs.consumer.Consumer.TheSendSync as consumer_core_word
use Rattle.core_word.proofs.fire.Fire.TheSendSync as fire_core_word
use Rattle.core_word.proofs.home.Key.TheSendSync as key_core_word
use Rattle.core_proxy.proofs.proxy.NoProxy.TheSendSync as noproxy_core_proxy
use Rattle.notify_queue.proofs.Crossings as crossing_notify_queue
use Rattle.job_trait.specs.declared.job.Headed.{Ghosts as HeadedGhosts}
use Rattle.fan_parts.specs.declared.run_name.RunName.{Ghosts}
use Rattle.fan_parts.proofs.part.Part.TheSendSync as part_own
use Rattle.fan_parts.proofs.reply.PlacedReply.TheSendSync as placed_own
use Rattle.fan_parts.proofs.reply.ReplyCallback.TheSendSync as callback_own
use Rattle.fan_parts.proofs.reply.CancelledReply.TheSendSync as cancelled_own
use Rattle.fan_parts.specs.contracts.part.Part as part
use Rattle.fan_parts.specs.contracts.reply.PlacedReply as placed
use Rattle.fan_parts.specs.contracts.reply.ReplyCallback as callback
use Rattle.fan_parts.specs.contracts.reply.CancelledReply as cancelled
use Rattle.fan_parts.specs.contracts.ask.NumberedAsk as numbered
use Rattle.fan_parts.specs.contracts.ask.NumberedAsk.TheInside as of_numbered
use Rattle.fan_parts.specs.contracts.cores.End as end
use Rattle.fan_parts.specs.contracts.cores.End.TheInside as of_end
use Rattle.fan_parts.specs.contracts.cores.PartCallback as part_callback
use Rattle.fan_parts.proofs.cores.PartCallback.TheSendSync as part_callback_own
use Rattle.fan_parts.specs.contracts.jobs.Scoring as scoring
use Rattle.fan_parts.specs.contracts.jobs.Scoring.TheInside as of_scoring
use Rattle.fan_parts.specs.contracts.jobs.GatherJob as gather_job
use Rattle.fan_parts.specs.contracts.jobs.PrintJob as print_job
use Rattle.fan_parts.specs.contracts.poster.BasePoster as poster
use Rattle.fan_parts.specs.contracts.poster.BasePoster.TheInside as of_poster
use Rattle.fan_parts.specs.contracts.shards.RunShards as shards
use Rattle.fan_parts.proofs.jobs.PrintJob.TheSendSync as print_own
use Rattle.fan_parts.proofs.jobs.GatherJob.TheSendSync as gather_own
use Rattle.fan_parts.proofs.shards.RunShards.TheSendSync as shards_own
use Rattle.shard_index.proofs.Crossings as crossing_shard_index

ruleset all = (global_std.the_field_send, global_std.the_send, global_std.the_field_sync, global_std.the_sync, box_std.the_send, box_std.the_sync, option_std.the_field_send, option_std.the_send, phantomdata_std.the_field_send, phantomdata_std.the_send, word_fan_base.the_send, word_fan_base.the_sync, crosses, sendable)

Expr-sync : IsSync expr.the_row
Expr-sync = search (knot.crosses, all) depth 60 fits 20000

pub Ask-sync : IsSync ask.the_row
Ask-sync = search (Expr-sync, all) depth 60 fits 20000

numbered_inside : (h : NamedLft) (N : RattleType) (g : Ghosts N.Denot) → IsSend N → IsSend (of_numbered.the_row h N g)
numbered_inside h N g n = recorded_send (of_numbered.the_field h N g).row _ _ (of_numbered.the_type h N g).to_one (struct_send (shape (of_numbered.the_type h N g)) (
  search all depth 60 fits 20000,
  (search (Ask-sync, all) depth 60 fits 20000, (search all depth 60 fits 20000, (search all depth 60 fits 20000, tt))),
))

pub NumberedAsk-send : (h : NamedLft) (N : RattleType) (g : Ghosts N.Denot) → IsSend N → IsSend (numbered.the_row h N g)
NumberedAsk-send h N g n = view_send (of_numbered.the_row h N g) _ _ _ _ (numbered_inside h N g n)

pub Part-send : (N : RattleType) (g : Ghosts N.Denot) → IsSend N → IsSend (part.the_row N g)
Part-send N g n = search (part_own.the_send, all) depth 60 fits 20000

pub PlacedReply-send : (N : RattleType) (g : Ghosts N.Denot) → IsSend N → IsSend (placed.the_row N g)
PlacedReply-send N g n = search (placed_own.the_send, all) depth 60 fits 20000

pub ReplyCallback-send : (N : RattleType) (g : Ghosts N.Denot) → IsSend N → IsSend (callback.the_row N g)
ReplyCallback-send N g n = search (callback_own.the_send, all) depth 60 fits 20000

pub CancelledReply-send : (N : RattleType) (g : Ghosts N.Denot) → IsSend N → IsSend (cancelled.the_row N g)
CancelledReply-send N g n = search (cancelled_own.the_send, all) depth 60 fits 20000

pub RunShards-send : (h : NamedLft) (N : RattleType) (g : Ghosts N.Denot) → IsSend N → IsSend (shards.the_row h N g)
RunShards-send h N g n = search (shards_own.the_send, crossing_shard_index.Shard-sync, all) depth 60 fits 20000

ruleset halves = (producer_core_word.the_send, consumer_core_word.the_send, key_core_word.the_send, noproxy_core_proxy.the_send, placed_own.the_send, callback_own.the_send, all)

end_inside : (r i : NamedLft) (N : RattleType) (g : Ghosts N.Denot) → IsSend N → IsSend (of_end.the_row r i N g)
end_inside r i N g n = recorded_send (of_end.the_field r i N g).row _ _ (of_end.the_type r i N g).to_one (struct_send (shape (of_end.the_type r i N g)) (
  search halves depth 60 fits 20000,
  (search (NumberedAsk-send, all) depth 60 fits 20000, (search all depth 60 fits 20000, (search halves depth 60 fits 20000, tt))),
))

pub End-send : (r i : NamedLft) (N : RattleType) (g : Ghosts N.Denot) → IsSend N → IsSend (end.the_row r i N g)
End-send r i N g n = view_send (of_end.the_row r i N g) _ _ _ _ (end_inside r i N g n)

pub PartCallback-send : (N : RattleType) (g : Ghosts N.Denot) → IsSend N → IsSend (part_callback.the_row N g)
PartCallback-send N g n = search (part_callback_own.the_send, exec_fan_base.the_send, all) depth 60 fits 20000

scoring_inside : (i : NamedLft) (N : RattleType) (g : Ghosts N.Denot) → IsSend N → IsSend (of_scoring.the_row i N g)
scoring_inside i N g n = recorded_send (of_scoring.the_field i N g).row _ _ (of_scoring.the_type i N g).to_one (struct_send (shape (of_scoring.the_type i N g)) (
  search halves depth 60 fits 20000,
  (
    search (NumberedAsk-send, all) depth 60 fits 20000,
    (search all depth 60 fits 20000, (search (crossing_query_parts.Ranking-send, all) depth 60 fits 20000, tt)),
  ),
))

pub Scoring-send : (i : NamedLft) (N : RattleType) (g : Ghosts N.Denot) → IsSend N → IsSend (scoring.the_row i N g)
Scoring-send i N g n = view_send (of_scoring.the_row i N g) _ _ _ _ (scoring_inside i N g n)

pub GatherJob-send : (N : RattleType) (g : Ghosts N.Denot) → IsSend N → IsSend (gather_job.the_row N g)
GatherJob-send N g n = search (gather_own.the_send, fire_core_word.the_send, try_fan_base.the_send, part_own.the_send, PartCallback-send, exec_fan_base.the_send, all) depth 60 fits 20000

pub PrintJob-send : (N : RattleType) (g : Ghosts N.Denot) → IsSend N → IsSend (print_job.the_row N g)
PrintJob-send N g n = search (print_own.the_send, all) depth 60 fits 20000

poster_inside : (J : RattleType) (g : HeadedGhosts J.Denot) → IsSend J → IsSend (of_poster.the_row J g)
poster_inside J g s = recorded_send (of_poster.the_field J g).row _ _ (of_poster.the_type J g).to_one (struct_send (shape (of_poster.the_type J g)) (
  search (crossing_notify_queue.Sender-send, all) depth 60 fits 20000,
  (search (exec_fan_base.the_send, all) depth 60 fits 20000, tt),
))

pub BasePoster-send : (J : RattleType) (g : HeadedGhosts J.Denot) → IsSend J → IsSend (poster.the_row J g)
BasePoster-send J g s = view_send (of_poster.the_row J g) _ _ _ _ (poster_inside J g s)
