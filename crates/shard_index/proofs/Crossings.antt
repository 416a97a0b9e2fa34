-- Shards and what they answer cross threads.
use denote.Param.Send.{IsSend, IsSync, sendable}
use Rattle.std.proofs.Crossing.{crosses}
use Rattle.std.proofs.alloc.Global.TheSendSync as global_std
use Rattle.std.proofs.sync.Arc.TheSendSync as arc_std
use Rattle.std.proofs.vec.Vec.TheSendSync as vec_std
use Rattle.std.proofs.collections.BTreeMap.TheSendSync as btreemap_std
use Rattle.fan_base.proofs.list.List.TheSendSync as list_fan_base
use Rattle.fan_base.proofs.word.Word.TheSendSync as word_fan_base
use Rattle.query_model.proofs.reply.Hits.TheSendSync as hits_query_model
use Rattle.shard_index.proofs.counts.Counts.TheSendSync as counts_own
use Rattle.word_table.proofs.dictionary.Dictionary.TheSendSync as dictionary_word_table
use Rattle.word_table.proofs.hints.Hints.TheSendSync as hints_word_table
use Rattle.word_table.proofs.sorted.Sorted.TheSendSync as sorted_word_table
use Rattle.shard_index.proofs.frequent.Frequent.TheSendSync as frequent_own
use Rattle.shard_index.proofs.index.Index.TheSendSync as index_own
use Rattle.shard_index.proofs.shard.Shard.TheSendSync as shard_own
use Rattle.shard_index.specs.contracts.counts.Counts as counts
use Rattle.shard_index.specs.contracts.shard.Shard as shard
use Rattle.query_model.specs.contracts.reply.Hits as hits

ruleset parts = (global_std.the_field_send, global_std.the_send, global_std.the_field_sync, global_std.the_sync, vec_std.the_send, vec_std.the_sync, btreemap_std.the_send, btreemap_std.the_sync, arc_std.the_send, arc_std.the_sync, list_fan_base.the_send, list_fan_base.the_sync, word_fan_base.the_send, word_fan_base.the_sync, hits_query_model.the_field_send, hits_query_model.the_send, counts_own.the_field_send, counts_own.the_send, dictionary_word_table.the_field_send, dictionary_word_table.the_send, dictionary_word_table.the_field_sync, dictionary_word_table.the_sync, hints_word_table.the_field_send, hints_word_table.the_send, hints_word_table.the_field_sync, hints_word_table.the_sync, sorted_word_table.the_field_send, sorted_word_table.the_send, sorted_word_table.the_field_sync, sorted_word_table.the_sync, frequent_own.the_field_send, frequent_own.the_send, frequent_own.the_field_sync, frequent_own.the_sync, index_own.the_field_send, index_own.the_send, index_own.the_field_sync, index_own.the_sync, shard_own.the_field_send, shard_own.the_send, shard_own.the_field_sync, shard_own.the_sync, crosses, sendable)

pub Shard-send : IsSend shard.the_row
Shard-send = search parts depth 60 fits 20000

pub Shard-sync : IsSync shard.the_row
Shard-sync = search parts depth 60 fits 20000

pub Counts-send : IsSend counts.the_row
Counts-send = search parts depth 60 fits 20000

pub Hits-send : IsSend hits.the_row
Hits-send = search parts depth 60 fits 20000
