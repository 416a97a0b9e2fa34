-- A dictionary, sorted places and a table of documents cross threads.
use denote.Param.Send.{IsSend, IsSync, sendable}
use Rattle.std.proofs.Crossing.{crosses}
use Rattle.std.proofs.alloc.Global.TheSendSync as global_std
use Rattle.std.proofs.collections.BTreeMap.TheSendSync as btreemap_std
use Rattle.std.proofs.sync.Arc.TheSendSync as arc_std
use Rattle.std.proofs.vec.Vec.TheSendSync as vec_std
use Rattle.fan_base.proofs.list.List.TheSendSync as list_fan_base
use Rattle.fan_base.proofs.word.Word.TheSendSync as word_fan_base
use Rattle.word_table.proofs.dictionary.Dictionary.TheSendSync as dictionary_own
use Rattle.word_table.proofs.doc_table.DocTable.TheSendSync as doc_table_own
use Rattle.word_table.proofs.hints.Hints.TheSendSync as hints_own
use Rattle.word_table.proofs.numbered.NumberedDoc.TheSendSync as numbered_own
use Rattle.word_table.specs.contracts.doc_table.DocTable as doc_table

ruleset parts = (global_std.the_field_send, global_std.the_send, global_std.the_field_sync, global_std.the_sync, vec_std.the_send, vec_std.the_sync, btreemap_std.the_send, btreemap_std.the_sync, arc_std.the_send, arc_std.the_sync, list_fan_base.the_send, list_fan_base.the_sync, word_fan_base.the_send, word_fan_base.the_sync, dictionary_own.the_field_send, dictionary_own.the_send, dictionary_own.the_field_sync, dictionary_own.the_sync, hints_own.the_field_send, hints_own.the_send, hints_own.the_field_sync, hints_own.the_sync, numbered_own.the_field_send, numbered_own.the_send, numbered_own.the_field_sync, numbered_own.the_sync, doc_table_own.the_field_send, doc_table_own.the_send, doc_table_own.the_field_sync, doc_table_own.the_sync, crosses, sendable)

pub DocTable-send : IsSend doc_table.the_row
DocTable-send = search parts depth 60 fits 20000

pub DocTable-sync : IsSync doc_table.the_row
DocTable-sync = search parts depth 60 fits 20000
