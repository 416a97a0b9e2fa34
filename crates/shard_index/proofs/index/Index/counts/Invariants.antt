use Rattle.std.proofs.Common.{◌≡◌, List, length, map, take}
use Rattle.std.specs.List.{count_by, list_any}
use Rattle.fan_base.specs.declared.doc.Doc.{Doc}
use Rattle.query_grammar.specs.Truth.{is_among}
use Rattle.query_model.specs.Answers.{having}
use Rattle.shard_index.specs.Standing.{Indexes}
use Rattle.shard_index.proofs.index.Index.counts.Given as goal

abbrev pub invariant-loop-word : goal.invariant-loop-word
invariant-loop-word l = record {
  with : (docs : List Doc) → Indexes l.self docs → l.with.items ≡ map (λ word. length (having word (take l.front docs))) (take l.word-index l.words);
  marks : (docs : List Doc) → Indexes l.self docs → l.marks.items ≡ map (λ doc. list_any (λ word. is_among word doc.words) (take l.word-index l.words)) (take l.front docs);
  any : l.any ≡ count_by (λ mark. mark) l.marks.items;
}
