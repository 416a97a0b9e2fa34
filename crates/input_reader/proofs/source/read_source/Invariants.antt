use Rattle.std.proofs.Common.{◌≡◌, ◌≤◌, ◌-◌, ℕ, List, vec_len}
use Rattle.std.specs.Io.KnownBytes.{Consumes}
use Rattle.input_reader.specs.Texts.{IsTextSoFar}
use Rattle.input_reader.proofs.source.read_source.Given as goal

abbrev pub invariant-reads : goal.invariant-reads
invariant-reads g l = record {
  text : (text : List ℕ) × Consumes (g.S.Source.left l.initial.source) (g.S.Source.left l.source) text × IsTextSoFar l.shards text l.text;
  sound : g.S.Source.faults l.source ≡ g.S.Source.faults l.initial.source;
  room : vec_len l.chunk ≡ 65536;
  few : l.text.len ≤ 67174400;
}

abbrev pub decreases-reads : goal.decreases-reads
decreases-reads g l = 67108865 - l.text.len
