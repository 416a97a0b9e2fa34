use Rattle.std.proofs.Common.{◌≡◌, ◌≤◌, ◌++◌, [], ℕ, List, length, take, drop, refl, sym, ap, subst, ◌∙◌, arith}
use Rattle.std.proofs.KnownBytes.{Consumes-nil, Consumes-trans}
use Rattle.std.proofs.Math.Seq.{take-append_seam}
use Rattle.fan_base.specs.Outside.{shown}
use Rattle.input_reader.specs.Sources.{most_bytes, ReadsAll, ReadsChunk}
use Rattle.input_reader.proofs.SourceLemmas.{reads_all, reads_some, fails_behind}
use Rattle.input_reader.proofs.TextLemmas.{if_ok}
use Rattle.input_reader.proofs.source.read_source.Goals as goal

pub reads-init : goal.reads-init
reads-init g c = record {
  text = ([], Consumes-nil (g.S.Source.left c.args.source.now), c.new-text.ensures c.args.shards);
  sound = refl;
  room = c.in_ok-chunk.ensures;
  few = omega (arith, (c.new-text.ensures c.args.shards).len_is);
}

pub returns-in-None-clause-fault : goal.returns-in-None-clause-fault
returns-in-None-clause-fault g c = λ is.
    let old = shown (g.S.Source.left c.args.source.now) (g.S.Source.faults c.args.source.now) in
    let mid = shown (g.S.Source.left c.reads.source) (g.S.Source.faults c.reads.source) in
    let new = shown (g.S.Source.left c.read_chunk.new.source) (g.S.Source.faults c.read_chunk.new.source) in
    let r = c.reads.invariant in
    let few : length r.text.0 ≤ most_bytes = omega (arith, r.text.2.len_is, c.len.ensures, c.reads-test.true) in
    (r.text.0, fails_behind old mid new r.text.0 r.text.1 r.sound few c.in-None.ensures.kept c.in-None.ensures.rose)

pub returns-then-n-eq0-clause-accepted : goal.returns-then-n-eq0-clause-accepted
returns-then-n-eq0-clause-accepted g c =
    let old = shown (g.S.Source.left c.args.source.now) (g.S.Source.faults c.args.source.now) in
    let mid = shown (g.S.Source.left c.reads.source) (g.S.Source.faults c.reads.source) in
    let new = shown (g.S.Source.left c.read_chunk.new.source) (g.S.Source.faults c.read_chunk.new.source) in
    let r = c.reads.invariant in
    let few : length r.text.0 ≤ most_bytes = omega (arith, r.text.2.len_is, c.len.ensures, c.reads-test.true) in
    let all : ReadsAll old new r.text.0 = reads_all old mid new r.text.0 r.text.1 r.sound few (take c.in-Some.n c.read_chunk.new.chunk) c.in-Some.ensures.some (ap (λ (n : ℕ). take n c.read_chunk.new.chunk) c.if-n-eq0.true) in
    if_ok c.end.result c.end.ensures.accepted (λ lines accepts. (r.text.0, all, accepts r.text.0 r.text.2))

pub returns-then-n-eq0-clause-refused : goal.returns-then-n-eq0-clause-refused
returns-then-n-eq0-clause-refused g c = λ bad is.
    let old = shown (g.S.Source.left c.args.source.now) (g.S.Source.faults c.args.source.now) in
    let mid = shown (g.S.Source.left c.reads.source) (g.S.Source.faults c.reads.source) in
    let new = shown (g.S.Source.left c.read_chunk.new.source) (g.S.Source.faults c.read_chunk.new.source) in
    let r = c.reads.invariant in
    let few : length r.text.0 ≤ most_bytes = omega (arith, r.text.2.len_is, c.len.ensures, c.reads-test.true) in
    let all : ReadsAll old new r.text.0 = reads_all old mid new r.text.0 r.text.1 r.sound few (take c.in-Some.n c.read_chunk.new.chunk) c.in-Some.ensures.some (ap (λ (n : ℕ). take n c.read_chunk.new.chunk) c.if-n-eq0.true) in
    (r.text.0, all, c.end.ensures.refused bad is r.text.0 r.text.2)

pub returns-in_err-text-clause-memory : goal.returns-in_err-text-clause-memory
returns-in_err-text-clause-memory g c = λ is.
    let old = shown (g.S.Source.left c.args.source.now) (g.S.Source.faults c.args.source.now) in
    let mid = shown (g.S.Source.left c.reads.source) (g.S.Source.faults c.reads.source) in
    let new = shown (g.S.Source.left c.read_chunk.new.source) (g.S.Source.faults c.read_chunk.new.source) in
    let r = c.reads.invariant in
    let few : length r.text.0 ≤ most_bytes = omega (arith, r.text.2.len_is, c.len.ensures, c.reads-test.true) in
    let got : List ℕ = take c.in-Some.n c.read_chunk.new.chunk in
    (r.text.0 ++ got, reads_some old mid new r.text.0 r.text.1 r.sound few got c.in-Some.ensures.some)

pub reads-preserved : goal.reads-preserved
reads-preserved g c =
    let r = c.reads.invariant in
    let size : c.reads.chunk.len ≡ length c.read_chunk.new.chunk = sym (c.read_chunk.ensures.size ∙ c.as_mut_slice.ensures.len) in
    let same : c.deref.result.now ≡ c.read_chunk.new.chunk =
    c.deref.ensures.value
    ∙ (ap (λ (n : ℕ). take n (c.read_chunk.new.chunk ++ drop (length c.read_chunk.new.chunk) c.reads.chunk.items)) size
    ∙ take-append_seam c.read_chunk.new.chunk (drop (length c.read_chunk.new.chunk) c.reads.chunk.items)) in
    let got : List ℕ = take c.in-Some.n c.deref.result.now in
    let read : ReadsChunk (shown (g.S.Source.left c.reads.source) (g.S.Source.faults c.reads.source)) (shown (g.S.Source.left c.read_chunk.new.source) (g.S.Source.faults c.read_chunk.new.source)) got =
    subst (λ chunk. ReadsChunk (shown (g.S.Source.left c.reads.source) (g.S.Source.faults c.reads.source)) (shown (g.S.Source.left c.read_chunk.new.source) (g.S.Source.faults c.read_chunk.new.source)) (take c.in-Some.n chunk))
    (sym same) c.in-Some.ensures.some in
    record {
      text = (
        r.text.0 ++ got,
        Consumes-trans (g.S.Source.left c.args.source.now) (g.S.Source.left c.reads.source) (g.S.Source.left c.read_chunk.new.source) r.text.0 got r.text.1 read.moved,
        c.in_ok-text.ensures.text r.text.0 r.text.2,
      );
      sound = read.sound ∙ r.sound;
      room = r.room;
      few = omega (arith, c.in_ok-text.ensures.len, c.len.ensures, c.reads-test.true, read.few);
    }
