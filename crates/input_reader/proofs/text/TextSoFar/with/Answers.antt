use Rattle.std.proofs.Common.{◌+◌, ap, sym, ◌∙◌, length, length-append}
use Rattle.input_reader.proofs.text.TextSoFar.with.Goals as goal

pub returns-clause-text : goal.returns-clause-text
returns-clause-text c = λ text t. record {
  len_is = ap (λ n. n + length c.args.chunk.now) t.len_is ∙ sym (length-append text c.args.chunk.now);
  read = c.in_ok-lines.ensures text t.read;
}
