use Rattle.query_text.proofs.law.input_law.Goals as goal

pub returns : goal.returns
returns c = c.input_is_decided.ensures (record {
  some = c.grammar_law.ensures.answered;
  one_tree = λ tokens a b x y. c.grammar_law.ensures.one_tree tokens a b x.reads y.reads;
  one_fault = c.grammar_law.ensures.one_fault;
  never_both = c.grammar_law.ensures.not_both;
})
