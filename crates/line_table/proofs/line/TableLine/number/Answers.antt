use Rattle.word_table.specs.Numbers.{words_in}
use Rattle.line_table.proofs.TableLemmas.{numbered-doc}
use Rattle.line_table.proofs.line.TableLine.number.Goals as goal

pub returns-in_ok-number_doc-in-Doc-clause-numbered : goal.returns-in_ok-number_doc-in-Doc-clause-numbered
returns-in_ok-number_doc-in-Doc-clause-numbered c =
    numbered-doc (words_in c.args.dictionary.now) c.in_ok-number_doc-in-Doc.field-0 c.in-Doc.doc c.args.line c.in-Doc.is
    (c.in_ok-number_doc-in-Doc.ensures.numbered (words_in c.args.dictionary.now) c.requires.known)
