use Rattle.std.proofs.Common.{OnOk, ◌≡◌, ◌++◌, subst}
use Rattle.std.specs.Prelude.{codes}
use Rattle.std.specs.Fmt.{decimal}
use Rattle.query_text.specs.Writing.{behind_spaces}
use Rattle.query_text.proofs.WriteLemmas.{named_words}
use Rattle.query_text.proofs.write.push_doc.Goals as goal

pub returns : goal.returns
returns c =
    named_words c.push_words.result c.args.text.now.items c.push_named.new.text.items c.push_words.new.text.items (codes "doc") (decimal c.args.doc.now.id) c.args.doc.now.words c.in_ok-push_named.ensures
    (subst (λ words. OnOk c.push_words.result (c.push_words.new.text.items ≡ c.push_named.new.text.items ++ behind_spaces words)) c.as_slice.ensures c.push_words.ensures)
