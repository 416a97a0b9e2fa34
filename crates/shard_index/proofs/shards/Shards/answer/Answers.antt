use Rattle.std.proofs.Common.{ap, sym, ltb, take, ◌∙◌}
use Rattle.query_model.specs.declared.reply.Reply.TheVariants as reply
use Rattle.query_model.specs.Answers.{answer}
use Rattle.shard_index.proofs.MergeLemmas.{total-of}
use Rattle.shard_index.proofs.shards.Shards.answer.Goals as goal

pub returns-in_ok-find-in-Count : goal.returns-in_ok-find-in-Count
returns-in_ok-find-in-Count c = λ docs stands.
    ap (λ n. reply.Count n) (ap (λ h. h.total) (c.in_ok-find-in-Count.ensures docs stands) ∙ total-of c.in-Count.e (take c.args.before docs))
    ∙ sym (ap (λ a. answer a (take c.args.before docs)) c.in-Count.is)

pub returns-in_ok-find-in-Present : goal.returns-in_ok-find-in-Present
returns-in_ok-find-in-Present c = λ docs stands.
    ap (λ n. reply.Present (ltb 0 n)) (ap (λ h. h.total) (c.in_ok-find-in-Present.ensures docs stands) ∙ total-of c.in-Present.e (take c.args.before docs))
    ∙ sym (ap (λ a. answer a (take c.args.before docs)) c.in-Present.is)
