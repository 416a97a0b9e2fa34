use Rattle.std.proofs.Common.{ap, sym, ltb, take, map, sum, subst, ◌∙◌, ◌<◌, ◌^◌, List}
use Rattle.query_model.specs.declared.reply.Reply.TheVariants as reply
use Rattle.query_model.specs.declared.reply.Hits.{Hits}
use Rattle.query_model.specs.Parts.{merged_hits}
use Rattle.query_parts.specs.declared.part.PartAnswer.{PartAnswer}
use Rattle.query_parts.specs.declared.merge.Merged.TheVariants as merged
use Rattle.query_parts.specs.Parts.{mark_in}
use Rattle.query_parts.specs.Merging.{merged_of}
use Rattle.query_parts.proofs.MergeLemmas.{count-fits, count-is, counts-of-parts, hits-fit, hits-of-parts, presence-fits, presence-is}
use Rattle.query_parts.proofs.merge.merge_parts.Goals as goal

pub merge_hits-requires : goal.merge_hits-requires
merge_hits-requires c =
    subst (λ (hs : List Hits). sum (map (λ hits. hits.total) hs) < 2 ^ 64) (sym (c.as_slice.ensures.value ∙ c.in_ok-hits-in-Find.ensures))
    (hits-fit c.merged_hits_are_the_whole.ensures.total c.args.ask.now c.in-Find.field-0 c.requires.docs c.requires.shards c.args.before c.args.parts.items c.in-Find.is c.requires.are)

pub total_of-requires : goal.total_of-requires
total_of-requires c =
    subst (λ (ps : List PartAnswer). sum (map mark_in ps) < 2 ^ 64) (sym c.as_slice-in-Count.ensures.value)
    (count-fits c.merged_hits_are_the_whole.ensures.total c.args.ask.now c.in-Count.field-0 c.requires.docs c.requires.shards c.args.before c.args.parts.items c.in-Count.is c.requires.are)

pub total_of-requires-in-Present : goal.total_of-requires-in-Present
total_of-requires-in-Present c =
    subst (λ (ps : List PartAnswer). sum (map mark_in ps) < 2 ^ 64) (sym c.as_slice-in-Present.ensures.value)
    (presence-fits c.merged_hits_are_the_whole.ensures.total c.args.ask.now c.in-Present.field-0 c.requires.docs c.requires.shards c.args.before c.args.parts.items c.in-Present.is c.requires.are)

pub by_counts-requires : goal.by_counts-requires
by_counts-requires c = record {
  docs = c.requires.docs;
  shards = c.requires.shards;
  are = counts-of-parts c.args.ask.now c.in-Top.k c.in-Top.words c.requires.docs c.requires.shards c.args.before c.args.parts.items _ c.in-Top.is
      (c.as_slice-in-Top.ensures.value ∙ c.in_ok-counts-in-Top.ensures) c.requires.are;
}

pub returns-in_ok-merge_hits-in-Find : goal.returns-in_ok-merge_hits-in-Find
returns-in_ok-merge_hits-in-Find c = λ docs shards are.
    ap (λ h. merged.Reply (reply.Find h))
    (c.in_ok-merge_hits-in-Find.ensures ∙ (ap merged_hits (c.as_slice.ensures.value ∙ (c.in_ok-hits-in-Find.ensures
    ∙ hits-of-parts c.args.ask.now c.in-Find.field-0 docs shards c.args.before c.args.parts.items c.in-Find.is are))
    ∙ c.merged_hits_are_the_whole.ensures.hits c.in-Find.field-0 docs shards c.args.before are.some))
    ∙ sym (ap (λ a. merged_of a (take c.args.before docs)) c.in-Find.is)

pub returns-in-Count : goal.returns-in-Count
returns-in-Count c = λ docs shards are.
    ap (λ n. merged.Reply (reply.Count n))
    (c.total_of.ensures ∙ (ap (λ ps. sum (map mark_in ps)) c.as_slice-in-Count.ensures.value
    ∙ count-is c.merged_hits_are_the_whole.ensures.hits c.args.ask.now c.in-Count.field-0 docs shards c.args.before c.args.parts.items c.in-Count.is are))
    ∙ sym (ap (λ a. merged_of a (take c.args.before docs)) c.in-Count.is)

pub returns-in-Present : goal.returns-in-Present
returns-in-Present c = λ docs shards are.
    ap (λ n. merged.Reply (reply.Present (ltb 0 n)))
    (c.total_of-in-Present.ensures ∙ (ap (λ ps. sum (map mark_in ps)) c.as_slice-in-Present.ensures.value
    ∙ presence-is c.merged_hits_are_the_whole.ensures.hits c.args.ask.now c.in-Present.field-0 docs shards c.args.before c.args.parts.items c.in-Present.is are))
    ∙ sym (ap (λ a. merged_of a (take c.args.before docs)) c.in-Present.is)

pub returns-in_ok-by_counts-in-Top : goal.returns-in_ok-by_counts-in-Top
returns-in_ok-by_counts-in-Top c = λ docs shards are.
    ap (λ r. merged.Ranking r)
    (c.in_ok-by_counts-in-Top.ensures docs shards
    (counts-of-parts c.args.ask.now c.in-Top.k c.in-Top.words docs shards c.args.before c.args.parts.items _ c.in-Top.is (c.as_slice-in-Top.ensures.value ∙ c.in_ok-counts-in-Top.ensures) are))
    ∙ sym (ap (λ a. merged_of a (take c.args.before docs)) c.in-Top.is)
