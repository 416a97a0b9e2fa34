-- What one shard gives, and its mark.
use Rattle.std.proofs.Common.{◌≡◌, ℕ, ◌≤◌, ◌++◌, List, length, take, drop, refl, ap, sym, ◌∙◌, arith, length-append, take-append-drop}
use Rattle.std.proofs.lemmas.List.Elements.{filter_map-append}
use Rattle.std.proofs.Math.Seq.{take-append_seam}
use Rattle.query_model.specs.declared.line.Line.{Line}
use Rattle.query_model.specs.Documents.{doc_of_line, docs_of}
use Rattle.std.proofs.lemmas.List.Sums.{length-filter}
use Rattle.fan_base.specs.declared.doc.Doc.{Doc}
use Rattle.query_grammar.specs.Tree.{Tree}
use Rattle.query_grammar.specs.Truth.{is_true}
use Rattle.query_model.specs.declared.line.Ask.{Ask}
use Rattle.query_model.specs.declared.line.Ask.TheVariants as ask
use Rattle.query_model.specs.Answers.{holding}
use Rattle.query_model.specs.Parts.{mark_of}
use Rattle.query_parts.specs.Parts.{mark_in, part_answer}
use Rattle.shard_index.proofs.MergeLemmas.{total-of}

counted : (e : Tree) (docs : List Doc) → length (holding e docs) ≡ mark_of (ask.Find e) docs
counted e docs = length-filter (λ doc. is_true e doc.words) docs

pub marked : (asks : Ask) (docs : List Doc) → mark_in (part_answer asks docs) ≡ mark_of asks docs
marked (ask.Find e) docs = total-of e docs ∙ counted e docs
marked (ask.Count e) docs = counted e docs
marked (ask.Present e) docs = counted e docs
marked (ask.Top k words) docs = refl

-- the documents before a place are the first of all

docs-parted : (lines : List Line) (place : ℕ) → docs_of lines ≡ docs_of (take place lines) ++ docs_of (drop place lines)
docs-parted lines place = ap docs_of (sym (take-append-drop place lines)) ∙ filter_map-append doc_of_line (take place lines) (drop place lines)

pub docs-first : (lines : List Line) (place : ℕ) → take (length (docs_of (take place lines))) (docs_of lines) ≡ docs_of (take place lines)
docs-first lines place =
    ap (take (length (docs_of (take place lines)))) (docs-parted lines place) ∙ take-append_seam (docs_of (take place lines)) (docs_of (drop place lines))

pub docs-within : (lines : List Line) (place : ℕ) → length (docs_of (take place lines)) ≤ length (docs_of lines)
docs-within lines place = omega (arith, ap length (docs-parted lines place), length-append (docs_of (take place lines)) (docs_of (drop place lines)))
