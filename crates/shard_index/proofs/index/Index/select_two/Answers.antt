use Rattle.std.proofs.Common.{Bool, true, false, not, ◌≡◌, ◌&&◌, cond, take, refl, sym, ap, subst, ◌∙◌}
use Rattle.word_table.specs.declared.dictionary.Dictionary.{Dictionary}
use Rattle.word_table.specs.Numbers.{Knows, words_in}
use Rattle.shard_index.specs.Places.{has_word}
use Rattle.shard_index.specs.Standing.{IsNumberOf}
use Rattle.shard_index.proofs.SelectionLemmas.{places_where-same}
use Rattle.shard_index.proofs.index.Index.select_two.Goals as goal

turned : (b c : Bool) → (c && b) ≡ (b && c)
turned true true = refl
turned true false = refl
turned false true = refl
turned false false = refl

pub narrow_by-requires : goal.narrow_by-requires
narrow_by-requires c =
    let docs = c.requires.0 in
    let stands = c.requires.1 in
    let known = words_in c.args.self.now.dictionary.value in
    record {
      docs = docs;
      test = has_word c.args.second.now;
      word = c.args.first.now;
      front = c.args.front;
      indexes = stands;
      places_are = c.places_of-at_second.ensures docs c.args.second.now stands (c.find-second.ensures known (subst (λ (d : Dictionary). Knows d known) (sym c.deref-2.ensures) stands.knows));
      number_is = c.find-first.ensures known (subst (λ (d : Dictionary). Knows d known) (sym c.deref.ensures) stands.knows);
    }

pub narrow_by-requires-else-wanted : goal.narrow_by-requires-else-wanted
narrow_by-requires-else-wanted c =
    let docs = c.requires.0 in
    let stands = c.requires.1 in
    let known = words_in c.args.self.now.dictionary.value in
    record {
      docs = docs;
      test = has_word c.args.first.now;
      word = c.args.second.now;
      front = c.args.front;
      indexes = stands;
      places_are = c.places_of-at_first.ensures docs c.args.first.now stands (c.find-first.ensures known (subst (λ (d : Dictionary). Knows d known) (sym c.deref.ensures) stands.knows));
      number_is = c.find-second.ensures known (subst (λ (d : Dictionary). Knows d known) (sym c.deref-2.ensures) stands.knows);
    }

pub returns-in_ok-kept : goal.returns-in_ok-kept
returns-in_ok-kept c = λ docs stands.
    let first = c.args.first.now in
    let second = c.args.second.now in
    let known = words_in c.args.self.now.dictionary.value in
    let first_is : IsNumberOf c.args.self.now c.find-first.result first = c.find-first.ensures known (subst (λ (d : Dictionary). Knows d known) (sym c.deref.ensures) stands.knows) in
    let second_is : IsNumberOf c.args.self.now c.find-second.result second = c.find-second.ensures known (subst (λ (d : Dictionary). Knows d known) (sym c.deref-2.ensures) stands.knows) in
    c.in_ok-kept.ensures (has_word second) first c.args.front docs stands first_is (c.places_of-at_second.ensures docs second stands second_is) (c.places_of-at_first.ensures docs first stands first_is)
    ∙ places_where-same _ _ (take c.args.front docs) (λ doc. turned (has_word first doc) (has_word second doc)
    ∙ ap (λ (w : Bool). has_word first doc && cond w (has_word second doc) (not (has_word second doc))) (sym c.if-wanted.true))

pub returns-in_ok-kept-2 : goal.returns-in_ok-kept-2
returns-in_ok-kept-2 c = λ docs stands.
    let first = c.args.first.now in
    let second = c.args.second.now in
    let known = words_in c.args.self.now.dictionary.value in
    let first_is : IsNumberOf c.args.self.now c.find-first.result first = c.find-first.ensures known (subst (λ (d : Dictionary). Knows d known) (sym c.deref.ensures) stands.knows) in
    let second_is : IsNumberOf c.args.self.now c.find-second.result second = c.find-second.ensures known (subst (λ (d : Dictionary). Knows d known) (sym c.deref-2.ensures) stands.knows) in
    c.in_ok-kept-2.ensures (has_word first) second c.args.front docs stands second_is (c.places_of-at_first.ensures docs first stands first_is) (c.places_of-at_second.ensures docs second stands second_is)
