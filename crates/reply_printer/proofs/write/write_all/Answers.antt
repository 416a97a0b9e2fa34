use Rattle.std.proofs.Common.{◌≡◌, List, ℕ, ◌++◌, take, drop, ap, sym, ◌∙◌, append_assoc, take-append-drop}
use Rattle.std.proofs.KnownBytes.{Appends-trans}
use Rattle.reply_printer.proofs.write.write_all.Goals as goal

-- what was written, and the front of the rest behind it
whole_more : (bytes front rest : List ℕ) (n : ℕ) → bytes ≡ front ++ rest → bytes ≡ (front ++ take n rest) ++ drop n rest
whole_more bytes front rest n whole = whole ∙ (ap (λ l. front ++ l) (sym (take-append-drop n rest)) ∙ sym (append_assoc front (take n rest) (drop n rest)))

pub writes-preserved : goal.writes-preserved
writes-preserved g c = record {
  front = c.writes.invariant.front ++ take c.in_ok-n.n c.writes.rest.now;
  whole = whole_more c.args.bytes.now c.writes.invariant.front c.writes.rest.now c.in_ok-n.n c.writes.invariant.whole
      ∙ ap (λ l. (c.writes.invariant.front ++ take c.in_ok-n.n c.writes.rest.now) ++ l) (sym c.split_at.ensures.back);
  gained = Appends-trans _ _ _ c.writes.invariant.front (take c.in_ok-n.n c.writes.rest.now) c.writes.invariant.gained c.in_ok-n.ensures.some.gained;
  sound = c.in_ok-n.ensures.some.sound ∙ c.writes.invariant.sound;
}
