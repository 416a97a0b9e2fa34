-- What the passes of the ruled queue stand for.
use Rattle.std.specs.Prelude.{◌≡◌, ◌^◌, ◌≤◌, [], length, Option, None}
use Rattle.std.specs.declared.alloc.Global.{Global}
use Rattle.atomic_blocks.specs.declared.web.Seat.{Seat}
use Rattle.crossbeam_queue.specs.declared.seg_queue.Going.{Going}
use Rattle.pool_model.specs.Tickets.{Ascend, tickets_of}
use Rattle.task_queue.specs.declared.rule.Queued.{Queued}
use Rattle.task_queue.specs.declared.view.View.{View}
use Rattle.task_queue.specs.Seen.{MakerSeen, AdderSeen, TakerSeen, GatheredSeen}
use Rattle.task_queue.specs.Views.{making, adding, taking, gathered}

abbrev pub Pass : Type 0 → Type 0
Pass J = Seat (Option (Queued J)) (Going (Queued J) View) Global

module _ {J : Type 0} where
  -- the pass carries nothing
  pub record IsFree (p : Pass J) : Type 0 where
    pub hand : p.me.hand ≡ None
    pub spare : p.me.spare ≡ None

  abbrev pub maker_of : Pass J → MakerSeen
  maker_of p = record { queue = record { web = p.web; heap = p.heap }; passes = p.me.view.client.whole; left = p.me.view.client.parts; adders = p.me.view.client.adders; takers = p.me.view.client.takers }

  pub record IsMaker (p : Pass J) : Type 0 where
    pub free : IsFree p
    pub first : p.id ≡ 0
    pub knows : p.me.view.client ≡ making p.me.view.client.parts p.me.view.client.whole p.me.view.client.adders p.me.view.client.takers

  abbrev pub adder_of : Pass J → AdderSeen
  adder_of p = record { queue = record { web = p.web; heap = p.heap }; passes = p.me.view.client.whole; number = p.me.view.client.number; pushed = p.me.view.client.pushed }

  pub record IsAdder (p : Pass J) : Type 0 where
    pub free : IsFree p
    pub knows : p.me.view.client ≡ adding p.me.view.client.whole p.me.view.client.number p.me.view.client.pushed

  abbrev pub looked_by : Pass J → TakerSeen
  looked_by p = record { queue = record { web = p.web; heap = p.heap }; passes = p.me.view.client.whole; number = p.me.view.client.number; popped = p.me.view.client.popped }

  pub record IsTaker (p : Pass J) : Type 0 where
    pub free : IsFree p
    pub knows : p.me.view.client ≡ taking p.me.view.client.whole p.me.view.client.number p.me.view.client.popped
    pub ascend : Ascend (tickets_of p.me.view.client.popped)
    pub short : length p.me.view.client.popped ≤ 2 ^ 38

  abbrev pub gathered_of : Pass J → GatheredSeen
  gathered_of p = record { queue = record { web = p.web; heap = p.heap }; passes = p.me.view.client.whole; here = p.me.view.client.parts; added = p.me.view.client.added; taken = p.me.view.client.taken }

  pub record IsGathered (p : Pass J) : Type 0 where
    pub free : IsFree p
    pub knows : p.me.view.client ≡ gathered p.me.view.client.parts p.me.view.client.whole p.me.view.client.added p.me.view.client.taken []
