-- The passes and ends of a pool.
use Rattle.std.specs.Prelude.{◌≡◌, List, [], ◌∷◌, None, All}
use Rattle.pool_model.specs.declared.task.Entry.{Entry}
use Rattle.pool_model.specs.Records.{Record}
use Rattle.pool_model.specs.Seen.{PassSeen, EndSeen}
use Rattle.prio_pool.specs.declared.passes.PoolPass.TheInside.{Inside}
use Rattle.prio_pool.specs.Takers.{TakersSeen}
use Rattle.task_queue.specs.Marks.{OpenSeen}

-- nothing was popped yet
pub record TookNothing (t : TakersSeen) : Type 0 where
  pub none : All (λ (entries : List Entry). entries ≡ []) t.popped
  pub looks : t.looks ≡ []
  pub found : t.found ≡ None

abbrev pub end_seen : TakersSeen → List Record → EndSeen
end_seen t records = record { pool = t.pool; number = t.number; records = records; popped = t.popped; looks = t.looks; found = t.found }

abbrev pub no_pass : OpenSeen → PassSeen
no_pass o = record { pool = record { queues = []; passes = 0; mark = o.mark }; number = 0; pushed = [] }

abbrev pub first_pass : OpenSeen → List PassSeen → PassSeen
first_pass o [] = no_pass o
first_pass o (p ∷ ps) = p

module _ {J : Type 0} where
  abbrev pub pass_seen : Inside J → PassSeen
  pass_seen p = first_pass p.seat p.adders

  -- one adder, and one part of the mark of its pool
  pub record IsPass (p : Inside J) : Type 0 where
    pub pass : PassSeen
    pub one : p.adders ≡ pass ∷ []
    pub mark : p.seat.mark ≡ pass.pool.mark
    pub part : p.seat.parts ≡ 1
