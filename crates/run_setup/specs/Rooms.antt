-- Room that is taken before anything is opened.
use Rattle.std.specs.Prelude.{◌≡◌, ℕ, ◌+◌, ◌≤◌, [], length, vec_capacity, All}
use Rattle.fan_parts.specs.declared.run_name.RunName.{Ghosts}
use Rattle.run_setup.specs.declared.rooms.WorldRoom.{WorldRoom}
use Rattle.run_setup.specs.declared.rooms.SlotRooms.{SlotRooms}
use Rattle.run_setup.specs.declared.rooms.EndRooms.{EndRooms}
use Rattle.run_setup.specs.declared.rooms.Rooms.{Rooms}

module _ {N : Type 0} where
  -- nothing stands there, and there is room for a poster to each of so many bases, and for their ends
  pub record HasWorldRoom (bases : ℕ) (room : WorldRoom N) : Type 0 where
    pub no_posters : room.posters.items ≡ []
    pub no_ends : room.ends.items ≡ []
    pub for_posters : bases ≤ vec_capacity room.posters
    pub for_ends : bases ≤ vec_capacity room.ends

  -- nothing stands there, and there is room for the ends of so many workers and of a helper
  pub record HasEndRooms (workers : ℕ) (rooms : EndRooms N) : Type 0 where
    pub no_ends : rooms.ends.items ≡ []
    pub no_helped : rooms.helped.items ≡ []
    pub for_ends : workers ≤ vec_capacity rooms.ends
    pub for_helped : 1 ≤ vec_capacity rooms.helped

module _ {N : Type 0} {g : Ghosts N} where
  -- nothing stands there, and there is room for the slots of so many workers and bases, and for what is left of the workers' worlds
  pub record HasSlotRooms (workers bases : ℕ) (rooms : SlotRooms N g) : Type 0 where
    pub no_gatherers : rooms.gatherers.items ≡ []
    pub no_workers : rooms.workers.items ≡ []
    pub no_worlds : rooms.worlds.items ≡ []
    pub for_gatherers : bases ≤ vec_capacity rooms.gatherers
    pub for_workers : workers ≤ vec_capacity rooms.workers
    pub for_worlds : workers ≤ vec_capacity rooms.worlds

  -- the room of so many workers, of the front and of so many bases, and nothing stands there
  pub record HasRooms (workers bases : ℕ) (rooms : Rooms N g) : Type 0 where
    pub worlds : length rooms.worlds.items ≡ workers + 1
    pub each_world : All (HasWorldRoom bases) rooms.worlds.items
    pub slots : HasSlotRooms workers bases rooms.slots
    pub ends : HasEndRooms workers rooms.ends
    pub no_notes : rooms.notes.items ≡ []
    pub for_notes : bases ≤ vec_capacity rooms.notes
