use Rattle.std.proofs.Common.{◌≡◌, ◌++◌, reverse, length}
use Rattle.fan_base.proofs.parcel.Parcels.reversed.Given as goal

abbrev pub invariant-loop-parcel : goal.invariant-loop-parcel
invariant-loop-parcel g l = reverse l.self ++ l.turned ≡ reverse l.initial.self

abbrev pub decreases-loop-parcel : goal.decreases-loop-parcel
decreases-loop-parcel g l = length l.self
