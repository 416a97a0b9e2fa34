use Rattle.std.proofs.Common.{length}
use Rattle.fan_base.specs.Parcel.{values_of}
use Rattle.fan_base.proofs.parcel.Parcels.drop.Given as goal

abbrev pub decreases-loop-first : goal.decreases-loop-first
decreases-loop-first g l = length (values_of l.first)
