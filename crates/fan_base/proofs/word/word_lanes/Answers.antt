use Rattle.std.proofs.Common.{ℕ, ltb, cond, bit_or, bit_and, take, refl}
use Rattle.std.proofs.lemmas.List.{length-take-le}
use Rattle.std.proofs.lemmas.Simd.{zip2_splat}
use Rattle.fan_base.proofs.Lanes.{joined, from_splat, first_marked, none_marked}
use Rattle.fan_base.proofs.word.word_lanes.Goals as goal

pub returns-then-marks-eq0 : goal.returns-then-marks-eq0
returns-then-marks-eq0 c =
    let v = take 16 c.args.bytes.now in
    let long = length-take-le 16 c.args.bytes.now c.requires in
    none_marked c.args.bytes.now c.requires c.type_inv.bytes _ _
    (joined bit_and _ _ v (joined bit_or _ _ v (zip2_splat {Y = ℕ} _ v 16 97 long) (from_splat (λ a b. cond (ltb a b) 255 0) v 16 122 long))
    (joined bit_or _ _ v (zip2_splat {Y = ℕ} _ v 16 48 long) (from_splat (λ a b. cond (ltb a b) 255 0) v 16 57 long))) refl c.if-marks-eq0.true

pub returns-else-marks-eq0 : goal.returns-else-marks-eq0
returns-else-marks-eq0 c =
    let v = take 16 c.args.bytes.now in
    let long = length-take-le 16 c.args.bytes.now c.requires in
    first_marked c.args.bytes.now c.requires c.type_inv.bytes _ _
    (joined bit_and _ _ v (joined bit_or _ _ v (zip2_splat {Y = ℕ} _ v 16 97 long) (from_splat (λ a b. cond (ltb a b) 255 0) v 16 122 long))
    (joined bit_or _ _ v (zip2_splat {Y = ℕ} _ v 16 48 long) (from_splat (λ a b. cond (ltb a b) 255 0) v 16 57 long))) refl c.if-marks-eq0.false
