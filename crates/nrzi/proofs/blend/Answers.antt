-- `nrzi::blend` meets its contract.
use native.Mathlib.Omega.{arith}
use Rattle.nrzi.proofs.Levels.{power, kept, blend_fits}
use Rattle.nrzi.proofs.blend.Goals as goal

pub overflow_add-result : goal.overflow_add-result
overflow_add-result c =
    let a = c.args in
    let old = c.ranges.old.fits in
    rw (power a.fresh a.old a.n c.requires) (record { fits = omega (arith, kept a.fresh a.old a.n c.requires old, blend_fits a.fresh a.old a.n c.requires old) })
