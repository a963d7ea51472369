-- `nrzi::code` meets its contract.
use mathlib.Core.Path.{sym}
use Rattle.nrzi.proofs.Laid.{taken}
use Rattle.nrzi.proofs.code.Goals as goal

pub lay-requires : goal.lay-requires
lay-requires g c = let fits = taken _ _ _ (sym c.in_ok-nrzi_refusal.ensures) in (fits.1, fits.2)
