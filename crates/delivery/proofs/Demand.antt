-- Demand 3 whole: the four promises put together.
-- Assumes nothing.
use Rattle.delivery.specs.Demand.{Demand}
use Rattle.delivery.proofs.Safe.{safety}
use Rattle.delivery.proofs.Honest.{honesty}
use Rattle.delivery.proofs.Live.{liveness}
use Rattle.delivery.proofs.Sync.{synchronising}

pub demand : Demand
demand r w n es q p es' =
    let s = synchronising r w n es q p in
    record { safe = safety r _ s es'; honest = honesty r _ s es'; live = λ es''. liveness r _ s es' es'' }
