-- What it means that a call of the code does what one event over lists does.
-- Assumes nothing.
use Prim.Native.Nat.{ℕ}
use mathlib.Core.Path.{◌≡◌}
use mathlib.Core.List.{[], append-nil}
use lib.Dec.{eqb}
use borrow.Author.Tests.{eqb-true}
use Rattle.frame.proofs.Laws.{pick_cases}
use Rattle.side.specs.Given.{Given, refused, refusing}
use Rattle.delivery.specs.Runs as lists
use Rattle.delivery.specs.Runs.{Logs, log_put, log_confirmed, log_handed, log_taken}
use Rattle.delivery.specs.Exchanges as exchanges
use Rattle.delivery.specs.Exchanges.{Turn}
use Rattle.link.specs.Ends.{rules}

-- the world a becomes b by one event over lists, which begins or ends an exchange as t says
pub record Does (a b : lists.World) (t : Turn) : Type 0 where
  pub event : lists.Event
  pub step : b ≡ lists.step rules a event
  pub turn : exchanges.turn a event ≡ t

module _ {A E : Type 0} where
  -- a call is refused, and gives back the end that it was handed; or it does what it does
  pub refusing_cases : (P : Given A E → Type 0) (n : ℕ) (e : E) (g : Given A E) → ((k : ℕ) → P (refused k e)) → (n ≡ 0 → P g) → P (refusing n e g)
  refusing_cases P n e g stays does = pick_cases P (eqb n 0) g (refused n e) (λ t. does (eqb-true n 0 t)) (λ t. stays n)

-- logging nothing changes no log
pub put_nothing : (l : Logs) → log_put l [] ≡ l
put_nothing l = λ i. record { put = append-nil l.put i; confirmed = l.confirmed; handed = l.handed; taken = l.taken }

pub confirmed_nothing : (l : Logs) → log_confirmed l [] ≡ l
confirmed_nothing l = λ i. record { put = l.put; confirmed = append-nil l.confirmed i; handed = l.handed; taken = l.taken }

pub handed_nothing : (l : Logs) → log_handed l [] ≡ l
handed_nothing l = λ i. record { put = l.put; confirmed = l.confirmed; handed = append-nil l.handed i; taken = l.taken }

pub taken-nothing : (l : Logs) → log_taken l [] ≡ l
taken-nothing l = λ i. record { put = l.put; confirmed = l.confirmed; handed = l.handed; taken = append-nil l.taken i }
