-- The exchanges of a run, and which of them come through whole.
use Rattle.std.specs.Prelude.{Bool, true, false, cond, ◌&&◌, List, [], ◌∷◌}
use Rattle.delivery.specs.Link.{Rules}
use Rattle.delivery.specs.Runs.{Line, quiet, asks, answers, World, Event, master_owner, slave_owner, order, arrives, lost, hears, silent, refused, step}

-- 01, "Late or strange responses": an exchange "begins with its order and has come through whole when the slave step answered and the master
-- took the response in time". An order and a response that are refused do neither.
pub data Turn : Type 0 where
  begins ends neither : Turn

abbrev pub is_response : Line → Bool
is_response quiet = false
is_response (asks f) = false
is_response (answers f) = true

abbrev pub turn : World → Event → Turn
turn w (master_owner c) = neither
turn w (slave_owner c) = neither
turn w order = cond w.master.waiting neither begins
turn w arrives = neither
turn w lost = neither
turn w hears = cond (w.master.waiting && is_response w.line) ends neither
turn w silent = neither
turn w refused = neither

-- The exchange under way: begun before the run that is looked at, so not counted; or begun in it, at the world named.
pub data Under : Type 0 where
  uncounted : Under
  begun : World → Under

abbrev pub under : Turn → World → Under → Under
under begins w u = begun w
under ends w u = uncounted
under neither w u = u

-- One more whole exchange, if a counted one ends.
abbrev pub counted : Turn → Under → List World → List World
counted begins u ws = ws
counted ends uncounted ws = ws
counted ends (begun v) ws = v ∷ ws
counted neither u ws = ws

module _ (r : Rules) where
  -- The exchanges begun in a run that come through whole in it: of each the world that it began in, the earliest first.
  abbrev pub wholes : Under → World → List Event → List World
  wholes u w [] = []
  wholes u w (e ∷ es) = counted (turn w e) u (wholes (under (turn w e) w u) (step r w e) es)
