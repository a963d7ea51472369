-- The exchanges of a run of the code's calls, and which of them come through whole.
use Rattle.std.specs.Prelude.{ℕ, List, [], ◌∷◌, length}
use Rattle.frame.specs.Answer.{Answer, gives, refuses}
use Rattle.frame.specs.declared.Line.{Line}
use Rattle.master.specs.Order.{order_of}
use Rattle.master.specs.Response.{Report, brings, silent, response_of}
use Rattle.master.specs.declared.Master.{Master}
use Rattle.delivery.specs.Runs as lists
use Rattle.delivery.specs.Exchanges.{Turn, begins, ends, neither, Under, under, counted}
use Rattle.link.specs.Runs.{OnLine, quiet, asks, answers, World, Event, master_put, slave_put, master_take, slave_take, master_clear, slave_clear, order, arrives, hears, lost, foreign, overhears, silence, step, over_lists}

-- 01, "Late or strange responses": an exchange "begins with its order", one that is not refused,
abbrev pub beginning : Answer Line → Turn
beginning (gives l) = begins
beginning (refuses n) = neither

-- and "has come through whole when the slave step answered and the master took the response in time": the response is the step's, and it was
-- neither refused nor counted as silence.
abbrev pub ending : Answer Report → Turn
ending (gives (brings n)) = ends
ending (gives silent) = neither
ending (refuses n) = neither

abbrev pub hearing : Master → OnLine → ℕ → Turn
hearing m quiet tick = neither
hearing m (asks c) tick = neither
hearing m (answers c) tick = ending (response_of m c.address c.meaning c.information tick).answer

abbrev pub turn : World → Event → Turn
turn w (master_put m) = neither
turn w (slave_put m) = neither
turn w (master_take out) = neither
turn w (slave_take out) = neither
turn w master_clear = neither
turn w slave_clear = neither
turn w (order tick out) = beginning (order_of w.master tick (length out)).answer
turn w (arrives out) = neither
turn w (hears tick) = hearing w.master w.line tick
turn w lost = neither
turn w (foreign a f k tick) = neither
turn w (overhears a f k out) = neither
turn w silence = neither

-- The exchanges begun in a run that come through whole in it: of each the world that it began in, the earliest first.
abbrev pub wholes : Under → World → List Event → List lists.World
wholes u w [] = []
wholes u w (e ∷ es) = counted (turn w e) u (wholes (under (turn w e) (over_lists w) u) (step w e) es)
