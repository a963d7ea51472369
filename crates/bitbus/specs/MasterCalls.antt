-- The calls from C on a master that lies in bytes: what each gives is what the master's own definition gives of the master that the bytes are.
use Rattle.std.specs.Prelude.{ℕ, List, [], ◌∷◌, Option, None, Some}
use Rattle.side.specs.Given.{Given}
use Rattle.frame.specs.declared.Line.{Line}
use Rattle.side.specs.declared.answer.News.{News}
use Rattle.master.specs.Master.{make_of, put_of, take_of, take_bytes, restart_of, clear_of}
use Rattle.master.specs.Order.{order_of, order_bytes}
use Rattle.master.specs.Response.{Report, brings, silent, response_of, silence_of}
use Rattle.master.specs.declared.Master.{Master}
use Rattle.layout.specs.MasterLayout.{master_at, master_bytes, master_wrong}
use Rattle.bitbus.specs.Call.{news_values, on_end, out_of, written}
use Rattle.layout.specs.Control.{meaning_of}

-- 30 of bytes that are no master; else the call on the master that they are, which is written back unless the call is refused
abbrev pub on_master : {A : Type 0} → List ℕ → (Master → Given A Master) → Given A (List ℕ)
on_master b call = on_end master_wrong master_at master_bytes b call

-- 8, 15
unfoldable pub master_make : List ℕ → ℕ → ℕ → Given (Unit {0}) (List ℕ)
master_make b address limit = written master_bytes b (make_of address limit)

-- 30, 10, 12, 13
unfoldable pub master_put : List ℕ → List ℕ → Given (Unit {0}) (List ℕ)
master_put b message = on_master b (λ (m : Master). put_of m message)

-- 30, 14, 11
unfoldable pub master_take : List ℕ → ℕ → Given ℕ (List ℕ)
master_take b room = on_master b (λ (m : Master). take_of m room)

unfoldable pub master_take_out : List ℕ → List ℕ → List ℕ
master_take_out b out = out_of master_wrong master_at b out (λ (m : Master). take_bytes m out)

-- 30, 17, 11
unfoldable pub master_order : List ℕ → ℕ → ℕ → Given Line (List ℕ)
master_order b tick room = on_master b (λ (m : Master). order_of m tick room)

unfoldable pub master_order_out : List ℕ → ℕ → List ℕ → List ℕ
master_order_out b tick out = out_of master_wrong master_at b out (λ (m : Master). order_bytes m tick out)

-- 30, 16, 9, 10, 12
unfoldable pub master_response : List ℕ → ℕ → ℕ → ℕ → List ℕ → Given Report (List ℕ)
master_response b tick address control information = on_master b (λ (m : Master). response_of m address (meaning_of control) information tick)

-- the values of a response: 1 where it counts as silence, else 0, and what it brought
abbrev pub response_values : Report → List ℕ
response_values (brings n) = 0 ∷ news_values n
response_values silent = 1 ∷ 0 ∷ 0 ∷ 0 ∷ []

-- the same of what the call gives: none where it counts as silence
abbrev pub heard_values : Option News → List ℕ
heard_values (Some n) = response_values (brings n)
heard_values None = response_values silent

-- 30, 16
unfoldable pub master_silence : List ℕ → Given (Unit {0}) (List ℕ)
master_silence b = on_master b silence_of

-- 30
unfoldable pub master_restart : List ℕ → Given (Unit {0}) (List ℕ)
master_restart b = on_master b restart_of

-- 30
unfoldable pub master_clear : List ℕ → Given (Unit {0}) (List ℕ)
master_clear b = on_master b clear_of
