-- The calls from C on a slave that lies in bytes: what each gives is what the slave's own definition gives of the slave that the bytes are.
use Rattle.std.specs.Prelude.{ℕ, List}
use Rattle.side.specs.Given.{Given}
use Rattle.frame.specs.declared.Line.{Line}
use Rattle.side.specs.declared.answer.News.{News}
use Rattle.slave.specs.Slave.{make_of, put_of, take_of, take_bytes, restart_of, clear_of}
use Rattle.slave.specs.Step.{step_of, step_bytes}
use Rattle.slave.specs.declared.Slave.{Slave}
use Rattle.layout.specs.SlaveLayout.{slave_at, slave_bytes, slave_wrong}
use Rattle.bitbus.specs.Call.{on_end, out_of, written}
use Rattle.layout.specs.Control.{meaning_of}

-- 30 of bytes that are no slave; else the call on the slave that they are, which is written back unless the call is refused
abbrev pub on_slave : {A : Type 0} → List ℕ → (Slave → Given A Slave) → Given A (List ℕ)
on_slave b call = on_end slave_wrong slave_at slave_bytes b call

-- 8
unfoldable pub slave_make : List ℕ → ℕ → Given (Unit {0}) (List ℕ)
slave_make b address = written slave_bytes b (make_of address)

-- 30, 10, 12, 13
unfoldable pub slave_put : List ℕ → List ℕ → Given (Unit {0}) (List ℕ)
slave_put b message = on_slave b (λ (s : Slave). put_of s message)

-- 30, 14, 11
unfoldable pub slave_take : List ℕ → ℕ → Given ℕ (List ℕ)
slave_take b room = on_slave b (λ (s : Slave). take_of s room)

unfoldable pub slave_take_out : List ℕ → List ℕ → List ℕ
slave_take_out b out = out_of slave_wrong slave_at b out (λ (s : Slave). take_bytes s out)

-- 30, 11, 9, 10, 12, 19
unfoldable pub slave_step : List ℕ → ℕ → ℕ → List ℕ → ℕ → Given (Line × News) (List ℕ)
slave_step b address control information room = on_slave b (λ (s : Slave). step_of s address (meaning_of control) information room)

unfoldable pub slave_step_out : List ℕ → ℕ → ℕ → List ℕ → List ℕ → List ℕ
slave_step_out b address control information out = out_of slave_wrong slave_at b out (λ (s : Slave). step_bytes s address (meaning_of control) information out)

-- 30
unfoldable pub slave_restart : List ℕ → Given (Unit {0}) (List ℕ)
slave_restart b = on_slave b restart_of

-- 30
unfoldable pub slave_clear : List ℕ → Given (Unit {0}) (List ℕ)
slave_clear b = on_slave b clear_of
