-- What is promised of this room beside each function's contract. The proofs stand in proofs/Keeps, Said and Numbers.
use Rattle.std.specs.Prelude.{ℕ, ◌<◌, ◌^◌, ◌≡◌, List, [], ◌∷◌, length}
use Rattle.frame.specs.Answer.{gives, Lists}
use Rattle.frame.specs.Control.{decode_of}
use Rattle.frame.specs.Refusal.{address_refusal}
use Rattle.frame.specs.declared.Line.{Line}
use Rattle.side.specs.declared.answer.News.{News}
use Rattle.slave.specs.Slave.{slave_wrong as slave_end_wrong}
use Rattle.master.specs.Master.{master_wrong as master_end_wrong, make_refusal}
use Rattle.layout.specs.SlaveLayout.{slave_at, slave_wrong}
use Rattle.layout.specs.MasterLayout.{master_at, master_wrong}
use Rattle.layout.specs.Control.{control_of}
use Rattle.bitbus.specs.SlaveCalls.{slave_make, slave_put, slave_take, slave_step, slave_restart, slave_clear}
use Rattle.bitbus.specs.MasterCalls.{master_make, master_put, master_take, master_order, master_response, master_silence, master_restart, master_clear}

-- bytes of the size that number 30 finds nothing wrong with
pub record RightSlave (b : List ℕ) : Type 0 where
  pub size : length b ≡ 528
  pub layout : slave_wrong b ≡ 0
  pub end : slave_end_wrong (slave_at b) ≡ 0

-- the same of a master, whose tick is one of 32 bits, as it is in any four bytes
pub record RightMaster (b : List ℕ) : Type 0 where
  pub size : length b ≡ 538
  pub layout : master_wrong b ≡ 0
  pub tick : (master_at b).tick < 2 ^ 32
  pub end : master_end_wrong (master_at b) ≡ 0

-- an accepted making gives right bytes, and right bytes stay right in every call with any arguments: an end that these calls alone have made and changed is never refused by 30
pub record Keeps : Type 0 where
  pub slave_make : (b : List ℕ) (address : ℕ) → address_refusal address ≡ 0 → RightSlave (slave_make b address).end
  pub slave_put : (b message : List ℕ) → RightSlave b → RightSlave (slave_put b message).end
  pub slave_take : (b : List ℕ) (room : ℕ) → RightSlave b → RightSlave (slave_take b room).end
  pub slave_step : (b : List ℕ) (address control : ℕ) (information : List ℕ) (room : ℕ)
      → RightSlave b → RightSlave (slave_step b address control information room).end
  pub slave_restart : (b : List ℕ) → RightSlave b → RightSlave (slave_restart b).end
  pub slave_clear : (b : List ℕ) → RightSlave b → RightSlave (slave_clear b).end
  pub master_make : (b : List ℕ) (address limit : ℕ) → make_refusal address limit ≡ 0 → RightMaster (master_make b address limit).end
  pub master_put : (b message : List ℕ) → RightMaster b → RightMaster (master_put b message).end
  pub master_take : (b : List ℕ) (room : ℕ) → RightMaster b → RightMaster (master_take b room).end
  pub master_order : (b : List ℕ) (tick room : ℕ) → tick < 2 ^ 32 → RightMaster b → RightMaster (master_order b tick room).end
  pub master_response : (b : List ℕ) (tick address control : ℕ) (information : List ℕ)
      → RightMaster b → RightMaster (master_response b tick address control information).end
  pub master_silence : (b : List ℕ) → RightMaster b → RightMaster (master_silence b).end
  pub master_restart : (b : List ℕ) → RightMaster b → RightMaster (master_restart b).end
  pub master_clear : (b : List ℕ) → RightMaster b → RightMaster (master_clear b).end

-- the control byte that a slave step or an order gives stands in the table, for the meaning that it gives
pub record Said : Type 0 where
  pub slave_step : (b : List ℕ) (address control : ℕ) (information : List ℕ) (room : ℕ) (v : Line × News)
      → (slave_step b address control information room).answer ≡ gives v → decode_of (control_of v.0.meaning) ≡ gives v.0.meaning
  pub master_order : (b : List ℕ) (tick room : ℕ) (l : Line)
      → (master_order b tick room).answer ≡ gives l → decode_of (control_of l.meaning) ≡ gives l.meaning

-- "A number outside a call's list is not given by that call."
pub record Numbers : Type 0 where
  pub slave_make : (b : List ℕ) (address : ℕ) → Lists (8 ∷ []) (slave_make b address).answer
  pub slave_put : (b message : List ℕ) → Lists (30 ∷ 10 ∷ 12 ∷ 13 ∷ []) (slave_put b message).answer
  pub slave_take : (b : List ℕ) (room : ℕ) → Lists (30 ∷ 14 ∷ 11 ∷ []) (slave_take b room).answer
  pub slave_step : (b : List ℕ) (address control : ℕ) (information : List ℕ) (room : ℕ)
      → Lists (30 ∷ 11 ∷ 9 ∷ 10 ∷ 12 ∷ 19 ∷ []) (slave_step b address control information room).answer
  pub slave_restart : (b : List ℕ) → Lists (30 ∷ []) (slave_restart b).answer
  pub slave_clear : (b : List ℕ) → Lists (30 ∷ []) (slave_clear b).answer
  pub master_make : (b : List ℕ) (address limit : ℕ) → Lists (8 ∷ 15 ∷ []) (master_make b address limit).answer
  pub master_put : (b message : List ℕ) → Lists (30 ∷ 10 ∷ 12 ∷ 13 ∷ []) (master_put b message).answer
  pub master_take : (b : List ℕ) (room : ℕ) → Lists (30 ∷ 14 ∷ 11 ∷ []) (master_take b room).answer
  pub master_order : (b : List ℕ) (tick room : ℕ) → Lists (30 ∷ 17 ∷ 11 ∷ []) (master_order b tick room).answer
  pub master_response : (b : List ℕ) (tick address control : ℕ) (information : List ℕ)
      → Lists (30 ∷ 16 ∷ 9 ∷ 10 ∷ 12 ∷ []) (master_response b tick address control information).answer
  pub master_silence : (b : List ℕ) → Lists (30 ∷ 16 ∷ []) (master_silence b).answer
  pub master_restart : (b : List ℕ) → Lists (30 ∷ []) (master_restart b).answer
  pub master_clear : (b : List ℕ) → Lists (30 ∷ []) (master_clear b).answer
