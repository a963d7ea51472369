-- What holds of the arrays of a master and of its tick holds of them after every call, where laying a message over an array keeps it.
-- Assumes nothing.
use Rattle.std.proofs.Common.{ℕ, List}
use Rattle.frame.specs.declared.Meaning.{Meaning}
use Rattle.frame.proofs.Laws.{pick_both}
use Rattle.side.specs.Given.{Given}
use Rattle.side.specs.Side.{Slots}
use Rattle.side.specs.Rule.{count_rule}
use Rattle.side.specs.declared.Side.{Side}
use Rattle.std.specs.Prelude.{Option, None, Some}
use Rattle.side.specs.declared.rule.Accepted.{Accepted}
use Rattle.side.proofs.Calls.{refusing_keeps}
use Rattle.side.proofs.Slots.{Lays, put_slots, take_slots, cleared_slots, restarted_slots, synchronised_slots, rule_slots, says_slots}
use Rattle.master.specs.Master.{master_wrong, outer_wrong, put_of, take_of, restart_of, clear_of}
use Rattle.master.specs.Order.{order_refusal, may_inform, in_linked, orders_in, orders, order_of}
use Rattle.master.specs.Response.{silence_refusal, response_refusal, counts_as_silence, is_ua, accepts, hear_disconnecting, hear_connecting, on_heard, hear_linked, hears_in, hears, response_of, silence_of, Report}
use Rattle.master.specs.declared.Mode.{Mode}
use Rattle.master.specs.declared.Mode.TheVariants.{Disconnecting, Connecting, Linked}
use Rattle.master.specs.declared.Master.{Master}
use Rattle.master.specs.declared.response.Brought.{Brought}

-- what holds of the arrays, and of the tick of the order that waits
pub record Holds (H J : List ℕ → Type 0) (T : ℕ → Type 0) (m : Master) : Type 0 where
  pub slots : Slots H J m.side
  pub tick : T m.tick

module _ {H J : List ℕ → Type 0} {T : ℕ → Type 0} where
  pub master_put_lem : (m : Master) (k : List ℕ) → Lays H k → Holds H J T m → Holds H J T (put_of m k).end
  unfolding put_of
  master_put_lem m k lays a =
      refusing_keeps (Holds H J T) (outer_wrong m.address m.limit) m _ a (λ z. record { slots = put_slots m.side k lays a.slots; tick = a.tick })

  pub master-take : (m : Master) (room : ℕ) → Holds H J T m → Holds H J T (take_of m room).end
  unfolding take_of
  master-take m room a =
      refusing_keeps (Holds H J T) (outer_wrong m.address m.limit) m _ a (λ z. record { slots = take_slots m.side room a.slots; tick = a.tick })

  orders_hold : (q : Mode) (m : Master) (tick : ℕ) → T tick → Holds H J T m → Holds H J T (orders_in q m tick).master
  unfolding in_linked
  orders_hold Disconnecting m tick t a = record { slots = a.slots; tick = t }
  orders_hold Connecting m tick t a = record { slots = a.slots; tick = t }
  orders_hold Linked m tick t a = record { slots = says_slots (may_inform m) m.side a.slots; tick = t }

  pub master-order : (m : Master) (tick room : ℕ) → T tick → Holds H J T m → Holds H J T (order_of m tick room).end
  unfolding order_of orders
  master-order m tick room t a = refusing_keeps (Holds H J T) (order_refusal m room) m _ a (λ z. orders_hold m.mode m tick t a)

  heard-holds : (m : Master) (f : Meaning) (t : Side) (h : Option Accepted) → Holds H J T m → Slots H J t → Holds H J T (on_heard m f t h).master
  unfolding accepts
  heard-holds m f t None a b = record { slots = a.slots; tick = a.tick }
  heard-holds m f t (Some j) a b = record { slots = b; tick = a.tick }

  hears_hold : (q : Mode) (m : Master) (f : Meaning) (k : List ℕ) → Lays J k → Holds H J T m → Holds H J T (hears_in q m f k).master
  unfolding hear_disconnecting hear_connecting hear_linked
  hears_hold Disconnecting m f k lays a =
      pick_both (λ (x : Brought). Holds H J T x.master) (is_ua f) _ _ (record { slots = a.slots; tick = a.tick }) (record { slots = a.slots; tick = a.tick })
  hears_hold Connecting m f k lays a =
      pick_both (λ (x : Brought). Holds H J T x.master) (is_ua f) _ _
      (record { slots = synchronised_slots m.side a.slots; tick = a.tick }) (record { slots = a.slots; tick = a.tick })
  hears_hold Linked m f k lays a =
      heard-holds m f (count_rule m.side f k).side (count_rule m.side f k).heard a (rule_slots m.side f k lays a.slots)

  pub master_response_lem : (m : Master) (n : ℕ) (f : Meaning) (k : List ℕ) (tick : ℕ) → Lays J k → Holds H J T m → Holds H J T (response_of m n f k tick).end
  unfolding response_of hears
  master_response_lem m n f k tick lays a =
      refusing_keeps (Holds H J T) (response_refusal m f k) m _ a
      (λ z. pick_both (λ (g : Given Report Master). Holds H J T g.end) (counts_as_silence m n tick) _ _
      (record { slots = a.slots; tick = a.tick }) (hears_hold m.mode m f k lays a))

  pub master-silence : (m : Master) → Holds H J T m → Holds H J T (silence_of m).end
  unfolding silence_of
  master-silence m a = refusing_keeps (Holds H J T) (silence_refusal m) m _ a (λ z. record { slots = a.slots; tick = a.tick })

  pub master_restart_lem : (m : Master) → T 0 → Holds H J T m → Holds H J T (restart_of m).end
  unfolding restart_of
  master_restart_lem m t a = refusing_keeps (Holds H J T) (master_wrong m) m _ a (λ z. record { slots = restarted_slots m.side a.slots; tick = t })

  pub master_clear_lem : (m : Master) → Holds H J T m → Holds H J T (clear_of m).end
  unfolding clear_of
  master_clear_lem m a = refusing_keeps (Holds H J T) (master_wrong m) m _ a (λ z. record { slots = cleared_slots m.side a.slots; tick = a.tick })
