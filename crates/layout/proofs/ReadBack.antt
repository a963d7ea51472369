-- Reading back what was written gives the same end, for every end.
-- Assumes nothing.
use Prim.Native.Nat.{ℕ, suc, ◌+◌, ◌<◌, ◌^◌}
use mathlib.Core.Path.{◌≡◌, refl, sym, ap, ◌∙◌}
use mathlib.Core.Bool.{Bool, true, false}
use mathlib.Core.List.{List, [], ◌∷◌, ◌++◌, append-nil, append_assoc}
use lib.Dec.{eqb, ltb}
use lib.ListN.{length, get_or, take, drop}
use lib.Seq.{take_at, drop_at, get_or-append-add}
use Rattle.side.specs.declared.Side.{Side}
use Rattle.slave.specs.declared.Mode.{Mode}
use Rattle.slave.specs.declared.Mode.TheVariants.{Ndm, Nrm}
use Rattle.slave.specs.declared.Slave.{Slave}
use Rattle.master.specs.declared.Mode.{Mode as MasterMode}
use Rattle.master.specs.declared.Mode.TheVariants.{Disconnecting, Connecting, Linked}
use Rattle.master.specs.declared.Master.{Master}
use Rattle.layout.specs.Layout.{number_at, bytes_of, mark_byte, side_at, side_head, side_bytes, marks_wrong}
use Rattle.layout.specs.SlaveLayout.{slave_mode, slave_mode_byte, slave_at, slave_bytes, slave_wrong}
use Rattle.layout.specs.MasterLayout.{master_mode, master_mode_byte, master_at, master_tail, master_bytes, master_wrong}
use Rattle.layout.specs.Promises.{Typed, ReadBack}
use Rattle.std.specs.Int.{w32, w64, from_le_bytes}
use Rattle.std.proofs.lemmas.Nat.{from_le_bytes-to_le_bytes_4, from_le_bytes-to_le_bytes_8}
use Rattle.layout.proofs.Conversions.{four_at, four_bytes, eight_at, eight_bytes}
use Rattle.layout.proofs.Laying.{side_length}

-- a number by its bytes
four : (n : ℕ) → n < 2 ^ 32 → number_at 4 (bytes_of 4 n) 0 ≡ n
four n h = sym (four_at (bytes_of 4 n) 0) ∙ ap (from_le_bytes w32) (sym (four_bytes n)) ∙ from_le_bytes-to_le_bytes_4 n h

eight : (n : ℕ) → n < 2 ^ 64 → number_at 8 (bytes_of 8 n) 0 ≡ n
eight n h = sym (eight_at (bytes_of 8 n) 0) ∙ ap (from_le_bytes w64) (sym (eight_bytes n)) ∙ from_le_bytes-to_le_bytes_8 n h

-- marks and modes by their bytes
mark_back : (b : Bool) → eqb (mark_byte b) 1 ≡ b
mark_back true = refl
mark_back false = refl

mark_right : (b : Bool) → ltb 1 (mark_byte b) ≡ false
mark_right true = refl
mark_right false = refl

slave_mode_back : (m : Mode) → slave_mode (slave_mode_byte m) ≡ m
slave_mode_back Ndm = refl
slave_mode_back Nrm = refl

slave_mode_right : (m : Mode) → ltb 1 (slave_mode_byte m) ≡ false
slave_mode_right Ndm = refl
slave_mode_right Nrm = refl

master_mode_back : (m : MasterMode) → master_mode (master_mode_byte m) ≡ m
master_mode_back Disconnecting = refl
master_mode_back Connecting = refl
master_mode_back Linked = refl

master_mode_right : (m : MasterMode) → ltb 2 (master_mode_byte m) ≡ false
master_mode_right Disconnecting = refl
master_mode_right Connecting = refl
master_mode_right Linked = refl

-- the two slots
held_back : (held incoming rest : List ℕ) → length held ≡ 253 → take 253 ((held ++ incoming) ++ rest) ≡ held
held_back held incoming rest h = rw append_assoc (take_at held (incoming ++ rest) 253 h)

incoming_back : (held incoming rest : List ℕ) → length held ≡ 253 → length incoming ≡ 253 → take 253 (drop 253 ((held ++ incoming) ++ rest)) ≡ incoming
incoming_back held incoming rest h k = rw (append_assoc, drop_at held (incoming ++ rest) 253 h) (take_at incoming rest 253 k)

-- what both ends hold, behind mode and address and before anything
side_back : (x y : ℕ) (s : Side) (rest : List ℕ) → Typed s → side_at (x ∷ y ∷ (side_bytes s ++ rest)) ≡ s
unfolding side_at side_bytes side_head
side_back x y s rest t =
    λ i. record {
      ns = s.ns;
      nr = s.nr;
      held = held_back s.held s.incoming rest t.arrays.held i;
      holds = eight s.holds t.holds i;
      sent = mark_back s.sent i;
      incoming = incoming_back s.held s.incoming rest t.arrays.held t.arrays.incoming i;
      waits = eight s.waits t.waits i;
      doubt = mark_back s.doubt i;
    }

slave_right : (s : Slave) → slave_wrong (slave_bytes s) ≡ 0
unfolding slave_wrong marks_wrong slave_bytes side_bytes side_head
slave_right s = rw (slave_mode_right s.mode, mark_right s.side.sent, mark_right s.side.doubt)

slave_back : (s : Slave) → Typed s.side → slave_at (slave_bytes s) ≡ s
unfolding slave_at slave_bytes
slave_back s t =
    let side : side_at (slave_mode_byte s.mode ∷ s.address ∷ side_bytes s.side) ≡ s.side =
    ap (λ (l : List ℕ). side_at (slave_mode_byte s.mode ∷ s.address ∷ l)) (sym (append-nil (side_bytes s.side))) ∙ side_back _ _ s.side [] t in
    λ i. record { side = side i; mode = slave_mode_back s.mode i; address = s.address }

-- what a master has behind what both ends hold
tail_at : (x y : ℕ) (l tail : List ℕ) (k : ℕ) → length l ≡ 526 → get_or (x ∷ y ∷ (l ++ tail)) (528 + k) 0 ≡ get_or tail k 0
tail_at x y l tail k h =
    let e : length (x ∷ y ∷ l) ≡ 528 = ap (λ (n : ℕ). suc (suc n)) h in
    rw e at (get_or-append-add (x ∷ y ∷ l) tail k 0)

mode_at : (m : Master) → get_or (master_bytes m) 0 0 ≡ master_mode_byte m.mode
unfolding master_bytes
mode_at m = refl

sent_at : (m : Master) → get_or (master_bytes m) 4 0 ≡ mark_byte m.side.sent
unfolding master_bytes side_bytes side_head
sent_at m = refl

doubt_at : (m : Master) → get_or (master_bytes m) 5 0 ≡ mark_byte m.side.doubt
unfolding master_bytes side_bytes side_head
doubt_at m = refl

module _ (m : Master) (t : Typed m.side) where
  tail : (k : ℕ) → get_or (master_bytes m) (528 + k) 0 ≡ get_or (master_tail m) k 0
  unfolding master_bytes
  tail k = tail_at (master_mode_byte m.mode) m.address (side_bytes m.side) (master_tail m) k (side_length m.side t.arrays.held t.arrays.incoming)

  master_right : master_wrong (master_bytes m) ≡ 0
  unfolding master_wrong marks_wrong master_tail
  master_right =
      rw (
        mode_at m,
        tail 0,
        tail 1,
        sent_at m,
        doubt_at m,
        master_mode_right m.mode,
        mark_right m.busy,
        mark_right m.waiting,
        mark_right m.side.sent,
        mark_right m.side.doubt,
      )

  busy_back : eqb (get_or (master_bytes m) 528 0) 1 ≡ m.busy
  unfolding master_tail
  busy_back = rw (tail 0) (mark_back m.busy)

  waiting_back : eqb (get_or (master_bytes m) 529 0) 1 ≡ m.waiting
  unfolding master_tail
  waiting_back = rw (tail 1) (mark_back m.waiting)

  tick_back : m.tick < 2 ^ 32 → number_at 4 (master_bytes m) 530 ≡ m.tick
  unfolding master_tail
  tick_back h = rw (tail 2, tail 3, tail 4, tail 5) (four m.tick h)

  limit_back : m.limit < 2 ^ 32 → number_at 4 (master_bytes m) 534 ≡ m.limit
  unfolding master_tail
  limit_back h = rw (tail 6, tail 7, tail 8, tail 9) (four m.limit h)

  master_back : m.tick < 2 ^ 32 → m.limit < 2 ^ 32 → master_at (master_bytes m) ≡ m
  unfolding master_at master_bytes
  master_back h k =
      λ i. record {
        side = side_back (master_mode_byte m.mode) m.address m.side (master_tail m) t i;
        mode = master_mode_back m.mode i;
        busy = busy_back i;
        waiting = waiting_back i;
        tick = tick_back h i;
        limit = limit_back k i;
        address = m.address;
      }

pub read_back : ReadBack
read_back =
    record {
      slave = λ s t. (slave_right s, slave_back s t);
      master = λ m t h k. (master_right m t, master_back m t h k);
    }
